use Rattle.bbm_roots.proofs.Common.{◌∙◌, ℕ, arith, sym, ap, false≢true, get_or_from_slice_get, list_any, take, take_all, Tag}
use Rattle.bbm_roots.proofs.Entries.{leaves-same, left-under}
use Rattle.bbm_roots.proofs.TagLists.{is_keyed, some-lookup}
use Rattle.bbm_roots.proofs.Tests.{any-next}
use Rattle.bbm_roots.proofs.hold.leave_each.Goals as goal
use Rattle.bbm_roots.proofs.hold.leave_each.Goals.{in-Some, in_default}

pub loop-index-preserved : goal.loop-index-preserved
loop-index-preserved c =
    let i = c.loop-index.index in
    let all = c.args.tags.now.entries in
    elim c.match-get_index.branch [
      | in-Some w ↦
          let e : ℕ × Tag = (w.in-Some.key.now, w.in-Some._tag.now) in
          rw w.holds-is (leaves-same _ _ c.args.root _ _
          (λ g. any-next (is_keyed g) all i e (omega arith) (sym (get_or_from_slice_get all i e e (sym w.in-Some.ensures.entry))))
          (left-under _ _ _ c.args.root w.in-Some.key.now (λ g. list_any (is_keyed g) (take i all)) c.loop-index.invariant
          w.leave_under.ensures.others w.leave_under.ensures.held w.leave_under.ensures.left))
      | in_default w ↦ absurd (false≢true (w.in_default.ensures.found.1 (omega arith)))
    ]

pub returns : goal.returns
returns c =
    let all = c.args.tags.now.entries in
    leaves-same _ _ c.args.root _ _
    (λ g. some-lookup _ all ∙ sym (ap (list_any (is_keyed g)) (take_all c.loop-index.index all (omega arith))))
    c.loop-index.invariant
