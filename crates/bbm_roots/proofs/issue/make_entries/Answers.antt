use Rattle.bbm_roots.proofs.Common.{tag_equal, ◌≡◌, take, arith, ap, sym, ◌∙◌, ◌&&◌, ◌||◌, Bool, true, list_any}
use Rattle.bbm_roots.proofs.Common.{or_left, or_right, take_all, Tag, takes_whole_tag, has_wait, same_tag, tag_with}
use Rattle.bbm_roots.proofs.Tests.{any-next, or-split}
use Rattle.bbm_roots.proofs.Entries.{held-among, is_key_of}
use Rattle.bbm_roots.proofs.issue.make_entries.Goals as goal

pub returns-clause-made : goal.returns-clause-made
returns-clause-made c = λ g p kept takes.
    let all = c.tag_keys-key-items.result.now in
    let whole : take c.loop-key.key-index all ≡ all = take_all c.loop-key.key-index all (omega arith) in
    c.loop-key.invariant.made g
    (ap (list_any (is_key_of g)) (whole ∙ c.tag_keys-key-items.ensures) ∙ held-among c.args.holds.now g p kept) takes

pub loop-key-preserved : goal.loop-key-preserved
loop-key-preserved c =
    let all = c.tag_keys-key-items.result.now in
    let i = c.loop-key.key-index in
    let x = c.key-item.result in
    let before = c.loop-key.waits in
    let taken = takes_whole_tag c.args.scope.now c.args.vmid in
    record {
      same = λ g p. c.in_ok-make_taken.ensures.same g p ∙ c.loop-key.invariant.same g p;
      made = λ g among takes.
          c.in_ok-make_taken.ensures.made g
          ∙ ap (λ (t : Tag). has_wait before g || (taken t && same_tag t g)) c.tag.ensures
          ∙ or-split (list_any (is_key_of g) (take i all)) (is_key_of g x)
          ((has_wait before g || (taken (tag_with x) && same_tag (tag_with x) g)) ≡ true)
          (λ k. or_left (has_wait before g) (taken (tag_with x) && same_tag (tag_with x) g) (c.loop-key.invariant.made g k takes))
          (λ k. or_right (has_wait before g) (taken (tag_with x) && same_tag (tag_with x) g)
          (ap (λ (b : Bool). taken (tag_with x) && b) k ∙ ap (λ (t : Tag). taken t && true) (tag_equal (tag_with x) g k)
          ∙ ap (λ (b : Bool). b && true) takes))
          (sym (any-next (is_key_of g) all i x (omega arith) c.key-item.is) ∙ among);
    }
