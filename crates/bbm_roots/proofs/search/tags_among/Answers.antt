use Rattle.bbm_roots.proofs.Common.{◌+◌, ℕ, Bool, refl, arith, sym, ap, ◌∙◌, ◌||◌, false≢true, or-false, take, take_all}
use Rattle.bbm_roots.proofs.Common.{list_any, Tag, Many, tag_in}
use Rattle.bbm_roots.proofs.Tests.{tags-same, tags-more, any-front}
use Rattle.bbm_roots.proofs.TagLists.{shows_tag, tag-next, all-shown}
use Rattle.bbm_roots.proofs.search.tags_among.Goals as goal
use Rattle.bbm_roots.proofs.search.tags_among.Goals.{in-Some+in-Some-with_key+else-is_many, in-Some+in_default-with_key}
use Rattle.bbm_roots.proofs.search.tags_among.Goals.{in_default}

pub loop-index-preserved : goal.loop-index-preserved
loop-index-preserved c =
    let i = c.loop-index.index in
    let all = c.args.tags.now.entries in
    let front : Tag → Bool = λ g. list_any (shows_tag c.args.holds.now c.args.n c.args.root g) (take i all) in
    let next = tag-next c.args.holds.now c.args.n c.args.root all i in
    elim c.match-get_index.branch [
      | in-Some+in-Some-with_key+else-is_many w ↦
          let e : ℕ × Tag = (w.in-Some.key.now, w.in-Some._tag.now) in
          rw w.found-is (tags-same _ _ (next e (omega arith) (sym w.in-Some.ensures.entry)) _
          (w.in-Some-with_key.ensures.added front c.loop-index.invariant))
      | in-Some+in_default-with_key w ↦
          let e : ℕ × Tag = (w.in-Some.key.now, w.in-Some._tag.now) in
          let more = next e (omega arith) (sym w.in-Some.ensures.entry) in
          rw w.found-is (tags-same front _
          (λ g. more g ∙ rw (w.in_default-with_key.ensures.none refl g) (or-false _)) _ c.loop-index.invariant)
      | in_default w ↦ absurd (false≢true (w.in_default.ensures.found.1 (omega arith)))
    ]

pub returns-then-is_many : goal.returns-then-is_many
returns-then-is_many c =
    let i = c.loop-index.index in
    let all = c.args.tags.now.entries in
    let hs = c.args.holds.now in
    let shows : Tag → ℕ × Tag → Bool = shows_tag hs c.args.n c.args.root in
    let front : ℕ → Tag → Bool = λ k g. list_any (shows g) (take k all) in
    let e : ℕ × Tag = (c.in-Some.key.now, c.in-Some._tag.now) in
    tags-more (front (i + 1)) (λ g. tag_in hs c.args.n g c.args.root)
    (λ g shown. all-shown hs c.args.n c.args.root g all (c.requires g) ∙ any-front (shows g) (i + 1) all shown)
    (tags-same (λ g. front i g || shows g e) (front (i + 1))
    (tag-next hs c.args.n c.args.root all i e (omega arith) (sym c.in-Some.ensures.entry)) Many
    (rw (c.is_many.ensures c.if-is_many.true) at (c.in-Some-with_key.ensures.added (front i) c.loop-index.invariant)))

pub returns : goal.returns
returns c =
    let all = c.args.tags.now.entries in
    let hs = c.args.holds.now in
    tags-same _ (λ g. tag_in hs c.args.n g c.args.root)
    (λ g. all-shown hs c.args.n c.args.root g all (c.requires g)
    ∙ sym (ap (list_any (shows_tag hs c.args.n c.args.root g)) (take_all c.loop-index.index all (omega arith))))
    _ c.loop-index.invariant
