use Rattle.bbm_roots.proofs.Common.{◌+◌, ℕ, refl, arith, sym, ◌∙◌, ◌||◌, false≢true, or-false, Many, tag_in, Held}
use Rattle.bbm_roots.proofs.Entries.{shows, shows_before, shown, shown-front, shown-next}
use Rattle.bbm_roots.proofs.Tests.{tags-same, tags-more}
use Rattle.bbm_roots.proofs.search.tags_in.Goals as goal
use Rattle.bbm_roots.proofs.search.tags_in.Goals.{in-Some+in-Some-with_entry+else-is_many}
use Rattle.bbm_roots.proofs.search.tags_in.Goals.{in-Some+in_default-with_entry, in_default}

pub loop-index-preserved : goal.loop-index-preserved
loop-index-preserved c =
    let n = c.args.n in
    let root = c.args.root in
    let holds = c.args.holds.now in
    let i = c.loop-index.index in
    elim c.match-get_index.branch [
      | in-Some+in-Some-with_entry+else-is_many w ↦
          let e : ℕ × Held = (w.in-Some.key.now, w.in-Some.held.now) in
          rw w.tags-is (tags-same _ _ (shown-next n root holds i e (omega arith) (sym w.in-Some.ensures.entry)) _
          (w.in-Some-with_entry.ensures.added (shows_before n root holds i) c.loop-index.invariant))
      | in-Some+in_default-with_entry w ↦
          let e : ℕ × Held = (w.in-Some.key.now, w.in-Some.held.now) in
          let more = shown-next n root holds i e (omega arith) (sym w.in-Some.ensures.entry) in
          rw w.tags-is (tags-same (shows_before n root holds i) _
          (λ g. more g ∙ rw (w.in_default-with_entry.ensures.none refl g) (or-false _)) _ c.loop-index.invariant)
      | in_default w ↦ absurd (false≢true (w.in_default.ensures.found.1 (omega arith)))
    ]

pub returns-then-is_many : goal.returns-then-is_many
returns-then-is_many c =
    let n = c.args.n in
    let root = c.args.root in
    let holds = c.args.holds.now in
    let i = c.loop-index.index in
    let e : ℕ × Held = (c.in-Some.key.now, c.in-Some.held.now) in
    tags-more (shows_before n root holds (i + 1)) (λ g. tag_in holds n g root)
    (shown-front n root holds (i + 1) c.len-index-end.ensures.unique)
    (tags-same (λ g. shows_before n root holds i g || shows n root g e) _
    (shown-next n root holds i e (omega arith) (sym c.in-Some.ensures.entry)) Many
    (rw (c.is_many.ensures c.if-is_many.true) at
    (c.in-Some-with_entry.ensures.added (shows_before n root holds i) c.loop-index.invariant)))

pub returns : goal.returns
returns c =
    tags-same _ _ (shown c.args.n c.args.root c.args.holds.now c.loop-index.index c.len-index-end.ensures.unique (omega arith))
    _ c.loop-index.invariant
