-- A node of a tree is still in its tree after a DSB where none of the places above it is cleansed at every PE by it, and
-- no table is emptied.
use Rattle.bbm_certify.proofs.Common.{Known}
use Rattle.bbm_rules.proofs.Common.{◌≡◌, ℕ, ◌&&◌, ◌||◌, Bool, true, false, cond, List, ◌∷◌, Option, Some, None, is_some}
use Rattle.bbm_rules.proofs.Common.{option_and_then, Contains, refl, sym, ◌∙◌, ap, subst, true≢false, keeps, Patterns}
use Rattle.bbm_rules.proofs.Common.{note, noted, ValidWrite, cleansed_everywhere, held, last_valid, later, Noted, Barrier}
use Rattle.bbm_rules.proofs.Common.{Heading, Event, Dsb, Above, Node, IsNode, contains_none}
use Rattle.bbm_rules.specs.Held.{emptied, emptied_in, empties_tables}
use Rattle.bbm_rules.specs.Tree.{tree}
use Rattle.bbm_histories.specs.TreeChanges.{StillHeld}
use Rattle.bbm_histories.proofs.TreeAfter.{held_above}
use Rattle.bbm_alike.specs.Alike.{Unswept}

module _ (heading : Heading) (known : Known heading) (h : List Event) where
  abbrev before : List Noted
  before = noted heading Patterns h

  -- the places above a node of a tree hold something
  holding_above : (n : Node) → Contains (tree heading Patterns before) n → StillHeld heading Patterns before n
  holding_above n there =
      let k : IsNode heading Patterns before n = known.tree.sound before n there in
      let begin = known.root_pages.fields k.root k.start k.is_start in
      held_above heading Patterns before k.places k.start n k.down
      (λ a c. absurd (contains_none a (subst (λ (xs : List Above). Contains xs a) begin.3 c)))

  module _ (q : ℕ) (dsb : Barrier) (kept : keeps heading Patterns (Dsb q dsb ∷ h) ≡ true)
      (never : empties_tables heading.version ≡ false) where
    abbrev newest : Noted
    newest = note heading Patterns before (Dsb q dsb)

    pub unswept_stays : (n : Node) → Contains (tree heading Patterns before) n → Unswept heading Patterns h (Dsb q dsb) n
        → Contains (tree heading Patterns (noted heading Patterns (Dsb q dsb ∷ h))) n
    unswept_stays n there free =
        (known.tree_step.dsb h q dsb kept n).1 (
          there,
          λ up i.
              still up (free up i) (last_valid n.kind up.level up.place before) refl (holding_above n there up i),
        )
      where
        -- what the place holds by its last valid write
        by_last : Bool → Above → (ValidWrite → List Noted) → Option ValidWrite → Bool
        by_last gone up since o = is_some
            (option_and_then (λ w. cond (gone || cleansed_everywhere heading Patterns up.place (since w)) None (Some w.value)) o)

        still : (up : Above) → ((w : ValidWrite) → last_valid n.kind up.level up.place before ≡ Some w
            → cleansed_everywhere heading Patterns up.place (newest ∷ w.since) ≡ false)
            → (o : Option ValidWrite) → last_valid n.kind up.level up.place before ≡ o
            → is_some (held heading Patterns n.kind up.level up.place before) ≡ true
            → is_some (held heading Patterns n.kind up.level up.place (newest ∷ before)) ≡ true
        still up free None none some =
            absurd (true≢false (sym some
            ∙ ap (by_last (emptied heading Patterns n.kind up.level up.place before) up (λ w. w.since)) none))
        still up free (Some w) is some =
            ap (by_last (emptied heading Patterns n.kind up.level up.place (newest ∷ before)) up (λ v. v.since)) (ap (later newest) is)
            ∙ (ap (λ (gone : Bool). by_last (gone && emptied_in heading Patterns 3 n.kind up.level up.place (newest ∷ before)) up
            (λ v. v.since) (later newest (Some w))) never
            ∙ ap (λ (b : Bool). is_some (cond b None (Some w.value))) (free w is))
