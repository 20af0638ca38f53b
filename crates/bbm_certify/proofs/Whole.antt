-- All claims that are due at an event, and what is kept for the next one.
use Rattle.bbm_certify.proofs.Common.{Kind, Holding, is_write_of, Known, IsCleansed, IsDue, AreDue, Adds, AreTaken}
use Rattle.bbm_certify.proofs.Common.{IsKnown}
use Rattle.bbm_rules.proofs.Common.{◌≡◌, ◌⊎◌, ℕ, Bool, true, false, cond, ◌&&◌, ◌||◌, ◌==◌, List, [], ◌∷◌, Option, Some}
use Rattle.bbm_rules.proofs.Common.{None, refl, sym, ◌∙◌, ap, inl, inr, or_parts, is_valid, Claim, Place, Two, Taken}
use Rattle.bbm_rules.proofs.Common.{keeps, Patterns, note, noted, ValidWrite, last_valid, last_valid_after, later}
use Rattle.bbm_rules.proofs.Common.{among, Noted, page_of, Barrier, Heading, Event, Init, Write, Dsb, In, none-some}
use Rattle.bbm_lemmas.proofs.Words.{in_among}
use Rattle.std.proofs.lemmas.Bool.{true_from_ne_false}
use Rattle.bbm_certify.specs.DueAt.{AreDue as ArePlaces}
use Rattle.bbm_certify.specs.Made.{AreWritten}
use Rattle.bbm_certify.proofs.Adding.{all_due}
use Rattle.bbm_certify.proofs.DuePlaces.{due_found, found_due, the_write}
use Rattle.bbm_certify.proofs.DueTags.{due_taken, taken_due}
use Rattle.bbm_certify.proofs.OneDue.{one_due}

-- ---- the places that were written

after_none : (kind : Kind) (level place : ℕ) (e : Event) (n : Noted) (found : Option ValidWrite) → is_write_of place e ≡ false
    → found ≡ None → last_valid_after kind level place e n found ≡ None
after_none kind level place (Write pe at value) n found other none =
    ap (λ (b : Bool). cond (b && is_valid kind level value) (Some (record { value = value; since = [] })) (later n found)) other
    ∙ ap (λ (f : Option ValidWrite). later n f) none
after_none kind level place (Init pe page) n found other none = by (page == page_of place)
  where
    by : (b : Bool) → cond b None (later n found) ≡ None
    by true = refl
    by false = ap (λ (f : Option ValidWrite). later n f) none
after_none kind level place e n found other none = ap (λ (f : Option ValidWrite). later n f) none

pub written_next : (heading : Heading) (h : List Event) (e : Event) (old new : List ℕ) → AreWritten heading h old
    → ((a : ℕ) → among a new ≡ (is_write_of a e || among a old)) → AreWritten heading (e ∷ h) new
written_next heading h e old new all is kind level place none =
    let parts = or_parts (is_write_of place e) (among place old) (sym (is place) ∙ none) in
    after_none kind level place e (note heading Patterns (noted heading Patterns h) e)
    (last_valid kind level place (noted heading Patterns h)) parts.0 (all kind level place parts.1)

-- ---- what is due at a DSB

module _ (heading : Heading) (known : Known heading) (h : List Event) (q : ℕ) (dsb : Barrier)
    (kept : keeps heading Patterns (Dsb q dsb ∷ h) ≡ true) (written : List ℕ)
    (are_written : AreWritten heading h written) (held : List Holding) (are_known : IsKnown heading h held) where
  abbrev before : List Noted
  before = noted heading Patterns h

  abbrev after : List Noted
  after = noted heading Patterns (Dsb q dsb ∷ h)

  abbrev Places : Claim → Type 0
  Places c = ArePlaces heading Patterns after (note heading Patterns before (Dsb q dsb)) before written c

  is_written : (a p : ℕ) (w : ValidWrite) (k : IsCleansed heading after a p w)
      → ((v : ValidWrite) → IsCleansed heading before a p v → ⊥) → In written a
  is_written a p w k not_yet =
      let x = the_write heading known h q dsb kept a p w k not_yet in
      in_among a written (true_from_ne_false (among a written)
      (λ e. none-some x.before (sym (are_written k.node.kind k.node.level a e) ∙ x.is)))

  parts : (c : Claim) → IsDue heading h (Dsb q dsb) c → Places c ⊎ AreTaken heading h (Dsb q dsb) held c
  parts (Place p a b t d) k =
      inl (
        a,
        is_written a p k.1.0 k.1.1 k.2,
        due_found heading known h q dsb kept a p k.1.0 k.1.1 k.2 (Place p a b t d) k.0 (refl, refl, k.1.2),
      )
  parts (Two p a b t1 d1 t2 d2) k =
      inl (
        a,
        is_written a p k.1.0 k.1.1 k.2,
        due_found heading known h q dsb kept a p k.1.0 k.1.1 k.2 (Two p a b t1 d1 t2 d2) k.0 (refl, refl, k.1.2, k.1.3),
      )
  parts (Taken p tag t d) k = inr (due_taken heading known h q dsb p tag t d held are_known k)

  pub due_at_dsb : (xs ys : List Claim) → Adds Places [] xs → Adds (AreTaken heading h (Dsb q dsb) held) xs ys
      → AreDue heading h (Dsb q dsb) ys
  due_at_dsb xs ys a b =
      all_due heading h (Dsb q dsb) Places (AreTaken heading h (Dsb q dsb) held) xs ys a b
      (λ c k. found_due heading known h q dsb kept k.0 c k.2) (λ c k. taken_due heading known h q dsb k.0 c k.2)
      parts (one_due heading known h (Dsb q dsb) kept)
