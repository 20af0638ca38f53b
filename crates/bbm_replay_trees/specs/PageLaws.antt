-- What the laws of fresh and null pages, of the pages that were ever initialised, and of values state. A history is
-- newest first.
use Rattle.std.specs.Prelude.{◌≡◌, ℕ, ◌+◌, true, false, not, ◌&&◌, ◌||◌, ◌==◌, List, ◌∷◌, length, None}
use Rattle.std.specs.Prelude.{is_none, if◌then◌else◌}
use Rattle.bbm_rules.specs.Attach.{attached_by}
use Rattle.bbm_rules.specs.Broken.{keeps}
use Rattle.bbm_rules.specs.Changes.{changes}
use Rattle.bbm_rules.specs.Claims.Trust.{Patterns}
use Rattle.bbm_rules.specs.Pages.{initialised}
use Rattle.bbm_rules.specs.Places.{page_of}
use Rattle.bbm_rules.specs.Prelude.{Heading, Event, Init, Null, Write}
use Rattle.bbm_replay_trees.specs.Told.{SameFresh, SameKnown, SameNodes, SameNull, SameValues, View, notes}

-- The fresh pages after an event that breaks no rule: an `init` adds its page, and a `null` takes its page out; any
-- other event leaves those that have no node after it, and so all where it attaches nothing.
pub record FreshAfter (heading : Heading) : Type 0 where
  pub init : (h : List Event) (old new : View) (pe page : ℕ) → keeps heading Patterns (Init pe page ∷ h) ≡ true
      → SameFresh heading h old.fresh → ((p : ℕ) → new.fresh p ≡ (p == page || old.fresh p))
      → SameFresh heading (Init pe page ∷ h) new.fresh
  pub null : (h : List Event) (old new : View) (pe page : ℕ) → keeps heading Patterns (Null pe page ∷ h) ≡ true
      → SameFresh heading h old.fresh → ((p : ℕ) → new.fresh p ≡ (old.fresh p && not (p == page)))
      → SameFresh heading (Null pe page ∷ h) new.fresh
  pub attached : (h : List Event) (old new : View) (e : Event) → (changes e).inits ≡ false → (changes e).nulls ≡ false
      → SameFresh heading h old.fresh → SameNodes heading (e ∷ h) new.node
      → ((p : ℕ) → new.fresh p ≡ (old.fresh p && is_none (new.node p))) → SameFresh heading (e ∷ h) new.fresh
  pub others : (h : List Event) (view : View) (e : Event) → keeps heading Patterns (e ∷ h) ≡ true
      → (changes e).inits ≡ false → (changes e).nulls ≡ false → attached_by heading Patterns (notes heading h) e ≡ None
      → SameFresh heading h view.fresh → SameFresh heading (e ∷ h) view.fresh

-- The null pages, and the pages that were ever initialised and their number, after an event.
pub record PagesAfter : Type 0 where
  pub null : (h : List Event) (old new : View) (pe page : ℕ) → SameNull h old.null
      → ((p : ℕ) → new.null p ≡ (p == page || old.null p)) → SameNull (Null pe page ∷ h) new.null
  pub same_null : (h : List Event) (view : View) (e : Event) → (changes e).nulls ≡ false → SameNull h view.null
      → SameNull (e ∷ h) view.null
  pub known : (h : List Event) (old new : View) (pe page : ℕ) → SameKnown h old.known
      → ((p : ℕ) → new.known p ≡ (p == page || old.known p)) → SameKnown (Init pe page ∷ h) new.known
  pub same_known : (h : List Event) (view : View) (e : Event) → (changes e).inits ≡ false → SameKnown h view.known
      → SameKnown (e ∷ h) view.known
  pub count : (h : List Event) (view : View) (pe page : ℕ) → SameKnown h view.known
      → view.pages ≡ length (initialised h)
      → length (initialised (Init pe page ∷ h)) ≡ view.pages + (if view.known page then 0 else 1)
  pub same_count : (h : List Event) (e : Event) → (changes e).inits ≡ false
      → length (initialised (e ∷ h)) ≡ length (initialised h)

-- The value of each place after an event: an `init` makes those of its page 0, a write gives its place its value, and
-- other events leave all.
pub record ValuesAfter : Type 0 where
  pub init : (h : List Event) (old new : View) (pe page : ℕ) → SameValues h old.value
      → ((a : ℕ) → new.value a ≡ (if page_of a == page then 0 else old.value a))
      → SameValues (Init pe page ∷ h) new.value
  pub write : (h : List Event) (old new : View) (pe place v : ℕ) → SameValues h old.value
      → ((a : ℕ) → new.value a ≡ (if a == place then v else old.value a)) → SameValues (Write pe place v ∷ h) new.value
  pub others : (h : List Event) (view : View) (e : Event) → (changes e).values ≡ false → SameValues h view.value
      → SameValues (e ∷ h) view.value
