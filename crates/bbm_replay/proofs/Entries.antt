-- One place after an event that leaves it.
use Rattle.bbm_replay.proofs.Common.{is_broken, waits, Pends, EntryState, Kind, touches, EntryStands, View, Laws, Told}
use Rattle.bbm_replay.proofs.Common.{Marks, next_in, state_from, state_of, waiting}
use Rattle.bbm_rules.proofs.Common.{◌≡◌, ℕ, ◌<◌, Bool, true, false, ◌&&◌, List, ◌∷◌, Option, Some, None, refl, ◌∙◌}
use Rattle.bbm_rules.proofs.Common.{ap, subst, proved, If, Is, page_of, Heading, Event, Node, Core, core_of, is_some}
use Rattle.bbm_rules.proofs.Common.{arith}
use Rattle.bbm_replay.proofs.Cases.{some_or}
use Rattle.bbm_replay.proofs.Moves.{Alike}

-- what holds a table isn't empty
pub some_next : (o : Option Core) (next : ℕ) → next_in o ≡ Some next → is_some o ≡ true
some_next o next k = grind arith

pub broken_marks : (live : Option Core) (m : Option Marks) → is_broken (state_from live m) ≡ is_some m
broken_marks live m = grind arith

guard : (x y : Bool) → (x ≡ false → y ≡ false) → y ≡ (x && y)
guard = proved 2 (λ x y. If (If (Is x false) (Is y false)) (Is y (x && y))) refl

module _ {heading : Heading} (laws : Laws heading) where
  pub some_pe : {h : List Event} {v : View} → Told heading h v → 0 < heading.pes
  some_pe t = (laws.proper t.proper).some_pe

  -- the same state, and pendings that are alike
  pub entry_same : {h : List Event} {kind : Kind} {level a : ℕ} {s s' : EntryState} {pends pends' : ℕ → Pends}
      → EntryStands heading h kind level a s pends → s ≡ s' → ((q : ℕ) → Alike (pends q) (pends' q))
      → EntryStands heading h kind level a s' pends'
  entry_same {h} {kind} {level} {a} {s} {s'} {pends} {pends'} t e alike =
      subst (λ (x : EntryState). EntryStands heading h kind level a x pends') e
      (laws.alike h kind level a s pends pends' t
      (λ q b c p. alike q b c p ∙ guard (is_broken s) (waits (pends q) b c p) (λ k. t.idle k q b c p)))

  pub carried : {h : List Event} {old : View} (new : View) → Told heading h old → (e : Event) (n : Node) (a : ℕ)
      → old.node (page_of a) ≡ Some n → touches a e ≡ false → new.value a ≡ old.value a → new.marks a ≡ old.marks a
      → ((q : ℕ) → Alike (old.pends q a) (new.pends q a))
      → EntryStands heading (e ∷ h) n.kind n.level a (state_of new n.kind n.level a) (waiting new a)
  carried {h} {old} new t e n a is untouched value marks alike =
      let same : state_of old n.kind n.level a ≡ state_of new n.kind n.level a = cc in
      entry_same (laws.stays h e n.kind n.level a (state_of old n.kind n.level a) (waiting old a) (some_pe t) untouched
      (t.entries n a is)) same alike

  -- after an event that keeps what a place holds: by whether the place is broken before; where it isn't, it isn't after
  module _ {h : List Event} {old : View} (new : View) (t : Told heading h old) (e : Event) (n : Node) (a : ℕ)
      (is : old.node (page_of a) ≡ Some n) (value : new.value a ≡ old.value a) where
    abbrev before : EntryState
    before = state_of old n.kind n.level a

    abbrev After : EntryState → (ℕ → Pends) → Type 0
    After = EntryStands heading (e ∷ h) n.kind n.level a

    pub by_break : (is_some (old.marks a) ≡ true → After (state_of new n.kind n.level a) (waiting new a))
        → (old.marks a ≡ None → is_broken before ≡ false → EntryStands heading h n.kind n.level a before (waiting old a)
        → (new.marks a ≡ None) × ((q : ℕ) → Alike (old.pends q a) (new.pends q a)) × After before (waiting old a))
        → After (state_of new n.kind n.level a) (waiting new a)
    by_break broken whole = some_or (old.marks a) (λ m k. broken (ap (λ (m : Option Marks). is_some m) k)) (λ k.
        let unbroken = broken_marks (core_of n.kind n.level (old.value a)) (old.marks a)
        ∙ ap (λ (m : Option Marks). is_some m) k in
        let w = whole k unbroken (t.entries n a is) in
        let same : before ≡ state_of new n.kind n.level a = cc (value, w.0, k) in entry_same w.2 same w.1)
