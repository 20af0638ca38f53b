-- One look back at an event, by the event.
use Rattle.bbm_rules.proofs.Common.{◌≡◌, ℕ, suc, ◌+◌, ◌<◌, Bool, true, false, ◌&&◌, ◌||◌, ◌==◌, List, [], ◌∷◌, length}
use Rattle.bbm_rules.proofs.Common.{take, drop, get_or, reverse, refl, sym, ◌∙◌, ap, add-one, eq-eqb, reverse-append}
use Rattle.bbm_rules.proofs.Common.{take_more, proved, If, Is, among, page_of, Barrier, Heading, Event, Init, Write}
use Rattle.bbm_rules.proofs.Common.{Dsb, published, publishes_to, readable_before, or-false}
use Rattle.std.proofs.Common.{drop-cons}
use Rattle.std.proofs.Math.Bool.{or_comm}
use Rattle.bbm_rules.specs.Values.{publishes_for}
use Rattle.bbm_lemmas.proofs.Numbers.{same_swapped}

-- the look at a write
module _ (heading : Heading) (p place value : ℕ) (later older : List Event) (q at v : ℕ) where
  pub write_elsewhere : (at == place) ≡ false → among value (readable_before heading later (Write q at v ∷ older) place p)
      ≡ among value (readable_before heading (Write q at v ∷ later) older place p)
  write_elsewhere e = rw e

  pub write_found : (at == place) ≡ true → (v == value) ≡ true
      → among value (readable_before heading later (Write q at v ∷ older) place p) ≡ true
  write_found e k = rw (e, k)

  pub write_gone : (at == place) ≡ true → (v == value) ≡ false → published heading q p later ≡ true
      → among value (readable_before heading later (Write q at v ∷ older) place p) ≡ false
  write_gone e k gone = rw (e, k, gone)

  pub write_further : (at == place) ≡ true → (v == value) ≡ false → published heading q p later ≡ false
      → among value (readable_before heading later (Write q at v ∷ older) place p)
      ≡ among value (readable_before heading (Write q at v ∷ later) older place p)
  write_further e k gone = rw (e, k, gone)

-- at an init
module _ (heading : Heading) (p place value : ℕ) (later older : List Event) (q page : ℕ) where
  pub init_elsewhere : (page == page_of place) ≡ false
      → among value (readable_before heading later (Init q page ∷ older) place p)
      ≡ among value (readable_before heading (Init q page ∷ later) older place p)
  init_elsewhere e = rw e

  pub init_here : (page == page_of place) ≡ true
      → among value (readable_before heading later (Init q page ∷ older) place p) ≡ (0 == value)
  init_here e = rw e (or-false (0 == value))

and_one : (a b : Bool) → b ≡ true → (a && b) ≡ a
and_one = proved 2 (λ a b. If (Is b true) (Is (a && b) a)) refl

and_zero : (a b c : Bool) → b ≡ false → ((a && b) || c) ≡ c
and_zero = proved 3 (λ a b c. If (Is b false) (Is ((a && b) || c) c)) refl

self_and : (by : ℕ) (b c : Bool) → (by == by && b) ≡ c → b ≡ c
self_and by b c e = sym (ap (λ x. x && b) (eq-eqb by by refl)) ∙ e

pub marks_more : (heading : Heading) (p by : ℕ) (dsb : Barrier) (later : List Event) (q : ℕ) (old now : Bool)
    → old ≡ published heading q p later → now ≡ (old || q == by)
    → publishes_for heading by p (Dsb by dsb) ≡ true → now ≡ published heading q p (Dsb by dsb ∷ later)
marks_more heading p by dsb later q old now e g k =
    g ∙ (ap (λ b. b || q == by) e
    ∙ (or_comm (published heading q p later) (q == by)
    ∙ ap (λ b. b || published heading q p later)
    (same_swapped q by ∙ sym (and_one (by == q) (publishes_to heading dsb by p) (self_and by (publishes_to heading dsb by p) true k)))))

pub marks_same : (heading : Heading) (p by : ℕ) (dsb : Barrier) (later : List Event) (q : ℕ) (old : Bool)
    → old ≡ published heading q p later
    → publishes_for heading by p (Dsb by dsb) ≡ false → old ≡ published heading q p (Dsb by dsb ∷ later)
marks_same heading p by dsb later q old e k =
    e ∙ sym (and_zero (by == q) (publishes_to heading dsb by p) (published heading q p later)
    (self_and by (publishes_to heading dsb by p) false k))

-- one step back in a list
pub back : {A : Type 0} (es : List A) (m : ℕ) (e : A) → m < length es → e ≡ get_or es m e
    → (reverse (take (m + 1) es) ≡ e ∷ reverse (take m es)) × (drop m es ≡ e ∷ drop (m + 1) es)
back {A} es m e within at = (
  ap (reverse {A = A}) (take_more es m e within) ∙ (reverse-append (take m es) (get_or es m e ∷ []) ∙ ap (λ (x : A). x ∷ reverse (take m es)) (sym at)),
  drop_at es m e within at,
)
  where
    drop_at : (es : List A) (m : ℕ) (e : A) → m < length es → e ≡ get_or es m e → drop m es ≡ e ∷ drop (m + 1) es
    drop_at es m e within at = rw (add-one) (drop-cons es m e within ∙ ap (λ (x : A). x ∷ drop (suc m) es) (sym at))

pub ruleset looks = (write_elsewhere, write_found, write_gone, write_further, init_elsewhere, init_here, marks_more, marks_same)
