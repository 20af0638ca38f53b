-- What is kept of the unanswered TLBIs, and what it says of the entries that are left.
use Rattle.bbm_rules.proofs.Common.{◌≡◌, ℕ, Bool, true, false, cond, ◌&&◌, not, ◌==◌, nat_le, List, [], ◌∷◌, map}
use Rattle.bbm_rules.proofs.Common.{filter, None, refl, sym, ◌∙◌, ap, true≢false, eqb-true, eq-eqb, false_from_ne_true}
use Rattle.bbm_rules.proofs.Common.{proved, If, Is, any, Barrier, TlbiOp, Heading, Event, Dsb, Tlbi, Issued, completes}
use Rattle.bbm_rules.proofs.Common.{left_open, reaches, unanswered, itself}
use Rattle.bbm_tlb_machine.specs.Entry.{Entry, age_for}
use Rattle.bbm_tlb_machine.specs.MachinePendings.{IsPending, Pending, is_answered, leaves_any, leaves_by, must_leave}
use Rattle.bbm_tlb_machine.specs.MachinePendings.{pending_of}
use Rattle.bbm_tlb_machine.specs.MachineRun.{Living, State, leaves_some}
use Rattle.bbm_tlb_machine.specs.Step.{must_go, takes_by}
use Rattle.bbm_lemmas.proofs.Tests.{any_filter, any_map, any_same}
use Rattle.std.proofs.Math.Bool.{and_assoc}

-- a TLBI without a scope takes nothing
pub never : (heading : Heading) (p : Pending) (x : Entry) → p.scope ≡ None → false ≡ must_leave heading p x
never heading p x e =
    let none : takes_by p.scope p.vmid x ≡ false = ap (λ o. takes_by o p.vmid x) e in
    sym (proved 3 (λ a b c. If (Is b false) (Is (a && b && c) false)) refl (reaches heading p.tlbi x.pe)
    (takes_by p.scope p.vmid x) (nat_le (age_for p.family x) p.before) none)

map_cond : {X Y : Type 0} (f : X → Y) (b : Bool) (x : X) (xs : List X) (ys : List Y) → ys ≡ map f xs
    → cond b (f x ∷ ys) ys ≡ map f (cond b (x ∷ xs) xs)
map_cond {X} {Y} f true x xs ys e = ap (λ (zs : List Y). f x ∷ zs) e
map_cond f false x xs ys e = e

module _ (heading : Heading) where
  leave_is : (e : Event) (before : List Event) (x : Entry)
      → must_leave heading (pending_of heading (record { tlbi = e; before = before })) x
      ≡ must_go heading (record { tlbi = e; before = before }) x
  leave_is (Tlbi pe op xt) before x = refl
  leave_is _ before x = refl

  -- the entries that a DSB leaves
  pub left : (s : State) (q : ℕ) (dsb : Barrier) (pending : List Pending) → IsPending heading s.log pending
      → leaves_any heading s.living q dsb pending ≡ leaves_some heading s (Dsb q dsb)
  left s q dsb pending stands =
      any_same _ _ pending (λ p. and_assoc (p.issuer == q) (completes dsb p.tlbi) (leaves_by heading s.living p))
      ∙ (sym (any_filter (λ (p : Pending). completes dsb p.tlbi && leaves_by heading s.living p) (λ (p : Pending). p.issuer == q) pending)
      ∙ (ap (any (λ (p : Pending). completes dsb p.tlbi && leaves_by heading s.living p)) (stands q)
      ∙ (any_map (λ (p : Pending). completes dsb p.tlbi && leaves_by heading s.living p) (pending_of heading) (unanswered itself q s.log)
      ∙ any_same _ (λ (t : Issued Event). completes dsb t.tlbi && any (λ (l : Living). must_go heading t l.entry) s.living)
      (unanswered itself q s.log) (λ t. ap (λ b. completes dsb t.tlbi && b)
      (any_same (λ (l : Living). must_leave heading (pending_of heading t) l.entry) (λ (l : Living). must_go heading t l.entry)
      s.living (λ l. leave_is t.tlbi t.before l.entry))))))

  -- a TLBI more
  pub tlbi_step : (h : List Event) (pe : ℕ) (op : TlbiOp) (xt : ℕ) (pending : List Pending) → IsPending heading h pending
      → IsPending heading (Tlbi pe op xt ∷ h) (pending_of heading (record { tlbi = Tlbi pe op xt; before = h }) ∷ pending)
  tlbi_step h pe op xt pending stands q =
      map_cond (pending_of heading) (pe == q) (record { tlbi = Tlbi pe op xt; before = h }) (unanswered itself q h) _ (stands q)

-- filters of filters and of maps
filter_step : {X : Type 0} (i k j : X → Bool) (x : X) (xs ys : List X) (a b : Bool) → i x ≡ a → k x ≡ b
    → (i x ≡ true → k x ≡ j x) → filter i xs ≡ filter j ys
    → filter i (cond (k x) (x ∷ xs) xs) ≡ filter j (cond (i x) (x ∷ ys) ys)
filter_step {X} i k j x xs ys true true e f same rest = rw (f, e, sym (same e) ∙ f) (ap (λ (zs : List X). x ∷ zs) rest)
filter_step i k j x xs ys true false e f same rest = rw (f, e, sym (same e) ∙ f) rest
filter_step i k j x xs ys false true e f same rest = rw (f, e) rest
filter_step i k j x xs ys false false e f same rest = rw (f, e) rest

filters : {X : Type 0} (i k j : X → Bool) → ((x : X) → i x ≡ true → k x ≡ j x) → (xs : List X)
    → filter i (filter k xs) ≡ filter j (filter i xs)
filters i k j same [] = refl
filters i k j same (x ∷ xs) =
    filter_step i k j x (filter k xs) (filter i xs) (i x) (k x) refl refl (same x) (filters i k j same xs)

filter_all : {X : Type 0} (xs : List X) → filter (λ (x : X). true) xs ≡ xs
filter_all [] = refl
filter_all {X} (x ∷ xs) = ap (λ (zs : List X). x ∷ zs) (filter_all xs)

filter_of_map : {X Y : Type 0} (f : X → Y) (p : Y → Bool) (xs : List X) → filter p (map f xs) ≡ map f (filter (λ x. p (f x)) xs)
filter_of_map f p [] = refl
filter_of_map f p (x ∷ xs) = map_cond f (p (f x)) x (filter (λ x. p (f x)) xs) (filter p (map f xs)) (filter_of_map f p xs)

module _ (heading : Heading) (pe : ℕ) (dsb : Barrier) where
  own : (q : ℕ) (p : Pending) → (pe == q) ≡ true → (p.issuer == q) ≡ true
      → not (is_answered pe dsb p) ≡ not (completes dsb p.tlbi)
  own q p e k =
      let same : p.issuer ≡ pe = eqb-true p.issuer q k ∙ sym (eqb-true pe q e) in
      ap (λ b. not (b && completes dsb p.tlbi)) (eq-eqb p.issuer pe same)

  other : (q : ℕ) (p : Pending) → (pe == q) ≡ false → (p.issuer == q) ≡ true → not (is_answered pe dsb p) ≡ true
  other q p e k =
      let differs : (p.issuer == pe) ≡ false = false_from_ne_true (p.issuer == pe) (λ f.
      let same : pe ≡ q = sym (eqb-true p.issuer pe f) ∙ eqb-true p.issuer q k in
      true≢false (sym (eq-eqb pe q same) ∙ e)) in
      ap (λ b. not (b && completes dsb p.tlbi)) differs

  answered : (h : List Event) (pending : List Pending) → IsPending heading h pending → (q : ℕ) (b : Bool) → (pe == q) ≡ b
      → filter (λ (p : Pending). p.issuer == q) (filter (λ (p : Pending). not (is_answered pe dsb p)) pending)
      ≡ map (pending_of heading) (cond b (left_open itself dsb (unanswered itself q h)) (unanswered itself q h))
  answered h pending stands q true e =
      filters (λ (p : Pending). p.issuer == q) (λ (p : Pending). not (is_answered pe dsb p))
      (λ (p : Pending). not (completes dsb p.tlbi)) (λ p k. own q p e k) pending
      ∙ (ap (filter (λ (p : Pending). not (completes dsb p.tlbi))) (stands q)
      ∙ filter_of_map (pending_of heading) (λ (p : Pending). not (completes dsb p.tlbi)) (unanswered itself q h))
  answered h pending stands q false e =
      filters (λ (p : Pending). p.issuer == q) (λ (p : Pending). not (is_answered pe dsb p))
      (λ (p : Pending). true) (λ p k. other q p e k) pending
      ∙ (filter_all (filter (λ (p : Pending). p.issuer == q) pending) ∙ stands q)

  pub dsb_step : (h : List Event) (pending : List Pending) → IsPending heading h pending
      → IsPending heading (Dsb pe dsb ∷ h) (filter (λ p. not (is_answered pe dsb p)) pending)
  dsb_step h pending stands q = answered h pending stands q (pe == q) refl

pub ruleset steps = (tlbi_step, dsb_step)
