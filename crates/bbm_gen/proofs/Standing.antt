-- What stands after the opening, and after each event of a round.
use Rattle.bbm_rules.proofs.Common.{◌≡◌, ℕ, zero, suc, ◌<◌, Bool, true, false, ◌==◌, inl, inr, List, [], ◌∷◌, ◌++◌}
use Rattle.bbm_rules.proofs.Common.{Option, Some, None, take, flat_map, filter_map, refl, ap, ◌∙◌, subst, Contains}
use Rattle.bbm_rules.proofs.Common.{arith, if◌then◌else◌, Kind, vmid_matches, Event, Init, Null, Root, Unroot, Write}
use Rattle.bbm_rules.proofs.Common.{Dsb, Dmb, Isb, Tlbi, Msr, Lock, Unlock, Reg, Ttbr0El2, VttbrEl2, Ttbr0El1, Ttbr1El1}
use Rattle.bbm_rules.proofs.Common.{Tag, Vmid, keeps, any, below, is_fresh, is_null, may_be_fresh, page_of}
use Rattle.bbm_rules.proofs.Common.{register_values, Declared, roots_of, distinct, ever_read, readings, tag_for}
use Rattle.bbm_rules.proofs.Common.{tag_set, tags_of, holds_tag, Above, Node, held_at, node_of, and-false}
use Rattle.bbm_regimes.specs.declared.regime.Kind.TheVariants.{El2, S2}
use Rattle.bbm_rules.specs.Prelude.{same_tag}
use Rattle.bbm_rules.specs.Broken.{broken}
use Rattle.bbm_rules.specs.Claims.{Patterns}
use Rattle.bbm_rules.specs.Tree.{tree}
use Rattle.bbm_histories.specs.TreeChanges.{HeldChange}
use Rattle.bbm_gen.specs.BelowGen.{Below, notes}
use Rattle.bbm_gen.specs.Generated.{heading, el2_root, s2_root, vttbr, log_of}
use Rattle.bbm_gen.proofs.Numbers.{el2_node, s2_node}

-- the events of rounds
abbrev pub of_round : Event → Bool
of_round (Write pe place value) = true
of_round (Dsb pe dsb) = true
of_round (Dmb pe dsb) = true
of_round (Isb pe) = true
of_round (Tlbi pe op xt) = true
of_round _ = false

abbrev pub declared : List Declared
declared = record { page = s2_root; kind = S2; lock = None } ∷ record { page = el2_root; kind = El2; lock = None } ∷ []

-- the one readable value of a register
abbrev pub loaded : ℕ → Reg → ℕ
loaded zero Ttbr0El2 = el2_root
loaded zero VttbrEl2 = vttbr
loaded _ _ = 0

pub record Stands (h : List Event) : Type 0 where
  pub kept : keeps heading Patterns h ≡ true
  pub el2 : Contains (tree heading Patterns (notes h)) el2_node
  pub s2 : Contains (tree heading Patterns (notes h)) s2_node
  pub el2_old : is_fresh heading Patterns (notes h) el2_root ≡ false
  pub s2_old : is_fresh heading Patterns (notes h) s2_root ≡ false
  pub roots : roots_of h ≡ declared
  pub nulls : (page : ℕ) → is_null h page ≡ false
  pub registers : (p : ℕ) (reg : Reg) → p < 4 → register_values h p reg ≡ loaded p reg ∷ []
  pub read : any (same_tag (Vmid 1)) (ever_read heading s2_root h) ≡ true
  pub tags : distinct (ever_read heading s2_root h) ≡ Vmid 1 ∷ []

-- no place of the two roots holds anything, but for one
pub record Clear (h : List Event) (except : ℕ) : Type 0 where
  pub el2 : (place : ℕ) → page_of place ≡ el2_root → (place ≡ except → ⊥)
      → held_at heading Patterns (notes h) el2_node place ≡ None
  pub s2 : (place : ℕ) → page_of place ≡ s2_root → (place ≡ except → ⊥)
      → held_at heading Patterns (notes h) s2_node place ≡ None

-- ---- one more event

keeps_on : (h : List Event) (e : Event) → keeps heading Patterns h ≡ true → broken heading Patterns h e ≡ None
    → keeps heading Patterns (e ∷ h) ≡ true
keeps_on h e k free = rw (k, free) refl

not_old : (h : List Event) (e : Event) (page : ℕ) (n : Node) → node_of heading Patterns (notes (e ∷ h)) page ≡ Some n
    → is_fresh heading Patterns (notes (e ∷ h)) page ≡ false
not_old h e page n node = rw node (and-false (may_be_fresh e page (is_fresh heading Patterns (notes h) page)))

none_above : (above : Above) → Contains [] above → ⊥
none_above above c = omega (arith, c.1)

stays_in_tree : Below → (h : List Event) (e : Event) → of_round e ≡ true → keeps heading Patterns (e ∷ h) ≡ true
    → (n : Node) → n.above ≡ [] → Contains (tree heading Patterns (notes h)) n
    → Contains (tree heading Patterns (notes (e ∷ h))) n
stays_in_tree b h (Write pe place value) is k n top inside =
    (b.tree_step.step h (Write pe place value) b.proper k (λ q dsb e. cc) n).1 (inl inside)
stays_in_tree b h (Dmb pe dsb) is k n top inside = (b.tree_step.step h (Dmb pe dsb) b.proper k (λ q dsb' e. cc) n).1
    inside
stays_in_tree b h (Isb pe) is k n top inside = (b.tree_step.step h (Isb pe) b.proper k (λ q dsb e. cc) n).1 inside
stays_in_tree b h (Tlbi pe op xt) is k n top inside =
    (b.tree_step.step h (Tlbi pe op xt) b.proper k (λ q dsb e. cc) n).1 inside
stays_in_tree b h (Dsb pe dsb) is k n top inside =
    (b.tree_step.dsb h pe dsb k n).1
    (inside, λ above c. absurd (none_above above (subst (λ (xs : List Above). Contains xs above) top c)))
stays_in_tree b h (Init pe page) is k n top inside = cc
stays_in_tree b h (Null pe page) is k n top inside = cc
stays_in_tree b h (Root pe kind lock page) is k n top inside = cc
stays_in_tree b h (Unroot pe page) is k n top inside = cc
stays_in_tree b h (Msr pe reg value) is k n top inside = cc
stays_in_tree b h (Lock pe lock) is k n top inside = cc
stays_in_tree b h (Unlock pe lock) is k n top inside = cc

same_roots : (h : List Event) (e : Event) → of_round e ≡ true → roots_of (e ∷ h) ≡ roots_of h
same_roots h (Write pe place value) is = refl
same_roots h (Dmb pe dsb) is = refl
same_roots h (Isb pe) is = refl
same_roots h (Tlbi pe op xt) is = refl
same_roots h (Dsb pe dsb) is = refl
same_roots h (Init pe page) is = cc
same_roots h (Null pe page) is = cc
same_roots h (Root pe kind lock page) is = cc
same_roots h (Unroot pe page) is = cc
same_roots h (Msr pe reg value) is = cc
same_roots h (Lock pe lock) is = cc
same_roots h (Unlock pe lock) is = cc

same_nulls : (h : List Event) (e : Event) (page : ℕ) → of_round e ≡ true → is_null (e ∷ h) page ≡ is_null h page
same_nulls h (Write pe place value) page is = refl
same_nulls h (Dmb pe dsb) page is = refl
same_nulls h (Isb pe) page is = refl
same_nulls h (Tlbi pe op xt) page is = refl
same_nulls h (Dsb pe dsb) page is = refl
same_nulls h (Init pe at) page is = cc
same_nulls h (Null pe at) page is = cc
same_nulls h (Root pe kind lock at) page is = cc
same_nulls h (Unroot pe at) page is = cc
same_nulls h (Msr pe reg value) page is = cc
same_nulls h (Lock pe lock) page is = cc
same_nulls h (Unlock pe lock) page is = cc

taken_alone : (b : Bool) (v : ℕ) → (if b then take 1 (v ∷ []) else (v ∷ [])) ≡ v ∷ []
taken_alone true v = refl
taken_alone false v = refl

same_registers : (h : List Event) (e : Event) (p v : ℕ) (reg : Reg) → of_round e ≡ true
    → register_values h p reg ≡ v ∷ [] → register_values (e ∷ h) p reg ≡ v ∷ []
same_registers h (Write pe place value) p v reg is k = k
same_registers h (Dmb pe dsb) p v reg is k = k
same_registers h (Isb pe) p v reg is k = rw k (taken_alone (pe == p) v)
same_registers h (Tlbi pe op xt) p v reg is k = k
same_registers h (Dsb pe dsb) p v reg is k = k
same_registers h (Init pe at) p v reg is k = cc
same_registers h (Null pe at) p v reg is k = cc
same_registers h (Root pe kind lock at) p v reg is k = cc
same_registers h (Unroot pe at) p v reg is k = cc
same_registers h (Msr pe r value) p v reg is k = cc
same_registers h (Lock pe lock) p v reg is k = cc
same_registers h (Unlock pe lock) p v reg is k = cc

-- what the four PEs read through the stage 2 root
read_now : (h : List Event) → roots_of h ≡ declared
    → ((p : ℕ) (reg : Reg) → p < 4 → register_values h p reg ≡ loaded p reg ∷ [])
    → flat_map (λ p. filter_map (tag_for s2_root) (readings heading h p)) (below heading.pes) ≡ Vmid 1 ∷ []
read_now h roots registers =
    rw (
      registers 0 Ttbr0El2 (omega arith),
      registers 0 VttbrEl2 (omega arith),
      registers 1 Ttbr0El2 (omega arith),
      registers 1 VttbrEl2 (omega arith),
      registers 2 Ttbr0El2 (omega arith),
      registers 2 VttbrEl2 (omega arith),
      registers 3 Ttbr0El2 (omega arith),
      registers 3 VttbrEl2 (omega arith),
      roots,
    ) refl

ever_after : (h : List Event) (e : Event) → roots_of (e ∷ h) ≡ declared
    → ((p : ℕ) (reg : Reg) → p < 4 → register_values (e ∷ h) p reg ≡ loaded p reg ∷ [])
    → ever_read heading s2_root (e ∷ h) ≡ Vmid 1 ∷ ever_read heading s2_root h
ever_after h e roots registers =
    ap (λ (tags : List Tag). tags ++ ever_read heading s2_root h) (read_now (e ∷ h) roots registers)

pub stands_on : Below → (h : List Event) (e : Event) → of_round e ≡ true → broken heading Patterns h e ≡ None → Stands h
    → Stands (e ∷ h)
stands_on b h e is free s = record {
  kept = kept;
  el2 = el2;
  s2 = s2;
  el2_old = not_old h e el2_root el2_node (b.one_node.the_first (e ∷ h) kept el2_node el2);
  s2_old = not_old h e s2_root s2_node (b.one_node.the_first (e ∷ h) kept s2_node s2);
  roots = roots;
  nulls = λ page. same_nulls h e page is ∙ s.nulls page;
  registers = registers;
  read = rw ever refl;
  tags = rw (ever, s.read) s.tags;
}
  where
    kept : keeps heading Patterns (e ∷ h) ≡ true
    kept = keeps_on h e s.kept free

    el2 : Contains (tree heading Patterns (notes (e ∷ h))) el2_node
    el2 = stays_in_tree b h e is kept el2_node refl s.el2

    s2 : Contains (tree heading Patterns (notes (e ∷ h))) s2_node
    s2 = stays_in_tree b h e is kept s2_node refl s.s2

    roots : roots_of (e ∷ h) ≡ declared
    roots = same_roots h e is ∙ s.roots

    registers : (p : ℕ) (reg : Reg) → p < 4 → register_values (e ∷ h) p reg ≡ loaded p reg ∷ []
    registers p reg lt = same_registers h e p (loaded p reg) reg is (s.registers p reg lt)

    ever : ever_read heading s2_root (e ∷ h) ≡ Vmid 1 ∷ ever_read heading s2_root h
    ever = ever_after h e roots registers

-- ---- what places hold

pub stays_none : (kind : Kind) (level place : ℕ) (e : Event) (before after : Option ℕ) → HeldChange kind level place e before after
    → ((q v : ℕ) → e ≡ Write q place v → ⊥) → before ≡ None → after ≡ None
stays_none kind level place e before after (inl same) no_write none = same ∙ none
stays_none kind level place e before after (inr (inl w)) no_write none = absurd (no_write w.0 w.1 w.2)
stays_none kind level place e before after (inr (inr d)) no_write none = d.3

-- the event writes no other place
abbrev pub WritesAt : ℕ → Event → Type 0
WritesAt except e = (q place v : ℕ) → e ≡ Write q place v → place ≡ except

pub clear_on : Below → (h : List Event) (e : Event) (except : ℕ) → Stands h → Stands (e ∷ h) → WritesAt except e
    → Clear h except → Clear (e ∷ h) except
clear_on b h e except s after at c = record {
  el2 = λ place inside apart. stays_none El2 1 place e (held_at heading Patterns (notes h) el2_node place)
      (held_at heading Patterns (notes (e ∷ h)) el2_node place)
      (b.held_changes.changes h e b.proper.some_pe after.kept el2_node place s.el2 inside)
      (λ q v w. apart (at q place v w)) (c.el2 place inside apart);
  s2 = λ place inside apart. stays_none S2 1 place e (held_at heading Patterns (notes h) s2_node place)
      (held_at heading Patterns (notes (e ∷ h)) s2_node place)
      (b.held_changes.changes h e b.proper.some_pe after.kept s2_node place s.s2 inside)
      (λ q v w. apart (at q place v w)) (c.s2 place inside apart);
}

-- the stage 2 root holds VMID 1 alone, or nothing
pub matches : (h : List Event) → Stands h → vmid_matches (Some 1) (tag_set (tags_of heading Patterns s2_root h)) ≡ true
matches h s = rw s.tags (by (holds_tag heading Patterns s2_root (Vmid 1) h))
  where
    by : (b : Bool) → vmid_matches (Some 1) (tag_set (if b then Vmid 1 ∷ [] else [])) ≡ true
    by true = refl
    by false = refl

-- ---- the opening

registers_loaded : (n p : ℕ) (reg : Reg) → p < 4 → register_values (log_of n 7) p reg ≡ loaded p reg ∷ []
registers_loaded n zero Ttbr0El2 lt = refl
registers_loaded n zero VttbrEl2 lt = refl
registers_loaded n zero Ttbr0El1 lt = refl
registers_loaded n zero Ttbr1El1 lt = refl
registers_loaded n (suc zero) reg lt = refl
registers_loaded n (suc (suc zero)) reg lt = refl
registers_loaded n (suc (suc (suc zero))) reg lt = refl
registers_loaded n (suc (suc (suc (suc p)))) reg lt = absurd (omega (arith, lt))

pub opened : (n : ℕ) → Stands (log_of n 7)
unfolding broken tree
opened n = record {
  kept = refl;
  el2 = (1, omega arith, refl);
  s2 = (0, omega arith, refl);
  el2_old = refl;
  s2_old = refl;
  roots = refl;
  nulls = λ page. refl;
  registers = registers_loaded n;
  read = refl;
  tags = refl;
}

pub opened_clear : (n except : ℕ) → Clear (log_of n 7) except
opened_clear n except = record { el2 = λ place inside apart. nothing_el2 place inside; s2 = λ place inside apart. nothing_s2 place inside }
  where
    nothing_el2 : (place : ℕ) → page_of place ≡ el2_root → held_at heading Patterns (notes (log_of n 7)) el2_node place ≡ None
    nothing_el2 place inside = rw inside refl

    nothing_s2 : (place : ℕ) → page_of place ≡ s2_root → held_at heading Patterns (notes (log_of n 7)) s2_node place ≡ None
    nothing_s2 place inside = rw inside refl
