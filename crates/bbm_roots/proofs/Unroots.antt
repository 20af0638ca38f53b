-- Whether a root may be retired, by the rules and by what the roots tell.
use Rattle.bbm_roots.proofs.Common.{Laws, Patterns, first_reg, load_in, loads_after, root_in, second_reg, Roots, Stands}
use Rattle.bbm_roots.proofs.Common.{option_and_then, pes_of, loads_in, names_in}
use Rattle.bbm_roots.proofs.Common.{IsLeast, UpTo, is_some, ltb-true, first_true}
use Rattle.bbm_rules.proofs.Common.{◌≡◌, ℕ, ◌<◌, Bool, true, false, not, ◌&&◌, ◌||◌, ◌==◌, nat_lt, List, []}
use Rattle.bbm_rules.proofs.Common.{length, Option, Some, None, refl, sym, ap, ◌∙◌, true≢false}
use Rattle.bbm_rules.proofs.Common.{inl, inr, arith, list_any, lt-ltb, eqb-true, not-false}
use Rattle.bbm_rules.proofs.Common.{list_any-append, pe_finds, any_found, Reg, Ttbr0El2, VttbrEl2, Ttbr0El1, Ttbr1El1}
use Rattle.bbm_rules.proofs.Common.{World, Hyp, Kernel, Heading, Event, Root, Unroot, Breach, keeps, if_so}
use Rattle.bbm_rules.proofs.Common.{is_that, some_pe, base_of, kind_of_reg, Declared, is_root, kind_in_world, lock_of}
use Rattle.bbm_rules.proofs.Common.{root_at, is_base_at, lacks, tags_of}
use Rattle.std.specs.Option.{is_none}
use Rattle.bbm_lemmas.specs.Elements.{In}
use Rattle.bbm_lemmas.proofs.Tautologies.{proved}
use Rattle.bbm_lemmas.proofs.Tautologies.Claim.{If, Is}
use Rattle.bbm_lemmas.proofs.Tests.{any_alike, any_map}
use Rattle.bbm_lemmas.proofs.Words.{among_in, pe_none}
use Rattle.bbm_rules.proofs.RuleLemmas.{if_none}
use Rattle.bbm_rules.specs.Broken.{broken}
use Rattle.bbm_rules.specs.Prelude.{Kind}
use Rattle.bbm_rules.specs.RegisterValues as rules
use Rattle.bbm_rules.specs.declared.rule.Rule.TheVariants.{NoLock, NoRoot, RootInUse, WrongWorld}
use Rattle.bbm_histories.specs.TreeChanges.{Proper}
use Rattle.bbm_roots.specs.LoadsOf.{uses_at}
use Rattle.bbm_roots.specs.RootRegisters.{names_page}
use Rattle.bbm_roots.proofs.Tests.{and_right}
use Rattle.bbm_roots.proofs.Judge.{broken_unroot, or_rule}

-- whether a readable value of a register of the world names the root with this first page
abbrev pub uses : List Event → World → ℕ → ℕ → Bool
uses h world page p =
    names_in (loads_after h p (first_reg world)) page || names_in (loads_after h p (second_reg world)) page

-- ---- the bases of the registers

abbrev at_base : ℕ → ℕ → Bool
at_base page v = is_that (base_of v) page

base_there : (page : ℕ) (o : Option ℕ) → is_that o page ≡ true → o ≡ Some page
base_there page None e = absurd (true≢false (sym e))
base_there page (Some b) e = ap (λ (n : ℕ). Some n) (eqb-true b page e)

abbrev in_reg : List Event → ℕ → ℕ → Reg → Bool
in_reg h page p reg = list_any (at_base page) (rules.register_values h p reg)

four : (h : List Event) (page p : ℕ) → is_base_at h page p
    ≡ (in_reg h page p Ttbr0El2 || (in_reg h page p VttbrEl2 || (in_reg h page p Ttbr0El1 || (in_reg h page p Ttbr1El1 || false))))
four h page p =
    list_any-append (at_base page) (rules.register_values h p Ttbr0El2) _
    ∙ ap (λ (b : Bool). in_reg h page p Ttbr0El2 || b) (list_any-append (at_base page) (rules.register_values h p VttbrEl2) _
    ∙ ap (λ (b : Bool). in_reg h page p VttbrEl2 || b) (list_any-append (at_base page) (rules.register_values h p Ttbr0El1) _
    ∙ ap (λ (b : Bool). in_reg h page p Ttbr0El1 || b) (list_any-append (at_base page) (rules.register_values h p Ttbr1El1) [])))

-- the registers of the world are two of the four, where no value of another passes
four_same : (world : World) (a : Reg → Bool) → ((reg : Reg) → a reg ≡ true → kind_in_world world (kind_of_reg reg) ≡ true)
    → (a (first_reg world) || a (second_reg world)) ≡ (a Ttbr0El2 || (a VttbrEl2 || (a Ttbr0El1 || (a Ttbr1El1 || false))))
four_same (Hyp w) a k =
    proved 4 (λ x y z u. If (If (Is z true) (Is false true)) (If (If (Is u true) (Is false true))
    (Is (x || y) (x || (y || (z || (u || false))))))) refl
    (a Ttbr0El2) (a VttbrEl2) (a Ttbr0El1) (a Ttbr1El1) (k Ttbr0El1) (k Ttbr1El1)
four_same (Kernel w) a k =
    proved 4 (λ x y z u. If (If (Is x true) (Is false true)) (If (If (Is y true) (Is false true))
    (Is (z || u) (x || (y || (z || (u || false))))))) refl
    (a Ttbr0El2) (a VttbrEl2) (a Ttbr0El1) (a Ttbr1El1) (k Ttbr0El2) (k VttbrEl2)

module _ (heading : Heading) (laws : Laws heading) (proper : Proper heading) (h : List Event) (kept : keeps heading Patterns h ≡ true) where
  root_in_world : (kind : Kind) (page : ℕ) → is_root h kind page ≡ true → kind_in_world heading.world kind ≡ true
  root_in_world kind page root =
      let r = laws.root.of_kind h kind page root in
      let d = r.1 in
      ap (kind_in_world heading.world) (sym r.3)
      ∙ not-false (kind_in_world heading.world r.0.kind)
      (if_none (not (kind_in_world heading.world r.0.kind)) 0
      (laws.each_rule.sound h d.newer d.older (Root d.pe r.0.kind r.0.lock r.0.page) kept d.split WrongWorld))

  module _ (page : ℕ) (r : Declared) (at : root_at h page ≡ Some r) where
    is_declared : is_root h r.kind page ≡ true
    is_declared =
        let d = laws.root.of_page h page r at in ap (is_root h r.kind) (sym d.1) ∙ laws.root.is_of_kind h r d.0

    -- a base that is this page is a root of its register's kind
    base_root : (p : ℕ) → p < heading.pes → (reg : Reg) (v : ℕ) → In (rules.register_values h p reg) v → base_of v ≡ Some page
        → is_root h (kind_of_reg reg) page ≡ true
    base_root p less reg v i is =
        elim (laws.bases.named h proper kept p v page reg less (among_in v (rules.register_values h p reg) i) is) [
          | inl root ↦ root
          | inr null ↦ absurd (true≢false (sym is_declared ∙ laws.bases.null h proper kept r.kind page null))
        ]

    reg_same : (p : ℕ) → p < heading.pes → (reg : Reg) → names_in (loads_after h p reg) page ≡ in_reg h page p reg
    reg_same p less reg =
        any_map (names_page page) (load_in h reg) (rules.register_values h p reg)
        ∙ any_alike (λ v. names_page page (load_in h reg v)) (at_base page) (rules.register_values h p reg)
        (λ v i. one (base_of v) (base_root p less reg v i))
      where
        one : (base : Option ℕ) → (base ≡ Some page → is_root h (kind_of_reg reg) page ≡ true)
            → is_that (root_in h (kind_of_reg reg) base) page ≡ is_that base page
        one None k = refl
        one (Some b) k = by (b == page) refl
          where
            other : (d : Bool) → (b == page) ≡ false → is_that (if_so d b) page ≡ (b == page)
            other true e = refl
            other false e = sym e

            by : (c : Bool) → (b == page) ≡ c → is_that (if_so (is_root h (kind_of_reg reg) b) b) page ≡ (b == page)
            by true e =
                let same : b ≡ page = eqb-true b page e in
                ap (λ (d : Bool). is_that (if_so d b) page)
                (ap (is_root h (kind_of_reg reg)) same ∙ k (ap (λ (n : ℕ). Some n) same))
            by false e = other (is_root h (kind_of_reg reg) b) e

    in_world : (p : ℕ) → p < heading.pes → (reg : Reg) → in_reg h page p reg ≡ true
        → kind_in_world heading.world (kind_of_reg reg) ≡ true
    in_world p less reg e =
        let f = any_found (at_base page) (rules.register_values h p reg) e in
        root_in_world (kind_of_reg reg) page (base_root p less reg f.0 f.1 (base_there page (base_of f.0) f.2))

    uses_same : (p : ℕ) → p < heading.pes → uses h heading.world page p ≡ is_base_at h page p
    uses_same p less =
        ap (λ (b : Bool). b || names_in (loads_after h p (second_reg heading.world)) page) (reg_same p less (first_reg heading.world))
        ∙ ap (λ (b : Bool). in_reg h page p (first_reg heading.world) || b) (reg_same p less (second_reg heading.world))
        ∙ four_same heading.world (in_reg h page p) (in_world p less)
        ∙ sym (four h page p)

  -- ---- the rules on an `unroot`, in the order in which they are asked

  abbrev base_anywhere : ℕ → Bool
  base_anywhere page = some_pe heading.pes (is_base_at h page)

  abbrev used_by_tag : ℕ → Bool
  used_by_tag page = not heading.words.unflushed && nat_lt 0 (length (tags_of heading Patterns page h))

  abbrev lock_rule : ℕ → ℕ → Option ℕ
  lock_rule pe page = option_and_then (λ lock. if_so (lacks h pe lock) page) (lock_of h page)

  abbrev verdict : ℕ → Option ℕ → Bool → Bool → Option Breach
  verdict page lock absent used = or_rule NoLock lock (or_rule NoRoot (if_so absent page)
      (or_rule RootInUse (if_so (not absent && used) page) None))

  -- they depend on the history alone, without its notes
  pub unroot_is : (pe page : ℕ) (lock : Option ℕ) (absent used : Bool) → lock_rule pe page ≡ lock
      → is_none (root_at h page) ≡ absent → (base_anywhere page || used_by_tag page) ≡ used
      → broken heading Patterns h (Unroot pe page) ≡ verdict page lock absent used
  unroot_is pe page lock absent used is_lock is_absent is_used =
      broken_unroot heading h pe page
      ∙ ap (λ (es : List Event). or_rule NoLock (option_and_then (λ lock. if_so (lacks es pe lock) page) (lock_of es page))
      (or_rule NoRoot (if_so (is_none (root_at es page)) page)
      (or_rule RootInUse (if_so (not (is_none (root_at es page)) && (some_pe heading.pes (is_base_at es page)
      || (not heading.words.unflushed && nat_lt 0 (length (tags_of heading Patterns page es))))) page) None))) (laws.notes_keep_the_events h)
      ∙ rw (is_lock, is_absent, is_used) refl

  -- a page of which an `unroot` breaks no rule is that of a declared root that is no base
  pub unroot_free : (pe page : ℕ) → broken heading Patterns h (Unroot pe page) ≡ None
      → (is_none (root_at h page) ≡ false) × ((base_anywhere page || used_by_tag page) ≡ false)
  unroot_free pe page none =
      by page (lock_rule pe page) (is_none (root_at h page)) (base_anywhere page || used_by_tag page)
      (sym (unroot_is pe page (lock_rule pe page) _ _ refl refl refl) ∙ none)
    where
      by : (page : ℕ) (lock : Option ℕ) (absent used : Bool) → verdict page lock absent used ≡ None
          → (absent ≡ false) × (used ≡ false)
      by page (Some at) absent used e = absurd (cc)
      by page None true used e = absurd (cc)
      by page None false true e = absurd (cc)
      by page None false false e = (refl, refl)

-- ---- by roots that stand for the history

module _ (laws : (heading : Heading) → Laws heading) (roots : Roots) (heading : Heading) (h : List Event)
    (s : Stands roots heading h) (page : ℕ) where
  -- one of the log does where the columns say so
  pub user_is : (r : Declared) → root_at h page ≡ Some r → (p : ℕ) → p < heading.pes
      → (names_in (loads_in roots.registers.first.items p) page || names_in (loads_in roots.registers.second.items p) page)
      ≡ is_base_at h page p
  user_is r at p less =
      rw (s.first p less, s.second p less)
      (uses_same heading (laws heading) ((laws heading).proper s.proper) h s.kept page r at p less)

  -- whether some PE uses it, by the first that does
  pub base_is : (r : Declared) → root_at h page ≡ Some r → (o : Option ℕ)
      → IsLeast UpTo (λ p. nat_lt p (pes_of roots) && uses_at roots.registers p page) o
      → is_some o ≡ some_pe heading.pes (is_base_at h page)
  base_is r at None k =
      sym (pe_none heading.pes (is_base_at h page) (λ p less.
      let pes = s.pes in let below : p < pes_of roots = omega (arith, less) in
      sym (user_is r at p less) ∙ (sym (ap (λ (b : Bool). b && uses_at roots.registers p page) (lt-ltb p (pes_of roots) below)) ∙ k p)))
  base_is r at (Some q) k =
      let below = ltb-true q (pes_of roots) (first_true (nat_lt q (pes_of roots)) (uses_at roots.registers q page) k.0) in
      let pes = s.pes in let less : q < heading.pes = omega (arith, below) in
      sym (pe_finds heading.pes (is_base_at h page) q less (sym (user_is r at q less)
      ∙ and_right (nat_lt q (pes_of roots)) (uses_at roots.registers q page) k.0))
