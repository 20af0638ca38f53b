-- Whether a register write may be taken, by the rules and by what the roots tell.
use Rattle.bbm_roots.proofs.Common.{flat_map, option_and_then, Patterns, names_null, root_in, has_null_base, Laws}
use Rattle.bbm_rules.proofs.Common.{◌≡◌, ℕ, ◌≤◌, Bool, true, false, not, ◌&&◌, ◌||◌, ◌==◌, cond, List, []}
use Rattle.bbm_rules.proofs.Common.{◌∷◌, ◌++◌}
use Rattle.std.proofs.Common.{◌⊎◌}
use Rattle.bbm_rules.proofs.Common.{map, length, min, Option, Some, None, Result, Ok, Err, refl, sym, ap, ◌∙◌, subst}
use Rattle.bbm_rules.proofs.Common.{true≢false, inl, inr, arith, list_any, option_map_or, and_from, and_parts, eqb-true}
use Rattle.bbm_rules.proofs.Common.{eq-eqb, le-leb, or_cases, or_left, or_right, pe_finds, Which, Reg}
use Rattle.bbm_rules.proofs.Common.{Ttbr0El1, Tag}
use Rattle.bbm_rules.proofs.Common.{Heading, Event, Msr, Answers, keeps, same_tag, noted, among, if_so, least, Noted}
use Rattle.bbm_rules.proofs.Common.{is_null, base_of, kind_of_reg, same_reg, Declared, is_at, is_root}
use Rattle.bbm_rules.proofs.Common.{register_values, roots_of, same_kind, no_root, tag_conflict, Reading}
use Rattle.bbm_rules.proofs.Common.{holds_at, holds_tag, readings, reads, limit_of}
use Rattle.bbm_rules.specs.Roots.{given_up}
use Rattle.bbm_rules.specs.Tags.{ends, left_at, left_tag}
use Rattle.bbm_events.specs.Heading.{nulls_everywhere}
use Rattle.std.specs.List.{filter}
use Rattle.std.specs.Option.{unwrap_or}
use Rattle.std.proofs.lemmas.Bool.{lt-leb}
use Rattle.bbm_lemmas.specs.Elements.{In}
use Rattle.bbm_lemmas.proofs.Elements.{any_finds, any_found, from_filter, from_flat, from_map, in_map, to_filter}
use Rattle.bbm_lemmas.proofs.Elements.{from_contains, in_append, in_left, in_right, to_flat}
use Rattle.bbm_lemmas.proofs.Numbers.{same_swapped}
use Rattle.bbm_lemmas.proofs.Words.{among_in, in_among, pe_found}
use Rattle.bbm_regimes.specs.declared.regime.Which.TheVariants.{Values as ValuesLimit}
use Rattle.bbm_rules.proofs.TagPagesLaw.{read_root}
use Rattle.bbm_rules.specs.Broken.{broken}
use Rattle.bbm_rules.specs.Prelude.{Kind}
use Rattle.bbm_rules.specs.Rules.{wrong_world}
use Rattle.bbm_rules.specs.declared.rule.Rule.{Rule}
use Rattle.bbm_rules.specs.declared.rule.Rule.TheVariants.{NoRoot, TagConflict, WrongWorld}
use Rattle.bbm_rules.specs.declared.step_fault.StepFault.{StepFault}
use Rattle.bbm_rules.specs.declared.step_fault.StepFault.TheVariants.{Broken, Limit, NoMemory}
use Rattle.bbm_roots.specs.LeastOf.{IsLeast, ReadingUpTo}
use Rattle.bbm_roots.specs.Refusals.{JudgesReadings, conflicts, missing_root, unless_root}
use Rattle.bbm_histories.specs.TagSteps.{kind_of_tag}
use Rattle.bbm_histories.specs.TreeChanges.{Proper}
use Rattle.bbm_roots.proofs.Judge.{broken_msr, or_rule}

-- ---- the least number of a list

least_none : (ns : List ℕ) → ((n : ℕ) → among n ns ≡ true → ⊥) → least ns ≡ None
least_none [] k = refl
least_none (n ∷ ns) k = absurd (k n (or_left (n == n) (among n ns) (eq-eqb n n refl)))

least_some : (ns : List ℕ) (n : ℕ) → among n ns ≡ true → ((m : ℕ) → among m ns ≡ true → n ≤ m) → least ns ≡ Some n
least_some [] n e k = absurd (true≢false (sym e))
least_some (m ∷ ns) n e k =
    let first : n ≤ m = k m (or_left (m == m) (among m ns) (eq-eqb m m refl)) in
    ap (λ (x : ℕ). Some x) (elim (or_cases (m == n) (among n ns) e) [
      | inl here ↦ let same : m ≡ n = eqb-true m n here in by_first m n same (least ns) (rest_least ns n (λ x f. k x (or_right (m == x) (among x ns) f)))
      | inr there ↦
          ap (λ (o : Option ℕ). min m (unwrap_or o m)) (least_some ns n there (λ x f. k x (or_right (m == x) (among x ns) f)))
          ∙ (let same : min m n ≡ n = omega arith in same)
    ])
  where
    AtLeast : ℕ → Option ℕ → Type 0
    AtLeast n o = (x : ℕ) → o ≡ Some x → n ≤ x

    rest_least : (ns : List ℕ) (n : ℕ) → ((x : ℕ) → among x ns ≡ true → n ≤ x) → (x : ℕ) → least ns ≡ Some x → n ≤ x
    rest_least [] n k x e = let never : None ≡ Some x = e in cc
    rest_least (y ∷ ys) n k x e =
        let a : n ≤ y = k y (or_left (y == y) (among y ys) (eq-eqb y y refl)) in
        let is : min y (unwrap_or (least ys) y) ≡ x = cc in
        by (least ys) refl is a (rest_least ys n (λ z f. k z (or_right (y == z) (among z ys) f)))
      where
        by : (o : Option ℕ) → least ys ≡ o → min y (unwrap_or (least ys) y) ≡ x → n ≤ y → ((z : ℕ) → least ys ≡ Some z → n ≤ z) → n ≤ x
        by None f is a rest = let g : min y y ≡ x = ap (λ (o : Option ℕ). min y (unwrap_or o y)) (sym f) ∙ is in omega arith
        by (Some z) f is a rest =
            let b : n ≤ z = rest z f in
            let g : min y z ≡ x = ap (λ (o : Option ℕ). min y (unwrap_or o y)) (sym f) ∙ is in omega arith

    by_first : (m n : ℕ) → m ≡ n → (o : Option ℕ) → ((x : ℕ) → o ≡ Some x → n ≤ x) → min m (unwrap_or o m) ≡ n
    by_first m n same None k = omega arith
    by_first m n same (Some x) k = let b : n ≤ x = k x refl in omega arith

-- ---- the pages of the roots that pass a test

abbrev pages_with : (Declared → Bool) → List Declared → List ℕ
pages_with test rs = map (λ r. r.page) (filter test rs)

-- ---- the roots that hold a tag which is readable for another, and those that left one which is readable

abbrev test_of : (ℕ → Tag → Bool) → Reading → Declared → Bool
test_of holds r s = not (s.page == r.root) && holds s.page r.tag

abbrev clash_in : List Reading → ℕ → Tag → Bool
clash_in rs n tag = list_any (λ r. same_tag r.tag tag && not (r.root == n)) rs

abbrev read_in : List Reading → Tag → Bool
read_in rs tag = list_any (λ r. same_tag r.tag tag) rs

module _ (holds lefts : ℕ → Tag → Bool) (roots : List Declared) (given : List ℕ) (rs : List Reading) where
  abbrev holders : Reading → List ℕ
  holders r = pages_with (test_of holds r) roots

  abbrev givers : Reading → List ℕ
  givers r = filter (λ page. lefts page r.tag) given

  abbrev keepers : Reading → List ℕ
  keepers r = holders r ++ givers r

  clash_found : (own : (g : Tag) → same_tag g g ≡ true) (m : ℕ) → among m (flat_map keepers rs) ≡ true
      → (tag : Tag) × (((clash_in rs m tag && holds m tag) || (read_in rs tag && lefts m tag)) ≡ true)
  clash_found own m e =
      let f = from_flat keepers rs m (in_among m (flat_map keepers rs) e) in
      (f.0.tag, by f.0 f.1 (in_append (holders f.0) (givers f.0) m f.2))
    where
      by : (r : Reading) → In rs r → In (holders r) m ⊎ In (givers r) m
          → ((clash_in rs m r.tag && holds m r.tag) || (read_in rs r.tag && lefts m r.tag)) ≡ true
      by r there (inl i) =
          let s = from_map (λ (s : Declared). s.page) (filter (test_of holds r) roots) m i in
          let parts = and_parts (not (s.0.page == r.root)) (holds s.0.page r.tag)
          (from_filter (test_of holds r) roots s.0 s.1).1 in
          or_left (clash_in rs m r.tag && holds m r.tag) (read_in rs r.tag && lefts m r.tag)
          (and_from (clash_in rs m r.tag) (holds m r.tag)
          (any_finds (λ x. same_tag x.tag r.tag && not (x.root == m)) rs r there
          (and_from (same_tag r.tag r.tag) (not (r.root == m)) (own r.tag)
          (ap (λ (b : Bool). not b) (same_swapped r.root m ∙ ap (λ (n : ℕ). n == r.root) (sym s.2)) ∙ parts.0)))
          (ap (λ (n : ℕ). holds n r.tag) (sym s.2) ∙ parts.1))
      by r there (inr i) =
          or_right (clash_in rs m r.tag && holds m r.tag) (read_in rs r.tag && lefts m r.tag)
          (and_from (read_in rs r.tag) (lefts m r.tag) (any_finds (λ x. same_tag x.tag r.tag) rs r there (own r.tag))
          (from_filter (λ page. lefts page r.tag) given m i).1)

  module _ (same : (g k : Tag) → same_tag g k ≡ true → g ≡ k) (n : ℕ) (tag : Tag) where
    clash_finds : clash_in rs n tag ≡ true → holds n tag ≡ true → list_any (is_at n) roots ≡ true
        → among n (flat_map keepers rs) ≡ true
    clash_finds e k root =
        let r = any_found (λ r. same_tag r.tag tag && not (r.root == n)) rs e in
        let s = any_found (is_at n) roots root in
        let at : s.0.page ≡ n = eqb-true s.0.page n s.2 in
        let parts = and_parts (same_tag r.0.tag tag) (not (r.0.root == n)) r.2 in
        among_in n (flat_map keepers rs)
        (to_flat keepers rs r.0 n r.1 (in_left (holders r.0) (givers r.0) n
        (subst (In (holders r.0)) at (in_map (λ (x : Declared). x.page) (filter (test_of holds r.0) roots) s.0
        (to_filter (test_of holds r.0) roots s.0 s.1 (and_from (not (s.0.page == r.0.root)) (holds s.0.page r.0.tag)
        (ap (λ (x : ℕ). not (x == r.0.root)) at ∙ (ap (λ (b : Bool). not b) (same_swapped n r.0.root) ∙ parts.1))
        (ap (λ (x : ℕ). holds x r.0.tag) at ∙ (ap (holds n) (same r.0.tag tag parts.0) ∙ k))))))))

    giver_finds : read_in rs tag ≡ true → lefts n tag ≡ true → In given n → among n (flat_map keepers rs) ≡ true
    giver_finds e k i =
        let r = any_found (λ r. same_tag r.tag tag) rs e in
        among_in n (flat_map keepers rs) (to_flat keepers rs r.0 n r.1 (in_right (holders r.0) (givers r.0) n
        (to_filter (λ page. lefts page r.0.tag) given n i (ap (lefts n) (same r.0.tag tag r.2) ∙ k))))

-- ---- a declared root

any_at : (kind : Kind) (n : ℕ) (rs : List Declared) → list_any (λ r. is_at n r && same_kind r.kind kind) rs ≡ true → list_any (is_at n) rs ≡ true
any_at kind n rs e =
    let f = any_found (λ (r : Declared). is_at n r && same_kind r.kind kind) rs e in
    any_finds (is_at n) rs f.0 f.1 (and_parts (is_at n f.0) (same_kind f.0.kind kind) f.2).0

-- ---- the write

-- the base of a value is told to be a null page where it is one: then it is no declared root
pub null_names_none : (heading : Heading) (h : List Event) (reg : Reg) (value : ℕ) (null : Bool) → null ≡ has_null_base h value
    → ((kind : Kind) (page : ℕ) → is_null h page ≡ true → is_root h kind page ≡ false) → names_null heading reg null ≡ true
    → root_in h (kind_of_reg reg) (base_of value) ≡ None
null_names_none heading h reg value null told apart k = by (base_of value) (ap (names_null heading reg) (sym told) ∙ k)
  where
    by : (base : Option ℕ) → names_null heading reg (option_map_or (λ b. is_null h b) base false) ≡ true
        → root_in h (kind_of_reg reg) base ≡ None
    by None e = refl
    by (Some b) e =
        ap (λ (x : Bool). if_so x b) (apart (kind_of_reg reg) b
        (and_parts (nulls_everywhere heading.version || same_reg reg Ttbr0El1) (is_null h b) e).1)

module _ (heading : Heading) (laws : Laws heading) (proper : Proper heading) (h : List Event) (kept : keeps heading Patterns h ≡ true)
    (pe : ℕ) (reg : Reg) (value : ℕ) where
  abbrev notes : List Noted
  notes = noted heading Patterns h

  abbrev may_be_null : Bool
  may_be_null = nulls_everywhere heading.version || same_reg reg Ttbr0El1

  missing_same : missing_root heading h reg value (has_null_base h value) ≡ no_root heading Patterns notes (Msr pe reg value)
  missing_same = by (base_of value)
      ∙ ap (λ (es : List Event). option_and_then (λ b. if_so (not (is_root es (kind_of_reg reg) b || (may_be_null && is_null es b))) b) (base_of value))
      (sym (laws.notes_keep_the_events h))
    where
      by : (base : Option ℕ)
          → unless_root h (kind_of_reg reg) (cond (may_be_null && option_map_or (λ b. is_null h b) base false) None base)
          ≡ option_and_then (λ b. if_so (not (is_root h (kind_of_reg reg) b || (may_be_null && is_null h b))) b) base
      by None = none (may_be_null && false)
        where
          none : (x : Bool) → unless_root h (kind_of_reg reg) (cond x None None) ≡ None
          none true = refl
          none false = refl
      by (Some b) = one (is_root h (kind_of_reg reg) b) (may_be_null && is_null h b) refl
        where
          one : (r x : Bool) → is_root h (kind_of_reg reg) b ≡ r → unless_root h (kind_of_reg reg) (cond x None (Some b))
              ≡ if_so (not (is_root h (kind_of_reg reg) b || x)) b
          one r false is = ap (λ (c : Bool). cond c None (Some b)) is ∙ (two r ∙ ap (λ (c : Bool). if_so (not (c || false)) b) (sym is))
            where
              two : (c : Bool) → cond c None (Some b) ≡ if_so (not (c || false)) b
              two true = refl
              two false = refl
          one true true is = ap (λ (c : Bool). if_so (not (c || true)) b) (sym is)
          one false true is = ap (λ (c : Bool). if_so (not (c || true)) b) (sym is)

  abbrev after : List Event
  after = Msr pe reg value ∷ h

  abbrev holds_after : ℕ → Tag → Bool
  holds_after n tag = holds_tag heading Patterns n tag after

  abbrev left_after : ℕ → Tag → Bool
  left_after n tag = left_tag heading Patterns n tag after

  module _ (rule : no_root heading Patterns notes (Msr pe reg value) ≡ None) where
    held_root : (n : ℕ) (tag : Tag) → holds_after n tag ≡ true → list_any (is_at n) (roots_of after) ≡ true
    held_root n tag e =
        let f = pe_found heading.pes (λ p. holds_at heading Patterns p n tag after) e in
        elim (or_cases (reads heading after f.0 tag n) _ f.2) [
          | inl read ↦ let r = read_root heading.words.inorder heading.world after f.0 n tag
              (laws.readable_tag.sound after f.0 tag n read) in any_at r.0 n (roots_of after) r.1
          | inr before ↦
              any_at (kind_of_tag tag) n (roots_of h) (laws.tags.root h proper kept n tag
              (pe_finds heading.pes (λ p. holds_at heading Patterns p n tag h) f.0 f.1
              (and_parts (holds_at heading Patterns f.0 n tag h) (not (ends heading Patterns f.0 n tag (Msr pe reg value) h)) before).0))
        ]

    -- a root that left a tag was given up
    left_given : (n : ℕ) (tag : Tag) → left_after n tag ≡ true → In (given_up after) n
    left_given n tag e =
        let f = pe_found heading.pes (λ p. left_at heading Patterns p n tag after) e in
        from_contains (given_up after) n (laws.tag_left.listed f.0 n tag after f.2)

    abbrev clashing : List ℕ
    clashing = flat_map (keepers holds_after left_after (roots_of after) (given_up after) (readings heading after pe))
        (readings heading after pe)

    conflict_is : tag_conflict heading Patterns notes (Msr pe reg value) ≡ least clashing
    conflict_is = ap (λ (es : List Event). tag_conflict_after (Msr pe reg value ∷ es)) (laws.notes_keep_the_events h)
      where
        tag_conflict_after : List Event → Option ℕ
        tag_conflict_after es = least (flat_map (keepers (λ n tag. holds_tag heading Patterns n tag es)
            (λ n tag. left_tag heading Patterns n tag es) (roots_of es) (given_up es) (readings heading es pe))
            (readings heading es pe))

    found : (m : ℕ) → among m clashing ≡ true
        → (tag : Tag) × (conflicts heading after pe (record { tag = tag; root = m }) ≡ true)
    found = clash_found holds_after left_after (roots_of after) (given_up after) (readings heading after pe)
        (λ g. (laws.equality_tests.tags g g).1 refl)

    no_conflict : IsLeast ReadingUpTo (conflicts heading after pe) None
        → tag_conflict heading Patterns notes (Msr pe reg value) ≡ None
    no_conflict none = conflict_is ∙ least_none clashing (λ m e. let f = found m e in true≢false (sym f.1 ∙ none (record { tag = f.0; root = m })))

    one_conflict : (tag : Tag) (n : ℕ)
        → IsLeast ReadingUpTo (conflicts heading after pe) (Some (record { tag = tag; root = n }))
        → tag_conflict heading Patterns notes (Msr pe reg value) ≡ Some n
    one_conflict tag n k =
        conflict_is ∙ least_some clashing n (elim (or_cases (clash_in rs n tag && holds_after n tag) (read_in rs tag && left_after n tag) k.0) [
          | inl e ↦ let both = and_parts (clash_in rs n tag) (holds_after n tag) e in
              clash_finds holds_after left_after (roots_of after) (given_up after) rs (λ g l. (laws.equality_tests.tags g l).0)
              n tag both.0 both.1 (held_root n tag both.1)
          | inr e ↦ let both = and_parts (read_in rs tag) (left_after n tag) e in
              giver_finds holds_after left_after (roots_of after) (given_up after) rs (λ g l. (laws.equality_tests.tags g l).0)
              n tag both.0 both.1 (left_given n tag both.1)
        ]) (λ m e. let f = found m e in (k.1 (record { tag = f.0; root = m }) f.1).0)
      where
        rs : List Reading
        rs = readings heading after pe

  broken_is : (o p : Option ℕ) → wrong_world heading Patterns notes (Msr pe reg value) ≡ None → no_root heading Patterns notes (Msr pe reg value) ≡ o
      → tag_conflict heading Patterns notes (Msr pe reg value) ≡ p
      → broken heading Patterns h (Msr pe reg value) ≡ or_rule NoRoot o (or_rule TagConflict p None)
  broken_is o p w e f =
      broken_msr heading h pe reg value
      ∙ (ap (λ (x : Option ℕ). or_rule WrongWorld x (or_rule NoRoot (no_root heading Patterns notes (Msr pe reg value))
      (or_rule TagConflict (tag_conflict heading Patterns notes (Msr pe reg value)) None))) w
      ∙ (ap (λ (x : Option ℕ). or_rule NoRoot x (or_rule TagConflict (tag_conflict heading Patterns notes (Msr pe reg value)) None)) e
      ∙ ap (λ (x : Option ℕ). or_rule NoRoot o (or_rule TagConflict x None)) f))

  -- a register of another world, or a value that asks to share
  pub write_elsewhere : (at : ℕ) → wrong_world heading Patterns notes (Msr pe reg value) ≡ Some at
      → broken heading Patterns h (Msr pe reg value) ≡ Some (record { rule = WrongWorld; at = at })
  write_elsewhere at e = broken_msr heading h pe reg value
      ∙ ap (λ (x : Option ℕ). or_rule WrongWorld x (or_rule NoRoot (no_root heading Patterns notes (Msr pe reg value))
      (or_rule TagConflict (tag_conflict heading Patterns notes (Msr pe reg value)) None))) e

  module _ (world : wrong_world heading Patterns notes (Msr pe reg value) ≡ None) where
    -- a value whose root is missing
    pub write_missing : (base : ℕ) → missing_root heading h reg value (has_null_base h value) ≡ Some base
        → broken heading Patterns h (Msr pe reg value) ≡ Some (record { rule = NoRoot; at = base })
    write_missing base k = broken_is (Some base) _ world (sym missing_same ∙ k) refl

    -- one whose root isn't
    pub write_judged : missing_root heading h reg value (has_null_base h value) ≡ None → (result : Result (Unit {0}) StepFault)
        → JudgesReadings (conflicts heading after pe) (length (register_values h pe reg)) result
        → Answers result (broken heading Patterns h (Msr pe reg value)) (limit_of h (Msr pe reg value))
    write_judged there (Ok done) k =
        let rule = sym missing_same ∙ there in (
          broken_is None None world rule (no_conflict rule k.0),
          ap (λ (b : Bool). if_so b ValuesLimit) (lt-leb 9 (length (register_values h pe reg)) k.1),
        )
    write_judged there (Err (Broken r at)) k =
        let rule = sym missing_same ∙ there in
        broken_is None (Some at) world rule (one_conflict rule k.1 at k.2)
        ∙ ap (λ (x : Rule). Some (record { rule = x; at = at })) (sym k.0)
    write_judged there (Err (Limit which)) k =
        let rule = sym missing_same ∙ there in (
          broken_is None None world rule (no_conflict rule k.1),
          ap (λ (b : Bool). if_so b ValuesLimit) (le-leb 9 (length (register_values h pe reg)) k.2)
              ∙ ap (λ (w : Which). Some w) (sym k.0),
        )
    write_judged there (Err NoMemory) k = tt
