-- What a search with the least reads finds is the first plain conflict run of all.
use Rattle.bbm_counterrun.proofs.Common.{Kind, Entry, extended, may_extend, HasLeastReads, IsFirst, IsPlain, Plan, Read}
use Rattle.bbm_counterrun.proofs.Common.{by_combine, by_number, by_reads, comes_before, reads_of, FindsAll, plain_at}
use Rattle.bbm_counterrun.proofs.Common.{plan_found, plan_of, first_events, is_plain, may_extend_by, started_by, Goal}
use Rattle.bbm_counterrun.proofs.Common.{way_to}
use Rattle.bbm_rules.proofs.Common.{◌≡◌, ℕ, suc, ◌+◌, ◌<◌, ◌≤◌, arith, Bool, true, ◌↔◌, ◌==◌, List, [], ◌∷◌, length}
use Rattle.bbm_rules.proofs.Common.{Option, Some, None, refl, sym, ◌∙◌, true≢false, and_parts, false_from_ne_true}
use Rattle.bbm_rules.proofs.Common.{desc_of, Desc, Table, is_that, page_of, Heading, Event, Write, start_of, next_in}
use Rattle.std.proofs.lemmas.Bool.Decides.{nat_tests}
use Rattle.bbm_lemmas.proofs.Bools.{first_true}
use Rattle.bbm_tlb_machine.proofs.PartLemmas.{table_above}
use Rattle.bbm_counterrun.specs.Searching.{Found}
use Rattle.bbm_counterrun.proofs.FirstOfLeast.{first_of_least, with_least}
use Rattle.bbm_counterrun.proofs.Order.{reads_itself}
use Rattle.bbm_counterrun.proofs.PlainTest.{plain_parts, within_parts}

-- a plain plan has at most four reads, one for each level
table_of : (d : Desc) (n : ℕ) → is_that (next_in d) n ≡ true → (next : ℕ) × (ns : Bool) × (d ≡ Table next ns) × ((next == n) ≡ true)
table_of (Table next ns) n k = (next, ns, refl, k)
table_of _ n k = absurd (true≢false (sym k))

walk_short : (heading : Heading) (h : List Event) (x : Entry) (rs : List Read) → x.last.level ≤ 3 → may_extend_by heading h x rs ≡ true
    → length rs + x.last.level ≤ 3
walk_short heading h x [] le e = omega (arith, le)
walk_short heading h x (r ∷ rs) le e =
    let a = and_parts (may_extend heading h x r.place r.value) _ e in
    let t = table_of (desc_of x.last.kind x.last.level x.last.value) (page_of r.place) (and_parts _ _ (first_true _ _ (first_true _ _ a.0))).1 in
    let low : x.last.level < 3 = table_above x.last.kind x.last.level x.last.value (page_of r.place) t.0 t.1 le t.2 t.3 in
    let rest : length rs + suc x.last.level ≤ 3 = walk_short heading h (extended x r.place r.value) rs (omega (arith, low)) a.1 in
    omega (arith, rest)

pub reads_short : (heading : Heading) (h : List Event) (e : Event) (k p : ℕ) (kind : Kind) (number : ℕ) (rs : List Read) (o : Option ℕ)
    → start_of heading.world kind ≤ 3 → is_plain heading h e (plan_of k p kind number rs o) ≡ true → length rs ≤ 4
reads_short heading h e k p kind number [] o start plain = omega arith
reads_short heading h e k p kind number (r ∷ rs) o start plain =
    let walk = (plain_parts heading h e (plan_of k p kind number (r ∷ rs) o) plain).1 in
    let short : length rs + start_of heading.world kind ≤ 3
    = walk_short heading (first_events k h) (started_by heading (plan_of k p kind number (r ∷ rs) o)) rs start (and_parts _ _ walk).1 in
    omega (arith, short)

-- what is found is plain
module _ (heading : Heading) (h : List Event) (pe place value : ℕ) (kind : Kind) (way : List Goal) (f : Found)
    (finds : FindsAll heading h (Write 0 place value) kind way heading.pes (Some f)) where
  found_is_plain : is_plain heading h (Write pe place value) (plan_found kind f) ≡ true
  found_is_plain = rw finds.2.1.2 at finds.2.1.3.0.0

  pub found_is_short : start_of heading.world kind < 4 → length f.reads ≤ 4
  found_is_short start =
      reads_short heading h (Write pe place value) f.starts f.pe kind f.choice.number f.reads f.choice.combines (omega (arith, start)) found_is_plain

-- the order of a plan and one that is made of its keys
abbrev listed : List Read → List Read
listed [] = record { place = 0; value = 0 } ∷ []
listed (r ∷ rs) = r ∷ rs

keyed_is : (a : Plan) (starts pe : ℕ) (kind : Kind) (number : ℕ) (reads : List Read) (combines : Option ℕ)
    → comes_before a (plan_of starts pe kind number reads combines) ≡ by_number a.starts starts (by_number a.pe pe
    (by_number a.number number (by_reads (reads_of a) (listed reads) (by_combine a.combines combines))))
keyed_is a starts pe kind number [] combines = refl
keyed_is a starts pe kind number (r ∷ rs) combines = refl

none_by_keys : (k s p q n m : ℕ) (next : Bool) → by_number k s (by_number p q (by_number n m next)) ≡ true → (k < s → ⊥)
    → (k ≡ s → p < q → ⊥) → (k ≡ s → p ≡ q → n < m → ⊥) → (k ≡ s → p ≡ q → n ≡ m → next ≡ true → ⊥) → ⊥
none_by_keys k s p q n m next e a b c d = grind (arith, nat_tests)

module _ (heading : Heading) (h : List Event) (pe place value : ℕ) (kind : Kind)
    (tested : (plan : Plan) → IsPlain heading h (Write pe place value) plan ↔ (is_plain heading h (Write pe place value) plan ≡ true))
    (has : (plan : Plan) → IsPlain heading h (Write pe place value) plan → HasLeastReads heading h (Write pe place value) place plan)
    (kinds : (plan : Plan) → IsPlain heading h (Write pe place value) plan → plan.kind ≡ kind) where
  -- the search tries a plan with its least reads
  tries : (plan : Plan) → IsPlain heading h (Write pe place value) plan
      → plain_at heading h (Write 0 place value) kind (way_to heading h place) plan.starts plan.pe plan.number plan.combines ≡ true
  tries plan k = rw ((has plan k).reads, ← kinds plan k) (has plan k).plain

  pub none_first : FindsAll heading h (Write 0 place value) kind (way_to heading h place) heading.pes None
      → (plan : Plan) → IsPlain heading h (Write pe place value) plan → ⊥
  none_first none plan k =
      let w = within_parts plan (length h) k.within in
      true≢false (sym (tries plan k) ∙ none plan.starts w.0 w.1 plan.pe (has plan k).is_pe plan.number plan.combines)

  pub found_first : (f : Found) → FindsAll heading h (Write 0 place value) kind (way_to heading h place) heading.pes (Some f)
      → IsFirst heading h (Write pe place value) (plan_found kind f)
  found_first f finds =
      first_of_least heading h (Write pe place value) place has (plan_found kind f)
      ((tested (plan_found kind f)).1 (found_is_plain heading h pe place value kind (way_to heading h place) f finds))
      (λ other k. false_from_ne_true _ (after other k))
    where
      -- no other comes before, key by key
      after : (other : Plan) (k : IsPlain heading h (Write pe place value) other)
          → comes_before (with_least heading h (Write pe place value) place other (has other k)) (plan_found kind f) ≡ true → ⊥
      after other k before =
          let least = has other k in
          let plain = tries other k in
          none_by_keys other.starts f.starts other.pe f.pe other.number f.choice.number _
          (sym (keyed_is (with_least heading h (Write pe place value) place other least) f.starts f.pe kind f.choice.number f.reads
          f.choice.combines) ∙ before)
          (λ less. let none = finds.3 other.starts (within_parts other (length h) k.within).0 less other.pe least.is_pe
          other.number other.combines in cc)
          (λ start less. let none = finds.2.2 other.pe less other.number other.combines in cc)
          (λ start at less. let none = finds.2.1.3.1 other.number other.combines less in cc)
          (λ start at number next.
          let reads = finds.2.1.2 in
          let are = least.reads in
          let same : f.reads ≡ least.first ∷ least.rest = cc in
          let none = finds.2.1.3.0.1 other.combines
          (sym (reads_itself (least.first ∷ least.rest) (by_combine other.combines f.choice.combines)) ∙ rw same at next) in cc)
