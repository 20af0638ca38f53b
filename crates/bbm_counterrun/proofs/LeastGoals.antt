-- The least reads of a way: of each place the least value that means the same, at most what a walk read there.
use Rattle.bbm_counterrun.proofs.Common.{Patterns, Read, by_number, by_reads, Goal, is_like, least_read, least_reads}
use Rattle.bbm_counterrun.proofs.Common.{written_at}
use Rattle.bbm_rules.proofs.Common.{◌≡◌, ℕ, suc, ◌≤◌, arith, min, Bool, true, false, ◌&&◌, not, ◌==◌, cond, List, []}
use Rattle.bbm_rules.proofs.Common.{◌∷◌, map, filter, filter_map, Option, Some, unwrap_or, ◌⊎◌, inl, inr, refl, sym}
use Rattle.bbm_rules.proofs.Common.{◌∙◌, ap, true≢false, and_from, and_parts, not-true, not_from_false, In, from_filter}
use Rattle.bbm_rules.proofs.Common.{to_filter, Kind, is_valid, needs, among, least, page_of, Heading, Event, Init}
use Rattle.bbm_rules.proofs.Common.{Write, is_readable, noted, published, readable_before}
use Rattle.std.proofs.lemmas.Bool.Decides.{nat_tests}
use Rattle.bbm_counterrun.specs.Ways.{goal_among}
use Rattle.bbm_counterrun.proofs.Sights.{IsLikeRead, LikeReads}
use Rattle.bbm_tlb_machine.proofs.Descs.{CoreLaw, means_same}

-- ---- the least number of a list

record IsLeast (xs : List ℕ) : Type 0 where
  number : ℕ
  is : least xs ≡ Some number
  has : In xs number
  below : (v : ℕ) → In xs v → number ≤ v

one_of : (a b : ℕ) → (a ≡ min a b) ⊎ (b ≡ min a b)
one_of a b = grind arith

least_of : (n : ℕ) (ms : List ℕ) → IsLeast (n ∷ ms)
least_of n [] = record {
  number = min n n;
  is = refl;
  has = inl (omega arith);
  below = λ v i. elim i [ inl e ↦ omega (arith, e) | inr j ↦ absurd j ];
}
least_of n (k ∷ ms) =
    let rest = least_of k ms in record {
      number = min n rest.number;
      is = ap (λ o. Some (min n (unwrap_or o n))) rest.is;
      has = elim (one_of n rest.number) [ inl same ↦ inl same | inr same ↦ inr (rw same at rest.has) ];
      below = λ v i. elim i [ inl e ↦ omega (arith, e) | inr j ↦ let le = rest.below v j in omega (arith, le) ];
    }

least_with : (xs : List ℕ) (v : ℕ) → In xs v → IsLeast xs
least_with [] v i = absurd i
least_with (n ∷ ms) v i = least_of n ms

-- ---- a value that can be read and isn't 0 was written

write_more : (b c : Bool) (v value : ℕ) (rest written : List ℕ) → among v (cond b (value ∷ cond c [] rest) rest) ≡ true
    → (among v rest ≡ true → In written v) → In (cond b (value ∷ written) written) v
write_more b c v value rest written e older = grind (arith, nat_tests)

init_more : (b : Bool) (v : ℕ) (rest written : List ℕ) → (v ≡ 0 → ⊥) → among v (cond b (0 ∷ []) rest) ≡ true
    → (among v rest ≡ true → In written v) → In written v
init_more b v rest written n e older = grind (arith, nat_tests)

module _ (heading : Heading) where
  pub written : (later h : List Event) (place p v : ℕ) → (v ≡ 0 → ⊥) → among v (readable_before heading later h place p) ≡ true
      → In (written_at h place) v
  written later [] place p v n e = init_more true v [] [] n e (λ k. absurd (true≢false (sym k)))
  written later (Write q at value ∷ h) place p v n e =
      write_more (at == place) (published heading q p later) v value _ _ e (written (Write q at value ∷ later) h place p v n)
  written later (Init q page ∷ h) place p v n e =
      init_more (page == page_of place) v _ _ n e (written (Init q page ∷ later) h place p v n)
  written later (event ∷ h) place p v n e = written (event ∷ later) h place p v n e

-- ---- values of one core mean the same

pub zero_is_invalid : (kind : Kind) (level value : ℕ) → is_valid kind level value ≡ true → value ≡ 0 → ⊥
zero_is_invalid kind level value v e = true≢false (sym v ∙ ap (is_valid kind level) e)

-- ---- the least reads of a way

abbrev pub goal_at : Heading → List Event → ℕ → Option Goal
goal_at heading h = goal_among heading Patterns (noted heading Patterns h)

-- what the place of a read holds has the core of the value that was read, and that could be read when the first events
-- of the log were taken
pub record HasGoal (heading : Heading) (h first : List Event) (p : ℕ) (kind : Kind) (level : ℕ) (r : Read) : Type 0 where
  pub held : ℕ
  pub goal : goal_at heading h r.place ≡ Some (record { place = r.place; kind = kind; level = level; value = held })
  pub held_valid : is_valid kind level held ≡ true
  pub same_core : needs kind level held r.value ≡ false
  pub readable : is_readable heading first r.place p r.value ≡ true
  pub valid : is_valid kind level r.value ≡ true

abbrev pub HaveGoals : Heading → List Event → List Event → ℕ → Kind → ℕ → List Read → Type 0
HaveGoals heading h first p kind level [] = Unit {0}
HaveGoals heading h first p kind level (r ∷ rs) = HasGoal heading h first p kind level r × HaveGoals heading h first p kind (suc level) rs

pub record HasLeast (heading : Heading) (h first : List Event) (p : ℕ) (kind : Kind) (level : ℕ) (rs : List Read) : Type 0 where
  pub reads : List Read
  pub are : least_reads heading first p (filter_map (goal_at heading h) (map (λ (r : Read). r.place) rs)) ≡ Some reads
  pub like : LikeReads heading first p kind level rs reads

module _ (heading : Heading) (law : CoreLaw) (h first : List Event) (p : ℕ) (kind : Kind) where
  one_least : (level : ℕ) (r : Read) → (g : HasGoal heading h first p kind level r) → (value : ℕ)
      × (least_read heading first p (record { place = r.place; kind = kind; level = level; value = g.held }) ≡ Some value)
      × IsLikeRead heading first p kind level r (record { place = r.place; value = value })
  one_least level r g = (
    found.number,
    found.is,
    record {
      place = refl;
      desc = sym (means_same law kind level g.held r.value g.held_valid g.valid g.same_core)
          ∙ means_same law kind level g.held found.number g.held_valid b.0 (not-true _ b.1);
      readable = a.1;
      valid = b.0;
      not_above = found.below r.value own;
    },
  )
    where
      test : ℕ → Bool
      test = is_like heading first p (record { place = r.place; kind = kind; level = level; value = g.held })

      own : In (filter test (written_at first r.place)) r.value
      own = to_filter test (written_at first r.place) r.value
          (written heading [] first r.place p r.value (zero_is_invalid kind level r.value g.valid) g.readable)
          (and_from _ _ (and_from _ _ g.valid (not_from_false _ g.same_core)) g.readable)

      found : IsLeast (filter test (written_at first r.place))
      found = least_with (filter test (written_at first r.place)) r.value own

      a : (is_valid kind level found.number && not (needs kind level g.held found.number) ≡ true) × (is_readable heading first r.place p found.number ≡ true)
      a = and_parts _ _ (from_filter test (written_at first r.place) found.number found.has).1

      b : (is_valid kind level found.number ≡ true) × (not (needs kind level g.held found.number) ≡ true)
      b = and_parts _ _ a.0

  pub all_least : (level : ℕ) (rs : List Read) → HaveGoals heading h first p kind level rs → HasLeast heading h first p kind level rs
  all_least level [] g = record { reads = []; are = refl; like = tt }
  all_least level (r ∷ rs) g =
      let one = one_least level r g.0 in
      let rest = all_least (suc level) rs g.1 in
      record {
        reads = record { place = r.place; value = one.0 } ∷ rest.reads;
        are = rw (g.0.goal, one.1, rest.are);
        like = (one.2, rest.like);
      }

-- ---- the order of reads

not_less : (a b m n : ℕ) (next : Bool) → a ≡ b → n ≤ m → by_number a b (by_number m n next) ≡ true → (m ≡ n) × (next ≡ true)
not_less a b m n next same le e = grind (arith, nat_tests)

pub first_if_least : (heading : Heading) (h : List Event) (p : ℕ) (kind : Kind) (level : ℕ) (rs ls : List Read) (next : Bool)
    → LikeReads heading h p kind level rs ls → by_reads rs ls next ≡ true → (rs ≡ ls) × (next ≡ true)
first_if_least heading h p kind level [] [] next c e = (refl, e)
first_if_least heading h p kind level (r ∷ rs) (l ∷ ls) next c e =
    let b = not_less r.place l.place r.value l.value (by_reads rs ls next) c.0.place c.0.not_above e in
    let rest = first_if_least heading h p kind (suc level) rs ls next c.1 b.1 in
    (λ i. record { place = c.0.place i; value = b.0 i } ∷ rest.0 i, rest.1)
first_if_least heading h p kind level _ _ next c e = absurd c
