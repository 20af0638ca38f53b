-- The numbers of the keys of a table of pages.
use Rattle.bbm_tree_index.proofs.Common.{IndexMap, SameKeys, get, index_map_len, keys, length-map}
use Rattle.bbm_rules.proofs.Common.{◌≡◌, ◌<◌, ◌∙◌, ℕ, suc, Bool, true, false, List, [], ◌∷◌, Option, Some, None, is_some}
use Rattle.bbm_rules.proofs.Common.{nat_eq, refl, sym, ap, subst, lookup, if◌then◌else◌, option_map, slice_get, length, unwrap_or, same_Some}
use Rattle.bbm_rules.proofs.Common.{◌++◌, ◌||◌, ◌+◌, inl, inr, eqb-true, length-append}
use Rattle.std.proofs.Math.Nat.{add-zero}
use Rattle.std.proofs.lemmas.Bool.{cases_Bool}
use Rattle.std.specs.Map.{keys_of}
use Rattle.std.proofs.lemmas.Cmp.{nat_eq_equiv}
use Rattle.bbm_page_map.proofs.Numbering.{number_is, number_push, number_within}
use Rattle.bbm_page_map.specs.PageLists.{number_in}

-- whether a page has a number is whether it has a value
pub known_number : {V : Type 0} (es : List (ℕ × V)) (p : ℕ) → is_some (number_in (keys_of es) p) ≡ is_some (lookup (nat_eq p) es)
known_number [] p = refl
known_number {V} (e ∷ es) p = by (nat_eq e.0 p) (number_in (keys_of es) p) (known_number es p)
    ∙ ap (λ (b : Bool). is_some (if b then Some e.1 else lookup (nat_eq p) es)) (nat_eq_equiv.symm e.0 p)
  where
    by : (b : Bool) (o : Option ℕ) → is_some o ≡ is_some (lookup (nat_eq p) es)
        → is_some (if b then Some 0 else option_map (λ n. suc n) o) ≡ is_some (if b then Some e.1 else lookup (nat_eq p) es)
    by true o same = refl
    by false None same = same
    by false (Some n) same = same

module _ {V S : Type 0} (m : IndexMap ℕ V S) (p n : ℕ) (is : number_in (keys m) p ≡ Some n) where
  pub number_at : slice_get (keys m) n ≡ Some p
  number_at = number_is (keys m) p n is

  pub number_low : n < index_map_len m
  number_low = subst (λ (k : ℕ). n < k) (length-map m.entries (λ e. e.0)) (number_within (keys m) p n is)

module _ {V S : Type 0} (old new : IndexMap ℕ V S) (same : keys new ≡ keys old) where
  -- tables with the same keys
  pub same_by_keys : SameKeys old new
  same_by_keys = record {
    known = λ p.
        sym (known_number new.entries p) ∙ ap (λ (ks : List ℕ). is_some (number_in ks p)) same
        ∙ known_number old.entries p;
    keys = same;
    len = sym (length-map new.entries (λ e. e.0)) ∙ ap length same ∙ length-map old.entries (λ e. e.0);
  }

-- a page without a number has no value
pub no_value : {V : Type 0} (es : List (ℕ × V)) (p : ℕ) → number_in (keys_of es) p ≡ None → lookup (nat_eq p) es ≡ None
no_value {V} es p none = by (lookup (nat_eq p) es) (sym (known_number es p) ∙ ap is_some none)
  where
    by : (o : Option V) → is_some o ≡ false → o ≡ None
    by None e = refl
    by (Some v) e = cc

-- the value of a page, by what stands at its number
pub got : {V S : Type 0} (m : IndexMap ℕ V S) (p n q : ℕ) (v : V) → number_in (keys m) p ≡ Some n
    → slice_get (keys m) n ≡ Some q → get nat_eq m q ≡ Some v → get nat_eq m p ≡ Some v
got m p n q v is at has = ap (get nat_eq m) (same_Some p q (sym (number_at m p n is) ∙ at)) ∙ has

pub value_of : {V S : Type 0} (m : IndexMap ℕ V S) (d : V) (p n q : ℕ) (v : V) → number_in (keys m) p ≡ Some n
    → slice_get (keys m) n ≡ Some q → get nat_eq m q ≡ Some v → unwrap_or (get nat_eq m p) d ≡ v
value_of m d p n q v is at has = ap (λ o. unwrap_or o d) (got m p n q v is at has)

-- which pages have numbers once one is tracked
pub tracked_more : (old new : List ℕ) (page : ℕ)
    → new ≡ (if is_some (number_in old page) then old else old ++ page ∷ []) → (p : ℕ)
    → is_some (number_in new p) ≡ (nat_eq p page || is_some (number_in old p))
tracked_more old new page is p = ap (λ (ps : List ℕ). is_some (number_in ps p)) is ∙ by (number_in old page) refl
  where
    pull : (b : Bool) → is_some (if b then Some (length old) else number_in old p) ≡ (b || is_some (number_in old p))
    pull true = refl
    pull false = refl

    by : (o : Option ℕ) → number_in old page ≡ o
        → is_some (number_in (if is_some o then old else old ++ page ∷ []) p) ≡ (nat_eq p page || is_some (number_in old p))
    by (Some n) at =
        elim (cases_Bool (nat_eq p page)) [
          | inl t ↦
              ap (λ (q : ℕ). is_some (number_in old q)) (eqb-true p page t) ∙ ap is_some at
              ∙ sym (ap (λ (b : Bool). b || is_some (number_in old p)) t)
          | inr f ↦ sym (ap (λ (b : Bool). b || is_some (number_in old p)) f)
        ]
    by None none =
        ap is_some (number_push old page p none) ∙ pull (nat_eq page p)
        ∙ ap (λ (b : Bool). b || is_some (number_in old p)) (nat_eq_equiv.symm page p)

-- how many pages have numbers then
pub tracked_count : (old new : List ℕ) (page : ℕ) (known : Bool) → new ≡ (if known then old else old ++ page ∷ [])
    → length new ≡ length old + (if known then 0 else 1)
tracked_count old new page true is = ap length is ∙ sym (add-zero (length old))
tracked_count old new page false is = ap length is ∙ length-append old (page ∷ [])
