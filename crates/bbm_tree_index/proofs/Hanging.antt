-- Tables of marks give pages their roles.
use Rattle.bbm_tree_index.proofs.Common.{IndexMap, get, Hung, hung, Mark, Role}
use Rattle.bbm_rules.proofs.Common.{◌≡◌, ℕ, ◌+◌, ◌==◌, ◌||◌, Bool, List, Option, Some, None, is_some, nat_eq, slice_get}
use Rattle.bbm_rules.proofs.Common.{inl, inr, refl, sym, ap, ◌∙◌, if◌then◌else◌, arith, cases_eq, nat_tests, same_Some}
use Rattle.bbm_tree_index.specs.Hanging.{Passed}

-- one more page of a table got its role
pub one_more : (p page : ℕ) (a : Bool) (o : ℕ → Option Mark) (mark : Mark) (old now new : Option Role) → o page ≡ Some mark
    → now ≡ (if a then hung (o p) old else old) → new ≡ (if p == page then Some mark.role else now)
    → new ≡ (if a || p == page then hung (o p) old else old)
one_more p page a o mark old now new at is put = grind (arith, nat_tests)

-- where the table has a page it is among all
pub at_end : (o : Option Mark) (old : Option Role) → (if is_some o then hung o old else old) ≡ hung o old
at_end None old = refl
at_end (Some mark) old = refl

module _ {S : Type 0} (tables : List (IndexMap ℕ Mark S)) (page : ℕ) (old : Option Role) where
  module _ (index : ℕ) (table : IndexMap ℕ Mark S) (at : slice_get tables index ≡ Some table) (now new : Option Role)
      (put : new ≡ hung (get nat_eq table page) now) where
    passed : Passed tables index page → get nat_eq table page ≡ None → Passed tables (index + 1) page
    passed none here level other below here' =
        elim (cases_eq level index) [
          | inl e ↦ ap (λ t. get nat_eq t page) (same_Some other table (sym here' ∙ ap (slice_get tables) e ∙ at)) ∙ here
          | inr n ↦ none level other (omega arith) here'
        ]

    pub hung_more : Hung tables index page old now → Hung tables (index + 1) page old new
    hung_more h = by (get nat_eq table page) refl h
      where
        by : (o : Option Mark) → get nat_eq table page ≡ o → Hung tables index page old now → Hung tables (index + 1) page old new
        by (Some mark) e h = inl (record {
          level = index;
          below = omega arith;
          table = table;
          at = at;
          mark = mark;
          has = e;
          is = put ∙ ap (λ x. hung x now) e;
        })
        by None e (inl g) = inl (record {
          level = g.level;
          below = omega (arith, g.below);
          table = g.table;
          at = g.at;
          mark = g.mark;
          has = g.has;
          is = put ∙ ap (λ x. hung x now) e ∙ g.is;
        })
        by None e (inr g) = inr (passed g.0 e, put ∙ ap (λ x. hung x now) e ∙ g.1)
