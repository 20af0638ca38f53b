-- What a root holds is left where it is given up.
use Rattle.bbm_claims.proofs.Common.{has, Holding}
use Rattle.bbm_rules.proofs.Common.{◌≡◌, ℕ, Bool, true, not, ◌&&◌, ◌||◌, ◌==◌, List, ◌++◌, ap, ◌∙◌, filter, and_parts}
use Rattle.bbm_rules.proofs.Common.{any-filter_same, and_comm, eqb-true, first_true, list_any-append, same_tag, Tag}
use Rattle.bbm_lemmas.proofs.Numbers.{same_swapped}
use Rattle.bbm_claims.specs.Holdings.{is_holding}

module _ (page p root : ℕ) (tag : Tag) (held : List Holding) where
  -- what the root holds has its page
  of_page : (x : Holding) → is_holding p root tag x ≡ true → x.root ≡ root
  of_page x k =
      eqb-true x.root root (and_parts (x.pe == p) (x.root == root)
      (first_true (x.pe == p && x.root == root) (same_tag x.tag tag) k)).1

  -- what is held still where the root of the page is given up
  pub held_still : has (filter (λ x. not (x.root == page)) held) p root tag ≡ (has held p root tag && not (page == root))
  held_still =
      any-filter_same (is_holding p root tag) (λ x. not (x.root == page)) (not (page == root))
      (λ x k. ap (λ (q : ℕ). not (q == page)) (of_page x k) ∙ ap not (same_swapped root page)) held
      ∙ and_comm (not (page == root)) (has held p root tag)

  -- and what is left then
  pub left_more : (left : List Holding) → has (left ++ filter (λ x. x.root == page) held) p root tag
      ≡ (has left p root tag || (page == root && has held p root tag))
  left_more left =
      list_any-append (is_holding p root tag) left (filter (λ x. x.root == page) held)
      ∙ ap (λ (b : Bool). has left p root tag || b)
      (any-filter_same (is_holding p root tag) (λ x. x.root == page) (page == root)
      (λ x k. ap (λ (q : ℕ). q == page) (of_page x k) ∙ same_swapped root page) held)
