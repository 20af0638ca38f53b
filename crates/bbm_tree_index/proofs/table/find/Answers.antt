use Rattle.bbm_tree_index.proofs.Common.{Role, Untracked}
use Rattle.bbm_rules.proofs.Common.{◌≡◌, ◌∙◌, ℕ, List, Option, Some, None, ap, false, is_some, sym, page_of, refl}
use Rattle.bbm_rules.proofs.Common.{true, true≢false, unwrap_or}
use Rattle.bbm_page_map.specs.PageLists.{number_in}
use Rattle.bbm_place_map.specs.Map.{IsPosition, pages_of}
use Rattle.bbm_tree_index.proofs.Numbered.{no_value, number_low, value_of}
use Rattle.bbm_tree_index.proofs.table.find.Goals as goal

pub at-requires : goal.at-requires
unfolding IsPosition
at-requires c =
    number_low c.args.roles.now (page_of c.args.place) c.get.result
    (ap (λ (ps : List ℕ). number_in ps (page_of c.args.place)) (sym c.requires)
    ∙ ap (λ (a : ℕ). number_in (pages_of c.args.map.now) (page_of a)) (sym c.in-Some.ensures.place)
    ∙ c.in-Some.ensures.position ∙ ap (λ (n : ℕ). Some n) (sym c.get.ensures.value))

pub returns-in-Some-clause-role : goal.returns-in-Some-clause-role
unfolding IsPosition
returns-in-Some-clause-role c =
    sym
    (value_of c.args.roles.now Untracked (page_of c.args.place) c.get.result c.at.result.0 c.at.result.1.now
    (ap (λ (ps : List ℕ). number_in ps (page_of c.args.place)) (sym c.requires)
    ∙ ap (λ (a : ℕ). number_in (pages_of c.args.map.now) (page_of a)) (sym c.in-Some.ensures.place)
    ∙ c.in-Some.ensures.position ∙ ap (λ (n : ℕ). Some n) (sym c.get.ensures.value))
    c.at.ensures.at c.at.ensures.value)

-- a place without a position is one of a page without a number
lost : (o : Option ℕ) → (is_some o ≡ true → false ≡ true) → o ≡ None
lost None e = refl
lost (Some n) e = absurd (true≢false (sym (e refl)))

pub returns-in-None-clause-role : goal.returns-in-None-clause-role
returns-in-None-clause-role c =
    let none = lost (number_in (pages_of c.args.map.now) (page_of c.args.place)) c.in-None.ensures.tracked in
    sym (ap (λ (o : Option Role). unwrap_or o Untracked) (no_value c.args.roles.now.entries (page_of c.args.place)
    (ap (λ (ps : List ℕ). number_in ps (page_of c.args.place)) (sym c.requires) ∙ none)))
