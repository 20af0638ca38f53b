use Rattle.bbm_rules.proofs.Common.{◌≡◌, Bool, true, ◌&&◌, List, [], ◌∷◌, reverse, refl, ap, ◌∙◌, list_all}
use Rattle.bbm_rules.proofs.Common.{reverse-append, proved, Is, fits_heading}
use Rattle.std.proofs.lemmas.List.Folds.{list_all-append}
use Rattle.bbm_evidence_tests.proofs.idle.idle_lines.Goals as goal

both : (a b : Bool) → (b && (a && true)) ≡ (a && b)
both = proved 2 (λ a b. Is (b && (a && true)) (a && b)) refl

every_reverse : {A : Type 0} (test : A → Bool) (xs : List A) → list_all test (reverse xs) ≡ list_all test xs
every_reverse test [] = refl
every_reverse {A} test (x ∷ xs) =
    ap (λ (ys : List A). list_all test ys) (reverse-append (x ∷ []) xs)
    ∙ list_all-append test (reverse xs) (x ∷ [])
    ∙ ap (λ (b : Bool). b && (test x && true)) (every_reverse test xs)
    ∙ both (test x) (list_all test xs)

pub find-requires : goal.find-requires
find-requires c = record {
  fit = rw c.deref.ensures.value
      (every_reverse (fits_heading c.in_ok-header.header) c.in_ok-events.events.items ∙ c.in_ok-events.ensures);
}
