-- A list with each tag once, by what the list has.
use Rattle.bbm_rules.proofs.Common.{◌≡◌, ◌↔◌, Bool, true, false, cond, ◌||◌, List, [], ◌∷◌, ◌++◌, refl, sym, ◌∙◌, ap}
use Rattle.bbm_rules.proofs.Common.{subst, inl, inr, In, any_finds, in_right, same_tag, any, Tag, distinct}

module _ (equal : (g k : Tag) → (same_tag g k ≡ true) ↔ (g ≡ k)) where
  -- the list with each tag once has the same tags
  any_distinct : (g : Tag) (gs : List Tag) → any (same_tag g) (distinct gs) ≡ any (same_tag g) gs
  any_distinct g [] = refl
  any_distinct g (k ∷ gs) = by (any (same_tag k) gs) refl (any_distinct g gs)
    where
      again : (c : Bool) → same_tag g k ≡ c → any (same_tag k) gs ≡ true
          → any (same_tag g) gs ≡ (c || any (same_tag g) gs)
      again false c e = refl
      again true c e = subst (λ (x : Tag). any (same_tag x) gs ≡ true) (sym ((equal g k).0 c)) e

      by : (b : Bool) → any (same_tag k) gs ≡ b → any (same_tag g) (distinct gs) ≡ any (same_tag g) gs
          → any (same_tag g) (cond b (distinct gs) (k ∷ distinct gs)) ≡ (same_tag g k || any (same_tag g) gs)
      by false e rest = ap (λ (b : Bool). same_tag g k || b) rest
      by true e rest = rest ∙ again (same_tag g k) refl e

  same_any : (g : Tag) (xs ys zs : List Tag) → distinct ys ≡ distinct zs
      → any (same_tag g) (xs ++ ys) ≡ any (same_tag g) (xs ++ zs)
  same_any g [] ys zs same =
      sym (any_distinct g ys) ∙ (ap (λ (gs : List Tag). any (same_tag g) gs) same ∙ any_distinct g zs)
  same_any g (x ∷ xs) ys zs same = ap (λ (b : Bool). same_tag g x || b) (same_any g xs ys zs same)

  -- more tags in front
  pub distinct_append : (xs ys zs : List Tag) → distinct ys ≡ distinct zs → distinct (xs ++ ys) ≡ distinct (xs ++ zs)
  distinct_append [] ys zs same = same
  distinct_append (x ∷ xs) ys zs same = rw (same_any x xs ys zs same, distinct_append xs ys zs same) refl

  -- more tags in front, which were there already
  pub distinct_again : (xs ys : List Tag) → ((x : Tag) → In xs x → In ys x) → distinct (xs ++ ys) ≡ distinct ys
  distinct_again [] ys there = refl
  distinct_again (x ∷ xs) ys there =
      rw (any_finds (same_tag x) (xs ++ ys) x (in_right xs ys x (there x (inl refl))) ((equal x x).1 refl))
      (distinct_again xs ys (λ y i. there y (inr i)))
