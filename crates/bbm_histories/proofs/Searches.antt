-- Searches: a search for what passes any of several tests is a search for each of them.
use Rattle.bbm_rules.proofs.Common.{◌≡◌, ◌&&◌, ◌||◌, Bool, true, false, List, [], ◌∷◌, refl, ◌∙◌, ap, any, some}
use Rattle.bbm_rules.proofs.Common.{or_middle}
use Rattle.bbm_lemmas.proofs.Tests.{any_never, any_or, any_same}

-- A search asks whether something passes a test.
pub record Search (T : Type 0) (find : (T → Bool) → Bool) : Type 0 where
  pub none : find (λ x. false) ≡ false
  pub either : (f g : T → Bool) → find (λ x. f x || g x) ≡ (find f || find g)
  pub same : (f g : T → Bool) → ((x : T) → f x ≡ g x) → find f ≡ find g

pub search_at : {T : Type 0} (x : T) → Search T (λ f. f x)
search_at x = record { none = refl; either = λ f g. refl; same = λ f g s. s x }

pub search_never : {T : Type 0} → Search T (λ f. false)
search_never {T} = record { none = refl; either = λ f g. refl; same = λ f g s. refl }

pub search_where : {T : Type 0} (c : Bool) (find : (T → Bool) → Bool) → Search T find → Search T (λ f. c && find f)
search_where true find k = k
search_where false find k = record { none = refl; either = λ f g. refl; same = λ f g s. refl }

pub search_by : {T U : Type 0} (i : U → T) (find : (U → Bool) → Bool) → Search U find → Search T (λ f. find (λ y. f (i y)))
search_by i find k = record {
  none = k.none;
  either = λ f g. k.either (λ y. f (i y)) (λ y. g (i y));
  same = λ f g s. k.same (λ y. f (i y)) (λ y. g (i y)) (λ y. s (i y));
}

pub search_any : {T A : Type 0} (find : A → (T → Bool) → Bool) → ((x : A) → Search T (find x)) → (xs : List A)
    → Search T (λ f. any (λ x. find x f) xs)
search_any {T} {A} find k xs = record {
  none = any_same (λ (x : A). find x (λ y. false)) (λ (x : A). false) xs (λ x. let s : Search T (find x) = k x in s.none) ∙ any_never xs;
  either = λ f g. any_same (λ (x : A). find x (λ y. f y || g y)) (λ (x : A). find x f || find x g) xs
      (λ x. let s : Search T (find x) = k x in s.either f g)
      ∙ any_or (λ (x : A). find x f) (λ (x : A). find x g) xs;
  same = λ f g e. any_same (λ (x : A). find x f) (λ (x : A). find x g) xs (λ x. let s : Search T (find x) = k x in s.same f g e);
}

module _ (T A : Type 0) (find : A → List A → (T → Bool) → Bool) (k : (x : A) (older : List A) → Search T (find x older)) where
  some_none : (xs : List A) → some (λ x older. find x older (λ y. false)) xs ≡ false
  some_none [] = refl
  some_none (x ∷ older) =
      let s : Search T (find x older) = k x older in
      ap (λ (c : Bool). c || some (λ x older. find x older (λ y. false)) older) s.none ∙ some_none older

  some_either : (f g : T → Bool) (xs : List A) → some (λ x older. find x older (λ y. f y || g y)) xs
      ≡ (some (λ x older. find x older f) xs || some (λ x older. find x older g) xs)
  some_either f g [] = refl
  some_either f g (x ∷ older) =
      let s : Search T (find x older) = k x older in
      ap (λ (c : Bool). c || some (λ x older. find x older (λ y. f y || g y)) older) (s.either f g)
      ∙ (ap (λ (c : Bool). (find x older f || find x older g) || c) (some_either f g older)
      ∙ or_middle (find x older f) (find x older g) (some (λ x older. find x older f) older) (some (λ x older. find x older g) older))

  some_same : (f g : T → Bool) → ((y : T) → f y ≡ g y) → (xs : List A)
      → some (λ x older. find x older f) xs ≡ some (λ x older. find x older g) xs
  some_same f g e [] = refl
  some_same f g e (x ∷ older) =
      let s : Search T (find x older) = k x older in
      ap (λ (c : Bool). c || some (λ x older. find x older f) older) (s.same f g e)
      ∙ ap (λ (c : Bool). find x older g || c) (some_same f g e older)

  pub search_some : (xs : List A) → Search T (λ f. some (λ x older. find x older f) xs)
  search_some xs = record {
    none = some_none xs;
    either = λ f g. some_either f g xs;
    same = λ f g e. some_same f g e xs;
  }

module _ (T : Type 0) (find : (T → Bool) → Bool) (k : Search T find) where
  -- a search for any of several tests
  pub each_test : {C : Type 0} (f : C → T → Bool) (cs : List C) → find (λ x. any (λ c. f c x) cs) ≡ any (λ c. find (f c)) cs
  each_test f [] = k.none
  each_test {C} f (c ∷ cs) =
      k.either (f c) (λ x. any (λ (d : C). f d x) cs) ∙ ap (λ (b : Bool). find (f c) || b) (each_test f cs)

  -- what doesn't depend on what is searched
  pub apart_from : (c : Bool) (f : T → Bool) → find (λ x. c && f x) ≡ (c && find f)
  apart_from true f = refl
  apart_from false f = k.none
