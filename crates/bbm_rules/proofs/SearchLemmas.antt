-- What a search finds, and that it finds what is there; later items keep what it found.
use Rattle.bbm_rules.proofs.Common.{◌≡◌, Bool, true, false, List, [], ◌∷◌, ◌++◌, refl, sym, ◌∙◌, ap, subst, inl, inr}
use Rattle.bbm_rules.proofs.Common.{true≢false, or_cases, or_left, or_right, or_from, In, in_split, is_none_of, none_of}
use Rattle.bbm_rules.proofs.Common.{any, some}
use Rattle.bbm_lemmas.proofs.Elements.{split_in}

-- where none of the newer items passes, in the words of a sentence
pub none_at : {A : Type 0} (test : A → Bool) (xs : List A) → any test xs ≡ false
    → (x : A) (after before : List A) → xs ≡ after ++ x ∷ before → test x ≡ false
none_at {A} test xs k x after before e =
    none_of test xs k x (subst (λ (zs : List A). In zs x) (sym e) (in_split after before x))

pub is_none_at : {A : Type 0} (test : A → Bool) (xs : List A)
    → ((x : A) (after before : List A) → xs ≡ after ++ x ∷ before → test x ≡ false) → any test xs ≡ false
is_none_at test xs all =
    is_none_of test xs (λ x i. let r = split_in xs x i in all x r.0 r.1 r.2)

-- an item of a history that passes the test, with what came before it
pub record Found {A : Type 0} (test : A → List A → Bool) (h : List A) : Type 0 where
  pub newer : List A
  pub item : A
  pub older : List A
  pub split : h ≡ newer ++ item ∷ older
  pub passed : test item older ≡ true

module _ {A : Type 0} (test : A → List A → Bool) where
  -- later items keep what was found
  pub some_later : (newer older : List A) → some test older ≡ true → some test (newer ++ older) ≡ true
  some_later [] older s = s
  some_later (x ∷ newer) older s =
      or_right (test x (newer ++ older)) (some test (newer ++ older)) (some_later newer older s)

  pub some_found : (h : List A) → some test h ≡ true → Found test h
  some_found [] s = absurd (true≢false (sym s))
  some_found (x ∷ h) s =
      elim (or_cases (test x h) (some test h) s) [
        | inl here ↦ record { newer = []; item = x; older = h; split = refl; passed = here }
        | inr there ↦
            let f : Found test h = some_found h there in
            record { newer = x ∷ f.newer; item = f.item; older = f.older; split = ap (λ xs. x ∷ xs) f.split; passed = f.passed }
      ]

  pub some_finds : (h : List A) → Found test h → some test h ≡ true
  some_finds h f =
      subst (λ (xs : List A). some test xs ≡ true) (sym f.split)
      (some_later f.newer (f.item ∷ f.older) (or_left (test f.item f.older) (some test f.older) f.passed))

  pub none_before : (h : List A) → some test h ≡ false
      → (newer : List A) (x : A) (older : List A) → h ≡ newer ++ x ∷ older → test x older ≡ false
  none_before h k newer x older e = by (test x older) refl
    where
      by : (b : Bool) → test x older ≡ b → test x older ≡ false
      by false t = t
      by true t =
          absurd (true≢false
          (sym (some_finds h (record { newer = newer; item = x; older = older; split = e; passed = t })) ∙ k))

  pub is_none_before : (h : List A)
      → ((newer : List A) (x : A) (older : List A) → h ≡ newer ++ x ∷ older → test x older ≡ false) → some test h ≡ false
  is_none_before [] all = refl
  is_none_before (x ∷ h) all =
      or_from (test x h) (some test h) (all [] x h refl)
      (is_none_before h (λ newer y older e. all (x ∷ newer) y older (ap (λ (es : List A). x ∷ es) e)))

pub some_weaker : {A : Type 0} (test other : A → List A → Bool) (h : List A)
    → ((x : A) (older : List A) → test x older ≡ true → other x older ≡ true) → some test h ≡ true → some other h ≡ true
some_weaker test other h weaker s =
    let f : Found test h = some_found test h s in
    some_finds other h (record {
      newer = f.newer;
      item = f.item;
      older = f.older;
      split = f.split;
      passed = weaker f.item f.older f.passed;
    })
