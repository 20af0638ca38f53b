-- Columns by page number.
use Rattle.bbm_unmapped.proofs.Common.{IndexMap, get, index_map_len, keys, length-map, number_in}
use Rattle.bbm_rules.proofs.Common.{◌≡◌, ℕ, ◌<◌, ◌≤◌, ◌==◌, ◌++◌, Bool, true, false, List, [], ◌∷◌, Option, Some, None}
use Rattle.bbm_rules.proofs.Common.{is_some, nat_eq, length, refl, sym, ap, ◌∙◌, if◌then◌else◌, option_map_or}
use Rattle.bbm_rules.proofs.Common.{same_Some, arith, inl, inr, eqb-true}
use Rattle.std.proofs.lemmas.Bool.{cases_Bool}
use Rattle.std.proofs.lemmas.Cmp.{nat_eq_equiv}
use Rattle.bbm_page_map.proofs.Numbering.{number_push}
use Rattle.bbm_tree_index.proofs.Numbered.{known_number, no_value, number_low, same_by_keys}
use Rattle.bbm_tree_index.specs.PageTables.{HasPages}

module _ {V S : Type 0} (m : IndexMap ℕ V S) where
  pub len_is : length (keys m) ≡ index_map_len m
  len_is = length-map m.entries (λ e. e.0)

  -- the number of a page that is known, or comes last
  module _ (page : ℕ) (ps : List ℕ) (is : ps ≡ (if is_some (get nat_eq m page) then keys m else keys m ++ page ∷ []))
    where
      pages_known : is_some (get nat_eq m page) ≡ true → ps ≡ keys m
      pages_known known = is ∙ ap (λ (b : Bool). if b then keys m else keys m ++ page ∷ []) known

      pages_new : is_some (get nat_eq m page) ≡ false → ps ≡ keys m ++ page ∷ []
      pages_new new = is ∙ ap (λ (b : Bool). if b then keys m else keys m ++ page ∷ []) new

      none_of : is_some (get nat_eq m page) ≡ false → number_in (keys m) page ≡ None
      none_of new = by (number_in (keys m) page) (known_number m.entries page ∙ new)
        where
          by : (o : Option ℕ) → is_some o ≡ false → o ≡ None
          by None e = refl
          by (Some n) e = cc

      last_number : is_some (get nat_eq m page) ≡ false → number_in ps page ≡ Some (length (keys m))
      last_number new = ap (λ (qs : List ℕ). number_in qs page) (pages_new new)
          ∙ number_push (keys m) page page (none_of new)
          ∙ ap (λ (b : Bool). if b then Some (length (keys m)) else number_in (keys m) page) (nat_eq_equiv.refl page)

      pub has_number : is_some (number_in ps page) ≡ true
      has_number = elim (cases_Bool (is_some (get nat_eq m page))) [
        | inl known ↦ ap (λ (qs : List ℕ). is_some (number_in qs page)) (pages_known known)
            ∙ known_number m.entries page ∙ known
        | inr new ↦ ap is_some (last_number new)
      ]

      module _ (o : Option ℕ) (n k : ℕ) (number : o ≡ number_in ps page) (some : o ≡ Some k) (same : n ≡ k) where
        at : number_in ps page ≡ Some n
        at = sym number ∙ some ∙ ap (λ (x : ℕ). Some x) (sym same)

        -- a number behind the last is that of a new page
        pub is_new : index_map_len m ≤ n → (get nat_eq m page ≡ None) × (ps ≡ keys m ++ page ∷ [])
        is_new behind = elim (cases_Bool (is_some (get nat_eq m page))) [
          | inl known ↦
              let low = number_low m page n (ap (λ (qs : List ℕ). number_in qs page) (sym (pages_known known)) ∙ at) in
              absurd (omega (arith, low, behind))
          | inr new ↦ (no_value m.entries page (none_of new), pages_new new)
        ]

        pub is_known : n < index_map_len m → ps ≡ keys m
        is_known low = elim (cases_Bool (is_some (get nat_eq m page))) [
          | inl known ↦ pages_known known
          | inr new ↦
              let last : length (keys m) ≡ n = same_Some (length (keys m)) n (sym (last_number new) ∙ at) in
              absurd (omega (arith, last, len_is, low))
        ]

-- what is read once a page is given a value
pub read_put : {V : Type 0} (test : V → Bool) (v : V) (o o' : Option V) (page p : ℕ)
    → o' ≡ (if nat_eq page p then Some v else o)
    → option_map_or test o' false ≡ (if p == page then test v else option_map_or test o false)
read_put {V} test v o o' page p e = ap (λ (x : Option V). option_map_or test x false) e ∙ by (nat_eq page p)
    ∙ ap (λ (b : Bool). if b then test v else option_map_or test o false) (nat_eq_equiv.symm page p)
  where
    by : (b : Bool) → option_map_or test (if b then Some v else o) false ≡ (if b then test v else option_map_or test o
        false)
    by true = refl
    by false = refl

-- what holds of all that is read, and of what is given, holds of what is read then
pub put_within : (b given old new x : Bool) → new ≡ (if b then given else old) → (b ≡ true → given ≡ true → x ≡ true)
    → (old ≡ true → x ≡ true) → new ≡ true → x ≡ true
put_within true given old new x e on off t = on refl (sym e ∙ t)
put_within false given old new x e on off t = off (sym e ∙ t)

-- a page that comes with nothing changes nothing that is read
pub read_push : {V : Type 0} (test : V → Bool) (v : V) (get_old get_new : ℕ → Option V) (page p : ℕ)
    → get_old page ≡ None
    → test v ≡ false → get_new p ≡ (if nat_eq page p then Some v else get_old p)
    → option_map_or test (get_new p) false ≡ option_map_or test (get_old p) false
read_push {V} test v get_old get_new page p none off e = read_put test v (get_old p) (get_new p) page p e
    ∙ by (p == page) refl
  where
    by : (b : Bool) → (p == page) ≡ b → (if b then test v else option_map_or test (get_old p) false) ≡ option_map_or
        test (get_old p) false
    by false is = refl
    by true is = off ∙ sym (ap (λ (o : Option V). option_map_or test o false) (ap get_old (eqb-true p page is) ∙ none))

-- keys that are pages
pub pages_same : {V S : Type 0} (m m' : IndexMap ℕ V S) → keys m' ≡ keys m → HasPages m → HasPages m'
pages_same m m' same paged = λ p known. paged p (sym ((same_by_keys m m' same).known p) ∙ known)
