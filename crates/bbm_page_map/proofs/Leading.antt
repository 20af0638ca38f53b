-- What the slots lead to is the number of each page's entry.
use Rattle.std.proofs.Common.{◌≡◌, ◌∙◌, ℕ, zero, suc, ◌+◌, ◌-◌, ◌*◌, ◌/◌, ◌%◌, ◌^◌, ◌<◌, ◌≤◌, ◌⊎◌, inl, inr}
use Rattle.std.proofs.Common.{List, [], ◌∷◌, ◌++◌, length, refl, sym, ap}
use Rattle.std.proofs.Common.{subst, arith, Some, slice_get}
use Rattle.std.proofs.lemmas.List.{get_or_past}
use Rattle.std.proofs.lemmas.Option.{none-some, same_Some, slice_get_within}
use Rattle.bbm_page_map.proofs.Entries.{push_cases, push_last, push_old}
use Rattle.bbm_page_map.proofs.Finding.{none_reached}
use Rattle.bbm_page_map.proofs.Growing.{Grows, grown, hit, reads_alike, stays}
use Rattle.bbm_page_map.proofs.Numbering.{number_at, number_none}
use Rattle.bbm_page_map.specs.SlotNodes.{Fits, IsTree, LeadsAlike, reached, slot}
use Rattle.bbm_page_map.specs.PageLists.{Leads, entry_of, number_in}

-- ---- the nodes at first

first_only : (s : List ℕ) → length s ≡ 0 → (d n : ℕ) → 0 < reached s d n → d ≡ 0
first_only s none zero n some = refl
first_only s none (suc d) n some = absurd (omega (arith, none_reached s none d n))

-- no two prefixes of one digit lead to the same node
first_apart : (s : List ℕ) (d e m n : ℕ) → d ≡ 0 → e ≡ 0 → reached s d m ≡ reached s e n → (d ≡ e) × (m ≡ n)
unfolding reached
first_apart s d e m n at here same =
    let both : 1 + m ≡ 1 + n = sym (ap (λ (k : ℕ). reached s k m) at) ∙ same ∙ ap (λ (k : ℕ). reached s k n) here in
    (at ∙ sym here, omega (arith, both))

-- no slots are a tree
pub none_tree : (s : List ℕ) → length s ≡ 0 → IsTree s
none_tree s none = record {
  whole = omega (arith, none);
  blank = λ i below. get_or_past s i 0 (omega (arith, none));
  within = λ d n low fits some. absurd (omega (arith, none));
  apart = λ d e m n low deep fits_m fits_n same some.
      first_apart s d e m n (first_only s none d m some) (first_only s none e n (subst (λ (k : ℕ). 0 < k) same some))
      same;
}

first_within : (old new : List ℕ) → length old ≡ 0 → length new ≡ 4160 → ((i : ℕ) → slot new i ≡ slot old i)
    → (d n : ℕ) → Fits d n
    → 64 * reached new d n + 64 ≤ length new
unfolding reached Fits
first_within old new none len same zero n fits = omega (arith, len)
first_within old new none len same (suc d) n fits =
    let nothing : reached new (suc d) n ≡ 0 = reads_alike old new same (suc d) n ∙ none_reached old none d n in
    omega (arith, len, nothing)

-- the first nodes are a tree
pub first_tree : (old new : List ℕ) → length old ≡ 0 → length new ≡ 4160 → ((i : ℕ) → slot new i ≡ slot old i)
    → IsTree new
first_tree old new none len same = record {
  whole = omega (arith, len);
  blank = λ i below. same i ∙ get_or_past old i 0 (omega (arith, none));
  within = λ d n low fits some. first_within old new none len same d n fits;
  apart = λ d e m n low deep fits_m fits_n one some.
      (none_tree old none).apart d e m n low deep fits_m fits_n
      (sym (reads_alike old new same d m) ∙ one ∙ reads_alike old new same e n)
      (subst (λ (k : ℕ). 0 < k) (reads_alike old new same d m) some);
}

-- ---- numbers of entries

pub entry_some : (n : ℕ) → (n ≡ 0 → ⊥) → entry_of n ≡ Some (n - 1)
entry_some zero some = absurd (some refl)
entry_some (suc n) some = ap (λ (k : ℕ). Some k) (omega arith)

-- the number of a page has six digits
pub page_fits : (p : ℕ) → p < 2 ^ 48 → Fits 5 (p / 4096)
unfolding Fits
page_fits p low = omega arith

pub none_leads : (s : List ℕ) → length s ≡ 0 → Leads s []
none_leads s none = record {
  tree = none_tree s none;
  forth = λ n k fits is. absurd (none-some k (sym (ap entry_of (none_reached s none 4 n)) ∙ is));
  back = λ k page is. absurd (none-some page is);
}

pub leads_alike : (old new pages : List ℕ) → Leads old pages → IsTree new → LeadsAlike old new → Leads new pages
leads_alike old new pages l tree same = record {
  tree = tree;
  forth = λ n k fits is. l.forth n k fits (sym (ap entry_of (same n fits)) ∙ is);
  back = λ k page is. let b = l.back k page is in (b.0, b.1, ap entry_of (same (page / 4096) b.0) ∙ b.2);
}

-- ---- look-ups

module _ (s pages : List ℕ) (l : Leads s pages) where
  -- each page stands once
  pub stands_once : (i j p : ℕ) → slice_get pages i ≡ Some p → slice_get pages j ≡ Some p → i ≡ j
  stands_once i j p one two = same_Some i j (sym (l.back i p one).2 ∙ (l.back j p two).2)

  -- the page to which a number leads
  pub page_found : (p n : ℕ) → p < 2 ^ 48 → p % 4096 ≡ 0 → n ≡ reached s 5 (p / 4096) → (n ≡ 0 → ⊥)
      → slice_get pages (n - 1) ≡ Some p
  page_found p n low aligned is some =
      l.forth (p / 4096) (n - 1) (page_fits p low) (sym (ap entry_of is) ∙ entry_some n some)
      ∙ ap (λ (x : ℕ). Some x) (omega (arith, aligned))

  -- a page that no number leads to isn't there
  pub page_missing : (p k : ℕ) → 0 ≡ reached s 5 (p / 4096) → slice_get pages k ≡ Some p → ⊥
  page_missing p k is at = none-some k (ap entry_of is ∙ (l.back k p at).2)

  -- and so the other way
  pub missing_page : (p : ℕ) → p < 2 ^ 48 → p % 4096 ≡ 0 → ((k : ℕ) → slice_get pages k ≡ Some p → ⊥)
      → reached s 5 (p / 4096) ≡ 0
  missing_page p low aligned none = by (reached s 5 (p / 4096)) refl
    where
      by : (n : ℕ) → n ≡ reached s 5 (p / 4096) → reached s 5 (p / 4096) ≡ 0
      by zero is = sym is
      by (suc n) is = absurd (none n (subst (λ (k : ℕ). slice_get pages k ≡ Some p) (omega arith)
          (page_found p (suc n) low aligned is (λ e. absurd (omega (arith, e))))))

-- ---- numbers by the slots

module _ (s pages : List ℕ) (l : Leads s pages) (p : ℕ) (low : p < 2 ^ 48) (aligned : p % 4096 ≡ 0) where
  -- what the slots lead to tells the page's number
  pub number_told : entry_of (reached s 5 (p / 4096)) ≡ number_in pages p
  number_told = by (reached s 5 (p / 4096)) refl
    where
      by : (n : ℕ) → n ≡ reached s 5 (p / 4096) → entry_of n ≡ number_in pages p
      by zero is = sym (number_none pages p (λ k at. page_missing s pages l p k is at))
      by (suc n) is =
          let at : slice_get pages n ≡ Some p = subst (λ (k : ℕ). slice_get pages k ≡ Some p) (omega arith)
          (page_found s pages l p (suc n) low aligned is (λ e. absurd (omega (arith, e)))) in
          sym (number_at pages p n at (λ j also. stands_once s pages l j n p also at))

  -- a number that they lead to is that of a page, or nothing
  pub number_small : (most : ℕ) → length pages ≤ most → reached s 5 (p / 4096) ≤ most
  number_small most few = by (reached s 5 (p / 4096)) refl
    where
      by : (n : ℕ) → n ≡ reached s 5 (p / 4096) → n ≤ most
      by zero is = omega arith
      by (suc n) is =
          let within = slice_get_within pages (suc n - 1) p
          (page_found s pages l p (suc n) low aligned is (λ e. absurd (omega (arith, e)))) in
          omega (arith, within, few)

-- ---- one page more

module _ (old new pages : List ℕ) (p : ℕ) (l : Leads old pages) (low : p < 2 ^ 48) (aligned : p % 4096 ≡ 0)
    (absent : (k : ℕ) → slice_get pages k ≡ Some p → ⊥) (g : Grows old new 4 (p / 4096) (length pages + 1)) where
  forth_case : (n k : ℕ) → entry_of (reached new 5 n) ≡ Some k → Fits 5 n → (reached new 5 n ≡ reached old 5 n)
      ⊎ (n ≡ p / 4096)
      → slice_get (pages ++ p ∷ []) k ≡ Some (n * 4096)
  forth_case n k is fits (inl same) = push_old p pages k (n * 4096) (l.forth n k fits (sym (ap entry_of same) ∙ is))
  forth_case n k is fits (inr goes) =
      let leads : reached new 5 n ≡ length pages + 1 =
      ap (reached new 5) goes ∙ hit old new 4 (p / 4096) (length pages + 1) g in
      let last : entry_of (length pages + 1) ≡ Some (length pages + 1 - 1) = entry_some (length pages + 1)
      (λ e. absurd (omega (arith, e))) in
      let here : length pages ≡ k = same_Some (length pages) k
      (ap (λ (x : ℕ). Some x) (omega arith) ∙ sym last ∙ sym (ap entry_of leads) ∙ is) in
      subst (λ (j : ℕ). slice_get (pages ++ p ∷ []) j ≡ Some (n * 4096)) here
      (push_last p pages ∙ ap (λ (x : ℕ). Some x) (omega (arith, aligned, goes)))

  back_case : (k page : ℕ) → (slice_get pages k ≡ Some page) ⊎ ((k ≡ length pages) × (p ≡ page))
      → Fits 5 (page / 4096) × (page / 4096 * 4096 ≡ page) × (entry_of (reached new 5 (page / 4096)) ≡ Some k)
  back_case k page (inl at) =
      let b = l.back k page at in
      elim (stays old new 4 (p / 4096) (length pages + 1) g 5 (page / 4096) (omega arith) b.0) [
        | inl same ↦ (b.0, b.1, ap entry_of same ∙ b.2)
        | inr goes ↦ absurd (absent k (at ∙ ap (λ (x : ℕ). Some x) (omega (arith, b.1, aligned, goes.1))))
      ]
  back_case k page (inr goes) =
      let same : page ≡ p = sym goes.1 in
      let leads : reached new 5 (page / 4096) ≡ length pages + 1 =
      ap (λ (x : ℕ). reached new 5 (x / 4096)) same ∙ hit old new 4 (p / 4096) (length pages + 1) g in (
        page_fits page (omega (arith, low, same)),
        omega (arith, aligned, same),
        ap entry_of leads ∙ entry_some (length pages + 1) (λ e. absurd (omega (arith, e)))
            ∙ ap (λ (x : ℕ). Some x) (omega (arith, goes.0)),
      )

  pub leads_more : Leads new (pages ++ p ∷ [])
  leads_more = record {
    tree = grown old new 4 (p / 4096) (length pages + 1) g;
    forth = λ n k fits is.
        elim (stays old new 4 (p / 4096) (length pages + 1) g 5 n (omega arith) fits) [
          | inl same ↦ forth_case n k is fits (inl same)
          | inr goes ↦ forth_case n k is fits (inr goes.1)
        ];
    back = λ k page is. back_case k page (push_cases p pages k page is);
  }
