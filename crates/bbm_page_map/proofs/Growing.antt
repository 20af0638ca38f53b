-- What prefixes of numbers lead to once an empty slot is written.
use Rattle.std.proofs.Common.{◌≡◌, ◌∙◌, ℕ, zero, suc, ◌+◌, ◌*◌, ◌/◌, ◌%◌, ◌<◌, ◌≤◌, ◌⊎◌, inl, inr, List, length}
use Rattle.std.proofs.Common.{if◌then◌else◌, nat_eq, refl, sym, ap, subst, arith}
use Rattle.std.proofs.lemmas.Bool.{cases_eq, cond-true, cond-false, eq-eqb, ne_eqb}
use Rattle.std.proofs.lemmas.List.{get_or_past}
use Rattle.bbm_page_map.specs.SlotNodes.{Fits, IsTree, LeadsAlike, reached, slot}

-- slots in which the same stands lead alike
pub reads_alike : (old new : List ℕ) → ((i : ℕ) → slot new i ≡ slot old i) → (d n : ℕ)
    → reached new d n ≡ reached old d n
unfolding reached
reads_alike old new same zero n = refl
reads_alike old new same (suc d) n =
    same (64 * reached new d (n / 64) + n % 64) ∙ ap (λ (k : ℕ). slot old (64 * k + n % 64))
    (reads_alike old new same d (n / 64))

-- The last digit of n has an empty slot in the node that the digits before it lead to; there stands v then. Where that
-- isn't a last node, v is the number of a node that is new.
pub record Grows (old new : List ℕ) (d n v : ℕ) : Type 0 where
  pub tree : IsTree old
  pub some : 0 < length old
  pub depth : d < 5
  pub fits : Fits (suc d) n
  pub node : 0 < reached old d (n / 64)
  pub free : reached old (suc d) n ≡ 0
  pub written : (i : ℕ) → slot new i ≡ (if nat_eq i (64 * reached old d (n / 64) + n % 64) then v else slot old i)
  pub fresh : d < 4 → 64 * v ≡ length old
  pub longer : length old ≤ length new
  pub room : d < 4 → length old + 64 ≤ length new
  pub whole : length new % 64 ≡ 0

module _ (old new : List ℕ) (d n v : ℕ) (g : Grows old new d n v) where
  at : ℕ
  at = 64 * reached old d (n / 64) + n % 64

  fits_above : Fits d (n / 64)
  unfolding Fits
  fits_above = g.fits

  -- no other prefix has its last digit in this slot
  off : (e m : ℕ) → e < 5 → Fits e (m / 64)
      → 64 * reached old e (m / 64) + m % 64 ≡ 64 * reached old d (n / 64) + n % 64
      → (e ≡ d) × (m ≡ n)
  off e m low fits same =
      let node : reached old d (n / 64) ≡ reached old e (m / 64) = omega arith in
      let some : 0 < reached old d (n / 64) = g.node in
      let ends = g.tree.apart d e (n / 64) (m / 64) g.depth low fits_above fits node some in
      (sym ends.0, omega (arith, ends.1))

  within_old : 64 * reached old d (n / 64) + n % 64 < length old
  within_old = omega (arith, g.tree.within d (n / 64) g.depth fits_above g.some)

  -- what stands in another slot stays
  kept : (i : ℕ) → (i ≡ 64 * reached old d (n / 64) + n % 64 → ⊥) → slot new i ≡ slot old i
  kept i other =
      g.written i ∙ cond-false (nat_eq i (64 * reached old d (n / 64) + n % 64)) v (slot old i)
      (ne_eqb i (64 * reached old d (n / 64) + n % 64) other)

  -- what prefixes lead to down to the written node stays
  above : (e m : ℕ) → e ≤ d → Fits e m → reached new e m ≡ reached old e m
  unfolding reached Fits
  above zero m low fits = refl
  above (suc e) m low fits =
      let up = above e (m / 64) (omega arith) fits in
      ap (λ (k : ℕ). slot new (64 * k + m % 64)) up
      ∙ kept (64 * reached old e (m / 64) + m % 64)
      (λ hit. let o = off e m (omega (arith, g.depth)) fits hit in absurd (omega (arith, o.0)))

  -- n leads to what was written
  pub hit : reached new (suc d) n ≡ v
  unfolding reached
  hit =
      let here = 64 * reached old d (n / 64) + n % 64 in
      ap (λ (k : ℕ). slot new (64 * k + n % 64)) (above d (n / 64) (omega arith) fits_above)
      ∙ g.written here ∙ cond-true (nat_eq here here) v (slot old here) (eq-eqb here here refl)

  -- a prefix that goes on from n leads nowhere, then as before
  behind : (e m : ℕ) → e < 5 → e ≡ suc d → m / 64 ≡ n
      → slot new (64 * reached new e (m / 64) + m % 64) ≡ slot old (64 * reached old e (m / 64) + m % 64)
  behind e m low is leads =
      let fresh = g.fresh (omega arith) in
      let now : reached new e (m / 64) ≡ v = (λ j. reached new (is j) (leads j)) ∙ hit in
      let before : reached old e (m / 64) ≡ 0 = (λ j. reached old (is j) (leads j)) ∙ g.free in
      let far : slot old (64 * v + m % 64) ≡ 0 = get_or_past old (64 * v + m % 64) 0 (omega arith) in
      let past : slot new (64 * v + m % 64) ≡ slot old (64 * v + m % 64) = kept (64 * v + m % 64)
      (λ same. absurd (omega (arith, within_old))) in
      let none : slot old (64 * 0 + m % 64) ≡ 0 = g.tree.blank (64 * 0 + m % 64) (omega arith) in
      ap (λ (k : ℕ). slot new (64 * k + m % 64)) now ∙ past ∙ far ∙ sym none
      ∙ sym (ap (λ (k : ℕ). slot old (64 * k + m % 64)) before)

  next : (e m : ℕ) → e < 5 → Fits e (m / 64) → (reached new e (m / 64) ≡ reached old e (m / 64))
      ⊎ ((e ≡ suc d) × (m / 64 ≡ n))
      → (reached new (suc e) m ≡ reached old (suc e) m) ⊎ ((suc e ≡ suc d) × (m ≡ n))
  unfolding reached
  next e m low fits (inl same) =
      let here = 64 * reached old e (m / 64) + m % 64 in
      elim (cases_eq here (64 * reached old d (n / 64) + n % 64)) [
        | inl hits ↦ let o = off e m low fits hits in inr (ap suc o.0, o.1)
        | inr other ↦ inl (ap (λ (k : ℕ). slot new (64 * k + m % 64)) same ∙ kept here other)
      ]
  next e m low fits (inr goes) = inl (behind e m low goes.0 goes.1)

  -- what every prefix leads to stays, but n
  pub stays : (e m : ℕ) → e ≤ 5 → Fits e m → (reached new e m ≡ reached old e m) ⊎ ((e ≡ suc d) × (m ≡ n))
  unfolding reached Fits
  stays zero m low fits = inl refl
  stays (suc e) m low fits = next e m (omega arith) fits (stays e (m / 64) (omega arith) fits)

  within_new : (e m : ℕ) → e < 5 → Fits e m → 64 * reached new e m + 64 ≤ length new
  within_new e m low fits =
      elim (stays e m (omega arith) fits) [
        | inl same ↦ omega (arith, same, g.longer, g.tree.within e m low fits g.some)
        | inr goes ↦
            let now : reached new e m ≡ v = (λ j. reached new (goes.0 j) (goes.1 j)) ∙ hit in
            let small : d < 4 = omega (arith, goes.0) in
            omega (arith, now, g.fresh small, g.room small)
      ]

  -- a prefix of at most five digits that isn't n leads to an old node
  older : (e m : ℕ) → e < 5 → Fits e m → d < 4 → reached old e m < v
  older e m low fits small = omega (arith, g.fresh small, g.tree.within e m low fits g.some)

  apart_new : (e f k m : ℕ) → e < 5 → f < 5 → Fits e k → Fits f m → reached new e k ≡ reached new f m
      → 0 < reached new e k
      → (e ≡ f) × (k ≡ m)
  apart_new e f k m low deep fits_k fits_m same some =
      elim (stays e k (omega arith) fits_k) [
        | inl one ↦
            elim (stays f m (omega arith) fits_m) [
              | inl two ↦ g.tree.apart e f k m low deep fits_k fits_m (sym one ∙ same ∙ two)
                  (subst (λ (x : ℕ). 0 < x) one some)
              | inr goes ↦
                  let now : reached new f m ≡ v = (λ j. reached new (goes.0 j) (goes.1 j)) ∙ hit in
                  absurd (omega (arith, one, same, now, older e k low fits_k (omega (arith, goes.0))))
            ]
        | inr goes ↦
            let now : reached new e k ≡ v = (λ j. reached new (goes.0 j) (goes.1 j)) ∙ hit in
            elim (stays f m (omega arith) fits_m) [
              | inl two ↦ absurd (omega (arith, two, same, now, older f m deep fits_m (omega (arith, goes.0))))
              | inr too ↦ (goes.0 ∙ sym too.0, goes.1 ∙ sym too.1)
            ]
      ]

  -- the slots are sound then
  pub grown : IsTree new
  grown = record {
    whole = g.whole;
    blank = λ i below. kept i (λ hits. absurd (omega (arith, g.node))) ∙ g.tree.blank i below;
    within = λ e m low fits some. within_new e m low fits;
    apart = apart_new;
  }

  -- a further node leaves what all six digits of a number lead to
  pub alike : d < 4 → LeadsAlike old new
  alike small = λ number fits.
      elim (stays 5 number (omega arith) fits) [
        | inl same ↦ same
        | inr goes ↦ absurd (omega (arith, goes.0))
      ]
