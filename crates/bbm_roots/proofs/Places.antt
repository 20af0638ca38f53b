-- The places of issuers, where their TLBIs wait.
use Rattle.bbm_roots.proofs.Common.{◌≡◌, ℕ, zero, suc, ◌<◌, ◌≤◌, ◌++◌, Bool, true, false, ◌&&◌, nat_eq, List, [], ◌∷◌}
use Rattle.bbm_roots.proofs.Common.{length, set, get_or, refl, sym, ◌∙◌, ◌+◌, ◌||◌, not, ap, arith, cond, Option, Some}
use Rattle.bbm_roots.proofs.Common.{None, is_some, lookup, eq-eqb, nat_tests, eqb-suc-zero, eqb-zero-suc, eqb-suc-suc}
use Rattle.bbm_roots.proofs.Common.{IndexMap, get, index_map_len, Tag, tag_key, slot_of, wait_at, wait_bit, wait_in}
use Rattle.bbm_roots.proofs.Common.{has_wait, same_flag, PeMask}
use Rattle.indexmap.specs.IndexMap.{Updates}

none-among : (key : ℕ) (es : List (ℕ × PeMask)) → length es ≡ 0 → lookup (nat_eq key) es ≡ None
none-among key [] e = refl
none-among key (x ∷ xs) e = absurd (omega (arith, e))

lookup-last : (test : ℕ → Bool) (es : List (ℕ × PeMask)) (e : ℕ × PeMask) → lookup test es ≡ None → test e.0 ≡ true →
    lookup test (es ++ e ∷ []) ≡ Some e.1
lookup-last test [] e none hit = ap (λ (b : Bool). cond b (Some e.1) None) hit
lookup-last test (x ∷ xs) e none hit = grind (arith, lookup-last test xs e)

module _ {S : Type 0} where
  -- the entry under a key in a place that is there
  pub at-get_or : (ms : List (IndexMap ℕ PeMask S)) (n key : ℕ) (d : IndexMap ℕ PeMask S) → n < length ms →
      wait_at ms n key ≡ get nat_eq (get_or ms n d) key
  at-get_or [] n key d h = absurd (omega arith)
  at-get_or (m ∷ ms) zero key d h = refl
  at-get_or (m ∷ ms) (suc n) key d h = at-get_or ms n key d (omega arith)

  -- one place written
  pub at-set : (ms : List (IndexMap ℕ PeMask S)) (i : ℕ) (new : IndexMap ℕ PeMask S) (n key : ℕ) → i < length ms →
      wait_at (set ms i new) n key ≡ cond (nat_eq n i) (get nat_eq new key) (wait_at ms n key)
  at-set [] i new n key h = absurd (omega arith)
  at-set (m ∷ ms) zero new zero key h = refl
  at-set (m ∷ ms) zero new (suc n) key h = rw (eqb-suc-zero n) refl
  at-set (m ∷ ms) (suc i) new zero key h = rw (eqb-zero-suc i) refl
  at-set (m ∷ ms) (suc i) new (suc n) key h = rw (eqb-suc-suc n i) (at-set ms i new n key (omega arith))

  -- past the last place there is nothing
  pub at-past : (ms : List (IndexMap ℕ PeMask S)) (n key : ℕ) → length ms ≤ n → wait_at ms n key ≡ None
  at-past [] n key h = refl
  at-past (m ∷ ms) zero key h = absurd (omega arith)
  at-past (m ∷ ms) (suc n) key h = at-past ms n key (omega arith)

  -- one more place, which is empty
  pub at-push : (m : IndexMap ℕ PeMask S) → ((key : ℕ) → get nat_eq m key ≡ None) →
      (ms : List (IndexMap ℕ PeMask S)) (n key : ℕ) →
      wait_at (ms ++ m ∷ []) n key ≡ wait_at ms n key
  at-push m none [] zero key = none key
  at-push m none [] (suc n) key = refl
  at-push m none (x ∷ xs) zero key = refl
  at-push m none (x ∷ xs) (suc n) key = at-push m none xs n key

  pub at-place : (ms : List (IndexMap ℕ PeMask S)) (i : ℕ) (m : IndexMap ℕ PeMask S) → i < length ms →
      m ≡ get_or ms i m → (key : ℕ) →
      wait_at ms i key ≡ get nat_eq m key
  at-place ms i m h is key = at-get_or ms i key m h ∙ ap (λ (x : IndexMap ℕ PeMask S). get nat_eq x key) (sym is)

  -- one more place, as a loop makes it
  pub at-grown : (m : IndexMap ℕ PeMask S) (ms ns : List (IndexMap ℕ PeMask S)) → ns ≡ ms ++ m ∷ [] →
      m.entries ≡ [] → (n key : ℕ) →
      wait_at ns n key ≡ wait_at ms n key
  at-grown m ms ns is empty n key =
      ap (λ (xs : List (IndexMap ℕ PeMask S)). wait_at xs n key) is
      ∙ at-push m (λ k. ap (λ (es : List (ℕ × PeMask)). lookup (nat_eq k) es) empty) ms n key

  -- one place emptied, where it is there
  pub at-emptied : (ms : List (IndexMap ℕ PeMask S)) (i : ℕ) (new : IndexMap ℕ PeMask S) → ((key : ℕ) →
      get nat_eq new key ≡ None) →
      i < length ms → (n key : ℕ) → wait_at (set ms i new) n key ≡ cond (nat_eq n i) None (wait_at ms n key)
  at-emptied ms i new none h n key =
      at-set ms i new n key h ∙ ap (λ (o : Option PeMask). cond (nat_eq n i) o (wait_at ms n key)) (none key)

  pub at-outside : (ms : List (IndexMap ℕ PeMask S)) (i : ℕ) → length ms ≤ i → (n key : ℕ) →
      wait_at ms n key ≡ cond (nat_eq n i) None (wait_at ms n key)
  at-outside ms i past n key = grind (arith, nat_tests, at-past)

  pub none-in : (m : IndexMap ℕ PeMask S) → index_map_len m ≡ 0 → (key : ℕ) → get nat_eq m key ≡ None
  none-in m e key = none-among key m.entries e

  -- each place up to this one, which was just written, has the tag at the PE where it had it and c holds
  pub at-next : (g : Tag) (p : ℕ) (c : Bool) (now old : List (IndexMap ℕ PeMask S)) (i : ℕ)
      (d y : IndexMap ℕ PeMask S) → i < length now →
      wait_at now i (tag_key g) ≡ wait_at old i (tag_key g) → wait_in y g p ≡ (wait_in (get_or now i d) g p && c) →
      ((n : ℕ) → n < i → wait_bit p (wait_at now n (tag_key g)) ≡ (wait_bit p (wait_at old n (tag_key g)) && c)) →
      (n : ℕ) → n < i + 1 →
      wait_bit p (wait_at (set now i y) n (tag_key g)) ≡ (wait_bit p (wait_at old n (tag_key g)) && c)
  at-next g p c now old i d y h same here front n lt = grind (arith, nat_tests, at-set, at-get_or)

  pub at-behind : (now : List (IndexMap ℕ PeMask S)) (i : ℕ) (y : IndexMap ℕ PeMask S) → i < length now →
      (n key : ℕ) → i + 1 ≤ n →
      wait_at (set now i y) n key ≡ wait_at now n key
  at-behind now i y h n key le = grind (arith, nat_tests, at-set)

  -- one place changed, where the entries of a tag at a PE stay
  pub at-kept : (ms : List (IndexMap ℕ PeMask S)) (i : ℕ) (m new : IndexMap ℕ PeMask S) → i < length ms →
      m ≡ get_or ms i m →
      ((g : Tag) (p : ℕ) → wait_in new g p ≡ wait_in m g p) → (n : ℕ) (g : Tag) (p : ℕ) →
      wait_bit p (wait_at (set ms i new) n (tag_key g)) ≡ wait_bit p (wait_at ms n (tag_key g))
  at-kept ms i m new h is same n g p = grind (arith, nat_tests, at-set, at-place, same)

  -- the place that was just written
  pub at-here : (ms : List (IndexMap ℕ PeMask S)) (i : ℕ) (new : IndexMap ℕ PeMask S) → i < length ms → (key : ℕ) →
      wait_at (set ms i new) i key ≡ get nat_eq new key
  at-here ms i new h key = grind (arith, nat_tests, at-set)

  -- one place changed, where the entry of a tag gets a PE if z holds
  pub at-noted : (ms : List (IndexMap ℕ PeMask S)) (i : ℕ) (m new : IndexMap ℕ PeMask S) → i < length ms →
      m ≡ get_or ms i m →
      (g : Tag) (p : ℕ) (z : Bool) → wait_in new g p ≡ (wait_in m g p || (has_wait m g && z)) → (n : ℕ) →
      wait_bit p (wait_at (set ms i new) n (tag_key g))
      ≡ (wait_bit p (wait_at ms n (tag_key g)) || (is_some (wait_at ms n (tag_key g)) && (nat_eq n i && z)))
  at-noted ms i m new h is g p z noted n = grind (arith, nat_tests, at-set, at-place)

  -- where the place isn't there, there is no entry
  pub at-unnoted : (ms : List (IndexMap ℕ PeMask S)) (i : ℕ) → length ms ≤ i → (g : Tag) (p : ℕ) (z : Bool) (n : ℕ) →
      wait_bit p (wait_at ms n (tag_key g))
      ≡ (wait_bit p (wait_at ms n (tag_key g)) || (is_some (wait_at ms n (tag_key g)) && (nat_eq n i && z)))
  at-unnoted ms i past g p z n = grind (arith, nat_tests, at-past)

  -- an entry taken out at the end
  pub popped-step : (old new : IndexMap ℕ PeMask S) (e : ℕ × PeMask) → old.entries ≡ new.entries ++ e ∷ [] →
      Updates nat_eq old new e.0 None → (g : Tag) (p : ℕ) (h : Bool) →
      ((h && not (nat_eq (tag_key g) e.0 && wait_bit p (Some e.1))) && not (wait_in new g p))
      ≡ (h && not (wait_in old g p))
  popped-step old new e is updates g p h =
      let gone : get nat_eq new e.0 ≡ None = updates.1 in
      let was : get nat_eq old e.0 ≡ Some e.1 =
      ap (λ (es : List (ℕ × PeMask)). lookup (nat_eq e.0) es) is
      ∙ lookup-last (nat_eq e.0) new.entries e gone (eq-eqb e.0 e.0 refl) in
      let others = updates.2 in
      grind (arith, nat_tests, others)

-- each issuer has two places of its own
pub slots : (q : ℕ) (b : Bool) (r : ℕ) (c : Bool) → nat_eq (slot_of q b) (slot_of r c) ≡ (nat_eq q r && same_flag c b)
slots q true r true = grind (arith, nat_tests)
slots q true r false = grind (arith, nat_tests)
slots q false r true = grind (arith, nat_tests)
slots q false r false = grind (arith, nat_tests)

pub ruleset growing = (at-grown)
