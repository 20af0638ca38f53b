-- Tags and their keys, and maps by keys.
use Rattle.bbm_roots.proofs.Common.{◌≡◌, ◌+◌, ◌∙◌, ℕ, zero, suc, Bool, true, false, arith, ap, sym, refl, nat_eq}
use Rattle.bbm_roots.proofs.Common.{eq-eqb, eqb-true, not-true, false≢true, same_tag, tag_equal, tag_self, tag_key}
use Rattle.bbm_roots.proofs.Common.{tag_with, Tag, El2Tag, Ttbr1Tag, Vmid, Asid, IndexMap, get, Option, Some, None}
use Rattle.bbm_roots.proofs.Common.{is_some, cond, subst, Held, entry_bit, ◌||◌, same_swapped}
use Rattle.std.specs.Prelude.{◌*◌}
use Rattle.bbm_lemmas.proofs.Bools.{not_from}
use Rattle.bbm_roots.specs.Holds.{tag_after}
use Rattle.bbm_roots.specs.Keyed.{OthersStay}

with-even : (v : ℕ) → tag_with (2 * v + 2) ≡ Vmid v
with-even zero = refl
with-even (suc v) =
    let more : 2 * suc v + 2 ≡ suc (suc (2 * v + 2)) = omega arith in ap tag_with more ∙ ap tag_after (with-even v)

with-odd : (a : ℕ) → tag_with (2 * a + 3) ≡ Asid a
with-odd zero = refl
with-odd (suc a) =
    let more : 2 * suc a + 3 ≡ suc (suc (2 * a + 3)) = omega arith in ap tag_with more ∙ ap tag_after (with-odd a)

with-key : (g : Tag) → tag_with (tag_key g) ≡ g
with-key El2Tag = refl
with-key Ttbr1Tag = refl
with-key (Vmid v) = with-even v
with-key (Asid a) = with-odd a

after-key : (g : Tag) → tag_key (tag_after g) ≡ suc (suc (tag_key g))
after-key El2Tag = refl
after-key Ttbr1Tag = refl
after-key (Vmid v) = omega arith
after-key (Asid a) = omega arith

-- the tag with a key has it, and no other tag does
pub key-with : (key : ℕ) → tag_key (tag_with key) ≡ key
key-with zero = refl
key-with (suc zero) = refl
key-with (suc (suc key)) = after-key (tag_with key) ∙ ap (λ (k : ℕ). suc (suc k)) (key-with key)

pub keyed-tag : (g : Tag) (key : ℕ) → tag_key g ≡ key → tag_with key ≡ g
keyed-tag g key e = ap tag_with (sym e) ∙ with-key g

pub same-key : (g : Tag) (key : ℕ) → nat_eq (tag_key g) key ≡ same_tag (tag_with key) g
same-key g key = by (nat_eq (tag_key g) key) refl
  where
    by : (b : Bool) → nat_eq (tag_key g) key ≡ b → b ≡ same_tag (tag_with key) g
    by true e = sym (ap (λ (t : Tag). same_tag t g) (keyed-tag g key (eqb-true (tag_key g) key e)) ∙ tag_self g)
    by false e =
        sym (not-true (same_tag (tag_with key) g) (not_from _ (λ same. false≢true (sym e
        ∙ eq-eqb (tag_key g) key (ap tag_key (sym (tag_equal (tag_with key) g same)) ∙ key-with key)))))

-- where one key was written or taken out, what was there is there still
pub written-more : {V : Type 0} (b : Bool) (v : V) (o : Option V) → is_some o ≡ true → is_some (cond b (Some v) o) ≡ true
written-more true v o e = refl
written-more false v o e = e

pub forgotten : {S : Type 0} (m : IndexMap ℕ Held S) (key : ℕ) (l : Bool) (r p : ℕ) →
    entry_bit l r p (get nat_eq m key) ≡ false → (q : ℕ) → entry_bit l r p (cond (nat_eq key q) None (get nat_eq m q)) ≡ entry_bit l r p (get nat_eq m q)
forgotten m key l r p none q = by (nat_eq key q) refl
  where
    by : (b : Bool) → nat_eq key q ≡ b →
        entry_bit l r p (cond b None (get nat_eq m q)) ≡ entry_bit l r p (get nat_eq m q)
    by true e = sym (ap (λ (k : ℕ). entry_bit l r p (get nat_eq m k)) (sym (eqb-true key q e)) ∙ none)
    by false e = refl

-- where what stands under the other keys stays, the same keys are there
pub known-by : {V S : Type 0} (old new : IndexMap ℕ V S) (key : ℕ) →
    is_some (get nat_eq new key) ≡ is_some (get nat_eq old key) → OthersStay key old new → (q : ℕ) →
    is_some (get nat_eq new q) ≡ is_some (get nat_eq old q)
known-by old new key here others q = by (nat_eq key q) refl
  where
    by : (b : Bool) → nat_eq key q ≡ b → is_some (get nat_eq new q) ≡ is_some (get nat_eq old q)
    by true e = subst (λ (k : ℕ). is_some (get nat_eq new k) ≡ is_some (get nat_eq old k)) (eqb-true key q e) here
    by false e = ap is_some (others q e)

-- one more entry, of a tag that has none
module _ {V S : Type 0} (old new : IndexMap ℕ V S) (key : ℕ) (v : V)
    (updates : (q : ℕ) → get nat_eq new q ≡ cond (nat_eq key q) (Some v) (get nat_eq old q)) where
  pub entry-made : (t : Tag) → key ≡ tag_key t → (g : Tag) →
      is_some (get nat_eq new (tag_key g)) ≡ (is_some (get nat_eq old (tag_key g)) || same_tag t g)
  entry-made t is g =
      ap is_some (updates (tag_key g))
      ∙ put (nat_eq key (tag_key g)) (get nat_eq old (tag_key g))
      ∙ ap (λ (b : Bool). is_some (get nat_eq old (tag_key g)) || b)
      (same_swapped key (tag_key g) ∙ same-key g key ∙ ap (λ (u : Tag). same_tag u g) (keyed-tag t key (sym is)))
    where
      put : (b : Bool) (o : Option V) → is_some (cond b (Some v) o) ≡ (is_some o || b)
      put true None = refl
      put true (Some x) = refl
      put false None = refl
      put false (Some x) = refl

  pub entry-same : is_some (get nat_eq old key) ≡ false → (test : Option V → Bool) → test (Some v) ≡ false →
      test None ≡ false → (q : ℕ) → test (get nat_eq new q) ≡ test (get nat_eq old q)
  entry-same absent test empty none q = ap test (updates q) ∙ by (nat_eq key q) refl
    where
      passes : (o : Option V) → is_some o ≡ false → test o ≡ false
      passes None e = none
      passes (Some x) e = absurd (false≢true (sym e))

      by : (b : Bool) → nat_eq key q ≡ b → test (cond b (Some v) (get nat_eq old q)) ≡ test (get nat_eq old q)
      by true e =
          empty
          ∙ sym (ap (λ (k : ℕ). test (get nat_eq old k)) (sym (eqb-true key q e)) ∙ passes (get nat_eq old key) absent)
      by false e = refl
