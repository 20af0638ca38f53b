-- What the entries say of the roots that hold tags is what the history says.
use Rattle.bbm_roots.proofs.Common.{pe_finds, pe_none, ◌≡◌, ℕ, ◌<◌, ◌≤◌, ⊎_elim, Option, Some, None, Bool, true, false}
use Rattle.bbm_roots.proofs.Common.{pe_in, any_and, any_both, any_same, Heading, Event, Msr, Patterns, holds_at}
use Rattle.bbm_roots.proofs.Common.{holds_tag, left_at, left_tag, readings, ◌&&◌, ◌||◌, nat_eq, List, ◌∷◌, refl, sym, ◌∙◌, ap, list_any}
use Rattle.bbm_roots.proofs.Common.{proved, Is, IndexMap, get, cases_lt, eq-eqb, Tag, Reg, some_pe, is_kept_by, hold_in}
use Rattle.bbm_roots.proofs.Common.{keeps_in, kept_in, kept_tag, left_in, has_tag}
use Rattle.bbm_roots.proofs.Common.{tag_in, entry_bit, entry_kept, tag_key, conflict_in, is_clash, IsCalm, has_reading}
use Rattle.bbm_roots.proofs.Common.{has_other, conflicts, Held, Reading, first_none, second_none, false≢true, not-true}
use Rattle.bbm_lemmas.proofs.Bools.{not_from}
use Rattle.bbm_lemmas.proofs.Tests.{any_or}
use Rattle.bbm_lemmas.specs.ListWords.{below}
use Rattle.bbm_roots.proofs.Tests.{none_at}
use Rattle.bbm_roots.proofs.Entries.{by-root}
use Rattle.bbm_roots.proofs.Steps.{holds-written, left-stay}
use mathlib.Core.Bool.{or_comm}

-- at this PE alone
some_pe-one : (n pe : ℕ) (b : Bool) → pe < n → some_pe n (λ p. nat_eq p pe && b) ≡ b
some_pe-one n pe b lt =
    any_both (λ p. nat_eq p pe) b (below n)
    ∙ ap (λ (c : Bool). c && b) (pe_finds n (λ p. nat_eq p pe) pe lt (eq-eqb pe pe refl))

-- at one PE of the entry
entry-is : (l : Bool) (n r : ℕ) (o : Option Held) → entry_kept l n r o ≡ some_pe n (λ p. entry_bit l r p o)
entry-is l n r None = sym (pe_none n (λ p. false) (λ p lt. refl))
entry-is l n r (Some held) = sym (any_and (is_kept_by l r held) (pe_in held.pes) (below n))

module _ {S : Type 0} (hs : IndexMap ℕ Held S) where
  pub kept_tag-is : (l : Bool) (n : ℕ) (g : Tag) (r : ℕ) → kept_tag hs l n g r ≡ some_pe n (keeps_in hs l g r)
  kept_tag-is l n g r = entry-is l n r (get nat_eq hs (tag_key g))

  -- what the entries say is what the history says
  pub tag-held : (heading : Heading) (h : List Event) →
      ((g : Tag) (r p : ℕ) → hold_in hs g r p ≡ holds_at heading Patterns p r g h) → (g : Tag) (r : ℕ) →
      tag_in hs heading.pes g r ≡ holds_tag heading Patterns r g h
  tag-held heading h same g r =
      kept_tag-is false heading.pes g r
      ∙ any_same (hold_in hs g r) (λ p. holds_at heading Patterns p r g h) (below heading.pes) (same g r)

  pub tag-left : (heading : Heading) (h : List Event) →
      ((g : Tag) (r p : ℕ) → left_in hs g r p ≡ left_at heading Patterns p r g h) → (g : Tag) (r : ℕ) →
      kept_tag hs true heading.pes g r ≡ left_tag heading Patterns r g h
  tag-left heading h same g r =
      kept_tag-is true heading.pes g r
      ∙ any_same (left_in hs g r) (λ p. left_at heading Patterns p r g h) (below heading.pes) (same g r)

  -- what the tags that are about to be readable show is what is in conflict
  pub clash-split : (n : ℕ) (seen : List Reading) (x : Reading) →
      list_any (is_clash hs n seen x) seen ≡ conflict_in hs n seen x
  clash-split n seen x =
      simp (any_or, any_both)
      (proved 5 (λ a o t s l. Is ((a && o) || ((o && t) || (s && l))) ((o && (a || t)) || (s && l))) refl
      (has_reading x.tag x.root seen) (has_other x.tag x.root seen) (tag_in hs n x.tag x.root) (has_tag x.tag seen)
      (kept_tag hs true n x.tag x.root))

-- A register write of one PE, at which the tags and roots seen are then readable.
module _ {S : Type 0} (heading : Heading) (h : List Event) (pe : ℕ) (reg : Reg) (value : ℕ) (seen : List Reading)
    (here : (p : ℕ) → nat_eq p pe ≡ true → readings heading (Msr pe reg value ∷ h) p ≡ seen)
    (there : (p : ℕ) → nat_eq p pe ≡ false → readings heading (Msr pe reg value ∷ h) p ≡ readings heading h p)
    (known : pe < heading.pes) (hs : IndexMap ℕ Held S)
    (same : (g : Tag) (r p : ℕ) → hold_in hs g r p ≡ holds_at heading Patterns p r g h)
    (left : (g : Tag) (r p : ℕ) → left_in hs g r p ≡ left_at heading Patterns p r g h) where
  tag-written : (g : Tag) (r : ℕ) → holds_tag heading Patterns r g (Msr pe reg value ∷ h)
      ≡ (tag_in hs heading.pes g r || has_reading g r seen)
  tag-written g r =
      any_same (λ p. holds_at heading Patterns p r g (Msr pe reg value ∷ h))
      (λ p. holds_at heading Patterns p r g h || (nat_eq p pe && has_reading g r seen)) (below heading.pes)
      (λ p. sym (holds-written heading h pe reg value seen here there g r p))
      ∙ any_or (λ p. holds_at heading Patterns p r g h) (λ p. nat_eq p pe && has_reading g r seen) (below heading.pes)
      ∙ ap (λ (b : Bool). holds_tag heading Patterns r g h || b) (some_pe-one heading.pes pe (has_reading g r seen) known)
      ∙ ap (λ (b : Bool). b || has_reading g r seen) (sym (tag-held hs heading h same g r))

  pub conflict-is : (x : Reading) → conflict_in hs heading.pes seen x ≡ conflicts heading (Msr pe reg value ∷ h) pe x
  conflict-is x =
      rw (
        or_comm (has_reading x.tag x.root seen) (tag_in hs heading.pes x.tag x.root),
        ← tag-written x.tag x.root,
        tag-left hs heading h left x.tag x.root,
        ← here pe (eq-eqb pe pe refl),
      )
      (ap (λ (b : Bool). (has_other x.tag x.root (readings heading (Msr pe reg value ∷ h) pe)
      && holds_tag heading Patterns x.root x.tag (Msr pe reg value ∷ h))
      || (has_tag x.tag (readings heading (Msr pe reg value ∷ h) pe) && b))
      (sym (any_same (λ p. left_at heading Patterns p x.root x.tag (Msr pe reg value ∷ h))
      (λ p. left_at heading Patterns p x.root x.tag h) (below heading.pes)
      (λ p. left-stay heading h (Msr pe reg value) x.tag x.root p refl refl))))

-- where nothing is in conflict at the first n PEs, and no other PE keeps a tag, no tag is to be taken from another root
pub calm-from : {S : Type 0} (hs : IndexMap ℕ Held S) (n : ℕ) (seen : List Reading) →
    ((g : Tag) (p : ℕ) → n ≤ p → kept_in hs g p ≡ false) →
    ((x : Reading) → conflict_in hs n seen x ≡ false) → IsCalm hs seen
calm-from hs n seen past none = record {
  others = λ g r other.
      let both : (has_reading g r seen || tag_in hs n g r) ≡ false =
      sym (ap (λ (b : Bool). b && (has_reading g r seen || tag_in hs n g r)) other) ∙ first_none _ _ (none (at g r)) in
      (first_none (has_reading g r seen) (tag_in hs n g r) both, unkept false g r (second_none (has_reading g r seen) _ both));
  none_left = λ g r p read.
      unkept true g r (sym (ap (λ (b : Bool). b && kept_tag hs true n g r) read)
      ∙ second_none (has_other g r seen && (has_reading g r seen || tag_in hs n g r)) _ (none (at g r))) p;
}
  where
    at : Tag → ℕ → Reading
    at g r = record { tag = g; root = r }

    unkept : (l : Bool) (g : Tag) (r : ℕ) → kept_tag hs l n g r ≡ false → (p : ℕ) → keeps_in hs l g r p ≡ false
    unkept l g r e p =
        ⊎_elim (none_at n (keeps_in hs l g r) p (sym (kept_tag-is hs l n g r) ∙ e))
        (λ k. not-true (keeps_in hs l g r p) (not_from _ (λ a. false≢true (sym (past g p k) ∙ by-root hs l g r p a)))) (cases_lt p n)
