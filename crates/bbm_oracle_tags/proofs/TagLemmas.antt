-- Which tags a root may hold, those that it holds, and the set of them.
use Rattle.bbm_rules.proofs.Common.{◌≡◌, ℕ, ◌+◌, ◌<◌, take, get_or, Bool, true, false, not, ◌&&◌, ◌||◌, List, [], ◌∷◌}
use Rattle.bbm_rules.proofs.Common.{length, refl, sym, ap, ◌∙◌, true≢false, and_from, list_any_more, TagSet, One, Many}
use Rattle.bbm_rules.proofs.Common.{Heading, Event, Tag, changes, Trust, same_tag, ends, holds_at, reads, first_true}
use Rattle.bbm_rules.proofs.Common.{or-false}
use Rattle.bbm_tlbi_scope.specs.declared.entry.TagSet.TheVariants.{None as NoTag}
use Rattle.bbm_oracle_tags.specs.HeldTagSets.{HasTags, has_tag, was_read}
use Rattle.bbm_oracle_tags.proofs.MomentLemmas.{same-reads, reads-nothing}
use Rattle.bbm_lemmas.proofs.Bools.{ands_of_last}

-- ---- tags that were read

-- a held tag was readable for the root
pub held-was-read : (heading : Heading) (trust : Trust) (p root : ℕ) (tag : Tag) (h : List Event)
    → holds_at heading trust p root tag h ≡ true
    → was_read heading p root tag h ≡ true
held-was-read heading trust p root tag [] k = k
held-was-read heading trust p root tag (e ∷ h) k =
    by_case (reads heading (e ∷ h) p tag root) k (λ l. held-was-read heading trust p root tag h l)
  where
    by_case : (b : Bool)
        → (b || (holds_at heading trust p root tag h && not (ends heading trust p root tag e h))) ≡ true
        → (holds_at heading trust p root tag h ≡ true → was_read heading p root tag h ≡ true)
        → (b || was_read heading p root tag h) ≡ true
    by_case true k rest = refl
    by_case false k rest = rest (first_true (holds_at heading trust p root tag h)
        (not (ends heading trust p root tag e h)) k)

-- what is read now was read
pub reads-was-read : (heading : Heading) (p root : ℕ) (tag : Tag) (h : List Event) → reads heading h p tag root ≡ true
    → was_read heading p root tag h ≡ true
reads-was-read heading p root tag [] k = absurd (true≢false (sym k ∙ reads-nothing heading p tag root))
reads-was-read heading p root tag (e ∷ h) k = ap (λ (b : Bool). b || was_read heading p root tag h) k

-- after an event that changes nothing of it
pub was-read-before : (heading : Heading) (p root : ℕ) (tag : Tag) (e : Event) (h : List Event)
    → ((changes e).roots || (changes e).registers) ≡ false → was_read heading p root tag (e ∷ h) ≡ true
    → was_read heading p root tag h ≡ true
was-read-before heading p root tag e h k read = by_case (reads heading (e ∷ h) p tag root) refl read
  where
    by_case : (b : Bool) → reads heading (e ∷ h) p tag root ≡ b → (b || was_read heading p root tag h) ≡ true
        → was_read heading p root tag h ≡ true
    by_case true r l = reads-was-read heading p root tag h (sym (same-reads heading e h p tag root k) ∙ r)
    by_case false r l = l

-- ---- lists of tags

module _ (decides : (g k : Tag) → same_tag g k ≡ true → g ≡ k) (itself : (g : Tag) → same_tag g g ≡ true) where
  -- a set of the tags that a root holds, and the set that the definitions give
  pub same-set : (test : Tag → Bool) (set other : TagSet)
      → HasTags test set
      → (other ≡ NoTag → (g : Tag) → test g ≡ false)
      → ((t : Tag) → other ≡ One t → (g : Tag) → test g ≡ same_tag t g)
      → (other ≡ Many → (g k : Tag) × (same_tag g k ≡ false) × (test g ≡ true) × (test k ≡ true))
      → set ≡ other
  same-set test NoTag NoTag has none one many = refl
  same-set test NoTag (One t) has none one many = absurd (true≢false (sym (one t refl t ∙ itself t) ∙ has t))
  same-set test NoTag Many has none one many = let two = many refl in absurd (true≢false (sym two.3 ∙ has two.0))
  same-set test (One t) NoTag has none one many = absurd (true≢false (sym (has t ∙ itself t) ∙ none refl t))
  same-set test (One t) (One u) has none one many = ap One (decides t u (sym (has u) ∙ one u refl u ∙ itself u))
  same-set test (One t) Many has none one many =
      let two = many refl in
      let a : t ≡ two.0 = decides t two.0 (sym (has two.0) ∙ two.3) in
      let b : t ≡ two.1 = decides t two.1 (sym (has two.1) ∙ two.4) in
      absurd (true≢false (sym (itself t) ∙ ap (λ (g : Tag). same_tag g t) a ∙ ap (λ (g : Tag). same_tag two.0 g) b
      ∙ two.2))
  same-set test Many NoTag has none one many = absurd (true≢false (sym has.3 ∙ none refl has.0))
  same-set test Many (One u) has none one many =
      let a : u ≡ has.0 = decides u has.0 (sym (one u refl has.0) ∙ has.3) in
      let b : u ≡ has.1 = decides u has.1 (sym (one u refl has.1) ∙ has.4) in
      absurd (true≢false (sym (itself u) ∙ ap (λ (g : Tag). same_tag g u) a ∙ ap (λ (g : Tag). same_tag has.0 g) b
      ∙ has.2))
  same-set test Many Many has none one many = refl

-- tests that say the same have the same set
pub set-same : (test other : Tag → Bool) (set : TagSet) → ((g : Tag) → test g ≡ other g) → HasTags test set
    → HasTags other set
set-same test other NoTag same has = λ g. sym (same g) ∙ has g
set-same test other (One t) same has = λ g. sym (same g) ∙ has g
set-same test other Many same has = (has.0, has.1, has.2, sym (same has.0) ∙ has.3, sym (same has.1) ∙ has.4)

-- ---- the tags of a list that a root holds

module _ (decides : (g k : Tag) → same_tag g k ≡ true → g ≡ k) where
  -- the tag is held
  pub hit-held : (holds : Tag → Bool) (tag : Tag) → same_tag tag tag ≡ true → holds tag ≡ true
      → (same_tag tag tag && holds tag) ≡ true
  hit-held holds tag same held = and_from (same_tag tag tag) (holds tag) same held

  pub hit-same : (holds : Tag → Bool) (tag g : Tag) → (same_tag tag g && holds g) ≡ true → g ≡ tag
  hit-same holds tag g k = sym (decides tag g (first_true (same_tag tag g) (holds g) k))

  -- it isn't
  pub missed : (test holds : Tag → Bool) (tag : Tag) → holds tag ≡ false → (g : Tag)
      → test g ≡ (test g || (same_tag tag g && holds g))
  missed test holds tag none g = by_case (same_tag tag g) refl
    where
      by_case : (b : Bool) → same_tag tag g ≡ b → test g ≡ (test g || (b && holds g))
      by_case true e = sym (or-false (test g)) ∙ ap (λ (b : Bool). test g || b)
          (sym (ap holds (sym (decides tag g e)) ∙ none))
      by_case false e = sym (or-false (test g))

-- one more tag of the list
pub one-more : (holds : Tag → Bool) (tags : List Tag) (i : ℕ) (tag g : Tag) → i < length tags → tag ≡ get_or tags i tag
    → ((has_tag g (take i tags) && holds g) || (same_tag tag g && holds g)) ≡ (has_tag g (take (i + 1) tags) && holds g)
one-more holds tags i tag g lt is =
    ands_of_last (has_tag g (take i tags)) (same_tag tag g) (holds g)
    ∙ ap (λ (b : Bool). b && holds g) (ap (λ (t : Tag). has_tag g (take i tags) || same_tag t g) is
    ∙ sym (list_any_more (λ t. same_tag t g) tags i tag lt))
