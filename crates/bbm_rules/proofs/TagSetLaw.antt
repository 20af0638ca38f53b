-- The list of the tags that a root holds has each of them once, so the tag set says whether there is none, one or more.
use Rattle.bbm_rules.proofs.Common.{◌≡◌, ℕ, Bool, true, false, cond, not, ◌&&◌, ◌==◌, List, [], ◌∷◌, filter, filter_map}
use Rattle.bbm_rules.proofs.Common.{flat_map, Some, refl, sym, ◌∙◌, ap, subst, inl, inr, true≢false, and_parts}
use Rattle.bbm_rules.proofs.Common.{false_from_ne_true, or_cases, One, Many, Tag, Heading, Event, In, any_finds}
use Rattle.bbm_rules.proofs.Common.{any_found, from_filter, in_left, in_right, to_filter, to_flat, Trust, same_tag, any}
use Rattle.bbm_rules.proofs.Common.{below, if_so, Reading, distinct, ends, ever_read, holds_at, holds_tag, readings}
use Rattle.bbm_rules.proofs.Common.{reads, tag_set, tag_for, tags_of}
use Rattle.bbm_tlbi_scope.specs.declared.entry.TagSet.TheVariants.{None as NoTag}
use Rattle.bbm_rules.proofs.SameRegister.{tag_equal, tag_self}
use Rattle.bbm_lemmas.proofs.Elements.{to_filter_map}

-- ---- a list with each tag once

abbrev Once : List Tag → Type 0
Once [] = Unit {0}
Once (g ∷ gs) = (In gs g → ⊥) × Once gs

keeps_by : (g tag : Tag) (gs : List Tag) (b : Bool) → any (same_tag g) gs ≡ b → In (g ∷ gs) tag
    → ((x : Tag) → In gs x → In (distinct gs) x) → In (cond b (distinct gs) (g ∷ distinct gs)) tag
keeps_by g tag gs true e (inl same) rest =
    let r = any_found (same_tag g) gs e in
    rest tag (subst (λ (x : Tag). In gs x) (sym (tag_equal g r.0 r.2) ∙ same) r.1)
keeps_by g tag gs true e (inr i) rest = rest tag i
keeps_by g tag gs false e (inl same) rest = inl same
keeps_by g tag gs false e (inr i) rest = inr (rest tag i)

pub distinct_keeps : (gs : List Tag) (tag : Tag) → In gs tag → In (distinct gs) tag
distinct_keeps [] tag i = i
distinct_keeps (g ∷ gs) tag i = keeps_by g tag gs (any (same_tag g) gs) refl i (distinct_keeps gs)

from_by : (g tag : Tag) (gs : List Tag) (b : Bool) → In (cond b (distinct gs) (g ∷ distinct gs)) tag
    → (In (distinct gs) tag → In gs tag) → In (g ∷ gs) tag
from_by g tag gs true i rest = inr (rest i)
from_by g tag gs false (inl same) rest = inl same
from_by g tag gs false (inr i) rest = inr (rest i)

from_distinct : (gs : List Tag) (tag : Tag) → In (distinct gs) tag → In gs tag
from_distinct [] tag i = i
from_distinct (g ∷ gs) tag i = from_by g tag gs (any (same_tag g) gs) i (from_distinct gs tag)

once_by : (g : Tag) (gs : List Tag) (b : Bool) → any (same_tag g) gs ≡ b → Once (distinct gs)
    → Once (cond b (distinct gs) (g ∷ distinct gs))
once_by g gs true e rest = rest
once_by g gs false e rest =
    (λ i. true≢false (sym (any_finds (same_tag g) gs g (from_distinct gs g i) (tag_self g)) ∙ e), rest)

once : (gs : List Tag) → Once (distinct gs)
once [] = tt
once (g ∷ gs) = once_by g gs (any (same_tag g) gs) refl (once gs)

filter_by : (test : Tag → Bool) (g : Tag) (gs : List Tag) (b : Bool) → (In gs g → ⊥) → Once (filter test gs)
    → Once (cond b (g ∷ filter test gs) (filter test gs))
filter_by test g gs true apart rest = (λ i. apart (from_filter test gs g i).0, rest)
filter_by test g gs false apart rest = rest

filter_once : (test : Tag → Bool) (gs : List Tag) → Once gs → Once (filter test gs)
filter_once test [] o = tt
filter_once test (g ∷ gs) o = filter_by test g gs (test g) o.0 (filter_once test gs o.1)

-- ---- the tags that were ever readable

in_tags : (tag : Tag) (root : ℕ) (rs : List Reading) (r : Reading) → In rs r → (same_tag r.tag tag && r.root == root) ≡ true
    → In (filter_map (tag_for root) rs) tag
in_tags tag root rs r i k =
    let parts = and_parts (same_tag r.tag tag) (r.root == root) k in
    to_filter_map (tag_for root) rs r tag i
    (ap (λ b. if_so b r.tag) parts.1 ∙ ap (λ g. Some g) (tag_equal r.tag tag parts.0))

module _ (heading : Heading) (trust : Trust) (root : ℕ) (tag : Tag) where
  was_read : (p : ℕ) → In (below heading.pes) p → (h : List Event) → holds_at heading trust p root tag h ≡ true
      → In (ever_read heading root h) tag
  was_read p among [] k = absurd (true≢false (sym k))
  was_read p among (e ∷ h) k =
      let now = flat_map (λ (q : ℕ). filter_map (tag_for root) (readings heading (e ∷ h) q)) (below heading.pes) in
      elim (or_cases (reads heading (e ∷ h) p tag root)
      (holds_at heading trust p root tag h && not (ends heading trust p root tag e h)) k) [
        | inl here ↦
            let r = any_found (λ (r : Reading). same_tag r.tag tag && r.root == root) (readings heading (e ∷ h) p) here in
            in_left now (ever_read heading root h) tag
            (to_flat (λ (q : ℕ). filter_map (tag_for root) (readings heading (e ∷ h) q)) (below heading.pes) p tag among
            (in_tags tag root (readings heading (e ∷ h) p) r.0 r.1 r.2))
        | inr before ↦
            let r = and_parts (holds_at heading trust p root tag h) (not (ends heading trust p root tag e h)) before in
            in_right now (ever_read heading root h) tag (was_read p among h r.0)
      ]

  held_is_listed : (h : List Event) → holds_tag heading trust root tag h ≡ true → In (tags_of heading trust root h) tag
  held_is_listed h k =
      let r = any_found (λ (p : ℕ). holds_at heading trust p root tag h) (below heading.pes) k in
      to_filter (λ (g : Tag). holds_tag heading trust root g h) (distinct (ever_read heading root h)) tag
      (distinct_keeps (ever_read heading root h) tag (was_read r.0 r.1 h r.2)) k

  listed_is_held : (h : List Event) → In (tags_of heading trust root h) tag → holds_tag heading trust root tag h ≡ true
  listed_is_held h i =
      (from_filter (λ (g : Tag). holds_tag heading trust root g h) (distinct (ever_read heading root h)) tag i).1

once_each : (heading : Heading) (trust : Trust) (root : ℕ) (h : List Event) → Once (tags_of heading trust root h)
once_each heading trust root h =
    filter_once (λ (g : Tag). holds_tag heading trust root g h) (distinct (ever_read heading root h))
    (once (ever_read heading root h))

-- ---- the tag set of a list that has the tags that pass a test, each once

module _ (holds : Tag → Bool) where
  record Lists (gs : List Tag) : Type 0 where
    each : Once gs
    has : (g : Tag) → holds g ≡ true → In gs g
    only : (g : Tag) → In gs g → holds g ≡ true

  none_by : (gs : List Tag) → Lists gs → tag_set gs ≡ NoTag → (g : Tag) → holds g ≡ false
  none_by [] l e g = false_from_ne_true (holds g) (λ k. l.has g k)
  none_by (a ∷ []) l e g = cc
  none_by (a ∷ b ∷ gs) l e g = cc

  one_by : (gs : List Tag) → Lists gs → (a : Tag) → tag_set gs ≡ One a → (g : Tag) → holds g ≡ same_tag a g
  one_by [] l a e g = cc
  one_by (b ∷ []) l a e g = by (holds g) refl (same_tag a g) refl
    where
      same : b ≡ a
      same = cc

      by : (x : Bool) → holds g ≡ x → (y : Bool) → same_tag a g ≡ y → holds g ≡ same_tag a g
      by true h true k = h ∙ sym k
      by false h false k = h ∙ sym k
      by true h false k = elim (l.has g h) [
        | inl is ↦ absurd (true≢false (sym (tag_self a) ∙ (ap (same_tag a) (sym same ∙ is) ∙ k)))
        | inr none ↦ absurd none
      ]
      by false h true k = absurd (true≢false (sym (l.only g (inl (same ∙ tag_equal a g k))) ∙ h))
  one_by (b ∷ c ∷ gs) l a e g = cc

  many_by : (gs : List Tag) → Lists gs → tag_set gs ≡ Many
      → (a b : Tag) × (same_tag a b ≡ false) × (holds a ≡ true) × (holds b ≡ true)
  many_by [] l e = cc
  many_by (a ∷ []) l e = cc
  many_by (a ∷ b ∷ gs) l e = (
    a,
    b,
    false_from_ne_true (same_tag a b) (λ k. l.each.0 (inl (sym (tag_equal a b k)))),
    l.only a (inl refl),
    l.only b (inr (inl refl)),
  )

lists : (heading : Heading) (trust : Trust) (root : ℕ) (h : List Event)
    → Lists (λ (g : Tag). holds_tag heading trust root g h) (tags_of heading trust root h)
lists heading trust root h = record {
  each = once_each heading trust root h;
  has = λ g k. held_is_listed heading trust root g h k;
  only = λ g i. listed_is_held heading trust root g h i;
}

pub no_tag : (heading : Heading) (trust : Trust) (root : ℕ) (h : List Event) → tag_set (tags_of heading trust root h) ≡ NoTag
    → (tag : Tag) → holds_tag heading trust root tag h ≡ false
no_tag heading trust root h e tag =
    none_by (λ (g : Tag). holds_tag heading trust root g h) (tags_of heading trust root h) (lists heading trust root h) e tag

pub one_tag : (heading : Heading) (trust : Trust) (root : ℕ) (h : List Event) (g : Tag)
    → tag_set (tags_of heading trust root h) ≡ One g → (tag : Tag) → holds_tag heading trust root tag h ≡ same_tag g tag
one_tag heading trust root h g e tag =
    one_by (λ (g : Tag). holds_tag heading trust root g h) (tags_of heading trust root h) (lists heading trust root h) g e tag

pub many_tags : (heading : Heading) (trust : Trust) (root : ℕ) (h : List Event)
    → tag_set (tags_of heading trust root h) ≡ Many
    → (g k : Tag) × (same_tag g k ≡ false) × (holds_tag heading trust root g h ≡ true) × (holds_tag heading trust root k h ≡ true)
many_tags heading trust root h e =
    many_by (λ (g : Tag). holds_tag heading trust root g h) (tags_of heading trust root h) (lists heading trust root h) e
