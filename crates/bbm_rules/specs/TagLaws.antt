-- What the laws of tags state. Source: project's own choice.
use Rattle.std.specs.Prelude.{◌≡◌, ℕ, ◌<◌, ◌||◌, true, false, List, ◌∷◌, Some, None, Contains}
use Rattle.bbm_tlbi_scope.specs.declared.entry.TagSet.TheVariants.{Many, None as NoTag, One}
use Rattle.bbm_rules.specs.Prelude.{Event, Heading, Msr, Reg, Tag, Unroot, same_tag}
use Rattle.bbm_rules.specs.Claims.{Trust}
use Rattle.bbm_rules.specs.Lists.{among}
use Rattle.bbm_rules.specs.Notes.{Noted, events_of}
use Rattle.bbm_rules.specs.RegisterValues.{base_of, register_values}
use Rattle.bbm_rules.specs.Roots.{Declared, first_pages, given_up, roots_of}
use Rattle.bbm_rules.specs.Rules.{no_root, root_in_use, tag_conflict}
use Rattle.bbm_rules.specs.Sentences.{HoldsTag, KeptTag, LeftTag}
use Rattle.bbm_rules.specs.TagSentences.{ReadsTag}
use Rattle.bbm_rules.specs.Tags.{holds_at, holds_tag, kept_at, left_at, left_tag, reads, tag_set, tags_of}

-- A tag is readable for a root exactly where a readable value of its register names the root, and the number of the tag
-- is that of the value, or of the value that has the ASID.
pub record ReadsBySentence (heading : Heading) : Type 0 where
  pub sound : (h : List Event) (p : ℕ) (tag : Tag) (root : ℕ) → reads heading h p tag root ≡ true
      → ReadsTag heading.words.inorder heading.world h p tag root
  pub complete : (h : List Event) (p : ℕ) (tag : Tag) (root : ℕ)
      → ReadsTag heading.words.inorder heading.world h p tag root
      → reads heading h p tag root ≡ true

-- A tag is kept for a page at a PE exactly where it was readable there for the root of the page at some moment, and no
-- TLBI after that moment takes it away: so where the root of the page holds it, or one that was given up left it. The
-- page is that of a declared root, or of one that was given up.
pub record TagKeptBySentence (heading : Heading) (trust : Trust) : Type 0 where
  pub sound : (p page : ℕ) (tag : Tag) (h : List Event) → kept_at heading trust p page tag h ≡ true
      → KeptTag heading trust p page tag h
  pub complete : (p page : ℕ) (tag : Tag) (h : List Event) → KeptTag heading trust p page tag h
      → kept_at heading trust p page tag h ≡ true
  pub parts : (p page : ℕ) (tag : Tag) (h : List Event) → kept_at heading trust p page tag h
      ≡ (holds_at heading trust p page tag h || left_at heading trust p page tag h)
  pub listed : (p page : ℕ) (tag : Tag) (h : List Event) → kept_at heading trust p page tag h ≡ true
      → Contains (first_pages h) page

-- A tag is left by a root that was given up, at a PE, exactly where it was readable there for the root of the page at
-- some moment, the root was given up after it, and no TLBI after it takes the tag away.
pub record TagLeftBySentence (heading : Heading) (trust : Trust) : Type 0 where
  pub sound : (p page : ℕ) (tag : Tag) (h : List Event) → left_at heading trust p page tag h ≡ true
      → LeftTag heading trust p page tag h
  pub complete : (p page : ℕ) (tag : Tag) (h : List Event) → LeftTag heading trust p page tag h
      → left_at heading trust p page tag h ≡ true
  pub listed : (p page : ℕ) (tag : Tag) (h : List Event) → left_at heading trust p page tag h ≡ true
      → Contains (given_up h) page

-- A tag is among those that a root holds at a PE exactly where it was readable there for the root at some moment, and
-- after that moment the root wasn't given up and no TLBI takes the tag away.
pub record TagHeldBySentence (heading : Heading) (trust : Trust) : Type 0 where
  pub sound : (p root : ℕ) (tag : Tag) (h : List Event) → holds_at heading trust p root tag h ≡ true
      → HoldsTag heading trust p root tag h
  pub complete : (p root : ℕ) (tag : Tag) (h : List Event) → HoldsTag heading trust p root tag h
      → holds_at heading trust p root tag h ≡ true

-- The tag set of a root says which tags it holds: none; one and no other; or two different ones at least.
pub record TagSetSays (heading : Heading) (trust : Trust) : Type 0 where
  pub none : (root : ℕ) (h : List Event) → tag_set (tags_of heading trust root h) ≡ NoTag → (tag : Tag)
      → holds_tag heading trust root tag h ≡ false
  pub one : (root : ℕ) (h : List Event) (g : Tag) → tag_set (tags_of heading trust root h) ≡ One g → (tag : Tag)
      → holds_tag heading trust root tag h ≡ same_tag g tag
  pub many : (root : ℕ) (h : List Event) → tag_set (tags_of heading trust root h) ≡ Many → (g k : Tag)
      × (same_tag g k ≡ false) × (holds_tag heading trust root g h ≡ true) × (holds_tag heading trust root k h ≡ true)

-- After a register write that doesn't break the rule on tags, a tag that is readable there for a root is held by no
-- other declared root, and left by none that was given up. An `unroot` that doesn't break the rules on roots names no
-- base of a readable register value, and, under a header without `unflushed`, no root that holds a tag.
pub record RulesOnTags (heading : Heading) (trust : Trust) : Type 0 where
  pub one_holder : (h : List Noted) (pe : ℕ) (reg : Reg) (value : ℕ) (tag : Tag) (root : ℕ) (r : Declared)
      → tag_conflict heading trust h (Msr pe reg value) ≡ None
      → reads heading (Msr pe reg value ∷ events_of h) pe tag root ≡ true
      → Contains (roots_of (Msr pe reg value ∷ events_of h)) r
      → holds_tag heading trust r.page tag (Msr pe reg value ∷ events_of h) ≡ true → r.page ≡ root
  pub none_left : (h : List Noted) (pe : ℕ) (reg : Reg) (value : ℕ) (tag : Tag) (root page : ℕ)
      → tag_conflict heading trust h (Msr pe reg value) ≡ None
      → reads heading (Msr pe reg value ∷ events_of h) pe tag root ≡ true
      → left_tag heading trust page tag (Msr pe reg value ∷ events_of h) ≡ false
  pub no_base : (h : List Noted) (pe page p : ℕ) (reg : Reg) (value : ℕ)
      → root_in_use heading trust h (Unroot pe page) ≡ None → no_root heading trust h (Unroot pe page) ≡ None
      → p < heading.pes → among value (register_values (events_of h) p reg) ≡ true → base_of value ≡ Some page → ⊥
  pub no_tag : heading.words.unflushed ≡ false → (h : List Noted) (pe page : ℕ) (tag : Tag)
      → root_in_use heading trust h (Unroot pe page) ≡ None
      → no_root heading trust h (Unroot pe page) ≡ None → holds_tag heading trust page tag (events_of h) ≡ false
