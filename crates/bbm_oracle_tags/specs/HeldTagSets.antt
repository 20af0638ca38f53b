-- Which tags a root holds, as a set, and which tags it may hold at all.
use Rattle.std.specs.Prelude.{◌≡◌, ℕ, Bool, true, false, ◌||◌, List, [], ◌∷◌}
pub use Rattle.bbm_tlbi_scope.specs.TagSets.{HasTags}
use Rattle.bbm_rules.specs.Prelude.{Tag, Heading, Event}
use Rattle.bbm_rules.specs.Claims.{same_tag}
use Rattle.bbm_rules.specs.Lists.{any}
use Rattle.bbm_rules.specs.Tags.{reads}

-- whether the tag is in the list
abbrev pub has_tag : Tag → List Tag → Bool
has_tag tag tags = any (λ t. same_tag t tag) tags

-- tags were added: those that were in the list still are, and so is each that passes the test
pub record Adds (test : Tag → Bool) (old new : List Tag) : Type 0 where
  pub kept : (g : Tag) → has_tag g old ≡ true → has_tag g new ≡ true
  pub added : (g : Tag) → test g ≡ true → has_tag g new ≡ true

-- whether the tag was readable at p for the root at some moment
abbrev pub was_read : Heading → ℕ → ℕ → Tag → List Event → Bool
was_read heading p root tag [] = false
was_read heading p root tag (e ∷ h) = reads heading (e ∷ h) p tag root || was_read heading p root tag h
