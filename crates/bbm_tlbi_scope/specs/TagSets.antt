-- Which tags a test is true of, as a set of tags tells it.
-- Source: project's own choice.
use Rattle.std.specs.Prelude.{◌≡◌, Bool, true, false}
use Rattle.bbm_regimes.specs.SameRegister.{same_tag}
use Rattle.bbm_regimes.specs.declared.regime.Tag.{Tag}
use Rattle.bbm_tlbi_scope.specs.declared.entry.TagSet.{TagSet}
use Rattle.bbm_tlbi_scope.specs.declared.entry.TagSet.TheVariants.{None as NoTag, One, Many}

-- the tags that pass the test: none; this one and no other; two different ones at least
abbrev pub HasTags : (Tag → Bool) → TagSet → Type 0
HasTags test NoTag = (g : Tag) → test g ≡ false
HasTags test (One t) = (g : Tag) → test g ≡ same_tag t g
HasTags test Many = (g k : Tag) × (same_tag g k ≡ false) × (test g ≡ true) × (test k ≡ true)
