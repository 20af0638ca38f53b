-- Who keeps a tag at a PE.
use Rattle.std.specs.Prelude.{ℕ, Bool, List}
use Rattle.bbm_rules.specs.Prelude.{Heading, Event, Tag}
use Rattle.bbm_rules.specs.Claims.{Trust}
use Rattle.bbm_rules.specs.Lists.{some_pe}
use Rattle.bbm_rules.specs.Tags.{holds_at, left_at}
use Rattle.bbm_oracle_tags.specs.declared.keeper.Keeper.{Keeper}
use Rattle.bbm_oracle_tags.specs.declared.keeper.Keeper.TheVariants.{Declared, GivenUp}

module _ (heading : Heading) (trust : Trust) where
  -- whether a root of the page keeps the tag at p: a declared one holds it, or one that was given up left it
  abbrev pub keeps_at : Keeper → ℕ → ℕ → Tag → List Event → Bool
  keeps_at Declared p page tag h = holds_at heading trust p page tag h
  keeps_at GivenUp p page tag h = left_at heading trust p page tag h

  -- at some PE
  abbrev pub keeps_tag : Keeper → ℕ → Tag → List Event → Bool
  keeps_tag keeper page tag h = some_pe heading.pes (λ p. keeps_at keeper p page tag h)
