-- Two paths of attached pages that end in one page, as a sentence. `law_repeated` says that the pages that the rule on
-- fresh pages finds repeated are those. Source: project's own choice.
use Rattle.std.specs.Prelude.{◌≡◌, ℕ, ◌-◌, ◌≤◌, List, length, Contains}
use Rattle.bbm_rules.specs.Prelude.{Kind, Heading}
use Rattle.bbm_rules.specs.Attach.{End}
use Rattle.bbm_rules.specs.Claims.{Trust}
use Rattle.bbm_rules.specs.Notes.{Noted}
use Rattle.bbm_rules.specs.TreeSentences.{Leads}

-- a path that begins in one of these pages, read at the level, and ends in the page, at level 3 at the latest
pub record PathInto (heading : Heading) (trust : Trust) (h : List Noted) (kind : Kind) (level : ℕ) (pages : List ℕ)
    (page : ℕ) : Type 0 where
  pub start : ℕ
  pub places : List ℕ
  pub end : End
  pub is_start : Contains pages start
  pub short : length places ≤ 3 - level
  pub leads : Leads heading trust h kind level start places end
  pub ends : end.page ≡ page

-- Two different paths: they begin in different pages, or go by different places.
abbrev pub TwoPaths : Heading → Trust → List Noted → Kind → ℕ → List ℕ → ℕ → Type 0
TwoPaths heading trust h kind level pages page = (one other : PathInto heading trust h kind level pages page)
    × ((one.start ≡ other.start) × (one.places ≡ other.places) → ⊥)
