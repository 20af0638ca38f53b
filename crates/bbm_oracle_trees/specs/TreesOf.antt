-- What is kept beside the events of a history. No public contract cites these words. Source: project's own choice.
use Rattle.std.specs.Prelude.{◌≡◌, ℕ, true, List, ◌∷◌}
use Rattle.bbm_rules.specs.Claims.{Trust}
use Rattle.bbm_rules.specs.Lists.{among}
use Rattle.bbm_rules.specs.Mapped.{is_clean}
use Rattle.bbm_rules.specs.Notes.{Noted}
use Rattle.bbm_rules.specs.Pages.{is_fresh}
use Rattle.bbm_rules.specs.Prelude.{Heading, Event}
use Rattle.bbm_rules.specs.Tree.{tree}
use Rattle.bbm_oracle_patterns.specs.Kept.{notes_of}
use Rattle.bbm_oracle_patterns.specs.declared.kept.Kept.{Kept}
use Rattle.bbm_oracle_trees.specs.Past.{Past}
use Rattle.bbm_oracle_trees.specs.declared.trees.Trees.{Trees}

-- They are the trees after an annotated history, with the fresh pages, and under `isolated` the clean ones.
pub record AreTreesOf (heading : Heading) (trust : Trust) (h : List Noted) (trees : Trees) : Type 0 where
  pub nodes : trees.nodes.items ≡ tree heading trust h
  pub fresh : (page : ℕ) → among page trees.fresh.items ≡ is_fresh heading trust h page
  pub clean : heading.words.isolated ≡ true → (page : ℕ) → among page trees.clean.items
      ≡ is_clean heading trust h page

-- This is the newest event, and they are those before it.
pub record OneBehind (past : Past) (e : Event) (trees : Trees) : Type 0 where
  pub newest : Kept
  pub older : List Kept
  pub split : past.kept ≡ newest ∷ older
  pub is : newest.event ≡ e
  pub before : AreTreesOf past.heading past.trust (notes_of older) trees
