-- The roots that hold a tag which is readable for another root, and those that were given up and left it.
use Rattle.std.specs.Prelude.{ℕ, ◌&&◌, not, ◌==◌, List, ◌++◌, filter, flat_map, map}
use Rattle.bbm_rules.specs.Prelude.{Heading, Event}
use Rattle.bbm_rules.specs.Claims.{Trust}
use Rattle.bbm_rules.specs.Roots.{Declared, given_up, roots_of}
use Rattle.bbm_rules.specs.Tags.{Reading, holds_tag, left_tag, readings}

module _ (heading : Heading) (trust : Trust) (after : List Event) where
  -- the first pages of those of the roots that are others than the reading's and hold its tag
  abbrev pub holder_pages : Reading → List Declared → List ℕ
  holder_pages reading rs = map (λ r. r.page)
      (filter (λ r. not (r.page == reading.root) && holds_tag heading trust r.page reading.tag after) rs)

  -- those of the pages at which a root that was given up left the reading's tag
  abbrev pub leaver_pages : Reading → List ℕ → List ℕ
  leaver_pages reading pages = filter (λ page. left_tag heading trust page reading.tag after) pages

  -- both, of these roots and of these pages
  abbrev pub keeper_pages : List Declared → List ℕ → Reading → List ℕ
  keeper_pages rs pages reading = holder_pages reading rs ++ leaver_pages reading pages

  -- those of all readings of p
  abbrev pub conflict_pages : ℕ → List ℕ
  conflict_pages p = flat_map (keeper_pages (roots_of after) (given_up after)) (readings heading after p)
