-- Fresh pages and null pages. Source: project's own choice.
use Rattle.std.specs.Prelude.{ℕ, Bool, false, ◌&&◌, ◌||◌, not, ◌==◌, List, [], ◌∷◌}
use Rattle.bbm_rules.specs.Prelude.{Heading, Event, Init, Null}
use Rattle.bbm_rules.specs.Claims.{Trust}
use Rattle.bbm_rules.specs.Notes.{Noted}
use Rattle.bbm_rules.specs.Lists.{with_number}
use Rattle.bbm_rules.specs.Tree.{in_tree}

-- Null page: a page that was declared by `null`. As the base of a root register it means that no walk is made: of
-- TTBR0_EL1, and from version 5 on of each.
abbrev pub is_null : List Event → ℕ → Bool
is_null [] page = false
is_null (Null pe at ∷ h) page = at == page || is_null h page
is_null (_ ∷ h) page = is_null h page

-- whether the page may be fresh after the event: an init makes it so, and `null` ends it
abbrev pub may_be_fresh : Event → ℕ → Bool → Bool
may_be_fresh (Init pe at) page before = at == page || before
may_be_fresh (Null pe at) page before = not (at == page) && before
may_be_fresh _ page before = before

-- Fresh: the page was initialised, has been in no tree since its last init, and wasn't declared null since.
module _ (heading : Heading) (trust : Trust) where
  abbrev pub is_fresh : List Noted → ℕ → Bool
  is_fresh [] page = false
  is_fresh (n ∷ h) page = may_be_fresh n.event page (is_fresh h page) && not (in_tree heading trust (n ∷ h) page)

-- the pages that were ever initialised, each once
abbrev pub initialised : List Event → List ℕ
initialised [] = []
initialised (Init pe page ∷ h) = with_number page (initialised h)
initialised (_ ∷ h) = initialised h
