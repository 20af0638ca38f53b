-- Step equations of the root of a page and of the readable values of a place: what they are after an event, by the
-- event and by what they were before. Source: project's own choice.
use Rattle.std.specs.Option.{option_map_or}
use Rattle.std.specs.Prelude.{ℕ, Bool, false, ◌==◌, List, [], ◌∷◌, Option, Some, None, if◌then◌else◌}
use Rattle.bbm_rules.specs.Prelude.{Kind, Heading, Event, Init, Root, Unroot, Write, Dsb}
use Rattle.bbm_rules.specs.Places.{page_of}
use Rattle.bbm_rules.specs.Roots.{Declared, same_kind}
use Rattle.bbm_rules.specs.Values.{publishes_to}

-- the root of a page after an event
abbrev pub root_after : ℕ → Event → Option Declared → Option Declared
root_after page (Root pe kind lock at) before =
    if at == page then Some (record { page = at; kind = kind; lock = lock }) else before
root_after page (Unroot pe at) before = if at == page then None else before
root_after page _ before = before

-- whether the page is the first page of a root of the kind, after an event
abbrev pub is_root_after : Kind → ℕ → Event → Bool → Bool
is_root_after kind page (Root pe other lock at) before = if at == page then same_kind other kind else before
is_root_after kind page (Unroot pe at) before = if at == page then false else before
is_root_after kind page _ before = before

-- a value that is still readable, and the PE that wrote it; None wrote the zero of the start and of an init
pub record Written : Type 0 where
  pub by : Option ℕ
  pub value : ℕ

abbrev pub first_zero : Written
first_zero = record { by = None; value = 0 }

abbrev pub is_by : ℕ → Written → Bool
is_by q w = option_map_or (λ r. q == r) w.by false

-- the newest ones up to the first that q wrote
abbrev pub up_to : ℕ → List Written → List Written
up_to q [] = []
up_to q (w ∷ ws) = w ∷ (if is_by q w then [] else up_to q ws)

module _ (heading : Heading) (place p : ℕ) where
  -- what is readable at p after an event, newest first: a DSB that publishes to p leaves the newest value that its PE
  -- wrote and the newer ones
  abbrev pub readable_after : Event → List Written → List Written
  readable_after (Write q at value) ws =
      if at == place then record { by = Some q; value = value } ∷ ws else ws
  readable_after (Init q page) ws = if page == page_of place then first_zero ∷ [] else ws
  readable_after (Dsb q dsb) ws = if publishes_to heading dsb q p then up_to q ws else ws
  readable_after _ ws = ws

  abbrev pub readable_writes : List Event → List Written
  readable_writes [] = first_zero ∷ []
  readable_writes (e ∷ h) = readable_after e (readable_writes h)
