-- Whether the run of a plan is a plain conflict run, told by a test of the plan alone: its walk can be made when so many
-- events were taken; the entry that it leaves outlives every DSB from then to the last event, as it is until it is
-- combined, and combined from there on; and it conflicts with that event. `law_plain_is_tested` says so. A history is
-- newest first.
-- Source: project's own choice.
use Rattle.std.specs.Prelude.{◌≡◌, ◌↔◌, ℕ, ◌-◌, Bool, true, false, ◌&&◌, not, nat_le, nat_lt, List, [], ◌∷◌, length}
use Rattle.std.specs.Prelude.{drop, Option, Some, None}
use Rattle.bbm_rules.specs.Lists.{◌>>=◌, any, if_so, some}
use Rattle.bbm_rules.specs.Prelude.{Kind, Heading, Event, Dsb}
use Rattle.bbm_rules.specs.Reach.{completes, unanswered}
use Rattle.bbm_rules.specs.Tags.{itself}
use Rattle.bbm_tlb_machine.specs.Entry.{Entry}
use Rattle.bbm_tlb_machine.specs.Safe.{conflicts_with}
use Rattle.bbm_tlb_machine.specs.Step.{combined, extended, is_stage2, may_extend, may_start, must_go, started}
use Rattle.bbm_counterrun.specs.Plans.{IsPlain, Plan, Read, is_within}

-- the first so many events of a history
abbrev pub first_events : ℕ → List Event → List Event
first_events n h = drop (length h - n) h

-- the entry that the extends leave, one after the other
abbrev pub extended_by : Entry → List Read → Entry
extended_by x [] = x
extended_by x (r ∷ rs) = extended_by (extended x r.place r.value) rs

-- the entry at the last event, of the one that the walk leaves
abbrev pub combined_by : Option ℕ → Entry → Entry
combined_by None x = x
combined_by (Some n) x = combined n x

module _ (heading : Heading) where
  -- the entries that the start makes, and the walk
  abbrev pub started_by : Plan → Entry
  started_by plan = started heading plan.starts plan.pe plan.kind plan.number plan.first.place plan.first.value

  abbrev pub walked_by : Plan → Entry
  walked_by plan = extended_by (started_by plan) plan.rest

  -- whether the extends can be made, one after the other
  abbrev pub may_extend_by : List Event → Entry → List Read → Bool
  may_extend_by h x [] = true
  may_extend_by h x (r ∷ rs) =
      may_extend heading h x r.place r.value && may_extend_by h (extended x r.place r.value) rs

  -- the entry that a start makes when these events were taken
  abbrev pub first_by : List Event → ℕ → Kind → ℕ → Read → Entry
  first_by h p kind number r = started heading (length h) p kind number r.place r.value

  -- whether the walk can be made when these events were taken
  abbrev pub may_walk : List Event → Plan → Bool
  may_walk h plan = may_start heading h (started_by plan) plan.number && may_extend_by h (started_by plan) plan.rest

  -- the entry that a walk over these reads leaves when these events were taken, None where it can't be made
  abbrev pub walk_by : List Event → ℕ → Kind → ℕ → List Read → Option Entry
  walk_by h p kind number [] = None
  walk_by h p kind number (r ∷ rs) = if_so (may_start heading h (first_by h p kind number r) number) (first_by h p kind number r)
      >>= (λ x. if_so (may_extend_by h x rs) (extended_by x rs))

  -- whether the event, after h, is a DSB that answers a TLBI which must have taken the entry
  abbrev pub forbids : Entry → Event → List Event → Bool
  forbids x (Dsb q dsb) h = any (λ t. completes dsb t.tlbi && must_go heading t x) (unanswered itself q h)
  forbids x _ h = false

  -- whether one of the events is, among those from this number on and before that one
  abbrev pub is_forbidden : ℕ → ℕ → Entry → List Event → Bool
  is_forbidden from to x h =
      some (λ e before. nat_le from (length before) && nat_lt (length before) to && forbids x e before) h

  -- Outlives: no event from the start on forbids the entry; where it is combined, it is a stage 2 entry, no event before
  -- the combine forbids it, and none from there on the combined entry.
  abbrev pub outlives : Entry → ℕ → Option ℕ → List Event → Bool
  outlives x starts None h = not (is_forbidden starts (length h) x h)
  outlives x starts (Some n) h = not (is_forbidden starts n x h) && is_stage2 x.kind
      && not (is_forbidden n (length h) (combined n x) h)

  -- Plain: the test.
  abbrev pub is_plain : List Event → Event → Plan → Bool
  is_plain h e plan = is_within plan (length h) && may_walk (first_events plan.starts h) plan
      && outlives (walked_by plan) plan.starts plan.combines h
      && conflicts_with heading h e (combined_by plan.combines (walked_by plan))

  -- the run of a plan is a plain conflict run exactly where the test passes
  abbrev pub PlainIsTested : Type 0
  PlainIsTested = (h : List Event) (e : Event) (plan : Plan) → IsPlain heading h e plan ↔ (is_plain h e plan ≡ true)
