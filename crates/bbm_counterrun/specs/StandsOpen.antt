-- Where a refusal by the rule of break-before-make is a real danger: a PE stands open to the place. It could walk to it
-- at a moment since the last valid write, the place isn't cleansed there, and each TLBI that takes what the walk left
-- came when the rule would have counted it. A history is newest first.
-- Source: project's own choice.
use Rattle.std.specs.Prelude.{◌≡◌, ℕ, ◌⊎◌, Bool, true, ◌&&◌, ◌||◌, not, List, [], ◌∷◌, ◌++◌, Some}
use Rattle.bbm_rules.specs.Claims.{Patterns}
use Rattle.bbm_rules.specs.Cleansing.{publishes_write, seen}
use Rattle.bbm_rules.specs.Covers.{is_global, noted}
use Rattle.bbm_rules.specs.Held.{ValidWrite, last_valid}
use Rattle.bbm_rules.specs.Notes.{Noted, events_of}
use Rattle.bbm_rules.specs.PatternSentences.{Answer, Cleansed}
use Rattle.bbm_rules.specs.Prelude.{Heading, Event, Kind, Tag, Ttbr1}
use Rattle.bbm_rules.specs.Reach.{reaches}
use Rattle.bbm_rules.specs.Tags.{holds_tag}
use Rattle.bbm_tlb_machine.specs.Entry.{Entry, desc_in, is_leaf, tag_of_entry}
use Rattle.bbm_tlb_machine.specs.FineSteps.{is_empty_below, names_asid}
use Rattle.bbm_tlb_machine.specs.Step.{combined, is_stage2, takes}
use Rattle.bbm_counterrun.specs.Plans.{Read}
use Rattle.bbm_counterrun.specs.Tested.{walk_by}

module _ (heading : Heading) where
  -- whether a TLBI takes what a walk left, as it is or joined with a walk of stage 1
  abbrev pub takes_walk : Event → List Event → Entry → Bool
  takes_walk e before x = takes heading e before x || (is_stage2 x.kind && takes heading e before (combined 0 x))

  -- Fair: what the rule asks of a TLBI before it counts it, of one that takes the walk. `before` came before it since
  -- the last valid write of the place, and `older` before it in all.
  pub record Fair (place p : ℕ) (walk : Entry) (e : Event) (before older : List Noted) : Type 0 where
    -- p was told that the place was broken: a barrier had published a write of it
    pub told : seen heading place p before ≡ true
    -- the root held no tag but that of the walk
    pub alone : (tag : Tag) → holds_tag heading Patterns walk.root tag (events_of older) ≡ true → tag ≡ tag_of_entry walk
    -- the walk ends in a leaf, or in a table that was childless
    pub ending : (is_leaf (desc_in walk.last) || is_empty_below heading Patterns older walk.last) ≡ true
    -- in the upper range the leaf is one for every ASID, or the TLBI isn't for one ASID alone
    pub for_all : walk.last.kind ≡ Ttbr1 → (is_global (desc_in walk.last) || not (names_asid e)) ≡ true

  -- Walked: p could make a walk that ends at the place, when the events `older` were taken, and the place isn't cleansed
  -- at p. The last valid write of the place came before the walk; after that write came `between`, and after the walk
  -- `newer`.
  pub record Walked (h : List Event) (place p : ℕ) : Type 0 where
    pub older : List Event
    pub kind : Kind
    pub number : ℕ
    pub reads : List Read
    pub walk : Entry
    pub walks : walk_by heading older p kind number reads ≡ Some walk
    pub ends : walk.last.place ≡ place
    pub w : ValidWrite
    pub is_last : last_valid walk.last.kind walk.last.level place (noted heading Patterns h) ≡ Some w
    pub newer : List Noted
    pub between : List Noted
    pub since : w.since ≡ newer ++ between
    pub split : noted heading Patterns h ≡ newer ++ noted heading Patterns older
    pub uncleansed : Cleansed heading Patterns place p w.since → ⊥

  -- Stands open: since such a walk each TLBI that reaches p, takes what the walk left and is answered was fair.
  pub record StandsOpen (h : List Event) (place p : ℕ) : Type 0 where
    pub walked : Walked h place p
    pub fair : (t d : Noted) (after before : List Noted) → walked.newer ≡ after ++ t ∷ before
        → Answer walked.w.since (record { tlbi = t; before = before ++ walked.between }) d
        → reaches heading t.event p ≡ true
        → takes_walk t.event (events_of before ++ walked.older) walked.walk ≡ true
        → Fair place p walked.walk t.event (before ++ walked.between) (before ++ noted heading Patterns walked.older)

  -- ---- in a user's words

  -- Just before: the first of these events is a barrier that publishes a write of the place to p; or there is none of them.
  abbrev pub IsToldNext : ℕ → ℕ → List Noted → List Noted → Type 0
  IsToldNext place p newer between = (newer ≡ [])
      ⊎ ((later : List Noted) × (b : Noted) × (newer ≡ later ++ b ∷ []) × (publishes_write heading place p b.event between ≡ true))

  -- Reached: p could walk to a leaf at the place, since its last valid write, at the moment just before it was told that
  -- the place was broken, or can now where it never was told. In the upper range the leaf is one for every ASID. Since
  -- then the root of the walk held no other tag.
  pub record Reached (h : List Event) (place p : ℕ) : Type 0 where
    pub walked : Walked h place p
    pub leaf : is_leaf (desc_in walked.walk.last) ≡ true
    pub for_all : walked.walk.last.kind ≡ Ttbr1 → is_global (desc_in walked.walk.last) ≡ true
    pub told_next : IsToldNext place p walked.newer walked.between
    pub alone : (after before : List Noted) (tag : Tag) → walked.newer ≡ after ++ before
        → holds_tag heading Patterns walked.walk.root tag (events_of before ++ walked.older) ≡ true
        → tag ≡ tag_of_entry walked.walk
