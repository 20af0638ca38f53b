-- What the laws of tags and bases over a history state. A history is newest first. Source: project's own choice.
use Rattle.std.specs.Prelude.{◌≡◌, ℕ, ◌⊎◌, Bool, true, false, not, ◌&&◌, List, ◌∷◌, Option}
use Rattle.bbm_events.specs.declared.claim.Claim.{Claim}
use Rattle.bbm_rules.specs.Prelude.{Barrier, Dsb, Event, Heading, Kind, Root, Tag}
use Rattle.bbm_rules.specs.Broken.{keeps}
use Rattle.bbm_rules.specs.Claims.{Trust}
use Rattle.bbm_rules.specs.Claims.Trust.{Listed, Patterns}
use Rattle.bbm_rules.specs.Lists.{any}
use Rattle.bbm_rules.specs.Pages.{is_null}
use Rattle.bbm_rules.specs.Reach.{Issued}
use Rattle.bbm_rules.specs.Roots.{is_root}
use Rattle.bbm_rules.specs.Sentences.{TakenAway}
use Rattle.bbm_rules.specs.Tags.{holds_tag, left_tag, loses, reads_for_some}
use Rattle.bbm_histories.specs.ClaimSteps.{completes_taken, tag_waits_at, tag_waits_at_after}
use Rattle.bbm_histories.specs.HistorySteps.{answered_by, tag_waits, tag_waits_after}
use Rattle.bbm_histories.specs.TagSteps.{BasesStay, BecomesReadable, HeldBetween, KeptBetween, NamesRoots}
use Rattle.bbm_histories.specs.TagSteps.{StopsToBeReadable, kind_of_tag}
use Rattle.bbm_histories.specs.TreeChanges.{Proper}

-- In a history that keeps the rules, a tag becomes readable at a PE by a register write of the PE, and stops to be so
-- by an ISB of it; at most one root holds it, and that is a declared root of its kind; where one holds it, none that
-- was given up has left it, and at most one has; under a header without `unflushed` none has. In every history a TLBI
-- takes a tag away by the event that answers it, and a root that holds a tag held it at each moment since it was
-- readable.
pub record TagsOfRoots (heading : Heading) (trust : Trust) : Type 0 where
  pub becomes : (h : List Event) (e : Event) → Proper heading → keeps heading trust (e ∷ h) ≡ true
      → BecomesReadable heading h e
  pub stops : (h : List Event) (e : Event) → Proper heading → keeps heading trust (e ∷ h) ≡ true
      → StopsToBeReadable heading h e
  pub one_root : (h : List Event) → Proper heading → keeps heading trust h ≡ true → (r s : ℕ) (tag : Tag)
      → holds_tag heading trust r tag h ≡ true → holds_tag heading trust s tag h ≡ true → r ≡ s
  pub root : (h : List Event) → Proper heading → keeps heading trust h ≡ true → (r : ℕ) (tag : Tag)
      → holds_tag heading trust r tag h ≡ true → is_root h (kind_of_tag tag) r ≡ true
  pub left_alone : (h : List Event) → Proper heading → keeps heading trust h ≡ true → (r s : ℕ) (tag : Tag)
      → holds_tag heading trust r tag h ≡ true → left_tag heading trust s tag h ≡ false
  pub one_left : (h : List Event) → Proper heading → keeps heading trust h ≡ true → (r s : ℕ) (tag : Tag)
      → left_tag heading trust r tag h ≡ true → left_tag heading trust s tag h ≡ true → r ≡ s
  pub none_left : heading.words.unflushed ≡ false → (h : List Event) → keeps heading trust h ≡ true
      → (s : ℕ) (tag : Tag) → left_tag heading trust s tag h ≡ false
  pub taken_begins : (p : ℕ) (tag : Tag) (e : Event) (h : List Event) (t : Issued Event)
      → (k : TakenAway heading trust p tag (e ∷ h) t) → TakenAway heading trust p tag h t
      ⊎ ((e ≡ Dsb k.q k.dsb) × (k.earlier ≡ h))
  pub between : HeldBetween heading trust
  pub kept_between : KeptBetween heading trust

-- In a history that keeps the rules, the base of a readable register value is a declared root of the register's kind or
-- a null page, and no event changes which; no null page is a declared root, and a `root` names none.
pub record BasesOfRoots (heading : Heading) (trust : Trust) : Type 0 where
  pub named : (h : List Event) → Proper heading → keeps heading trust h ≡ true → NamesRoots heading h
  pub stay : (h : List Event) (e : Event) → Proper heading → keeps heading trust (e ∷ h) ≡ true → BasesStay heading h e
  pub null : (h : List Event) → Proper heading → keeps heading trust h ≡ true → (kind : Kind) (page : ℕ)
      → is_null h page ≡ true → is_root h kind page ≡ false
  pub new_root : (h : List Event) (pe page : ℕ) (kind other : Kind) (lock : Option ℕ) → Proper heading
      → keeps heading trust (Root pe kind lock page ∷ h) ≡ true → is_root h other page ≡ false

-- Which tags wait to be taken away after an event, by the event and by what was so before it; and a DSB takes a tag
-- away where it answers what waits and the tag isn't readable then.
pub record TagsAfter (heading : Heading) : Type 0 where
  pub waits : (p : ℕ) (tag : Tag) (q : ℕ) (b : Bool) (e : Event) (h : List Event)
      → tag_waits heading p tag q b (e ∷ h)
      ≡ (tag_waits_after heading p tag q b e h && not (reads_for_some heading (e ∷ h) p tag))
  pub lost : (p : ℕ) (tag : Tag) (q : ℕ) (dsb : Barrier) (h : List Event)
      → loses heading Patterns p tag (Dsb q dsb) h
      ≡ (answered_by dsb (λ b. tag_waits heading p tag q b h) && not (reads_for_some heading (Dsb q dsb ∷ h) p tag))

-- Under a list of claims a DSB takes a tag away where it completes a claim of the list that ends at its position, and
-- the tag isn't readable then. For that it is enough to know whether the TLBI at the position that a claim names waits,
-- and that has a step equation too.
pub record TagClaimsAfter (heading : Heading) : Type 0 where
  pub waits : (p : ℕ) (tag : Tag) (t q : ℕ) (b : Bool) (e : Event) (h : List Event)
      → tag_waits_at heading p tag t q b (e ∷ h)
      ≡ (tag_waits_at_after heading p tag t q b e h && not (reads_for_some heading (e ∷ h) p tag))
  pub lost : (cs : List Claim) (p : ℕ) (tag : Tag) (q : ℕ) (dsb : Barrier) (h : List Event)
      → loses heading (Listed cs) p tag (Dsb q dsb) h
      ≡ (any (completes_taken heading p tag q dsb h) cs && not (reads_for_some heading (Dsb q dsb ∷ h) p tag))
