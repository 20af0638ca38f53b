-- Safe logs: no TLB keeps what a write, an init or a new root needs gone. Lists are newest first.
-- Source: Arm ARM (DDI 0487), "Using break-before-make when updating translation table entries" and "Translation
-- Lookaside Buffers"; what counts as a conflict is the project's own choice.
use Rattle.std.specs.Prelude.{◌≡◌, ◌<◌, ℕ, Bool, true, false, ◌&&◌, ◌||◌, not, ◌==◌, List, [], ◌∷◌, ◌++◌, length}
use Rattle.std.specs.Prelude.{Option, Some, None, Result, Ok, Contains}
use Rattle.bbm_descriptor.specs.Descriptor.{needs}
use Rattle.bbm_events.specs.Fits.{fits_heading}
use Rattle.bbm_events.specs.Heading.{heading_ok}
use Rattle.bbm_rules.specs.Lists.{any, if_so}
use Rattle.bbm_rules.specs.Places.{page_of}
use Rattle.bbm_rules.specs.Prelude.{Reg, Heading, Event, Init, Write, Msr}
use Rattle.bbm_rules.specs.Tags.{Reading, readings}
use Rattle.bbm_regimes.specs.SameRegister.{same_tag}
use Rattle.bbm_tlb_machine.specs.declared.step.Step.{Step}
use Rattle.bbm_tlb_machine.specs.declared.step.Step.TheVariants.{Event as Taken}
use Rattle.bbm_tlb_machine.specs.Entry.{Entry, Part, is_given_up, parts_of, tag_of_entry}
use Rattle.bbm_tlb_machine.specs.MachineRun.{IsRun, Living, State, follow_steps}

-- a run over the log comes to the state, and the event is the next one of the log
pub record ComesTo (heading : Heading) (log : List Event) (s : State) (e : Event) : Type 0 where
  pub steps : List Step
  pub run : IsRun heading steps s
  pub later : List Event
  pub split : log ≡ later ++ e ∷ s.log

-- A log of a header: the header is one that can be said, and each event fits it.
pub record IsLog (heading : Heading) (log : List Event) : Type 0 where
  pub header : heading_ok heading ≡ true
  pub events : (e : Event) → Contains log e → fits_heading heading e ≡ true

-- what is read through the root of a page is read through the entry's own root: the page is that of the entry's root,
-- and that wasn't given up since
pub record ReadsThrough (heading : Heading) (h : List Event) (x : Entry) (root : ℕ) : Type 0 where
  pub same : root ≡ x.root
  pub stays : is_given_up heading h x ≡ false

-- Safe: in each run over the log, at each event before it is taken: where it writes a value at a place, no entry of any
-- PE has a part at the place from which the value needs break-before-make; where it initialises a page, no entry has a
-- part in it; and where it writes a register, no entry of any PE has a tag that is readable at the writing PE
-- afterwards for another root than the entry's. Under `unflushed` the first two are said of entries whose root wasn't
-- given up since they were made, and by the third an entry whose root was has no such tag at all.
pub record Safe (heading : Heading) (log : List Event) : Type 0 where
  pub at_write : (s : State) (pe place value : ℕ) → ComesTo heading log s (Write pe place value)
      → (l : Living) → Contains s.living l → is_given_up heading s.log l.entry ≡ false
      → (part : Part) → Contains (parts_of l.entry) part → part.place ≡ place
      → needs part.kind part.level part.value value ≡ false
  pub at_init : (s : State) (pe page : ℕ) → ComesTo heading log s (Init pe page)
      → (l : Living) → Contains s.living l → is_given_up heading s.log l.entry ≡ false
      → (part : Part) → Contains (parts_of l.entry) part → page_of part.place ≡ page → ⊥
  pub at_msr : (s : State) (pe value : ℕ) (reg : Reg) → ComesTo heading log s (Msr pe reg value)
      → (l : Living) → Contains s.living l → (r : Reading) → Contains (readings heading (Msr pe reg value ∷ s.log) pe) r
      → r.tag ≡ tag_of_entry l.entry → ReadsThrough heading s.log l.entry r.root

-- One root a tag: at every moment of each run over the first events of the log, where a PE may read under the tag of an
-- entry that some TLB keeps, it reads through the entry's own root, which wasn't given up since the entry was made.
pub record OneRootATag (heading : Heading) (log : List Event) : Type 0 where
  pub one_root : (steps : List Step) (s : State) (later : List Event) → IsRun heading steps s → log ≡ later ++ s.log
      → (l : Living) → Contains s.living l → (pe : ℕ) → pe < heading.pes
      → (r : Reading) → Contains (readings heading s.log pe) r → r.tag ≡ tag_of_entry l.entry
      → ReadsThrough heading s.log l.entry r.root

-- Safe, computed. `law_conflict` says so.

abbrev pub is_stale : ℕ → ℕ → Part → Bool
is_stale place value part = part.place == place && needs part.kind part.level part.value value

abbrev pub has_other_root : Heading → List Event → Entry → Reading → Bool
has_other_root heading h x r =
    same_tag r.tag (tag_of_entry x) && (not (r.root == x.root) || is_given_up heading h x)

-- whether an entry conflicts with an event that comes after h
abbrev pub conflicts_with : Heading → List Event → Event → Entry → Bool
conflicts_with heading h (Write pe place value) x =
    not (is_given_up heading h x) && any (is_stale place value) (parts_of x)
conflicts_with heading h (Init pe page) x =
    not (is_given_up heading h x) && any (λ part. page_of part.place == page) (parts_of x)
conflicts_with heading h (Msr pe reg value) x =
    any (has_other_root heading h x) (readings heading (Msr pe reg value ∷ h) pe)
conflicts_with heading h _ x = false

abbrev pub in_conflict : Heading → State → Event → Bool
in_conflict heading s e = any (λ l. conflicts_with heading s.log e l.entry) s.living

-- whether a step is an event at which a clause fails, after these
abbrev pub fails_at : Heading → Result State ℕ → Step → Bool
fails_at heading (Ok s) (Taken e) = in_conflict heading s e
fails_at heading _ step = false

-- the first of two indices, of which the earlier comes first
abbrev pub earlier : Option ℕ → Option ℕ → Option ℕ
earlier (Some i) o = Some i
earlier None o = o

-- the index of the first step at which a clause fails, counted from 0
abbrev pub first_conflict : Heading → List Step → Option ℕ
first_conflict heading [] = None
first_conflict heading (step ∷ steps) =
    earlier (first_conflict heading steps) (if_so (fails_at heading (follow_steps heading steps) step) (length steps))
