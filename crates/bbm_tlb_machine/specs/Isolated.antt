-- Isolated logs: no TLB lets a guest reach a page of a translation table. A table page is a page of a tree, of any
-- kind. Lists are newest first. Source: project's own choice.
use Rattle.std.specs.Prelude.{◌≡◌, ◌<◌, ℕ, Bool, true, false, List, ◌++◌, Some, Contains}
use Rattle.bbm_histories.specs.TagSteps.{kind_of_tag}
use Rattle.bbm_histories.specs.ValueChanges.{NoInit}
use Rattle.bbm_rules.specs.Claims.{Trust}
use Rattle.bbm_rules.specs.Covers.{noted}
use Rattle.bbm_rules.specs.Mapped.{maps}
use Rattle.bbm_rules.specs.Prelude.{Heading, Event}
use Rattle.bbm_rules.specs.Roots.{root_pages}
use Rattle.bbm_rules.specs.Tags.{Reading, readings}
use Rattle.bbm_rules.specs.Tree.{in_tree, next_of}
use Rattle.bbm_tlb_machine.specs.declared.step.Step.{Step}
use Rattle.bbm_tlb_machine.specs.Entry.{Entry, is_given_up, tag_of_entry}
use Rattle.bbm_tlb_machine.specs.MachineRun.{IsRun, Living, State}

-- whether the entry's last part is a leaf of stage 2 that maps the page; then it is one of stage 2, or a combined one
abbrev pub entry_maps : Entry → ℕ → Bool
entry_maps x page = maps x.last.kind x.last.level x.last.value page

-- Isolated, at every moment of each run over the first events of the log. Now: no entry whose root wasn't given up
-- since it was made maps a table page. Before: nor did one at an earlier moment of the run, back to the last init of
-- the page. Given up: an entry whose root was given up since is under a tag that its PE may read for no root.
pub record Isolated (heading : Heading) (trust : Trust) (log : List Event) : Type 0 where
  pub now : (steps : List Step) (s : State) (later : List Event) → IsRun heading steps s → log ≡ later ++ s.log
      → (page : ℕ) → in_tree heading trust (noted heading trust s.log) page ≡ true
      → (l : Living) → Contains s.living l → is_given_up heading s.log l.entry ≡ false → entry_maps l.entry page ≡ false
  pub before : (newer older : List Step) (s was : State) (later between : List Event)
      → IsRun heading (newer ++ older) s → IsRun heading older was → log ≡ later ++ s.log
      → s.log ≡ between ++ was.log → (page : ℕ) → NoInit page between
      → in_tree heading trust (noted heading trust s.log) page ≡ true
      → (l : Living) → Contains was.living l → is_given_up heading was.log l.entry ≡ false
      → entry_maps l.entry page ≡ false
  pub given_up : (steps : List Step) (s : State) (later : List Event) → IsRun heading steps s → log ≡ later ++ s.log
      → (l : Living) → Contains s.living l → is_given_up heading s.log l.entry ≡ true
      → (r : Reading) → Contains (readings heading s.log l.entry.pe) r → r.tag ≡ tag_of_entry l.entry → ⊥

-- where the header has the word
abbrev pub IsolatedBySay : Trust → Heading → List Event → Type 0
IsolatedBySay trust heading log = heading.words.isolated ≡ true → Isolated heading trust log

-- What walks read are table pages, at every moment of each run over the first events of the log: each page of a root
-- that a PE may read under a tag, and the next page of each entry that ends in a table and whose root wasn't given up
-- since.
pub record WalksTables (heading : Heading) (trust : Trust) (log : List Event) : Type 0 where
  pub roots : (steps : List Step) (s : State) (later : List Event) → IsRun heading steps s → log ≡ later ++ s.log
      → (pe : ℕ) → pe < heading.pes → (r : Reading) → Contains (readings heading s.log pe) r → (page : ℕ)
      → Contains (root_pages heading.world (kind_of_tag r.tag) r.root) page
      → in_tree heading trust (noted heading trust s.log) page ≡ true
  pub tables : (steps : List Step) (s : State) (later : List Event) → IsRun heading steps s → log ≡ later ++ s.log
      → (l : Living) → Contains s.living l → is_given_up heading s.log l.entry ≡ false
      → (page : ℕ) → next_of l.entry.last.kind l.entry.last.level l.entry.last.value ≡ Some page
      → in_tree heading trust (noted heading trust s.log) page ≡ true
