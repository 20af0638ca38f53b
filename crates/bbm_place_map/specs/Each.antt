-- How each entry changes in a call that concerns all of them.
-- Source: project's own choice.
use Rattle.std.specs.Prelude.{◌≡◌, ◌≢◌, ◌⊎◌, ℕ, Bool, Option, Some, None, is_some, ◌&&◌, List, [], ◌∷◌, ◌++◌}
use Rattle.bbm_entry_state.specs.EntryCalls.{Published, Completed}
use Rattle.bbm_entry_state.specs.Points.{waits}
use Rattle.bbm_descriptor.specs.declared.desc.Core.{Core}
use Rattle.bbm_descriptor.specs.declared.desc.Core.TheVariants.{Table, Leaf}
use Rattle.bbm_tlbi_scope.specs.declared.entry.Cover.{Cover}
use Rattle.bbm_entry_state.specs.declared.marks.Marks.{Marks}
use Rattle.bbm_entry_state.specs.declared.state.EntryState.TheVariants.{Broken}
use Rattle.bbm_place_map.specs.Entries.{position, marks_of, pends_of}
use Rattle.bbm_place_map.specs.States.{state_from}
use Rattle.bbm_place_map.specs.declared.entry.Entry.{Entry}
use Rattle.bbm_place_map.specs.declared.orders.Barrier.{Barrier}
use Rattle.bbm_place_map.specs.declared.orders.Effect.{Effect}
use Rattle.bbm_place_map.specs.declared.orders.Effect.TheVariants.{Publish, Complete}

-- the place and the cell stay, and the rest is as the relation says
abbrev pub Advances : (Entry → Entry → Type 0) → Option Entry → Option Entry → Type 0
Advances R None None = Unit {0}
Advances R None (Some f) = ⊥
Advances R (Some e) None = ⊥
Advances R (Some e) (Some f) = (position f ≡ position e) × R e f

abbrev pub Publishes : Barrier → Entry → Entry → Type 0
Publishes by e f = (f.pends ≡ e.pends) × Published (Broken e.marks) by.issuer by.dsb by.n (Broken f.marks)

-- a DSB of the issuer answered its TLBIs
pub record Completes (by : Barrier) (old new : Option Entry) : Type 0 where
  pub own : Completed (state_from None (marks_of old)) (pends_of by.issuer old) by.dsb by.n
      (state_from None (marks_of new)) (pends_of by.issuer new)
  pub others : (q : ℕ) → q ≢ by.issuer → (b : Bool) (c : Cover) (p : ℕ)
      → waits (pends_of q new) b c p ≡ (is_some (marks_of new) && waits (pends_of q old) b c p)

-- a DSB published or answered
abbrev pub Does : Effect → Barrier → Option Entry → Option Entry → Type 0
Does (Publish heard) by old new = Advances (Publishes by) old new
Does Complete by old new = Completes by old new

-- or nothing changed
abbrev pub MayDo : Effect → Barrier → Option Entry → Option Entry → Type 0
MayDo effect by old new = (new ≡ old) ⊎ Does effect by old new

-- the next page of a core that is a table, and that of the table that a place is broken over
abbrev pub next_of : Core → Option ℕ
next_of (Table next ns) = Some next
next_of (Leaf out attrs share global contiguous) = None

abbrev pub table_of : Option Marks → Option ℕ
table_of None = None
table_of (Some marks) = next_of marks.core

-- the next page of the table that a place was broken over and isn't any more
abbrev pub loses : Option Marks → Option Marks → Option ℕ
loses old None = table_of old
loses old (Some marks) = None

-- the pages, and behind them one more where there is one
abbrev pub with_page : List ℕ → Option ℕ → List ℕ
with_page pages None = pages
with_page pages (Some page) = pages ++ page ∷ []
