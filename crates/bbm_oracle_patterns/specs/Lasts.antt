-- What one event says of the last valid write. No public contract cites these words.
use Rattle.std.specs.Prelude.{◌≡◌, ℕ, [], Option, Some, None}
use Rattle.bbm_rules.specs.Held.{ValidWrite, later, last_valid_after}
use Rattle.bbm_rules.specs.Notes.{Noted}
use Rattle.bbm_rules.specs.Prelude.{Event, Kind}
use Rattle.bbm_oracle_patterns.specs.declared.search.Says.{Says}
use Rattle.bbm_oracle_patterns.specs.declared.search.Says.TheVariants.{ItIs, NoWrite, Older}

-- the last valid write where the newest event says this, by that of the events before it
abbrev pub said : Says → Noted → Option ValidWrite → Option ValidWrite
said (ItIs value) n found = Some (record { value = value; since = [] })
said NoWrite n found = None
said Older n found = later n found

abbrev pub TellsOf : Says → Kind → ℕ → ℕ → Event → Type 0
TellsOf says kind level place e =
    (n : Noted) (found : Option ValidWrite) → last_valid_after kind level place e n found ≡ said says n found
