-- The log as the oracle keeps it, and the notes that it stands for. A list of kept events is newest first here.
-- Source: project's own choice.
use Rattle.std.specs.Prelude.{ℕ, suc, ◌+◌, ◌==◌, List, [], ◌∷◌, length, drop, map, reverse, Option, Some, None}
use Rattle.std.specs.Prelude.{if◌then◌else◌}
use Rattle.bbm_tlbi_scope.specs.declared.entry.Cover.{Cover}
use Rattle.bbm_tlbi_scope.specs.declared.entry.Cover.TheVariants.{None as NoCover}
use Rattle.bbm_rules.specs.Held.{ValidWrite}
use Rattle.bbm_rules.specs.Notes.{Noted, topped}
use Rattle.bbm_oracle_patterns.specs.declared.kept.Covered.{Covered}
use Rattle.bbm_oracle_patterns.specs.declared.kept.Covering.{Covering}
use Rattle.bbm_oracle_patterns.specs.declared.kept.Covering.TheVariants.{Whole, Top}
use Rattle.bbm_oracle_patterns.specs.declared.kept.Kept.{Kept}
use Rattle.bbm_oracle_patterns.specs.declared.search.ValidWrite.{ValidWrite as Found}

-- how far an event covers a place: by the first entry of its list for the place, not at all where there is none
abbrev pub cover_in : List Covered → ℕ → Cover
cover_in [] place = NoCover
cover_in (c ∷ cs) place = if c.place == place then c.cover else cover_in cs place

-- the covers of an event, or its top covers
abbrev pub listed : Covering → Kept → List Covered
listed Whole k = k.covers.items
listed Top k = k.tops.items

-- the note of an event that stands behind so many others
abbrev pub note_of : ℕ → Kept → Noted
note_of before k = record {
  event = k.event;
  covers = cover_in k.covers.items;
  tops = cover_in k.tops.items;
  position = suc before;
}

-- the notes of events that stand behind so many others
abbrev pub notes_behind : ℕ → List Kept → List Noted
notes_behind before [] = []
notes_behind before (k ∷ older) = note_of (before + length older) k ∷ notes_behind before older

-- the notes of a whole log
abbrev pub notes_of : List Kept → List Noted
notes_of [] = []
notes_of (k ∷ older) = note_of (length older) k ∷ notes_of older

-- the valid write that stands at an index of a log, which is oldest first: its value, and the notes of what comes
-- behind it
abbrev pub write_in : List Kept → Option Found → Option ValidWrite
write_in log None = None
write_in log (Some w) = Some (record {
  value = w.value;
  since = notes_behind (w.index + 1) (reverse (drop (w.index + 1) log));
})

-- notes as they stand, or as if each event covered a place as far as its top cover says
abbrev pub notes_for : Covering → List Noted → List Noted
notes_for Whole h = h
notes_for Top h = map topped h
