-- Which causes a line can have.
-- Source: project's own choice.
use Rattle.std.specs.Prelude.{⊤}
use Rattle.bbm_events.specs.declared.malformed.Malformed.{Malformed}
use Rattle.bbm_events.specs.declared.malformed.Malformed.TheVariants.{NoMagic, BadHeader, UnknownWord, BadNumber, BadPe}
use Rattle.bbm_events.specs.declared.malformed.Malformed.TheVariants.{BadAddress, MissingField, ExtraField, BadLabel}

-- the causes of line 1
abbrev pub IsHeaderCause : Malformed → Type 0
IsHeaderCause NoMagic = ⊤
IsHeaderCause BadHeader = ⊤
IsHeaderCause _ = ⊥

-- the causes of a field of a line after it
abbrev pub IsFieldCause : Malformed → Type 0
IsFieldCause UnknownWord = ⊤
IsFieldCause BadNumber = ⊤
IsFieldCause BadPe = ⊤
IsFieldCause BadAddress = ⊤
IsFieldCause MissingField = ⊤
IsFieldCause ExtraField = ⊤
IsFieldCause _ = ⊥

-- the causes of such a line, by its own bytes: those of its fields, and that of a label
abbrev pub IsLineCause : Malformed → Type 0
IsLineCause BadLabel = ⊤
IsLineCause cause = IsFieldCause cause
