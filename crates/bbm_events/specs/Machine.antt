-- The grammar of machine lines, those of a run that aren't lines of its log: which step a line spells, or the
-- first cause for which it spells none, and the one line of a step.
-- Source: project's own choice.
use Rattle.std.specs.Prelude.{ℕ, ◌^◌, List, [], ◌∷◌, Bool, true, ◌&&◌, nat_lt, ◌==◌, Result, codes, decimal, bytes_eq}
use Rattle.bbm_regimes.specs.declared.regime.Kind.{Kind}
use Rattle.bbm_regimes.specs.declared.regime.Kind.TheVariants.{El2}
use Rattle.bbm_events.specs.declared.machine.MachineLine.{MachineLine}
use Rattle.bbm_events.specs.declared.machine.MachineLine.TheVariants.{Start, Extend, Combine, Share, Drop}
use Rattle.bbm_events.specs.declared.machine.MachineWord.{MachineWord}
use Rattle.bbm_events.specs.declared.machine.MachineWord.TheVariants as second
use Rattle.bbm_events.specs.declared.malformed.Malformed.{Malformed}
use Rattle.bbm_events.specs.declared.malformed.Malformed.TheVariants.{UnknownWord, BadNumber}
use Rattle.bbm_events.specs.Heading.{Heading, may_share}
use Rattle.bbm_events.specs.Spelling.{fields, joined, hex}
use Rattle.bbm_events.specs.Words.{kind_word}
use Rattle.bbm_events.specs.Fits.{is_pe, is_place, is_value}
use Rattle.bbm_events.specs.Codec.{◌>>=◌, Fields, Codec, field, decimals, some_words, ◌&>◌, ◌&◌, line}
use Rattle.bbm_events.specs.Lines.{exactly, pe_field, kind_field, place_field, value_field}

-- the word of a step
abbrev pub machine_word : MachineWord → List ℕ
machine_word second.Start = codes "start"
machine_word second.Extend = codes "extend"
machine_word second.Combine = codes "combine"
machine_word second.Share = codes "share"
machine_word second.Drop = codes "drop"

abbrev pub machine_words : List MachineWord
machine_words = second.Start ∷ second.Extend ∷ second.Combine ∷ second.Share ∷ second.Drop ∷ []

-- a version has the word; version 1 shares no entry
abbrev pub has_machine_word : ℕ → MachineWord → Bool
has_machine_word version second.Share = may_share version
has_machine_word version _ = true

-- a VMID or an ASID; the EL2 translation regime has neither
abbrev pub is_tag : Kind → ℕ → Bool
is_tag El2 n = n == 0
is_tag _ n = nat_lt n (2 ^ 16)

abbrev pub is_entry : ℕ → Bool
is_entry n = nat_lt n (2 ^ 32)

-- which steps can stand in a run with a header
abbrev pub machine_fits : Heading → MachineLine → Bool
machine_fits h (Start pe kind tag place value) = is_pe h pe && is_tag kind tag && is_place place && is_value value
machine_fits h (Extend entry place value) = is_entry entry && is_place place && is_value value
machine_fits h (Combine entry) = is_entry entry
machine_fits h (Share entry pe) = may_share h.version && is_entry entry && is_pe h pe
machine_fits h (Drop entry) = is_entry entry

-- The fields of machine lines.

abbrev pub mark_field : Codec (List ℕ)
mark_field = field UnknownWord (exactly (codes "m")) (λ _. codes "m") (bytes_eq (codes "m"))

abbrev pub machine_word_field : ℕ → Codec MachineWord
machine_word_field version = some_words machine_word machine_words (has_machine_word version)

abbrev pub tag_field : Kind → Codec ℕ
tag_field kind = decimals BadNumber (is_tag kind)

abbrev pub entry_field : Codec ℕ
entry_field = decimals BadNumber is_entry

-- The table of machine lines: what follows each second word, and what it says.
abbrev pub machine_after : Heading → MachineWord → Fields → Result MachineLine Malformed
machine_after h second.Start =
    line (pe_field h & kind_field &> (λ x. tag_field x.1) & place_field & value_field)
    (λ ((((pe, kind), tag), place), value). Start pe kind tag place value)
machine_after h second.Extend =
    line (entry_field & place_field & value_field) (λ ((entry, place), value). Extend entry place value)
machine_after h second.Combine = line entry_field Combine
machine_after h second.Share = line (entry_field & pe_field h) (λ (entry, pe). Share entry pe)
machine_after h second.Drop = line entry_field Drop

-- a machine line: `m`, the word of the step, and its fields
unfoldable pub machine_of : Heading → List ℕ → Result MachineLine Malformed
machine_of h line = do
  mark ← mark_field.read (fields line)
  word ← (machine_word_field h.version).read mark.1
  machine_after h word.0 word.1

-- The other direction: the fields behind `m`.
abbrev pub machine_fields : MachineLine → Fields
machine_fields (Start pe kind tag place value) =
    codes "start" ∷ decimal pe ∷ kind_word kind ∷ decimal tag ∷ hex place ∷ hex value ∷ []
machine_fields (Extend entry place value) = codes "extend" ∷ decimal entry ∷ hex place ∷ hex value ∷ []
machine_fields (Combine entry) = codes "combine" ∷ decimal entry ∷ []
machine_fields (Share entry pe) = codes "share" ∷ decimal entry ∷ decimal pe ∷ []
machine_fields (Drop entry) = codes "drop" ∷ decimal entry ∷ []

-- the one line of a step
unfoldable pub machine_line : MachineLine → List ℕ
machine_line step = joined (codes "m" ∷ machine_fields step)
