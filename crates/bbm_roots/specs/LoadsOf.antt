-- The registers of one PE, as they are kept. Source: project's own choice.
use Rattle.std.specs.Prelude.{◌≡◌, ℕ, ◌<◌, Bool, true, ◌||◌, List, ◌∷◌, length, if◌then◌else◌}
use Rattle.bbm_regimes.specs.declared.regime.Reg.{Reg}
use Rattle.bbm_regimes.specs.declared.regime.Tag.{Tag}
use Rattle.bbm_roots.specs.Columns.{loads_in}
use Rattle.bbm_roots.specs.Readings.{readings_of, reads_tag}
use Rattle.bbm_roots.specs.RootRegisters.{firsts_written, is_first, names_in}
use Rattle.bbm_roots.specs.declared.load.RootValue.{RootValue}
use Rattle.bbm_roots.specs.declared.reading.Reading.{Reading}
use Rattle.bbm_roots.specs.declared.registers.Registers.{Registers}

module _ (registers : Registers) (p : ℕ) where
  -- the values of a register that may still be in use
  abbrev pub loads_of : Reg → List RootValue
  loads_of reg = if is_first reg then loads_in registers.first.items p else loads_in registers.second.items p

  -- the readable standings, where readings go by them
  abbrev pub standings_of : List RootValue
  standings_of = loads_in registers.standings.items p

  -- room for one more value of the register, and for one more standing
  abbrev pub HasSpace : Reg → Type 0
  HasSpace reg = (length (loads_of reg) < 9) × (registers.in_order ≡ true → length standings_of < 17)

  -- by what the readings of the first register go: its values, or the standings
  abbrev pub firsts_of : List RootValue
  firsts_of = if registers.in_order then standings_of else loads_in registers.first.items p

  -- the values of the other register
  abbrev pub other_loads : Reg → List RootValue
  other_loads reg = if is_first reg then loads_in registers.second.items p else loads_in registers.first.items p

  -- by what the readings of the first register go after a write of the value
  abbrev pub firsts_with : Reg → RootValue → List RootValue
  firsts_with reg load = firsts_written registers.in_order (is_first reg) load (loads_in registers.first.items p)
      (other_loads reg) standings_of

  -- what is readable after a write of the value
  abbrev pub readings_after : Reg → RootValue → List Reading
  readings_after reg load = readings_of registers.world (firsts_with reg load)
      (if is_first reg then loads_in registers.second.items p else load ∷ loads_in registers.second.items p)

  -- whether the tag is readable for some root
  abbrev pub reads_at : Tag → Bool
  reads_at tag = reads_tag registers.world firsts_of (loads_in registers.second.items p) tag

  -- whether a value names the root with this first page
  abbrev pub uses_at : ℕ → Bool
  uses_at page = names_in (loads_in registers.first.items p) page || names_in (loads_in registers.second.items p) page
