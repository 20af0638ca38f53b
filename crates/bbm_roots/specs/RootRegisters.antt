-- The root registers of a PE: what the values that may still be in use name. A history is newest first.
-- Source: project's own choice, where no other is named.
use Rattle.std.specs.Prelude.{ℕ, Bool, true, false, ◌&&◌, ◌||◌, List, [], ◌∷◌, map, Option, None, if◌then◌else◌}
use Rattle.std.specs.Option.{option_map_or}
use Rattle.std.specs.List.{list_any}
use Rattle.bbm_regimes.specs.Registers.{base_of, tag_number}
pub use Rattle.bbm_regimes.specs.SameRegister.{first_reg, kind_of_reg, same_reg, second_reg}
use Rattle.bbm_regimes.specs.declared.regime.AsidFrom.{AsidFrom}
use Rattle.bbm_regimes.specs.declared.regime.AsidFrom.TheVariants.{Ttbr0 as FromTtbr0, Ttbr1 as FromTtbr1}
use Rattle.bbm_regimes.specs.declared.regime.Kind.{Kind}
use Rattle.bbm_regimes.specs.declared.regime.Reg.{Reg}
use Rattle.bbm_regimes.specs.declared.regime.Reg.TheVariants.{Ttbr0El2, VttbrEl2, Ttbr0El1, Ttbr1El1}
use Rattle.bbm_regimes.specs.declared.regime.World.{World}
use Rattle.bbm_regimes.specs.declared.regime.World.TheVariants.{Hyp, Kernel}
pub use Rattle.bbm_lemmas.specs.ListWords.{is_that}
use Rattle.bbm_lemmas.specs.ListWords.{◌>>=◌, if_so}
use Rattle.bbm_events.specs.Heading.{Heading, nulls_everywhere}
use Rattle.bbm_events.specs.declared.event.Event.{Event}
use Rattle.bbm_rules.specs.Pages.{is_null}
use Rattle.bbm_rules.specs.RegisterValues.{Standing, register_values, standings}
use Rattle.bbm_rules.specs.Roots.{is_root}
use Rattle.bbm_roots.specs.declared.load.RootValue.{RootValue}

abbrev pub is_first : Reg → Bool
is_first Ttbr0El2 = true
is_first VttbrEl2 = false
is_first Ttbr0El1 = true
is_first Ttbr1El1 = false

-- Whether the ASIDs of TTBR0_EL1 roots go by readable standings: the registers come into use in order, and the ASID is
-- that of TTBR1_EL1.
abbrev pub is_second : AsidFrom → Bool
is_second FromTtbr0 = false
is_second FromTtbr1 = true

abbrev pub by_standings : World → Bool → Bool
by_standings (Hyp world) inorder = false
by_standings (Kernel world) inorder = is_second world.asid_from && inorder

abbrev pub in_order : Heading → Bool
in_order heading = by_standings heading.world heading.words.inorder

-- The world by which readings go: a standing gives what a value of TTBR0_EL1 gives that has its own ASID.
abbrev pub own_asids : World → World
own_asids (Hyp world) = Hyp world
own_asids (Kernel world) = Kernel (record world { asid_from = FromTtbr0 })

abbrev pub reading_world : Heading → World
reading_world heading = if in_order heading then own_asids heading.world else heading.world

-- whether a value means that no walk is made: a null page as the base of TTBR0_EL1, or from version 5 on of each
-- register
abbrev pub names_null : Heading → Reg → Bool → Bool
names_null heading reg null = (nulls_everywhere heading.version || same_reg reg Ttbr0El1) && null

-- the root that a value is to name, None where it is to name none
abbrev pub root_of : Heading → Reg → ℕ → Bool → Option ℕ
root_of heading reg value null = if names_null heading reg null then None else base_of value

-- what the value 0 names, with which each register starts
abbrev pub at_start : RootValue
at_start = record { number = 0; root = None }

-- the list with its first value alone
abbrev pub newest : List RootValue → List RootValue
newest [] = []
newest (x ∷ xs) = x ∷ []

-- the first of the list
abbrev pub front : List RootValue → RootValue
front [] = at_start
front (x ∷ xs) = x

-- the standing that comes of a value of the first register, or the second, and one of the other
abbrev pub new_standing : Bool → RootValue → RootValue → RootValue
new_standing true load other = record { number = other.number; root = load.root }
new_standing false load other = record { number = load.number; root = other.root }

-- What the readings of the first register go by after a write of the value to it, or to the second: the standings, or
-- its values. The second list are the values of the other register.
abbrev pub firsts_written : Bool → Bool → RootValue → List RootValue → List RootValue → List RootValue → List RootValue
firsts_written ordered first load loads others standings = if ordered
    then new_standing first load (front others) ∷ standings else (if first then load ∷ loads else loads)

-- whether a value names the root with this first page
abbrev pub names_page : ℕ → RootValue → Bool
names_page page load = is_that load.root page

-- whether one of the values does
abbrev pub names_in : List RootValue → ℕ → Bool
names_in loads page = list_any (names_page page) loads

module _ (h : List Event) where
  -- the declared root of the kind that a value names, by its base
  abbrev pub root_in : Kind → Option ℕ → Option ℕ
  root_in kind base = base >>= (λ b. if_so (is_root h kind b) b)

  -- what a value of a register names
  abbrev pub load_in : Reg → ℕ → RootValue
  load_in reg value = record { number = tag_number value; root = root_in (kind_of_reg reg) (base_of value) }

  -- what the readable values of a register of p name, the newest first
  abbrev pub loads_after : ℕ → Reg → List RootValue
  loads_after p reg = map (load_in reg) (register_values h p reg)

  -- What a standing gives: the root of its value of TTBR0_EL1 under the ASID of its value of TTBR1_EL1. And what the
  -- readable standings of p give, the newest first.
  abbrev pub standing_in : Standing → RootValue
  standing_in s = record { number = tag_number s.second; root = root_in (kind_of_reg Ttbr0El1) (base_of s.first) }

  abbrev pub standings_after : ℕ → List RootValue
  standings_after p = map standing_in (standings h p)

-- by what the readings of the first register go: its readable values, or the readable standings
abbrev pub firsts_after : Heading → List Event → ℕ → List RootValue
firsts_after heading h p = if in_order heading then standings_after h p else loads_after h p (first_reg heading.world)

-- whether the base of a register value is a null page
abbrev pub has_null_base : List Event → ℕ → Bool
has_null_base h value = option_map_or (λ base. is_null h base) (base_of value) false
