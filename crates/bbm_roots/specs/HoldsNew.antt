-- What a new value of a register makes readable anew, and whether a PE holds it. Source: project's own choice.
use Rattle.std.specs.Prelude.{ℕ, Bool, true, false, List, [], ◌∷◌, ◌++◌, Option, Some, None, flat_map}
use Rattle.std.specs.List.{list_all}
use Rattle.indexmap.specs.IndexMap.{IndexMap}
use Rattle.bbm_regimes.specs.declared.regime.AsidFrom.{AsidFrom}
use Rattle.bbm_regimes.specs.declared.regime.AsidFrom.TheVariants.{Ttbr0 as FromTtbr0, Ttbr1 as FromTtbr1}
use Rattle.bbm_regimes.specs.declared.regime.Kind.TheVariants.{El2 as El2Kind, S2, Ttbr0 as Ttbr0Kind, Ttbr1 as Ttbr1Kind}
use Rattle.bbm_regimes.specs.declared.regime.Tag.{Tag}
use Rattle.bbm_regimes.specs.declared.regime.Tag.TheVariants.{El2, Vmid, Asid, Ttbr1}
use Rattle.bbm_regimes.specs.declared.regime.World.{World}
use Rattle.bbm_regimes.specs.declared.regime.World.TheVariants.{Hyp, Kernel}
use Rattle.bbm_roots.specs.Holds.{hold_in}
use Rattle.bbm_roots.specs.Readings.{own_reading, reading_under, readings_with}
use Rattle.bbm_roots.specs.declared.hold.Held.{Held}
use Rattle.bbm_roots.specs.declared.load.RootValue.{RootValue}
use Rattle.bbm_roots.specs.declared.reading.Reading.{Reading}

-- The one tag that a new value makes readable, of the first register of the world or the second, where that depends on
-- the value alone; None where it depends on the other register too.
abbrev pub kernel_tag : AsidFrom → Bool → ℕ → Option Tag
kernel_tag FromTtbr0 true number = Some (Asid number)
kernel_tag FromTtbr0 false number = Some Ttbr1
kernel_tag FromTtbr1 first number = None

abbrev pub own_tag : World → Bool → ℕ → Option Tag
own_tag (Hyp world) true number = Some El2
own_tag (Hyp world) false number = Some (Vmid number)
own_tag (Kernel world) first number = kernel_tag world.asid_from first number

-- what it makes readable anew, by the values of the other register
abbrev pub kernel_anew : AsidFrom → Bool → RootValue → List RootValue → List Reading
kernel_anew FromTtbr0 true load others = own_reading Ttbr0Kind load
kernel_anew FromTtbr0 false load others = own_reading Ttbr1Kind load
kernel_anew FromTtbr1 true load others = flat_map (readings_with (load ∷ [])) others
kernel_anew FromTtbr1 false load others = own_reading Ttbr1Kind load ++ readings_with others load

abbrev pub anew : World → Bool → RootValue → List RootValue → List Reading
anew (Hyp world) true load others = own_reading El2Kind load
anew (Hyp world) false load others = own_reading S2 load
anew (Kernel world) first load others = kernel_anew world.asid_from first load others

module _ {S : Type 0} (holds : IndexMap ℕ Held S) (p : ℕ) where
  -- whether the PE p holds each of the readings
  abbrev pub all_held : List Reading → Bool
  all_held readings = list_all (λ (x : Reading). hold_in holds x.tag x.root p) readings

  -- the same of what values of TTBR0_EL1 give under the ASID of one of TTBR1_EL1, value by value
  abbrev pub pair_held : RootValue → RootValue → Bool
  pair_held second first = all_held (reading_under (Asid second.number) first)

  abbrev pub under_held : List RootValue → RootValue → Bool
  under_held first second = list_all (pair_held second) first
