-- What one PE may use at a moment: the declared roots, the readable values of the root registers of its world, and its
-- readable standings.
use Rattle.std.specs.Prelude.{◌≡◌, ℕ, ◌&&◌, ◌==◌, ◌++◌, Bool, true, false, List, Option, filter_map, flat_map}
use Rattle.bbm_rules.specs.Prelude.{Kind, El2, S2, Ttbr0, Ttbr1, AsidFrom, FromTtbr0, FromTtbr1, Reg, Ttbr0El2}
use Rattle.bbm_rules.specs.Prelude.{VttbrEl2, Ttbr0El1, Ttbr1El1, Tag, El2Tag, Vmid, Asid, Ttbr1Tag, World, Hyp}
use Rattle.bbm_rules.specs.Prelude.{Kernel, Event}
pub use Rattle.bbm_regimes.specs.SameRegister.{first_reg, second_reg, tag_of}
use Rattle.bbm_rules.specs.Claims.{same_tag}
use Rattle.bbm_rules.specs.Lists.{◌>>=◌, if_so, any}
use Rattle.bbm_rules.specs.RegisterValues.{Standing, base_of, register_values, standings, tag_number}
use Rattle.bbm_rules.specs.Roots.{Declared, is_at, roots_of, same_kind}
use Rattle.bbm_rules.specs.Tags.{Reading}
use Rattle.bbm_oracle_tags.specs.declared.moment.Moment.{Moment}

-- whether one of the roots has this kind and this first page
abbrev pub has_root : List Declared → Kind → ℕ → Bool
has_root roots kind page = any (λ r. is_at page r && same_kind r.kind kind) roots

-- what a register value of a kind lets read under a tag, where these roots are declared
abbrev pub reading_in : List Declared → Kind → Tag → ℕ → Option Reading
reading_in roots kind tag value = do
  base ← base_of value
  if_so (has_root roots kind base) (record { tag = tag; root = base })

-- under its own VMID or ASID
abbrev pub own_reading : List Declared → Kind → ℕ → Option Reading
own_reading roots kind value = reading_in roots kind (tag_of kind (tag_number value)) value

-- the values of TTBR0_EL1 under the ASID of a value of TTBR1_EL1
abbrev pub readings_under : List Declared → List ℕ → ℕ → List Reading
readings_under roots first from = filter_map (reading_in roots Ttbr0 (Asid (tag_number from))) first

-- a standing's value of TTBR0_EL1 under the ASID of its value of TTBR1_EL1
abbrev pub standing_reading : List Declared → Standing → Option Reading
standing_reading roots s = reading_in roots Ttbr0 (Asid (tag_number s.second)) s.first

abbrev pub second_readings_by : Bool → List Declared → List ℕ → List ℕ → List Standing → List Reading
second_readings_by true roots first second standings = filter_map (standing_reading roots) standings
second_readings_by false roots first second standings = flat_map (readings_under roots first) second

abbrev pub asid_readings_by : Bool → AsidFrom → List Declared → List ℕ → List ℕ → List Standing → List Reading
asid_readings_by inorder FromTtbr0 roots first second standings = filter_map (own_reading roots Ttbr0) first
asid_readings_by inorder FromTtbr1 roots first second standings =
    second_readings_by inorder roots first second standings

-- the readable tags, by the roots, the readable values of the two registers, and the readable standings
abbrev pub readings_by : Bool → World → List Declared → List ℕ → List ℕ → List Standing → List Reading
readings_by inorder (Hyp world) roots first second standings =
    filter_map (own_reading roots El2) first ++ filter_map (own_reading roots S2) second
readings_by inorder (Kernel world) roots first second standings =
    asid_readings_by inorder world.asid_from roots first second standings
    ++ filter_map (own_reading roots Ttbr1) second

-- what is kept is of a PE after a history
pub record IsMoment (world : World) (p : ℕ) (h : List Event) (m : Moment) : Type 0 where
  pub roots : m.roots.items ≡ roots_of h
  pub first : m.first.items ≡ register_values h p (first_reg world)
  pub second : m.second.items ≡ register_values h p (second_reg world)
  pub standings : m.standings.items ≡ standings h p

-- whether one of the readings is of this tag for this root, and for some root
abbrev pub is_read : List Reading → Tag → ℕ → Bool
is_read rs tag root = any (λ r. same_tag r.tag tag && r.root == root) rs

abbrev pub is_read_for_some : List Reading → Tag → Bool
is_read_for_some rs tag = any (λ r. same_tag r.tag tag) rs
