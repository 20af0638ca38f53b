-- What is known of tags. A history is newest first. Source: project's own choice.
use Rattle.std.specs.Prelude.{◌≡◌, ℕ, ◌<◌, ◌⊎◌, true, false, List, ◌∷◌, ◌++◌, Some}
use Rattle.bbm_rules.specs.Prelude.{Kind, El2, S2, Ttbr0, Ttbr1, Reg, Tag, El2Tag, Vmid, Asid, Ttbr1Tag, Heading, Event}
use Rattle.bbm_rules.specs.Prelude.{Isb, Msr}
use Rattle.bbm_rules.specs.Claims.{Trust}
use Rattle.bbm_rules.specs.Lists.{among}
use Rattle.bbm_rules.specs.Pages.{is_null}
use Rattle.bbm_rules.specs.RegisterValues.{base_of, kind_of_reg, register_values}
use Rattle.bbm_rules.specs.Roots.{is_root}
use Rattle.bbm_rules.specs.Sentences.{HoldsTag, KeptTag}
use Rattle.bbm_rules.specs.Tags.{holds_at, kept_at, reads}

-- the kind of the roots that are read under a tag
abbrev pub kind_of_tag : Tag → Kind
kind_of_tag El2Tag = El2
kind_of_tag (Vmid vmid) = S2
kind_of_tag (Asid asid) = Ttbr0
kind_of_tag Ttbr1Tag = Ttbr1

module _ (heading : Heading) where
  -- a tag that becomes readable at p for a root does so by a register write of p
  abbrev pub BecomesReadable : List Event → Event → Type 0
  BecomesReadable h e = (p root : ℕ) (tag : Tag) → p < heading.pes → reads heading (e ∷ h) p tag root ≡ true
      → reads heading h p tag root ≡ false → (reg : Reg) × (value : ℕ) × (e ≡ Msr p reg value)

  -- and one that stops to be so does by an ISB of p
  abbrev pub StopsToBeReadable : List Event → Event → Type 0
  StopsToBeReadable h e = (p root : ℕ) (tag : Tag) → p < heading.pes → reads heading h p tag root ≡ true
      → reads heading (e ∷ h) p tag root ≡ false → e ≡ Isb p

  -- A root that holds a tag by a moment at which it was readable held it at each moment since.
  abbrev pub HeldBetween : Trust → Type 0
  HeldBetween trust = (p root : ℕ) (tag : Tag) (h : List Event) (k : HoldsTag heading trust p root tag h)
      → (after between : List Event) → k.kept.newer ≡ after ++ between
      → holds_at heading trust p root tag (between ++ k.kept.older) ≡ true

  -- and the same of a tag that is kept for a page
  abbrev pub KeptBetween : Trust → Type 0
  KeptBetween trust = (p page : ℕ) (tag : Tag) (h : List Event) (k : KeptTag heading trust p page tag h)
      → (after between : List Event) → k.newer ≡ after ++ between
      → kept_at heading trust p page tag (between ++ k.older) ≡ true

  -- The base of a readable value is a declared root of its register's kind, or a null page.
  abbrev pub NamesRoots : List Event → Type 0
  NamesRoots h = (p value base : ℕ) (reg : Reg) → p < heading.pes → among value (register_values h p reg) ≡ true
      → base_of value ≡ Some base → (is_root h (kind_of_reg reg) base ≡ true) ⊎ (is_null h base ≡ true)

  -- Whether the base of a value that was readable before the event is a declared root of its register's kind, doesn't
  -- change.
  abbrev pub BasesStay : List Event → Event → Type 0
  BasesStay h e = (p value base : ℕ) (reg : Reg) → p < heading.pes → among value (register_values h p reg) ≡ true
      → base_of value ≡ Some base → is_root (e ∷ h) (kind_of_reg reg) base ≡ is_root h (kind_of_reg reg) base
