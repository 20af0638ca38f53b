-- What a look at one event tells of the readable values of a place, on the way back through a history.
use Rattle.std.specs.Prelude.{◌≡◌, ℕ, true, false, List, ◌∷◌}
use Rattle.bbm_regimes.specs.declared.pe.PeMask.{PeMask}
use Rattle.bbm_regimes.specs.PeMask.{pe_in}
use Rattle.bbm_rules.specs.Lists.{among}
use Rattle.bbm_rules.specs.Prelude.{Heading, Event}
use Rattle.bbm_rules.specs.Values.{published, readable_before}
use Rattle.bbm_tlb_machine.specs.declared.looking.Look.{Look}
use Rattle.bbm_tlb_machine.specs.declared.looking.Look.TheVariants.{Found, Gone, Further}

-- the marked PEs are those whose writes a later event publishes to p
abbrev pub Marks : Heading → ℕ → List Event → PeMask → Type 0
Marks heading p later marks = (q : ℕ) → pe_in marks q ≡ published heading q p later

-- what a look says of the value, where these events are later and those are older
abbrev pub Says : Heading → ℕ → ℕ → ℕ → List Event → Event → List Event → Look → Type 0
Says heading p place value later e older Found = among value (readable_before heading later (e ∷ older) place p) ≡ true
Says heading p place value later e older Gone = among value (readable_before heading later (e ∷ older) place p) ≡ false
Says heading p place value later e older (Further marks) =
    (among value (readable_before heading later (e ∷ older) place p)
    ≡ among value (readable_before heading (e ∷ later) older place p))
    × Marks heading p (e ∷ later) marks
