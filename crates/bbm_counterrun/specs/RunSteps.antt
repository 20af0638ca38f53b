-- Whether the steps of a run fit a header, so that their lines can be read again under it.
-- Source: project's own choice.
use Rattle.std.specs.Prelude.{Bool}
use Rattle.bbm_events.specs.Fits.{fits_heading}
use Rattle.bbm_events.specs.Heading.{Heading}
use Rattle.bbm_events.specs.Machine.{machine_fits}
use Rattle.bbm_tlb_machine.specs.declared.step.Step.{Step}
use Rattle.bbm_tlb_machine.specs.declared.step.Step.TheVariants.{Machine, Event as Taken}

abbrev pub step_fits : Heading → Step → Bool
step_fits heading (Taken event) = fits_heading heading event
step_fits heading (Machine line) = machine_fits heading line
