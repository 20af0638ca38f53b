-- Which events can change the answer of which definition. There is a row for each event, and no other: a new event
-- needs one, and the laws say that a definition keeps its answer where its event's row doesn't name it.
-- Source: project's own choice.
use Rattle.std.specs.Prelude.{Bool, true, false}
use Rattle.bbm_rules.specs.Prelude.{Event, Init, Null, Root, Unroot, Write, Dsb, Dmb, Isb, Tlbi, Msr, Lock, Unlock}

pub record Changes : Type 0 where
  -- the values of places, and which places were ever written
  pub values : Bool
  -- what is published
  pub publications : Bool
  -- the initialised pages, and the null pages
  pub inits : Bool
  pub nulls : Bool
  pub roots : Bool
  -- the readable values of registers
  pub registers : Bool
  -- the TLBIs that aren't answered
  pub flushes : Bool
  pub locks : Bool

abbrev pub nothing : Changes
nothing = record {
  values = false;
  publications = false;
  inits = false;
  nulls = false;
  roots = false;
  registers = false;
  flushes = false;
  locks = false;
}

abbrev pub changes : Event → Changes
changes (Init pe page) = record nothing { values = true; inits = true }
changes (Null pe page) = record nothing { nulls = true }
changes (Root pe kind lock page) = record nothing { roots = true }
changes (Unroot pe page) = record nothing { roots = true }
changes (Write pe place value) = record nothing { values = true }
changes (Dsb pe dsb) = record nothing { publications = true; flushes = true }
changes (Dmb pe dsb) = nothing
changes (Isb pe) = record nothing { registers = true }
changes (Tlbi pe op xt) = record nothing { flushes = true }
changes (Msr pe reg value) = record nothing { registers = true }
changes (Lock pe lock) = record nothing { locks = true }
changes (Unlock pe lock) = record nothing { locks = true }
