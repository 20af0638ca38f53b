-- The limits that a history reaches. The limits on bytes, events, steps and lines are those of the reader.
-- Source: project's own choice.
use Rattle.std.specs.Prelude.{◌&&◌, not, nat_le, List, length, Option, None}
use Rattle.bbm_regimes.specs.declared.regime.Which.{Which}
use Rattle.bbm_regimes.specs.declared.regime.Which.TheVariants.{Pages, Roots, Values}
use Rattle.bbm_rules.specs.Prelude.{Event, Init, Root, Msr}
use Rattle.bbm_rules.specs.Pages.{initialised}
use Rattle.bbm_rules.specs.Lists.{among, if_so}
use Rattle.bbm_rules.specs.RegisterValues.{register_values}
use Rattle.bbm_rules.specs.Roots.{roots_of}

-- The limit that an event reaches after a history, or none: an init of a page that was never initialised before, after
-- 16,384 pages were; a `root` while 1,024 roots are declared; a ninth write of one register by a PE without an ISB of
-- it between, so that nine values are readable before it.
abbrev pub limit_of : List Event → Event → Option Which
limit_of h (Init pe page) = if_so (not (among page (initialised h)) && nat_le 16384 (length (initialised h))) Pages
limit_of h (Root pe kind lock page) = if_so (nat_le 1024 (length (roots_of h))) Roots
limit_of h (Msr pe reg value) = if_so (nat_le 9 (length (register_values h pe reg))) Values
limit_of h _ = None
