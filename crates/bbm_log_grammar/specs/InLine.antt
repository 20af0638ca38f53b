-- The item that is read of a line, where its label stays in the line.
use Rattle.std.specs.Prelude.{Result, Ok, Err}
use Rattle.bbm_events.specs.declared.event.Item.{Item}
use Rattle.bbm_events.specs.declared.event.Item.TheVariants as item
use Rattle.bbm_events.specs.declared.malformed.Malformed.{Malformed}
use Rattle.bbm_log_grammar.specs.declared.line.LineItem.{LineItem}
use Rattle.bbm_log_grammar.specs.declared.line.LineItem.TheVariants as line

abbrev pub item_in : LineItem → Item
item_in (line.Event event label) = item.Event event label
item_in (line.End count) = item.End count

-- the same of what was read: an item, or the cause for which there is none
abbrev pub read_in : Result LineItem Malformed → Result Item Malformed
read_in (Ok said) = Ok (item_in said)
read_in (Err cause) = Err cause
