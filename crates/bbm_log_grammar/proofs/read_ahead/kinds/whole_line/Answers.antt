-- The line of an item that is written is read as the item.
use Rattle.bbm_log_grammar.proofs.Common.{◌≡◌, true, refl, subst, item_fits, Heading, heading_ok}
use Rattle.bbm_events.specs.declared.event.Item.TheVariants as item
use Rattle.bbm_log_grammar.proofs.Ahead.{stands_first}
use Rattle.bbm_log_grammar.proofs.read_ahead.kinds.whole_line.Goals as goal

pub returns-clause-line : goal.returns-clause-line
returns-clause-line c =
    let heading = c.args.header.now in
    let event = c.args.event in
    let label = c.in-Some.label in
    let second = c.in-Some.ensures in
    let ok = subst (λ (h : Heading). heading_ok h ≡ true) c.header.view_is c.header.invariant in
    let fits : item_fits heading (item.Event event label) ≡ true = rw (c.requires.fits, second.1) refl in
    let line = c.law_written_is_a_line.ensures in
    stands_first heading event label c.args.bytes.now c.args.rest.now c.in-Some.rest.now _ c.requires.front second.0
    refl
    (c.law_written_is_read.ensures.item heading (item.Event event label) ok fits) fits
    (line.item_plain heading (item.Event event label) fits) (line.item_short heading (item.Event event label) ok fits)
