use Rattle.bbm_rules.proofs.Common.{sym, ◌∙◌}
use Rattle.bbm_counterrun.proofs.SearchPlain.{try_chosen}
use Rattle.bbm_counterrun.proofs.trying.try_number.Goals as goal

pub returns-then-is_stale : goal.returns-then-is_stale
returns-then-is_stale c =
    let search = c.args.search.now in
    try_chosen search.header.now search.events.now search.place search.value c.args.starts c.args.pe search.kind c.args.number
    c.requires.some c.requires.within search.answers.now c.requires.answers c.args.reads.now c.in_ok-entry.field-0 c.in-Some.entry
    c.in_ok-entry.ensures c.in-Some.is (sym c.is_stale.ensures ∙ c.if-is_stale.true) c.in_ok-found-in-Some.found
    c.in_ok-found-in-Some.ensures
