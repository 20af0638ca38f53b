use Rattle.bbm_certify.proofs.Common.{notes_behind, IsDueSince, Adds}
use Rattle.bbm_rules.proofs.Common.{◌≡◌, ℕ, reverse, subst, rules}
use Rattle.bbm_certify.proofs.DueAdds.{since_more, since_none}
use Rattle.bbm_certify.proofs.places.add_everywhere.Goals as goal

pub loop-number-init : goal.loop-number-init
loop-number-init c = λ newest k.
    since_none c.args.header.now c.args.place newest (notes_behind c.args.before (reverse c.args.log.now)) c.args.due.now.items

pub loop-number-preserved : goal.loop-number-preserved
loop-number-preserved c = λ newest k.
    let at : c.unwrap-pe.result ≡ c.loop-number.number = search rules in
    since_more c.args.header.now c.args.place newest (notes_behind c.args.before (reverse c.args.log.now)) c.loop-number.number
    c.unwrap-pe.result c.args.due.now.items c.loop-number.due.items c.add_where_seen.new.due.items at (c.loop-number.invariant newest k)
    (c.in_ok-add_where_seen.ensures newest k (c.trace_of-trace.ensures.seen c.args.before c.unwrap-pe.result)
    (c.trace_of-trace.ensures.cleansed c.args.before c.unwrap-pe.result))

pub returns : goal.returns
returns c = λ newest k.
    let same : c.loop-number.number ≡ c.args.header.now.pes = search rules in
    subst (λ (n : ℕ). Adds (IsDueSince c.args.header.now c.args.place newest (notes_behind c.args.before (reverse c.args.log.now)) n)
    c.args.due.now.items c.loop-number.due.items) same (c.loop-number.invariant newest k)
