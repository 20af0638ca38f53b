use Rattle.bbm_rules.proofs.Common.{◌≡◌, ◌<◌, ap, reverse, arith, holds_at}
use Rattle.bbm_events.specs.Heading.{Heading}
use Rattle.bbm_oracle_tags.proofs.TagLemmas.{held-was-read}
use Rattle.bbm_oracle_tags.proofs.tags.candidates.Goals as goal
use Rattle.bbm_lemmas.proofs.Words.{pe_found}

pub returns : goal.returns
returns c = λ trust g k.
    let pes : c.header.inside.pes ≡ c.args.header.now.pes = ap (λ (h : Heading). h.pes) c.header.view_is in
    let found = pe_found c.args.header.now.pes
    (λ p. holds_at c.args.header.now trust p c.args.root g (reverse c.args.events.now)) k in
    let below : found.0 < c.args.header.now.pes = found.1 in
    c.loop-number.invariant found.0 g (omega (arith, pes, below))
    (held-was-read c.args.header.now trust found.0 c.args.root g (reverse c.args.events.now) found.2)
