use Rattle.bbm_rules.proofs.Common.{◌∙◌, Some, ap, arith, sym}
use Rattle.std.proofs.lemmas.Option.{slice_get-get_or}
use Rattle.bbm_unmapped.proofs.Coverings.{covers_all, listed_step}
use Rattle.bbm_unmapped.proofs.unmapped.Unmapped.cover_attached.Goals as goal

pub loop-listed-preserved : goal.loop-listed-preserved
loop-listed-preserved c = let j = c.loop-listed.listed-index in let listed = c.listed-item.result in
    listed_step c.args.map.now c.args.pages.now j listed c.args.self.now c.loop-listed.self c.cover_listed.new.self
    (slice_get-get_or c.args.pages.now j listed (omega (arith, c.loop-listed-test.true))
    ∙ ap (λ a. Some a) (sym c.listed-item.is))
    c.loop-listed.invariant c.cover_listed.ensures

pub returns-clause-covers : goal.returns-clause-covers
returns-clause-covers c = covers_all c.args.map.now c.args.pages.now c.loop-listed.listed-index c.args.self.now
    c.loop-listed.self
    (omega (arith, c.loop-listed-test.false)) c.loop-listed.invariant
