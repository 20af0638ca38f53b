use Rattle.bbm_rules.proofs.Common.{◌∙◌, Some, ap, arith, sym}
use Rattle.std.proofs.lemmas.Option.{slice_get-get_or}
use Rattle.bbm_tree_index.proofs.Leasts.{item_step}
use Rattle.bbm_unmapped.proofs.Targets.{TargetOf, all_targets}
use Rattle.bbm_unmapped.proofs.unmapped.Unmapped.least_target.Goals as goal

pub loop-listed-preserved : goal.loop-listed-preserved
loop-listed-preserved c = let j = c.loop-listed.listed-index in let listed = c.listed-item.result in
    item_step c.args.pages.now (λ j. TargetOf c.args.pages.now c.args.self.now c.args.index.now c.args.map.now) j
    listed c.loop-listed.least
    c.target_below-found.result c.lesser_page-least.result
    (slice_get-get_or c.args.pages.now j listed (omega (arith, c.loop-listed-test.true))
    ∙ ap (λ a. Some a) (sym c.listed-item.is))
    c.lesser_page-least.ensures c.loop-listed.invariant c.target_below-found.ensures

pub returns : goal.returns
returns c = all_targets c.args.pages.now c.args.self.now c.args.index.now c.args.map.now c.loop-listed.listed-index
    c.loop-listed.least
    (omega (arith, c.loop-listed-test.false)) c.loop-listed.invariant
