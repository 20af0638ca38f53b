use Rattle.bbm_unmapped.proofs.Common.{free_in}
use Rattle.bbm_rules.proofs.Common.{◌≡◌, ◌∙◌, Some, ap, arith, false, sym}
use Rattle.std.proofs.lemmas.Option.{slice_get-get_or}
use Rattle.bbm_tree_index.proofs.Leasts.{item_step}
use Rattle.bbm_unmapped.proofs.Targets.{PassesAt, all_listed}
use Rattle.bbm_unmapped.proofs.unmapped.Unmapped.least_unclean.Goals as goal

pub loop-listed-preserved : goal.loop-listed-preserved
loop-listed-preserved c = let j = c.loop-listed.listed-index in let listed = c.listed-item.result in
    item_step c.args.pages.now (PassesAt (λ page. free_in c.args.self.now page ≡ false)) j listed c.loop-listed.least
    c.unclean_at-found.result
    c.lesser_page-least.result
    (slice_get-get_or c.args.pages.now j listed (omega (arith, c.loop-listed-test.true))
    ∙ ap (λ a. Some a) (sym c.listed-item.is))
    c.lesser_page-least.ensures c.loop-listed.invariant c.unclean_at-found.ensures

pub returns : goal.returns
returns c = all_listed c.args.pages.now (λ page. free_in c.args.self.now page ≡ false) c.loop-listed.listed-index
    c.loop-listed.least
    (omega (arith, c.loop-listed-test.false)) c.loop-listed.invariant
