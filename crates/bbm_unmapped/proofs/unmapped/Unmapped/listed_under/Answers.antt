use Rattle.bbm_unmapped.proofs.Common.{IsFreeUnder}
use Rattle.bbm_rules.proofs.Common.{◌∙◌, Some, ap, arith, sym, true≢false}
use Rattle.std.proofs.lemmas.Option.{slice_get-get_or}
use Rattle.bbm_tree_index.proofs.Leasts.{item_step}
use Rattle.bbm_unmapped.proofs.Targets.{PassesAt, all_listed}
use Rattle.bbm_unmapped.proofs.unmapped.Unmapped.listed_under.Goals as goal

pub returns-then-not-may_have_free : goal.returns-then-not-may_have_free
returns-then-not-may_have_free c = λ page l. true≢false (sym l.0.1
    ∙ c.may_have_free.ensures c.if-not-may_have_free.true page l.0.0)

pub loop-listed-preserved : goal.loop-listed-preserved
loop-listed-preserved c = let j = c.loop-listed.listed-index in let listed = c.listed-item.result in
    item_step c.args.pages.now (PassesAt (IsFreeUnder c.args.self.now c.args.outputs.now)) j listed c.loop-listed.least
    c.listed_at-found.result
    c.lesser_page-least.result
    (slice_get-get_or c.args.pages.now j listed (omega (arith, c.loop-listed-test.true))
    ∙ ap (λ a. Some a) (sym c.listed-item.is))
    c.lesser_page-least.ensures c.loop-listed.invariant c.listed_at-found.ensures

pub returns : goal.returns
returns c = all_listed c.args.pages.now (IsFreeUnder c.args.self.now c.args.outputs.now) c.loop-listed.listed-index
    c.loop-listed.least
    (omega (arith, c.loop-listed-test.false)) c.loop-listed.invariant
