use Rattle.bbm_unmapped.proofs.Common.{core_maps, in_outputs}
use Rattle.bbm_rules.proofs.Common.{◌∙◌, ap, false, option_map_or, sym, true≢false}
use Rattle.bbm_unmapped.proofs.Cores.{maps_of_core}
use Rattle.bbm_unmapped.proofs.Targets.{value_targets}
use Rattle.bbm_unmapped.proofs.unmapped.Unmapped.target_under.Goals as goal

pub returns-in_default : goal.returns-in_default
returns-in_default c = let kind = c.args.read.now.kind in let level = c.args.read.now.level in
    λ p t. true≢false (sym (c.outputs_of-outputs.ensures p ∙ ap (λ o. core_maps kind level o p) c.core.ensures.value
    ∙ maps_of_core kind level c.args.value p ∙ t.0)
    ∙ ap (λ o. option_map_or (λ outputs. in_outputs outputs p) o false) c.in_default.is)

pub returns : goal.returns
returns c = let kind = c.args.read.now.kind in let level = c.args.read.now.level in
    value_targets c.args.pages.now c.args.self.now c.args.index.now c.in-Some.outputs kind level c.args.value
    (λ p. c.in-Some.ensures p ∙ ap (λ o. core_maps kind level o p) c.core.ensures.value
    ∙ maps_of_core kind level c.args.value p)
    c.table_under-table.result c.listed_under-listed.result c.lesser_page.result c.lesser_page.ensures
    c.table_under-table.ensures c.listed_under-listed.ensures
