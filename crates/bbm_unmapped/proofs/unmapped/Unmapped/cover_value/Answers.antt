use Rattle.bbm_unmapped.proofs.Common.{core_maps, in_outputs, maps}
use Rattle.bbm_rules.proofs.Common.{◌≡◌, ◌∙◌, ap, false, option_map_or, sym, true, true≢false}
use Rattle.bbm_unmapped.proofs.Cores.{maps_of_core}
use Rattle.bbm_unmapped.proofs.Coverings.{covers_none, covers_value}
use Rattle.bbm_unmapped.proofs.unmapped.Unmapped.cover_value.Goals as goal

pub returns-in-Some : goal.returns-in-Some
returns-in-Some c = let kind = c.args.read.now.kind in let level = c.args.read.now.level in
    covers_value c.args.self.now c.cover.new.self c.in-Some.outputs c.args.page kind level c.args.value
    (λ p. c.in-Some.ensures p ∙ ap (λ o. core_maps kind level o p) c.core.ensures.value
    ∙ maps_of_core kind level c.args.value p)
    c.cover.ensures.pages c.cover.ensures.free c.cover.ensures.grows c.cover.ensures.own

pub returns-in_default : goal.returns-in_default
returns-in_default c = let kind = c.args.read.now.kind in let level = c.args.read.now.level in
    covers_none (λ table p. (table ≡ c.args.page) × (maps kind level c.args.value p ≡ true)) c.args.self.now
    (λ table p m. true≢false (sym (c.outputs_of-outputs.ensures p
    ∙ ap (λ o. core_maps kind level o p) c.core.ensures.value
    ∙ maps_of_core kind level c.args.value p ∙ m.1)
    ∙ ap (λ o. option_map_or (λ outputs. in_outputs outputs p) o false) c.in_default.is))
