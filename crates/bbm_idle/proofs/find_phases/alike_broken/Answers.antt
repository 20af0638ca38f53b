use Rattle.bbm_rules.proofs.Common.{Bool, not, ◌&&◌, ◌||◌, nat_lt, ap, ◌∙◌, arith}
use Rattle.bbm_regimes.specs.PeMask.{pe_in}
use Rattle.bbm_idle.proofs.FindPhases.{alike_at, differ}
use Rattle.bbm_idle.proofs.find_phases.alike_broken.Goals as goal

pub returns : goal.returns
returns c = λ p below.
    alike_at c.pe_count.result p c.args.new.now c.args.old.now (pe_in c.minus.result p)
    (pe_in c.differing-cleansed.result p) (pe_in c.differing-half.result p) (pe_in c.differing-seen.result p)
    (omega (arith, c.pe_count.ensures, below))
    (c.minus.ensures p ∙ ap (λ (b : Bool). b && not (pe_in c.or-8.result p)) (c.all.ensures p)
    ∙ ap (λ (b : Bool). nat_lt p c.pe_count.result && not b)
    (c.or-8.ensures p ∙ ap (λ (b : Bool). b || pe_in c.differing-seen.result p) (c.or-7.ensures p)))
    (c.differing-cleansed.ensures p)
    (c.differing-half.ensures p
    ∙ ap (λ (b : Bool). differ b (pe_in c.or-2.result p)) (c.or.ensures p)
    ∙ ap (λ (b : Bool). differ (pe_in c.args.new.now.cleansed p || pe_in c.args.new.now.half p) b) (c.or-2.ensures p))
    (c.differing-seen.ensures p
    ∙ ap (λ (b : Bool). differ b (pe_in c.or-6.result p))
    (c.or-4.ensures p ∙ ap (λ (b : Bool). b || pe_in c.args.new.now.seen p) (c.or-3.ensures p))
    ∙ ap (λ (b : Bool). differ ((pe_in c.args.new.now.cleansed p || pe_in c.args.new.now.half p) || pe_in c.args.new.now.seen p) b)
    (c.or-6.ensures p ∙ ap (λ (b : Bool). b || pe_in c.args.old.now.seen p) (c.or-5.ensures p)))
