use Rattle.bbm_rules.proofs.Common.{Bool, ap, ◌∙◌, ◌&&◌, ◌||◌, true, false, answers}
use Rattle.bbm_regimes.specs.PeMask.{pe_in}
use Rattle.bbm_oracle_patterns.specs.Relation.{is_open}
use Rattle.bbm_oracle_patterns.proofs.Walks.{walk_dsb}
use Rattle.bbm_oracle_patterns.proofs.walk.Walk.complete.Goals as goal

pub returns : goal.returns
returns c = λ place position covers tops since x.
    walk_dsb c.args.self.now c.args.header.now place since x covers tops position c.args.pe c.args.dsb
    (record { seen = c.or.result; half = c.or-2.result; cleansed = c.or-4.result })
    c.answer-full.new.self c.answer-half.new.self c.answer-second.new.self
    (λ p. c.or.ensures p ∙ ap (λ (b : Bool). b || pe_in c.args.self.now.trace.seen p) (c.newly_seen-seen.ensures p))
    (λ p. c.or-2.ensures p ∙ ap (λ (b : Bool). b || pe_in c.args.self.now.trace.half p)
    (c.answer-half.ensures.answered p))
    (λ p. c.or-4.ensures p
    ∙ ap (λ (b : Bool). b || pe_in c.args.self.now.trace.cleansed p) (c.or-3.ensures p)
    ∙ ap (λ (b : Bool). (b || pe_in c.answer-second.result p) || pe_in c.args.self.now.trace.cleansed p)
    (c.answer-full.ensures.answered p)
    ∙ ap (λ (b : Bool). (((answers c.args.dsb true && is_open c.args.self.now.full c.args.pe true p)
    || (answers c.args.dsb false && is_open c.args.self.now.full c.args.pe false p)) || b)
    || pe_in c.args.self.now.trace.cleansed p) (c.answer-second.ensures.answered p))
    c.answer-full.ensures.left c.answer-half.ensures.left c.answer-second.ensures.left
