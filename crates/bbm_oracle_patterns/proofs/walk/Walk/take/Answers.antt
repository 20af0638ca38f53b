use Rattle.bbm_rules.proofs.Common.{◌≡◌, suc, sym, ◌∙◌, eqb-true, Write, Dsb, Tlbi}
use Rattle.bbm_oracle_patterns.specs.Kept.{cover_in, listed}
use Rattle.bbm_oracle_patterns.proofs.Walks.{event_is, walk_early}
use Rattle.bbm_oracle_patterns.proofs.walk.Walk.take.Goals as goal

pub returns-then-eq : goal.returns-then-eq
returns-then-eq c = λ before since x.
    let same : c.in-Write.at ≡ c.args.place = eqb-true _ _ (sym c.eq.ensures ∙ c.if-eq.true) in
    event_is c.write.new.self c.args.header.now c.args.place before c.args.covering c.args.kept.now since
    (Write c.in-Write.pe c.in-Write.at c.in-Write.value) c.in-Write.is
    (rw same (c.write.ensures c.args.header.now c.args.place c.in-Write.value (suc before)
    (cover_in (listed c.args.covering c.args.kept.now)) (cover_in c.args.kept.now.tops.items) since x))

pub returns-in-Dsb : goal.returns-in-Dsb
returns-in-Dsb c = λ before since x.
    event_is c.complete.new.self c.args.header.now c.args.place before c.args.covering c.args.kept.now since
    (Dsb c.in-Dsb.pe c.in-Dsb.dsb) c.in-Dsb.is
    (c.complete.ensures c.args.place (suc before) (cover_in (listed c.args.covering c.args.kept.now))
    (cover_in c.args.kept.now.tops.items) since x)

pub returns-then-not-is_empty : goal.returns-then-not-is_empty
returns-then-not-is_empty c = λ before since x.
    event_is c.issue.new.self c.args.header.now c.args.place before c.args.covering c.args.kept.now since
    (Tlbi c.in-Tlbi.pe c.in-Tlbi.op c.in-Tlbi.xt) c.in-Tlbi.is
    (c.issue.ensures c.args.place c.in-Tlbi.xt (suc before) (cover_in (listed c.args.covering c.args.kept.now))
    (cover_in c.args.kept.now.tops.items) (sym c.cover_for.ensures) since x)

pub returns-else-not-is_empty-2 : goal.returns-else-not-is_empty-2
returns-else-not-is_empty-2 c = λ before since x.
    event_is c.args.self.now c.args.header.now c.args.place before c.args.covering c.args.kept.now since
    (Tlbi c.in-Tlbi.pe c.in-Tlbi.op c.in-Tlbi.xt) c.in-Tlbi.is
    (walk_early c.args.self.now c.args.header.now c.args.place since x (cover_in (listed c.args.covering c.args.kept.now))
    (cover_in c.args.kept.now.tops.items) (suc before) c.in-Tlbi.pe c.in-Tlbi.op c.in-Tlbi.xt
    (c.is_empty.ensures.0 c.if-not-is_empty.false)
    (c.is_empty-else-not-is_empty.ensures.0 c.if-not-is_empty-2.false))
