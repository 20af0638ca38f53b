use Rattle.bbm_rules.proofs.Common.{◌&&◌, is_some, sym, ◌∙◌, ap, and-false, refl}
use Rattle.bbm_replay.proofs.NoLimbo.{no_limbo}
use Rattle.bbm_replay.proofs.parts.ReplayState.makes_in_limbo.Goals as goal

pub returns-then-not-is_some : goal.returns-then-not-is_some
returns-then-not-is_some c = rw (sym c.is_some.ensures ∙ c.if-not-is_some.true) refl

pub returns-then-rules_out_limbo : goal.returns-then-rules_out_limbo
returns-then-rules_out_limbo c =
    let r = c.requires in
    sym (ap (λ b. is_some c.args.new.now && b)
    (no_limbo (c.laws.ensures r.0) c.args.self.now.map c.args.self.now.index r.2.told (c.rules_out_limbo.ensures c.if-rules_out_limbo.true)
    c.args.place) ∙ and-false (is_some c.args.new.now))

pub returns : goal.returns
returns c = rw (sym c.is_some.ensures ∙ c.if-not-is_some.false) c.in_limbo.ensures
