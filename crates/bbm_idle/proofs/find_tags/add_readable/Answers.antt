use Rattle.bbm_rules.proofs.Common.{◌≡◌, ℕ, ◌||◌, List, reverse, ap, ◌∙◌, rules, any, Reading, readings}
use Rattle.bbm_idle.proofs.FindTags.{read_more}
use Rattle.bbm_idle.proofs.find_tags.add_readable.Goals as goal

pub loop-number-preserved : goal.loop-number-preserved
loop-number-preserved c = λ test.
    let at : c.unwrap-pe.result ≡ c.loop-number.number = search rules in
    read_more c.args.header.now (reverse c.args.events.now) c.loop-number.number test (any test c.args.known.now.items)
    (any test c.loop-number.known.items) (any test c.add_readings.new.known.items) (c.loop-number.invariant test)
    (c.in_ok-add_readings.ensures test
    ∙ ap (λ (rs : List Reading). any test c.loop-number.known.items || any test rs)
    (c.deref.ensures.value ∙ c.in_ok-readings.ensures
    ∙ ap (λ (p : ℕ). readings c.args.header.now (reverse c.args.events.now) p) at))
