use Rattle.bbm_rules.proofs.Common.{◌≡◌, Bool, ◌||◌, reverse, any, below, Reading, readings}
use Rattle.bbm_idle.proofs.find_tags.add_readable.Given as goal

abbrev pub invariant-loop-number : goal.invariant-loop-number
invariant-loop-number l = (test : Reading → Bool) → any test l.known.items ≡ (any test l.initial.known.items
    || any (λ p. any test (readings l.header (reverse l.events) p)) (below l.number))
