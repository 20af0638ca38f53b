use Rattle.bbm_claims.proofs.Common.{notes_of}
use Rattle.bbm_rules.proofs.Common.{◌≡◌, take, reverse, events_of}
use Rattle.bbm_claims.proofs.holdings.events_in.Given as goal

abbrev pub invariant-loop-kept : goal.invariant-loop-kept
invariant-loop-kept l = reverse l.events.items ≡ events_of (notes_of (reverse (take l.kept-index l.log)))
