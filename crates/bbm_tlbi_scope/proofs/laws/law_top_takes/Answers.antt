use Rattle.bbm_tlbi_scope.specs.ScopeCovers.{at_end}
use Rattle.bbm_tlbi_scope.proofs.Agreeing.{full_takes, half_takes, second_takes}
use Rattle.bbm_tlbi_scope.proofs.laws.law_top_takes.Goals as goal

pub returns-clause-full : goal.returns-clause-full
returns-clause-full c s vmid e v a h = full_takes s vmid e (at_end v) a h

pub returns-clause-half : goal.returns-clause-half
returns-clause-half c s vmid e v a kind h = half_takes s vmid e (at_end v) a kind h

pub returns-clause-second : goal.returns-clause-second
returns-clause-second c s vmid e v a kind h = second_takes s vmid e (at_end v) a kind h
