use Rattle.bbm_replay.proofs.Common.{below_more, restless_place, IsSettled}
use Rattle.bbm_rules.proofs.Common.{ℕ, ◌<◌, arith, subst}
use Rattle.bbm_replay.proofs.Findings.{settled_more}
use Rattle.bbm_replay.proofs.tlbi_cover.Covering.add_each.Goals as goal

pub loop-i-preserved : goal.loop-i-preserved
loop-i-preserved c =
    let map = c.args.map.now in
    let by = c.args.self.now in
    let v = c.loop-i.invariant in
    let i = c.loop-i.i in
    let e = c.in_ok-add_numbered.ensures in
    let old = c.loop-i.found.items in
    let new = c.add_numbered.new.found.items in
    record {
      grows = (λ all. e.grows.0 (v.grows.0 all), λ a has. e.grows.1 a (v.grows.1 a has));
      settled = below_more (λ (j : ℕ). IsSettled map by new (restless_place map j)) i
          (λ j less. settled_more map by old new e.grows (restless_place map j) (v.settled j less)) e.settled;
    }

pub returns-clause-settled : goal.returns-clause-settled
returns-clause-settled c a broken =
    let n = c.restless-i-end.ensures.each a broken in
    let below : n.0 < c.loop-i.i = omega (arith, n.1, c.restless-i-end.ensures.count) in
    subst (IsSettled c.args.map.now c.args.self.now c.loop-i.found.items) n.2 (c.loop-i.invariant.settled n.0 below)
    broken
