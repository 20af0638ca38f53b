use Rattle.bbm_replay.proofs.Common.{node_in, below_more, core_at, IsSettled}
use Rattle.bbm_rules.proofs.Common.{◌+◌, ◌*◌, ℕ, subst}
use Rattle.bbm_replay.specs.OnePage.{MetFrom}
use Rattle.bbm_replay.proofs.Findings.{settled_more}
use Rattle.bbm_replay.proofs.tlbi_cover.Covering.descend_pages.Goals as goal

pub loop-part-preserved : goal.loop-part-preserved
loop-part-preserved c =
    let by = c.args.self.now in
    let map = c.args.map.now in
    let part = c.loop-part.part in
    let old = c.loop-part.found.items in
    let new = c.descend.new.found.items in
    let v = c.loop-part.invariant in
    let e = c.in_ok-descend.ensures in
    let here : MetFrom (node_in by.index.now) (core_at map) c.args.input (c.args.pages.now.first + 4096 * part)
    (IsSettled map by new)
    = subst (λ x. MetFrom (node_in by.index.now) (core_at map) c.args.input (x + 4096 * part) (IsSettled map by new))
    c.get.ensures.value e.met in
    record {
      grows = (λ all. e.grows.0 (v.grows.0 all), λ a has. e.grows.1 a (v.grows.1 a has));
      met = λ j below. below_more (λ (i : ℕ). MetFrom (node_in by.index.now) (core_at map) c.args.input
          (c.args.pages.now.first + 4096 * i) (IsSettled map by new)) part
          (λ i less page way a w. settled_more map by old new e.grows a (v.met i less page way a w)) here j below;
    }
