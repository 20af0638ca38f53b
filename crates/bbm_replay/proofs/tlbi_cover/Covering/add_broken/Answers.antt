use Rattle.bbm_replay.proofs.Common.{IsCovered, Found, IsPathOf, IsSettled}
use Rattle.bbm_rules.proofs.Common.{sym, ◌∙◌, subst}
use Rattle.bbm_replay.proofs.Findings.{covered_at, grows_by, settled_by}
use Rattle.bbm_replay.proofs.tlbi_cover.Covering.add_broken.Goals as goal

pub cover_of-cover-requires : goal.cover_of-cover-requires
cover_of-cover-requires c = record {
  path = subst (λ a. IsPathOf c.args.self.now.index.now a c.args.path.now) (sym c.restless_at-place.ensures.place)
      c.requires.path;
}

pub returns-in-None-clause-settled : goal.returns-in-None-clause-settled
returns-in-None-clause-settled c broken none heading h pe op xt issued =
    sym c.in-None.is
    ∙ covered_at c.args.map.now c.args.self.now c.cover_of-cover.result c.args.number c.restless_at-place.result
    c.restless_core-core.result c.restless_at-place.ensures.place c.restless_core-core.ensures c.cover_of-cover.ensures
    heading h pe op xt issued

pub returns-in_ok-push-in_default-clause-grows : goal.returns-in_ok-push-in_default-clause-grows
returns-in_ok-push-in_default-clause-grows c =
    let map = c.args.map.now in
    let by = c.args.self.now in
    let here = c.restless_at-place.ensures.place in
    let cover = c.cover_of-cover.result in
    let item : Found = record { place = c.restless_at-place.result; cover = cover; hint = c.args.number } in
    grows_by map by c.args.found.now.items c.push.new.self.items item c.in_ok-push-in_default.ensures.ok
    (subst (IsCovered map by cover) (sym here)
    (covered_at map by cover c.args.number c.restless_at-place.result c.restless_core-core.result here
    c.restless_core-core.ensures c.cover_of-cover.ensures))

pub returns-in_ok-push-in_default-clause-settled : goal.returns-in_ok-push-in_default-clause-settled
returns-in_ok-push-in_default-clause-settled c =
    let map = c.args.map.now in
    let by = c.args.self.now in
    let item : Found
    = record { place = c.restless_at-place.result; cover = c.cover_of-cover.result; hint = c.args.number } in
    subst (IsSettled map by c.push.new.self.items) c.restless_at-place.ensures.place
    (settled_by map by c.args.found.now.items c.push.new.self.items item c.in_ok-push-in_default.ensures.ok)
