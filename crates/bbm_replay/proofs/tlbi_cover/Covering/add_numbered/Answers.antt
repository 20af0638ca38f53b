use Rattle.bbm_replay.proofs.Common.{node_in, IsPathOf, Marks}
use Rattle.bbm_rules.proofs.Common.{is_some, Option, sym, ◌∙◌, ap, subst, true≢false, page_of}
use Rattle.bbm_replay.proofs.Found.{found_at, none_at}
use Rattle.bbm_replay.proofs.tlbi_cover.Covering.add_numbered.Goals as goal

pub add_broken-requires-clause-path : goal.add_broken-requires-clause-path
add_broken-requires-clause-path c =
    let index = c.args.self.now.index.now in
    let place = c.restless_at-place.result in
    subst (λ a. IsPathOf index a c.in-Some.path) c.restless_at-place.ensures.place
    (found_at (node_in index (page_of place)) place c.path_of.result c.in-Some.path c.in-Some.is c.path_of.ensures)

pub returns-in-None-clause-settled : goal.returns-in-None-clause-settled
returns-in-None-clause-settled c broken none heading h pe op xt issued =
    let index = c.args.self.now.index.now in
    let place = c.restless_at-place.result in
    absurd (true≢false (sym c.restless_at-place.ensures.broken
    ∙ ap (λ (x : Option Marks). is_some x) (issued.1.told.outside place
    (none_at (node_in index (page_of place)) place c.path_of.result c.in-None.is c.path_of.ensures))))
