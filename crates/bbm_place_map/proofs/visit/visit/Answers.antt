use Rattle.bbm_place_map.proofs.Completed.{completed_listed, open_completed, open_published, published_listed}
use Rattle.bbm_place_map.proofs.Completed.{settled_completed, settled_published}
use Rattle.bbm_place_map.proofs.visit.visit.Goals as goal

pub visit_for-requires-clause-known : goal.visit_for-requires-clause-known
visit_for-requires-clause-known c =
    open_published c.args.work.now c.args.barrier.now c.args.entries.now c.requires.pes c.requires.listed c.in-Publish._heard c.in-Publish.is
    c.requires.has

pub visit_for-requires-clause-settled : goal.visit_for-requires-clause-settled
visit_for-requires-clause-settled c = λ _.
    settled_published c.args.work.now c.args.barrier.now c.args.entries.now c.requires.pes c.requires.listed c.in-Publish._heard c.in-Publish.is

pub visit_for-requires-in-Complete-clause-known : goal.visit_for-requires-in-Complete-clause-known
visit_for-requires-in-Complete-clause-known c =
    open_completed c.args.work.now c.args.barrier.now c.args.entries.now c.requires.pes c.requires.listed c.in-Complete.is

pub visit_for-requires-in-Complete-clause-settled : goal.visit_for-requires-in-Complete-clause-settled
visit_for-requires-in-Complete-clause-settled c =
    settled_completed c.args.work.now c.args.barrier.now c.args.entries.now c.requires.pes c.requires.listed c.in-Complete.is

pub returns-in-Publish-clause-listed : goal.returns-in-Publish-clause-listed
returns-in-Publish-clause-listed c =
    let e = c.visit_for.ensures in
    published_listed c.args.work.now c.args.barrier.now c.args.entries.now c.requires.pes c.requires.listed c.visit_for.new.entries
    c.visit_for.new.lists e.visited.each e.known c.in-Publish._heard c.in-Publish.is e.kept_lists

pub returns-in-Complete-clause-listed : goal.returns-in-Complete-clause-listed
returns-in-Complete-clause-listed c =
    let e = c.visit_for-in-Complete.ensures in
    completed_listed c.args.work.now c.args.barrier.now c.args.entries.now c.requires.pes c.requires.listed c.visit_for-in-Complete.new.entries
    c.visit_for-in-Complete.new.lists e.visited.each e.known c.in-Complete.is e.kept_lists
