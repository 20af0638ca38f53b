use Rattle.bbm_replay.proofs.Common.{ReplayState}
use Rattle.bbm_rules.proofs.Common.{not, ◌==◌, ◌∙◌, refl, sym, Node}
use Rattle.bbm_replay.proofs.PageMoves.{leaves_of, unroot_err, unroot_ok}
use Rattle.bbm_replay.proofs.Parents.{hang_held, lie_at}
use Rattle.bbm_replay.proofs.parts.ReplayState.unroot.Goals as goal

pub detach-requires-clause-root : goal.detach-requires-clause-root
detach-requires-clause-root c =
    let old = c.args.self.now in let s = c.requires in
    lie_at (c.laws.ensures s.0) old.map old.index s.2.told (c.law_starts.ensures s.0) c.args.page

pub detach-requires-clause-hang : goal.detach-requires-clause-hang
detach-requires-clause-hang c =
    let old = c.args.self.now in let s = c.requires in
    hang_held (c.laws.ensures s.0) old.map old.index s.2.told

pub returns-in-Ok : goal.returns-in-Ok
returns-in-Ok c =
    let old = c.args.self.now in
    let e = c.detach.ensures in
    let new : ReplayState = record old { map = c.detach.new.map; index = c.detach.new.self; roots = c.retire.new.self } in
    unroot_ok c.laws.ensures c.rules.ensures old c.args.pe c.args.page c.requires new c.in-Ok.ensures
    (record { header = refl; index_header = e.tracked.heading; numbers = λ n. e.map.pages ∙ n ∙ sym e.tracked.pages })
    refl e.tracked.pages
    (λ heading h s. leaves_of old.index new.index old.map new.map (λ (n : Node). not (n.root == c.args.page)) s.told.outside e)
    (λ heading h s free. (c.retire.ensures c.args.pe).taken heading h s free)

pub returns-in-Err : goal.returns-in-Err
returns-in-Err c = unroot_err c.laws.ensures c.rules.ensures c.args.self.now c.args.pe c.args.page c.requires c.in-Err.fault c.in-Err.ensures
