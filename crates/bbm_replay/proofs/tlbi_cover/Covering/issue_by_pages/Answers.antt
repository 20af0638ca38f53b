use Rattle.bbm_replay.proofs.Common.{Noted, state_from, notes}
use Rattle.bbm_rules.proofs.Common.{err_from_is_err_and, ℕ, List, None, ◌∙◌, ap, subst, slice_get, Cover, Patterns}
use Rattle.bbm_rules.proofs.Common.{cover_at, Tlbi}
use Rattle.bbm_place_map.specs.Map.{marks_at, pends_at}
use Rattle.bbm_replay.proofs.Findings.{on_ok}
use Rattle.bbm_replay.proofs.Noting.{not_noted}
use Rattle.bbm_replay.proofs.tlbi_cover.Covering.issue_by_pages.Goals as goal

pub returns-in_err-covers : goal.returns-in_err-covers
returns-in_err-covers c =
    let p = err_from_is_err_and c.from_residual.result c.from_residual.ensures.1 in
    not_noted c.args.map.now c.args.self.now c.args.pe c.args.reach c.from_residual.result p.0 p.1

pub returns : goal.returns
returns c =
    let by = c.args.self.now in
    let map = c.args.map.now in
    let new = c.issue_all.new.self in
    record {
      noted = on_ok c.issue_all.result c.issue_all.ensures.noted (λ noted heading h op xt m a broken.
          let cover = cover_at heading Patterns (notes heading h) (Tlbi c.args.pe op xt) a in
          let is = c.in_ok-covers.ensures.each heading h c.args.pe op xt m a broken in
          subst (λ (x : ℕ). Noted (state_from None (marks_at map x)) (pends_at map c.args.pe x) c.args.reach
          by.named.now.scope.broadcast cover (pends_at new c.args.pe x)) is.1
          (noted is.0 cover (ap (λ (xs : List Cover). slice_get xs is.0) c.deref.ensures ∙ is.2)));
      only = c.issue_all.ensures.only;
      kept = c.issue_all.ensures.kept;
    }
