use Rattle.bbm_roots.proofs.Common.{◌∙◌, ap, sym, false≢true, kept_in, unread_at, world_of, Roots}
use Rattle.bbm_roots.specs.RootPendings.{takes_tags}
use Rattle.bbm_roots.proofs.Worlds.{none-taken}
use Rattle.bbm_roots.proofs.roots.Roots.prepare_issue.Goals as goal
use Rattle.bbm_roots.proofs.roots.Roots.prepare_issue.Goals.{then-not-takes_tags-via-then-not-takes_tags}
use Rattle.bbm_roots.proofs.roots.Roots.prepare_issue.Goals.{then-not-takes_tags-via-else-not-takes_tags+then-not-takes_held}

pub returns-then-not-takes_tags-clause-ready : goal.returns-then-not-takes_tags-clause-ready
returns-then-not-takes_tags-clause-ready c = λ heading h stands g p kept taken lost.
    let scope = c.args.named.now.scope in
    elim c.then-not-takes_tags.branch [
      | then-not-takes_tags-via-then-not-takes_tags w ↦
          absurd (false≢true (sym (none-taken (c.laws_below.ensures heading) stands scope c.args.named.now.vmid g p
          (ap (λ (r : Roots). takes_tags (world_of r) scope.family) w.self-is ∙ sym c.takes_tags.ensures
          ∙ w.if-not-takes_tags.true) kept) ∙ taken))
      | then-not-takes_tags-via-else-not-takes_tags+then-not-takes_held w ↦
          sym w.if-not-takes_held.true
          ∙ w.takes_held.ensures g p (ap (λ (r : Roots). kept_in r.holds g p) (sym w.self-is) ∙ kept) taken
          (ap (λ (r : Roots). unread_at r.registers c.args.issuer scope.broadcast g p) (sym w.self-is) ∙ lost)
    ]
