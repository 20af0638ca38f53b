use Rattle.bbm_roots.proofs.Common.{tag_equal, ◌≡◌, ◌∙◌, sym, ap, keys, Tag, ℕ, takes_whole_tag, unread_at}
use Rattle.bbm_roots.proofs.Common.{tag_with}
use Rattle.bbm_roots.specs.Holds.{kept_in}
use Rattle.bbm_roots.specs.RootPendings.{takes_key}
use Rattle.bbm_roots.proofs.Entries.{held-among, is_key_of}
use Rattle.bbm_roots.proofs.Tests.{any-weaker}
use Rattle.bbm_roots.proofs.issue.takes_held.Goals as goal

pub returns-in-None : goal.returns-in-None
returns-in-None c = λ g p kept e lost.
    c.takes_some.ensures
    ∙ any-weaker (is_key_of g) (takes_key c.args.scope.now c.args.vmid)
    (λ (key : ℕ) k. ap (takes_whole_tag c.args.scope.now c.args.vmid) (tag_equal (tag_with key) g k) ∙ e)
    (keys c.args.holds.now) (held-among c.args.holds.now g p kept)

pub returns-in-Some : goal.returns-in-Some
returns-in-Some c = λ g p kept e lost.
    let is : g ≡ c.in-Some.tag = c.in-Some.ensures g e in
    c.takes_from.ensures p (ap (λ (t : Tag). kept_in c.args.holds.now t p) (sym is) ∙ kept)
    (ap (λ (t : Tag). unread_at c.args.registers.now c.args.issuer c.args.scope.now.broadcast t p) (sym is) ∙ lost)
