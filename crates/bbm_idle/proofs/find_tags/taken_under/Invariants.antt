use Rattle.bbm_idle.proofs.Common.{is_taken}
use Rattle.bbm_rules.proofs.Common.{◌≡◌, Bool, take, any, Reading}
use Rattle.bbm_idle.proofs.find_tags.taken_under.Given as goal

abbrev pub invariant-loop-page : goal.invariant-loop-page
invariant-loop-page l = (test : Reading → Bool) → any test l.taken.items
    ≡ any (λ page. any (is_taken l.scope l.vmid page test) l.known) (take l.page-index l.pages)
