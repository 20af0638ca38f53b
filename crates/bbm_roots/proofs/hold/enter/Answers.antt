use Rattle.bbm_roots.proofs.Common.{◌≡◌, rules, is_some, get, nat_eq}
use Rattle.bbm_roots.specs.Keyed.{OthersStay}
use Rattle.bbm_roots.proofs.Keys.{known-by}
use Rattle.bbm_roots.proofs.hold.enter.Goals as goal

pub returns-in-Some-clause-known : goal.returns-in-Some-clause-known
returns-in-Some-clause-known c =
    let old = c.args.holds.now in
    let new = c.get_mut.follows.lender c.enter_one.new.held in
    let key = c.args.key in
    let here : is_some (get nat_eq new key) ≡ is_some (get nat_eq old key) = search rules in
    let others : OthersStay key old new = search rules in
    known-by old new key here others
