use Rattle.bbm_unmapped.proofs.Common.{pages_in, pages_of}
use Rattle.bbm_rules.proofs.Common.{sym}
use Rattle.bbm_unmapped.proofs.Known.{numbered_at, numbered_none, numberless_free}
use Rattle.bbm_unmapped.proofs.unmapped.Unmapped.free_number.Goals as goal

pub returns-in_default-clause-free : goal.returns-in_default-clause-free
returns-in_default-clause-free c = sym (numberless_free c.args.self.now c.args.page
    (numbered_none (pages_of c.args.map.now) (pages_in c.args.self.now) c.args.page c.number.result c.requires
    c.number.ensures c.in_default.is))

pub leaves-requires : goal.leaves-requires
leaves-requires c = numbered_at (pages_of c.args.map.now) (pages_in c.args.self.now) c.args.page c.in-Some.known
    c.get-number.result c.number.result c.requires c.number.ensures c.in-Some.is c.get-number.ensures.value

pub returns-then-leaves-clause-at : goal.returns-then-leaves-clause-at
returns-then-leaves-clause-at c = numbered_at (pages_of c.args.map.now) (pages_in c.args.self.now) c.args.page
    c.in-Some.known c.get-number.result c.number.result c.requires c.number.ensures c.in-Some.is c.get-number.ensures.value
