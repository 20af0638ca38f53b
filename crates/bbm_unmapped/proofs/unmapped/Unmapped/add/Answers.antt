use Rattle.bbm_unmapped.proofs.Common.{get, in_outputs, pages_of}
use Rattle.bbm_unmapped.specs.Unmapped.{free_in, known_in, may_map, pages_in}
use Rattle.bbm_rules.proofs.Common.{◌∙◌, ap, arith, is_some, nat_eq, sym}
use Rattle.bbm_unmapped.proofs.Columns.{has_number, is_known, is_new, read_push}
use Rattle.bbm_unmapped.proofs.unmapped.Unmapped.add.Goals as goal

pub unwrap-number-requires : goal.unwrap-number-requires
unfolding known_in pages_in
unwrap-number-requires c = ap is_some c.number.ensures
    ∙ has_number c.args.self.now.pages c.args.page (pages_of c.args.map.now) c.requires.pages

pub push-requires-clause-absent : goal.push-requires-clause-absent
unfolding known_in pages_in
push-requires-clause-absent c = (is_new c.args.self.now.pages c.args.page (pages_of c.args.map.now) c.requires.pages
    c.number.result
    c.get.result c.unwrap-number.result c.number.ensures c.unwrap-number.ensures c.get.ensures.value
    (omega (arith, c.len.ensures.len, c.if-get-len.true))).0

pub returns-then-get-len-clause-pages : goal.returns-then-get-len-clause-pages
unfolding known_in pages_in
returns-then-get-len-clause-pages c =
    c.push.ensures.keys ∙ sym (is_new c.args.self.now.pages c.args.page (pages_of c.args.map.now) c.requires.pages
    c.number.result
    c.get.result c.unwrap-number.result c.number.ensures c.unwrap-number.ensures c.get.ensures.value
    (omega (arith, c.len.ensures.len, c.if-get-len.true))).1

pub returns-then-get-len-clause-free : goal.returns-then-get-len-clause-free
unfolding free_in known_in pages_in
returns-then-get-len-clause-free c = λ p. read_push (λ leaves. leaves.free) c.no_leaves.result (get nat_eq
    c.args.self.now.pages)
    (get nat_eq c.push.new.self) c.args.page p
    (is_new c.args.self.now.pages c.args.page (pages_of c.args.map.now) c.requires.pages c.number.result
    c.get.result c.unwrap-number.result c.number.ensures c.unwrap-number.ensures c.get.ensures.value
    (omega (arith, c.len.ensures.len, c.if-get-len.true))).0
    c.no_leaves.ensures.free (c.push.ensures.updates p)

pub returns-then-get-len-clause-may : goal.returns-then-get-len-clause-may
unfolding may_map known_in pages_in
returns-then-get-len-clause-may c = λ table p. read_push (λ leaves. in_outputs leaves.bounds p) c.no_leaves.result
    (get nat_eq c.args.self.now.pages) (get nat_eq c.push.new.self) c.args.page table
    (is_new c.args.self.now.pages c.args.page (pages_of c.args.map.now) c.requires.pages c.number.result
    c.get.result c.unwrap-number.result c.number.ensures c.unwrap-number.ensures c.get.ensures.value
    (omega (arith, c.len.ensures.len, c.if-get-len.true))).0
    (c.no_leaves.ensures.bounds p) (c.push.ensures.updates table)

pub returns-else-get-len-clause-pages : goal.returns-else-get-len-clause-pages
unfolding known_in pages_in
returns-else-get-len-clause-pages c =
    sym (is_known c.args.self.now.pages c.args.page (pages_of c.args.map.now) c.requires.pages c.number.result
    c.get.result c.unwrap-number.result c.number.ensures c.unwrap-number.ensures c.get.ensures.value
    (omega (arith, c.len.ensures.len, c.if-get-len.false)))
