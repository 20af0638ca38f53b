use Rattle.bbm_place_map.proofs.Common.{◌≤◌, arith, inl, sym, ◌∙◌, length, slice_get_past, none-some}
use Rattle.bbm_place_map.proofs.Holding.{set_there, set_kept}
use Rattle.bbm_place_map.proofs.work.add_for.Goals as goal

pub returns-then-not-list-clause-there : goal.returns-then-not-list-clause-there
returns-then-not-list-clause-there c = λ wide.
    set_there c.args.lists.now.items c.get-q.result c.add.new.list (omega arith) c.args.pe c.get-q.ensures.value wide c.args.cell
    (c.add.ensures.there wide)

pub returns-then-not-list-clause-kept : goal.returns-then-not-list-clause-kept
returns-then-not-list-clause-kept c =
    set_kept c.args.lists.now.items c.get-q.result c.add.new.list (omega arith) c.index_mut-list.result.now c.index_mut-list.ensures.value c.add.ensures.kept

pub returns-else-not-list-clause-there : goal.returns-else-not-list-clause-there
returns-else-not-list-clause-there c = λ wide.
    set_there c.args.lists.now.items c.get-q.result c.index_mut-list.result.now (omega arith) c.args.pe c.get-q.ensures.value wide c.args.cell
    (inl c.if-not-list.false)

pub returns-else-q-len-clause-there : goal.returns-else-q-len-clause-there
returns-else-q-len-clause-there c = λ wide list is.
    let value = c.get-q.ensures.value in
    let past : length c.args.lists.now.items ≤ c.args.pe = omega arith in
    absurd (none-some list (sym (slice_get_past c.args.lists.now.items c.args.pe past) ∙ is))
