use Rattle.bbm_place_map.proofs.Common.{arith, inl, sym, ◌∙◌, length, ◌≤◌, slice_get_past, none-some, either}
use Rattle.bbm_place_map.proofs.Holding.{set_there, set_others, read_for}
use Rattle.bbm_place_map.proofs.visit.visit_for.Goals as goal

pub visit_by-requires-clause-known : goal.visit_by-requires-clause-known
visit_by-requires-clause-known c = λ wide j.
    either (c.requires.known wide j)
    (read_for c.args.lists.now.items c.get-q.result c.args.barrier.now.issuer c.index_mut.result.now (omega arith) c.get-q.ensures.value
    c.index_mut.ensures.value wide j) (λ known. known)

pub returns-then-q-len-clause-known : goal.returns-then-q-len-clause-known
returns-then-q-len-clause-known c = λ wide j.
    either (c.visit_by.ensures.known wide j)
    (set_there c.args.lists.now.items c.get-q.result c.visit_by.new.list (omega arith) c.args.barrier.now.issuer c.get-q.ensures.value wide j)
    (λ known. known)

pub returns-then-q-len-clause-kept_lists : goal.returns-then-q-len-clause-kept_lists
returns-then-q-len-clause-kept_lists c = λ wide q j other.
    set_others c.args.lists.now.items c.get-q.result c.visit_by.new.list (omega arith) wide q (λ same. other (same ∙ c.get-q.ensures.value)) j

pub returns-else-q-len-clause-known : goal.returns-else-q-len-clause-known
returns-else-q-len-clause-known c = λ wide j. inl (λ list is.
    let value = c.get-q.ensures.value in
    let past : length c.args.lists.now.items ≤ c.args.barrier.now.issuer = omega arith in
    absurd (none-some list (sym (slice_get_past c.args.lists.now.items c.args.barrier.now.issuer past) ∙ is)))
