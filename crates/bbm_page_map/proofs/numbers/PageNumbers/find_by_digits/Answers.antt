use Rattle.std.proofs.Common.{◌≡◌, ◌/◌, ◌∙◌, ◌^◌, ap, ◌<◌, ◌*◌, ◌+◌, ◌%◌, arith, eqb-true, length, sym, vec_len}
use Rattle.bbm_page_map.proofs.Finding.{fits_less, further, none_reached, node_within, some_slots}
use Rattle.bbm_page_map.proofs.Leading.{number_small, number_told, page_fits}
use Rattle.bbm_page_map.specs.PageLists.{entry_of}
use Rattle.bbm_page_map.specs.SlotNodes.{reached, slot}
use Rattle.bbm_page_map.proofs.numbers.PageNumbers.find_by_digits.Goals as goal

pub returns-then-is_empty-clause-number : goal.returns-then-is_empty-clause-number
returns-then-is_empty-clause-number c =
    let s = c.self.inside.slots.items in
    rw (← c.self.view_is)
    (ap entry_of (sym (none_reached s (omega (arith, eqb-true (vec_len c.self.inside.slots) 0 (sym c.is_empty.ensures ∙ c.if-is_empty.true))) 4 (c.args.page / 4096)))
    ∙ number_told s c.self.inside.pages.items c.self.invariant.leads c.args.page c.get-number.ensures.below c.get-number.ensures.aligned)

pub node_of-node-requires-clause-fits : goal.node_of-node-requires-clause-fits
node_of-node-requires-clause-fits c =
    fits_less 4 (c.get-number.result / 4096)
    (page_fits c.get-number.result (omega (arith, c.get-number.ensures.value, c.get-number.ensures.below)))

-- there are some slots
some : (c : goal.After-deref-2) → 0 < length c.self.inside.slots.items
some c = omega (arith, some_slots (vec_len c.self.inside.slots) c.is_empty.result c.is_empty.ensures c.if-is_empty.false)

-- the node to which the digits before the last lead
node : (c : goal.After-deref-2) → c.node_of-node.result ≡ reached c.self.inside.slots.items 4 (c.get-number.result / 4096 / 64)
node c = c.node_of-node.ensures ∙ (λ j. reached (c.deref.ensures.value j) 4 (c.get-number.result / 4096 / 64))

pub step-requires : goal.step-requires
step-requires c =
    let s = c.self.inside.slots.items in
    let n = c.get-number.result / 4096 in
    let fits = fits_less 4 n
    (page_fits c.get-number.result (omega (arith, c.get-number.ensures.value, c.get-number.ensures.below))) in
    let within = node_within s c.self.invariant.leads.tree (some c) 4 (n / 64) c.node_of-node.result (omega arith) fits
    (sym (node c)) in
    omega (arith, within, c.deref-2.ensures.len)

-- what was found
found : (c : goal.After-step) → c.step.result ≡ reached c.self.inside.slots.items 5 (c.args.page / 4096)
found c =
    let s = c.self.inside.slots.items in
    let n = c.get-number.result / 4096 in
    sym (further s 4 n c.node_of-node.result c.step.result (sym (c.node_of-node.ensures
    ∙ (λ j. reached (c.deref.ensures.value j) 4 (n / 64))))
    (c.step.ensures ∙ (λ j. slot (c.deref-2.ensures.value j) (64 * c.node_of-node.result + n % 64))))
    ∙ (λ j. reached s 5 (c.get-number.ensures.value j / 4096))

pub of_slot-requires : goal.of_slot-requires
of_slot-requires c =
    omega (
      arith,
      found c,
      number_small c.self.inside.slots.items c.self.inside.pages.items c.self.invariant.leads
          c.args.page c.get-number.ensures.below c.get-number.ensures.aligned (2 ^ 22) c.self.invariant.few,
    )

pub returns-clause-number : goal.returns-clause-number
returns-clause-number c =
    let s = c.self.inside.slots.items in
    let n = c.get-number.result / 4096 in
    let here = c.node_of-node.ensures ∙ (λ j. reached (c.deref.ensures.value j) 4 (n / 64)) in
    let leads : c.step.result ≡ reached s 5 (c.args.page / 4096) =
    sym (further s 4 n c.node_of-node.result c.step.result (sym here)
    (c.step.ensures ∙ (λ j. slot (c.deref-2.ensures.value j) (64 * c.node_of-node.result + n % 64))))
    ∙ (λ j. reached s 5 (c.get-number.ensures.value j / 4096)) in
    rw (← c.self.view_is)
    (c.of_slot.ensures ∙ ap entry_of leads
    ∙ number_told s c.self.inside.pages.items c.self.invariant.leads c.args.page c.get-number.ensures.below
    c.get-number.ensures.aligned)
