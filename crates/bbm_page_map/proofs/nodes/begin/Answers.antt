use Rattle.std.proofs.Common.{◌≡◌, ℕ, List, ap, arith, ◌∙◌}
use Rattle.bbm_page_map.proofs.Leading.{first_tree}
use Rattle.bbm_page_map.specs.SlotNodes.{slot}
use Rattle.bbm_page_map.proofs.nodes.begin.Goals as goal

-- the same stands in each slot
same : (c : goal.After-add_slots) (i : ℕ) → slot c.add_slots.new.slots.items i ≡ slot c.args.slots.now.items i
same c i = c.add_slots.ensures.slots i ∙ ap (λ (items : List ℕ). slot items i) c.reserve.ensures.items

pub returns-in-Ok-clause-tree : goal.returns-in-Ok-clause-tree
returns-in-Ok-clause-tree c =
    first_tree c.args.slots.now.items c.add_slots.new.slots.items (omega arith)
    (omega (arith, c.add_slots.ensures.len, c.reserve.ensures.len)) (same c)

pub returns-in-Ok-clause-slots : goal.returns-in-Ok-clause-slots
returns-in-Ok-clause-slots c = same c
