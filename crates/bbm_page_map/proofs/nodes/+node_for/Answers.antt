use Rattle.std.proofs.Common.{◌≡◌, ℕ, ◌+◌, ◌-◌, ◌*◌, ◌/◌, ◌%◌, ◌<◌, length, arith, sym, subst, ap, ◌∙◌, List, get_or}
use Rattle.std.proofs.Common.{nat_eq, if◌then◌else◌}
use Rattle.std.proofs.lemmas.List.{get_or_default}
use Rattle.bbm_page_map.specs.SlotNodes.{Fits, reached, slot}
use Rattle.bbm_page_map.proofs.Finding.{first, fits_first, fits_up, further, node_within, step_more}
use Rattle.bbm_page_map.proofs.Growing.{Grows, alike, grown, hit}
use Rattle.bbm_page_map.proofs.nodes.+node_for.Goals as goal

pub overflow_cast-result : goal.overflow_cast-result
overflow_cast-result t c =
    omega (
      arith,
      fits_first c.args.prefix
          (subst (λ (d : ℕ). Fits d c.args.prefix) c.if-depth-eq0.true c.requires.fits),
    )

pub overflow_add-result : goal.overflow_add-result
overflow_add-result t c =
    omega (
      arith,
      fits_first c.args.prefix
          (subst (λ (d : ℕ). Fits d c.args.prefix) c.if-depth-eq0.true c.requires.fits),
    )

pub returns-then-depth-eq0-clause-node : goal.returns-then-depth-eq0-clause-node
returns-then-depth-eq0-clause-node t c =
    ap (λ (d : ℕ). reached c.args.slots.now.items d c.args.prefix) c.if-depth-eq0.true
    ∙ first c.args.slots.now.items c.args.prefix

pub node_for-above-requires : goal.node_for-above-requires
node_for-above-requires t c =
    let below : c.args.depth ≡ t = c.decreases in (
      omega arith,
      (
        c.requires.tree,
        (
          c.requires.some,
          (
            omega arith,
            (fits_up c.args.depth c.args.prefix (omega arith) c.requires.fits, (omega arith, omega arith)),
          ),
        ),
      ),
    )

pub index-node-requires : goal.index-node-requires
index-node-requires t c =
    omega (
      arith,
      node_within c.node_for-above.new.slots.items c.node_for-above.ensures.tree (omega arith) (c.args.depth - 1)
          (c.args.prefix / 64) c.node_for-above.result
          (omega arith) (fits_up c.args.depth c.args.prefix (omega arith) c.requires.fits)
          c.node_for-above.ensures.node,
    )

-- what the slot holds
holds : (items : List ℕ) (at x : ℕ) → at < length items → x ≡ get_or items at x → x ≡ slot items at
holds items at x within is = is ∙ get_or_default items at x 0 within

pub returns-then-node-ne0-clause-node : goal.returns-then-node-ne0-clause-node
returns-then-node-ne0-clause-node t c =
    let items = c.node_for-above.new.slots.items in
    let above = c.node_for-above.result in
    let within : 64 * above + c.args.prefix % 64 < length items =
    omega (
      arith,
      node_within items c.node_for-above.ensures.tree (omega arith) (c.args.depth - 1) (c.args.prefix / 64) above
          (omega arith)
          (fits_up c.args.depth c.args.prefix (omega arith) c.requires.fits) c.node_for-above.ensures.node,
    ) in
    step_more items c.args.depth c.args.prefix above c.index-node.result.now (omega arith) c.node_for-above.ensures.node
    (holds items (64 * above + c.args.prefix % 64) c.index-node.result.now within c.index-node.ensures)

pub add_node-requires-clause-within : goal.add_node-requires-clause-within
add_node-requires-clause-within t c =
    omega (
      arith,
      node_within c.node_for-above.new.slots.items c.node_for-above.ensures.tree (omega arith) (c.args.depth - 1)
          (c.args.prefix / 64) c.node_for-above.result
          (omega arith) (fits_up c.args.depth c.args.prefix (omega arith) c.requires.fits)
          c.node_for-above.ensures.node,
    )

-- the slot was empty, and leads to a further node now
growing : (t : ℕ) (c : goal.After-add_node t)
    → Grows c.node_for-above.new.slots.items c.add_node.new.slots.items (c.args.depth - 1) c.args.prefix
    c.add_node.result
growing t c =
    let old = c.node_for-above.new.slots.items in
    let new = c.add_node.new.slots.items in
    let above = c.node_for-above.result in
    let n = c.args.prefix in
    let fits = fits_up c.args.depth n (omega arith) c.requires.fits in
    let within : 64 * above + n % 64 < length old =
    omega (
      arith,
      node_within old c.node_for-above.ensures.tree (omega arith) (c.args.depth - 1) (n / 64) above (omega arith) fits
          c.node_for-above.ensures.node,
    ) in
    record {
      tree = c.node_for-above.ensures.tree;
      some = omega arith;
      depth = omega arith;
      fits = subst (λ (k : ℕ). Fits k n) (omega arith) c.requires.fits;
      node = omega (arith, c.node_for-above.ensures.node, c.node_for-above.ensures.some);
      free =
          further old (c.args.depth - 1) n above c.index-node.result.now c.node_for-above.ensures.node
          (holds old (64 * above + n % 64) c.index-node.result.now within c.index-node.ensures)
          ∙ c.if-node-ne0.false;
      written =
          subst (λ (k : ℕ). (i : ℕ) → slot new
          i ≡ (if nat_eq i (64 * k + n % 64) then c.add_node.result else slot old i))
          (sym c.node_for-above.ensures.node) c.add_node.ensures.slots;
      fresh = λ small. omega (arith, c.add_node.ensures.number);
      longer = omega arith;
      room = λ small. omega arith;
      whole = omega (arith, c.node_for-above.ensures.tree.whole, c.add_node.ensures.len);
    }

pub returns-clause-node : goal.returns-clause-node
returns-clause-node t c =
    let d = c.args.depth - 1 in
    ap (λ (k : ℕ). reached c.add_node.new.slots.items k c.args.prefix) (omega arith)
    ∙ hit c.node_for-above.new.slots.items c.add_node.new.slots.items d c.args.prefix c.add_node.result (growing t c)

pub returns-clause-tree : goal.returns-clause-tree
returns-clause-tree t c =
    grown c.node_for-above.new.slots.items c.add_node.new.slots.items (c.args.depth - 1) c.args.prefix
    c.add_node.result (growing t c)

pub returns-clause-alike : goal.returns-clause-alike
returns-clause-alike t c = λ number fits.
    alike c.node_for-above.new.slots.items c.add_node.new.slots.items (c.args.depth - 1) c.args.prefix
    c.add_node.result (growing t c)
    (omega arith) number fits
    ∙ c.node_for-above.ensures.alike number fits
