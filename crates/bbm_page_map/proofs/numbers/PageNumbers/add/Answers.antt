use Rattle.std.proofs.Common.{List, ◌≡◌, ℕ, ◌+◌, ◌*◌, ◌/◌, ◌%◌, ◌<◌, ◌∙◌, ap, arith, length, nat_eq, slice_get, subst, sym}
use Rattle.std.proofs.Common.{Some, if◌then◌else◌, [], ◌∷◌, inl, inr, length-append}
use Rattle.bbm_page_map.proofs.Finding.{fits_less, node_within}
use Rattle.bbm_page_map.proofs.Growing.{Grows, reads_alike, stays}
use Rattle.bbm_page_map.proofs.Leading.{leads_alike, leads_more, missing_page, page_fits}
use Rattle.bbm_page_map.proofs.Numbering.{found_kept, numberless}
use Rattle.bbm_page_map.specs.SlotNodes.{Fits, reached, slot}
use Rattle.bbm_page_map.specs.PageLists.{Leads}
use Rattle.bbm_page_map.proofs.numbers.PageNumbers.add.Goals as goal

pub invariant_of-self : goal.invariant_of-self
invariant_of-self c =
    let old = c.self.inside.slots.items in
    let new = c.reserve.new.slots.items in
    rw c.reserve.ensures.pages (record {
      leads =
          leads_alike old new c.self.inside.pages.items c.self.invariant.leads c.reserve.ensures.tree
          (λ number fits. reads_alike old new c.reserve.ensures.slots 5 number);
      few = c.self.invariant.few;
      node = c.self.invariant.node ∙ sym (reads_alike old new c.reserve.ensures.slots 4 c.self.inside.last.prefix);
      found = c.self.invariant.found;
    })

-- the number of a page has six digits
six : (p n : ℕ) → n ≡ p → p < 281474976710656 → Fits 5 (n / 4096)
six p n is low = page_fits n (omega (arith, is, low))

pub node_for-node-requires-clause-fits : goal.node_for-node-requires-clause-fits
node_for-node-requires-clause-fits c =
    fits_less 4 (c.get-number.result / 4096)
    (six c.args.page c.get-number.result c.get-number.ensures.value c.get-number.ensures.below)

pub put_number-requires : goal.put_number-requires
put_number-requires c =
    let n = c.get-number.result / 4096 in
    let fits : Fits 4 (n / 64) = fits_less 4 n
    (six c.args.page c.get-number.result c.get-number.ensures.value c.get-number.ensures.below) in
    let within =
    node_within c.node_for-node.new.slots.items c.node_for-node.ensures.tree
    (omega (arith, (c.in_ok-reserve.ensures.nodes).some, c.node_for-node.ensures.longer)) 4 (n / 64)
    c.node_for-node.result (omega arith) fits c.node_for-node.ensures.node in
    omega (arith, within)

-- the pages so far are found as before
leading : (c : goal.After-self-1) → Leads c.node_for-node.new.slots.items c.self.inside.pages.items
leading c =
    leads_alike c.self.inside.slots.items c.node_for-node.new.slots.items c.self.inside.pages.items
    c.self.invariant.leads c.node_for-node.ensures.tree
    (λ number fits. c.node_for-node.ensures.alike number fits
    ∙ reads_alike c.self.inside.slots.items c.reserve.new.slots.items c.reserve.ensures.slots 5 number)

absent : (c : goal.After-self-1) (k : ℕ) → slice_get c.self.inside.pages.items k ≡ Some c.args.page → ⊥
absent c = numberless c.self.inside.pages.items c.args.page (rw (← c.self.view_is) at c.requires)

-- the slot of a node for a last digit holds the value then, and the others what they held
abbrev Holds : List ℕ → List ℕ → ℕ → ℕ → ℕ → Type 0
Holds old new node digit value = (i : ℕ) → slot new i ≡ (if nat_eq i (64 * node + digit) then value else slot old i)

-- the page's slot was empty, and has the page's number now
growing : (c : goal.After-self-1)
    → Grows c.node_for-node.new.slots.items c.put_number.new.slots.items 4 (c.args.page / 4096)
    (length c.self.inside.pages.items + 1)
growing c =
    let p = c.args.page in
    let mid = c.node_for-node.new.slots.items in
    let new = c.put_number.new.slots.items in
    let is : c.get-number.result ≡ p = c.get-number.ensures.value in
    let kept : length c.reserve.new.pages.items ≡ length c.self.inside.pages.items = ap length c.reserve.ensures.pages in
    let count : c.len.result ≡ length c.self.inside.pages.items = omega (arith, c.len.ensures, kept) in
    let here : reached mid 4 (p / 4096 / 64) ≡ c.node_for-node.result =
    ap (λ (x : ℕ). reached mid 4 (x / 4096 / 64)) (sym is) ∙ c.node_for-node.ensures.node in
    let written : Holds mid new c.node_for-node.result (p / 4096 % 64) (length c.self.inside.pages.items + 1) =
    subst (λ (x : ℕ). Holds mid new c.node_for-node.result (x / 4096 % 64) (length c.self.inside.pages.items + 1)) is
    (subst (λ (v : ℕ). Holds mid new c.node_for-node.result (c.get-number.result / 4096 % 64) (v + 1)) count
    c.put_number.ensures.slots) in
    record {
      tree = c.node_for-node.ensures.tree;
      some = omega (arith, (c.in_ok-reserve.ensures.nodes).some, c.node_for-node.ensures.longer);
      depth = omega arith;
      fits = page_fits p c.get-number.ensures.below;
      node = omega (arith, here, c.node_for-node.ensures.some);
      free =
          missing_page mid c.self.inside.pages.items (leading c) p c.get-number.ensures.below
          c.get-number.ensures.aligned (absent c);
      written =
          subst (λ (k : ℕ). Holds mid new k (p / 4096 % 64) (length c.self.inside.pages.items + 1)) (sym here) written;
      fresh = λ small. absurd (omega (arith, small));
      longer = omega (arith, c.put_number.ensures.len);
      room = λ small. absurd (omega (arith, small));
      whole = omega (arith, c.put_number.ensures.len, c.node_for-node.ensures.tree.whole);
    }

pub invariant_of-self-2 : goal.invariant_of-self-2
invariant_of-self-2 c =
    let p = c.args.page in
    let pages = c.self.inside.pages.items in
    let mid = c.node_for-node.new.slots.items in
    let new = c.put_number.new.slots.items in
    let fits : Fits 4 (c.get-number.result / 4096 / 64) = fits_less 4 (c.get-number.result / 4096)
    (six p c.get-number.result c.get-number.ensures.value c.get-number.ensures.below) in
    let count : length c.reserve.new.pages.items ≡ length pages = ap length c.reserve.ensures.pages in
    rw (c.push_reserved.ensures.items, c.reserve.ensures.pages) (record {
      leads =
          leads_more mid new pages p (leading c) c.get-number.ensures.below c.get-number.ensures.aligned (absent c)
          (growing c);
      few = omega (arith, c.in_ok-reserve.ensures.few, count, length-append pages (p ∷ []));
      found = found_kept pages p (rw (← c.self.view_is) at c.requires) c.self.inside.recent c.self.invariant.found;
      node =
          sym
          (elim (stays mid new 4 (p / 4096) (length pages + 1) (growing c) 4 (c.get-number.result / 4096 / 64)
          (omega arith) fits) [
            | inl same ↦ same ∙ c.node_for-node.ensures.node
            | inr goes ↦ absurd (omega (arith, goes.0))
          ]);
    })
