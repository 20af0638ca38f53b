use Rattle.bbm_tree_index.proofs.Common.{get, joined, Mark, Hangs}
use Rattle.bbm_rules.proofs.Common.{◌≡◌, ℕ, ◌==◌, Some, None, refl, ap, ◌∙◌, nat_eq, if◌then◌else◌, ◌+◌, ◌*◌, suc}
use Rattle.bbm_rules.proofs.Common.{add-one, false, rules, lookup, index_of, input_pages}
use Rattle.bbm_tree_index.proofs.Places.{number_below}
use Rattle.bbm_tree_index.proofs.Begun.{one_start, one_well}
use Rattle.bbm_tree_index.proofs.start.start_below.Goals as goal

pub returns : goal.returns
returns c =
    let next : c.unwrap.result ≡ c.args.spot.now.level + 1 = search rules in
    let level : c.unwrap.result ≡ suc c.args.spot.now.level = next ∙ add-one c.args.spot.now.level in
    let mark : Mark = record { role = Hangs c.args.place c.args.spot.now.kind c.unwrap.result c.start.result c.args.spot.now.first; many = false } in
    let is : mark.role ≡ Hangs c.args.place c.args.spot.now.kind (suc c.args.spot.now.level) (c.args.spot.now.base + index_of c.args.place * input_pages c.args.spot.now.level) c.args.spot.now.first
    = (λ i. Hangs c.args.place c.args.spot.now.kind (level i) (c.start.ensures i) c.args.spot.now.first) in
    let empty : (p : ℕ) → get nat_eq c.new-table.result p ≡ None = λ p. ap (λ es. lookup (nat_eq p) es) c.new-table.ensures.empty in
    let put : (q : ℕ) → get nat_eq c.add.new.table q ≡ (if q == c.args.next then Some mark else None) = λ q. c.in_ok-add.ensures.marks q
    ∙ (λ i. if q == c.args.next then Some (joined (empty c.args.next i) mark) else empty q i) in
    record {
      well = λ heading. one_well c.args.spot.now c.args.place c.args.next mark is refl (get nat_eq c.add.new.table) put heading c.requires.fits c.requires.low
          (number_below c.args.place) (c.add.ensures.below, c.add.ensures.aligned);
      start = λ heading n st. one_start c.args.spot.now c.args.place c.args.next mark is refl (get nat_eq c.add.new.table) put heading n st;
    }
