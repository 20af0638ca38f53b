-- A TLBI of pages that names none of those that the places of a page translate covers none of these.
use Rattle.bbm_replay.proofs.Common.{node_in, input_pages, PlaceMap, TreeIndex, Roots, NamedTlbi, MayBeIssued}
use Rattle.bbm_replay.proofs.Common.{notes}
use Rattle.bbm_rules.proofs.Common.{◌≡◌, ℕ, ◌+◌, ◌-◌, ◌*◌, ◌/◌, ◌<◌, ◌≤◌, nat_le, true, false, List, Some, sym, ◌∙◌, ap}
use Rattle.bbm_rules.proofs.Common.{subst, arith, and_left, Extent, names_some, has_page, Patterns, cover_at, events_of}
use Rattle.bbm_rules.proofs.Common.{index_of, page_of, Heading, Event, Tlbi, TlbiOp, Node, region_of}
use Rattle.std.proofs.lemmas.Bool.{lt-leb}
use Rattle.bbm_tlbi_scope.specs.declared.entry.Cover.TheVariants.{None as NoCover}
use Rattle.bbm_replay.proofs.Descents.{index_small, part_inside, unnamed}
use Rattle.bbm_replay.proofs.Unmet.{cover_none, some_region, width_within}

module _ (named : Extent) (n : Node) (a : ℕ) where
  -- what a place translates lies in what its page does
  inside : (n.base ≤ (region_of n a).lo) × ((region_of n a).hi < n.base + 512 * input_pages n.level)
  inside =
      let w = (width_within n.level).0 in
      let part = part_inside n.base (index_of a) (input_pages n.level) (region_of n a).hi (index_small a)
      (omega (arith, w)) (omega (arith, w)) in
      (omega arith, part.1)

  pub names_above : n.base + 512 * input_pages n.level ≤ named.lo → names_some (Some named) (region_of n a) ≡ false
  names_above over =
      let high : (region_of n a).hi < n.base + 512 * input_pages n.level = inside.1 in
      and_left (nat_le named.lo (region_of n a).hi) (nat_le (region_of n a).lo named.hi)
      (lt-leb named.lo (region_of n a).hi (omega (arith, over, high)))

-- the first input page of a page's places and how many each translates, worked out from the path of one of them
module _ (n : Node) (a lo hi i : ℕ) (from : lo ≡ n.base + index_of a * input_pages n.level)
    (to : hi ≡ n.base + index_of a * input_pages n.level + input_pages n.level - 1) (number : i ≡ index_of a)
  where
    pub width_is : hi - lo + 1 ≡ input_pages n.level
    width_is = omega (arith, (width_within n.level).0)

    pub product_is : i * (hi - lo + 1) ≡ index_of a * input_pages n.level
    product_is = ap (λ (x : ℕ). x * (hi - lo + 1)) number ∙ ap (λ (x : ℕ). index_of a * x) width_is

    pub product_within : i * (hi - lo + 1) ≤ lo
    product_within = omega (arith, product_is)

    pub start_is : lo - i * (hi - lo + 1) ≡ n.base
    start_is = omega (arith, product_is)

    pub far : (at : ℕ) → lo - i * (hi - lo + 1) ≤ at → hi - lo + 1 ≤ (at - (lo - i * (hi - lo + 1))) / 512
        → n.base + 512 * input_pages n.level ≤ at
    far at above wide = omega (arith, start_is, width_is, above, wide)

pub place_unnamed : {heading : Heading} {h : List Event} (ev : events_of (notes heading h) ≡ h) {map : PlaceMap}
    {index : TreeIndex} {state : Roots} {pe : ℕ} {op : TlbiOp} {xt : ℕ} {named : NamedTlbi}
    → MayBeIssued heading h map index state pe op xt named → has_page named.scope.family ≡ true → (n : Node) (a : ℕ)
    → node_in index (page_of a) ≡ Some n → names_some named.scope.interval (region_of n a) ≡ false
    → cover_at heading Patterns (notes heading h) (Tlbi pe op xt) a ≡ NoCover
place_unnamed ev {named = named} m paged n a is none =
    cover_none ev m n a is (λ v own kind region. unnamed named.scope paged own v
    (subst (λ (x : Extent). x.lo ≤ x.hi) (sym region) (some_region n a))
    (ap (λ (x : Extent). names_some named.scope.interval x) region ∙ none))
