-- What a TLBI of one page covers lies on the way down to the page.
use Rattle.bbm_replay.proofs.Common.{input_pages, lacks_vmid, names_all, Scope, Heading, View, IsWay, Translates, is_at}
use Rattle.bbm_replay.proofs.Common.{next_in, Laws, NamesOne, covers_kind, Told}
use Rattle.bbm_rules.proofs.Common.{◌≡◌, ℕ, zero, suc, ◌+◌, ◌*◌, ◌%◌, ◌<◌, ◌≤◌, ◌&&◌, nat_le, Bool, true, false, cond}
use Rattle.bbm_rules.proofs.Common.{List, [], ◌∷◌, Option, Some, None, is_none, not, refl, sym, ◌∙◌, ap, subst}
use Rattle.bbm_rules.proofs.Common.{true≢false, arith, and_right, and_left, and_from, proved, If, Is, Extent, meets}
use Rattle.bbm_rules.proofs.Common.{Kind, cover_by, cover_of, fits_place, names_some, has_page, PlaceView, Family}
use Rattle.bbm_rules.proofs.Common.{index_of, page_of, Event, Above, Node, region_start, and_parts, false_from_ne_true}
use Rattle.bbm_rules.proofs.Common.{holds, le-leb, leb-true, nat_tests}
use Rattle.std.proofs.Math.Nat.{mul-le-mul_right}
use Rattle.bbm_tlbi_scope.specs.Numbers.{hint_allows}
use Rattle.bbm_tlbi_scope.specs.declared.entry.Cover.TheVariants.{None as NoCover}
use Rattle.bbm_replay_trees.specs.Told.{core_at}
use Rattle.bbm_replay.proofs.Writing.{cores}

-- ---- what a TLBI of one page doesn't cover

unfit : (kind : Kind) (family : Family) → has_page family ≡ true → (s : Scope) (vmid : Option ℕ) (v : PlaceView)
    → cover_by kind family false s vmid v ≡ NoCover
unfit kind family p s vmid v = grind arith

unlike : (kind : Kind) (family : Family) → has_page family ≡ true → covers_kind family kind ≡ false → (b : Bool) (s : Scope)
    (vmid : Option ℕ) (v : PlaceView) → cover_by kind family b s vmid v ≡ NoCover
unlike kind family p k b s vmid v = grind arith

-- where the table of covers gives none, there is none
pub none_by : (s : Scope) (vmid : Option ℕ) (v : PlaceView)
    → cover_by v.kind s.family (fits_place s v) s vmid v ≡ NoCover → cover_of s vmid v ≡ NoCover
none_by s vmid v e = by (lacks_vmid s.vmid_scoped vmid)
  where
    by : (b : Bool) → cond b NoCover (cover_by v.kind s.family (fits_place s v) s vmid v) ≡ NoCover
    by true = refl
    by false = e

and_swap : (a b : Bool) → (a && b) ≡ false → (b && a) ≡ false
and_swap = proved 2 (λ a b. If (Is (a && b) false) (Is (b && a) false)) refl

-- the input page isn't one of the region
abbrev pub lies_in : ℕ → Extent → Bool
lies_in at r = nat_le r.lo at && nat_le at r.hi

names_no_page : (at : ℕ) (r : Extent) → lies_in at r ≡ false → meets (record { lo = at; hi = at }) r ≡ false
names_no_page at r k = and_swap (nat_le r.lo at) (nat_le at r.hi) k

-- a scope that names no page of a region doesn't name them all
not_all : (i : Option Extent) (r : Extent) → r.lo ≤ r.hi → names_some i r ≡ false → names_all i r ≡ false
not_all None r some k = refl
not_all (Some i) r some k = false_from_ne_true (holds i r) (λ e.
    let both = and_parts (nat_le i.lo r.lo) (nat_le r.hi i.hi) e in
    let low : i.lo ≤ r.lo = leb-true i.lo r.lo both.0 in
    let high : r.hi ≤ i.hi = leb-true r.hi i.hi both.1 in
    let is : meets i r ≡ true = and_from (nat_le i.lo r.hi) (nat_le r.lo i.hi) (le-leb i.lo r.hi (omega arith))
    (le-leb r.lo i.hi (omega arith)) in
    true≢false (sym is ∙ k))

-- a TLBI for pages covers no place of whose region it names none
pub unnamed : (s : Scope) → has_page s.family ≡ true → (vmid : Option ℕ) (v : PlaceView) → v.region.lo ≤ v.region.hi
    → names_some s.interval v.region ≡ false → cover_of s vmid v ≡ NoCover
unnamed s paged vmid v some none =
    none_by s vmid v (ap (λ b. cover_by v.kind s.family b s vmid v) (no_fit v.table v.childless) ∙ unfit v.kind s.family paged s vmid v)
  where
    either : (childless : Bool) → cond childless (names_some s.interval v.region) (names_all s.interval v.region) ≡ false
    either true = none
    either false = not_all s.interval v.region some none

    no_fit : (table childless : Bool)
        → cond table (not s.last_only && is_none s.level
        && cond childless (names_some s.interval v.region) (names_all s.interval v.region))
        (names_some s.interval v.region && hint_allows s.level v.level) ≡ false
    no_fit true childless =
        and_right (not s.last_only && is_none s.level)
        (cond childless (names_some s.interval v.region) (names_all s.interval v.region)) (either childless)
    no_fit false childless = and_left (names_some s.interval v.region) (hint_allows s.level v.level) none

-- a TLBI of one page covers no place whose region doesn't have the page, and none of a kind that its family doesn't cover
pub away : (s : Scope) (at : ℕ) → NamesOne s at → (vmid : Option ℕ) (v : PlaceView) → v.region.lo ≤ v.region.hi
    → lies_in at v.region ≡ false → cover_of s vmid v ≡ NoCover
away s at one vmid v some k = unnamed s one.family vmid v some
    (ap (λ (o : Option Extent). names_some o v.region) one.page ∙ names_no_page at v.region k)

pub foreign : (s : Scope) (at : ℕ) → NamesOne s at → (vmid : Option ℕ) (v : PlaceView) → covers_kind s.family v.kind ≡ false
    → cover_of s vmid v ≡ NoCover
foreign s at one vmid v k = none_by s vmid v (unlike v.kind s.family one.family k (fits_place s v) s vmid v)

-- ---- the way down to a place

wide : (l : ℕ) → suc l < 4 → 512 * input_pages (suc l) ≡ input_pages l
wide zero k = refl
wide (suc zero) k = refl
wide (suc (suc zero)) k = refl
wide (suc (suc (suc l))) k = absurd (omega arith)

pub index_small : (a : ℕ) → index_of a < 512
index_small a = omega arith

-- a part of a page lies in the page
pub part_inside : (base i width at : ℕ) → i < 512 → base + i * width ≤ at → at < base + i * width + width
    → (base ≤ at) × (at < base + 512 * width)
part_inside base i width at small from to =
    let most : (i + 1) * width ≤ 512 * width = mul-le-mul_right width (omega arith) in
    let split : (i + 1) * width ≡ i * width + width = suc_width i width in
    (omega arith, omega arith)
  where
    suc_width : (i width : ℕ) → (i + 1) * width ≡ i * width + width
    suc_width i width = grind arith

module _ {heading : Heading} (laws : Laws heading) {h : List Event} {v : View} (t : Told heading h v) (at a : ℕ) where
  -- a page of a root, from which the way goes down to the place
  pub record Top (m : Node) : Type 0 where
    pub page : ℕ
    pub start : Node
    pub is_start : v.node page ≡ Some start
    pub first : start.above ≡ []
    pub root : start.root ≡ m.root
    pub kind : start.kind ≡ m.kind
    pub way : List ℕ
    pub leads : IsWay v.node (core_at v) at page way a

  climb : (above : List Above) (p : ℕ) (m : Node) → v.node p ≡ Some m → m.above ≡ above → m.base ≤ at
      → at < m.base + 512 * input_pages m.level → (way : List ℕ) → IsWay v.node (core_at v) at p way a → Top m
  climb [] p m is none lo hi way leads = record {
    page = p;
    start = m;
    is_start = is;
    first = none;
    root = refl;
    kind = refl;
    way = way;
    leads = leads;
  }
  climb (x ∷ above) p m is up lo hi way leads =
      let hangs = laws.neighbours.up h v p m x above t.kept t.fit t.nodes (cores t) is up in
      let parent = hangs.parent in
      let place = x.place in
      let made = hangs.is_below in
      let own = laws.neighbours.own h v p m t.nodes is in
      let level : m.level ≡ suc parent.level = ap (λ (n : Node). n.level) made in
      let base : m.base ≡ region_start parent place = ap (λ (n : Node). n.base) made in
      let deep : suc parent.level < 4 = subst (λ l. l < 4) level own.1 in
      let width : 512 * input_pages m.level ≡ input_pages parent.level
      = ap (λ l. 512 * input_pages l) level ∙ wide parent.level deep in
      let from : region_start parent place ≤ at = subst (λ b. b ≤ at) base lo in
      let to : at < region_start parent place + input_pages parent.level
      = subst (λ w. at < region_start parent place + w) width (subst (λ b. at < b + 512 * input_pages m.level) base hi) in
      let inside = part_inside parent.base (index_of place) (input_pages parent.level) at (index_small place) from to in
      let here = laws.neighbours.own h v (page_of place) parent t.nodes hangs.is_parent in
      let step : Translates (page_of place) parent at place = record {
        inside = subst (λ q. is_at q place ≡ true) here.0 hangs.at;
        from = from;
        to = to;
      } in
      let table : next_in (core_at v parent.kind parent.level place) ≡ Some p = hangs.table ∙ ap (λ q. Some q) own.0 in
      let rest : parent.above ≡ above = tails (record { place = place; level = parent.level }) x parent.above above
      (sym (ap (λ (n : Node). n.above) made) ∙ up) in
      let top = climb above (page_of place) parent hangs.is_parent rest inside.0 inside.1 (place ∷ way)
      (parent, hangs.is_parent, step, p, table, leads) in
      record {
        page = top.page;
        start = top.start;
        is_start = top.is_start;
        first = top.first;
        root = top.root ∙ sym (ap (λ (n : Node). n.root) made);
        kind = top.kind ∙ sym (ap (λ (n : Node). n.kind) made);
        way = top.way;
        leads = top.leads;
      }
    where
      tails : (y z : Above) (ys zs : List Above) → y ∷ ys ≡ z ∷ zs → ys ≡ zs
      tails y z ys zs e = cc

  pub top : (n : Node) → v.node (page_of a) ≡ Some n → a % 8 ≡ 0 → region_start n a ≤ at
      → at < region_start n a + input_pages n.level → Top n
  top n is eighth from to =
      let inside = part_inside n.base (index_of a) (input_pages n.level) at (index_small a) from to in
      let own : is_at (page_of a) a ≡ true = grind (arith, nat_tests) in
      climb n.above (page_of a) n is refl inside.0 inside.1 [] (n, is, record { inside = own; from = from; to = to })
