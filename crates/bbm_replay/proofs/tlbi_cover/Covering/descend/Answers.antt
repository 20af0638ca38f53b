use Rattle.bbm_replay.proofs.Common.{node_in, IsWay, core_at, is_at, path_at, Path, IsSettled}
use Rattle.bbm_rules.proofs.Common.{◌≡◌, ◌≤◌, ℕ, suc, true, Some, inl, inr, sym, ◌∙◌, subst, arith, page_of, Node}
use Rattle.bbm_rules.proofs.Common.{node_below, same_Some}
use Rattle.bbm_replay.proofs.Findings.{if_some, settled_more}
use Rattle.bbm_replay.proofs.Found.{low_path}
use Rattle.bbm_replay.proofs.Ways.{ahead, goes_on, may_hang, on_way, on_way_below, way_ends}
use Rattle.bbm_replay.proofs.tlbi_cover.Covering.descend.Goals as goal

pub loop-depth-init : goal.loop-depth-init
loop-depth-init c =
    let index = c.args.self.now.index.now in
    let page = c.in-Some.page in
    let met = c.place_translating-here.result in
    let e = c.place_translating-here.ensures in
    let inside = λ (m : ℕ × Path) (is : met ≡ Some m).
    if_some (λ (y : ℕ × Path). is_at page y.0 ≡ true) met m is e.inside in
    record {
      grows = (λ all. all, λ a has. has);
      on_way = λ m is.
          let n = if_some (λ (y : ℕ × Path). (n : Node) × (node_in index page ≡ Some n) × (y.1 ≡ path_at n y.0)) met
          m is e.path in
          let on = on_way (node_in index) c.args.input page n.0 n.1 met m is (inside m is) n.2 (λ a. e.met n.0 a n.1) in
          (on, low_path c.args.self.now.index.now m.0 m.1 (on.stands, on.is_node, on.has_path), omega arith);
      met = λ way a w.
          inr (ahead (node_in index) (core_at c.args.map.now) c.args.input page met inside e.met way a
          (subst (λ p. IsWay (node_in index) (core_at c.args.map.now) c.args.input p way a) (sym c.in-Some.ensures.value)
          w));
    }

pub add_met-requires-clause-tracked : goal.add_met-requires-clause-tracked
add_met-requires-clause-tracked c =
    let m = c.in-Some-here.met in
    let on = (c.loop-depth.invariant.on_way m c.in-Some-here.is).0 in
    c.requires.fits.tracked (page_of m.0) on.stands on.is_node

pub add_met-requires-clause-path : goal.add_met-requires-clause-path
add_met-requires-clause-path c =
    let on = (c.loop-depth.invariant.on_way c.in-Some-here.met c.in-Some-here.is).0 in
    (on.stands, on.is_node, on.has_path)

pub returns-in_default-2-clause-met : goal.returns-in_default-2-clause-met
returns-in_default-2-clause-met c page way a w =
    let index = c.args.self.now.index.now in
    let map = c.args.map.now in
    let m = c.in-Some-here.met in
    let on = (c.loop-depth.invariant.on_way m c.in-Some-here.is).0 in
    elim (c.loop-depth.invariant.met way a w) [
      | inl has ↦ settled_more map c.args.self.now c.loop-depth.found.items c.add_met.new.found.items
          c.in_ok-next.ensures.grows a has
      | inr more ↦ (let same : m ≡ more.0 = same_Some m more.0 (sym c.in-Some-here.is ∙ more.1) in
          let here : m.0 ≡ a = way_ends (node_in index) (core_at map) c.args.input m.0 m.1 on c.in_ok-next.field-0
          c.in_ok-next.ensures.next c.in_default-2.is more.2 a
          (subst (λ (y : ℕ × Path). IsWay (node_in index) (core_at map) c.args.input (page_of y.0) more.2 a) (sym same)
          more.3) in
          subst (IsSettled map c.args.self.now c.add_met.new.found.items) here c.in_ok-next.ensures.settled)
    ]

pub place_below-here-requires : goal.place_below-here-requires
place_below-here-requires c =
    let m = c.in-Some-here.met in
    let on = (c.loop-depth.invariant.on_way m c.in-Some-here.is).0 in
    may_hang c.args.map.now c.args.self.now.index.now c.requires.fits c.args.input m.0 m.1 on
    c.in_ok-next.field-0 c.in_ok-next.ensures.next c.in-Some-2.next c.in-Some-2.is

pub loop-depth-preserved : goal.loop-depth-preserved
loop-depth-preserved c =
    let map = c.args.map.now in
    let index = c.args.self.now.index.now in
    let v = c.loop-depth.invariant in
    let m = c.in-Some-here.met in
    let at = v.on_way m c.in-Some-here.is in
    let next = c.in_ok-next.field-0 in
    let goes = c.in_ok-next.ensures.next in
    let x = c.in-Some-2.next in
    let e = c.place_below-here.ensures in
    let below = c.place_below-here.result in
    let added = c.in_ok-next.ensures.grows in
    let inside = λ (y : ℕ × Path) (is : below ≡ Some y).
    if_some (λ (z : ℕ × Path). is_at x z.0 ≡ true) below y is e.inside in
    let low : m.1.level ≤ 2
    = (may_hang map index c.requires.fits c.args.input m.0 m.1 at.0 next goes x c.in-Some-2.is).low in
    record {
      grows = (λ all. added.0 (v.grows.0 all), λ a has. added.1 a (v.grows.1 a has));
      on_way = λ y is.
          let level : y.1.level ≡ suc m.1.level
          = if_some (λ (z : ℕ × Path). z.1.level ≡ suc m.1.level) below y is e.level in (
            on_way_below map index c.requires.fits c.args.input m.0 m.1 at.0 next goes x c.in-Some-2.is
                below y is (inside y is)
                (if_some (λ (z : ℕ × Path). (n : Node) (a : ℕ) → m.1 ≡ path_at n a
                → z.1 ≡ path_at (node_below n a x) z.0) below y is e.path) e.met,
            omega (arith, low, level),
            omega (arith, at.2, level),
          );
      met = λ way a w.
          elim (v.met way a w) [
            | inl has ↦ inl (settled_more map c.args.self.now c.loop-depth.found.items c.add_met.new.found.items added a
                has)
            | inr more ↦ (let same : m ≡ more.0 = same_Some m more.0 (sym c.in-Some-here.is ∙ more.1) in
                goes_on map index c.requires.fits c.args.input m.0 m.1 at.0 next goes x c.in-Some-2.is
                below inside e.met (IsSettled map c.args.self.now c.add_met.new.found.items)
                c.in_ok-next.ensures.settled more.2 a
                (subst (λ (y : ℕ × Path). IsWay (node_in index) (core_at map) c.args.input (page_of y.0) more.2 a)
                (sym same) more.3))
          ];
    }

pub returns-clause-met : goal.returns-clause-met
returns-clause-met c page way a w =
    elim (c.loop-depth.invariant.met way a w) [
      | inl has ↦ has
      | inr more ↦ (let at = c.loop-depth.invariant.on_way more.0 more.1 in absurd (omega (arith, at.1, at.2)))
    ]
