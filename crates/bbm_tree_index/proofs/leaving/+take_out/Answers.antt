use Rattle.bbm_tree_index.proofs.Common.{PlaceMap, core_at, keys, next_in, roles_of}
use Rattle.bbm_rules.proofs.Common.{◌≡◌, ◌<◌, ◌+◌, ◌*◌, ◌%◌, ◌∙◌, ℕ, List, Option, ap, arith, inl}
use Rattle.bbm_rules.proofs.Common.{inr, page_of, refl, same_Some, subst, sym, Kind}
use Rattle.bbm_page_map.specs.PageLists.{number_in}
use Rattle.bbm_place_map.specs.Map.{IsPosition}
use Rattle.bbm_tree_index.specs.Leaving.{Goes, Start, has_left, hung_at}
use Rattle.bbm_tree_index.proofs.Departures.{all_emptied, blank_below, emptied_more, emptied_on, found_goes}
use Rattle.bbm_tree_index.proofs.Departures.{none_below, takes_last}
use Rattle.bbm_tree_index.proofs.Growing.{same_keys}
use Rattle.bbm_tree_index.proofs.Places.{at_page, number_at}
use Rattle.bbm_tree_index.proofs.leaving.+take_out.Goals as goal
use Rattle.bbm_tree_index.proofs.leaving.+take_out.Goals.{in-Some-hanging, in_default-hanging}

pub returns-in_default-level_below-clause-taken : goal.returns-in_default-level_below-clause-taken
returns-in_default-level_below-clause-taken t c = λ s d g.
    let e = c.let_go.ensures in
    takes_last s c.args.page c.args.level c.args.kind g (roles_of c.args.roles.now) (roles_of c.args.roles.now) c.args.map.now d
    (λ p k. k) (roles_of c.let_go.new.roles) c.let_go.new.map e.roles e.freed e.kept
    (elim (c.level_below.ensures.none c.in_default-level_below.is) [
      | inl deep ↦ none_below s c.args.page g.node g.at (omega (arith, deep, g.same_level)) (roles_of c.args.roles.now)
      | inr blank ↦ blank_below s (roles_of c.args.roles.now) c.args.map.now d c.args.page blank
    ])

pub hanging-requires-clause-position : goal.hanging-requires-clause-position
unfolding IsPosition
hanging-requires-clause-position t c =
    let place = c.place_of.result in
    ap (λ (ps : List ℕ). number_in ps (page_of place)) (c.loop-index.invariant.pages ∙ c.requires.same)
    ∙ ap (number_in (keys c.args.roles.now)) (at_page c.args.page place c.place_of.ensures.inside)
    ∙ sym c.number_of.ensures.number ∙ c.in-Some.is

-- the place with a number lies in the page, from which the place of number 0 has the page's address
module _ (page place index : ℕ) (first : place ≡ page + 8 * 0) (there : page_of place ≡ page) (low : index < 512) where
  inside : page_of (page + 8 * index) ≡ page
  inside =
      let aligned : page % 4096 ≡ 0 = omega (arith, there) in
      at_page page (page + 8 * index) (number_at page index aligned low)

  -- what is found there
  found_there : (roles : ℕ → _) (map : PlaceMap) (kind kind' : Kind) (level level' : ℕ) (o : Option ℕ) → kind ≡ kind' → level ≡ level'
      → o ≡ hung_at roles (place + 8 * index) (next_in (core_at map kind level (place + 8 * index)))
      → o ≡ hung_at roles (page + 8 * index) (next_in (core_at map kind' level' (page + 8 * index)))
  found_there roles map kind kind' level level' o k l is =
      let x : place ≡ page = omega (arith, first) in
      is ∙ (λ i. hung_at roles (x i + 8 * index) (next_in (core_at map (k i) (l i) (x i + 8 * index))))

pub take_out-requires : goal.take_out-requires
take_out-requires t c =
    let g = c.requires.goes in let inv = c.loop-index.invariant in
    let e = inv.emptied g.0 g.1 g.2 in let page = c.args.page in let index = c.loop-index.index in
    let there = at_page page c.place_of.result c.place_of.ensures.inside in
    let low : index < 512 = omega arith in
    let found = found_there page c.place_of.result index c.place_of.ensures.place there low (roles_of c.loop-index.roles) c.loop-index.map
    c.args.kind g.2.node.kind c.args.level g.2.node.level c.hanging.result g.2.same_kind g.2.same_level c.hanging.ensures in
    let level : c.in-Some-level_below.below ≡ g.2.node.level + 1
    = omega (arith, c.in-Some-level_below.ensures.deeper, g.2.same_level) in
    let goes = found_goes g.0 (roles_of c.loop-index.roles) c.loop-index.map e.departs page g.2.node g.2.at (page + 8 * index)
    (inside page c.place_of.result index c.place_of.ensures.place there low) c.in-Some-hanging.next c.in-Some-level_below.below g.2.leaves
    (sym found ∙ c.in-Some-hanging.is) level in (
      omega (arith, c.in-Some-level_below.ensures.deeper, c.in-Some-level_below.ensures.low refl),
      (
        inv.pages ∙ c.requires.same ∙ sym inv.same.keys,
        (
          g.0,
          e.departs,
          subst (λ (k : Kind). Goes g.0 c.in-Some-hanging.next k c.in-Some-level_below.below) (sym g.2.same_kind) goes,
        ),
      ),
    )

pub loop-index-preserved : goal.loop-index-preserved
loop-index-preserved t c =
    let inv = c.loop-index.invariant in let page = c.args.page in let index = c.loop-index.index in
    let place = c.place_of.result in let first = c.place_of.ensures.place in
    let there = at_page page place c.place_of.ensures.inside in
    let low : index < 512 = omega arith in
    let here = inside page place index first there low in
    let found = λ (s : Start) (g : Goes s c.args.page c.args.kind c.args.level).
    found_there page place index first there low (roles_of c.loop-index.roles) c.loop-index.map
    c.args.kind g.node.kind c.args.level g.node.level c.hanging.result g.same_kind g.same_level c.hanging.ensures in
    elim c.match-hanging.branch [
      | in-Some-hanging w ↦
          let e = w.take_out.ensures in
          rw (w.roles-is, w.map-is) (record {
            same = same_keys e.same inv.same;
            pages = e.pages ∙ inv.pages;
            lost = e.lost ∙ inv.lost;
            emptied = λ s d g.
                let before = inv.emptied s d g in
                let level : c.in-Some-level_below.below ≡ g.node.level + 1
                = omega (arith, c.in-Some-level_below.ensures.deeper, g.same_level) in
                let goes = found_goes s (roles_of c.loop-index.roles) c.loop-index.map before.departs page g.node g.at (page + 8 * index)
                here w.in-Some-hanging.next c.in-Some-level_below.below g.leaves (sym (found s g) ∙ w.in-Some-hanging.is) level in
                let taken = e.taken s before.departs
                (subst (λ (k : Kind). Goes s w.in-Some-hanging.next k c.in-Some-level_below.below) (sym g.same_kind) goes) in
                emptied_more before g.node g.at here c.hanging.result (found s g) (roles_of w.take_out.new.roles) w.take_out.new.map
                taken.0.departs taken.0.kept
                (λ p is. ap (has_left s (roles_of w.take_out.new.roles))
                (same_Some p w.in-Some-hanging.next (sym is ∙ w.in-Some-hanging.is)) ∙ taken.1);
          })
      | in_default-hanging w ↦
          rw (w.roles-is, w.map-is) (record {
            same = inv.same;
            pages = inv.pages;
            lost = inv.lost;
            emptied = λ s d g. emptied_on (inv.emptied s d g) g.node g.at here c.hanging.result (found s g) w.in_default-hanging.is;
          })
    ]

pub returns-clause-taken : goal.returns-clause-taken
returns-clause-taken t c = λ s d g.
    let before = c.loop-index.invariant.emptied s d g in let e = c.let_go-2.ensures in
    takes_last s c.args.page c.args.level c.args.kind g (roles_of c.args.roles.now) (roles_of c.loop-index.roles) c.loop-index.map
    before.departs before.kept (roles_of c.let_go-2.new.roles) c.let_go-2.new.map e.roles e.freed e.kept
    (all_emptied before (omega (arith, c.loop-index-test.false)))
