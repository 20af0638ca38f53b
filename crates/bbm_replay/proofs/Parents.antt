-- The page above a page that hangs, and the pages of a root.
use Rattle.bbm_replay.proofs.Common.{Kind, Laws, Told, PlaceMap, TreeIndex, view_of}
use Rattle.bbm_rules.proofs.Common.{◌≡◌, ◌≤◌, ◌⊎◌, ◌+◌, ◌*◌, ◌∙◌, ℕ, true, false, List, ◌∷◌, Option, Some, is_some, sym}
use Rattle.bbm_rules.proofs.Common.{ap, subst, arith, inl}
use Rattle.bbm_rules.proofs.Common.{none-some, same_Some, and_parts, nat_tests, Above, Event, Heading, Node, page_count}
use Rattle.bbm_descriptor.specs.declared.desc.Core.{Core}
use Rattle.bbm_regimes.specs.World.{are_s2_pages, world_ok}
use Rattle.bbm_regimes.specs.declared.regime.Kind.TheVariants as kinds
use Rattle.bbm_regimes.specs.declared.regime.World.{World}
use Rattle.bbm_regimes.specs.declared.regime.World.TheVariants as world
use Rattle.bbm_replay_trees.specs.NodeLaws.{Starts}
use Rattle.bbm_replay_trees.specs.Told.{Hangs, core_at, next_in}
use Rattle.bbm_tree_index.specs.Index.{heading_of, node_in, role_in}
use Rattle.bbm_tree_index.specs.Leaving.{HangOr, LieAt}
use Rattle.bbm_tree_index.specs.Nodes.{node_with}
use Rattle.bbm_tree_index.specs.declared.role.Role.{Role}
use Rattle.bbm_tree_index.specs.declared.role.Role.TheVariants as role
use Rattle.bbm_replay.proofs.Unmet.{part_of}
use Rattle.bbm_replay.proofs.Writing.{cores}

few_joined : (start pages : ℕ) → are_s2_pages start pages ≡ true → pages ≤ 16
few_joined start pages ok = grind (arith, nat_tests)

few_pages : (w : World) (kind : Kind) → world_ok w ≡ true → page_count w kind ≤ 16
few_pages (world.Hyp w) kinds.S2 ok = few_joined w.s2_start w.s2_pages (and_parts _ _ ok).1
few_pages (world.Hyp w) _ ok = omega arith
few_pages (world.Kernel w) kind ok = omega arith

-- a node is that of its page
page_with : (roles : ℕ → Role) (heading : Heading) (p : ℕ) (r : Role) (m : Node) → node_with roles heading p r ≡ Some m
    → m.page ≡ p
page_with roles heading p (role.RootPage kind first part) m is = sym (ap (λ (x : Node). x.page) (same_Some _ m is))
page_with roles heading p (role.Hangs parent kind level base first) m is = sym (ap (λ (x : Node). x.page) (same_Some _ m is))
page_with roles heading p _ m is = absurd (none-some m is)

pub node_page : (index : TreeIndex) (p : ℕ) (m : Node) → node_in index p ≡ Some m → m.page ≡ p
unfolding node_in
node_page index p m is = page_with (role_in index) (heading_of index) p (role_in index p) m is

-- what is said of the kind and the level of the page above a page that hangs
pub by_parent : {node : ℕ → Option Node} {core : Kind → ℕ → ℕ → Option Core} {a : Above} {rest : List Above} {m : Node}
    (P : Kind → ℕ → Type 0) (up : Hangs node core a.place m) → m.above ≡ a ∷ rest → P up.parent.kind up.parent.level
    → P m.kind a.level
by_parent {node} {core} {a} {rest} {m} P up e here =
    let n = up.parent in
    let lists : a ∷ rest ≡ record { place = a.place; level = n.level } ∷ n.above
    = sym e ∙ ap (λ (x : Node). x.above) up.is_below in
    let first : a ≡ record { place = a.place; level = n.level } = cc in
    let level : a.level ≡ n.level = ap (λ (x : Above). x.level) first in
    let kind : m.kind ≡ n.kind = ap (λ (x : Node). x.kind) up.is_below in
    subst (λ (k : Kind). P k a.level) (sym kind) (subst (P n.kind) (sym level) here)

module _ {heading : Heading} (laws : Laws heading) {h : List Event} (map : PlaceMap) (index : TreeIndex)
    (t : Told heading h (view_of map index)) where
  -- each page that hangs is held
  pub hang_held : HangOr (node_in index) map (λ page. ⊥)
  hang_held page m a rest is e =
      let up = laws.neighbours.up h (view_of map index) page m a rest t.kept t.fit t.nodes (cores t) is e in
      by_parent (λ kind level. (next_in (core_at (view_of map index) kind level a.place) ≡ Some page)
      ⊎ ((is_some (core_at (view_of map index) kind level a.place) ≡ false) × ⊥)) up e
      (inl (up.table ∙ ap (λ (p : ℕ). Some p) (node_page index page m is)))

  -- the pages of a root lie side by side
  pub lie_at : Starts heading → (first : ℕ) → LieAt (node_in index) first
  lie_at starts first page m is top root =
      let r = starts h (view_of map index) page m t.nodes is top in
      let part = part_of heading r.0.kind r.0.page m.page r.4 in (
        part.0,
        omega (arith, part.1, few_pages heading.world r.0.kind (and_parts _ _ t.proper).1),
        sym (node_page index page m is) ∙ part.2 ∙ ap (λ (x : ℕ). x + 4096 * part.0) (sym r.2 ∙ root),
      )
