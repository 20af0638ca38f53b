-- Nodes and soundness after pages left, where with a page each page that hangs on it leaves.
use Rattle.bbm_tree_index.proofs.Common.{Heading, Sound, above_by, node_by, node_with, Role, Hangs, Gone}
use Rattle.bbm_rules.proofs.Common.{arith, ◌≡◌, ℕ, Bool, true, false, List, ◌∷◌, Some, None, refl, sym, ap, ◌∙◌, subst}
use Rattle.bbm_rules.proofs.Common.{true≢false, if◌then◌else◌, Kind, page_of, Above, Node, node_below}
use Rattle.bbm_rules.proofs.Common.{false_from_ne_true}
use Rattle.std.specs.Option.{IsSomeAnd}
use Rattle.bbm_tree_index.specs.SoundRoles.{Below}
use Rattle.bbm_tree_index.proofs.Climbing.{node_kept, tree_part}
use Rattle.bbm_tree_index.proofs.Cutting.{above_node}

-- the node of a page that hangs at a place is the one below the node of that place
pub node_hang : (roles : ℕ → Role) (heading : Heading) (page parent level base first : ℕ) (kind : Kind) (n : Node)
    → roles page ≡ Hangs parent kind level base first → node_by roles heading (page_of parent) ≡ Some n
    → Below parent kind level base first n → node_by roles heading page ≡ Some (node_below n parent page)
node_hang roles heading page parent level base first kind n r at b =
    let above : above_by roles level (Hangs parent kind level base first) ≡ record { place = parent; level = n.level } ∷ n.above
    = ap (λ l. above_by roles l (Hangs parent kind level base first)) b.deeper
    ∙ ap (λ (rest : List Above). record { place = parent; level = n.level } ∷ rest)
    (sym (above_node roles heading (page_of parent) (roles (page_of parent)) n at)) in
    ap (node_with roles heading page) r ∙ (λ i. Some (record {
      page = page;
      kind = b.same_kind i;
      level = b.deeper i;
      root = b.same_root i;
      base = b.start i;
      above = above i;
    }))

module _ (roles roles' : ℕ → Role) (heading : Heading) (sound : Sound roles heading) (leaves : ℕ → Bool)
    (swept : (p : ℕ) → roles' p ≡ (if leaves p then Gone else roles p))
    (closed : (p parent level base first : ℕ) (kind : Kind) → roles p ≡ Hangs parent kind level base first
    → leaves (page_of parent) ≡ true → leaves p ≡ true) where
  stay : (p : ℕ) → leaves p ≡ false → roles' p ≡ roles p
  stay p e = swept p ∙ ap (λ b. if b then Gone else roles p) e

  parent_stays : (p parent level base first : ℕ) (kind : Kind) → roles p ≡ Hangs parent kind level base first
      → leaves p ≡ false → leaves (page_of parent) ≡ false
  parent_stays p parent level base first kind r e =
      false_from_ne_true (leaves (page_of parent)) (λ t. true≢false (sym (closed p parent level base first kind r t) ∙ e))

  pub node_swept : (p : ℕ) → node_by roles' heading p ≡ (if leaves p then None else node_by roles heading p)
  node_swept p = by (leaves p) refl
    where
      by : (b : Bool) → leaves p ≡ b → node_by roles' heading p ≡ (if b then None else node_by roles heading p)
      by true e = ap (node_with roles' heading p) (swept p ∙ ap (λ b. if b then Gone else roles p) e)
      by false e = node_kept roles roles' (λ q. leaves q ≡ false) (λ q k. ap tree_part (stay q k)) parent_stays heading p e

  -- a page that is still there stayed
  node_stays : (p : ℕ) (n : Node) → node_by roles' heading p ≡ Some n → node_by roles heading p ≡ Some n
  node_stays p n e = grind (arith, node_swept p)

  role_stays : (p parent level base first : ℕ) (kind : Kind) → roles' p ≡ Hangs parent kind level base first
      → (leaves p ≡ false) × (roles p ≡ Hangs parent kind level base first)
  role_stays p parent level base first kind e = grind (arith, swept p)

  pub sound_swept : Sound roles' heading
  sound_swept = record {
    hangs = λ p parent level base first kind e.
        let was = role_stays p parent level base first kind e in
        let out = parent_stays p parent level base first kind was.1 was.0 in
        subst (λ o. IsSomeAnd o (Below parent kind level base first))
        (sym (node_swept (page_of parent) ∙ ap (λ b. if b then None else node_by roles heading (page_of parent)) out))
        (sound.hangs p parent level base first kind was.1);
    shallow = λ p n e. sound.shallow p n (node_stays p n e);
    within = λ p n e. sound.within p n (node_stays p n e);
  }
