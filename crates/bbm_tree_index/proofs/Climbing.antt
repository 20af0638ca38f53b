-- Nodes depend on the roles of the pages of trees alone.
use Rattle.bbm_tree_index.proofs.Common.{Heading, above_by, is_fresh_role, node_by, node_with, Role, RootPage, Hangs}
use Rattle.bbm_tree_index.proofs.Common.{Gone}
use Rattle.bbm_rules.proofs.Common.{◌≡◌, ℕ, zero, suc, List, ◌∷◌, Some, None, refl, sym, ap, ◌∙◌, true, Kind, page_of}
use Rattle.bbm_rules.proofs.Common.{Above, Bool, ◌||◌}
use Rattle.bbm_tree_index.specs.Climbs.{cut_by}

-- the role where the page is in a tree
abbrev pub tree_part : Role → Role
tree_part (RootPage kind first part) = RootPage kind first part
tree_part (Hangs parent kind level base first) = Hangs parent kind level base first
tree_part _ = Gone

-- the same pages are in trees, at the same places
abbrev pub SameTrees : (ℕ → Role) → (ℕ → Role) → Type 0
SameTrees roles roles' = (p : ℕ) → tree_part (roles' p) ≡ tree_part (roles p)

above_part : (roles : ℕ → Role) (level : ℕ) (role : Role) → above_by roles level role ≡ above_by roles level (tree_part role)
above_part roles zero role = refl
above_part roles (suc level) (Hangs parent kind deep base first) = refl
above_part roles (suc level) _ = refl

-- a node depends on its page's role, and on the places above that alone
node_above : (roles roles' : ℕ → Role) (heading : Heading) (page : ℕ) (role : Role)
    → ((level : ℕ) → above_by roles' level role ≡ above_by roles level role)
    → node_with roles' heading page role ≡ node_with roles heading page role
node_above roles roles' heading page (Hangs parent kind level base first) above =
    ap (λ (all : List Above). Some (record {
      page = page;
      kind = kind;
      level = level;
      root = first;
      base = base;
      above = all;
    })) (above level)
node_above roles roles' heading page _ above = refl

node_part : (roles : ℕ → Role) (heading : Heading) (page : ℕ) (role : Role)
    → node_with roles heading page role ≡ node_with roles heading page (tree_part role)
node_part roles heading page (Hangs parent kind level base first) = refl
node_part roles heading page _ = refl

-- pages that are in trees at the same places, with the pages at whose places they hang, have the same nodes
module _ (roles roles' : ℕ → Role) (Kept : ℕ → Type 0) (same : (p : ℕ) → Kept p → tree_part (roles' p) ≡ tree_part (roles p))
    (parent_kept : (p parent level base first : ℕ) (kind : Kind) → roles p ≡ Hangs parent kind level base first → Kept p
    → Kept (page_of parent)) where
  above_same : (level p : ℕ) (role : Role) → roles p ≡ role → Kept p → above_by roles' level role ≡ above_by roles level role
  above_same (suc level) p (Hangs parent kind deep base first) r k =
      let q = page_of parent in let k' = parent_kept p parent deep base first kind r k in
      ap (λ (rest : List Above). record { place = parent; level = level } ∷ rest)
      (above_part roles' level (roles' q) ∙ ap (above_by roles' level) (same q k') ∙ sym (above_part roles' level (roles q))
      ∙ above_same level q (roles q) refl k')
  above_same _ p _ r k = refl

  pub node_kept : (heading : Heading) (p : ℕ) → Kept p → node_by roles' heading p ≡ node_by roles heading p
  node_kept heading p k = node_part roles' heading p (roles' p) ∙ ap (node_with roles' heading p) (same p k)
      ∙ sym (node_part roles' heading p (roles p))
      ∙ node_above roles roles' heading p (roles p) (λ level. above_same level p (roles p) refl k)

pub node_same : (roles roles' : ℕ → Role) → SameTrees roles roles' → (heading : Heading) (p : ℕ)
    → node_by roles' heading p ≡ node_by roles heading p
node_same roles roles' same heading p =
    node_kept roles roles' (λ q. Unit {0}) (λ q k. same q) (λ q parent level base first kind r k. tt) heading p tt

-- only a hanging page has the part of one
pub hangs_part : (role : Role) (parent level base first : ℕ) (kind : Kind) → tree_part role ≡ Hangs parent kind level base first
    → role ≡ Hangs parent kind level base first
hangs_part (RootPage kind' first' part) parent level base first kind e = e
hangs_part (Hangs p k l b f) parent level base first kind e = e
hangs_part _ parent level base first kind e = cc

-- a fresh page is in no tree
pub fresh_part : (role : Role) → is_fresh_role role ≡ true → tree_part role ≡ Gone
fresh_part (RootPage kind first part) e = cc
fresh_part (Hangs parent kind level base first) e = cc
fresh_part _ e = refl

pub out_part : (roles : ℕ → Role) (heading : Heading) (page : ℕ) (role : Role) → node_with roles heading page role ≡ None
    → tree_part role ≡ Gone
out_part roles heading page (RootPage kind first part) e = cc
out_part roles heading page (Hangs parent kind level base first) e = cc
out_part roles heading page _ e = refl

-- what is asked of a page that hangs at a place, by that place and the page above
pub cut_hangs : (test : Kind → ℕ → ℕ → Bool) (roles : ℕ → Role) (left level : ℕ) (role : Role) (parent deep base first : ℕ)
    (kind : Kind) → left ≡ suc level → role ≡ Hangs parent kind deep base first
    → cut_by test roles left role ≡ (test kind level parent || cut_by test roles level (roles (page_of parent)))
cut_hangs test roles left level role parent deep base first kind one is =
    (λ j. cut_by test roles (one j) (is j))
