-- What is asked of the places above a page, by its role and by its node.
use Rattle.bbm_tree_index.proofs.Common.{spot_as, Heading, Sound, hangs_at, cut_by, above_by, node_by, node_with}
use Rattle.bbm_tree_index.proofs.Common.{StandsAt, spot_with, Role, RootPage, Hangs, Spot}
use Rattle.bbm_rules.proofs.Common.{◌≡◌, ℕ, zero, suc, Bool, ◌||◌, [], Some, None, refl, sym, ap, ◌∙◌, subst, none-some}
use Rattle.bbm_rules.proofs.Common.{same_Some, Kind, any, page_of, Node}

above_root : (roles : ℕ → Role) (level : ℕ) (kind : Kind) (first part : ℕ) → above_by roles level (RootPage kind first part) ≡ []
above_root roles zero kind first part = refl
above_root roles (suc level) kind first part = refl

-- the places above a node are those above its page
pub above_node : (roles : ℕ → Role) (heading : Heading) (page : ℕ) (role : Role) (n : Node)
    → node_with roles heading page role ≡ Some n → n.above ≡ above_by roles n.level role
above_node roles heading page (RootPage kind first part) n e =
    sym (ap (λ m. m.above) (same_Some _ n e)) ∙ sym (above_root roles n.level kind first part)
above_node roles heading page (Hangs parent kind level base first) n e =
    subst (λ (m : Node). m.above ≡ above_by roles m.level (Hangs parent kind level base first)) (same_Some _ n e) refl
above_node roles heading page _ n e = absurd (none-some n e)

-- a spot is that of a node
pub stands : (s : Spot) (n : Node) → spot_as n ≡ s → StandsAt s n
stands s n e = record { kind = ap (λ t. t.kind) e; level = ap (λ t. t.level) e; base = ap (λ t. t.base) e; root = ap (λ t. t.first) e }

pub spot_node : (roles : ℕ → Role) (heading : Heading) (page : ℕ) (role : Role) (s : Spot) → spot_with heading role ≡ Some s
    → (n : Node) × (node_with roles heading page role ≡ Some n) × StandsAt s n
spot_node roles heading page (RootPage kind first part) s e = (_, refl, stands s _ (same_Some _ s e))
spot_node roles heading page (Hangs parent kind level base first) s e = (_, refl, stands s _ (same_Some _ s e))
spot_node roles heading page _ s e = absurd (none-some s e)

pub spot_none : (roles : ℕ → Role) (heading : Heading) (page : ℕ) (role : Role) → spot_with heading role ≡ None
    → node_with roles heading page role ≡ None
spot_none roles heading page (RootPage kind first part) e = cc
spot_none roles heading page (Hangs parent kind level base first) e = cc
spot_none roles heading page _ e = refl

module _ (test : Kind → ℕ → ℕ → Bool) (roles : ℕ → Role) (heading : Heading) (sound : Sound roles heading) where
  abbrev Cut : ℕ → Kind → Role → Type 0
  Cut level kind role = cut_by test roles level role ≡ any (λ a. test kind a.level a.place) (above_by roles level role)

  cut_zero : (kind : Kind) (page : ℕ) (role : Role) (n : Node) → node_with roles heading page role ≡ Some n → Cut 0 kind role
  cut_zero k page (RootPage kind first part) n e = refl
  cut_zero k page (Hangs parent kind level base first) n e = refl
  cut_zero k page _ n e = absurd (none-some n e)

  cut_suc : (left : ℕ) (page : ℕ) (role : Role) (n : Node) → roles page ≡ role → node_with roles heading page role ≡ Some n
      → ((p : ℕ) (m : Node) → node_by roles heading p ≡ Some m → Cut left m.kind (roles p)) → Cut (suc left) n.kind role
  cut_suc left page (RootPage kind first part) n r e ih = refl
  cut_suc left page (Hangs parent kind level base first) n r e ih =
      let found = hangs_at roles heading sound page parent level base first kind r in
      let above : Cut left kind (roles (page_of parent)) = subst (λ k. Cut left k (roles (page_of parent)))
      (sym found.2.same_kind) (ih (page_of parent) found.0 found.1) in
      subst (λ k. Cut (suc left) k (Hangs parent kind level base first)) (ap (λ m. m.kind) (same_Some _ n e))
      (ap (λ b. test kind left parent || b) above)
  cut_suc left page _ n r e ih = absurd (none-some n e)

  cut_any : (level : ℕ) (page : ℕ) (n : Node) → node_by roles heading page ≡ Some n → Cut level n.kind (roles page)
  cut_any zero page n e = cut_zero n.kind page (roles page) n e
  cut_any (suc left) page n e = cut_suc left page (roles page) n refl e (cut_any left)

  -- of a page that hangs
  pub cut_hang : (page parent level base first : ℕ) (kind : Kind) → roles page ≡ Hangs parent kind level base first
      → Cut level kind (Hangs parent kind level base first)
  cut_hang page parent level base first kind r = subst (Cut level kind) r (cut_any level page _ (ap (node_with roles heading page) r))
