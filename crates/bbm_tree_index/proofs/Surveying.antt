-- What a survey tells, where pages can be attached.
use Rattle.bbm_tree_index.proofs.Common.{IndexMap, get, PlaceMap, Hung, Fits, spot_with, Counts, Found, Reached}
use Rattle.bbm_tree_index.proofs.Common.{role_as, spot_as, Mark, TreeIndex, Attach, Role, Untracked, is_fresh_role}
use Rattle.bbm_tree_index.proofs.Common.{starts_of, value_at}
use Rattle.bbm_rules.proofs.Common.{◌≡◌, ℕ, ◌<◌, ◌⊎◌, true, List, Option, Some, None, is_some, length, nat_eq}
use Rattle.bbm_rules.proofs.Common.{slice_get, unwrap_or, inl, inr, refl, sym, ap, ◌∙◌, subst, arith, none-some, Node}
use Rattle.bbm_tree_index.specs.Index.{fresh_in, heading_of, role_in}
use Rattle.bbm_tree_index.proofs.Levels.{Listed, listed, told_node}
use Rattle.bbm_tree_index.proofs.Reaching.{Reach, Ready, path_to, reach_fresh, reach_unique}
use Rattle.bbm_tree_index.proofs.Starts.{plain}

fresh_known : (o : Option Role) → is_fresh_role (unwrap_or o Untracked) ≡ true → is_some o ≡ true
fresh_known None e = e
fresh_known (Some role) e = refl

module _ {S : Type 0} {tables : List (IndexMap ℕ Mark S)} {index : TreeIndex} {map : PlaceMap} {at : Attach}
    (ready : Ready tables index map at) where
  abbrev pub Has : ℕ → Node → Type 0
  Has = Reached (fresh_in index) (value_at map) (starts_of index at)

  pub levels : (k : ℕ) (table : IndexMap ℕ Mark S) → slice_get tables k ≡ Some table → (q : ℕ) → Counts (Has k) q (get nat_eq table q)
  levels = ready.survey.surveyed.levels (starts_of index at) ready.survey.starting

  -- the table in which the page of a reached node stands
  pub below : (m : Node) (r : Reach index map at m) → r.0 < length tables
  below m r = omega (arith, (path_to ready m r).within, ready.survey.count r.1.start r.1.is_start, r.1.count)

  pub in_table : (m : Node) (r : Reach index map at m) → Listed tables Has levels r.0 m.page
  in_table m r = listed tables Has levels r.0 m.page m (below m r) r.1 refl

  pub reach_plain : (m : Node) → Reach index map at m → spot_with (heading_of index) (role_as m m.above) ≡ Some (spot_as m)
  reach_plain m r = plain (fresh_in index) (value_at map) (heading_of index) ready.survey.first (starts_of index at)
      ready.survey.starting r.0 m r.1

  pub reach_fits : (m : Node) → Reach index map at m → Fits (spot_as m)
  reach_fits m r = let t = in_table m r in
      let same : t.found.node ≡ m = reach_unique ready t.found.node m (r.0, t.found.is_there) r t.found.at in
      (ready.survey.surveyed.wells r.0 t.table t.at).fit m.page t.mark t.has (spot_as m) (ap (spot_with (heading_of index)) t.found.role
      ∙ ap (λ (x : Node). spot_with (heading_of index) (role_as x x.above)) same ∙ reach_plain m r)

  -- each page of a table is known
  pub tables_known : (k p : ℕ) (table : IndexMap ℕ Mark S) → slice_get tables k ≡ Some table → is_some (get nat_eq table p) ≡ true
      → is_some (get nat_eq index.roles p) ≡ true
  unfolding fresh_in role_in
  tables_known k p table is has = let f = (told_node tables Has levels k p table is has).2 in
      fresh_known (get nat_eq index.roles p) (ap (fresh_in index) (sym f.at) ∙ reach_fresh ready f.node (k, f.is_there))

  -- a page that is reached has the role of its node, another one keeps its role
  abbrev pub IsHung : (ℕ → Role) → ℕ → Type 0
  IsHung roles p = (m : Node) × Reach index map at m × (m.page ≡ p) × (roles p ≡ role_as m m.above)

  abbrev pub Stays : (ℕ → Role) → ℕ → Type 0
  Stays roles p = (roles p ≡ role_in index p) × ((m : Node) → Reach index map at m → m.page ≡ p → ⊥)

  pub all_hung : (table : ℕ → Option Role) (p : ℕ) → Hung tables (length tables) p (get nat_eq index.roles p) (table p)
      → IsHung (λ q. unwrap_or (table q) Untracked) p ⊎ Stays (λ q. unwrap_or (table q) Untracked) p
  unfolding role_in
  all_hung table p (inl g) = let f : Found (Has g.level) p g.mark = subst (Counts (Has g.level) p) g.has (levels g.level g.table g.at p) in
      inl (f.node, (g.level, f.is_there), f.at, ap (λ o. unwrap_or o Untracked) g.is ∙ f.role)
  all_hung table p (inr g) = inr (
    ap (λ o. unwrap_or o Untracked) g.1,
    λ m r is. let t = in_table m r in
        none-some t.mark (sym (ap (get nat_eq t.table) is ∙ g.0 r.0 t.table (below m r) t.at) ∙ t.has),
  )
