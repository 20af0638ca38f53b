-- Once each page that starts to leave has left, all that leave have.
use Rattle.bbm_tree_index.proofs.Common.{Heading, PlaceMap, Sound, hangs_at, core_at, holds_at, Leaving, Role, RootPage}
use Rattle.bbm_tree_index.proofs.Common.{Hangs, Releases, SameKeys, is_gone_role, leaves, next_in, node_by, node_with}
use Rattle.bbm_tree_index.proofs.Common.{roles_of, stays, IndexMap, Untracked, get}
use Rattle.bbm_tree_index.specs.PageTables.{HasPages}
use Rattle.bbm_rules.proofs.Common.{◌≡◌, ◌⊎◌, ◌∙◌, ℕ, zero, suc, Bool, true, false, not, ◌&&◌, ◌==◌, Option, Some, None}
use Rattle.bbm_rules.proofs.Common.{refl, sym, ap, subst, arith, inl, inr, eqb-true, true≢false, false≢true, none-some}
use Rattle.bbm_rules.proofs.Common.{same_Some, suc_inj, fun_ext, Kind, page_of, Node, Above, node_below, Contains}
use Rattle.bbm_rules.proofs.Common.{unwrap_or, is_some, nat_eq, ◌<◌, ◌^◌}
use Rattle.std.proofs.lemmas.Bool.{cases_Bool}
use mathlib.Core.Bool.{not-not}
use Rattle.bbm_place_map.specs.Map.{lost_pages}
use Rattle.bbm_tree_index.specs.Leaving.{CanFind, Departs, IsRootPage, LetsGo, Start, Takes, goes, has_left, starts_at}
use Rattle.bbm_tree_index.specs.SoundRoles.{Below}
use Rattle.bbm_tree_index.specs.declared.leaving.Leaving.TheVariants.{Unheld, Root}
use Rattle.bbm_tree_index.proofs.Departures.{node_goes}
use Rattle.bbm_tree_index.proofs.HeldPlaces.{table_holds}
use Rattle.bbm_tree_index.proofs.Sweeping.{node_hang}

both_not : (h e : Bool) → not h ≡ false → not (h && e) ≡ true → not e ≡ true
both_not h e f t = grind arith

-- the pages at which the code looks first
abbrev pub Sought : PlaceMap → Leaving → ℕ → Type 0
Sought map Unheld page = Contains (lost_pages map) page
Sought map (Root first) page = IsRootPage first page × (page < 2 ^ 48)

module _ (map : PlaceMap) (roles : ℕ → Role) (heading : Heading) (sound : Sound roles heading) where
  -- what a page does that hangs, by the node of the page above it
  module _ (p parent level base first : ℕ) (kind : Kind) (r : roles p ≡ Hangs parent kind level base first) (n : Node)
      (at : node_by roles heading (page_of parent) ≡ Some n) (b : Below parent kind level base first n) where
    node_is : node_by roles heading p ≡ Some (node_below n parent p)
    node_is = node_hang roles heading p parent level base first kind n r at b

    abbrev above : Above
    above = record { place = parent; level = n.level }

    starts_is : starts_at map Unheld (Hangs parent kind level base first) ≡ not (holds_at map n.kind n.level parent)
    starts_is = λ i. starts_at map Unheld (Hangs parent (b.same_kind i) (b.deeper i) base first)

    -- it starts to leave, or hangs there still
    pub starts_or_hangs : (leaving : Leaving) → CanFind (node_by roles heading) map leaving
        → (starts_at map leaving (Hangs parent kind level base first) ≡ true) ⊎ (next_in (core_at map n.kind n.level parent) ≡ Some p)
    starts_or_hangs Unheld found =
        elim (found p (node_below n parent p) above n.above node_is refl) [
          | inl table ↦ inr table
          | inr lost ↦ inl (starts_is ∙ ap not lost.0)
        ]
    starts_or_hangs (Root page) found =
        elim (found.1 p (node_below n parent p) above n.above node_is refl) [
          | inl table ↦ inr table
          | inr lost ↦ absurd lost.1
        ]

    -- where it leaves and doesn't start to, the page above leaves
    pub above_leaves : (leaving : Leaving) → starts_at map leaving (Hangs parent kind level base first) ≡ false
        → not (stays map leaving (node_below n parent p)) ≡ true → not (stays map leaving n) ≡ true
    above_leaves Unheld off e = both_not (holds_at map n.kind n.level parent) (stays map Unheld n) (sym starts_is ∙ off) e
    above_leaves (Root page) off e = e

    -- where it starts to leave, it is one of those
    pub lost_there : CanFind (node_by roles heading) map Unheld → starts_at map Unheld (Hangs parent kind level base first) ≡ true
        → Contains (lost_pages map) p
    lost_there found e =
        elim (found p (node_below n parent p) above n.above node_is refl) [
          | inl table ↦
              absurd (true≢false (sym (sym starts_is ∙ e) ∙ ap not (table_holds (core_at map n.kind n.level parent) p table)))
          | inr lost ↦ lost.1
        ]

  -- the page of a root that leaves starts to
  root_starts : (p : ℕ) (kind : Kind) (first part : ℕ) (leaving : Leaving)
      → leaves (stays map leaving) (node_with roles heading p (RootPage kind first part)) ≡ true
      → starts_at map leaving (RootPage kind first part) ≡ true
  root_starts p kind first part Unheld e = absurd (false≢true e)
  root_starts p kind first part (Root page) e = sym (not-not (first == page)) ∙ e

  -- each page that starts to leave is sought
  module _ (low : (p : ℕ) (kind : Kind) (first part : ℕ) → roles p ≡ RootPage kind first part → p < 2 ^ 48) where
    by_role : (leaving : Leaving) → CanFind (node_by roles heading) map leaving → (p : ℕ) (role : Role) → roles p ≡ role
        → starts_at map leaving role ≡ true → Sought map leaving p
    by_role Unheld found p (Hangs parent kind level base first) r e =
        let up = hangs_at roles heading sound p parent level base first kind r in
        lost_there p parent level base first kind r up.0 up.1 up.2 found e
    by_role (Root page) found p (RootPage kind first part) r e = (
      found.0 p _ (ap (node_with roles heading p) r) refl (eqb-true first page e),
      low p kind first part r,
    )
    by_role Unheld found p _ r e = absurd (false≢true e)
    by_role (Root page) found p _ r e = absurd (false≢true e)

    pub starts_sought : (leaving : Leaving) → CanFind (node_by roles heading) map leaving → (p : ℕ)
        → starts_at map leaving (roles p) ≡ true → Sought map leaving p
    starts_sought leaving found p = by_role leaving found p (roles p) refl

module _ (s : Start) (found : CanFind (node_by s.roles s.heading) s.map s.leaving) (roles : ℕ → Role) (map : PlaceMap)
    (d : Departs s roles map) (all : (p : ℕ) → starts_at s.map s.leaving (s.roles p) ≡ true → has_left s roles p ≡ true) where
  abbrev keeps : Node → Bool
  keeps = stays s.map s.leaving

  role_left : (level p : ℕ) (role : Role) (n : Node) → s.roles p ≡ role → node_with s.roles s.heading p role ≡ Some n
      → n.level ≡ level → goes s p ≡ true
      → ((q : ℕ) (m : Node) → node_by s.roles s.heading q ≡ Some m → suc m.level ≡ level → goes s q ≡ true → has_left s roles q ≡ true)
      → has_left s roles p ≡ true
  role_left level p (RootPage kind first part) n r at l g ih =
      all p (ap (starts_at s.map s.leaving) r
      ∙ root_starts s.map s.roles s.heading s.sound p kind first part s.leaving
      (sym (ap (λ x. leaves keeps (node_with s.roles s.heading p x)) r) ∙ g))
  role_left level p (Hangs parent kind deep base first) n r at l g ih =
      let up = hangs_at s.roles s.heading s.sound p parent deep base first kind r in
      let is = node_hang s.roles s.heading p parent deep base first kind up.0 r up.1 up.2 in
      elim (cases_Bool (starts_at s.map s.leaving (Hangs parent kind deep base first))) [
        | inl t ↦ all p (ap (starts_at s.map s.leaving) r ∙ t)
        | inr f ↦
            let table : next_in (core_at s.map up.0.kind up.0.level parent) ≡ Some p =
            elim (starts_or_hangs s.map s.roles s.heading s.sound p parent deep base first kind r up.0 up.1 up.2 s.leaving found) [
              | inl t ↦ absurd (true≢false (sym t ∙ f))
              | inr table ↦ table
            ] in
            let leaves_above : goes s (page_of parent) ≡ true
            = ap (leaves keeps) up.1
            ∙ above_leaves s.map s.roles s.heading s.sound p parent deep base first kind r up.0 up.1 up.2 s.leaving f
            (sym (ap (leaves keeps) is) ∙ g) in
            let same : n ≡ node_below up.0 parent p
            = same_Some n (node_below up.0 parent p) (sym (ap (node_with s.roles s.heading p) r ∙ at) ∙ is) in
            let higher : suc up.0.level ≡ level = sym (ap (λ (m : Node). m.level) same) ∙ l in
            d.closed p parent deep base first kind up.0 r up.1 table (ih (page_of parent) up.0 up.1 higher leaves_above)
      ]
  role_left level p _ n r at l g ih = absurd (none-some n at)

  level_left : (level p : ℕ) (n : Node) → node_by s.roles s.heading p ≡ Some n → n.level ≡ level → goes s p ≡ true
      → has_left s roles p ≡ true
  level_left zero p n at l g = role_left zero p (s.roles p) n refl at l g (λ q m is deep. absurd (omega arith))
  level_left (suc level) p n at l g =
      role_left (suc level) p (s.roles p) n refl at l g (λ q m is deep. level_left level q m is (suc_inj deep))

  pub all_left : (p : ℕ) → has_left s roles p ≡ goes s p
  all_left p =
      elim (cases_Bool (goes s p)) [
        | inl t ↦ let n = node_goes s p t in level_left n.0.level p n.0 n.1 refl t ∙ sym t
        | inr f ↦ ap (λ b. b && is_gone_role (roles p)) f ∙ sym f
      ]

-- what stands in a table before
abbrev pub start_of : {S : Type 0} (table : IndexMap ℕ Role S) (map : PlaceMap) (heading : Heading) (leaving : Leaving)
    → Sound (roles_of table) heading → Start
start_of table map heading leaving sound =
    record { roles = roles_of table; map = map; heading = heading; leaving = leaving; sound = sound }

has_role : (o : Option Role) (kind : Kind) (first part : ℕ) → unwrap_or o Untracked ≡ RootPage kind first part → is_some o ≡ true
has_role None kind first part e = cc
has_role (Some r) kind first part e = refl

-- and what is left in it
module _ {S : Type 0} (table table' : IndexMap ℕ Role S) (map map' : PlaceMap) (heading : Heading) (leaving : Leaving)
    (sound : Sound (roles_of table) heading) (paged : HasPages table) (found : CanFind (node_by (roles_of table) heading) map leaving)
    (takes : Takes (start_of table map heading leaving sound) (Sought map leaving) (roles_of table) (roles_of table') map') where
  abbrev gone : ℕ → Bool
  gone p = leaves (stays map leaving) (node_by (roles_of table) heading p)

  gone_is : (p : ℕ) → has_left (start_of table map heading leaving sound) (roles_of table') p ≡ gone p
  gone_is = all_left (start_of table map heading leaving sound) found (roles_of table') map' takes.departs
      (λ p e. takes.taken p (starts_sought map (roles_of table) heading sound
      (λ q kind first part r. (paged q (has_role (get nat_eq table q) kind first part r)).0) leaving found p e) e)

  pub roles_gone : SameKeys table table' → LetsGo gone table table'
  roles_gone same = subst (λ g. LetsGo g table table') (fun_ext gone_is) (record { roles = takes.departs.left; same = same })

  pub places_gone : Releases gone map map'
  places_gone = subst (λ g. Releases g map map') (fun_ext gone_is) takes.departs.places
