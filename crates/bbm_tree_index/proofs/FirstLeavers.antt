-- Pages that leave though the page above them may stay.
use Rattle.bbm_tree_index.proofs.Common.{Heading, Marks, PlaceMap, hangs_at, core_with, holds_at, Leaving, Role}
use Rattle.bbm_tree_index.proofs.Common.{RootPage, Hangs}
use Rattle.bbm_tree_index.proofs.Common.{is_gone_role, leaves, marks_at, node_by, node_with, start_of, stays, value_at}
use Rattle.bbm_rules.proofs.Common.{◌≡◌, ◌∙◌, ℕ, suc, Bool, true, false, not, ◌&&◌, ◌==◌, Option, Some, None, is_some}
use Rattle.bbm_rules.proofs.Common.{refl, sym, ap, inl, inr, and_parts, true≢false, false≢true, Kind, Node, page_of}
use Rattle.bbm_rules.proofs.Common.{arith, if◌then◌else◌, node_below}
use Rattle.std.proofs.lemmas.Bool.{cases_Bool}
use mathlib.Core.Bool.{not-not}
use Rattle.bbm_tree_index.specs.Leaving.{Departs, Goes, IsStart, Start, Takes, goes, has_left, starts_at}
use Rattle.bbm_tree_index.specs.declared.leaving.Leaving.TheVariants.{Unheld, Root}
use Rattle.bbm_tree_index.proofs.Departures.{below_goes, core_same, not_left, stay_same}
use Rattle.bbm_tree_index.proofs.Sweeping.{node_hang}

unbroken : (m : Option Marks) (kind : Kind) (level v : ℕ) → is_some (core_with m kind level v) ≡ false → m ≡ None
unbroken None kind level v e = refl
unbroken (Some m) kind level v e = absurd (true≢false e)

not_both : (h e : Bool) → h ≡ false → not (h && e) ≡ true
not_both h e off = grind arith

not_held : (h : Bool) → not h ≡ true → h ≡ false
not_held h e = grind arith

module _ (s : Start) (roles : ℕ → Role) (map : PlaceMap) (d : Departs s roles map) where
  -- a place that held nothing still does
  unheld_stays : (kind : Kind) (level a : ℕ) → holds_at s.map kind level a ≡ false → holds_at map kind level a ≡ false
  unheld_stays kind level a off =
      let none : marks_at s.map a ≡ None = unbroken (marks_at s.map a) kind level (value_at s.map a) off in
      let same : marks_at map a ≡ marks_at s.map a = d.places.marks a ∙ by (has_left s roles (page_of a)) none in
      (λ i. is_some (core_with (same i) kind level (d.places.values a i))) ∙ off
    where
      by : (b : Bool) → marks_at s.map a ≡ None → (if b then None else marks_at s.map a) ≡ marks_at s.map a
      by true none = sym none
      by false none = refl

  module _ (page : ℕ) where
    abbrev node_at : ℕ → Option Node
    node_at = node_by s.roles s.heading

    -- the page of a root
    module _ (kind : Kind) (first part : ℕ) (r : roles page ≡ RootPage kind first part) where
      root_role : s.roles page ≡ RootPage kind first part
      root_role = sym (stay_same s roles map d page (not_left s roles map d page (ap is_gone_role r))) ∙ r

      root_goes : (leaving : Leaving) → s.leaving ≡ leaving → starts_at map leaving (RootPage kind first part) ≡ true
          → goes s page ≡ true
      root_goes Unheld is e = absurd (false≢true e)
      root_goes (Root q) is e =
          ap (λ x. leaves (stays s.map s.leaving) (node_with s.roles s.heading page x)) root_role
          ∙ ap (λ l. leaves (stays s.map l) (node_with s.roles s.heading page (RootPage kind first part))) is
          ∙ not-not (first == q) ∙ e

      pub start_root : (level : ℕ) → level ≡ start_of s.heading.world kind → starts_at map s.leaving (RootPage kind first part) ≡ true
          → Goes s page kind level
      start_root level is e = record {
        leaves = root_goes s.leaving refl e;
        node = _;
        at = ap (node_with s.roles s.heading page) root_role;
        same_kind = refl;
        same_level = is;
      }

    -- one that hangs
    module _ (parent level base first : ℕ) (kind : Kind) (r : roles page ≡ Hangs parent kind level base first) where
      hang_role : s.roles page ≡ Hangs parent kind level base first
      hang_role = sym (stay_same s roles map d page (not_left s roles map d page (ap is_gone_role r))) ∙ r

      hang_goes : (leaving : Leaving) → s.leaving ≡ leaving → starts_at map leaving (Hangs parent kind level base first) ≡ true
          → goes s page ≡ true
      hang_goes (Root q) is e = absurd (false≢true e)
      hang_goes Unheld is e =
          let up = hangs_at s.roles s.heading s.sound page parent level base first kind hang_role in
          let n = up.0 in
          let at = node_hang s.roles s.heading page parent level base first kind n hang_role up.1 up.2 in
          elim (cases_Bool (has_left s roles (page_of parent))) [
            | inl gone ↦
                below_goes s page parent level base first kind hang_role (and_parts (goes s (page_of parent)) (is_gone_role (roles (page_of parent))) gone).0
            | inr out ↦
                let off : holds_at s.map n.kind n.level parent ≡ false
                = ap (λ o. is_some o) (sym (core_same s roles map d n.kind n.level parent out))
                ∙ not_held (holds_at map n.kind n.level parent)
                (sym (λ i. starts_at map Unheld (Hangs parent (up.2.same_kind i) (up.2.deeper i) base first)) ∙ e) in
                ap (leaves (stays s.map s.leaving)) at ∙ ap (λ l. not (stays s.map l (node_below n parent page))) is
                ∙ not_both (holds_at s.map n.kind n.level parent) (stays s.map Unheld n) off
          ]

      pub start_hangs : starts_at map s.leaving (Hangs parent kind level base first) ≡ true → Goes s page kind level
      start_hangs e = record {
        leaves = hang_goes s.leaving refl e;
        node = _;
        at = ap (node_with s.roles s.heading page) hang_role;
        same_kind = refl;
        same_level = refl;
      }

    -- what started to leave still does, unless it has left
    still_starts : (leaving : Leaving) (role : Role) → starts_at s.map leaving role ≡ true → starts_at map leaving role ≡ true
    still_starts Unheld (Hangs parent kind (suc level) base first) e =
        ap not (unheld_stays kind level parent (not_held (holds_at s.map kind level parent) e))
    still_starts (Root q) role e = e
    still_starts Unheld _ e = e

    pub left_if_off : starts_at map s.leaving (roles page) ≡ false → starts_at s.map s.leaving (s.roles page) ≡ true
        → has_left s roles page ≡ true
    left_if_off off e =
        elim (cases_Bool (has_left s roles page)) [
          | inl t ↦ t
          | inr f ↦
              absurd (true≢false (sym (ap (starts_at map s.leaving) (stay_same s roles map d page f)
              ∙ still_starts s.leaving (s.roles page) e) ∙ off))
        ]

    pub takes_off : starts_at map s.leaving (roles page) ≡ false → Takes s (λ p. p ≡ page) roles roles map
    takes_off off = record {
      departs = d;
      kept = λ p t. t;
      taken = λ p is e. ap (has_left s roles) is ∙ left_if_off off (sym (ap (λ q. starts_at s.map s.leaving (s.roles q)) is) ∙ e);
    }

-- a page that starts to leave, as the code finds it
module _ (s : Start) (roles : ℕ → Role) (map : PlaceMap) (d : Departs s roles map) (page : ℕ) (role : Role) (is : role ≡ roles page)
    (heading : Heading) (leaving : Leaving) (start : IsStart s heading leaving) where
  pub root_taken : (level : ℕ) (kind : Kind) (first part : ℕ) → role ≡ RootPage kind first part → level ≡ start_of heading.world kind
      → starts_at map leaving role ≡ true → Goes s page kind level
  root_taken level kind first part r l e =
      start_root s roles map d page kind first part (sym is ∙ r) level (l ∙ ap (λ (h : Heading). start_of h.world kind) (sym start.0))
      ((λ i. starts_at map (start.1 i) (sym r i)) ∙ e)

  pub hang_taken : (parent level base first : ℕ) (kind : Kind) → role ≡ Hangs parent kind level base first
      → starts_at map leaving role ≡ true → Goes s page kind level
  hang_taken parent level base first kind r e =
      start_hangs s roles map d page parent level base first kind (sym is ∙ r) ((λ i. starts_at map (start.1 i) (sym r i)) ∙ e)

  pub none_taken : starts_at map leaving role ≡ false → Takes s (λ p. p ≡ page) roles roles map
  none_taken off = takes_off s roles map d page ((λ i. starts_at map (start.1 i) (sym is i)) ∙ off)
