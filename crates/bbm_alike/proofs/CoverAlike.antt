-- In histories that are alike, a TLBI covers each place as far.
use Rattle.bbm_rules.proofs.Common.{◌≡◌, ℕ, suc, Bool, List, Option, Some, None, is_some, option_and_then, unwrap_or}
use Rattle.bbm_rules.proofs.Common.{Contains, refl, sym, ◌∙◌, ap, desc_of, cover_of, Cover, PlaceView, TagSet, Heading}
use Rattle.bbm_rules.proofs.Common.{Event, Tlbi, TlbiOp, Scope, Trust, cover_at, is_global, noted, view_at, held, Noted}
use Rattle.bbm_rules.proofs.Common.{events_of, page_of, named_scope, vmid_of, tag_set, tags_of, Node, held_at}
use Rattle.bbm_rules.proofs.Common.{is_childless, next_of, node_below, node_of, region_of, same_truth}
use Rattle.bbm_tlbi_scope.specs.declared.entry.Cover.TheVariants.{None as NoCover}
use Rattle.bbm_tlbi_scope.specs.ScopeCovers.{at_end}
use Rattle.bbm_rules.specs.Covers.{top_at}
use Rattle.bbm_rules.specs.Tree.{tree}
use Rattle.bbm_alike.specs.Alike.{Alike}
use Rattle.bbm_alike.specs.KnownOfHistories.{Known}
use Rattle.bbm_alike.proofs.NotesAlike.{NotesAlike, notes_alike}
use Rattle.bbm_alike.proofs.SameThen.{same_then}
use Rattle.bbm_alike.proofs.ReadingsAlike.{scope_alike, vmid_alike}

module _ (heading : Heading) (k : Known heading) (one other : Trust) (h h' : List Event) (a : Alike heading one other h h') where
  abbrev marks : List Noted
  marks = noted heading one h

  abbrev marks' : List Noted
  marks' = noted heading other h'

  abbrev notes : NotesAlike heading one other marks marks'
  notes = notes_alike heading k one other h h' a

  -- ---- childless

  none_below : (n : Node) (place value next : ℕ) → Contains (tree heading one marks) n → page_of place ≡ n.page
      → held_at heading one marks n place ≡ Some value → next_of n.kind n.level value ≡ Some next
      → (below : ℕ) → page_of below ≡ next → held heading one n.kind (suc n.level) below marks
      ≡ held heading other n.kind (suc n.level) below marks'
  none_below n place value next there inside holds table below under =
      a.held (node_below n place next) below ((k.tree one).below marks n place value next there inside holds table)
      under

  pub childless_alike : (n : Node) (place value : ℕ) → Contains (tree heading one marks) n → page_of place ≡ n.page
      → held_at heading one marks n place ≡ Some value
      → is_childless heading one marks n value ≡ is_childless heading other marks' n value
  childless_alike n place value there inside holds = by (next_of n.kind n.level value) refl
    where
      by : (o : Option ℕ) → next_of n.kind n.level value ≡ o
          → is_childless heading one marks n value ≡ is_childless heading other marks' n value
      by None none = rw (none) refl
      by (Some next) table =
          let same = none_below n place value next there inside holds table in
          same_truth (is_childless heading one marks n value) (is_childless heading other marks' n value)
          (λ c. ((k.childless_step other).table marks' n value next table).1
          (λ below under. sym (same below under) ∙ ((k.childless_step one).table marks n value next table).0 c below
          under))
          (λ c. ((k.childless_step one).table marks n value next table).1
          (λ below under. same below under ∙ ((k.childless_step other).table marks' n value next table).0 c below
          under))

  -- ---- how a TLBI sees a place

  abbrev with_parts : Node → ℕ → ℕ → Bool → TagSet → Option PlaceView
  with_parts n place value childless tags = Some (record {
    kind = n.kind;
    region = region_of n place;
    level = n.level;
    table = is_some (next_of n.kind n.level value);
    global = is_global (desc_of n.kind n.level value);
    childless = childless;
    tags = tags;
  })

  abbrev of_value : Trust → List Noted → Node → ℕ → ℕ → Option PlaceView
  of_value t x n place value =
      with_parts n place value (is_childless heading t x n value) (tag_set (tags_of heading t n.root (events_of x)))

  abbrev of_node : Trust → List Noted → ℕ → Node → Option PlaceView
  of_node t x place n = option_and_then (of_value t x n place) (held_at heading t x n place)

  of_value_alike : (place : ℕ) (n : Node) (value : ℕ) → node_of heading one marks (page_of place) ≡ Some n
      → held_at heading one marks n place ≡ Some value → of_value one marks n place value ≡ of_value other marks' n place value
  of_value_alike place n value is holds =
      let t = (k.tree one).taken marks (page_of place) n is in
      ap (λ (b : Bool). with_parts n place value b (tag_set (tags_of heading one n.root (events_of marks))))
      (childless_alike n place value t.0 (sym t.1) holds)
      ∙ ap (λ (s : TagSet). with_parts n place value (is_childless heading other marks' n value) s) (ap tag_set (notes.tags n.root))

  pub view_alike : (place : ℕ) → view_at heading one marks place ≡ view_at heading other marks' place
  view_alike place =
      same_then (of_node one marks place) (of_node other marks' place) (node_of heading one marks (page_of place))
      (node_of heading other marks' (page_of place)) (notes.nodes (page_of place))
      (λ n is. same_then (of_value one marks n place) (of_value other marks' n place) (held_at heading one marks n place)
      (held_at heading other marks' n place) (notes.held n place is) (λ value holds. of_value_alike place n value is holds))

  -- ---- how far a TLBI covers a place

  -- a place is seen so by the TLBI
  module _ (seen_so : PlaceView → PlaceView) (pe : ℕ) (op : TlbiOp) (xt place : ℕ) where
    abbrev cover_by : Option Scope → Option ℕ → Option PlaceView → Cover
    cover_by scope vmid view =
        unwrap_or (option_and_then (λ s. option_and_then (λ v. Some (cover_of s vmid (seen_so v))) view) scope) NoCover

    abbrev cover_in : Trust → List Noted → Cover
    cover_in t x = cover_by (named_scope heading (events_of x) pe op xt) (vmid_of heading (events_of x) pe) (view_at heading t x place)

    same_cover : cover_in one marks ≡ cover_in other marks'
    same_cover =
        ap (λ (o : Option Scope). cover_by o (vmid_of heading (events_of marks) pe) (view_at heading one marks place))
        (scope_alike (events_of marks) (events_of marks') notes.registers heading pe op xt)
        ∙ (ap (λ (o : Option ℕ). cover_by (named_scope heading (events_of marks') pe op xt) o (view_at heading one marks place))
        (vmid_alike (events_of marks) (events_of marks') notes.registers heading pe)
        ∙ ap (λ (o : Option PlaceView). cover_by (named_scope heading (events_of marks') pe op xt) (vmid_of heading (events_of marks') pe) o)
        (view_alike place))

  pub cover_alike : (e : Event) (place : ℕ) → cover_at heading one marks e place ≡ cover_at heading other marks' e place
  cover_alike (Tlbi pe op xt) place = same_cover (λ v. v) pe op xt place
  cover_alike e place = refl

  pub top_alike : (e : Event) (place : ℕ) → top_at heading one marks e place ≡ top_at heading other marks' e place
  top_alike (Tlbi pe op xt) place = same_cover at_end pe op xt place
  top_alike e place = refl
