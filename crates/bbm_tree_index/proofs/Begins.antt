-- Where the paths of what is attached begin.
use Rattle.bbm_tree_index.proofs.Common.{Heading, Role, node_by, IndexMap, PlaceMap, page_count, MayJudge, IsSurvey}
use Rattle.bbm_tree_index.proofs.Common.{Told, below_all, starts_of, Starting, Well, root_marks, TreeIndex, Mark}
use Rattle.bbm_tree_index.proofs.Common.{Attach, Root, Below, value_at, HavePages}
use Rattle.bbm_rules.proofs.Common.{◌⊎◌, inl, inr, ◌≡◌, ℕ, ◌≤◌, ◌<◌, ◌+◌, ◌*◌, ◌^◌, true, List, [], ◌∷◌, Option, Some}
use Rattle.bbm_rules.proofs.Common.{Contains, length, refl, sym, ap, ◌∙◌, subst, arith, heading_ok, Kind, page_of}
use Rattle.bbm_rules.proofs.Common.{start_of, Node, node_below}
use Rattle.bbm_tree_index.specs.Index.{fresh_in, heading_of, node_in, role_in}
use Rattle.bbm_tree_index.proofs.Begun.{is_only, only}
use Rattle.bbm_tree_index.proofs.RootFits.{count_some, root_end, root_fits}
use Rattle.bbm_tree_index.proofs.Rooted.{Pages, in_pages, root_apart, root_nodes, root_same, root_some, root_starting}
use Rattle.bbm_tree_index.proofs.Rooted.{root_well}

module _ (index : TreeIndex) (at : Attach) (may : MayJudge index at) where
  module _ (kind : Kind) (first : ℕ) (is : at ≡ Root kind first) where
    may_root : MayJudge index (Root kind first)
    may_root = subst (MayJudge index) is may

    starts_root : starts_of index at ≡ Pages kind first (heading_of index) (page_count (heading_of index).world kind)
    starts_root = ap (starts_of index) is ∙ root_nodes kind first (heading_of index) may_root.0

    pub same_root : (s : Node) → Contains (starts_of index at) s → (s.kind ≡ kind) × (s.level ≡ start_of (heading_of index).world kind)
    same_root s c = root_same kind first (heading_of index) (page_count (heading_of index).world kind) s
        (subst (λ xs. Contains xs s) starts_root c)

    pub some_root : heading_ok (heading_of index) ≡ true → (s : Node) × Contains (starts_of index at) s
    some_root ok = let r = root_some kind first (heading_of index) (page_count (heading_of index).world kind)
        (count_some (heading_of index) ok kind first) in (r.0, subst (λ xs. Contains xs r.0) (sym starts_root) r.1)

    pub end_root : heading_ok (heading_of index) ≡ true → (n : ℕ) → n ≡ page_count (heading_of index).world kind
        → first + 4096 * n ≤ 2 ^ 48
    end_root ok n e = subst (λ x. first + 4096 * x ≤ 2 ^ 48) (sym e) (root_end (heading_of index) ok kind first may_root.1).0

    pub well_root : heading_ok (heading_of index) ≡ true → (n : ℕ) → n ≡ page_count (heading_of index).world kind → (g : ℕ → Option Mark)
        → ((q : ℕ) → g q ≡ root_marks kind first n q) → Well (heading_of index) g
    well_root ok n e g is' = root_well kind first (heading_of index) n g is' (end_root ok n e)
        (root_end (heading_of index) ok kind first may_root.1).1
        (λ i l. root_fits (heading_of index) ok kind first i (subst (λ x. i < x) e l))

    pub start_root : (n : ℕ) → n ≡ page_count (heading_of index).world kind → (g : ℕ → Option Mark)
        → ((q : ℕ) → g q ≡ root_marks kind first n q) → Starting (heading_of index) g (starts_of index at)
    start_root n e g is' = subst (Starting (heading_of index) g) (ap (Pages kind first (heading_of index)) e ∙ sym starts_root)
        (root_starting kind first (heading_of index) n g is')

  module _ (place next : ℕ) (n : Node) (is : at ≡ Below place next) (node : node_in index (page_of place) ≡ Some n) where
    pub starts_below : starts_of index at ≡ node_below n place next ∷ []
    starts_below = ap (starts_of index) is ∙ ap (λ o. below_all o place next) node

    pub some_below : (s : Node) × Contains (starts_of index at) s
    some_below = (node_below n place next, subst (λ xs. Contains xs (node_below n place next)) (sym starts_below) (is_only (node_below n place next)))

pub apart_of : (index : TreeIndex) (at : Attach) → MayJudge index at → (s s' : Node) → Contains (starts_of index at) s
    → Contains (starts_of index at) s' → s.page ≡ s'.page → s ≡ s'
apart_of index (Root kind first) may s s' c c' e = let is = starts_root index (Root kind first) may kind first refl in
    root_apart kind first (heading_of index) (page_count (heading_of index).world kind) s s'
    (subst (λ xs. Contains xs s) is c) (subst (λ xs. Contains xs s') is c') e
apart_of index (Below place next) may s s' c c' e =
    let is = starts_below index (Below place next) may place next may.0 refl may.1 in
    only (node_below may.0 place next) s (subst (λ xs. Contains xs s) is c)
    ∙ sym (only (node_below may.0 place next) s' (subst (λ xs. Contains xs s') is c'))

-- the node is one of a root, or hangs at a place of a page of a tree
abbrev pub Begins : (ℕ → Role) → Heading → Node → Type 0
Begins roles heading m = (m.above ≡ [])
    ⊎ ((n : Node) × (place : ℕ) × (node_by roles heading (page_of place) ≡ Some n) × (m ≡ node_below n place m.page))

pub starts_begin : (index : TreeIndex) (at : Attach) → MayJudge index at → (s : Node) → Contains (starts_of index at) s
    → Begins (role_in index) (heading_of index) s
unfolding node_in
starts_begin index (Root kind first) may s c = let heading = heading_of index in
    inl (ap (λ (x : Node). x.above) (in_pages kind first heading (page_count heading.world kind) s
    (subst (λ xs. Contains xs s) (root_nodes kind first heading may.0) c)).2)
starts_begin index (Below place next) may s c =
    let same = only (node_below may.0 place next) s (subst (λ xs. Contains xs s) (ap (λ o. below_all o place next) may.1) c) in
    inr (may.0, place, may.1, same ∙ ap (node_below may.0 place) (sym (ap (λ (x : Node). x.page) same)))

module _ {S : Type 0} (tables : List (IndexMap ℕ Mark S)) (index : TreeIndex) (map : PlaceMap) (at : Attach)
    (survey : IsSurvey tables index map at) where
  pub have_pages : HavePages tables
  have_pages = λ k table e. (survey.surveyed.wells k table e).pages

  module _ (kind : Kind) (level : ℕ) (same : (s : Node) → Contains (starts_of index at) s → (s.kind ≡ kind) × (s.level ≡ level))
      (some : (s : Node) × Contains (starts_of index at) s) where
    pub survey_count : level + length tables ≡ 4
    survey_count = omega (arith, (same some.0 some.1).1, survey.count some.0 some.1)

    pub survey_told : MayJudge index at → Told tables (fresh_in index) (value_at map) (starts_of index at) kind level
    survey_told may = record {
      count = survey_count;
      same_kind = λ s c. (same s c).0;
      same_level = λ s c. (same s c).1;
      apart = apart_of index at may;
      levels = λ k table e. survey.surveyed.levels (starts_of index at) survey.starting k table e;
    }
