-- Paths through fresh pages, by steps, where pages can be attached.
use Rattle.bbm_tree_index.proofs.Common.{IndexMap, PlaceMap, IsSurvey, IsUnfresh, MayJudge, Never, Attached, Goes}
use Rattle.bbm_tree_index.proofs.Common.{IsPath, Reached, Mark, TreeIndex, Attach, starts_of, names_pages, value_at}
use Rattle.bbm_tree_index.proofs.Common.{fresh_in}
use Rattle.bbm_rules.proofs.Common.{◌≡◌, ℕ, ◌<◌, ◌⊎◌, Bool, true, List, [], ◌∷◌, length, inl, inr, refl, sym, ap, ◌∙◌}
use Rattle.bbm_rules.proofs.Common.{subst, true≢false, arith, cases_eq, end_at, Node, node_below}
use Rattle.std.proofs.lemmas.Bool.{true_from_ne_false}
use Rattle.bbm_rules.proofs.TreeLaw.{table_level}
use Rattle.bbm_tree_index.specs.Paths.{Through}
use Rattle.bbm_tree_index.specs.Prepared.{AreNamedFresh, IsPrepared}
use Rattle.bbm_tree_index.specs.declared.index.Prepared.{Prepared}
use Rattle.bbm_tree_index.proofs.Begins.{apart_of}
use Rattle.bbm_tree_index.proofs.Starts.{goes_kind}
use Rattle.bbm_tree_index.proofs.Ways.{goes_leads, goes_same}

-- two lists of numbers are equal or not
same_or_not : (xs ys : List ℕ) → (xs ≡ ys) ⊎ (xs ≡ ys → ⊥)
same_or_not [] [] = inl refl
same_or_not [] (y ∷ ys) = inr (λ e. cc)
same_or_not (x ∷ xs) [] = inr (λ e. cc)
same_or_not (x ∷ xs) (y ∷ ys) =
    elim (cases_eq x y) [
      | inl e ↦ elim (same_or_not xs ys) [ inl f ↦ inl (λ i. e i ∷ f i) | inr n ↦ inr (λ h. n cc) ]
      | inr n ↦ inr (λ h. n cc)
    ]

module _ (fresh : ℕ → Bool) (value : ℕ → ℕ) where
  through_of : (s m : Node) (places : List ℕ) → Goes fresh value s places m → fresh m.page ≡ true → Through fresh value s places m
  through_of s m [] g f = (subst (λ (x : Node). fresh x.page ≡ true) (sym g) f, g)
  through_of s m (place ∷ places) g f = (
    g.1.is_fresh,
    g.1.inside,
    g.0.page,
    g.1.table,
    subst (λ (x : Node). Through fresh value x places m) g.1.below (through_of g.0 m places g.2 f),
  )

  goes_of : (s m : Node) (places : List ℕ) → Through fresh value s places m → Goes fresh value s places m
  goes_of s m [] t = t.1
  goes_of s m (place ∷ places) t = (
    node_below s place t.2,
    record { is_fresh = t.0; inside = t.1; table = t.3; below = refl },
    goes_of (node_below s place t.2) m places t.4,
  )

  -- a path stays above level 4
  goes_shallow : (s m : Node) (places : List ℕ) → s.level < 4 → Goes fresh value s places m → m.level < 4
  goes_shallow s m [] l g = subst (λ (x : Node). x.level < 4) g l
  goes_shallow s m (place ∷ places) l g = goes_shallow g.0 m places
      (omega (arith, ap (λ (x : Node). x.level) g.1.below, table_level s.kind s.level (value place) g.0.page g.1.table)) g.2

-- the tables are a survey of pages that can be attached
pub record Ready {S : Type 0} (tables : List (IndexMap ℕ Mark S)) (index : TreeIndex) (map : PlaceMap) (at : Attach) : Type 0 where
  pub may : MayJudge index at
  pub named : AreNamedFresh index at
  pub never : Never (IsUnfresh (fresh_in index) (value_at map) (starts_of index at) (names_pages at))
  pub survey : IsSurvey tables index map at

pub ready : {prepared : Prepared} {index : TreeIndex} {map : PlaceMap} {at : Attach} → IsPrepared prepared index map at
    → AreNamedFresh index at → Ready prepared.tables.items index map at
ready p named = record { may = p.may; named = named; never = p.passes; survey = p.tells }

-- a path from a start reaches the node
abbrev pub Reach : TreeIndex → PlaceMap → Attach → Node → Type 0
Reach index map at m = (k : ℕ) × Reached (fresh_in index) (value_at map) (starts_of index at) k m

module _ {S : Type 0} {tables : List (IndexMap ℕ Mark S)} {index : TreeIndex} {map : PlaceMap} {at : Attach}
    (ready : Ready tables index map at) where
  pub path_to : (m : Node) (r : Reach index map at m)
      → IsPath (fresh_in index) (value_at map) (starts_of index at) r.1.start r.1.places (end_at m.level m.page)
  path_to m r = let s = r.1.start in let c = ready.survey.count s r.1.is_start in record {
    is_start = r.1.is_start;
    within = omega (
      arith,
      (goes_kind (fresh_in index) (value_at map) s m r.1.places r.1.goes).1,
      goes_shallow (fresh_in index) (value_at map) s m r.1.places (omega (arith, c, ready.survey.filled)) r.1.goes,
    );
    leads = goes_leads (fresh_in index) (value_at map) s m r.1.places r.1.goes;
  }

  pub reach_fresh : (m : Node) → Reach index map at m → fresh_in index m.page ≡ true
  reach_fresh m r = true_from_ne_false (fresh_in index m.page) (λ e. ready.never m.page (inl (record {
    start = r.1.start;
    places = r.1.places;
    end = end_at m.level m.page;
    path = path_to m r;
    ends = refl;
    unfresh = e;
    judged = λ n f. true≢false (sym (ready.named n r.1.start r.1.is_start) ∙ ap (λ (x : Node). fresh_in index x.page)
        (subst (λ ps. Goes (fresh_in index) (value_at map) r.1.start ps m) f r.1.goes) ∙ e);
  })))

  pub reach_unique : (m m' : Node) → Reach index map at m → Reach index map at m' → m.page ≡ m'.page → m ≡ m'
  reach_unique m m' r q same =
      elim (cases_eq r.1.start.page q.1.start.page) [
        | inl e ↦ elim (same_or_not r.1.places q.1.places) [
          | inl f ↦ goes_same (fresh_in index) (value_at map) q.1.start m m' q.1.places
              (subst (λ ps. Goes (fresh_in index) (value_at map) q.1.start ps m) f
              (subst (λ (x : Node). Goes (fresh_in index) (value_at map) x r.1.places m)
              (apart_of index at ready.may r.1.start q.1.start r.1.is_start q.1.is_start e) r.1.goes)) q.1.goes
          | inr n ↦ absurd (twice (λ e f. n f))
        ]
        | inr n ↦ absurd (twice (λ e f. n e))
      ]
    where
      twice : (r.1.start.page ≡ q.1.start.page → r.1.places ≡ q.1.places → ⊥) → ⊥
      twice d = ready.never m.page (inr (record {
        start = r.1.start;
        places = r.1.places;
        end = end_at m.level m.page;
        path = path_to m r;
        ends = refl;
        other_start = q.1.start;
        other_places = q.1.places;
        other_end = end_at m'.level m'.page;
        other_path = path_to m' q;
        other_ends = sym same;
        differ = d;
      }))

  pub reach_attached : (m : Node) → Reach index map at m → Attached (fresh_in index) (value_at map) (starts_of index at) m
  reach_attached m r = record {
    start = r.1.start;
    is_start = r.1.is_start;
    places = r.1.places;
    through = through_of (fresh_in index) (value_at map) r.1.start m r.1.places r.1.goes (reach_fresh m r);
  }

  pub attached_reach : (m : Node) → Attached (fresh_in index) (value_at map) (starts_of index at) m → Reach index map at m
  attached_reach m a = (
    length a.places,
    record {
      start = a.start;
      is_start = a.is_start;
      places = a.places;
      count = refl;
      goes = goes_of (fresh_in index) (value_at map) a.start m a.places a.through;
    },
  )
