-- What is kept of the pages that leaves of stage 2 map: after an event, and what the rule on table pages says by it.
use Rattle.bbm_replay.proofs.Common.{kept_next, same_kind, Kind, S2, Laws, Told, View, TreeIndex, PlaceMap, notes}
use Rattle.bbm_replay.proofs.Common.{Rules, node_in, view_of, broken, StepFault, Broken, NoMemory, TableMapped, is_at}
use Rattle.bbm_rules.proofs.Common.{◌≡◌, ℕ, Bool, true, false, ◌&&◌, not, List, ◌∷◌, Option, Some, None, is_some}
use Rattle.bbm_rules.proofs.Common.{Err, refl, sym, ◌∙◌, ap, subst, and-false, and-true, arith, true≢false, Desc}
use Rattle.bbm_rules.proofs.Common.{core_of, desc_of, Patterns, Heading, Event, Node, Answers, Which, page_of}
use Rattle.bbm_rules.specs.Mapped.{maps, maps_as}
use Rattle.bbm_rules.specs.Rules.{table_mapped}
use Rattle.bbm_descriptor.specs.Descriptor as descriptor
use Rattle.bbm_tree_index.specs.Attaching.{Never}
use Rattle.bbm_tree_index.specs.Index.{pages_in}
use Rattle.bbm_tree_index.specs.LeastPages.{LeastOf}
use Rattle.bbm_tree_index.specs.Outputs.{AttachedOver, BadTable, CoversAttached, CoversLeaf, HasListed, Lists}
use Rattle.bbm_tree_index.specs.Outputs.BadTable.{attached, in_tree, unclean}
use Rattle.bbm_replay_trees.specs.Guarding.{Guards}
use Rattle.bbm_replay_trees.specs.TreeEvents as events
use Rattle.bbm_place_map.specs.Map.{value_at}
use Rattle.bbm_replay.specs.Guarded.{Becomes, CoversListed, CoversValue, Guarded, IsAttached, IsBad, IsOver, Passes}
use Rattle.bbm_replay.specs.Guarded.{Refuses}
use Rattle.bbm_tree_index.specs.IndexAgreement.{SharesNumbers}
use Rattle.bbm_unmapped.specs.Unmapped.{IsNumberedBy, IsSame, SharesPages, free_in, may_map}
use Rattle.bbm_tree_index.specs.declared.standing.AttachedPage.{AttachedPage}
use Rattle.bbm_unmapped.specs.declared.unmapped.Unmapped.{Unmapped}
use Rattle.bbm_replay.proofs.Judging.{found}
use Rattle.std.specs.Prelude.{IfSome}

-- ---- the same, said otherwise

pub guards_alike : (heading : Heading) (h : List Event) (free free' : ℕ → Bool) (may may' : ℕ → ℕ → Bool)
    → ((page : ℕ) → free' page ≡ free page) → ((table page : ℕ) → may' table page ≡ may table page)
    → Guards heading h free may → Guards heading h free' may'
guards_alike heading h free free' may may' same alike g = record {
  unmapped = λ page k. g.unmapped page (sym (same page) ∙ k);
  clean = λ page k. same page ∙ g.clean page k;
  within = λ n place value page at held over. alike (page_of place) page ∙ g.within n place value page at held over;
}

module _ (Has : Node → Type 0) (list : List AttachedPage) (lists : Lists Has list) (value : ℕ → ℕ) (page : ℕ) where
  over_listed : AttachedOver (HasListed list) value page → AttachedOver Has value page
  over_listed o =
      let a = (lists o.node).0 o.is_attached in
      record {
        node = a.0;
        is_attached = a.1;
        place = o.place;
        inside = subst (λ (x : AttachedPage). is_at x.page o.place ≡ true) (sym a.2) o.inside;
        maps_page = subst (λ (x : AttachedPage). maps x.standing.kind x.standing.level (value o.place) page ≡ true)
            (sym a.2) o.maps_page;
      }

  listed_over : AttachedOver Has value page → AttachedOver (HasListed list) value page
  listed_over o = record {
    node = o.node;
    is_attached = (lists o.node).1 (o.node, o.is_attached, refl);
    place = o.place;
    inside = o.inside;
    maps_page = o.maps_page;
  }

  module _ (free : ℕ → Bool) (node : ℕ → Option Node) where
    pub bad_listed : BadTable (HasListed list) value free node page → BadTable Has value free node page
    bad_listed (unclean m has same k) =
        let a = (lists m).0 has in unclean a.0 a.1 (ap (λ (x : AttachedPage). x.page) a.2 ∙ same) k
    bad_listed (in_tree k over) = in_tree k (over_listed over)
    bad_listed (attached m has same over) =
        let a = (lists m).0 has in
        attached a.0 a.1 (ap (λ (x : AttachedPage). x.page) a.2 ∙ same) (over_listed over)

    pub listed_bad : BadTable Has value free node page → BadTable (HasListed list) value free node page
    listed_bad (unclean m has same k) = unclean m ((lists m).1 (m, has, refl)) same k
    listed_bad (in_tree k over) = in_tree k (listed_over over)
    listed_bad (attached m has same over) = attached m ((lists m).1 (m, has, refl)) same (listed_over over)

pub covers_listed : (Has : Node → Type 0) (list : List AttachedPage) → Lists Has list → (value : ℕ → ℕ)
    (free free' : ℕ → Bool) (may may' : ℕ → ℕ → Bool)
    → CoversAttached (HasListed list) value free free' may may' → CoversAttached Has value free free' may may'
covers_listed Has list lists value free free' may may' c = record {
  free = λ page. (
    (λ k. let both = (c.free page).0 k in (both.0, λ over. both.1 (listed_over Has list lists value page over))),
    (λ k. (c.free page).1 (k.0, λ over. k.1 (over_listed Has list lists value page over))),
  );
  grows = c.grows;
  own = λ m place page has inside over. c.own m place page ((lists m).1 (m, has, refl)) inside over;
}

-- ---- what a value maps

maps_nothing : (kind : Kind) (level : ℕ) (d : Desc) (page : ℕ) → descriptor.core_in d ≡ None
    → (same_kind kind S2 && maps_as level d page) ≡ false
maps_nothing kind level d page none = grind (arith, and-false)

-- an invalid value maps nothing
pub maps_none : (kind : Kind) (level value page : ℕ) → core_of kind level value ≡ None
    → maps kind level value page ≡ false
maps_none kind level value page none = maps_nothing kind level (desc_of kind level value) page none

-- so it maps no page of a tree
pub never_over : (kind : Kind) (level place value : ℕ) (index : TreeIndex)
    → ((page : ℕ) → maps kind level value page ≡ false) → Never (IsOver kind level place value index)
never_over kind level place value index none page over = true≢false (sym over.0 ∙ none page)

-- ---- what is kept, if anything

pub becomes : (to : Unmapped → Unmapped → Type 0) (kept : Option Unmapped) (u u' : Unmapped) → kept ≡ Some u → to u u'
    → Becomes to kept (Some u')
becomes to kept u u' is k = subst (λ (x : Option Unmapped). Becomes to x (Some u')) (sym is) (u', refl, k)

-- what holds at any rate
pub if_kept : (kept : Option Unmapped) (P : Type 0) → P → IfSome kept (λ u. P)
if_kept None P p = tt
if_kept (Some u) P p = p

-- ---- what stands after an event

-- where something is kept, the header has the word
pub word_of : (kept : Option Unmapped) (index : TreeIndex) (heading : Heading) (h : List Event) → is_some kept ≡ true
    → Guarded kept index heading h → heading.words.isolated ≡ true
word_of None index heading h some g = absurd (true≢false (sym some))
word_of (Some u) index heading h some g = g.0

-- it comes to what stands then
pub guard_becomes : (to : Unmapped → Unmapped → Type 0) (heading : Heading) (h h' : List Event)
    (index index' : TreeIndex) (kept kept' : Option Unmapped)
    → ((u u' : Unmapped) → kept ≡ Some u → to u u' → SharesPages u index → Guards heading h (free_in u) (may_map u)
    → SharesPages u' index' × Guards heading h' (free_in u') (may_map u'))
    → Becomes to kept kept' → Guarded kept index heading h → Guarded kept' index' heading h'
guard_becomes to heading h h' index index' None kept' step is g =
    subst (λ (x : Option Unmapped). Guarded x index' heading h') (sym is) g
guard_becomes to heading h h' index index' (Some u) kept' step is g =
    let n = step u is.0 refl is.2 g.1 g.2 in
    subst (λ (x : Option Unmapped). Guarded x index' heading h') (sym is.1) (g.0, n.0, n.1)

-- it has the pages of the index, and their numbers
pub kept_shares : (kept : Option Unmapped) (index : TreeIndex) (heading : Heading) (h : List Event)
    → Guarded kept index heading h → IfSome kept (λ u. SharesPages u index)
kept_shares None index heading h g = tt
kept_shares (Some u) index heading h g = g.1

pub kept_tables : (kept : Option Unmapped) (index : TreeIndex) (map : PlaceMap) (heading : Heading) (h : List Event)
    → Rules heading → Told heading h (view_of map index) → Guarded kept index heading h
    → IfSome kept (λ u. (p : ℕ) → is_some (node_in index p) ≡ true → free_in u p ≡ true)
kept_tables None index map heading h rules t g = tt
kept_tables (Some u) index map heading h rules t g = λ p there.
    rules.tables.tables h (view_of map index) p (free_in u) (may_map u) g.0 t.kept t.nodes g.2 there

pub kept_numbered : (kept : Option Unmapped) (index : TreeIndex) (map : PlaceMap) (heading : Heading) (h : List Event)
    → SharesNumbers index map → Guarded kept index heading h → IfSome kept (λ u. IsNumberedBy u map)
kept_numbered None index map heading h numbers g = tt
kept_numbered (Some u) index map heading h numbers g = numbers ∙ sym g.1

-- it stays, and so do the tracked pages
pub guard_stays : (kept : Option Unmapped) (index index' : TreeIndex) (heading : Heading) (h : List Event)
    → pages_in index' ≡ pages_in index → Guarded kept index heading h → Guarded kept index' heading h
guard_stays None index index' heading h pages g = g
guard_stays (Some u) index index' heading h pages g = (g.0, g.1 ∙ sym pages, g.2)

-- it is the same, but for room
pub guard_same : (kept kept' : Option Unmapped) (index index' : TreeIndex) (heading : Heading) (h : List Event)
    → Becomes IsSame kept kept' → pages_in index' ≡ pages_in index → Guarded kept index heading h
    → Guarded kept' index' heading h
guard_same kept kept' index index' heading h is pages g =
    guard_becomes IsSame heading h h index index' kept kept' (λ u u' at same shares guards. (
      same.pages ∙ shares ∙ sym pages,
      guards_alike heading h (free_in u) (free_in u') (may_map u) (may_map u') same.free same.may guards,
    )) is g

-- an event that maps nothing
pub guard_next : {heading : Heading} → Laws heading → {h : List Event} {v : View} → Told heading h v → (e : Event)
    → events.may_map e ≡ false → broken heading Patterns h e ≡ None → (kept : Option Unmapped) (index : TreeIndex)
    → Guarded kept index heading h → Guarded kept index heading (e ∷ h)
guard_next laws t e idle unbroken None index g = g
guard_next {heading} laws {h} t e idle unbroken (Some u) index g = (
  g.0,
  g.1,
  laws.guards.others h e (free_in u) (may_map u) (laws.proper t.proper)
      (kept_next heading Patterns h e t.kept unbroken) idle g.2,
)

-- pages that were attached, as the judge listed them
pub guard_attached : (heading : Heading) (h h' : List Event) (index index' : TreeIndex) (map : PlaceMap)
    (starts : List Node) → pages_in index' ≡ pages_in index
    → ((u u' : Unmapped) → CoversAttached (IsAttached index map starts) (value_at map) (free_in u) (free_in u')
    (may_map u) (may_map u') → Guards heading h (free_in u) (may_map u) → Guards heading h' (free_in u') (may_map u'))
    → (kept kept' : Option Unmapped) (pages : List AttachedPage) → Passes index map starts kept pages
    → Becomes (CoversListed map pages) kept kept' → Guarded kept index heading h → Guarded kept' index' heading h'
guard_attached heading h h' index index' map starts same step kept kept' pages pass covers g =
    guard_becomes (CoversListed map pages) heading h h' index index' kept kept' (λ u u' at c shares guards.
    let passes : Passes index map starts (Some u) pages
    = subst (λ (x : Option Unmapped). Passes index map starts x pages) at pass in (
      c.0 ∙ shares ∙ sym same,
      step u u' (covers_listed (IsAttached index map starts) pages passes.0 (value_at map) (free_in u) (free_in u')
          (may_map u) (may_map u') c.1) guards,
    )) covers g

-- a value that was written
pub guard_covered : (heading : Heading) (h h' : List Event) (index : TreeIndex) (kind : Kind) (level place value : ℕ)
    → ((free free' : ℕ → Bool) (may may' : ℕ → ℕ → Bool) → CoversLeaf kind level place value free free' may may'
    → Guards heading h free may → Guards heading h' free' may')
    → (kept kept' : Option Unmapped) → Becomes (CoversValue kind level place value) kept kept'
    → Guarded kept index heading h → Guarded kept' index heading h'
guard_covered heading h h' index kind level place value step kept kept' covers g =
    guard_becomes (CoversValue kind level place value) heading h h' index index kept kept'
    (λ u u' at c shares guards. (
      c.0 ∙ shares,
      step (free_in u) (free_in u') (may_map u) (may_map u') c.1 guards,
    )) covers g

-- one that maps nothing, written where something is kept or not
pub covers_nothing : (kind : Kind) (level place value : ℕ)
    → ((page : ℕ) → maps kind level value page ≡ false) → (kept : Option Unmapped)
    → Becomes (CoversValue kind level place value) kept kept
covers_nothing kind level place value none None = refl
covers_nothing kind level place value none (Some u) = (
  u,
  refl,
  (
    refl,
    record {
      free = λ page. sym (ap (λ b. free_in u page && not b) (none page) ∙ and-true (free_in u page));
      grows = λ table page k. k;
      own = λ page k. absurd (true≢false (sym k ∙ none page));
    },
  ),
)

-- ---- what the rule says of attached pages

module _ (heading : Heading) (h : List Event) (e : Event) (index : TreeIndex) (map : PlaceMap) (starts : List Node)
    (off : heading.words.isolated ≡ false → table_mapped heading Patterns (notes heading h) e ≡ None)
    (judged : (u : Unmapped) (o : Option ℕ) → heading.words.isolated ≡ true → Guards heading h (free_in u) (may_map u)
    → LeastOf (IsBad index map starts u) o → table_mapped heading Patterns (notes heading h) e ≡ o) where
  pub passes : (kept : Option Unmapped) (pages : List AttachedPage) → Passes index map starts kept pages
      → Guarded kept index heading h → table_mapped heading Patterns (notes heading h) e ≡ None
  passes None pages k g = off g
  passes (Some u) pages k g = judged u None g.0 g.2 k.1

  pub refuses : (kept : Option Unmapped) (fault : StepFault) (limit : Option Which)
      → Refuses index map starts kept fault → Guarded kept index heading h
      → broken heading Patterns h e ≡ found TableMapped (table_mapped heading Patterns (notes heading h) e) None
      → Answers (Err fault) (broken heading Patterns h e) limit
  refuses (Some u) (Broken TableMapped page) limit k g is = rw (is, judged u (Some page) g.0 g.2 k) refl
  refuses (Some u) NoMemory limit k g is = tt
  refuses kept fault limit k g is = absurd k
