-- A broken place that isn't met on the way down to an input page isn't covered by a TLBI of that page.
use Rattle.bbm_replay.proofs.Common.{node_in, marks_at, pe_in, Noted, waits, Marks, Pends, EntryState, Heading}
use Rattle.bbm_replay.proofs.Common.{PlaceMap, input_pages, is_sound, IsWay, core_at, TreeIndex, Roots, notes}
use Rattle.bbm_replay.proofs.Common.{MayBeIssued, NamedTlbi, Laws, MetFromAll, NamesOne, covers_kind, view_of}
use Rattle.bbm_rules.proofs.Common.{◌≡◌, ℕ, zero, suc, ◌+◌, ◌-◌, ◌*◌, ◌%◌, ◌<◌, ◌≤◌, ◌&&◌, ◌||◌, nat_le, Bool, true}
use Rattle.bbm_rules.proofs.Common.{false, cond, List, [], length, Option, Some, None, Contains, slice_index_or}
use Rattle.bbm_rules.proofs.Common.{is_some, refl, sym, ◌∙◌, ap, subst, arith, true≢false, not-suc-le-zero}
use Rattle.bbm_rules.proofs.Common.{le_of_suc-le-suc, and_parts, leb-true, same_flag, page_count, PeMask, Kind, Cover}
use Rattle.bbm_rules.proofs.Common.{Half, Second, Full, PlaceView, Patterns, cover_at, events_of, page_of, Event}
use Rattle.bbm_rules.proofs.Common.{TlbiOp, Tlbi, Declared, kind_in_world, pages_from, root_at, root_pages, Node}
use Rattle.bbm_rules.proofs.Common.{held_at, node_of, region_of, region_start, ◌/◌, ◌^◌}
use Rattle.bbm_entry_state.specs.EntryCalls.{counts_at}
use Rattle.bbm_tlbi_scope.specs.SameCover.{same_cover}
use Rattle.bbm_tlbi_scope.specs.declared.entry.Cover.TheVariants.{None as NoCover}
use Rattle.bbm_replay_trees.specs.NodeLaws.{Starts}
use Rattle.bbm_replay.specs.OnePage.{IsPage}
use Rattle.bbm_lemmas.proofs.Bools.{or_nothing}
use Rattle.bbm_tlbi_scope.specs.ScopeCovers as scopes
use Rattle.bbm_replay.proofs.Descents.{Top, away, foreign, lies_in, top}
use Rattle.bbm_replay.proofs.Cases.{some_or}
use Rattle.bbm_replay.proofs.SamePage.{by_view, view_covers}

-- how many pages a place of a level translates
pub width_within : (l : ℕ) → (1 ≤ input_pages l) × (input_pages l ≤ 2 ^ 27)
width_within zero = (omega arith, omega arith)
width_within (suc zero) = (omega arith, omega arith)
width_within (suc (suc zero)) = (omega arith, omega arith)
width_within (suc (suc (suc l))) = (omega (arith, deep), omega (arith, deep))
  where
    none : 3 - suc (suc (suc l)) ≡ 0
    none = omega arith

    deep : input_pages (suc (suc (suc l))) ≡ 1
    deep = ap (λ (x : ℕ). 2 ^ (12 + 9 * x) / 4096) none

-- the region of a place isn't empty
pub some_region : (n : Node) (a : ℕ) → (region_of n a).lo ≤ (region_of n a).hi
some_region n a = by (region_start n a) (input_pages n.level) (width_within n.level).0
  where
    by : (start w : ℕ) → 1 ≤ w → start ≤ start + w - 1
    by start w k = omega arith

-- a page of consecutive ones has a number
numbered : (page n q : ℕ) → Contains (pages_from page n) q → (j : ℕ) × (j < n) × (q ≡ page + 4096 * j)
numbered page zero q c = absurd (not-suc-le-zero c.1)
numbered page (suc n) q c = by c.0 c.1 c.2 (numbered (page + 4096) n q)
  where
    by : (k : ℕ) → k < length (pages_from page (suc n)) → slice_index_or (pages_from page (suc n)) k q ≡ q
        → (Contains (pages_from (page + 4096) n) q → (j : ℕ) × (j < n) × (q ≡ page + 4096 + 4096 * j))
        → (j : ℕ) × (j < suc n) × (q ≡ page + 4096 * j)
    by zero below at rest = (0, omega arith, omega (arith, at))
    by (suc k) below at rest =
        let found = rest (k, le_of_suc-le-suc below, at) in (suc found.0, omega (arith, found.1), omega (arith, found.2))

pub part_of : (heading : Heading) (kind : Kind) (page q : ℕ) → Contains (root_pages heading.world kind page) q
    → (j : ℕ) × (j < page_count heading.world kind) × (q ≡ page + 4096 * j)
part_of heading kind page q c = by (kind_in_world heading.world kind) c
  where
    by : (b : Bool) → Contains (cond b (pages_from page (page_count heading.world kind)) []) q
        → (j : ℕ) × (j < page_count heading.world kind) × (q ≡ page + 4096 * j)
    by true c = numbered page (page_count heading.world kind) q c
    by false c = absurd (not-suc-le-zero c.1)

-- noting a TLBI that covers nothing changes nothing
pub noted_none : (state : EntryState) (p : Pends) (reach : PeMask) (broadcast : Bool) → Noted state p reach broadcast NoCover p
noted_none state p reach broadcast b c q = sym (by c)
  where
    uncounted : (state : EntryState) → counts_at state NoCover q ≡ false
    uncounted state = grind arith

    by : (c : Cover) → ((same_flag broadcast b && (pe_in reach q && (same_cover c NoCover && counts_at state c q))) || waits p b c q)
        ≡ waits p b c q
    by NoCover = ap (λ z. (same_flag broadcast b && (pe_in reach q && z)) || waits p b NoCover q) (uncounted state)
        ∙ or_nothing (same_flag broadcast b) (pe_in reach q) (waits p b NoCover q)
    by Half = or_nothing (same_flag broadcast b) (pe_in reach q) (waits p b Half q)
    by Second = or_nothing (same_flag broadcast b) (pe_in reach q) (waits p b Second q)
    by Full = or_nothing (same_flag broadcast b) (pe_in reach q) (waits p b Full q)

module _ {heading : Heading} {h : List Event} (ev : events_of (notes heading h) ≡ h) {map : PlaceMap} {index : TreeIndex}
    {state : Roots} {pe : ℕ} {op : TlbiOp} {xt : ℕ} {named : NamedTlbi}
    (m : MayBeIssued heading h map index state pe op xt named) where
  -- a place isn't covered where the scope covers no view of its kind and region
  pub cover_none : (n : Node) (a : ℕ) → node_in index (page_of a) ≡ Some n
      → ((v : PlaceView) (own : Option ℕ) → v.kind ≡ n.kind → v.region ≡ region_of n a → scopes.cover_of named.scope own v ≡ NoCover)
      → cover_at heading Patterns (notes heading h) (Tlbi pe op xt) a ≡ NoCover
  cover_none n a is none = some_or (held_at heading Patterns (notes heading h) n a)
      (λ v e. sym (view_covers ev m n a v is e) ∙ none (by_view ev m a n v) named.vmid refl refl) unheld
    where
      node : node_of heading Patterns (notes heading h) (page_of a) ≡ Some n
      node = sym (m.told.nodes (page_of a)) ∙ is

      unheld : held_at heading Patterns (notes heading h) n a ≡ None
          → cover_at heading Patterns (notes heading h) (Tlbi pe op xt) a ≡ NoCover
      unheld e = cc (ev, m.names, node, e)

module _ {heading : Heading} (laws : Laws heading) {h : List Event} (starts : Starts heading)
    (ev : events_of (notes heading h) ≡ h) {map : PlaceMap} {index : TreeIndex} {state : Roots} {pe : ℕ} {op : TlbiOp}
    {xt : ℕ} {named : NamedTlbi} (m : MayBeIssued heading h map index state pe op xt named) where
  module _ (aligned : (a : ℕ) → is_some (marks_at map a) ≡ true → a % 8 ≡ 0) (at : ℕ)
      (one : NamesOne named.scope at) (Has : ℕ → Type 0)
      (met : (r : Declared) → root_at h r.page ≡ Some r → covers_kind named.scope.family r.kind ≡ true
      → MetFromAll (node_in index) (core_at map) at r.page (page_count heading.world r.kind) Has) where
    is_page : (p : ℕ) (n : Node) → node_in index p ≡ Some n → IsPage p
    is_page p n is = (is_sound index).pages p (sym (m.told.tracked p) ∙ m.told.apart.node_tracked p n is)

    found_top : (n : Node) (a : ℕ) → covers_kind named.scope.family n.kind ≡ true
        → (t : Top laws m.told at a n)
        → Has a
    found_top n a covers t =
        let own = laws.neighbours.own h (view_of map index) t.page t.start m.told.nodes t.is_start in
        let st = starts h (view_of map index) t.page t.start m.told.nodes t.is_start t.first in
        let r = st.0 in
        let part = part_of heading r.kind r.page t.start.page st.4 in
        let here : t.page ≡ r.page + 4096 * part.0 = sym own.0 ∙ part.2 in
        let same : n.kind ≡ r.kind = sym t.kind ∙ st.3 in
        let right : covers_kind named.scope.family r.kind ≡ true = ap (λ (k : Kind). covers_kind named.scope.family k) (sym same) ∙ covers in
        met r st.1 right part.0 part.1 (subst IsPage here (is_page t.page t.start t.is_start)) t.way a
        (subst (λ p. IsWay (node_in index) (core_at map) at p t.way a) here t.leads)

    pub uncovered : (a : ℕ) → is_some (marks_at map a) ≡ true
        → (Has a → cover_at heading Patterns (notes heading h) (Tlbi pe op xt) a ≡ NoCover)
        → cover_at heading Patterns (notes heading h) (Tlbi pe op xt) a ≡ NoCover
    uncovered a broken missed = some_or (node_in index (page_of a))
        (λ n is. inside n is (lies_in at (region_of n a)) (covers_kind named.scope.family n.kind) refl refl)
        (λ is. absurd (true≢false (sym broken ∙ ap (λ (x : Option Marks). is_some x) (m.told.outside a is))))
      where
        before : (start w : ℕ) → 1 ≤ w → at ≤ start + w - 1 → at < start + w
        before start w k l = omega arith

        inside : (n : Node) → node_in index (page_of a) ≡ Some n → (b k : Bool) → lies_in at (region_of n a) ≡ b
            → covers_kind named.scope.family n.kind ≡ k
            → cover_at heading Patterns (notes heading h) (Tlbi pe op xt) a ≡ NoCover
        inside n is false k e f = cover_none ev m n a is (λ v own kind region. away named.scope at one own v
            (subst (λ x. x.lo ≤ x.hi) (sym region) (some_region n a)) (ap (λ x. lies_in at x) region ∙ e))
        inside n is true false e f = cover_none ev m n a is (λ v own kind region. foreign named.scope at one own v
            (ap (λ (x : Kind). covers_kind named.scope.family x) kind ∙ f))
        inside n is true true e f =
            let both = and_parts (nat_le (region_start n a) at) (nat_le at (region_start n a + input_pages n.level - 1)) e in
            let from = leb-true (region_start n a) at both.0 in
            let to = before (region_start n a) (input_pages n.level) (width_within n.level).0 (leb-true at (region_start n a + input_pages n.level - 1) both.1) in
            missed (found_top n a f (top laws m.told at a n is (aligned a broken) from to))
