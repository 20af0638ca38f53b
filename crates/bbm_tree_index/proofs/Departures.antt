-- Pages that leave the trees, each after all that hang below it.
use Rattle.bbm_tree_index.proofs.Common.{Heading, Marks, PlaceMap, Sound, hangs_at, core_at, core_with, is_at}
use Rattle.bbm_tree_index.proofs.Common.{Leaving, Role, RootPage, Hangs, Gone, Releases, is_gone_role, leaves, marks_at}
use Rattle.bbm_tree_index.proofs.Common.{next_in, node_by, node_with, stays, value_at, IndexMap, Untracked, get}
use Rattle.bbm_tree_index.proofs.Common.{roles_of}
use Rattle.bbm_rules.proofs.Common.{◌≡◌, ◌⊎◌, ◌<◌, ◌≤◌, ◌+◌, ◌*◌, ◌∙◌, ℕ, suc, Bool, true, false, not, ◌&&◌, ◌||◌}
use Rattle.bbm_rules.proofs.Common.{◌==◌, Option, Some, None, is_some, refl, sym, ap, subst, arith, inl, inr, and_parts}
use Rattle.bbm_rules.proofs.Common.{or_parts, or_cases, eq-eqb, eqb-true, false_from_ne_true, true≢false, false≢true}
use Rattle.bbm_rules.proofs.Common.{if◌then◌else◌, none-some, same_Some, Kind, page_of, Node, node_below, nat_eq}
use Rattle.bbm_rules.proofs.Common.{unwrap_or}
use Rattle.std.proofs.lemmas.Bool.{cases_Bool, cases_lt}
use mathlib.Core.Bool.{or-true}
use Rattle.bbm_entry_state.specs.EntryStanding.{IsIdle}
use Rattle.bbm_place_map.specs.MapCalls.{Frees, KeepsValues}
use Rattle.bbm_tree_index.specs.Leaving.{Departs, Goes, Start, Takes, goes, hangs_there, has_left, hung_at}
use Rattle.bbm_tree_index.specs.declared.leaving.Leaving.TheVariants.{Unheld, Root}
use Rattle.bbm_tree_index.proofs.HeldPlaces.{table_at}
use Rattle.bbm_tree_index.proofs.Places.{each_place}
use Rattle.bbm_tree_index.proofs.Sweeping.{node_hang}

pub if_or : {A : Type 0} (a b : Bool) (g r : A) → (if a then g else (if b then g else r)) ≡ (if a || b then g else r)
if_or a b g r = grind arith

-- where a page leaves, a page that hangs on it leaves
below_stays : (map : PlaceMap) (leaving : Leaving) (n : Node) (place next : ℕ) → not (stays map leaving n) ≡ true
    → not (stays map leaving (node_below n place next)) ≡ true
below_stays map Unheld n place next e = grind arith
below_stays map (Root page) n place next e = e

pub below_leaves : (map : PlaceMap) (roles : ℕ → Role) (heading : Heading) (sound : Sound roles heading) (leaving : Leaving)
    (p parent level base first : ℕ) (kind : Kind) → roles p ≡ Hangs parent kind level base first
    → leaves (stays map leaving) (node_by roles heading (page_of parent)) ≡ true
    → leaves (stays map leaving) (node_by roles heading p) ≡ true
below_leaves map roles heading sound leaving p parent level base first kind r e =
    let found = hangs_at roles heading sound p parent level base first kind r in
    ap (leaves (stays map leaving)) (node_hang roles heading p parent level base first kind found.0 r found.1 found.2)
    ∙ below_stays map leaving found.0 parent p (sym (ap (leaves (stays map leaving)) found.1) ∙ e)

-- a page with a node isn't gone
pub not_gone : (roles : ℕ → Role) (heading : Heading) (p : ℕ) (role : Role) (n : Node) → node_with roles heading p role ≡ Some n
    → is_gone_role role ≡ false
not_gone roles heading p (RootPage kind first part) n e = refl
not_gone roles heading p (Hangs parent kind level base first) n e = refl
not_gone roles heading p _ n e = absurd (none-some n e)

-- a page that leaves has a node
pub leaver_node : (keeps : Node → Bool) (o : Option Node) → leaves keeps o ≡ true → (n : Node) × (o ≡ Some n) × (not (keeps n) ≡ true)
leaver_node keeps None e = absurd (false≢true e)
leaver_node keeps (Some n) e = (n, refl, e)

gone_is : (role : Role) → is_gone_role role ≡ true → role ≡ Gone
gone_is Gone e = refl
gone_is _ e = absurd (false≢true e)

-- a role with which a page hangs at a place
pub hangs_is : (place : ℕ) (role : Role) → hangs_there place role ≡ true
    → (kind : Kind) × (level : ℕ) × (base : ℕ) × (first : ℕ) × (role ≡ Hangs place kind level base first)
hangs_is place (Hangs parent kind level base first) e =
    (kind, level, base, first, ap (λ (x : ℕ). Hangs x kind level base first) (eqb-true parent place e))
hangs_is place _ e = absurd (false≢true e)

hung_is : (roles : ℕ → Role) (place next : ℕ) (o : Option ℕ) → hung_at roles place o ≡ Some next
    → hangs_there place (roles next) ≡ true
hung_is roles place next None e = absurd (none-some next e)
hung_is roles place next (Some x) e = by (hangs_there place (roles x)) refl e
  where
    by : (b : Bool) → hangs_there place (roles x) ≡ b → (if b then Some x else None) ≡ Some next
        → hangs_there place (roles next) ≡ true
    by true is f = subst (λ (y : ℕ). hangs_there place (roles y) ≡ true) (same_Some x next f) is
    by false is f = absurd (none-some next f)

module _ (s : Start) where
  abbrev node_at : ℕ → Option Node
  node_at = node_by s.roles s.heading

  pub below_goes : (p parent level base first : ℕ) (kind : Kind) → s.roles p ≡ Hangs parent kind level base first
      → goes s (page_of parent) ≡ true → goes s p ≡ true
  below_goes = below_leaves s.map s.roles s.heading s.sound s.leaving

  pub node_goes : (p : ℕ) → goes s p ≡ true
      → (n : Node) × (node_by s.roles s.heading p ≡ Some n) × (not (stays s.map s.leaving n) ≡ true)
  node_goes p = leaver_node (stays s.map s.leaving) (node_at p)

  -- at the start no page has left
  none_left : (p : ℕ) → has_left s s.roles p ≡ false
  none_left p = false_from_ne_true (has_left s s.roles p) (λ t.
      let both = and_parts (goes s p) (is_gone_role (s.roles p)) t in
      let n = node_goes p both.0 in
      true≢false (sym both.1 ∙ not_gone s.roles s.heading p (s.roles p) n.0 n.1))

  pub departs_none : Departs s s.roles s.map
  departs_none = record {
    left = λ p. sym (ap (λ b. if b then Gone else s.roles p) (none_left p));
    places = record {
      values = λ a. refl;
      marks = λ a. sym (ap (λ b. if b then None else marks_at s.map a) (none_left (page_of a)));
      pends = λ q a e. refl;
      dropped = λ q a e. absurd (true≢false (sym e ∙ none_left (page_of a)));
      pages = refl;
    };
    closed = λ p parent level base first kind n r at table e. absurd (true≢false (sym e ∙ none_left (page_of parent)));
  }

  module _ (roles : ℕ → Role) (map : PlaceMap) (d : Departs s roles map) where
    pub stay_same : (p : ℕ) → has_left s roles p ≡ false → roles p ≡ s.roles p
    stay_same p out = d.left p ∙ ap (λ b. if b then Gone else s.roles p) out

    -- a page with another role than that of one that is gone hasn't left
    pub not_left : (p : ℕ) → is_gone_role (roles p) ≡ false → has_left s roles p ≡ false
    not_left p e = false_from_ne_true (has_left s roles p)
        (λ t. true≢false (sym (and_parts (goes s p) (is_gone_role (roles p)) t).1 ∙ e))

    pub core_same : (kind : Kind) (level a : ℕ) → has_left s roles (page_of a) ≡ false
        → core_at map kind level a ≡ core_at s.map kind level a
    core_same kind level a out =
        ap (λ (m : Option Marks). core_with m kind level (value_at map a))
        (d.places.marks a ∙ ap (λ b. if b then None else marks_at s.map a) out)
        ∙ ap (λ v. core_with (marks_at s.map a) kind level v) (d.places.values a)

    -- at a place of a page in a tree
    module _ (page : ℕ) (n : Node) (at : node_by s.roles s.heading page ≡ Some n) (a : ℕ) (inside : page_of a ≡ page) where
      at_here : node_by s.roles s.heading (page_of a) ≡ Some n
      at_here = ap node_at inside ∙ at

      -- the page that hangs there is found, unless it has left
      pub found_or_left : (p level base first : ℕ) (kind : Kind) → s.roles p ≡ Hangs a kind level base first
          → next_in (core_at s.map n.kind n.level a) ≡ Some p
          → (has_left s roles p ≡ true) ⊎ (hung_at roles a (next_in (core_at map n.kind n.level a)) ≡ Some p)
      found_or_left p level base first kind r table =
          elim (cases_Bool (has_left s roles (page_of a))) [
            | inl gone ↦ inl (d.closed p a level base first kind n r at_here table gone)
            | inr out ↦
                elim (cases_Bool (has_left s roles p)) [
                  | inl t ↦ inl t
                  | inr f ↦
                      let there : hangs_there a (roles p) ≡ true = ap (hangs_there a) (stay_same p f ∙ r) ∙ eq-eqb a a refl in
                      inr (ap (λ o. hung_at roles a (next_in o)) (core_same n.kind n.level a out) ∙ ap (hung_at roles a) table
                      ∙ ap (λ b. if b then Some p else None) there)
                ]
          ]

      -- and a page that is found leaves with this one
      pub found_goes : (next below : ℕ) → goes s page ≡ true
          → hung_at roles a (next_in (core_at map n.kind n.level a)) ≡ Some next → below ≡ n.level + 1
          → Goes s next n.kind below
      found_goes next below g found deeper =
          let h = hangs_is a (roles next) (hung_is roles a next (next_in (core_at map n.kind n.level a)) found) in
          let kind = h.0 in let level = h.1 in let base = h.2 in let first = h.3 in
          let here : is_gone_role (roles next) ≡ false = ap is_gone_role h.4 in
          let r : s.roles next ≡ Hangs a kind level base first = sym (stay_same next (not_left next here)) ∙ h.4 in
          let up = hangs_at s.roles s.heading s.sound next a level base first kind r in
          let same : n ≡ up.0 = same_Some n up.0 (sym at_here ∙ up.1) in
          record {
            leaves = below_goes next a level base first kind r (ap (goes s) inside ∙ g);
            node = node_below up.0 a next;
            at = node_hang s.roles s.heading next a level base first kind up.0 r up.1 up.2;
            same_kind = ap (λ (m : Node). m.kind) same;
            same_level = let l : n.level ≡ up.0.level = ap (λ (m : Node). m.level) same in omega (arith, deeper, l);
          }

    -- one page more leaves, below which all have
    module _ (page : ℕ) (leaves_now : goes s page ≡ true) (roles' : ℕ → Role) (map' : PlaceMap)
        (put : (p : ℕ) → roles' p ≡ (if p == page then Gone else roles p)) (frees : Frees page map map') (keeps : KeepsValues map map')
        (all : (p parent level base first : ℕ) (kind : Kind) (n : Node) → s.roles p ≡ Hangs parent kind level base first
        → node_by s.roles s.heading (page_of parent) ≡ Some n → next_in (core_at s.map n.kind n.level parent) ≡ Some p
        → page_of parent ≡ page → has_left s roles p ≡ true) where
      left_more : (p : ℕ) → has_left s roles' p ≡ (p == page || has_left s roles p)
      left_more p = by (p == page) refl
        where
          by : (b : Bool) → (p == page) ≡ b → has_left s roles' p ≡ (b || has_left s roles p)
          by true is =
              let go : goes s p ≡ true = ap (goes s) (eqb-true p page is) ∙ leaves_now in
              let gone : is_gone_role (roles' p) ≡ true = ap is_gone_role (put p ∙ ap (λ b. if b then Gone else roles p) is) in
              ap (λ b. b && is_gone_role (roles' p)) go ∙ gone
          by false is = ap (λ r. goes s p && is_gone_role r) (put p ∙ ap (λ b. if b then Gone else roles p) is)

      places_more : Releases (has_left s roles') s.map map'
      places_more = record {
        values = λ a. keeps.values a ∙ d.places.values a;
        marks = λ a. frees.marks a ∙ ap (λ m. if page_of a == page then None else m) (d.places.marks a)
            ∙ if_or (page_of a == page) (has_left s roles (page_of a)) None (marks_at s.map a)
            ∙ ap (λ b. if b then None else marks_at s.map a) (sym (left_more (page_of a)));
        pends = λ q a e. let f = or_parts (page_of a == page) (has_left s roles (page_of a)) (sym (left_more (page_of a)) ∙ e) in
            frees.pends q a f.0 ∙ d.places.pends q a f.1;
        dropped = λ q a e.
            elim (cases_Bool (page_of a == page)) [
              | inl t ↦ frees.dropped q a t
              | inr t ↦ subst IsIdle (sym (frees.pends q a t))
                  (d.places.dropped q a (ap (λ b. b || has_left s roles (page_of a)) (sym t) ∙ sym (left_more (page_of a)) ∙ e))
            ];
        pages = keeps.pages ∙ d.places.pages;
      }

      kept_more : (p : ℕ) → has_left s roles p ≡ true → has_left s roles' p ≡ true
      kept_more p t = left_more p ∙ ap (λ b. p == page || b) t ∙ or-true (p == page)

      closed_more : (p parent level base first : ℕ) (kind : Kind) (n : Node) → s.roles p ≡ Hangs parent kind level base first
          → node_by s.roles s.heading (page_of parent) ≡ Some n → next_in (core_at s.map n.kind n.level parent) ≡ Some p
          → has_left s roles' (page_of parent) ≡ true → has_left s roles' p ≡ true
      closed_more p parent level base first kind n r at table e =
          kept_more p (
          elim (or_cases (page_of parent == page) (has_left s roles (page_of parent)) (sym (left_more (page_of parent)) ∙ e)) [
            | inl here ↦ all p parent level base first kind n r at table (eqb-true (page_of parent) page here)
            | inr before ↦ d.closed p parent level base first kind n r at table before
          ])

      pub departs_more : Departs s roles' map'
      departs_more = record {
        left = λ p. put p ∙ ap (λ r. if p == page then Gone else r) (d.left p)
            ∙ if_or (p == page) (has_left s roles p) Gone (s.roles p)
            ∙ ap (λ b. if b then Gone else s.roles p) (sym (left_more p));
        places = places_more;
        closed = closed_more;
      }

      pub page_left : has_left s roles' page ≡ true
      page_left = left_more page ∙ ap (λ b. b || has_left s roles page) (eq-eqb page page refl)

      pub left_stays : (p : ℕ) → has_left s roles p ≡ true → has_left s roles' p ≡ true
      left_stays = kept_more

-- nothing more left, and more after other pages
pub takes_none : (s : Start) (these : ℕ → Type 0) (roles : ℕ → Role) (map : PlaceMap) → ((p : ℕ) → these p → ⊥) → Departs s roles map
    → Takes s these roles roles map
takes_none s these roles map none d = record { departs = d; kept = λ p t. t; taken = λ p is. absurd (none p is) }

pub takes_then : {s : Start} {these one : ℕ → Type 0} {old mid new : ℕ → Role} {map map' : PlaceMap} (all : ℕ → Type 0)
    → Takes s these old mid map → Takes s one mid new map' → ((p : ℕ) → all p → these p ⊎ one p) → Takes s all old new map'
takes_then all before now each = record {
  departs = now.departs;
  kept = λ p t. now.kept p (before.kept p t);
  taken = λ p is starts.
      elim (each p is) [
        | inl was ↦ now.kept p (before.taken p was starts)
        | inr is' ↦ now.taken p is' starts
      ];
}

-- the page itself is the last one
pub takes_last : (s : Start) (page level : ℕ) (kind : Kind) (g : Goes s page kind level) (before roles : ℕ → Role) (map : PlaceMap)
    (d : Departs s roles map) → ((p : ℕ) → has_left s before p ≡ true → has_left s roles p ≡ true) → (roles' : ℕ → Role)
    (map' : PlaceMap) → ((p : ℕ) → roles' p ≡ (if p == page then Gone else roles p)) → Frees page map map' → KeepsValues map map'
    → ((p parent level base first : ℕ) (kind : Kind) (n : Node) → s.roles p ≡ Hangs parent kind level base first
    → node_by s.roles s.heading (page_of parent) ≡ Some n → next_in (core_at s.map n.kind n.level parent) ≡ Some p
    → page_of parent ≡ page → has_left s roles p ≡ true)
    → Takes s (λ p. p ≡ page) before roles' map' × (has_left s roles' page ≡ true)
takes_last s page level kind g before roles map d kept roles' map' put frees keeps all =
    let gone = page_left s roles map d page g.leaves roles' map' put frees keeps all in (
      record {
        departs = departs_more s roles map d page g.leaves roles' map' put frees keeps all;
        kept = λ p t. left_stays s roles map d page g.leaves roles' map' put frees keeps all p (kept p t);
        taken = λ p is e. ap (has_left s roles') is ∙ gone;
      },
      gone,
    )

-- a page that leaves is known
pub goes_known : {S : Type 0} (table : IndexMap ℕ Role S) (s : Start) (map : PlaceMap) → Departs s (roles_of table) map
    → (page level : ℕ) (kind : Kind) → Goes s page kind level → is_some (get nat_eq table page) ≡ true
goes_known table s map d page level kind g = by (get nat_eq table page) refl
  where
    by : (o : Option Role) → get nat_eq table page ≡ o → is_some o ≡ true
    by (Some r) is = refl
    by None is =
        let r : roles_of table page ≡ Untracked = ap (λ o. unwrap_or o Untracked) is in
        let was : s.roles page ≡ Untracked
        = sym (stay_same s (roles_of table) map d page (not_left s (roles_of table) map d page (ap is_gone_role r))) ∙ r in
        absurd (none-some g.node (sym (ap (node_with s.roles s.heading page) was) ∙ g.at))

-- below a page of places that hold nothing, all that hung has left
pub blank_below : (s : Start) (roles : ℕ → Role) (map : PlaceMap) (d : Departs s roles map) (page : ℕ)
    → ((a : ℕ) → page_of a ≡ page → (value_at map a ≡ 0) × (marks_at map a ≡ None))
    → (p parent level base first : ℕ) (kind : Kind) (n : Node) → s.roles p ≡ Hangs parent kind level base first
    → node_by s.roles s.heading (page_of parent) ≡ Some n → next_in (core_at s.map n.kind n.level parent) ≡ Some p
    → page_of parent ≡ page → has_left s roles p ≡ true
blank_below s roles map d page blank p parent level base first kind n r at table here =
    elim (found_or_left s roles map d page n (sym (ap (node_by s.roles s.heading) here) ∙ at) parent here p level base first kind r table) [
      | inl t ↦ t
      | inr found ↦
          let nothing = blank parent here in
          let none : hung_at roles parent (next_in (core_at map n.kind n.level parent)) ≡ None
          = (λ i. hung_at roles parent (next_in (core_with (nothing.1 i) n.kind n.level (nothing.0 i)))) in
          absurd (none-some p (sym none ∙ found))
    ]

-- Of the places of a page that leaves, those with a number below this one have nothing below them any more.
pub record Emptied (s : Start) (page : ℕ) (before roles : ℕ → Role) (map : PlaceMap) (index : ℕ) : Type 0 where
  pub departs : Departs s roles map
  pub kept : (p : ℕ) → has_left s before p ≡ true → has_left s roles p ≡ true
  pub below : (i : ℕ) → i < index → (p level base first : ℕ) (kind : Kind) (n : Node)
      → s.roles p ≡ Hangs (page + 8 * i) kind level base first → node_by s.roles s.heading page ≡ Some n
      → next_in (core_at s.map n.kind n.level (page + 8 * i)) ≡ Some p → has_left s roles p ≡ true

pub emptied_none : (s : Start) (page : ℕ) (roles : ℕ → Role) (map : PlaceMap) → Departs s roles map → Emptied s page roles roles map 0
emptied_none s page roles map d = record {
  departs = d;
  kept = λ p t. t;
  below = λ i low. absurd (omega arith);
}

module _ {s : Start} {page : ℕ} {before roles : ℕ → Role} {map : PlaceMap} {index : ℕ} (e : Emptied s page before roles map index)
    (n : Node) (at : node_by s.roles s.heading page ≡ Some n) (inside : page_of (page + 8 * index) ≡ page) (o : Option ℕ)
    (found : o ≡ hung_at roles (page + 8 * index) (next_in (core_at map n.kind n.level (page + 8 * index)))) where
  -- the page that hangs at the next place left
  module _ (roles' : ℕ → Role) (map' : PlaceMap) (d : Departs s roles' map')
      (kept : (p : ℕ) → has_left s roles p ≡ true → has_left s roles' p ≡ true)
      (left : (p : ℕ) → o ≡ Some p → has_left s roles' p ≡ true) where
    next_left : (p level base first : ℕ) (kind : Kind) (m : Node) → s.roles p ≡ Hangs (page + 8 * index) kind level base first
        → node_by s.roles s.heading page ≡ Some m → next_in (core_at s.map m.kind m.level (page + 8 * index)) ≡ Some p
        → has_left s roles' p ≡ true
    next_left p level base first kind m r is table =
        let here = subst (λ (x : Node). next_in (core_at s.map x.kind x.level (page + 8 * index)) ≡ Some p) (same_Some m n (sym is ∙ at)) table in
        elim (found_or_left s roles map e.departs page n at (page + 8 * index) inside p level base first kind r here) [
          | inl gone ↦ kept p gone
          | inr is' ↦ left p (found ∙ is')
        ]

    pub emptied_more : Emptied s page before roles' map' (index + 1)
    emptied_more = record {
      departs = d;
      kept = λ p t. kept p (e.kept p t);
      below = λ i low p level base first kind m r is table.
          elim (cases_lt i index) [
            | inl less ↦ kept p (e.below i less p level base first kind m r is table)
            | inr more ↦
                let same : i ≡ index = omega arith in
                next_left p level base first kind m (r ∙ ap (λ j. Hangs (page + 8 * j) kind level base first) same) is
                (sym (ap (λ j. next_in (core_at s.map m.kind m.level (page + 8 * j))) same) ∙ table)
          ];
    }

  pub emptied_on : o ≡ None → Emptied s page before roles map (index + 1)
  emptied_on none = emptied_more roles map e.departs (λ p t. t) (λ p is. absurd (none-some p (sym none ∙ is)))

-- after all places of the page nothing is below it
pub all_emptied : {s : Start} {page : ℕ} {before roles : ℕ → Role} {map : PlaceMap} {index : ℕ} → Emptied s page before roles map index
    → 512 ≤ index → (p parent level base first : ℕ) (kind : Kind) (n : Node) → s.roles p ≡ Hangs parent kind level base first
    → node_by s.roles s.heading (page_of parent) ≡ Some n → next_in (core_at s.map n.kind n.level parent) ≡ Some p
    → page_of parent ≡ page → has_left s roles p ≡ true
all_emptied {s} {page} {before} {roles} {map} {index} e end p parent level base first kind n r at table here =
    let inside : is_at page parent ≡ true = table_at s.map n.kind n.level page parent p here table in
    each_place page (λ a. s.roles p ≡ Hangs a kind level base first → next_in (core_at s.map n.kind n.level a) ≡ Some p
    → has_left s roles p ≡ true)
    (λ j low r' table'. e.below j (omega (arith, end, low)) p level base first kind n r' (sym (ap (node_by s.roles s.heading) here) ∙ at) table')
    parent inside r table

-- and below a page of level 3 nothing is
pub none_below : (s : Start) (page : ℕ) (n : Node) → node_by s.roles s.heading page ≡ Some n → 3 ≤ n.level
    → (roles : ℕ → Role) (p parent level base first : ℕ) (kind : Kind) (m : Node) → s.roles p ≡ Hangs parent kind level base first
    → node_by s.roles s.heading (page_of parent) ≡ Some m → next_in (core_at s.map m.kind m.level parent) ≡ Some p
    → page_of parent ≡ page → has_left s roles p ≡ true
none_below s page n at deep roles p parent level base first kind m r is table here =
    let up = hangs_at s.roles s.heading s.sound p parent level base first kind r in
    let same : up.0 ≡ n = same_Some up.0 n (sym up.1 ∙ ap (node_by s.roles s.heading) here ∙ at) in
    let l : up.0.level ≡ n.level = ap (λ (x : Node). x.level) same in
    let low : suc up.0.level < 4 = s.sound.shallow p (node_below up.0 parent p)
    (node_hang s.roles s.heading p parent level base first kind up.0 r up.1 up.2) in
    absurd (omega (arith, deep, low, l))
