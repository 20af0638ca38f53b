-- Cells that a DSB visits one after another.
use Rattle.bbm_place_map.proofs.Common.{Bool, Contains, List, None, Option, Some, ap, arith, false, inl, inr, length}
use Rattle.bbm_place_map.proofs.Common.{nat_lt, refl, slice_get, slice_index, subst, sym, true, ℕ, ◌+◌, ◌<◌, ◌∙◌, ◌≡◌}
use Rattle.bbm_place_map.proofs.Common.{◌≢◌, ◌≤◌, ◌⊎◌, cases_eq, false≢true, lt-ltb, ltb-true, get_or_default}
use Rattle.bbm_place_map.proofs.Common.{same_Some, slice_get_within, option_map, slot_in, Does, MayDo, loses}
use Rattle.bbm_place_map.proofs.Common.{cell_at, entry_in, entry_of, marks_of, Linked, Entries, Entry, Barrier, Effect}
use Rattle.bbm_place_map.proofs.Common.{Complete, Global, Publish, SameSize, Vec, if◌then◌else◌, nat_eq}
use Rattle.bbm_place_map.proofs.Common.{position, position_at, put_away, put_here}
use Rattle.bbm_place_map.specs.Dsbs.{KeepsSeats, Visited, VisitsAt}
use Rattle.bbm_place_map.proofs.Common.{entry_of_cell}
use Rattle.bbm_place_map.specs.Each.{with_page}
use Rattle.std.proofs.lemmas.List.Elements.{Contains-append_left, Contains-push, Contains-push_cases}
use Rattle.bbm_place_map.proofs.Positions.{entries_changed, positions_changed, still_more, still_same, still_seated}
use Rattle.bbm_place_map.proofs.Seats.{by_entry, seat_of, the_cell}
use Rattle.bbm_place_map.proofs.Resting.{stays_kept}
use Rattle.bbm_place_map.proofs.Doing.{does_again, does_at, does_none, lost_here, lost_once, lost_stays}
use Rattle.bbm_place_map.proofs.Common.{[], ◌∷◌, ◌++◌, none-some}
use Rattle.std.proofs.lemmas.Bool.{false_from_ne_true}

pub seats_by : (effect : Effect) (old new : List Entry) → length new ≡ length old → ((m : ℕ) → position_at new m ≡ position_at old m)
    → KeepsSeats effect old new
seats_by (Publish heard) old new len positions = (len, positions)
seats_by Complete old new len positions = tt

seats_then : (effect : Effect) (old mid new : List Entry) → KeepsSeats effect old mid → KeepsSeats effect mid new → KeepsSeats effect old new
seats_then (Publish heard) old mid new a b = (b.0 ∙ a.0, λ m. b.1 m ∙ a.1 m)
seats_then Complete old mid new a b = tt

-- no visit, and one after another
pub no_visit : (effect : Effect) (entries : Entries) (lost : Vec ℕ Global) → Visited effect entries entries lost lost
no_visit effect entries lost = record {
  sound = still_same entries;
  seats = seats_by effect entries.list.items entries.list.items refl (λ m. refl);
  space = refl;
  room = omega arith;
}

pub visit_then : {effect : Effect} {old mid new : Entries} {lost lost' lost'' : Vec ℕ Global} → Visited effect old mid lost lost'
    → Visited effect mid new lost' lost'' → Visited effect old new lost lost''
visit_then {effect} {old} {mid} {new} a b = record {
  sound = still_more a.sound b.sound;
  seats = seats_then effect old.list.items mid.list.items new.list.items a.seats b.seats;
  space = b.space ∙ a.space;
  room = omega (arith, a.room, b.room);
}

-- an entry changed, and stays
pub visit_stays : (effect : Effect) (by : Barrier) (old new : Entries) (lost : Vec ℕ Global) (k : ℕ) (e f : Entry) → new.cells ≡ old.cells
    → slice_get old.list.items k ≡ Some e → position f ≡ position e
    → ((i : ℕ) → slice_get new.list.items i ≡ (if nat_eq i k then Some f else slice_get old.list.items i)) → SameSize old.list new.list
    → Does effect by (Some e) (Some f) → VisitsAt effect by k old new lost lost
visit_stays effect by old new lost k e f same was seated gets size does =
    let at = old.linked.back e.cell k (ap (option_map the_cell) was) in
    let positions = positions_changed old.cells.items old.list.items new.list.items e f e.cell k old.linked at was seated gets in
    let is = λ (i : ℕ). ap (λ (v : Vec ℕ Global). entry_in v.items new.list.items i) same
    ∙ entries_changed old.cells.items old.list.items new.list.items e f e.cell k old.linked at was seated gets i in
    let here = λ (j : ℕ) (there : cell_at old.list.items k ≡ Some j). same_Some j e.cell (sym there ∙ ap (option_map the_cell) was) in
    let now = λ (j : ℕ) (there : cell_at old.list.items k ≡ Some j). put_here _ _ is j (here j there) in
    record {
      visited = record {
        sound = still_seated old new same positions size;
        seats = seats_by effect old.list.items new.list.items size.len positions;
        space = refl;
        room = omega (arith, size.len);
      };
      short = omega (arith, size.len);
      here = λ j there.
          does_at effect by (entry_of_cell old j) (Some e) (entry_of_cell new j) (Some f)
          (ap (entry_of old.list.items) (old.linked.back j k there) ∙ was) (now j there) does;
      told = λ j there.
          sym (ap (λ (o : Option Entry). with_page lost.items (loses (marks_of (entry_of_cell old j)) (marks_of o))) (now j there));
      others = λ i j there other. put_away _ _ is i (λ is'. other (is' ∙ sym (here j there)));
      front = λ m below. put_away _ _ gets m (λ is'. absurd (omega arith));
    }

-- a list with one page more has it, those before, and no others
pub with_kept : (pages : List ℕ) (o : Option ℕ) (page : ℕ) → Contains pages page → Contains (with_page pages o) page
with_kept pages None page inside = inside
with_kept pages (Some p) page inside = Contains-append_left pages (p ∷ []) page inside

with_new : (pages : List ℕ) (o : Option ℕ) (page : ℕ) → o ≡ Some page → Contains (with_page pages o) page
with_new pages None page is = absurd (none-some page is)
with_new pages (Some p) page is = subst (λ (x : ℕ). Contains (pages ++ p ∷ []) x) (same_Some p page is) (Contains-push pages p)

with_cases : (pages : List ℕ) (o : Option ℕ) (page : ℕ) → Contains (with_page pages o) page → Contains pages page ⊎ (o ≡ Some page)
with_cases pages None page inside = inl inside
with_cases pages (Some p) page inside =
    elim (Contains-push_cases pages p page inside) [
      | inl before ↦ inl before
      | inr is ↦ inr (ap (λ (x : ℕ). Some x) is)
    ]

pub none_inside : (pages : List ℕ) → pages ≡ [] → (page : ℕ) → Contains pages page → ⊥
none_inside [] none page inside = absurd (omega (arith, inside.1))
none_inside (p ∷ pages) none page inside = absurd cc

-- what it changed so far, and the next pages of the tables that left
pub record Rounded (effect : Effect) (by : Barrier) (start now : ℕ → Option Entry) (pages : List ℕ) : Type 0 where
  pub each : (j : ℕ) → MayDo effect by (start j) (now j)
  pub lost : (page : ℕ) → Contains pages page → (j : ℕ) × (loses (marks_of (start j)) (marks_of (now j)) ≡ Some page)
  pub told : (j page : ℕ) → loses (marks_of (start j)) (marks_of (now j)) ≡ Some page → Contains pages page

pub rounded_none : (effect : Effect) (by : Barrier) (start : ℕ → Option Entry) (pages : List ℕ) → pages ≡ []
    → Rounded effect by start start pages
rounded_none effect by start pages none = record {
  each = λ j. inl refl;
  lost = λ page inside. absurd (none_inside pages none page inside);
  told = λ j page left. absurd (none-some page (sym (stays_kept (start j)) ∙ left));
}

-- one more cell is visited
module _ (effect : Effect) (by : Barrier) (start mid new : ℕ → Option Entry) (m : ℕ) (pages : List ℕ) (round : Rounded effect by start mid pages)
    (here : Does effect by (mid m) (new m)) (others : (i : ℕ) → i ≢ m → new i ≡ mid i) where
  visited : (P : Option Entry → Option Entry → Type 0) → P (start m) (new m) → (i : ℕ) → (i ≢ m → P (start i) (mid i)) → P (start i) (new i)
  visited P now i before =
      elim (cases_eq i m) [
        | inl same ↦ subst (λ (x : ℕ). P (start x) (new x)) (sym same) now
        | inr other ↦ subst (P (start i)) (sym (others i other)) (before other)
      ]

  pub visited_more : (i : ℕ) → (i ≢ m → Does effect by (start i) (mid i)) → Does effect by (start i) (new i)
  visited_more = visited (Does effect by) (does_again effect by (start m) (mid m) (new m) (round.each m) here)

  each_more : (j : ℕ) → MayDo effect by (start j) (new j)
  each_more j = visited (MayDo effect by) (inr (visited_more m (λ other. absurd (other refl)))) j (λ _. round.each j)

  abbrev now : Option ℕ
  now = loses (marks_of (mid m)) (marks_of (new m))

  before_or_now : (page : ℕ) → Contains pages page ⊎ (now ≡ Some page)
      → (j : ℕ) × (loses (marks_of (start j)) (marks_of (new j)) ≡ Some page)
  before_or_now page (inr is) = (m, lost_here effect by (start m) (mid m) (new m) page (round.each m) is)
  before_or_now page (inl inside) =
      let f = round.lost page inside in (
        f.0,
        elim (cases_eq f.0 m) [
          | inl same ↦
              lost_stays effect by (start f.0) (mid f.0) (new f.0) page
              (subst (λ (x : ℕ). Does effect by (mid x) (new x)) (sym same) here) f.1
          | inr other ↦ ap (λ (o : Option Entry). loses (marks_of (start f.0)) (marks_of o)) (others f.0 other) ∙ f.1
        ],
      )

  told_now : (page : ℕ) → loses (marks_of (start m)) (marks_of (new m)) ≡ Some page → Contains (with_page pages now) page
  told_now page left =
      elim (lost_once effect by (start m) (mid m) (new m) page (round.each m) left) [
        | inl before ↦ with_kept pages now page (round.told m page before)
        | inr is ↦ with_new pages now page is
      ]

  pub rounded_more : (pages' : List ℕ) → pages' ≡ with_page pages now → Rounded effect by start new pages'
  rounded_more pages' is = subst (Rounded effect by start new) (sym is) (record {
    each = each_more;
    lost = λ page inside. before_or_now page (with_cases pages now page inside);
    told = λ j page.
        visited (λ o p. loses (marks_of o) (marks_of p) ≡ Some page → Contains (with_page pages now) page) (told_now page) j
        (λ _ left. with_kept pages now page (round.told j page left));
  })

-- the list has every cell at whose place something changes
module _ (effect : Effect) (by : Barrier) (list : List ℕ) (start new : ℕ → Option Entry)
    (known : (j : ℕ) → Contains list j ⊎ Does effect by (start j) (start j))
    (here : (i : ℕ) → i < length list → Does effect by (start (slice_index list i)) (new (slice_index list i)))
    (each : (j : ℕ) → MayDo effect by (start j) (new j)) where
  pub all_visited : (j : ℕ) → Does effect by (start j) (new j)
  all_visited j =
      elim (known j) [
        | inl c ↦
            let P : ℕ → Type 0 = λ x. Does effect by (start x) (new x) in
            subst P (get_or_default list c.0 0 j c.1 ∙ c.2) (here c.0 c.1)
        | inr still ↦
            elim (each j) [
              | inl same ↦ does_at effect by (start j) (start j) (new j) (start j) refl same still
              | inr did ↦ did
            ]
      ]

-- from the end of the entries down: whether an entry's number is still to be looked at
abbrev pub is_below : ℕ → Option ℕ → Bool
is_below k None = false
is_below k (Some m) = nat_lt m k

some_below : (k : ℕ) (o : Option ℕ) → is_below k o ≡ true → (m : ℕ) × (o ≡ Some m) × (m < k)
some_below k None h = cc
some_below k (Some m) h = (m, refl, ltb-true m k h)

-- an entry that isn't among the first ones of the whole list isn't there
pub past_visited : (effect : Effect) (by : Barrier) (cells : List ℕ) (entries : List Entry) (k : ℕ) → Linked cells entries → length entries ≤ k
    → (j : ℕ) → is_below k (slot_in cells j) ≡ false → Does effect by (entry_in cells entries j) (entry_in cells entries j)
past_visited effect by cells entries k linked whole j h =
    by_entry (λ o. Does effect by o o) (entry_in cells entries j) (λ _. does_none effect by)
    (λ e is. let s = seat_of linked j e is in
    let within : s.0 < length entries = slice_get_within entries s.0 e s.2 in
    absurd (false≢true (sym h ∙ ap (is_below k) s.1 ∙ lt-ltb s.0 k (omega arith))))

-- any other one than the last that is looked at isn't to be looked at any more, or is where it was
pub no_more : (cells cells' : List ℕ) (entries entries' : List Entry) (k m j : ℕ) → k ≡ m + 1 → Linked cells entries → Linked cells' entries'
    → ((o : ℕ) → o < m → slice_get entries' o ≡ slice_get entries o) → cell_at entries m ≡ Some j → (i : ℕ) → i ≢ j
    → is_below m (slot_in cells' i) ≡ false → is_below k (slot_in cells i) ≡ false
no_more cells cells' entries entries' k m j step linked linked' front at i other h =
    false_from_ne_true (is_below k (slot_in cells i)) (λ t.
    let s = some_below k (slot_in cells i) t in
    let lt : s.0 < k = s.2 in
    let cell : cell_at entries s.0 ≡ Some i = linked.forth i s.0 s.1 in
    elim (cases_eq s.0 m) [
      | inl same ↦ absurd (other (same_Some i j (sym cell ∙ ap (cell_at entries) same ∙ at)))
      | inr apart ↦
          let lower : s.0 < m = omega arith in
          let slot : slot_in cells' i ≡ Some s.0
          = linked'.back i s.0 (ap (option_map (λ (e : Entry). e.cell)) (front s.0 lower) ∙ cell) in
          absurd (false≢true (sym h ∙ ap (is_below m) slot ∙ lt-ltb s.0 m lower))
    ])
