-- Emptied places: by which event a place comes to be emptied, and that it was seen at every PE.
use Rattle.bbm_rules.proofs.Common.{◌≡◌, ℕ, zero, suc, ◌<◌, ◌⊎◌, ◌&&◌, ◌||◌, not, Bool, true, false, cond, ◌==◌, List, []}
use Rattle.bbm_rules.proofs.Common.{◌∷◌, ◌++◌, map, Option, Some, None, refl, sym, ◌∙◌, ap, subst, inl, inr, true≢false}
use Rattle.bbm_rules.proofs.Common.{and_parts, and_from, or_cases, or_left, or_right, Kind, is_valid, Trust, Barrier, Dsb}
use Rattle.bbm_rules.proofs.Common.{seen, writes, publishes_write, publishes_to, some, ValidWrite, last_valid}
use Rattle.bbm_rules.proofs.Common.{last_valid_after, later, Noted, page_of, option_map_or, next_of, any, places_in}
use Rattle.bbm_rules.proofs.Common.{events_of, cleansed, is_some}
use Rattle.bbm_events.specs.Heading.{Heading}
use Rattle.bbm_events.specs.declared.event.Event.{Event}
use Rattle.bbm_events.specs.declared.event.Event.TheVariants.{Init, Write}
use Rattle.bbm_lemmas.proofs.Every.{every_at}
use Rattle.bbm_rules.proofs.HeldLemmas.{Older, older}
use Rattle.bbm_rules.proofs.Patterns.{cleansed_is_seen, is_write, seen_stays}
use Rattle.bbm_rules.specs.Cleansing.{above, seen_where}
use Rattle.bbm_rules.specs.Held.{above_everywhere, emptied, emptied_after, emptied_by, emptied_in, empties_tables}
use Rattle.bbm_rules.specs.Held.{held_unless, is_empty_above}
use Rattle.bbm_rules.specs.Notes.{topped}

-- ---- the last valid write

module _ (kind : Kind) (level place : ℕ) where
  -- whether no value that was written before is the last valid one any more
  abbrev pub ends_last : Event → Bool
  ends_last (Write pe at value) = at == place && is_valid kind level value
  ends_last (Init pe page) = page == page_of place
  ends_last _ = false

  pub last_goes_on : (e : Event) (n : Noted) (found : Option ValidWrite) → ends_last e ≡ false
      → last_valid_after kind level place e n found ≡ later n found
  last_goes_on (Write pe at value) n found k =
      ap (λ (b : Bool). cond b (Some (record { value = value; since = [] })) (later n found)) k
  last_goes_on (Init pe page) n found k = ap (λ (b : Bool). cond b None (later n found)) k
  last_goes_on e n found k = refl

-- ---- top covers change nothing of what is seen

pub wrote_topped : (q place : ℕ) (since : List Noted) → some (is_write q place) (map topped since) ≡ some (is_write q place) since
wrote_topped q place [] = refl
wrote_topped q place (n ∷ since) = ap (λ (b : Bool). writes q place n.event || b) (wrote_topped q place since)

module _ (heading : Heading) (place p : ℕ) where
  publishes_topped : (e : Event) (since : List Noted)
      → publishes_write heading place p e (map topped since) ≡ publishes_write heading place p e since
  publishes_topped (Dsb q dsb) since = ap (λ (b : Bool). publishes_to heading dsb q p && b) (wrote_topped q place since)
  publishes_topped e since = refl

  pub seen_topped : (since : List Noted) → seen heading place p (map topped since) ≡ seen heading place p since
  seen_topped [] = refl
  seen_topped (n ∷ since) =
      ap (λ (b : Bool). (b && true) || seen heading place p (map topped since)) (publishes_topped n.event since)
      ∙ ap (λ (b : Bool). (publishes_write heading place p n.event since && true) || b) (seen_topped since)

  pub above_is_seen : (trust : Trust) (since : List Noted) → above heading trust place p since ≡ true
      → seen heading place p since ≡ true
  above_is_seen trust since k =
      sym (seen_topped since) ∙ cleansed_is_seen heading trust place p (map topped since) k

-- ---- by one event more

-- the event is a DSB
abbrev pub IsBarrier : Event → Type 0
IsBarrier e = (q : ℕ) × (dsb : Barrier) × (e ≡ Dsb q dsb)

module _ (heading : Heading) (trust : Trust) (kind : Kind) (level place : ℕ) where
  pub still_emptied : (e : Event) (now before : Bool) → ends_last kind level place e ≡ false → before ≡ true
      → emptied_after heading trust kind level place e now before ≡ true
  still_emptied (Write pe at value) now before k t = and_from _ before (ap not k) t
  still_emptied (Init pe page) now before k t = and_from _ before (ap not k) t
  still_emptied (Dsb pe dsb) now before k t = or_left before now t
  still_emptied e now before k t = t

  -- it was emptied before, or the event is a DSB that empties it now; and the last valid write goes on
  pub emptied_then : (e : Event) (now before : Bool) → emptied_after heading trust kind level place e now before ≡ true
      → (ends_last kind level place e ≡ false) × ((before ≡ true) ⊎ (IsBarrier e × (now ≡ true)))
  emptied_then (Write pe at value) now before t =
      let parts = and_parts (not (at == place && is_valid kind level value)) before t in
      (by (at == place && is_valid kind level value) parts.0, inl parts.1)
    where
      by : (b : Bool) → not b ≡ true → b ≡ false
      by true k = sym k
      by false k = refl
  emptied_then (Init pe page) now before t =
      let parts = and_parts (not (page == page_of place)) before t in
      (by (page == page_of place) parts.0, inl parts.1)
    where
      by : (b : Bool) → not b ≡ true → b ≡ false
      by true k = sym k
      by false k = refl
  emptied_then (Dsb pe dsb) now before t =
      (refl, elim (or_cases before now t) [ inl b ↦ inl b | inr n ↦ inr ((pe, dsb, refl), n) ])
  emptied_then e now before t = (refl, inl t)

  -- what is empty and above was seen
  empty_is_seen : (holds : ℕ → List Noted → Bool) (h : List Noted) (w : ValidWrite) (p : ℕ) → p < heading.pes
      → (o : Option ValidWrite) → o ≡ Some w
      → option_map_or (λ (v : ValidWrite). option_map_or (λ next. above_everywhere heading trust place v.since
      && not (any (λ below. holds below h) (places_in (events_of h) next))) (next_of kind level v.value) false) o false ≡ true
      → seen heading place p w.since ≡ true
  empty_is_seen holds h w p is_pe None e t = cc
  empty_is_seen holds h w p is_pe (Some v) e t =
      let same : v ≡ w = cc in
      subst (λ (x : ValidWrite). seen heading place p x.since ≡ true) same (by (next_of kind level v.value) t)
    where
      by : (o : Option ℕ) → option_map_or (λ next. above_everywhere heading trust place v.since
          && not (any (λ below. holds below h) (places_in (events_of h) next))) o false ≡ true
          → seen heading place p v.since ≡ true
      by None t = absurd (true≢false (sym t))
      by (Some next) t =
          let parts = and_parts (above_everywhere heading trust place v.since) (not (any (λ below. holds below h) (places_in (events_of h) next))) t in
          above_is_seen heading place p trust v.since
          (every_at heading.pes (λ (p : ℕ). above heading trust place p v.since) parts.0 p is_pe)

  emptied_by_seen : (holds : ℕ → List Noted → Bool) (h : List Noted) (w : ValidWrite) (p : ℕ) → p < heading.pes
      → emptied_by heading trust holds kind level place h ≡ true → last_valid kind level place h ≡ Some w
      → seen heading place p w.since ≡ true
  emptied_by_seen holds [] w p is_pe t last = absurd (true≢false (sym t))
  emptied_by_seen holds (n ∷ h) w p is_pe t last =
      let s = emptied_then n.event (is_empty_above heading trust holds kind level place (n ∷ h))
      (emptied_by heading trust holds kind level place h) t in
      elim s.1 [
        | inl before ↦
            let o : Older n (last_valid kind level place h) w = older n (last_valid kind level place h) w
            (sym (last_goes_on kind level place n.event n (last_valid kind level place h) s.0) ∙ last) in
            subst (λ (xs : List Noted). seen heading place p xs ≡ true) o.longer
            (seen_stays heading place p (n ∷ []) o.before.since (emptied_by_seen holds h o.before p is_pe before o.is))
        | inr now ↦ empty_is_seen holds (n ∷ h) w p is_pe (last_valid kind level place (n ∷ h)) last now.1
      ]

  -- whether a place one level deeper holds something
  abbrev pub holds_below : ℕ → List Noted → Bool
  holds_below below older = is_some (held_unless heading trust (emptied_in heading trust 2 kind (suc level) below older)
      kind (suc level) below older)

  pub emptied_seen : (h : List Noted) (w : ValidWrite) (p : ℕ) → p < heading.pes
      → emptied heading trust kind level place h ≡ true → last_valid kind level place h ≡ Some w
      → seen heading place p w.since ≡ true
  emptied_seen h w p is_pe t last =
      emptied_by_seen holds_below h w p is_pe
      (and_parts (empties_tables heading.version) (emptied_in heading trust 3 kind level place h) t).1 last
