-- What is kept of the claims that are true, after one more claim and after one more event, and what it says.
use Rattle.bbm_claims.proofs.Common.{slice_set, and-false, or-false, set_split, notes_behind, notes_of, Kept, ends_now}
use Rattle.bbm_claims.proofs.Common.{tells, Known, claim_mark, is_of, is_true_of, Cleansing}
use Rattle.bbm_rules.proofs.Common.{◌≡◌, ℕ, suc, ◌+◌, ◌≤◌, ◌<◌, Bool, true, false, cond, ◌&&◌, ◌||◌, nat_eq, nat_lt}
use Rattle.bbm_rules.proofs.Common.{◌==◌, inl, inr, true≢false, List, [], ◌∷◌, ◌++◌, length, take, drop, get_or}
use Rattle.bbm_rules.proofs.Common.{reverse, refl, sym, ◌∙◌, ap, subst, arith, drop-cons, cases_eq, eq-eqb, eqb-true}
use Rattle.bbm_rules.proofs.Common.{ne_eqb, length-reverse, reverse-append, take-append-drop, list_any-append, proved}
use Rattle.bbm_rules.proofs.Common.{Is, Claim, Place, Two, Taken, PeMask, Listed, cleansed, any, Noted, Heading, Event}
use Rattle.bbm_rules.proofs.Common.{Dsb, is_none_of}
use Rattle.bbm_regimes.specs.PeMask.{pe_in}
use Rattle.bbm_rules.specs.Notes.{topped}
use Rattle.bbm_rules.proofs.Common.{map, map-append, reverse_more}
use Rattle.bbm_oracle_patterns.specs.Kept.{note_of}
use Rattle.bbm_claims.specs.Cleansings.{Tell, counts, is_barrier}
use Rattle.bbm_claims.specs.Marks.{completed_mark, end_of}
use Rattle.bbm_claims.proofs.Claimed.{cleansed_is}
use Rattle.bbm_claims.proofs.Kepts.{length_before, numbered}
use Rattle.bbm_claims.proofs.Marked.{Numbered, mark_none}
use Rattle.bbm_claims.proofs.Tests.{any_both, none_below}
use Rattle.bbm_oracle_patterns.proofs.KeptNotes.{length_notes, notes_append, notes_whole}

-- ---- the newer events of a log

whole : (log : List Kept) (i : ℕ) → i ≤ length log
    → notes_of (reverse log) ≡ notes_behind i (reverse (drop i log)) ++ notes_of (reverse (take i log))
whole log i within =
    let count : 0 + length (reverse (take i log)) ≡ i = omega (arith, length_before log i within) in
    notes_whole (reverse log)
    ∙ ap (λ (ks : List Kept). notes_behind 0 (reverse ks)) (sym (take-append-drop i log))
    ∙ ap (notes_behind 0) (reverse-append (take i log) (drop i log))
    ∙ notes_append 0 (reverse (drop i log)) (reverse (take i log))
    ∙ ap (λ (n : ℕ). notes_behind n (reverse (drop i log)) ++ notes_behind 0 (reverse (take i log))) count
    ∙ ap (λ (ns : List Noted). notes_behind i (reverse (drop i log)) ++ ns) (sym (notes_whole (reverse (take i log))))

length_topped : (h : List Noted) → length (map topped h) ≡ length h
length_topped [] = refl
length_topped (n ∷ h) = ap suc (length_topped h)

module _ (heading : Heading) (known : Known heading) where
  -- what is kept says at which PEs the place is cleansed
  pub kept_cleansed : (claims : List Claim) (kept : List Cleansing) (log : List Kept) (from place p : ℕ)
      → from ≤ length log → Tell heading claims (notes_of (reverse log)) kept
      → tells kept place p from
      ≡ cleansed heading (Listed claims) place p (notes_behind from (reverse (drop from log)))
  kept_cleansed claims kept log from place p within tell =
      let newer : List Noted = notes_behind from (reverse (drop from log)) in
      let older : List Noted = notes_of (reverse (take from log)) in
      let at : notes_of (reverse log) ≡ newer ++ older = whole log from within in
      let count : from ≡ length older
      = sym (length_notes (reverse (take from log)) ∙ length_before log from within) in
      tell place p from
      ∙ ap (λ (n : ℕ). any (is_true_of heading place p n (notes_of (reverse log))) claims) count
      ∙ ap (λ (h : List Noted). any (is_true_of heading place p (length older) h) claims) at
      ∙ sym (cleansed_is heading known place p claims newer older
      (subst (λ (h : List Noted). Numbered h) at (numbered (reverse log))))

  numbered_topped : (h : List Noted) → Numbered h → Numbered (map topped h)
  numbered_topped [] x = tt
  numbered_topped (n ∷ h) x = (x.0 ∙ ap suc (sym (length_topped h)), numbered_topped h x.1)

  -- the same of top covers
  pub kept_above : (claims : List Claim) (kept : List Cleansing) (log : List Kept) (from place p : ℕ)
      → from ≤ length log → Tell heading claims (map topped (notes_of (reverse log))) kept
      → tells kept place p from
      ≡ cleansed heading (Listed claims) place p (map topped (notes_behind from (reverse (drop from log))))
  kept_above claims kept log from place p within tell =
      let newer : List Noted = map topped (notes_behind from (reverse (drop from log))) in
      let older : List Noted = map topped (notes_of (reverse (take from log))) in
      let at : map topped (notes_of (reverse log)) ≡ newer ++ older = ap (map topped) (whole log from within)
      ∙ map-append topped (notes_behind from (reverse (drop from log))) (notes_of (reverse (take from log))) in
      let count : from ≡ length older
      = sym (length_topped (notes_of (reverse (take from log))) ∙ length_notes (reverse (take from log))
      ∙ length_before log from within) in
      tell place p from
      ∙ ap (λ (n : ℕ). any (is_true_of heading place p n (map topped (notes_of (reverse log)))) claims) count
      ∙ ap (λ (h : List Noted). any (is_true_of heading place p (length older) h) claims) at
      ∙ sym (cleansed_is heading known place p claims newer older
      (subst (λ (h : List Noted). Numbered h) at (numbered_topped (notes_of (reverse log)) (numbered (reverse log)))))

-- one more event of the log as if each covered as far as its top cover says
pub topped_more : (tops log : List Kept) (i : ℕ) (top kept : Kept) → i < length log → kept ≡ get_or log i kept
    → notes_of (reverse tops) ≡ map topped (notes_of (reverse (take i log)))
    → ((before : ℕ) → note_of before top ≡ topped (note_of before kept))
    → notes_of (reverse (tops ++ top ∷ [])) ≡ map topped (notes_of (reverse (take (i + 1) log)))
topped_more tops log i top kept less is before now =
    let count : length (reverse tops) ≡ length (reverse (take i log)) =
    sym (length_notes (reverse tops)) ∙ ap (λ (h : List Noted). length h) before
    ∙ length_topped (notes_of (reverse (take i log))) ∙ length_notes (reverse (take i log)) in
    ap notes_of (reverse-append tops (top ∷ []))
    ∙ ap (λ (n : Noted). n ∷ notes_of (reverse tops)) (now (length (reverse tops)))
    ∙ ap (λ (h : List Noted). topped (note_of (length (reverse tops)) kept) ∷ h) before
    ∙ ap (λ (n : ℕ). topped (note_of n kept) ∷ map topped (notes_of (reverse (take i log)))) count
    ∙ ap (λ (ks : List Kept). map topped (notes_of ks)) (reverse_more log i kept less is)

-- ---- one more event

module _ (heading : Heading) (place p n : ℕ) where
  true_next : (k : Noted) (h : List Noted) (claim : Claim)
      → (is_true_of heading place p n h claim || ends_now heading k.event h place p n claim)
      ≡ is_true_of heading place p n (k ∷ h) claim
  true_next k h claim = by (end_of claim == suc (length h)) refl
    where
      mark : ℕ
      mark = claim_mark heading claim h

      by : (here : Bool) → (end_of claim == suc (length h)) ≡ here
          → ((is_of place p claim && nat_lt n mark)
          || (here && (is_of place p claim && nat_lt n (completed_mark heading claim k.event h))))
          ≡ (is_of place p claim && nat_lt n (cond here (completed_mark heading claim k.event h) mark))
      by true at =
          let e = eqb-true (end_of claim) (suc (length h)) at in
          let none : mark ≡ 0 = mark_none (end_of claim) (λ m before. completed_mark heading claim m.event before) h
          (omega arith) in
          ap (λ (m : ℕ). (is_of place p claim && nat_lt n m)
          || (is_of place p claim && nat_lt n (completed_mark heading claim k.event h))) none
          ∙ ap (λ (b : Bool). (is_of place p claim && b)
          || (is_of place p claim && nat_lt n (completed_mark heading claim k.event h))) (none_below n)
          ∙ ap (λ (b : Bool). b || (is_of place p claim && nat_lt n (completed_mark heading claim k.event h)))
          (and-false (is_of place p claim))
      by false at = or-false (is_of place p claim && nat_lt n mark)

  pub tell_next : (claims : List Claim) (k : Noted) (h : List Noted)
      → (any (is_true_of heading place p n h) claims || any (ends_now heading k.event h place p n) claims)
      ≡ any (is_true_of heading place p n (k ∷ h)) claims
  tell_next claims k h =
      any_both (is_true_of heading place p n h) (ends_now heading k.event h place p n)
      (is_true_of heading place p n (k ∷ h)) claims (true_next k h)

  -- no event but a barrier ends a claim
  unended : (e : Event) (h : List Noted) → is_barrier e ≡ false → (claim : Claim)
      → ends_now heading e h place p n claim ≡ false
  unended e h none claim =
      ap (λ (m : ℕ). end_of claim == suc (length h) && (is_of place p claim && nat_lt n m)) (unmarked e claim none)
      ∙ ap (λ (b : Bool). end_of claim == suc (length h) && (is_of place p claim && b)) (none_below n)
      ∙ ap (λ (b : Bool). end_of claim == suc (length h) && b) (and-false (is_of place p claim))
      ∙ and-false (end_of claim == suc (length h))
    where
      unmarked : (e : Event) (claim : Claim) → is_barrier e ≡ false → completed_mark heading claim e h ≡ 0
      unmarked (Dsb q dsb) claim k = absurd (true≢false k)
      unmarked e (Place r a b t d) k = refl
      unmarked e (Two r a b t1 d1 t2 d2) k = refl
      unmarked e (Taken r tag t d) k = refl

  pub none_ends : (claims : List Claim) (e : Event) (h : List Noted) (before : Bool) → is_barrier e ≡ false
      → before ≡ (before || any (ends_now heading e h place p n) claims)
  none_ends claims e h before none =
      sym (ap (λ (b : Bool). before || b) (is_none_of (ends_now heading e h place p n) claims (λ c i. unended e h none c))
      ∙ or-false before)

  -- a claim that ends elsewhere, or here
  ends_at : (e : Event) (log : List Kept) (claim : Claim) → suc (length (notes_of (reverse log))) ≡ length log + 1
  ends_at e log claim = omega (arith, length_notes (reverse log), length-reverse log)

  pub ends_elsewhere : (e : Event) (log : List Kept) (claim : Claim) (before : Bool)
      → (end_of claim ≡ length log + 1 → ⊥)
      → before ≡ (before || ends_now heading e (notes_of (reverse log)) place p n claim)
  ends_elsewhere e log claim before apart =
      let gone : (end_of claim == suc (length (notes_of (reverse log)))) ≡ false
      = ne_eqb (end_of claim) (suc (length (notes_of (reverse log)))) (λ k. apart (k ∙ ends_at e log claim)) in
      sym (ap (λ (b : Bool). before || (b && (is_of place p claim
      && nat_lt n (completed_mark heading claim e (notes_of (reverse log)))))) gone
      ∙ or-false before)

  pub ends_here : (e : Event) (log : List Kept) (claim : Claim) (mark : ℕ) → end_of claim ≡ length log + 1
      → mark ≡ completed_mark heading claim e (notes_of (reverse log))
      → (is_of place p claim && nat_lt n mark) ≡ ends_now heading e (notes_of (reverse log)) place p n claim
  ends_here e log claim mark at is =
      let here : (end_of claim == suc (length (notes_of (reverse log)))) ≡ true
      = eq-eqb (end_of claim) (suc (length (notes_of (reverse log)))) (at ∙ sym (ends_at e log claim)) in
      ap (λ (m : ℕ). is_of place p claim && nat_lt n m) is
      ∙ ap (λ (b : Bool). b && (is_of place p claim
      && nat_lt n (completed_mark heading claim e (notes_of (reverse log))))) (sym here)

-- at the start
pub tell_nothing : (heading : Heading) (claims : List Claim) (place p n : ℕ)
    → false ≡ any (is_true_of heading place p n []) claims
tell_nothing heading claims place p n =
    sym (is_none_of (is_true_of heading place p n []) claims
    (λ c i. ap (λ (b : Bool). is_of place p c && b) (none_below n) ∙ and-false (is_of place p c)))

-- ---- one more claim

eq_sym : (m n : ℕ) → nat_eq m n ≡ (n == m)
eq_sym m n =
    elim (cases_eq m n) [
      | inl same ↦ eq-eqb m n same ∙ sym (eq-eqb n m (sym same))
      | inr apart ↦ ne_eqb m n apart ∙ sym (ne_eqb n m (λ k. apart (sym k)))
    ]

-- what is kept of a write, with one PE more
pub tells_set : (kept : List Cleansing) (i : ℕ) (old : Cleansing) (pes : PeMask) (place pe since a p n : ℕ)
    → i < length kept
    → old ≡ get_or kept i old → old.place ≡ place → old.since ≡ since → pe_in pes p ≡ (pe_in old.pes p || nat_eq p pe)
    → tells (slice_set kept i (record { place = old.place; since = old.since; pes = pes })) a p n
    ≡ (tells kept a p n || ((place == a && nat_lt n since) && pe == p))
tells_set kept i old pes place pe since a p n below is is_place is_since is_pes =
    let new : Cleansing = record { place = old.place; since = old.since; pes = pes } in
    let front : Bool = tells (take i kept) a p n in
    let back : Bool = tells (drop (suc i) kept) a p n in
    let at : Bool = old.place == a && nat_lt n old.since in
    let whole_is : kept ≡ take i kept ++ old ∷ drop (suc i) kept
    = sym (take-append-drop i kept) ∙ ap (λ (xs : List Cleansing). take i kept ++ xs) (drop-cons kept i old below)
    ∙ ap (λ (x : Cleansing). take i kept ++ x ∷ drop (suc i) kept) (sym is) in
    let told : tells kept a p n ≡ (front || ((at && pe_in old.pes p) || back))
    = ap (λ (xs : List Cleansing). tells xs a p n) whole_is
    ∙ list_any-append (counts a p n) (take i kept) (old ∷ drop (suc i) kept) in
    ap (λ (xs : List Cleansing). tells xs a p n) (set_split kept i new below)
    ∙ list_any-append (counts a p n) (take i kept) (new ∷ drop (suc i) kept)
    ∙ ap (λ (b : Bool). front || ((at && b) || back)) (is_pes ∙ ap (λ (b : Bool). pe_in old.pes p || b) (eq_sym p pe))
    ∙ proved 5 (λ t x o e d. Is (t || ((x && (o || e)) || d)) ((t || ((x && o) || d)) || (x && e))) refl front at
    (pe_in old.pes p) (pe == p) back
    ∙ ap (λ (b : Bool). b || (at && pe == p)) (sym told)
    ∙ ap (λ (x : ℕ). tells kept a p n || ((x == a && nat_lt n old.since) && pe == p)) is_place
    ∙ ap (λ (x : ℕ). tells kept a p n || ((place == a && nat_lt n x) && pe == p)) is_since

pub found_in : (xs ys : List Cleansing) (i : ℕ) (old : Cleansing) (place since : ℕ) → xs ≡ ys
    → (i < length xs) × ((d : Cleansing) → (get_or xs i d).place ≡ place)
    × ((d : Cleansing) → (get_or xs i d).since ≡ since)
    → old ≡ get_or ys i old → (i < length ys) × (old.place ≡ place) × (old.since ≡ since)
found_in xs ys i old place since same found is =
    let there = subst (λ (zs : List Cleansing). (i < length zs) × ((d : Cleansing) → (get_or zs i d).place ≡ place)
    × ((d : Cleansing) → (get_or zs i d).since ≡ since)) same found in
    (there.0, ap (λ (x : Cleansing). x.place) is ∙ there.1 old, ap (λ (x : Cleansing). x.since) is ∙ there.2 old)
