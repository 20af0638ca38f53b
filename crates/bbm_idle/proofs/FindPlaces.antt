-- What a TLBI adds at a place, by the sets of PEs at which it is seen, half and cleansed.
use Rattle.bbm_idle.proofs.Common.{Patterns, note_of, notes_of, Kept, Past, notes, StandsByPatterns, adds_with}
use Rattle.bbm_idle.proofs.Common.{needed_by, place_adds, adds_at, adds_since, is_needed, is_needed_at, takes_of, TreePlace}
use Rattle.bbm_rules.proofs.Common.{◌≡◌, ℕ, ◌+◌, ◌-◌, ◌<◌, ◌≤◌, Bool, false, ◌&&◌, ◌||◌, List, [], ◌∷◌, Option, Some}
use Rattle.bbm_rules.proofs.Common.{None, length, length-reverse, get_or, take, reverse, refl, sym, ap, ◌∙◌, arith, take_all}
use Rattle.bbm_rules.proofs.Common.{reverse_more}
use Rattle.bbm_rules.proofs.Common.{Trust, note, noted, ValidWrite, any, below, some_pe, Noted, Heading}
use Rattle.bbm_rules.proofs.Common.{Event, first_pages, reaches, written_places}
use Rattle.std.proofs.Math.Bool.{and-false}
use Rattle.bbm_tlbi_scope.specs.declared.entry.Cover.TheVariants.{None as NoCover}
use Rattle.bbm_rules.specs.Held.{empties_tables}
use Rattle.bbm_oracle_patterns.specs.declared.kept.Covering.{Covering}
use Rattle.bbm_oracle_patterns.specs.declared.kept.Covering.TheVariants.{Whole, Top}
use Rattle.bbm_idle.specs.Finding.{adds_for}
use Rattle.bbm_lemmas.proofs.Tests.{any_same}

-- a TLBI that doesn't cover the place adds nothing
pub adds_nothing : (heading : Heading) (covering : Covering) (p place : ℕ) (found : Option ValidWrite)
    → adds_for heading covering NoCover p place found ≡ false
adds_nothing heading covering p place None = refl
adds_nothing heading covering p place (Some w) = refl

-- by its cover and, where tables are emptied, by its top cover
pub adds_by_both : (heading : Heading) (tlbi : Noted) (p place : ℕ) (found : Option ValidWrite)
    → adds_since heading tlbi p place found ≡ (adds_for heading Whole (tlbi.covers place) p place found
    || (empties_tables heading.version && adds_for heading Top (tlbi.tops place) p place found))
adds_by_both heading tlbi p place None = sym (and-false (empties_tables heading.version))
adds_by_both heading tlbi p place (Some w) = refl

-- ---- the newest event

abbrev tail_of : List Noted → List Noted
tail_of [] = []
tail_of (n ∷ older) = older

abbrev first_of : Noted → List Noted → Noted
first_of none [] = none
first_of none (n ∷ older) = n

pub newest_added : (heading : Heading) (log : List Kept) (k : Kept) (seats : List TreePlace) (p : ℕ) (n : Noted) (older : List Noted)
    → 0 < length log → k ≡ get_or log (length log - 1) k → notes_of (reverse log) ≡ n ∷ older
    → any (place_adds heading (notes_of (reverse (take (length log - 1) log))) (note_of (length (take (length log - 1) log)) k) p) seats
    ≡ any (place_adds heading older n p) seats
newest_added heading log k seats p n older some is noted_is =
    let before : List Kept = take (length log - 1) log in
    let last : length log - 1 < length log = omega arith in
    let whole : length log ≤ length log - 1 + 1 = omega arith in
    let split : k ∷ reverse before ≡ reverse log =
    reverse_more log (length log - 1) k last is ∙ ap (λ (ks : List Kept). reverse ks) (take_all (length log - 1 + 1) log whole) in
    let all : notes_of (k ∷ reverse before) ≡ n ∷ older = ap notes_of split ∙ noted_is in
    ap (λ (h : List Noted). any (place_adds heading h (note_of (length before) k) p) seats) (ap tail_of all)
    ∙ (ap (λ (i : ℕ). any (place_adds heading older (note_of i k) p) seats) (sym (length-reverse before))
    ∙ ap (λ (m : Noted). any (place_adds heading older m p) seats) (ap (first_of n) all))

-- ---- a TLBI

-- what it adds, by a history that stands for the events
pub adds_stand : (past : Past) (heading : Heading) (h : List Event) (e : Event) (p : ℕ) (written : List ℕ)
    → StandsByPatterns past heading h → written ≡ written_places h
    → any (adds_with past.heading (notes past) (note past.heading past.trust (notes past) e) p) written
    ≡ any (adds_at heading (noted heading Patterns h) e p) (written_places h)
adds_stand past heading h e p written s are =
    ap (λ (t : Trust). any (adds_with past.heading (notes past) (note past.heading t (notes past) e) p) written) s.trust_is
    ∙ ap (λ (g : Heading). any (adds_with g (notes past) (note g Patterns (notes past) e) p) written) s.kept.heading_is
    ∙ ap (λ (ns : List Noted). any (adds_with heading ns (note heading Patterns ns e) p) written)
    (s.kept.notes_are ∙ ap (λ (t : Trust). noted heading t h) s.trust_is)
    ∙ ap (λ (ps : List ℕ). any (adds_at heading (noted heading Patterns h) e p) ps) are

pub needed_is : (heading : Heading) (h : List Event) (e : Event) (added : ℕ → Bool)
    → ((p : ℕ) → added p ≡ any (adds_at heading (noted heading Patterns h) e p) (written_places h))
    → some_pe heading.pes (needed_by heading h e added) ≡ is_needed heading h e
needed_is heading h e added told = any_same (needed_by heading h e added) (is_needed_at heading h e) (below heading.pes)
    (λ p. ap (λ (b : Bool). reaches heading e p && (b || any (takes_of heading h e p) (first_pages h))) (told p))
