-- A place that is cleansed stays so.
use Rattle.bbm_rules.proofs.Common.{◌≡◌, ℕ, ◌+◌, ◌<◌, ◌≤◌, Bool, true, false, List, [], ◌∷◌, ◌++◌, length, get_or, take}
use Rattle.bbm_rules.proofs.Common.{drop, map-append, reverse, refl, sym, ◌∙◌, ap, subst, inl, inr, or_cases, or_left, or_right}
use Rattle.bbm_rules.proofs.Common.{reverse-append, take-append-drop, take_all, every_pe, PeMask, answers_one, cleansed}
use Rattle.bbm_rules.proofs.Common.{cleansed_everywhere, some, Noted, Heading, every_same}
use Rattle.bbm_regimes.specs.PeMask.{pe_in}
use Rattle.bbm_rules.specs.Claims.{Patterns}
use Rattle.bbm_rules.specs.Notes.{topped}
use Rattle.bbm_oracle_patterns.specs.Kept.{notes_behind, notes_for}
use Rattle.bbm_oracle_patterns.specs.Walk.{IsWalk, Steps, Traces, full_test, noted_for, second_test, some_writes}
use Rattle.bbm_oracle_patterns.specs.declared.kept.Covering.{Covering}
use Rattle.bbm_oracle_patterns.specs.declared.kept.Covering.TheVariants.{Whole, Top}
use Rattle.bbm_oracle_patterns.specs.declared.kept.Kept.{Kept}
use Rattle.bbm_oracle_patterns.specs.declared.walk.Walk.{Walk}
use Rattle.bbm_lemmas.proofs.Every.{every_at, every_from}
use Rattle.bbm_oracle_patterns.proofs.Lasts.{notes_more}
use Rattle.bbm_oracle_patterns.proofs.Walks.{for_more, trace_unwritten}
use Rattle.bbm_oracle_patterns.proofs.KeptNotes.{notes_append}

some_more : (test : Noted → List Noted → Bool) (newer older : List Noted) → some test older ≡ true
    → some test (newer ++ older) ≡ true
some_more test [] older k = k
some_more test (n ∷ newer) older k = or_right (test n (newer ++ older)) (some test (newer ++ older))
    (some_more test newer older k)

for_append : (covering : Covering) (newer older : List Noted)
    → notes_for covering (newer ++ older) ≡ notes_for covering newer ++ notes_for covering older
for_append Whole newer older = refl
for_append Top newer older = map-append topped newer older

module _ (heading : Heading) (place : ℕ) (covering : Covering) where
  -- a walk that took no event
  pub walk_none : (w : Walk) → IsWalk w heading place [] → IsWalk w heading place (notes_for covering [])
  walk_none w x = by covering
    where
      by : (c : Covering) → IsWalk w heading place (notes_for c [])
      by Whole = x
      by Top = x

  -- a walk that took one event more
  pub walk_more : (w more : Walk) (before : ℕ) (ks : List Kept) (i : ℕ) (k : Kept) → i < length ks → k ≡ get_or ks i k →
      ((b : ℕ) → Steps w more heading place (noted_for covering b k)) →
      IsWalk w heading place (notes_for covering (notes_behind before (reverse (take i ks))))
      → IsWalk more heading place (notes_for covering (notes_behind before (reverse (take (i + 1) ks))))
  walk_more w more before ks i k below is taken x =
      let at : ℕ = before + length (reverse (take i ks)) in
      let older : List Noted = notes_behind before (reverse (take i ks)) in
      subst (λ (ns : List Noted). IsWalk more heading place ns)
      (sym (ap (notes_for covering) (notes_more before ks i k below is) ∙ for_more covering at k older))
      (taken at (notes_for covering older) x)

  cleansed_more : (p : ℕ) (newer older : List Noted) → cleansed heading Patterns place p older ≡ true
      → cleansed heading Patterns place p (newer ++ older) ≡ true
  cleansed_more p newer older k =
      let full : Noted → List Noted → Bool = λ n before. answers_one (full_test heading place p) n.event before in
      let second : Noted → List Noted → Bool = λ n before. answers_one (second_test heading place p) n.event before in
      elim (or_cases (some full older) (some second older) k) [
        | inl one ↦ or_left (some full (newer ++ older)) (some second (newer ++ older)) (some_more full newer older one)
        | inr two ↦ or_right (some full (newer ++ older)) (some second (newer ++ older))
            (some_more second newer older two)
      ]

  -- what a walk has found of every PE
  pub walked : (w : Walk) (since : List Noted) (r : Bool) → IsWalk w heading place since
      → r ≡ every_pe heading.pes (λ p. pe_in w.trace.cleansed p) →
      r ≡ cleansed_everywhere heading Patterns place since
  walked w since r x is =
      is ∙ every_same heading.pes (λ p. pe_in w.trace.cleansed p) (λ p. cleansed heading Patterns place p since)
      (λ p below. x.cleansed_at p)

  -- the notes of all these events
  abbrev noted_by : ℕ → List Kept → List Noted
  noted_by before ks = notes_for covering (notes_behind before (reverse ks))

  pub walked_whole : (w : Walk) (before : ℕ) (ks : List Kept) (i : ℕ) (r : Bool) → length ks ≤ i
      → IsWalk w heading place (noted_by before (take i ks)) →
      r ≡ every_pe heading.pes (λ p. pe_in w.trace.cleansed p)
      → r ≡ cleansed_everywhere heading Patterns place (noted_by before ks)
  walked_whole w before ks i r past x is =
      walked w (noted_by before ks) r
      (subst (λ (xs : List Kept). IsWalk w heading place (noted_by before xs)) (take_all i ks past) x) is

  -- the events from index i on change nothing
  pub stopped : (w : Walk) (before : ℕ) (ks : List Kept) (i : ℕ) (r : Bool)
      → IsWalk w heading place (noted_by before (take i ks)) →
      r ≡ every_pe heading.pes (λ p. pe_in w.trace.cleansed p) → r ≡ true →
      true ≡ cleansed_everywhere heading Patterns place (noted_by before ks)
  stopped w before ks i r x is held =
      let newest : List Noted = notes_behind (before + length (reverse (take i ks))) (reverse (drop i ks)) in
      let newer : List Noted = notes_for covering newest in
      let older : List Noted = noted_by before (take i ks) in
      let split : noted_by before ks ≡ newer ++ older
      = ap (λ (xs : List Kept). noted_by before xs) (sym (take-append-drop i ks))
      ∙ ap (λ (xs : List Kept). notes_for covering (notes_behind before xs)) (reverse-append (take i ks) (drop i ks))
      ∙ ap (notes_for covering) (notes_append before (reverse (drop i ks)) (reverse (take i ks)))
      ∙ for_append covering newest (notes_behind before (reverse (take i ks))) in
      let all : every_pe heading.pes (λ p. cleansed heading Patterns place p older) ≡ true = sym (walked w older r x is)
      ∙ held in
      sym (ap (cleansed_everywhere heading Patterns place) split
      ∙ every_from heading.pes (λ p. cleansed heading Patterns place p (newer ++ older))
      (λ p below. cleansed_more p newer older (every_at heading.pes
      (λ q. cleansed heading Patterns place q older) all p below)))

  -- a place that isn't written is cleansed nowhere
  pub never : (m : PeMask) (before : ℕ) (ks : List Kept) (r : Bool) → ((p : ℕ) → pe_in m p ≡ false)
      → some_writes place ks ≡ false →
      r ≡ every_pe heading.pes (λ p. pe_in m p)
      → r ≡ cleansed_everywhere heading Patterns place (noted_by before ks)
  never m before ks r none k is =
      let t : Traces (record { seen = m; half = m; cleansed = m }) heading place (noted_by before ks) =
      trace_unwritten heading place m none covering before ks k in
      is ∙ every_same heading.pes (λ p. pe_in m p)
      (λ p. cleansed heading Patterns place p (noted_by before ks)) (λ p below. t.cleansed_at p)
