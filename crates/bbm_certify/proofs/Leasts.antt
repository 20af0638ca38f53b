-- The least pattern that a search finds in a log that is kept is the least of all that end with the newest event.
use Rattle.bbm_certify.proofs.Common.{completed_by, cover_in, notes_behind, Kept, IsLeast, OneAt, TwoAt, less}
use Rattle.bbm_certify.proofs.Common.{AreHalves, BeginsAt, IsFirst, IsLeastClaim, IsPattern, answers, finishes}
use Rattle.bbm_certify.proofs.Common.{finishing, publishing, waiting, Pattern, One}
use Rattle.bbm_rules.proofs.Common.{◌≡◌, ℕ, suc, ◌+◌, ◌<◌, ◌≤◌, true, false, ◌&&◌, not, List, [], ◌∷◌, ◌++◌, length}
use Rattle.bbm_rules.proofs.Common.{Some, None, reverse, refl, sym, ◌∙◌, ap, subst, inl, inr, true≢false, arith}
use Rattle.bbm_rules.proofs.Common.{length-append, zero-le, false_from_ne_true, or_left, or_right, Cover, Second, Full}
use Rattle.bbm_rules.proofs.Common.{Patterns, cleansed, nat_tests, proved, If, Is, same_cover, any, Noted, OneStep}
use Rattle.bbm_rules.proofs.Common.{TwoSteps, Barrier, Heading, Dsb, none-some, completes, issues}
use Rattle.bbm_rules.specs.HeldLaws.{CleansedBySentence}
use Rattle.bbm_certify.specs.Making.{IsPatternBehind, claim_of, covers_rest}
use Rattle.bbm_certify.specs.declared.patterns.Halves.{Halves}
use Rattle.bbm_certify.specs.declared.patterns.Pattern.TheVariants.{Two as Both}
use Rattle.bbm_certify.proofs.Kepts.{Begun, answered_by}
use Rattle.bbm_certify.proofs.Searches.{at_index, never, past}
use Rattle.bbm_certify.proofs.TwoSteps.{OneFound, OneStepAt, TwoFound, TwoStepsAt, before_t, one_in, one_of}
use Rattle.bbm_certify.proofs.TwoSteps.{one_positions, split_in_two, split_t, two_in, two_of, two_positions}

-- ---- lists of numbers

not_less_three : (b t d b' t' : ℕ) → b ≤ b' → t ≤ t' → less (b' ∷ t' ∷ d ∷ []) (b ∷ t ∷ d ∷ []) ≡ false
not_less_three b t d b' t' x y = grind (arith, nat_tests)

not_less_five : (b i d t e b' i' d' t' : ℕ) → b ≤ b' → i ≤ i' → (i' ≡ i → (d' ≡ d) × (t ≤ t'))
    → less (b' ∷ i' ∷ d' ∷ t' ∷ e ∷ []) (b ∷ i ∷ d ∷ t ∷ e ∷ []) ≡ false
not_less_five b i d t e b' i' d' t' x y z = grind (arith, nat_tests)

-- a TLBI that covers the place in full, or the rest of it, reaches p, and is answered
finishes_by : (heading : Heading) (place p q : ℕ) (dsb : Barrier) (cover : Cover) (k : Kept) (later : List Kept)
    → (same_cover (cover_in k.covers.items place) cover ≡ true → covers_rest place k ≡ true)
    → answers heading place p cover (Dsb q dsb) k later ≡ true → finishes place (Dsb q dsb) k later ≡ true
finishes_by heading place p q dsb cover k later rest e =
    let a = answered_by heading place p q dsb cover k later e in
    proved 4 (λ a b c u. If (Is a true) (If (Is b true) (If (Is c true) (If (Is u false) (Is ((a && (b && c)) && not u) true))))) refl
    (issues q k.event) (completes dsb k.event) (covers_rest place k) (any (completed_by q k.event) later)
    a.issued a.completed (rest a.covered) a.unanswered

-- ---- a publication in the front of a log

module _ (heading : Heading) (place p : ℕ) (log front behind : List Kept) (x : Kept) (split : log ≡ front ++ x ∷ behind)
    (b : ℕ) (s : Begun heading place p front b) where
  whole : log ≡ s.before ++ s.k ∷ (s.after ++ x ∷ behind)
  whole = split_in_two log front behind s.before s.after x s.k split s.split

  not_none : IsFirst (publishing heading place p) 0 log None → ⊥
  not_none absent =
      never (publishing heading place p) 0 log s.before (s.after ++ x ∷ behind) s.k absent whole zero-le s.does

  not_before : (first : ℕ) → IsFirst (publishing heading place p) 0 log (Some first) → first ≤ b
  not_before first f = let le = past (publishing heading place p) 0 log first s.before (s.after ++ x ∷ behind) s.k f.3 whole
      zero-le s.does in
      omega (arith, le, s.at)

  is_below : b < length front
  is_below = omega (arith, s.at, ap length s.split, length-append s.before (s.k ∷ s.after))

-- the first is one, in a front that has it
begun_at : (heading : Heading) (place p : ℕ) (log front behind : List Kept) (x : Kept) → log ≡ front ++ x ∷ behind → (b : ℕ)
    → IsFirst (publishing heading place p) 0 log (Some b) → b < length front → Begun heading place p front b
begun_at heading place p log front behind x split b first below = let a = at_index front b below in
    record {
      before = a.before;
      after = a.after;
      k = a.k;
      split = a.split;
      at = a.at;
      does = first.2 a.before (a.after ++ x ∷ behind) a.k (split_in_two log front behind a.before a.after x a.k split a.split) a.at;
    }

module _ (heading : Heading) (place p from : ℕ) (log : List Kept) (newest : Noted) (q : ℕ) (dsb : Barrier)
    (is : newest.event ≡ Dsb q dsb) (clean : CleansedBySentence heading Patterns)
    (not_yet : cleansed heading Patterns place p (notes_behind from (reverse log)) ≡ false) where
  abbrev since : List Noted
  since = notes_behind from (reverse log)

  abbrev One' : ℕ → ℕ → Type 0
  One' b t = OneStepAt heading place p from log newest q dsb is b t

  abbrev Two' : ℕ → ℕ → ℕ → ℕ → Type 0
  Two' b i wait gap = TwoStepsAt heading place p from log newest q dsb is b i wait gap

  one_now : (k : OneStep heading Patterns place p (newest ∷ since)) → OneFound heading place p from log newest q dsb is k
  one_now k = elim (one_in heading place p from log newest q dsb is k) [
    | inl old ↦ absurd (true≢false (sym (clean.complete place p since (inl old)) ∙ not_yet))
    | inr s ↦ s
  ]

  two_now : (k : TwoSteps heading Patterns place p (newest ∷ since)) → TwoFound heading place p from log newest q dsb is k
  two_now k = elim (two_in heading place p from log newest q dsb is k) [
    | inl old ↦ absurd (true≢false (sym (clean.complete place p since (inr old)) ∙ not_yet))
    | inr s ↦ s
  ]

  -- no pattern of either form
  unclean : ((b t : ℕ) → One' b t → ⊥) → ((b i wait gap : ℕ) → Two' b i wait gap → ⊥)
      → cleansed heading Patterns place p (newest ∷ since) ≡ false
  unclean one two =
      false_from_ne_true (cleansed heading Patterns place p (newest ∷ since)) (λ e. elim (clean.sound place p (newest ∷ since) e) [
        | inl k ↦ let s = one_now k in one s.0 s.1 s.2
        | inr k ↦ let s = two_now k in two s.0 s.1 s.2 s.3 s.4
      ])

  none : IsFirst (publishing heading place p) 0 log None → cleansed heading Patterns place p (newest ∷ since) ≡ false
  none absent =
      unclean (λ b t s. not_none heading place p log s.front s.after s.kt s.split b s.begun absent)
      (λ b i wait gap s. not_none heading place p log s.begins.before s.begins.later s.begins.tlbi s.begins.split b s.begun absent)

  -- ---- no TLBI that covers the rest of the place

  pub none_finishes : IsFirst (finishing place (Dsb q dsb)) 0 log None
      → cleansed heading Patterns place p (newest ∷ since) ≡ false
  none_finishes absent =
      unclean (λ b t s. never (finishing place (Dsb q dsb)) 0 log s.front s.after s.kt absent s.split zero-le
      (finishes_by heading place p q dsb Full s.kt s.after
      (or_left (same_cover (cover_in s.kt.covers.items place) Full) (same_cover (cover_in s.kt.covers.items place) Second))
      s.waits))
      (λ b i wait gap s. let x = s.begins.begins in
      never (finishing place (Dsb q dsb)) 0 log (before_t heading place p from log newest q dsb is b i wait gap s) x.after x.t
      absent (split_t heading place p from log newest q dsb is b i wait gap s) zero-le
      (finishes_by heading place p q dsb Second x.t x.after
      (or_right (same_cover (cover_in x.t.covers.items place) Full) (same_cover (cover_in x.t.covers.items place) Second))
      x.second))

  -- ---- behind the first publication

  module _ (b : ℕ) (first : IsFirst (publishing heading place p) 0 log (Some b)) where
    module _ (b' t : ℕ) (s : One' b' t) where
      one_behind : b ≤ b'
      one_behind = not_before heading place p log s.front s.after s.kt s.split b' s.begun b first

      one_after : b + 1 ≤ length s.front
      one_after =
          omega (arith, one_behind, is_below heading place p log s.front s.after s.kt s.split b' s.begun)

    module _ (b' i wait gap : ℕ) (s : Two' b' i wait gap) where
      two_behind : b ≤ b'
      two_behind =
          not_before heading place p log s.begins.before s.begins.later s.begins.tlbi s.begins.split b' s.begun b first

      two_after : b + 1 ≤ i
      two_after =
          omega (
            arith,
            two_behind,
            s.begins.at,
            is_below heading place p log s.begins.before s.begins.later s.begins.tlbi s.begins.split b' s.begun,
          )

    -- ---- in one step

    module _ (t : ℕ) (found : IsFirst (waiting heading place p Full (Dsb q dsb)) (b + 1) log (Some t)) where
      the_step : One' b t
      the_step = let a = at_index log t found.1 in
          record {
            front = a.before;
            after = a.after;
            kt = a.k;
            split = a.split;
            at = a.at;
            begun = begun_at heading place p log a.before a.after a.k a.split b first (omega (arith, found.0, a.at));
            waits = found.2 a.before a.after a.k a.split a.at;
          }

      pub least_one : IsLeast (OneAt heading place p (newest ∷ since)) (one_positions heading place p from log newest q dsb is b t)
      least_one = record { holds = one_of heading place p from log newest q dsb is b t the_step; least = only }
        where
          only : (other : List ℕ) → OneAt heading place p (newest ∷ since) other
              → less other (one_positions heading place p from log newest q dsb is b t) ≡ false
          only other at =
              let s = one_now at.0 in
              let o = s.2 in
              let le = past (waiting heading place p Full (Dsb q dsb)) (b + 1) log t o.front o.after o.kt found.3 o.split
              (one_after s.0 s.1 o) o.waits in
              ap (λ (ns : List ℕ). less ns (one_positions heading place p from log newest q dsb is b t)) (at.1 ∙ s.3)
              ∙ not_less_three (suc (from + b)) (suc (from + t)) newest.position (suc (from + s.0)) (suc (from + s.1))
              (omega (arith, one_behind s.0 s.1 o)) (omega (arith, le, o.at))

    -- ---- in two

    module _ (no_one : IsFirst (waiting heading place p Full (Dsb q dsb)) (b + 1) log None) where
      one_less : (b' t' : ℕ) → One' b' t' → ⊥
      one_less b' t' s =
          never (waiting heading place p Full (Dsb q dsb)) (b + 1) log s.front s.after s.kt no_one s.split (one_after b' t' s) s.waits

      pub not_in_one : OneStep heading Patterns place p (newest ∷ since) → ⊥
      not_in_one k = let s = one_now k in one_less s.0 s.1 s.2

      pub none_behind : AreHalves heading place p (Dsb q dsb) (b + 1) log None
          → cleansed heading Patterns place p (newest ∷ since) ≡ false
      none_behind absent =
          unclean one_less (λ b' i wait gap s. absent i wait gap (two_after b' i wait gap s)
          (omega (arith, s.begins.at, ap length s.begins.split, length-append s.begins.before (s.begins.tlbi ∷ s.begins.later)))
          s.begins)

      module _ (h : Halves) (found : AreHalves heading place p (Dsb q dsb) (b + 1) log (Some h)) where
        the_steps : Two' b h.t h.ends.wait h.ends.gap
        the_steps = let f = found.1 in
            record {
              begins = f;
              begun = begun_at heading place p log f.before f.later f.tlbi f.split b first (omega (arith, found.0, f.at));
            }

        abbrev least : List ℕ
        least = two_positions heading place p from log newest q dsb is b h.t h.ends.wait h.ends.gap

        pub least_two : IsLeast (TwoAt heading place p (newest ∷ since)) least
        least_two =
            record { holds = two_of heading place p from log newest q dsb is b h.t h.ends.wait h.ends.gap the_steps; least = only }
          where
            only : (other : List ℕ) → TwoAt heading place p (newest ∷ since) other → less other least ≡ false
            only other at =
                let s = two_now at.0 in
                let o = s.4 in
                let early : s.1 < h.t → ⊥ = λ lt. found.2 s.1 s.2 s.3 (two_after s.0 s.1 s.2 s.3 o) lt o.begins in
                let ends : s.1 ≡ h.t → (s.2 ≡ h.ends.wait) × (h.ends.gap ≤ s.3) = λ same. found.3 s.2 s.3
                (subst (λ (i : ℕ). BeginsAt heading place p (Dsb q dsb) log i s.2 s.3) same o.begins) in
                ap (λ (ns : List ℕ). less ns least) (at.1 ∙ s.5)
                ∙ not_less_five (suc (from + b)) (suc (from + h.t)) (suc (from + suc (h.t + h.ends.wait)))
                (suc (from + suc (suc (h.t + h.ends.wait) + h.ends.gap))) newest.position
                (suc (from + s.0)) (suc (from + s.1)) (suc (from + suc (s.1 + s.2)))
                (suc (from + suc (suc (s.1 + s.2) + s.3))) (omega (arith, two_behind s.0 s.1 s.2 s.3 o)) (omega arith)
                (λ same. let at : s.1 ≡ h.t = omega (arith, same) in
                let e = ends at in (omega (arith, at, e.0), omega (arith, at, e.0, e.1)))

  -- ---- the claim

  module _ (at : newest.position ≡ suc (from + length log)) where
    end : newest.position ≡ from + length log + 1
    end = omega (arith, at)

    claim_behind : (b : ℕ) (x : Pattern) → IsFirst (publishing heading place p) 0 log (Some b)
        → IsPatternBehind heading place p (Dsb q dsb) log b (Some x)
        → IsLeastClaim heading place p (newest ∷ since) (claim_of p place from (length log) x)
    claim_behind b (One c t) first k =
        let b_is : suc (from + b) ≡ from + c + 1 = omega (arith, k.0) in
        let t_is : suc (from + t) ≡ from + t + 1 = omega arith in
        (refl, refl, subst (IsLeast (OneAt heading place p (newest ∷ since))) (cc end) (least_one b first t k.1))
    claim_behind b (Both c h) first k =
        let b_is : suc (from + b) ≡ from + c + 1 = omega (arith, k.0) in
        let t1_is : suc (from + h.t) ≡ from + h.t + 1 = omega arith in
        let d1_is : suc (from + suc (h.t + h.ends.wait)) ≡ from + h.t + 1 + h.ends.wait + 1 = omega arith in
        let t2_is : suc (from + suc (suc (h.t + h.ends.wait) + h.ends.gap))
        ≡ from + h.t + 1 + h.ends.wait + 1 + h.ends.gap + 1 = omega arith in (
          refl,
          refl,
          not_in_one b first k.1,
          subst (IsLeast (TwoAt heading place p (newest ∷ since))) (cc end) (least_two b first k.1 h k.2),
        )

    pub claim_found : (x : Pattern) → IsPattern heading place p (Dsb q dsb) log (Some x)
        → IsLeastClaim heading place p (newest ∷ since) (claim_of p place from (length log) x)
    claim_found x (inl absent) = absurd (none-some x (sym absent.1))
    claim_found x (inr k) = claim_behind k.0 x k.1 k.2

  pub claim_none : IsPattern heading place p (Dsb q dsb) log None → cleansed heading Patterns place p (newest ∷ since) ≡ false
  claim_none (inl absent) = none absent.0
  claim_none (inr k) = none_behind k.0 k.1 k.2.0 k.2.1
