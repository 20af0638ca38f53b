-- The first two steps of a log: how a TLBI begins them, and which TLBI is the first.
use Rattle.bbm_certify.proofs.Common.{Kept, completed_by, AreEnds, AreHalves, BeginsAt, IsFirst, NoHalves, answering}
use Rattle.bbm_certify.proofs.Common.{answers, waiting}
use Rattle.bbm_rules.proofs.Common.{◌≡◌, ℕ, ◌+◌, ◌≤◌, ◌<◌, true, false, not, ◌&&◌, ◌==◌, List, ◌∷◌, ◌++◌, length, drop}
use Rattle.bbm_rules.proofs.Common.{Some, None, refl, sym, ◌∙◌, ap, subst, inl, inr, true≢false, arith, zero-le}
use Rattle.bbm_rules.proofs.Common.{and_from, cases_eq, eq-eqb, eqb-true, proved, Is, If, Cover, Half, Second, any}
use Rattle.bbm_rules.proofs.Common.{Heading, Event, Dsb, Tlbi, completes, completes_for, issues, any_finds, in_split}
use Rattle.bbm_certify.specs.Making.{Begins, flushes}
use Rattle.bbm_certify.specs.declared.patterns.Ends.{Ends}
use Rattle.bbm_certify.proofs.Kepts.{answered_by, barrier_of}
use Rattle.bbm_certify.proofs.Searches.{At, at_index, drop_split, never, past, same_split}
use Rattle.bbm_certify.proofs.TwoSteps.{split_in_two}

module _ (heading : Heading) (place p : ℕ) where
  -- what is no TLBI that covers the place so far isn't answered as one
  pub no_flush : (cover : Cover) (e : Event) (k : Kept) (later : List Kept) → flushes heading place p cover k ≡ false
      → answers heading place p cover e k later ≡ false
  no_flush cover (Dsb q dsb) k later none =
      proved 4 (λ a b f u. If (Is f false) (Is ((a && (b && f)) && not u) false)) refl (issues q k.event)
      (completes dsb k.event) (flushes heading place p cover k) (any (completed_by q k.event) later) none
  no_flush cover e k later none = refl

  -- ---- a TLBI is answered once

  one_issuer : (q r : ℕ) (e : Event) → issues q e ≡ true → issues r e ≡ true → q ≡ r
  one_issuer q r (Tlbi pe op xt) a b = sym (eqb-true pe q a) ∙ eqb-true pe r b
  one_issuer q r e a b = absurd (cc)

  answered_once : (cover : Cover) (tlbi d d' : Kept) (mid between : List Kept)
      → answers heading place p cover d.event tlbi mid ≡ true
      → answers heading place p cover d'.event tlbi (mid ++ d ∷ between) ≡ true → ⊥
  answered_once cover tlbi d d' mid between a b =
      let c = barrier_of heading place p cover d.event tlbi mid a in
      let e = barrier_of heading place p cover d'.event tlbi (mid ++ d ∷ between) b in
      let x = answered_by heading place p c.0 c.1 cover tlbi mid
      (ap (λ (e : Event). answers heading place p cover e tlbi mid) (sym c.2) ∙ a) in
      let y = answered_by heading place p e.0 e.1 cover tlbi (mid ++ d ∷ between)
      (ap (λ (e : Event). answers heading place p cover e tlbi (mid ++ d ∷ between)) (sym e.2) ∙ b) in
      let done : completed_by e.0 tlbi.event d ≡ true
      = ap (λ (x : Event). completes_for e.0 tlbi.event x) c.2
      ∙ and_from (c.0 == e.0) (completes c.1 tlbi.event)
      (eq-eqb c.0 e.0 (one_issuer c.0 e.0 tlbi.event x.issued y.issued)) x.completed in
      true≢false (sym (any_finds (completed_by e.0 tlbi.event) (mid ++ d ∷ between) d (in_split mid between d) done)
      ∙ y.unanswered)

  -- ---- how a TLBI begins two steps

  module _ (e : Event) (tlbi : Kept) (later : List Kept) where
    module _ (wait : ℕ) (first : IsFirst (answering heading place p tlbi) 0 later (Some wait)) where
      -- its answer
      the_answer : At later wait
      the_answer = at_index later wait first.1

      answered : answers heading place p Half the_answer.k.event tlbi the_answer.before ≡ true
      answered = first.2 the_answer.before the_answer.after the_answer.k the_answer.split the_answer.at

      same_wait : (wait' gap : ℕ) → Begins heading place p e tlbi later wait' gap → wait' ≡ wait
      same_wait wait' gap x =
          let le = past (answering heading place p tlbi) 0 later wait x.mid (x.between ++ x.t ∷ x.after) x.d first.3 x.split
          zero-le x.first in
          let ge : wait < length x.mid → ⊥ = later_answer in
          let waits = x.waits in
          omega arith
        where
          later_answer : wait < length x.mid → ⊥
          later_answer lt =
              let a = at_index x.mid wait lt in
              let split = split_in_two later x.mid (x.between ++ x.t ∷ x.after) a.before a.after x.d a.k x.split a.split in
              let same = same_split the_answer.before a.before the_answer.after (a.after ++ x.d ∷ (x.between ++ x.t ∷ x.after))
              the_answer.k a.k (sym the_answer.split ∙ split) (the_answer.at ∙ sym a.at) in
              answered_once Half tlbi a.k x.d a.before a.after
              (ap (λ (k : Kept). answers heading place p Half k.event tlbi a.before) (sym same.1)
              ∙ (ap (λ (ks : List Kept). answers heading place p Half the_answer.k.event tlbi ks) (sym same.0) ∙ answered))
              (ap (λ (ks : List Kept). answers heading place p Half x.d.event tlbi ks) (sym a.split) ∙ x.first)

      -- what stands behind the answer
      same_rest : (wait' gap : ℕ) (x : Begins heading place p e tlbi later wait' gap)
          → drop (wait + 1) later ≡ x.between ++ x.t ∷ x.after
      same_rest wait' gap x =
          drop_split later x.mid (x.between ++ x.t ∷ x.after) x.d wait x.split (x.waits ∙ same_wait wait' gap x)

      module _ (rest : List Kept) (rest_at : rest ≡ drop (wait + 1) later) where
        pub ends_some : (gap : ℕ) → IsFirst (waiting heading place p Second e) 0 rest (Some gap)
            → AreEnds heading place p e tlbi later (Some (record { wait = wait; gap = gap }))
        ends_some gap second = (begins (at_index rest gap second.1), least)
          where
            begins : At rest gap → Begins heading place p e tlbi later wait gap
            begins a = record {
              mid = the_answer.before;
              between = a.before;
              after = a.after;
              d = the_answer.k;
              t = a.k;
              split = the_answer.split
                  ∙ ap (λ (ks : List Kept). the_answer.before ++ the_answer.k ∷ ks)
                  (sym (drop_split later the_answer.before the_answer.after the_answer.k wait the_answer.split the_answer.at)
                  ∙ (sym rest_at ∙ a.split));
              first = answered;
              second = second.2 a.before a.after a.k a.split a.at;
              waits = the_answer.at;
              gaps = a.at;
            }

            least : (wait' gap' : ℕ) → Begins heading place p e tlbi later wait' gap' → (wait' ≡ wait) × (gap ≤ gap')
            least wait' gap' x =
                let le = past (waiting heading place p Second e) 0 rest gap x.between x.after x.t second.3
                (rest_at ∙ same_rest wait' gap' x) zero-le x.second in
                (same_wait wait' gap' x, omega (arith, le, x.gaps))

        pub ends_without : IsFirst (waiting heading place p Second e) 0 rest None
            → AreEnds heading place p e tlbi later None
        ends_without none wait' gap x =
            never (waiting heading place p Second e) 0 rest x.between x.after x.t none (rest_at ∙ same_rest wait' gap x) zero-le x.second

    pub ends_none : IsFirst (answering heading place p tlbi) 0 later None → AreEnds heading place p e tlbi later None
    ends_none none wait gap x =
        never (answering heading place p tlbi) 0 later x.mid (x.between ++ x.t ∷ x.after) x.d none x.split zero-le x.first

  -- ---- the first TLBI that begins two steps

  module _ (e : Event) (lo : ℕ) (log : List Kept) (i : ℕ) (at : At log i) where
    begins_here : (wait gap : ℕ) → BeginsAt heading place p e log i wait gap → Begins heading place p e at.k at.after wait gap
    begins_here wait gap x =
        let same = same_split x.before at.before x.later at.after x.tlbi at.k (sym x.split ∙ at.split) (x.at ∙ sym at.at) in
        subst (λ (k : Kept). Begins heading place p e k at.after wait gap) same.1
        (subst (λ (ks : List Kept). Begins heading place p e x.tlbi ks wait gap) same.2 x.begins)

    pub halves_more : AreEnds heading place p e at.k at.after None → NoHalves heading place p e lo i log
        → NoHalves heading place p e lo (i + 1) log
    halves_more none before j wait gap above below x =
        elim (cases_eq j i) [
          | inl same ↦ none wait gap (begins_here wait gap
              (subst (λ (n : ℕ). BeginsAt heading place p e log n wait gap) same x))
          | inr other ↦ before j wait gap above (omega (arith, other, below)) x
        ]

    pub halves_here : (ends : Ends) → lo ≤ i → AreEnds heading place p e at.k at.after (Some ends)
        → NoHalves heading place p e lo i log → AreHalves heading place p e lo log (Some (record { t = i; ends = ends }))
    halves_here ends above found before = (
      above,
      record { before = at.before; tlbi = at.k; later = at.after; split = at.split; at = at.at; begins = found.0 },
      before,
      (λ wait gap x. found.1 wait gap (begins_here wait gap x)),
    )
