-- The TLBIs that take a tag away are among those that wait.
use Rattle.bbm_certify.proofs.Common.{split_in, is_open, takes}
use Rattle.bbm_rules.proofs.Common.{◌≡◌, ℕ, suc, ◌+◌, ◌≤◌, Bool, true, false, not, ◌&&◌, ◌==◌, List, ◌∷◌, ◌++◌}
use Rattle.bbm_rules.proofs.Common.{length, drop, get_or, reverse, sym, ◌∙◌, ap, inl, inr, true≢false, arith}
use Rattle.bbm_rules.proofs.Common.{length-append, and_from, and_parts, cases_eq, eqb-true, not_from_false, or_cases}
use Rattle.bbm_rules.proofs.Common.{length-reverse, reverse-reverse, answers, any, Barrier, Heading, Event, Tag, Issued}
use Rattle.bbm_rules.proofs.Common.{unanswered, Open, completes_for, issues, itself, any_found, is_none_of, to_contains}
use Rattle.bbm_rules.proofs.Common.{false_from_ne_true}
use Rattle.bbm_histories.specs.ClaimSteps.{takes_at}
use Rattle.bbm_histories.specs.HistorySteps.{is_tlbi, waits}
use Rattle.bbm_certify.specs.Taken.{IsFirstTaking}
use Rattle.bbm_certify.proofs.Searches.{parts_at, turned}
use Rattle.bbm_rules.specs.EventLaws.{AnsweredBySentence}

-- a TLBI of a log that waits for a barrier of q
record Waits (q n : ℕ) (events : List Event) : Type 0 where
  pub before : List Event
  pub after : List Event
  pub k : Event
  pub split : events ≡ before ++ k ∷ after
  pub at : n ≡ suc (length before)
  pub is : is_open q k after ≡ true

module _ (heading : Heading) (p : ℕ) (tag : Tag) (q : ℕ) (dsb : Barrier) (events : List Event)
    (by_sentence : AnsweredBySentence) where
  open_waits : (n : ℕ) (t : Issued Event) → Open itself q (reverse events) t → n ≡ suc (length t.before) → Waits q n events
  open_waits n t o at = record {
    before = reverse t.before;
    after = reverse o.newer;
    k = t.tlbi;
    split = sym (reverse-reverse events) ∙ (ap (λ (es : List Event). reverse es) o.split ∙ turned o.newer t.before t.tlbi);
    at = at ∙ ap suc (sym (length-reverse t.before));
    is = and_from (issues q t.tlbi) (not (any (completes_for q t.tlbi) (reverse o.newer))) o.issued
        (not_from_false (any (completes_for q t.tlbi) (reverse o.newer))
        (is_none_of (completes_for q t.tlbi) (reverse o.newer) (λ x i.
        let r = split_in (reverse o.newer) x i in
        o.uncompleted x (reverse r.1) (reverse r.0)
        (sym (reverse-reverse o.newer) ∙ (ap (λ (es : List Event). reverse es) r.2 ∙ turned r.0 r.1 x)))));
  }

  sort_waits : (n : ℕ) (b : Bool) → waits itself q b (takes_at heading p tag n (reverse events)) (reverse events) ≡ true
      → Waits q n events
  sort_waits n b e =
      let r = any_found (λ (t : Issued Event). is_tlbi b t.tlbi && takes_at heading p tag n (reverse events) t)
      (unanswered itself q (reverse events)) e in
      let parts = and_parts (is_tlbi b r.0.tlbi) (takes_at heading p tag n (reverse events) r.0) r.2 in
      let at = and_parts (n == suc (length r.0.before)) _ parts.1 in
      open_waits n r.0 (by_sentence.sound q (reverse events) r.0 (to_contains (unanswered itself q (reverse events)) r.0 r.1))
      (eqb-true n (suc (length r.0.before)) at.0)

  taking_waits : (n : ℕ) → takes heading p tag q dsb (reverse events) n ≡ true → Waits q n events
  taking_waits n e =
      let all = waits itself q true (takes_at heading p tag n (reverse events)) (reverse events) in
      let local = waits itself q false (takes_at heading p tag n (reverse events)) (reverse events) in
      elim (or_cases (answers dsb true && all) (answers dsb false && local) e) [
        | inl x ↦ sort_waits n true (and_parts (answers dsb true) all x).1
        | inr x ↦ sort_waits n false (and_parts (answers dsb false) local x).1
      ]

  -- ---- the search

  abbrev pub NoneTo : ℕ → Type 0
  NoneTo i = (n : ℕ) → n ≤ i → takes heading p tag q dsb (reverse events) n ≡ false

  pub none_at_0 : NoneTo 0
  none_at_0 n le = false_from_ne_true (takes heading p tag q dsb (reverse events) n)
      (λ e. let w = taking_waits n e in omega (arith, le, w.at))

  -- what is not open takes nothing
  pub not_open : (i : ℕ) (k : Event) → k ≡ get_or events i k → is_open q k (drop (i + 1) events) ≡ false
      → takes heading p tag q dsb (reverse events) (i + 1) ≡ false
  not_open i k is closed = false_from_ne_true (takes heading p tag q dsb (reverse events) (i + 1)) (λ e.
      let w = taking_waits (i + 1) e in
      let parts = parts_at events w.before w.after w.k k i w.split (omega (arith, w.at)) is in
      true≢false (sym w.is ∙ cc (parts.1, parts.2, closed)))

  pub none_more : (i : ℕ) → NoneTo i → takes heading p tag q dsb (reverse events) (i + 1) ≡ false → NoneTo (i + 1)
  none_more i before here n le =
      elim (cases_eq n (i + 1)) [
        | inl same ↦ ap (λ (m : ℕ). takes heading p tag q dsb (reverse events) m) same ∙ here
        | inr other ↦ before n (omega (arith, le, other))
      ]

  pub first_found : (i t : ℕ) → t ≡ i + 1 → NoneTo i → takes heading p tag q dsb (reverse events) t ≡ true
      → IsFirstTaking heading p tag q dsb (reverse events) t
  first_found i t at before here =
      ((λ zero. absurd (omega (arith, at, zero))), (λ some. (here, (λ n lt. before n (omega (arith, at, lt))))))

  pub none_found : (i : ℕ) → length events ≤ i → NoneTo i → IsFirstTaking heading p tag q dsb (reverse events) 0
  none_found i all before = (
    (λ zero n. false_from_ne_true (takes heading p tag q dsb (reverse events) n) (λ e.
        let w = taking_waits n e in
        let within : n ≤ i = omega (arith, w.at, ap length w.split, length-append w.before (w.k ∷ w.after), all) in
        true≢false (sym e ∙ before n within))),
    (λ some. absurd (omega (arith, some))),
  )
