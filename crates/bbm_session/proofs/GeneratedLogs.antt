-- The text of a generated log: each line is read as what was written, and the log is accepted.
use Rattle.bbm_session.proofs.Common.{plain, heading, item_fits, Patterns, Accepted, gen_text}
use Rattle.bbm_rules.proofs.Common.{◌≡◌, ℕ, zero, suc, ◌+◌, ◌<◌, ◌≤◌, ◌==◌, nat_le, true, false, List, [], ◌∷◌, ◌++◌}
use Rattle.bbm_rules.proofs.Common.{length, None, refl, ap, sym, ◌∙◌, subst, arith, append_assoc, nat_tests, Item}
use Rattle.bbm_rules.proofs.Common.{AtHeader, AtEvents, AtEnd, Ending, Fold, Judged, Passes, Progress, ending_at}
use Rattle.bbm_rules.proofs.Common.{outcome_of, unrefused}
use Rattle.bbm_gen.specs.Generated.{GeneratedKeepsRules, event_at, log_of}
use Rattle.bbm_events.specs.LineLaws.{WrittenIsALine, WrittenIsRead}
use Rattle.bbm_events.specs.Lines.{header_line, item_line}
use Rattle.bbm_events.specs.Spelling.{is_plain}
use Rattle.bbm_events.specs.declared.event.Item.TheVariants.{Event, End}
use Rattle.bbm_rules.specs.Outcome.{check_limits, judging}
use Rattle.bbm_rules.specs.Fold.{end_by}
use Rattle.bbm_texts.specs.Generating.{gen_begin}
use Rattle.bbm_texts.proofs.Selftests.{log-length}
use Rattle.bbm_session.proofs.Stages.{ending-line}

-- the laws of the crates below on the events of a generated log, and on written lines
pub record Facts (n count : ℕ) : Type 0 where
  pub events : GeneratedKeepsRules n count
  pub lines : WrittenIsALine
  pub read : WrittenIsRead

pub plain_is : (line : List ℕ) → plain line ≡ is_plain line
plain_is [] = refl
plain_is (byte ∷ bytes) = rw (plain_is bytes) refl

module _ (n count : ℕ) (few : count + 2 ≤ 4294967295) (facts : Facts n count) where
  abbrev fold : Fold Progress Judged
  fold = judging Patterns check_limits

  -- the text behind the first events
  abbrev rest : ℕ → ℕ → List ℕ
  rest i zero = item_line (End count) ++ 10 ∷ []
  rest i (suc k) = item_line (Event (event_at n i) None) ++ 10 ∷ rest (suc i) k

  begins : (i k : ℕ) → i + k ≡ count → gen_begin n i ++ rest i k ≡ gen_text n count
  unfolding gen_begin
  begins i zero is =
      let same : i ≡ count = omega (arith, is) in
      ap (λ (j : ℕ). gen_begin n j ++ (item_line (End count) ++ 10 ∷ [])) same
  begins i (suc k) is =
      let line = item_line (Event (event_at n i) None) in
      sym (append_assoc (gen_begin n i) (line ++ 10 ∷ []) (rest (suc i) k) ∙ ap (λ (text : List ℕ). gen_begin n i ++ text) (append_assoc line (10 ∷ []) (rest (suc i) k)))
      ∙ begins (suc i) k (omega (arith, is))

  abbrev item : ℕ → Item
  item i = Event (event_at n i) None

  item_ok : (i : ℕ) → i < count → item_fits heading (item i) ≡ true
  item_ok i below = rw (facts.events.fits i below) refl

  end_ok : item_fits heading (End count) ≡ true
  end_ok = grind (arith, nat_tests, few)

  event_line : (i : ℕ) → i < count
      → fold.line (i + 2) (AtEvents heading (log_of n i)) (item_line (item i)) ≡ Passes (AtEvents heading (log_of n (suc i)))
  unfolding judging
  event_line i below =
      let low : nat_le 4294967295 (i + 2) ≡ false = grind (arith, nat_tests, few, below) in
      rw (facts.read.item heading (item i) refl (item_ok i below), facts.events.unbroken i below, facts.events.limits i below, low) refl

  end_line : fold.line (count + 2) (AtEvents heading (log_of n count)) (item_line (End count)) ≡ Passes (AtEnd (log_of n count))
  unfolding judging
  end_line =
      let all = log-length n count in
      let same : (count == length (log_of n count)) ≡ true = grind (arith, nat_tests, all) in
      rw (facts.read.item heading (End count) refl end_ok, same) refl

  abbrev done : Ending Judged
  done = record { says = unrefused (log_of n count) (Accepted count); unread = [] }

  at_end : ending_at fold (count + 2) (AtEvents heading (log_of n count)) (item_line (End count) ++ 10 ∷ []) ≡ done
  unfolding end_by judging
  at_end =
      ending-line fold (count + 2) (AtEvents heading (log_of n count)) (item_line (End count)) []
      (plain_is (item_line (End count)) ∙ facts.lines.item_plain heading (End count) end_ok) (facts.lines.item_short heading (End count) refl end_ok)
      ∙ rw end_line (ap (λ (events : ℕ). record { says = unrefused (log_of n count) (Accepted events); unread = [] }) (log-length n count))

  read_rest : (i k : ℕ) → i + k ≡ count → ending_at fold (i + 2) (AtEvents heading (log_of n i)) (rest i k) ≡ done
  read_rest i zero is =
      let same : count ≡ i = omega (arith, is) in
      subst (λ (j : ℕ). ending_at fold (j + 2) (AtEvents heading (log_of n j)) (item_line (End count) ++ 10 ∷ []) ≡ done) same at_end
  read_rest i (suc k) is =
      let below : i < count = omega (arith, is) in
      let next : suc i + 2 ≡ suc (i + 2) = omega arith in
      let line = item_line (item i) in
      ending-line fold (i + 2) (AtEvents heading (log_of n i)) line (rest (suc i) k)
      (plain_is line ∙ facts.lines.item_plain heading (item i) (item_ok i below)) (facts.lines.item_short heading (item i) refl (item_ok i below))
      ∙ rw (event_line i below) (subst (λ (m : ℕ). ending_at fold m (AtEvents heading (log_of n (suc i))) (rest (suc i) k) ≡ done)
      next (read_rest (suc i) k (omega (arith, is))))

  whole_text : header_line heading ++ 10 ∷ rest 0 count ≡ gen_text n count
  unfolding gen_begin
  whole_text = sym (append_assoc (header_line heading) (10 ∷ []) (rest 0 count)) ∙ begins 0 count (omega arith)

  pub accepted : outcome_of Patterns check_limits (gen_text n count) ≡ done
  unfolding judging
  accepted =
      ap (ending_at fold 1 AtHeader) (sym whole_text)
      ∙ ending-line fold 1 AtHeader (header_line heading) (rest 0 count) (plain_is (header_line heading) ∙ facts.lines.header_plain heading) (facts.lines.header_short heading refl)
      ∙ rw (facts.read.header heading refl) (read_rest 0 count (omega arith))
