-- What is known of the events since the last valid write of a place: what is half or cleansed stays so, what waits by top
-- covers, and where nothing was written nothing is seen, half or cleansed.
use Rattle.bbm_idle.proofs.Common.{Patterns, answered_by, is_tlbi, Known}
use Rattle.bbm_rules.proofs.Common.{◌≡◌, ℕ, Bool, true, false, cond, ◌&&◌, ◌||◌, ◌==◌, List, [], ◌∷◌, ◌++◌, map, refl, sym}
use Rattle.bbm_rules.proofs.Common.{◌∙◌, ap, append_assoc, fun_ext, map-append, true≢false, and_from, false_from_ne_true}
use Rattle.bbm_rules.proofs.Common.{or_left, or_right, answers, Barrier, Event, Heading, Write, Dsb, Tlbi, Issued}
use Rattle.bbm_rules.proofs.Common.{cleansed, half, seen, Noted}
use Rattle.bbm_rules.specs.Notes.{event_of, topped}
use Rattle.bbm_histories.specs.HistorySteps.{waits, waits_after}
use Rattle.bbm_histories.proofs.PatternLemmas.{cleansed_stays}
use Rattle.bbm_histories.proofs.SeenFirst.{cleansed_seen, half_seen}

-- what waits for the answer of a DSB is answered by it
pub waits_answered : (dsb : Barrier) (waiting : Bool → Bool) (b : Bool) → answers dsb b ≡ true → waiting b ≡ true
    → answered_by dsb waiting ≡ true
waits_answered dsb waiting true a w =
    or_left (answers dsb true && waiting true) (answers dsb false && waiting false) (and_from (answers dsb true) (waiting true) a w)
waits_answered dsb waiting false a w =
    or_right (answers dsb true && waiting true) (answers dsb false && waiting false) (and_from (answers dsb false) (waiting false) a w)

-- ---- with top covers in the place of covers

-- what later events leave, they leave by top covers
pub later_topped : (test : List Noted → Bool)
    → ((newer since : List Noted) → test since ≡ true → test (newer ++ since) ≡ true)
    → (newer since : List Noted) → test (map topped since) ≡ true → test (map topped (newer ++ since)) ≡ true
later_topped test later newer since e =
    ap test (map-append topped newer since) ∙ later (map topped newer) (map topped since) e

abbrev pub topped_issue : Issued Noted → Issued Noted
topped_issue t = record { tlbi = topped t.tlbi; before = map topped t.before }

-- what waits by top covers
pub waits_topped : (heading : Heading) → Known heading → (q : ℕ) (b : Bool) (test : Issued Noted → Bool) (since : List Noted)
    → waits event_of q b test (map topped since) ≡ waits event_of q b (λ t. test (topped_issue t)) since
waits_topped heading k q b test [] = refl
waits_topped heading k q b test (n ∷ since) =
    k.pattern_steps.waits q b test (topped n) (map topped since)
    ∙ (by n.event (waits_topped heading k q b test since) ∙ sym (k.pattern_steps.waits q b (λ t. test (topped_issue t)) n since))
  where
    by : (e : Event) → waits event_of q b test (map topped since) ≡ waits event_of q b (λ t. test (topped_issue t)) since
        → waits_after event_of q b test e (topped n) (map topped since) ≡ waits_after event_of q b (λ t. test (topped_issue t)) e n since
    by (Tlbi pe op xt) before =
        ap (λ (x : Bool). (pe == q && (is_tlbi b (Tlbi pe op xt) && test (topped_issue (record { tlbi = n; before = since })))) || x) before
    by (Dsb pe dsb) before = ap (λ (x : Bool). cond (pe == q && answers dsb b) false x) before
    by e before = before

pub answered_topped : (heading : Heading) → Known heading → (q : ℕ) (dsb : Barrier) (test : Issued Noted → Bool) (since : List Noted)
    → answered_by dsb (λ b. waits event_of q b test (map topped since))
    ≡ answered_by dsb (λ b. waits event_of q b (λ t. test (topped_issue t)) since)
answered_topped heading k q dsb test since =
    ap (answered_by dsb) (fun_ext (λ (b : Bool). waits_topped heading k q b test since))

module _ (heading : Heading) (k : Known heading) (place p : ℕ) where
  pub half_later : (newer since : List Noted) → half heading place p since ≡ true → half heading place p (newer ++ since) ≡ true
  half_later newer since s =
      let i = k.half.sound place p since s in
      k.half.complete place p (newer ++ since) (i.0, i.1, i.2, k.patterns_stay.half place p newer since i.0 i.1 i.2 i.3)

  pub cleansed_later : (newer since : List Noted) → cleansed heading Patterns place p since ≡ true
      → cleansed heading Patterns place p (newer ++ since) ≡ true
  cleansed_later newer since c = k.cleansed.complete place p (newer ++ since)
      (cleansed_stays heading Patterns place p newer since (k.cleansed.sound place p since c))

  -- ---- where nothing was written, nothing is seen, half or cleansed

  abbrev pub Unwritten : List Noted → Type 0
  Unwritten since = (q v : ℕ) (n : Noted) (after before : List Noted) → since ≡ after ++ n ∷ before → n.event ≡ Write q place v → ⊥

  pub unwritten_on : (n : Noted) (since : List Noted) → ((q v : ℕ) → n.event ≡ Write q place v → ⊥) → Unwritten since
      → Unwritten (n ∷ since)
  unwritten_on n since other none q v m [] before split is =
      let first : n ≡ m = cc in
      other q v (ap (λ (x : Noted). x.event) first ∙ is)
  unwritten_on n since other none q v m (x ∷ after) before split is =
      let rest : since ≡ after ++ m ∷ before = cc in
      none q v m after before rest is

  unseen : (since : List Noted) → Unwritten since → seen heading place p since ≡ false
  unseen since none = false_from_ne_true (seen heading place p since) (λ t.
      let s = k.seen.sound place p since t in
      let w = s.1 in
      none w.q w.value w.write (w.newer ++ s.0 ∷ w.between) w.older
      (w.split ∙ sym (append_assoc w.newer (s.0 ∷ w.between) (w.write ∷ w.older))) w.wrote)

  pub record Untouched (since : List Noted) : Type 0 where
    pub unseen : seen heading place p since ≡ false
    pub unhalf : half heading place p since ≡ false
    pub uncleansed : cleansed heading Patterns place p since ≡ false

  pub untouched : (since : List Noted) → Unwritten since → Untouched since
  untouched since none =
      let not_seen : seen heading place p since ≡ false = unseen since none in
      record {
        unseen = not_seen;
        unhalf = false_from_ne_true (half heading place p since) (λ t. true≢false (sym (half_seen heading k.pattern_steps place p since t) ∙ not_seen));
        uncleansed = false_from_ne_true (cleansed heading Patterns place p since) (λ t. true≢false (sym (cleansed_seen heading k.pattern_steps place p since t) ∙ not_seen));
      }
