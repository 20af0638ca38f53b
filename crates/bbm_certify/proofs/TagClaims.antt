-- Which tags a DSB takes away, claim by claim: each has a least claim of it, and a list of claims that has this claim
-- takes the tag away, too.
use Rattle.bbm_certify.proofs.Common.{allows, Known, IsLeast, TakenAt}
use Rattle.bbm_rules.proofs.Common.{◌≡◌, ℕ, suc, ◌<◌, Bool, true, false, not, ◌&&◌, nat_le, List, [], ◌∷◌, ◌++◌, length}
use Rattle.bbm_rules.proofs.Common.{map, Contains, refl, sym, ◌∙◌, ap, subst, inl, inr, true≢false, arith, and_parts}
use Rattle.bbm_rules.proofs.Common.{le-leb, not-true, or_cases, Claim, Taken, Trust, Patterns, Listed, Barrier, Heading}
use Rattle.bbm_rules.proofs.Common.{Event, Dsb, Tag, Issued, completes, reaches, unanswered, Open, TakenAway, kept_at}
use Rattle.bbm_rules.proofs.Common.{itself, loses, read_since, reads, reads_for_some, takes_tag, any_finds, any_found}
use Rattle.bbm_rules.proofs.Common.{from_contains, in_map, to_contains, In, get_or, or_parts, proved, If, Is}
use Rattle.bbm_lemmas.proofs.Bools.{second_false}
use Rattle.bbm_histories.specs.HistorySteps.{answered_by, tag_waits}
use Rattle.bbm_rules.specs.Tags.{is_taken_by}
use Rattle.bbm_certify.specs.LeastClaims.{Holding}
use Rattle.bbm_certify.proofs.OneClaim.{listed, named, only_this, this}
use Rattle.bbm_certify.proofs.LeastFound.{Over, Sized, least_or_none}
use Rattle.bbm_lemmas.proofs.Tautologies.Claim.{Both}
use Rattle.bbm_rules.proofs.TagLaw.{unread_all, some_reading}

module _ (heading : Heading) (p : ℕ) (tag : Tag) where
  -- ---- the moments after the first n events at which the tag is readable

  unread_at : (n : ℕ) (after moment : List Event) → read_since heading n p tag (after ++ moment) ≡ false
      → n < length moment → reads_for_some heading moment p tag ≡ false
  unread_at n [] [] none long = absurd (omega (arith, long))
  unread_at n [] (e ∷ h) none long =
      second_false (nat_le n (length h)) (reads_for_some heading (e ∷ h) p tag)
      (or_parts (nat_le n (length h) && reads_for_some heading (e ∷ h) p tag) (read_since heading n p tag h) none).0
      (le-leb n (length h) (omega (arith, long)))
  unread_at n (e ∷ after) moment none long =
      unread_at n after moment (or_parts (nat_le n (length (after ++ moment)) && reads_for_some heading (e ∷ (after ++ moment)) p tag)
      (read_since heading n p tag (after ++ moment)) none).1 long

module _ (heading : Heading) (known : Known heading) (p : ℕ) (tag : Tag) (q : ℕ) (dsb : Barrier) (h : List Event) where
  abbrev claim_of : Issued Event → Claim
  claim_of t = Taken p tag (suc (length t.before)) (suc (length h))

  -- a TLBI that the DSB answers takes the tag away, and the trust allows the claim
  pub record TakenBy (trust : Trust) : Type 0 where
    pub t : Issued Event
    pub away : TakenAway heading Patterns p tag (Dsb q dsb ∷ h) t
    pub newest : away.later ≡ []
    pub allowed : allows trust (claim_of t) ≡ true

  pub taken_by : (trust : Trust) → loses heading trust p tag (Dsb q dsb) h ≡ true → TakenBy trust
  taken_by trust e =
      let r = any_found (is_taken_by heading trust p tag q dsb h) (unanswered itself q h) e in
      let t = r.0 in
      let parts = proved 5 (λ a b c u d. If (Is ((((a && b) && c) && not u) && d) true)
      (Both (Is a true) (Both (Is b true) (Both (Is c true) (Both (Is u false) (Is d true)))))) refl
      (completes dsb t.tlbi) (reaches heading t.tlbi p) (takes_tag heading t.tlbi t.before tag)
      (read_since heading (length t.before) p tag (Dsb q dsb ∷ h)) (allows trust (claim_of t)) r.2 in
      record {
        t = t;
        away = record {
          q = q;
          dsb = dsb;
          later = [];
          earlier = h;
          split = refl;
          is_open = known.answered.sound q h t (to_contains (unanswered itself q h) t r.1);
          answered = parts.0;
          reached = parts.1.0;
          whole = parts.1.1.0;
          unread = λ after moment split long. unread_at heading p tag (length t.before) after moment
              (ap (read_since heading (length t.before) p tag) (sym split) ∙ parts.1.1.1.0) long;
          allowed = refl;
        };
        newest = refl;
        allowed = parts.1.1.1.1;
      }

  -- the DSB that answers is the newest event
  module _ (t : Issued Event) (k : TakenAway heading Patterns p tag (Dsb q dsb ∷ h) t) (newest : k.later ≡ []) where
    newest_is : Dsb q dsb ∷ h ≡ Dsb k.q k.dsb ∷ k.earlier
    newest_is = k.split ∙ ap (λ (xs : List Event). xs ++ Dsb k.q k.dsb ∷ k.earlier) newest

    is_found : In (unanswered itself q h) t
    is_found =
        let issuer : k.q ≡ q = cc newest_is in
        let earlier : k.earlier ≡ h = cc newest_is in
        from_contains (unanswered itself q h) t (known.answered.complete q h t
        (subst (λ (x : ℕ). Open itself x h t) issuer (subst (λ (xs : List Event). Open itself k.q xs t) earlier k.is_open)))

    pub taken : (trust : Trust) → allows trust (claim_of t) ≡ true → loses heading trust p tag (Dsb q dsb) h ≡ true
    taken trust allowed =
        let type : dsb ≡ k.dsb = cc newest_is in
        any_finds (is_taken_by heading trust p tag q dsb h) (unanswered itself q h) t is_found
        (proved 5 (λ a b c u d. If (Is a true) (If (Is b true) (If (Is c true) (If (Is u false) (If (Is d true)
        (Is ((((a && b) && c) && not u) && d) true)))))) refl
        (completes dsb t.tlbi) (reaches heading t.tlbi p) (takes_tag heading t.tlbi t.before tag)
        (read_since heading (length t.before) p tag (Dsb q dsb ∷ h)) (allows trust (claim_of t))
        (ap (λ (d : Barrier). completes d t.tlbi) type ∙ k.answered) k.reached k.whole
        (unread_all heading Patterns p tag (length t.before) (Dsb q dsb ∷ h)
        (λ after moment s. k.unread after moment (sym newest_is ∙ s))) allowed)

  pub forgotten : (cs : List Claim) → loses heading (Listed cs) p tag (Dsb q dsb) h ≡ true
      → loses heading Patterns p tag (Dsb q dsb) h ≡ true
  forgotten cs e = let k = taken_by (Listed cs) e in taken k.t k.away k.newest Patterns refl

  -- a tag that was taken away is kept for no page
  pub kept_by_none : loses heading Patterns p tag (Dsb q dsb) h ≡ true → Holding heading (Dsb q dsb ∷ h) p tag → ⊥
  kept_by_none lost k =
      elim (or_cases (reads heading (Dsb q dsb ∷ h) p tag k.0)
      (kept_at heading Patterns p k.0 tag h && not (loses heading Patterns p tag (Dsb q dsb) h)) k.1) [
        | inl reading ↦
            let parts = and_parts (answered_by dsb (λ b. tag_waits heading p tag q b h))
            (not (reads_for_some heading (Dsb q dsb ∷ h) p tag)) (sym (known.tag_steps.lost p tag q dsb h) ∙ lost) in
            true≢false (sym (some_reading heading (Dsb q dsb ∷ h) p tag k.0 reading)
            ∙ not-true (reads_for_some heading (Dsb q dsb ∷ h) p tag) parts.1)
        | inr stays ↦
            let parts = and_parts (kept_at heading Patterns p k.0 tag h)
            (not (loses heading Patterns p tag (Dsb q dsb) h)) stays in
            true≢false (sym lost ∙ not-true (loses heading Patterns p tag (Dsb q dsb) h) parts.1)
      ]

  -- ---- the least claim

  -- the claim with this position
  abbrev tag_named : List ℕ → Claim
  tag_named ns = Taken p tag (get_or ns 0 0) (suc (length h))

  names_tag : (ns : List ℕ) → Sized 1 ns → named (tag_named ns) ≡ ns
  names_tag (t ∷ []) s = refl
  names_tag ns s = absurd s

  abbrev pub test : List ℕ → Bool
  test ns = loses heading (Listed (tag_named ns ∷ [])) p tag (Dsb q dsb) h

  abbrev issued : List ℕ
  issued = map (λ (i : Issued Event). suc (length i.before)) (unanswered itself q h)

  pub sound : (ns : List ℕ) → Sized 1 ns → test ns ≡ true → TakenAt heading p tag (Dsb q dsb ∷ h) ns
  sound ns sized e = let k = taken_by (Listed (tag_named ns ∷ [])) e in (
    k.t,
    k.away,
    k.newest,
    sym (names_tag ns sized) ∙ ap named (only_this heading known (tag_named ns) (claim_of k.t) k.allowed),
  )

  pub complete : (ns : List ℕ) → TakenAt heading p tag (Dsb q dsb ∷ h) ns → Over issued 1 ns × (test ns ≡ true)
  complete ns at =
      subst (λ (ms : List ℕ). Over issued 1 ms × (test ms ≡ true)) (sym at.3) (
        (in_map (λ (i : Issued Event). suc (length i.before)) (unanswered itself q h) at.0 (is_found at.0 at.1 at.2), tt),
        taken at.0 at.1 at.2 (Listed (claim_of at.0 ∷ [])) (this heading known (claim_of at.0)),
      )

  pub least_tag : loses heading Patterns p tag (Dsb q dsb) h ≡ true
      → (t : ℕ) × IsLeast (TakenAt heading p tag (Dsb q dsb ∷ h)) (t ∷ [])
  least_tag e = let k = taken_by Patterns e in
      elim (least_or_none (TakenAt heading p tag (Dsb q dsb ∷ h)) issued 1 test sound complete) [
        | inl l ↦
            (get_or l.0 0 0, subst (IsLeast (TakenAt heading p tag (Dsb q dsb ∷ h))) (sym (names_tag l.0 l.1)) l.2)
        | inr none ↦ absurd (none (suc (length k.t.before) ∷ []) (k.t, k.away, k.newest, refl))
      ]

  pub listed_tag : (cs : List Claim) (n : ℕ) → TakenAt heading p tag (Dsb q dsb ∷ h) (n ∷ [])
      → Contains cs (Taken p tag n (suc (length h))) → loses heading (Listed cs) p tag (Dsb q dsb) h ≡ true
  listed_tag cs n at has =
      taken at.0 at.1 at.2 (Listed cs)
      (listed heading known cs (Taken p tag n (suc (length h))) (claim_of at.0) has (cc at.3))
