-- The step equations of cleansed, claim by claim.
use Rattle.bbm_histories.proofs.Common.{or-false, Heading, cleansed_under, answered_by, waits}
use Rattle.bbm_rules.proofs.Common.{◌≡◌, ℕ, ◌&&◌, ◌||◌, Bool, false, ◌==◌, List, ◌∷◌, refl, sym, ◌∙◌, ap, proved, Is}
use Rattle.bbm_rules.proofs.Common.{Half, Second, Full, Barrier, Event, Dsb, Claim, Place, Two, Taken, same_claim}
use Rattle.bbm_rules.proofs.Common.{Listed, answers_one, cleansed, flushes, full_step, publishes_write, same_cover}
use Rattle.bbm_rules.proofs.Common.{second_step, any, Noted, Issued, completes, reaches, unanswered}
use Rattle.bbm_rules.specs.Cleansing.{half_where, seen_where}
use Rattle.bbm_rules.specs.Notes.{event_of}
use Rattle.bbm_histories.specs.ClaimSteps.{cleansed_listed, completes_claim, full_at, half_at, half_by, half_by_after}
use Rattle.bbm_histories.specs.ClaimSteps.{second_at, seen_by, seen_by_after}
use Rattle.bbm_histories.proofs.Searches.{Search, apart_from, each_test, search_any, search_at, search_by, search_never}
use Rattle.bbm_histories.proofs.Searches.{search_some, search_where}
use Rattle.bbm_histories.proofs.StepLemmas.{answered_kinds, cleansed_under_step}
use Rattle.bbm_lemmas.proofs.Tests.{any_and, any_or, any_same}

-- the tests of a claim, those that don't depend on what is searched first
place_order : (r a b t e : Bool) → ((((r && a) && b) && t) && e) ≡ ((r && (a && e)) && (t && b))
place_order = proved 5 (λ r a b t e. Is ((((r && a) && b) && t) && e) ((r && (a && e)) && (t && b))) refl

two_order : (r a b t1 d1 t2 e : Bool)
    → ((((((r && a) && b) && t1) && d1) && t2) && e) ≡ ((r && (a && e)) && (t2 && (d1 && (t1 && b))))
two_order = proved 7 (λ r a b t1 d1 t2 e. Is ((((((r && a) && b) && t1) && d1) && t2) && e) ((r && (a && e)) && (t2 &&
    (d1 && (t1 && b))))) refl

-- ---- one place

module _ (heading : Heading) (place p : ℕ) where
  search_seen : (since : List Noted) → Search ℕ (λ f. seen_where heading place p f since)
  search_seen since =
      search_some ℕ Noted (λ n older f. publishes_write heading place p n.event older && f n.position)
      (λ n older. search_where (publishes_write heading place p n.event older) (λ f. f n.position) (search_at n.position)) since

  search_answer : {T : Type 0} (find : Issued Noted → (T → Bool) → Bool) → ((t : Issued Noted) → Search T (find t))
      → (e : Event) (older : List Noted) → Search T (λ f. answers_one (λ t. find t f) e older)
  search_answer find k (Dsb q dsb) older =
      search_any (λ (t : Issued Noted) f. completes dsb t.tlbi.event && find t f)
      (λ t. search_where (completes dsb t.tlbi.event) (find t) (k t)) (unanswered event_of q older)
  search_answer find k e older = search_never

  -- ---- half

  -- the positions of the publication, the TLBI and the answer
  abbrev Three : Type 0
  Three = ℕ × ℕ × ℕ

  abbrev find_half : ℕ → Issued Noted → (Three → Bool) → Bool
  find_half d t f = flushes heading place p Half (seen_where heading place p (λ b. f (b, t.tlbi.position, d))) t

  search_half_at : (d : ℕ) (t : Issued Noted) → Search Three (find_half d t)
  search_half_at d t =
      search_where (reaches heading t.tlbi.event p && same_cover (t.tlbi.covers place) Half)
      (λ f. seen_where heading place p (λ b. f (b, t.tlbi.position, d)) t.before)
      (search_by (λ b. (b, t.tlbi.position, d)) (λ f. seen_where heading place p f t.before) (search_seen t.before))

  search_half : (since : List Noted) → Search Three (λ f. half_where heading place p (λ x y z. f (x, y, z)) since)
  search_half since =
      search_some Three Noted (λ n older f. answers_one (λ t. find_half n.position t f) n.event older)
      (λ n older. search_answer (find_half n.position) (search_half_at n.position) n.event older) since

  half_now : (b t d now q : ℕ) (dsb : Barrier) (since : List Noted)
      → answers_one (λ i. find_half now i (λ x. d == x.2 && (t == x.1 && b == x.0))) (Dsb q dsb) since
      ≡ (d == now && answered_by dsb (λ k. waits event_of q k (half_at heading place p b t) since))
  half_now b t d now q dsb since =
      any_same (λ (i : Issued Noted). completes dsb i.tlbi.event && find_half now i (λ x. d == x.2 && (t == x.1 && b == x.0)))
      (λ (i : Issued Noted). d == now && (completes dsb i.tlbi.event && half_at heading place p b t i)) (unanswered event_of q since)
      (λ i. one i (d == now) (t == i.tlbi.position))
      ∙ (any_and (d == now) (λ (i : Issued Noted). completes dsb i.tlbi.event && half_at heading place p b t i) (unanswered event_of q since)
      ∙ ap (λ (c : Bool). d == now && c) (answered_kinds Noted event_of q dsb (half_at heading place p b t) since))
    where
      swap : (a r c x : Bool) → (a && (r && (c && x))) ≡ (c && (a && (r && x)))
      swap = proved 4 (λ a r c x. Is (a && (r && (c && x))) (c && (a && (r && x)))) refl

      one : (i : Issued Noted) (c k : Bool)
          → (completes dsb i.tlbi.event && flushes heading place p Half (seen_where heading place p (λ x. c && (k && b == x))) i)
          ≡ (c && (completes dsb i.tlbi.event && flushes heading place p Half (λ before. k && seen_by heading place p b before) i))
      one i c k =
          ap (λ (x : Bool). completes dsb i.tlbi.event
          && ((reaches heading i.tlbi.event p && same_cover (i.tlbi.covers place) Half) && x))
          (apart_from ℕ (λ f. seen_where heading place p f i.before) (search_seen i.before) c (λ x. k && b == x)
          ∙ ap (λ (x : Bool). c && x)
          (apart_from ℕ (λ f. seen_where heading place p f i.before) (search_seen i.before) k (λ x. b == x)))
          ∙ swap (completes dsb i.tlbi.event) (reaches heading i.tlbi.event p && same_cover (i.tlbi.covers place) Half) c
          (k && seen_by heading place p b i.before)

  half_then : (b t d now : ℕ) (e : Event) (since : List Noted)
      → (answers_one (λ i. find_half now i (λ x. d == x.2 && (t == x.1 && b == x.0))) e since || half_by heading place p b t d since)
      ≡ half_by_after heading place p b t d now e since
  half_then b t d now (Dsb q dsb) since =
      ap (λ (c : Bool). c || half_by heading place p b t d since) (half_now b t d now q dsb since)
  half_then b t d now e since = refl

  pub half_by_step : (b t d : ℕ) (n : Noted) (since : List Noted)
      → half_by heading place p b t d (n ∷ since) ≡ half_by_after heading place p b t d n.position n.event since
  half_by_step b t d n since = half_then b t d n.position n.event since

  -- ---- full, and the second step

  abbrev Two_positions : Type 0
  Two_positions = ℕ × ℕ

  abbrev Four : Type 0
  Four = ℕ × ℕ × ℕ × ℕ

  abbrev find_full : Issued Noted → (Two_positions → Bool) → Bool
  find_full t f = flushes heading place p Full (seen_where heading place p (λ b. f (b, t.tlbi.position))) t

  abbrev find_second : Issued Noted → (Four → Bool) → Bool
  find_second t f = flushes heading place p Second (half_where heading place p (λ b y z. f (b, y, z, t.tlbi.position))) t

  search_full : (t : Issued Noted) → Search Two_positions (find_full t)
  search_full t =
      search_where (reaches heading t.tlbi.event p && same_cover (t.tlbi.covers place) Full)
      (λ f. seen_where heading place p (λ b. f (b, t.tlbi.position)) t.before)
      (search_by (λ b. (b, t.tlbi.position)) (λ f. seen_where heading place p f t.before) (search_seen t.before))

  search_second : (t : Issued Noted) → Search Four (find_second t)
  search_second t =
      search_where (reaches heading t.tlbi.event p && same_cover (t.tlbi.covers place) Second)
      (λ f. half_where heading place p (λ b y z. f (b, y, z, t.tlbi.position)) t.before)
      (search_by (λ x. (x.0, x.1, x.2, t.tlbi.position)) (λ f. half_where heading place p (λ x y z. f (x, y, z)) t.before)
      (search_half t.before))

  full_now : (b t q : ℕ) (dsb : Barrier) (since : List Noted)
      → answers_one (λ i. find_full i (λ x. t == x.1 && b == x.0)) (Dsb q dsb) since
      ≡ answered_by dsb (λ k. waits event_of q k (full_at heading place p b t) since)
  full_now b t q dsb since =
      any_same (λ (i : Issued Noted). completes dsb i.tlbi.event && find_full i (λ x. t == x.1 && b == x.0))
      (λ (i : Issued Noted). completes dsb i.tlbi.event && full_at heading place p b t i) (unanswered event_of q since)
      (λ i. ap (λ (x : Bool). completes dsb i.tlbi.event
      && ((reaches heading i.tlbi.event p && same_cover (i.tlbi.covers place) Full) && x))
      (apart_from ℕ (λ f. seen_where heading place p f i.before) (search_seen i.before) (t == i.tlbi.position) (λ x. b == x)))
      ∙ answered_kinds Noted event_of q dsb (full_at heading place p b t) since

  second_now : (b t1 d1 t2 q : ℕ) (dsb : Barrier) (since : List Noted)
      → answers_one (λ i. find_second i (λ x. t2 == x.3 && (d1 == x.2 && (t1 == x.1 && b == x.0)))) (Dsb q dsb) since
      ≡ answered_by dsb (λ k. waits event_of q k (second_at heading place p b t1 d1 t2) since)
  second_now b t1 d1 t2 q dsb since =
      any_same (λ (i : Issued Noted). completes dsb i.tlbi.event
      && find_second i (λ x. t2 == x.3 && (d1 == x.2 && (t1 == x.1 && b == x.0))))
      (λ (i : Issued Noted). completes dsb i.tlbi.event && second_at heading place p b t1 d1 t2 i) (unanswered event_of q since)
      (λ i. ap (λ (x : Bool). completes dsb i.tlbi.event
      && ((reaches heading i.tlbi.event p && same_cover (i.tlbi.covers place) Second) && x))
      (apart_from Three (λ f. half_where heading place p (λ x y z. f (x, y, z)) i.before) (search_half i.before)
      (t2 == i.tlbi.position) (λ x. d1 == x.2 && (t1 == x.1 && b == x.0))))
      ∙ answered_kinds Noted event_of q dsb (second_at heading place p b t1 d1 t2) since

  -- ---- one claim, and each of a list

  module _ (q : ℕ) (dsb : Barrier) (d : ℕ) (since : List Noted) where
    abbrev ends_here : ℕ → ℕ → ℕ → Bool
    ends_here r a e = r == p && (a == place && e == d)

    abbrev full_part : Claim → Bool
    full_part (Place r a b t e) =
        ends_here r a e && answered_by dsb (λ k. waits event_of q k (full_at heading place p b t) since)
    full_part _ = false

    abbrev second_part : Claim → Bool
    second_part (Two r a b t1 d1 t2 e) =
        ends_here r a e && answered_by dsb (λ k. waits event_of q k (second_at heading place p b t1 d1 t2) since)
    second_part _ = false

    parts : (c : Claim) → completes_claim heading place p q dsb d since c ≡ (full_part c || second_part c)
    parts (Place r a b t e) = sym (or-false (full_part (Place r a b t e)))
    parts (Two r a b t1 d1 t2 e) = refl
    parts (Taken r g t e) = refl

    abbrev find_any_full : (Two_positions → Bool) → Bool
    find_any_full f = answers_one (λ t. find_full t f) (Dsb q dsb) since

    abbrev find_any_second : (Four → Bool) → Bool
    find_any_second f = answers_one (λ t. find_second t f) (Dsb q dsb) since

    search_any_full : Search Two_positions find_any_full
    search_any_full = search_answer find_full search_full (Dsb q dsb) since

    search_any_second : Search Four find_any_second
    search_any_second = search_answer find_second search_second (Dsb q dsb) since

    full_claim : (c : Claim) → find_any_full (λ x. same_claim c (Place p place x.0 x.1 d)) ≡ full_part c
    full_claim (Place r a b t e) =
        search_any_full.same (λ x. same_claim (Place r a b t e) (Place p place x.0 x.1 d))
        (λ x. ends_here r a e && (t == x.1 && b == x.0))
        (λ x. place_order (r == p) (a == place) (b == x.0) (t == x.1) (e == d))
        ∙ (apart_from Two_positions find_any_full search_any_full (ends_here r a e) (λ x. t == x.1 && b == x.0)
        ∙ ap (λ (x : Bool). ends_here r a e && x) (full_now b t q dsb since))
    full_claim (Two r a b t1 d1 t2 e) = search_any_full.none
    full_claim (Taken r g t e) = search_any_full.none

    second_claim : (c : Claim) → find_any_second (λ x. same_claim c (Two p place x.0 x.1 x.2 x.3 d)) ≡ second_part c
    second_claim (Place r a b t e) = search_any_second.none
    second_claim (Two r a b t1 d1 t2 e) =
        search_any_second.same (λ x. same_claim (Two r a b t1 d1 t2 e) (Two p place x.0 x.1 x.2 x.3 d))
        (λ x. ends_here r a e && (t2 == x.3 && (d1 == x.2 && (t1 == x.1 && b == x.0))))
        (λ x. two_order (r == p) (a == place) (b == x.0) (t1 == x.1) (d1 == x.2) (t2 == x.3) (e == d))
        ∙ (apart_from Four find_any_second search_any_second (ends_here r a e)
        (λ x. t2 == x.3 && (d1 == x.2 && (t1 == x.1 && b == x.0)))
        ∙ ap (λ (x : Bool). ends_here r a e && x) (second_now b t1 d1 t2 q dsb since))
    second_claim (Taken r g t e) = search_any_second.none

    full_claims : (cs : List Claim)
        → answered_by dsb (λ k. waits event_of q k (full_step heading (Listed cs) place p d) since) ≡ any full_part cs
    full_claims cs =
        sym (answered_kinds Noted event_of q dsb (full_step heading (Listed cs) place p d) since)
        ∙ (each_test Two_positions find_any_full search_any_full (λ c x. same_claim c (Place p place x.0 x.1 d)) cs
        ∙ any_same (λ (c : Claim). find_any_full (λ x. same_claim c (Place p place x.0 x.1 d))) full_part cs full_claim)

    second_claims : (cs : List Claim)
        → answered_by dsb (λ k. waits event_of q k (second_step heading (Listed cs) place p d) since) ≡ any second_part cs
    second_claims cs =
        sym (answered_kinds Noted event_of q dsb (second_step heading (Listed cs) place p d) since)
        ∙ (each_test Four find_any_second search_any_second (λ c x. same_claim c (Two p place x.0 x.1 x.2 x.3 d)) cs
        ∙ any_same (λ (c : Claim). find_any_second (λ x. same_claim c (Two p place x.0 x.1 x.2 x.3 d))) second_part cs second_claim)

    both_steps : (cs : List Claim)
        → (answered_by dsb (λ k. waits event_of q k (full_step heading (Listed cs) place p d) since)
        || answered_by dsb (λ k. waits event_of q k (second_step heading (Listed cs) place p d) since))
        ≡ any (completes_claim heading place p q dsb d since) cs
    both_steps cs =
        ap (λ (c : Bool). c || answered_by dsb (λ k. waits event_of q k (second_step heading (Listed cs) place p d) since)) (full_claims cs)
        ∙ (ap (λ (c : Bool). any full_part cs || c) (second_claims cs)
        ∙ sym (any_same (completes_claim heading place p q dsb d since) (λ c. full_part c || second_part c) cs parts
        ∙ any_or full_part second_part cs))

  listed_then : (cs : List Claim) (d : ℕ) (e : Event) (since : List Noted)
      → cleansed_under heading place p (Listed cs) d e since ≡ cleansed_listed heading place p cs d e since
  listed_then cs d (Dsb q dsb) since =
      ap (λ (c : Bool). c || cleansed heading (Listed cs) place p since) (both_steps q dsb d since cs)
  listed_then cs d e since = refl

  pub listed_step : (cs : List Claim) (n : Noted) (since : List Noted)
      → cleansed heading (Listed cs) place p (n ∷ since) ≡ cleansed_listed heading place p cs n.position n.event since
  listed_step cs n since = cleansed_under_step heading place p (Listed cs) n since ∙ listed_then cs n.position n.event since

  -- ---- what a DSB publishes

  seen_then : (b d : ℕ) (e : Event) (since : List Noted)
      → ((publishes_write heading place p e since && b == d) || seen_by heading place p b since)
      ≡ seen_by_after heading place p b d e since
  seen_then b d (Dsb q dsb) since = refl
  seen_then b d e since = refl

  pub seen_by_step : (b : ℕ) (n : Noted) (since : List Noted)
      → seen_by heading place p b (n ∷ since) ≡ seen_by_after heading place p b n.position n.event since
  seen_by_step b n since = seen_then b n.position n.event since
