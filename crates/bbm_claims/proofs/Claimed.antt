-- A place is cleansed by the newer part of a log exactly where some claim of it has a mark above what came before.
use Rattle.bbm_claims.proofs.Common.{half_by, seen_by, answered_by, waits, Known, claim_mark, flush_mark, half_mark}
use Rattle.bbm_claims.proofs.Common.{is_of, is_true_of, mark_at, seen_mark}
use Rattle.bbm_rules.proofs.Common.{◌≡◌, ℕ, suc, ◌≤◌, Bool, true, false, cond, ◌&&◌, ◌||◌, nat_lt, ◌==◌, List, [], ◌∷◌}
use Rattle.bbm_rules.proofs.Common.{◌++◌, length, refl, sym, ◌∙◌, ap, arith, zero-le, and_right, eqb-true, le-ltb}
use Rattle.bbm_rules.proofs.Common.{proved, If, Is, Cover, Second, Full, Claim, Place, Two, Taken, Listed, cleansed}
use Rattle.bbm_rules.proofs.Common.{any, Noted, Heading, Event, Dsb, is_none_of}
use Rattle.bbm_rules.specs.Notes.{event_of}
use Rattle.bbm_histories.specs.ClaimSteps.{cleansed_listed, completes_claim}
use Rattle.bbm_claims.proofs.Tests.{any_both, lt_at, none_below}
use Rattle.bbm_claims.proofs.Marked.{Marks, Numbered, flush_at, flush_is, flush_within, half_marks, mark_none}
use Rattle.bbm_claims.proofs.Marked.{mark_within, seen_marks}
use Rattle.bbm_lemmas.proofs.Tests.{any_never}

-- tests of a claim, in two orders
combined : (x y here f f' g : Bool) → (x ≡ true → y ≡ true → f' ≡ f)
    → (((x && (y && here)) && f') || ((x && y) && g)) ≡ ((x && y) && ((f && here) || g))
combined = proved 6 (λ x y here f f' g. If (If (Is x true) (If (Is y true) (Is f' f))) (Is (((x && (y && here)) && f')
    || ((x && y) && g)) ((x && y) && ((f && here) || g)))) refl

module _ (heading : Heading) (known : Known heading) where
  pub claim_within : (claim : Claim) (h : List Noted) → claim_mark heading claim h ≤ length h
  claim_within (Place p a b t d) h =
      mark_within d (λ n before. flush_mark heading a p Full t (seen_mark heading a p b) n.event before)
      (λ n before. flush_within heading a p known (seen_mark heading a p b) (seen_by heading a p b)
      (seen_marks heading a p b) Full t n.event before) h
  claim_within (Two p a b t1 d1 t2 d2) h =
      mark_within d2 (λ n before. flush_mark heading a p Second t2 (half_mark heading a p b t1 d1) n.event before)
      (λ n before. flush_within heading a p known (half_mark heading a p b t1 d1) (half_by heading a p b t1 d1)
      (half_marks heading a p known b t1 d1) Second t2 n.event before) h
  claim_within (Taken p tag t d) h = mark_within d (λ n before. 0) (λ n h. zero-le) h

  module _ (place p : ℕ) where
    -- whether the event, at position d behind these, completes the claim
    abbrev ends : ℕ → Event → List Noted → Claim → Bool
    ends d (Dsb q dsb) since claim = completes_claim heading place p q dsb d since claim
    ends d _ since claim = false

    listed_is : (cs : List Claim) (d : ℕ) (e : Event) (since : List Noted)
        → cleansed_listed heading place p cs d e since
        ≡ (any (ends d e since) cs || cleansed heading (Listed cs) place p since)
    listed_is cs d (Dsb q dsb) since = refl
    listed_is cs d e since =
        ap (λ (b : Bool). b || cleansed heading (Listed cs) place p since)
        (sym (any_never cs))

    -- a flush at the end of a claim of a at r, after what its first positions say
    module _ (r a d : ℕ) (cover : Cover) (t : ℕ) (mark : List Noted → ℕ) (test : ℕ → ℕ → List Noted → Bool)
        (marks : Marks heading a r mark (test a r)) where
      abbrev flushed : Event → ℕ → List Noted → Bool
      flushed (Dsb q dsb) now since = (r == p && (a == place && d == now))
          && answered_by dsb (λ k. waits event_of q k (flush_at heading place p cover t (test place p)) since)
      flushed _ now since = false

      abbrev at_end : List Noted → ℕ
      at_end h = mark_at d (λ n before. flush_mark heading a r cover t mark n.event before) h

      at_end_none : (h : List Noted) → (d == suc (length h)) ≡ true → at_end h ≡ 0
      at_end_none h k =
          let e = eqb-true d (suc (length h)) k in
          mark_none d (λ n before. flush_mark heading a r cover t mark n.event before) h (omega arith)

      one_end : (e : Event) (n : Noted) (newer older : List Noted) → Numbered (n ∷ (newer ++ older))
          → (flushed e n.position newer || ((r == p && a == place) && nat_lt (length older) (at_end (newer ++ older))))
          ≡ ((r == p && a == place) && nat_lt (length older) (cond (d == suc (length (newer ++ older)))
          (flush_mark heading a r cover t mark e (newer ++ older)) (at_end (newer ++ older))))
      one_end (Dsb q dsb) n newer older numbered =
          let answered : ℕ → ℕ → Bool
          = λ y x. answered_by dsb (λ k. waits event_of q k (flush_at heading y x cover t (test y x)) newer) in
          let g : Bool = nat_lt (length older) (at_end (newer ++ older)) in
          ap (λ (i : ℕ). ((r == p && (a == place && d == i)) && answered place p) || ((r == p && a == place) && g))
          numbered.0
          ∙ combined (r == p) (a == place) (d == suc (length (newer ++ older))) (answered a r) (answered place p) g
          (λ x y. ap (λ (z : ℕ). answered place z) (sym (eqb-true r p x))
          ∙ ap (λ (z : ℕ). answered z r) (sym (eqb-true a place y)))
          ∙ ap (λ (b : Bool). (r == p && a == place) && b)
          (sym (lt_at (d == suc (length (newer ++ older))) (length older)
          (flush_mark heading a r cover t mark (Dsb q dsb) (newer ++ older)) (at_end (newer ++ older)) (answered a r) g
          (flush_is heading a r known mark (test a r) marks cover t q dsb newer older numbered.1) refl
          (at_end_none (newer ++ older))))
      one_end e n newer older numbered =
          ap (λ (b : Bool). (r == p && a == place) && b)
          (sym (lt_at (d == suc (length (newer ++ older))) (length older) 0 (at_end (newer ++ older)) false
          (nat_lt (length older) (at_end (newer ++ older))) (none_below (length older)) refl
          (at_end_none (newer ++ older))))

    one_claim : (n : Noted) (newer older : List Noted) → Numbered (n ∷ (newer ++ older)) → (claim : Claim)
        → (ends n.position n.event newer claim || is_true_of heading place p (length older) (newer ++ older) claim)
        ≡ is_true_of heading place p (length older) (n ∷ (newer ++ older)) claim
    one_claim n newer older numbered (Place r a b t d) =
        ap (λ (x : Bool). x || is_true_of heading place p (length older) (newer ++ older) (Place r a b t d))
        (same n.event)
        ∙ one_end r a d Full t (seen_mark heading a r b) (λ y x. seen_by heading y x b)
        (seen_marks heading a r b) n.event n newer older numbered
      where
        same : (e : Event) → ends n.position e newer (Place r a b t d)
            ≡ flushed r a d Full t (seen_mark heading a r b) (λ y x. seen_by heading y x b)
            (seen_marks heading a r b) e n.position newer
        same (Dsb q dsb) = refl
        same e = refl
    one_claim n newer older numbered (Two r a b t1 d1 t2 d2) =
        ap (λ (x : Bool). x || is_true_of heading place p (length older) (newer ++ older) (Two r a b t1 d1 t2 d2))
        (same n.event)
        ∙ one_end r a d2 Second t2 (half_mark heading a r b t1 d1) (λ y x. half_by heading y x b t1 d1)
        (half_marks heading a r known b t1 d1) n.event n newer older numbered
      where
        same : (e : Event) → ends n.position e newer (Two r a b t1 d1 t2 d2)
            ≡ flushed r a d2 Second t2 (half_mark heading a r b t1 d1) (λ y x. half_by heading y x b t1 d1)
            (half_marks heading a r known b t1 d1) e n.position newer
        same (Dsb q dsb) = refl
        same e = refl
    one_claim n newer older numbered (Taken r tag t d) = none n.event
      where
        none : (e : Event) → (ends n.position e newer (Taken r tag t d) || false) ≡ false
        none (Dsb q dsb) = refl
        none e = refl

    pub cleansed_is : (cs : List Claim) (newer older : List Noted) → Numbered (newer ++ older)
        → cleansed heading (Listed cs) place p newer
        ≡ any (is_true_of heading place p (length older) (newer ++ older)) cs
    cleansed_is cs [] older numbered =
        sym (is_none_of (is_true_of heading place p (length older) older) cs
        (λ c i. and_right (is_of place p c) (nat_lt (length older) (claim_mark heading c older))
        (le-ltb (length older) (claim_mark heading c older) (claim_within c older))))
    cleansed_is cs (n ∷ newer) older numbered =
        known.claim_steps.listed cs place p n newer
        ∙ listed_is cs n.position n.event newer
        ∙ ap (λ (b : Bool). any (ends n.position n.event newer) cs || b) (cleansed_is cs newer older numbered.1)
        ∙ any_both (ends n.position n.event newer) (is_true_of heading place p (length older) (newer ++ older))
        (is_true_of heading place p (length older) (n ∷ (newer ++ older))) cs (one_claim n newer older numbered)
