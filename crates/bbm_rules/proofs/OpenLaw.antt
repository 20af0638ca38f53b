-- The unanswered TLBIs of a PE are those that no later DSB of it completes.
use Rattle.bbm_rules.proofs.Common.{◌≡◌, ℕ, Bool, true, false, cond, ◌&&◌, ◌⊎◌, ◌==◌, List, [], ◌∷◌, ◌++◌, Contains}
use Rattle.bbm_rules.proofs.Common.{refl, sym, ◌∙◌, ap, subst, inl, inr, true≢false, not, proved, If, Is, In}
use Rattle.bbm_rules.proofs.Common.{from_contains, to_contains, Barrier, Event, Dsb, Tlbi, Noted, Issued, completes}
use Rattle.bbm_rules.proofs.Common.{left_open, unanswered, Open, issues, completes_for, itself}
use Rattle.bbm_lemmas.proofs.Tautologies.Claim.{Either}
use Rattle.bbm_rules.specs.Notes.{event_of}
use Rattle.bbm_rules.specs.Reach.{still_open}

abbrev pub tail_of : {A : Type 0} → List A → List A
tail_of [] = []
tail_of (x ∷ xs) = xs

abbrev pub head_of : {A : Type 0} → A → List A → A
head_of d [] = d
head_of d (x ∷ xs) = x

module _ (A : Type 0) (event : A → Event) (q : ℕ) where
  -- one item more, which doesn't complete the TLBI
  further : (x : A) (h : List A) (t : Issued A) → completes_for q (event t.tlbi) (event x) ≡ false
      → Open event q h t → Open event q (x ∷ h) t
  further x h t unrelated o = record {
    newer = x ∷ o.newer;
    split = ap (λ es. x ∷ es) o.split;
    issued = o.issued;
    uncompleted = still;
  }
    where
      still : (y : A) (after before : List A) → x ∷ o.newer ≡ after ++ y ∷ before
          → completes_for q (event t.tlbi) (event y) ≡ false
      still y [] before k =
          subst (λ (z : A). completes_for q (event t.tlbi) (event z) ≡ false) (ap (head_of x) k) unrelated
      still y (z ∷ after) before k = o.uncompleted y after before (ap tail_of k)

  -- the TLBI that the item itself is
  here : (x : A) (h : List A) → issues q (event x) ≡ true → Open event q (x ∷ h) (record { tlbi = x; before = h })
  here x h issued = record {
    newer = [];
    split = refl;
    issued = issued;
    uncompleted = λ y after before k. absurd (none after y before k);
  }
    where
      none : (after : List A) (y : A) (before : List A) → [] ≡ after ++ y ∷ before → ⊥
      none [] y before k = cc
      none (z ∷ after) y before k = cc

  -- what a DSB leaves open
  left_one : (dsb : Barrier) (u : Issued A) (ts : List (Issued A)) (t : Issued A) (b : Bool)
      → completes dsb (event u.tlbi) ≡ b
      → In (cond (not b) (u ∷ left_open event dsb ts) (left_open event dsb ts)) t
      → (In (left_open event dsb ts) t → In ts t × (completes dsb (event t.tlbi) ≡ false))
      → In (u ∷ ts) t × (completes dsb (event t.tlbi) ≡ false)
  left_one dsb u ts t true e i rest = let r : In ts t × (completes dsb (event t.tlbi) ≡ false) = rest i in (inr r.0, r.1)
  left_one dsb u ts t false e (inl same) rest =
      (inl same, subst (λ (v : Issued A). completes dsb (event v.tlbi) ≡ false) same e)
  left_one dsb u ts t false e (inr i) rest =
      let r : In ts t × (completes dsb (event t.tlbi) ≡ false) = rest i in (inr r.0, r.1)

  left_sound : (dsb : Barrier) (ts : List (Issued A)) (t : Issued A) → In (left_open event dsb ts) t
      → In ts t × (completes dsb (event t.tlbi) ≡ false)
  left_sound dsb [] t i = absurd i
  left_sound dsb (u ∷ ts) t i = left_one dsb u ts t (completes dsb (event u.tlbi)) refl i (left_sound dsb ts t)

  left_kept : (dsb : Barrier) (u : Issued A) (ts : List (Issued A)) (t : Issued A) (b : Bool)
      → completes dsb (event u.tlbi) ≡ b → (u ≡ t) ⊎ In (left_open event dsb ts) t
      → completes dsb (event t.tlbi) ≡ false → In (cond (not b) (u ∷ left_open event dsb ts) (left_open event dsb ts)) t
  left_kept dsb u ts t false e i k = i
  left_kept dsb u ts t true e (inl same) k = absurd (true≢false (sym e
      ∙ (ap (λ (v : Issued A). completes dsb (event v.tlbi)) same ∙ k)))
  left_kept dsb u ts t true e (inr i) k = i

  left_complete : (dsb : Barrier) (ts : List (Issued A)) (t : Issued A) → In ts t
      → completes dsb (event t.tlbi) ≡ false → In (left_open event dsb ts) t
  left_complete dsb [] t i k = absurd i
  left_complete dsb (u ∷ ts) t (inl same) k =
      left_kept dsb u ts t (completes dsb (event u.tlbi)) refl (inl same) k
  left_complete dsb (u ∷ ts) t (inr i) k =
      left_kept dsb u ts t (completes dsb (event u.tlbi)) refl (inr (left_complete dsb ts t i k)) k

  -- one item more: each TLBI of the list is open
  at_tlbi : (x : A) (h : List A) (ts : List (Issued A)) (t : Issued A) (b : Bool)
      → completes_for q (event t.tlbi) (event x) ≡ false → (b ≡ true → issues q (event x) ≡ true)
      → In (cond b (record { tlbi = x; before = h } ∷ ts) ts) t
      → (In ts t → Open event q h t) → Open event q (x ∷ h) t
  at_tlbi x h ts t true unrelated issued (inl same) rest =
      subst (λ (u : Issued A). Open event q (x ∷ h) u) same (here x h (issued refl))
  at_tlbi x h ts t true unrelated issued (inr i) rest = further x h t unrelated (rest i)
  at_tlbi x h ts t false unrelated issued i rest = further x h t unrelated (rest i)

  at_dsb : (x : A) (h : List A) (dsb : Barrier) (ts : List (Issued A)) (t : Issued A) (b : Bool)
      → ((completes dsb (event t.tlbi) ≡ false) ⊎ (b ≡ false) → completes_for q (event t.tlbi) (event x) ≡ false)
      → In (cond b (left_open event dsb ts) ts) t
      → (In ts t → Open event q h t) → Open event q (x ∷ h) t
  at_dsb x h dsb ts t true unrelated i rest =
      let r : In ts t × (completes dsb (event t.tlbi) ≡ false) = left_sound dsb ts t i in
      further x h t (unrelated (inl r.1)) (rest r.0)
  at_dsb x h dsb ts t false unrelated i rest = further x h t (unrelated (inr refl)) (rest i)

  or_of : (b c : Bool) → (c ≡ false) ⊎ (b ≡ false) → (b && c) ≡ false
  or_of = proved 2 (λ b c. If (Either (Is c false) (Is b false)) (Is (b && c) false)) refl

  one_more : (x : A) (h : List A) (ts : List (Issued A)) (t : Issued A) (e : Event) → event x ≡ e
      → In (still_open event q e (record { tlbi = x; before = h }) ts) t
      → (In ts t → Open event q h t) → Open event q (x ∷ h) t
  one_more x h ts t (Tlbi pe op xt) is i rest =
      at_tlbi x h ts t (pe == q) (ap (completes_for q (event t.tlbi)) is) (λ k. ap (issues q) is ∙ k) i rest
  one_more x h ts t (Dsb pe dsb) is i rest =
      at_dsb x h dsb ts t (pe == q)
      (λ k. ap (completes_for q (event t.tlbi)) is ∙ or_of (pe == q) (completes dsb (event t.tlbi)) k) i rest
  one_more x h ts t e is i rest = further x h t (ap (completes_for q (event t.tlbi)) is) (rest i)

  sound : (h : List A) (t : Issued A) → In (unanswered event q h) t → Open event q h t
  sound [] t i = absurd i
  sound (x ∷ h) t i = one_more x h (unanswered event q h) t (event x) refl i (sound h t)

  -- a TLBI that is open is in the list
  kept_tlbi : (x : A) (h : List A) (ts : List (Issued A)) (t : Issued A) (e : Event) → issues q e ≡ true
      → record { tlbi = x; before = h } ≡ t → In (still_open event q e (record { tlbi = x; before = h }) ts) t
  kept_tlbi x h ts t (Tlbi pe op xt) issued same =
      subst (λ (b : Bool). In (cond b (record { tlbi = x; before = h } ∷ ts) ts) t) (sym issued) (inl same)
  kept_tlbi x h ts t e issued same = absurd (true≢false (sym issued))

  kept_older : (x : A) (h : List A) (ts : List (Issued A)) (t : Issued A) (e : Event)
      → completes_for q (event t.tlbi) e ≡ false → In ts t
      → In (still_open event q e (record { tlbi = x; before = h }) ts) t
  kept_older x h ts t (Tlbi pe op xt) k i = behind (pe == q)
    where
      behind : (b : Bool) → In (cond b (record { tlbi = x; before = h } ∷ ts) ts) t
      behind true = inr i
      behind false = i
  kept_older x h ts t (Dsb pe dsb) k i = through (pe == q) k
    where
      through : (b : Bool) → (b && completes dsb (event t.tlbi)) ≡ false → In (cond b (left_open event dsb ts) ts) t
      through true k = left_complete dsb ts t i k
      through false k = i
  kept_older x h ts t e k i = i

  complete_from : (newer h : List A) (t : Issued A) → h ≡ newer ++ t.tlbi ∷ t.before → issues q (event t.tlbi) ≡ true
      → ((x : A) (after before : List A) → newer ≡ after ++ x ∷ before → completes_for q (event t.tlbi) (event x) ≡ false)
      → In (unanswered event q (newer ++ t.tlbi ∷ t.before)) t
  complete_from [] h t split issued none =
      kept_tlbi t.tlbi t.before (unanswered event q t.before) t (event t.tlbi) issued refl
  complete_from (x ∷ newer) h t split issued none =
      kept_older x (newer ++ t.tlbi ∷ t.before) (unanswered event q (newer ++ t.tlbi ∷ t.before)) t (event x)
      (none x [] newer refl)
      (complete_from newer (newer ++ t.tlbi ∷ t.before) t refl issued
      (λ y after before k. none y (x ∷ after) before (ap (λ es. x ∷ es) k)))

  complete : (h : List A) (t : Issued A) → Open event q h t → In (unanswered event q h) t
  complete h t o =
      subst (λ (es : List A). In (unanswered event q es) t) (sym o.split)
      (complete_from o.newer h t o.split o.issued o.uncompleted)

-- The list and the sentence say the same, of events and of events with notes.
pub open_sound : (q : ℕ) (h : List Event) (t : Issued Event) → Contains (unanswered itself q h) t → Open itself q h t
open_sound q h t c = sound Event itself q h t (from_contains (unanswered itself q h) t c)

pub open_complete : (q : ℕ) (h : List Event) (t : Issued Event) → Open itself q h t → Contains (unanswered itself q h) t
open_complete q h t o = to_contains (unanswered itself q h) t (complete Event itself q h t o)

pub open_note_sound : (q : ℕ) (h : List Noted) (t : Issued Noted)
    → Contains (unanswered event_of q h) t → Open event_of q h t
open_note_sound q h t c = sound Noted event_of q h t (from_contains (unanswered event_of q h) t c)

pub open_note_complete : (q : ℕ) (h : List Noted) (t : Issued Noted)
    → Open event_of q h t → Contains (unanswered event_of q h) t
open_note_complete q h t o = to_contains (unanswered event_of q h) t (complete Noted event_of q h t o)
