-- What one more event does to the last valid write of a place and to the patterns after it.
use Rattle.bbm_rules.proofs.Common.{◌≡◌, ℕ, ◌⊎◌, ◌&&◌, Bool, true, false, cond, ◌==◌, List, [], ◌∷◌, ◌++◌, Some, None}
use Rattle.bbm_rules.proofs.Common.{sym, ◌∙◌, ap, subst, inl, inr, bind_some, is_valid, Trust, ValidWrite, last_valid}
use Rattle.bbm_rules.proofs.Common.{last_valid_after, later, Noted, Answer, Publication, page_of, Barrier}
use Rattle.bbm_rules.proofs.Common.{Heading, Event, Init, Write, Dsb, Issued, completes, Open}
use Rattle.bbm_rules.specs.Notes.{event_of}
use Rattle.bbm_rules.specs.Prelude.{Kind}
use Rattle.bbm_tlb_machine.specs.KnownOfMachine.{Known}
use Rattle.bbm_histories.proofs.Induction.{none_split}

-- ---- the last valid write

-- it is the event itself, or that of before with the event after it
abbrev pub LastBefore : Kind → ℕ → ℕ → Noted → List Noted → ValidWrite → Type 0
LastBefore kind level place n h w =
    (w.since ≡ []) ⊎ ((v : ValidWrite) × (last_valid kind level place h ≡ Some v) × (w.since ≡ n ∷ v.since))

pub last_step : (kind : Kind) (level place : ℕ) (n : Noted) (h : List Noted) (w : ValidWrite)
    → last_valid kind level place (n ∷ h) ≡ Some w → LastBefore kind level place n h w
last_step kind level place n h w e = by n.event e
  where
    goes_on : later n (last_valid kind level place h) ≡ Some w → LastBefore kind level place n h w
    goes_on k =
        let b = bind_some (λ (v : ValidWrite). Some (record v { since = n ∷ v.since })) (last_valid kind level place h) w k in
        let same : record b.0 { since = n ∷ b.0.since } ≡ w = cc in
        inr (b.0, b.1, ap (λ (v : ValidWrite). v.since) (sym same))

    chosen : (value : ℕ) (b : Bool) → cond b (Some (record { value = value; since = [] })) (later n (last_valid kind level place h)) ≡ Some w
        → LastBefore kind level place n h w
    chosen value true k =
        let made : ValidWrite = record { value = value; since = [] } in
        let same : made ≡ w = cc in inl (ap (λ (v : ValidWrite). v.since) (sym same))
    chosen value false k = goes_on k

    kept : (b : Bool) → cond b None (later n (last_valid kind level place h)) ≡ Some w → LastBefore kind level place n h w
    kept true k = cc
    kept false k = goes_on k

    by : (e : Event) → last_valid_after kind level place e n (last_valid kind level place h) ≡ Some w → LastBefore kind level place n h w
    by (Write pe at value) k = chosen value (at == place && is_valid kind level value) k
    by (Init pe page) k = kept (page == page_of place) k
    by _ k = goes_on k

-- ---- publications

pub publication_after : (heading : Heading) (place p : ℕ) (n : Noted) (since : List Noted) (b : Noted)
    → Publication heading place p (n ∷ since) b → (b ≡ n) ⊎ Publication heading place p since b
publication_after heading place p n since b k = by k.newer k.split
  where
    by : (newer : List Noted) → n ∷ since ≡ newer ++ b ∷ (k.between ++ k.write ∷ k.older) → (b ≡ n) ⊎ Publication heading place p since b
    by [] s = let first : n ≡ b = cc in inl (sym first)
    by (y ∷ newer) s = let rest : since ≡ newer ++ b ∷ (k.between ++ k.write ∷ k.older) = cc in inr (record {
      q = k.q;
      dsb = k.dsb;
      value = k.value;
      write = k.write;
      newer = newer;
      between = k.between;
      older = k.older;
      split = rest;
      wrote = k.wrote;
      barrier = k.barrier;
      publishes = k.publishes;
    })

pub no_publication : (heading : Heading) (place p : ℕ) (b : Noted) → Publication heading place p [] b → ⊥
no_publication heading place p b k = none_split k.newer (k.between ++ k.write ∷ k.older) b k.split

module _ (heading : Heading) (trust : Trust) (k : Known heading trust) (place p : ℕ) where
  -- what is published before a TLBI is published after it, and after its answer
  pub publication_before : (q : ℕ) (since : List Noted) (t : Issued Noted) (b : Noted) → Open event_of q since t
      → Publication heading place p t.before b → Publication heading place p since b
  publication_before q since t b o published =
      rw o.split (k.patterns_stay.publication place p o.newer (t.tlbi ∷ t.before) b
      (k.patterns_stay.publication place p (t.tlbi ∷ []) t.before b published))

  pub publication_answered : (since : List Noted) (t : Issued Noted) (d b : Noted) → Answer since t d
      → Publication heading place p t.before b → Publication heading place p since b
  publication_answered since t d b a published =
      rw a.split (k.patterns_stay.publication place p a.newer (d ∷ a.older) b
      (k.patterns_stay.publication place p (d ∷ []) a.older b (publication_before a.q a.older t b a.is_open published)))

-- ---- answers

-- the event is the barrier that answers the TLBI
pub record AnswersNow (n : Noted) (since : List Noted) (t : Issued Noted) (d : Noted) : Type 0 where
  pub q : ℕ
  pub dsb : Barrier
  pub is : d ≡ n
  pub barrier : n.event ≡ Dsb q dsb
  pub is_open : Open event_of q since t
  pub completed : completes dsb t.tlbi.event ≡ true

pub answer_after : (n : Noted) (since : List Noted) (t : Issued Noted) (d : Noted) → Answer (n ∷ since) t d
    → AnswersNow n since t d ⊎ Answer since t d
answer_after n since t d k = by k.newer k.split
  where
    by : (newer : List Noted) → n ∷ since ≡ newer ++ d ∷ k.older → AnswersNow n since t d ⊎ Answer since t d
    by [] s =
        let first : n ≡ d = cc in
        let rest : since ≡ k.older = cc in
        inl (record {
          q = k.q;
          dsb = k.dsb;
          is = sym first;
          barrier = ap event_of first ∙ k.barrier;
          is_open = subst (λ (xs : List Noted). Open event_of k.q xs t) (sym rest) k.is_open;
          completed = k.completed;
        })
    by (y ∷ newer) s =
        let rest : since ≡ newer ++ d ∷ k.older = cc in
        inr (record {
          q = k.q;
          dsb = k.dsb;
          newer = newer;
          older = k.older;
          split = rest;
          barrier = k.barrier;
          is_open = k.is_open;
          completed = k.completed;
        })

pub no_answer : (t : Issued Noted) (d : Noted) → Answer [] t d → ⊥
no_answer t d k = none_split k.newer k.older d k.split
