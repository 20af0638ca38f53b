-- Publications and answers, by the events of a log that is kept. Everywhere `from` events came before the log.
use Rattle.bbm_certify.proofs.Common.{cover_in, note_of, notes_behind, Kept, completed_by, split_in, answers, publishes}
use Rattle.bbm_rules.proofs.Common.{◌≡◌, ℕ, suc, ◌+◌, true, false, not, ◌&&◌, List, ◌∷◌, ◌++◌, length, reverse, refl}
use Rattle.bbm_rules.proofs.Common.{sym, ◌∙◌, ap, and_from, and_parts, proved, If, Is, Cover, same_cover, writes, any}
use Rattle.bbm_rules.proofs.Common.{Noted, Publication, Barrier, Heading, Event, Dsb, Write, Issued, completes, reaches}
use Rattle.bbm_rules.proofs.Common.{Open, completes_for, issues, publishes_to, any_finds, any_found, is_none_of}
use Rattle.bbm_rules.proofs.Common.{none_of, In}
use Rattle.bbm_lemmas.proofs.Tautologies.Claim.{Both}
use Rattle.bbm_rules.proofs.Common.{Flush}
use Rattle.bbm_rules.specs.Notes.{event_of}
use Rattle.bbm_certify.proofs.Searches.{is_in}
use Rattle.bbm_certify.proofs.Spots.{notes_split, seat}
use Rattle.bbm_rules.proofs.PatternLaw.{same_by, same_self, write_by, writes_it}

module _ (heading : Heading) (place p : ℕ) where
  -- a barrier of q answers the TLBI, behind which these events came
  pub record AnsweredBy (q : ℕ) (dsb : Barrier) (cover : Cover) (k : Kept) (later : List Kept) : Type 0 where
    pub issued : issues q k.event ≡ true
    pub completed : completes dsb k.event ≡ true
    pub reached : reaches heading k.event p ≡ true
    pub covered : same_cover (cover_in k.covers.items place) cover ≡ true
    pub unanswered : any (completed_by q k.event) later ≡ false

  pub answered_by : (q : ℕ) (dsb : Barrier) (cover : Cover) (k : Kept) (later : List Kept)
      → answers heading place p cover (Dsb q dsb) k later ≡ true → AnsweredBy q dsb cover k later
  answered_by q dsb cover k later does =
      let parts = proved 5 (λ a b c d u. If (Is ((a && (b && (c && d))) && not u) true)
      (Both (Is a true) (Both (Is b true) (Both (Is c true) (Both (Is d true) (Is u false)))))) refl
      (issues q k.event) (completes dsb k.event) (reaches heading k.event p)
      (same_cover (cover_in k.covers.items place) cover) (any (completed_by q k.event) later) does in
      record {
        issued = parts.0;
        completed = parts.1.0;
        reached = parts.1.1.0;
        covered = parts.1.1.1.0;
        unanswered = parts.1.1.1.1;
      }

  -- only a barrier answers
  pub barrier_of : (cover : Cover) (e : Event) (k : Kept) (later : List Kept)
      → answers heading place p cover e k later ≡ true → (q : ℕ) × (dsb : Barrier) × (e ≡ Dsb q dsb)
  barrier_of cover (Dsb q dsb) k later does = (q, dsb, refl)
  barrier_of cover e k later does = absurd (cc)

  -- an event of a log that publishes a write of the place to p
  pub record Begun (log : List Kept) (b : ℕ) : Type 0 where
    pub before : List Kept
    pub after : List Kept
    pub k : Kept
    pub split : log ≡ before ++ k ∷ after
    pub at : length before ≡ b
    pub does : publishes heading place p k.event before ≡ true

module _ (heading : Heading) (place p from : ℕ) where
  -- ---- publications

  pub published_in : (log : List Kept) (since : List Noted) (b : Noted) → since ≡ notes_behind from (reverse log)
      → Publication heading place p since b → (i : ℕ) × Begun heading place p log i × (b.position ≡ suc (from + i))
  published_in log since b is k =
      let s = seat from log k.newer (k.between ++ k.write ∷ k.older) b (sym is ∙ k.split) in
      let w = seat from s.before k.between k.older k.write (sym s.older_is) in
      let wrote : w.k.event ≡ Write k.q place k.value = ap (λ (n : Noted). n.event) (sym w.is) ∙ k.wrote in
      let barrier : s.k.event ≡ Dsb k.q k.dsb = ap (λ (n : Noted). n.event) (sym s.is) ∙ k.barrier in (
        length s.before,
        record {
          before = s.before;
          after = s.after;
          k = s.k;
          split = s.split;
          at = refl;
          does = ap (λ (e : Event). publishes heading place p e s.before) barrier
              ∙ and_from (publishes_to heading k.dsb k.q p) (any (λ x. writes k.q place x.event) s.before) k.publishes
              (any_finds (λ (x : Kept). writes k.q place x.event) s.before w.k (is_in s.before w.before w.after w.k w.split)
              (ap (λ (e : Event). writes k.q place e) wrote ∙ writes_it k.q place k.value));
        },
        ap (λ (n : Noted). n.position) s.is,
      )

  pub publication_of : (log before after : List Kept) (k : Kept) → log ≡ before ++ k ∷ after
      → publishes heading place p k.event before ≡ true
      → Publication heading place p (notes_behind from (reverse log)) (note_of (from + length before) k)
  publication_of log before after k split does = by k.event refl does
    where
      by : (e : Event) → k.event ≡ e → publishes heading place p e before ≡ true
          → Publication heading place p (notes_behind from (reverse log)) (note_of (from + length before) k)
      by (Dsb q dsb) is told =
          let parts = and_parts (publishes_to heading dsb q p) (any (λ (x : Kept). writes q place x.event) before) told in
          let found = any_found (λ (x : Kept). writes q place x.event) before parts.1 in
          let w = split_in before found.0 found.1 in
          let wrote = write_by q place found.0.event found.2 in
          record {
            q = q;
            dsb = dsb;
            value = wrote.0;
            write = note_of (from + length w.0) found.0;
            newer = notes_behind (from + suc (length before)) (reverse after);
            between = notes_behind (from + suc (length w.0)) (reverse w.1);
            older = notes_behind from (reverse w.0);
            split = notes_split from log before after k split
                ∙ ap (λ (ns : List Noted). notes_behind (from + suc (length before)) (reverse after)
                ++ note_of (from + length before) k ∷ ns) (notes_split from before w.0 w.1 found.0 w.2);
            wrote = wrote.1;
            barrier = is;
            publishes = parts.0;
          }
      by e is told = absurd (cc)

  -- ---- answers

  -- a TLBI of a log that reaches p, covers the place so far, and is answered by the event
  pub record Waiting (cover : Cover) (e : Event) (log : List Kept) (t : Issued Noted) : Type 0 where
    pub before : List Kept
    pub after : List Kept
    pub k : Kept
    pub split : log ≡ before ++ k ∷ after
    pub at : t.tlbi.position ≡ suc (from + length before)
    pub before_is : t.before ≡ notes_behind from (reverse before)
    pub does : answers heading place p cover e k after ≡ true

  module _ (cover : Cover) (q : ℕ) (dsb : Barrier) where
    -- the same by the notes
    pub record Answered (since : List Noted) (t : Issued Noted) : Type 0 where
      pub is_open : Open event_of q since t
      pub completed : completes dsb t.tlbi.event ≡ true
      pub reached : reaches heading t.tlbi.event p ≡ true
      pub covered : t.tlbi.covers place ≡ cover

    pub flush_by : (since newer older : List Noted) (d : Noted) (t : Issued Noted) → since ≡ newer ++ d ∷ older
        → d.event ≡ Dsb q dsb → Answered older t → Flush heading cover place p since t d
    flush_by since newer older d t split barrier a = record {
      answer = record {
        q = q;
        dsb = dsb;
        newer = newer;
        older = older;
        split = split;
        barrier = barrier;
        is_open = a.is_open;
        completed = a.completed;
      };
      reached = a.reached;
      covered = a.covered;
    }

    pub waiting_in : (e : Event) (log : List Kept) (t : Issued Noted) → e ≡ Dsb q dsb
        → Answered (notes_behind from (reverse log)) t → Waiting cover e log t
    waiting_in e log t barrier a =
        let s = seat from log a.is_open.newer t.before t.tlbi a.is_open.split in
        let same : t.tlbi.event ≡ s.k.event = ap (λ (n : Noted). n.event) s.is in
        let covers : t.tlbi.covers place ≡ cover_in s.k.covers.items place = ap (λ (n : Noted). n.covers place) s.is in
        let uncompleted : (x : Kept) → In s.after x → completed_by q s.k.event x ≡ false = λ x i.
        let r = split_in s.after x i in
        ap (λ (e : Event). completes_for q e x.event) (sym same)
        ∙ a.is_open.uncompleted (note_of (from + suc (length s.before) + length r.0) x)
        (notes_behind (from + suc (length s.before) + suc (length r.0)) (reverse r.1))
        (notes_behind (from + suc (length s.before)) (reverse r.0))
        (s.newer_is ∙ notes_split (from + suc (length s.before)) s.after r.0 r.1 x r.2) in
        record {
          before = s.before;
          after = s.after;
          k = s.k;
          split = s.split;
          at = ap (λ (n : Noted). n.position) s.is;
          before_is = s.older_is;
          does = ap (λ (x : Event). answers heading place p cover x s.k s.after) barrier
              ∙ proved 5 (λ a b c d u. If (Is a true) (If (Is b true) (If (Is c true) (If (Is d true) (If (Is u false)
              (Is ((a && (b && (c && d))) && not u) true)))))) refl
              (issues q s.k.event) (completes dsb s.k.event) (reaches heading s.k.event p)
              (same_cover (cover_in s.k.covers.items place) cover) (any (completed_by q s.k.event) s.after)
              (ap (λ (e : Event). issues q e) (sym same) ∙ a.is_open.issued)
              (ap (λ (e : Event). completes dsb e) (sym same) ∙ a.completed)
              (ap (λ (e : Event). reaches heading e p) (sym same) ∙ a.reached)
              (ap (λ (c : Cover). same_cover c cover) (sym covers ∙ a.covered) ∙ same_self cover)
              (is_none_of (completed_by q s.k.event) s.after uncompleted);
        }

    pub answered_of : (log before after : List Kept) (k : Kept) → log ≡ before ++ k ∷ after
        → answers heading place p cover (Dsb q dsb) k after ≡ true
        → Answered (notes_behind from (reverse log))
        (record { tlbi = note_of (from + length before) k; before = notes_behind from (reverse before) })
    answered_of log before after k split does = let a = answered_by heading place p q dsb cover k after does in
        record {
          is_open = record {
            newer = notes_behind (from + suc (length before)) (reverse after);
            split = notes_split from log before after k split;
            issued = a.issued;
            uncompleted = uncompleted a.unanswered;
          };
          completed = a.completed;
          reached = a.reached;
          covered = same_by (cover_in k.covers.items place) cover a.covered;
        }
      where
        uncompleted : any (completed_by q k.event) after ≡ false → (x : Noted) (newer older : List Noted)
            → notes_behind (from + suc (length before)) (reverse after) ≡ newer ++ x ∷ older
            → completes_for q k.event x.event ≡ false
        uncompleted none x newer older e = let s = seat (from + suc (length before)) after newer older x e in
            ap (λ (n : Noted). completes_for q k.event n.event) s.is
            ∙ none_of (completed_by q k.event) after none s.k (is_in after s.before s.after s.k s.split)
