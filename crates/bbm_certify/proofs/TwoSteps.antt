-- The patterns that end with the newest event, by the events of a log that is kept.
use Rattle.bbm_certify.proofs.Common.{note_of, notes_behind, Kept, BeginsAt, OneAt, TwoAt, answers}
use Rattle.bbm_rules.proofs.Common.{◌≡◌, ◌⊎◌, ℕ, suc, ◌+◌, true, List, [], ◌∷◌, ◌++◌, length, reverse, refl, sym, ◌∙◌}
use Rattle.bbm_rules.proofs.Common.{ap, subst, inl, inr, arith, append_assoc, length-append, Cover, Half, Second, Full}
use Rattle.bbm_rules.proofs.Common.{Patterns, Noted, Flush, OneStep, TwoSteps, Barrier, Heading, Event, Dsb, Issued}
use Rattle.bbm_rules.proofs.Common.{Open}
use Rattle.bbm_rules.specs.Notes.{event_of}
use Rattle.bbm_certify.proofs.Kepts.{Answered, Begun, answered_of, barrier_of, flush_by, publication_of, published_in}
use Rattle.bbm_certify.proofs.Kepts.{waiting_in}
use Rattle.bbm_certify.proofs.Spots.{notes_split, seat}

-- a part that is split itself
pub split_in_two : (log before after bb ba : List Kept) (k b : Kept) → log ≡ before ++ k ∷ after → before ≡ bb ++ b ∷ ba
    → log ≡ bb ++ b ∷ (ba ++ k ∷ after)
split_in_two log before after bb ba k b split inner =
    split ∙ (ap (λ (xs : List Kept). xs ++ k ∷ after) inner ∙ append_assoc bb (b ∷ ba) (k ∷ after))

-- how many there are before an event
pub count_in_two : (before bb ba : List Kept) (b : Kept) → before ≡ bb ++ b ∷ ba → length before ≡ suc (length bb + length ba)
count_in_two before bb ba b inner = omega (arith, ap length inner, length-append bb (b ∷ ba))

module _ (heading : Heading) (place p from : ℕ) (log : List Kept) (newest : Noted) (q : ℕ) (dsb : Barrier)
    (is : newest.event ≡ Dsb q dsb) where
  abbrev pub since : List Noted
  since = notes_behind from (reverse log)

  abbrev pub position : ℕ → ℕ
  position i = suc (from + i)

  -- ---- what the newest event answers

  newest_or : (cover : Cover) (t : Issued Noted) (d : Noted) → Flush heading cover place p (newest ∷ since) t d
      → Flush heading cover place p since t d ⊎ ((d ≡ newest) × Answered heading place p from cover q dsb since t)
  newest_or cover t d f = by f.answer.newer f.answer.split
    where
      by : (newer : List Noted) → newest ∷ since ≡ newer ++ d ∷ f.answer.older
          → Flush heading cover place p since t d ⊎ ((d ≡ newest) × Answered heading place p from cover q dsb since t)
      by [] split =
          let same : d ≡ newest = cc in
          let older : f.answer.older ≡ since = cc in
          let barrier : Dsb f.answer.q f.answer.dsb ≡ Dsb q dsb
          = sym f.answer.barrier ∙ (ap (λ (n : Noted). n.event) same ∙ is) in
          let issuer : f.answer.q ≡ q = cc in
          let type : f.answer.dsb ≡ dsb = cc in
          inr (
            same,
            record {
              is_open = subst (λ (x : ℕ). Open event_of x since t) issuer
                  (subst (λ (xs : List Noted). Open event_of f.answer.q xs t) older f.answer.is_open);
              completed = cc f.answer.completed;
              reached = f.reached;
              covered = f.covered;
            },
          )
      by (x ∷ newer) split =
          inl (record {
            answer = record {
              q = f.answer.q;
              dsb = f.answer.dsb;
              newer = newer;
              older = f.answer.older;
              split = cc;
              barrier = f.answer.barrier;
              is_open = f.answer.is_open;
              completed = f.answer.completed;
            };
            reached = f.reached;
            covered = f.covered;
          })

  -- ---- one step

  pub record OneStepAt (b t : ℕ) : Type 0 where
    pub front : List Kept
    pub after : List Kept
    pub kt : Kept
    pub split : log ≡ front ++ kt ∷ after
    pub at : length front ≡ t
    pub begun : Begun heading place p front b
    pub waits : answers heading place p Full (Dsb q dsb) kt after ≡ true

  abbrev pub one_positions : ℕ → ℕ → List ℕ
  one_positions b t = position b ∷ position t ∷ newest.position ∷ []

  -- such a step with the positions of this one
  abbrev pub OneFound : OneStep heading Patterns place p (newest ∷ since) → Type 0
  OneFound k = (b t : ℕ) × OneStepAt b t
      × (k.b.position ∷ k.t.tlbi.position ∷ k.d.position ∷ [] ≡ one_positions b t)

  pub one_in : (k : OneStep heading Patterns place p (newest ∷ since)) → OneStep heading Patterns place p since ⊎ OneFound k
  one_in k = elim (newest_or Full k.t k.d k.flush) [
    | inl f ↦ inl (record { b = k.b; t = k.t; d = k.d; published = k.published; flush = f; allowed = refl })
    | inr a ↦ inr (one a)
  ]
    where
      one : (k.d ≡ newest) × Answered heading place p from Full q dsb since k.t → OneFound k
      one a =
          let w = waiting_in heading place p from Full q dsb (Dsb q dsb) log k.t refl a.1 in
          let s = published_in heading place p from w.before k.t.before k.b w.before_is k.published in
          let d_at : k.d.position ≡ newest.position = ap (λ (n : Noted). n.position) a.0 in (
            s.0,
            length w.before,
            record { front = w.before; after = w.after; kt = w.k; split = w.split; at = refl; begun = s.1; waits = w.does },
            cc (s.2, w.at),
          )

  pub one_of : (b t : ℕ) → OneStepAt b t → OneAt heading place p (newest ∷ since) (one_positions b t)
  one_of b t s =
      let issued : Issued Noted
      = record { tlbi = note_of (from + length s.front) s.kt; before = notes_behind from (reverse s.front) } in (
        record {
          b = note_of (from + length s.begun.before) s.begun.k;
          t = issued;
          d = newest;
          published = publication_of heading place p from s.front s.begun.before s.begun.after s.begun.k s.begun.split s.begun.does;
          flush = flush_by heading place p from Full q dsb (newest ∷ since) [] since newest issued refl is
              (answered_of heading place p from Full q dsb log s.front s.after s.kt s.split s.waits);
          allowed = refl;
        },
        cc (s.begun.at, s.at),
      )

  -- ---- two steps

  pub record TwoStepsAt (b i wait gap : ℕ) : Type 0 where
    pub begins : BeginsAt heading place p (Dsb q dsb) log i wait gap
    pub begun : Begun heading place p begins.before b

  abbrev pub two_positions : ℕ → ℕ → ℕ → ℕ → List ℕ
  two_positions b i wait gap = position b ∷ position i ∷ position (suc (i + wait)) ∷ position (suc (suc (i + wait) + gap))
      ∷ newest.position ∷ []

  positions_are : (b t1 d1 t2 d2 : Noted) (b' i wait gap i' j : ℕ) → b.position ≡ position b' → t1.position ≡ position i
      → d1.position ≡ position i' → i' ≡ suc (i + wait) → t2.position ≡ position j → j ≡ suc (i' + gap)
      → d2.position ≡ newest.position
      → b.position ∷ t1.position ∷ d1.position ∷ t2.position ∷ d2.position ∷ [] ≡ two_positions b' i wait gap
  positions_are b t1 d1 t2 d2 b' i wait gap i' j u v w x y z end = cc

  abbrev pub TwoFound : TwoSteps heading Patterns place p (newest ∷ since) → Type 0
  TwoFound k = (b i wait gap : ℕ) × TwoStepsAt b i wait gap
      × (k.b.position ∷ k.t1.tlbi.position ∷ k.d1.position ∷ k.t2.tlbi.position ∷ k.d2.position ∷ []
      ≡ two_positions b i wait gap)

  steps_at : (b : ℕ) (before mid between after : List Kept) (tlbi d t : Kept) → Begun heading place p before b
      → log ≡ before ++ tlbi ∷ (mid ++ d ∷ (between ++ t ∷ after)) → answers heading place p Half d.event tlbi mid ≡ true
      → answers heading place p Second (Dsb q dsb) t after ≡ true
      → TwoStepsAt b (length before) (length mid) (length between)
  steps_at b before mid between after tlbi d t begun split first second = record {
    begins = record {
      before = before;
      tlbi = tlbi;
      later = mid ++ d ∷ (between ++ t ∷ after);
      split = split;
      at = refl;
      begins = record {
        mid = mid;
        between = between;
        after = after;
        d = d;
        t = t;
        split = refl;
        first = first;
        second = second;
        waits = refl;
        gaps = refl;
      };
    };
    begun = begun;
  }

  pub two_in : (k : TwoSteps heading Patterns place p (newest ∷ since)) → TwoSteps heading Patterns place p since ⊎ TwoFound k
  two_in k = elim (newest_or Second k.t2 k.d2 k.second) [
    | inl f ↦
        inl (record { b = k.b; t1 = k.t1; d1 = k.d1; t2 = k.t2; d2 = k.d2; first = k.first; second = f; allowed = refl })
    | inr a ↦ inr (two a)
  ]
    where
      two : (k.d2 ≡ newest) × Answered heading place p from Second q dsb since k.t2 → TwoFound k
      two a =
          let f = k.first.flush in
          let w = waiting_in heading place p from Second q dsb (Dsb q dsb) log k.t2 refl a.1 in
          let s = seat from w.before f.answer.newer f.answer.older k.d1 (sym w.before_is ∙ f.answer.split) in
          let h = waiting_in heading place p from Half f.answer.q f.answer.dsb s.k.event s.before k.t1
          (ap (λ (n : Noted). n.event) (sym s.is) ∙ f.answer.barrier) (record {
            is_open = subst (λ (xs : List Noted). Open event_of f.answer.q xs k.t1) s.older_is f.answer.is_open;
            completed = f.answer.completed;
            reached = f.reached;
            covered = f.covered;
          }) in
          let b = published_in heading place p from h.before k.t1.before k.b h.before_is k.first.published in
          let count_d = count_in_two s.before h.before h.after h.k h.split in
          let count_t = count_in_two w.before s.before s.after s.k s.split in (
            b.0,
            length h.before,
            length h.after,
            length s.after,
            steps_at b.0 h.before h.after s.after w.after h.k s.k w.k b.1
                (split_in_two log s.before (s.after ++ w.k ∷ w.after) h.before h.after s.k h.k
                (split_in_two log w.before w.after s.before s.after w.k s.k w.split s.split) h.split)
                h.does w.does,
            positions_are k.b k.t1.tlbi k.d1 k.t2.tlbi k.d2 b.0 (length h.before) (length h.after) (length s.after)
                (length s.before) (length w.before) b.2 h.at (ap (λ (n : Noted). n.position) s.is) count_d w.at count_t
                (ap (λ (n : Noted). n.position) a.0),
          )

  module _ (b i wait gap : ℕ) (s : TwoStepsAt b i wait gap) where
    -- the events before the first answer, and before the second TLBI
    abbrev before_d : List Kept
    before_d = s.begins.before ++ s.begins.tlbi ∷ s.begins.begins.mid

    abbrev pub before_t : List Kept
    before_t = before_d ++ s.begins.begins.d ∷ s.begins.begins.between

    pub split_t : log ≡ before_t ++ s.begins.begins.t ∷ s.begins.begins.after
    split_t = let x = s.begins.begins in
        s.begins.split
        ∙ (ap (λ (ks : List Kept). s.begins.before ++ s.begins.tlbi ∷ ks) x.split
        ∙ (sym (append_assoc s.begins.before (s.begins.tlbi ∷ x.mid) (x.d ∷ (x.between ++ x.t ∷ x.after)))
        ∙ sym (append_assoc before_d (x.d ∷ x.between) (x.t ∷ x.after))))

    count_d : length before_d ≡ suc (i + wait)
    count_d =
        omega (arith, count_in_two before_d s.begins.before s.begins.begins.mid s.begins.tlbi refl, s.begins.at, s.begins.begins.waits)

    count_t : length before_t ≡ suc (suc (i + wait) + gap)
    count_t =
        omega (arith, count_in_two before_t before_d s.begins.begins.between s.begins.begins.d refl, count_d, s.begins.begins.gaps)

    abbrev t1 : Issued Noted
    t1 = record {
      tlbi = note_of (from + length s.begins.before) s.begins.tlbi;
      before = notes_behind from (reverse s.begins.before);
    }

    abbrev t2 : Issued Noted
    t2 = record { tlbi = note_of (from + length before_t) s.begins.begins.t; before = notes_behind from (reverse before_t) }

    pub two_of : TwoAt heading place p (newest ∷ since) (two_positions b i wait gap)
    two_of =
        let x = s.begins.begins in
        let d = barrier_of heading place p Half x.d.event s.begins.tlbi x.mid x.first in (
          record {
            b = note_of (from + length s.begun.before) s.begun.k;
            t1 = t1;
            d1 = note_of (from + length before_d) x.d;
            t2 = t2;
            d2 = newest;
            first = record {
              flush = flush_by heading place p from Half d.0 d.1 t2.before
                  (notes_behind (from + suc (length before_d)) (reverse x.between)) (notes_behind from (reverse before_d))
                  (note_of (from + length before_d) x.d) t1 (notes_split from before_t before_d x.between x.d refl) d.2
                  (answered_of heading place p from Half d.0 d.1 before_d s.begins.before x.mid s.begins.tlbi refl
                  (ap (λ (e : Event). answers heading place p Half e s.begins.tlbi x.mid) (sym d.2) ∙ x.first));
              published = publication_of heading place p from s.begins.before s.begun.before s.begun.after s.begun.k
                  s.begun.split s.begun.does;
            };
            second = flush_by heading place p from Second q dsb (newest ∷ since) [] since newest t2 refl is
                (answered_of heading place p from Second q dsb log before_t x.after x.t split_t x.second);
            allowed = refl;
          },
          cc (s.begun.at, s.begins.at, count_d, count_t),
        )
