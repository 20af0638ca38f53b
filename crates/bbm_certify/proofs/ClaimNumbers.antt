-- The claims of a certificate are at most 128 for each event of its log. Each has a number of its own: a claim of a place
-- that of the last valid write of the place and of the PE; a claim of a tag that of the register write since which some
-- root holds the tag, and of the reading by which the tag was readable then.
use Rattle.bbm_certify.specs.LeastClaims.{Ascending, Holding, claim_key, less, tag_key}
use Rattle.bbm_rules.proofs.Common.{◌≡◌, ◌⊎◌, ℕ, suc, ◌+◌, ◌*◌, ◌<◌, ◌≤◌, true, false, List, [], ◌∷◌, ◌++◌, length}
use Rattle.bbm_rules.proofs.Common.{refl, sym, ◌∙◌, ap, subst, inl, inr, true≢false, arith, length-append, nat_eq}
use Rattle.bbm_rules.proofs.Common.{eqb-true, in_append, any_found, Claim, Place, Two, Taken, Patterns, cleansed, note}
use Rattle.bbm_rules.proofs.Common.{noted, Noted, events_of, Heading, Event, Write, Msr, Reg, Tag, Reading, readings}
use Rattle.bbm_rules.proofs.Common.{In}
use Rattle.bbm_rules.specs.HeldLaws.{CleansedBySentence}
use Rattle.bbm_histories.proofs.PatternLemmas.{cleansed_stays}
use Rattle.bbm_certify.proofs.Searches.{same_behind}
use Rattle.bbm_lemmas.proofs.Words.{Apart, apart_distinct}
use Rattle.std.proofs.lemmas.Map.Steps.{length-le_from_distinct_below}
use Rattle.bbm_certify.proofs.OneCertificate.{above, less_itself, rest}
use Rattle.bbm_histories.proofs.Induction.{events_append, events_length}

-- ---- numbers by a position and a number below 128

same_parts : (j k p q : ℕ) → 128 * j + p ≡ 128 * k + q → p < 128 → q < 128 → (j ≡ k) × (p ≡ q)
same_parts j k p q e below below' = (omega (arith, e, below, below'), omega (arith, e, below, below'))

-- numbers apart that are below one are at most as many
few_below : (ns : List ℕ) (n : ℕ) → Apart ns → ((m : ℕ) → In ns m → m < n) → length ns ≤ n
few_below ns n a below =
    length-le_from_distinct_below ns n (apart_distinct ns a) (λ q k.
    let f = any_found (nat_eq q) ns k in
    let same : q ≡ f.0 = eqb-true q f.0 f.2 in
    subst (λ (m : ℕ). m < n) (sym same) (below f.0 f.1))

apart_both : (ms ns : List ℕ) → Apart ms → Apart ns → ((m : ℕ) → In ms m → In ns m → ⊥) → Apart (ms ++ ns)
apart_both [] ns a b out = b
apart_both (m ∷ ms) ns a b out = (
  (λ i. elim (in_append ms ns m i) [ inl there ↦ a.0 there | inr other ↦ out m (inl refl) other ]),
  apart_both ms ns a.1 b (λ x i j. out x (inr i) j),
)

-- ---- the numbers of claims

module _ (heading : Heading) where
  -- The number of a place and a PE, by a write of the place. So many events came before it.
  pub record WriteMark (p a n : ℕ) : Type 0 where
    pub write : Noted
    pub older : List Noted
    pub pe : ℕ
    pub value : ℕ
    pub wrote : write.event ≡ Write pe a value
    pub small : p < 128
    pub number : n ≡ 128 * length older + p

  pub record OfPlace (h : List Event) (p a n : ℕ) : Type 0 where
    pub mark : WriteMark p a n
    pub since : List Noted
    pub split : noted heading Patterns h ≡ since ++ mark.write ∷ mark.older

  -- the number of a tag and a PE, by a register write of the PE and one of the readings after it
  pub record TagMark (p : ℕ) (tag : Tag) (n : ℕ) : Type 0 where
    pub before : List Event
    pub reg : Reg
    pub value : ℕ
    pub front : List Reading
    pub reading : Reading
    pub behind : List Reading
    pub read : readings heading (Msr p reg value ∷ before) p ≡ front ++ reading ∷ behind
    pub of_tag : reading.tag ≡ tag
    pub small : length behind < 128
    pub number : n ≡ 128 * length before + length behind

  pub record OfTag (h : List Event) (p : ℕ) (tag : Tag) (n : ℕ) : Type 0 where
    pub mark : TagMark p tag n
    pub later : List Event
    pub split : h ≡ later ++ Msr p mark.reg mark.value ∷ mark.before

  -- the place is cleansed at the PE by an event, and wasn't before
  abbrev pub BecomesClean : List Event → Event → ℕ → ℕ → ℕ → Type 0
  BecomesClean h e p a n = (k : OfPlace h p a n) × (cleansed heading Patterns a p k.since ≡ false)
      × (cleansed heading Patterns a p (note heading Patterns (noted heading Patterns h) e ∷ k.since) ≡ true)

  -- some root holds the tag at each moment since the register write
  abbrev pub HeldSince : List Event → ℕ → Tag → ℕ → Type 0
  HeldSince h p tag count = (after moment : List Event) → h ≡ after ++ moment → count < length moment
      → Holding heading moment p tag

  -- and none does after an event
  abbrev pub BecomesFree : List Event → Event → ℕ → Tag → ℕ → Type 0
  BecomesFree h e p tag n = (k : OfTag h p tag n) × HeldSince h p tag (length k.mark.before)
      × (Holding heading (e ∷ h) p tag → ⊥)

  -- a claim of an event has the number
  abbrev pub HasNumber : List Event → Event → Claim → ℕ → Type 0
  HasNumber h e (Place p a b t d) n = BecomesClean h e p a n
  HasNumber h e (Two p a b t1 d1 t2 d2) n = BecomesClean h e p a n
  HasNumber h e (Taken p tag t d) n = BecomesFree h e p tag n

  -- the place is cleansed
  abbrev IsClean : List Event → ℕ → Type 0
  IsClean h n = (p : ℕ) × (a : ℕ) × (k : OfPlace h p a n) × (cleansed heading Patterns a p k.since ≡ true)

  -- at some moment since the register write no root held the tag
  pub record IsFree (h : List Event) (n : ℕ) : Type 0 where
    pub p : ℕ
    pub tag : Tag
    pub of : OfTag h p tag n
    pub after : List Event
    pub moment : List Event
    pub split : h ≡ after ++ moment
    pub since : length of.mark.before < length moment
    pub free : Holding heading moment p tag → ⊥

  -- a claim of the history has the number
  abbrev pub IsUsed : List Event → ℕ → Type 0
  IsUsed h n = IsClean h n ⊎ IsFree h n

  -- ---- numbers of one history

  -- the write of a place as an event
  pub written : (h : List Event) (p a n : ℕ) (events_noted : (x : List Event) → events_of (noted heading Patterns x) ≡ x)
      (k : OfPlace h p a n) → h ≡ events_of k.since ++ Write k.mark.pe a k.mark.value ∷ events_of k.mark.older
  written h p a n events_noted k = let m = k.mark in
      sym (events_noted h) ∙ (ap events_of k.split ∙ (events_append k.since (m.write ∷ m.older)
      ∙ ap (λ (e : Event). events_of k.since ++ e ∷ events_of m.older) m.wrote))

  same_place : (h : List Event) (p a q b n : ℕ) (k : OfPlace h p a n) (l : OfPlace h q b n)
      → (a ≡ b) × (p ≡ q) × (k.since ≡ l.since)
  same_place h p a q b n k l =
      let x = k.mark in
      let y = l.mark in
      let parts = same_parts (length x.older) (length y.older) p q (sym x.number ∙ y.number) x.small y.small in
      let same = same_behind k.since l.since x.older y.older x.write y.write (sym k.split ∙ l.split) parts.0 in
      let wrote : Write x.pe a x.value ≡ Write y.pe b y.value = sym x.wrote ∙ (ap (λ (w : Noted). w.event) same.1 ∙ y.wrote) in
      ((cc), parts.1, same.0)

  same_tag : (h : List Event) (p q n : ℕ) (tag other : Tag) (k : OfTag h p tag n) (l : OfTag h q other n)
      → (p ≡ q) × (tag ≡ other) × (length k.mark.before ≡ length l.mark.before)
  same_tag h p q n tag other k l =
      let x = k.mark in
      let y = l.mark in
      let parts = same_parts (length x.before) (length y.before) (length x.behind) (length y.behind) (sym x.number ∙ y.number)
      x.small y.small in
      let same = same_behind k.later l.later x.before y.before (Msr p x.reg x.value) (Msr q y.reg y.value)
      (sym k.split ∙ l.split) parts.0 in
      let pe : p ≡ q = cc same.1 in
      let reads : readings heading (Msr p x.reg x.value ∷ x.before) p ≡ readings heading (Msr q y.reg y.value ∷ y.before) q
      = cc (same.1, same.2) in
      let at = same_behind x.front y.front x.behind y.behind x.reading y.reading (sym x.read ∙ (reads ∙ y.read)) parts.1 in
      (pe, sym x.of_tag ∙ (ap (λ (r : Reading). r.tag) at.1 ∙ y.of_tag), parts.0)

  module _ (events_noted : (x : List Event) → events_of (noted heading Patterns x) ≡ x) where
    place_or_tag : (h : List Event) (p a q n : ℕ) (tag : Tag) → OfPlace h p a n → OfTag h q tag n → ⊥
    place_or_tag h p a q n tag k l =
        let x = k.mark in
        let y = l.mark in
        let parts = same_parts (length x.older) (length y.before) p (length y.behind) (sym x.number ∙ y.number) x.small y.small in
        let same = same_behind (events_of k.since) l.later (events_of x.older) y.before (Write x.pe a x.value)
        (Msr q y.reg y.value) (sym (written h p a n events_noted k) ∙ l.split) (events_length x.older ∙ parts.0) in
        absurd (cc same.1)

    -- two claims of an event with one number have one key
    pub same_key : (h : List Event) (e : Event) (c d : Claim) (n : ℕ) → HasNumber h e c n → HasNumber h e d n
        → claim_key c ≡ claim_key d
    same_key h e c d n k l = by c d k l
      where
        places : (p a q b : ℕ) → BecomesClean h e p a n → BecomesClean h e q b n
            → 0 ∷ a ∷ 0 ∷ p ∷ [] ≡ 0 ∷ b ∷ 0 ∷ q ∷ []
        places p a q b x y = let same = same_place h p a q b n x.0 y.0 in cc (same.0, same.1)

        by : (x y : Claim) → HasNumber h e x n → HasNumber h e y n → claim_key x ≡ claim_key y
        by (Place p a b t d) (Place q x b' t' d') i j = places p a q x i j
        by (Place p a b t d) (Two q x b' t1 d1 t2 d2) i j = places p a q x i j
        by (Place p a b t d) (Taken q tag t' d') i j = absurd (place_or_tag h p a q n tag i.0 j.0)
        by (Two p a b t1 d1 t2 d2) (Place q x b' t' d') i j = places p a q x i j
        by (Two p a b t1 d1 t2 d2) (Two q x b' t1' d1' t2' d2') i j = places p a q x i j
        by (Two p a b t1 d1 t2 d2) (Taken q tag t' d') i j = absurd (place_or_tag h p a q n tag i.0 j.0)
        by (Taken p tag t d) (Place q x b' t' d') i j = absurd (place_or_tag h q x p n tag j.0 i.0)
        by (Taken p tag t d) (Two q x b' t1 d1 t2 d2) i j = absurd (place_or_tag h q x p n tag j.0 i.0)
        by (Taken p tag t d) (Taken q other t' d') i j =
            let same = same_tag h p q n tag other i.0 j.0 in
            ap (λ (g : Tag). 1 ∷ (tag_key g ++ p ∷ [])) same.1 ∙ ap (λ (m : ℕ). 1 ∷ (tag_key other ++ m ∷ [])) same.0

    -- what is numbered by a claim of an event was not before it
    pub fresh : (h : List Event) (e : Event) (c : Claim) (n : ℕ) → HasNumber h e c n → IsUsed h n → ⊥
    fresh h e c n k used = by c k used
      where
        place : (p a : ℕ) → BecomesClean h e p a n → IsUsed h n → ⊥
        place p a x (inl y) =
            let same = same_place h p a y.0 y.1 n x.0 y.2 in
            true≢false (sym y.3 ∙ (ap (λ (ns : List Noted). cleansed heading Patterns y.1 y.0 ns) (sym same.2)
            ∙ (ap (λ (m : ℕ). cleansed heading Patterns y.1 m x.0.since) (sym same.1)
            ∙ (ap (λ (m : ℕ). cleansed heading Patterns m p x.0.since) (sym same.0) ∙ x.1))))
        place p a x (inr y) = place_or_tag h p a y.p n y.tag x.0 y.of

        tagged : (p : ℕ) (tag : Tag) → BecomesFree h e p tag n → IsUsed h n → ⊥
        tagged p tag x (inl y) = place_or_tag h y.0 y.1 p n tag y.2 x.0
        tagged p tag x (inr y) =
            let same = same_tag h p y.p n tag y.tag x.0 y.of in
            let since : length x.0.mark.before < length y.moment = omega (arith, y.since, same.2) in
            y.free (subst (λ (q : ℕ). Holding heading y.moment q y.tag) same.0
            (subst (λ (g : Tag). Holding heading y.moment p g) same.1 (x.1 y.after y.moment y.split since)))

        by : (x : Claim) → HasNumber h e x n → IsUsed h n → ⊥
        by (Place p a b t d) i = place p a i
        by (Two p a b t1 d1 t2 d2) i = place p a i
        by (Taken p tag t d) i = tagged p tag i

  -- ---- one more event

  abbrev pub more_place : (h : List Event) (e : Event) (p a n : ℕ) → OfPlace h p a n → OfPlace (e ∷ h) p a n
  more_place h e p a n k = let newest = note heading Patterns (noted heading Patterns h) e in
      record { mark = k.mark; since = newest ∷ k.since; split = ap (λ (ns : List Noted). newest ∷ ns) k.split }

  abbrev pub more_tag : (h : List Event) (e : Event) (p n : ℕ) (tag : Tag) → OfTag h p tag n → OfTag (e ∷ h) p tag n
  more_tag h e p n tag k =
      record { mark = k.mark; later = e ∷ k.later; split = ap (λ (es : List Event). e ∷ es) k.split }

  -- a number of a claim of the event is used after it
  pub becomes_used : (h : List Event) (e : Event) (c : Claim) (n : ℕ) → HasNumber h e c n → IsUsed (e ∷ h) n
  becomes_used h e (Place p a b t d) n k = inl (p, a, more_place h e p a n k.0, k.2)
  becomes_used h e (Two p a b t1 d1 t2 d2) n k = inl (p, a, more_place h e p a n k.0, k.2)
  becomes_used h e (Taken p tag t d) n k =
      inr (record {
        p = p;
        tag = tag;
        of = more_tag h e p n tag k.0;
        after = [];
        moment = e ∷ h;
        split = refl;
        since = let m = k.0.mark in
            omega (arith, ap length k.0.split, length-append k.0.later (Msr p m.reg m.value ∷ m.before));
        free = k.2;
      })

  pub stays_used : CleansedBySentence heading Patterns → (h : List Event) (e : Event) (n : ℕ) → IsUsed h n → IsUsed (e ∷ h) n
  stays_used clean h e n (inl k) =
      let newest = note heading Patterns (noted heading Patterns h) e in
      inl (
        k.0,
        k.1,
        more_place h e k.0 k.1 n k.2,
        clean.complete k.1 k.0 (newest ∷ k.2.since)
            (cleansed_stays heading Patterns k.1 k.0 (newest ∷ []) k.2.since (clean.sound k.1 k.0 k.2.since k.3)),
      )
  stays_used clean h e n (inr k) =
      inr (record {
        p = k.p;
        tag = k.tag;
        of = more_tag h e k.p n k.tag k.of;
        after = e ∷ k.after;
        moment = k.moment;
        split = ap (λ (es : List Event). e ∷ es) k.split;
        since = k.since;
        free = k.free;
      })

  -- ---- claims with numbers

  -- as many numbers as claims of an event, each of a claim of it
  pub record Numbered (h : List Event) (e : Event) (cs : List Claim) : Type 0 where
    pub numbers : List ℕ
    pub size : length numbers ≡ length cs
    pub apart : Apart numbers
    pub claims : (n : ℕ) → In numbers n → (c : Claim) × In cs c × HasNumber h e c n

  -- as many numbers as claims of a history
  pub record Counted (h : List Event) (cs : List Claim) : Type 0 where
    pub numbers : List ℕ
    pub size : length numbers ≡ length cs
    pub apart : Apart numbers
    pub used : (n : ℕ) → In numbers n → IsUsed h n

  module _ (events_noted : (x : List Event) → events_of (noted heading Patterns x) ≡ x) where
    used_below : (h : List Event) (n : ℕ) → IsUsed h n → n < 128 * length h
    used_below h n (inl k) = let m = k.2.mark in
        omega (
          arith,
          m.number,
          m.small,
          ap length k.2.split,
          length-append k.2.since (m.write ∷ m.older),
          events_length (noted heading Patterns h),
          ap length (events_noted h),
        )
    used_below h n (inr k) = let m = k.of.mark in
        omega (
          arith,
          m.number,
          m.small,
          ap length k.of.split,
          length-append k.of.later (Msr k.p m.reg m.value ∷ m.before),
        )

    pub numbered : (h : List Event) (e : Event) (cs : List Claim) → Ascending cs
        → ((c : Claim) → In cs c → (n : ℕ) × HasNumber h e c n) → Numbered h e cs
    numbered h e [] sorted each = record { numbers = []; size = refl; apart = tt; claims = λ n i. absurd i }
    numbered h e (c ∷ cs) sorted each =
        let first = each c (inl refl) in
        let more = numbered h e cs (rest c cs sorted) (λ d i. each d (inr i)) in
        record {
          numbers = first.0 ∷ more.numbers;
          size = ap suc more.size;
          apart = (
            (λ i.
                let k = more.claims first.0 i in
                let key : claim_key c ≡ claim_key k.0 = same_key events_noted h e c k.0 first.0 first.1 k.2 in
                true≢false (sym (above c cs k.0 sorted k.1) ∙ (ap (λ (ns : List ℕ). less ns (claim_key k.0)) key
                ∙ less_itself (claim_key k.0)))),
            more.apart,
          );
          claims = λ n i. elim i [
            | inl same ↦ (c, inl refl, subst (λ (m : ℕ). HasNumber h e c m) same first.1)
            | inr j ↦ let k = more.claims n j in (k.0, inr k.1, k.2)
          ];
        }

    pub counted_next : CleansedBySentence heading Patterns → (h : List Event) (e : Event) (cs ds : List Claim) → Counted h cs
        → Numbered h e ds → Counted (e ∷ h) (cs ++ ds)
    counted_next clean h e cs ds old new = record {
      numbers = old.numbers ++ new.numbers;
      size = omega (arith, length-append old.numbers new.numbers, length-append cs ds, old.size, new.size);
      apart = apart_both old.numbers new.numbers old.apart new.apart
          (λ n i j. let k = new.claims n j in fresh events_noted h e k.0 n k.2 (old.used n i));
      used = λ n i. elim (in_append old.numbers new.numbers n i) [
        | inl was ↦ stays_used clean h e n (old.used n was)
        | inr now ↦ let k = new.claims n now in becomes_used h e k.0 n k.2
      ];
    }

    pub few_claims : (h : List Event) (cs : List Claim) → Counted h cs → length cs ≤ 128 * length h
    few_claims h cs k =
        let few : length k.numbers ≤ 128 * length h
        = few_below k.numbers (128 * length h) k.apart (λ n i. used_below h n (k.used n i)) in
        omega (arith, few, k.size)
