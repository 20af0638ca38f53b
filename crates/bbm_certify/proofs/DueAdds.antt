-- Claims of places that are added spot by spot, place by place.
use Rattle.bbm_certify.proofs.Common.{note_of, notes_behind, notes_of, Kept, IsDueAt, IsDueIn, IsDueSince, IsNewest}
use Rattle.bbm_certify.proofs.Common.{IsUncleansed, claim_key, IsFirst, IsLeastClaim, IsPattern, finishing, publishes}
use Rattle.bbm_certify.proofs.Common.{Adds, Pattern, One}
use Rattle.bbm_rules.proofs.Common.{◌≡◌, ◌⊎◌, ℕ, suc, ◌+◌, ◌<◌, ◌≤◌, true, false, List, [], ◌∷◌, ◌++◌, length, take}
use Rattle.bbm_rules.proofs.Common.{drop, get_or, reverse, Some, None, refl, sym, ◌∙◌, ap, subst, inl, inr, true≢false}
use Rattle.bbm_rules.proofs.Common.{arith, length-append, cases_eq, length-drop, take_all, take_more, Claim, Place, Two}
use Rattle.bbm_rules.proofs.Common.{Taken, PeMask, Trust, Patterns, cleansed, ValidWrite, last_valid, Noted, Cleansed}
use Rattle.bbm_rules.proofs.Common.{page_of, Heading, Event, Node, node_of, in_append, in_left, in_right, In, none-some}
use Rattle.bbm_rules.proofs.Common.{same_Some, false_from_ne_true, seen}
use Rattle.bbm_regimes.specs.PeMask.{pe_in}
use Rattle.bbm_rules.specs.HeldLaws.{CleansedBySentence, SeenBySentence}
use Rattle.bbm_oracle_patterns.specs.Kept.{write_in}
use Rattle.bbm_oracle_patterns.specs.declared.search.ValidWrite.{ValidWrite as Found}
use Rattle.bbm_certify.specs.DueAt.{IsDueHere, Told}
use Rattle.bbm_certify.specs.Making.{IsInside, claim_of}
use Rattle.bbm_certify.specs.declared.patterns.Pattern.TheVariants.{Two as Both}
use Rattle.bbm_certify.proofs.Adding.{adds_more, adds_none, adds_same}
use Rattle.bbm_certify.proofs.Kepts.{publication_of}
use Rattle.bbm_certify.proofs.Leasts.{claim_found, claim_none, none_finishes}

-- the key of such a claim
key_of_place : (heading : Heading) (place p : ℕ) (since : List Noted) (c : Claim) → IsLeastClaim heading place p since c
    → claim_key c ≡ 0 ∷ place ∷ 0 ∷ p ∷ []
key_of_place heading place p since (Place r a b t d) k = cc (k.0, k.1)
key_of_place heading place p since (Two r a b t1 d1 t2 d2) k = cc (k.0, k.1)
key_of_place heading place p since (Taken r tag t d) k = absurd k

-- such a claim is one of a place that is cleansed
cleansed_by : (heading : Heading) (place p : ℕ) (since : List Noted) (c : Claim) → IsLeastClaim heading place p since c
    → Cleansed heading Patterns place p since
cleansed_by heading place p since (Place r a b t d) k = inl k.2.holds.0
cleansed_by heading place p since (Two r a b t1 d1 t2 d2) k = inr k.3.holds.0
cleansed_by heading place p since (Taken r tag t d) k = absurd k

-- a pattern that was found is one of the log
pub inside_of : (heading : Heading) (place p : ℕ) (e : Event) (log : List Kept) (x : Pattern)
    → IsPattern heading place p e log (Some x) → IsInside (length log) x
inside_of heading place p e log x (inl k) = absurd (none-some x (sym k.1))
inside_of heading place p e log (One c t) (inr k) = (omega (arith, k.2.0, k.1.1), k.2.1.1)
inside_of heading place p e log (Both c h) (inr k) =
    let x = k.2.2.1 in (
      omega (arith, k.2.0, k.1.1),
      omega (
        arith,
        x.at,
        x.begins.waits,
        x.begins.gaps,
        ap length x.split,
        length-append x.before (x.tlbi ∷ x.later),
        ap length x.begins.split,
        length-append x.begins.mid (x.begins.d ∷ (x.begins.between ++ x.begins.t ∷ x.begins.after)),
        length-append x.begins.between (x.begins.t ∷ x.begins.after),
      ),
    )

module _ (heading : Heading) (place from : ℕ) (log : List Kept) (newest : Noted) (clean : CleansedBySentence heading Patterns)
    (e : Event) (k : IsNewest newest e (from + length log)) where
  abbrev since : List Noted
  since = notes_behind from (reverse log)

  -- at a PE at which nothing was cleansed, and nothing is
  not_cleansed : (p : ℕ) (c : Claim) → cleansed heading Patterns place p (newest ∷ since) ≡ false
      → IsLeastClaim heading place p (newest ∷ since) c → ⊥
  not_cleansed p c none least =
      true≢false (sym (clean.complete place p (newest ∷ since) (cleansed_by heading place p (newest ∷ since) c least)) ∙ none)

  -- no pattern, whatever is told of the place
  pub spot_none : (p : ℕ) (due : List Claim) → IsPattern heading place p e log None
      → Adds (IsDueHere heading place newest since p) due due
  spot_none p due pattern =
      adds_none (IsDueHere heading place newest since p) due (λ c d. not_cleansed p c
      (claim_none heading place p from log newest k.0 k.1 k.3 clean d.0
      (subst (λ (y : Event). IsPattern heading place p y log None) k.2 pattern)) d.1)

  -- a place that wasn't cleansed, and is by a pattern
  pub spot_found : (p : ℕ) (pes : PeMask) (x : Pattern) (old new : List Claim) → pe_in pes p ≡ false
      → Told heading pes place p since → IsPattern heading place p e log (Some x)
      → Adds (λ c. c ≡ claim_of p place from (length log) x) old new
      → Adds (IsDueHere heading place newest since p) old new
  spot_found p pes x old new hasnt told pattern adds = record {
    sorted = adds.sorted;
    from = λ c i. elim (adds.from c i) [
      | inl o ↦ inl o
      | inr same ↦ inr (unclean, subst (λ (y : Claim). IsLeastClaim heading place p (newest ∷ since) y) (sym same) least)
    ];
    kept = adds.kept;
    has = λ c d. let h = adds.has the_claim refl in (
      h.0,
      h.1,
      h.2 ∙ (key_of_place heading place p (newest ∷ since) the_claim least
          ∙ sym (key_of_place heading place p (newest ∷ since) c d.1)),
    );
  }
    where
      unclean : cleansed heading Patterns place p since ≡ false
      unclean = sym told ∙ hasnt

      the_claim : Claim
      the_claim = claim_of p place from (length log) x

      least : IsLeastClaim heading place p (newest ∷ since) (claim_of p place from (length log) x)
      least =
          claim_found heading place p from log newest k.0 k.1 k.3 clean unclean k.4 x
          (subst (λ (y : Event). IsPattern heading place p y log (Some x)) k.2 pattern)

  -- no TLBI that covers the rest of the place
  pub since_unfinished : (n : ℕ) (due : List Claim) → IsFirst (finishing place e) 0 log None
      → Adds (IsDueSince heading place newest since n) due due
  since_unfinished n due absent =
      adds_none (IsDueSince heading place newest since n) due (λ c d. not_cleansed d.0 c
      (none_finishes heading place d.0 from log newest k.0 k.1 k.3 clean d.2
      (subst (λ (y : Event). IsFirst (finishing place y) 0 log None) k.2 absent)) d.3)

-- no write of the place is published to p
pub unseen_none : (heading : Heading) (place p from : ℕ) (log : List Kept) (e : Event) → SeenBySentence heading
    → seen heading place p (notes_behind from (reverse log)) ≡ false → IsPattern heading place p e log None
unseen_none heading place p from log e by_sentence unseen =
    inl (
      (λ before after k split above below. false_from_ne_true (publishes heading place p k.event before) (λ does.
          true≢false (sym (by_sentence.complete place p (notes_behind from (reverse log))
          (note_of (from + length before) k, publication_of heading place p from log before after k split does)) ∙ unseen))),
      refl,
    )

-- ---- every PE

module _ (heading : Heading) (place : ℕ) (newest : Noted) (since : List Noted) where
  -- a place that was cleansed before
  pub spot_cleansed : (p : ℕ) (pes : PeMask) (due : List Claim) → pe_in pes p ≡ true → Told heading pes place p since
      → Adds (IsDueHere heading place newest since p) due due
  spot_cleansed p pes due has told =
      adds_none (IsDueHere heading place newest since p) due (λ c k. true≢false (sym has ∙ (told ∙ k.0)))

  pub since_none : (due : List Claim) → Adds (IsDueSince heading place newest since 0) due due
  since_none due = adds_none (IsDueSince heading place newest since 0) due (λ c k. absurd (omega (arith, k.1)))

  pub since_more : (n p : ℕ) (xs ys zs : List Claim) → p ≡ n → Adds (IsDueSince heading place newest since n) xs ys
      → Adds (IsDueHere heading place newest since p) ys zs → Adds (IsDueSince heading place newest since (n + 1)) xs zs
  since_more n p xs ys zs at a b =
      adds_more (IsDueSince heading place newest since n) (IsDueHere heading place newest since p)
      (IsDueSince heading place newest since (n + 1)) xs ys zs a b
      (λ c k. (k.0, omega (arith, k.1), k.2, k.3)) (λ c k. (p, omega (arith, at), k.0, k.1))
      (λ c k. elim (cases_eq k.0 p) [
        | inl same ↦ inr (
          subst (λ (r : ℕ). IsUncleansed heading place r since) same k.2,
          subst (λ (r : ℕ). IsLeastClaim heading place r (newest ∷ since) c) same k.3,
        )
        | inr other ↦ inl (k.0, omega (arith, k.1, other, at), k.2, k.3)
      ])

-- ---- the place as one of a page

-- the events behind an index
pub newest_part : (newest : Noted) (e : Event) (log part : List Kept) (i : ℕ) → i < length log → part ≡ drop (i + 1) log
    → IsNewest newest e (length log) → IsNewest newest e (i + 1 + length part)
newest_part newest e log part i below at k =
    let count : length log ≡ i + 1 + length part = omega (arith, below, ap length at, length-drop (i + 1) log) in
    (k.0, k.1, k.2, k.3, k.4 ∙ ap suc count)

module _ (heading : Heading) (n : Node) (place : ℕ) (newest : Noted) (log : List Kept) where
  pub in_found : (f : Found) (part : List Kept) (old new : List Claim)
      → last_valid n.kind n.level place (notes_of (reverse log)) ≡ write_in log (Some f)
      → part ≡ drop (f.index + 1) log
      → Adds (IsDueSince heading place newest (notes_behind (f.index + 1) (reverse part)) heading.pes) old new
      → Adds (IsDueIn heading n place newest (notes_of (reverse log))) old new
  in_found f part old new is at adds =
      adds_same (IsDueSince heading place newest (notes_behind (f.index + 1) (reverse part)) heading.pes)
      (IsDueIn heading n place newest (notes_of (reverse log))) old new adds
      (λ c k. (the_write, is, subst (λ (ns : List Noted). IsDueSince heading place newest ns heading.pes c) since_is k))
      (λ c k. let same : the_write ≡ k.0 = same_Some the_write k.0 (sym is ∙ k.1) in
      subst (λ (ns : List Noted). IsDueSince heading place newest ns heading.pes c)
      (ap (λ (x : ValidWrite). x.since) (sym same) ∙ sym since_is) k.2)
    where
      the_write : ValidWrite
      the_write = record { value = f.value; since = notes_behind (f.index + 1) (reverse (drop (f.index + 1) log)) }

      since_is : notes_behind (f.index + 1) (reverse part) ≡ notes_behind (f.index + 1) (reverse (drop (f.index + 1) log))
      since_is = ap (λ (ks : List Kept). notes_behind (f.index + 1) (reverse ks)) at

  pub in_none : (due : List Claim) → last_valid n.kind n.level place (notes_of (reverse log)) ≡ None
      → Adds (IsDueIn heading n place newest (notes_of (reverse log))) due due
  in_none due none =
      adds_none (IsDueIn heading n place newest (notes_of (reverse log))) due (λ c k. none-some k.0 (sym none ∙ k.1))

-- ---- the place as one of a tree

module _ (heading : Heading) (trust : Trust) (after : List Noted) (newest : Noted) (h : List Noted) (place : ℕ) where
  pub at_found : (n : Node) (old new : List Claim) → node_of heading trust after (page_of place) ≡ Some n
      → Adds (IsDueIn heading n place newest h) old new → Adds (IsDueAt heading trust after newest h place) old new
  at_found n old new is adds =
      adds_same (IsDueIn heading n place newest h) (IsDueAt heading trust after newest h place) old new adds
      (λ c k. (n, is, k))
      (λ c k. subst (λ (m : Node). IsDueIn heading m place newest h c) (same_Some k.0 n (sym k.1 ∙ is)) k.2)

  pub at_none : (due : List Claim) → node_of heading trust after (page_of place) ≡ None
      → Adds (IsDueAt heading trust after newest h place) due due
  at_none due none = adds_none (IsDueAt heading trust after newest h place) due (λ c k. none-some k.0 (sym none ∙ k.1))

-- what is due for the items of a list, item by item
abbrev pub Each : {A : Type 0} → (A → Claim → Type 0) → List A → Claim → Type 0
Each {A} Due xs c = (a : A) × In xs a × Due a c

pub each_none : {A : Type 0} (Due : A → Claim → Type 0) (cs : List Claim) → Adds (Each Due []) cs cs
each_none Due cs = adds_none (Each Due []) cs (λ c k. absurd k.1)

pub each_more : {A : Type 0} (Due : A → Claim → Type 0) (xs : List A) (i : ℕ) (x : A) → i < length xs → x ≡ get_or xs i x
    → (as' bs cs : List Claim) → Adds (Each Due (take i xs)) as' bs → Adds (Due x) bs cs
    → Adds (Each Due (take (i + 1) xs)) as' cs
each_more {A} Due xs i x below is as' bs cs a b =
    adds_more (Each Due (take i xs)) (Due x) (Each Due (take (i + 1) xs)) as' bs cs a b
    (λ c k. (k.0, subst (λ (ys : List A). In ys k.0) (sym whole) (in_left (take i xs) (x ∷ []) k.0 k.1), k.2))
    (λ c k. (x, subst (λ (ys : List A). In ys x) (sym whole) (in_right (take i xs) (x ∷ []) x (inl refl)), k))
    (λ c k. by c k.0 k.2 (in_append (take i xs) (x ∷ []) k.0 (subst (λ (ys : List A). In ys k.0) whole k.1)))
  where
    whole : take (i + 1) xs ≡ take i xs ++ x ∷ []
    whole = take_more xs i x below ∙ ap (λ (y : A). take i xs ++ y ∷ []) (sym is)

    by : (c : Claim) (y : A) → Due y c → In (take i xs) y ⊎ In (x ∷ []) y → Each Due (take i xs) c ⊎ Due x c
    by c y k (inl old) = inl (y, old, k)
    by c y k (inr (inl same)) = inr (subst (λ (z : A). Due z c) (sym same) k)
    by c y k (inr (inr none)) = absurd none

-- all of them
pub each_all : {A : Type 0} (Due : A → Claim → Type 0) (xs : List A) (i : ℕ) (as' bs : List Claim) → length xs ≤ i
    → Adds (Each Due (take i xs)) as' bs → Adds (Each Due xs) as' bs
each_all {A} Due xs i as' bs end a = subst (λ (ys : List A). Adds (Each Due ys) as' bs) (take_all i xs end) a
