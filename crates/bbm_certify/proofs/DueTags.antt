-- The claims of tags that are due at a DSB are those that are found among what was ever readable.
use Rattle.bbm_certify.proofs.Common.{Holding, Known, IsDue, IsLeast, TakenAt, less, AreTaken, IsKnown, IsTaken, takes}
use Rattle.bbm_rules.proofs.Common.{◌≡◌, ℕ, suc, ◌<◌, ◌≤◌, true, false, not, ◌&&◌, ◌||◌, ◌==◌, nat_lt, List, [], ◌∷◌}
use Rattle.bbm_rules.proofs.Common.{length, refl, sym, ◌∙◌, ap, subst, true≢false, arith, and_from, and_parts, eq-eqb}
use Rattle.bbm_rules.proofs.Common.{eqb-true, lt-ltb, ltb-true, not-true, not_from_false, or_left, Claim, nat_tests}
use Rattle.bbm_rules.proofs.Common.{Taken, same_tag, Patterns, Listed, Barrier, Heading, Event, Dsb, Tag, Reading}
use Rattle.bbm_rules.proofs.Common.{kept_at, loses, reads, reads_for_some, readings, any_finds, any_found}
use Rattle.bbm_rules.proofs.Common.{false_from_ne_true, proved, If, Is}
use Rattle.bbm_lemmas.proofs.Words.{same_number}
use Rattle.bbm_claims.specs.Holdings.{is_holding}
use Rattle.bbm_certify.proofs.TagClaims as tags

not_less_one : (m n : ℕ) → n ≤ m → less (m ∷ []) (n ∷ []) ≡ false
not_less_one m n le = grind (arith, nat_tests)

one_least : (m n : ℕ) → less (m ∷ []) (n ∷ []) ≡ false → n ≤ m
one_least m n e = grind (arith, nat_tests)

module _ (heading : Heading) (known : Known heading) (h : List Event) (q : ℕ) (dsb : Barrier) where
  abbrev now : List Event
  now = Dsb q dsb ∷ h

  abbrev end : ℕ
  end = suc (length h)

  module _ (p : ℕ) (tag : Tag) (unread : reads_for_some heading now p tag ≡ false) where
    -- the DSB takes the tag away by the TLBI at the position exactly where the claim of it is true
    test_is : (t : ℕ) → loses heading (Listed (Taken p tag t end ∷ [])) p tag (Dsb q dsb) h ≡ takes heading p tag q dsb h t
    test_is t =
        known.tag_claim_steps.lost (Taken p tag t end ∷ []) p tag q dsb h
        ∙ proved 5 (λ a b c x u. If (Is a true) (If (Is b true) (If (Is c true) (If (Is u false)
        (Is ((((a && (b && c)) && x) || false) && not u) x))))) refl
        (p == p) (same_tag tag tag) (end == end) (takes heading p tag q dsb h t) (reads_for_some heading now p tag)
        (same_number p) ((known.equality_tests.tags tag tag).1 refl) (same_number end) unread

    taken_at : (t : ℕ) → takes heading p tag q dsb h t ≡ true → TakenAt heading p tag now (t ∷ [])
    taken_at t does = tags.sound heading known p tag q dsb h (t ∷ []) tt (test_is t ∙ does)

    takes_at : (t : ℕ) → TakenAt heading p tag now (t ∷ []) → takes heading p tag q dsb h t ≡ true
    takes_at t at = sym (test_is t) ∙ (tags.complete heading known p tag q dsb h (t ∷ []) at).1

    -- the least position is the first
    least_is_first : (t : ℕ) → takes heading p tag q dsb h t ≡ true
        → ((n : ℕ) → n < t → takes heading p tag q dsb h n ≡ false) → IsLeast (TakenAt heading p tag now) (t ∷ [])
    least_is_first t does none = record { holds = taken_at t does; least = only }
      where
        only : (other : List ℕ) → TakenAt heading p tag now other → less other (t ∷ []) ≡ false
        only other at =
            let n : ℕ = suc (length at.0.before) in
            let told = takes_at n (at.0, at.1, at.2, refl) in
            let never : n < t → ⊥ = λ lt. true≢false (sym told ∙ none n lt) in
            ap (λ (ns : List ℕ). less ns (t ∷ [])) at.3 ∙ not_less_one n t (omega arith)

    first_is_least : (t n : ℕ) → IsLeast (TakenAt heading p tag now) (t ∷ []) → n < t → takes heading p tag q dsb h n ≡ false
    first_is_least t n least lt = false_from_ne_true (takes heading p tag q dsb h n)
        (λ e. omega (arith, lt, one_least n t (least.least (n ∷ []) (taken_at n e))))

  -- ---- what is found is due

  pub taken_due : (x : Holding) (c : Claim) → IsTaken heading h (Dsb q dsb) x c → IsDue heading h (Dsb q dsb) c
  taken_due x c k =
      let may = and_parts (nat_lt x.pe heading.pes && not (reads_for_some heading now x.pe x.tag))
      (kept_at heading Patterns x.pe x.root x.tag h) k.3 in
      let parts = and_parts (nat_lt x.pe heading.pes) (not (reads_for_some heading now x.pe x.tag)) may.0 in
      let unread = not-true (reads_for_some heading now x.pe x.tag) parts.1 in
      let first = k.2.1 k.1 in
      subst (λ (y : Claim). IsDue heading h (Dsb q dsb) y) (sym k.4) (
        ltb-true x.pe heading.pes parts.0,
        (x.root, may.1),
        tags.kept_by_none heading known x.pe x.tag q dsb h (tags.forgotten heading known x.pe x.tag q dsb h
            (Taken x.pe x.tag k.0 end ∷ []) (test_is x.pe x.tag unread k.0 ∙ first.0)),
        refl,
        least_is_first x.pe x.tag unread k.0 first.0 first.1,
      )

  -- ---- what is due is found

  pub due_taken : (p : ℕ) (tag : Tag) (t d : ℕ) (held : List Holding) → IsKnown heading h held
      → IsDue heading h (Dsb q dsb) (Taken p tag t d) → AreTaken heading h (Dsb q dsb) held (Taken p tag t d)
  due_taken p tag t d held all k =
      let x = any_found (is_holding p k.1.0 tag) held (all p k.1.0 tag k.0 k.1.1) in
      let parts = and_parts (x.0.pe == p && x.0.root == k.1.0) (same_tag x.0.tag tag) x.2 in
      let both = and_parts (x.0.pe == p) (x.0.root == k.1.0) parts.0 in
      let pe = eqb-true x.0.pe p both.0 in
      let root = eqb-true x.0.root k.1.0 both.1 in
      let of_tag = (known.equality_tests.tags x.0.tag tag).0 parts.1 in
      let found : Holding = record { pe = x.0.pe; root = x.0.root; tag = x.0.tag } in
      let meant : Holding = record { pe = p; root = k.1.0; tag = tag } in
      let same : found ≡ meant = cc in
      let first : t ≡ suc (length k.4.holds.0.before) = cc k.4.holds.3 in (
        x.0,
        x.1,
        subst (λ (y : Holding). IsTaken heading h (Dsb q dsb) y (Taken p tag t d)) (sym same) (
          t,
          omega (arith, first),
          (
            (λ zero. absurd (omega (arith, first, zero))),
            (λ some. (takes_at p tag unread t k.4.holds, (λ n lt. first_is_least p tag unread t n k.4 lt))),
          ),
          and_from (nat_lt p heading.pes && not (reads_for_some heading now p tag)) (kept_at heading Patterns p k.1.0 tag h)
              (and_from (nat_lt p heading.pes) (not (reads_for_some heading now p tag)) (lt-ltb p heading.pes k.0)
              (not_from_false (reads_for_some heading now p tag) unread)) k.1.1,
          ap (λ (n : ℕ). Taken p tag t n) k.3,
        ),
      )
    where
      unread : reads_for_some heading now p tag ≡ false
      unread = false_from_ne_true (reads_for_some heading now p tag) (λ e.
          let r = any_found (λ (r : Reading). same_tag r.tag tag) (readings heading now p) e in
          let read : reads heading now p tag r.0.root ≡ true
          = any_finds (λ (x : Reading). same_tag x.tag tag && x.root == r.0.root) (readings heading now p) r.0 r.1
          (and_from (same_tag r.0.tag tag) (r.0.root == r.0.root) r.2 (eq-eqb r.0.root r.0.root refl)) in
          k.2 (
            r.0.root,
            or_left (reads heading now p tag r.0.root)
                (kept_at heading Patterns p r.0.root tag h && not (loses heading Patterns p tag (Dsb q dsb) h)) read,
          ))
