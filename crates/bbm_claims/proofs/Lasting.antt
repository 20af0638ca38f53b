-- What is kept of the tags that were readable, after one more event.
use Rattle.bbm_claims.proofs.Common.{slice_set, or_comm, or-false, set_split, next_lasts, lasts, Span}
use Rattle.bbm_rules.proofs.Common.{◌≡◌, ℕ, suc, ◌+◌, ◌-◌, ◌<◌, Bool, true, false, cond, ◌&&◌, ◌||◌, ◌==◌, nat_lt}
use Rattle.bbm_rules.proofs.Common.{nat_le, List, [], ◌∷◌, ◌++◌, length, take, drop, get_or, None, refl, sym, ◌∙◌, ap}
use Rattle.bbm_rules.proofs.Common.{subst, arith, drop-cons, and_right, le-ltb, leb-false, leb-true, lt-ltb}
use Rattle.bbm_rules.proofs.Common.{take-append-drop, list_any-append, list_any_more, list_any, proved, Is, changes}
use Rattle.bbm_rules.proofs.Common.{same_tag, Tag, Heading, Event, Reading, read_since, reads_for_some, and-true}
use Rattle.bbm_claims.specs.Spans.{goes_past, is_span, read_after}
use Rattle.bbm_rules.proofs.TagLaw.{no_reading, unread_yet}
use Rattle.bbm_claims.proofs.Tests.{none_below}
use Rattle.bbm_oracle_tags.proofs.MomentLemmas.{same-readings}

-- ---- one more of those that were kept

pub ended_more : (spans : List Span) (i : ℕ) (x : Span) (p n count : ℕ) (tag : Tag) (before after : Bool)
    → i < length spans
    → x ≡ get_or spans i x
    → before ≡ (lasts (take i spans) p tag n && nat_lt n count)
    → after ≡ (before || (lasts (x ∷ []) p tag n && nat_lt n count))
    → after ≡ (lasts (take (i + 1) spans) p tag n && nat_lt n count)
ended_more spans i x p n count tag before after below is is_before is_after =
    is_after
    ∙ ap (λ (b : Bool). b || (lasts (x ∷ []) p tag n && nat_lt n count)) is_before
    ∙ proved 3 (λ a b s. Is ((a && s) || ((b || false) && s)) ((a || b) && s)) refl (lasts (take i spans) p tag n)
    (is_span p tag n x) (nat_lt n count)
    ∙ ap (λ (y : Span). (lasts (take i spans) p tag n || is_span p tag n y) && nat_lt n count) is
    ∙ ap (λ (b : Bool). b && nat_lt n count) (sym (list_any_more (is_span p tag n) spans i x below))

-- one of them that goes on from now
pub lasts_set : (spans : List Span) (i : ℕ) (old : Span) (p n : ℕ) (tag : Tag) → i < length spans → old
    ≡ get_or spans i old
    → lasts (slice_set spans i (record { pe = old.pe; tag = old.tag; until = None })) p tag n
    ≡ (lasts spans p tag n || (old.pe == p && same_tag old.tag tag))
lasts_set spans i old p n tag below is =
    let new : Span = record { pe = old.pe; tag = old.tag; until = None } in
    let front : Bool = lasts (take i spans) p tag n in
    let back : Bool = lasts (drop (suc i) spans) p tag n in
    let whole : spans ≡ take i spans ++ old ∷ drop (suc i) spans
    = sym (take-append-drop i spans) ∙ ap (λ (xs : List Span). take i spans ++ xs) (drop-cons spans i old below)
    ∙ ap (λ (x : Span). take i spans ++ x ∷ drop (suc i) spans) (sym is) in
    let told : lasts spans p tag n ≡ (front || (is_span p tag n old || back))
    = ap (λ (xs : List Span). lasts xs p tag n) whole ∙ list_any-append (is_span p tag n) (take i spans)
    (old ∷ drop (suc i) spans) in
    ap (λ (xs : List Span). lasts xs p tag n) (set_split spans i new below)
    ∙ list_any-append (is_span p tag n) (take i spans) (new ∷ drop (suc i) spans)
    ∙ proved 4 (λ f m o b. Is (f || ((m && true) || b)) ((f || ((m && o) || b)) || m)) refl front (old.pe == p
    && same_tag old.tag tag) (goes_past n old.until) back
    ∙ ap (λ (b : Bool). b || (old.pe == p && same_tag old.tag tag)) (sym told)

pub found_in : (xs ys : List Span) (i : ℕ) (old : Span) (pe : ℕ) (tag : Tag) → xs ≡ ys
    → (i < length xs) × ((d : Span) → (get_or xs i d).pe ≡ pe) × ((d : Span) → same_tag (get_or xs i d).tag tag ≡ true)
    → old ≡ get_or ys i old → (i < length ys) × (old.pe ≡ pe) × (same_tag old.tag tag ≡ true)
found_in xs ys i old pe tag same found is =
    let there = subst (λ (zs : List Span). (i < length zs) × ((d : Span) → (get_or zs i d).pe ≡ pe)
    × ((d : Span) → same_tag (get_or zs i d).tag tag ≡ true)) same found in
    (there.0, ap (λ (x : Span). x.pe) is ∙ there.1 old, ap (λ (x : Span). same_tag x.tag tag) is ∙ there.2 old)

-- ---- one more event

same_twice : (c r s : Bool) → (r || ((c && r) || s)) ≡ (r || s)
same_twice = proved 3 (λ c r s. Is (r || ((c && r) || s)) (r || s)) refl

module _ (heading : Heading) (p : ℕ) (tag : Tag) where
  -- what was readable before the events so far, or only now
  capped : (n : ℕ) (h : List Event)
      → (read_after heading p tag n h && nat_lt n (length h)) ≡ read_since heading n p tag h
  capped n [] = and_right (read_after heading p tag n []) (nat_lt n 0) (none_below n)
  capped n (e ∷ h) = by (nat_le n (length h)) refl
    where
      read : Bool
      read = reads_for_some heading (e ∷ h) p tag

      by : (c : Bool) → nat_le n (length h) ≡ c
          → ((read || ((c && read) || read_since heading n p tag h)) && nat_lt n (suc (length h)))
          ≡ ((c && read) || read_since heading n p tag h)
      by true k =
          ap (λ (b : Bool). (read || (read || read_since heading n p tag h)) && b)
          (lt-ltb n (suc (length h)) (omega (arith, leb-true n (length h) k)))
          ∙ proved 2 (λ r s. Is ((r || (r || s)) && true) (r || s)) refl read (read_since heading n p tag h)
      by false k =
          ap (λ (b : Bool). (read || read_since heading n p tag h) && b)
          (le-ltb n (suc (length h)) (omega (arith, leb-false n (length h) k)))
          ∙ and_right (read || read_since heading n p tag h) false refl
          ∙ sym (unread_yet heading p tag n h (omega (arith, leb-false n (length h) k)))

  pub within_read : (n : ℕ) (h : List Event) → n < length h → read_since heading n p tag h
      ≡ read_after heading p tag n h
  within_read n h less =
      sym (capped n h) ∙ ap (λ (b : Bool). read_after heading p tag n h && b) (lt-ltb n (length h) less)
      ∙ and-true (read_after heading p tag n h)

  pub spans_next : (e : Event) (h : List Event) (spans : List Span) (n : ℕ)
      → lasts spans p tag n ≡ read_after heading p tag n h
      → next_lasts heading e (e ∷ h) spans p tag n ≡ read_after heading p tag n (e ∷ h)
  spans_next e h spans n so_far = by ((changes e).roots || (changes e).registers) refl
    where
      read : Bool
      read = reads_for_some heading (e ∷ h) p tag

      count : length (e ∷ h) - 1 ≡ length h
      count = omega arith

      by : (c : Bool) → ((changes e).roots || (changes e).registers) ≡ c
          → (cond c (lasts spans p tag n && nat_lt n (length (e ∷ h) - 1)) (lasts spans p tag n) || (c && read))
          ≡ (read || ((nat_le n (length h) && read) || read_since heading n p tag h))
      by true k =
          ap (λ (m : ℕ). (lasts spans p tag n && nat_lt n m) || read) count
          ∙ ap (λ (b : Bool). (b && nat_lt n (length h)) || read) so_far
          ∙ ap (λ (b : Bool). b || read) (capped n h)
          ∙ or_comm (read_since heading n p tag h) read
          ∙ sym (same_twice (nat_le n (length h)) read (read_since heading n p tag h))
      by false k =
          or-false (lasts spans p tag n)
          ∙ so_far
          ∙ ap (λ (b : Bool). b || read_since heading n p tag h)
          (sym (ap (λ (rs : List Reading). list_any (λ r. same_tag r.tag tag) rs) (same-readings heading e h p k)))
          ∙ sym (same_twice (nat_le n (length h)) read (read_since heading n p tag h))

  -- at the start
  pub nothing_lasts : (n : ℕ) → false ≡ read_after heading p tag n []
  nothing_lasts n =
      sym (ap (λ (rs : List Reading). list_any (λ r. same_tag r.tag tag) rs || false) (no_reading heading.words.inorder heading.world p))
