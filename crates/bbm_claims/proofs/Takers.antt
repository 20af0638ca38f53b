-- The TLBI at an index, where a DSB behind the log answers it: it takes a tag away where it takes the whole tag, and
-- the tag isn't readable after it.
use Rattle.bbm_claims.proofs.Common.{or-false, answered_by, is_tlbi, Known, answers_for}
use Rattle.bbm_rules.proofs.Common.{◌≡◌, ◌⊎◌, ℕ, suc, ◌+◌, ◌-◌, ◌<◌, ◌≤◌, Bool, true, false, cond, not, ◌&&◌, ◌||◌}
use Rattle.bbm_rules.proofs.Common.{◌==◌, nat_le, List, [], ◌∷◌, ◌++◌, length, take, drop, get_or, reverse, refl, sym}
use Rattle.bbm_rules.proofs.Common.{◌∙◌, ap, inl, inr, arith, length-append, and_from, and_right, eq-eqb, le-leb}
use Rattle.bbm_rules.proofs.Common.{ne_eqb, or_from, or_left, or_right, get_or_default, length-drop, length-reverse}
use Rattle.bbm_rules.proofs.Common.{take_all, list_any, proved, Is, answers, Barrier, Tag, Heading, Event, Dsb, Tlbi}
use Rattle.bbm_rules.proofs.Common.{completes, reaches, completes_for, issues, itself, read_since, reads_for_some}
use Rattle.bbm_rules.proofs.Common.{takes_tag, and-true}
use Rattle.bbm_histories.specs.ClaimSteps.{tag_waits_at, tag_waits_at_after}
use Rattle.bbm_claims.specs.Takings.{is_open_for}
use Rattle.bbm_claims.proofs.Flushed.{answered, answered_is}
use Rattle.bbm_claims.proofs.Kepts.{length_before, split}
use Rattle.bbm_claims.proofs.TagSteps.{next}
use Rattle.bbm_lemmas.proofs.Tests.{any_reverse}
use Rattle.bbm_rules.proofs.TagLaw.{unread_yet}

stops : (c w : Bool) → cond c false w ≡ (w && not c)
stops = proved 2 (λ c w. Is (cond c false w) (w && not c)) refl

at_none : (a i x w : Bool) → ((a && (i && (false && x))) || w) ≡ (w && true)
at_none = proved 4 (λ a i x w. Is ((a && (i && (false && x))) || w) (w && true)) refl

at_here : (a i x : Bool) → ((a && (i && (true && x))) || false) ≡ ((a && i) && x)
at_here = proved 3 (λ a i x. Is ((a && (i && (true && x))) || false) ((a && i) && x)) refl

nothing : (c : Bool) → cond c false false ≡ false
nothing = proved 1 (λ c. Is (cond c false false) false) refl

-- one more event: whether it or a later one answers, what the TLBI does, and whether the tag was readable since
one_later : (a b x s r : Bool) → ((((not b && x) && not s) && not a) && not r) ≡ ((not (a || b) && x) && not (r || s))
one_later = proved 5 (λ a b x s r. Is ((((not b && x) && not s) && not a) && not r) ((not (a || b) && x) && not (r
    || s))) refl

apart_sorts : (a x b y s : Bool) → ((a && (x && s)) || (b && (y && s))) ≡ (((a && x) || (b && y)) && s)
apart_sorts = proved 5 (λ a x b y s. Is ((a && (x && s)) || (b && (y && s))) (((a && x) || (b && y)) && s)) refl

in_parts : (i c r n t : Bool) → ((i && (c && (r && t))) && n) ≡ (((i && (c && r)) && n) && t)
in_parts = proved 5 (λ i c r n t. Is ((i && (c && (r && t))) && n) (((i && (c && r)) && n) && t)) refl

-- the positions that no event has
pub unheld : (t count : ℕ) → (t ≡ 0) ⊎ (count < t) → (n : ℕ) → n < count → (t == suc n) ≡ false
unheld t count (inl none) n less = ne_eqb t (suc n) (λ e. omega (arith, none, e))
unheld t count (inr past) n less = ne_eqb t (suc n) (λ e. omega (arith, past, less, e))

module _ (heading : Heading) (p : ℕ) (tag : Tag) where
  -- ---- whether the tag was readable since

  read_now : (n : ℕ) (e : Event) (h : List Event) → n ≤ length h → reads_for_some heading (e ∷ h) p tag ≡ true
      → read_since heading n p tag (e ∷ h) ≡ true
  read_now n e h within read =
      or_left (nat_le n (length h) && reads_for_some heading (e ∷ h) p tag) (read_since heading n p tag h)
      (and_from (nat_le n (length h)) (reads_for_some heading (e ∷ h) p tag) (le-leb n (length h) within) read)

  read_later : (n : ℕ) (newer h : List Event) → read_since heading n p tag h ≡ true
      → read_since heading n p tag (newer ++ h) ≡ true
  read_later n [] h read = read
  read_later n (e ∷ newer) h read =
      or_right (nat_le n (length (newer ++ h)) && reads_for_some heading (e ∷ (newer ++ h)) p tag)
      (read_since heading n p tag (newer ++ h)) (read_later n newer h read)

  -- the same event by event
  module _ (n : ℕ) (events : List Event) (i : ℕ) (d : Event) (below : i < length events) where
    pub unread_more : read_since heading n p tag (reverse (take i events)) ≡ false
        → reads_for_some heading (reverse (take (i + 1) events)) p tag ≡ false
        → read_since heading n p tag (reverse (take (i + 1) events)) ≡ false
    unread_more so_far unread =
        let h : List Event = reverse (take i events) in
        let e : Event = get_or events i d in
        let at : reverse (take (i + 1) events) ≡ e ∷ h = next events i d below in
        ap (λ (xs : List Event). read_since heading n p tag xs) at
        ∙ or_from (nat_le n (length h) && reads_for_some heading (e ∷ h) p tag) (read_since heading n p tag h)
        (and_right (nat_le n (length h)) (reads_for_some heading (e ∷ h) p tag)
        (ap (λ (xs : List Event). reads_for_some heading xs p tag) (sym at) ∙ unread)) so_far

    pub read_there : n ≤ i → reads_for_some heading (reverse (take (i + 1) events)) p tag ≡ true
        → read_since heading n p tag (reverse events) ≡ true
    read_there within read =
        let h : List Event = reverse (take i events) in
        let e : Event = get_or events i d in
        let at : reverse (take (i + 1) events) ≡ e ∷ h = next events i d below in
        let count : length h ≡ i = length_before events i (omega (arith, below)) in
        ap (λ (xs : List Event). read_since heading n p tag xs) (split events i d below)
        ∙ read_later n (reverse (drop (i + 1) events)) (e ∷ h)
        (read_now n e h (omega (arith, count, within)) (ap (λ (xs : List Event). reads_for_some heading xs p tag)
        (sym at) ∙ read))

  module _ (known : Known heading) (q : ℕ) where
    after_later : (t : ℕ) (k : Bool) (x : Event) (h : List Event) → (t == suc (length h)) ≡ false
        → tag_waits_at_after heading p tag t q k x h ≡ (tag_waits_at heading p tag t q k h && not (answers_for q k x))
    after_later t k (Tlbi pe op xt) h apart =
        let does : Bool = reaches heading (Tlbi pe op xt) p && takes_tag heading (Tlbi pe op xt) h tag in
        ap (λ (b : Bool). (pe == q && (is_tlbi k (Tlbi pe op xt) && (b && does))) || tag_waits_at heading p tag t q k h)
        apart
        ∙ at_none (pe == q) (is_tlbi k (Tlbi pe op xt)) does (tag_waits_at heading p tag t q k h)
    after_later t k (Dsb pe dsb) h apart = stops (pe == q && answers dsb k) (tag_waits_at heading p tag t q k h)
    after_later t k x h apart = sym (and-true (tag_waits_at heading p tag t q k h))

    pub none_waits : (t : ℕ) (k : Bool) (h : List Event) → ((n : ℕ) → n < length h → (t == suc n) ≡ false)
        → tag_waits_at heading p tag t q k h ≡ false
    none_waits t k [] apart = refl
    none_waits t k (e ∷ h) apart =
        known.tag_claim_steps.waits p tag t q k e h
        ∙ ap (λ (b : Bool). b && not (reads_for_some heading (e ∷ h) p tag))
        (after_later t k e h (apart (length h) (omega arith))
        ∙ ap (λ (b : Bool). b && not (answers_for q k e)) (none_waits t k h (λ n less. apart n (omega (arith, less)))))

    -- what a TLBI does for the tag
    abbrev does_for : Bool → Event → List Event → Bool
    does_for k e older = (issues q e && is_tlbi k e) && (reaches heading e p && takes_tag heading e older tag)

    after_here : (t : ℕ) (k : Bool) (e : Event) (older : List Event) → t ≡ suc (length older)
        → tag_waits_at heading p tag t q k older ≡ false
        → tag_waits_at_after heading p tag t q k e older ≡ does_for k e older
    after_here t k (Tlbi pe op xt) older at none =
        let does : Bool = reaches heading (Tlbi pe op xt) p && takes_tag heading (Tlbi pe op xt) older tag in
        ap (λ (b : Bool). (pe == q && (is_tlbi k (Tlbi pe op xt) && (b && does)))
        || tag_waits_at heading p tag t q k older)
        (eq-eqb t (suc (length older)) at)
        ∙ ap (λ (b : Bool). (pe == q && (is_tlbi k (Tlbi pe op xt) && (true && does))) || b) none
        ∙ at_here (pe == q) (is_tlbi k (Tlbi pe op xt)) does
    after_here t k (Dsb pe dsb) older at none =
        ap (λ (b : Bool). cond (pe == q && answers dsb k) false b) none ∙ nothing (pe == q && answers dsb k)
    after_here t k e older at none = none

    waits_split : (t : ℕ) (k : Bool) (newer older : List Event) (e : Event) → t ≡ suc (length older)
        → tag_waits_at heading p tag t q k (newer ++ e ∷ older)
        ≡ ((not (answered itself q k newer) && does_for k e older)
        && not (read_since heading (length older) p tag (newer ++ e ∷ older)))
    waits_split t k [] older e at =
        let none : tag_waits_at heading p tag t q k older ≡ false
        = none_waits t k older (λ n less. unheld t (length older) (inr (omega (arith, at))) n less) in
        known.tag_claim_steps.waits p tag t q k e older
        ∙ ap (λ (b : Bool). b && not (reads_for_some heading (e ∷ older) p tag)) (after_here t k e older at none)
        ∙ ap (λ (b : Bool). does_for k e older && not b) (sym read)
      where
        read : read_since heading (length older) p tag (e ∷ older) ≡ reads_for_some heading (e ∷ older) p tag
        read =
            ap (λ (b : Bool). (b && reads_for_some heading (e ∷ older) p tag) || read_since heading (length older) p tag
            older)
            (le-leb (length older) (length older) (omega arith))
            ∙ ap (λ (b : Bool). reads_for_some heading (e ∷ older) p tag || b)
            (unread_yet heading p tag (length older) older (omega arith))
            ∙ or-false (reads_for_some heading (e ∷ older) p tag)
    waits_split t k (x ∷ newer) older e at =
        let h : List Event = newer ++ e ∷ older in
        let apart : (t == suc (length h)) ≡ false
        = ne_eqb t (suc (length h)) (λ same. omega (arith, at, same, length-append newer (e ∷ older))) in
        let within : nat_le (length older) (length h) ≡ true
        = le-leb (length older) (length h) (omega (arith, length-append newer (e ∷ older))) in
        let read : Bool = reads_for_some heading (x ∷ h) p tag in
        known.tag_claim_steps.waits p tag t q k x h
        ∙ ap (λ (b : Bool). b && not read)
        (after_later t k x h apart ∙ ap (λ (b : Bool). b && not (answers_for q k x)) (waits_split t k newer older e at))
        ∙ one_later (answers_for q k x) (answered itself q k newer) (does_for k e older)
        (read_since heading (length older) p tag h) read
        ∙ ap (λ (b : Bool). (not (answers_for q k x || answered itself q k newer) && does_for k e older)
        && not ((b && read) || read_since heading (length older) p tag h)) (sym within)

    module _ (dsb : Barrier) where
      -- whether it takes the tag away where the tag isn't readable since
      taken_split : (t : ℕ) (newer older : List Event) (e : Event) → t ≡ suc (length older)
          → answered_by dsb (λ k. tag_waits_at heading p tag t q k (newer ++ e ∷ older))
          ≡ ((is_open_for heading p q dsb e newer && takes_tag heading e older tag)
          && not (read_since heading (length older) p tag (newer ++ e ∷ older)))
      taken_split t newer older e at =
          let h : List Event = newer ++ e ∷ older in
          let unread : Bool = not (read_since heading (length older) p tag h) in
          let x : Bool → Bool = λ k. not (answered itself q k newer) && does_for k e older in
          ap (λ (b : Bool). (answers dsb true && b) || (answers dsb false && tag_waits_at heading p tag t q false h))
          (waits_split t true newer older e at)
          ∙ ap (λ (b : Bool). (answers dsb true && (x true && unread)) || (answers dsb false && b))
          (waits_split t false newer older e at)
          ∙ apart_sorts (answers dsb true) (x true) (answers dsb false) (x false) unread
          ∙ ap (λ (b : Bool). b && unread)
          (answered_is itself q dsb newer e (reaches heading e p && takes_tag heading e older tag)
          ∙ in_parts (issues q e) (completes dsb e) (reaches heading e p)
          (not (list_any (λ x. completes_for q e (itself x)) newer)) (takes_tag heading e older tag))

      module _ (events : List Event) (i : ℕ) (e : Event) (below : i < length events) (is : e ≡ get_or events i e) where
        pub taken_at : answered_by dsb (λ k. tag_waits_at heading p tag (i + 1) q k (reverse events))
            ≡ ((is_open_for heading p q dsb e (take (length events - (i + 1)) (drop (i + 1) events))
            && takes_tag heading e (reverse (take i events)) tag)
            && not (read_since heading i p tag (reverse events)))
        taken_at =
            let older : List Event = reverse (take i events) in
            let newer : List Event = reverse (drop (i + 1) events) in
            let count : length older ≡ i = length_before events i (omega (arith, below)) in
            let whole : reverse events ≡ newer ++ e ∷ older
            = split events i e below ∙ ap (λ (x : Event). newer ++ x ∷ older) (sym is) in
            let later : take (length events - (i + 1)) (drop (i + 1) events) ≡ drop (i + 1) events
            = take_all (length events - (i + 1)) (drop (i + 1) events) (omega (arith, length-drop (i + 1) events)) in
            let closed : list_any (completes_for q e) newer ≡ list_any (completes_for q e) (drop (i + 1) events)
            = any_reverse (completes_for q e) (drop (i + 1) events) in
            ap (λ (h : List Event). answered_by dsb (λ k. tag_waits_at heading p tag (i + 1) q k h)) whole
            ∙ taken_split (i + 1) newer older e (omega (arith, count))
            ∙ ap (λ (b : Bool). (((issues q e && (completes dsb e && reaches heading e p)) && not b)
            && takes_tag heading e older tag) && not (read_since heading (length older) p tag (newer ++ e ∷ older)))
            (closed ∙ ap (list_any (completes_for q e)) (sym later))
            ∙ ap (λ (n : ℕ). (is_open_for heading p q dsb e (take (length events - (i + 1)) (drop (i + 1) events))
            && takes_tag heading e older tag) && not (read_since heading n p tag (newer ++ e ∷ older))) count
            ∙ ap (λ (h : List Event). (is_open_for heading p q dsb e
            (take (length events - (i + 1)) (drop (i + 1) events))
            && takes_tag heading e older tag) && not (read_since heading i p tag h)) (sym whole)

      -- the tag was readable since
      pub read_taken : (events : List Event) (t i : ℕ) → i < length events → t ≡ suc i
          → read_since heading i p tag (reverse events) ≡ true
          → answered_by dsb (λ k. tag_waits_at heading p tag t q k (reverse events)) ≡ false
      read_taken events t i below at read =
          let e : Event = get_or events i (Dsb q dsb) in
          let does : Bool = is_open_for heading p q dsb e (take (length events - (i + 1)) (drop (i + 1) events))
          && takes_tag heading e (reverse (take i events)) tag in
          let position : t ≡ i + 1 = omega (arith, at) in
          ap (λ (n : ℕ). answered_by dsb (λ k. tag_waits_at heading p tag n q k (reverse events))) position
          ∙ taken_at events i e below (get_or_default events i (Dsb q dsb) e below)
          ∙ ap (λ (b : Bool). does && not b) read
          ∙ and_right does false refl

      -- a position that no event has
      pub none_taken : (t : ℕ) (events : List Event) → (t ≡ 0) ⊎ (length events < t)
          → answered_by dsb (λ k. tag_waits_at heading p tag t q k (reverse events)) ≡ false
      none_taken t events gone =
          let none : (k : Bool) → tag_waits_at heading p tag t q k (reverse events) ≡ false
          = λ k. none_waits t k (reverse events)
          (λ n less. unheld t (length events) gone n (omega (arith, less, length-reverse events))) in
          ap (λ (b : Bool). (answers dsb true && b) || (answers dsb false && tag_waits_at heading p tag t q false
          (reverse events)))
          (none true)
          ∙ ap (λ (b : Bool). (answers dsb true && false) || (answers dsb false && b)) (none false)
          ∙ proved 2 (λ a b. Is ((a && false) || (b && false)) false) refl (answers dsb true) (answers dsb false)
