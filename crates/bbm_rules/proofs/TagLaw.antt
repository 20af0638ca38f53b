-- The tags that are kept for a page at a PE are those that the sentence names.
use Rattle.bbm_rules.proofs.Common.{◌≡◌, ℕ, suc, ◌+◌, ◌<◌, ◌≤◌, Bool, true, false, not, ◌&&◌, ◌==◌, nat_le, List, []}
use Rattle.bbm_rules.proofs.Common.{◌∷◌, ◌++◌, length, refl, sym, ◌∙◌, ap, subst, inl, inr, arith, true≢false}
use Rattle.bbm_rules.proofs.Common.{length-append, or_cases, or_left, or_right, and_parts, and_from, leb-true}
use Rattle.bbm_rules.proofs.Common.{leb-false, le-leb, not-true, not_from_false, In, any_finds, any_found}
use Rattle.bbm_rules.proofs.Common.{from_contains, to_contains, Taken, Trust, same_tag, Issued, completes, reaches}
use Rattle.bbm_rules.proofs.Common.{unanswered, Open, TakenAway, Reading, asid_readings, kept_at, itself, loses}
use Rattle.bbm_rules.proofs.Common.{read_since, readings, readings_in, readings_of, reads, reads_for_some, takes_tag}
use Rattle.bbm_rules.proofs.Common.{nat_lt, lt-ltb, ◌^◌, ◌||◌, tag_number}
use Rattle.bbm_barriers.specs.declared.Dsb.{Dsb as Barrier}
use Rattle.bbm_regimes.specs.declared.regime.AsidFrom.{AsidFrom}
use Rattle.bbm_regimes.specs.declared.regime.AsidFrom.TheVariants.{Ttbr0 as FromTtbr0, Ttbr1 as FromTtbr1}
use Rattle.bbm_regimes.specs.declared.regime.Reg.TheVariants.{Ttbr1El1}
use Rattle.bbm_regimes.specs.declared.regime.Tag.{Tag}
use Rattle.bbm_regimes.specs.declared.regime.Tag.TheVariants.{Ttbr1 as Ttbr1Tag}
use Rattle.bbm_regimes.specs.declared.regime.World.{World}
use Rattle.bbm_regimes.specs.declared.regime.World.TheVariants.{Hyp, Kernel}
use Rattle.bbm_events.specs.Heading.{Heading}
use Rattle.bbm_events.specs.declared.event.Event.{Event}
use Rattle.bbm_events.specs.declared.event.Event.TheVariants.{Dsb}
use Rattle.bbm_rules.proofs.OpenLaw.{head_of, tail_of, open_sound, open_complete}
use Rattle.bbm_rules.proofs.SearchLemmas.{is_none_before, none_before}
use Rattle.bbm_rules.specs.Claims.{allows}
use Rattle.bbm_rules.specs.Sentences.{KeptTag}
use Rattle.bbm_rules.specs.Tags.{is_taken_by}
use Rattle.bbm_lemmas.proofs.Bools.{second_false}

-- a tag that is readable for a root is readable for some root
pub some_reading : (heading : Heading) (h : List Event) (p : ℕ) (tag : Tag) (root : ℕ) → reads heading h p tag root ≡ true
    → reads_for_some heading h p tag ≡ true
some_reading heading h p tag root k =
    let r = any_found (λ (r : Reading). same_tag r.tag tag && r.root == root) (readings heading h p) k in
    any_finds (λ (r : Reading). same_tag r.tag tag) (readings heading h p) r.0 r.1 (and_parts (same_tag r.0.tag tag) (r.0.root == root) r.2).0

-- at the start no tag is readable
pub no_reading : (order : Bool) (world : World) (p : ℕ) → readings_in order world [] p ≡ []
no_reading order (Hyp hyp) p = refl
no_reading order (Kernel kernel) p = by_asid order kernel.asid_from
  where
    by_asid : (order : Bool) (from : AsidFrom) → asid_readings order from [] p ++ readings_of [] p Ttbr1El1 (λ value. Ttbr1Tag) ≡ []
    by_asid order FromTtbr0 = refl
    by_asid true FromTtbr1 = refl
    by_asid false FromTtbr1 = refl

pub not_at_start : (heading : Heading) (p root : ℕ) (tag : Tag) → reads heading [] p tag root ≡ true → ⊥
not_at_start heading p root tag k =
    let r = any_found (λ (r : Reading). same_tag r.tag tag && r.root == root) (readings heading [] p) k in
    subst (λ (rs : List Reading). In rs r.0) (no_reading heading.words.inorder heading.world p) r.1

-- the number of a tag has 16 bits
pub tag_small : (value : ℕ) → value < 2 ^ 64 → nat_lt (tag_number value) (2 ^ 16) ≡ true
tag_small value below = lt-ltb (tag_number value) (2 ^ 16) (omega (arith, below))

-- nothing is readable after the last event
pub unread_yet : (heading : Heading) (p : ℕ) (tag : Tag) (n : ℕ) (h : List Event) → length h ≤ n
    → read_since heading n p tag h ≡ false
unread_yet heading p tag n [] within = refl
unread_yet heading p tag n (e ∷ h) within = by (nat_le n (length h)) refl (unread_yet heading p tag n h (omega (arith, within)))
  where
    by : (c : Bool) → nat_le n (length h) ≡ c → read_since heading n p tag h ≡ false
        → ((c && reads_for_some heading (e ∷ h) p tag) || read_since heading n p tag h) ≡ false
    by true late rest = let less : n ≤ length h = leb-true n (length h) late in absurd (omega (arith, less, within))
    by false late rest = rest

module _ (heading : Heading) (trust : Trust) (p : ℕ) (tag : Tag) where
  -- ---- moments at which the tag is readable for no root

  unread_at : (n : ℕ) (h after moment : List Event) → read_since heading n p tag h ≡ false → h ≡ after ++ moment
      → n < length moment → reads_for_some heading moment p tag ≡ false
  unread_at n h after [] k split below = absurd (omega arith)
  unread_at n h after (e ∷ m) k split below =
      second_false (nat_le n (length m)) (reads_for_some heading (e ∷ m) p tag)
      (none_before (λ (e : Event) (before : List Event). nat_le n (length before) && reads_for_some heading (e ∷ before) p tag) h k after e m split) (le-leb n (length m) (omega arith))

  unread_one : (n : ℕ) (e : Event) (m : List Event) → (n < suc (length m) → reads_for_some heading (e ∷ m) p tag ≡ false)
      → (b : Bool) → nat_le n (length m) ≡ b → (b && reads_for_some heading (e ∷ m) p tag) ≡ false
  unread_one n e m all false early = refl
  unread_one n e m all true late = let l : n ≤ length m = leb-true n (length m) late in all (omega arith)

  pub unread_all : (n : ℕ) (h : List Event)
      → ((after moment : List Event) → h ≡ after ++ moment → n < length moment → reads_for_some heading moment p tag ≡ false)
      → read_since heading n p tag h ≡ false
  unread_all n h all =
      is_none_before (λ (e : Event) (before : List Event). nat_le n (length before) && reads_for_some heading (e ∷ before) p tag) h
      (λ after e m split. unread_one n e m (all after (e ∷ m) split) (nat_le n (length m)) refl)

  -- ---- the answer that takes the tag away

  record Takes (q : ℕ) (dsb : Barrier) (h : List Event) (t : Issued Event) : Type 0 where
    answered : completes dsb t.tlbi ≡ true
    reached : reaches heading t.tlbi p ≡ true
    whole : takes_tag heading t.tlbi t.before tag ≡ true
    unread : read_since heading (length t.before) p tag (Dsb q dsb ∷ h) ≡ false
    allowed : allows trust (Taken p tag (suc (length t.before)) (suc (length h))) ≡ true

  parts : (q : ℕ) (dsb : Barrier) (h : List Event) (t : Issued Event)
      → is_taken_by heading trust p tag q dsb h t ≡ true → Takes q dsb h t
  parts q dsb h t k =
      let c = completes dsb t.tlbi in
      let r = reaches heading t.tlbi p in
      let w = takes_tag heading t.tlbi t.before tag in
      let u = read_since heading (length t.before) p tag (Dsb q dsb ∷ h) in
      let a = allows trust (Taken p tag (suc (length t.before)) (suc (length h))) in
      let k4 = and_parts (((c && r) && w) && not u) a k in
      let k3 = and_parts ((c && r) && w) (not u) k4.0 in
      let k2 = and_parts (c && r) w k3.0 in
      let k1 = and_parts c r k2.0 in
      record { answered = k1.0; reached = k1.1; whole = k2.1; unread = not-true u k3.1; allowed = k4.1 }

  joined : (q : ℕ) (dsb : Barrier) (h : List Event) (t : Issued Event) → Takes q dsb h t
      → is_taken_by heading trust p tag q dsb h t ≡ true
  joined q dsb h t k =
      let c = completes dsb t.tlbi in
      let r = reaches heading t.tlbi p in
      let w = takes_tag heading t.tlbi t.before tag in
      let u = read_since heading (length t.before) p tag (Dsb q dsb ∷ h) in
      let a = allows trust (Taken p tag (suc (length t.before)) (suc (length h))) in
      and_from (((c && r) && w) && not u) a
      (and_from ((c && r) && w) (not u) (and_from (c && r) w (and_from c r k.answered k.reached) k.whole)
      (not_from_false u k.unread)) k.allowed

  -- a TLBI that takes the tag away with the newest event
  lost : (e : Event) (h : List Event) (q : ℕ) (dsb : Barrier) (t : Issued Event) → e ≡ Dsb q dsb → Open itself q h t
      → Takes q dsb h t → loses heading trust p tag e h ≡ true
  lost e h q dsb t same o k =
      subst (λ (x : Event). loses heading trust p tag x h ≡ true) (sym same)
      (any_finds (is_taken_by heading trust p tag q dsb h) (unanswered itself q h) t
      (from_contains (unanswered itself q h) t (open_complete q h t o)) (joined q dsb h t k))

  -- a root keeps the tag where the newest event takes it away by no TLBI since
  not_lost_by : (root q : ℕ) (dsb : Barrier) (newer older : List Event) → reads heading older p tag root ≡ true
      → ((t : Issued Event) → TakenAway heading trust p tag (Dsb q dsb ∷ newer ++ older) t → length older ≤ length t.before → ⊥)
      → (b : Bool) → loses heading trust p tag (Dsb q dsb) (newer ++ older) ≡ b → b ≡ false
  not_lost_by root q dsb newer older read none false k = refl
  not_lost_by root q dsb newer older read none true k =
      let h : List Event = newer ++ older in
      let r = any_found (is_taken_by heading trust p tag q dsb h) (unanswered itself q h) k in
      by_age r.0 r.1 (parts q dsb h r.0 r.2) (nat_le (length older) (length r.0.before)) refl
    where
      by_age : (t : Issued Event) → In (unanswered itself q (newer ++ older)) t → Takes q dsb (newer ++ older) t
          → (c : Bool) → nat_le (length older) (length t.before) ≡ c → true ≡ false
      by_age t i takes true old = absurd (none t (record {
        q = q;
        dsb = dsb;
        later = [];
        earlier = newer ++ older;
        split = refl;
        is_open = open_sound q (newer ++ older) t (to_contains (unanswered itself q (newer ++ older)) t i);
        answered = takes.answered;
        reached = takes.reached;
        whole = takes.whole;
        unread = λ after moment split below.
            unread_at (length t.before) (Dsb q dsb ∷ newer ++ older) after moment takes.unread split below;
        allowed = takes.allowed;
      }) (leb-true (length older) (length t.before) old))
      by_age t i takes false young = sym (some_reading heading older p tag root read)
          ∙ unread_at (length t.before) (Dsb q dsb ∷ newer ++ older) (Dsb q dsb ∷ newer) older takes.unread refl
          (leb-false (length older) (length t.before) young)

  pub not_lost : (root : ℕ) (e : Event) (newer older : List Event) → reads heading older p tag root ≡ true
      → ((t : Issued Event) → TakenAway heading trust p tag (e ∷ newer ++ older) t → length older ≤ length t.before → ⊥)
      → loses heading trust p tag e (newer ++ older) ≡ false
  not_lost root (Dsb q dsb) newer older read none =
      not_lost_by root q dsb newer older read none (loses heading trust p tag (Dsb q dsb) (newer ++ older)) refl
  not_lost root e newer older read none = refl

  -- ---- the test and the sentence

  shorter : (h : List Event) (t : Issued Event) → TakenAway heading trust p tag h t → length t.before < length h
  shorter h t k =
      let a : length h ≡ length (k.later ++ Dsb k.q k.dsb ∷ k.earlier) = ap length k.split in
      let b : length (k.later ++ Dsb k.q k.dsb ∷ k.earlier) ≡ length k.later + suc (length k.earlier)
      = length-append k.later (Dsb k.q k.dsb ∷ k.earlier) in
      let c : length k.earlier ≡ length (k.is_open.newer ++ t.tlbi ∷ t.before) = ap length k.is_open.split in
      let d : length (k.is_open.newer ++ t.tlbi ∷ t.before) ≡ length k.is_open.newer + suc (length t.before)
      = length-append k.is_open.newer (t.tlbi ∷ t.before) in
      omega arith

  pub at_once : (root : ℕ) (h : List Event) → reads heading h p tag root ≡ true → KeptTag heading trust p root tag h
  at_once root h read = record {
    newer = [];
    older = h;
    split = refl;
    read = read;
    not_taken = λ t k old. let s : length t.before < length h = shorter h t k in absurd (omega arith);
  }

  -- it is so at the moment itself
  pub at_once_newer : (root : ℕ) (h : List Event) (read : reads heading h p tag root ≡ true) → (at_once root h read).newer ≡ []
  unfolding at_once
  at_once_newer root h read = refl

  -- one event more, which doesn't take the tag away
  pub longer : (root : ℕ) (e : Event) (h : List Event) → loses heading trust p tag e h ≡ false
      → KeptTag heading trust p root tag h → KeptTag heading trust p root tag (e ∷ h)
  longer root e h keeps k = record {
    newer = e ∷ k.newer;
    older = k.older;
    split = ap (λ es. e ∷ es) k.split;
    read = k.read;
    not_taken = λ t taken old. by_later t taken taken.later taken.split old;
  }
    where
      by_later : (t : Issued Event) (taken : TakenAway heading trust p tag (e ∷ h) t) (later : List Event)
          → e ∷ h ≡ later ++ Dsb taken.q taken.dsb ∷ taken.earlier → length k.older ≤ length t.before → ⊥
      by_later t taken [] split old =
          let same : h ≡ taken.earlier = ap tail_of split in
          true≢false (sym (lost e h taken.q taken.dsb t (ap (head_of e) split)
          (subst (λ (es : List Event). Open itself taken.q es t) (sym same) taken.is_open)
          (subst (λ (es : List Event). Takes taken.q taken.dsb es t) (sym same) (record {
            answered = taken.answered;
            reached = taken.reached;
            whole = taken.whole;
            unread = unread_all (length t.before) (Dsb taken.q taken.dsb ∷ taken.earlier) taken.unread;
            allowed = taken.allowed;
          }))) ∙ keeps)
      by_later t taken (x ∷ later) split old = k.not_taken t (record {
        q = taken.q;
        dsb = taken.dsb;
        later = later;
        earlier = taken.earlier;
        split = ap tail_of split;
        is_open = taken.is_open;
        answered = taken.answered;
        reached = taken.reached;
        whole = taken.whole;
        unread = taken.unread;
        allowed = taken.allowed;
      }) old

  pub longer_newer : (root : ℕ) (e : Event) (h : List Event) (keeps : loses heading trust p tag e h ≡ false)
      (k : KeptTag heading trust p root tag h) → (longer root e h keeps k).newer ≡ e ∷ k.newer
  unfolding longer
  longer_newer root e h keeps k = refl

  sound : (root : ℕ) (h : List Event) → kept_at heading trust p root tag h ≡ true → KeptTag heading trust p root tag h
  sound root [] k = absurd (true≢false (sym k))
  sound root (e ∷ h) k =
      elim (or_cases (reads heading (e ∷ h) p tag root)
      (kept_at heading trust p root tag h && not (loses heading trust p tag e h)) k) [
        | inl now ↦ at_once root (e ∷ h) now
        | inr before ↦
            let r = and_parts (kept_at heading trust p root tag h) (not (loses heading trust p tag e h)) before in
            longer root e h (not-true (loses heading trust p tag e h) r.1) (sound root h r.0)
      ]

  complete_from : (root : ℕ) (newer older : List Event) → reads heading older p tag root ≡ true
      → ((t : Issued Event) → TakenAway heading trust p tag (newer ++ older) t → length older ≤ length t.before → ⊥)
      → kept_at heading trust p root tag (newer ++ older) ≡ true
  complete_from root [] [] read none = absurd (not_at_start heading p root tag read)
  complete_from root [] (e ∷ h) read none =
      or_left (reads heading (e ∷ h) p tag root)
      (kept_at heading trust p root tag h && not (loses heading trust p tag e h)) read
  complete_from root (e ∷ newer) older read none =
      or_right (reads heading (e ∷ newer ++ older) p tag root)
      (kept_at heading trust p root tag (newer ++ older) && not (loses heading trust p tag e (newer ++ older)))
      (and_from (kept_at heading trust p root tag (newer ++ older)) (not (loses heading trust p tag e (newer ++ older)))
      (complete_from root newer older read (λ t k old. none t (one_later t k) old))
      (not_from_false (loses heading trust p tag e (newer ++ older)) (not_lost root e newer older read none)))
    where
      one_later : (t : Issued Event) → TakenAway heading trust p tag (newer ++ older) t
          → TakenAway heading trust p tag (e ∷ newer ++ older) t
      one_later t k = record {
        q = k.q;
        dsb = k.dsb;
        later = e ∷ k.later;
        earlier = k.earlier;
        split = ap (λ es. e ∷ es) k.split;
        is_open = k.is_open;
        answered = k.answered;
        reached = k.reached;
        whole = k.whole;
        unread = k.unread;
        allowed = k.allowed;
      }

-- The test and the sentence say the same.
pub kept_sound : (heading : Heading) (trust : Trust) (p root : ℕ) (tag : Tag) (h : List Event)
    → kept_at heading trust p root tag h ≡ true → KeptTag heading trust p root tag h
kept_sound heading trust p root tag h k = sound heading trust p tag root h k

pub kept_complete : (heading : Heading) (trust : Trust) (p root : ℕ) (tag : Tag) (h : List Event)
    → KeptTag heading trust p root tag h → kept_at heading trust p root tag h ≡ true
kept_complete heading trust p root tag h k =
    subst (λ (es : List Event). kept_at heading trust p root tag es ≡ true) (sym k.split)
    (complete_from heading trust p tag root k.newer k.older k.read
    (λ t taken old. k.not_taken t (subst (λ (es : List Event). TakenAway heading trust p tag es t) (sym k.split) taken) old))
