-- One more event, and the TLBIs that the PEs await of it.
use Rattle.bbm_rules.proofs.Common.{◌≡◌, ℕ, suc, ◌<◌, ◌≤◌, Bool, true, false, not, ◌&&◌, ◌||◌, cond, ◌==◌, List, []}
use Rattle.bbm_rules.proofs.Common.{◌∷◌, length, refl, sym, ap, ◌∙◌, arith, true≢false, le-leb, any-filter_same, proved}
use Rattle.bbm_rules.proofs.Common.{Is, answers, operation, Barrier, Heading, Event, Dsb, Tlbi, Tag, any, Issued}
use Rattle.bbm_rules.proofs.Common.{completes, left_open, reaches, unanswered, gives_up, holds_at, itself, left_at, loses}
use Rattle.bbm_rules.proofs.Common.{read_since, reads, reads_for_some, takes_tag, and-false, and-true, and_comm, first_true}
use Rattle.bbm_regimes.specs.PeMask.{pe_in}
use Rattle.bbm_rules.specs.Claims.{Patterns}
use Rattle.bbm_rules.specs.Tags.{is_taken_by}
use Rattle.bbm_oracle_tags.specs.Watches.{IsWatch, Looks, awaits, awaits_after, is_cast, loses_by, would_take}
use Rattle.bbm_oracle_tags.specs.declared.watch.Watch.{Watch}
use Rattle.bbm_oracle_tags.proofs.BoolLemmas.{read-later, read-now, taken-broadcast, taken-local}
use Rattle.bbm_oracle_tags.proofs.MomentLemmas.{same-reads-some}
use mathlib.Core.Bool.{or_self_left}
use Rattle.bbm_lemmas.proofs.Bools.{ands_of_first, never_of_two, both_of_two}
use Rattle.bbm_rules.proofs.TagLaw.{unread_yet}

-- each of the TLBIs was issued before so many events had come
abbrev older : ℕ → List (Issued Event) → Type 0
older n [] = Unit {0}
older n (t ∷ ts) = (length t.before < n) × older n ts

older-more : (n m : ℕ) (ts : List (Issued Event)) → n ≤ m → older n ts → older m ts
older-more n m [] le k = tt
older-more n m (t ∷ ts) le k = (let l : length t.before < n = k.0 in omega arith, older-more n m ts le k.1)

older-left : (n : ℕ) (dsb : Barrier) (ts : List (Issued Event)) → older n ts → older n (left_open itself dsb ts)
older-left n dsb [] k = tt
older-left n dsb (t ∷ ts) k = by_case (not (completes dsb t.tlbi)) (older-left n dsb ts k.1)
  where
    by_case : (b : Bool) → older n (left_open itself dsb ts)
        → older n (cond b (t ∷ left_open itself dsb ts) (left_open itself dsb ts))
    by_case true rest = (k.0, rest)
    by_case false rest = rest

open-older : (q : ℕ) (h : List Event) → older (length h) (unanswered itself q h)
open-older q [] = tt
open-older q (Tlbi pe op xt ∷ h) =
    by_case (pe == q) (older-more (length h) (suc (length h)) (unanswered itself q h) (omega arith) (open-older q h))
  where
    by_case : (b : Bool) → older (suc (length h)) (unanswered itself q h)
        → older (suc (length h)) (cond b (record { tlbi = Tlbi pe op xt; before = h } ∷ unanswered itself q h)
        (unanswered itself q h))
    by_case true rest = (omega arith, rest)
    by_case false rest = rest
open-older q (Dsb pe dsb ∷ h) =
    by_case (pe == q) (older-more (length h) (suc (length h)) (unanswered itself q h) (omega arith) (open-older q h))
  where
    by_case : (b : Bool) → older (suc (length h)) (unanswered itself q h)
        → older (suc (length h)) (cond b (left_open itself dsb (unanswered itself q h)) (unanswered itself q h))
    by_case true rest = older-left (suc (length h)) dsb (unanswered itself q h) rest
    by_case false rest = rest
open-older q (e ∷ h) = older-more (length h) (suc (length h)) (unanswered itself q h) (omega arith) (open-older q h)

-- a DSB completes all TLBIs of a sort, or none
pub sorted : (cast : Bool) (dsb : Barrier) (e : Event) → is_cast cast e ≡ true
    → not (completes dsb e) ≡ not (answers dsb cast)
sorted true dsb (Tlbi pe op xt) k = ap (λ (b : Bool). not (answers dsb b)) k
sorted false dsb (Tlbi pe op xt) k = by_case (operation op).broadcast k
  where
    by_case : (b : Bool) → not b ≡ true → not (answers dsb b) ≡ not (answers dsb false)
    by_case true k = absurd (true≢false (sym k))
    by_case false k = refl
sorted true dsb e k = absurd (true≢false (sym k))
sorted false dsb e k = absurd (true≢false (sym k))

module _ (heading : Heading) (p : ℕ) (tag : Tag) where
  -- one more moment
  read-next : (n : ℕ) (e : Event) (h : List Event) → n ≤ length h
      → read_since heading n p tag (e ∷ h) ≡ (reads_for_some heading (e ∷ h) p tag || read_since heading n p tag h)
  read-next n e h le =
      ap (λ (b : Bool). (b && reads_for_some heading (e ∷ h) p tag) || read_since heading n p tag h)
      (le-leb n (length h) le)

  -- the present moment is one of those after the issue
  read-present : (n : ℕ) (h : List Event) → n < length h
      → (reads_for_some heading h p tag || read_since heading n p tag h) ≡ read_since heading n p tag h
  read-present n [] lt = absurd (omega arith)
  read-present n (e ∷ h) lt =
      let next = read-next n e h (omega arith) in
      ap (λ (b : Bool). reads_for_some heading (e ∷ h) p tag || b) next
      ∙ or_self_left (reads_for_some heading (e ∷ h) p tag) (read_since heading n p tag h) ∙ sym next

  takes-next : (e : Event) (h : List Event) (cast : Bool) (t : Issued Event) → length t.before ≤ length h
      → would_take heading p tag (e ∷ h) cast t
      ≡ (not (reads_for_some heading (e ∷ h) p tag) && would_take heading p tag h cast t)
  takes-next e h cast t le =
      ap (λ (b : Bool). is_cast cast t.tlbi && (reaches heading t.tlbi p
      && (takes_tag heading t.tlbi t.before tag && not b)))
      (read-next (length t.before) e h le)
      ∙ read-later (is_cast cast t.tlbi) (reaches heading t.tlbi p) (takes_tag heading t.tlbi t.before tag)
      (reads_for_some heading (e ∷ h) p tag) (read_since heading (length t.before) p tag h)

  all-next : (e : Event) (h : List Event) (cast : Bool) (ts : List (Issued Event)) → older (length h) ts
      → any (would_take heading p tag (e ∷ h) cast) ts
      ≡ (not (reads_for_some heading (e ∷ h) p tag) && any (would_take heading p tag h cast) ts)
  all-next e h cast [] k = sym (and-false (not (reads_for_some heading (e ∷ h) p tag)))
  all-next e h cast (t ∷ ts) k =
      let lt : length t.before < length h = k.0 in
      ap (λ (b : Bool). b || any (would_take heading p tag (e ∷ h) cast) ts) (takes-next e h cast t (omega arith))
      ∙ ap (λ (b : Bool). (not (reads_for_some heading (e ∷ h) p tag) && would_take heading p tag h cast t) || b)
      (all-next e h cast ts k.1)
      ∙ ands_of_first (not (reads_for_some heading (e ∷ h) p tag)) (would_take heading p tag h cast t)
      (any (would_take heading p tag h cast) ts)

  takes-first : (e : Event) (h : List Event) (cast : Bool)
      → would_take heading p tag (e ∷ h) cast (record { tlbi = e; before = h })
      ≡ (not (reads_for_some heading (e ∷ h) p tag)
      && (is_cast cast e && (reaches heading e p && takes_tag heading e h tag)))
  takes-first e h cast =
      ap (λ (b : Bool). is_cast cast e && (reaches heading e p && (takes_tag heading e h tag && not b)))
      (read-next (length h) e h (omega arith) ∙ ap (λ (b : Bool). reads_for_some heading (e ∷ h) p tag || b)
      (unread_yet heading p tag (length h) h (omega arith)))
      ∙ read-now (is_cast cast e) (reaches heading e p) (takes_tag heading e h tag)
      (reads_for_some heading (e ∷ h) p tag)

  left-taking : (dsb : Barrier) (h : List Event) (cast : Bool) (ts : List (Issued Event))
      → any (would_take heading p tag h cast) (left_open itself dsb ts)
      ≡ (any (would_take heading p tag h cast) ts && not (answers dsb cast))
  left-taking dsb h cast ts =
      any-filter_same (would_take heading p tag h cast) (λ t. not (completes dsb t.tlbi)) (not (answers dsb cast))
      (λ t k. sorted cast dsb t.tlbi (first_true (is_cast cast t.tlbi)
      (reaches heading t.tlbi p && (takes_tag heading t.tlbi t.before tag
      && not (read_since heading (length t.before) p tag h))) k)) ts
      ∙ and_comm (not (answers dsb cast)) (any (would_take heading p tag h cast) ts)

  pub awaits-next : (e : Event) (h : List Event) (cast : Bool) (q : ℕ) → awaits heading p tag (e ∷ h) cast q
      ≡ awaits_after cast (reaches heading e p && takes_tag heading e h tag) (reads_for_some heading (e ∷ h) p tag) e q
      (awaits heading p tag h cast q)
  awaits-next (Tlbi pe op xt) h cast q = by_case (pe == q)
    where
      before : any (would_take heading p tag (Tlbi pe op xt ∷ h) cast) (unanswered itself q h)
          ≡ (not (reads_for_some heading (Tlbi pe op xt ∷ h) p tag) && awaits heading p tag h cast q)
      before = all-next (Tlbi pe op xt) h cast (unanswered itself q h) (open-older q h)

      by_case : (b : Bool) → any (would_take heading p tag (Tlbi pe op xt ∷ h) cast)
          (cond b (record { tlbi = Tlbi pe op xt; before = h } ∷ unanswered itself q h) (unanswered itself q h))
          ≡ (not (reads_for_some heading (Tlbi pe op xt ∷ h) p tag) && ((b && (is_cast cast (Tlbi pe op xt)
          && (reaches heading (Tlbi pe op xt) p && takes_tag heading (Tlbi pe op xt) h tag)))
          || awaits heading p tag h cast q))
      by_case true =
          ap (λ (b : Bool). b || any (would_take heading p tag (Tlbi pe op xt ∷ h) cast) (unanswered itself q h))
          (takes-first (Tlbi pe op xt) h cast)
          ∙ ap (λ (b : Bool). (not (reads_for_some heading (Tlbi pe op xt ∷ h) p tag) && (is_cast cast (Tlbi pe op xt)
          && (reaches heading (Tlbi pe op xt) p && takes_tag heading (Tlbi pe op xt) h tag))) || b) before
          ∙ ands_of_first (not (reads_for_some heading (Tlbi pe op xt ∷ h) p tag)) (is_cast cast (Tlbi pe op xt)
          && (reaches heading (Tlbi pe op xt) p && takes_tag heading (Tlbi pe op xt) h tag))
          (awaits heading p tag h cast q)
      by_case false = before
  awaits-next (Dsb pe dsb) h cast q = by_case (pe == q)
    where
      by_case : (b : Bool) → any (would_take heading p tag (Dsb pe dsb ∷ h) cast)
          (cond b (left_open itself dsb (unanswered itself q h)) (unanswered itself q h))
          ≡ (not (reads_for_some heading (Dsb pe dsb ∷ h) p tag)
          && (awaits heading p tag h cast q && not (b && answers dsb cast)))
      by_case true =
          all-next (Dsb pe dsb) h cast (left_open itself dsb (unanswered itself q h))
          (older-left (length h) dsb (unanswered itself q h) (open-older q h))
          ∙ ap (λ (b : Bool). not (reads_for_some heading (Dsb pe dsb ∷ h) p tag) && b)
          (left-taking dsb h cast (unanswered itself q h))
      by_case false =
          all-next (Dsb pe dsb) h cast (unanswered itself q h) (open-older q h)
          ∙ ap (λ (b : Bool). not (reads_for_some heading (Dsb pe dsb ∷ h) p tag) && b)
          (sym (and-true (awaits heading p tag h cast q)))
  awaits-next e h cast q = all-next e h cast (unanswered itself q h) (open-older q h)

  -- ---- the answer that takes the tag away

  taken-by : (q : ℕ) (dsb : Barrier) (h : List Event) (t : Issued Event) → length t.before < length h
      → is_taken_by heading Patterns p tag q dsb h t
      ≡ ((answers dsb true && would_take heading p tag h true t)
      || (answers dsb false && would_take heading p tag h false t))
  taken-by q dsb h t lt =
      ap (λ (b : Bool). (((completes dsb t.tlbi && reaches heading t.tlbi p) && takes_tag heading t.tlbi t.before tag)
      && not b) && true) same
      ∙ by_event t.tlbi (reaches heading t.tlbi p) (takes_tag heading t.tlbi t.before tag)
      (not (read_since heading (length t.before) p tag h))
    where
      same : read_since heading (length t.before) p tag (Dsb q dsb ∷ h) ≡ read_since heading (length t.before) p tag h
      same =
          read-next (length t.before) (Dsb q dsb) h (omega arith)
          ∙ ap (λ (b : Bool). b || read_since heading (length t.before) p tag h)
          (same-reads-some heading (Dsb q dsb) h p tag refl)
          ∙ read-present (length t.before) h lt

      by_event : (e : Event) (r k n : Bool) → ((((completes dsb e && r) && k) && n) && true)
          ≡ ((answers dsb true && (is_cast true e && (r && (k && n))))
          || (answers dsb false && (is_cast false e && (r && (k && n)))))
      by_event (Tlbi pe op xt) r k n = by_case (operation op).broadcast
        where
          by_case : (b : Bool) → ((((answers dsb b && r) && k) && n) && true)
              ≡ ((answers dsb true && (b && (r && (k && n)))) || (answers dsb false && (not b && (r && (k && n)))))
          by_case true = taken-broadcast (answers dsb true) (answers dsb false) r k n
          by_case false = taken-local (answers dsb true) (answers dsb false) r k n
      by_event e r k n = never_of_two (answers dsb true) (answers dsb false) (r && (k && n))

  all-taken : (q : ℕ) (dsb : Barrier) (h : List Event) (ts : List (Issued Event)) → older (length h) ts
      → any (is_taken_by heading Patterns p tag q dsb h) ts
      ≡ ((answers dsb true && any (would_take heading p tag h true) ts)
      || (answers dsb false && any (would_take heading p tag h false) ts))
  all-taken q dsb h [] k = proved 2 (λ a f. Is false ((a && false) || (f && false))) refl (answers dsb true)
      (answers dsb false)
  all-taken q dsb h (t ∷ ts) k =
      ap (λ (b : Bool). b || any (is_taken_by heading Patterns p tag q dsb h) ts) (taken-by q dsb h t k.0)
      ∙ ap (λ (b : Bool). ((answers dsb true && would_take heading p tag h true t)
      || (answers dsb false && would_take heading p tag h false t)) || b)
      (all-taken q dsb h ts k.1)
      ∙ both_of_two (answers dsb true) (answers dsb false) (would_take heading p tag h true t)
      (would_take heading p tag h false t)
      (any (would_take heading p tag h true) ts) (any (would_take heading p tag h false) ts)

  pub loses-next : (e : Event) (h : List Event) → loses heading Patterns p tag e h
      ≡ loses_by e (awaits heading p tag h true) (awaits heading p tag h false)
  loses-next (Dsb q dsb) h = all-taken q dsb h (unanswered itself q h) (open-older q h)
  loses-next e h = refl

  -- ---- what is kept, after one more event

  loses-same : (e : Event) (f f' g g' : ℕ → Bool) → ((q : ℕ) → f q ≡ f' q) → ((q : ℕ) → g q ≡ g' q)
      → loses_by e f g ≡ loses_by e f' g'
  loses-same (Dsb q dsb) f f' g g' i j =
      ap (λ (b : Bool). (answers dsb true && b) || (answers dsb false && g q)) (i q)
      ∙ ap (λ (b : Bool). (answers dsb true && f' q) || (answers dsb false && b)) (j q)
  loses-same e f f' g g' i j = refl

  -- where the tag is readable before the event, it doesn't matter what is told of a TLBI
  same-whole : (e : Event) (h : List Event) (cast whole : Bool) (q : ℕ) (b : Bool)
      → (reads_for_some heading h p tag ≡ false → whole ≡ (reaches heading e p && takes_tag heading e h tag))
      → awaits_after cast whole (reads_for_some heading (e ∷ h) p tag) e q b
      ≡ awaits_after cast (reaches heading e p && takes_tag heading e h tag)
      (reads_for_some heading (e ∷ h) p tag) e q b
  same-whole (Tlbi pe op xt) h cast whole q b k = by_case (reads_for_some heading (Tlbi pe op xt ∷ h) p tag) refl
    where
      by_case : (s : Bool) → reads_for_some heading (Tlbi pe op xt ∷ h) p tag ≡ s
          → awaits_after cast whole s (Tlbi pe op xt) q b
          ≡ awaits_after cast (reaches heading (Tlbi pe op xt) p && takes_tag heading (Tlbi pe op xt) h tag) s
          (Tlbi pe op xt) q b
      by_case true e = refl
      by_case false e = ap (λ (w : Bool). (pe == q && (is_cast cast (Tlbi pe op xt) && w)) || b)
          (k (sym (same-reads-some heading (Tlbi pe op xt) h p tag refl) ∙ e))
  same-whole e h cast whole q b k = refl

  awaits-kept : (e : Event) (h : List Event) (cast whole some : Bool) (q : ℕ) (before after : Bool)
      → (reads_for_some heading h p tag ≡ false → whole ≡ (reaches heading e p && takes_tag heading e h tag))
      → some ≡ reads_for_some heading (e ∷ h) p tag → before ≡ awaits heading p tag h cast q
      → after ≡ awaits_after cast whole some e q before → after ≡ awaits heading p tag (e ∷ h) cast q
  awaits-kept e h cast whole some q before after k i j l =
      l ∙ ap (λ (s : Bool). awaits_after cast whole s e q before) i
      ∙ ap (λ (b : Bool). awaits_after cast whole (reads_for_some heading (e ∷ h) p tag) e q b) j
      ∙ same-whole e h cast whole q (awaits heading p tag h cast q) k
      ∙ sym (awaits-next e h cast q)

  pub watch-next : (root : ℕ) (e : Event) (h : List Event) (old new : Watch) (whole lost up : Bool)
      → IsWatch heading p root tag h old → Looks heading p root tag (e ∷ h) new
      → (old.reads_some ≡ false → whole ≡ (reaches heading e p && takes_tag heading e h tag))
      → lost ≡ loses_by e (pe_in old.broadcast) (pe_in old.local) → up ≡ gives_up root e
      → new.holds ≡ (new.reads || (old.holds && not (up || lost)))
      → new.left ≡ ((old.left || (up && old.holds)) && not lost)
      → ((q : ℕ) → pe_in new.local q ≡ awaits_after false whole new.reads_some e q (pe_in old.local q))
      → ((q : ℕ) → pe_in new.broadcast q ≡ awaits_after true whole new.reads_some e q (pe_in old.broadcast q))
      → IsWatch heading p root tag (e ∷ h) new
  watch-next root e h old new whole lost up k looks taken losing giving holding leaving local broadcast = record {
    looks = looks;
    holds = holding
        ∙ ap (λ (b : Bool). b || (old.holds && not (up || lost))) looks.reads
        ∙ ap (λ (b : Bool). reads heading (e ∷ h) p tag root || (b && not (up || lost))) k.holds
        ∙ ap (λ (b : Bool). reads heading (e ∷ h) p tag root
        || (holds_at heading Patterns p root tag h && not (b || lost)))
        giving
        ∙ ap (λ (b : Bool). reads heading (e ∷ h) p tag root
        || (holds_at heading Patterns p root tag h && not (gives_up root e || b))) is_lost;
    left = leaving
        ∙ ap (λ (b : Bool). (b || (up && old.holds)) && not lost) k.left
        ∙ ap (λ (b : Bool). (left_at heading Patterns p root tag h || (up && b)) && not lost) k.holds
        ∙ ap (λ (b : Bool). (left_at heading Patterns p root tag h || (b && holds_at heading Patterns p root tag h))
        && not lost) giving
        ∙ ap (λ (b : Bool). (left_at heading Patterns p root tag h
        || (gives_up root e && holds_at heading Patterns p root tag h)) && not b) is_lost;
    local = λ q. awaits-kept e h false whole new.reads_some q (pe_in old.local q) (pe_in new.local q)
        (λ none. taken (k.looks.reads_some ∙ none)) looks.reads_some (k.local q) (local q);
    broadcast = λ q. awaits-kept e h true whole new.reads_some q (pe_in old.broadcast q) (pe_in new.broadcast q)
        (λ none. taken (k.looks.reads_some ∙ none)) looks.reads_some (k.broadcast q) (broadcast q);
  }
    where
      is_lost : lost ≡ loses heading Patterns p tag e h
      is_lost =
          losing ∙ loses-same e (pe_in old.broadcast) (awaits heading p tag h true) (pe_in old.local)
          (awaits heading p tag h false) k.broadcast k.local
          ∙ sym (loses-next e h)
