-- A tag that a root holds was readable for it; and one that waits to be taken away, and is held, was held when the TLBI
-- was issued that is to take it.
use Rattle.bbm_rules.proofs.Common.{◌≡◌, ◌↔◌, ℕ, ◌<◌, ◌≤◌, Bool, true, false, not, ◌&&◌, ◌==◌, nat_le, List, [], ◌∷◌}
use Rattle.bbm_rules.proofs.Common.{◌++◌, length, Some, filter_map, flat_map, refl, sym, ◌∙◌, ap, subst, inl, inr}
use Rattle.bbm_rules.proofs.Common.{true≢false, arith, and_parts, le-leb, or_cases, or_left, or_parts, not-true, In}
use Rattle.bbm_rules.proofs.Common.{any_found, in_left, in_right, to_flat, Trust, same_tag, any, below, if_so, AsidFrom}
use Rattle.bbm_rules.proofs.Common.{FromTtbr0, FromTtbr1, World, Hyp, Kernel, Heading, Event, Tag, Issued, reaches}
use Rattle.bbm_rules.proofs.Common.{Open, Reading, asid_readings, distinct, ever_read, kept_at, itself, loses}
use Rattle.bbm_rules.proofs.Common.{read_since, readings, readings_in, reads, reads_for_some, tag_for, takes_tag}
use Rattle.std.proofs.lemmas.List.{length-append}
use Rattle.bbm_lemmas.proofs.Words.{in_below}
use Rattle.bbm_lemmas.proofs.Elements.{to_filter_map}
use Rattle.bbm_histories.specs.HistorySteps.{takes}
use Rattle.bbm_alike.proofs.TagSteps.{kept_before}
use Rattle.bbm_rules.proofs.TagSetLaw.{distinct_keeps}

-- ---- what is readable

-- nothing is readable before the first event
pub no_readings : (heading : Heading) (p : ℕ) → readings heading [] p ≡ []
no_readings heading p = by heading.words.inorder heading.world
  where
    asids : (order : Bool) (from : AsidFrom) → asid_readings order from [] p ≡ []
    asids order FromTtbr0 = refl
    asids true FromTtbr1 = refl
    asids false FromTtbr1 = refl

    by : (order : Bool) (world : World) → readings_in order world [] p ≡ []
    by order (Hyp world) = refl
    by order (Kernel world) = rw (asids order world.asid_from) refl

module _ (heading : Heading) (trust : Trust) (p root : ℕ) (tag : Tag) where
  -- what is readable is kept
  pub read_is_kept : (h : List Event) → reads heading h p tag root ≡ true → kept_at heading trust p root tag h ≡ true
  read_is_kept [] e = absurd (true≢false (sym e
      ∙ ap (λ (rs : List Reading). any (λ r. same_tag r.tag tag && r.root == root) rs) (no_readings heading p)))
  read_is_kept (x ∷ h) e = or_left (reads heading (x ∷ h) p tag root) _ e

  module _ (equal : (g k : Tag) → (same_tag g k ≡ true) ↔ (g ≡ k)) where
    -- what is kept was readable
    was_read : (h : List Event) → In (below heading.pes) p → kept_at heading trust p root tag h ≡ true
        → In (ever_read heading root h) tag
    was_read [] among held = absurd (true≢false (sym held))
    was_read (e ∷ h) among held =
        let now = flat_map (λ (q : ℕ). filter_map (tag_for root) (readings heading (e ∷ h) q)) (below heading.pes) in
        elim (or_cases (reads heading (e ∷ h) p tag root)
        (kept_at heading trust p root tag h && not (loses heading trust p tag e h)) held) [
          | inl here ↦
              let r = any_found (λ (r : Reading). same_tag r.tag tag && r.root == root) (readings heading (e ∷ h) p) here in
              let parts = and_parts (same_tag r.0.tag tag) (r.0.root == root) r.2 in
              in_left now (ever_read heading root h) tag
              (to_flat (λ (q : ℕ). filter_map (tag_for root) (readings heading (e ∷ h) q)) (below heading.pes) p tag among
              (to_filter_map (tag_for root) (readings heading (e ∷ h) p) r.0 tag r.1
              (ap (λ (b : Bool). if_so b r.0.tag) parts.1 ∙ ap (λ (g : Tag). Some g) ((equal r.0.tag tag).0 parts.0))))
          | inr before ↦ in_right now (ever_read heading root h) tag (was_read h among
              (and_parts (kept_at heading trust p root tag h) (not (loses heading trust p tag e h)) before).0)
        ]

    pub kept_is_listed : (h : List Event) → p < heading.pes → kept_at heading trust p root tag h ≡ true
        → In (distinct (ever_read heading root h)) tag
    kept_is_listed h less held =
        distinct_keeps (ever_read heading root h) tag (was_read h (in_below heading.pes p less) held)

  -- ---- what waits

  -- a tag that is kept now, and wasn't readable since a moment, was kept then
  kept_back : (newer before : List Event) (e : Event) → kept_at heading trust p root tag (newer ++ e ∷ before) ≡ true
      → read_since heading (length before) p tag (newer ++ e ∷ before) ≡ false
      → kept_at heading trust p root tag before ≡ true
  kept_back [] before e held unread =
      kept_before heading trust p root tag e before held
      (subst (λ (b : Bool). (b && reads_for_some heading (e ∷ before) p tag) ≡ false)
      (le-leb (length before) (length before) (omega arith))
      (or_parts (nat_le (length before) (length before) && reads_for_some heading (e ∷ before) p tag)
      (read_since heading (length before) p tag before) unread).0)
  kept_back (x ∷ newer) before e held unread =
      let rest : List Event = newer ++ e ∷ before in
      let long : length before ≤ length rest = omega (arith, length-append newer (e ∷ before)) in
      let parts = or_parts (nat_le (length before) (length rest) && reads_for_some heading (x ∷ rest) p tag)
      (read_since heading (length before) p tag rest) unread in
      kept_back newer before e
      (kept_before heading trust p root tag x rest held
      (subst (λ (b : Bool). (b && reads_for_some heading (x ∷ rest) p tag) ≡ false)
      (le-leb (length before) (length rest) long) parts.0))
      parts.1

  -- a tag that is kept, and waits for a TLBI to take it away, was kept at the issue of the TLBI
  pub kept_at_issue : (q : ℕ) (h : List Event) (t : Issued Event) → Open itself q h t → takes heading p tag h t ≡ true
      → kept_at heading trust p root tag h ≡ true
      → (reaches heading t.tlbi p ≡ true) × (takes_tag heading t.tlbi t.before tag ≡ true)
      × (kept_at heading trust p root tag t.before ≡ true)
  kept_at_issue q h t o taken held =
      let parts = and_parts (reaches heading t.tlbi p && takes_tag heading t.tlbi t.before tag)
      (not (read_since heading (length t.before) p tag h)) taken in
      let both = and_parts (reaches heading t.tlbi p) (takes_tag heading t.tlbi t.before tag) parts.0 in (
        both.0,
        both.1,
        kept_back o.newer t.before t.tlbi
            (subst (λ (es : List Event). kept_at heading trust p root tag es ≡ true) o.split held)
            (subst (λ (es : List Event). read_since heading (length t.before) p tag es ≡ false) o.split
            (not-true (read_since heading (length t.before) p tag h) parts.1)),
      )
