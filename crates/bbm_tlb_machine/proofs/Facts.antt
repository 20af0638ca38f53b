-- What a fine entry gives at once: the node, the value and the tag of its parts, in one place.
use Rattle.bbm_rules.proofs.TagEndsLaw.{gives_up_is}
use Rattle.bbm_rules.proofs.Common.{◌≡◌, suc, ◌+◌, ◌∷◌, length-append, ℕ, ◌≤◌, true, false, List, [], ◌++◌, length}
use Rattle.bbm_rules.proofs.Common.{Some, refl, sym, ◌∙◌, ap, arith, true≢false, and_right, desc_of, is_valid, TagSet}
use Rattle.bbm_rules.proofs.Common.{One, Many, keeps, Trust, is_global, noted, held, Noted, Heading, Ttbr0, Event}
use Rattle.bbm_rules.proofs.Common.{holds_at, holds_tag, tag_set, tags_of, Node, held_at, pe_finds, contains_head}
use Rattle.bbm_tlbi_scope.specs.Agreement.{HasTag}
use Rattle.bbm_tlbi_scope.specs.declared.entry.TagSet.TheVariants.{None as NoTag}
use Rattle.bbm_tlbi_scope.specs.Takes.{is_global_leaf}
use Rattle.bbm_rules.proofs.Common.{Bool, or_cases, inl, inr, subst, and_parts, and_from, leb-true, le-leb}
use Rattle.bbm_rules.proofs.Common.{nat_le, ◌==◌, ◌&&◌, Contains, Unroot, gives_up, kept_at, left_at, left_tag}
use Rattle.std.proofs.lemmas.List.{append_assoc}
use Rattle.bbm_lemmas.proofs.Words.{same_number}
use Rattle.bbm_rules.proofs.SearchLemmas.{Found, some_finds, some_found}
use Rattle.bbm_rules.specs.Roots.{given_up_since}
use Rattle.bbm_histories.proofs.Induction.{Between, between_splits, kept_before}
use Rattle.bbm_tlb_machine.specs.Entry.{Entry, Part, desc_in, head_of, is_given_up, is_leaf, parts_of, tag_of_entry}
use Rattle.bbm_tlb_machine.specs.Invariant.{Holding, IsAt, Placed, Rooted, Tagged}
use Rattle.bbm_tlb_machine.specs.KnownOfMachine.{Known}
use Rattle.bbm_tlb_machine.proofs.Descs.{means_same}

begins_with : {X : Type 0} (item : X) (older between rest : List X) → item ∷ older ≡ between ++ rest → length rest ≤ length older
    → (more : List X) × (between ≡ item ∷ more)
begins_with {X} item older [] rest e le =
    let same : suc (length older) ≡ length rest = ap length e in absurd (omega (arith, same, le))
begins_with {X} item older (y ∷ more) rest e le =
    let head : item ≡ y = cc in (more, ap (λ (z : X). z ∷ more) (sym head))

-- no event since gives the root up
no_up : (n page : ℕ) (h : List Event) → given_up_since n page h ≡ false → (newer older : List Event) → h ≡ newer ++ older
    → n ≤ length older → (q : ℕ) (after before : List Event) → newer ≡ after ++ Unroot q page ∷ before → ⊥
no_up n page h none newer older split le q after before s =
    let whole : h ≡ after ++ Unroot q page ∷ (before ++ older)
    = split ∙ (ap (λ (es : List Event). es ++ older) s ∙ append_assoc after (Unroot q page ∷ before) older) in
    let long : length (before ++ older) ≡ length before + length older = length-append before older in
    true≢false (sym (some_finds (λ e rest. nat_le n (length rest) && gives_up page e) h (record {
      newer = after;
      item = Unroot q page;
      older = before ++ older;
      split = whole;
      passed = and_from (nat_le n (length (before ++ older))) (page == page) (le-leb n (length (before ++ older)) (omega (arith, long, le)))
          (same_number page);
    })) ∙ none)

module _ (heading : Heading) (trust : Trust) (k : Known heading trust) (h : List Event) (kept : keeps heading trust h ≡ true) (x : Entry) where
  abbrev notes : List Noted
  notes = noted heading trust h

  -- what the place of a part holds, in the words of its node
  pub held_there : (part : Part) (n : Node) → IsAt n x.root part → (value : ℕ)
      → held heading trust part.kind part.level part.place notes ≡ Some value
      → held_at heading trust notes n part.place ≡ Some value
  held_there part n a value e = rw (a.kind, a.level) e

  pub held_valid : (part : Part) (q : Holding heading trust h part) → is_valid part.kind part.level q.value ≡ true
  held_valid part q = (k.held.sound part.kind part.level part.place notes q.value q.holds).last_write.valid

  -- what the place holds means what was read
  pub means : (part : Part) (n : Node) → IsAt n x.root part → (q : Holding heading trust h part)
      → is_valid part.kind part.level part.value ≡ true → desc_of n.kind n.level q.value ≡ desc_in part
  means part n a q valid =
      rw (a.kind, a.level) (means_same k.same_cores part.kind part.level q.value part.value (held_valid part q) valid q.same_core)

  -- while the root wasn't given up since, it holds the entry's tag at each moment since the entry was made
  pub tag_then : Tagged heading trust h x → is_given_up heading h x ≡ false → (newer older : List Event) → h ≡ newer ++ older
      → x.since ≤ length older → holds_tag heading trust x.root (tag_of_entry x) older ≡ true
  tag_then t up newer older split le =
      pe_finds heading.pes (λ (p : ℕ). holds_at heading trust p x.root (tag_of_entry x) older) t.pe t.is_pe
      (by heading.words.unflushed refl up)
    where
      since : length t.held.older ≤ length older
      since = omega (arith, t.moment, le)

      b : Between newer older t.held.newer t.held.older
      b = between_splits newer older t.held.newer t.held.older (sym split ∙ t.held.split) since

      kept_older : keeps heading trust older ≡ true
      kept_older = kept_before heading trust newer older (subst (λ (es : List Event). keeps heading trust es ≡ true) split kept)

      by : (u : Bool) → heading.words.unflushed ≡ u → (u && given_up_since x.since x.root h) ≡ false
          → holds_at heading trust t.pe x.root (tag_of_entry x) older ≡ true
      by true word since_then =
          ap (holds_at heading trust t.pe x.root (tag_of_entry x)) b.end
          ∙ k.tags.between t.pe x.root (tag_of_entry x) h (record {
            kept = t.held;
            not_given_up = λ q after before s. no_up x.since x.root h since_then t.held.newer t.held.older t.held.split
                (omega (arith, t.moment)) q after before s;
          }) newer b.between b.start
      by false word since_then =
          let there : kept_at heading trust t.pe x.root (tag_of_entry x) older ≡ true
          = ap (kept_at heading trust t.pe x.root (tag_of_entry x)) b.end
          ∙ k.tags.kept_between t.pe x.root (tag_of_entry x) h t.held newer b.between b.start in
          elim (or_cases (holds_at heading trust t.pe x.root (tag_of_entry x) older) (left_at heading trust t.pe x.root (tag_of_entry x) older)
          (sym (k.tag_kept.parts t.pe x.root (tag_of_entry x) older) ∙ there)) [
            | inl holds ↦ holds
            | inr left ↦ absurd (true≢false (sym (pe_finds heading.pes (λ (p : ℕ). left_at heading trust p x.root (tag_of_entry x) older) t.pe t.is_pe left)
                ∙ k.tags.none_left word older kept_older x.root (tag_of_entry x)))
          ]

  pub tag_now : Tagged heading trust h x → is_given_up heading h x ≡ false → x.since ≤ length h
      → holds_tag heading trust x.root (tag_of_entry x) h ≡ true
  tag_now t up le = tag_then t up [] h refl le

  -- an entry whose root was given up since has a tag that was left
  pub tag_left : (t : Tagged heading trust h x) → given_up_since x.since x.root h ≡ true
      → left_tag heading trust x.root (tag_of_entry x) h ≡ true
  tag_left t up =
      let f : Found (λ e before. nat_le x.since (length before) && gives_up x.root e) h
      = some_found (λ e before. nat_le x.since (length before) && gives_up x.root e) h up in
      let both = and_parts (nat_le x.since (length f.older)) (gives_up x.root f.item) f.passed in
      let late : x.since ≤ length f.older = leb-true x.since (length f.older) both.0 in
      let long : length t.held.older ≤ length (f.item ∷ f.older) = omega (arith, t.moment, late) in
      let is = gives_up_is x.root f.item both.1 in
      let b : Between f.newer (f.item ∷ f.older) t.held.newer t.held.older
      = between_splits f.newer (f.item ∷ f.older) t.held.newer t.held.older (sym f.split ∙ t.held.split) long in
      let m = begins_with f.item f.older b.between t.held.older b.end (omega (arith, t.moment, late)) in
      pe_finds heading.pes (λ (p : ℕ). left_at heading trust p x.root (tag_of_entry x) h) t.pe t.is_pe
      (k.tag_left.complete t.pe x.root (tag_of_entry x) h (record {
        kept = t.held;
        q = is.0;
        after = f.newer;
        before = m.0;
        given_up = b.start ∙ (ap (λ (es : List Event). f.newer ++ es) m.1 ∙ ap (λ (e : Event). f.newer ++ e ∷ m.0) is.1);
      }))

  pub has_tag : (older : List Event) → holds_tag heading trust x.root (tag_of_entry x) older ≡ true
      → HasTag (tag_set (tags_of heading trust x.root older)) (tag_of_entry x)
  has_tag older e = by (tag_set (tags_of heading trust x.root older)) refl
    where
      by : (s : TagSet) → tag_set (tags_of heading trust x.root older) ≡ s → HasTag s (tag_of_entry x)
      by NoTag s = true≢false (sym e ∙ k.tag_set.none x.root older s (tag_of_entry x))
      by (One g) s = (k.equality_tests.tags g (tag_of_entry x)).0
          (sym (k.tag_set.one x.root older g s (tag_of_entry x)) ∙ e)
      by Many s = tt

  -- no entry of the lower range ends in a leaf for every ASID, while the root wasn't given up since
  pub no_global : ((part : Part) → Contains (parts_of x) part → is_valid part.kind part.level part.value ≡ true)
      → Rooted heading trust h x → x.last.kind ≡ Ttbr0 → is_global_leaf (head_of x) ≡ false
  no_global valid g lower =
      let i = contains_head x.above x.last in
      let p : Placed heading trust h x.root x.last = g.placed x.last i in
      let q : Holding heading trust h x.last = g.holding x.last i in
      and_right (is_leaf (desc_in x.last)) (is_global (desc_in x.last))
      (ap is_global (sym (means x.last p.node p.is_at q (valid x.last i)))
      ∙ k.lower_leaves h kept p.node x.last.place q.value p.in_tree (p.is_at.kind ∙ lower) p.is_at.inside
      (held_there x.last p.node p.is_at q.value q.holds))
