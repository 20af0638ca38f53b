-- An event that leaves what is readable, and takes no tag that a root holds, leaves all tags.
use Rattle.bbm_rules.proofs.Common.{◌≡◌, ◌↔◌, ℕ, ◌<◌, Bool, true, false, cond, not, ◌&&◌, ◌||◌, ◌==◌, List, [], ◌∷◌}
use Rattle.bbm_rules.proofs.Common.{◌++◌, Contains, filter_map, flat_map, refl, sym, ◌∙◌, ap, subst, true≢false}
use Rattle.bbm_rules.proofs.Common.{and_from, and_parts, eqb-true, false_from_ne_true, proved, Is, In, any_finds}
use Rattle.bbm_rules.proofs.Common.{in_left, is_none_of, to_contains, answers, same_flag, operation, Trust}
use Rattle.bbm_rules.proofs.Common.{same_tag, Patterns, any, below, Barrier, Heading, Event, Dmb, Dsb, Isb, Tlbi, Reg}
use Rattle.bbm_rules.proofs.Common.{Tag, Issued, completes, reaches, unanswered, register_values}
use Rattle.bbm_rules.proofs.Common.{Open, Reading, distinct, ever_read, holds_at}
use Rattle.bbm_rules.proofs.Common.{itself, loses, readings, reads, reads_for_some, tag_for, takes_tag}
use Rattle.bbm_tlbi_scope.specs.declared.op.TlbiOp.{TlbiOp}
use Rattle.bbm_histories.specs.HistorySteps.{answered_by, is_tlbi, tag_waits, tag_waits_after, takes}
use Rattle.bbm_alike.specs.SameTags.{AnswersNone, SameTags, TakesNone}
use Rattle.bbm_alike.proofs.Distinct.{distinct_again}
use Rattle.bbm_alike.proofs.HeldTags.{kept_at_issue, kept_is_listed, no_readings, read_is_kept}
use Rattle.bbm_alike.proofs.ReadingsAlike.{readings_alike}
use Rattle.bbm_alike.proofs.TagSteps.{WaitsStep}
use Rattle.bbm_alike.proofs.ListsAlike.{same_flat}
use Rattle.bbm_lemmas.proofs.Bools.{not_twice}
use Rattle.bbm_rules.proofs.Common.{or_left, or_right, ends, first_pages, gives_up, kept_at, left_at}
use Rattle.bbm_rules.proofs.TagEndsLaw.{held_at_once, held_complete, kept_parts}
use Rattle.bbm_rules.proofs.TagPagesLaw.{kept_listed}
use Rattle.bbm_rules.proofs.Common.{take}
use Rattle.bbm_rules.proofs.StandingLaw.{one_standing}
use Rattle.bbm_rules.specs.RegisterValues.{standings}
use Rattle.bbm_alike.specs.SameTags.{takes_of}

-- what a DSB takes away, in all patterns, by what waits
abbrev pub LostStep : Heading → Type 0
LostStep heading = (p : ℕ) (tag : Tag) (q : ℕ) (dsb : Barrier) (h : List Event)
    → loses heading Patterns p tag (Dsb q dsb) h
    ≡ (answered_by dsb (λ b. tag_waits heading p tag q b h) && not (reads_for_some heading (Dsb q dsb ∷ h) p tag))

-- ---- an event that leaves what is readable

module _ (heading : Heading) (e : Event) (h : List Event) (same : (p : ℕ) → readings heading (e ∷ h) p ≡ readings heading h p) where
  -- the tags that are readable for a root now
  abbrev read_now : ℕ → List Event → List Tag
  read_now root hs = flat_map (λ p. filter_map (tag_for root) (readings heading hs p)) (below heading.pes)

  read_before : (root : ℕ) (hs : List Event) (tag : Tag) → In (read_now root hs) tag → In (ever_read heading root hs) tag
  read_before root [] tag i = subst (λ (gs : List Tag). In gs tag) (none (below heading.pes)) i
    where
      none : (ps : List ℕ) → flat_map (λ (p : ℕ). filter_map (tag_for root) (readings heading [] p)) ps ≡ []
      none [] = refl
      none (p ∷ ps) = rw (no_readings heading p) (none ps)
  read_before root (x ∷ hs) tag i = in_left (read_now root (x ∷ hs)) (ever_read heading root hs) tag i

  same_now : (root : ℕ) → read_now root (e ∷ h) ≡ read_now root h
  same_now root =
      same_flat (λ (p : ℕ). filter_map (tag_for root) (readings heading (e ∷ h) p))
      (λ p. filter_map (tag_for root) (readings heading h p)) (below heading.pes)
      (λ p there. ap (λ (rs : List Reading). filter_map (tag_for root) rs) (same p))

  idle_tags : ((g k : Tag) → (same_tag g k ≡ true) ↔ (g ≡ k)) → (root : ℕ)
      → distinct (ever_read heading root (e ∷ h)) ≡ distinct (ever_read heading root h)
  idle_tags equal root =
      ap (λ (gs : List Tag). distinct (gs ++ ever_read heading root h)) (same_now root)
      ∙ distinct_again equal (read_now root h) (ever_read heading root h) (read_before root h)

  module _ (trust : Trust) (p page : ℕ) (tag : Tag)
      (lost : kept_at heading trust p page tag h ≡ true → loses heading trust p tag e h ≡ false) where
    same_reads : reads heading (e ∷ h) p tag page ≡ reads heading h p tag page
    same_reads = ap (λ (rs : List Reading). any (λ r. same_tag r.tag tag && r.root == page) rs) (same p)

    idle_kept : kept_at heading trust p page tag (e ∷ h) ≡ kept_at heading trust p page tag h
    idle_kept =
        ap (λ (b : Bool). b || (kept_at heading trust p page tag h && not (loses heading trust p tag e h))) same_reads
        ∙ by (reads heading h p tag page) (kept_at heading trust p page tag h) refl refl
      where
        by : (r b : Bool) → reads heading h p tag page ≡ r → kept_at heading trust p page tag h ≡ b
            → (r || (b && not (loses heading trust p tag e h))) ≡ b
        by true true r b = refl
        by true false r b = absurd (true≢false (sym (read_is_kept heading trust p page tag h r) ∙ b))
        by false true r b = ap not (lost b)
        by false false r b = refl

    -- what is held or left is kept
    held_lost : holds_at heading trust p page tag h ≡ true → loses heading trust p tag e h ≡ false
    held_lost held = lost (kept_parts heading trust p tag page h ∙ or_left (holds_at heading trust p page tag h) _ held)

    left_lost : left_at heading trust p page tag h ≡ true → loses heading trust p tag e h ≡ false
    left_lost left = lost (kept_parts heading trust p tag page h ∙ or_right (holds_at heading trust p page tag h) _ left)

    module _ (up : gives_up page e ≡ false) where
      idle_holds : holds_at heading trust p page tag (e ∷ h) ≡ holds_at heading trust p page tag h
      idle_holds =
          ap (λ (b : Bool). b || (holds_at heading trust p page tag h && not (ends heading trust p page tag e h))) same_reads
          ∙ by (reads heading h p tag page) (holds_at heading trust p page tag h) refl refl
        where
          by : (r b : Bool) → reads heading h p tag page ≡ r → holds_at heading trust p page tag h ≡ b
              → (r || (b && not (ends heading trust p page tag e h))) ≡ b
          by true true r b = refl
          by true false r b = absurd (true≢false (sym (held_complete heading trust p tag page h (held_at_once heading trust p tag page h r)) ∙ b))
          by false true r b = ap not (ap (λ (c : Bool). c || loses heading trust p tag e h) up ∙ held_lost b)
          by false false r b = refl

      idle_left : left_at heading trust p page tag (e ∷ h) ≡ left_at heading trust p page tag h
      idle_left =
          ap (λ (c : Bool). (left_at heading trust p page tag h || (c && holds_at heading trust p page tag h)) && not (loses heading trust p tag e h)) up
          ∙ by (left_at heading trust p page tag h) refl
        where
          by : (l : Bool) → left_at heading trust p page tag h ≡ l → ((l || false) && not (loses heading trust p tag e h)) ≡ l
          by true l = ap not (left_lost l)
          by false l = refl

  -- what waits to be taken away isn't readable
  waits_unread : WaitsStep heading → (p q : ℕ) (b : Bool) (tag : Tag) (hs : List Event)
      → (tag_waits heading p tag q b hs && not (reads_for_some heading hs p tag)) ≡ tag_waits heading p tag q b hs
  waits_unread waits p q b tag [] = refl
  waits_unread waits p q b tag (x ∷ hs) =
      rw (waits p tag q b x hs) (not_twice (tag_waits_after heading p tag q b x hs) (reads_for_some heading (x ∷ hs) p tag))

  idle_wait : WaitsStep heading → (p q : ℕ) (b : Bool) (tag : Tag)
      → tag_waits_after heading p tag q b e h ≡ tag_waits heading p tag q b h
      → tag_waits heading p tag q b (e ∷ h) ≡ tag_waits heading p tag q b h
  idle_wait waits p q b tag after =
      waits p tag q b e h
      ∙ (ap (λ (c : Bool). c && not (reads_for_some heading (e ∷ h) p tag)) after
      ∙ (ap (λ (c : Bool). tag_waits heading p tag q b h && not c) (ap (λ (rs : List Reading). any (λ r. same_tag r.tag tag) rs) (same p))
      ∙ waits_unread waits p q b tag h))

  -- it leaves all tags, where it takes none that is kept, gives no root up, and adds and ends no wait for one
  pub same_tags : ((g k : Tag) → (same_tag g k ≡ true) ↔ (g ≡ k)) → WaitsStep heading → (trust : Trust)
      → ((page : ℕ) → gives_up page e ≡ false)
      → ((p page : ℕ) (tag : Tag) → p < heading.pes → kept_at heading trust p page tag h ≡ true
      → loses heading trust p tag e h ≡ false)
      → ((p q page : ℕ) (b : Bool) (tag : Tag) → p < heading.pes → kept_at heading trust p page tag h ≡ true
      → tag_waits_after heading p tag q b e h ≡ tag_waits heading p tag q b h)
      → SameTags heading trust trust (e ∷ h) h
  same_tags equal waits trust up kept after = record {
    tags = idle_tags equal;
    holds = λ p root tag less. idle_holds trust p root tag (kept p root tag less) (up root);
    left = λ p page tag less. idle_left trust p page tag (kept p page tag less) (up page);
    tag_wait = λ p q page b tag less held. idle_wait waits p q b tag
        (after p q page b tag less (sym (idle_kept trust p page tag (kept p page tag less)) ∙ held));
  }

-- ---- barriers

pub standings_stay : (p : ℕ) (h : List Event)
    → ((q : ℕ) (reg : Reg) → register_values (Isb p ∷ h) q reg ≡ register_values h q reg)
    → (q : ℕ) → standings (Isb p ∷ h) q ≡ standings h q
standings_stay p h registers q = by (p == q) (registers q)
  where
    by : (c : Bool) → ((reg : Reg) → cond c (take 1 (register_values h q reg)) (register_values h q reg) ≡ register_values h q reg)
        → cond c (take 1 (standings h q)) (standings h q) ≡ standings h q
    by true all = one_standing q h all
    by false all = refl

module _ (heading : Heading) (equal : (g k : Tag) → (same_tag g k ≡ true) ↔ (g ≡ k)) (waits : WaitsStep heading) where
  pub same_after_dmb : (trust : Trust) (p : ℕ) (dsb : Barrier) (h : List Event)
      → SameTags heading trust trust (Dmb p dsb ∷ h) h
  same_after_dmb trust p dsb h =
      same_tags heading (Dmb p dsb) h (readings_alike (Dmb p dsb ∷ h) h (record { values = λ q reg. refl; standings = λ q. refl }) refl heading) equal waits trust (λ page. refl)
      (λ p root tag less held. refl) (λ p q root b tag less held. refl)

  pub same_after_isb : (trust : Trust) (p : ℕ) (h : List Event)
      → ((q : ℕ) (reg : Reg) → register_values (Isb p ∷ h) q reg ≡ register_values h q reg)
      → SameTags heading trust trust (Isb p ∷ h) h
  same_after_isb trust p h registers =
      same_tags heading (Isb p) h (readings_alike (Isb p ∷ h) h (record { values = registers; standings = standings_stay p h registers }) refl heading) equal waits trust (λ page. refl)
      (λ p root tag less held. refl) (λ p q root b tag less held. refl)

-- ---- TLBIs and DSBs

module _ (heading : Heading) (equal : (g k : Tag) → (same_tag g k ≡ true) ↔ (g ≡ k)) where
  -- an event that takes whole no tag of a declared root, or of one that was given up, takes none that is kept
  takes_none : (h : List Event) (e : Event) → TakesNone heading h e → (p page : ℕ) (tag : Tag) → p < heading.pes
      → kept_at heading Patterns p page tag h ≡ true → (reaches heading e p && takes_tag heading e h tag) ≡ false
  takes_none h e none p page tag less kept =
      false_from_ne_true (reaches heading e p && takes_tag heading e h tag) (λ taken.
      let parts = and_parts (reaches heading e p) (takes_tag heading e h tag) taken in
      let there : takes_of heading h e p page ≡ true
      = any_finds (λ (tag : Tag). takes_tag heading e h tag && kept_at heading Patterns p page tag h)
      (distinct (ever_read heading page h)) tag (kept_is_listed heading Patterns p page tag equal h less kept)
      (and_from (takes_tag heading e h tag) (kept_at heading Patterns p page tag h) parts.1 kept) in
      true≢false (sym (and_from (reaches heading e p) _ parts.0 (any_finds (takes_of heading h e p) (first_pages h) page
      (kept_listed heading Patterns p page tag h kept) there)) ∙ none p less))

  module _ (waits : WaitsStep heading) (lost : LostStep heading) where
    pub same_after_tlbi : (pe : ℕ) (op : TlbiOp) (xt : ℕ) (h : List Event)
        → TakesNone heading h (Tlbi pe op xt) → SameTags heading Patterns Patterns (Tlbi pe op xt ∷ h) h
    same_after_tlbi pe op xt h none =
        same_tags heading (Tlbi pe op xt) h
        (readings_alike (Tlbi pe op xt ∷ h) h (record { values = λ q reg. refl; standings = λ q. refl }) refl heading) equal waits Patterns (λ page. refl)
        (λ p root tag less held. refl)
        (λ p q root b tag less held. ap (λ (c : Bool). (pe == q && (is_tlbi b (Tlbi pe op xt) && c))
        || tag_waits heading p tag q b h)
        (takes_none h (Tlbi pe op xt) none p root tag less held)
        ∙ proved 3 (λ x y w. Is ((x && (y && false)) || w) w) refl (pe == q) (is_tlbi b (Tlbi pe op xt))
        (tag_waits heading p tag q b h))

    -- a DSB completes what it answers
    answered_kind : (dsb : Barrier) (b : Bool) (e : Event) → answers dsb b ≡ true → is_tlbi b e ≡ true
        → completes dsb e ≡ true
    answered_kind dsb b (Tlbi pe op xt) answered kind = by (operation op).broadcast b kind answered
      where
        by : (x b : Bool) → same_flag x b ≡ true → answers dsb b ≡ true → answers dsb x ≡ true
        by true true k a = a
        by false false k a = a
        by true false k a = absurd (true≢false (sym k))
        by false true k a = absurd (true≢false (sym k))
    answered_kind dsb b e answered kind = absurd (true≢false (sym kind))

    module _ (q : ℕ) (dsb : Barrier) (h : List Event)
        (opens : (t : Issued Event) → Contains (unanswered itself q h) t → Open itself q h t)
        (none : AnswersNone heading q dsb h) where
      -- no tag that is kept waits for the DSB
      none_waits : (p root : ℕ) (b : Bool) (tag : Tag) → p < heading.pes → kept_at heading Patterns p root tag h ≡ true
          → answers dsb b ≡ true → tag_waits heading p tag q b h ≡ false
      none_waits p root b tag less held answered =
          is_none_of (λ (t : Issued Event). is_tlbi b t.tlbi && takes heading p tag h t) (unanswered itself q h) (λ t i.
          false_from_ne_true (is_tlbi b t.tlbi && takes heading p tag h t) (λ k.
          let parts = and_parts (is_tlbi b t.tlbi) (takes heading p tag h t) k in
          let then = kept_at_issue heading Patterns p root tag q h t (opens t (to_contains (unanswered itself q h) t i)) parts.1 held in
          true≢false (sym (and_from (reaches heading t.tlbi p) (takes_tag heading t.tlbi t.before tag) then.0 then.1)
          ∙ takes_none t.before t.tlbi (none t i (answered_kind dsb b t.tlbi answered parts.0)) p root tag less then.2)))

      no_answer : (p root : ℕ) (b : Bool) (tag : Tag) → p < heading.pes → kept_at heading Patterns p root tag h ≡ true
          → (answers dsb b && tag_waits heading p tag q b h) ≡ false
      no_answer p root b tag less held = by (answers dsb b) refl
        where
          by : (c : Bool) → answers dsb b ≡ c → (c && tag_waits heading p tag q b h) ≡ false
          by true c = none_waits p root b tag less held c
          by false c = refl

      not_lost : (p root : ℕ) (tag : Tag) → p < heading.pes → kept_at heading Patterns p root tag h ≡ true
          → loses heading Patterns p tag (Dsb q dsb) h ≡ false
      not_lost p root tag less held =
          lost p tag q dsb h
          ∙ rw (no_answer p root true tag less held, no_answer p root false tag less held) refl

      still_waits : (p r root : ℕ) (b : Bool) (tag : Tag) → p < heading.pes → kept_at heading Patterns p root tag h ≡ true
          → tag_waits_after heading p tag r b (Dsb q dsb) h ≡ tag_waits heading p tag r b h
      still_waits p r root b tag less held = by (q == r && answers dsb b) refl
        where
          by : (c : Bool) → (q == r && answers dsb b) ≡ c
              → cond c false (tag_waits heading p tag r b h) ≡ tag_waits heading p tag r b h
          by true c =
              let parts = and_parts (q == r) (answers dsb b) c in
              sym (subst (λ (x : ℕ). tag_waits heading p tag x b h ≡ false) (eqb-true q r parts.0)
              (none_waits p root b tag less held parts.1))
          by false c = refl

      pub same_after_dsb : SameTags heading Patterns Patterns (Dsb q dsb ∷ h) h
      same_after_dsb =
          same_tags heading (Dsb q dsb) h (readings_alike (Dsb q dsb ∷ h) h (record { values = λ r reg. refl; standings = λ r. refl }) refl heading) equal waits Patterns (λ page. refl)
          not_lost still_waits
