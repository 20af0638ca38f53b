-- One event more, the same in two histories: the same roots hold the same tags, of which the same wait to be taken away.
use Rattle.bbm_rules.proofs.Common.{◌≡◌, ◌↔◌, ℕ, ◌<◌, Bool, true, false, cond, not, ◌&&◌, ◌||◌, ◌==◌, List, ◌∷◌, ◌++◌}
use Rattle.bbm_rules.proofs.Common.{filter_map, flat_map, refl, sym, ◌∙◌, ap, true≢false, inl, inr}
use Rattle.bbm_rules.proofs.Common.{and_parts, or_cases, proved, If, Is, answers, Trust, same_tag, below, Heading}
use Rattle.bbm_rules.proofs.Common.{Event, Dsb, Tlbi, Tag, reaches}
use Rattle.bbm_rules.proofs.Common.{roots_of, Reading, distinct, ever_read, holds_at, loses}
use Rattle.bbm_rules.proofs.Common.{readings, reads, reads_for_some, tag_for, takes_tag}
use Rattle.std.proofs.Math.Bool.{and-false}
use Rattle.bbm_histories.specs.HistorySteps.{is_tlbi, tag_waits, tag_waits_after}
use Rattle.bbm_alike.specs.Alike.{SameRegisters}
use Rattle.bbm_alike.specs.SameTags.{SameTags}
use Rattle.bbm_alike.proofs.Distinct.{distinct_append}
use Rattle.bbm_alike.proofs.PlainSteps.{registers_step, roots_step}
use Rattle.bbm_alike.proofs.ReadingsAlike.{readings_alike, reads_alike, reads_some_alike, takes_alike}
use Rattle.bbm_alike.proofs.ListsAlike.{same_flat}
use Rattle.bbm_rules.proofs.Common.{ends, gives_up, kept_at, left_at, or_left, or_right}
use Rattle.bbm_rules.specs.TagLaws.{TagKeptBySentence}
use Rattle.bbm_rules.proofs.TagLaw.{some_reading}

-- a tag that is kept after an event at which it isn't readable was kept before
pub kept_before : (heading : Heading) (trust : Trust) (p root : ℕ) (tag : Tag) (e : Event) (h : List Event)
    → kept_at heading trust p root tag (e ∷ h) ≡ true → reads_for_some heading (e ∷ h) p tag ≡ false
    → kept_at heading trust p root tag h ≡ true
kept_before heading trust p root tag e h held unread =
    elim (or_cases (reads heading (e ∷ h) p tag root)
    (kept_at heading trust p root tag h && not (loses heading trust p tag e h)) held) [
      | inl read ↦ absurd (true≢false (sym (some_reading heading (e ∷ h) p tag root read) ∙ unread))
      | inr kept ↦ (and_parts (kept_at heading trust p root tag h) (not (loses heading trust p tag e h)) kept).0
    ]

not_lost : (a b x y : Bool) → a ≡ b → (a ≡ true → x ≡ y) → (a && not x) ≡ (b && not y)
not_lost = proved 4 (λ a b x y. If (Is a b) (If (If (Is a true) (Is x y)) (Is (a && not x) (b && not y)))) refl

-- the step equation of what waits
abbrev pub WaitsStep : Heading → Type 0
WaitsStep heading = (p : ℕ) (tag : Tag) (q : ℕ) (b : Bool) (e : Event) (h : List Event)
    → tag_waits heading p tag q b (e ∷ h)
    ≡ (tag_waits_after heading p tag q b e h && not (reads_for_some heading (e ∷ h) p tag))

module _ (heading : Heading) (h h' : List Event) (e : Event) (roots : roots_of h ≡ roots_of h')
    (registers : SameRegisters h h') where
  after : SameRegisters (e ∷ h) (e ∷ h')
  after = registers_step h h' e registers

  pub readings_step : (p : ℕ) → readings heading (e ∷ h) p ≡ readings heading (e ∷ h') p
  readings_step = readings_alike (e ∷ h) (e ∷ h') after (roots_step h h' e roots) heading

  reads_step : (p : ℕ) (tag : Tag) (root : ℕ) → reads heading (e ∷ h) p tag root ≡ reads heading (e ∷ h') p tag root
  reads_step = reads_alike (e ∷ h) (e ∷ h') after (roots_step h h' e roots) heading

  some_step : (p : ℕ) (tag : Tag) → reads_for_some heading (e ∷ h) p tag ≡ reads_for_some heading (e ∷ h') p tag
  some_step = reads_some_alike (e ∷ h) (e ∷ h') after (roots_step h h' e roots) heading

  -- ---- the tags that were ever readable for a root

  pub tags_step : ((g k : Tag) → (same_tag g k ≡ true) ↔ (g ≡ k)) → (root : ℕ)
      → distinct (ever_read heading root h) ≡ distinct (ever_read heading root h')
      → distinct (ever_read heading root (e ∷ h)) ≡ distinct (ever_read heading root (e ∷ h'))
  tags_step equal root same =
      ap (λ (gs : List Tag). distinct (gs ++ ever_read heading root h))
      (same_flat (λ (p : ℕ). filter_map (tag_for root) (readings heading (e ∷ h) p))
      (λ p. filter_map (tag_for root) (readings heading (e ∷ h') p)) (below heading.pes)
      (λ p there. ap (λ (rs : List Reading). filter_map (tag_for root) rs) (readings_step p)))
      ∙ distinct_append equal (flat_map (λ (p : ℕ). filter_map (tag_for root) (readings heading (e ∷ h') p)) (below heading.pes))
      (ever_read heading root h) (ever_read heading root h') same

  -- ---- the tags that a root holds

  pub holds_step : (one other : Trust) (p root : ℕ) (tag : Tag)
      → holds_at heading one p root tag h ≡ holds_at heading other p root tag h'
      → (holds_at heading one p root tag h ≡ true → loses heading one p tag e h ≡ loses heading other p tag e h')
      → holds_at heading one p root tag (e ∷ h) ≡ holds_at heading other p root tag (e ∷ h')
  holds_step one other p root tag same lost =
      rw (
        reads_step p tag root,
        not_lost (holds_at heading one p root tag h) (holds_at heading other p root tag h')
            (ends heading one p root tag e h) (ends heading other p root tag e h') same
            (λ held. ap (λ (b : Bool). gives_up root e || b) (lost held)),
      ) refl

  pub left_step : (one other : Trust) (p page : ℕ) (tag : Tag)
      → holds_at heading one p page tag h ≡ holds_at heading other p page tag h'
      → left_at heading one p page tag h ≡ left_at heading other p page tag h'
      → ((left_at heading one p page tag h || (gives_up page e && holds_at heading one p page tag h)) ≡ true
      → loses heading one p tag e h ≡ loses heading other p tag e h')
      → left_at heading one p page tag (e ∷ h) ≡ left_at heading other p page tag (e ∷ h')
  left_step one other p page tag holds left lost =
      not_lost (left_at heading one p page tag h || (gives_up page e && holds_at heading one p page tag h))
      (left_at heading other p page tag h' || (gives_up page e && holds_at heading other p page tag h'))
      (loses heading one p tag e h) (loses heading other p tag e h')
      (ap (λ (b : Bool). b || (gives_up page e && holds_at heading one p page tag h)) left
      ∙ ap (λ (b : Bool). left_at heading other p page tag h' || (gives_up page e && b)) holds) lost

  -- ---- the TLBIs that wait to take a tag away

  after_alike : (x : Event) (p q : ℕ) (b : Bool) (tag : Tag) → tag_waits heading p tag q b h ≡ tag_waits heading p tag q b h'
      → tag_waits_after heading p tag q b x h ≡ tag_waits_after heading p tag q b x h'
  after_alike (Tlbi pe op xt) p q b tag same =
      ap (λ (c : Bool). (pe == q && (is_tlbi b (Tlbi pe op xt) && (reaches heading (Tlbi pe op xt) p && c)))
      || tag_waits heading p tag q b h) (takes_alike h h' registers heading (Tlbi pe op xt) tag)
      ∙ ap (λ (c : Bool). (pe == q && (is_tlbi b (Tlbi pe op xt)
      && (reaches heading (Tlbi pe op xt) p && takes_tag heading (Tlbi pe op xt) h' tag))) || c) same
  after_alike (Dsb pe dsb) p q b tag same = ap (λ (c : Bool). cond (pe == q && answers dsb b) false c) same
  after_alike x p q b tag same = same

  pub wait_step : WaitsStep heading → (one : Trust) (p q root : ℕ) (b : Bool) (tag : Tag)
      → kept_at heading one p root tag (e ∷ h) ≡ true
      → (kept_at heading one p root tag h ≡ true → tag_waits heading p tag q b h ≡ tag_waits heading p tag q b h')
      → tag_waits heading p tag q b (e ∷ h) ≡ tag_waits heading p tag q b (e ∷ h')
  wait_step waits one p q root b tag held same =
      waits p tag q b e h
      ∙ (by (reads_for_some heading (e ∷ h) p tag) refl
      ∙ (ap (λ (c : Bool). tag_waits_after heading p tag q b e h' && not c) (some_step p tag)
      ∙ sym (waits p tag q b e h')))
    where
      by : (c : Bool) → reads_for_some heading (e ∷ h) p tag ≡ c
          → (tag_waits_after heading p tag q b e h && not (reads_for_some heading (e ∷ h) p tag))
          ≡ (tag_waits_after heading p tag q b e h' && not (reads_for_some heading (e ∷ h) p tag))
      by true is = rw is (and-false (tag_waits_after heading p tag q b e h)
          ∙ sym (and-false (tag_waits_after heading p tag q b e h')))
      by false is =
          ap (λ (c : Bool). c && not (reads_for_some heading (e ∷ h) p tag)) (after_alike e p q b tag (same
          (kept_before heading one p root tag e h held is)))

-- ---- all together

module _ (heading : Heading) (equal : (g k : Tag) → (same_tag g k ≡ true) ↔ (g ≡ k)) (waits : WaitsStep heading)
    (h h' : List Event) (e : Event) (roots : roots_of h ≡ roots_of h')
    (registers : SameRegisters h h') where
  -- where the event takes the same tags away of those that are kept
  pub same_tags_step : (one other : Trust) → TagKeptBySentence heading one
      → ((p page : ℕ) (tag : Tag) → p < heading.pes → kept_at heading one p page tag h ≡ true
      → loses heading one p tag e h ≡ loses heading other p tag e h')
      → SameTags heading one other h h' → SameTags heading one other (e ∷ h) (e ∷ h')
  same_tags_step one other kept lost same = record {
    tags = λ root. tags_step heading h h' e roots registers equal root (same.tags root);
    holds = λ p root tag less.
        holds_step heading h h' e roots registers one other p root tag (same.holds p root tag less)
        (λ held. lost p root tag less (kept.parts p root tag h ∙ or_left (holds_at heading one p root tag h) _ held));
    left = λ p page tag less.
        left_step heading h h' e roots registers one other p page tag (same.holds p page tag less) (same.left p page tag less)
        (λ l. lost p page tag less (kept.parts p page tag h ∙ kept_by p page tag l));
    tag_wait = λ p q page b tag less held.
        wait_step heading h h' e roots registers waits one p q page b tag held (same.tag_wait p q page b tag less);
  }
    where
      kept_by : (p page : ℕ) (tag : Tag) → (left_at heading one p page tag h || (gives_up page e && holds_at heading one p page tag h)) ≡ true
          → (holds_at heading one p page tag h || left_at heading one p page tag h) ≡ true
      kept_by p page tag l =
          elim (or_cases (left_at heading one p page tag h) (gives_up page e && holds_at heading one p page tag h) l) [
            | inl left ↦ or_right (holds_at heading one p page tag h) _ left
            | inr up ↦ or_left (holds_at heading one p page tag h) _ (and_parts (gives_up page e) (holds_at heading one p page tag h) up).1
          ]
