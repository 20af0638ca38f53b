-- What is kept of the tags that roots hold: one more of them, and one more event.
use Rattle.bbm_claims.proofs.Common.{and-false, ends_some, has, is_lost, stays_kept, Known, Holding}
use Rattle.bbm_rules.proofs.Common.{◌≡◌, ℕ, ◌<◌, ◌+◌, Bool, true, false, not, ◌&&◌, ◌||◌, ◌==◌, List, [], ◌∷◌, length}
use Rattle.bbm_rules.proofs.Common.{take, get_or, refl, sym, ◌∙◌, ap, true≢false, or_left, list_any_more, list_any}
use Rattle.bbm_rules.proofs.Common.{proved, If, Is, Claim, changes, same_tag, Listed, Tag, Heading, Event, Dsb, Reading}
use Rattle.bbm_rules.proofs.Common.{Unroot, ends, gives_up, holds_at, left_at, loses, reads, reads_for_some, readings}
use Rattle.bbm_claims.specs.Holdings.{is_holding, next_has, next_left}
use Rattle.bbm_claims.specs.declared.holdings.Loss.{Loss}
use Rattle.bbm_oracle_tags.proofs.MomentLemmas.{same-readings}
use Rattle.bbm_rules.proofs.TagLaw.{no_reading}

-- ---- one more of the tags that were held

pub keep_more : (heading : Heading) (h : List Event) (losses : List Loss) (held : List Holding) (i : ℕ) (x : Holding)
    (p root : ℕ) (tag : Tag)
    (before after : Bool) → i < length held → x ≡ get_or held i x
    → before ≡ (has (take i held) p root tag && stays_kept heading h losses p tag)
    → after ≡ (before || (has (x ∷ []) p root tag && stays_kept heading h losses p tag))
    → after ≡ (has (take (i + 1) held) p root tag && stays_kept heading h losses p tag)
keep_more heading h losses held i x p root tag before after below is is_before is_after =
    is_after
    ∙ ap (λ (b : Bool). b || (has (x ∷ []) p root tag && stays_kept heading h losses p tag)) is_before
    ∙ proved 3 (λ a b s. Is ((a && s) || ((b || false) && s)) ((a || b) && s)) refl (has (take i held) p root tag)
    (is_holding p root tag x) (stays_kept heading h losses p tag)
    ∙ ap (λ (y : Holding). (has (take i held) p root tag || is_holding p root tag y)
    && stays_kept heading h losses p tag) is
    ∙ ap (λ (b : Bool). b && stays_kept heading h losses p tag)
    (sym (list_any_more (is_holding p root tag) held i x below))

-- ---- what is readable where nothing changes it

module _ (heading : Heading) (known : Known heading) (claims : List Claim) (p root : ℕ) (tag : Tag) where
  -- what is readable is held
  read_held : (h : List Event) → reads heading h p tag root ≡ true → holds_at heading (Listed claims) p root tag h
      ≡ true
  read_held [] k =
      absurd (true≢false (sym k
      ∙ ap (λ (rs : List Reading). list_any (λ r. same_tag r.tag tag && r.root == root) rs)
      (no_reading heading.words.inorder heading.world p)))
  read_held (e ∷ h) k =
      or_left (reads heading (e ∷ h) p tag root) (holds_at heading (Listed claims) p root tag h
      && not (ends heading (Listed claims) p root tag e h)) k

  -- and is read for some root
  read_some : (rs : List Reading) → list_any (λ r. same_tag r.tag tag && r.root == root) rs ≡ true
      → list_any (λ r. same_tag r.tag tag) rs ≡ true
  read_some [] k = k
  read_some (r ∷ rs) k = by (same_tag r.tag tag) k (read_some rs)
    where
      by : (b : Bool) → ((b && r.root == root) || list_any (λ r. same_tag r.tag tag && r.root == root) rs) ≡ true
          → (list_any (λ r. same_tag r.tag tag && r.root == root) rs ≡ true → list_any (λ r. same_tag r.tag tag) rs
          ≡ true)
          → (b || list_any (λ r. same_tag r.tag tag) rs) ≡ true
      by true k rest = refl
      by false k rest = rest k

  lost_is : (e : Event) (h : List Event) → loses heading (Listed claims) p tag e h
      ≡ (ends_some heading claims p tag e h && not (reads_for_some heading (e ∷ h) p tag))
  lost_is (Dsb q dsb) h = known.tag_claim_steps.lost claims p tag q dsb h
  lost_is e h = refl

  -- what changes no roots gives none up
  none_up : (e : Event) → ((changes e).roots || (changes e).registers) ≡ false → gives_up root e ≡ false
  none_up (Unroot pe at) k = absurd (true≢false k)
  none_up e k = refl

  stays_is : (e : Event) (h : List Event) (losses : List Loss) → is_lost losses p tag ≡ ends_some heading claims p tag e h
      → stays_kept heading (e ∷ h) losses p tag ≡ not (loses heading (Listed claims) p tag e h)
  stays_is e h losses is_lost_there =
      ap (λ (b : Bool). not (b && not (reads_for_some heading (e ∷ h) p tag))) is_lost_there
      ∙ ap (λ (b : Bool). not b) (sym (lost_is e h))

  pub held_next : (e : Event) (h : List Event) (losses : List Loss) (held : List Holding)
      → has held p root tag ≡ holds_at heading (Listed claims) p root tag h
      → is_lost losses p tag ≡ ends_some heading claims p tag e h
      → next_has heading e (e ∷ h) losses held p root tag ≡ holds_at heading (Listed claims) p root tag (e ∷ h)
  held_next e h losses held is_held is_lost_there =
      let read : Bool = reads heading (e ∷ h) p tag root in
      let before : Bool = holds_at heading (Listed claims) p root tag h in
      let change : Bool = (changes e).roots || (changes e).registers in
      ap (λ (b : Bool). ((b && stays_kept heading (e ∷ h) losses p tag) && not (gives_up root e)) || (change && read)) is_held
      ∙ ap (λ (b : Bool). ((before && b) && not (gives_up root e)) || (change && read)) (stays_is e h losses is_lost_there)
      ∙ proved 5 (λ c r b l g. If (If (Is c false) (Is g false)) (If (If (Is c false) (If (Is r true) (Is b true)))
      (If (If (Is r true) (Is l false)) (Is (((b && not l) && not g) || (c && r)) (r || (b && not (g || l))))))) refl
      change read before (loses heading (Listed claims) p tag e h) (gives_up root e) (none_up e)
      (λ c r. read_held h (sym (ap (λ (rs : List Reading). list_any (λ r. same_tag r.tag tag && r.root == root) rs)
      (same-readings heading e h p c)) ∙ r))
      (λ r. lost_is e h ∙ ap (λ (b : Bool). ends_some heading claims p tag e h && not b)
      (read_some (readings heading (e ∷ h) p) r)
      ∙ and-false (ends_some heading claims p tag e h))

  pub left_next : (e : Event) (h : List Event) (losses : List Loss) (held left : List Holding)
      → has held p root tag ≡ holds_at heading (Listed claims) p root tag h
      → has left p root tag ≡ left_at heading (Listed claims) p root tag h
      → is_lost losses p tag ≡ ends_some heading claims p tag e h
      → next_left heading e (e ∷ h) losses held left p root tag ≡ left_at heading (Listed claims) p root tag (e ∷ h)
  left_next e h losses held left is_held is_left is_lost_there =
      let stays : Bool = stays_kept heading (e ∷ h) losses p tag in
      ap (λ (b : Bool). (b && stays) || (gives_up root e && (has held p root tag && stays))) is_left
      ∙ ap (λ (b : Bool). (left_at heading (Listed claims) p root tag h && stays) || (gives_up root e && (b && stays))) is_held
      ∙ ap (λ (b : Bool). (left_at heading (Listed claims) p root tag h && b)
      || (gives_up root e && (holds_at heading (Listed claims) p root tag h && b))) (stays_is e h losses is_lost_there)
      ∙ proved 4 (λ a g b s. Is ((a && s) || (g && (b && s))) ((a || (g && b)) && s)) refl
      (left_at heading (Listed claims) p root tag h) (gives_up root e) (holds_at heading (Listed claims) p root tag h)
      (not (loses heading (Listed claims) p tag e h))

  pub left_then : (e : Event) (h now : List Event) (losses asked : List Loss) (held left : List Holding) (after : Bool)
      → now ≡ e ∷ h → asked ≡ losses → has held p root tag ≡ holds_at heading (Listed claims) p root tag h
      → has left p root tag ≡ left_at heading (Listed claims) p root tag h
      → is_lost losses p tag ≡ ends_some heading claims p tag e h
      → after ≡ next_left heading e now asked held left p root tag
      → after ≡ left_at heading (Listed claims) p root tag (e ∷ h)
  left_then e h now losses asked held left after is same is_held is_left is_lost_there is_after =
      is_after
      ∙ ap (λ (xs : List Event). next_left heading e xs asked held left p root tag) is
      ∙ ap (λ (ls : List Loss). next_left heading e (e ∷ h) ls held left p root tag) same
      ∙ left_next e h losses held left is_held is_left is_lost_there

  -- the same of what is held, where the code has the lists in other words
  pub held_then : (e : Event) (h now : List Event) (losses asked : List Loss) (held : List Holding) (after : Bool)
      → now ≡ e ∷ h → asked ≡ losses → has held p root tag ≡ holds_at heading (Listed claims) p root tag h
      → is_lost losses p tag ≡ ends_some heading claims p tag e h
      → after ≡ next_has heading e now asked held p root tag
      → after ≡ holds_at heading (Listed claims) p root tag (e ∷ h)
  held_then e h now losses asked held after is same is_held is_lost_there is_after =
      is_after
      ∙ ap (λ (xs : List Event). next_has heading e xs asked held p root tag) is
      ∙ ap (λ (ls : List Loss). next_has heading e (e ∷ h) ls held p root tag) same
      ∙ held_next e h losses held is_held is_lost_there
