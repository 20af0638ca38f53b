-- The tags that a declared root holds at a PE, and those that one which was given up left there, are those that the
-- sentences name.
use Rattle.bbm_rules.proofs.Common.{◌≡◌, ℕ, ◌≤◌, Bool, true, false, not, ◌&&◌, ◌||◌, List, [], ◌∷◌, ◌++◌, length}
use Rattle.bbm_rules.proofs.Common.{refl, sym, ◌∙◌, ap, subst, inl, inr, true≢false, or_cases, or_left, or_right}
use Rattle.bbm_rules.proofs.Common.{and_parts, and_from, not-true, not_from_false, eqb-true, Trust, Issued, TakenAway}
use Rattle.bbm_rules.proofs.Common.{ends, gives_up, holds_at, kept_at, left_at, loses, reads}
use Rattle.bbm_lemmas.proofs.Words.{same_number}
use Rattle.bbm_regimes.specs.declared.regime.Tag.{Tag}
use Rattle.bbm_events.specs.Heading.{Heading}
use Rattle.bbm_events.specs.declared.event.Event.{Event}
use Rattle.bbm_events.specs.declared.event.Event.TheVariants.{Unroot}
use Rattle.bbm_lemmas.proofs.Bools.{first_none, second_none}
use Rattle.bbm_rules.proofs.TagLaw.{at_once, at_once_newer, kept_complete, longer, longer_newer}
use Rattle.bbm_rules.proofs.TagLaw.{not_at_start, not_lost}
use Rattle.bbm_rules.proofs.Common.{In, given_up, with_has, with_keeps}
use Rattle.bbm_rules.specs.Sentences.{HoldsTag, LeftTag}

-- one event more, of Booleans
split_on : (r g l holds left : Bool) → (r || ((holds || left) && not l))
    ≡ ((r || (holds && not (g || l))) || ((left || (g && holds)) && not l))
split_on true g l holds left = refl
split_on false true true true true = refl
split_on false true true true false = refl
split_on false true true false true = refl
split_on false true true false false = refl
split_on false true false true true = refl
split_on false true false true false = refl
split_on false true false false true = refl
split_on false true false false false = refl
split_on false false true true true = refl
split_on false false true true false = refl
split_on false false true false true = refl
split_on false false true false false = refl
split_on false false false true true = refl
split_on false false false true false = refl
split_on false false false false true = refl
split_on false false false false false = refl

pub gives_up_is : (page : ℕ) (e : Event) → gives_up page e ≡ true → (q : ℕ) × (e ≡ Unroot q page)
gives_up_is page (Unroot pe at) k = (pe, ap (Unroot pe) (eqb-true at page k))
gives_up_is page e k = absurd (true≢false (sym k))

given_up_on : (e : Event) (h : List Event) (page : ℕ) → In (given_up h) page → In (given_up (e ∷ h)) page
given_up_on (Unroot pe at) h page i = with_keeps at (given_up h) page i
given_up_on e h page i = i

module _ (heading : Heading) (trust : Trust) (p : ℕ) (tag : Tag) (page : ℕ) where
  pub kept_parts : (h : List Event) → kept_at heading trust p page tag h
      ≡ (holds_at heading trust p page tag h || left_at heading trust p page tag h)
  kept_parts [] = refl
  kept_parts (e ∷ h) =
      ap (λ (k : Bool). reads heading (e ∷ h) p tag page || (k && not (loses heading trust p tag e h))) (kept_parts h)
      ∙ split_on (reads heading (e ∷ h) p tag page) (gives_up page e) (loses heading trust p tag e h)
      (holds_at heading trust p page tag h) (left_at heading trust p page tag h)

  -- ---- held

  never : (q : ℕ) (after before : List Event) → [] ≡ after ++ Unroot q page ∷ before → ⊥
  never q [] before s = cc
  never q (x ∷ after) before s = cc

  pub held_at_once : (h : List Event) → reads heading h p tag page ≡ true → HoldsTag heading trust p page tag h
  held_at_once h read = record {
    kept = at_once heading trust p tag page h read;
    not_given_up = λ q after before s. never q after before (sym (at_once_newer heading trust p tag page h read) ∙ s);
  }

  still_up : (e : Event) (newer : List Event) → gives_up page e ≡ false
      → ((q : ℕ) (after before : List Event) → newer ≡ after ++ Unroot q page ∷ before → ⊥)
      → (q : ℕ) (after before : List Event) → e ∷ newer ≡ after ++ Unroot q page ∷ before → ⊥
  still_up e newer up not_before q [] before s =
      let first : e ≡ Unroot q page = cc in
      true≢false (sym (same_number page) ∙ (sym (ap (gives_up page) first) ∙ up))
  still_up e newer up not_before q (x ∷ after) before s =
      let rest : newer ≡ after ++ Unroot q page ∷ before = cc in not_before q after before rest

  held_longer : (e : Event) (h : List Event) → ends heading trust p page tag e h ≡ false
      → HoldsTag heading trust p page tag h → HoldsTag heading trust p page tag (e ∷ h)
  held_longer e h stays k = record {
    kept = longer heading trust p tag page e h (second_none (gives_up page e) (loses heading trust p tag e h) stays) k.kept;
    not_given_up = λ q after before s.
        still_up e k.kept.newer (first_none (gives_up page e) (loses heading trust p tag e h) stays) k.not_given_up q after before
        (sym (longer_newer heading trust p tag page e h (second_none (gives_up page e) (loses heading trust p tag e h) stays) k.kept) ∙ s);
  }

  pub held_sound : (h : List Event) → holds_at heading trust p page tag h ≡ true → HoldsTag heading trust p page tag h
  held_sound [] k = absurd (true≢false (sym k))
  held_sound (e ∷ h) k =
      elim (or_cases (reads heading (e ∷ h) p tag page)
      (holds_at heading trust p page tag h && not (ends heading trust p page tag e h)) k) [
        | inl now ↦ held_at_once (e ∷ h) now
        | inr before ↦
            let r = and_parts (holds_at heading trust p page tag h) (not (ends heading trust p page tag e h)) before in
            held_longer e h (not-true (ends heading trust p page tag e h) r.1) (held_sound h r.0)
      ]

  later_taken : (e : Event) (h : List Event) (t : Issued Event) → TakenAway heading trust p tag h t
      → TakenAway heading trust p tag (e ∷ h) t
  later_taken e h t k = record {
    q = k.q;
    dsb = k.dsb;
    later = e ∷ k.later;
    earlier = k.earlier;
    split = ap (λ es. e ∷ es) k.split;
    is_open = k.is_open;
    answered = k.answered;
    reached = k.reached;
    whole = k.whole;
    unread = k.unread;
    allowed = k.allowed;
  }

  -- what isn't taken away is neither so an event before
  abbrev NotTaken : List Event → List Event → Type 0
  NotTaken older h = (t : Issued Event) → TakenAway heading trust p tag h t → length older ≤ length t.before → ⊥

  held_from : (newer older : List Event) → reads heading older p tag page ≡ true → NotTaken older (newer ++ older)
      → ((q : ℕ) (after before : List Event) → newer ≡ after ++ Unroot q page ∷ before → ⊥)
      → holds_at heading trust p page tag (newer ++ older) ≡ true
  held_from [] [] read none up = absurd (not_at_start heading p page tag read)
  held_from [] (e ∷ h) read none up =
      or_left (reads heading (e ∷ h) p tag page)
      (holds_at heading trust p page tag h && not (ends heading trust p page tag e h)) read
  held_from (e ∷ newer) older read none up =
      or_right (reads heading (e ∷ newer ++ older) p tag page)
      (holds_at heading trust p page tag (newer ++ older) && not (ends heading trust p page tag e (newer ++ older)))
      (and_from (holds_at heading trust p page tag (newer ++ older)) (not (ends heading trust p page tag e (newer ++ older)))
      (held_from newer older read (λ t k old. none t (later_taken e (newer ++ older) t k) old)
      (λ q after before s. up q (e ∷ after) before (ap (λ es. e ∷ es) s)))
      (not_from_false (ends heading trust p page tag e (newer ++ older)) (by (gives_up page e) refl)))
    where
      by : (g : Bool) → gives_up page e ≡ g → ends heading trust p page tag e (newer ++ older) ≡ false
      by true g =
          let is = gives_up_is page e g in absurd (up is.0 [] newer (ap (λ (x : Event). x ∷ newer) is.1))
      by false g =
          ap (λ (b : Bool). b || loses heading trust p tag e (newer ++ older)) g
          ∙ not_lost heading trust p tag page e newer older read none

  pub held_complete : (h : List Event) → HoldsTag heading trust p page tag h → holds_at heading trust p page tag h ≡ true
  held_complete h k =
      subst (λ (es : List Event). holds_at heading trust p page tag es ≡ true) (sym k.kept.split)
      (held_from k.kept.newer k.kept.older k.kept.read
      (λ t taken old. k.kept.not_taken t (subst (λ (es : List Event). TakenAway heading trust p tag es t) (sym k.kept.split) taken) old)
      k.not_given_up)

  -- ---- left

  pub left_sound : (h : List Event) → left_at heading trust p page tag h ≡ true → LeftTag heading trust p page tag h
  left_sound [] k = absurd (true≢false (sym k))
  left_sound (e ∷ h) k =
      let r = and_parts (left_at heading trust p page tag h || (gives_up page e && holds_at heading trust p page tag h))
      (not (loses heading trust p tag e h)) k in
      let stays : loses heading trust p tag e h ≡ false = not-true (loses heading trust p tag e h) r.1 in
      elim (or_cases (left_at heading trust p page tag h) (gives_up page e && holds_at heading trust p page tag h) r.0) [
        | inl before ↦
            let l = left_sound h before in
            record {
              kept = longer heading trust p tag page e h stays l.kept;
              q = l.q;
              after = e ∷ l.after;
              before = l.before;
              given_up = longer_newer heading trust p tag page e h stays l.kept ∙ ap (λ es. e ∷ es) l.given_up;
            }
        | inr now ↦
            let both = and_parts (gives_up page e) (holds_at heading trust p page tag h) now in
            let is = gives_up_is page e both.0 in
            let held = held_sound h both.1 in
            record {
              kept = longer heading trust p tag page e h stays held.kept;
              q = is.0;
              after = [];
              before = held.kept.newer;
              given_up = longer_newer heading trust p tag page e h stays held.kept ∙ ap (λ (x : Event). x ∷ held.kept.newer) is.1;
            }
      ]

  left_from : (newer older : List Event) → reads heading older p tag page ≡ true → NotTaken older (newer ++ older)
      → (q : ℕ) (after before : List Event) → newer ≡ after ++ Unroot q page ∷ before
      → left_at heading trust p page tag (newer ++ older) ≡ true
  left_from [] older read none q after before s = absurd (never q after before s)
  left_from (e ∷ newer) older read none q after before s =
      and_from (left_at heading trust p page tag (newer ++ older) || (gives_up page e && holds_at heading trust p page tag (newer ++ older)))
      (not (loses heading trust p tag e (newer ++ older)))
      (by after s (λ rest_none rest t. left_from newer older read rest_none q rest before t))
      (not_from_false (loses heading trust p tag e (newer ++ older)) (not_lost heading trust p tag page e newer older read none))
    where
      none_before : NotTaken older (newer ++ older)
      none_before t k old = none t (later_taken e (newer ++ older) t k) old

      by : (after : List Event) → e ∷ newer ≡ after ++ Unroot q page ∷ before
          → (NotTaken older (newer ++ older) → (rest : List Event) → newer ≡ rest ++ Unroot q page ∷ before
          → left_at heading trust p page tag (newer ++ older) ≡ true)
          → (left_at heading trust p page tag (newer ++ older) || (gives_up page e && holds_at heading trust p page tag (newer ++ older))) ≡ true
      by [] s further =
          let first : e ≡ Unroot q page = cc in
          let up : gives_up page e ≡ true = ap (gives_up page) first ∙ same_number page in
          let kept : kept_at heading trust p page tag (newer ++ older) ≡ true
          = kept_complete heading trust p page tag (newer ++ older)
          (record { newer = newer; older = older; split = refl; read = read; not_taken = none_before }) in
          elim (or_cases (holds_at heading trust p page tag (newer ++ older)) (left_at heading trust p page tag (newer ++ older))
          (sym (kept_parts (newer ++ older)) ∙ kept)) [
            | inl holds ↦ or_right (left_at heading trust p page tag (newer ++ older)) _ (and_from (gives_up page e) _ up holds)
            | inr left ↦ or_left (left_at heading trust p page tag (newer ++ older)) _ left
          ]
      by (x ∷ after) s further =
          let rest : newer ≡ after ++ Unroot q page ∷ before = cc in
          or_left (left_at heading trust p page tag (newer ++ older)) _ (further none_before after rest)

  pub left_complete : (h : List Event) → LeftTag heading trust p page tag h → left_at heading trust p page tag h ≡ true
  left_complete h k =
      subst (λ (es : List Event). left_at heading trust p page tag es ≡ true) (sym k.kept.split)
      (left_from k.kept.newer k.kept.older k.kept.read
      (λ t taken old. k.kept.not_taken t (subst (λ (es : List Event). TakenAway heading trust p tag es t) (sym k.kept.split) taken) old)
      k.q k.after k.before k.given_up)

  -- so the page is one whose root was given up
  pub left_in_given_up : (h : List Event) → left_at heading trust p page tag h ≡ true → In (given_up h) page
  left_in_given_up [] k = absurd (true≢false (sym k))
  left_in_given_up (e ∷ h) k =
      let r = and_parts (left_at heading trust p page tag h || (gives_up page e && holds_at heading trust p page tag h))
      (not (loses heading trust p tag e h)) k in
      elim (or_cases (left_at heading trust p page tag h) (gives_up page e && holds_at heading trust p page tag h) r.0) [
        | inl before ↦ given_up_on e h page (left_in_given_up h before)
        | inr now ↦
            let is = gives_up_is page e (and_parts (gives_up page e) (holds_at heading trust p page tag h) now).0 in
            subst (λ (x : Event). In (given_up (x ∷ h)) page) (sym is.1) (with_has page (given_up h))
      ]
