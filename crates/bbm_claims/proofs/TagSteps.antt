-- A tag that is held, after one more event; the register writes behind the events that a history has taken.
use Rattle.bbm_claims.proofs.Common.{or_comm}
use Rattle.bbm_rules.proofs.Common.{◌≡◌, ℕ, zero, suc, ◌+◌, ◌-◌, ◌<◌, ◌≤◌, Bool, false, not, ◌&&◌, ◌||◌, List, [], ◌∷◌}
use Rattle.bbm_rules.proofs.Common.{◌++◌, length, take, get_or, reverse, refl, sym, ◌∙◌, ap, arith, length-append}
use Rattle.bbm_rules.proofs.Common.{length-reverse, reverse-append, reverse-reverse, take_more, Trust, Tag, Heading}
use Rattle.bbm_rules.proofs.Common.{Event, Msr, ends, holds_at, left_at, reads, and-true, or-false}
use Rattle.std.proofs.lemmas.List.{get_or-reverse, get_or_append_left}
use Rattle.std.proofs.Math.Seq.{take-append_seam}
use Rattle.bbm_claims.specs.Takings.{AreWrites}

-- one more event of a list that is read from its end
pub next : {X : Type 0} (xs : List X) (i : ℕ) (x : X) → i < length xs
    → reverse (take (i + 1) xs) ≡ get_or xs i x ∷ reverse (take i xs)
next {X} xs i x below =
    ap (λ (ys : List X). reverse ys) (take_more xs i x below) ∙ reverse-append (take i xs) (get_or xs i x ∷ [])

-- ---- register writes behind the events that were taken

-- the event at an index behind them
write_at : (newer : List Event) (j : ℕ) (d : Event) → AreWrites newer → j < length newer
    → (heading : Heading) (trust : Trust) (p root : ℕ) (tag : Tag) (h : List Event)
    → ends heading trust p root tag (get_or newer j d) h ≡ false
write_at [] j d writes below heading trust p root tag h = absurd (omega arith)
write_at (Msr pe reg value ∷ newer) zero d writes below heading trust p root tag h = refl
write_at (Msr pe reg value ∷ newer) (suc j) d writes below heading trust p root tag h =
    write_at newer j d writes (omega (arith, below)) heading trust p root tag h
write_at (e ∷ newer) j d writes below heading trust p root tag h = absurd writes

module _ (heading : Heading) (trust : Trust) (p root : ℕ) (tag : Tag) (events newer older : List Event) (i : ℕ)
    (d : Event)
    (is : reverse events ≡ newer ++ older) (writes : AreWrites newer) (behind : length older ≤ i)
    (below : i < length events) where
  kept_behind : (h : List Event) → ends heading trust p root tag (get_or events i d) h ≡ false
  kept_behind h =
      let count : length events ≡ length newer + length older
      = sym (length-reverse events) ∙ ap length is ∙ length-append newer older in
      let j : ℕ = length (reverse events) - 1 - i in
      let within : j < length newer = omega (arith, length-reverse events, count, below, behind) in
      let at : get_or events i d ≡ get_or newer j d
      = ap (λ (xs : List Event). get_or xs i d) (sym (reverse-reverse events))
      ∙ get_or-reverse (reverse events) i d (omega (arith, length-reverse events, below))
      ∙ ap (λ (xs : List Event). get_or xs j d) is ∙ get_or_append_left newer older d j within in
      ap (λ (e : Event). ends heading trust p root tag e h) at ∙ write_at newer j d writes within heading trust p root tag h

  pub holds_more : (before after : Bool)
      → before ≡ holds_at heading trust p root tag (reverse (take i events))
      → after ≡ (before || reads heading (reverse (take (i + 1) events)) p tag root)
      → after ≡ holds_at heading trust p root tag (reverse (take (i + 1) events))
  holds_more before after is_before is_after =
      let e : Event = get_or events i d in
      let h : List Event = reverse (take i events) in
      let now : reverse (take (i + 1) events) ≡ e ∷ h = next events i d below in
      is_after
      ∙ ap (λ (b : Bool). b || reads heading (reverse (take (i + 1) events)) p tag root) is_before
      ∙ ap (λ (xs : List Event). holds_at heading trust p root tag h || reads heading xs p tag root) now
      ∙ or_comm (holds_at heading trust p root tag h) (reads heading (e ∷ h) p tag root)
      ∙ ap (λ (b : Bool). reads heading (e ∷ h) p tag root || b) (sym (and-true (holds_at heading trust p root tag h)))
      ∙ ap (λ (b : Bool). reads heading (e ∷ h) p tag root || (holds_at heading trust p root tag h && not b))
      (sym (kept_behind h))
      ∙ ap (λ (xs : List Event). holds_at heading trust p root tag xs) (sym now)

-- a register write leaves what was left
pub left_behind : (heading : Heading) (trust : Trust) (p page : ℕ) (tag : Tag) (newer older : List Event) → AreWrites newer
    → left_at heading trust p page tag older ≡ left_at heading trust p page tag (newer ++ older)
left_behind heading trust p page tag [] older writes = refl
left_behind heading trust p page tag (Msr pe reg value ∷ newer) older writes =
    left_behind heading trust p page tag newer older writes
    ∙ sym (and-true _ ∙ or-false (left_at heading trust p page tag (newer ++ older)))
left_behind heading trust p page tag (e ∷ newer) older writes = absurd writes

-- the older of some events, from the list that has the oldest first
pub first_of : (events newer older : List Event) (n : ℕ) → reverse events ≡ newer ++ older → n ≡ length older
    → reverse (take n events) ≡ older
first_of events newer older n is count =
    let whole : events ≡ reverse older ++ reverse newer
    = sym (reverse-reverse events) ∙ ap (λ (h : List Event). reverse h) is ∙ reverse-append newer older in
    ap (λ (m : ℕ). reverse (take m events)) (count ∙ sym (length-reverse older))
    ∙ ap (λ (xs : List Event). reverse (take (length (reverse older)) xs)) whole
    ∙ ap (λ (xs : List Event). reverse xs) (take-append_seam (reverse older) (reverse newer))
    ∙ reverse-reverse older
