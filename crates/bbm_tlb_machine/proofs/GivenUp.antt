-- Whether an entry's root was given up since a moment that is now, and after an event that gives none up.
use Rattle.bbm_rules.proofs.Common.{◌≡◌, ℕ, suc, ◌+◌, ◌≤◌, arith, Bool, true, false, ◌&&◌, ◌||◌, nat_le, List, ◌∷◌, ◌++◌, length}
use Rattle.bbm_rules.proofs.Common.{refl, ap, ◌∙◌, and-false, leb-true, length-append, any, Heading, Event, gives_up}
use Rattle.bbm_lemmas.proofs.Tests.{any_same}
use Rattle.bbm_rules.proofs.SearchLemmas.{is_none_before}
use Rattle.bbm_rules.specs.Roots.{given_up_since}
use Rattle.bbm_tlb_machine.specs.Entry.{Entry, is_given_up}
use Rattle.bbm_tlb_machine.specs.MachineRun.{Living}

-- nothing was given up since now
pub not_yet : (u : Bool) (n page : ℕ) (h : List Event) → length h ≤ n → (u && given_up_since n page h) ≡ false
not_yet true n page h le =
    is_none_before (λ e before. nat_le n (length before) && gives_up page e) h
    (λ newer e older s. too_early newer e older s (nat_le n (length older)) refl)
  where
    too_early : (newer : List Event) (e : Event) (older : List Event) → h ≡ newer ++ e ∷ older → (b : Bool) → nat_le n (length older) ≡ b
        → (b && gives_up page e) ≡ false
    too_early newer e older s true b =
        let late : n ≤ length older = leb-true n (length older) b in
        let long : length h ≡ length newer + suc (length older) = ap length s ∙ length-append newer (e ∷ older) in
        absurd (omega (arith, late, long, le))
    too_early newer e older s false b = refl
not_yet false n page h le = refl

up_before : (heading : Heading) (h : List Event) (e : Event) (x : Entry) → gives_up x.root e ≡ false
    → is_given_up heading (e ∷ h) x ≡ is_given_up heading h x
up_before heading h e x none =
    ap (λ (b : Bool). heading.words.unflushed && ((nat_le x.since (length h) && b) || given_up_since x.since x.root h)) none
    ∙ ap (λ (b : Bool). heading.words.unflushed && (b || given_up_since x.since x.root h)) (and-false (nat_le x.since (length h)))

-- a test of each entry by that
pub tested_before : (heading : Heading) (h now : List Event) (e : Event) (living : List Living) (test : Bool → Entry → Bool)
    → ((page : ℕ) → gives_up page e ≡ false) → now ≡ e ∷ h
    → any (λ (l : Living). test (is_given_up heading now l.entry) l.entry) living
    ≡ any (λ (l : Living). test (is_given_up heading h l.entry) l.entry) living
tested_before heading h now e living test none same =
    any_same (λ (l : Living). test (is_given_up heading now l.entry) l.entry)
    (λ (l : Living). test (is_given_up heading h l.entry) l.entry) living
    (λ l. ap (λ (b : Bool). test b l.entry)
    (ap (λ (es : List Event). is_given_up heading es l.entry) same ∙ up_before heading h e l.entry (none l.entry.root)))
