-- An event keeps the answer of each definition that its row of the table doesn't name.
use Rattle.bbm_rules.proofs.Common.{◌≡◌, ℕ, Bool, true, false, ◌&&◌, ◌||◌, List, ◌∷◌, Option, refl, ap, ◌∙◌, true≢false}
use Rattle.bbm_rules.proofs.Common.{Reg, Heading, Event, Init, Null, Root, Unroot, Write, Dsb, Isb, Tlbi, Msr, Lock}
use Rattle.bbm_rules.proofs.Common.{Unlock, changes, Trust, answered_where, answers_one, cleansed, full_step, half}
use Rattle.bbm_rules.proofs.Common.{publishes_write, second_step, seen, ValidWrite, last_valid, last_valid_after, later}
use Rattle.bbm_rules.proofs.Common.{holder_of, Noted, initialised, is_null, may_be_fresh, Issued, unanswered}
use Rattle.bbm_rules.proofs.Common.{register_values, given_up, roots_of, itself, published, value_of, written_places}
use Rattle.bbm_rules.specs.Prelude.{Kind}

pub values_kept : (e : Event) (h : List Event) (place : ℕ) → (changes e).values ≡ false → value_of (e ∷ h) place ≡ value_of h place
values_kept (Init pe page) h place k = absurd (true≢false k)
values_kept (Write pe at value) h place k = absurd (true≢false k)
values_kept e h place k = refl

pub written_kept : (e : Event) (h : List Event) → (changes e).values ≡ false → written_places (e ∷ h) ≡ written_places h
written_kept (Write pe at value) h k = absurd (true≢false k)
written_kept e h k = refl

pub published_kept : (heading : Heading) (q p : ℕ) (e : Event) (later : List Event) → (changes e).publications ≡ false
    → published heading q p (e ∷ later) ≡ published heading q p later
published_kept heading q p (Dsb pe dsb) later k = absurd (true≢false k)
published_kept heading q p e later k = refl

pub inits_kept : (e : Event) (h : List Event) → (changes e).inits ≡ false → initialised (e ∷ h) ≡ initialised h
inits_kept (Init pe page) h k = absurd (true≢false k)
inits_kept e h k = refl

pub nulls_kept : (e : Event) (h : List Event) (page : ℕ) → (changes e).nulls ≡ false → is_null (e ∷ h) page ≡ is_null h page
nulls_kept (Null pe at) h page k = absurd (true≢false k)
nulls_kept e h page k = refl

pub roots_kept : (e : Event) (h : List Event) → (changes e).roots ≡ false → roots_of (e ∷ h) ≡ roots_of h
roots_kept (Root pe kind lock page) h k = absurd (true≢false k)
roots_kept (Unroot pe page) h k = absurd (true≢false k)
roots_kept e h k = refl

pub given_kept : (e : Event) (h : List Event) → (changes e).roots ≡ false → given_up (e ∷ h) ≡ given_up h
given_kept (Unroot pe page) h k = absurd (true≢false k)
given_kept e h k = refl

pub registers_kept : (e : Event) (h : List Event) (p : ℕ) (reg : Reg) → (changes e).registers ≡ false
    → register_values (e ∷ h) p reg ≡ register_values h p reg
registers_kept (Isb pe) h p reg k = absurd (true≢false k)
registers_kept (Msr pe r value) h p reg k = absurd (true≢false k)
registers_kept e h p reg k = refl

pub flushes_kept : (e : Event) (h : List Event) (q : ℕ) → (changes e).flushes ≡ false
    → unanswered itself q (e ∷ h) ≡ unanswered itself q h
flushes_kept (Dsb pe dsb) h q k = absurd (true≢false k)
flushes_kept (Tlbi pe op xt) h q k = absurd (true≢false k)
flushes_kept e h q k = refl

pub locks_kept : (e : Event) (h : List Event) (lock : ℕ) → (changes e).locks ≡ false → holder_of (e ∷ h) lock ≡ holder_of h lock
locks_kept (Lock pe number) h lock k = absurd (true≢false k)
locks_kept (Unlock pe number) h lock k = absurd (true≢false k)
locks_kept e h lock k = refl

valid_after_kept : (kind : Kind) (level place : ℕ) (e : Event) (n : Noted) (found : Option ValidWrite)
    → (changes e).values ≡ false → last_valid_after kind level place e n found ≡ later n found
valid_after_kept kind level place (Init pe page) n found k = absurd (true≢false k)
valid_after_kept kind level place (Write pe at value) n found k = absurd (true≢false k)
valid_after_kept kind level place e n found k = refl

pub valid_kept : (n : Noted) (h : List Noted) (kind : Kind) (level place : ℕ) → (changes n.event).values ≡ false
    → last_valid kind level place (n ∷ h) ≡ later n (last_valid kind level place h)
valid_kept n h kind level place k = valid_after_kept kind level place n.event n (last_valid kind level place h) k

pub fresh_kept : (e : Event) (page : ℕ) (before : Bool) → (changes e).inits ≡ false → (changes e).nulls ≡ false
    → may_be_fresh e page before ≡ before
fresh_kept (Init pe at) page before k l = absurd (true≢false k)
fresh_kept (Null pe at) page before k l = absurd (true≢false l)
fresh_kept e page before k l = refl

publishes_none : (heading : Heading) (place p : ℕ) (e : Event) (older : List Noted) → (changes e).publications ≡ false
    → publishes_write heading place p e older ≡ false
publishes_none heading place p (Dsb q dsb) older k = absurd (true≢false k)
publishes_none heading place p e older k = refl

pub seen_kept : (heading : Heading) (place p : ℕ) (n : Noted) (since : List Noted) → (changes n.event).publications ≡ false
    → seen heading place p (n ∷ since) ≡ seen heading place p since
seen_kept heading place p n since k =
    ap (λ (b : Bool). (b && true) || seen heading place p since) (publishes_none heading place p n.event since k)

answers_none : (test : Issued Noted → Bool) (e : Event) (older : List Noted) → (changes e).flushes ≡ false
    → answers_one test e older ≡ false
answers_none test (Dsb q dsb) older k = absurd (true≢false k)
answers_none test e older k = refl

answered_kept : (test : ℕ → Issued Noted → Bool) (n : Noted) (since : List Noted) → (changes n.event).flushes ≡ false
    → answered_where test (n ∷ since) ≡ answered_where test since
answered_kept test n since k =
    ap (λ (b : Bool). b || answered_where test since) (answers_none (test n.position) n.event since k)

pub half_kept : (heading : Heading) (place p : ℕ) (n : Noted) (since : List Noted) → (changes n.event).flushes ≡ false
    → half heading place p (n ∷ since) ≡ half heading place p since
half_kept heading place p n since k = answered_kept _ n since k

pub cleansed_kept : (heading : Heading) (trust : Trust) (place p : ℕ) (n : Noted) (since : List Noted)
    → (changes n.event).flushes ≡ false
    → cleansed heading trust place p (n ∷ since) ≡ cleansed heading trust place p since
cleansed_kept heading trust place p n since k =
    ap (λ (b : Bool). b || answered_where (second_step heading trust place p) (n ∷ since))
    (answered_kept (full_step heading trust place p) n since k)
    ∙ ap (λ (b : Bool). answered_where (full_step heading trust place p) since || b)
    (answered_kept (second_step heading trust place p) n since k)
