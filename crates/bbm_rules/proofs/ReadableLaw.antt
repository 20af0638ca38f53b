-- The readable values of a place are those that the sentence names.
use Rattle.bbm_rules.proofs.Common.{◌≡◌, ℕ, Bool, true, false, cond, ◌||◌, ◌==◌, List, [], ◌∷◌, ◌++◌, refl, sym, ◌∙◌}
use Rattle.bbm_rules.proofs.Common.{ap, subst, inl, inr, true≢false, and_from, and_parts, eqb-true, or_cases, or_left}
use Rattle.bbm_rules.proofs.Common.{or_right, proved, If, Is, Barrier, Heading, Event, Init, Write, Dsb, In, any_finds}
use Rattle.bbm_rules.proofs.Common.{any_found, in_split, among, page_of, value_of, published, publishes_to}
use Rattle.bbm_rules.proofs.Common.{readable_before, is_readable}
use Rattle.bbm_lemmas.proofs.Words.{same_number}
use Rattle.bbm_lemmas.proofs.Elements.{split_in}
use Rattle.bbm_rules.proofs.OpenLaw.{head_of, tail_of}
use Rattle.bbm_rules.specs.Values.{publishes_for}
use Rattle.bbm_rules.specs.Sentences.{Published, Readable}

-- the event is an init of the page, or a write of the place
abbrev inits : ℕ → Event → Bool
inits page (Init q at) = at == page
inits page _ = false

abbrev stores : ℕ → Event → Bool
stores place (Write q at value) = at == place
stores place _ = false

same_head : (e x : Event) (es xs : List Event) → e ∷ es ≡ x ∷ xs → e ≡ x
same_head e x es xs k = ap (head_of e) k

same_tail : (e x : Event) (es xs : List Event) → e ∷ es ≡ x ∷ xs → es ≡ xs
same_tail e x es xs k = ap tail_of k

false_true : {A : Type 0} (b : Bool) → b ≡ false → b ≡ true → A
false_true b f t = absurd (true≢false (sym t ∙ f))

-- the sentence with the events after h apart
record Before (heading : Heading) (later h : List Event) (place p value : ℕ) : Type 0 where
  newer : List Event
  older : List Event
  split : h ≡ newer ++ older
  had : value_of older place ≡ value
  no_init : (q : ℕ) (after before : List Event) → newer ≡ after ++ Init q (page_of place) ∷ before → ⊥
  unreplaced : (q w : ℕ) (after before : List Event) → newer ≡ after ++ Write q place w ∷ before
      → (published heading q p after || published heading q p later) ≡ false

-- nothing newer
here : (heading : Heading) (later h : List Event) (place p value : ℕ) → value_of h place ≡ value → Before heading later h place p value
here heading later h place p value had = record {
  newer = [];
  older = h;
  split = refl;
  had = had;
  no_init = λ q after before k. none after (Init q (page_of place)) before k;
  unreplaced = λ q w after before k. absurd (none after (Write q place w) before k);
}
  where
    none : (after : List Event) (x : Event) (before : List Event) → [] ≡ after ++ x ∷ before → ⊥
    none [] x before k = cc
    none (y ∷ after) x before k = cc

shifted : (a b c : Bool) → (a || (b || c)) ≡ false → ((b || a) || c) ≡ false
shifted = proved 3 (λ a b c. If (Is (a || (b || c)) false) (Is ((b || a) || c) false)) refl

shifted_back : (a b c : Bool) → ((b || a) || c) ≡ false → (a || (b || c)) ≡ false
shifted_back = proved 3 (λ a b c. If (Is ((b || a) || c) false) (Is (a || (b || c)) false)) refl

-- one event more in front, which is no init of the page and, if it is a write of the place, one that isn't published
further : (heading : Heading) (later h : List Event) (place p value : ℕ) (e : Event)
    → inits (page_of place) e ≡ false
    → ((q w : ℕ) → e ≡ Write q place w → published heading q p later ≡ false)
    → Before heading (e ∷ later) h place p value → Before heading later (e ∷ h) place p value
further heading later h place p value e not_init unpublished b = record {
  newer = e ∷ b.newer;
  older = b.older;
  split = ap (λ es. e ∷ es) b.split;
  had = b.had;
  no_init = kept;
  unreplaced = open_still;
}
  where
    kept : (q : ℕ) (after before : List Event) → e ∷ b.newer ≡ after ++ Init q (page_of place) ∷ before → ⊥
    kept q [] before k = false_true (inits (page_of place) e) not_init
        (ap (inits (page_of place)) (same_head e (Init q (page_of place)) b.newer before k) ∙ same_number (page_of place))
    kept q (x ∷ after) before k =
        b.no_init q after before (same_tail e x b.newer (after ++ Init q (page_of place) ∷ before) k)

    open_still : (q w : ℕ) (after before : List Event) → e ∷ b.newer ≡ after ++ Write q place w ∷ before
        → (published heading q p after || published heading q p later) ≡ false
    open_still q w [] before k = unpublished q w (same_head e (Write q place w) b.newer before k)
    open_still q w (x ∷ after) before k =
        let same : e ≡ x = same_head e x b.newer (after ++ Write q place w ∷ before) k in
        let rest : (published heading q p after || (publishes_for heading q p e || published heading q p later)) ≡ false
        = b.unreplaced q w after before (same_tail e x b.newer (after ++ Write q place w ∷ before) k) in
        subst (λ (y : Event). ((publishes_for heading q p y || published heading q p after) || published heading q p later) ≡ false)
        same (shifted (published heading q p after) (publishes_for heading q p e) (published heading q p later) rest)

-- an event that is no write of the place is none that is published
not_stored : (heading : Heading) (p place : ℕ) (later : List Event) (e : Event) → stores place e ≡ false
    → (q w : ℕ) → e ≡ Write q place w → published heading q p later ≡ false
not_stored heading p place later e none q w k =
    false_true (stores place e) none (ap (stores place) k ∙ same_number place)

abbrev writer_of : Event → ℕ
writer_of (Write q at value) = q
writer_of _ = 0

-- the values of the list are readable: the case of a write
at_write : (heading : Heading) (later h : List Event) (place p value q at v : ℕ) (b : Bool) → (at == place) ≡ b
    → among value (cond b (v ∷ cond (published heading q p later) [] (readable_before heading (Write q at v ∷ later) h place p))
    (readable_before heading (Write q at v ∷ later) h place p)) ≡ true
    → (among value (readable_before heading (Write q at v ∷ later) h place p) ≡ true → Before heading (Write q at v ∷ later) h place p value)
    → Before heading later (Write q at v ∷ h) place p value
at_write heading later h place p value q at v false e k rest =
    further heading later h place p value (Write q at v) refl (not_stored heading p place later (Write q at v) e) (rest k)
at_write heading later h place p value q at v true e k rest =
    elim (or_cases (v == value) (among value (cond (published heading q p later) [] values)) k) [
      | inl same ↦ here heading later (Write q at v ∷ h) place p value
          (ap (λ (b : Bool). cond b v (value_of h place)) e ∙ eqb-true v value same)
      | inr old ↦ below (published heading q p later) refl old
    ]
  where
    values : List ℕ
    values = readable_before heading (Write q at v ∷ later) h place p

    below : (b : Bool) → published heading q p later ≡ b → among value (cond b [] values) ≡ true
        → Before heading later (Write q at v ∷ h) place p value
    below true u k = absurd (true≢false (sym k))
    below false u k = further heading later h place p value (Write q at v) refl
        (λ q' w k. subst (λ (r : ℕ). published heading r p later ≡ false) (ap writer_of k) u) (rest k)

-- the case of an init
at_init : (heading : Heading) (later h : List Event) (place p value q page : ℕ) (b : Bool) → (page == page_of place) ≡ b
    → among value (cond b (0 ∷ []) (readable_before heading (Init q page ∷ later) h place p)) ≡ true
    → (among value (readable_before heading (Init q page ∷ later) h place p) ≡ true → Before heading (Init q page ∷ later) h place p value)
    → Before heading later (Init q page ∷ h) place p value
at_init heading later h place p value q page false e k rest =
    further heading later h place p value (Init q page) e (not_stored heading p place later (Init q page) refl) (rest k)
at_init heading later h place p value q page true e k rest =
    here heading later (Init q page ∷ h) place p value
    (ap (λ (b : Bool). cond b 0 (value_of h place)) e ∙ only value k)
  where
    only : (value : ℕ) → among value (0 ∷ []) ≡ true → 0 ≡ value
    only value k = elim (or_cases (0 == value) false k) [ inl same ↦ eqb-true 0 value same | inr none ↦ absurd (true≢false (sym none)) ]

sound : (heading : Heading) (later h : List Event) (place p value : ℕ)
    → among value (readable_before heading later h place p) ≡ true → Before heading later h place p value
sound heading later [] place p value k = here heading later [] place p value
    (elim (or_cases (0 == value) false k) [ inl same ↦ eqb-true 0 value same | inr none ↦ absurd (true≢false (sym none)) ])
sound heading later (Write q at v ∷ h) place p value k =
    at_write heading later h place p value q at v (at == place) refl k (sound heading (Write q at v ∷ later) h place p value)
sound heading later (Init q page ∷ h) place p value k =
    at_init heading later h place p value q page (page == page_of place) refl k (sound heading (Init q page ∷ later) h place p value)
sound heading later (e ∷ h) place p value k =
    further heading later h place p value e refl (not_stored heading p place later e refl) (sound heading (e ∷ later) h place p value k)

-- The value that the place has is in the list.
current_write : (heading : Heading) (later h : List Event) (place p q at v : ℕ) (b : Bool)
    → among (value_of h place) (readable_before heading (Write q at v ∷ later) h place p) ≡ true
    → among (cond b v (value_of h place))
    (cond b (v ∷ cond (published heading q p later) [] (readable_before heading (Write q at v ∷ later) h place p))
    (readable_before heading (Write q at v ∷ later) h place p)) ≡ true
current_write heading later h place p q at v true k =
    or_left (v == v) (among v (cond (published heading q p later) [] (readable_before heading (Write q at v ∷ later) h place p))) (same_number v)
current_write heading later h place p q at v false k = k

current_init : (value : ℕ) (values : List ℕ) (b : Bool) → among value values ≡ true
    → among (cond b 0 value) (cond b (0 ∷ []) values) ≡ true
current_init value values true k = refl
current_init value values false k = k

current : (heading : Heading) (later h : List Event) (place p : ℕ)
    → among (value_of h place) (readable_before heading later h place p) ≡ true
current heading later [] place p = refl
current heading later (Write q at v ∷ h) place p =
    current_write heading later h place p q at v (at == place) (current heading (Write q at v ∷ later) h place p)
current heading later (Init q page ∷ h) place p =
    current_init (value_of h place) (readable_before heading (Init q page ∷ later) h place p) (page == page_of place)
    (current heading (Init q page ∷ later) h place p)
current heading later (e ∷ h) place p = current heading (e ∷ later) h place p

-- No init of the page and no published write of the place in the newer events.
record Kept (heading : Heading) (later newer : List Event) (place p : ℕ) : Type 0 where
  no_init : (q : ℕ) (after before : List Event) → newer ≡ after ++ Init q (page_of place) ∷ before → ⊥
  unreplaced : (q w : ℕ) (after before : List Event) → newer ≡ after ++ Write q place w ∷ before
      → (published heading q p after || published heading q p later) ≡ false

kept_tail : (heading : Heading) (later newer : List Event) (place p : ℕ) (e : Event)
    → Kept heading later (e ∷ newer) place p → Kept heading (e ∷ later) newer place p
kept_tail heading later newer place p e kept = record {
  no_init = λ q after before k. kept.no_init q (e ∷ after) before (ap (λ es. e ∷ es) k);
  unreplaced = λ q w after before k.
      shifted_back (published heading q p after) (publishes_for heading q p e) (published heading q p later)
      (kept.unreplaced q w (e ∷ after) before (ap (λ es. e ∷ es) k));
}

-- the value is in the list: the case of a write in the newer events
complete_write : (heading : Heading) (later newer older : List Event) (place p value q at v : ℕ) (b : Bool) → (at == place) ≡ b
    → Kept heading later (Write q at v ∷ newer) place p
    → among value (readable_before heading (Write q at v ∷ later) (newer ++ older) place p) ≡ true
    → among value (cond b (v ∷ cond (published heading q p later) [] (readable_before heading (Write q at v ∷ later) (newer ++ older) place p))
    (readable_before heading (Write q at v ∷ later) (newer ++ older) place p)) ≡ true
complete_write heading later newer older place p value q at v false e kept k = k
complete_write heading later newer older place p value q at v true e kept k =
    or_right (v == value) (among value (cond (published heading q p later) [] values))
    (subst (λ (b : Bool). among value (cond b [] values) ≡ true) (sym open_still) k)
  where
    values : List ℕ
    values = readable_before heading (Write q at v ∷ later) (newer ++ older) place p

    open_still : published heading q p later ≡ false
    open_still = kept.unreplaced q v [] newer (ap (λ (a : ℕ). Write q a v ∷ newer) (eqb-true at place e))

complete_init : (heading : Heading) (later newer older : List Event) (place p value q page : ℕ) (b : Bool) → (page == page_of place) ≡ b
    → Kept heading later (Init q page ∷ newer) place p
    → among value (readable_before heading (Init q page ∷ later) (newer ++ older) place p) ≡ true
    → among value (cond b (0 ∷ []) (readable_before heading (Init q page ∷ later) (newer ++ older) place p)) ≡ true
complete_init heading later newer older place p value q page false e kept k = k
complete_init heading later newer older place p value q page true e kept k =
    absurd (kept.no_init q [] newer (ap (λ (a : ℕ). Init q a ∷ newer) (eqb-true page (page_of place) e)))

complete : (heading : Heading) (later newer older : List Event) (place p : ℕ) → Kept heading later newer place p
    → among (value_of older place) (readable_before heading later (newer ++ older) place p) ≡ true
complete heading later [] older place p kept = current heading later older place p
complete heading later (Write q at v ∷ newer) older place p kept =
    complete_write heading later newer older place p (value_of older place) q at v (at == place) refl kept
    (complete heading (Write q at v ∷ later) newer older place p (kept_tail heading later newer place p (Write q at v) kept))
complete heading later (Init q page ∷ newer) older place p kept =
    complete_init heading later newer older place p (value_of older place) q page (page == page_of place) refl kept
    (complete heading (Init q page ∷ later) newer older place p (kept_tail heading later newer place p (Init q page) kept))
complete heading later (e ∷ newer) older place p kept =
    complete heading (e ∷ later) newer older place p (kept_tail heading later newer place p e kept)

or_none : (b : Bool) → (b || false) ≡ false → b ≡ false
or_none = proved 1 (λ b. If (Is (b || false) false) (Is b false)) refl

none_or : (b : Bool) → b ≡ false → (b || false) ≡ false
none_or = proved 1 (λ b. If (Is b false) (Is (b || false) false)) refl

-- The list and the sentence say the same.
pub readable_sound : (heading : Heading) (h : List Event) (place p value : ℕ)
    → is_readable heading h place p value ≡ true → Readable heading h place p value
readable_sound heading h place p value k =
    let b : Before heading [] h place p value = sound heading [] h place p value k in
    record {
      newer = b.newer;
      older = b.older;
      split = b.split;
      had = b.had;
      no_init = b.no_init;
      unreplaced = λ q w after before k. or_none (published heading q p after) (b.unreplaced q w after before k);
    }

pub readable_complete : (heading : Heading) (h : List Event) (place p value : ℕ)
    → Readable heading h place p value → is_readable heading h place p value ≡ true
readable_complete heading h place p value r =
    subst (λ (v : ℕ). among v (readable_before heading [] h place p) ≡ true) r.had
    (subst (λ (es : List Event). among (value_of r.older place) (readable_before heading [] es place p) ≡ true) (sym r.split)
    (complete heading [] r.newer r.older place p (record {
      no_init = r.no_init;
      unreplaced = λ q w after before k. none_or (published heading q p after) (r.unreplaced q w after before k);
    })))

-- Published, by a later DSB.
is_publisher : (heading : Heading) (q p : ℕ) (e : Event) → publishes_for heading q p e ≡ true
    → (dsb : Barrier) × (e ≡ Dsb q dsb) × (publishes_to heading dsb q p ≡ true)
is_publisher heading q p (Dsb pe dsb) k =
    let parts = and_parts (pe == q) (publishes_to heading dsb pe p) k in
    let pe_is : pe ≡ q = eqb-true pe q parts.0 in
    (dsb, ap (λ n. Dsb n dsb) pe_is, sym (ap (λ n. publishes_to heading dsb n p) pe_is) ∙ parts.1)
is_publisher heading q p e k = absurd (true≢false (sym k))

pub published_sound : (heading : Heading) (q p : ℕ) (later : List Event) → published heading q p later ≡ true
    → Published heading q p later
published_sound heading q p later k =
    let r = any_found (publishes_for heading q p) later k in
    let s = split_in later r.0 r.1 in
    let d = is_publisher heading q p r.0 r.2 in
    record {
      dsb = d.0;
      after = s.0;
      before = s.1;
      split = s.2 ∙ ap (λ e. s.0 ++ e ∷ s.1) d.1;
      publishes = d.2;
    }

pub published_complete : (heading : Heading) (q p : ℕ) (later : List Event) → Published heading q p later
    → published heading q p later ≡ true
published_complete heading q p later s =
    any_finds (publishes_for heading q p) later (Dsb q s.dsb)
    (subst (λ (es : List Event). In es (Dsb q s.dsb)) (sym s.split) (in_split s.after s.before (Dsb q s.dsb)))
    (and_from (q == q) (publishes_to heading s.dsb q p) (same_number q) s.publishes)
