-- What the laws of single events and of the tests for equality state. Source: project's own choice.
use Rattle.std.specs.Prelude.{◌≡◌, ◌↔◌, ℕ, Bool, true, false, List, ◌∷◌, Some, Contains}
use Rattle.bbm_events.specs.declared.claim.Claim.{Claim}
use Rattle.bbm_rules.specs.Prelude.{Event, Heading, Kind, Reg, Tag, same_kind, same_reg, same_tag}
use Rattle.bbm_rules.specs.Changes.{changes}
use Rattle.bbm_rules.specs.Claims.{Trust, same_claim}
use Rattle.bbm_rules.specs.Cleansing.{cleansed, half, seen}
use Rattle.bbm_rules.specs.Held.{last_valid, later}
use Rattle.bbm_rules.specs.Locks.{holder_of}
use Rattle.bbm_rules.specs.Notes.{Noted, event_of}
use Rattle.bbm_rules.specs.Pages.{initialised, is_null, may_be_fresh}
use Rattle.bbm_rules.specs.Reach.{Issued, unanswered}
use Rattle.bbm_rules.specs.RegisterValues.{register_values}
use Rattle.bbm_rules.specs.Roots.{Declared, given_up, is_root, root_at, roots_of}
use Rattle.bbm_rules.specs.Sentences.{IsDeclared, Open, Published, Readable}
use Rattle.bbm_rules.specs.Tags.{itself}
use Rattle.bbm_rules.specs.Values.{is_readable, published, value_of, written_places}

-- The tests for equality of tags, registers, kinds and claims hold exactly where the two are equal.
pub record TestsAreExact : Type 0 where
  pub tags : (g k : Tag) → (same_tag g k ≡ true) ↔ (g ≡ k)
  pub registers : (r s : Reg) → (same_reg r s ≡ true) ↔ (r ≡ s)
  pub kinds : (k l : Kind) → (same_kind k l ≡ true) ↔ (k ≡ l)
  pub claims : (c k : Claim) → (same_claim c k ≡ true) ↔ (c ≡ k)

-- The roots are the pages that were declared by a `root`, and since then neither by another nor retired by an `unroot`;
-- the kind and the lock are those of that `root`. A page has one at most.
pub record RootsBySentence : Type 0 where
  pub sound : (h : List Event) (r : Declared) → Contains (roots_of h) r → IsDeclared h r
  pub complete : (h : List Event) (r : Declared) → IsDeclared h r → Contains (roots_of h) r
  pub found : (h : List Event) (r : Declared) → IsDeclared h r → root_at h r.page ≡ Some r
  pub of_page : (h : List Event) (page : ℕ) (r : Declared) → root_at h page ≡ Some r → IsDeclared h r × (r.page ≡ page)
  pub of_kind : (h : List Event) (kind : Kind) (page : ℕ) → is_root h kind page ≡ true → (r : Declared) × IsDeclared h r
      × (r.page ≡ page) × (r.kind ≡ kind)
  pub is_of_kind : (h : List Event) (r : Declared) → IsDeclared h r → is_root h r.kind r.page ≡ true

-- A write is published to a PE exactly where a later DSB of its own PE publishes to that PE.
pub record PublishedBySentence (heading : Heading) : Type 0 where
  pub sound : (q p : ℕ) (later : List Event) → published heading q p later ≡ true → Published heading q p later
  pub complete : (q p : ℕ) (later : List Event) → Published heading q p later → published heading q p later ≡ true

-- A value of a place is among the readable ones exactly where the place had it at some moment since the last init of
-- its page, and no write of the place after that moment is published.
pub record ReadableBySentence (heading : Heading) : Type 0 where
  pub sound : (h : List Event) (place p value : ℕ) → is_readable heading h place p value ≡ true
      → Readable heading h place p value
  pub complete : (h : List Event) (place p value : ℕ) → Readable heading h place p value
      → is_readable heading h place p value ≡ true

-- A TLBI is among the unanswered ones of a PE exactly where the PE issued it and no DSB of it since completes it. So it
-- is answered by the first later DSB of its issuer that completes it.
pub record AnsweredBySentence : Type 0 where
  pub sound : (q : ℕ) (h : List Event) (t : Issued Event) → Contains (unanswered itself q h) t → Open itself q h t
  pub complete : (q : ℕ) (h : List Event) (t : Issued Event) → Open itself q h t → Contains (unanswered itself q h) t
  pub noted_sound : (q : ℕ) (h : List Noted) (t : Issued Noted) → Contains (unanswered event_of q h) t
      → Open event_of q h t
  pub noted_complete : (q : ℕ) (h : List Noted) (t : Issued Noted) → Open event_of q h t
      → Contains (unanswered event_of q h) t

-- An event keeps the answer of each definition that its row of the table of changes doesn't name.
pub record ByChanges (heading : Heading) (trust : Trust) : Type 0 where
  pub values : (e : Event) (h : List Event) (place : ℕ) → (changes e).values ≡ false
      → value_of (e ∷ h) place ≡ value_of h place
  pub written : (e : Event) (h : List Event) → (changes e).values ≡ false → written_places (e ∷ h) ≡ written_places h
  pub publications : (q p : ℕ) (e : Event) (later : List Event) → (changes e).publications ≡ false
      → published heading q p (e ∷ later) ≡ published heading q p later
  pub inits : (e : Event) (h : List Event) → (changes e).inits ≡ false → initialised (e ∷ h) ≡ initialised h
  pub nulls : (e : Event) (h : List Event) (page : ℕ) → (changes e).nulls ≡ false
      → is_null (e ∷ h) page ≡ is_null h page
  pub roots : (e : Event) (h : List Event) → (changes e).roots ≡ false → roots_of (e ∷ h) ≡ roots_of h
  pub given : (e : Event) (h : List Event) → (changes e).roots ≡ false → given_up (e ∷ h) ≡ given_up h
  pub registers : (e : Event) (h : List Event) (p : ℕ) (reg : Reg) → (changes e).registers ≡ false
      → register_values (e ∷ h) p reg ≡ register_values h p reg
  pub flushes : (e : Event) (h : List Event) (q : ℕ) → (changes e).flushes ≡ false
      → unanswered itself q (e ∷ h) ≡ unanswered itself q h
  pub locks : (e : Event) (h : List Event) (lock : ℕ) → (changes e).locks ≡ false
      → holder_of (e ∷ h) lock ≡ holder_of h lock
  pub valid : (n : Noted) (h : List Noted) (kind : Kind) (level place : ℕ) → (changes n.event).values ≡ false
      → last_valid kind level place (n ∷ h) ≡ later n (last_valid kind level place h)
  pub fresh : (e : Event) (page : ℕ) (before : Bool) → (changes e).inits ≡ false → (changes e).nulls ≡ false
      → may_be_fresh e page before ≡ before
  pub seen : (place p : ℕ) (n : Noted) (since : List Noted) → (changes n.event).publications ≡ false
      → seen heading place p (n ∷ since) ≡ seen heading place p since
  pub half : (place p : ℕ) (n : Noted) (since : List Noted) → (changes n.event).flushes ≡ false
      → half heading place p (n ∷ since) ≡ half heading place p since
  pub cleansed : (place p : ℕ) (n : Noted) (since : List Noted) → (changes n.event).flushes ≡ false
      → cleansed heading trust place p (n ∷ since) ≡ cleansed heading trust place p since
