-- The definitions on plain events once more, as sentences over all ways to split a history. The laws say that they say
-- the same. A history is newest first, so in `newer ++ older` the events of `newer` came after those of `older`.
-- Source: project's own choice, but where another is named.
use Rattle.std.specs.Prelude.{◌≡◌, ℕ, suc, ◌<◌, ◌≤◌, Bool, true, false, ◌&&◌, ◌==◌, List, ◌∷◌, ◌++◌, length, Option}
use Rattle.bbm_rules.specs.Prelude.{Barrier, Kind, Reg, Tag, Heading, Event, Init, Root, Unroot, Write, Dsb, Isb, Tlbi}
use Rattle.bbm_rules.specs.Prelude.{Msr, Lock, Unlock}
use Rattle.bbm_events.specs.declared.claim.Claim.TheVariants.{Taken}
use Rattle.bbm_rules.specs.Claims.{Trust, allows}
use Rattle.bbm_rules.specs.Places.{page_of}
use Rattle.bbm_rules.specs.Reach.{Issued, completes, reaches}
pub use Rattle.bbm_rules.specs.RegisterValues.{register_value}
use Rattle.bbm_rules.specs.RegisterValues.{Standing, standing_of}
use Rattle.bbm_rules.specs.Roots.{Declared}
use Rattle.bbm_rules.specs.Tags.{itself, reads, reads_for_some, takes_tag}
use Rattle.bbm_rules.specs.Values.{published, publishes_to, value_of}

-- A root: a `root` of its page, of this kind and with this lock, and since then neither another `root` nor an `unroot`
-- of the page.
pub record IsDeclared (h : List Event) (r : Declared) : Type 0 where
  pub pe : ℕ
  pub newer : List Event
  pub older : List Event
  pub split : h ≡ newer ++ Root pe r.kind r.lock r.page ∷ older
  pub last : (q : ℕ) (kind : Kind) (lock : Option ℕ) (after before : List Event)
      → newer ≡ after ++ Root q kind lock r.page ∷ before → ⊥
  pub not_retired : (q : ℕ) (after before : List Event) → newer ≡ after ++ Unroot q r.page ∷ before → ⊥

-- The PE p holds the lock: it took it, and since then nobody took it and p didn't give it back.
pub record HoldsLock (h : List Event) (p lock : ℕ) : Type 0 where
  pub newer : List Event
  pub older : List Event
  pub split : h ≡ newer ++ Lock p lock ∷ older
  pub last : (q : ℕ) (after before : List Event) → newer ≡ after ++ Lock q lock ∷ before → ⊥
  pub not_given : (after before : List Event) → newer ≡ after ++ Unlock p lock ∷ before → ⊥

-- The value is a readable one of the register of p: at some moment the register had it, and after that moment no write
-- of the register by p is followed by an `isb` of p.
-- Source: Arm ARM (DDI 0487), "Context synchronization event".
pub record ReadableRegister (h : List Event) (p : ℕ) (reg : Reg) (value : ℕ) : Type 0 where
  pub newer : List Event
  pub older : List Event
  pub split : h ≡ newer ++ older
  pub had : register_value older p reg ≡ value
  pub unreplaced : (w : ℕ) (after between before : List Event)
      → newer ≡ after ++ Isb p ∷ (between ++ Msr p reg w ∷ before) → ⊥

-- The standing is a readable one of p: at some moment the registers stood so, and after that moment no register write
-- of p is followed by an `isb` of p.
pub record ReadableStanding (h : List Event) (p : ℕ) (s : Standing) : Type 0 where
  pub newer : List Event
  pub older : List Event
  pub split : h ≡ newer ++ older
  pub had : standing_of older p ≡ s
  pub unreplaced : (reg : Reg) (w : ℕ) (after between before : List Event)
      → newer ≡ after ++ Isb p ∷ (between ++ Msr p reg w ∷ before) → ⊥

-- A write of the PE q is published to p, by a DSB of q among the events after it, `later`.
-- Source: Arm ARM (DDI 0487), "Memory barriers", "Data Synchronization Barrier".
pub record Published (heading : Heading) (q p : ℕ) (later : List Event) : Type 0 where
  pub dsb : Barrier
  pub after : List Event
  pub before : List Event
  pub split : later ≡ after ++ Dsb q dsb ∷ before
  pub publishes : publishes_to heading dsb q p ≡ true

-- The value is readable at p: at some moment since the last init of its page the place had it, and no write of the
-- place after that moment is published to p.
-- Source: Arm ARM (DDI 0487), "Translation table walk coherency", read as: a walk may see any value that no
-- published later one replaced.
pub record Readable (heading : Heading) (h : List Event) (place p value : ℕ) : Type 0 where
  pub newer : List Event
  pub older : List Event
  pub split : h ≡ newer ++ older
  pub had : value_of older place ≡ value
  pub no_init : (q : ℕ) (after before : List Event) → newer ≡ after ++ Init q (page_of place) ∷ before → ⊥
  pub unreplaced : (q w : ℕ) (after before : List Event) → newer ≡ after ++ Write q place w ∷ before
      → published heading q p after ≡ false

-- whether the event is a TLBI that q issues, and whether it is a DSB of q that completes the TLBI
abbrev pub issues : ℕ → Event → Bool
issues q (Tlbi pe op xt) = pe == q
issues q _ = false

abbrev pub completes_for : ℕ → Event → Event → Bool
completes_for q tlbi (Dsb pe dsb) = pe == q && completes dsb tlbi
completes_for q tlbi _ = false

-- The TLBI is open: q issued it, `before` came before it, and no DSB of q after it completes it. So the first DSB of q
-- that completes it is the one that finds it open.
-- Source: Arm ARM (DDI 0487), "TLB maintenance instructions", "Ordering and completion of TLB maintenance
-- instructions".
pub record Open {A : Type 0} (event : A → Event) (q : ℕ) (h : List A) (t : Issued A) : Type 0 where
  pub newer : List A
  pub split : h ≡ newer ++ t.tlbi ∷ t.before
  pub issued : issues q (event t.tlbi) ≡ true
  pub uncompleted : (x : A) (after before : List A) → newer ≡ after ++ x ∷ before
      → completes_for q (event t.tlbi) (event x) ≡ false

-- The TLBI takes the tag away at p: it reaches p and takes the whole tag; a DSB of its issuer q answers it, the first
-- that completes it; and at no moment from its issue to its answer is the tag readable at p for any root. The history
-- up to a moment is the older part of a split; the moments from the issue on are those with more events than came
-- before it.
-- Source: project's own choice, after Arm ARM (DDI 0487), "TLB maintenance instructions".
pub record TakenAway (heading : Heading) (trust : Trust) (p : ℕ) (tag : Tag) (h : List Event) (t : Issued Event)
    : Type 0 where
  pub q : ℕ
  pub dsb : Barrier
  pub later : List Event
  pub earlier : List Event
  pub split : h ≡ later ++ Dsb q dsb ∷ earlier
  pub is_open : Open itself q earlier t
  pub answered : completes dsb t.tlbi ≡ true
  pub reached : reaches heading t.tlbi p ≡ true
  pub whole : takes_tag heading t.tlbi t.before tag ≡ true
  pub unread : (after moment : List Event) → Dsb q dsb ∷ earlier ≡ after ++ moment → length t.before < length moment
      → reads_for_some heading moment p tag ≡ false
  pub allowed : allows trust (Taken p tag (suc (length t.before)) (suc (length earlier))) ≡ true

-- The tag is kept for the page at p: at some moment it was readable at p for the root of the page, and no TLBI after
-- that moment takes it away. Source: project's own choice, after Arm ARM (DDI 0487), "Translation Lookaside Buffers".
pub record KeptTag (heading : Heading) (trust : Trust) (p page : ℕ) (tag : Tag) (h : List Event) : Type 0 where
  pub newer : List Event
  pub older : List Event
  pub split : h ≡ newer ++ older
  pub read : reads heading older p tag page ≡ true
  pub not_taken : (t : Issued Event) → TakenAway heading trust p tag h t → length older ≤ length t.before → ⊥

-- The root holds the tag at p: the tag is kept for its page by such a moment, and the root wasn't given up since.
pub record HoldsTag (heading : Heading) (trust : Trust) (p root : ℕ) (tag : Tag) (h : List Event) : Type 0 where
  pub kept : KeptTag heading trust p root tag h
  pub not_given_up : (q : ℕ) (after before : List Event) → kept.newer ≡ after ++ Unroot q root ∷ before → ⊥

-- A root of the page was given up and left the tag at p: the tag is kept for the page by such a moment, and the root
-- was given up since.
pub record LeftTag (heading : Heading) (trust : Trust) (p page : ℕ) (tag : Tag) (h : List Event) : Type 0 where
  pub kept : KeptTag heading trust p page tag h
  pub q : ℕ
  pub after : List Event
  pub before : List Event
  pub given_up : kept.newer ≡ after ++ Unroot q page ∷ before
