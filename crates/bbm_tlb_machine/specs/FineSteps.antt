-- What a step or an event makes of a fine entry, and how far a TLBI covers the place at which it ends. A history is newest
-- first.
-- Source: project's own choice.
use Rattle.std.specs.Option.{option_map_or}
use Rattle.std.specs.Prelude.{◌≡◌, ℕ, suc, ◌<◌, ◌≤◌, Bool, true, false, ◌||◌, not, List, ◌∷◌, ◌++◌, length, Some, Contains}
use Rattle.bbm_descriptor.specs.Descriptor.{needs}
use Rattle.bbm_tlbi_scope.specs.Agreement.{IsCoverFor}
use Rattle.bbm_tlbi_scope.specs.Operations.{family_of, has_asid}
use Rattle.bbm_tlbi_scope.specs.declared.entry.Cover.TheVariants.{Second}
use Rattle.bbm_tlbi_scope.specs.declared.entry.EntryKind.TheVariants.{Combined}
use Rattle.bbm_rules.specs.Broken.{keeps}
use Rattle.bbm_rules.specs.Claims.{Trust}
use Rattle.bbm_rules.specs.Covers.{is_global, noted}
use Rattle.bbm_rules.specs.Held.{ValidWrite, last_valid}
use Rattle.bbm_rules.specs.Lists.{any}
use Rattle.bbm_rules.specs.Notes.{Noted, event_of, events_of}
use Rattle.bbm_rules.specs.PatternSentences.{Publication}
use Rattle.bbm_rules.specs.Places.{page_of}
use Rattle.bbm_rules.specs.Prelude.{Barrier, Heading, Event, Kind, Tag, Dsb, Tlbi, Ttbr1}
use Rattle.bbm_rules.specs.Reach.{Issued, completes, unanswered}
use Rattle.bbm_rules.specs.Sentences.{Open}
use Rattle.bbm_rules.specs.Tags.{holds_tag, itself}
use Rattle.bbm_rules.specs.Tree.{Node, held_at, holds_some, next_of, node_of}
use Rattle.bbm_rules.specs.Values.{places_in}
use Rattle.bbm_tlb_machine.specs.Entry.{Entry, Part, desc_in, is_given_up, is_leaf, tag_of_entry}
use Rattle.bbm_tlb_machine.specs.Invariant.{Fine, IsNear}
use Rattle.bbm_tlb_machine.specs.Safe.{IsLog, is_stale}
use Rattle.bbm_tlb_machine.specs.Step.{combined, extended, is_older, is_stage2, may_extend, may_start, must_go, started, takes}

-- the event leaves no entry that a TLBI which it answers must have taken: this one neither
abbrev pub LeavesIt : Heading → List Event → Event → Entry → Type 0
LeavesIt heading h e x = (q : ℕ) (dsb : Barrier) → e ≡ Dsb q dsb → (t : Issued Event) → Contains (unanswered itself q h) t
    → completes dsb t.tlbi ≡ true → must_go heading t x ≡ false

-- whether it is a TLBI for one ASID alone
abbrev pub names_asid : Event → Bool
names_asid (Tlbi pe op xt) = has_asid (family_of op)
names_asid _ = false

module _ (heading : Heading) (trust : Trust) where
  -- whether no place of the next page of a table holds anything
  abbrev pub is_empty_below : List Noted → Part → Bool
  is_empty_below h part = option_map_or
      (λ next. not (any (λ place. holds_some heading trust h part.kind (suc part.level) place) (places_in (events_of h) next)))
      (next_of part.kind part.level part.value) false

  -- A TLBI that no DSB has answered takes the entry, and a barrier before it had told a PE near that the place at which
  -- the entry ends was broken. All that came before the TLBI is `older`. The root of the entry held no tag but that of
  -- the entry; the entry ends in a leaf, or in a table that was childless; in the upper range the leaf is one for every
  -- ASID, or the TLBI isn't for one ASID alone.
  pub record IsStruck (h : List Event) (x : Entry) (t : Issued Noted) (older : List Noted) : Type 0 where
    pub w : ValidWrite
    pub is_last : last_valid x.last.kind x.last.level x.last.place (noted heading trust h) ≡ Some w
    pub q : ℕ
    pub is_open : Open event_of q w.since t
    pub whole : noted heading trust h ≡ is_open.newer ++ t.tlbi ∷ older
    pub p : ℕ
    pub near : IsNear heading x p
    pub b : Noted
    pub told : Publication heading x.last.place p t.before b
    pub takes : takes heading t.tlbi.event (events_of older) x ≡ true
    pub alone : (tag : Tag) → holds_tag heading trust x.root tag (events_of older) ≡ true → tag ≡ tag_of_entry x
    pub ending : (is_leaf (desc_in x.last) || is_empty_below older x.last) ≡ true
    pub for_all : x.last.kind ≡ Ttbr1 → (is_global (desc_in x.last) || not (names_asid t.tlbi.event)) ≡ true

  pub record FineSteps : Type 0 where
    -- what starts an entry, extends it or joins it makes a fine entry, and no entry starts before any event
    pub starts : (h : List Event) → keeps heading trust h ≡ true → IsLog heading h
        → (p : ℕ) (kind : Kind) (number place value : ℕ)
        → may_start heading h (started heading (length h) p kind number place value) number ≡ true
        → Fine heading trust h (started heading (length h) p kind number place value)
    pub extends : (h : List Event) → keeps heading trust h ≡ true → (x : Entry) → Fine heading trust h x
        → (place value : ℕ) → may_extend heading h x place value ≡ true
        → Fine heading trust h (extended x place value)
    pub joins : (h : List Event) → keeps heading trust h ≡ true → (x : Entry) → Fine heading trust h x
        → is_stage2 x.kind ≡ true → Fine heading trust h (combined (length h) x)
    pub behind : (h : List Event) (x : Entry) (number : ℕ) → may_start heading h x number ≡ true → 0 < length h
    -- an event leaves it fine where it answers no TLBI that must have taken it
    pub after : (h : List Event) (e : Event) → keeps heading trust (e ∷ h) ≡ true → (x : Entry) → Fine heading trust h x
        → LeavesIt heading h e x → Fine heading trust (e ∷ h) x
    -- what wasn't given up after an event wasn't before
    pub up_before : (h : List Event) (e : Event) (x : Entry) → is_given_up heading (e ∷ h) x ≡ false
        → is_given_up heading h x ≡ false
    -- what strikes it covers the place at which it ends; in two steps, the second one behind its joining
    pub covers : (h : List Event) → keeps heading trust h ≡ true → (x : Entry) → Fine heading trust h x
        → is_given_up heading h x ≡ false → (t : Issued Noted) (older : List Noted) → IsStruck h x t older
        → IsCoverFor x.kind (t.tlbi.covers x.last.place)
    pub second : (h : List Event) → keeps heading trust h ≡ true → (x : Entry) → Fine heading trust h x
        → is_given_up heading h x ≡ false → (t : Issued Noted) (older : List Noted) → IsStruck h x t older
        → x.kind ≡ Combined → t.tlbi.covers x.last.place ≡ Second
        → is_older t.tlbi.event (events_of older) x ≡ true → x.joined ≤ length (events_of older)
    -- where what its last place holds needs break-before-make from a value, it is stale behind a write of that value
    pub stale : (h : List Event) → keeps heading trust h ≡ true → (x : Entry) → Fine heading trust h x
        → is_given_up heading h x ≡ false → (n : Node)
        → node_of heading trust (noted heading trust h) (page_of x.last.place) ≡ Some n → (old value : ℕ)
        → held_at heading trust (noted heading trust h) n x.last.place ≡ Some old
        → needs n.kind n.level old value ≡ true → is_stale x.last.place value x.last ≡ true
