-- What is true of each entry that some TLB keeps, in each run over a log that keeps the rules, point by point. Here `h`
-- are the events taken so far, newest first. `law_fine` says that it is so, and `law_safe` stands on it.
-- Source: project's own choice.
use Rattle.std.specs.Prelude.{◌≡◌, ℕ, suc, ◌+◌, ◌*◌, ◌<◌, ◌≤◌, ◌⊎◌, Bool, true, false, List, [], ◌∷◌, ◌++◌, length, Some}
use Rattle.std.specs.Prelude.{Contains}
use Rattle.bbm_descriptor.specs.Descriptor.{is_valid, needs}
use Rattle.bbm_tlbi_scope.specs.Agreement.{read_through}
use Rattle.bbm_tlbi_scope.specs.declared.entry.Cover.{Cover}
use Rattle.bbm_tlbi_scope.specs.declared.entry.Cover.TheVariants.{Half, Second, Full}
use Rattle.bbm_tlbi_scope.specs.declared.entry.EntryKind.TheVariants.{Stage2, Combined}
use Rattle.bbm_rules.specs.Claims.{Trust}
use Rattle.bbm_rules.specs.Covers.{noted}
use Rattle.bbm_rules.specs.Held.{ValidWrite, held, last_valid}
use Rattle.bbm_rules.specs.Notes.{Noted, event_of, events_of}
use Rattle.bbm_rules.specs.PatternSentences.{Answer, Publication}
use Rattle.bbm_rules.specs.Places.{index_of, page_of}
use Rattle.bbm_rules.specs.Prelude.{Heading, Kind, Ttbr0, Event, first_input_page, input_pages, start_of}
use Rattle.bbm_rules.specs.Reach.{Issued, reaches}
use Rattle.bbm_rules.specs.Roots.{root_pages}
use Rattle.bbm_rules.specs.Sentences.{KeptTag, Open}
use Rattle.bbm_rules.specs.Tree.{Node, next_of, nodes_of_pages, region_start, tree}
use Rattle.bbm_tlbi_scope.specs.Takes.{is_global_leaf}
use Rattle.bbm_tlb_machine.specs.Entry.{Entry, Part, head_of, is_given_up, parts_of, tag_of_entry}
use Rattle.bbm_tlb_machine.specs.Step.{must_go}

-- ---- covers and patterns, as the entries see them that were read through a place, and as those that end there

-- How far an event covers a place: as its cover says or, of what ends there, as its top cover says.
abbrev pub grade : Bool → Noted → ℕ → Cover
grade false n = n.covers
grade true n = n.tops

-- The patterns of half and cleansed, by covers or, where `top` is true, by top covers; at whatever positions.
module _ (top : Bool) (heading : Heading) where
  -- t is a TLBI that reaches p and covers the place so far, and d answers it
  pub record FlushAs (cover : Cover) (place p : ℕ) (since : List Noted) (t : Issued Noted) (d : Noted) : Type 0 where
    pub answer : Answer since t d
    pub reached : reaches heading t.tlbi.event p ≡ true
    pub covered : grade top t.tlbi place ≡ cover

  pub record HalfAs (place p : ℕ) (since : List Noted) (b : Noted) (t : Issued Noted) (d : Noted) : Type 0 where
    pub flush : FlushAs Half place p since t d
    pub published : Publication heading place p t.before b

  pub record OneStepAs (place p : ℕ) (since : List Noted) : Type 0 where
    pub b : Noted
    pub t : Issued Noted
    pub d : Noted
    pub published : Publication heading place p t.before b
    pub flush : FlushAs Full place p since t d

  pub record TwoStepsAs (place p : ℕ) (since : List Noted) : Type 0 where
    pub b : Noted
    pub t1 : Issued Noted
    pub d1 : Noted
    pub t2 : Issued Noted
    pub d2 : Noted
    pub first : HalfAs place p t2.before b t1 d1
    pub second : FlushAs Second place p since t2 d2

  abbrev pub CleansedAs : ℕ → ℕ → List Noted → Type 0
  CleansedAs place p since = OneStepAs place p since ⊎ TwoStepsAs place p since

-- ---- the shape of an entry

-- the part was read at a place of the node's page, in the tables of the root of this first page
pub record IsAt (n : Node) (from : ℕ) (part : Part) : Type 0 where
  pub inside : page_of part.place ≡ n.page
  pub kind : n.kind ≡ part.kind
  pub level : n.level ≡ part.level
  pub root : n.root ≡ from
  pub region : region_start n part.place ≡ part.first

-- the part was read in the next page of the one above it, one level deeper
pub record IsBelow (part above : Part) : Type 0 where
  pub kind : part.kind ≡ above.kind
  pub level : part.level ≡ suc above.level
  pub inside : next_of above.kind above.level above.value ≡ Some (page_of part.place)
  pub region : part.first ≡ above.first + index_of part.place * input_pages part.level

abbrev pub Chained : Part → List Part → Type 0
Chained part [] = Unit {0}
Chained part (above ∷ parts) = IsBelow part above × Chained above parts

module _ (heading : Heading) where
  -- the nodes of the pages of a root
  abbrev pub start_nodes : Kind → ℕ → List Node
  start_nodes kind root =
      nodes_of_pages kind (start_of heading.world kind) root (first_input_page heading.world kind)
      (root_pages heading.world kind root)

  -- the first part was read in a page of the root
  abbrev pub Begins : ℕ → Part → List Part → Type 0
  Begins root part [] = (n : Node) × Contains (start_nodes part.kind root) n × IsAt n root part
  Begins root part (above ∷ parts) = Begins root above parts

  -- Shape: the entry is of a PE of the header, made and joined by now; its kind fits the tables that it was read
  -- through; its first part was read in a page of its root, and each other in the next page of the one above it; each
  -- value is valid.
  pub record Shape (now : ℕ) (x : Entry) : Type 0 where
    pub is_pe : x.pe < heading.pes
    pub made : x.since ≤ now
    pub joined : x.joined ≤ now
    pub fits : read_through x.kind x.last.kind ≡ true
    pub begins : Begins x.root x.last x.above
    pub chained : Chained x.last x.above
    pub valid : (part : Part) → Contains (parts_of x) part → is_valid part.kind part.level part.value ≡ true

  -- Near: a PE at which the entry was or may come to be. That is its own PE, and where TLBs may copy entries from one
  -- another each PE of the header.
  abbrev pub IsNear : Entry → ℕ → Type 0
  IsNear x p = (p ≡ x.pe) ⊎ ((heading.cnp ≡ true) × (p < heading.pes))

  module _ (trust : Trust) (h : List Event) where
    -- In the trees: the part was read at a place of a page of the trees, in the tree of the root of this first page, at
    -- the kind, level and region that the place has there.
    pub record Placed (from : ℕ) (part : Part) : Type 0 where
      pub node : Node
      pub in_tree : Contains (tree heading trust (noted heading trust h)) node
      pub is_at : IsAt node from part

    -- Held: what the place of the part holds has the core of the value that was read.
    pub record Holding (part : Part) : Type 0 where
      pub value : ℕ
      pub holds : held heading trust part.kind part.level part.place (noted heading trust h) ≡ Some value
      pub same_core : needs part.kind part.level value part.value ≡ false

    -- Unanswered: no DSB has answered the TLBI yet. It came after the last valid write of the place, it reaches p, and
    -- it covers the place, or what ends there, so far. All that came before it is `older`.
    pub record Unanswered (top : Bool) (cover : Cover) (place p : ℕ) (since : List Noted) (t : Issued Noted) : Type 0 where
      pub q : ℕ
      pub is_open : Open event_of q since t
      pub reached : reaches heading t.tlbi.event p ≡ true
      pub covered : grade top t.tlbi place ≡ cover
      pub older : List Noted
      pub whole : noted heading trust h ≡ is_open.newer ++ t.tlbi ∷ older

  module _ (trust : Trust) (h : List Event) (x : Entry) where
    -- this holds of each place of a part, at each PE near, and of what came after the last valid write of the place
    abbrev pub AtParts : (ℕ → ℕ → List Noted → Type 0) → Type 0
    AtParts Says = (part : Part) → Contains (parts_of x) part → (w : ValidWrite)
        → last_valid part.kind part.level part.place (noted heading trust h) ≡ Some w → (p : ℕ) → IsNear x p
        → Says part.place p w.since

    -- so it does by covers; and of the place of the last part, where the entry ends, by top covers
    abbrev pub ByGrades : (Bool → ℕ → ℕ → List Noted → Type 0) → Type 0
    ByGrades Says = (top : Bool) (part : Part) → Contains (parts_of x) part → (top ≡ true → x.last ≡ part)
        → (w : ValidWrite) → last_valid part.kind part.level part.place (noted heading trust h) ≡ Some w → (p : ℕ)
        → IsNear x p → Says top part.place p w.since

    -- Not cleansed: no place of a part is cleansed, and that of the last part isn't above.
    abbrev pub Uncleansed : Type 0
    Uncleansed = ByGrades (λ top place p since. CleansedAs top heading place p since → ⊥)

    -- Made before: the entry was made before any barrier that publishes a write of a part's place, after the last valid
    -- one.
    abbrev pub MadeBefore : Type 0
    MadeBefore = AtParts (λ place p since. (b : Noted) → Publication heading place p since b → x.since < b.position)

    -- Half: where the place of a part is half, or that of the last part is so by top covers, the entry combines the
    -- stages, and was joined before the first step was answered.
    abbrev pub JoinedBefore : Type 0
    JoinedBefore = ByGrades (λ top place p since. (b : Noted) (t : Issued Noted) (d : Noted)
        → HalfAs top heading place p since b t d → (x.kind ≡ Combined) × (x.joined < d.position))

    -- Tag: at a PE near, the entry's tag was readable for its root when the entry was made, and no TLBI since takes it
    -- away. So the tag is kept for the root's page: the root holds it, or it was given up since and left it.
    pub record Tagged : Type 0 where
      pub pe : ℕ
      pub near : IsNear x pe
      pub is_pe : pe < heading.pes
      pub held : KeptTag heading trust pe x.root (tag_of_entry x) h
      pub moment : length held.older ≡ x.since

    -- what is so while the entry's root wasn't given up since
    pub record Rooted : Type 0 where
      pub placed : (part : Part) → Contains (parts_of x) part → Placed trust h x.root part
      pub holding : (part : Part) → Contains (parts_of x) part → Holding trust h part
      pub uncleansed : Uncleansed
      pub made_before : MadeBefore
      pub joined_before : JoinedBefore

    -- Own ASID: an entry of the lower range ends in no leaf for every ASID. It is so of a root that was given up, too.
    abbrev pub OwnAsid : Type 0
    OwnAsid = x.last.kind ≡ Ttbr0 → is_global_leaf (head_of x) ≡ false

    pub record Fine : Type 0 where
      pub shape : Shape (length h) x
      pub own_asid : OwnAsid
      pub tagged : Tagged
      pub rooted : is_given_up heading h x ≡ false → Rooted

    -- the TLBI must have taken the entry by the time that it is answered
    abbrev pub Goes : Noted → List Noted → Type 0
    Goes tlbi older = must_go heading (record { tlbi = tlbi.event; before = events_of older }) x ≡ true

    -- Taken: an unanswered TLBI takes the entry where, behind a barrier that publishes a write of a part's place, it
    -- covers the place in full; where it covers it half, if the entry is one of stage 2; and where the place was half
    -- before it and it covers the rest, if the entry combines the stages. So it is with the place of the last part by top
    -- covers. It follows from the points of `Fine`, while the entry's root wasn't given up since.
    pub record Taken : Type 0 where
      pub full : ByGrades (λ top place p since. (b : Noted) (t : Issued Noted) → Publication heading place p t.before b
          → (u : Unanswered trust h top Full place p since t) → Goes t.tlbi u.older)
      pub half : x.kind ≡ Stage2 → ByGrades (λ top place p since. (b : Noted) (t : Issued Noted)
          → Publication heading place p t.before b → (u : Unanswered trust h top Half place p since t)
          → Goes t.tlbi u.older)
      pub rest : x.kind ≡ Combined → ByGrades (λ top place p since. (b : Noted) (t1 : Issued Noted) (d1 : Noted)
          (t : Issued Noted) → HalfAs top heading place p t.before b t1 d1
          → (u : Unanswered trust h top Second place p since t) → Goes t.tlbi u.older)
