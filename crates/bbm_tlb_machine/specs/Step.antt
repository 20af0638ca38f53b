-- What the TLBs of the PEs may do between any two events: start an entry, read one descriptor more, join the stages,
-- copy an entry of another PE, drop one. And what an event asks of the entries that they keep. A history is newest
-- first.
-- Source: Arm ARM (DDI 0487), "Translation Lookaside Buffers" and "TLB maintenance instructions", but where the
-- project's own choice is named.
use Rattle.std.specs.Prelude.{◌≡◌, ℕ, suc, ◌+◌, ◌-◌, ◌*◌, ◌/◌, Bool, true, false, ◌&&◌, not, ◌==◌, nat_le, nat_lt, List}
use Rattle.std.specs.Prelude.{[], length, map, Option, Some, None}
use Rattle.bbm_descriptor.specs.Descriptor.{is_valid}
use Rattle.bbm_tlbi_scope.specs.declared.entry.EntryKind.{EntryKind}
use Rattle.bbm_tlbi_scope.specs.declared.entry.EntryKind.TheVariants.{El2 as El2Entry, Stage2, Combined, El1}
use Rattle.bbm_tlbi_scope.specs.Operations.{family_of}
use Rattle.bbm_tlbi_scope.specs.Takes.{taken}
use Rattle.bbm_rules.specs.Lists.{among, is_that}
use Rattle.bbm_rules.specs.Places.{index_of, page_of}
use Rattle.bbm_rules.specs.Prelude.{AsidFrom, FromTtbr0, FromTtbr1, Kind, El2, S2, Ttbr0, Ttbr1, Reg, Ttbr0El1}
use Rattle.bbm_rules.specs.Prelude.{Ttbr1El1, World, Hyp, Kernel, Scope, Heading, Event, Tlbi}
use Rattle.bbm_rules.specs.Reach.{Issued, reaches}
use Rattle.bbm_rules.specs.RegisterValues.{named_scope, register_values, tag_number, vmid_of}
use Rattle.bbm_rules.specs.Roots.{first_input_page, input_pages, page_count, start_of}
use Rattle.bbm_rules.specs.Tags.{reads}
use Rattle.bbm_rules.specs.Tree.{next_of}
use Rattle.bbm_rules.specs.Values.{is_readable}
use Rattle.bbm_tlb_machine.specs.Entry.{Entry, Part, age_for, head_of, is_given_up, parts_of, tag_of_entry}

-- Start: the first part of an entry.

-- the kind of the entries that are read through tables of a kind, and the VMID and the ASID that they have
abbrev pub entry_kind : Kind → EntryKind
entry_kind El2 = El2Entry
entry_kind S2 = Stage2
entry_kind Ttbr0 = El1
entry_kind Ttbr1 = El1

abbrev pub vmid_under : Kind → ℕ → ℕ
vmid_under S2 number = number
vmid_under _ number = 0

abbrev pub asid_under : Kind → ℕ → ℕ
asid_under Ttbr0 number = number
asid_under Ttbr1 number = number
asid_under _ number = 0

-- the first page of the root that has the place in one of its pages: a root is aligned to the size of all its pages
abbrev pub root_of : World → Kind → ℕ → ℕ
root_of world kind place = place / (4096 * page_count world kind) * (4096 * page_count world kind)

-- the ASIDs that are current at p: those of the readable values of the register that the header selects
abbrev pub asid_register : AsidFrom → Reg
asid_register FromTtbr0 = Ttbr0El1
asid_register FromTtbr1 = Ttbr1El1

abbrev pub current_asids : World → List Event → ℕ → List ℕ
current_asids (Kernel world) h p = map tag_number (register_values h p (asid_register world.asid_from))
current_asids (Hyp world) h p = []

-- whether an entry of the kind may have the number: none but 0 at EL2, a current ASID in the upper range; in the others
-- the number is in the tag
abbrev pub has_number : World → List Event → ℕ → Kind → ℕ → Bool
has_number world h p El2 number = number == 0
has_number world h p Ttbr1 number = among number (current_asids world h p)
has_number world h p _ number = true

-- Extend: one part more, in the page below the last part, one level deeper. All else stays, `since` and `joined` too.
abbrev pub next_part : Part → ℕ → ℕ → Part
next_part part place value = record {
  place = place;
  value = value;
  kind = part.kind;
  level = suc part.level;
  first = part.first + index_of place * input_pages (suc part.level);
}

abbrev pub extended : Entry → ℕ → ℕ → Entry
extended x place value = record x { last = next_part x.last place value; above = parts_of x }

-- Combine: a combined entry of a stage 2 entry, joined now. Its stage 1 part isn't logged and may be anything. What a
-- TLB joins from several stage 2 walks stands as one entry for each walk; that is the project's own choice.
abbrev pub is_stage2 : EntryKind → Bool
is_stage2 Stage2 = true
is_stage2 _ = false

abbrev pub combined : ℕ → Entry → Entry
combined now x = record x { kind = Combined; joined = now }

-- Share: an equal entry at another PE.
abbrev pub shared : Entry → ℕ → Entry
shared x p = record x { pe = p }

-- Older: it was there when so many events had been taken as before the TLBI.
abbrev pub is_older : Event → List Event → Entry → Bool
is_older (Tlbi pe op xt) before x = nat_le (age_for (family_of op) x) (length before)
is_older _ before x = false

-- whether a scope, where there is one, takes the entry under a VMID
abbrev pub takes_by : Option Scope → Option ℕ → Entry → Bool
takes_by None vmid x = false
takes_by (Some scope) vmid x = taken scope vmid (head_of x)

module _ (heading : Heading) where
  -- The first part. Its region is that of the place's index in all pages of the root together.
  abbrev pub first_part : Kind → ℕ → ℕ → Part
  first_part kind place value = record {
    place = place;
    value = value;
    kind = kind;
    level = start_of heading.world kind;
    first = first_input_page heading.world kind
        + (place - root_of heading.world kind place) / 8 * input_pages (start_of heading.world kind);
  }

  -- the entry that a start makes at p, after so many events, under a VMID or an ASID
  abbrev pub started : ℕ → ℕ → Kind → ℕ → ℕ → ℕ → Entry
  started now p kind number place value = record {
    pe = p;
    kind = entry_kind kind;
    vmid = vmid_under kind number;
    asid = asid_under kind number;
    root = root_of heading.world kind place;
    last = first_part kind place value;
    above = [];
    since = now;
    joined = 0;
  }

  -- Start: the entry's tag is readable at its PE for its root, which so is a declared root of the kind, and the kind
  -- one of the world; it may have the number; the value is readable at the PE, and valid at the level at which walks
  -- start.
  pub record Starts (h : List Event) (x : Entry) (number : ℕ) : Type 0 where
    pub tag : reads heading h x.pe (tag_of_entry x) x.root ≡ true
    pub numbered : has_number heading.world h x.pe x.last.kind number ≡ true
    pub readable : is_readable heading h x.last.place x.pe x.last.value ≡ true
    pub valid : is_valid x.last.kind x.last.level x.last.value ≡ true

  abbrev pub may_start : List Event → Entry → ℕ → Bool
  may_start h x number =
      reads heading h x.pe (tag_of_entry x) x.root && has_number heading.world h x.pe x.last.kind number
      && is_readable heading h x.last.place x.pe x.last.value && is_valid x.last.kind x.last.level x.last.value

  -- Extend: the entry's root wasn't given up since its first part was read, so that a walk of a root that was doesn't
  -- go on; the last part is a table, and the place in its next page; the value is readable at the entry's PE, and valid
  -- one level deeper. That a walk doesn't go on is a premise on the log, which `unflushed` makes.
  pub record Extends (h : List Event) (x : Entry) (place value : ℕ) : Type 0 where
    pub goes_on : is_given_up heading h x ≡ false
    pub below : is_that (next_of x.last.kind x.last.level x.last.value) (page_of place) ≡ true
    pub readable : is_readable heading h place x.pe value ≡ true
    pub valid : is_valid x.last.kind (suc x.last.level) value ≡ true

  abbrev pub may_extend : List Event → Entry → ℕ → ℕ → Bool
  may_extend h x place value =
      not (is_given_up heading h x) && is_that (next_of x.last.kind x.last.level x.last.value) (page_of place)
      && is_readable heading h place x.pe value && is_valid x.last.kind (suc x.last.level) value

  -- Share: TLBs may copy entries from one another, where the header says so, to any PE of the header.
  abbrev pub may_share : ℕ → Bool
  may_share p = heading.cnp && nat_lt p heading.pes

  -- Event: whether a TLBI must have taken the entry by the time that it is answered: it reaches the entry's PE, its
  -- scope takes the entry under the VMID that its issuer has at the issue, and the entry is older than the TLBI. A TLBI
  -- whose operand can't be decoded, or which needs a VMID where there are several, takes nothing; that is the project's
  -- choice.
  abbrev pub takes : Event → List Event → Entry → Bool
  takes (Tlbi pe op xt) before x = takes_by (named_scope heading before pe op xt) (vmid_of heading before pe) x
  takes _ before x = false

  abbrev pub must_go : Issued Event → Entry → Bool
  must_go t x = reaches heading t.tlbi x.pe && takes t.tlbi t.before x && is_older t.tlbi t.before x
