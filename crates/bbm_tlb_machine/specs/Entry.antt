-- What a TLB keeps: an entry, made by reading descriptors one after the other, from a root down.
-- Source: Arm ARM (DDI 0487), "Translation Lookaside Buffers"; the form of an entry is the project's own choice.
use Rattle.std.specs.Prelude.{ℕ, ◌+◌, ◌-◌, Bool, true, false, ◌&&◌, List, ◌∷◌}
use Rattle.bbm_regimes.specs.Extent.{Extent}
use Rattle.bbm_descriptor.specs.Descriptor.{desc_of}
use Rattle.bbm_descriptor.specs.declared.desc.Desc.{Desc}
use Rattle.bbm_descriptor.specs.declared.desc.Desc.TheVariants.{Leaf}
use Rattle.bbm_tlbi_scope.specs.declared.entry.EntryHead.{EntryHead}
use Rattle.bbm_tlbi_scope.specs.declared.entry.EntryKind.{EntryKind}
use Rattle.bbm_tlbi_scope.specs.declared.entry.EntryKind.TheVariants.{Combined}
use Rattle.bbm_tlbi_scope.specs.declared.scope.Family.{Family}
use Rattle.bbm_tlbi_scope.specs.declared.scope.Family.TheVariants.{VmAll1}
use Rattle.bbm_tlbi_scope.specs.Agreement.{tag_of}
use Rattle.bbm_rules.specs.Covers.{is_global}
use Rattle.bbm_rules.specs.Prelude.{Heading, Event, Kind, Tag}
use Rattle.bbm_rules.specs.Roots.{given_up_since, input_pages}

-- Part: a descriptor as it was read: its place, the value that was read, the kind and the level at which it was read,
-- and the first input page that its place translates.
pub record Part : Type 0 where
  pub place : ℕ
  pub value : ℕ
  pub kind : Kind
  pub level : ℕ
  pub first : ℕ

-- Entry: the PE whose TLB keeps it; its kind; the VMID and the ASID under which it was made, 0 where its kind has none;
-- the first page of its root; its parts, the last read apart, and those above it, the nearest first. `since` is how
-- many events were taken before its first part was read, and `joined` how many before a combined entry was joined, else
-- 0.
pub record Entry : Type 0 where
  pub pe : ℕ
  pub kind : EntryKind
  pub vmid : ℕ
  pub asid : ℕ
  pub root : ℕ
  pub last : Part
  pub above : List Part
  pub since : ℕ
  pub joined : ℕ

abbrev pub parts_of : Entry → List Part
parts_of x = x.last ∷ x.above

-- what the value of a part means, and the input pages that its place translates
abbrev pub desc_in : Part → Desc
desc_in part = desc_of part.kind part.level part.value

abbrev pub region_in : Part → Extent
region_in part = record { lo = part.first; hi = part.first + input_pages part.level - 1 }

abbrev pub is_leaf : Desc → Bool
is_leaf (Leaf out attrs share global contiguous) = true
is_leaf _ = false

-- Head: what a TLBI sees of an entry. Region, level, and whether it is a leaf and global are those of the last part.
abbrev pub head_of : Entry → EntryHead
head_of x = record {
  kind = x.kind;
  vmid = x.vmid;
  asid = x.asid;
  region = region_in x.last;
  last = is_leaf (desc_in x.last);
  level = x.last.level;
  global = is_global (desc_in x.last);
}

-- Tag: that of the kind of tables that it was read through, with its VMID or its ASID.
abbrev pub tag_of_entry : Entry → Tag
tag_of_entry x = tag_of x.last.kind (head_of x)

-- Age, for a TLBI of a family: for one of all stage 1 entries of a VMID a combined entry is as old as its joining,
-- since its stage 1 part may be so young; else an entry is as old as its first part.
abbrev pub age_by : Family → EntryKind → ℕ → ℕ → ℕ
age_by VmAll1 Combined since joined = joined
age_by _ _ since joined = since

abbrev pub age_for : Family → Entry → ℕ
age_for family x = age_by family x.kind x.since x.joined

-- Given up: under `unflushed`, whether the entry's root was given up since the first part was read. A root that is
-- declared on the same page anew is another one.
abbrev pub is_given_up : Heading → List Event → Entry → Bool
is_given_up heading h x = heading.words.unflushed && given_up_since x.since x.root h
