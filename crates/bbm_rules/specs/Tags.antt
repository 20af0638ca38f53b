-- Tags: under which a PE may read through a root, and which a root holds. A history is newest first.
-- Source: project's own choice, but where another is named.
use Rattle.std.specs.Prelude.{ℕ, suc, Bool, true, false, ◌&&◌, ◌||◌, not, nat_le, ◌==◌, List, [], ◌∷◌, ◌++◌, length}
use Rattle.std.specs.Prelude.{Option, Some, None, filter, filter_map, flat_map, if◌then◌else◌}
use Rattle.bbm_tlbi_scope.specs.declared.entry.TagSet.{TagSet}
use Rattle.bbm_tlbi_scope.specs.declared.entry.TagSet.TheVariants.{None as NoTag, One, Many}
use Rattle.bbm_tlbi_scope.specs.ScopeTags.{takes_whole_tag}
use Rattle.bbm_rules.specs.Prelude.{Barrier, AsidFrom, FromTtbr0, FromTtbr1, Reg, Ttbr0El2, VttbrEl2, Ttbr0El1}
use Rattle.bbm_rules.specs.Prelude.{Ttbr1El1, Tag, El2Tag, Vmid, Asid, Ttbr1Tag, World, Hyp, Kernel, Heading, Event}
use Rattle.bbm_rules.specs.Prelude.{Dsb, Tlbi}
use Rattle.bbm_events.specs.declared.claim.Claim.TheVariants.{Taken}
use Rattle.bbm_rules.specs.Claims.{Trust, allows, same_tag}
use Rattle.bbm_rules.specs.Lists.{◌>>=◌, any, below, if_so, some, some_pe}
use Rattle.bbm_rules.specs.Reach.{Issued, completes, reaches, unanswered}
use Rattle.bbm_rules.specs.RegisterValues.{Standing, base_of, kind_of_reg, named_scope, register_values, standings}
use Rattle.bbm_rules.specs.RegisterValues.{tag_number, vmid_of}
use Rattle.bbm_rules.specs.Roots.{gives_up, is_root}

-- a tag that is readable for a root
pub record Reading : Type 0 where
  pub tag : Tag
  pub root : ℕ

-- The readings that the readable values of a register give: the base of each, where it is a declared root of the
-- register's kind, under the tag of the value.
abbrev pub reading_of : List Event → Reg → (ℕ → Tag) → ℕ → Option Reading
reading_of h reg tag value =
    base_of value >>= (λ base. if_so (is_root h (kind_of_reg reg) base) (record { tag = tag value; root = base }))

abbrev pub readings_of : List Event → ℕ → Reg → (ℕ → Tag) → List Reading
readings_of h p reg tag = filter_map (reading_of h reg tag) (register_values h p reg)

-- the readings of a standing: the base of its value of TTBR0_EL1 under the ASID of its value of TTBR1_EL1
abbrev pub standing_reading : List Event → Standing → Option Reading
standing_reading h s = reading_of h Ttbr0El1 (λ value. Asid (tag_number s.second)) s.first

-- The ASID is that of a readable value of TTBR1_EL1; where the registers come into use in order, that of the same
-- readable standing.
abbrev pub second_readings : Bool → List Event → ℕ → List Reading
second_readings true h p = filter_map (standing_reading h) (standings h p)
second_readings false h p =
    flat_map (λ from. readings_of h p Ttbr0El1 (λ value. Asid (tag_number from))) (register_values h p Ttbr1El1)

-- the ASID is that of the same value of TTBR0_EL1, or as above
abbrev pub asid_readings : Bool → AsidFrom → List Event → ℕ → List Reading
asid_readings inorder FromTtbr0 h p = readings_of h p Ttbr0El1 (λ value. Asid (tag_number value))
asid_readings inorder FromTtbr1 h p = second_readings inorder h p

-- Readable tags at p: `El2` for the base of each readable value of TTBR0_EL2; `Vmid` of a readable value of
-- VTTBR_EL2 for its base; `Ttbr1` for the base of each readable value of TTBR1_EL1; `Asid` for the base of a
-- readable value of TTBR0_EL1, with the ASID of that value or of a readable value of TTBR1_EL1, as the header
-- says; under `inorder` with the ASID of TTBR1_EL1 in the same readable standing. Tags of the other world are never
-- readable.
-- Source: Arm ARM (DDI 0487), "Translation Lookaside Buffers", and TCR_EL1.A1 of "AArch64 System register
-- descriptions".
abbrev pub readings_in : Bool → World → List Event → ℕ → List Reading
readings_in inorder (Hyp world) h p =
    readings_of h p Ttbr0El2 (λ value. El2Tag) ++ readings_of h p VttbrEl2 (λ value. Vmid (tag_number value))
readings_in inorder (Kernel world) h p =
    asid_readings inorder world.asid_from h p ++ readings_of h p Ttbr1El1 (λ value. Ttbr1Tag)

-- an event of a history is its own event
abbrev pub itself : Event → Event
itself e = e

abbrev pub tag_for : ℕ → Reading → Option Tag
tag_for root r = if_so (r.root == root) r.tag

module _ (heading : Heading) where
  abbrev pub readings : List Event → ℕ → List Reading
  readings h p = readings_in heading.words.inorder heading.world h p

  -- whether the tag is readable at p for the root, and for some root
  abbrev pub reads : List Event → ℕ → Tag → ℕ → Bool
  reads h p tag root = any (λ r. same_tag r.tag tag && r.root == root) (readings h p)

  abbrev pub reads_for_some : List Event → ℕ → Tag → Bool
  reads_for_some h p tag = any (λ r. same_tag r.tag tag) (readings h p)

  -- whether it is readable at p for some root at some moment after the first n events
  abbrev pub read_since : ℕ → ℕ → Tag → List Event → Bool
  read_since n p tag h = some (λ e before. nat_le n (length before) && reads_for_some (e ∷ before) p tag) h

  -- Whole-tag TLBI: one that takes everything that a TLB keeps under the tag. It is issued under the VMID that its
  -- issuer then has. Source: Arm ARM (DDI 0487), "TLB maintenance instructions"; the term is the project's own choice.
  abbrev pub takes_tag : Event → List Event → Tag → Bool
  takes_tag (Tlbi pe op xt) before tag = elim (named_scope heading before pe op xt) [
    | None ↦ false
    | Some scope ↦ takes_whole_tag scope (vmid_of heading before pe) tag
  ]
  takes_tag _ before tag = false

  module _ (trust : Trust) where
    -- Tag taken away: by a whole-tag TLBI that reaches p and is answered, where the tag isn't readable at p for any
    -- root at any moment from its issue to its answer. This says whether the event, which comes after h, is that
    -- answer. Source: project's own choice, after Arm ARM (DDI 0487), "TLB maintenance instructions".
    abbrev pub is_taken_by : ℕ → Tag → ℕ → Barrier → List Event → Issued Event → Bool
    is_taken_by p tag q dsb h t = completes dsb t.tlbi && reaches heading t.tlbi p && takes_tag t.tlbi t.before tag
        && not (read_since (length t.before) p tag (Dsb q dsb ∷ h))
        && allows trust (Taken p tag (suc (length t.before)) (suc (length h)))

    abbrev pub loses : ℕ → Tag → Event → List Event → Bool
    loses p tag (Dsb q dsb) h = any (is_taken_by p tag q dsb h) (unanswered itself q h)
    loses p tag _ h = false

    -- Tag kept for a page, at p: it is readable there for the root of the page now, or it was kept before and the last
    -- event doesn't take it away. So a TLB of p may keep what it read through a root of the page under the tag: one
    -- that is declared, or one that was given up. Source: project's own choice, after Arm ARM (DDI 0487), "Translation
    -- Lookaside Buffers".
    abbrev pub kept_at : ℕ → ℕ → Tag → List Event → Bool
    kept_at p page tag [] = false
    kept_at p page tag (e ∷ h) = reads (e ∷ h) p tag page || (kept_at p page tag h && not (loses p tag e h))

    -- what ends the holding of a tag, but for a moment at which it is readable: the root is given up, or the tag taken
    -- away
    abbrev pub ends : ℕ → ℕ → Tag → Event → List Event → Bool
    ends p root tag e h = gives_up root e || loses p tag e h

    -- Tag held by a declared root, at p: it is readable there for the root now, or it was held before and the last
    -- event neither gives the root up nor takes the tag away.
    abbrev pub holds_at : ℕ → ℕ → Tag → List Event → Bool
    holds_at p root tag [] = false
    holds_at p root tag (e ∷ h) = reads (e ∷ h) p tag root || (holds_at p root tag h && not (ends p root tag e h))

    -- Tag left at p by a root that was given up: the last event gives up the root of this page, which held the tag, or
    -- the tag was left before and the last event doesn't take it away. A root that is declared on the page anew holds
    -- none of what an earlier one left.
    abbrev pub left_at : ℕ → ℕ → Tag → List Event → Bool
    left_at p page tag [] = false
    left_at p page tag (e ∷ h) =
        (left_at p page tag h || (gives_up page e && holds_at p page tag h)) && not (loses p tag e h)

    -- at some PE
    abbrev pub holds_tag : ℕ → Tag → List Event → Bool
    holds_tag root tag h = some_pe heading.pes (λ p. holds_at p root tag h)

    abbrev pub left_tag : ℕ → Tag → List Event → Bool
    left_tag page tag h = some_pe heading.pes (λ p. left_at p page tag h)

  -- the tags that were ever readable for the root, at any PE
  abbrev pub ever_read : ℕ → List Event → List Tag
  ever_read root [] = []
  ever_read root (e ∷ h) =
      flat_map (λ p. filter_map (tag_for root) (readings (e ∷ h) p)) (below heading.pes) ++ ever_read root h

-- each tag of the list once
abbrev pub distinct : List Tag → List Tag
distinct [] = []
distinct (tag ∷ tags) = if any (same_tag tag) tags then distinct tags else tag ∷ distinct tags

-- all tags that a root holds, each once
abbrev pub tags_of : Heading → Trust → ℕ → List Event → List Tag
tags_of heading trust root h = filter (λ tag. holds_tag heading trust root tag h) (distinct (ever_read heading root h))

-- how many there are
abbrev pub tag_set : List Tag → TagSet
tag_set [] = NoTag
tag_set (tag ∷ []) = One tag
tag_set (tag ∷ _ ∷ _) = Many
