-- How far a TLBI covers each place at its issue, and the history annotated with it. Source: project's own choice.
use Rattle.std.specs.Prelude.{ℕ, suc, Bool, false, List, [], ◌∷◌, length, Option, Some, is_some, unwrap_or}
use Rattle.bbm_descriptor.specs.Descriptor.{desc_of}
use Rattle.bbm_descriptor.specs.declared.desc.Desc.{Desc}
use Rattle.bbm_descriptor.specs.declared.desc.Desc.TheVariants.{Leaf}
use Rattle.bbm_tlbi_scope.specs.declared.entry.Cover.{Cover}
use Rattle.bbm_tlbi_scope.specs.declared.entry.Cover.TheVariants.{None as NoCover}
use Rattle.bbm_tlbi_scope.specs.declared.entry.PlaceView.{PlaceView}
use Rattle.bbm_tlbi_scope.specs.ScopeCovers.{cover_of, top_of}
use Rattle.bbm_rules.specs.Prelude.{Heading, Event, Tlbi}
use Rattle.bbm_rules.specs.Claims.{Trust}
use Rattle.bbm_rules.specs.Lists.{◌>>=◌}
use Rattle.bbm_rules.specs.Notes.{Noted, events_of}
use Rattle.bbm_rules.specs.Places.{page_of}
use Rattle.bbm_rules.specs.RegisterValues.{named_scope, vmid_of}
use Rattle.bbm_rules.specs.Tags.{tag_set, tags_of}
use Rattle.bbm_rules.specs.Tree.{held_at, is_childless, next_of, node_of, region_of}

-- whether a descriptor is a leaf for every ASID
abbrev pub is_global : Desc → Bool
is_global (Leaf out attrs share global contiguous) = global
is_global _ = false

module _ (heading : Heading) (trust : Trust) where
  module _ (h : List Noted) where
    -- How a TLBI sees a place; None where it is in no tree or holds nothing. The tags are those that the root of the
    -- place holds at any PE.
    abbrev pub view_at : ℕ → Option PlaceView
    view_at place = do
      n ← node_of heading trust h (page_of place)
      value ← held_at heading trust h n place
      Some (record {
        kind = n.kind;
        region = region_of n place;
        level = n.level;
        table = is_some (next_of n.kind n.level value);
        global = is_global (desc_of n.kind n.level value);
        childless = is_childless heading trust h n value;
        tags = tag_set (tags_of heading trust n.root (events_of h));
      })

    -- Cover: how far an event that comes after h covers a place: a TLBI as its scope says, under the VMID that its
    -- issuer then has. It covers nothing where its operand can't be decoded, where it needs a VMID and there are
    -- several, and where the place is in no tree or holds nothing.
    -- Source: Arm ARM (DDI 0487), "TLB maintenance instructions".
    abbrev pub cover_at : Event → ℕ → Cover
    cover_at (Tlbi pe op xt) place = unwrap_or (do
      scope ← named_scope heading (events_of h) pe op xt
      view ← view_at place
      Some (cover_of scope (vmid_of heading (events_of h) pe) view)) NoCover
    cover_at _ place = NoCover

    -- Top cover: how far it covers an entry that ends in what the place holds. It is the cover of the place, but a held
    -- table is seen as if it were childless: the interval of the scope has to meet its region, and not to name all of
    -- it. So a TLBI for the last level alone, or with a level hint, is no top cover of a table.
    abbrev pub top_at : Event → ℕ → Cover
    top_at (Tlbi pe op xt) place = unwrap_or (do
      scope ← named_scope heading (events_of h) pe op xt
      view ← view_at place
      Some (top_of scope (vmid_of heading (events_of h) pe) view)) NoCover
    top_at _ place = NoCover

    -- the event with its notes, by those of the events before it
    abbrev pub note : Event → Noted
    note e = record { event = e; covers = cover_at e; tops = top_at e; position = suc (length h) }

  -- The annotated history: each event with how far it covers each place.
  abbrev pub noted : List Event → List Noted
  noted [] = []
  noted (e ∷ h) = note (noted h) e ∷ noted h
