-- The parts of what a TLBI sees and covers, as the definitions of the rules have them, over an annotated history. No
-- public contract cites these words. Source: project's own choice.
use Rattle.std.specs.Option.{option_map_or}
use Rattle.std.specs.Prelude.{◌≡◌, ℕ, List, [], ◌∷◌, Option, Some, is_some, unwrap_or, flat_map, All}
use Rattle.bbm_descriptor.specs.Descriptor.{desc_of}
use Rattle.bbm_tlbi_scope.specs.declared.entry.Cover.{Cover}
use Rattle.bbm_tlbi_scope.specs.declared.entry.Cover.TheVariants.{None as NoCover}
use Rattle.bbm_tlbi_scope.specs.declared.entry.PlaceView.{PlaceView}
use Rattle.bbm_tlbi_scope.specs.ScopeCovers.{cover_of, top_of}
use Rattle.bbm_rules.specs.Prelude.{Heading, Event, Scope, Tlbi}
use Rattle.bbm_rules.specs.Claims.{Trust}
use Rattle.bbm_rules.specs.Covers.{is_global, view_at}
use Rattle.bbm_rules.specs.Lists.{◌>>=◌}
use Rattle.bbm_rules.specs.Notes.{Noted, events_of}
use Rattle.bbm_rules.specs.RegisterValues.{named_scope, vmid_of}
use Rattle.bbm_rules.specs.Tags.{tag_set, tags_of}
use Rattle.bbm_rules.specs.Tree.{Node, is_childless, next_of, region_of}
use Rattle.bbm_rules.specs.Values.{places_in}
use Rattle.bbm_oracle_patterns.specs.declared.kept.Covered.{Covered}
use Rattle.bbm_oracle_patterns.specs.declared.kept.Covering.{Covering}
use Rattle.bbm_oracle_patterns.specs.declared.kept.Covering.TheVariants.{Whole, Top}
use Rattle.bbm_oracle_trees.specs.declared.covers.RootTags.{RootTags}

-- the entry of a place that is covered so far; none where it isn't covered
abbrev pub entry_of : ℕ → Cover → List Covered
entry_of place NoCover = []
entry_of place cover = record { place = place; cover = cover } ∷ []

-- how far a TLBI of this scope, under this VMID, covers a place that it sees so, or what ends there
abbrev pub cover_by : Covering → Scope → Option ℕ → PlaceView → Cover
cover_by Whole scope vmid view = cover_of scope vmid view
cover_by Top scope vmid view = top_of scope vmid view

module _ (heading : Heading) (trust : Trust) (h : List Noted) where
  -- how a TLBI sees a place of a node that holds this value
  abbrev pub view_of : Node → ℕ → ℕ → PlaceView
  view_of n place value = record {
    kind = n.kind;
    region = region_of n place;
    level = n.level;
    table = is_some (next_of n.kind n.level value);
    global = is_global (desc_of n.kind n.level value);
    childless = is_childless heading trust h n value;
    tags = tag_set (tags_of heading trust n.root (events_of h));
  }

  module _ (covering : Covering) where
    -- how far a TLBI of this scope, under this VMID, covers a place
    abbrev pub cover_under : Scope → Option ℕ → ℕ → Cover
    cover_under scope vmid place = option_map_or (cover_by covering scope vmid) (view_at heading trust h place) NoCover

    -- its entry
    abbrev pub covered_under : Scope → Option ℕ → ℕ → List Covered
    covered_under scope vmid place = entry_of place (cover_under scope vmid place)

    -- the entries of the places of the page of a node
    abbrev pub covers_of_page : Scope → Option ℕ → Node → List Covered
    covers_of_page scope vmid n = flat_map (covered_under scope vmid) (places_in (events_of h) n.page)

    -- how far an event covers a place, as `cover_at` and `top_at` have it
    abbrev pub cover_for : Event → ℕ → Cover
    cover_for (Tlbi pe op xt) place = unwrap_or (do
      scope ← named_scope heading (events_of h) pe op xt
      view ← view_at heading trust h place
      Some (cover_by covering scope (vmid_of heading (events_of h) pe) view)) NoCover
    cover_for _ place = NoCover

-- each is the tag set of its root
abbrev pub AreTags : Heading → Trust → List Event → List RootTags → Type 0
AreTags heading trust h known = All (λ k. k.tags ≡ tag_set (tags_of heading trust k.root h)) known
