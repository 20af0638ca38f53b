-- What a TLBI covers, asked of the parts. Source: project's own choice.
use Rattle.std.specs.Prelude.{◌≡◌, ℕ, Bool, true, false, not, ◌&&◌, List, Option, Some, None, is_none, is_some}
use Rattle.std.specs.Prelude.{slice_get, IfSome, OnErr, OnOk, Result}
use Rattle.bbm_descriptor.specs.declared.desc.Core.{Core}
use Rattle.bbm_entry_state.specs.declared.marks.Marks.{Marks}
use Rattle.bbm_place_map.specs.Finds.{FoundAs, is_found}
use Rattle.bbm_entry_state.specs.EntryCalls.{Noted}
use Rattle.bbm_place_map.specs.Map.{marks_at, pends_at, restless_place}
use Rattle.bbm_place_map.specs.MapCalls.{IsSame, NotesOnly}
use Rattle.bbm_place_map.specs.States.{state_from}
use Rattle.bbm_place_map.specs.declared.found.Found.{Found}
use Rattle.bbm_place_map.specs.declared.map.PlaceMap.{PlaceMap}
use Rattle.bbm_regimes.specs.declared.regime.NoMemory.{NoMemory}
use Rattle.bbm_regimes.specs.declared.pe.PeMask.{PeMask}
use Rattle.bbm_regimes.specs.declared.regime.Kind.{Kind}
use Rattle.bbm_regimes.specs.declared.regime.Kind.TheVariants.{S2, Ttbr0}
use Rattle.bbm_tlbi_scope.specs.Operations.{has_page}
use Rattle.bbm_tlbi_scope.specs.ScopeCovers.{asid_matches, vmid_matches}
use Rattle.bbm_tlbi_scope.specs.declared.entry.Cover.{Cover}
use Rattle.bbm_tlbi_scope.specs.declared.entry.Cover.TheVariants.{None as NoCover}
use Rattle.bbm_tlbi_scope.specs.declared.entry.TagSet.{TagSet}
use Rattle.bbm_tlbi_scope.specs.declared.scope.Family.{Family}
use Rattle.bbm_tlbi_scope.specs.declared.scope.Family.TheVariants.{VmAll1, VmAll12, Ipa, Va, Asid}
use Rattle.bbm_tlbi_scope.specs.declared.scope.Scope.{Scope}
use Rattle.bbm_tree_index.specs.Index.{node_in}
use Rattle.bbm_tree_index.specs.Nodes.{path_at}
use Rattle.bbm_tree_index.specs.declared.index.TreeIndex.{TreeIndex}
use Rattle.bbm_tree_index.specs.declared.role.Path.{Path}
use Rattle.bbm_roots.specs.RootsStand as roots
use Rattle.bbm_roots.specs.declared.named.NamedTlbi.{NamedTlbi}
use Rattle.bbm_roots.specs.declared.roots.Roots.{Roots}
use Rattle.bbm_rules.specs.Claims.Trust.{Patterns}
use Rattle.bbm_rules.specs.Covers.{cover_at}
use Rattle.bbm_rules.specs.Places.{page_of}
use Rattle.bbm_rules.specs.Tree.{Node}
use Rattle.bbm_rules.specs.Prelude.{Heading, Event, Tlbi, TlbiOp}
use Rattle.bbm_rules.specs.RegisterValues.{named_scope, vmid_of}
use Rattle.bbm_replay_trees.specs.Told.{notes}
use Rattle.bbm_replay.specs.ReplayTold.{Told, view_of}
use Rattle.bbm_replay.specs.declared.tlbi_cover.Covering.{Covering}
use Rattle.bbm_replay.specs.declared.tlbi_cover.pages.PageCover.{PageCover}

-- the place is broken over this core
abbrev pub IsBrokenOver : PlaceMap → ℕ → Core → Type 0
IsBrokenOver map place core = (marks : Marks) × (marks_at map place ≡ Some marks) × (marks.core ≡ core)

-- The map, the index and the roots stand for the history, and this is what the TLBI names with the VMID of its issuer.
pub record MayBeIssued (heading : Heading) (h : List Event) (map : PlaceMap) (index : TreeIndex) (state : Roots)
    (pe : ℕ) (op : TlbiOp) (xt : ℕ) (named : NamedTlbi) : Type 0 where
  pub told : Told heading h (view_of map index)
  pub stands : roots.Stands state heading h
  pub names : named_scope heading h pe op xt ≡ Some named.scope
  pub vmid_is : named.vmid ≡ vmid_of heading h pe

-- the TLBI may be issued at the history, whose header this is
abbrev pub IssuesAt : PlaceMap → Covering → Heading → List Event → ℕ → TlbiOp → ℕ → Type 0
IssuesAt map by heading h pe op xt = (by.header.now ≡ heading)
    × MayBeIssued heading h map by.index.now by.roots.now pe op xt by.named.now

-- the place lies in a page of a tree, and this is its path
abbrev pub IsPathOf : TreeIndex → ℕ → Path → Type 0
IsPathOf index place path = (n : Node) × (node_in index (page_of place) ≡ Some n) × (path ≡ path_at n place)

-- each place that was found is covered as far as stands beside it
abbrev pub AreCovered : PlaceMap → Covering → List Found → Type 0
AreCovered map by found = (heading : Heading) (h : List Event) (pe : ℕ) (op : TlbiOp) (xt : ℕ)
    → IssuesAt map by heading h pe op xt
    → FoundAs found (cover_at heading Patterns (notes heading h) (Tlbi pe op xt))

-- a place is covered so far
abbrev pub IsCovered : PlaceMap → Covering → Cover → ℕ → Type 0
IsCovered map by cover a = (heading : Heading) (h : List Event) (pe : ℕ) (op : TlbiOp) (xt : ℕ)
    → IssuesAt map by heading h pe op xt → cover ≡ cover_at heading Patterns (notes heading h) (Tlbi pe op xt) a

-- each broken place of the page, if one is told, is covered as far as is told
abbrev pub CoversAlike : PlaceMap → Covering → Option PageCover → Type 0
CoversAlike map by alike = IfSome alike (λ (known : PageCover). (a : ℕ) → page_of a ≡ known.page
    → is_some (marks_at map a) ≡ true → IsCovered map by known.cover a)

-- each broken place has a number, by which stands how far it is covered
abbrev pub CoverEach : PlaceMap → Covering → List Cover → Type 0
CoverEach map by covers = (heading : Heading) (h : List Event) (pe : ℕ) (op : TlbiOp) (xt : ℕ)
    → IssuesAt map by heading h pe op xt → (a : ℕ) → is_some (marks_at map a) ≡ true
    → (i : ℕ) × (restless_place map i ≡ a)
    × (slice_get covers i ≡ Some (cover_at heading Patterns (notes heading h) (Tlbi pe op xt) a))

-- the place isn't covered where it is broken and not among what was found
abbrev pub IsSettled : PlaceMap → Covering → List Found → ℕ → Type 0
IsSettled map by found a = is_some (marks_at map a) ≡ true → is_found found a ≡ false → IsCovered map by NoCover a

-- what was found stays covered as said beside it, and among what is found
abbrev pub Grows : PlaceMap → Covering → List Found → List Found → Type 0
Grows map by old new = (AreCovered map by old → AreCovered map by new)
    × ((a : ℕ) → is_found old a ≡ true → is_found new a ≡ true)

-- The TLBI by a PE, which reaches these PEs, is noted at each broken place, as far as it covers it.
abbrev pub NotesEach : Covering → ℕ → PeMask → PlaceMap → PlaceMap → Type 0
NotesEach by pe reach old new = (heading : Heading) (h : List Event) (op : TlbiOp) (xt : ℕ)
    → IssuesAt old by heading h pe op xt → (a : ℕ) → is_some (marks_at old a) ≡ true
    → Noted (state_from None (marks_at old a)) (pends_at old pe a) reach by.named.now.scope.broadcast
    (cover_at heading Patterns (notes heading h) (Tlbi pe op xt) a) (pends_at new pe a)

-- what the issue of a TLBI by a PE, which reaches these PEs, leaves of a map
pub record IsNoted (by : Covering) (pe : ℕ) (reach : PeMask) (old new : PlaceMap) (result : Result (Unit {0}) NoMemory)
    : Type 0 where
  pub noted : OnOk result (NotesEach by pe reach old new)
  pub only : NotesOnly pe old new
  pub kept : OnErr result (IsSame old new)

-- whether the cover of a place that holds a table, or doesn't, depends on whether that is childless
abbrev pub asks_childless : Scope → Bool → Bool
asks_childless scope table = table && has_page scope.family && not scope.last_only && is_none scope.level

-- whether the cover of a place of this kind depends on the tags of its root
abbrev pub asks_tags : Family → Kind → Bool
asks_tags VmAll12 S2 = true
asks_tags Ipa S2 = true
asks_tags VmAll1 S2 = true
asks_tags Va Ttbr0 = true
asks_tags Asid Ttbr0 = true
asks_tags _ _ = false

-- neither the VMID nor the ASID of the TLBI is the only one of the tags
abbrev pub Mismatches : NamedTlbi → TagSet → Type 0
Mismatches named tags = (vmid_matches named.vmid tags ≡ false) × (asid_matches named.scope.asid tags ≡ false)
