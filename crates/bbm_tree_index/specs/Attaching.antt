-- Whether pages can be attached. Source: project's own choice.
use Rattle.std.specs.Prelude.{◌≡◌, ℕ, ◌+◌, ◌<◌, ◌≤◌, ◌⊎◌, Bool, true, false, ◌&&◌, List, [], length, Some}
use Rattle.std.specs.Prelude.{Contains, Result, Ok, Err}
use Rattle.bbm_descriptor.specs.Descriptor.{desc_of}
use Rattle.bbm_descriptor.specs.declared.desc.Desc.{Desc}
use Rattle.bbm_events.specs.Fits.{is_root_page}
use Rattle.bbm_regimes.specs.SameRegister.{same_kind}
use Rattle.bbm_regimes.specs.World.{kind_in_world}
use Rattle.bbm_regimes.specs.declared.regime.Kind.{Kind}
use Rattle.bbm_regimes.specs.declared.regime.Kind.TheVariants.{Ttbr0}
use Rattle.bbm_rules.specs.Attach.{End}
use Rattle.bbm_rules.specs.Covers.{is_global}
use Rattle.bbm_rules.specs.Places.{page_of}
use Rattle.bbm_rules.specs.Rules.{is_contiguous}
use Rattle.bbm_rules.specs.Tree.{Node}
use Rattle.bbm_tree_index.specs.HeldCores.{is_at}
use Rattle.bbm_tree_index.specs.Index.{heading_of, node_in}
use Rattle.bbm_tree_index.specs.Paths.{Leads}
use Rattle.bbm_tree_index.specs.declared.fault.TreeFault.{TreeFault}
use Rattle.bbm_tree_index.specs.declared.fault.TreeFault.TheVariants.{NoMemory, Limit, NotFresh, BadKind, GlobalUser}
use Rattle.bbm_tree_index.specs.declared.index.TreeIndex.{TreeIndex}
use Rattle.bbm_tree_index.specs.declared.role.Attach.{Attach}
use Rattle.bbm_tree_index.specs.declared.role.Attach.TheVariants.{Root, Below}

-- What may be judged: a root of a kind of the world, with a first page that is aligned to the size of all its pages, or
-- a place of a tree at a level below 3.
abbrev pub MayJudge : TreeIndex → Attach → Type 0
MayJudge index (Root kind first) = (kind_in_world (heading_of index).world kind ≡ true)
    × (is_root_page (heading_of index).world kind first ≡ true)
MayJudge index (Below place next) = (n : Node) × (node_in index (page_of place) ≡ Some n) × (n.level < 3)

-- whether the named pages are judged by another rule: those of a root
abbrev pub names_pages : Attach → Bool
names_pages (Root kind first) = true
names_pages (Below place next) = false

-- it passes, and no lesser number does
pub record IsLeast (passes : ℕ → Type 0) (n : ℕ) : Type 0 where
  pub that : passes n
  pub least : (m : ℕ) → passes m → n ≤ m

abbrev pub Never : (ℕ → Type 0) → Type 0
Never passes = (m : ℕ) → passes m → ⊥

-- a leaf with the Contiguous hint, and a leaf for every ASID in a tree of the lower range
abbrev pub is_bad : Kind → Desc → Bool
is_bad kind desc = is_contiguous kind desc

abbrev pub is_user_global : Kind → Desc → Bool
is_user_global kind desc = same_kind kind Ttbr0 && is_global desc

module _ (fresh : ℕ → Bool) (value : ℕ → ℕ) (starts : List Node) where
  -- a path from a start, above level 4
  pub record IsPath (start : Node) (places : List ℕ) (end : End) : Type 0 where
    pub is_start : Contains starts start
    pub within : start.level + length places < 4
    pub leads : Leads fresh value start.kind start.level start.page places end

  -- a path ends in the page, which isn't fresh; where the named pages are judged elsewhere, one of at least one place
  pub record UnfreshEnd (named : Bool) (page : ℕ) : Type 0 where
    pub start : Node
    pub places : List ℕ
    pub end : End
    pub path : IsPath start places end
    pub ends : end.page ≡ page
    pub unfresh : fresh page ≡ false
    pub judged : named ≡ true → places ≡ [] → ⊥

  -- two different paths end in the page
  pub record EndsTwice (page : ℕ) : Type 0 where
    pub start : Node
    pub places : List ℕ
    pub end : End
    pub path : IsPath start places end
    pub ends : end.page ≡ page
    pub other_start : Node
    pub other_places : List ℕ
    pub other_end : End
    pub other_path : IsPath other_start other_places other_end
    pub other_ends : other_end.page ≡ page
    pub differ : start.page ≡ other_start.page → places ≡ other_places → ⊥

  abbrev pub IsUnfresh : Bool → ℕ → Type 0
  IsUnfresh named page = UnfreshEnd named page ⊎ EndsTwice page

  -- a place of the last page of a path has a descriptor that passes the test
  pub record HasPlace (test : Kind → Desc → Bool) (place : ℕ) : Type 0 where
    pub start : Node
    pub places : List ℕ
    pub end : End
    pub path : IsPath start places end
    pub inside : is_at end.page place ≡ true
    pub passes : test start.kind (desc_of start.kind end.level (value place)) ≡ true

  -- The answer of a judge: the least page that breaks not-fresh, else the least place that breaks bad-kind, else the
  -- least place that breaks global-user, else Ok; or want of memory.
  abbrev pub Judges : {A : Type 0} → Bool → Result A TreeFault → Type 0
  Judges named (Ok done) = Never (IsUnfresh named) × Never (HasPlace is_bad) × Never (HasPlace is_user_global)
  Judges named (Err (NotFresh page)) = IsLeast (IsUnfresh named) page
  Judges named (Err (BadKind place)) = Never (IsUnfresh named) × IsLeast (HasPlace is_bad) place
  Judges named (Err (GlobalUser place)) = Never (IsUnfresh named) × Never (HasPlace is_bad)
      × IsLeast (HasPlace is_user_global) place
  Judges named (Err NoMemory) = Unit {0}
  Judges named (Err (Limit which)) = ⊥
