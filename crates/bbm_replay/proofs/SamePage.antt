-- A TLBI that names no pages covers the broken places of a page alike.
use Rattle.bbm_replay.proofs.Common.{Path, path_at, core_in, Marks, state_from, is_global_core, node_in, marks_at}
use Rattle.bbm_replay.proofs.Common.{value_at, PlaceMap, lacks_vmid, TreeIndex, NamedTlbi, Roots, notes}
use Rattle.bbm_replay.proofs.Common.{MayBeIssued}
use Rattle.bbm_rules.proofs.Common.{◌≡◌, ℕ, Option, Some, None, is_some, option_and_then, refl, Core, Desc, is_global}
use Rattle.bbm_rules.proofs.Common.{next_in, arith, Bool, cond, true, false, List, sym, ◌∙◌, ap, true≢false, core_of}
use Rattle.bbm_rules.proofs.Common.{desc_of, has_page, fits_place, Cover, PlaceView, TagSet, Patterns, cover_at}
use Rattle.bbm_rules.proofs.Common.{events_of, page_of, Heading, Event, TlbiOp, Tlbi, tag_set, tags_of, Node, held_at}
use Rattle.bbm_rules.proofs.Common.{is_childless, next_of, region_of}
use Rattle.bbm_tlbi_scope.specs.declared.entry.Cover.TheVariants.{None as NoCover}
use Rattle.bbm_descriptor.specs.Descriptor as descriptor
use Rattle.bbm_tree_index.specs.HeldCores as cores
use Rattle.bbm_tlbi_scope.specs.ScopeCovers as scopes
use Rattle.bbm_replay.proofs.Asking.{unpaged}
use Rattle.bbm_replay.proofs.Cases.{some_or}

pub table_is : (d : Desc) (c : Core) → descriptor.core_in d ≡ Some c
    → is_some (cores.next_in (Some c)) ≡ is_some (next_in d)
table_is d c k = grind arith

pub global_is : (d : Desc) (c : Core) → descriptor.core_in d ≡ Some c → is_global_core (Some c) ≡ is_global d
global_is d c k = grind arith

pub core_of_marks : (o : Option Core) (m : Option Marks) (x : Marks) → m ≡ Some x → core_in (state_from o m) ≡ Some x.core
core_of_marks o m x k = grind arith

pub held_of : (o : Option ℕ) (f : ℕ → Option Core) (c : Core) → option_and_then f o ≡ Some c
    → (v : ℕ) × (o ≡ Some v) × (f v ≡ Some c)
held_of None f c k = absurd cc
held_of (Some v) f c k = (v, refl, k)

-- what the table of covers is given of a place with this path
abbrev pub by_path : Path → Bool → Bool → Bool → TagSet → PlaceView
by_path path table global childless tags = record {
  kind = path.kind;
  region = path.region;
  level = path.level;
  table = table;
  global = global;
  childless = childless;
  tags = tags;
}

module _ {heading : Heading} {h : List Event} (ev : events_of (notes heading h) ≡ h) {map : PlaceMap} {index : TreeIndex}
    {state : Roots} {pe : ℕ} {op : TlbiOp} {xt : ℕ} {named : NamedTlbi}
    (m : MayBeIssued heading h map index state pe op xt named) where
  abbrev pub by_view : ℕ → Node → ℕ → PlaceView
  by_view a n v = by_path (path_at n a) (is_some (next_of n.kind n.level v)) (is_global (desc_of n.kind n.level v))
      (is_childless heading Patterns (notes heading h) n v) (tag_set (tags_of heading Patterns n.root h))

  -- what a place holds that is broken over a core
  pub held : (n : Node) (a : ℕ) → node_in index (page_of a) ≡ Some n → (x : Marks) → marks_at map a ≡ Some x
      → (v : ℕ) × (held_at heading Patterns (notes heading h) n a ≡ Some v) × (core_of n.kind n.level v ≡ Some x.core)
  held n a is x e = held_of (held_at heading Patterns (notes heading h) n a) (core_of n.kind n.level) x.core
      (sym (m.told.entries n a is).core ∙ core_of_marks (core_of n.kind n.level (value_at map a)) (marks_at map a) x e)

  pub view_covers : (n : Node) (a v : ℕ) → node_in index (page_of a) ≡ Some n
      → held_at heading Patterns (notes heading h) n a ≡ Some v → scopes.cover_of named.scope named.vmid (by_view a n v)
      ≡ cover_at heading Patterns (notes heading h) (Tlbi pe op xt) a
  view_covers n a v is value = cc (ev, m.names, m.vmid_is, sym (m.told.nodes (page_of a)) ∙ is, value)

  pub covers_as : (n : Node) (a v : ℕ) → node_in index (page_of a) ≡ Some n
      → held_at heading Patterns (notes heading h) n a ≡ Some v → (table global : Bool)
      → table ≡ is_some (next_of n.kind n.level v) → global ≡ is_global (desc_of n.kind n.level v)
      → scopes.cover_of named.scope named.vmid (record (by_view a n v) { table = table; global = global })
      ≡ cover_at heading Patterns (notes heading h) (Tlbi pe op xt) a
  covers_as n a v is value table global t g =
      ap (λ b. scopes.cover_of named.scope named.vmid (record (by_view a n v) { table = b; global = global })) t
      ∙ ap (λ b. scopes.cover_of named.scope named.vmid (record (by_view a n v) { global = b })) g
      ∙ view_covers n a v is value

  pub page_alike : has_page named.scope.family ≡ false → (a b : ℕ) → page_of a ≡ page_of b
      → is_some (marks_at map a) ≡ true → is_some (marks_at map b) ≡ true → cover_at heading Patterns (notes heading h) (Tlbi pe op xt) a
      ≡ cover_at heading Patterns (notes heading h) (Tlbi pe op xt) b
  page_alike unpage a b same broken broken' = some_or (node_in index (page_of a))
      (λ n is.
      let is' : node_in index (page_of b) ≡ Some n = sym (ap (node_in index) same) ∙ is in
      let x = is_marked (marks_at map a) broken in
      let y = is_marked (marks_at map b) broken' in
      let v = held n a is x.0 x.1 in
      let w = held n b is' y.0 y.1 in
      sym (view_covers n a v.0 is v.1)
      ∙ ap (λ (x : Cover). cond (lacks_vmid named.scope.vmid_scoped named.vmid) NoCover x)
      (unpaged named.scope named.vmid n.kind (region_of n a) n.level true true n.kind named.scope.family unpage
      (fits_place named.scope (by_view a n v.0)) (fits_place named.scope (by_view b n w.0)) (by_view a n v.0)
      (by_view b n w.0) refl)
      ∙ view_covers n b w.0 is' w.1)
      (λ is. absurd (true≢false (sym broken ∙ ap (λ (x : Option Marks). is_some x) (m.told.outside a is))))
    where
      is_marked : (o : Option Marks) → is_some o ≡ true → (x : Marks) × (o ≡ Some x)
      is_marked None k = absurd (true≢false (sym k))
      is_marked (Some x) k = (x, refl)
