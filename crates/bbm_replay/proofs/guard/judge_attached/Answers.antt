use Rattle.bbm_rules.proofs.Common.{◌≡◌, ℕ, List, Option, Some, None, sym, subst, Node}
use Rattle.bbm_replay.proofs.Common.{TreeIndex, PlaceMap, Broken, TableMapped, value_at}
use Rattle.bbm_tree_index.proofs.Leasts.{least_same}
use Rattle.bbm_tree_index.specs.Attaching.{IsLeast}
use Rattle.bbm_tree_index.specs.Index.{node_in}
use Rattle.bbm_tree_index.specs.LeastPages.{LeastOf}
use Rattle.bbm_tree_index.specs.Outputs.{BadTable, HasListed, Lists}
use Rattle.bbm_tree_index.specs.Paths.{starts_of}
use Rattle.bbm_tree_index.specs.declared.standing.AttachedPage.{AttachedPage}
use Rattle.bbm_replay.specs.Guarded.{IsAttached, IsBad, Passes, Refuses}
use Rattle.bbm_unmapped.specs.Unmapped.{free_in}
use Rattle.bbm_unmapped.specs.declared.unmapped.Unmapped.{Unmapped}
use Rattle.bbm_replay.proofs.Guarding.{bad_listed, listed_bad}
use Rattle.bbm_replay.proofs.guard.judge_attached.Goals as goal

-- the least bad page, of the nodes that are listed
bad_of : (index : TreeIndex) (map : PlaceMap) (starts : List Node) (list items : List AttachedPage) → list ≡ items
    → Lists (IsAttached index map starts) items → (u : Unmapped) (o : Option ℕ)
    → LeastOf (BadTable (HasListed list) (value_at map) (free_in u) (node_in index)) o
    → LeastOf (IsBad index map starts u) o
bad_of index map starts list items same lists u o k =
    least_same (BadTable (HasListed items) (value_at map) (free_in u) (node_in index)) (IsBad index map starts u) o
    (λ page. bad_listed (IsAttached index map starts) items lists (value_at map) page (free_in u) (node_in index))
    (λ page. listed_bad (IsAttached index map starts) items lists (value_at map) page (free_in u) (node_in index))
    (subst (λ (x : List AttachedPage). LeastOf (BadTable (HasListed x) (value_at map) (free_in u) (node_in index)) o)
    same k)

pub returns-in-Some-bad_table-clause-refuses : goal.returns-in-Some-bad_table-clause-refuses
returns-in-Some-bad_table-clause-refuses c at prepared named =
    let index = c.args.index.now in
    let map = c.args.map.now in
    let starts = starts_of index at in
    subst (λ (x : Option Unmapped). Refuses index map starts x (Broken TableMapped c.get.result)) (sym c.in-Some.is)
    (subst (λ (x : ℕ). IsLeast (IsBad index map starts c.in-Some.unmapped) x) (sym c.get.ensures.value)
    (bad_of index map starts c.deref.result.now c.in-Ok.pages.items c.deref.ensures.value
    (c.in-Ok.ensures at prepared named) c.in-Some.unmapped (Some c.in-Some-bad_table.page) c.in-Some-bad_table.ensures))

pub returns-in-None-clause-passes : goal.returns-in-None-clause-passes
returns-in-None-clause-passes c at prepared named =
    let index = c.args.index.now in
    let map = c.args.map.now in
    let starts = starts_of index at in
    let lists = c.in-Ok.ensures at prepared named in
    subst (λ (x : Option Unmapped). Passes index map starts x c.in-Ok.pages.items) (sym c.in-Some.is) (
      lists,
      bad_of index map starts c.deref.result.now c.in-Ok.pages.items c.deref.ensures.value lists c.in-Some.unmapped None
          c.in-None.ensures,
    )
