-- The path of a place, by the node of its page.
use Rattle.bbm_replay.proofs.Common.{is_tracked, value_at, option_map, path_at, Path, Laws, IsAt, MayMeet}
use Rattle.bbm_replay.proofs.Common.{PartsStand, WritesTree, view_of, ReplayState, IsUnlocked, MayAdmit, core_in}
use Rattle.bbm_replay.proofs.Common.{state_at, PlaceMap, TreeIndex, Position, IsPathOf}
use Rattle.bbm_rules.proofs.Common.{◌≡◌, ℕ, ◌≤◌, ◌<◌, List, Option, Some, None, refl, sym, ap, arith, page_of, Heading}
use Rattle.bbm_rules.proofs.Common.{◌∙◌, Event, Node, Write, true, subst, Core, core_of}
use Rattle.bbm_page_map.specs.PageLists.{number_in}
use Rattle.bbm_place_map.specs.Map.{IsPosition}
use Rattle.bbm_tree_index.specs.Index.{node_in}
use Rattle.bbm_tree_index.specs.IndexAgreement.{HasNumber, SharesNumbers, is_sound}
use Rattle.bbm_replay.proofs.Cases.{some_or}
use Rattle.bbm_replay.proofs.Inside.{may_admit}

pub shallow : (heading : Heading) → Laws heading → (h : List Event) (p : ReplayState) → PartsStand p heading h → (place : ℕ) (path : Path)
    → IsAt p place path → path.level ≤ 3
shallow heading laws h p s place path at =
    let own = laws.neighbours.own h (view_of p.map p.index) (page_of place) at.0 s.told.nodes at.1 in
    let deep : at.0.level < 4 = own.1 in
    let same : path.level ≡ at.0.level = ap (λ (x : Path). x.level) at.2 in
    omega arith

-- what is asked of a write, at the place that was found
pub found_tree : ((heading : Heading) → Laws heading) → (p : ReplayState) (pe place v : ℕ) → MayMeet p (Write pe place v)
    → (at : ℕ) (path : Path) → IsAt p place path → at ≡ place → WritesTree p pe at v path
found_tree laws p pe place v m at path is same = subst (λ a. WritesTree p pe a v path) (sym same) (record {
  may = m;
  at = is;
  low = shallow m.0 (laws m.0) m.1 p m.2 place path is;
})

pub may_admit_found : ((heading : Heading) → Laws heading) → {old : ReplayState} {pe place v : ℕ} {own : Path}
    → WritesTree old pe place v own → IsUnlocked old (Write pe place v) → {at : ℕ} → at ≡ place → {path : Path}
    → IsAt old place path → (live held new : Option Core) → live ≡ core_of path.kind path.level (value_at old.map at)
    → held ≡ core_in (state_at old.map live at) → new ≡ core_of path.kind path.level v
    → MayAdmit old pe at v path held new
may_admit_found laws {old = old} {pe = pe} {place = place} {v = v} t unlocked {at = at} same {path = path} is live held new =
    may_admit (found_tree laws old pe place v t.may at path is same)
    (subst (λ a. IsUnlocked old (Write pe a v)) (sym same) unlocked) live held new

-- a page that isn't tracked is in no tree
pub untracked : (heading : Heading) (h : List Event) (p : ReplayState) → PartsStand p heading h → (page : ℕ)
    → (is_tracked p.map page ≡ true → ⊥) → node_in p.index page ≡ None
untracked heading h p s page k =
    some_or (node_in p.index page) (λ n e. absurd (k (s.told.apart.node_tracked page n e))) (λ e. e)

-- the path of a place, by the node of its page
pub found_at : (o : Option Node) (place : ℕ) (r : Option Path) (path : Path) → r ≡ Some path
    → r ≡ option_map (λ n. path_at n place) o → (n : Node) × (o ≡ Some n) × (path ≡ path_at n place)
found_at None place r path e k = absurd cc
found_at (Some n) place r path e k = (n, refl, cc)

pub none_at : (o : Option Node) (place : ℕ) (r : Option Path) → r ≡ None → r ≡ option_map (λ n. path_at n place) o → o ≡ None
none_at None place r e k = refl
none_at (Some n) place r e k = cc

-- the number of a position's page is that in the index
pub has_number : (map : PlaceMap) (index : TreeIndex) (position : Position) → SharesNumbers index map → IsPosition map position
    → HasNumber index position
unfolding IsPosition
has_number map index position same is =
    ap (λ (ps : List ℕ). number_in ps (page_of position.place)) (sym same) ∙ is

-- the level of the path of a place
pub low_path : (index : TreeIndex) (place : ℕ) (path : Path) → IsPathOf index place path → path.level ≤ 3
unfolding node_in
low_path index place path at =
    let deep : at.0.level < 4 = (is_sound index).roles.shallow (page_of place) at.0 at.1 in
    let same : path.level ≡ at.0.level = ap (λ (x : Path). x.level) at.2 in
    omega arith
