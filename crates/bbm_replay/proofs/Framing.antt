-- The parts after an event, by what their objects say.
use Rattle.bbm_replay.proofs.Common.{Rule, Broken, takes_no_memory, broken, IsSame, SamePages, SameTracked}
use Rattle.bbm_replay.proofs.Common.{IsFrugal, waits, Pends, PlaceMap, TreeIndex, Laws, MayMeet, Meets, SameFrame}
use Rattle.bbm_replay.proofs.Common.{PartsStand, view_of, ReplayState, StepFault, NoMemory, Told}
use Rattle.bbm_rules.proofs.Common.{Some, ◌≡◌, ℕ, true, false, List, ◌∷◌, Option, None, Result, Ok, Err, sym, ◌∙◌, ap}
use Rattle.bbm_rules.proofs.Common.{length, subst}
use Rattle.bbm_rules.proofs.Common.{fits_heading, Answers, rewrites, limit_of, Patterns, Heading, Event}
use Rattle.bbm_roots.specs.RootsStand as roots
use Rattle.bbm_tree_index.specs.Index.{pages_in}
use Rattle.bbm_replay_trees.specs.TreeEvents.{may_map}
use Rattle.bbm_replay.specs.Guarded.{Guarded}
use Rattle.bbm_unmapped.specs.declared.unmapped.Unmapped.{Unmapped}
use Rattle.bbm_replay.proofs.Guarding.{guard_next, guard_stays}
use Rattle.bbm_replay.proofs.Moves.{Same, tracked_alike}
use Rattle.bbm_replay.proofs.Quiet.{told_same}

-- where it stays, and so do the tracked pages
pub guard_left : (old new : ReplayState) → new.unmapped ≡ old.unmapped → pages_in new.index ≡ pages_in old.index
    → (heading : Heading) (h : List Event) → Guarded old.unmapped old.index heading h
    → Guarded new.unmapped new.index heading h
guard_left old new same pages heading h g =
    subst (λ (x : Option Unmapped). Guarded x new.index heading h) (sym same)
    (guard_stays old.unmapped old.index new.index heading h pages g)

-- an event that is taken, which fits the header
pub meets_ok : {old new : ReplayState} (e : Event) {u : Unit {0}} → MayMeet old e → SameFrame old new
    → ((heading : Heading) (h : List Event) → PartsStand old heading h → fits_heading heading e ≡ true
    → (broken heading Patterns h e ≡ None) × (limit_of h e ≡ None) × Told heading (e ∷ h) (view_of new.map new.index)
    × roots.Stands new.roots heading (e ∷ h) × Guarded new.unmapped new.index heading (e ∷ h)) → Meets old new e (Ok u)
meets_ok {old = old} e m frame next = record {
  judged = λ heading h s. let n = next heading h s (fits heading h s) in (n.0, n.1);
  taken = λ heading h s.
      let n = next heading h s (fits heading h s) in
      record {
        header = frame.header ∙ s.header;
        index_header = frame.index_header ∙ s.index_header;
        numbers = frame.numbers s.numbers;
        told = n.2;
        roots = n.3;
        guarded = n.4;
      };
  unchanged = tt;
  frugal = tt;
}
  where
    fits : (heading : Heading) (h : List Event) → PartsStand old heading h → fits_heading heading e ≡ true
    fits heading h s = subst (λ (x : Heading). fits_heading x e ≡ true) (sym m.2.header ∙ s.header) m.3

-- one that maps nothing
pub meets_left : ((heading : Heading) → Laws heading) → {old new : ReplayState} (e : Event) {u : Unit {0}}
    → may_map e ≡ false → MayMeet old e → SameFrame old new → new.unmapped ≡ old.unmapped
    → pages_in new.index ≡ pages_in old.index
    → ((heading : Heading) (h : List Event) → PartsStand old heading h → fits_heading heading e ≡ true
    → (broken heading Patterns h e ≡ None) × (limit_of h e ≡ None) × Told heading (e ∷ h) (view_of new.map new.index)
    × roots.Stands new.roots heading (e ∷ h)) → Meets old new e (Ok u)
meets_left laws {old = old} {new = new} e idle m frame same pages next = meets_ok e m frame (λ heading h s fits.
    let n = next heading h s fits in (
      n.0,
      n.1,
      n.2,
      n.3,
      guard_next (laws heading) s.told e idle n.0 new.unmapped new.index
          (guard_left old new same pages heading h s.guarded),
    ))

-- an event that may take memory
pub frugal_else : (p : ReplayState) (e : Event) (r : Result (Unit {0}) StepFault)
    → ((heading : Heading) (h : List Event) → PartsStand p heading h
    → (takes_no_memory e ≡ false) × (rewrites heading h e ≡ false)) → IsFrugal p e r
frugal_else p e (Err NoMemory) k = k
frugal_else p e r k = tt

-- one that isn't taken
pub meets_err : {old new : ReplayState} (e : Event) (fault : StepFault)
    → ((heading : Heading) (h : List Event) → PartsStand old heading h
    → Answers (Err fault) (broken heading Patterns h e) (limit_of h e))
    → ((heading : Heading) (h : List Event) → PartsStand old heading h → PartsStand new heading h)
    → ((heading : Heading) (h : List Event) → PartsStand old heading h
    → (takes_no_memory e ≡ false) × (rewrites heading h e ≡ false)) → Meets old new e (Err fault)
meets_err {old = old} e fault judged same spends =
    record { judged = judged; taken = tt; unchanged = same; frugal = frugal_else old e (Err fault) spends }

-- an event that breaks a rule
pub meets_broken : (p : ReplayState) (e : Event) (rule : Rule) (at : ℕ)
    → ((heading : Heading) (h : List Event) → PartsStand p heading h
    → broken heading Patterns h e ≡ Some (record { rule = rule; at = at })) → Meets p p e (Err (Broken rule at))
meets_broken p e rule at k = record { judged = k; taken = tt; unchanged = λ heading h s. s; frugal = tt }

-- the parts, where no more than what is kept of the pages that leaves map changed
pub stands_guarded : (old : ReplayState) (kept : Option Unmapped) (heading : Heading) (h : List Event)
    → Guarded kept old.index heading h → PartsStand old heading h
    → PartsStand (record old { unmapped = kept }) heading h
stands_guarded old kept heading h guarded s = record {
  header = s.header;
  index_header = s.index_header;
  numbers = s.numbers;
  told = s.told;
  roots = s.roots;
  guarded = guarded;
}

pub stands_still : ((heading : Heading) → Laws heading) → (old new : ReplayState) → SameFrame old new
    → Same (view_of old.map old.index) (view_of new.map new.index)
    → (heading : Heading) (h : List Event) → PartsStand old heading h → roots.Stands new.roots heading h
    → Guarded new.unmapped new.index heading h → PartsStand new heading h
stands_still laws old new frame same heading h s roots guarded = record {
  header = frame.header ∙ s.header;
  index_header = frame.index_header ∙ s.index_header;
  numbers = frame.numbers s.numbers;
  told = told_same (laws heading) s.told same;
  roots = roots;
  guarded = guarded;
}

-- nothing changed, by the records of the map and of the index
pub same_of : (m m' : PlaceMap) (i i' : TreeIndex) → IsSame m m' → SamePages i i' → SameTracked i i'
    → Same (view_of m i) (view_of m' i')
same_of m m' i i' map pages tracked = record {
  map = record { value = map.values; marks = map.marks; pends = λ q a b c p. ap (λ (x : Pends). waits x b c p) (map.pends q a) };
  nodes = pages.node;
  roles = record { fresh = pages.fresh; null = pages.null };
  tracking = record { tracked = tracked_alike m m' map.pages; known = tracked.known; pages = ap length tracked.pages };
}
