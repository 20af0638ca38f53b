-- A plain conflict run at a place that holds a leaf is plain with the least reads of the way to the place, too, and these
-- come before its own, or are its own.
use Rattle.bbm_counterrun.proofs.Common.{Patterns, start_of, Entry, Part, parts_of, Begins, Chained, Fine}
use Rattle.bbm_counterrun.proofs.Common.{conflicts_with, is_stale, combined, HasLeastReads, PlansHaveLeastReads, Plan}
use Rattle.bbm_counterrun.proofs.Common.{Read, reads_of, run_of, made_by, holds_leaf, combined_by, first_events}
use Rattle.bbm_counterrun.proofs.Common.{is_plain, is_within, may_walk, outlives, started_by, walked_by, least_reads}
use Rattle.bbm_counterrun.proofs.Common.{way_to}
use Rattle.bbm_rules.proofs.Common.{◌≡◌, ℕ, ◌<◌, Bool, true, false, ◌&&◌, ◌==◌, List, [], ◌∷◌, ◌++◌, length, filter_map}
use Rattle.bbm_rules.proofs.Common.{reverse, Option, Some, None, inl, inr, refl, sym, ◌∙◌, ap, subst, and_from, not, not-true}
use Rattle.bbm_rules.proofs.Common.{and_parts, eqb-true, or_left, In, core_in, core_of, differ, keeps, noted, any}
use Rattle.bbm_rules.proofs.Common.{page_of, Heading, Event, Write, Node, node_of}
use Rattle.bbm_lemmas.proofs.Bools.{first_true}
use Rattle.bbm_lemmas.proofs.Elements.{contains_head}
use Rattle.bbm_tlb_machine.specs.Entry.{is_given_up}
use Rattle.bbm_counterrun.specs.Ways.{places_to}
use Rattle.bbm_counterrun.proofs.LeastGoals.{HasLeast, HaveGoals, all_least, first_if_least, goal_at}
use Rattle.bbm_counterrun.proofs.PlainTest.{number_by, plain_parts, plain_run}
use Rattle.bbm_counterrun.proofs.Sights.{LikeReads, Sight, outlives_same, plan_same, with_reads}
use Rattle.bbm_counterrun.proofs.WayParts.{IsOnWay, WayLaws, first_goal, is_leaf_there, kind_stays, last_is_stale}
use Rattle.bbm_counterrun.proofs.WayParts.{node_at, on_way, parts_stay, pe_stays, places_above, read_places, walk_goals}
use Rattle.bbm_counterrun.proofs.WayParts.{walk_places}

-- what is known of the entry that a walk leaves, where it is kept at the event
abbrev IsFineWalk : Heading → List Event → Entry → Type 0
IsFineWalk heading h x = (x.pe < heading.pes) × Begins heading x.root x.last x.above × Chained x.last x.above
    × ((q : Part) → In (parts_of x) q → IsOnWay heading h q)

-- whether the last part is stale
abbrev stale_in : ℕ → ℕ → Sight → Bool
stale_in place value s = s.0.last.place == place && differ (core_in s.1) (core_of s.0.last.kind s.0.last.level value)

conflict_is : (heading : Heading) (h : List Event) (pe place value : ℕ) (o : Option ℕ) (x : Entry)
    → conflicts_with heading h (Write pe place value) (combined_by o x)
    ≡ (not (is_given_up heading h x) && any (is_stale place value) (parts_of x))
conflict_is heading h pe place value None x = refl
conflict_is heading h pe place value (Some n) x = refl

module _ (heading : Heading) (laws : WayLaws heading) (h : List Event) (kept : keeps heading Patterns h ≡ true) where
  of_fine : (x : Entry) → Fine heading Patterns h x → is_given_up heading h x ≡ false → IsFineWalk heading h x
  of_fine x f stays = (f.shape.is_pe, f.shape.begins, f.shape.chained, on_way heading laws h kept x f stays)

  fine_walk : (o : Option ℕ) (x : Entry) → Fine heading Patterns h (combined_by o x) → is_given_up heading h x ≡ false
      → IsFineWalk heading h x
  fine_walk None x f stays = of_fine x f stays
  fine_walk (Some n) x f stays = of_fine (combined n x) f stays

  module _ (plan : Plan) (w : IsFineWalk heading h (walked_by heading plan)) where
    -- each read of the plan has its goal
    goals_of : may_walk heading (first_events plan.starts h) plan ≡ true
        → HaveGoals heading h (first_events plan.starts h) plan.pe plan.kind (start_of heading.world plan.kind) (reads_of plan)
    goals_of m =
        let first : List Event = first_events plan.starts h in
        let x : Entry = started_by heading plan in
        let a = and_parts _ _ m in
        let b = and_parts _ _ a.0 in (
          first_goal heading laws h kept first plan.pe x.last (w.3 x.last (parts_stay x plan.rest x.last (inl refl)))
              (and_parts _ _ b.0).1 b.1,
          walk_goals heading laws h kept first x plan.rest w.3 a.1,
        )

    module _ (pe place value : ℕ) (leaf : holds_leaf heading h place ≡ true)
        (stays : is_given_up heading h (walked_by heading plan) ≡ false)
        (meets : any (is_stale place value) (parts_of (walked_by heading plan)) ≡ true) where
      last_stale : is_stale place value (walked_by heading plan).last ≡ true
      last_stale =
          last_is_stale place value (walked_by heading plan).last (walked_by heading plan).above w.2
          (λ q i. is_leaf_there heading laws h kept place leaf q (w.3 q i)) meets

      last_there : (walked_by heading plan).last.place ≡ place
      last_there = eqb-true _ place (first_true _ _ last_stale)

      abbrev last_on : IsOnWay heading h (walked_by heading plan).last
      last_on = w.3 (walked_by heading plan).last (inl refl)

      node_there : node_of heading Patterns (noted heading Patterns h) (page_of place) ≡ Some last_on.node
      node_there = rw last_there at (node_at heading laws h kept (walked_by heading plan).last last_on)

      -- the places of the way are those of the reads
      way_is : way_to heading h place ≡ filter_map (goal_at heading h) (read_places (reads_of plan))
      way_is =
          let x : Entry = walked_by heading plan in
          let above = places_above heading laws h kept x.root x.last x.above w.1 w.2 (λ q i. w.3 q (inr i)) last_on in
          ap (λ (o : Option Node). filter_map (goal_at heading h) (places_to o place)) node_there
          ∙ (λ i. filter_map (goal_at heading h) (reverse (above i) ++ sym last_there i ∷ []))
          ∙ ap (filter_map (goal_at heading h)) (walk_places (started_by heading plan) plan.rest)

      -- the plan with these reads in place of its own
      plain_with : (l : Read) (ls : List Read)
          → LikeReads heading (first_events plan.starts h) plan.pe plan.kind (start_of heading.world plan.kind) (reads_of plan) (l ∷ ls)
          → is_within plan (length h) ≡ true → may_walk heading (first_events plan.starts h) plan ≡ true
          → outlives heading (walked_by heading plan) plan.starts plan.combines h ≡ true
          → is_plain heading h (Write pe place value) (record plan { first = l; rest = ls }) ≡ true
      plain_with l ls like within m out =
          let y : Entry = walked_by heading (with_reads heading plan l ls) in
          let same = plan_same heading (first_events plan.starts h) plan l ls like m in
          and_from _ _ (and_from _ _ (and_from _ _ within same.0)
          (sym (outlives_same heading (walked_by heading plan) y same.1 plan.starts plan.combines h) ∙ out))
          (conflict_is heading h pe place value plan.combines y
          ∙ and_from _ _ (ap not (sym (ap (λ (s : Sight). is_given_up heading h s.0) same.1) ∙ stays))
          (or_left (is_stale place value y.last) _ (sym (ap (stale_in place value) same.1) ∙ last_stale)))

      has_least : is_within plan (length h) ≡ true → may_walk heading (first_events plan.starts h) plan ≡ true
          → outlives heading (walked_by heading plan) plan.starts plan.combines h ≡ true
          → HasLeastReads heading h (Write pe place value) place plan
      has_least within m out = by least.reads least.are least.like
        where
          least : HasLeast heading h (first_events plan.starts h) plan.pe plan.kind (start_of heading.world plan.kind) (reads_of plan)
          least = all_least heading laws.cores h (first_events plan.starts h) plan.pe plan.kind (start_of heading.world plan.kind) (reads_of plan) (goals_of m)

          by : (ls : List Read)
              → least_reads heading (first_events plan.starts h) plan.pe (filter_map (goal_at heading h) (read_places (reads_of plan))) ≡ Some ls
              → LikeReads heading (first_events plan.starts h) plan.pe plan.kind (start_of heading.world plan.kind) (reads_of plan) ls
              → HasLeastReads heading h (Write pe place value) place plan
          by [] are like = absurd like
          by (l ∷ ls) are like = record {
            is_pe = subst (λ (p : ℕ). p < heading.pes) (pe_stays (started_by heading plan) plan.rest) w.0;
            node = last_on.node;
            node_is = node_there;
            kind = sym (last_on.kind ∙ kind_stays (started_by heading plan) plan.rest);
            first = l;
            rest = ls;
            reads = ap (least_reads heading (first_events plan.starts h) plan.pe) way_is ∙ are;
            plain = plain_with l ls like within m out;
            least = λ next e. first_if_least heading (first_events plan.starts h) plan.pe plan.kind (start_of heading.world plan.kind)
                (reads_of plan) (l ∷ ls) next like e;
          }

pub least_list : (heading : Heading) → WayLaws heading → PlansHaveLeastReads heading
least_list heading laws h pe place value plan is_log kept leaf k =
    let x : Entry = walked_by heading plan in
    let a = plain_parts heading h (Write pe place value) plan k in
    let f : Fine heading Patterns h (combined_by plan.combines x)
    = laws.fine.fine (reverse (run_of plan (reverse h))) _ is_log kept (plain_run heading laws.runs h (Write pe place value) plan k)
    (record { number = number_by plan.combines (made_by plan); entry = combined_by plan.combines x }) (contains_head [] _) in
    let c = and_parts (not (is_given_up heading h x)) _ (sym (conflict_is heading h pe place value plan.combines x) ∙ a.3) in
    let stays : is_given_up heading h x ≡ false = not-true (is_given_up heading h x) c.0 in
    has_least heading laws h kept plan (fine_walk heading laws h kept plan.combines x f stays) pe place value leaf stays c.1
    a.0 a.1 a.2
