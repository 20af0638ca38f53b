use Rattle.bbm_roots.proofs.Common.{same_swapped, ◌≡◌, ◌∙◌, ap, sym, refl, nat_eq, ◌==◌, Bool, List, [], ◌∷◌, true, false}
use Rattle.bbm_roots.proofs.Common.{Heading, Event, register_values, readings, load_in, loads_after, arith, cond, ℕ}
use Rattle.bbm_roots.proofs.Common.{Tag, Reg, is_reading, is_of_tag, newest, first_reg, second_reg, take, list_any}
use Rattle.bbm_roots.proofs.Common.{Patterns, RootValue, Reading, firsts_after, in_order, reading_world, standing_in, standings_after}
use Rattle.bbm_rules.specs.RegisterValues.{standings}
use Rattle.bbm_events.specs.declared.event.Event.TheVariants.{Isb}
use Rattle.bbm_roots.proofs.Flat.{readings-isb}
use Rattle.bbm_roots.proofs.Readable.{newest-map, readings-same}
use Rattle.bbm_roots.proofs.Steps.{holds-stay, left-stay, waits-stay}
use Rattle.bbm_histories.proofs.Induction.{kept_next}
use Rattle.bbm_roots.proofs.Judge.{broken_isb, of_state}
use Rattle.bbm_roots.proofs.roots.Roots.isb.Goals as goal

module _ (h : List Event) (pe : ℕ) where
  loads-isb : (p : ℕ) (reg : Reg) → loads_after (Isb pe ∷ h) p reg
      ≡ cond (nat_eq p pe) (newest (loads_after h p reg)) (loads_after h p reg)
  loads-isb p reg =
      let swapped = same_swapped pe p in
      let newest_of = newest-map (load_in h reg) (register_values h p reg) in
      grind (arith)

  standings-isb : (p : ℕ) → standings_after (Isb pe ∷ h) p ≡ cond (nat_eq p pe) (newest (standings_after h p)) (standings_after h p)
  standings-isb p =
      let swapped = same_swapped pe p in
      let newest_of = newest-map (standing_in h) (standings h p) in
      grind (arith)

  module _ (heading : Heading) (p : ℕ) where
    firsts-isb : firsts_after heading (Isb pe ∷ h) p ≡ cond (nat_eq p pe) (newest (firsts_after heading h p)) (firsts_after heading h p)
    firsts-isb = by (in_order heading)
      where
        by : (b : Bool) → cond b (standings_after (Isb pe ∷ h) p) (loads_after (Isb pe ∷ h) p (first_reg heading.world))
            ≡ cond (nat_eq p pe) (newest (cond b (standings_after h p) (loads_after h p (first_reg heading.world))))
            (cond b (standings_after h p) (loads_after h p (first_reg heading.world)))
        by true = standings-isb p
        by false = loads-isb p (first_reg heading.world)

    less : (t : Reading → Bool) → list_any t (readings heading (Isb pe ∷ h) p) ≡ true → list_any t (readings heading h p) ≡ true
    less t e =
        ap (list_any t) (sym (readings-same heading h p))
        ∙ readings-isb t (reading_world heading) (nat_eq p pe) (firsts_after heading h p) (loads_after h p (second_reg heading.world))
        (rw (← firsts-isb, ← loads-isb p (second_reg heading.world))
        (ap (list_any t) (readings-same heading (Isb pe ∷ h) p) ∙ e))

pub returns : goal.returns
returns c = record {
  taken = λ heading h stands done.
      let pe = c.args.pe in
      let stay = λ (g : Tag) (r p : ℕ). holds-stay heading h (Isb pe) g r p (less h pe heading p (is_reading g r)) refl refl in
      record {
        header = stands.header;
        proper = stands.proper;
        kept = kept_next heading Patterns h (Isb pe) stands.kept (broken_isb heading h pe);
        pes = c.sync.ensures.same.pes ∙ stands.pes;
        world = c.sync.ensures.same.world ∙ stands.world;
        order = c.sync.ensures.same.in_order ∙ stands.order;
        first = λ p lt.
            c.sync.ensures.first p ∙ ap (λ (xs : List RootValue). cond (nat_eq p pe) (newest xs) xs) (stands.first p lt)
            ∙ sym (loads-isb h pe p (first_reg heading.world));
        second = λ p lt.
            c.sync.ensures.second p ∙ ap (λ (xs : List RootValue). cond (nat_eq p pe) (newest xs) xs) (stands.second p lt)
            ∙ sym (loads-isb h pe p (second_reg heading.world));
        standings = λ ordered p lt.
            c.sync.ensures.standings (stands.order ∙ ordered) p
            ∙ ap (λ (xs : List RootValue). cond (nat_eq p pe) (newest xs) xs) (stands.standings ordered p lt)
            ∙ sym (standings-isb h pe p);
        outside = λ p reg past.
            ap (λ (vs : List ℕ). cond (pe == p) (take 1 vs) vs) (stands.outside p reg past) ∙ one (pe == p);
        declared = stands.declared;
        count = stands.count;
        locks = stands.locks;
        holds = λ g r p. stands.holds g r p ∙ sym (stay g r p);
        left = λ g r p. stands.left g r p ∙ sym (left-stay heading h (Isb pe) g r p refl refl);
        inside = stands.inside;
        pendings = λ q b g p kept.
            stands.pendings q b g p kept
            ∙ sym (waits-stay heading h (Isb pe) q b g p (less h pe heading p (is_of_tag g)) refl);
        holders = stands.holders;
      };
  room = λ room. room;
}
  where
    one : (b : Bool) → let vs : List ℕ = 0 ∷ [] in cond b (take 1 vs) vs ≡ vs
    one b = grind (arith)

pub sync-requires : goal.sync-requires
sync-requires c = of_state c.requires.2 c.requires.3
