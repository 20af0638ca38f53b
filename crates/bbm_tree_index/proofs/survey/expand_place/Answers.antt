use Rattle.bbm_tree_index.proofs.Common.{get, RoleFits, Hangs}
use Rattle.bbm_rules.proofs.Common.{◌≡◌, ◌∙◌, ◌+◌, ◌<◌, ◌%◌, ◌^◌, rules, Some, sym, subst, nat_eq, suc, add-one, on_ok_weaker, same_Some}
use Rattle.bbm_rules.proofs.Common.{index_of}
use Rattle.bbm_tree_index.proofs.Places.{number_below}
use Rattle.bbm_tree_index.proofs.Growing.{hang_fits, well_grown}
use Rattle.bbm_tree_index.proofs.survey.expand_place.Goals as goal

pub returns-in-Some-clause-well : goal.returns-in-Some-clause-well
returns-in-Some-clause-well c = on_ok_weaker c.add.result (λ h heading w.
    well_grown heading (Some c.in-Some.next) _ (get nat_eq c.args.below.now) (get nat_eq c.add.new.table) h
    (λ p e. (
      subst (λ q. q < 2 ^ 48) (same_Some c.in-Some.next p e) c.add.ensures.below,
      subst (λ q. q % 4096 ≡ 0) (same_Some c.in-Some.next p e) c.add.ensures.aligned,
      subst (λ l. RoleFits heading (Hangs c.args.place c.args.spot.now.kind l c.start.result c.args.spot.now.first)) (sym (let next : c.unwrap.result ≡ c.args.spot.now.level + 1 = search rules in next ∙ add-one c.args.spot.now.level))
          (subst (λ b. RoleFits heading (Hangs c.args.place c.args.spot.now.kind (suc c.args.spot.now.level) b c.args.spot.now.first)) (sym c.start.ensures)
          (hang_fits heading c.args.spot.now c.args.place (index_of c.args.place) c.args.spot.now.kind c.args.spot.now.first c.requires c.in-Some.ensures.low
          (number_below c.args.place))),
    )) w) c.add.ensures.marks
