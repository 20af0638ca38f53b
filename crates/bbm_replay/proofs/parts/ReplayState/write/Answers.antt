use Rattle.bbm_replay.proofs.Common.{fresh_in, node_in, MayMeet, Meets, ReplayState}
use Rattle.bbm_rules.proofs.Common.{◌≡◌, ℕ, None, false, refl, true≢false, page_of, subst, sym, Write}
use Rattle.bbm_rules.proofs.Common.{false_from_ne_true}
use Rattle.bbm_place_map.specs.Map.{IsPosition}
use Rattle.bbm_tree_index.specs.IndexAgreement.{HasNumber}
use Rattle.bbm_replay.proofs.Found.{found_at, found_tree, has_number, untracked}
use Rattle.bbm_replay.proofs.parts.ReplayState.write.Goals as goal

pub write_refused-requires-clause-may : goal.write_refused-requires-clause-may
write_refused-requires-clause-may c =
    subst (λ (p : ReplayState). MayMeet p (Write c.args.pe c.args.place c.args.value)) (sym c.position.ensures.same) c.requires

pub write_refused-requires-clause-outside : goal.write_refused-requires-clause-outside
write_refused-requires-clause-outside c =
    let m = c.requires in
    subst (λ (p : ReplayState). node_in p.index (page_of c.args.place) ≡ None) (sym c.position.ensures.same)
    (untracked m.0 m.1 c.args.self.now m.2 (page_of c.args.place)
    (λ t. true≢false (sym (c.in_default.ensures.tracked t))))

pub write_refused-requires-clause-unfresh : goal.write_refused-requires-clause-unfresh
write_refused-requires-clause-unfresh c =
    let m = c.requires in
    subst (λ (p : ReplayState). fresh_in p.index (page_of c.args.place) ≡ false) (sym c.position.ensures.same)
    (false_from_ne_true (fresh_in c.args.self.now.index (page_of c.args.place))
    (λ t. true≢false (sym (c.in_default.ensures.tracked (m.2.told.apart.fresh_tracked (page_of c.args.place) t)))))

pub returns-in_default : goal.returns-in_default
returns-in_default c =
    subst (λ (p : ReplayState). Meets p c.write_refused.new.self (Write c.args.pe c.args.place c.args.value) c.write_refused.result)
    c.position.ensures.same c.write_refused.ensures

pub is_broken_at-requires : goal.is_broken_at-requires
is_broken_at-requires c =
    subst (λ (p : ReplayState). IsPosition p.map c.in-Some.position) (sym c.position.ensures.same) c.in-Some.ensures.position

pub write_broken-requires-clause-may : goal.write_broken-requires-clause-may
write_broken-requires-clause-may c =
    subst (λ (p : ReplayState). MayMeet p (Write c.args.pe c.args.place c.args.value)) (sym c.position.ensures.same) c.requires

pub write_broken-requires-clause-position : goal.write_broken-requires-clause-position
write_broken-requires-clause-position c =
    subst (λ (p : ReplayState). IsPosition p.map (record { place = c.args.place; page = c.in-Some.position.page }))
    (sym c.position.ensures.same)
    (subst (λ (a : ℕ). IsPosition c.args.self.now.map (record { place = a; page = c.in-Some.position.page }))
    c.in-Some.ensures.place c.in-Some.ensures.position)

pub returns-then-is_broken_at : goal.returns-then-is_broken_at
returns-then-is_broken_at c =
    subst (λ (p : ReplayState). Meets p c.write_broken.new.self (Write c.args.pe c.args.place c.args.value) c.write_broken.result)
    c.position.ensures.same c.write_broken.ensures

pub path-requires : goal.path-requires
path-requires c =
    subst (λ (p : ReplayState). HasNumber p.index c.in-Some.position) (sym c.position.ensures.same)
    (has_number c.args.self.now.map c.args.self.now.index c.in-Some.position c.requires.2.numbers c.in-Some.ensures.position)

pub write_inside-requires-clause-at : goal.write_inside-requires-clause-at
write_inside-requires-clause-at c =
    let self = c.position.new.self in
    let place = c.in-Some.position.place in
    let may : MayMeet self (Write c.args.pe place c.args.value)
    = subst (λ a. MayMeet self (Write c.args.pe a c.args.value)) (sym c.in-Some.ensures.place)
    (subst (λ (p : ReplayState). MayMeet p (Write c.args.pe c.args.place c.args.value)) (sym c.position.ensures.same)
    c.requires) in
    found_tree c.laws.ensures self c.args.pe place c.args.value may place c.in-Some-path.path
    (found_at (node_in self.index (page_of place)) place c.path.result c.in-Some-path.path c.in-Some-path.is c.path.ensures)
    refl
