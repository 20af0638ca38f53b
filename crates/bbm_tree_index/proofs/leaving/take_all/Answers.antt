use Rattle.bbm_tree_index.proofs.Common.{Leaving, Releases, leaves, node_by, roles_of, stays}
use Rattle.bbm_rules.proofs.Common.{refl, sym, subst}
use Rattle.bbm_tree_index.specs.Leaving.{CanFind, LetsGo}
use Rattle.bbm_tree_index.specs.declared.leaving.Leaving.TheVariants.{Unheld, Root}
use Rattle.bbm_tree_index.proofs.AllLeft.{places_gone, roles_gone, start_of}
use Rattle.bbm_tree_index.proofs.Departures.{departs_none}
use Rattle.bbm_tree_index.proofs.leaving.take_all.Goals as goal

pub take_lost-requires-clause-goes : goal.take_lost-requires-clause-goes
take_lost-requires-clause-goes c =
    let s = start_of c.args.roles.now c.args.map.now c.args.header.now Unheld c.requires.sound in
    (s, (refl, refl), departs_none s)

pub take_root-requires-clause-goes : goal.take_root-requires-clause-goes
take_root-requires-clause-goes c =
    let s = start_of c.args.roles.now c.args.map.now c.args.header.now (Root c.in-Root.first) c.requires.sound in
    (s, (refl, refl), departs_none s)

lost_found : (c : goal.After-take_lost) → CanFind (node_by (roles_of c.args.roles.now) c.args.header.now) c.args.map.now Unheld
lost_found c = subst (CanFind (node_by (roles_of c.args.roles.now) c.args.header.now) c.args.map.now) c.in-Unheld.is c.requires.found

root_found : (c : goal.After-take_root) → CanFind (node_by (roles_of c.args.roles.now) c.args.header.now) c.args.map.now (Root c.in-Root.first)
root_found c = subst (CanFind (node_by (roles_of c.args.roles.now) c.args.header.now) c.args.map.now) c.in-Root.is c.requires.found

pub returns-in-Unheld-clause-roles : goal.returns-in-Unheld-clause-roles
returns-in-Unheld-clause-roles c =
    let s = start_of c.args.roles.now c.args.map.now c.args.header.now Unheld c.requires.sound in
    let T : Leaving → Type 0 = λ l. LetsGo (λ p. leaves (stays c.args.map.now l) (node_by (roles_of c.args.roles.now) c.args.header.now p))
    c.args.roles.now c.take_lost.new.roles in
    subst T (sym c.in-Unheld.is)
    (roles_gone c.args.roles.now c.take_lost.new.roles c.args.map.now c.take_lost.new.map c.args.header.now Unheld c.requires.sound
    c.requires.paged (lost_found c) (c.take_lost.ensures.taken s (refl, refl) (departs_none s)) c.take_lost.ensures.same)

pub returns-in-Unheld-clause-map : goal.returns-in-Unheld-clause-map
returns-in-Unheld-clause-map c =
    let s = start_of c.args.roles.now c.args.map.now c.args.header.now Unheld c.requires.sound in
    let T : Leaving → Type 0 = λ l. Releases (λ p. leaves (stays c.args.map.now l) (node_by (roles_of c.args.roles.now) c.args.header.now p))
    c.args.map.now c.take_lost.new.map in
    subst T (sym c.in-Unheld.is)
    (places_gone c.args.roles.now c.take_lost.new.roles c.args.map.now c.take_lost.new.map c.args.header.now Unheld c.requires.sound
    c.requires.paged (lost_found c) (c.take_lost.ensures.taken s (refl, refl) (departs_none s)))

pub returns-in-Root-clause-roles : goal.returns-in-Root-clause-roles
returns-in-Root-clause-roles c =
    let root = Root c.in-Root.first in
    let s = start_of c.args.roles.now c.args.map.now c.args.header.now root c.requires.sound in
    let T : Leaving → Type 0 = λ l. LetsGo (λ p. leaves (stays c.args.map.now l) (node_by (roles_of c.args.roles.now) c.args.header.now p))
    c.args.roles.now c.take_root.new.roles in
    subst T (sym c.in-Root.is)
    (roles_gone c.args.roles.now c.take_root.new.roles c.args.map.now c.take_root.new.map c.args.header.now root c.requires.sound
    c.requires.paged (root_found c) (c.take_root.ensures.taken s (refl, refl) (departs_none s)) c.take_root.ensures.same)

pub returns-in-Root-clause-map : goal.returns-in-Root-clause-map
returns-in-Root-clause-map c =
    let root = Root c.in-Root.first in
    let s = start_of c.args.roles.now c.args.map.now c.args.header.now root c.requires.sound in
    let T : Leaving → Type 0 = λ l. Releases (λ p. leaves (stays c.args.map.now l) (node_by (roles_of c.args.roles.now) c.args.header.now p))
    c.args.map.now c.take_root.new.map in
    subst T (sym c.in-Root.is)
    (places_gone c.args.roles.now c.take_root.new.roles c.args.map.now c.take_root.new.map c.args.header.now root c.requires.sound
    c.requires.paged (root_found c) (c.take_root.ensures.taken s (refl, refl) (departs_none s)))
