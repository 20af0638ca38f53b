use Rattle.bbm_replay.proofs.Common.{Pends, waits}
use Rattle.bbm_rules.proofs.Common.{refl, sym, ◌∙◌, ap}
use Rattle.bbm_tree_index.specs.HeldCores.{holds_at, is_held_by}
use Rattle.bbm_replay.proofs.Moves.{tracked_alike}
use Rattle.bbm_replay.proofs.PageMoves.{leaves_of}
use Rattle.bbm_replay.proofs.DsbMoves.{dsb_meets, hang_or_lost}
use Rattle.bbm_replay.proofs.parts.ReplayState.dsb.Goals as goal

pub prune-requires-clause-lost : goal.prune-requires-clause-lost
prune-requires-clause-lost c =
    let s = c.requires in
    let p = c.publish.ensures in
    let e = c.complete.ensures in
    hang_or_lost c.laws.ensures c.args.self.now c.publish.new.map c.complete.new.self c.args.pe c.args.dsb
    c.is_silent-silent.result c.pe_count-n.result c.is_silent-silent.ensures c.pe_count-n.ensures
    (record {
      published = p.published;
      unheard = p.unheard;
      value = p.values;
      pends = λ q a b i x. ap (λ (w : Pends). waits w b i x) (p.pends q a);
    })
    (record { completed = e.completed; others = λ q a k b i x. e.others q a b i x k; value = e.same.values })
    s.0 s.1 s.2 e.told

pub returns : goal.returns
returns c =
    let old = c.args.self.now in
    let p = c.publish.ensures in
    let e = c.complete.ensures in
    let m2 = c.complete.new.self in
    let pages = e.same.pages ∙ p.pages in
    let r = c.prune.ensures in
    let map = c.prune.new.map in
    dsb_meets c.laws.ensures old c.publish.new.map m2 c.args.pe c.args.dsb c.is_silent-silent.result c.pe_count-n.result
    c.is_silent-silent.ensures c.pe_count-n.ensures
    (record {
      published = p.published;
      unheard = p.unheard;
      value = p.values;
      pends = λ q a b i x. ap (λ (w : Pends). waits w b i x) (p.pends q a);
    })
    (record { completed = e.completed; others = λ q a k b i x. e.others q a b i x k; value = e.same.values })
    c.requires c.law_barriers.ensures (tracked_alike old.map m2 pages)
    (record old { map = map; index = c.prune.new.self; roots = c.complete-2.new.self }) (record {
      header = refl;
      index_header = r.tracked.heading;
      numbers = λ n. r.map.pages ∙ pages ∙ n ∙ sym r.tracked.pages;
    }) refl r.tracked.pages
    (λ heading h s. c.complete-2.ensures.taken heading h s tt)
    (λ outside. leaves_of old.index c.prune.new.self m2 map (is_held_by (holds_at m2)) outside r)
