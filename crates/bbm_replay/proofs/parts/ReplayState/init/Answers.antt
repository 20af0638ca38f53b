use Rattle.bbm_replay.proofs.Common.{node_in, null_in, waits, TreeFault}
use Rattle.bbm_rules.proofs.Common.{sym, ◌∙◌, ap, Err, refl}
use Rattle.bbm_tree_index.specs.Index.{known_in, pages_in}
use Rattle.bbm_replay.proofs.Framing.{same_of}
use Rattle.bbm_replay.proofs.PageMoves.{free_parts, init_err, init_full, init_ok, init_refused, one_more, tracks_alike}
use Rattle.bbm_replay.proofs.parts.ReplayState.init.Goals as goal

pub returns-then-is_used : goal.returns-then-is_used
returns-then-is_used c = rw c.get.ensures.value
    (init_refused c.rules.ensures c.args.self.now c.args.pe c.args.page (sym c.is_used.ensures ∙ c.if-is_used.true))

pub returns-in-Err : goal.returns-in-Err
returns-in-Err c = rw c.in-Err.ensures.fault
    (init_full c.args.self.now c.reserve.new.kept c.args.pe c.args.page c.reserve.ensures.same)

pub init-requires-clause-pages : goal.init-requires-clause-pages
init-requires-clause-pages c =
    tracks_alike c.args.self.now c.requires.0 c.requires.1 c.requires.2 c.reserve.new.kept c.reserve.ensures.same
    c.args.page (pages_in c.track.new.self) c.in-Ok-track.ensures.counted.pages

pub returns-in-Ok-track : goal.returns-in-Ok-track
returns-in-Ok-track c =
    let old = c.args.self.now in
    let e = c.in-Ok-track.ensures in
    let free = sym c.is_used.ensures ∙ c.if-is_used.false in
    let parts = free_parts (node_in old.index c.args.page) (null_in old.index c.args.page) free in
    init_ok c.laws.ensures c.rules.ensures c.law_others.ensures old c.track.new.map c.track.new.self e.counted.heading
    (λ n. e.shares) c.init.new.kept c.args.pe c.args.page c.requires free c.reserve.new.kept c.reserve.ensures.same
    (λ full. let bad = e.limit.1 full in absurd cc)
    (record {
      outside = parts.0;
      not_null = parts.1;
      nodes = e.fresh.node;
      value = e.zero.values;
      marks = e.zero.marks;
      pends = λ q a k b i p. ap (λ x. waits x b i p) (e.zero.pends q a k);
      fresh = e.fresh.fresh;
      null = e.fresh.null;
      tracked = e.zero.pages;
      known = e.counted.known;
      pages = one_more (known_in old.index c.args.page) (pages_in old.index) (pages_in c.track.new.self) c.args.page
          e.counted.pages;
    }) c.init.ensures

pub returns-in-Err-track : goal.returns-in-Err-track
returns-in-Err-track c =
    let old = c.args.self.now in
    let e = c.in-Err-track.ensures in
    rw c.step_fault.ensures
    (init_err c.laws.ensures c.rules.ensures c.law_others.ensures old c.track.new.map c.track.new.self
    e.same_tracked.heading (λ n. e.shares) c.reserve.new.kept c.args.pe c.args.page c.requires
    (sym c.is_used.ensures ∙ c.if-is_used.false) c.reserve.new.kept c.reserve.ensures.same c.in-Err-track.fault
    (λ k. e.limit.0 (ap (λ (x : TreeFault). Err x) k)) e.fault
    (same_of old.map c.track.new.map old.index c.track.new.self e.same_map e.same_pages e.same_tracked)
    e.same_tracked.pages refl)
