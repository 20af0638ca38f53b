use Rattle.bbm_replay.proofs.Common.{StepFault, ReplayState}
use Rattle.bbm_rules.proofs.Common.{◌≡◌, List, ◌+◌, ◌*◌, ◌≤◌, ◌^◌, None, refl, sym, ◌∙◌, ap, length, subst, Err}
use Rattle.bbm_rules.proofs.Common.{page_count, Heading}
use Rattle.bbm_tree_index.specs.declared.role.Attach.TheVariants as attach
use Rattle.bbm_tree_index.specs.declared.standing.AttachedPage.{AttachedPage}
use Rattle.bbm_replay.specs.Guarded.{Becomes, CoversListed}
use Rattle.bbm_replay.proofs.Guarding.{kept_shares, kept_numbered}
use Rattle.bbm_replay.proofs.RootPages.{room_for}
use Rattle.bbm_replay.proofs.Rooting.{attaches_of, named, root_bad, root_fault, root_full, root_ok, root_used}
use Rattle.bbm_replay.proofs.Rooting.{root_world, unfresh}
use Rattle.bbm_replay.proofs.parts.ReplayState.root.Goals as goal

pub returns-then-not-has_kind : goal.returns-then-not-has_kind
returns-then-not-has_kind c = root_world c.laws.ensures c.rules.ensures c.args.self.now c.args.pe c.args.page
    c.args.kind c.args.lock (sym c.has_kind.ensures ∙ c.if-not-has_kind.true)

pub returns-in-Err : goal.returns-in-Err
returns-in-Err c = rw c.step_fault.ensures
    (root_fault c.laws.ensures c.rules.ensures c.args.self.now c.args.pe c.args.page c.args.kind c.args.lock
    (sym c.has_kind.ensures ∙ c.if-not-has_kind.false) c.in-Err.fault c.in-Err.ensures.judged)

pub first_unfresh-requires-clause-low : goal.first_unfresh-requires-clause-low
first_unfresh-requires-clause-low c =
    let m = c.requires in
    rw c.page_count.ensures.value
    (subst (λ (x : Heading). c.args.page + 4096 * page_count x.world c.args.kind ≤ 2 ^ 48) (sym m.2.header)
    (room_for m.0 c.args.pe c.args.kind c.args.lock c.args.page m.2.told.proper m.3))

pub returns-in-Some : goal.returns-in-Some
returns-in-Some c =
    root_used c.laws.ensures c.rules.ensures c.args.self.now c.args.pe c.args.page c.args.kind c.args.lock
    (sym c.has_kind.ensures ∙ c.if-not-has_kind.false) c.in-Ok.ensures.judged c.in-Some.at
    (cc (c.page_count.ensures.value, c.in-Some.ensures))

pub judge_attached-requires : goal.judge_attached-requires
judge_attached-requires c = record {
  shares = c.requires.2.numbers;
  pages = kept_shares c.args.self.now.unmapped c.args.self.now.index c.requires.0 c.requires.1 c.requires.2.guarded;
  prepared = (
    attach.Root c.args.kind c.args.page,
    c.in-Ok.ensures.prepared,
    named c.args.self.now c.args.kind c.args.page (sym c.has_kind.ensures ∙ c.if-not-has_kind.false)
        (cc (c.page_count.ensures.value, c.in-None.ensures)) c.requires.2,
  );
}

pub returns-in-Err-judge_attached : goal.returns-in-Err-judge_attached
returns-in-Err-judge_attached c =
    let right = sym c.has_kind.ensures ∙ c.if-not-has_kind.false in
    let none : unfresh c.args.self.now c.args.kind c.args.page ≡ None
    = cc (c.page_count.ensures.value, c.in-None.ensures) in
    root_bad c.laws.ensures c.rules.ensures c.args.self.now c.args.pe c.args.page c.args.kind c.args.lock right
    c.in-Ok.ensures.judged none c.in-Err-judge_attached.fault
    (c.in-Err-judge_attached.ensures.refuses (attach.Root c.args.kind c.args.page) c.in-Ok.ensures.prepared
    (named c.args.self.now c.args.kind c.args.page right none c.requires.2))

pub returns-in-Err-prepare : goal.returns-in-Err-prepare
returns-in-Err-prepare c =
    let e = c.in-Err-prepare.ensures in
    let right = sym c.has_kind.ensures ∙ c.if-not-has_kind.false in
    let none : unfresh c.args.self.now c.args.kind c.args.page ≡ None
    = cc (c.page_count.ensures.value, c.in-None.ensures) in
    root_full c.laws.ensures c.rules.ensures c.args.self.now c.args.pe c.args.page c.args.kind c.args.lock right
    c.in-Ok.ensures.judged none c.in-Ok-judge_attached.pages.items
    (c.in-Ok-judge_attached.ensures.passes (attach.Root c.args.kind c.args.page) c.in-Ok.ensures.prepared
    (named c.args.self.now c.args.kind c.args.page right none c.requires.2))
    c.prepare-2.new.self c.prepare-2.ensures.kept.same
    c.in-Err-prepare.fault (λ heading h s k.
    (e.limit heading h c.args.pe c.args.kind c.args.lock c.args.page s).0 (ap (λ (f : StepFault). Err f) k)) e.fault

pub attach_prepared-requires : goal.attach_prepared-requires
attach_prepared-requires c = record {
  same = c.requires.2.numbers;
  prepared = (
    attach.Root c.args.kind c.args.page,
    c.in-Ok.ensures.prepared,
    named c.args.self.now c.args.kind c.args.page (sym c.has_kind.ensures ∙ c.if-not-has_kind.false)
        (cc (c.page_count.ensures.value, c.in-None.ensures)) c.requires.2,
  );
}

pub cover_attached-requires : goal.cover_attached-requires
cover_attached-requires c =
    let s = c.requires.2 in
    kept_numbered c.args.self.now.unmapped c.args.self.now.index c.args.self.now.map c.requires.0 c.requires.1 s.numbers
    s.guarded

pub returns : goal.returns
returns c =
    let old = c.args.self.now in
    let at = attach.Root c.args.kind c.args.page in
    let right = sym c.has_kind.ensures ∙ c.if-not-has_kind.false in
    let none : unfresh c.args.self.now c.args.kind c.args.page ≡ None
    = cc (c.page_count.ensures.value, c.in-None.ensures) in
    let fresh = named old c.args.kind c.args.page right none c.requires.2 in
    let e = c.attach_prepared.ensures in
    let new : ReplayState = record old {
      index = c.attach_prepared.new.self;
      roots = c.declare.new.self;
      unmapped = c.cover_attached.new.kept;
    } in
    root_ok c.laws.ensures c.rules.ensures old c.args.pe c.args.page c.args.kind c.args.lock right c.in-Ok.ensures.judged
    none c.in-Ok-judge_attached.pages.items
    (c.in-Ok-judge_attached.ensures.passes at c.in-Ok.ensures.prepared fresh)
    c.prepare-2.new.self c.prepare-2.ensures.kept.same new c.requires
    (record { header = refl; index_header = e.tracked.heading; numbers = λ n. n ∙ sym e.tracked.pages })
    (λ heading h s k. let bad = (c.in-Ok-prepare.ensures.limit heading h c.args.pe c.args.kind c.args.lock c.args.page s).1 k in absurd cc)
    (record { value = λ a. refl; marks = λ a. refl; pends = λ q a b i p. refl })
    (attaches_of old.index new.index old.map new.map at (e.attached at c.in-Ok.ensures.prepared fresh)
    (record { tracked = λ p. refl; known = e.tracked.known; pages = ap length e.tracked.pages }))
    c.law_idle.ensures
    (λ heading h s free. c.declare.ensures c.args.pe heading h s free) e.tracked.pages
    (subst (λ (x : List AttachedPage). Becomes (CoversListed old.map x) old.unmapped new.unmapped) c.deref.ensures.value
    c.cover_attached.ensures)
