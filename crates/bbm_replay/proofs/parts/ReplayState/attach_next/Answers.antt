use Rattle.bbm_rules.proofs.Common.{List, subst}
use Rattle.bbm_tree_index.specs.declared.standing.AttachedPage.{AttachedPage}
use Rattle.bbm_replay.specs.Guarded.{Becomes, CoversListed}
use Rattle.bbm_tree_index.specs.declared.role.Attach.TheVariants as attach
use Rattle.bbm_replay.proofs.Guarding.{kept_numbered, kept_shares}
use Rattle.bbm_replay.proofs.Inside.{attach_bad, attach_fault, attach_ok, below_three}
use Rattle.bbm_replay.proofs.parts.ReplayState.attach_next.Goals as goal

pub prepare-requires : goal.prepare-requires
prepare-requires c =
    let r = c.requires in record {
      same = r.may.tree.may.2.numbers;
      may = (
        r.may.tree.at.0,
        r.may.tree.at.1,
        below_three c.laws.ensures c.rules.ensures r.may c.args.next r.links,
      );
    }

pub returns-in-Err : goal.returns-in-Err
returns-in-Err c =
    let r = c.requires in
    rw c.step_fault.ensures
    (attach_fault c.laws.ensures c.rules.ensures r.may r.alike r.above c.args.next r.links c.in-Err.fault
    c.in-Err.ensures.judged)

pub judge_attached-requires : goal.judge_attached-requires
judge_attached-requires c =
    let s = c.requires.may.tree.may in record {
      shares = s.2.numbers;
      pages = kept_shares c.args.self.now.unmapped c.args.self.now.index s.0 s.1 s.2.guarded;
      prepared = (attach.Below c.args.place c.args.next, c.in-Ok.ensures.prepared, λ k. absurd cc);
    }

pub returns-in-Err-judge_attached : goal.returns-in-Err-judge_attached
returns-in-Err-judge_attached c =
    let r = c.requires in
    attach_bad c.laws.ensures c.rules.ensures r.may r.alike r.above c.args.next r.links c.in-Ok.ensures.judged
    c.in-Err-judge_attached.fault
    (c.in-Err-judge_attached.ensures.refuses (attach.Below c.args.place c.args.next) c.in-Ok.ensures.prepared
    (λ k. absurd cc))

pub attach_prepared-requires : goal.attach_prepared-requires
attach_prepared-requires c = record {
  same = c.requires.may.tree.may.2.numbers;
  prepared = (attach.Below c.args.place c.args.next, c.in-Ok.ensures.prepared, λ k. absurd cc);
}

pub cover_attached-requires : goal.cover_attached-requires
cover_attached-requires c =
    let s = c.requires.may.tree.may in
    kept_numbered c.args.self.now.unmapped c.args.self.now.index c.args.self.now.map s.0 s.1 s.2.numbers s.2.guarded

pub returns : goal.returns
returns c =
    let r = c.requires in
    let at = attach.Below c.args.place c.args.next in
    attach_ok c.laws.ensures c.rules.ensures r.may r.alike r.above c.args.next r.links c.in-Ok.ensures.judged
    c.in-Ok-judge_attached.pages.items
    (c.in-Ok-judge_attached.ensures.passes at c.in-Ok.ensures.prepared (λ k. absurd cc))
    c.attach_prepared.new.self c.cover_attached.new.kept c.attach_prepared.ensures.tracked
    (c.attach_prepared.ensures.attached at c.in-Ok.ensures.prepared (λ k. absurd cc))
    (subst (λ (x : List AttachedPage). Becomes (CoversListed c.args.self.now.map x) c.args.self.now.unmapped
    c.cover_attached.new.kept) c.deref.ensures.value c.cover_attached.ensures)
