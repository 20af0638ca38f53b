use Rattle.bbm_replay.proofs.Common.{Admits}
use Rattle.bbm_rules.proofs.Common.{ℕ, ◌&&◌, Option, is_some, sym, ◌∙◌, ap, subst, and-false}
use Rattle.bbm_replay.proofs.Guarding.{kept_shares, kept_tables}
use Rattle.bbm_replay.proofs.Inside.{admitted, contiguous, differs, judged_leaf, makes_limbo, user_global}
use Rattle.bbm_replay.proofs.parts.ReplayState.admit.Goals as goal
use Rattle.bbm_replay.proofs.parts.ReplayState.admit.Goals.{else-is_some-via-else-is_some}
use Rattle.bbm_replay.proofs.parts.ReplayState.admit.Goals.{else-is_some-via-then-is_some+else-is_some-2}

pub returns-then-differ : goal.returns-then-differ
returns-then-differ c = rw c.get.ensures.value
    (differs c.laws.ensures c.rules.ensures c.requires.may (sym c.differ.ensures ∙ c.if-differ.true))

pub returns-then-makes_in_limbo : goal.returns-then-makes_in_limbo
returns-then-makes_in_limbo c = rw c.get-then-makes_in_limbo.ensures.value
    (makes_limbo c.laws.ensures c.rules.ensures c.requires.may (sym c.differ.ensures ∙ c.if-differ.false)
    (sym c.makes_in_limbo.ensures ∙ c.if-makes_in_limbo.true))

pub attach_next-requires : goal.attach_next-requires
attach_next-requires c = record {
  path = c.args.write.now.path.now;
  held = c.args.old.now;
  new = c.args.new.now;
  may = c.requires.may;
  links = sym c.attached_next.ensures ∙ c.in-Some.is;
  alike = sym c.differ.ensures ∙ c.if-differ.false;
  above = sym c.makes_in_limbo.ensures ∙ c.if-makes_in_limbo.false;
}

pub returns-in-Some : goal.returns-in-Some
returns-in-Some c =
    let w = c.args.write.now in
    subst (λ (o : Option ℕ). Admits c.args.self.now c.attach_next.new.self w.pe w.position.now.place w.value o
    c.attach_next.result) (sym (sym c.attached_next.ensures ∙ c.in-Some.is)) c.attach_next.ensures

pub returns-then-is_contiguous : goal.returns-then-is_contiguous
returns-then-is_contiguous c = rw c.get-then-is_contiguous.ensures.value
    (contiguous c.laws.ensures c.rules.ensures c.requires.may (sym c.differ.ensures ∙ c.if-differ.false)
    (sym c.makes_in_limbo.ensures ∙ c.if-makes_in_limbo.false)
    (sym c.attached_next.ensures ∙ c.in_default.is) (sym c.is_contiguous.ensures ∙ c.if-is_contiguous.true))

pub returns-then-is_user_global : goal.returns-then-is_user_global
returns-then-is_user_global c = rw c.get-then-is_user_global.ensures.value
    (user_global c.laws.ensures c.rules.ensures c.requires.may (sym c.differ.ensures ∙ c.if-differ.false)
    (sym c.makes_in_limbo.ensures ∙ c.if-makes_in_limbo.false)
    (sym c.attached_next.ensures ∙ c.in_default.is) (sym c.is_contiguous.ensures ∙ c.if-is_contiguous.false)
    (sym c.is_user_global.ensures ∙ c.if-is_user_global.true))

pub cover_leaf-requires : goal.cover_leaf-requires
cover_leaf-requires c =
    let m = c.requires.may.tree.may in record {
      shares = m.2.numbers;
      pages = kept_shares c.args.self.now.unmapped c.args.self.now.index m.0 m.1 m.2.guarded;
      tables = kept_tables c.args.self.now.unmapped c.args.self.now.index c.args.self.now.map m.0 m.1 (c.rules.ensures m.0)
          m.2.told m.2.guarded;
      position = c.requires.position;
    }

pub returns-then-is_some-2 : goal.returns-then-is_some-2
returns-then-is_some-2 c =
    judged_leaf c.laws.ensures c.rules.ensures c.requires.may (sym c.differ.ensures ∙ c.if-differ.false)
    (sym c.makes_in_limbo.ensures ∙ c.if-makes_in_limbo.false)
    (sym c.attached_next.ensures ∙ c.in_default.is) (sym c.is_contiguous.ensures ∙ c.if-is_contiguous.false)
    (sym c.is_user_global.ensures ∙ c.if-is_user_global.false) c.cover_leaf.new.kept c.cover_leaf.result
    c.cover_leaf.ensures

pub returns : goal.returns
returns c =
    admitted c.laws.ensures c.rules.ensures c.requires.may (sym c.differ.ensures ∙ c.if-differ.false)
    (sym c.makes_in_limbo.ensures ∙ c.if-makes_in_limbo.false)
    (sym c.attached_next.ensures ∙ c.in_default.is) (sym c.is_contiguous.ensures ∙ c.if-is_contiguous.false)
    (sym c.is_user_global.ensures ∙ c.if-is_user_global.false)
    (elim c.else-is_some.branch [
      | else-is_some-via-then-is_some+else-is_some-2 w ↦
          ap (λ b. is_some c.args.new.now && b) (sym w.is_some-then-is_some.ensures ∙ w.if-is_some-2.false)
          ∙ and-false (is_some c.args.new.now)
      | else-is_some-via-else-is_some w ↦
          ap (λ b. b && is_some c.args.self.now.unmapped) (sym c.is_some.ensures ∙ w.if-is_some.false)
    ])
