use Rattle.bbm_rules.proofs.Common.{ap, length, refl, sym, ◌∙◌}
use Rattle.bbm_replay.proofs.PageMoves.{null_nonzero, null_ok, null_unfresh, null_world}
use Rattle.bbm_replay.proofs.parts.ReplayState.null.Goals as goal

pub returns-then-is_wrong_null : goal.returns-then-is_wrong_null
returns-then-is_wrong_null c =
    null_world c.rules.ensures c.args.self.now c.args.pe c.args.page (sym c.is_wrong_null.ensures ∙ c.if-is_wrong_null.true)

pub returns-then-not-is_fresh : goal.returns-then-not-is_fresh
returns-then-not-is_fresh c = rw c.get.ensures.value
    (null_unfresh c.rules.ensures c.args.self.now c.args.pe c.args.page (sym c.is_wrong_null.ensures ∙ c.if-is_wrong_null.false)
    (sym c.is_fresh.ensures ∙ c.if-not-is_fresh.true))

pub returns-then-not-is_zero : goal.returns-then-not-is_zero
returns-then-not-is_zero c = rw c.get-then-not-is_zero.ensures.value
    (null_nonzero c.rules.ensures c.args.self.now c.args.pe c.args.page (sym c.is_wrong_null.ensures ∙ c.if-is_wrong_null.false)
    (c.is_zero.ensures.other c.if-not-is_zero.true))

pub returns : goal.returns
returns c =
    let old = c.args.self.now in
    let e = c.nullify.ensures in
    let fresh = sym c.is_fresh.ensures ∙ c.if-not-is_fresh.false in
    null_ok c.laws.ensures c.rules.ensures c.law_others.ensures old old.map c.nullify.new.self e.tracked.heading
    (λ n. n ∙ sym e.tracked.pages) old.unmapped c.args.pe c.args.page c.requires (sym c.is_wrong_null.ensures ∙ c.if-is_wrong_null.false) fresh
    (c.is_zero.ensures.zero c.if-not-is_zero.false)
    (record {
      was_fresh = fresh;
      map = record { value = λ a. refl; marks = λ a. refl; pends = λ q a b i p. refl };
      nodes = e.null.node;
      tracking = record { tracked = λ p. refl; known = e.tracked.known; pages = ap length e.tracked.pages };
      fresh = e.null.fresh;
      null = e.null.null;
    }) e.tracked.pages refl
