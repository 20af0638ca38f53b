use Rattle.bbm_roots.proofs.Common.{◌≡◌, ◌∙◌, ap, sym, refl, ℕ, Some, None, Bool, true, false, not, is_some, Option}
use Rattle.bbm_roots.proofs.Common.{Declared, lock_of}
use Rattle.bbm_roots.proofs.Common.{option_and_then}
use Rattle.std.specs.Option.{is_none}
use Rattle.bbm_rules.proofs.Common.{if_so, lacks}
use Rattle.bbm_rules.specs.declared.rule.Rule.TheVariants.{NoRoot, RootInUse}
use Rattle.bbm_roots.proofs.Unroots.{unroot_is}
use Rattle.bbm_roots.proofs.roots.Roots.judge_unroot.Goals as goal

absent : (o : Option Declared) (b : Bool) → b ≡ is_some o → is_none o ≡ not b
absent None b e = ap not (sym e)
absent (Some r) b e = ap not (sym e)

pub returns-in-Some : goal.returns-in-Some
returns-in-Some c heading h s =
    let laws = c.laws_below.ensures heading in
    unroot_is heading laws (laws.proper s.proper) h s.kept c.args.pe c.args.page (Some c.in-Some.at) _ _
    (sym (c.in-Some.ensures heading h s
    ∙ ap (λ (n : ℕ). option_and_then (λ lock. if_so (lacks h c.args.pe lock) n) (lock_of h c.args.page)) c.get-at.ensures.value))
    refl refl

pub returns-then-not-is_declared : goal.returns-then-not-is_declared
returns-then-not-is_declared c heading h s =
    let laws = c.laws_below.ensures heading in
    unroot_is heading laws (laws.proper s.proper) h s.kept c.args.pe c.args.page None true _
    (sym (c.in_default.ensures heading h s
    ∙ ap (λ (n : ℕ). option_and_then (λ lock. if_so (lacks h c.args.pe lock) n) (lock_of h c.args.page)) c.get-at.ensures.value))
    (absent _ c.is_declared.result (c.is_declared.ensures heading h s) ∙ ap not c.if-not-is_declared.true) refl
    ∙ ap (λ (n : ℕ). Some (record { rule = NoRoot; at = n })) (sym c.get-at.ensures.value)

pub returns-then-is_used : goal.returns-then-is_used
returns-then-is_used c heading h s =
    let laws = c.laws_below.ensures heading in
    unroot_is heading laws (laws.proper s.proper) h s.kept c.args.pe c.args.page None false true
    (sym (c.in_default.ensures heading h s
    ∙ ap (λ (n : ℕ). option_and_then (λ lock. if_so (lacks h c.args.pe lock) n) (lock_of h c.args.page)) c.get-at.ensures.value))
    (absent _ c.is_declared.result (c.is_declared.ensures heading h s) ∙ ap not c.if-not-is_declared.false)
    (sym (c.is_used.ensures heading h s (sym (c.is_declared.ensures heading h s) ∙ c.if-not-is_declared.false))
    ∙ c.if-is_used.true)
    ∙ ap (λ (n : ℕ). Some (record { rule = RootInUse; at = n })) (sym c.get-at.ensures.value)

pub returns : goal.returns
returns c heading h s =
    let laws = c.laws_below.ensures heading in
    unroot_is heading laws (laws.proper s.proper) h s.kept c.args.pe c.args.page None false false
    (sym (c.in_default.ensures heading h s
    ∙ ap (λ (n : ℕ). option_and_then (λ lock. if_so (lacks h c.args.pe lock) n) (lock_of h c.args.page)) c.get-at.ensures.value))
    (absent _ c.is_declared.result (c.is_declared.ensures heading h s) ∙ ap not c.if-not-is_declared.false)
    (sym (c.is_used.ensures heading h s (sym (c.is_declared.ensures heading h s) ∙ c.if-not-is_declared.false))
    ∙ c.if-is_used.false)
