use Rattle.bbm_roots.proofs.Common.{Roots}
use Rattle.std.specs.Option.{is_none}
use Rattle.bbm_rules.specs.declared.rule.Rule.TheVariants.{UnsyncedVmid}
use Rattle.bbm_rules.proofs.Common.{ℕ, Bool, true, false, Option, Some, Ok, Err, ◌&&◌, refl, sym, ap, ◌∙◌}
use Rattle.bbm_rules.proofs.Common.{scoped_by_vmid}
use Rattle.bbm_roots.proofs.Judge.{named_by, tlbi_elsewhere, tlbi_is, world_by}
use Rattle.bbm_roots.proofs.roots.Roots.judge_tlbi.Goals as goal

pub returns-then-not-of_world-clause-judged : goal.returns-then-not-of_world-clause-judged
returns-then-not-of_world-clause-judged c heading h s =
    tlbi_elsewhere heading h c.args.pe c.args.op c.args.xt (c.laws_below.ensures heading)
    (world_by s _ c.args.op false (ap (λ (x : Roots). x.header.world) (sym c.self.view_is)) (sym c.of_world.ensures ∙ c.if-not-of_world.true))

pub returns-then-lacks_vmid-clause-judged : goal.returns-then-lacks_vmid-clause-judged
returns-then-lacks_vmid-clause-judged c heading h s =
    tlbi_is heading h c.args.pe c.args.op c.args.xt (c.laws_below.ensures heading) true true _
    (world_by s _ c.args.op true (ap (λ (x : Roots). x.header.world) (sym c.self.view_is)) (sym c.of_world.ensures ∙ c.if-not-of_world.false))
    (ap (λ (v : Option ℕ). scoped_by_vmid c.args.op && is_none v) (sym (c.vmid_of-vmid.ensures heading h s))
    ∙ (ap (λ (b : Bool). b && is_none c.vmid_of-vmid.result) (sym c.scoped_by_vmid.ensures)
    ∙ sym c.lacks_vmid.ensures ∙ c.if-lacks_vmid.true)) refl
    ∙ ap (λ (n : ℕ). Some (record { rule = UnsyncedVmid; at = n })) (sym c.get.ensures.value)

pub returns-in-Ok-clause-judged : goal.returns-in-Ok-clause-judged
returns-in-Ok-clause-judged c heading h s =
    let lacks = ap (λ (v : Option ℕ). scoped_by_vmid c.args.op && is_none v) (sym (c.vmid_of-vmid.ensures heading h s))
    ∙ (ap (λ (b : Bool). b && is_none c.vmid_of-vmid.result) (sym c.scoped_by_vmid.ensures)
    ∙ sym c.lacks_vmid.ensures ∙ c.if-lacks_vmid.false) in (
      tlbi_is heading h c.args.pe c.args.op c.args.xt (c.laws_below.ensures heading) true false (Ok c.in-Ok.scope)
          (world_by s _ c.args.op true (ap (λ (x : Roots). x.header.world) (sym c.self.view_is)) (sym c.of_world.ensures ∙ c.if-not-of_world.false))
          lacks (sym c.in-Ok.ensures.scope),
      (
        named_by heading h c.args.pe c.args.op c.args.xt c.in-Ok.scope lacks (sym c.in-Ok.ensures.scope),
        c.vmid_of-vmid.ensures heading h s,
      ),
    )

pub returns-in-Err-clause-judged : goal.returns-in-Err-clause-judged
returns-in-Err-clause-judged c heading h s =
    tlbi_is heading h c.args.pe c.args.op c.args.xt (c.laws_below.ensures heading) true false (Err c.in-Err.field-0)
    (world_by s _ c.args.op true (ap (λ (x : Roots). x.header.world) (sym c.self.view_is)) (sym c.of_world.ensures ∙ c.if-not-of_world.false))
    (ap (λ (v : Option ℕ). scoped_by_vmid c.args.op && is_none v) (sym (c.vmid_of-vmid.ensures heading h s))
    ∙ (ap (λ (b : Bool). b && is_none c.vmid_of-vmid.result) (sym c.scoped_by_vmid.ensures)
    ∙ sym c.lacks_vmid.ensures ∙ c.if-lacks_vmid.false)) (sym c.in-Err.ensures.scope)
