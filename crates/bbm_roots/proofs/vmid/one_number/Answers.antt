use Rattle.bbm_roots.proofs.Common.{◌∙◌, ap, sym, refl, cond, Bool, Some, None, ℕ, slice_index_or}
use Rattle.bbm_roots.proofs.Numbers.{one-by}
use Rattle.bbm_roots.proofs.vmid.one_number.Goals as goal

pub returns-then-all_numbered : goal.returns-then-all_numbered
returns-then-all_numbered c =
    let number : ℕ = (slice_index_or c.args.loads.now 0 c.index-loads-0.result).number in
    ap (λ (b : Bool). cond b (Some number) None) (sym c.if-all_numbered.true)
    ∙ one-by c.args.loads.now number c.all_numbered.result c.index-loads-0.result refl
    (sym c.is_empty.ensures ∙ c.if-is_empty.false) c.all_numbered.ensures

pub returns-else-all_numbered : goal.returns-else-all_numbered
returns-else-all_numbered c =
    let number : ℕ = (slice_index_or c.args.loads.now 0 c.index-loads-0.result).number in
    ap (λ (b : Bool). cond b (Some number) None) (sym c.if-all_numbered.false)
    ∙ one-by c.args.loads.now number c.all_numbered.result c.index-loads-0.result refl
    (sym c.is_empty.ensures ∙ c.if-is_empty.false) c.all_numbered.ensures
