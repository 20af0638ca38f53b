use Rattle.bbm_tree_index.proofs.Common.{cut_by, is_invalid_at, roles_of, Role, Untracked, value_at}
use Rattle.bbm_rules.proofs.Common.{◌≡◌, ◌∙◌, ◌||◌, Bool, Core, Option, ap, arith, is_some, not, page_of, sym, unwrap_or}
use Rattle.bbm_rules.proofs.Common.{option_map}
use Rattle.bbm_descriptor.specs.Descriptor.{is_valid}
use Rattle.bbm_place_map.specs.declared.position.Position.{Position}
use Rattle.bbm_tree_index.proofs.Climbing.{cut_hangs}
use Rattle.bbm_tree_index.proofs.climb.+is_cut.Goals as goal

pub returns-else-is_none : goal.returns-else-is_none
returns-else-is_none t c =
    let h = c.in-Hangs in
    let left = c.in-Some.level in
    let test = is_invalid_at c.args.map.now in
    let roles = roles_of c.args.roles.now in
    let above : c.in-Some-find.above ≡ roles (page_of h.parent) =
    ap (λ (o : Option (Position × Role)). unwrap_or (option_map (λ f. f.1) o) Untracked) (sym c.in-Some-find.is)
    ∙ c.find.ensures.role in
    let value = value_at c.args.map.now c.in-Some-find.position.place in
    let valid : is_some c.live_at.result ≡ is_valid h.kind left value
    = ap (λ (o : Option Core). is_some o) c.live_at.ensures ∙ c.law_core_where_valid.ensures h.kind left value in
    let off = ap not (sym valid ∙ c.is_none.ensures ∙ ap not c.if-is_none.false) in
    c.is_cut.ensures ∙ ap (cut_by test roles left) above
    ∙ sym (ap (λ (b : Bool). b || cut_by test roles left (roles (page_of h.parent)))
    (ap (test h.kind left) (sym c.in-Some-find.ensures.place) ∙ off))
    ∙ sym (cut_hangs test roles c.args.level left c.args.role.now h.parent h.level h.base h.first h.kind (omega (arith, c.in-Some.ensures)) h.is)
