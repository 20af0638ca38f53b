use Rattle.bbm_rules.proofs.Common.{◌≡◌, ◌*◌, ◌%◌, true, sym, subst, true≢false, Kind, page_count, is_root}
use Rattle.bbm_regimes.specs.declared.regime.Kind.TheVariants.{S2}
use Rattle.bbm_report.proofs.Roots.{found_joined, found_single, root_fits}
use Rattle.bbm_report.proofs.finding.find.Goals as goal

-- src/finding.rt:78:24
pub returns-in_err-root-in-S2 : goal.returns-in_err-root-in-S2
returns-in_err-root-in-S2 g c h stands fits =
    let told = c.is_root.ensures c.args.header.now h stands in
    let is_one : is_root h c.args.question.kind c.args.question.root ≡ true = cc in
    let aligned : c.args.question.root % (4096 * page_count c.args.header.now.world S2) ≡ 0
    = subst (λ (kind : Kind). c.args.question.root % (4096 * page_count c.args.header.now.world kind) ≡ 0) c.in-S2.is
    (root_fits c.args.header.now h c.args.question.kind c.args.question.root fits is_one) in
    absurd (true≢false (sym (c.in_err-root-in-S2.ensures.aligned.1 aligned)))

-- src/finding.rt:69:1
pub returns-in_ok-root-in-S2 : goal.returns-in_ok-root-in-S2
returns-in_ok-root-in-S2 g c h stands fits =
    let told = c.is_root.ensures c.args.header.now h stands in
    let is_one : is_root h c.args.question.kind c.args.question.root ≡ true = cc in
    let joined = c.in_ok-root-in-S2.ensures in
    found_joined c.args.header.now h c.args.question (g.C.Memory.value_at c.args.checker.now) c.in_ok-root-in-S2.root.start
    c.in_ok-root-in-S2.root.pages c.in_ok-root-in-S2.root.page c.walk.result c.in-S2.is is_one joined.start joined.pages joined.page
    (g.met.C.Checker.values c.args.checker.now c.args.header.now h stands) c.walk.ensures.answer

-- src/finding.rt:69:1
pub returns-in_default : goal.returns-in_default
returns-in_default g c h stands fits =
    let told = c.is_root.ensures c.args.header.now h stands in
    let is_one : is_root h c.args.question.kind c.args.question.root ≡ true = cc in
    found_single c.args.header.now h c.args.question (g.C.Memory.value_at c.args.checker.now) c.start_level.result c.is_high.result
    c.walk-in_default.result c.in_default.not-S2 is_one c.start_level.ensures.value c.is_high.ensures
    (g.met.C.Checker.values c.args.checker.now c.args.header.now h stands) c.walk-in_default.ensures.answer
