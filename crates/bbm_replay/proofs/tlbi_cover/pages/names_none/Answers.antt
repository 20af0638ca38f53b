use Rattle.bbm_replay.proofs.Common.{Path}
use Rattle.bbm_rules.proofs.Common.{◌≡◌, ◌+◌, ◌*◌, ◌≤◌, arith, ap, ◌∙◌, Option, Extent, input_pages, leb-true}
use Rattle.bbm_rules.proofs.Common.{names_some, region_of}
use Rattle.bbm_replay.proofs.Skips.{far, names_above, product_within}
use Rattle.bbm_replay.proofs.tlbi_cover.pages.names_none.Goals as goal

pub overflow_sub-start : goal.overflow_sub-start
overflow_sub-start c =
    let n = c.requires.0 in
    let low = ap (λ (x : Extent). x.lo) c.region.view_is in
    let high = ap (λ (x : Extent). x.hi) c.region.view_is in
    let from = ap (λ (x : Path). x.region.lo) c.requires.1 in
    let to = ap (λ (x : Path). x.region.hi) c.requires.1 in
    let lo : c.region.inside.lo ≡ (region_of n c.args.place).lo = omega (arith, low, from) in
    let hi : c.region.inside.hi ≡ (region_of n c.args.place).hi = omega (arith, high, to) in
    product_within n c.args.place c.region.inside.lo c.region.inside.hi c.index.result lo hi c.index.ensures.value

pub returns-else-named-start : goal.returns-else-named-start
returns-else-named-start c = λ wide n same a.
    let low = ap (λ (x : Extent). x.lo) c.region.view_is in
    let high = ap (λ (x : Extent). x.hi) c.region.view_is in
    let from = ap (λ (x : Path). x.region.lo) same in
    let to = ap (λ (x : Path). x.region.hi) same in
    let lo : c.region.inside.lo ≡ (region_of n c.args.place).lo = omega (arith, low, from) in
    let hi : c.region.inside.hi ≡ (region_of n c.args.place).hi = omega (arith, high, to) in
    let at = ap (λ (x : Extent). x.lo) c.named.view_is in
    let over = far n c.args.place c.region.inside.lo c.region.inside.hi c.index.result lo hi c.index.ensures.value
    c.named.inside.lo (omega (arith, c.if-named-start.false)) (leb-true _ _ wide) in
    let behind : n.base + 512 * input_pages n.level ≤ c.in-Some.named.lo = omega (arith, over, at) in
    ap (λ (o : Option Extent). names_some o (region_of n a)) c.in-Some.is ∙ names_above c.in-Some.named n a behind
