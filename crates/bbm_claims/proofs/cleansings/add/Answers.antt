use Rattle.bbm_claims.proofs.Common.{Cleansing}
use Rattle.bbm_rules.proofs.Common.{◌≡◌, Bool, ◌||◌, sym, ◌∙◌, ap, get_or_default}
use Rattle.bbm_regimes.specs.PeMask.{pe_in}
use Rattle.bbm_claims.proofs.Cleansed.{found_in, tells_set}
use Rattle.bbm_claims.proofs.cleansings.add.Goals as goal

pub returns-in-Some : goal.returns-in-Some
returns-in-Some c = λ a p n.
    let old : Cleansing = c.index_mut.result.now in
    let found = found_in c.deref.result.now c.args.kept.now.items c.in-Some.i old c.args.place c.args.since
    c.deref.ensures.value
    c.in-Some.ensures c.index_mut.ensures.value in
    let same : c.index.result.now ≡ old = c.index.ensures
    ∙ get_or_default c.args.kept.now.items c.in-Some.i c.index.result.now old found.0 ∙ sym c.index_mut.ensures.value in
    tells_set c.args.kept.now.items c.in-Some.i old c.or.result c.args.place c.args.pe c.args.since a p n found.0
    c.index_mut.ensures.value found.1 found.2
    (c.or.ensures p
    ∙ ap (λ (x : Cleansing). pe_in x.pes p || pe_in c.one.result p) same
    ∙ ap (λ (b : Bool). pe_in old.pes p || b) (c.one.ensures p))
