use Rattle.std.proofs.Common.{refl}
use Rattle.bbm_entry_state.proofs.Shown.{made_clean}
use Rattle.bbm_entry_state.proofs.example.break_before_make.Goals as goal

pub returns : goal.returns
returns c =
    made_clean c.new.result c.write-live.result c.write-broken.result c.dsb-published.result c.complete-state.result.0 c.none.result c.tlbi-pends.result c.complete-state.result.1
    c.all.result c.args.core c.args.issuer c.args.n _ (λ p. refl) refl c.all.ensures
    c.write-live.ensures c.write-broken.ensures c.dsb-published.ensures c.tlbi-pends.ensures c.dsb.result c.dsb.ensures c.complete-state.ensures
