-- A header whose world isn't in its ranges is none, whatever follows.
use Rattle.bbm_log_grammar.proofs.Common.{◌≡◌, [], ◌∷◌, Bool, false, cond, refl, ap, Ok, Err, Heading, heading_ok}
use Rattle.bbm_log_grammar.proofs.Common.{Fields}
use Rattle.std.proofs.Math.Bool.{and-false}
use Rattle.bbm_regimes.specs.World.{world_ok}
use Rattle.bbm_events.specs.declared.malformed.Malformed.TheVariants.{BadHeader}
use Rattle.bbm_events.specs.Lines.{checked}

pub unfit_world : (h : Heading) (rest : Fields) → world_ok h.world ≡ false → checked h rest ≡ Err BadHeader
unfit_world h [] e = ap (λ (t : Bool). cond t (Ok h) (Err BadHeader)) unfit
  where
    unfit : heading_ok h ≡ false
    unfit = rw e (and-false _)
unfit_world h (text ∷ rest) e = refl
