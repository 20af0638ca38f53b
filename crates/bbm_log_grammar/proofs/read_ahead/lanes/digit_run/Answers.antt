use Rattle.bbm_log_grammar.proofs.Common.{ℕ, leb, cond, bit_and, refl, arith, prefix_len-le-length, zip2_splat}
use Rattle.bbm_log_grammar.proofs.Common.{zip2_of_maps, splat_is_map, is_lower_digit}
use Rattle.bbm_log_grammar.proofs.Lanes.{counted}
use Rattle.bbm_log_grammar.proofs.read_ahead.lanes.digit_run.Goals as goal

pub returns-clause-run : goal.returns-clause-run
returns-clause-run c =
    let v = c.args.lanes in
    let long = c.fits-lanes.0 in
    counted _ (is_lower_digit 16) v _ _ 16 long (omega arith) c.fits-lanes.1 refl
    (zip2_of_maps bit_and _ _ v
    (zip2_of_maps (λ a b. cond (leb a b) 255 0) _ _ v (splat_is_map v 16 10 long) (zip2_splat {Y = ℕ} _ v 16 48 long))
    (zip2_of_maps (λ a b. cond (leb a b) 255 0) _ _ v (splat_is_map v 16 6 long) (zip2_splat {Y = ℕ} _ v 16 97 long)))
    c.first_set.ensures

pub returns-clause-few : goal.returns-clause-few
returns-clause-few c =
    omega (arith, returns-clause-run c, prefix_len-le-length (is_lower_digit 16) c.args.lanes, c.fits-lanes.0)
