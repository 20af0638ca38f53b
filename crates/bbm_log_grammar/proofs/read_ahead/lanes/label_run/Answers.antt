use Rattle.bbm_log_grammar.proofs.Common.{ℕ, leb, cond, bit_and, refl, arith, prefix_len-le-length, zip2_splat}
use Rattle.bbm_log_grammar.proofs.Common.{zip2_of_maps, splat_is_map, is_label_byte}
use Rattle.bbm_log_grammar.proofs.Lanes.{counted}
use Rattle.bbm_log_grammar.proofs.read_ahead.lanes.label_run.Goals as goal

pub returns-clause-run : goal.returns-clause-run
returns-clause-run c =
    let v = c.args.lanes in
    let long = c.fits-lanes.0 in
    counted _ is_label_byte v _ _ 32 long (omega arith) c.fits-lanes.1 refl
    (zip2_of_maps bit_and _ _ v
    (zip2_of_maps bit_and _ _ v
    (zip2_of_maps (λ a b. cond (leb a b) 255 0) _ _ v (splat_is_map v 32 26 long)
    (zip2_of_maps _ _ _ v (zip2_splat {Y = ℕ} _ v 32 32 long) (splat_is_map v 32 97 long)))
    (zip2_of_maps (λ a b. cond (leb a b) 255 0) _ _ v (splat_is_map v 32 14 long) (zip2_splat {Y = ℕ} _ v 32 45 long)))
    (zip2_splat {Y = ℕ} _ v 32 95 long))
    c.first_set.ensures

pub returns-clause-few : goal.returns-clause-few
returns-clause-few c =
    omega (arith, returns-clause-run c, prefix_len-le-length is_label_byte c.args.lanes, c.fits-lanes.0)
