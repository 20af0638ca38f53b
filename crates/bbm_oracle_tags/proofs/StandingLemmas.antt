-- The newest of the readable standings is the present one.
use Rattle.bbm_rules.proofs.Common.{◌≡◌, List, [], ◌∷◌, take, Some, slice_get}
use Rattle.bbm_rules.specs.RegisterValues.{Standing}

pub newest-is : (ss : List Standing) (s x : Standing) → take 1 ss ≡ x ∷ [] → slice_get ss 0 ≡ Some s → s ≡ x
newest-is [] s x one there = cc
newest-is (a ∷ ss) s x one there = cc

pub newest-there : (ss : List Standing) (x : Standing) → take 1 ss ≡ x ∷ [] → slice_get ss 0 ≡ Some x
newest-there [] x one = cc
newest-there (a ∷ ss) x one = cc
