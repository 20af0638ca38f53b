use Rattle.std.proofs.Common.{◌≡◌, refl, rules}
use Rattle.bbm_rules.specs.Broken.{broken}
use Rattle.bbm_rules.specs.Tree.{tree}
use Rattle.bbm_state_tests.proofs.roots.the_first_root_holds_its_tag.Goals as goal

pub first_root-requires : goal.first_root-requires
unfolding broken tree
first_root-requires g c = let page : c.unwrap-page.result ≡ 0x4000_0000 = search rules in rw page refl
