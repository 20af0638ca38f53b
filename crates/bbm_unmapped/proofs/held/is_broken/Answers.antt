use Rattle.bbm_unmapped.proofs.Common.{number_in, pages_of}
use Rattle.bbm_rules.proofs.Common.{◌≡◌, ◌+◌, ◌*◌, ◌∙◌, ℕ, Option, ap, arith, subst}
use Rattle.std.proofs.Common.{IfSome}
use Rattle.bbm_place_map.specs.Map.{IsPosition, page_of}
use Rattle.bbm_unmapped.proofs.held.is_broken.Goals as goal

pub is_broken_at-requires : goal.is_broken_at-requires
unfolding IsPosition
is_broken_at-requires c =
    let at : c.unwrap-place.result ≡ c.get.result + 8 * c.args.number
    = subst (λ (o : Option ℕ). IfSome o (λ p. p ≡ c.get.result + 8 * c.args.number)) c.unwrap-place.ensures c.new.ensures.value in
    let same : page_of c.unwrap-place.result ≡ page_of c.args.first.now.place
    = omega (arith, at, c.get.ensures.value, c.requires.first, c.requires.within) in
    ap (number_in (pages_of c.args.map.now)) same ∙ c.requires.position
