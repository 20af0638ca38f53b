use Rattle.bbm_rules.proofs.Common.{◌≡◌, ℕ, ◌<◌, ◌%◌, ◌^◌, true, Option, None, sym, ◌∙◌, ap, arith, nat_tests, false}
use Rattle.bbm_rules.proofs.Common.{option_map_or, is_page, is_null}
use Rattle.std.proofs.Common.{IsSome}
use Rattle.bbm_replay.proofs.Meeting.{never_null}
use Rattle.bbm_replay.proofs.parts.ReplayState.names_null.Goals as goal

is_one : (base : ℕ) (o : Option ℕ) → o ≡ None → ((base < 2 ^ 48) × (base % 4096 ≡ 0) → IsSome o) → is_page base ≡ true → ⊥
is_one base o none some page =
    let both : (base < 2 ^ 48) × (base % 4096 ≡ 0) = grind (arith, nat_tests) in
    let has : IsSome o = some both in cc

pub returns-in-None-new : goal.returns-in-None-new
returns-in-None-new c heading h s =
    let base = c.in-Some.base in
    let named = sym c.in-Some.is ∙ c.base_of.ensures in
    never_null heading h base s.told.fit (is_one base c.new.result c.in-None-new.is c.new.ensures.is_one.1)
    ∙ ap (λ (o : Option ℕ). option_map_or (λ x. is_null h x) o false) named
