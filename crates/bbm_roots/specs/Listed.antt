-- The declared roots by numbers from 0 on. Source: project's own choice.
use Rattle.std.specs.Prelude.{ℕ, Option, slice_get}
use Rattle.std.specs.Option.{option_map}
use Rattle.bbm_rules.specs.Roots.{Declared}
use Rattle.bbm_roots.specs.declared.roots.Roots.{Roots}

-- one of them by its number, None from the count on
unfoldable pub nth_in : Roots → ℕ → Option Declared
nth_in roots i = option_map (λ (e : ℕ × Declared). e.1) (slice_get roots.declared.entries i)
