-- Words on lists, on options, on tests and on orders, as the definitions use them. Source: project's own choice.
use Rattle.std.specs.Prelude.{ℕ, Bool, ◌&&◌, ◌||◌, ◌==◌, nat_lt}
pub use Rattle.bbm_lemmas.specs.ListWords.{any, every, ◌>>=◌, if_so, is_that, some, among, with_number, repeated, least}
pub use Rattle.bbm_lemmas.specs.ListWords.{one_number, below, some_pe}

-- less by a number; where the two are equal, by what comes next
abbrev pub by_number : ℕ → ℕ → Bool → Bool
by_number m n next = nat_lt m n || (m == n && next)
