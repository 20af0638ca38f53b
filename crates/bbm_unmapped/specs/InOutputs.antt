-- Which pages are among outputs. Source: project's own choice.
use Rattle.std.specs.Prelude.{ℕ, Bool, ◌&&◌, nat_le, nat_lt}
use Rattle.bbm_unmapped.specs.declared.outputs.Outputs.{Outputs}

abbrev pub in_outputs : Outputs → ℕ → Bool
in_outputs outputs page = nat_le outputs.first page && nat_lt page outputs.behind
