-- Locks that are all free.
use Rattle.std.proofs.Common.{◌≡◌, ℕ, Option, None, get_or, replicate, inl, inr, arith}
use Rattle.std.proofs.lemmas.List.{get_or-replicate, get_or_past, length-replicate}
use Rattle.std.proofs.lemmas.Bool.{cases_lt}

pub free : (n lock : ℕ) → get_or (replicate n (let none : Option ℕ = None in none)) lock None ≡ None
free n lock =
    elim (cases_lt lock n) [
      | inl below ↦ get_or-replicate n lock None None below
      | inr above ↦ get_or_past (replicate n None) lock None (omega (arith, length-replicate n (let none : Option ℕ = None in none)))
    ]
