-- Which PEs are related to which, as a walk keeps it. No public contract cites these words.
use Rattle.std.specs.Prelude.{ℕ, zero, suc, Bool, true, false, List, [], ◌∷◌}
use Rattle.bbm_regimes.specs.PeMask.{pe_in}
use Rattle.bbm_regimes.specs.declared.pe.PeMask.{PeMask}
use Rattle.bbm_oracle_patterns.specs.declared.relation.Relation.{Relation}
use Rattle.bbm_oracle_patterns.specs.declared.open.Open.{Open}

-- whether p is in the set of index q
abbrev pub row_has : List PeMask → ℕ → ℕ → Bool
row_has [] q p = false
row_has (m ∷ ms) zero p = pe_in m p
row_has (m ∷ ms) (suc q) p = row_has ms q p

-- whether q is related to p
unfoldable pub related : Relation → ℕ → ℕ → Bool
related r q p = row_has r.rows q p

-- the same for unanswered TLBIs of q, broadcast or not, and p
abbrev pub is_open : Open → ℕ → Bool → ℕ → Bool
is_open o q true p = related o.broadcast q p
is_open o q false p = related o.local q p
