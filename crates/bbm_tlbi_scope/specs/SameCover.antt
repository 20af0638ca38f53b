-- The grades of cover, compared.
-- Source: project's own choice.
use Rattle.std.specs.Prelude.{Bool, true, false}
use Rattle.bbm_tlbi_scope.specs.declared.entry.Cover.{Cover}
use Rattle.bbm_tlbi_scope.specs.declared.entry.Cover.TheVariants.{None as NoCover, Half, Second, Full}

-- whether two grades of cover are the same
abbrev pub same_cover : Cover → Cover → Bool
same_cover NoCover NoCover = true
same_cover Half Half = true
same_cover Second Second = true
same_cover Full Full = true
same_cover _ _ = false
