-- What a history stands for. Source: project's own choice.
use Rattle.std.specs.Prelude.{List}
use Rattle.bbm_rules.specs.Prelude.{Heading}
use Rattle.bbm_rules.specs.Claims.{Trust}
use Rattle.bbm_rules.specs.Notes.{Noted}
use Rattle.bbm_oracle_patterns.specs.Kept.{notes_of}
use Rattle.bbm_oracle_patterns.specs.declared.kept.Kept.{Kept}

-- a header, what is trusted, and the events taken, the newest first, each with the places that it covered
pub record Past : Type 0 where
  pub heading : Heading
  pub trust : Trust
  pub kept : List Kept

-- the annotated history, newest first
abbrev pub notes : Past → List Noted
notes past = notes_of past.kept
