-- What a TLBI has to do for a claim, by the event as it is kept. No public contract cites these words.
-- Source: project's own choice.
use Rattle.std.specs.Prelude.{ℕ, Bool, ◌&&◌}
use Rattle.bbm_tlbi_scope.specs.declared.entry.Cover.{Cover}
use Rattle.bbm_rules.specs.Cleansing.{same_cover}
use Rattle.bbm_rules.specs.Prelude.{Barrier, Heading, Event}
use Rattle.bbm_rules.specs.Reach.{completes, reaches}
use Rattle.bbm_rules.specs.Sentences.{completes_for, issues}
use Rattle.bbm_oracle_patterns.specs.Kept.{cover_in}
use Rattle.bbm_oracle_patterns.specs.declared.kept.Kept.{Kept}

-- a TLBI of q that this barrier of q completes, and that reaches p and covers the place so far
abbrev pub is_flush_of : Heading → ℕ → Barrier → Cover → ℕ → ℕ → Kept → Bool
is_flush_of heading q dsb cover place p k = issues q k.event && (completes dsb k.event
    && (reaches heading k.event p && same_cover (cover_in k.covers.items place) cover))

-- a barrier of q that completes this TLBI
abbrev pub completed_by : ℕ → Event → Kept → Bool
completed_by q tlbi k = completes_for q tlbi k.event
