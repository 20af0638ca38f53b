-- What is asked of a TLBI that is to take a tag away, and of the events behind those that a history has taken. No
-- public contract cites these words. Source: project's own choice.
use Rattle.std.specs.Prelude.{ℕ, Bool, not, ◌&&◌, List, [], ◌∷◌}
use Rattle.bbm_rules.specs.Lists.{any}
use Rattle.bbm_rules.specs.Prelude.{Barrier, Heading, Event, Msr}
use Rattle.bbm_rules.specs.Reach.{completes, reaches}
use Rattle.bbm_rules.specs.Sentences.{completes_for, issues}

-- whether the event is a TLBI of q that this barrier of q completes, and reaches p, where no later event answers it
abbrev pub is_open_for : Heading → ℕ → ℕ → Barrier → Event → List Event → Bool
is_open_for heading p q dsb e later =
    (issues q e && (completes dsb e && reaches heading e p)) && not (any (completes_for q e) later)

-- register writes, and nothing else
abbrev pub AreWrites : List Event → Type 0
AreWrites [] = Unit {0}
AreWrites (Msr pe reg value ∷ h) = AreWrites h
AreWrites (e ∷ h) = ⊥
