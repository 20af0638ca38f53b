-- Worked cases: histories with the same phases, or the same tags, of which one has a TLBI that waits for its answer. They
-- aren't alike, since they differ after the answer. The events stand newest first.
use Rattle.bbm_rules.proofs.Common.{◌≡◌, true, false, List, [], ◌∷◌, None, refl, sym, ◌∙◌, true≢false, arith, Inner}
use Rattle.bbm_rules.proofs.Common.{All, Stores, El2, El2Tag, Event, Init, Root, Write, Dsb, Tlbi, Patterns, holds_at}
use Rattle.bbm_rules.proofs.Common.{Vae2is}
use Rattle.bbm_rules.specs.declared.phase.Phase.TheVariants.{Clean, Seen}
use Rattle.bbm_rules.specs.Broken.{broken}
use Rattle.bbm_rules.specs.Phases.{phase_of}
use Rattle.bbm_rules.specs.Tree.{tree}
use Rattle.bbm_tlbi_scope.specs.declared.op.TlbiOp.TheVariants.{Alle2is}
use Rattle.bbm_alike.specs.Alike.{Alike}
use Rattle.bbm_alike.specs.KnownOfHistories.{Known}
use Rattle.bbm_alike.proofs.AlikePhases.{same_phase}
use Rattle.bbm_alike.proofs.CasesSameTags.{left_a_root, two_pes}
use Rattle.bbm_alike.proofs.Onward.{onward}

-- A DSB for all PEs, and one that orders stores alone.
abbrev answer : Event
answer = Dsb 0 (record { domain = Inner; types = All })

abbrev publish : Event
publish = Dsb 0 (record { domain = Inner; types = Stores })

-- A block was cleared, and no PE reads it any more.
abbrev cleared : List Event
cleared =
    publish ∷ Write 0 4104 0 ∷ Write 0 4104 0x80000701 ∷ Root 0 El2 None 4096 ∷ Init 0 4096 ∷ []

-- And it is flushed; nothing answers that so far.
abbrev flushed : List Event
flushed = Tlbi 0 Vae2is 0x40000 ∷ cleared

pub flush_that_waits : phase_of two_pes Patterns flushed 4104 1 ≡ phase_of two_pes Patterns cleared 4104 1
unfolding phase_of tree
flush_that_waits = refl

pub answered_flush : phase_of two_pes Patterns (answer ∷ flushed) 4104 1 ≡ Clean
unfolding phase_of tree
answered_flush = refl

pub nothing_answered : phase_of two_pes Patterns (answer ∷ cleared) 4104 1 ≡ Seen
unfolding phase_of tree
nothing_answered = refl

pub a_flush_that_waits_counts : Known two_pes → Alike two_pes Patterns Patterns flushed cleared → ⊥
unfolding broken tree
a_flush_that_waits_counts k a =
    let still = onward two_pes k (omega arith) flushed cleared a refl (answer ∷ []) refl in
    let same = same_phase two_pes k Patterns Patterns (answer ∷ flushed) (answer ∷ cleared) still.1 4104 1 (omega arith) in
    let apart : Clean ≡ Seen = sym answered_flush ∙ (same ∙ nothing_answered) in cc

-- What a PE may still have of a root that it left is flushed; nothing answers that so far.
abbrev flushed_whole : List Event
flushed_whole = Tlbi 0 Alle2is 0 ∷ left_a_root

pub tag_that_waits : holds_at two_pes Patterns 0 4096 El2Tag flushed_whole ≡ true
tag_that_waits = refl

pub tag_taken_away : holds_at two_pes Patterns 0 4096 El2Tag (answer ∷ flushed_whole) ≡ false
tag_taken_away = refl

pub tag_that_stays : holds_at two_pes Patterns 0 4096 El2Tag (answer ∷ left_a_root) ≡ true
tag_that_stays = refl

pub a_tag_that_waits_counts : Known two_pes → Alike two_pes Patterns Patterns flushed_whole left_a_root → ⊥
unfolding broken tree
a_tag_that_waits_counts k a =
    let still = onward two_pes k (omega arith) flushed_whole left_a_root a refl (answer ∷ []) refl in
    let same = still.1.holds 0 4096 El2Tag (omega arith) in
    true≢false (sym tag_that_stays ∙ (sym same ∙ tag_taken_away))
