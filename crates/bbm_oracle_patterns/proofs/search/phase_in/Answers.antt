use Rattle.bbm_rules.proofs.Common.{◌+◌, ◌||◌, ℕ, Bool, List, ap, true, false, drop, reverse, refl, sym, ◌∙◌, is_valid, Trust}
use Rattle.bbm_rules.proofs.Common.{cleansed, cleansed_everywhere, half, seen, Noted}
use Rattle.std.proofs.lemmas.List.{take_rest}
use Rattle.bbm_oracle_patterns.specs.Kept.{notes_behind, notes_of}
use Rattle.bbm_oracle_patterns.specs.declared.kept.Kept.{Kept}
use Rattle.bbm_oracle_patterns.proofs.Phases.{phase_found}
use Rattle.bbm_oracle_patterns.proofs.search.phase_in.Goals as goal

pub returns-then-is_gone : goal.returns-then-is_gone
returns-then-is_gone g c =
    let trust : Trust = g.E.TagEvidence.trust c.args.evidence.now in
    let from : ℕ = c.in-Some.write.index + 1 in
    let since : List Noted = notes_behind from (reverse (drop from c.args.log.now)) in
    phase_found c.args.header.now trust c.args.seat.now.kind c.args.seat.now.level c.args.seat.now.place c.args.value
    c.args.pe (notes_of (reverse c.args.log.now)) since
    c.in-Some.write.value true (is_valid c.args.seat.now.kind c.args.seat.now.level c.args.value)
    (cleansed c.args.header.now trust c.args.seat.now.place c.args.pe since)
    (half c.args.header.now c.args.seat.now.place c.args.pe since)
    (seen c.args.header.now c.args.seat.now.place c.args.pe since)
    c.in-Some.ensures.found (sym c.if-is_gone.true ∙ c.is_gone.ensures
    ∙ ap (λ (b : Bool). b || cleansed_everywhere c.args.header.now trust c.args.seat.now.place since) c.requires.told) refl refl refl refl

pub returns-then-is_valid : goal.returns-then-is_valid
returns-then-is_valid g c =
    let trust : Trust = g.E.TagEvidence.trust c.args.evidence.now in
    let from : ℕ = c.in-Some.write.index + 1 in
    let since : List Noted = notes_behind from (reverse (drop from c.args.log.now)) in
    phase_found c.args.header.now trust c.args.seat.now.kind c.args.seat.now.level c.args.seat.now.place c.args.value
    c.args.pe (notes_of (reverse c.args.log.now)) since
    c.in-Some.write.value false true (cleansed c.args.header.now trust c.args.seat.now.place c.args.pe since)
    (half c.args.header.now c.args.seat.now.place c.args.pe since)
    (seen c.args.header.now c.args.seat.now.place c.args.pe since)
    c.in-Some.ensures.found (sym c.if-is_gone.false ∙ c.is_gone.ensures
    ∙ ap (λ (b : Bool). b || cleansed_everywhere c.args.header.now trust c.args.seat.now.place since) c.requires.told)
    (sym c.if-is_valid.true ∙ c.is_valid.ensures)
    refl refl refl

pub returns-else-is_valid : goal.returns-else-is_valid
returns-else-is_valid g c =
    let trust : Trust = g.E.TagEvidence.trust c.args.evidence.now in
    let from : ℕ = c.in-Some.write.index + 1 in
    let since : List Noted = notes_behind from (reverse (drop from c.args.log.now)) in
    let rest : List Kept → List Noted = λ ks. notes_behind from (reverse ks) in
    c.broken_phase.ensures
    ∙ phase_found c.args.header.now trust c.args.seat.now.kind c.args.seat.now.level c.args.seat.now.place c.args.value
    c.args.pe (notes_of (reverse c.args.log.now)) since
    c.in-Some.write.value false false _ _ _
    c.in-Some.ensures.found (sym c.if-is_gone.false ∙ c.is_gone.ensures
    ∙ ap (λ (b : Bool). b || cleansed_everywhere c.args.header.now trust c.args.seat.now.place since) c.requires.told)
    (sym c.if-is_valid.false ∙ c.is_valid.ensures)
    (c.cleansed-cleansed.ensures c.args.pe)
    (c.trace_of-trace.ensures.half from c.args.pe
    ∙ ap (λ (ks : List Kept). half c.args.header.now c.args.seat.now.place c.args.pe (rest ks))
    (take_rest c.args.log.now from))
    (c.trace_of-trace.ensures.seen from c.args.pe
    ∙ ap (λ (ks : List Kept). seen c.args.header.now c.args.seat.now.place c.args.pe (rest ks))
    (take_rest c.args.log.now from))
