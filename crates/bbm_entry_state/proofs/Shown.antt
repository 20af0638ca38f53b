-- What the calls of break-before-make come to.
use Rattle.std.proofs.Common.{◌≡◌, ℕ, Bool, true, false, ◌&&◌, ◌||◌, nat_eq, nat_lt, ◌<◌, Option, Some, None, is_some}
use Rattle.std.proofs.Common.{refl, ap, ◌∙◌, if◌then◌else◌}
use Rattle.std.proofs.lemmas.Bool.{and_from, or_left, or_right, eq-eqb, lt-ltb}
use Rattle.bbm_regimes.specs.PeMask.{pe_in}
use Rattle.bbm_regimes.specs.declared.pe.PeMask.{PeMask}
use Rattle.bbm_descriptor.specs.declared.desc.Core.{Core}
use Rattle.bbm_barriers.specs.declared.Dsb.{Dsb}
use Rattle.bbm_barriers.specs.Options.{publishes, answers}
use Rattle.bbm_tlbi_scope.specs.declared.entry.Cover.TheVariants.{Full, Second}
use Rattle.bbm_entry_state.specs.declared.pending.Pends.{Pends}
use Rattle.bbm_entry_state.specs.declared.state.EntryState.{EntryState}
use Rattle.bbm_entry_state.specs.declared.state.EntryState.TheVariants.{Clean, Live, Broken}
use Rattle.bbm_entry_state.specs.Points.{core_in, is_broken, writer_at, seen_at, clean_at, waits}
use Rattle.bbm_entry_state.specs.Answered.{answered_at}
use Rattle.bbm_entry_state.specs.EntryCalls.{counts_at, clean_after, Written, Published, Noted, Completed}
use Rattle.bbm_lemmas.proofs.Every.{every_from}

clean_from : (state : EntryState) → core_in state ≡ None → state ≡ Clean
clean_from Clean none = refl
clean_from (Live core) none = cc
clean_from (Broken marks) none = cc

pub counts_full : (state : EntryState) (p : ℕ) → counts_at state Full p ≡ seen_at state p
counts_full Clean p = refl
counts_full (Live core) p = refl
counts_full (Broken marks) p = refl

pub made_clean : (old live broken published state : EntryState) (none pends left : Pends) (all : PeMask) (core : Core) (q n : ℕ) (dsb : Dsb)
    → ((p : ℕ) → publishes dsb q n p ≡ nat_lt p n) → answers dsb true ≡ true → ((p : ℕ) → pe_in all p ≡ nat_lt p n)
    → Written old q (Some core) live → Written live q None broken → Published broken q dsb n published
    → Noted published none all true Full pends → (again : EntryState) → Published published q dsb n again
    → Completed again pends dsb n state left → state ≡ Clean
made_clean old live broken published state none pends left all core q n dsb heard answered reached made broke shown noted again shown' done =
    let is_broken' : is_broken broken ≡ true = broke.broken ∙ ap (λ (o : Option Core). is_some o) made.core in
    let wrote : writer_at broken q ≡ true
    = broke.writers q ∙ ap (λ (x : Bool). x && (nat_eq q q || writer_at live q)) is_broken' ∙ or_left (nat_eq q q) (writer_at live q) (eq-eqb q q refl) in
    let seen : (p : ℕ) → p < n → seen_at published p ≡ true
    = λ p below. shown.seen p ∙ or_left (publishes dsb q n p && writer_at broken q) (seen_at broken p)
    (and_from (publishes dsb q n p) (writer_at broken q) (heard p ∙ lt-ltb p n below) wrote) in
    let seen' : (p : ℕ) → p < n → seen_at again p ≡ true
    = λ p below. shown'.seen p ∙ or_right (publishes dsb q n p && writer_at published q) (seen_at published p) (seen p below) in
    let waited : (p : ℕ) → p < n → waits pends true Full p ≡ true
    = λ p below. noted true Full p ∙ or_left (pe_in all p && counts_at published Full p) (waits none true Full p)
    (and_from (pe_in all p) (counts_at published Full p) (reached p ∙ lt-ltb p n below) (counts_full published p ∙ seen p below)) in
    let full : (p : ℕ) → p < n → answered_at pends dsb Full p ≡ true
    = λ p below. or_left (answers dsb true && waits pends true Full p) (answers dsb false && waits pends false Full p)
    (and_from (answers dsb true) (waits pends true Full p) answered (waited p below)) in
    let cleansed : (p : ℕ) → p < n → clean_after again pends dsb p ≡ true
    = λ p below. or_right (clean_at again p) (seen_at again p && (answered_at pends dsb Full p || answered_at pends dsb Second p))
    (and_from (seen_at again p) (answered_at pends dsb Full p || answered_at pends dsb Second p) (seen' p below)
    (or_left (answered_at pends dsb Full p) (answered_at pends dsb Second p) (full p below))) in
    clean_from state (done.core ∙ ap (λ (b : Bool). if b then None else core_in again) (every_from n (clean_after again pends dsb) cleansed))
