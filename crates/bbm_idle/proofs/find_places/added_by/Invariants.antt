use Rattle.bbm_idle.proofs.Common.{note_of, notes_of, place_adds}
use Rattle.bbm_rules.proofs.Common.{◌≡◌, ℕ, length, take, reverse, any}
use Rattle.bbm_regimes.specs.PeMask.{pe_in}
use Rattle.bbm_idle.proofs.find_places.added_by.Given as goal

abbrev pub invariant-loop-seat : goal.invariant-loop-seat
invariant-loop-seat l = (p : ℕ) → pe_in l.pes p
    ≡ any (place_adds l.header (notes_of (reverse l.log)) (note_of (length l.log) l.newest) p) (take l.seat-index l.seats)
