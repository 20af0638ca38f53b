use Rattle.bbm_roots.proofs.Common.{◌≡◌, ℕ, ◌<◌, ◌&&◌, not, false, loads_in, reads_tag, pe_in, firsts_of}
use Rattle.bbm_roots.proofs.registers.Registers.first_unread.Given as goal

abbrev pub invariant-loop-number : goal.invariant-loop-number
invariant-loop-number l =
    (p : ℕ) → p < l.number → (pe_in l.pes p
    && not (reads_tag l.self.world (firsts_of l.self p) (loads_in l.self.second.items p) l.tag)) ≡ false
