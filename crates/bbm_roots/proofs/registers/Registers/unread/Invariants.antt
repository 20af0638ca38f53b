use Rattle.bbm_roots.proofs.Common.{◌≡◌, ℕ, ◌&&◌, not, nat_lt, loads_in, reads_tag, pe_in, firsts_of}
use Rattle.bbm_roots.proofs.registers.Registers.unread.Given as goal

abbrev pub invariant-loop-number : goal.invariant-loop-number
invariant-loop-number l =
    (p : ℕ) → pe_in l.unread p ≡ (nat_lt p l.number && (pe_in l.reach p
    && not (reads_tag l.self.world (firsts_of l.self p) (loads_in l.self.second.items p) l.tag)))
