use Rattle.bbm_roots.proofs.Common.{◌≡◌, ◌∙◌, ◌&&◌, ◌||◌, ap, sym, Bool, true, false, nat_eq, is_some, ℕ, arith, pe_in}
use Rattle.bbm_roots.proofs.Common.{eqb-true, takes_whole_tag, tag_key, slot_of, wait_at, wait_bit, unread_at}
use Rattle.bbm_roots.proofs.Common.{same_flag}
use Rattle.bbm_roots.proofs.Places.{slots}
use Rattle.bbm_roots.proofs.issue.note.Goals as goal

known : (k w h s t u : Bool) → (k && (w || (h && (s && (t && u))))) ≡ ((k && w) || ((k && h) && ((s && t) && u)))
known k w h s t u = grind (arith)

unnoted : (k w h q s t u : Bool) → (q ≡ true → k ≡ false) → (k && w) ≡ ((k && w) || ((k && h) && ((q && s && t) && u)))
unnoted k w h q s t u = grind (arith)

pub returns-then-has : goal.returns-then-has
returns-then-has c = λ q b g h p kept.
    let ms = c.args.pendings.now.waits.items in
    let here = pe_in c.args.pendings.now.issuers q in
    let flag = c.args.scope.now.broadcast in
    let w = wait_at ms (slot_of q b) (tag_key g) in
    let takes = takes_whole_tag c.args.scope.now c.args.vmid g in
    let unread = unread_at c.args.registers.now c.args.issuer flag g p in
    rw (c.note_place.ensures (slot_of q b) g h p kept, slots q b c.args.issuer flag)
    (known here (wait_bit p w) (is_some w) (nat_eq q c.args.issuer && same_flag flag b) takes unread)

pub returns-else-has : goal.returns-else-has
returns-else-has c = λ q b g h p kept.
    let ps = c.args.pendings.now in
    let flag = c.args.scope.now.broadcast in
    let w = wait_at ps.waits.items (slot_of q b) (tag_key g) in
    let takes = takes_whole_tag c.args.scope.now c.args.vmid g in
    let unread = unread_at c.args.registers.now c.args.issuer flag g p in
    let none : pe_in ps.issuers c.args.issuer ≡ false = sym c.has.ensures ∙ c.if-has.false in
    unnoted (pe_in ps.issuers q) (wait_bit p w) (is_some w) (nat_eq q c.args.issuer) (same_flag flag b) takes unread
    (λ at. ap (λ (n : ℕ). pe_in ps.issuers n) (eqb-true q c.args.issuer at) ∙ none)
