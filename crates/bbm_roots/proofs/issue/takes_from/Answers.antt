use Rattle.bbm_roots.proofs.Common.{◌≡◌, ◌∙◌, Bool, true, ◌&&◌, ◌||◌, not, nat_eq, nat_lt, refl, sym, ap, ℕ, false≢true}
use Rattle.bbm_roots.proofs.Common.{pe_in, reads_at, arith, Option, Some, None, is_some, get, tag_key}
use Rattle.bbm_roots.proofs.Common.{Held, IsLeast, UpTo}
use Rattle.bbm_roots.specs.Holds.{entry_keeps}
use Rattle.bbm_roots.proofs.issue.takes_from.Goals as goal

-- where one passes there is a least
some-least : (test : ℕ → Bool) (o : Option ℕ) → IsLeast UpTo test o → (p : ℕ) → test p ≡ true → is_some o ≡ true
some-least test None none p e = absurd (false≢true (sym (none p) ∙ e))
some-least test (Some x) least p e = refl

among : (below reached held unread of_pe : Bool) → (below ≡ true → reached ≡ of_pe) → held ≡ true →
    (below && (of_pe && unread)) ≡ true → (below && ((reached && held) && unread)) ≡ true
among below reached held unread of_pe = grind (arith)

pub returns-in-Some : goal.returns-in-Some
returns-in-Some c = λ p kept lost.
    let registers = c.args.registers.now in
    let tag = c.args.tag in
    let x : Held = c.in-Some.held.now in
    let found : get nat_eq c.args.holds.now (tag_key tag) ≡ Some x =
    ap (get nat_eq c.args.holds.now) (sym c.new.ensures) ∙ sym c.in-Some.ensures.value in
    let there : pe_in x.pes p ≡ true = sym (ap (entry_keeps p) found) ∙ kept in
    c.is_some.ensures
    ∙ some-least (λ q. nat_lt q registers.pes && (pe_in c.and-pes.result q && not (reads_at registers q tag)))
    c.first_unread.result c.first_unread.ensures p
    (ap (λ (b : Bool). nat_lt p registers.pes && (b && not (reads_at registers p tag))) (c.and-pes.ensures p)
    ∙ among (nat_lt p registers.pes) (pe_in c.reached.result p) (pe_in x.pes p) (not (reads_at registers p tag))
    (c.args.broadcast || nat_eq p c.args.issuer) (c.reached.ensures p) there lost)

pub returns-in-None : goal.returns-in-None
returns-in-None c = λ p kept lost.
    let none : get nat_eq c.args.holds.now (tag_key c.args.tag) ≡ None =
    ap (get nat_eq c.args.holds.now) (sym c.new.ensures) ∙ sym c.in-None.ensures.value in
    ap (entry_keeps p) (sym none) ∙ kept
