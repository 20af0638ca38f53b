use Rattle.bbm_replay.proofs.Common.{value_at}
use Rattle.bbm_rules.proofs.Common.{◌≡◌, ℕ, ◌+◌, ◌*◌, ◌/◌, ◌%◌, ◌<◌, ◌==◌, true, ap, ◌∙◌, arith, and_from, and_parts}
use Rattle.bbm_rules.proofs.Common.{eq-eqb, eqb-true, page_of}
use Rattle.bbm_replay_trees.specs.Told.{is_at}
use Rattle.bbm_replay.proofs.pages.is_zero.Goals as goal

at_index : (a page : ℕ) → a / 4096 * 4096 ≡ page → a % 8 ≡ 0 → (a ≡ page + 8 * (a % 4096 / 8)) × (a % 4096 / 8 < 512)
at_index a page p r = (omega arith, omega arith)

at_number : (page i : ℕ) → page % 4096 ≡ 0 → i < 512 → ((page + 8 * i) / 4096 * 4096 ≡ page) × ((page + 8 * i) % 8 ≡ 0)
at_number page i aligned below = (omega arith, omega arith)

inside : (page i : ℕ) → page % 4096 ≡ 0 → i < 512 → is_at page (page + 8 * i) ≡ true
inside page i aligned below =
    let at = at_number page i aligned below in
    and_from (page_of (page + 8 * i) == page) ((page + 8 * i) % 8 == 0) (eq-eqb (page_of (page + 8 * i)) page at.0)
    (eq-eqb ((page + 8 * i) % 8) 0 at.1)

pub returns-then-is_blank-clause-zero : goal.returns-then-is_blank-clause-zero
returns-then-is_blank-clause-zero c = λ e a is.
    let both = and_parts (page_of a == c.args.page) (a % 8 == 0) is in
    (c.is_blank.ensures.blank.0 c.if-is_blank.true a (eqb-true (page_of a) c.args.page both.0)).0

pub returns-clause-zero : goal.returns-clause-zero
returns-clause-zero c e a is =
    let page = c.args.page in
    let both = and_parts (page_of a == page) (a % 8 == 0) is in
    let at = at_index a page (eqb-true (page_of a) page both.0) (eqb-true (a % 8) 0 both.1) in
    let below : a % 4096 / 8 < c.loop-index.index = omega (arith, at.1) in
    ap (λ (x : ℕ). value_at c.args.map.now x) at.0 ∙ c.loop-index.invariant (a % 4096 / 8) below
