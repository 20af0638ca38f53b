-- How many steps a plain conflict run has.
use Rattle.bbm_counterrun.proofs.Common.{length-append, Step, Plan, Read, behind, combine_within, drops, extends}
use Rattle.bbm_counterrun.proofs.Common.{is_within, reads_of, run_of, walk_of, is_plain}
use Rattle.bbm_rules.proofs.Common.{◌≡◌, ℕ, zero, suc, ◌+◌, ◌≤◌, arith, true, List, [], ◌∷◌, length, reverse, Option}
use Rattle.bbm_rules.proofs.Common.{Some, None, refl, ap, length-drop, length-reverse, Heading, Event, start_of}
use Rattle.std.proofs.lemmas.List.{length-map, length-take}
use Rattle.bbm_counterrun.proofs.FirstFound.{reads_short}
use Rattle.bbm_counterrun.proofs.PlainTest.{combine_parts, within_parts}

extends_length : (n : ℕ) (rs : List Read) → length (extends n rs) ≡ length rs
extends_length n [] = refl
extends_length n (r ∷ rs) = ap suc (extends_length (suc n) rs)

drops_length : (n k : ℕ) → length (drops n k) ≡ k
drops_length n zero = refl
drops_length n (suc k) = ap suc (drops_length (suc n) k)

walk_length : (plan : Plan) → length (walk_of plan) ≡ suc (length plan.rest + length plan.rest)
walk_length plan = omega (
  arith,
  length-append (extends 1 plan.rest) (drops 1 (length plan.rest)),
  extends_length 1 plan.rest,
  drops_length 1 (length plan.rest),
)

behind_length : (plan : Plan) (o : Option ℕ) (count : ℕ) (events : List Event) → count ≤ length events → plan.starts ≤ count
    → combine_within plan.starts count o ≡ true → length (behind plan o events) + plan.starts ≤ length events + 2
behind_length plan None count events few le within = omega (arith, length-map {A = Event} {B = Step}, length-drop {A = Event}, few, le)
behind_length plan (Some n) count events few le within =
    let c = combine_parts plan.starts count n within in
    omega (arith, length-append {A = Step}, length-map {A = Event} {B = Step}, length-drop {A = Event}, length-take {A = Event}, few, c.0, c.1)

run_length : (plan : Plan) (count : ℕ) (events : List Event) → count ≤ length events → is_within plan count ≡ true
    → length (run_of plan events) ≤ length events + (length plan.rest + length plan.rest) + 3
run_length plan count events few within =
    let p = within_parts plan count within in
    let last = behind_length plan plan.combines count events few p.1 p.2 in
    omega (arith, length-append {A = Step}, length-map {A = Event} {B = Step}, length-take {A = Event}, walk_length plan, last, few, p.1)

pub run_is_short : (heading : Heading) (h : List Event) (e : Event) (plan : Plan) → start_of heading.world plan.kind ≤ 3
    → is_plain heading h e plan ≡ true → is_within plan (length h) ≡ true
    → length (run_of plan (reverse (e ∷ h))) ≤ length h + 10
run_is_short heading h e plan start plain within =
    let short : length (reads_of plan) ≤ 4
    = reads_short heading h e plan.starts plan.pe plan.kind plan.number (reads_of plan) plan.combines start plain in
    let most = run_length plan (length h) (reverse (e ∷ h)) (omega (arith, length-reverse (e ∷ h))) within in
    omega (arith, short, most, length-reverse (e ∷ h))
