-- Ends of paths and pages of roots, one after another.
use Rattle.bbm_rules.proofs.Common.{◌≡◌, ℕ, zero, suc, ◌+◌, ◌-◌, ◌<◌, ◌*◌, ◌++◌, ◌∷◌, [], Bool, true, cond, List}
use Rattle.bbm_rules.proofs.Common.{filter_map, flat_map, sym, ◌∙◌, ap, add-one, arith, Heading, End, end_at}
use Rattle.bbm_rules.proofs.Common.{ends_below, Trust, Noted, events_of, is_fresh, pages_from, next_of, places_in}
use Rattle.bbm_rules.proofs.Common.{value_of}
use Rattle.bbm_rules.specs.Prelude.{Kind}

-- the ends of the paths that go on through a next page, read at this level
abbrev pub through : Heading → Trust → List Noted → Kind → ℕ → ℕ → List End
through heading trust h kind level next = end_at level next ∷ ends_below heading trust h kind (3 - level) level next

-- the ends of the paths that go on from a fresh page, where a level is left
pub ends_through : (heading : Heading) (trust : Trust) (h : List Noted) (kind : Kind) (level below page : ℕ) (nexts : List ℕ)
    → below ≡ level + 1 → level < 3 → is_fresh heading trust h page ≡ true
    → nexts ≡ filter_map (λ place. next_of kind level (value_of (events_of h) place)) (places_in (events_of h) page)
    → flat_map (through heading trust h kind below) nexts
    ≡ ends_below heading trust h kind (3 - level) level page
ends_through heading trust h kind level below page nexts is low fresh are =
    let more : suc (3 - suc level) ≡ 3 - level = omega (arith, low) in
    ap (λ (n : ℕ). flat_map (through heading trust h kind n) nexts) (is ∙ add-one level)
    ∙ ap (flat_map (through heading trust h kind (suc level))) are
    ∙ sym (ap (λ (b : Bool). cond b (flat_map (through heading trust h kind (suc level))
    (filter_map (λ place. next_of kind level (value_of (events_of h) place)) (places_in (events_of h) page))) []) fresh)
    ∙ ap (λ (n : ℕ). ends_below heading trust h kind n level page) more

pages_from_suc : (page i : ℕ) → pages_from page (suc i) ≡ pages_from page i ++ (page + 4096 * i) ∷ []
pages_from_suc page zero = let e : page ≡ page + 4096 * 0 = omega arith in ap (λ (p : ℕ). p ∷ []) e
pages_from_suc page (suc i) =
    let e : page + 4096 + 4096 * i ≡ page + 4096 * suc i = omega arith in
    ap (λ (ps : List ℕ). page ∷ ps) (pages_from_suc (page + 4096) i)
    ∙ ap (λ (p : ℕ). page ∷ (pages_from (page + 4096) i ++ p ∷ [])) e

-- one more page of a root
pub pages_from_more : (page i : ℕ) → pages_from page (i + 1) ≡ pages_from page i ++ (page + 4096 * i) ∷ []
pages_from_more page i = rw add-one (pages_from_suc page i)
