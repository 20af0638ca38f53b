use Rattle.bbm_place_map.proofs.Common.{◌≡◌, ℕ, ◌<◌, ◌+◌, List, refl, ap, sym, subst, ◌∙◌, false≢true, bases, value_in}
use Rattle.bbm_place_map.proofs.Common.{at_index, marks_of, entry_at, None}
use Rattle.bbm_place_map.proofs.Bases.{base_first}
use Rattle.bbm_place_map.proofs.Blank.{free_marks, marks_free, values_zero, zero_values}
use Rattle.bbm_place_map.proofs.Places.{index_none}
use Rattle.bbm_place_map.specs.Map.{marks_at, value_at}
use Rattle.bbm_place_map.proofs.map.PlaceMap.is_blank.Goals as goal

-- the values that are looked at are those of the map
abbrev Zero : ℕ → List ℕ → Type 0
Zero b xs = (i : ℕ) → i < 512 → value_in xs (b + i) ≡ 0

pub returns-then-not-is_zero-clause-blank : goal.returns-then-not-is_zero-clause-blank
returns-then-not-is_zero-clause-blank c = (
  λ e. absurd (false≢true e),
  λ h.
      let self = c.args.self.now in
      let zero = values_zero self c.args.page c.in-Some.base (sym c.base.ensures.base ∙ c.in-Some.is) c.get.ensures.aligned (λ a same. (h a same).0) in
      absurd (false≢true (sym c.if-not-is_zero.true ∙ c.is_zero.ensures.1 (subst (Zero c.in-Some.base) (sym c.deref.ensures.value) zero))),
)

pub returns-else-not-is_zero-clause-blank : goal.returns-else-not-is_zero-clause-blank
returns-else-not-is_zero-clause-blank c =
    let self = c.args.self.now in
    let b = c.in-Some.base in
    let is = sym c.base.ensures.base ∙ c.in-Some.is in (
      λ e a same. (
        zero_values self c.args.page b is (subst (Zero b) c.deref.ensures.value (c.is_zero.ensures.0 c.if-not-is_zero.false)) a same,
        free_marks self c.args.page b is (c.is_free.ensures.0 e) a same,
      ),
      λ h. c.is_free.ensures.1 (marks_free self c.args.page b is c.get.ensures.aligned (λ a same. (h a same).1)),
    )

pub is_free-requires : goal.is_free-requires
is_free-requires c = base_first c.args.self.now.pages c.args.page c.in-Some.base (sym c.base.ensures.base ∙ c.in-Some.is)

pub returns-in-None-clause-blank : goal.returns-in-None-clause-blank
unfolding marks_at value_at
returns-in-None-clause-blank c =
    let self = c.args.self.now in
    let base = bases self.pages in (
      λ e a same.
          let none = index_none base a (ap base same ∙ sym c.base.ensures.base ∙ c.in-None.is) in (
            ap (at_index 0 (value_in self.values.items)) none,
            ap marks_of (ap (at_index None (entry_at self.broken)) none),
          ),
      λ h. refl,
    )
