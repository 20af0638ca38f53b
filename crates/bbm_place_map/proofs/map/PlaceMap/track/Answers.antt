use Rattle.bbm_place_map.proofs.Bases.{base_first, numbered_in}
use Rattle.bbm_place_map.proofs.Common.{refl, ◌≡◌, ℕ, nat_eq, ap, sym, ◌∙◌, vec_len, if◌then◌else◌, bases, OnOk-map}
use Rattle.bbm_place_map.proofs.Common.{value_in, page_of, at_index, Frees, split_at}
use Rattle.bbm_place_map.proofs.Bases.{numbered_in}
use Rattle.bbm_place_map.specs.MapCalls.{KeepsBroken}
use Rattle.bbm_place_map.proofs.Clearing.{fits_seated, frees_untracked, page_cleared}
use Rattle.bbm_place_map.proofs.Places.{at_page, index_none}
use Rattle.bbm_place_map.specs.Map.{value_at}
use Rattle.bbm_place_map.proofs.map.PlaceMap.track.Goals as goal

pub clear_page-requires : goal.clear_page-requires
clear_page-requires c = base_first c.args.self.now.pages c.args.page c.in-Some.base (sym c.base.ensures.base ∙ c.in-Some.is)

pub invariant_of-self : goal.invariant_of-self
invariant_of-self c =
    fits_seated c.args.self.now c.zero_page.new.values c.clear_page.new.self c.zero_page.ensures.len c.clear_page.ensures.pages
    c.clear_page.ensures.seats

pub returns-in-Some-clause-values : goal.returns-in-Some-clause-values
unfolding value_at
returns-in-Some-clause-values c =
    let self = c.args.self.now in
    at_page (bases self.pages) (vec_len self.values) (numbered_in self) 0 (value_in self.values.items)
    (value_in c.zero_page.new.values.items) c.args.page c.in-Some.base (sym c.base.ensures.base ∙ c.in-Some.is) c.zero_page.ensures.values

pub returns-in-Some-clause-freed : goal.returns-in-Some-clause-freed
returns-in-Some-clause-freed c =
    page_cleared c.args.self.now _ refl (sym c.base.ensures.base ∙ c.in-Some.is) c.clear_page.ensures

pub returns-in-None-clause-values : goal.returns-in-None-clause-values
unfolding value_at
returns-in-None-clause-values c =
    let self = c.args.self.now in
    let new = c.add_page.new.self in
    OnOk-map c.add_page.result ((a : ℕ) → value_at new a ≡ value_at self a)
    ((a : ℕ) → value_at new a ≡ (if nat_eq (page_of a) c.args.page then 0 else value_at self a))
    (λ h a.
    split_at (page_of a) c.args.page
    (λ same. h a ∙ ap (at_index 0 (value_in self.values.items)) (index_none (bases self.pages) a
    (ap (bases self.pages) same ∙ sym c.base.ensures.base ∙ c.in-None.is)))
    (λ off. h a))
    c.add_page.ensures.values

pub returns-in-None-clause-freed : goal.returns-in-None-clause-freed
returns-in-None-clause-freed c =
    let self = c.args.self.now in
    OnOk-map c.add_page.result (KeepsBroken self c.add_page.new.self) (Frees c.args.page self c.add_page.new.self)
    (λ same. frees_untracked self c.add_page.new.self c.args.page (sym c.base.ensures.base ∙ c.in-None.is) same.marks same.pends)
    c.add_page.ensures.same
