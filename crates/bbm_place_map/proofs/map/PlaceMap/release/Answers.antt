use Rattle.bbm_place_map.proofs.Bases.{base_first}
use Rattle.bbm_place_map.proofs.Common.{refl, sym, ◌∙◌}
use Rattle.bbm_place_map.proofs.Clearing.{fits_seated, frees_untracked, page_cleared}
use Rattle.bbm_place_map.proofs.map.PlaceMap.release.Goals as goal

pub clear_page-requires : goal.clear_page-requires
clear_page-requires c = base_first c.args.self.now.pages c.args.page c.in-Some.base (sym c.base.ensures.base ∙ c.in-Some.is)

pub invariant_of-self : goal.invariant_of-self
invariant_of-self c =
    fits_seated c.args.self.now c.args.self.now.values c.clear_page.new.self refl c.clear_page.ensures.pages c.clear_page.ensures.seats

pub returns-in-Some-clause-freed : goal.returns-in-Some-clause-freed
returns-in-Some-clause-freed c =
    page_cleared c.args.self.now _ refl (sym c.base.ensures.base ∙ c.in-Some.is) c.clear_page.ensures

pub returns-in-None-clause-freed : goal.returns-in-None-clause-freed
returns-in-None-clause-freed c =
    frees_untracked c.args.self.now c.args.self.now c.args.page (sym c.base.ensures.base ∙ c.in-None.is) (λ a. refl) (λ q a. refl)
