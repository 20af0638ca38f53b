use Rattle.bbm_rules.proofs.Common.{◌≡◌, ◌+◌, ◌*◌, Some, sym, ap, ◌∙◌, arith, index_of}
use Rattle.bbm_regimes.specs.World.{input_pages as input_pages_of}
use Rattle.bbm_tree_index.proofs.Descending.{part_is, part_reaches, some_width}
use Rattle.bbm_tree_index.proofs.Places.{place_is}
use Rattle.bbm_tree_index.proofs.spot.Spot.place_at.Goals as goal

pub returns-then-index-lt-PLACES-clause-place : goal.returns-then-index-lt-PLACES-clause-place
returns-then-index-lt-PLACES-clause-place c a inside from to =
    let s = c.args.self.now in
    let page = c.args.page in
    let part = part_is s.base c.args.input (index_of a) (input_pages_of s.level) from to in
    ap Some (c.place_of.ensures.place ∙ (ap (λ i. page + 8 * i) (c.regions_in-index.ensures ∙ part.1) ∙ sym (place_is page a inside)))

pub returns-then-index-lt-PLACES-clause-region : goal.returns-then-index-lt-PLACES-clause-region
returns-then-index-lt-PLACES-clause-region c =
    let s = c.args.self.now in
    let a = c.place_of.result in
    let number = place_is c.args.page a c.place_of.ensures.inside in
    let index : c.regions_in-index.result ≡ index_of a = omega (arith, number, c.place_of.ensures.place) in
    part_reaches s.base c.args.input (index_of a) (input_pages_of s.level) (some_width s.level c.requires.shallow) (omega arith)
    (sym c.regions_in-index.ensures ∙ index)
