use Rattle.bbm_replay.proofs.Common.{node_in, option_map, path_at}
use Rattle.bbm_rules.proofs.Common.{◌≡◌, ◌∙◌, page_of, sym}
use Rattle.bbm_replay.proofs.Found.{has_number}
use Rattle.bbm_replay.proofs.tlbi_cover.Covering.path_of.Goals as goal

pub path-requires : goal.path-requires
path-requires c =
    has_number c.args.map.now c.args.self.now.index.now c.restless_position.result c.requires.fits.numbers
    c.restless_position.ensures.position

pub returns : goal.returns
returns c =
    let here : c.restless_position.result.place ≡ c.args.place = c.restless_position.ensures.place ∙ sym c.requires.place in
    c.path.ensures ∙ (λ j. option_map (λ n. path_at n (here j)) (node_in c.args.self.now.index.now (page_of (here j))))
