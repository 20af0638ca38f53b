-- Whether a place is in limbo, by the role of its page.
use Rattle.bbm_tree_index.proofs.Common.{PlaceMap, cut_by, is_sound, limbo_by, node_with, is_invalid_at, value_at}
use Rattle.bbm_tree_index.proofs.Common.{TreeIndex, Role, Hangs}
use Rattle.bbm_rules.proofs.Common.{◌≡◌, ℕ, false, sym, ap, ◌∙◌, option_map_or, Kind}
use Rattle.bbm_tree_index.specs.Index.{heading_of, node_in, role_in}
use Rattle.bbm_tree_index.proofs.Cutting.{cut_hang}

pub limbo_hangs : (index : TreeIndex) (map : PlaceMap) (page parent level base first : ℕ) (kind : Kind)
    → role_in index page ≡ Hangs parent kind level base first
    → cut_by (is_invalid_at map) (role_in index) level (Hangs parent kind level base first)
    ≡ option_map_or (limbo_by (value_at map)) (node_in index page) false
unfolding node_in
limbo_hangs index map page parent level base first kind e =
    cut_hang (is_invalid_at map) (role_in index) (heading_of index) (is_sound index).roles page parent level base first kind e
    ∙ sym (ap (λ (r : Role). option_map_or (limbo_by (value_at map)) (node_with (role_in index) (heading_of index) page r) false) e)
