-- The names that most proofs of this crate cite, passed on from one place. Declares nothing.
pub use Rattle.indexmap.specs.IndexMap.{IndexMap, get, index_map_len, keys}
pub use Rattle.std.proofs.lemmas.List.{length-map}
pub use Rattle.bbm_descriptor.specs.Descriptor.{Fits}
pub use Rattle.bbm_page_map.specs.PageLists.{number_in}
pub use Rattle.bbm_place_map.specs.Map.{marks_at, pages_of, value_at}
pub use Rattle.bbm_place_map.specs.declared.map.PlaceMap.{PlaceMap}
pub use Rattle.bbm_regimes.specs.Extent.{span_of}
pub use Rattle.bbm_regimes.specs.SameRegister.{same_kind}
pub use Rattle.bbm_rules.specs.Mapped.{maps, maps_as}
pub use Rattle.bbm_tree_index.specs.Attaching.{IsLeast}
pub use Rattle.bbm_tree_index.specs.HeldCores.{core_at, is_at}
pub use Rattle.bbm_tree_index.specs.Index.{node_in}
pub use Rattle.bbm_tree_index.specs.LeastPages.{Before, LeastOf, lesser}
pub use Rattle.bbm_tree_index.specs.Outputs.{AttachedOver, BadTable, CoversAttached, Grows, HasListed, HeldOver}
pub use Rattle.bbm_tree_index.specs.Outputs.{attached, core_maps, in_tree, listed_as, unclean}
pub use Rattle.bbm_tree_index.specs.declared.index.TreeIndex.{TreeIndex}
pub use Rattle.bbm_tree_index.specs.declared.standing.AttachedPage.{AttachedPage}
pub use Rattle.bbm_tree_index.specs.declared.standing.Standing.{Standing}
pub use Rattle.bbm_unmapped.specs.Covering.{Covers}
pub use Rattle.bbm_unmapped.specs.InOutputs.{in_outputs}
pub use Rattle.bbm_unmapped.specs.Targets.{HeldIn, HeldUnder, IsHeldOver, IsListed, IsFreeUnder, IsOver, IsTarget}
pub use Rattle.bbm_unmapped.specs.Targets.{IsUnclean, IsUnder, LeafOver}
pub use Rattle.bbm_unmapped.specs.Unmapped.{free_in, known_in, may_map, pages_in}
pub use Rattle.bbm_unmapped.specs.declared.outputs.Outputs.{Outputs}
pub use Rattle.bbm_unmapped.specs.declared.unmapped.Unmapped.{Unmapped}
