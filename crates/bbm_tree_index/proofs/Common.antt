-- The names that most proofs of this crate cite, passed on from one place. Declares nothing.
pub use Rattle.indexmap.specs.IndexMap.{IndexMap, get, index_map_len, keys}
pub use Rattle.std.proofs.Common.{bit_or}
pub use Rattle.std.proofs.lemmas.List.{length-map}
pub use Rattle.bbm_descriptor.specs.Fields.{not_global}
pub use Rattle.bbm_entry_state.specs.Points.{core_in}
pub use Rattle.bbm_entry_state.specs.declared.marks.Marks.{Marks}
pub use Rattle.bbm_events.specs.Heading.{Heading}
pub use Rattle.bbm_place_map.specs.declared.map.PlaceMap.{PlaceMap}
pub use Rattle.bbm_regimes.specs.SameRegister.{same_kind}
pub use Rattle.bbm_regimes.specs.World.{first_input_page, start_of}
pub use Rattle.bbm_regimes.specs.declared.regime.Kind.TheVariants.{Ttbr0}
pub use Rattle.bbm_rules.specs.Roots.{page_count}
pub use Rattle.bbm_tree_index.specs.Attaching.{EndsTwice, HasPlace, IsLeast, IsPath, IsUnfresh, Judges, MayJudge, Never}
pub use Rattle.bbm_tree_index.specs.Attaching.{is_bad, is_user_global, names_pages}
pub use Rattle.bbm_tree_index.specs.Climbs.{cut_by, is_invalid_at}
pub use Rattle.bbm_tree_index.specs.Hanging.{Hung, hung}
pub use Rattle.bbm_tree_index.specs.HeldCores.{child, core_at, core_with, holds_at, is_at, kept, leaves, limbo_by}
pub use Rattle.bbm_tree_index.specs.HeldCores.{next_in}
pub use Rattle.bbm_tree_index.specs.IndexAgreement.{Agrees, is_sound}
pub use Rattle.bbm_tree_index.specs.IndexChanges.{Releases}
pub use Rattle.bbm_tree_index.specs.LeastPages.{Before, HavePages, IsSurvey, LeafIn, LeafOf, LeafPlace, LeastOf, Told}
pub use Rattle.bbm_tree_index.specs.LeastPages.{Wrong, WrongIn, WrongPage, asks, elsewhere, leaf_bits, lesser, many}
pub use Rattle.bbm_tree_index.specs.LeastPages.{spares, unfresh}
pub use Rattle.bbm_tree_index.specs.Leaving.{stays}
pub use Rattle.bbm_tree_index.specs.Nodes.{above_by, is_fresh_role, is_gone_role, is_null_role, node_by, node_with}
pub use Rattle.bbm_tree_index.specs.PageTables.{SameKeys, roles_of}
pub use Rattle.bbm_tree_index.specs.Paths.{Attached, below_all, starts_of}
pub use Rattle.bbm_tree_index.specs.SoundRoles.{Sound, hangs_at}
pub use Rattle.bbm_tree_index.specs.Spots.{Fits, RoleFits, StandsAt, spot_with}
pub use Rattle.bbm_tree_index.specs.Survey.{Counts, Expands, Found, Goes, Partly, Plain, Reached, Starting, StaysWell}
pub use Rattle.bbm_tree_index.specs.Survey.{Step, Surveyed, Uniform, Well, fresh_of, grown, joined, role_as, root_marks}
pub use Rattle.bbm_tree_index.specs.Survey.{scanned, spot_as, with_first}
pub use Rattle.bbm_tree_index.specs.declared.index.TreeIndex.{TreeIndex}
pub use Rattle.bbm_tree_index.specs.declared.judge.Leaf.{Leaf}
pub use Rattle.bbm_tree_index.specs.declared.judge.Leaf.TheVariants.{Contiguous, UserGlobal}
pub use Rattle.bbm_tree_index.specs.declared.leaving.Leaving.{Leaving}
pub use Rattle.bbm_tree_index.specs.declared.leaving.Leaving.TheVariants.{Unheld}
pub use Rattle.bbm_tree_index.specs.declared.mark.Mark.{Mark}
pub use Rattle.bbm_tree_index.specs.declared.role.Attach.{Attach}
pub use Rattle.bbm_tree_index.specs.declared.role.Attach.TheVariants.{Below, Root}
pub use Rattle.bbm_tree_index.specs.declared.role.Role.{Role}
pub use Rattle.bbm_tree_index.specs.declared.role.Role.TheVariants.{Fresh, Gone, Hangs, Null, RootPage, Untracked}
pub use Rattle.bbm_tree_index.specs.declared.spot.Spot.{Spot}
pub use Rattle.bbm_place_map.specs.Map.{marks_at, state_at, value_at}
pub use Rattle.bbm_tree_index.specs.Index.{fresh_in, heading_of, known_in, node_in, null_in, pages_in, role_in}
