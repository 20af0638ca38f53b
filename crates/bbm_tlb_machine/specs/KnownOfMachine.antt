-- What the crates below prove of their definitions, as one record, so that each proof here takes it as one hypothesis.
use Rattle.std.specs.Prelude.{◌≡◌, ℕ, true, false, Option}
use Rattle.bbm_tlbi_scope.specs.Agreement.{Agrees, EndsAlone, IsCoverFor, read_through, tag_of}
use Rattle.bbm_tlbi_scope.specs.ScopeCovers.{cover_of}
use Rattle.bbm_tlbi_scope.specs.ScopeTags.{takes_whole_tag}
use Rattle.bbm_tlbi_scope.specs.Takes.{is_global_leaf, taken}
use Rattle.bbm_tlbi_scope.specs.declared.entry.Cover.TheVariants.{Half, Second, Full}
use Rattle.bbm_tlbi_scope.specs.declared.entry.EntryHead.{EntryHead}
use Rattle.bbm_tlbi_scope.specs.declared.entry.EntryKind.TheVariants.{Stage2, Combined}
use Rattle.bbm_tlbi_scope.specs.declared.entry.PlaceView.{PlaceView}
use Rattle.bbm_tlbi_scope.specs.declared.scope.Scope.{Scope}
use Rattle.bbm_descriptor.specs.Descriptor.{core_of, is_valid, needs, same_core}
use Rattle.bbm_descriptor.specs.declared.desc.Core.{Core}
use Rattle.bbm_rules.specs.Prelude.{Heading, Kind, Ttbr0}
use Rattle.bbm_rules.specs.BrokenLaws.{EachRule, NotesKeepEvents, NotesOfOlder}
use Rattle.bbm_rules.specs.Claims.{Trust}
use Rattle.bbm_rules.specs.EventLaws.{AnsweredBySentence, RootsBySentence, TestsAreExact}
use Rattle.bbm_rules.specs.HeldLaws.{HeldBySentence, LastValidBySentence, SeenBySentence}
use Rattle.bbm_rules.specs.TagLaws.{ReadsBySentence, TagHeldBySentence, TagKeptBySentence, TagLeftBySentence}
use Rattle.bbm_rules.specs.TagLaws.{TagSetSays}
use Rattle.bbm_rules.specs.TreeLaws.{ChildlessBySentence, MappedBySentence, PagesOfRoots, TreeBySentence}
use Rattle.bbm_histories.specs.ContentLaws.{FrozenView, HeldChanges, LimboIsEmpty, LowerLeaves, TablesAreClean}
use Rattle.bbm_histories.specs.ContentLaws.{WindowAtReads}
use Rattle.bbm_histories.specs.HolderLaws.{TagsOfRoots}
use Rattle.bbm_histories.specs.PatternLaws.{AlikeUnderCnp, PatternsStay}
use Rattle.bbm_histories.specs.PositionLaws.{OnePosition, SingleNode}
use Rattle.bbm_histories.specs.TreeChanges.{Proper}

pub record Known (heading : Heading) (trust : Trust) : Type 0 where
  pub proper : Proper heading
  pub need : (kind : Kind) (level old new : ℕ) → needs kind level old new ≡ true → (is_valid kind level old ≡ true)
      × (is_valid kind level new ≡ true) × (core_of kind level old ≡ core_of kind level new → ⊥)
  pub same_cores : (one other : Core) → same_core one other ≡ true → one ≡ other
  pub full_takes : (s : Scope) (vmid : Option ℕ) (e : EntryHead) (v : PlaceView) → Agrees e v
      → cover_of s vmid v ≡ Full → taken s vmid e ≡ true
  pub half_takes : (s : Scope) (vmid : Option ℕ) (e : EntryHead) (v : PlaceView) → Agrees e v → e.kind ≡ Stage2
      → cover_of s vmid v ≡ Half → taken s vmid e ≡ true
  pub second_takes : (s : Scope) (vmid : Option ℕ) (e : EntryHead) (v : PlaceView) → Agrees e v → e.kind ≡ Combined
      → cover_of s vmid v ≡ Second → taken s vmid e ≡ true
  pub taken_covers : (s : Scope) (vmid : Option ℕ) (e : EntryHead) (v : PlaceView) → EndsAlone s.family e v
      → taken s vmid e ≡ true → IsCoverFor e.kind (cover_of s vmid v)
  pub whole_tag_takes : (s : Scope) (vmid : Option ℕ) (e : EntryHead) (kind : Kind)
      → read_through e.kind kind ≡ true → (kind ≡ Ttbr0 → is_global_leaf e ≡ false)
      → takes_whole_tag s vmid (tag_of kind e) ≡ true → taken s vmid e ≡ true
  pub answered : AnsweredBySentence
  pub childless : ChildlessBySentence heading trust
  pub each_rule : EachRule heading trust
  pub equality_tests : TestsAreExact
  pub frozen_view : FrozenView heading trust
  pub held : HeldBySentence heading trust
  pub held_changes : HeldChanges heading trust
  pub last_valid : LastValidBySentence
  pub limbo_is_empty : LimboIsEmpty heading trust
  pub lower_leaves : LowerLeaves heading trust
  pub mapped : MappedBySentence heading trust
  pub notes : NotesOfOlder heading trust
  pub notes_keep_the_events : NotesKeepEvents heading trust
  pub one_node : SingleNode heading trust
  pub one_position : OnePosition heading trust
  pub patterns_stay : PatternsStay heading trust
  pub readable_tag : ReadsBySentence heading
  pub root : RootsBySentence
  pub root_pages : PagesOfRoots heading
  pub seen : SeenBySentence heading
  pub tables_clean : TablesAreClean heading trust
  pub tag_held : TagHeldBySentence heading trust
  pub tag_kept : TagKeptBySentence heading trust
  pub tag_left : TagLeftBySentence heading trust
  pub tag_set : TagSetSays heading trust
  pub tags : TagsOfRoots heading trust
  pub tree : TreeBySentence heading trust
  pub uniform : AlikeUnderCnp heading
  pub window : WindowAtReads heading trust
