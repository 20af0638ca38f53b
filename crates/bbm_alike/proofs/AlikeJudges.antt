-- Where two histories are alike, each event is judged alike, by each of the rules and by the least that it breaks. Of a
-- place outside the trees a rule reads the value alone, which is alike at every place; what is held it reads at the node
-- of a page alone.
use Rattle.bbm_rules.proofs.Common.{option_map_or, ◌≡◌, ℕ, Bool, ◌&&◌, List, [], ◌∷◌, Option, Some, is_none, refl}
use Rattle.bbm_rules.proofs.Common.{◌∙◌, ap, Breach, breaks, first_broken, keeps, Trust, noted, Noted}
use Rattle.bbm_rules.proofs.Common.{Heading, Event}
use Rattle.bbm_rules.specs.declared.rule.Rule.{Rule}
use Rattle.bbm_rules.specs.declared.rule.Rule.TheVariants.{WrongWorld, NoLock, NullWritten, BreakBeforeMake, LimboMake}
use Rattle.bbm_rules.specs.declared.rule.Rule.TheVariants.{NotFresh, RewrittenFresh, BadKind, GlobalUser, PageInUse}
use Rattle.bbm_rules.specs.declared.rule.Rule.TheVariants.{NoRoot, TagConflict, RootInUse, UnsyncedVmid, BadOperand}
use Rattle.bbm_rules.specs.declared.rule.Rule.TheVariants.{LockBusy, LockNotMine, TableMapped}
use Rattle.bbm_rules.specs.Broken.{broken, rules}
use Rattle.bbm_alike.specs.Alike.{Alike}
use Rattle.bbm_alike.specs.KnownOfHistories.{Known}
use Rattle.bbm_alike.proofs.LockRules.{same_bad_operand, same_lock_busy, same_lock_not_mine, same_no_root}
use Rattle.bbm_alike.proofs.LockRules.{same_unsynced_vmid, same_wrong_world}
use Rattle.bbm_alike.proofs.NotesAlike.{NotesAlike, notes_alike}
use Rattle.bbm_alike.proofs.PageRules.{same_bad_kind, same_global_user, same_not_fresh, same_page_in_use}
use Rattle.bbm_alike.proofs.PageRules.{same_table_mapped}
use Rattle.bbm_alike.proofs.TagRules.{same_root_in_use, same_tag_conflict}
use Rattle.bbm_alike.proofs.WriteRules.{same_break_before_make, same_limbo_make, same_no_lock, same_null_written}
use Rattle.bbm_alike.proofs.WriteRules.{same_rewritten_fresh}

module _ (heading : Heading) (k : Known heading) (one other : Trust) (h h' : List Event)
    (a : Alike heading one other h h') where
  abbrev marks : List Noted
  marks = noted heading one h

  abbrev marks' : List Noted
  marks' = noted heading other h'

  abbrev notes : NotesAlike heading one other marks marks'
  notes = notes_alike heading k one other h h' a

  same_breaks : (e : Event) (r : Rule) → breaks heading one marks e r ≡ breaks heading other marks' e r
  same_breaks e WrongWorld = same_wrong_world heading one other marks marks' e
  same_breaks e NoLock = same_no_lock heading one other marks marks' a.trees notes.roots notes.locks e
  same_breaks e NullWritten = same_null_written heading one other marks marks' notes.nulls e
  same_breaks e BreakBeforeMake = same_break_before_make heading one other marks marks' a.trees notes.held e
  same_breaks e LimboMake = same_limbo_make heading one other marks marks' a.trees notes.values e
  same_breaks e NotFresh = same_not_fresh heading one other marks marks' notes.values notes.places a.fresh a.trees notes.held notes.nulls e
  same_breaks e RewrittenFresh = same_rewritten_fresh heading one other marks marks' notes.values a.fresh e
  same_breaks e BadKind = same_bad_kind heading one other marks marks' notes.values notes.places a.fresh a.trees notes.held e
  same_breaks e GlobalUser = same_global_user heading one other marks marks' notes.values notes.places a.fresh a.trees notes.held e
  same_breaks e PageInUse = same_page_in_use heading one other marks marks' notes.values notes.places a.fresh a.trees notes.nulls e
  same_breaks e NoRoot = same_no_root heading one other marks marks' notes.roots notes.nulls e
  same_breaks e TagConflict = same_tag_conflict heading one other marks marks' notes.registers notes.roots notes.holds notes.left notes.given e
  same_breaks e RootInUse = same_root_in_use heading one other marks marks' notes.registers notes.roots notes.holds notes.left notes.given notes.tags e
  same_breaks e UnsyncedVmid = same_unsynced_vmid heading one other marks marks' notes.registers e
  same_breaks e BadOperand = same_bad_operand heading one other marks marks' e
  same_breaks e LockBusy = same_lock_busy heading one other marks marks' notes.locks e
  same_breaks e LockNotMine = same_lock_not_mine heading one other marks marks' notes.locks e
  same_breaks e TableMapped = same_table_mapped heading one other marks marks' notes.values notes.places a.fresh a.trees notes.held a.clean e

  same_first : (e : Event) (rs : List Rule) → first_broken heading one marks e rs ≡ first_broken heading other marks' e rs
  same_first e [] = refl
  same_first e (rule ∷ rs) =
      ap (λ (o : Option ℕ). or_rest o (first_broken heading one marks e rs)) (same_breaks e rule)
      ∙ ap (λ (rest : Option Breach). or_rest (breaks heading other marks' e rule) rest) (same_first e rs)
    where
      or_rest : Option ℕ → Option Breach → Option Breach
      or_rest o rest = option_map_or (λ at. Some (record { rule = rule; at = at })) o rest

  pub same_broken : (e : Event) → broken heading one h e ≡ broken heading other h' e
  unfolding broken
  same_broken e = same_first e rules

  pub same_keeps : (e : Event) → keeps heading one h ≡ keeps heading other h'
      → keeps heading one (e ∷ h) ≡ keeps heading other (e ∷ h')
  same_keeps e kept =
      ap (λ (b : Bool). b && is_none (broken heading one h e)) kept
      ∙ ap (λ (o : Option Breach). keeps heading other h' && is_none o) (same_broken e)
