use Rattle.bbm_roots.proofs.Common.{◌≡◌, ℕ, sym, ap, refl, ◌∙◌, tag_in, pes_of, Patterns, holds_tag, HasTags}
use Rattle.bbm_roots.proofs.Common.{Many, Roots, TagSet}
use Rattle.bbm_rules.specs.Tags.{tag_set, tags_of}
use Rattle.bbm_tlbi_scope.specs.declared.entry.TagSet.TheVariants.{None as NoTag, One}
use Rattle.bbm_roots.proofs.Conflicts.{tag-held}
use Rattle.bbm_roots.proofs.Tests.{set-one, tags-same}
use Rattle.bbm_roots.proofs.roots.Roots.tags_of.Goals as goal

pub returns : goal.returns
returns c heading h stands =
    set-one (λ g. holds_tag heading Patterns page g h) c.tags_of.result (tag_set (tags_of heading Patterns page h))
    (tags-same (λ g. tag_in roots.holds (pes_of roots) g page) (λ g. holds_tag heading Patterns page g h)
    (λ g. sym (ap (λ (n : ℕ). tag_in roots.holds n g page) stands.pes ∙ tag-held roots.holds heading h stands.holds g page))
    c.tags_of.result c.tags_of.ensures)
    (said (tag_set (tags_of heading Patterns page h)) refl)
  where
    roots : Roots
    roots = c.args.self.now

    page : ℕ
    page = c.args.page

    -- what the set of the definitions says
    said : (set : TagSet) → tag_set (tags_of heading Patterns page h) ≡ set → HasTags (λ g. holds_tag heading Patterns page g h) set
    said NoTag e = (c.laws_below.ensures heading).tag_set.none page h e
    said (One t) e = (c.laws_below.ensures heading).tag_set.one page h t e
    said Many e = (c.laws_below.ensures heading).tag_set.many page h e
