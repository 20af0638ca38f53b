use Rattle.bbm_roots.proofs.Common.{◌≡◌, Bool, true, false, refl, rules, Some, None, Tag, tag_in, false≢true}
use Rattle.bbm_roots.proofs.TagLists.{held-listed}
use Rattle.bbm_roots.proofs.search.tags_of.Goals as goal

pub tags_among-requires : goal.tags_among-requires
tags_among-requires c = λ g e.
    held-listed c.args.holds.now c.args.n c.args.root c.args.by_root.now (Some c.in-Some.tags.now) c.requires
    (search rules) g e

pub returns-in-None : goal.returns-in-None
returns-in-None c = λ g. unheld g (tag_in c.args.holds.now c.args.n g c.args.root) refl
  where
    unheld : (g : Tag) (b : Bool) → tag_in c.args.holds.now c.args.n g c.args.root ≡ b → b ≡ false
    unheld g false e = refl
    unheld g true e =
        absurd (false≢true (held-listed c.args.holds.now c.args.n c.args.root c.args.by_root.now None c.requires
        (search rules) g e))
