use Rattle.bbm_roots.proofs.Common.{sym, ◌∙◌}
use Rattle.bbm_roots.proofs.Keys.{keyed-tag}
use Rattle.bbm_roots.proofs.tag_key.TagKey.tag.Goals as goal

pub returns : goal.returns
returns c = sym (keyed-tag _ _ (c.tag_with.ensures ∙ c.self.view_is))
