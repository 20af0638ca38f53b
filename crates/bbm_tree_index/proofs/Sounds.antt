-- Which changes keep an index sound.
use Rattle.bbm_tree_index.proofs.Common.{Heading, Sound, RoleFits, Role}
use Rattle.bbm_rules.proofs.Common.{ℕ, ◌<◌, ◌≤◌, ◌+◌, ◌*◌, ◌^◌, sym, ap, ◌∙◌, subst, page_of, input_pages}
use Rattle.std.specs.Option.{IsSomeAnd}
use Rattle.bbm_tree_index.specs.SoundRoles.{Below}
use Rattle.bbm_tree_index.proofs.Cutting.{spot_node}
use Rattle.bbm_tree_index.proofs.Climbing.{SameTrees, hangs_part, node_same, tree_part}

pub sound_same : (roles roles' : ℕ → Role) (heading : Heading) → SameTrees roles roles' → Sound roles heading
    → Sound roles' heading
sound_same roles roles' heading same s = record {
  hangs = λ page parent level base first kind e.
      subst (λ o. IsSomeAnd o (Below parent kind level base first))
      (sym (node_same roles roles' same heading (page_of parent)))
      (s.hangs page parent level base first kind
      (hangs_part (roles page) parent level base first kind (sym (same page) ∙ ap tree_part e)));
  shallow = λ page n e. s.shallow page n (sym (node_same roles roles' same heading page) ∙ e);
  within = λ page n e. s.within page n (sym (node_same roles roles' same heading page) ∙ e);
}

-- the role of a sound index fits
pub role_fits : (roles : ℕ → Role) (heading : Heading) → Sound roles heading → (page : ℕ) → RoleFits heading (roles page)
role_fits roles heading sound page s e = let f = spot_node roles heading page (roles page) s e in record {
  shallow = subst (λ l. l < 4) f.2.level (sound.shallow page f.0 f.1);
  within = subst (λ b. b + 512 * input_pages s.level ≤ 2 ^ 45) f.2.base
      (subst (λ l. f.0.base + 512 * input_pages l ≤ 2 ^ 45) f.2.level (sound.within page f.0 f.1));
}
