-- A path tells the node at its end, and a node the path of so many places that reaches it.
use Rattle.bbm_tree_index.proofs.Common.{Goes}
use Rattle.bbm_rules.proofs.Common.{◌≡◌, ℕ, Bool, List, [], ◌∷◌, length, refl, sym, ap, ◌∙◌, subst, arith, suc_inj}
use Rattle.bbm_rules.proofs.Common.{same_Some, End, end_at, page_of, Node, node_below}
use Rattle.bbm_tree_index.specs.Paths.{Leads}
use Rattle.bbm_tree_index.proofs.Injective.{above_same, place_same}
use Rattle.bbm_tree_index.proofs.Places.{at_page}

module _ (fresh : ℕ → Bool) (value : ℕ → ℕ) where
  -- the node at the end of a path
  pub record Ended (s : Node) (places : List ℕ) (end : End) : Type 0 where
    pub node : Node
    pub goes : Goes fresh value s places node
    pub page : node.page ≡ end.page
    pub level : node.level ≡ end.level

  pub leads_goes : (s : Node) (places : List ℕ) (end : End) → Leads fresh value s.kind s.level s.page places end → Ended s places end
  leads_goes s [] end e = record { node = s; goes = refl; page = ap (λ x. x.page) e; level = ap (λ x. x.level) e }
  leads_goes s (place ∷ places) end l = let b : Node = node_below s place l.2 in let r = leads_goes b places end l.4 in record {
    node = r.node;
    goes = (b, record { is_fresh = l.0; inside = l.1; table = l.3; below = refl }, r.goes);
    page = r.page;
    level = r.level;
  }

  pub goes_leads : (s m : Node) (places : List ℕ) → Goes fresh value s places m → Leads fresh value s.kind s.level s.page places (end_at m.level m.page)
  goes_leads s m [] g = ap (λ x. end_at x.level x.page) g
  goes_leads s m (place ∷ places) g = (
    g.1.is_fresh,
    g.1.inside,
    g.0.page,
    g.1.table,
    subst (λ x. Leads fresh value x.kind x.level g.0.page places (end_at m.level m.page)) g.1.below (goes_leads g.0 m places g.2),
  )

  pub goes_same : (s m m' : Node) (places : List ℕ) → Goes fresh value s places m → Goes fresh value s places m' → m ≡ m'
  goes_same s m m' [] g g' = sym g ∙ g'
  goes_same s m m' (place ∷ places) g g' =
      let page : g.0.page ≡ g'.0.page = same_Some g.0.page g'.0.page (sym g.1.table ∙ g'.1.table) in
      let same : g.0 ≡ g'.0 = g.1.below ∙ ap (node_below s place) page ∙ sym g'.1.below in
      goes_same g'.0 m m' places (subst (λ x. Goes fresh value x places m) same g.2) g'.2

  pub goes_back : (s s' m : Node) (places places' : List ℕ) → length places ≡ length places' → Goes fresh value s places m
      → Goes fresh value s' places' m → (s ≡ s') × (places ≡ places')
  goes_back s s' m [] [] e g g' = (g ∙ sym g', refl)
  goes_back s s' m [] (p' ∷ ps') e g g' = absurd (omega arith)
  goes_back s s' m (p ∷ ps) [] e g g' = absurd (omega arith)
  goes_back s s' m (p ∷ ps) (p' ∷ ps') e g g' =
      let ih = goes_back g.0 g'.0 m ps ps' (suc_inj e) g.2 g'.2 in
      let same : node_below s p g.0.page ≡ node_below s' p' g'.0.page = sym g.1.below ∙ ih.0 ∙ g'.1.below in
      let place : p ≡ p' = place_same s s' p p' g.0.page g'.0.page same in
      let page : s.page ≡ s'.page = sym (at_page s.page p g.1.inside) ∙ ap page_of place ∙ at_page s'.page p' g'.1.inside in
      (above_same s s' p p' g.0.page g'.0.page page same, λ i. place i ∷ ih.1 i)
