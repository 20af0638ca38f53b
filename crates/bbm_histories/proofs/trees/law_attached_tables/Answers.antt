use Rattle.bbm_histories.proofs.Common.{Event, Attaches}
use Rattle.bbm_rules.proofs.Common.{◌↔◌, ◌⊎◌, ◌≡◌, ℕ, List, true, subst, noted, Node, page_of, value_of}
use Rattle.bbm_rules.specs.Mapped.{maps}
use Rattle.bbm_rules.specs.Rules.{puts_over, writes_over}
use Rattle.bbm_histories.proofs.Induction.{unbroken}
use Rattle.bbm_histories.proofs.Invariants.{invariants}
use Rattle.bbm_histories.proofs.TablesClean.{made_nodes, puts_nodes}
use Rattle.bbm_histories.proofs.trees.law_attached_tables.Goals as goal

pub returns : goal.returns
returns c heading trust = let b = c.below.ensures heading trust in record {
  made = λ h e proper kept others.
      made_nodes heading trust b (noted heading trust h) (invariants heading trust b h kept) proper e
      (unbroken heading trust (noted heading trust h) e others);
  puts = λ h e proper kept others page.
      subst (λ (es : List Event). (puts_over heading trust (noted heading trust h) e page ≡ true)
      ↔ ((writes_over heading trust (noted heading trust h) e page ≡ true)
      ⊎ ((m : Node) × Attaches heading trust (noted heading trust h) e m × (place : ℕ) × (page_of place ≡ m.page)
      × (maps m.kind m.level (value_of es place) page ≡ true)))) (b.notes_keep_the_events h)
      (puts_nodes heading trust b (noted heading trust h) (invariants heading trust b h kept) proper e
      (unbroken heading trust (noted heading trust h) e others) page);
}
