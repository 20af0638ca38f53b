-- What holds throughout a history that keeps the rules.
use Rattle.bbm_histories.proofs.Common.{Heading, Event, Below, InTree, OddStays}
use Rattle.bbm_rules.proofs.Common.{◌≡◌, true, List, [], sym, true≢false, arith, keeps, Trust, noted, Noted, Node}
use Rattle.bbm_rules.proofs.Common.{IsNode}
use Rattle.bbm_histories.proofs.FreshLemmas.{odd_step}
use Rattle.bbm_histories.proofs.Induction.{throughout}
use Rattle.bbm_histories.proofs.TreeSteps.{OneNode, one_step}

-- What a further proof needs is one field more here, and one line more in `invariants`.
pub record Invariants (heading : Heading) (trust : Trust) (h : List Noted) : Type 0 where
  pub odd : OddStays heading trust h
  pub one : OneNode heading trust h

module _ (heading : Heading) (trust : Trust) (b : Below heading trust) where
  -- no node before the first event
  pub none_at_start : (n : Node) → InTree heading trust [] n → ⊥
  none_at_start n t =
      let k : IsNode heading trust [] n = b.tree.sound [] n t in
      let below = k.declared.1 in omega arith

  pub invariants : (h : List Event) → keeps heading trust h ≡ true → Invariants heading trust (noted heading trust h)
  invariants h kept =
      throughout heading trust b (Invariants heading trust)
      (record {
        odd = λ q place value newer older fresh. absurd (true≢false (sym fresh));
        one = λ n m t u same. absurd (none_at_start n t);
      })
      (λ older e before_kept rule before. record {
        odd = odd_step heading trust (noted heading trust older) e rule before.odd;
        one = one_step heading trust b (noted heading trust older) before.odd before.one e rule;
      }) h kept
