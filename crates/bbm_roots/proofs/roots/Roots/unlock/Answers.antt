use Rattle.bbm_rules.proofs.Common.{refl, sym, ◌∙◌, rules, true≢false, Unlock}
use Rattle.bbm_roots.proofs.Steps.{kept-stands}
use Rattle.bbm_roots.proofs.Judge.{given_back, relocked, unlock_mine, unlock_other}
use Rattle.bbm_roots.proofs.roots.Roots.unlock.Goals as goal

pub returns-in-Ok-clause-judged : goal.returns-in-Ok-clause-judged
returns-in-Ok-clause-judged c heading h s =
    unlock_mine heading h c.args.pe c.args.lock (c.laws_below.ensures heading)
    (sym (s.holders c.args.lock) ∙ c.in-Ok.ensures.held.0 (search rules))

pub returns-in-Ok-clause-tried : goal.returns-in-Ok-clause-tried
returns-in-Ok-clause-tried c = record {
  taken = record {
    taken = λ heading h s done.
        kept-stands _ s (Unlock c.args.pe c.args.lock) (returns-in-Ok-clause-judged c heading h s) refl
        (λ l. c.in-Ok.ensures.given l ∙ given_back h c.args.pe c.args.lock l _ (sym (s.holders c.args.lock) ∙ c.in-Ok.ensures.held.0 (search rules)) (s.holders l)) refl refl refl (λ p. refl) (λ p. refl)
        (λ p. refl) (λ p reg. refl) (λ r. refl) (λ g p. refl) (λ q b g p. refl) s.declared s.count s.locks;
    room = λ room. room;
  };
  kept = tt;
}

pub returns-in-Err-clause-judged : goal.returns-in-Err-clause-judged
returns-in-Err-clause-judged c heading h s =
    unlock_other heading h c.args.pe c.args.lock (c.laws_below.ensures heading) (λ e.
    true≢false (sym (c.in-Err.ensures.held.1 (s.holders c.args.lock ∙ e))))

pub returns-in-Err-clause-tried : goal.returns-in-Err-clause-tried
returns-in-Err-clause-tried c = record {
  taken = tt;
  kept = relocked c.args.self.now _ _ c.in-Err.ensures.refused;
}
