use Rattle.bbm_rules.specs.declared.rule.Rule.TheVariants.{LockBusy}
use Rattle.bbm_rules.proofs.Common.{ℕ, ◌==◌, cond, Option, Some, refl, sym, ap, ◌∙◌, Lock}
use Rattle.bbm_roots.proofs.Steps.{kept-stands}
use Rattle.bbm_roots.proofs.Judge.{lock_free, lock_held, relocked}
use Rattle.bbm_roots.proofs.roots.Roots.lock.Goals as goal

pub returns-in-Ok-clause-judged : goal.returns-in-Ok-clause-judged
returns-in-Ok-clause-judged c heading h s =
    lock_free heading h c.args.pe c.args.lock (c.laws_below.ensures heading) (λ q e.
    let k = (c.in-Ok.ensures.busy q).1 (s.holders c.args.lock ∙ e) in cc)

pub returns-in-Ok-clause-tried : goal.returns-in-Ok-clause-tried
returns-in-Ok-clause-tried c = record {
  taken = record {
    taken = λ heading h s done.
        kept-stands _ s (Lock c.args.pe c.args.lock) (returns-in-Ok-clause-judged c heading h s) refl
        (λ l. c.in-Ok.ensures.taken l ∙ ap (λ (o : Option ℕ). cond (c.args.lock == l) (Some c.args.pe) o) (s.holders l)) refl refl refl (λ p. refl) (λ p. refl)
        (λ p. refl) (λ p reg. refl) (λ r. refl) (λ g p. refl) (λ q b g p. refl) s.declared s.count s.locks;
    room = λ room. room;
  };
  kept = tt;
}

pub returns-in-Err-clause-judged : goal.returns-in-Err-clause-judged
returns-in-Err-clause-judged c heading h s =
    lock_held heading h c.args.pe c.args.lock c.in-Err.busy.0 (c.laws_below.ensures heading)
    (sym (s.holders c.args.lock) ∙ (c.in-Err.ensures.busy c.in-Err.busy.0).0 refl)
    ∙ ap (λ (n : ℕ). Some (record { rule = LockBusy; at = n })) (sym c.get.ensures.value)

pub returns-in-Err-clause-tried : goal.returns-in-Err-clause-tried
returns-in-Err-clause-tried c = record {
  taken = tt;
  kept = relocked c.args.self.now _ _ c.in-Err.ensures.refused;
}
