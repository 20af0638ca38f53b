-- What the answers of a DSB make of a broken place.
use Rattle.std.proofs.Common.{◌≡◌, ℕ, Bool, true, false, ◌&&◌, ◌||◌, not, Some, None, refl, ap, sym, ◌∙◌, if◌then◌else◌}
use Rattle.bbm_lemmas.specs.EveryPe.{every_pe}
use Rattle.bbm_regimes.specs.PeMask.{pe_in}
use Rattle.bbm_descriptor.specs.declared.desc.Core.{Core}
use Rattle.bbm_barriers.specs.declared.Dsb.{Dsb}
use Rattle.bbm_barriers.specs.Options.{answers}
use Rattle.bbm_tlbi_scope.specs.declared.entry.Cover.{Cover}
use Rattle.bbm_tlbi_scope.specs.declared.entry.Cover.TheVariants.{Half, Second, Full}
use Rattle.bbm_entry_state.specs.declared.marks.Marks.{Marks}
use Rattle.bbm_entry_state.specs.declared.pending.Pend.{Pend}
use Rattle.bbm_entry_state.specs.declared.pending.Pends.{Pends}
use Rattle.bbm_entry_state.specs.declared.state.EntryState.TheVariants.{Clean, Broken}
use Rattle.bbm_entry_state.specs.Points.{waits}
use Rattle.bbm_entry_state.specs.Answered.{Answered, answered_at}
use Rattle.bbm_entry_state.specs.EntryCalls.{half_after, clean_after, Completed}
use Rattle.bbm_lemmas.proofs.Every.{every_same}

module _ (old new : Marks) (pends left : Pends) (dsb : Dsb) (done : Pend) (n : ℕ) (a : Answered old pends dsb done new) where
  half_is : (p : ℕ) → pe_in new.half p ≡ half_after (Broken old) pends dsb p
  half_is p = a.half p ∙ ap (λ (b : Bool). pe_in old.half p || (pe_in old.seen p && b)) (a.answers Half p)

  clean_is : (p : ℕ) → pe_in new.clean p ≡ clean_after (Broken old) pends dsb p
  clean_is p =
      a.clean p
      ∙ ap (λ (b : Bool). pe_in old.clean p || (pe_in old.seen p && (b || pe_in done.second p))) (a.answers Full p)
      ∙ ap (λ (b : Bool). pe_in old.clean p || (pe_in old.seen p && (answered_at pends dsb Full p || b))) (a.answers Second p)

  every_is : every_pe n (λ p. pe_in new.clean p) ≡ every_pe n (clean_after (Broken old) pends dsb)
  every_is = every_same n (λ p. pe_in new.clean p) (clean_after (Broken old) pends dsb) (λ p below. clean_is p)

  pub completes_all : every_pe n (λ p. pe_in new.clean p) ≡ true → ((b : Bool) (c : Cover) (p : ℕ) → waits left b c p ≡ false)
      → Completed (Broken old) pends dsb n Clean left
  completes_all all empty = record {
    core = ap (λ (b : Bool). if b then None else Some old.core) (sym all ∙ every_is);
    broken = refl;
    writers = λ p. refl;
    seen = λ p. refl;
    half = λ p. refl;
    clean = λ p. refl;
    waiting = empty;
  }

  pub completes_some : every_pe n (λ p. pe_in new.clean p) ≡ false
      → ((b : Bool) (c : Cover) (p : ℕ) → waits left b c p ≡ (not (answers dsb b) && waits pends b c p))
      → Completed (Broken old) pends dsb n (Broken new) left
  completes_some some on = record {
    core = ap (λ (core : Core). Some core) a.core ∙ ap (λ (b : Bool). if b then None else Some old.core) (sym some ∙ every_is);
    broken = refl;
    writers = a.writers;
    seen = a.seen;
    half = half_is;
    clean = clean_is;
    waiting = on;
  }
