-- When a round has cleansed its place: not before the flush is answered, and then at every PE.
use Rattle.bbm_rules.proofs.Common.{◌≡◌, ℕ, zero, suc, ◌<◌, true, false, ◌==◌, List, [], ◌∷◌, refl, arith, Cover, Half}
use Rattle.bbm_rules.proofs.Common.{Second, Full, Vae2is, Ipas2e1is, Event, Write, Dsb, Tlbi, cleansed_everywhere}
use Rattle.bbm_rules.proofs.Common.{Noted}
use Rattle.bbm_tlbi_scope.specs.declared.op.TlbiOp.TheVariants.{Vmalle1is}
use Rattle.bbm_rules.specs.Claims.{Patterns}
use Rattle.bbm_gen.specs.Generated.{heading, ish, ishst}

-- an event with its notes
abbrev pub mark : Event → (ℕ → Cover) → (ℕ → Cover) → ℕ → Noted
mark e covers tops position = record { event = e; covers = covers; tops = tops; position = position }

module _ (place : ℕ) (itself : (place == place) ≡ true) (c1 c2 c3 c4 c5 c6 c7 : ℕ → Cover)
    (t1 t2 t3 t4 t5 t6 t7 : ℕ → Cover) (k1 k2 k3 k4 k5 k6 k7 : ℕ) where
  -- after the block of an EL2 round: its clear is published
  abbrev pub published : ℕ → List Noted
  published p = mark (Dsb p ishst) c3 t3 k3 ∷ mark (Write p place 0) c2 t2 k2 ∷ mark (Dsb p ishst) c1 t1 k1 ∷ []

  abbrev pub el2_flushed : ℕ → ℕ → List Noted
  el2_flushed p page = mark (Dsb p ish) c5 t5 k5 ∷ mark (Tlbi p Vae2is page) c4 t4 k4 ∷ published p

  abbrev pub s2_issued : ℕ → List Noted
  s2_issued page = mark (Tlbi 0 Ipas2e1is page) c4 t4 k4 ∷ published 0

  abbrev pub s2_half : ℕ → List Noted
  s2_half page = mark (Dsb 0 ish) c5 t5 k5 ∷ s2_issued page

  abbrev pub s2_flushed : ℕ → List Noted
  s2_flushed page = mark (Dsb 0 ish) c7 t7 k7 ∷ mark (Tlbi 0 Vmalle1is 0) c6 t6 k6 ∷ s2_half page

  pub not_before : (p : ℕ) → p < 4 → cleansed_everywhere heading Patterns place (published p) ≡ false
  not_before zero lt = refl
  not_before (suc zero) lt = refl
  not_before (suc (suc zero)) lt = refl
  not_before (suc (suc (suc zero))) lt = refl
  not_before (suc (suc (suc (suc p)))) lt = absurd (omega (arith, lt))

  pub el2_after : (p page : ℕ) → p < 4 → c4 place ≡ Full
      → cleansed_everywhere heading Patterns place (el2_flushed p page) ≡ true
  el2_after zero page lt full = rw (full, itself) refl
  el2_after (suc zero) page lt full = rw (full, itself) refl
  el2_after (suc (suc zero)) page lt full = rw (full, itself) refl
  el2_after (suc (suc (suc zero))) page lt full = rw (full, itself) refl
  el2_after (suc (suc (suc (suc p)))) page lt full = absurd (omega (arith, lt))

  pub s2_not_half : (page : ℕ) → c4 place ≡ Half → cleansed_everywhere heading Patterns place (s2_half page) ≡ false
  s2_not_half page is = rw is refl

  pub s2_after : (page : ℕ) → c4 place ≡ Half → c6 place ≡ Second
      → cleansed_everywhere heading Patterns place (s2_flushed page) ≡ true
  s2_after page is second = rw (is, second, itself) refl
