-- What DSBs of a PE publish, and where they publish no more.
use Rattle.bbm_place_map.proofs.Common.{◌≡◌, ℕ, ◌<◌, ◌⊎◌, Bool, true, false, not, ◌&&◌, ◌||◌, nat_eq}
use Rattle.bbm_place_map.proofs.Common.{refl, arith, ap, sym, ◌∙◌, inl, inr, ltb-true, lt-ltb, eqb-true}
use Rattle.bbm_place_map.proofs.Common.{eq-eqb, and_from, false≢true, or_left, or_right, proved, If, Is, Dsb}
use Rattle.bbm_place_map.proofs.Common.{All, Stores, publishes, Marks, IsHeard, Publishes, IsTold}
use Rattle.bbm_place_map.proofs.Common.{Entry, Barrier, Published, EntryState, pe_in}
use Rattle.bbm_entry_state.specs.Points.{writer_at, seen_at}
use Rattle.bbm_barriers.specs.declared.Domain.{Domain}
use Rattle.bbm_barriers.specs.declared.Domain.TheVariants.{Non}
use Rattle.bbm_barriers.specs.declared.Types.{Types}
use Rattle.bbm_barriers.specs.declared.Types.TheVariants.{Loads}
use Rattle.bbm_barriers.specs.Options.{hears, audience, is_non, Audience}
use Rattle.bbm_barriers.specs.Options.Audience.{EveryPe, IssuerAlone, NoPe}
use mathlib.Core.Bool.{or_self_left}

hears_within : (a : Audience) (issuer n p : ℕ) → issuer < n → hears a issuer n p ≡ true → p < n
hears_within EveryPe issuer n p below h = ltb-true p n h
hears_within IssuerAlone issuer n p below h = let same : p ≡ issuer = eqb-true p issuer h in omega arith
hears_within NoPe issuer n p below h = absurd (false≢true h)

reach_in : (d : Domain) (t : Types) (issuer n p : ℕ) → hears (audience d t) issuer n p ≡ true → (not (is_non d) || nat_eq p issuer) ≡ true
reach_in Non All issuer n p h = h
reach_in Non Stores issuer n p h = h
reach_in Non Loads issuer n p h = absurd (false≢true h)
reach_in _ t issuer n p h = refl

own_in : (a : Audience) (issuer n : ℕ) → issuer < n → (hears a issuer n issuer ≡ true) ⊎ ((p : ℕ) → hears a issuer n p ≡ false)
own_in EveryPe issuer n below = inl (lt-ltb issuer n below)
own_in IssuerAlone issuer n below = inl (eq-eqb issuer issuer refl)
own_in NoPe issuer n below = inr (λ p. refl)

-- a DSB that publishes anything publishes to its own PE
pub publishes_own : (dsb : Dsb) (issuer n : ℕ) → issuer < n
    → (publishes dsb issuer n issuer ≡ true) ⊎ ((p : ℕ) → publishes dsb issuer n p ≡ false)
publishes_own dsb issuer n below = own_in (audience dsb.domain dsb.types) issuer n below

-- and one that reaches more than its PE to every PE
pub reached_all : (d : Domain) (t : Types) (issuer n : ℕ) → not (is_non d) ≡ true → hears (audience d t) issuer n issuer ≡ true
    → (p : ℕ) → p < n → hears (audience d t) issuer n p ≡ true
reached_all Non t issuer n wide h p below = absurd (false≢true wide)
reached_all _ Loads issuer n wide h p below = absurd (false≢true h)
reached_all _ _ issuer n wide h p below = lt-ltb p n below

once : (x y s : Bool) → (x ≡ true → y ≡ true → s ≡ true) → s ≡ ((x && y) || s)
once = proved 3 (λ x y s. If (If (Is x true) (If (Is y true) (Is s true))) (Is s ((x && y) || s))) refl

module _ (by : Barrier) where
  -- what is published twice is published once
  pub again_entry : (e f g : Entry) → Publishes by e f → Publishes by f g → Publishes by e g
  again_entry e f g h h' = (
    h'.0 ∙ h.0,
    record {
      core = h'.1.core ∙ h.1.core;
      broken = h'.1.broken ∙ h.1.broken;
      writers = λ p. h'.1.writers p ∙ h.1.writers p;
      seen = λ p.
          h'.1.seen p ∙ ap (λ (b : Bool). (publishes by.dsb by.issuer by.n p && b) || pe_in f.marks.seen p) (h.1.writers by.issuer)
          ∙ ap (λ (b : Bool). (publishes by.dsb by.issuer by.n p && pe_in e.marks.writers by.issuer) || b) (h.1.seen p)
          ∙ or_self_left (publishes by.dsb by.issuer by.n p && pe_in e.marks.writers by.issuer) (pe_in e.marks.seen p);
      half = λ p. h'.1.half p ∙ h.1.half p;
      clean = λ p. h'.1.clean p ∙ h.1.clean p;
    },
  )

  -- where nothing more is published nothing changes
  pub still_published : (s : EntryState)
      → ((p : ℕ) → publishes by.dsb by.issuer by.n p ≡ true → writer_at s by.issuer ≡ true → seen_at s p ≡ true)
      → Published s by.issuer by.dsb by.n s
  still_published s heard = record {
    core = refl;
    broken = refl;
    writers = λ p. refl;
    seen = λ p. once (publishes by.dsb by.issuer by.n p) (writer_at s by.issuer) (seen_at s p) (heard p);
    half = λ p. refl;
    clean = λ p. refl;
  }

  -- what a DSB published it publishes no more
  pub heard_after : (e f : Entry) → Publishes by e f → IsHeard by f.marks
  heard_after e f h p reached wrote =
      h.1.seen p
      ∙ or_left (publishes by.dsb by.issuer by.n p && pe_in e.marks.writers by.issuer) (pe_in e.marks.seen p)
      (and_from (publishes by.dsb by.issuer by.n p) (pe_in e.marks.writers by.issuer) reached (sym (h.1.writers by.issuer) ∙ wrote))

  -- of any PE, where nothing more was published nothing more is
  pub told_kept : (wide : Bool) (n q : ℕ) (e f : Entry) → Publishes by e f → IsTold wide n q e.marks → IsTold wide n q f.marks
  told_kept wide n q e f h told p below reach wrote =
      h.1.seen p
      ∙ or_right (publishes by.dsb by.issuer by.n p && pe_in e.marks.writers by.issuer) (pe_in e.marks.seen p)
      (told p below reach (sym (h.1.writers q) ∙ wrote))

  -- a DSB publishes no more where none does that reaches as many PEs
  pub heard_told : (marks : Marks) → by.issuer < by.n → IsTold (not (is_non by.dsb.domain)) by.n by.issuer marks → IsHeard by marks
  heard_told marks below told p reached wrote =
      told p (hears_within (audience by.dsb.domain by.dsb.types) by.issuer by.n p below reached) (reach_in by.dsb.domain by.dsb.types by.issuer by.n p reached) wrote

  -- and none that reaches the PE alone, or any, where this one reached the PE, or each
  pub told_alone : (marks : Marks) → publishes by.dsb by.issuer by.n by.issuer ≡ true → IsHeard by marks → IsTold false by.n by.issuer marks
  told_alone marks own heard p below reach wrote =
      heard p (ap (publishes by.dsb by.issuer by.n) (eqb-true p by.issuer reach) ∙ own) wrote

  pub told_all : (wide : Bool) (marks : Marks) → ((p : ℕ) → p < by.n → publishes by.dsb by.issuer by.n p ≡ true) → IsHeard by marks
      → IsTold wide by.n by.issuer marks
  told_all wide marks all heard p below reach wrote = heard p (all p below) wrote

pub told_no_writer : (wide : Bool) (n q : ℕ) (marks : Marks) → pe_in marks.writers q ≡ false → IsTold wide n q marks
told_no_writer wide n q marks none p below reach wrote = absurd (false≢true (sym none ∙ wrote))

pub told_after_write : (wide : Bool) (n q : ℕ) (b marks : Marks) → pe_in b.writers q ≡ true
    → ((p : ℕ) → pe_in b.seen p ≡ true → pe_in marks.seen p ≡ true) → IsTold wide n q b → IsTold wide n q marks
told_after_write wide n q b marks wrote more told p below reach _ = more p (told p below reach wrote)
