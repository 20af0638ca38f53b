-- Each call keeps that a state and its pendings stand for the steps of their place.
use Rattle.std.proofs.Common.{◌≡◌, ℕ, Bool, true, false, ◌&&◌, ◌||◌, ◌==◌, nat_eq, not, ◌≤◌, List, [], ◌∷◌, Option}
use Rattle.std.proofs.Common.{Some, None, is_some, refl, ap, sym, ◌∙◌, inl, inr, if◌then◌else◌}
use Rattle.std.proofs.lemmas.Bool.{cases_Bool, eqb-true}
use Rattle.bbm_lemmas.proofs.Tautologies.{proved}
use Rattle.bbm_lemmas.proofs.Tautologies.Claim.{If, Is}
use Rattle.bbm_lemmas.specs.EveryPe.{every_pe}
use Rattle.bbm_regimes.specs.PeMask.{pe_in}
use Rattle.bbm_regimes.specs.declared.pe.PeMask.{PeMask}
use Rattle.bbm_descriptor.specs.declared.desc.Core.{Core}
use Rattle.bbm_lemmas.specs.ListWords.{same_flag}
use Rattle.bbm_barriers.specs.declared.Dsb.{Dsb}
use Rattle.bbm_barriers.specs.Options.{publishes, answers}
use Rattle.bbm_tlbi_scope.specs.declared.entry.Cover.{Cover}
use Rattle.bbm_tlbi_scope.specs.declared.entry.Cover.TheVariants.{None as NoCover, Half, Second, Full}
use Rattle.bbm_entry_state.specs.declared.pending.Pends.{Pends}
use Rattle.bbm_entry_state.specs.declared.state.EntryState.{EntryState}
use Rattle.bbm_entry_state.specs.declared.state.EntryState.TheVariants.{Clean, Live, Broken}
use Rattle.bbm_tlbi_scope.specs.SameCover.{same_cover}
use Rattle.bbm_entry_state.specs.Points.{core_in, is_broken, writer_at, seen_at, half_at, waits}
use Rattle.bbm_entry_state.specs.Answered.{answered_at}
use Rattle.bbm_entry_state.specs.EntryCalls.{counts_at, half_after, clean_after, Written, Published, Noted, Completed}
use Rattle.bbm_entry_state.specs.EntrySteps.{Step, Wrote, Barrier, Flush, since, last_core, some, writes, answers_one}
use Rattle.bbm_entry_state.specs.EntrySteps.{answered, still_waits}
use Rattle.bbm_entry_state.specs.EntryPatterns.{seen, half, cleansed, flushes, earned}
use Rattle.bbm_entry_state.specs.EntryStanding.{IsIdle, Marked, Between, Stands, KeepsPends, SetsPends}
use Rattle.bbm_lemmas.proofs.Every.{every_same, every_wider, every_none}
use Rattle.bbm_entry_state.proofs.Searches.{counted_seen, answer_adds, unwritten_waits}
use Rattle.bbm_lemmas.proofs.Bools.{and_no_third, or_later}

-- no core is a core
none_some : (core : Option Core) → core ≡ None → is_some core ≡ true → ⊥
none_some None none h = cc
none_some (Some core) none h = cc

same_none : (b : Bool) (core : Option Core) → core ≡ None → core ≡ (if b then None else None)
same_none true core none = none
same_none false core none = none

none_from : (b : Bool) (core : Option Core) → core ≡ (if b then None else None) → core ≡ None
none_from true core none = none
none_from false core none = none

pub start_stands : (n : ℕ) (state : EntryState) (pends : ℕ → Pends) → core_in state ≡ None → ((q : ℕ) → IsIdle (pends q)) → Stands n state pends []
start_stands n state pends none idle = record {
  core = same_none (every_pe n (λ p. cleansed n p [])) (core_in state) none;
  marks = λ h. absurd (none_some (core_in state) none h);
  idle = λ none. idle;
}

pub write_stands : (n : ℕ) (old new : EntryState) (pends pends' : ℕ → Pends) (steps : List Step) (pe : ℕ) (value : Option Core) → 1 ≤ n
    → Written old pe value new → KeepsPends new pends pends' → Stands n old pends steps → Stands n new pends' (Wrote pe value ∷ steps)
write_stands n old new pends pends' steps pe (Some core) some w keeps s =
    let empty : (q : ℕ) (b : Bool) (c : Cover) (p : ℕ) → waits (pends' q) b c p ≡ false
    = λ q b c p. keeps q b c p ∙ ap (λ (x : Bool). x && waits (pends q) b c p) w.broken in
    record {
      core = w.core ∙ ap (λ (b : Bool). if b then None else Some core) (sym (every_none n (λ p. false) some (λ p. refl)));
      marks = λ h. record {
        broken = w.broken;
        writers = λ p. w.writers p ∙ ap (λ (x : Bool). x && (nat_eq p pe || writer_at old p)) w.broken;
        seen = w.seen;
        half = w.half;
        clean = w.clean;
        waiting = empty;
      };
      idle = λ none. empty;
    }
write_stands n old new pends pends' steps pe None some w keeps s =
    let had : is_some (core_in new) ≡ true → is_some (core_in old) ≡ true = λ h. sym (ap (λ (o : Option Core). is_some o) w.core) ∙ h in
    record {
      core = w.core ∙ s.core;
      marks = λ h.
          let m : Marked n old pends steps steps = s.marks (had h) in
          let broke : is_broken new ≡ true = w.broken ∙ had h in
          record {
            broken = broke;
            writers = λ p. w.writers p ∙ ap (λ (x : Bool). x && (nat_eq p pe || writer_at old p)) broke ∙ ap (λ (x : Bool). nat_eq p pe || x) (m.writers p);
            seen = λ p. w.seen p ∙ m.seen p;
            half = λ p. w.half p ∙ m.half p;
            clean = λ p. w.clean p ∙ m.clean p;
            waiting = λ q b c p. keeps q b c p ∙ ap (λ (x : Bool). x && waits (pends q) b c p) broke ∙ m.waiting q b c p;
          };
      idle = λ none q b c p.
          let whole : is_broken new ≡ false = w.broken ∙ ap (λ (o : Option Core). is_some o) (sym w.core ∙ none) in
          keeps q b c p ∙ ap (λ (x : Bool). x && waits (pends q) b c p) whole;
    }

pub dsb_stands : (n : ℕ) (old new : EntryState) (pends : ℕ → Pends) (steps : List Step) (q : ℕ) (dsb : Dsb)
    → Published old q dsb n new → Stands n old pends steps → Between n new pends (Barrier q dsb ∷ steps) steps
dsb_stands n old new pends steps q dsb d s = record {
  core = d.core ∙ s.core;
  marks = λ h.
      let m : Marked n old pends steps steps = s.marks (sym (ap (λ (o : Option Core). is_some o) d.core) ∙ h) in
      record {
        broken = d.broken ∙ m.broken;
        writers = λ p. d.writers p ∙ m.writers p;
        seen = λ p. d.seen p ∙ ap (λ (x : Bool). (publishes dsb q n p && x) || seen_at old p) (m.writers q)
            ∙ ap (λ (x : Bool). (publishes dsb q n p && some (writes q) (since steps)) || x) (m.seen p);
        half = λ p. d.half p ∙ m.half p;
        clean = λ p. d.clean p ∙ m.clean p;
        waiting = m.waiting;
      };
  idle = λ none. s.idle (sym d.core ∙ none);
}

-- where a TLBI counts, by the two masks that it goes by
counts_by : Cover → Bool → Bool → Bool
counts_by NoCover seen half = false
counts_by Half seen half = seen
counts_by Second seen half = half
counts_by Full seen half = seen

counts_points : (state : EntryState) (c : Cover) (p : ℕ) → counts_at state c p ≡ counts_by c (seen_at state p) (half_at state p)
unfolding counts_by
counts_points Clean NoCover p = refl
counts_points Clean Half p = refl
counts_points Clean Second p = refl
counts_points Clean Full p = refl
counts_points (Live core) NoCover p = refl
counts_points (Live core) Half p = refl
counts_points (Live core) Second p = refl
counts_points (Live core) Full p = refl
counts_points (Broken marks) NoCover p = refl
counts_points (Broken marks) Half p = refl
counts_points (Broken marks) Second p = refl
counts_points (Broken marks) Full p = refl

earned_points : (n p : ℕ) (c : Cover) (steps : List Step) → counts_by c (seen n p steps) (half n p steps) ≡ earned n c p steps
unfolding counts_by
earned_points n p NoCover steps = refl
earned_points n p Half steps = refl
earned_points n p Second steps = refl
earned_points n p Full steps = refl

counts_none : (state : EntryState) (c : Cover) (p : ℕ) → core_in state ≡ None → counts_at state c p ≡ false
counts_none Clean c p none = refl
counts_none (Live core) c p none = cc
counts_none (Broken marks) c p none = cc

-- pendings of which those of one issuer were set
set_there : (t : Bool) (mine other target : Bool) → (t ≡ true → mine ≡ target) → (t ≡ false → other ≡ target) → (if t then mine else other) ≡ target
set_there = proved 4 (λ t mine other target. If (If (Is t true) (Is mine target)) (If (If (Is t false)
    (Is other target)) (Is (if t then mine else other) target))) refl

pub tlbi_stands : (n : ℕ) (state : EntryState) (pends pends' : ℕ → Pends) (left : Pends) (steps : List Step) (q : ℕ) (reach : PeMask) (r : ℕ → Bool) (broadcast : Bool) (cover : Cover)
    → Noted state (pends q) reach broadcast cover left → ((p : ℕ) → pe_in reach p ≡ r p) → SetsPends q left pends pends'
    → Stands n state pends steps → Stands n state pends' (Flush q r broadcast cover ∷ steps)
tlbi_stands n state pends pends' left steps q reach r broadcast cover noted reaches sets s = record {
  core = s.core;
  marks = λ h.
      let m : Marked n state pends steps steps = s.marks h in
      let S : List Step = since steps in
      let counts : (c : Cover) (p : ℕ) → counts_at state c p ≡ earned n c p S
      = λ c p. counts_points state c p ∙ ap (λ (x : Bool). counts_by c x (half_at state p)) (m.seen p)
      ∙ ap (λ (x : Bool). counts_by c (seen n p S) x) (m.half p) ∙ earned_points n p c S in
      record {
        broken = m.broken;
        writers = m.writers;
        seen = m.seen;
        half = m.half;
        clean = m.clean;
        waiting = λ i b c p.
            sets i b c p
            ∙ set_there (q == i) (waits left b c p) (waits (pends i) b c p)
            (((q == i) && (same_flag broadcast b && (r p && (same_cover c cover && earned n c p S)))) || still_waits (flushes (earned n c p) c p) i b S)
            (λ here.
            let same : q ≡ i = eqb-true q i here in
            noted b c p
            ∙ ap (λ (x : Bool). (same_flag broadcast b && (x && (same_cover c cover && counts_at state c p))) || waits (pends q) b c p) (reaches p)
            ∙ ap (λ (x : Bool). (same_flag broadcast b && (r p && (same_cover c cover && x))) || waits (pends q) b c p) (counts c p)
            ∙ ap (λ (k : ℕ). (same_flag broadcast b && (r p && (same_cover c cover && earned n c p S))) || waits (pends k) b c p) same
            ∙ ap (λ (x : Bool). (same_flag broadcast b && (r p && (same_cover c cover && earned n c p S))) || x) (m.waiting i b c p)
            ∙ ap (λ (t : Bool). (t && (same_flag broadcast b && (r p && (same_cover c cover && earned n c p S)))) || still_waits (flushes (earned n c p) c p) i b S) (sym here))
            (λ away. m.waiting i b c p
            ∙ ap (λ (t : Bool). (t && (same_flag broadcast b && (r p && (same_cover c cover && earned n c p S)))) || still_waits (flushes (earned n c p) c p) i b S) (sym away));
      };
  idle = λ none i b c p.
      sets i b c p
      ∙ set_there (q == i) (waits left b c p) (waits (pends i) b c p) false
      (λ here. noted b c p
      ∙ ap (λ (x : Bool). (same_flag broadcast b && (pe_in reach p && (same_cover c cover && x))) || waits (pends q) b c p) (counts_none state c p none)
      ∙ ap (λ (x : Bool). x || waits (pends q) b c p) (and_no_third (same_flag broadcast b) (pe_in reach p) (same_cover c cover))
      ∙ s.idle none q b c p)
      (λ away. s.idle none i b c p);
}

-- the core after the answers of a DSB
core_bits : (done done' before : Bool) (new old last : Option Core) → new ≡ (if done then None else old) → old ≡ (if before then None else last)
    → (is_some old ≡ true → done ≡ done') → (before ≡ true → done' ≡ true) → new ≡ (if done' then None else last)
core_bits done done' true new None last is_new is_old same later =
    none_from done new is_new ∙ ap (λ (b : Bool). if b then None else last) (sym (later refl))
core_bits done done' true new (Some core) last is_new is_old same later = cc
core_bits done done' false new None last is_new is_old same later =
    same_none done' new (none_from done new is_new) ∙ ap (λ (o : Option Core). if done' then None else o) is_old
core_bits done done' false new (Some core) last is_new is_old same later =
    is_new ∙ ap (λ (b : Bool). if b then None else Some core) (same refl) ∙ ap (λ (o : Option Core). if done' then None else o) is_old

had_core : (done : Bool) (old : Option Core) → is_some (if done then None else old) ≡ true → is_some old ≡ true
had_core true old h = cc
had_core false old h = h

clean_bits : (full second seen f g : Bool) → ((full || second) || (seen && (f || g))) ≡ ((full || (seen && f)) || (second || (seen && g)))
clean_bits = proved 5 (λ full second seen f g. Is ((full || second) || (seen && (f || g))) ((full || (seen && f)) ||
    (second || (seen && g)))) refl

left_bits : (ends waits : Bool) → (not ends && waits) ≡ (if ends then false else waits)
left_bits = proved 2 (λ ends waits. Is (not ends && waits) (if ends then false else waits)) refl

module _ (n : ℕ) (old : EntryState) (pends : ℕ → Pends) (steps : List Step) (q : ℕ) (dsb : Dsb) (m : Marked n old pends (Barrier q dsb ∷ steps) steps) where
  answered_is : (c : Cover) (p : ℕ) → answered_at (pends q) dsb c p
      ≡ ((answers dsb true && still_waits (flushes (earned n c p) c p) q true (since steps)) || (answers dsb false && still_waits (flushes (earned n c p) c p) q false (since steps)))
  answered_is c p =
      ap (λ (x : Bool). (answers dsb true && x) || (answers dsb false && waits (pends q) false c p)) (m.waiting q true c p)
      ∙ ap (λ (x : Bool). (answers dsb true && still_waits (flushes (earned n c p) c p) q true (since steps)) || (answers dsb false && x)) (m.waiting q false c p)

  adds : (c : Cover) (p : ℕ) → (answered (flushes (earned n c p) c p) (since steps) || (seen_at old p && answered_at (pends q) dsb c p))
      ≡ answered (flushes (earned n c p) c p) (Barrier q dsb ∷ since steps)
  adds c p =
      ap (λ (x : Bool). answered (flushes (earned n c p) c p) (since steps) || (x && answered_at (pends q) dsb c p)) (m.seen p)
      ∙ ap (λ (x : Bool). answered (flushes (earned n c p) c p) (since steps) || (seen n p (Barrier q dsb ∷ since steps) && x)) (answered_is c p)
      ∙ answer_adds n p q dsb (flushes (earned n c p) c p) (since steps) (counted_seen n p c)

  half_now : (p : ℕ) → half_after old (pends q) dsb p ≡ half n p (Barrier q dsb ∷ since steps)
  half_now p = ap (λ (x : Bool). x || (seen_at old p && answered_at (pends q) dsb Half p)) (m.half p) ∙ adds Half p

  clean_now : (p : ℕ) → clean_after old (pends q) dsb p ≡ cleansed n p (Barrier q dsb ∷ since steps)
  clean_now p =
      ap (λ (x : Bool). x || (seen_at old p && (answered_at (pends q) dsb Full p || answered_at (pends q) dsb Second p))) (m.clean p)
      ∙ clean_bits (answered (flushes (seen n p) Full p) (since steps)) (answered (flushes (half n p) Second p) (since steps)) (seen_at old p)
      (answered_at (pends q) dsb Full p) (answered_at (pends q) dsb Second p)
      ∙ ap (λ (x : Bool). x || (answered (flushes (half n p) Second p) (since steps) || (seen_at old p && answered_at (pends q) dsb Second p))) (adds Full p)
      ∙ ap (λ (x : Bool). answered (flushes (seen n p) Full p) (Barrier q dsb ∷ since steps) || x) (adds Second p)

pub complete_stands : (n : ℕ) (old new : EntryState) (pends mid pends' : ℕ → Pends) (left : Pends) (steps : List Step) (q : ℕ) (dsb : Dsb)
    → Completed old (pends q) dsb n new left → SetsPends q left pends mid → KeepsPends new mid pends'
    → Between n old pends (Barrier q dsb ∷ steps) steps → Stands n new pends' (Barrier q dsb ∷ steps)
complete_stands n old new pends mid pends' left steps q dsb d sets keeps s =
    let S : List Step = since steps in
    let had : is_some (core_in new) ≡ true → is_some (core_in old) ≡ true
    = λ h. had_core (every_pe n (clean_after old (pends q) dsb)) (core_in old) (sym (ap (λ (o : Option Core). is_some o) d.core) ∙ h) in
    record {
      core = core_bits (every_pe n (clean_after old (pends q) dsb)) (every_pe n (λ p. cleansed n p (Barrier q dsb ∷ S))) (every_pe n (λ p. cleansed n p S))
          (core_in new) (core_in old) (last_core steps) d.core s.core
          (λ h. every_same n (clean_after old (pends q) dsb) (λ p. cleansed n p (Barrier q dsb ∷ S)) (λ p below. clean_now n old pends steps q dsb (s.marks h) p))
          (every_wider n (λ p. cleansed n p S) (λ p. cleansed n p (Barrier q dsb ∷ S))
          (λ p h. or_later (answers_one (flushes (seen n p) Full p) (Barrier q dsb) S) (answered (flushes (seen n p) Full p) S)
          (answers_one (flushes (half n p) Second p) (Barrier q dsb) S) (answered (flushes (half n p) Second p) S) h));
      marks = λ h.
          let m : Marked n old pends (Barrier q dsb ∷ steps) steps = s.marks (had h) in
          record {
            broken = d.broken ∙ ap (λ (x : Bool). x && is_broken old) h ∙ m.broken;
            writers = λ p. d.writers p ∙ ap (λ (x : Bool). x && writer_at old p) h ∙ m.writers p;
            seen = λ p. d.seen p ∙ ap (λ (x : Bool). x && seen_at old p) h ∙ m.seen p;
            half = λ p. d.half p ∙ ap (λ (x : Bool). x && half_after old (pends q) dsb p) h ∙ half_now n old pends steps q dsb m p;
            clean = λ p. d.clean p ∙ ap (λ (x : Bool). x && clean_after old (pends q) dsb p) h ∙ clean_now n old pends steps q dsb m p;
            waiting = λ i b c p.
                elim (cases_Bool (is_broken new)) [
                  | inl broke ↦
                      keeps i b c p ∙ ap (λ (x : Bool). x && waits (mid i) b c p) broke ∙ sets i b c p
                      ∙ set_there (q == i) (waits left b c p) (waits (pends i) b c p)
                      (if (q == i) && answers dsb b then false else still_waits (flushes (earned n c p) c p) i b S)
                      (λ here.
                      let same : q ≡ i = eqb-true q i here in
                      d.waiting b c p
                      ∙ ap (λ (x : Bool). x && (not (answers dsb b) && waits (pends q) b c p)) h
                      ∙ ap (λ (k : ℕ). not (answers dsb b) && waits (pends k) b c p) same
                      ∙ ap (λ (x : Bool). not (answers dsb b) && x) (m.waiting i b c p)
                      ∙ left_bits (answers dsb b) (still_waits (flushes (earned n c p) c p) i b S)
                      ∙ ap (λ (t : Bool). if t && answers dsb b then false else still_waits (flushes (earned n c p) c p) i b S) (sym here))
                      (λ away. m.waiting i b c p ∙ ap (λ (t : Bool). if t && answers dsb b then false else still_waits (flushes (earned n c p) c p) i b S) (sym away))
                  | inr whole ↦
                      keeps i b c p ∙ ap (λ (x : Bool). x && waits (mid i) b c p) whole
                      ∙ sym (unwritten_waits n p i b c (Barrier q dsb ∷ S)
                      (sym m.broken ∙ ap (λ (x : Bool). x && is_broken old) (sym h) ∙ sym d.broken ∙ whole))
                ];
          };
      idle = λ none i b c p.
          let whole : is_broken new ≡ false = d.broken ∙ ap (λ (o : Option Core). is_some o && is_broken old) none in
          keeps i b c p ∙ ap (λ (x : Bool). x && waits (mid i) b c p) whole;
    }
