-- A log that keeps the rules keeps them by the claims of its certificate alone: at each of its prefixes the rules tell the
-- two ways to read it not apart.
use Rattle.bbm_certify.proofs.Common.{Known, IsCertificate, IsDue}
use Rattle.bbm_rules.proofs.Common.{◌≡◌, ℕ, suc, ◌<◌, Bool, true, false, List, [], ◌∷◌, ◌++◌, length, Some, is_some}
use Rattle.bbm_rules.proofs.Common.{Contains, refl, sym, ◌∙◌, ap, subst, inl, inr, true≢false, fun_ext, Claim, Taken}
use Rattle.bbm_rules.proofs.Common.{Cover, keeps, Patterns, Listed, cleansed, cover_at, note, noted, ValidWrite}
use Rattle.bbm_rules.proofs.Common.{last_valid, Noted, page_of, Barrier, Heading, Event, Dsb, Tag, kept_at, loses}
use Rattle.bbm_rules.proofs.Common.{Node, held_at, from_contains, in_left, in_right, to_contains, In, same_truth}
use Rattle.bbm_rules.proofs.Common.{same_Some}
use Rattle.std.proofs.lemmas.Bool.{cases_Bool}
use Rattle.bbm_histories.proofs.Induction.{kept_before}
use Rattle.bbm_histories.proofs.PatternLemmas.{cleansed_stays}
use Rattle.bbm_certify.proofs.DuePlaces.{due_now}
use Rattle.bbm_certify.proofs.Unswept.{unswept_stays}
use Rattle.bbm_rules.specs.Covers.{top_at}
use Rattle.bbm_rules.specs.Tree.{tree}
use Rattle.bbm_alike.specs.Alike.{Alike, TakesAlike}
use Rattle.bbm_certify.proofs.PlaceClaims.{forgotten, least_claim, listed_claim}
use Rattle.bbm_certify.proofs.TagClaims as tags

abbrev marked : Event → (ℕ → Cover) → (ℕ → Cover) → ℕ → Noted
marked e covers tops position = record { event = e; covers = covers; tops = tops; position = position }

abbrev is_dsb : Event → Bool
is_dsb (Dsb q dsb) = true
is_dsb _ = false

module _ (heading : Heading) (known : Known heading) (cs : List Claim) where
  -- the log so far, by every pattern and by the claims
  pub record Certified (h : List Event) : Type 0 where
    pub alike : Alike heading Patterns (Listed cs) h h
    pub notes : noted heading Patterns h ≡ noted heading (Listed cs) h
    pub kept : keeps heading (Listed cs) h ≡ true

  -- the claims that are due at an event are in the list
  module _ (h : List Event) (kept : keeps heading Patterns h ≡ true) (so_far : Certified h) where
    same_note : (e : Event) → note heading Patterns (noted heading Patterns h) e
        ≡ note heading (Listed cs) (noted heading (Listed cs) h) e
    same_note e =
        let alike = known.covers_alike (Listed cs) in
        let covers : ℕ → Cover = cover_at heading (Listed cs) (noted heading (Listed cs) h) e in
        let tops : ℕ → Cover = top_at heading (Listed cs) (noted heading (Listed cs) h) e in
        let same_covers : cover_at heading Patterns (noted heading Patterns h) e ≡ covers =
        fun_ext (λ place. alike.covers h h e place so_far.alike) in
        let same_tops : top_at heading Patterns (noted heading Patterns h) e ≡ tops =
        fun_ext (λ place. alike.tops h h e place so_far.alike) in
        ap (λ (f : ℕ → Cover). marked e f (top_at heading Patterns (noted heading Patterns h) e) (suc (length (noted heading Patterns h))))
        same_covers
        ∙ (ap (λ (f : ℕ → Cover). marked e covers f (suc (length (noted heading Patterns h)))) same_tops
        ∙ ap (λ (ns : List Noted). marked e covers tops (suc (length ns))) so_far.notes)

    same_notes : (e : Event) → noted heading Patterns (e ∷ h) ≡ noted heading (Listed cs) (e ∷ h)
    same_notes e =
        ap (λ (n : Noted). n ∷ noted heading Patterns h) (same_note e)
        ∙ ap (λ (ns : List Noted). note heading (Listed cs) (noted heading (Listed cs) h) e ∷ ns) so_far.notes

    module _ (q : ℕ) (dsb : Barrier) (keeps_dsb : keeps heading Patterns (Dsb q dsb ∷ h) ≡ true)
        (due : (c : Claim) → IsDue heading h (Dsb q dsb) c → Contains cs c) where
      -- ---- places

      module _ (n : Node) (place p : ℕ) (w w' : ValidWrite)
          (in_tree : Contains (tree heading Patterns (noted heading Patterns h)) n)
          (in_after : Contains (tree heading Patterns (noted heading Patterns (Dsb q dsb ∷ h))) n)
          (inside : page_of place ≡ n.page)
          (holds : is_some (held_at heading Patterns (noted heading Patterns h) n place) ≡ true)
          (is : last_valid n.kind n.level place (noted heading Patterns h) ≡ Some w)
          (is' : last_valid n.kind n.level place (noted heading (Listed cs) h) ≡ Some w') (below : p < heading.pes) where
        abbrev newest : Noted
        newest = note heading Patterns (noted heading Patterns h) (Dsb q dsb)

        same_write : w ≡ w'
        same_write = same_Some w w' (sym is ∙ (ap (last_valid n.kind n.level place) so_far.notes ∙ is'))

        cleansed_too : cleansed heading Patterns place p (newest ∷ w.since) ≡ true
            → cleansed heading (Listed cs) place p (newest ∷ w.since) ≡ true
        cleansed_too clean = elim (cases_Bool (cleansed heading Patterns place p w.since)) [
          | inl was ↦
              let by_claims : cleansed heading (Listed cs) place p w.since ≡ true
              = ap (λ (x : ValidWrite). cleansed heading (Listed cs) place p x.since) same_write
              ∙ (sym ((so_far.alike.patterns n place w w' in_tree inside holds is is').cleansed_alike p below) ∙ was) in
              let by_sentence = known.cleansed (Listed cs) in
              by_sentence.complete place p (newest ∷ w.since)
              (cleansed_stays heading (Listed cs) place p (newest ∷ []) w.since (by_sentence.sound place p w.since by_claims))
          | inr unclean ↦
              let l = least_claim heading place p known (newest ∷ w.since) clean in
              listed_claim heading place p known (newest ∷ w.since) cs l.0 l.1
              (due l.0 (due_now heading known h q dsb keeps_dsb place p n w below in_after inside is unclean l.0 l.1))
        ]

        same_cleansed : cleansed heading Patterns place p (newest ∷ w.since) ≡ cleansed heading (Listed cs) place p
            (note heading (Listed cs) (noted heading (Listed cs) h) (Dsb q dsb) ∷ w'.since)
        same_cleansed =
            same_truth (cleansed heading Patterns place p (newest ∷ w.since))
            (cleansed heading (Listed cs) place p (newest ∷ w.since))
            cleansed_too (forgotten heading place p known cs (newest ∷ w.since))
            ∙ (ap (λ (m : Noted). cleansed heading (Listed cs) place p (m ∷ w.since)) (same_note (Dsb q dsb))
            ∙ ap (λ (x : ValidWrite). cleansed heading (Listed cs) place p
            (note heading (Listed cs) (noted heading (Listed cs) h) (Dsb q dsb) ∷ x.since)) same_write)

      -- ---- tags

      module _ (p root : ℕ) (tag : Tag) (below : p < heading.pes) (holds : kept_at heading Patterns p root tag h ≡ true) where
        lost_too : loses heading Patterns p tag (Dsb q dsb) h ≡ true → loses heading (Listed cs) p tag (Dsb q dsb) h ≡ true
        lost_too lost = let l = tags.least_tag heading known p tag q dsb h lost in
            tags.listed_tag heading known p tag q dsb h cs l.0 l.1.holds
            (due (Taken p tag l.0 (suc (length h))) (below, (root, holds), tags.kept_by_none heading known p tag q dsb h lost, refl, l.1))

        same_lost : loses heading Patterns p tag (Dsb q dsb) h ≡ loses heading (Listed cs) p tag (Dsb q dsb) h
        same_lost =
            same_truth (loses heading Patterns p tag (Dsb q dsb) h) (loses heading (Listed cs) p tag (Dsb q dsb) h) lost_too
            (tags.forgotten heading known p tag q dsb h cs)

      takes_dsb : TakesAlike heading Patterns (Listed cs) h h (Dsb q dsb)
      takes_dsb = record {
        cleanses = λ n place p w w' there free inside holds is is' below.
            same_cleansed n place p w w' there (unswept_stays heading known h q dsb keeps_dsb refl n there free) inside holds is is' below;
        tops = λ late. absurd (true≢false (sym late));
        takes = same_lost;
      }

    -- ---- one event

    takes_alike : (e : Event) → keeps heading Patterns (e ∷ h) ≡ true → ((c : Claim) → IsDue heading h e c → Contains cs c)
        → TakesAlike heading Patterns (Listed cs) h h e
    takes_alike (Dsb q dsb) keeps_e due = takes_dsb q dsb keeps_e due
    takes_alike e keeps_e due =
        known.takes_alike.no_dsb Patterns (Listed cs) h h e (λ q dsb same. true≢false (sym (ap is_dsb same))) so_far.alike

    next : (e : Event) → keeps heading Patterns (e ∷ h) ≡ true → ((c : Claim) → IsDue heading h e c → Contains cs c)
        → Certified (e ∷ h)
    next e keeps_e due =
        let kept_too : keeps heading (Listed cs) (e ∷ h) ≡ true =
        sym ((known.alike_judges (Listed cs)).keeps h h e so_far.alike (kept ∙ sym so_far.kept)) ∙ keeps_e in
        record {
          alike = known.alike_step (Listed cs) h h e known.proper.some_pe keeps_e kept_too so_far.alike
              (takes_alike e keeps_e due);
          notes = same_notes e;
          kept = kept_too;
        }

  pub certified : (h : List Event) (claims : List Claim) → keeps heading Patterns h ≡ true → IsCertificate heading h claims
      → ((c : Claim) → In claims c → In cs c) → Certified h
  certified [] claims kept cert among = record {
    alike = known.alike_joins.start Patterns (Listed cs);
    notes = refl;
    kept = refl;
  }
  certified (e ∷ h) claims kept cert among =
      let before = kept_before heading Patterns (e ∷ []) h kept in
      let within : (c : Claim) → In (cert.0 ++ cert.1) c → In cs c =
      λ c i. among c (subst (λ (xs : List Claim). In xs c) (sym cert.2) i) in
      next h before (certified h cert.0 before cert.3 (λ c i. within c (in_left cert.0 cert.1 c i))) e kept
      (λ c is. to_contains cs c (within c (in_right cert.0 cert.1 c (from_contains cert.1 c (cert.6 c is)))))
