-- What was ever readable, after one more event.
use Rattle.bbm_certify.proofs.Common.{has, Holding, IsKnown, ReadsAreWritten}
use Rattle.bbm_rules.proofs.Common.{◌≡◌, ℕ, ◌≤◌, true, not, ◌&&◌, List, [], ◌∷◌, length, refl, ap, inl, inr, arith}
use Rattle.bbm_rules.proofs.Common.{length-append, and_parts, or_cases, Patterns, Heading, Event, Dsb, Msr, Reg, Tag}
use Rattle.bbm_rules.proofs.Common.{Issued, TakenAway, kept_at, loses, reads}
use Rattle.std.proofs.lemmas.Bool.{cases_Bool}
use Rattle.bbm_rules.specs.Sentences.{KeptTag}
use Rattle.bbm_histories.specs.TagSteps.{BecomesReadable}

module _ (heading : Heading) (h : List Event) where
  -- what is readable is kept
  pub kept_now : (held : (p root : ℕ) (tag : Tag) → KeptTag heading Patterns p root tag h → kept_at heading Patterns p root tag h ≡ true)
      → (p root : ℕ) (tag : Tag) → reads heading h p tag root ≡ true → kept_at heading Patterns p root tag h ≡ true
  kept_now held p root tag read = held p root tag (record {
    newer = [];
    older = h;
    split = refl;
    read = read;
    not_taken = λ t k le. before t k le;
  })
    where
      before : (t : Issued Event) → TakenAway heading Patterns p tag h t → length h ≤ length t.before → ⊥
      before t k le =
          omega (
            arith,
            le,
            ap length k.split,
            length-append k.later (Dsb k.q k.dsb ∷ k.earlier),
            ap length k.is_open.split,
            length-append k.is_open.newer (t.tlbi ∷ t.before),
          )

  module _ (e : Event) where
    pub reads_written : BecomesReadable heading h e
        → ((p root : ℕ) (tag : Tag) → reads heading h p tag root ≡ true → kept_at heading Patterns p root tag h ≡ true)
        → ReadsAreWritten heading h e
    reads_written becomes held p root tag below read = elim (cases_Bool (reads heading h p tag root)) [
      | inl was ↦ inl (held p root tag was)
      | inr wasnt ↦ inr (becomes p root tag below read wasnt)
    ]

    -- ---- what was known, and what was read at a PE

    module _ (written : ReadsAreWritten heading h e) (old new : List Holding) (all : IsKnown heading h old)
        (kept : (p root : ℕ) (tag : Tag) → has old p root tag ≡ true → has new p root tag ≡ true)
        (added : (p root value : ℕ) (r : Reg) (tag : Tag) → e ≡ Msr p r value → reads heading (e ∷ h) p tag root ≡ true
        → has new p root tag ≡ true) where
      pub known_next : IsKnown heading (e ∷ h) new
      known_next p root tag below holds =
          elim (or_cases (reads heading (e ∷ h) p tag root)
          (kept_at heading Patterns p root tag h && not (loses heading Patterns p tag e h)) holds) [
            | inl read ↦ elim (written p root tag below read) [
              | inl held ↦ kept p root tag (all p root tag below held)
              | inr w ↦ added p root w.1 w.0 tag w.2 read
            ]
            | inr stays ↦ kept p root tag (all p root tag below
                (and_parts (kept_at heading Patterns p root tag h) (not (loses heading Patterns p tag e h)) stays).0)
          ]
