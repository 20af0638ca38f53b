-- The tags that a DSB takes away, claim by claim.
use Rattle.bbm_histories.proofs.Common.{Heading, answered_by}
use Rattle.bbm_rules.proofs.Common.{◌≡◌, ℕ, suc, length, ◌&&◌, not, Bool, ◌==◌, List, ◌∷◌, refl, sym, ◌∙◌, ap, proved}
use Rattle.bbm_rules.proofs.Common.{Is, Barrier, Tag, Event, Dsb, Tlbi, Claim, Place, Two, Taken, same_claim, same_tag}
use Rattle.bbm_rules.proofs.Common.{Listed, any, Issued, unanswered, itself, loses, reads_for_some}
use Rattle.std.proofs.Math.Bool.{and_assoc}
use Rattle.bbm_histories.specs.ClaimSteps.{completes_taken, tag_waits_at, tag_waits_at_after}
use Rattle.bbm_histories.proofs.Searches.{Search, apart_from, each_test, search_any, search_at, search_where}
use Rattle.bbm_histories.proofs.StepLemmas.{is_taken, lost_of, waits_of_after, waits_of_step}
use Rattle.bbm_lemmas.proofs.Tests.{any_both, any_same}

taken_order : (r g t e : Bool) → (((r && g) && t) && e) ≡ ((r && (g && e)) && t)
taken_order = proved 4 (λ r g t e. Is (((r && g) && t) && e) ((r && (g && e)) && t)) refl

module _ (heading : Heading) (p : ℕ) (tag : Tag) where
  one_position : (t q : ℕ) (b : Bool) (e : Event) (h : List Event)
      → waits_of_after heading p tag (λ n. t == suc n) q b e h ≡ tag_waits_at_after heading p tag t q b e h
  one_position t q b (Tlbi pe op xt) h = refl
  one_position t q b (Dsb pe dsb) h = refl
  one_position t q b e h = refl

  pub waits_at_step : (t q : ℕ) (b : Bool) (e : Event) (h : List Event) → tag_waits_at heading p tag t q b (e ∷ h)
      ≡ (tag_waits_at_after heading p tag t q b e h && not (reads_for_some heading (e ∷ h) p tag))
  waits_at_step t q b e h =
      waits_of_step heading p tag (λ n. t == suc n) q b e h
      ∙ ap (λ (c : Bool). c && not (reads_for_some heading (e ∷ h) p tag)) (one_position t q b e h)

  module _ (q : ℕ) (dsb : Barrier) (h : List Event) where
    -- whether the tag is readable after the DSB
    abbrev free : Bool
    free = not (reads_for_some heading (Dsb q dsb ∷ h) p tag)

    -- a search for the number of events before a TLBI that takes the tag
    abbrev find_taken : (ℕ → Bool) → Bool
    find_taken f = any (λ (t : Issued Event). is_taken heading p tag q dsb h t && f (length t.before)) (unanswered itself q h)

    search_taken : Search ℕ find_taken
    search_taken =
        search_any (λ (t : Issued Event) f. is_taken heading p tag q dsb h t && f (length t.before))
        (λ t. search_where (is_taken heading p tag q dsb h t) (λ f. f (length t.before)) (search_at (length t.before)))
        (unanswered itself q h)

    taken_claim : (c : Claim) → find_taken (λ n. same_claim c (Taken p tag (suc n) (suc (length h))))
        ≡ (completes_taken heading p tag q dsb h c && free)
    taken_claim (Taken r g t e) =
        search_taken.same (λ n. same_claim (Taken r g t e) (Taken p tag (suc n) (suc (length h))))
        (λ n. (r == p && (same_tag g tag && e == suc (length h))) && t == suc n)
        (λ n. taken_order (r == p) (same_tag g tag) (t == suc n) (e == suc (length h)))
        ∙ (apart_from ℕ find_taken search_taken (r == p && (same_tag g tag && e == suc (length h))) (λ n. t == suc n)
        ∙ (ap (λ (c : Bool). (r == p && (same_tag g tag && e == suc (length h))) && c) (lost_of heading p tag (λ n. t == suc n) q dsb h)
        ∙ sym (and_assoc (r == p && (same_tag g tag && e == suc (length h)))
        (answered_by dsb (λ b. tag_waits_at heading p tag t q b h)) free)))
    taken_claim (Place r a b t e) = search_taken.none
    taken_claim (Two r a b t1 d1 t2 e) = search_taken.none

    pub listed_lost : (cs : List Claim) → loses heading (Listed cs) p tag (Dsb q dsb) h
        ≡ (any (completes_taken heading p tag q dsb h) cs && free)
    listed_lost cs =
        each_test ℕ find_taken search_taken (λ c n. same_claim c (Taken p tag (suc n) (suc (length h)))) cs
        ∙ (any_same (λ (c : Claim). find_taken (λ n. same_claim c (Taken p tag (suc n) (suc (length h)))))
        (λ c. completes_taken heading p tag q dsb h c && free) cs taken_claim
        ∙ any_both (completes_taken heading p tag q dsb h) free cs)
