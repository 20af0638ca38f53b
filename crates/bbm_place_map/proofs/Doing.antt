-- What a DSB does at a place: once and twice, and where it does nothing.
use Rattle.bbm_place_map.proofs.Common.{◌≡◌, ℕ, ◌<◌, ◌↔◌, Bool, true, false, not, Option, Some, None, IsTrue}
use Rattle.bbm_place_map.proofs.Common.{refl}
use Rattle.bbm_place_map.proofs.Common.{ap, sym, subst, ◌∙◌, inl, inr, false≢true, same_Some, none-some}
use Rattle.bbm_place_map.proofs.Common.{pe_in}
use Rattle.bbm_place_map.proofs.Common.{answers_local, PeMask, Marks, Broken, Does, MayDo, Publishes}
use Rattle.bbm_place_map.proofs.Common.{Complete, Publish, Effect, loses, next_of, ◌⊎◌, marks_of, pends_in, pends_of}
use Rattle.bbm_place_map.proofs.Common.{Rests, Stays, is_clean, Entry, Barrier}
use Rattle.bbm_barriers.specs.Options.{is_non}
use Rattle.bbm_place_map.specs.Dsbs.{HasEffect, IsAudience, IsBusy}
use Rattle.bbm_place_map.proofs.Advancing.{advance_then, self_advances}
use Rattle.bbm_place_map.proofs.Completing.{completes_none}
use Rattle.bbm_place_map.proofs.Resting.{answers_within, core_kept, no_answer, none_stays, quiet_answered, quiet_kept}
use Rattle.bbm_place_map.proofs.Resting.{quiet_unanswered, twice, unanswered_same, wide_answers}
use Rattle.bbm_place_map.proofs.Telling.{again_entry, heard_after, heard_told, publishes_own, reached_all}
use Rattle.bbm_place_map.proofs.Telling.{still_published, told_all, told_alone, told_kept}

pub does_at : (effect : Effect) (by : Barrier) (o o' p p' : Option Entry) → o ≡ o' → p ≡ p' → Does effect by o' p' → Does effect by o p
does_at effect by o o' p p' is is' h =
    let P : Option Entry → Type 0 = λ x. Does effect by x p' in
    let Q : Option Entry → Type 0 = λ y. Does effect by o y in
    subst Q (sym is') (subst P (sym is) h)

-- at a place that isn't broken
pub does_none : (effect : Effect) (by : Barrier) → Does effect by None None
does_none (Publish heard) by = tt
does_none Complete by = completes_none by

none_becomes : (effect : Effect) (by : Barrier) (f : Entry) → Does effect by None (Some f) → ⊥
none_becomes (Publish heard) by f h = h
none_becomes Complete by f h = none_stays by f h

core_stays : (effect : Effect) (by : Barrier) (e f : Entry) → Does effect by (Some e) (Some f) → f.marks.core ≡ e.marks.core
core_stays (Publish heard) by e f h = same_Some f.marks.core e.marks.core h.1.1.core
core_stays Complete by e f h = core_kept by e f h

-- what is done twice is done once
does_twice : (effect : Effect) (by : Barrier) (o p r : Option Entry) → Does effect by o p → Does effect by p r → Does effect by o r
does_twice (Publish heard) by o p r h h' =
    advance_then (Publishes by) (Publishes by) (Publishes by) (λ e f g _. again_entry by e f g) o p r h h'
does_twice Complete by o p r h h' = twice by o p r h h'

pub does_again : (effect : Effect) (by : Barrier) (o p r : Option Entry) → MayDo effect by o p → Does effect by p r → Does effect by o r
does_again effect by o p r (inl same) h = does_at effect by o p r r (sym same) refl h
does_again effect by o p r (inr did) h = does_twice effect by o p r did h

-- a table that left stays away, and each that left did so before or now
module _ (effect : Effect) (by : Barrier) where
  pub lost_stays : (s p r : Option Entry) (page : ℕ) → Does effect by p r → loses (marks_of s) (marks_of p) ≡ Some page
      → loses (marks_of s) (marks_of r) ≡ Some page
  lost_stays s None None page h lost = lost
  lost_stays s None (Some g) page h lost = absurd (none_becomes effect by g h)
  lost_stays s (Some f) r page h lost = absurd (none-some page lost)

  next_kept : (e f : Entry) → MayDo effect by (Some e) (Some f) → next_of f.marks.core ≡ next_of e.marks.core
  next_kept e f may =
      elim may [
        | inl same ↦ ap (λ (x : Entry). next_of x.marks.core) (same_Some f e same)
        | inr did ↦ ap next_of (core_stays effect by e f did)
      ]

  pub lost_once : (s p r : Option Entry) (page : ℕ) → MayDo effect by s p → loses (marks_of s) (marks_of r) ≡ Some page
      → (loses (marks_of s) (marks_of p) ≡ Some page) ⊎ (loses (marks_of p) (marks_of r) ≡ Some page)
  lost_once s p (Some g) page may lost = absurd (none-some page lost)
  lost_once s None None page may lost = inl lost
  lost_once None (Some f) None page may lost = absurd (none-some page lost)
  lost_once (Some e) (Some f) None page may lost = inr (next_kept e f may ∙ lost)

  pub lost_here : (s p r : Option Entry) (page : ℕ) → MayDo effect by s p → loses (marks_of p) (marks_of r) ≡ Some page
      → loses (marks_of s) (marks_of r) ≡ Some page
  lost_here s p (Some g) page may lost = absurd (none-some page lost)
  lost_here s None None page may lost = absurd (none-some page lost)
  lost_here None (Some f) None page may lost =
      elim may [
        | inl same ↦ absurd (none-some f (sym same))
        | inr did ↦ absurd (none_becomes effect by f did)
      ]
  lost_here (Some e) (Some f) None page may lost = sym (next_kept e f may) ∙ lost

-- a DSB that publishes to no PE, or answers no TLBI
pub idle_publish : (by : Barrier) (heard : PeMask) → IsAudience by heard → ((p : ℕ) → pe_in heard p ≡ false) → (o : Option Entry)
    → Does (Publish heard) by o o
idle_publish by heard audience none o =
    self_advances (Publishes by) o
    (λ e is. (refl, still_published by (Broken e.marks) (λ p reached wrote. absurd (false≢true (sym (none p) ∙ audience p ∙ reached)))))

unclean : (n : ℕ) (o : Option Entry) → Stays Complete n o → (marks : Marks) → marks_of o ≡ Some marks → is_clean n marks ≡ false
unclean n None stays marks is = absurd (none-some marks is)
unclean n (Some e) stays marks is = ap (is_clean n) (sym (same_Some e.marks marks is)) ∙ stays

pub idle_complete : (by : Barrier) → answers_local by.dsb ≡ false → (o : Option Entry) → Stays Complete by.n o → Does Complete by o o
idle_complete by none o stays = unanswered_same by o (no_answer by.dsb (pends_of by.issuer o) none) (unclean by.n o stays)

-- one that publishes to some PE publishes to its own
pub busy_publish : (by : Barrier) (heard : PeMask) (r : Bool) → IsAudience by heard → by.issuer < by.n
    → (IsTrue r ↔ ((p : ℕ) → pe_in heard p ≡ false)) → r ≡ false → IsBusy (Publish heard) by
busy_publish by heard r audience below tells some =
    elim (publishes_own by.dsb by.issuer by.n below) [
      | inl is ↦ is
      | inr none ↦ absurd (false≢true (sym some ∙ tells.1 (λ p. audience p ∙ none p)))
    ]

-- a DSB changes nothing where none does this that reaches as many PEs
pub rests_same : (effect : Effect) (by : Barrier) → HasEffect effect by → IsBusy effect by → (o : Option Entry)
    → Rests effect (not (is_non by.dsb.domain)) by.n by.issuer o → Stays effect by.n o → Does effect by o o
rests_same effect by has busy None rests stays = does_none effect by
rests_same (Publish heard) by has busy (Some e) rests stays =
    (refl, (refl, still_published by (Broken e.marks) (heard_told by e.marks has.1 rests)))
rests_same Complete by has busy (Some e) rests stays =
    unanswered_same by (Some e)
    (quiet_unanswered by.dsb (not (is_non by.dsb.domain)) (pends_in e.pends.items by.issuer) (wide_answers by.dsb busy) rests)
    (unclean by.n (Some e) stays)

-- such a place stays so
pub rests_kept : (effect : Effect) (by : Barrier) (wide : Bool) (o p : Option Entry) → Does effect by o p
    → Rests effect wide by.n by.issuer o → Rests effect wide by.n by.issuer p
rests_kept effect by wide o None h rests = tt
rests_kept effect by wide None (Some f) h rests = absurd (none_becomes effect by f h)
rests_kept (Publish heard) by wide (Some e) (Some f) h rests = told_kept by wide by.n by.issuer e f h.1 rests
rests_kept Complete by wide (Some e) (Some f) h rests = quiet_kept by wide (Some e) (Some f) h rests

-- and each place is such after it
pub rests_after : (effect : Effect) (by : Barrier) → IsBusy effect by → (wide : Bool)
    → (wide ≡ true → not (is_non by.dsb.domain) ≡ true) → (o p : Option Entry) → Does effect by o p → Rests effect wide by.n by.issuer p
rests_after effect by busy wide within o None h = tt
rests_after effect by busy wide within None (Some f) h = absurd (none_becomes effect by f h)
rests_after (Publish heard) by busy true within (Some e) (Some f) h =
    told_all by true f.marks (reached_all by.dsb.domain by.dsb.types by.issuer by.n (within refl) busy) (heard_after by e f h.1)
rests_after (Publish heard) by busy false within (Some e) (Some f) h = told_alone by f.marks busy (heard_after by e f h.1)
rests_after Complete by busy wide within (Some e) (Some f) h =
    quiet_answered by wide (answers_within by.dsb busy wide within) (Some e) (Some f) h
