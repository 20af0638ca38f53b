-- What a DSB answers at an entry, once and twice, and where it answers nothing.
use Rattle.bbm_place_map.proofs.Common.{◌≡◌, ◌≢◌, ℕ, Bool, true, false, not, ◌&&◌, ◌||◌, Option, Some, None, is_some}
use Rattle.bbm_place_map.proofs.Common.{refl, ap, sym, ◌∙◌, if◌then◌else◌, inl, inr, cases_Bool, false≢true, same_Some}
use Rattle.bbm_place_map.proofs.Common.{none-some, fun_ext, proved, If, Is, Dsb, answers, answers_broadcast}
use Rattle.bbm_place_map.proofs.Common.{answers_local, Core, every_pe, Cover, Half, Second, Full, answered_at}
use Rattle.bbm_place_map.proofs.Common.{clean_after, waits, core_in, Marks, Pends, Broken, IsUnanswered, Completes}
use Rattle.bbm_place_map.proofs.Common.{loses, pends_in, pends_of, marks_of, state_from, IsQuiet}
use Rattle.bbm_place_map.proofs.Common.{IsTold, is_clean, Entry, Barrier, and-false, subst, ◌⊎◌, pe_in}
use Rattle.bbm_place_map.proofs.Common.{either}
use Rattle.bbm_barriers.specs.Options.{completed, has_broadcast, has_local, is_non, Completed as Answers}
use Rattle.bbm_barriers.specs.Options.Completed.{NoTlbi}
use Rattle.bbm_entry_state.specs.EntryCalls.{half_after}
use Rattle.bbm_place_map.proofs.Completing.{completes_none}
use Rattle.bbm_barriers.specs.declared.Domain.{Domain}
use Rattle.bbm_barriers.specs.declared.Domain.TheVariants.{Non}
use Rattle.bbm_barriers.specs.declared.Types.{Types}
use Rattle.bbm_barriers.specs.declared.Types.TheVariants.{All}
use mathlib.Core.Bool.{and_self_left, or-false}
use Rattle.bbm_lemmas.proofs.Bools.{and_none}
use Rattle.std.proofs.lemmas.Bool.{false_from_ne_true}

none_answered : (a w : Bool) → (a && (not a && w)) ≡ false
none_answered = proved 2 (λ a w. Is (a && (not a && w)) false) refl

or_none : (x y : Bool) → (x || (y && false)) ≡ x
or_none = proved 2 (λ x y. Is (x || (y && false)) x) refl

-- where nothing changes no table leaves
pub stays_kept : (o : Option Entry) → loses (marks_of o) (marks_of o) ≡ None
stays_kept None = refl
stays_kept (Some e) = refl

waits_on : (a w : Bool) → (a && w) ≡ false → w ≡ (not a && w)
waits_on = proved 2 (λ a w. If (Is (a && w) false) (Is w (not a && w))) refl

has_both : (c : Answers) → has_broadcast c ≡ true → has_local c ≡ true
has_both NoTlbi h = h
has_both _ h = refl

-- a DSB that completes the TLBIs that are broadcast completes the others, too
answers_both : (dsb : Dsb) → answers_broadcast dsb ≡ true → answers_local dsb ≡ true
answers_both dsb = has_both (completed dsb.domain dsb.types)

answers_none : (dsb : Dsb) → answers_local dsb ≡ false → answers_broadcast dsb ≡ false
answers_none dsb none = false_from_ne_true (answers_broadcast dsb) (λ all. false≢true (sym none ∙ answers_both dsb all))

wide_is : (d : Domain) (t : Types) → has_local (completed d t) ≡ true → not (is_non d) ≡ has_broadcast (completed d t)
wide_is Non All h = refl
wide_is _ All h = refl
wide_is _ _ h = absurd (false≢true h)

-- a DSB that answers the TLBIs that aren't broadcast answers the others, too, where it reaches more than its PE
pub wide_answers : (dsb : Dsb) → answers_local dsb ≡ true → not (is_non dsb.domain) ≡ answers_broadcast dsb
wide_answers dsb own = wide_is dsb.domain dsb.types own

pub answers_within : (dsb : Dsb) → answers_local dsb ≡ true → (wide : Bool) → (wide ≡ true → not (is_non dsb.domain) ≡ true)
    → (b : Bool) → (wide || not b) ≡ true → answers dsb b ≡ true
answers_within dsb own wide within true is = sym (wide_answers dsb own) ∙ within (sym (or-false wide) ∙ is)
answers_within dsb own wide within false is = own

-- a DSB that answers no TLBI, or none of those that wait
pub no_answer : (dsb : Dsb) (r : Pends) → answers_local dsb ≡ false → IsUnanswered dsb r
no_answer dsb r none true c p = ap (λ (b : Bool). b && waits r true c p) (answers_none dsb none)
no_answer dsb r none false c p = ap (λ (b : Bool). b && waits r false c p) none

pub quiet_unanswered : (dsb : Dsb) (wide : Bool) (r : Pends) → wide ≡ answers_broadcast dsb → IsQuiet wide r → IsUnanswered dsb r
quiet_unanswered dsb true r is quiet b c p = ap (λ (w : Bool). answers dsb b && w) (quiet b c p refl) ∙ and-false (answers dsb b)
quiet_unanswered dsb false r is quiet true c p = ap (λ (b : Bool). b && waits r true c p) (sym is)
quiet_unanswered dsb false r is quiet false c p = ap (λ (w : Bool). answers dsb false && w) (quiet false c p refl) ∙ and-false (answers dsb false)

module _ (by : Barrier) where
  -- where the answered TLBIs wait for nothing a DSB changes nothing
  module _ (e : Entry) (none : (c : Cover) (p : ℕ) → answered_at (pends_in e.pends.items by.issuer) by.dsb c p ≡ false) where
    clean_still : (p : ℕ) → clean_after (Broken e.marks) (pends_in e.pends.items by.issuer) by.dsb p ≡ pe_in e.marks.clean p
    clean_still p =
        ap (λ (b : Bool). pe_in e.marks.clean p || (pe_in e.marks.seen p && (b || answered_at (pends_in e.pends.items by.issuer) by.dsb Second p))) (none Full p)
        ∙ ap (λ (b : Bool). pe_in e.marks.clean p || (pe_in e.marks.seen p && (false || b))) (none Second p)
        ∙ or_none (pe_in e.marks.clean p) (pe_in e.marks.seen p)

    half_still : (p : ℕ) → half_after (Broken e.marks) (pends_in e.pends.items by.issuer) by.dsb p ≡ pe_in e.marks.half p
    half_still p =
        ap (λ (b : Bool). pe_in e.marks.half p || (pe_in e.marks.seen p && b)) (none Half p) ∙ or_none (pe_in e.marks.half p) (pe_in e.marks.seen p)

    every_still : every_pe by.n (clean_after (Broken e.marks) (pends_in e.pends.items by.issuer) by.dsb) ≡ is_clean by.n e.marks
    every_still = ap (every_pe by.n) (fun_ext clean_still)

  unanswered : (r : Pends) → IsUnanswered by.dsb r → (c : Cover) (p : ℕ) → answered_at r by.dsb c p ≡ false
  unanswered r none c p = ap (λ (b : Bool). b || (answers by.dsb false && waits r false c p)) (none true c p) ∙ none false c p

  pub unanswered_same : (o : Option Entry) → IsUnanswered by.dsb (pends_of by.issuer o)
      → ((marks : Marks) → marks_of o ≡ Some marks → is_clean by.n marks ≡ false) → Completes by o o
  unanswered_same None none unclean = completes_none by
  unanswered_same (Some e) none unclean =
      let still = unanswered (pends_in e.pends.items by.issuer) none in
      record {
        own = record {
          core = sym (ap (λ (b : Bool). if b then None else Some e.marks.core) (every_still e still ∙ unclean e.marks refl));
          broken = refl;
          writers = λ p. refl;
          seen = λ p. refl;
          half = λ p. sym (half_still e still p);
          clean = λ p. sym (clean_still e still p);
          waiting = λ b c p. waits_on (answers by.dsb b) (waits (pends_in e.pends.items by.issuer) b c p) (none b c p);
        };
        others = λ q other b c p. refl;
      }

  pub none_stays : (f : Entry) → Completes by None (Some f) → ⊥
  none_stays f h = absurd (false≢true (sym h.own.broken))

  left_none : (e f : Entry) → Completes by (Some e) (Some f) → (c : Cover) (p : ℕ) → answered_at (pends_in f.pends.items by.issuer) by.dsb c p ≡ false
  left_none e f h =
      unanswered (pends_in f.pends.items by.issuer) (λ b c p. ap (λ (w : Bool). answers by.dsb b && w) (h.own.waiting b c p)
      ∙ none_answered (answers by.dsb b) (waits (pends_in e.pends.items by.issuer) b c p))

  some_unclean : (e f : Entry) → Completes by (Some e) (Some f)
      → every_pe by.n (clean_after (Broken e.marks) (pends_in e.pends.items by.issuer) by.dsb) ≡ false
  some_unclean e f h =
      elim (cases_Bool (every_pe by.n (clean_after (Broken e.marks) (pends_in e.pends.items by.issuer) by.dsb))) [
        | inl all ↦ absurd (none-some f.marks.core (sym (h.own.core ∙ ap (λ (b : Bool). if b then None else Some e.marks.core) all)))
        | inr some ↦ some
      ]

  -- what is left is unclean at some PE
  pub completes_unclean : (o : Option Entry) (f : Entry) → Completes by o (Some f) → is_clean by.n f.marks ≡ false
  completes_unclean None f h = absurd (none_stays f h)
  completes_unclean (Some e) f h = ap (every_pe by.n) (fun_ext h.own.clean) ∙ some_unclean e f h

  pub core_kept : (e f : Entry) → Completes by (Some e) (Some f) → f.marks.core ≡ e.marks.core
  core_kept e f h =
      same_Some f.marks.core e.marks.core (h.own.core ∙ ap (λ (b : Bool). if b then None else Some e.marks.core) (some_unclean e f h))

  gone_twice : (e f : Entry) → Completes by (Some e) (Some f) → Completes by (Some f) None → ⊥
  gone_twice e f h h' =
      none-some f.marks.core
      (h'.own.core ∙ ap (λ (b : Bool). if b then None else Some f.marks.core) (every_still f (left_none e f h) ∙ completes_unclean (Some e) f h))

  some_twice : (e f g : Entry) → Completes by (Some e) (Some f) → Completes by (Some f) (Some g)
      → Completes by (Some e) (Some g)
  some_twice e f g h h' = record {
    own = record {
      core =
          ap (λ (x : Core). Some x) (core_kept f g h' ∙ core_kept e f h)
          ∙ sym (ap (λ (b : Bool). if b then None else Some e.marks.core) (some_unclean e f h));
      broken = refl;
      writers = λ p. h'.own.writers p ∙ h.own.writers p;
      seen = λ p. h'.own.seen p ∙ h.own.seen p;
      half = λ p. h'.own.half p ∙ half_still f (left_none e f h) p ∙ h.own.half p;
      clean = λ p. h'.own.clean p ∙ clean_still f (left_none e f h) p ∙ h.own.clean p;
      waiting = λ b c p.
          h'.own.waiting b c p ∙ ap (λ (x : Bool). not (answers by.dsb b) && x) (h.own.waiting b c p)
          ∙ and_self_left (not (answers by.dsb b)) (waits (pends_in e.pends.items by.issuer) b c p);
    };
    others = λ q other b c p. h'.others q other b c p ∙ h.others q other b c p;
  }

  -- a DSB that answers twice answers the same once
  pub twice : (o p r : Option Entry) → Completes by o p → Completes by p r → Completes by o r
  twice None None r h h' = h'
  twice None (Some f) r h h' = absurd (none_stays f h)
  twice (Some e) None None h h' = h
  twice (Some e) None (Some g) h h' = absurd (none_stays g h')
  twice (Some e) (Some f) None h h' = absurd (gone_twice e f h h')
  twice (Some e) (Some f) (Some g) h h' = some_twice e f g h h'

  -- what waits nowhere waits nowhere after
  pub quiet_kept : (wide : Bool) (o p : Option Entry) → Completes by o p → IsQuiet wide (pends_of by.issuer o)
      → IsQuiet wide (pends_of by.issuer p)
  quiet_kept wide o p h quiet b c x is =
      h.own.waiting b c x
      ∙ ap (λ (w : Bool). is_some (core_in (state_from None (marks_of p))) && (not (answers by.dsb b) && w)) (quiet b c x is)
      ∙ and_none (is_some (core_in (state_from None (marks_of p)))) (not (answers by.dsb b))

  pub quiet_others : (wide : Bool) (q : ℕ) → q ≢ by.issuer → (o p : Option Entry) → Completes by o p → IsQuiet wide (pends_of q o)
      → IsQuiet wide (pends_of q p)
  quiet_others wide q other o p h quiet b c x is =
      h.others q other b c x ∙ ap (λ (w : Bool). is_some (marks_of p) && w) (quiet b c x is) ∙ and-false (is_some (marks_of p))

  -- nor does what a DSB answers
  pub quiet_answered : (wide : Bool) → ((b : Bool) → (wide || not b) ≡ true → answers by.dsb b ≡ true) → (o p : Option Entry)
      → Completes by o p → IsQuiet wide (pends_of by.issuer p)
  quiet_answered wide all o p h b c x is =
      h.own.waiting b c x
      ∙ ap (λ (w : Bool). is_some (core_in (state_from None (marks_of p))) && (not w && waits (pends_of by.issuer o) b c x)) (all b is)
      ∙ and-false (is_some (core_in (state_from None (marks_of p))))

  -- of any PE, where nothing more was published nothing more is
  pub told_completed : (wide : Bool) (n q : ℕ) (H : Type 0) (o p : Option Entry) → Completes by o p
      → ((marks : Marks) → marks_of o ≡ Some marks → H ⊎ IsTold wide n q marks)
      → (marks : Marks) → marks_of p ≡ Some marks → H ⊎ IsTold wide n q marks
  told_completed wide n q H o None h known marks is = absurd (none-some marks is)
  told_completed wide n q H None (Some f) h known marks is = absurd (none_stays f h)
  told_completed wide n q H (Some e) (Some f) h known marks is =
      subst (λ (x : Marks). H ⊎ IsTold wide n q x) (same_Some f.marks marks is)
      (either (known e.marks refl) (λ holds. holds) (λ told p below reach wrote. h.own.seen p ∙ told p below reach (sym (h.own.writers q) ∙ wrote)))
