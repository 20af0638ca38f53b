-- The roots of events that fit their header, and what a walk finds by the values after them.
use Rattle.bbm_rules.proofs.Common.{list_all, ◌≡◌, ℕ, ◌*◌, ◌%◌, Bool, true, false, cond, not, ◌&&◌, ◌==◌, List, [], ◌∷◌}
use Rattle.bbm_rules.proofs.Common.{Some, filter, refl, sym, ap, subst, inl, inr, ◌∙◌, true≢false, fun_ext, and_from}
use Rattle.bbm_rules.proofs.Common.{and_parts, eqb-true, or_cases, Kind, page_count, fits_heading, is_page, is_pe}
use Rattle.bbm_rules.proofs.Common.{is_root_lock, is_root_page, Event, Root, Unroot, any, value_of, Declared, is_at}
use Rattle.bbm_rules.proofs.Common.{is_root, retired, roots_of, same_kind}
use Rattle.bbm_regimes.specs.declared.regime.Kind.TheVariants.{El2, S2, Ttbr0, Ttbr1}
use Rattle.bbm_regimes.specs.declared.regime.World.{World}
use Rattle.bbm_regimes.specs.World.{start_of}
use Rattle.bbm_walk_s1.specs.InputRanges.{stage1_root}
use Rattle.bbm_walk_s2.specs.Joined.{stage2_root}
use Rattle.bbm_descriptor.specs.Listing.{WalkRoot, IsAnswer}
use Rattle.bbm_descriptor.specs.declared.walk.Walk.{Walk}
use Rattle.bbm_events.specs.Heading.{Heading}
use Rattle.bbm_report.specs.Further.{Found, root_of}
use Rattle.bbm_report.specs.declared.questions.Question.{Question}
use Rattle.bbm_rules.proofs.SameRegister.{kind_equal}

every_kept : {A : Type 0} (test keep : A → Bool) (xs : List A) → list_all test xs ≡ true → list_all test (filter keep xs) ≡ true
every_kept test keep [] k = refl
every_kept {A} test keep (x ∷ xs) k =
    let parts = and_parts (test x) (list_all test xs) k in
    by (keep x) parts.0 (every_kept test keep xs parts.1)
  where
    by : (b : Bool) → test x ≡ true → list_all test (filter keep xs) ≡ true
        → list_all test (cond b (x ∷ filter keep xs) (filter keep xs)) ≡ true
    by true here rest = and_from (test x) (list_all test (filter keep xs)) here rest
    by false here rest = rest

module _ (heading : Heading) where
  abbrev fits_root : Declared → Bool
  fits_root r = is_root_page heading.world r.kind r.page

  every_root : (h : List Event) → list_all (fits_heading heading) h ≡ true → list_all fits_root (roots_of h) ≡ true
  every_root [] k = refl
  every_root (Root pe kind lock page ∷ h) k =
      let parts = and_parts (fits_heading heading (Root pe kind lock page)) (list_all (fits_heading heading) h) k in
      let page_fits = (and_parts (is_pe heading pe && is_root_lock lock) (is_root_page heading.world kind page) parts.0).1 in
      and_from (is_root_page heading.world kind page) (list_all fits_root (retired page (roots_of h))) page_fits
      (every_kept fits_root (λ r. not (is_at page r)) (roots_of h) (every_root h parts.1))
  every_root (Unroot pe page ∷ h) k =
      every_kept fits_root (λ r. not (is_at page r)) (roots_of h)
      (every_root h (and_parts (fits_heading heading (Unroot pe page)) (list_all (fits_heading heading) h) k).1)
  every_root (e ∷ h) k =
      every_root h (and_parts (fits_heading heading e) (list_all (fits_heading heading) h) k).1

  one_of : (kind : Kind) (page : ℕ) (rs : List Declared) → list_all fits_root rs ≡ true
      → any (λ r. is_at page r && same_kind r.kind kind) rs ≡ true → is_root_page heading.world kind page ≡ true
  one_of kind page [] k found = absurd (true≢false (sym found))
  one_of kind page (r ∷ rs) k found =
      let parts = and_parts (fits_root r) (list_all fits_root rs) k in
      elim (or_cases (is_at page r && same_kind r.kind kind) (any (λ r. is_at page r && same_kind r.kind kind) rs) found) [
        | inl here ↦
            let same = and_parts (is_at page r) (same_kind r.kind kind) here in
            subst (λ (l : Kind). is_root_page heading.world l page ≡ true) (kind_equal r.kind kind same.1)
            (subst (λ (n : ℕ). is_root_page heading.world r.kind n ≡ true) (eqb-true r.page page same.0) parts.0)
        | inr there ↦ one_of kind page rs parts.1 there
      ]

-- the first page of a root is aligned to all its pages
pub root_fits : (heading : Heading) (h : List Event) (kind : Kind) (page : ℕ) → list_all (fits_heading heading) h ≡ true
    → is_root h kind page ≡ true → page % (4096 * page_count heading.world kind) ≡ 0
root_fits heading h kind page fits found =
    eqb-true (page % (4096 * page_count heading.world kind)) 0
    (and_parts (is_page page) (page % (4096 * page_count heading.world kind) == 0)
    (one_of heading kind page (roots_of h) (every_root heading h fits) found)).1

-- an answer by values that are the same
pub same_answer : (one other : ℕ → ℕ) (root : WalkRoot) (addr : ℕ) (walk : Walk) → ((place : ℕ) → one place ≡ other place)
    → IsAnswer one root addr walk → IsAnswer other root addr walk
same_answer one other root addr walk same answer =
    subst (λ (value : ℕ → ℕ). IsAnswer value root addr walk) (fun_ext same) answer

single_root : (world : World) (kind : Kind) (page : ℕ) → (kind ≡ S2 → ⊥)
    → root_of world kind page ≡ stage1_root (start_of world kind) (same_kind kind Ttbr1) page
single_root world El2 page single = refl
single_root world S2 page single = absurd (single refl)
single_root world Ttbr0 page single = refl
single_root world Ttbr1 page single = refl

pub found_single : (heading : Heading) (h : List Event) (q : Question) (value : ℕ → ℕ) (start : ℕ) (high : Bool) (walk : Walk)
    → (q.kind ≡ S2 → ⊥) → is_root h q.kind q.root ≡ true → start ≡ start_of heading.world q.kind
    → high ≡ same_kind q.kind Ttbr1 → ((place : ℕ) → value place ≡ value_of h place)
    → IsAnswer value (stage1_root start high q.root) q.addr walk → Found heading h q (Some walk)
found_single heading h q value start high walk single is_one start_is high_is same answer =
    let root : root_of heading.world q.kind q.root ≡ stage1_root start high q.root =
    single_root heading.world q.kind q.root single
    ∙ ap (λ (s : ℕ). stage1_root s (same_kind q.kind Ttbr1) q.root) (sym start_is)
    ∙ ap (λ (b : Bool). stage1_root start b q.root) (sym high_is) in (
      is_one,
      subst (λ (r : WalkRoot). IsAnswer (value_of h) r q.addr walk) (sym root)
          (same_answer value (value_of h) (stage1_root start high q.root) q.addr walk same answer),
    )

pub found_joined : (heading : Heading) (h : List Event) (q : Question) (value : ℕ → ℕ) (start pages page : ℕ) (walk : Walk)
    → q.kind ≡ S2 → is_root h q.kind q.root ≡ true → start ≡ start_of heading.world S2
    → pages ≡ page_count heading.world S2 → page ≡ q.root → ((place : ℕ) → value place ≡ value_of h place)
    → IsAnswer value (stage2_root start pages page) q.addr walk → Found heading h q (Some walk)
found_joined heading h q value start pages page walk kind_is_s2 is_one start_is pages_is page_is same answer =
    let root : root_of heading.world q.kind q.root ≡ stage2_root start pages page =
    ap (λ (k : Kind). root_of heading.world k q.root) kind_is_s2
    ∙ ap (λ (s : ℕ). stage2_root s (page_count heading.world S2) q.root) (sym start_is)
    ∙ ap (λ (n : ℕ). stage2_root start n q.root) (sym pages_is)
    ∙ ap (λ (n : ℕ). stage2_root start pages n) (sym page_is) in (
      is_one,
      subst (λ (r : WalkRoot). IsAnswer (value_of h) r q.addr walk) (sym root)
          (same_answer value (value_of h) (stage2_root start pages page) q.addr walk same answer),
    )
