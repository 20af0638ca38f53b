-- The numbers under which walks may be made are among those that are tried.
use Rattle.bbm_counterrun.proofs.Common.{Kind, tag_of_entry, has_number, may_start, started}
use Rattle.bbm_rules.proofs.Common.{◌≡◌, ℕ, true, ◌==◌, List, Some, refl, sym, ◌∙◌, ap, and_parts, eq-eqb, eqb-true}
use Rattle.bbm_rules.proofs.Common.{any_finds, any_found, among, El2, S2, Ttbr0, Ttbr1, Tag, El2Tag, Vmid, Asid}
use Rattle.bbm_rules.proofs.Common.{Heading, Event, Reading, readings, reads, is_readable, arith, ◌&&◌}
use Rattle.std.proofs.lemmas.Bool.Decides.{nat_tests}
use Rattle.bbm_lemmas.proofs.Bools.{first_true}
use Rattle.bbm_lemmas.proofs.Elements.{to_filter_map}
use Rattle.bbm_rules.specs.Prelude.{same_tag}
use Rattle.bbm_counterrun.specs.RunNumbers.{number_of, numbers_by, numbers_of}

number_alike : (a b : Tag) → same_tag a b ≡ true → number_of a ≡ number_of b
number_alike a b k = grind (arith, nat_tests)

module _ (heading : Heading) (h : List Event) (p : ℕ) where
  is_among : (tag : Tag) (root number : ℕ) → number_of tag ≡ Some number → reads heading h p tag root ≡ true
      → among number (numbers_of (readings heading h p)) ≡ true
  is_among tag root number e k =
      let f = any_found _ (readings heading h p) k in
      any_finds (λ m. m == number) (numbers_of (readings heading h p)) number
      (to_filter_map (λ (r : Reading). number_of r.tag) (readings heading h p) f.0 number f.1
      (number_alike f.0.tag tag (first_true _ _ f.2) ∙ e)) (eq-eqb number number refl)

  -- a number under which a walk may be made is among those that are tried
  pub is_numbered : (kind : Kind) (number now place value : ℕ)
      → may_start heading h (started heading now p kind number place value) number ≡ true
      → among number (numbers_by heading h p kind) ≡ true
  is_numbered kind number now place value k =
      by kind (and_parts _ _ (first_true _ _ (first_true (_ && is_readable heading h place p value) _ k)))
    where
      by : (kind : Kind) → (reads heading h p (tag_of_entry (started heading now p kind number place value)) (started heading now p kind number place value).root ≡ true)
          × (has_number heading.world h p kind number ≡ true) → among number (numbers_by heading h p kind) ≡ true
      by El2 s = is_among El2Tag _ number (ap Some (sym (eqb-true number 0 s.1))) s.0
      by S2 s = is_among (Vmid number) _ number refl s.0
      by Ttbr0 s = is_among (Asid number) _ number refl s.0
      by Ttbr1 s = s.1
