-- The page of a tag that is kept is that of a declared root, or of one that was given up.
use Rattle.bbm_rules.proofs.Common.{◌≡◌, ℕ, Bool, true, false, cond, not, ◌&&◌, ◌==◌, List, [], ◌∷◌, map, refl, sym}
use Rattle.bbm_rules.proofs.Common.{ap, ◌∙◌, subst, inl, inr, true≢false, and_parts, or_cases, eqb-true, any_found, In}
use Rattle.bbm_rules.proofs.Common.{in_append, in_left, in_map, in_right, with_has, with_keeps, Trust, Declared, is_at}
use Rattle.bbm_rules.proofs.Common.{is_root, retired, roots_of, same_kind, first_pages, given_up, kept_at, loses, reads}
use Rattle.bbm_rules.proofs.Common.{ReadsTag}
use Rattle.bbm_regimes.specs.declared.regime.World.{World}
use Rattle.bbm_regimes.specs.declared.regime.World.TheVariants.{Hyp, Kernel}
use Rattle.bbm_regimes.specs.declared.regime.Kind.{Kind}
use Rattle.bbm_regimes.specs.declared.regime.Kind.TheVariants.{El2, S2, Ttbr0, Ttbr1}
use Rattle.bbm_regimes.specs.declared.regime.Tag.{Tag}
use Rattle.bbm_regimes.specs.declared.regime.Tag.TheVariants.{El2 as El2Tag, Vmid, Asid, Ttbr1 as Ttbr1Tag}
use Rattle.bbm_events.specs.Heading.{Heading}
use Rattle.bbm_events.specs.declared.event.Event.{Event}
use Rattle.bbm_events.specs.declared.event.Event.TheVariants.{Root, Unroot}
use Rattle.bbm_rules.proofs.ReadsLaw.{reads_sound}

-- a page that isn't retired stays
still_listed : (page at : ℕ) (rs : List Declared) → (page == at) ≡ false → In (map (λ (r : Declared). r.page) rs) page
    → In (map (λ (r : Declared). r.page) (retired at rs)) page
still_listed page at [] other i = absurd i
still_listed page at (r ∷ rs) other i = by (r.page == at) refl (still_listed page at rs other) i
  where
    by : (b : Bool) → (r.page == at) ≡ b
        → (In (map (λ (r : Declared). r.page) rs) page → In (map (λ (r : Declared). r.page) (retired at rs)) page)
        → In (r.page ∷ map (λ (r : Declared). r.page) rs) page
        → In (map (λ (r : Declared). r.page) (cond (not b) (r ∷ retired at rs) (retired at rs))) page
    by true e rest (inl same) = absurd (true≢false (sym e ∙ (ap (λ (n : ℕ). n == at) same ∙ other)))
    by true e rest (inr i) = rest i
    by false e rest (inl same) = inl same
    by false e rest (inr i) = inr (rest i)

listed_on : (e : Event) (h : List Event) (page : ℕ) → In (first_pages h) page → In (first_pages (e ∷ h)) page
listed_on (Root pe kind lock at) h page i = by (page == at) refl
  where
    by : (b : Bool) → (page == at) ≡ b → In (first_pages (Root pe kind lock at ∷ h)) page
    by true e = inl (sym (eqb-true page at e))
    by false e = elim (in_append (map (λ (r : Declared). r.page) (roots_of h)) (given_up h) page i) [
      | inl declared ↦ inr (in_left (map (λ (r : Declared). r.page) (retired at (roots_of h))) (given_up h) page
          (still_listed page at (roots_of h) e declared))
      | inr up ↦ inr (in_right (map (λ (r : Declared). r.page) (retired at (roots_of h))) (given_up h) page up)
    ]
listed_on (Unroot pe at) h page i = by (page == at) refl
  where
    by : (b : Bool) → (page == at) ≡ b → In (first_pages (Unroot pe at ∷ h)) page
    by true e = in_right (map (λ (r : Declared). r.page) (retired at (roots_of h))) (given_up (Unroot pe at ∷ h)) page
        (subst (λ (n : ℕ). In (given_up (Unroot pe at ∷ h)) n) (sym (eqb-true page at e)) (with_has at (given_up h)))
    by false e = elim (in_append (map (λ (r : Declared). r.page) (roots_of h)) (given_up h) page i) [
      | inl declared ↦ in_left (map (λ (r : Declared). r.page) (retired at (roots_of h))) (given_up (Unroot pe at ∷ h)) page
          (still_listed page at (roots_of h) e declared)
      | inr up ↦ in_right (map (λ (r : Declared). r.page) (retired at (roots_of h))) (given_up (Unroot pe at ∷ h)) page
          (with_keeps at (given_up h) page up)
    ]
listed_on e h page i = i

-- what is readable is so for a declared root
pub read_root : (inorder : Bool) (world : World) (h : List Event) (p root : ℕ) (tag : Tag) → ReadsTag inorder world h p tag root
    → (kind : Kind) × (is_root h kind root ≡ true)
read_root inorder (Hyp world) h p root El2Tag k = (El2, k.1.declared)
read_root inorder (Hyp world) h p root (Vmid vmid) k = (S2, k.1.declared)
read_root inorder (Kernel world) h p root (Asid asid) k = (Ttbr0, k.2.declared)
read_root inorder (Kernel world) h p root Ttbr1Tag k = (Ttbr1, k.1.declared)
read_root inorder world h p root tag k = absurd k

pub kept_listed : (heading : Heading) (trust : Trust) (p page : ℕ) (tag : Tag) (h : List Event)
    → kept_at heading trust p page tag h ≡ true → In (first_pages h) page
kept_listed heading trust p page tag [] k = absurd (true≢false (sym k))
kept_listed heading trust p page tag (e ∷ h) k =
    elim (or_cases (reads heading (e ∷ h) p tag page)
    (kept_at heading trust p page tag h && not (loses heading trust p tag e h)) k) [
      | inl now ↦
          let root = read_root heading.words.inorder heading.world (e ∷ h) p page tag (reads_sound heading (e ∷ h) p tag page now) in
          let r = any_found (λ (r : Declared). is_at page r && same_kind r.kind root.0) (roots_of (e ∷ h)) root.1 in
          let same : r.0.page ≡ page
          = eqb-true r.0.page page (and_parts (is_at page r.0) (same_kind r.0.kind root.0) r.2).0 in
          in_left (map (λ (r : Declared). r.page) (roots_of (e ∷ h))) (given_up (e ∷ h)) page
          (subst (λ (n : ℕ). In (map (λ (r : Declared). r.page) (roots_of (e ∷ h))) n) same
          (in_map (λ (r : Declared). r.page) (roots_of (e ∷ h)) r.0 r.1))
      | inr before ↦ listed_on e h page (kept_listed heading trust p page tag h
          (and_parts (kept_at heading trust p page tag h) (not (loses heading trust p tag e h)) before).0)
    ]
