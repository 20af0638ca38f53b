-- Each claim of a certificate fits the header of its log, whose events fit it: so it can be written.
use Rattle.bbm_certify.proofs.Common.{Known, IsCertificate, IsCleansed, IsDue, OneAt, TakenAt, TwoAt}
use Rattle.bbm_rules.proofs.Common.{◌≡◌, ℕ, suc, ◌<◌, ◌≤◌, ◌^◌, Bool, true, false, cond, ◌&&◌, ◌==◌, List, [], ◌∷◌}
use Rattle.bbm_rules.proofs.Common.{length, take, refl, sym, ◌∙◌, ap, subst, inl, inr, arith, and_from, and_parts}
use Rattle.bbm_rules.proofs.Common.{lt-ltb, ltb-true, length-append, to_contains, in_append, in_left, in_right, every}
use Rattle.bbm_rules.proofs.Common.{if_so, fits_heading, is_pe, is_place, is_value, Claim, Place, Two, Taken, keeps}
use Rattle.bbm_rules.proofs.Common.{Patterns, noted, ValidWrite, Noted, events_of, Heading, Event, Write, Isb, Msr, Dsb}
use Rattle.bbm_rules.proofs.Common.{Reg, Tag, El2Tag, Vmid, Asid, Ttbr1Tag, Ttbr0El2, VttbrEl2, Ttbr0El1, Ttbr1El1}
use Rattle.bbm_rules.proofs.Common.{World, Hyp, Kernel, AsidFrom, FromTtbr0, FromTtbr1, Reading, asid_readings}
use Rattle.bbm_rules.proofs.Common.{readings, readings_in, readings_of, tag_number, register_values, same_reg, base_of}
use Rattle.bbm_rules.proofs.Common.{is_root, kind_of_reg, In, Some, bind_some, proved, If, Is}
use Rattle.bbm_rules.proofs.RegisterLaw.{first}
use Rattle.bbm_rules.proofs.StandingSentence.{standing_sound}
use Rattle.bbm_rules.specs.RegisterValues.{Standing, register_value, standings}
use Rattle.bbm_rules.specs.Tags.{reading_of, second_readings, standing_reading}
use Rattle.bbm_events.specs.Certificate.{is_claim, is_position, is_tag}
use Rattle.bbm_lemmas.proofs.Bools.{first_true}
use Rattle.bbm_lemmas.proofs.Elements.{from_filter_map, from_flat, from_map}
use Rattle.bbm_lemmas.proofs.Words.{if_so_some}
use Rattle.bbm_certify.proofs.LeastFound.{Over}
use Rattle.bbm_certify.proofs.PlaceClaims.{one_over, positions, two_over}
use Rattle.bbm_certify.proofs.Searches.{is_in}
use Rattle.bbm_certify.specs.LeastClaims.{WithinLimits}
use Rattle.bbm_certify.proofs.ClaimNumbers.{HasNumber, OfPlace, OfTag, written}
use Rattle.bbm_certify.proofs.FewClaims.{due_number, was_kept}
use Rattle.bbm_lemmas.proofs.Elements.{every_in}
use Rattle.bbm_rules.proofs.TagLaw.{tag_small}

-- ---- positions

position_fits : (n count : ℕ) → n ≤ count → count < 2 ^ 32 → is_position n ≡ true
position_fits n count within few = lt-ltb n (2 ^ 32) (omega (arith, within, few))

module _ (heading : Heading) where
  noted_length : (h : List Event) → length (noted heading Patterns h) ≡ length h
  noted_length [] = refl
  noted_length (e ∷ h) = ap suc (noted_length h)

  position_in : (h : List Event) (n : Noted) → In (noted heading Patterns h) n → n.position ≤ length h
  position_in [] n i = absurd i
  position_in (e ∷ h) n (inl same) =
      let at : suc (length (noted heading Patterns h)) ≡ n.position = ap (λ (m : Noted). m.position) same in
      omega (arith, at, noted_length h)
  position_in (e ∷ h) n (inr i) = let le : n.position ≤ length h = position_in h n i in omega (arith, le)

  -- ---- the events of a pattern are among those since the write

  module _ (h : List Event) (few : length h < 2 ^ 32) (since : List Noted)
      (inside : (n : Noted) → In since n → In (noted heading Patterns h) n) (place p : ℕ) where
    at : (n : ℕ) → In (positions since) n → is_position n ≡ true
    at n i =
        let x = from_map (λ (x : Noted). x.position) since n i in
        let le = position_in h x.0 (inside x.0 x.1) in
        position_fits n (length h) (omega (arith, x.2, le)) few

    one_fits : (b t d : ℕ) → OneAt heading place p since (b ∷ t ∷ d ∷ [])
        → (is_position b ≡ true) × (is_position t ≡ true) × (is_position d ≡ true)
    one_fits b t d k =
        let i = subst (λ (ns : List ℕ). Over (positions since) 3 ns) (sym k.1) (one_over heading place p since k.0) in
        (at b i.0, at t i.1.0, at d i.1.1.0)

    two_fits : (b t1 d1 t2 d2 : ℕ) → TwoAt heading place p since (b ∷ t1 ∷ d1 ∷ t2 ∷ d2 ∷ [])
        → (is_position b ≡ true) × (is_position t1 ≡ true) × (is_position d1 ≡ true) × (is_position t2 ≡ true)
        × (is_position d2 ≡ true)
    two_fits b t1 d1 t2 d2 k =
        let i = subst (λ (ns : List ℕ). Over (positions since) 5 ns) (sym k.1) (two_over heading place p since k.0) in
        (at b i.0, at t1 i.1.0, at d1 i.1.1.0, at t2 i.1.1.1.0, at d2 i.1.1.1.1.0)

  taken_fits : (h : List Event) (e : Event) (p t d : ℕ) (tag : Tag) → length (e ∷ h) < 2 ^ 32 → d ≡ suc (length h)
      → TakenAt heading p tag (e ∷ h) (t ∷ []) → (is_position t && is_position d) ≡ true
  taken_fits h e p t d tag few d_is k =
      let at : t ≡ suc (length k.0.before) = cc in
      and_from (is_position t) (is_position d)
      (position_fits t (length (e ∷ h)) (omega (
        arith,
        at,
        ap length k.1.split,
        length-append k.1.later (Dsb k.1.q k.1.dsb ∷ k.1.earlier),
        ap length k.1.is_open.split,
        length-append k.1.is_open.newer (k.0.tlbi ∷ k.0.before),
      )) few)
      (position_fits d (length (e ∷ h)) (omega (arith, d_is)) few)

  -- ---- tags

  abbrev AllFit : List Event → Type 0
  AllFit h = (e : Event) → In h e → fits_heading heading e ≡ true

  in_first : {A : Type 0} (xs : List A) (x : A) → In (take 1 xs) x → In xs x
  in_first [] x i = i
  in_first (y ∷ ys) x (inl same) = inl same
  in_first (y ∷ ys) x (inr i) = absurd i

  value_fits : (h : List Event) (p : ℕ) (reg : Reg) (v : ℕ) → AllFit h → In (register_values h p reg) v → v < 2 ^ 64
  value_fits [] p reg v fit (inl same) = omega (arith, same)
  value_fits [] p reg v fit (inr i) = absurd i
  value_fits (Msr pe r value ∷ h) p reg v fit i =
      by (pe == p && same_reg r reg) i (value_fits h p reg v (λ e j. fit e (inr j)))
    where
      by : (b : Bool) → In (cond b (value ∷ register_values h p reg) (register_values h p reg)) v
          → (In (register_values h p reg) v → v < 2 ^ 64) → v < 2 ^ 64
      by true (inl same) older =
          let parts = and_parts (is_pe heading pe) (is_value value) (fit (Msr pe r value) (inl refl)) in
          let below : value < 2 ^ 64 = ltb-true value (2 ^ 64) parts.1 in
          omega (arith, same, below)
      by true (inr j) older = older j
      by false j older = older j
  value_fits (Isb pe ∷ h) p reg v fit i = value_fits h p reg v (λ e k. fit e (inr k)) (by (pe == p) i)
    where
      by : (b : Bool) → In (cond b (take 1 (register_values h p reg)) (register_values h p reg)) v
          → In (register_values h p reg) v
      by true j = in_first (register_values h p reg) v j
      by false j = j
  value_fits (e ∷ h) p reg v fit i = value_fits h p reg v (λ x j. fit x (inr j)) i

  fits_at : (h : List Event) (reg : Reg) (tag : ℕ → Tag) (v : ℕ) (r : Reading) → is_tag (tag v) ≡ true
      → reading_of h reg tag v ≡ Some r → is_tag r.tag ≡ true
  fits_at h reg tag v r fit given =
      let b = bind_some (λ (base : ℕ). if_so (is_root h (kind_of_reg reg) base) (record { tag = tag v; root = base }))
      (base_of v) r given in
      let is = if_so_some (is_root h (kind_of_reg reg) b.0) (record { tag = tag v; root = b.0 }) r b.2 in
      ap (λ (x : Reading). is_tag x.tag) is.1 ∙ fit

  fits_of : (h : List Event) (p : ℕ) (reg : Reg) (tag : ℕ → Tag) (r : Reading)
      → ((v : ℕ) → In (register_values h p reg) v → is_tag (tag v) ≡ true) → In (readings_of h p reg tag) r
      → is_tag r.tag ≡ true
  fits_of h p reg tag r each i =
      let k = from_filter_map (reading_of h reg tag) (register_values h p reg) r i in
      fits_at h reg tag k.0 r (each k.0 k.1) k.2

  -- the value that a register of a standing has was readable when it was written
  standing_fits : (h : List Event) (p : ℕ) (s : Standing) → AllFit h → In (standings h p) s → s.second < 2 ^ 64
  standing_fits h p s fit i =
      let k = standing_sound h p s (to_contains (standings h p) s i) in
      let value : ℕ = register_value k.older p Ttbr1El1 in
      let same : value ≡ s.second = ap (λ (x : Standing). x.second) k.had in
      let below = value_fits k.older p Ttbr1El1 value
      (λ e j. fit e (subst (λ (es : List Event). In es e) (sym k.split) (in_right k.newer k.older e j)))
      (in_first (register_values k.older p Ttbr1El1) value
      (subst (λ (vs : List ℕ). In vs value) (sym (first p Ttbr1El1 k.older)) (inl refl))) in
      omega (arith, same, below)

  second_fits : (inorder : Bool) (h : List Event) (p : ℕ) (r : Reading) → AllFit h → In (second_readings inorder h p) r
      → is_tag r.tag ≡ true
  second_fits true h p r fit i =
      let k = from_filter_map (standing_reading h) (standings h p) r i in
      fits_at h Ttbr0El1 (λ value. Asid (tag_number k.0.second)) k.0.first r
      (tag_small k.0.second (standing_fits h p k.0 fit k.1)) k.2
  second_fits false h p r fit i =
      let k = from_flat (λ from. readings_of h p Ttbr0El1 (λ value. Asid (tag_number from)))
      (register_values h p Ttbr1El1) r i in
      fits_of h p Ttbr0El1 (λ value. Asid (tag_number k.0)) r (λ v j. tag_small k.0 (value_fits h p Ttbr1El1 k.0 fit k.1)) k.2

  asid_fits : (inorder : Bool) (from : AsidFrom) (h : List Event) (p : ℕ) (r : Reading) → AllFit h
      → In (asid_readings inorder from h p) r → is_tag r.tag ≡ true
  asid_fits inorder FromTtbr0 h p r fit i =
      fits_of h p Ttbr0El1 (λ value. Asid (tag_number value)) r (λ v j. tag_small v (value_fits h p Ttbr0El1 v fit j)) i
  asid_fits inorder FromTtbr1 h p r fit i = second_fits inorder h p r fit i

  reading_fits : (h : List Event) (p : ℕ) (r : Reading) → AllFit h → In (readings heading h p) r → is_tag r.tag ≡ true
  reading_fits h p r fit i = by heading.words.inorder heading.world i
    where
      by : (inorder : Bool) (world : World) → In (readings_in inorder world h p) r → is_tag r.tag ≡ true
      by inorder (Hyp world) j =
          elim (in_append (readings_of h p Ttbr0El2 (λ value. El2Tag)) (readings_of h p VttbrEl2 (λ value. Vmid (tag_number value))) r j) [
            | inl k ↦ fits_of h p Ttbr0El2 (λ value. El2Tag) r (λ v l. refl) k
            | inr k ↦ fits_of h p VttbrEl2 (λ value. Vmid (tag_number value)) r
                (λ v l. tag_small v (value_fits h p VttbrEl2 v fit l)) k
          ]
      by inorder (Kernel world) j =
          elim (in_append (asid_readings inorder world.asid_from h p) (readings_of h p Ttbr1El1 (λ value. Ttbr1Tag)) r j) [
            | inl k ↦ asid_fits inorder world.asid_from h p r fit k
            | inr k ↦ fits_of h p Ttbr1El1 (λ value. Ttbr1Tag) r (λ v l. refl) k
          ]

  tag_fits : (h : List Event) (p n : ℕ) (tag : Tag) → AllFit h → OfTag heading h p tag n → is_tag tag ≡ true
  tag_fits h p n tag fit k =
      let m = k.mark in
      let history = Msr p m.reg m.value ∷ m.before in
      ap (λ (g : Tag). is_tag g) (sym m.of_tag)
      ∙ reading_fits history p m.reading
      (λ e i. fit e (subst (λ (es : List Event). In es e) (sym k.split) (in_right k.later history e i)))
      (is_in (readings heading history p) m.front m.behind m.reading m.read)

-- ---- claims

module _ (heading : Heading) (known : Known heading) (few_pes : heading.pes ≤ 128) where
  place_fits : (h : List Event) (p a n : ℕ) → AllFit heading h → OfPlace heading h p a n → is_place a ≡ true
  place_fits h p a n fit k =
      let m = k.mark in
      let write = Write m.pe a m.value in
      let there = is_in h (events_of k.since) (events_of m.older) write (written heading h p a n known.events_noted k) in
      let parts = first_true (is_pe heading m.pe && is_place a) (is_value m.value) (fit write there) in
      (and_parts (is_pe heading m.pe) (is_place a) parts).1

  module _ (h : List Event) (e : Event) (kept : keeps heading Patterns (e ∷ h) ≡ true) (within : WithinLimits h)
      (fit : AllFit heading (e ∷ h)) (few : length (e ∷ h) < 2 ^ 32) where
    -- the events since the last valid write are some of the history
    since_in : (a p : ℕ) (w : ValidWrite) → IsCleansed heading (noted heading Patterns (e ∷ h)) a p w → (n : Noted)
        → In w.since n → In (noted heading Patterns (e ∷ h)) n
    since_in a p w k n i =
        let last = known.last_valid.sound k.node.kind k.node.level a (noted heading Patterns (e ∷ h)) w k.is_last in
        subst (λ (ns : List Noted). In ns n) (sym last.split) (in_left w.since (last.write ∷ last.older) n i)

    due_fits : (c : Claim) → IsDue heading h e c → is_claim heading c ≡ true
    due_fits c due = by c due (due_number heading known few_pes h e kept within c due)
      where
        by : (x : Claim) (k : IsDue heading h e x) → (n : ℕ) × HasNumber heading h e x n → is_claim heading x ≡ true
        by (Place p a b t d) k number =
            let at = one_fits heading (e ∷ h) few k.1.0.since (since_in a p k.1.0 k.1.1) a p b t d k.1.2.holds in
            proved 5 (λ v w x y z. If (Is v true) (If (Is w true) (If (Is x true) (If (Is y true) (If (Is z true)
            (Is (((v && w) && x) && (y && z)) true)))))) refl (is_pe heading p) (is_place a) (is_position b) (is_position t)
            (is_position d) (lt-ltb p heading.pes k.0) (place_fits h p a number.0 (λ x i. fit x (inr i)) number.1.0)
            at.0 at.1 at.2
        by (Two p a b t1 d1 t2 d2) k number =
            let at = two_fits heading (e ∷ h) few k.1.0.since (since_in a p k.1.0 k.1.1) a p b t1 d1 t2 d2 k.1.3.holds in
            proved 7 (λ t u v w x y z. If (Is t true) (If (Is u true) (If (Is v true) (If (Is w true) (If (Is x true)
            (If (Is y true) (If (Is z true) (Is ((((t && u) && v) && (w && x)) && (y && z)) true)))))))) refl
            (is_pe heading p) (is_place a) (is_position b) (is_position t1) (is_position d1) (is_position t2) (is_position d2)
            (lt-ltb p heading.pes k.0) (place_fits h p a number.0 (λ x i. fit x (inr i)) number.1.0)
            at.0 at.1 at.2 at.3 at.4
        by (Taken p tag t d) k number =
            and_from (is_pe heading p && is_tag tag) (is_position t && is_position d)
            (and_from (is_pe heading p) (is_tag tag) (lt-ltb p heading.pes k.0)
            (tag_fits heading h p number.0 tag (λ x i. fit x (inr i)) number.1.0))
            (taken_fits heading h e p t d tag few k.3 k.4.holds)

  fit_from : (h : List Event) (cs : List Claim) → keeps heading Patterns h ≡ true → WithinLimits h → AllFit heading h
      → length h < 2 ^ 32 → IsCertificate heading h cs → (c : Claim) → In cs c → is_claim heading c ≡ true
  fit_from [] cs kept within fit few cert c i = absurd (subst (λ (xs : List Claim). In xs c) cert i)
  fit_from (e ∷ h) cs kept within fit few cert c i =
      elim (in_append cert.0 cert.1 c (subst (λ (xs : List Claim). In xs c) cert.2 i)) [
        | inl was ↦ fit_from h cert.0 (was_kept heading h e kept) within.1 (λ x j. fit x (inr j))
            (omega (arith, few)) cert.3 c was
        | inr now ↦ due_fits h e kept within.1 fit few c (cert.5 c (to_contains cert.1 c now))
      ]

  -- each claim of a certificate fits the header
  pub claims_fit : (h : List Event) (cs : List Claim) → keeps heading Patterns h ≡ true → WithinLimits h
      → every (fits_heading heading) h ≡ true → length h < 2 ^ 32 → IsCertificate heading h cs
      → (c : Claim) → In cs c → is_claim heading c ≡ true
  claims_fit h cs kept within fit few =
      fit_from h cs kept within (λ e i. every_in (fits_heading heading) h e fit i) few
