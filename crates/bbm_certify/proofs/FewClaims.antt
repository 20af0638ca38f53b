-- Each claim that is due at an event has a number, so a certificate has at most 128 claims for each event of its log.
use Rattle.bbm_certify.proofs.Common.{Known, IsCertificate, IsCleansed, IsDue}
use Rattle.bbm_rules.proofs.Common.{◌≡◌, ℕ, suc, ◌+◌, ◌*◌, ◌<◌, ◌≤◌, Bool, true, false, cond, not, ◌&&◌, ◌==◌, nat_le}
use Rattle.bbm_rules.proofs.Common.{List, [], ◌∷◌, ◌++◌, length, take, Option, Some, None, refl, sym, ◌∙◌, ap, subst}
use Rattle.bbm_rules.proofs.Common.{inl, inr, arith, and_parts, eqb-true, leb-false, or_cases, filter_map, flat_map}
use Rattle.bbm_rules.proofs.Common.{length-append, any_found, if_so}
use Rattle.bbm_rules.proofs.Common.{Claim, Place, Two, Taken, keeps, Patterns, cleansed, noted, Noted}
use Rattle.bbm_rules.proofs.Common.{Barrier, Heading, Event, Isb, Msr, Dsb, Reg, Tag, AsidFrom, FromTtbr0, FromTtbr1}
use Rattle.bbm_rules.proofs.Common.{World, Hyp, Kernel, Reading, asid_readings, kept_at, loses, readings, readings_in}
use Rattle.bbm_rules.proofs.Common.{readings_of, reads, register_values, same_tag, same_reg, Ttbr0El1, Ttbr1El1}
use Rattle.bbm_rules.proofs.Common.{Ttbr0El2, VttbrEl2, Asid, Vmid, El2Tag, Ttbr1Tag, tag_number, ValidWrite}
use Rattle.bbm_rules.proofs.Common.{to_contains}
use Rattle.bbm_lemmas.proofs.Bools.{first_true}
use Rattle.std.proofs.lemmas.Bool.{cases_Bool}
use Rattle.bbm_rules.specs.EventLaws.{TestsAreExact}
use Rattle.bbm_histories.proofs.Induction.{kept_before}
use Rattle.bbm_regimes.specs.declared.regime.Which.TheVariants.{Values}
use Rattle.bbm_rules.proofs.RegisterLaw.{first}
use Rattle.bbm_rules.specs.RegisterValues.{Standing, standing_of, standings}
use Rattle.bbm_rules.specs.Tags.{reading_of, second_readings, standing_reading}
use Rattle.bbm_lemmas.proofs.Elements.{split_in}
use Rattle.std.specs.List.{cons_option}
use Rattle.std.proofs.lemmas.List.{length-take}
use Rattle.bbm_certify.specs.LeastClaims.{Holding, WithinLimits}
use Rattle.bbm_certify.proofs.ClaimNumbers.{BecomesClean, Counted, HasNumber, HeldSince, OfTag, counted_next}
use Rattle.bbm_certify.proofs.ClaimNumbers.{few_claims, more_tag, numbered}
use Rattle.bbm_certify.proofs.DueNone.{none_due}
use Rattle.bbm_certify.proofs.DuePlaces.{the_write, unclean}
use Rattle.bbm_certify.proofs.Knowing.{kept_now, reads_written}

-- ---- a log has few readable values

-- a register has at most nine readable values in a log that reaches no limit
room : (n : ℕ) → if_so (nat_le 9 n) Values ≡ None → n < 9
room n none = elim (cases_Bool (nat_le 9 n)) [
  | inl full ↦ absurd (cc (none, full))
  | inr some ↦ leb-false 9 n some
]

module _ (tests : TestsAreExact) where
  few_values : (h : List Event) (p : ℕ) (reg : Reg) → WithinLimits h → length (register_values h p reg) ≤ 9
  few_values [] p reg within = omega arith
  few_values (Msr pe r value ∷ h) p reg within = by (pe == p && same_reg r reg) refl (few_values h p reg within.1)
    where
      by : (b : Bool) → (pe == p && same_reg r reg) ≡ b → length (register_values h p reg) ≤ 9
          → length (cond b (value ∷ register_values h p reg) (register_values h p reg)) ≤ 9
      by false e few = few
      by true e few =
          let parts = and_parts (pe == p) (same_reg r reg) e in
          let less = room (length (register_values h pe r)) within.0 in
          let same : register_values h pe r ≡ register_values h p reg
          = ap (λ (q : ℕ). register_values h q r) (eqb-true pe p parts.0)
          ∙ ap (λ (s : Reg). register_values h p s) ((tests.registers r reg).0 parts.1) in
          omega (arith, less, ap length same)
  few_values (Isb pe ∷ h) p reg within = by (pe == p) (few_values h p reg within.1)
    where
      by : (b : Bool) → length (register_values h p reg) ≤ 9
          → length (cond b (take 1 (register_values h p reg)) (register_values h p reg)) ≤ 9
      by true few = omega (arith, length-take 1 (register_values h p reg))
      by false few = few
  few_values (e ∷ h) p reg within = few_values h p reg within.1

  few_found : {X Y : Type 0} (f : X → Option Y) (xs : List X) → length (filter_map f xs) ≤ length xs
  few_found f [] = omega arith
  few_found {X} {Y} f (x ∷ xs) = by (f x) (few_found f xs)
    where
      by : (o : Option Y) → length (filter_map f xs) ≤ length xs
          → length (cons_option o (filter_map f xs)) ≤ suc (length xs)
      by None few = omega (arith, few)
      by (Some y) few = omega (arith, few)

  few_flat : {X Y : Type 0} (f : X → List Y) (n : ℕ) (xs : List X) → ((x : X) → length (f x) ≤ n)
      → length (flat_map f xs) ≤ n * length xs
  few_flat f n [] each = omega arith
  few_flat f n (x ∷ xs) each =
      let more : length (flat_map f xs) ≤ n * length xs = few_flat f n xs each in
      omega (arith, more, each x, length-append (f x) (flat_map f xs))

  few_of : (h : List Event) (p : ℕ) (reg : Reg) (tag : ℕ → Tag) → WithinLimits h → length (readings_of h p reg tag) ≤ 9
  few_of h p reg tag within =
      let found = few_found (reading_of h reg tag) (register_values h p reg) in
      let values = few_values h p reg within in
      omega (arith, found, values)

  -- each register write of the PE makes one value of one register readable, beside the first
  few_standings : (h : List Event) (p : ℕ) → length (standings h p) + 3
      ≤ length (register_values h p Ttbr0El2) + length (register_values h p VttbrEl2)
      + length (register_values h p Ttbr0El1) + length (register_values h p Ttbr1El1)
  few_standings [] p = omega arith
  few_standings (Msr pe r value ∷ h) p =
      by (pe == p) r (standing_of (Msr pe r value ∷ h) p) (few_standings h p)
    where
      by : (b : Bool) (r : Reg) (s : Standing) → length (standings h p) + 3
          ≤ length (register_values h p Ttbr0El2) + length (register_values h p VttbrEl2)
          + length (register_values h p Ttbr0El1) + length (register_values h p Ttbr1El1)
          → length (cond b (s ∷ standings h p) (standings h p)) + 3
          ≤ length (cond (b && same_reg r Ttbr0El2) (value ∷ register_values h p Ttbr0El2) (register_values h p Ttbr0El2))
          + length (cond (b && same_reg r VttbrEl2) (value ∷ register_values h p VttbrEl2) (register_values h p VttbrEl2))
          + length (cond (b && same_reg r Ttbr0El1) (value ∷ register_values h p Ttbr0El1) (register_values h p Ttbr0El1))
          + length (cond (b && same_reg r Ttbr1El1) (value ∷ register_values h p Ttbr1El1) (register_values h p Ttbr1El1))
      by false r s few = few
      by true Ttbr0El2 s few = omega (arith, few)
      by true VttbrEl2 s few = omega (arith, few)
      by true Ttbr0El1 s few = omega (arith, few)
      by true Ttbr1El1 s few = omega (arith, few)
  few_standings (Isb pe ∷ h) p = by (pe == p) (few_standings h p)
    where
      one : (reg : Reg) → length (take 1 (register_values h p reg)) ≡ 1
      one reg = ap length (first p reg h)

      by : (b : Bool) → length (standings h p) + 3
          ≤ length (register_values h p Ttbr0El2) + length (register_values h p VttbrEl2)
          + length (register_values h p Ttbr0El1) + length (register_values h p Ttbr1El1)
          → length (cond b (take 1 (standings h p)) (standings h p)) + 3
          ≤ length (cond b (take 1 (register_values h p Ttbr0El2)) (register_values h p Ttbr0El2))
          + length (cond b (take 1 (register_values h p VttbrEl2)) (register_values h p VttbrEl2))
          + length (cond b (take 1 (register_values h p Ttbr0El1)) (register_values h p Ttbr0El1))
          + length (cond b (take 1 (register_values h p Ttbr1El1)) (register_values h p Ttbr1El1))
      by true few =
          omega (arith, length-take 1 (standings h p), one Ttbr0El2, one VttbrEl2, one Ttbr0El1, one Ttbr1El1)
      by false few = few
  few_standings (e ∷ h) p = few_standings h p

  few_seconds : (inorder : Bool) (h : List Event) (p : ℕ) → WithinLimits h → length (second_readings inorder h p) ≤ 81
  few_seconds true h p within =
      let found = few_found (standing_reading h) (standings h p) in
      omega (
        arith,
        found,
        few_standings h p,
        few_values h p Ttbr0El2 within,
        few_values h p VttbrEl2 within,
        few_values h p Ttbr0El1 within,
        few_values h p Ttbr1El1 within,
      )
  few_seconds false h p within =
      let values = few_values h p Ttbr1El1 within in
      let few = few_flat (λ from. readings_of h p Ttbr0El1 (λ value. Asid (tag_number from))) 9 (register_values h p Ttbr1El1)
      (λ from. few_of h p Ttbr0El1 (λ value. Asid (tag_number from)) within) in
      omega (arith, few, values)

  few_asids : (inorder : Bool) (from : AsidFrom) (h : List Event) (p : ℕ) → WithinLimits h
      → length (asid_readings inorder from h p) ≤ 81
  few_asids inorder FromTtbr0 h p within =
      let few = few_of h p Ttbr0El1 (λ value. Asid (tag_number value)) within in omega (arith, few)
  few_asids inorder FromTtbr1 h p within = few_seconds inorder h p within

  few_readings : (heading : Heading) (h : List Event) (p : ℕ) → WithinLimits h → length (readings heading h p) ≤ 90
  few_readings heading h p within = by heading.words.inorder heading.world
    where
      by : (inorder : Bool) (world : World) → length (readings_in inorder world h p) ≤ 90
      by inorder (Hyp world) =
          let one = few_of h p Ttbr0El2 (λ value. El2Tag) within in
          let other = few_of h p VttbrEl2 (λ value. Vmid (tag_number value)) within in
          omega (
            arith,
            one,
            other,
            length-append (readings_of h p Ttbr0El2 (λ value. El2Tag))
                (readings_of h p VttbrEl2 (λ value. Vmid (tag_number value))),
          )
      by inorder (Kernel world) =
          let one = few_asids inorder world.asid_from h p within in
          let other = few_of h p Ttbr1El1 (λ value. Ttbr1Tag) within in
          omega (
            arith,
            one,
            other,
            length-append (asid_readings inorder world.asid_from h p)
                (readings_of h p Ttbr1El1 (λ value. Ttbr1Tag)),
          )

-- ---- the numbers of what is due

-- a log that keeps the rules kept them before its last event
pub was_kept : (heading : Heading) (h : List Event) (e : Event) → keeps heading Patterns (e ∷ h) ≡ true
    → keeps heading Patterns h ≡ true
was_kept heading h e kept = kept_before heading Patterns (e ∷ []) h kept

module _ (heading : Heading) (known : Known heading) (few : heading.pes ≤ 128) where
  -- the place that a DSB cleanses at a PE has a last valid write
  place_number : (h : List Event) (q : ℕ) (dsb : Barrier) (kept : keeps heading Patterns (Dsb q dsb ∷ h) ≡ true)
      (a p : ℕ) (w : ValidWrite) → p < heading.pes → IsCleansed heading (noted heading Patterns (Dsb q dsb ∷ h)) a p w
      → ((v : ValidWrite) → IsCleansed heading (noted heading Patterns h) a p v → ⊥)
      → (n : ℕ) × BecomesClean heading h (Dsb q dsb) p a n
  place_number h q dsb kept a p w below k not_yet =
      let was = the_write heading known h q dsb kept a p w k not_yet in
      let last = known.last_valid.sound k.node.kind k.node.level a (noted heading Patterns h) was.before was.is in (
        128 * length last.older + p,
        (
          record {
            mark = record {
              write = last.write;
              older = last.older;
              pe = last.pe;
              value = was.before.value;
              wrote = last.wrote;
              small = omega (arith, below, few);
              number = refl;
            };
            since = was.before.since;
            split = last.split;
          },
          unclean heading known h q dsb kept a p w k not_yet,
          ap (λ (ns : List Noted). cleansed heading Patterns a p ns) was.since_is ∙ k.is_clean,
        ),
      )

  -- the tag that a root holds at a PE was readable there for it after a register write of the PE, and held since then
  abbrev TagNumber : List Event → ℕ → Tag → Type 0
  TagNumber h p tag = (n : ℕ) × ((k : OfTag heading h p tag n) × HeldSince heading h p tag (length k.mark.before))

  -- held at the newest moment and at those before it
  held_more : (h : List Event) (e : Event) (p count : ℕ) (tag : Tag) → Holding heading (e ∷ h) p tag
      → ((after moment : List Event) → h ≡ after ++ moment → count < length moment → Holding heading moment p tag)
      → HeldSince heading (e ∷ h) p tag count
  held_more h e p count tag now before [] moment split since =
      subst (λ (es : List Event). Holding heading es p tag) split now
  held_more h e p count tag now before (x ∷ after) moment split since =
      let rest : h ≡ after ++ moment = cc in before after moment rest since

  module _ (h : List Event) (e : Event) (p root : ℕ) (tag : Tag) (within : WithinLimits (e ∷ h))
      (held : kept_at heading Patterns p root tag (e ∷ h) ≡ true) where
    still_held : TagNumber h p tag → TagNumber (e ∷ h) p tag
    still_held k =
        (k.0, (more_tag heading h e p k.0 tag k.1.0, held_more h e p (length k.1.0.mark.before) tag (root, held) k.1.1))

    -- it becomes readable by the event, a register write
    now_read : (reg : Reg) (value : ℕ) → e ≡ Msr p reg value → reads heading (e ∷ h) p tag root ≡ true
        → TagNumber (e ∷ h) p tag
    now_read reg value is read =
        let r = any_found (λ (x : Reading). same_tag x.tag tag && x.root == root) (readings heading (e ∷ h) p) read in
        let at = split_in (readings heading (e ∷ h) p) r.0 r.1 in
        let count = few_readings known.equality_tests heading (e ∷ h) p within in (
          128 * length h + length at.1,
          (
            record {
              mark = record {
                before = h;
                reg = reg;
                value = value;
                front = at.0;
                reading = r.0;
                behind = at.1;
                read = ap (λ (x : Event). readings heading (x ∷ h) p) (sym is) ∙ at.2;
                of_tag = (known.equality_tests.tags r.0.tag tag).0 (first_true (same_tag r.0.tag tag) (r.0.root == root) r.2);
                small = omega (arith, count, ap length at.2, length-append at.0 (r.0 ∷ at.1));
                number = refl;
              };
              later = [];
              split = ap (λ (x : Event). x ∷ h) is;
            },
            held_more h e p (length h) tag (root, held)
                (λ after moment split longer. absurd (omega (arith, ap length split, length-append after moment, longer))),
          ),
        )

  tag_number_of : (h : List Event) → keeps heading Patterns h ≡ true → WithinLimits h → (p root : ℕ) (tag : Tag)
      → p < heading.pes → kept_at heading Patterns p root tag h ≡ true → TagNumber h p tag
  tag_number_of [] kept within p root tag below held = absurd (cc)
  tag_number_of (e ∷ h) kept within p root tag below held =
      elim (or_cases (reads heading (e ∷ h) p tag root)
      (kept_at heading Patterns p root tag h && not (loses heading Patterns p tag e h)) held) [
        | inl read ↦
            elim (reads_written heading h e (known.tags.becomes h e known.proper kept)
            (kept_now heading h (λ p root tag. known.tag_kept.complete p root tag h)) p root tag below read) [
              | inl was ↦ still_held h e p root tag within held
                  (tag_number_of h (was_kept heading h e kept) within.1 p root tag below was)
              | inr w ↦ now_read h e p root tag within held w.0 w.1 w.2 read
            ]
        | inr stays ↦ still_held h e p root tag within held
            (tag_number_of h (was_kept heading h e kept) within.1 p root tag below
            (first_true (kept_at heading Patterns p root tag h) (not (loses heading Patterns p tag e h)) stays))
      ]

  -- ---- what is due has a number

  pub due_number : (h : List Event) (e : Event) → keeps heading Patterns (e ∷ h) ≡ true → WithinLimits h → (c : Claim)
      → IsDue heading h e c → (n : ℕ) × HasNumber heading h e c n
  due_number h (Dsb q dsb) kept within (Place p a b t d) k = place_number h q dsb kept a p k.1.0 k.0 k.1.1 k.2
  due_number h (Dsb q dsb) kept within (Two p a b t1 d1 t2 d2) k = place_number h q dsb kept a p k.1.0 k.0 k.1.1 k.2
  due_number h (Dsb q dsb) kept within (Taken p tag t d) k =
      let held = tag_number_of h (was_kept heading h (Dsb q dsb) kept) within p k.1.0 tag k.0 k.1.1 in
      (held.0, (held.1.0, held.1.1, k.2))
  due_number h e kept within c k = absurd (none_due heading known h e (λ q dsb is. cc) kept c k)

  counted : (h : List Event) (cs : List Claim) → keeps heading Patterns h ≡ true → WithinLimits h
      → IsCertificate heading h cs → Counted heading h cs
  counted [] cs kept within cert = record {
    numbers = [];
    size = ap length (sym cert);
    apart = tt;
    used = λ n i. absurd i;
  }
  counted (e ∷ h) cs kept within cert =
      let before = counted h cert.0 (was_kept heading h e kept) within.1 cert.3 in
      let due = numbered heading known.events_noted h e cert.1 cert.4
      (λ c i. due_number h e kept within.1 c (cert.5 c (to_contains cert.1 c i))) in
      subst (λ (xs : List Claim). Counted heading (e ∷ h) xs) (sym cert.2)
      (counted_next heading known.events_noted (known.cleansed Patterns) h e cert.0 cert.1 before due)

  -- a certificate has at most 128 claims for each event of its log
  pub few_claims_of : (h : List Event) (cs : List Claim) → keeps heading Patterns h ≡ true → WithinLimits h
      → IsCertificate heading h cs → length cs ≤ 128 * length h
  few_claims_of h cs kept within cert = few_claims heading known.events_noted h cs (counted h cs kept within cert)
