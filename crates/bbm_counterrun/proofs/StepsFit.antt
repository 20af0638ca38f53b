-- Each step of a run over a log fits the header of the log.
use Rattle.bbm_counterrun.proofs.Common.{Kind, Step, Machine, Entry, IsRun, Living, State, IsLog, started, written_at}
use Rattle.bbm_rules.proofs.Common.{◌≡◌, ℕ, suc, ◌^◌, ◌<◌, ◌≤◌, arith, Bool, true, false, ◌++◌, nat_lt, ◌==◌, List}
use Rattle.bbm_rules.proofs.Common.{[], ◌∷◌, length, find, not, Some, None, option_map, inl, inr, ◌⊎◌, Contains, zero}
use Rattle.bbm_rules.proofs.Common.{refl, sym, ◌∙◌, ap, subst, suc-le-suc, and_from, and_parts, lt-ltb, ltb-true, In}
use Rattle.bbm_rules.proofs.Common.{in_right, from_filter, to_contains, among, every, El2, S2, Ttbr0, Ttbr1, Start}
use Rattle.bbm_rules.proofs.Common.{Extend, Combine, Share, Drop, Heading, Event, Write, Msr, is_readable}
use Rattle.bbm_rules.proofs.Common.{register_values, tag_number}
use Rattle.std.proofs.lemmas.Bool.Decides.{nat_tests}
use Rattle.bbm_lemmas.proofs.Elements.{contains_after, contains_head, from_map}
use Rattle.bbm_lemmas.proofs.Words.{among_in, in_among}
use Rattle.bbm_regimes.specs.Registers.{base_of}
use Rattle.bbm_descriptor.specs.Descriptor.{is_valid}
use Rattle.bbm_events.specs.Fits.{is_place, is_value}
use Rattle.bbm_events.specs.Heading.{heading_ok, may_share as shares_by}
use Rattle.bbm_events.specs.Machine.{is_entry, is_tag, machine_fits}
use Rattle.bbm_events.specs.declared.machine.MachineLine.{MachineLine}
use Rattle.bbm_rules.specs.Prelude.{AsidFrom, FromTtbr0, FromTtbr1, Reg, Ttbr0El1, Ttbr1El1, VttbrEl2, World, Hyp}
use Rattle.bbm_rules.specs.Prelude.{Kernel}
use Rattle.bbm_rules.specs.RegisterValues.{Standing, standings}
use Rattle.bbm_rules.specs.Sentences.{ReadableRegister, ReadableStanding, register_value}
use Rattle.bbm_rules.specs.TagLaws.{ReadsBySentence}
use Rattle.bbm_rules.specs.TagSentences.{GivesAsid, Names, ReadsTag}
use Rattle.bbm_tlb_machine.specs.declared.step.Step.TheVariants.{Event as Taken}
use Rattle.bbm_tlb_machine.specs.Entry.{tag_of_entry}
use Rattle.bbm_tlb_machine.specs.MachineRun.{Leads, at_start, entry_at, with_entry}
use Rattle.bbm_tlb_machine.specs.Step.{Starts, asid_register, has_number}
use Rattle.bbm_counterrun.specs.RunSteps.{step_fits}
use Rattle.bbm_counterrun.proofs.LastStep.{grows_by}
use Rattle.bbm_counterrun.proofs.LeastGoals.{written, zero_is_invalid}
use Rattle.bbm_rules.proofs.TagLaw.{tag_small}

-- the laws of readable registers, standings and tags
pub record TagReads (heading : Heading) : Type 0 where
  pub tags : ReadsBySentence heading
  pub registers : (h : List Event) (p : ℕ) (reg : Reg) (value : ℕ) → among value (register_values h p reg) ≡ true
      → ReadableRegister h p reg value
  pub stood : (h : List Event) (p : ℕ) (s : Standing) → Contains (standings h p) s → ReadableStanding h p s

-- ---- what is written

written_cases : (pe at v place value : ℕ) (h : List Event) → In (written_at (Write pe at v ∷ h) place) value
    → ((at ≡ place) × (v ≡ value)) ⊎ In (written_at h place) value
written_cases pe at v place value h i = grind (arith, nat_tests)

in_written : (h : List Event) (place value : ℕ) → In (written_at h place) value → (pe : ℕ) × In h (Write pe place value)
in_written [] place value i = absurd i
in_written (Write pe at v ∷ h) place value i = elim (written_cases pe at v place value h i) [
  | inl here ↦ (pe, inl (λ j. Write pe (here.0 j) (here.1 j)))
  | inr there ↦ let r = in_written h place value there in (r.0, inr r.1)
]
in_written (event ∷ h) place value i = let r = in_written h place value i in (r.0, inr r.1)

msr_cases : (pe p value v : ℕ) (r reg : Reg) (h : List Event) → register_value (Msr pe r value ∷ h) p reg ≡ v
    → ((pe ≡ p) × (value ≡ v)) ⊎ (register_value h p reg ≡ v)
msr_cases pe p value v r reg h e = grind (arith, nat_tests)

-- a register has another value than 0 where its PE wrote it
in_msr : (h : List Event) (p : ℕ) (reg : Reg) (v : ℕ) → register_value h p reg ≡ v → (v ≡ 0 → ⊥) → (r : Reg) × In h (Msr p r v)
in_msr [] p reg v e other = absurd (other (sym e))
in_msr (Msr pe r value ∷ h) p reg v e other = elim (msr_cases pe p value v r reg h e) [
  | inl here ↦ (r, inl (λ i. Msr (here.0 i) r (here.1 i)))
  | inr there ↦ let w = in_msr h p reg v there other in (w.0, inr w.1)
]
in_msr (event ∷ h) p reg v e other = let w = in_msr h p reg v e other in (w.0, inr w.1)

-- ---- numbers of entries

-- so many entries were made at most, and each that is kept has the number of one of them
pub record Numbered (s : State) (n : ℕ) : Type 0 where
  made : s.made ≤ n
  each : (l : Living) → In s.living l → l.number ≤ s.made

numbered_with : (s : State) (x : Entry) (n : ℕ) → Numbered s n → Numbered (with_entry s x) (suc n)
numbered_with s x n k = record {
  made = suc-le-suc k.made;
  each = λ l i. elim i [
    | inl new ↦ let same : suc s.made ≡ l.number = ap (λ (m : Living). m.number) new in omega (arith, same)
    | inr old ↦ let le = k.each l old in omega (arith, le)
  ];
}

find_cases : (l : Living) (ls : List Living) (number : ℕ) (x : Entry)
    → option_map (λ (l : Living). l.entry) (find (λ (l : Living). l.number == number) (l ∷ ls)) ≡ Some x → (l.number ≡ number)
    ⊎ (option_map (λ (l : Living). l.entry) (find (λ (l : Living). l.number == number) ls) ≡ Some x)
find_cases l ls number x e = grind (arith, nat_tests)

find_number : (ls : List Living) (number : ℕ) (x : Entry)
    → option_map (λ (l : Living). l.entry) (find (λ (l : Living). l.number == number) ls) ≡ Some x
    → (l : Living) × In ls l × (l.number ≡ number)
find_number [] number x e = cc
find_number (l ∷ ls) number x e = elim (find_cases l ls number x e) [
  | inl same ↦ (l, inl refl, same)
  | inr there ↦ let r = find_number ls number x there in (r.0, inr r.1, r.2)
]

entry_fits : (s : State) (number n : ℕ) (x : Entry) → Numbered s n → n < 2 ^ 32 → entry_at s number ≡ Some x
    → is_entry number ≡ true
entry_fits s number n x k few found =
    let r = find_number s.living number x found in
    let made : r.0.number ≤ s.made = k.each r.0 r.1 in
    lt-ltb number (2 ^ 32) (omega (arith, made, k.made, few, r.2))

-- a header that lets TLBs copy entries is of a version that does
share_fits : (heading : Heading) → heading_ok heading ≡ true → heading.cnp ≡ true → shares_by heading.version ≡ true
share_fits heading ok cnp = grind arith

module _ (heading : Heading) (laws : TagReads heading) where
  module _ (h : List Event) (log : IsLog heading h) where
    -- what a walk reads was written
    read_fits : (place p value : ℕ) (kind : Kind) (level : ℕ) → is_readable heading h place p value ≡ true
        → is_valid kind level value ≡ true → (is_place place ≡ true) × (is_value value ≡ true)
    read_fits place p value kind level readable valid =
        let w = in_written h place value (written heading [] h place p value (zero_is_invalid kind level value valid) readable) in
        let a = and_parts _ _ (log.events (Write w.0 place value) (to_contains h _ w.1)) in
        ((and_parts _ _ a.0).1, a.1)

    -- what a register held, but for 0, was written by a PE of the header
    msr_fits : (p : ℕ) (reg : Reg) (value : ℕ) (newer older : List Event) → h ≡ newer ++ older
        → register_value older p reg ≡ value → (value ≡ 0 → ⊥) → (p < heading.pes) × (value < 2 ^ 64)
    msr_fits p reg value newer older split had other =
        let w = in_msr older p reg value had other in
        let wrote : Event = Msr p w.0 value in
        let a = and_parts _ _ (log.events wrote
        (to_contains h wrote (subst (λ (es : List Event). In es wrote) (sym split) (in_right newer older wrote w.1)))) in
        (ltb-true p heading.pes a.0, ltb-true value (2 ^ 64) a.1)

    below : (p : ℕ) (reg : Reg) (value : ℕ) (newer older : List Event) → h ≡ newer ++ older
        → register_value older p reg ≡ value → value < 2 ^ 64
    below p reg zero newer older split had = ltb-true 0 (2 ^ 64) refl
    below p reg (suc value) newer older split had =
        (msr_fits p reg (suc value) newer older split had (λ e. omega (arith, e))).1

    readable_below : (p : ℕ) (reg : Reg) (value : ℕ) → among value (register_values h p reg) ≡ true → value < 2 ^ 64
    readable_below p reg value k =
        let r = laws.registers h p reg value k in below p reg value r.newer r.older r.split r.had

    names_pe : (p : ℕ) (reg : Reg) (root value : ℕ) → Names h p reg root value → p < heading.pes
    names_pe p reg root value n =
        let r = laws.registers h p reg value n.readable in
        (msr_fits p reg value r.newer r.older r.split r.had (λ zero. none_based (ap base_of (sym zero) ∙ n.base))).0
      where
        none_based : None ≡ Some root → ⊥
        none_based e = cc

    small : (number value : ℕ) → tag_number value ≡ number → value < 2 ^ 64 → nat_lt number (2 ^ 16) ≡ true
    small number value same below = ap (λ (n : ℕ). nat_lt n (2 ^ 16)) (sym same) ∙ tag_small value below

    asid_below : (order : Bool) (from : AsidFrom) (p value number : ℕ) → among value (register_values h p Ttbr0El1) ≡ true
        → GivesAsid order from h p value number → number < 2 ^ 64
    asid_below order FromTtbr0 p value number readable same = rw same (readable_below p Ttbr0El1 value readable)
    asid_below true FromTtbr1 p value number readable gives =
        let r = laws.stood h p (record { first = value; second = number }) gives in
        below p Ttbr1El1 number r.newer r.older r.split (ap (λ (s : Standing). s.second) r.had)
    asid_below false FromTtbr1 p value number readable gives = readable_below p Ttbr1El1 number gives

    reads_fit : (order : Bool) (world : World) (kind : Kind) (now p number place value root : ℕ)
        → ReadsTag order world h p (tag_of_entry (started heading now p kind number place value)) root
        → has_number world h p kind number ≡ true → (p < heading.pes) × (is_tag kind number ≡ true)
    reads_fit order (Hyp w) El2 now p number place value root k has = (names_pe p _ root k.0 k.1, has)
    reads_fit order (Hyp w) S2 now p number place value root k has =
        (names_pe p _ root k.0 k.1, small number k.0 k.2 (readable_below p VttbrEl2 k.0 k.1.readable))
    reads_fit order (Kernel w) Ttbr0 now p number place value root k has =
        (names_pe p _ root k.0 k.2, small number k.1 k.4 (asid_below order w.asid_from p k.0 k.1 k.2.readable k.3))
    reads_fit order (Kernel w) Ttbr1 now p number place value root k has =
        let values : List ℕ = register_values h p (asid_register w.asid_from) in
        let m = from_map tag_number values number (in_among number _ has) in
        (names_pe p _ root k.0 k.1, small number m.0 m.2 (readable_below p (asid_register w.asid_from) m.0 (among_in m.0 values m.1)))
    reads_fit order _ _ now p number place value root k has = absurd k

    start_fits : (p : ℕ) (kind : Kind) (number place value : ℕ)
        → Starts heading h (started heading (length h) p kind number place value) number
        → machine_fits heading (Start p kind number place value) ≡ true
    start_fits p kind number place value s =
        let x : Entry = started heading (length h) p kind number place value in
        let r = reads_fit heading.words.inorder heading.world kind (length h) p number place value x.root
        (laws.tags.sound h p (tag_of_entry x) x.root s.tag) s.numbered in
        let f = read_fits place p value kind x.last.level s.readable s.valid in
        and_from _ _ (and_from _ _ (and_from _ _ (lt-ltb p heading.pes r.0) r.1) f.0) f.1

  -- ---- a step

  module _ (s : State) (n : ℕ) (log : IsLog heading s.log) (k : Numbered s n) (few : n < 2 ^ 32) where
    machine_fits_so : (line : MachineLine) (next : State) → Leads heading s (Machine line) next
        → (machine_fits heading line ≡ true) × Numbered next (suc n)
    machine_fits_so (Start p kind number place value) next l =
        (start_fits s.log log p kind number place value l.0, rw l.1 (numbered_with s _ n k))
    machine_fits_so (Extend number place value) next l =
        let f = read_fits s.log log place l.0.pe value l.0.last.kind (suc l.0.last.level) l.2.readable l.2.valid in
        (and_from _ _ (and_from _ _ (entry_fits s number n l.0 k few l.1) f.0) f.1, rw l.3 (numbered_with s _ n k))
    machine_fits_so (Combine number) next l = (entry_fits s number n l.0 k few l.1, rw l.3 (numbered_with s _ n k))
    machine_fits_so (Share number p) next l =
        let a = and_parts _ _ l.2 in (
          and_from _ _ (and_from _ _ (share_fits heading log.header a.0) (entry_fits s number n l.0 k few l.1)) a.1,
          rw l.3 (numbered_with s _ n k),
        )
    machine_fits_so (Drop number) next l = (
      entry_fits s number n l.0 k few l.1,
      rw l.2 (record {
        made = let made = k.made in omega (arith, made);
        each = λ m i. k.each m (from_filter (λ (l : Living). not (l.number == number)) s.living m i).0;
      }),
    )

  step_fits_so : (s : State) (step : Step) (next : State) (n : ℕ) → IsLog heading next.log → Numbered s n → n < 2 ^ 32
      → Leads heading s step next → IsLog heading s.log → (step_fits heading step ≡ true) × Numbered next (suc n)
  step_fits_so s (Machine line) next n log k few l before = machine_fits_so s n before k few line next l
  step_fits_so s (Taken e) next n log k few l before = (
    log.events e (rw l.1 (contains_head s.log e)),
    rw l.1 (record { made = let made = k.made in omega (arith, made); each = k.each }),
  )

  log_before : (s : State) (step : Step) (next : State) → IsLog heading next.log → Leads heading s step next → IsLog heading s.log
  log_before s step next log l =
      let g = grows_by heading s next step l in
      record { header = log.header; events = λ e i. log.events e (rw g.split (contains_after g.later s.log e i)) }

  pub steps_fit : (steps : List Step) (s : State) → IsLog heading s.log → length steps < 2 ^ 32 → IsRun heading steps s
      → (every (step_fits heading) steps ≡ true) × Numbered s (length steps)
  steps_fit [] s log few run = (refl, rw run (record { made = le_itself; each = λ l i. absurd i }))
    where
      le_itself : at_start.made ≤ 0
      le_itself = omega arith
  steps_fit (step ∷ steps) s log few run =
      let before : IsLog heading run.0.log = log_before run.0 step s log run.2 in
      let rest = steps_fit steps run.0 before (omega (arith, few)) run.1 in
      let here = step_fits_so run.0 step s (length steps) log rest.1 (omega (arith, few)) run.2 before in
      (and_from _ _ here.0 rest.0, here.1)
