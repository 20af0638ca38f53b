-- In each run over a log that keeps the rules each entry that is kept is fine; so the log is safe.
use Rattle.bbm_rules.proofs.Common.{◌≡◌, cond, Bool, find, option_map, true, false, contains_head, contains_more, ℕ}
use Rattle.bbm_rules.proofs.Common.{suc, ◌<◌, ◌≤◌, arith, not, ◌&&◌, ◌==◌, nat_lt, List, [], ◌∷◌, ◌++◌, length, Some}
use Rattle.bbm_rules.proofs.Common.{None, Contains, refl, sym, ◌∙◌, ap, subst, inl, inr, true≢false, and_from}
use Rattle.bbm_rules.proofs.Common.{and_parts, eq-eqb, ltb-true, or_left, needs, fits_heading, is_value, Start, Extend}
use Rattle.bbm_rules.proofs.Common.{Combine, Share, Drop, keeps, Trust, same_tag, noted, ◌>>=◌, any, if_so, page_of}
use Rattle.bbm_rules.proofs.Common.{Barrier, Reg, Tag, Heading, Event, Init, Write, Dsb, Msr, completes, unanswered}
use Rattle.bbm_rules.proofs.Common.{Reading, holds_at, itself, reads, readings, Node, held_at, in_tree, node_of}
use Rattle.bbm_rules.proofs.Common.{pe_finds, contains_cases, contains_none}
use Rattle.bbm_rules.specs.Prelude.{World, Hyp, Kernel, AsidFrom, FromTtbr0, FromTtbr1, Ttbr1El1, Ttbr1Tag}
use Rattle.bbm_rules.specs.Tags.{asid_readings, readings_in, readings_of}
use Rattle.bbm_rules.specs.declared.rule.Rule.TheVariants.{BreakBeforeMake}
use Rattle.bbm_tlb_machine.specs.declared.step.Step.{Step}
use Rattle.bbm_tlb_machine.specs.declared.step.Step.TheVariants.{Machine, Event as Taken}
use Rattle.bbm_rules.proofs.Common.{holds_tag, nat_le}
use Rattle.bbm_rules.specs.Roots.{given_up_since}
use Rattle.bbm_tlb_machine.specs.Entry.{Entry, Part, is_given_up, parts_of, tag_of_entry}
use Rattle.bbm_tlb_machine.specs.Invariant.{Fine, Holding, Placed, Tagged, Taken as TakenBy}
use Rattle.bbm_tlb_machine.specs.FineSteps.{LeavesIt}
use Rattle.bbm_tlb_machine.specs.KnownOfMachine.{Known}
use Rattle.bbm_tlb_machine.specs.MachineRun.{IsRun, Leads, LeavesNone, Living, State, entry_at, with_entry}
use Rattle.bbm_tlb_machine.specs.Safe.{ComesTo, IsLog, OneRootATag, ReadsThrough, Safe}
use Rattle.bbm_tlb_machine.proofs.Descs.{no_need}
use Rattle.bbm_tlb_machine.proofs.EventSteps.{fine_after, still_up}
use Rattle.bbm_tlb_machine.proofs.Facts.{held_there, held_valid, tag_left, tag_now}
use Rattle.bbm_tlb_machine.proofs.Made.{fine_combined, fine_extended, fine_shared, fine_start}
use Rattle.bbm_tlb_machine.proofs.Patterns.{tagged_after}
use Rattle.bbm_tlb_machine.proofs.Taken.{taken}
use Rattle.bbm_lemmas.proofs.Elements.{any_finds, contains_after, from_contains, from_filter, to_contains}
use Rattle.bbm_histories.proofs.Induction.{kept_before}
use Rattle.bbm_rules.proofs.RuleLemmas.{if_none}

-- ---- entries by number

-- the entry of a number is one of those that are kept
kept_entry : (number : ℕ) (ls : List Living) (x : Entry)
    → option_map (λ (l : Living). l.entry) (find (λ (l : Living). l.number == number) ls) ≡ Some x
    → (l : Living) × Contains ls l × (l.entry ≡ x)
kept_entry number [] x e = cc
kept_entry number (l ∷ ls) x e = by (l.number == number) e (kept_entry number ls x)
  where
    by : (b : Bool) → option_map (λ (l : Living). l.entry) (cond b (Some l) (find (λ (l : Living). l.number == number) ls)) ≡ Some x
        → (option_map (λ (l : Living). l.entry) (find (λ (l : Living). l.number == number) ls) ≡ Some x
        → (m : Living) × Contains ls m × (m.entry ≡ x)) → (m : Living) × Contains (l ∷ ls) m × (m.entry ≡ x)
    by true e rest = let same : l.entry ≡ x = cc in (l, contains_head ls l, same)
    by false e rest = let r = rest e in (r.0, contains_more ls l r.0 r.1, r.2)

module _ (heading : Heading) (trust : Trust) (k : Known heading trust) where
  abbrev AllFine : State → Type 0
  AllFine s = (l : Living) → Contains s.living l → Fine heading trust s.log l.entry

  with_fine : (s : State) (x : Entry) → AllFine s → Fine heading trust s.log x → AllFine (with_entry s x)
  with_fine s x all f l i =
      elim (contains_cases s.living (record { number = suc s.made; entry = x }) l i) [
        | inl e ↦ subst (λ (m : Living). Fine heading trust s.log m.entry) e f
        | inr j ↦ all l j
      ]

  fine_at : (s : State) (number : ℕ) (x : Entry) → AllFine s → entry_at s number ≡ Some x → Fine heading trust s.log x
  fine_at s number x all e =
      let l = kept_entry number s.living x e in subst (λ (y : Entry). Fine heading trust s.log y) l.2 (all l.0 l.1)

  leaves_it : (s : State) (e : Event) → LeavesNone heading s e → (l : Living) → Contains s.living l → LeavesIt heading s.log e l.entry
  leaves_it s (Dsb q dsb) none l i r d is t j completed =
      let first : r ≡ q = cc in
      let second : dsb ≡ d = cc in
      none t (subst (λ (p : ℕ). Contains (unanswered itself p s.log) t) first j)
      (ap (λ (b : Barrier). completes b t.tlbi) second ∙ completed) l i
  leaves_it s e none l i r d is t j completed = let apart : e ≡ Dsb r d = is in cc

  -- what is fine in a state is fine in the next one, which is the same
  led : (made next : State) → next ≡ made → IsLog heading next.log → keeps heading trust next.log ≡ true
      → (IsLog heading made.log → keeps heading trust made.log ≡ true → AllFine made) → AllFine next
  led made next e log kept all =
      subst AllFine (sym e)
      (all (subst (λ (n : State). IsLog heading n.log) e log) (subst (λ (n : State). keeps heading trust n.log ≡ true) e kept))

  step_fine : (s : State) (step : Step) (next : State) → IsLog heading next.log → keeps heading trust next.log ≡ true
      → Leads heading s step next → (IsLog heading s.log → keeps heading trust s.log ≡ true → AllFine s) → AllFine next
  step_fine s (Machine (Start p kind number place value)) next log kept leads before =
      led _ next leads.1 log kept (λ log' kept'. with_fine s _ (before log' kept')
      (fine_start heading trust k s.log kept' log' p kind number place value leads.0))
  step_fine s (Machine (Extend number place value)) next log kept leads before =
      led _ next leads.3 log kept (λ log' kept'. with_fine s _ (before log' kept')
      (fine_extended heading trust k s.log kept' leads.0 (fine_at s number leads.0 (before log' kept') leads.1) place value leads.2))
  step_fine s (Machine (Combine number)) next log kept leads before =
      led _ next leads.3 log kept (λ log' kept'. with_fine s _ (before log' kept')
      (fine_combined heading trust k s.log kept' leads.0 (fine_at s number leads.0 (before log' kept') leads.1) leads.2))
  step_fine s (Machine (Share number p)) next log kept leads before =
      led _ next leads.3 log kept (λ log' kept'. with_fine s _ (before log' kept')
      (fine_shared heading trust k s.log kept' leads.0 (fine_at s number leads.0 (before log' kept') leads.1) p leads.2))
  step_fine s (Machine (Drop number)) next log kept leads before =
      led _ next leads.2 log kept (λ log' kept' l i. before log' kept' l (to_contains s.living l
      (from_filter (λ (m : Living). not (m.number == number)) s.living l (from_contains _ l i)).0))
  step_fine s (Taken e) next log kept leads before =
      led _ next leads.1 log kept (λ log' kept' l i.
      let older : IsLog heading s.log
      = record { header = log'.header; events = λ y i. log'.events y (contains_more s.log e y i) } in
      fine_after heading trust k s.log e kept' l.entry
      (before older (kept_before heading trust (e ∷ []) s.log kept') l i) (leaves_it s e leads.0 l i))

  pub run_fine : (steps : List Step) (s : State) → IsLog heading s.log → keeps heading trust s.log ≡ true
      → IsRun heading steps s → AllFine s
  run_fine [] s log kept run =
      λ (l : Living) i. absurd (contains_none l (subst (λ (n : State). Contains n.living l) run i))
  run_fine (step ∷ steps) s log kept run =
      step_fine run.0 step s log kept run.2 (λ log' kept'. run_fine steps run.0 log' kept' run.1)

  pub run_taken : (steps : List Step) (s : State) → IsLog heading s.log → keeps heading trust s.log ≡ true
      → IsRun heading steps s → (l : Living) → Contains s.living l → is_given_up heading s.log l.entry ≡ false
      → TakenBy heading trust s.log l.entry
  run_taken steps s log kept run l i up =
      let f = run_fine steps s log kept run l i in taken heading trust k s.log kept l.entry f up (f.rooted up)

  -- ---- one root a tag

  -- before any event nothing is readable
  pub none_read : (order : Bool) (world : World) (pe : ℕ) (r : Reading) → Contains (readings_in order world [] pe) r → ⊥
  none_read order (Hyp world) pe r i = contains_none r i
  none_read order (Kernel world) pe r i = by order world.asid_from i
    where
      by : (order : Bool) (from : AsidFrom) → Contains (asid_readings order from [] pe ++ readings_of [] pe Ttbr1El1 (λ value. Ttbr1Tag)) r → ⊥
      by order FromTtbr0 i = contains_none r i
      by true FromTtbr1 i = contains_none r i
      by false FromTtbr1 i = contains_none r i

  read_by : (rs : List Reading) (tag : Tag) (r : Reading) → Contains rs r → r.tag ≡ tag
      → any (λ (y : Reading). same_tag y.tag tag && y.root == r.root) rs ≡ true
  read_by rs tag r i e =
      any_finds (λ (y : Reading). same_tag y.tag tag && y.root == r.root) rs r (from_contains rs r i)
      (and_from (same_tag r.tag tag) (r.root == r.root) ((k.equality_tests.tags r.tag tag).1 e) (eq-eqb r.root r.root refl))

  pub read_at : (h : List Event) (pe : ℕ) (tag : Tag) (r : Reading) → Contains (readings heading h pe) r → r.tag ≡ tag
      → holds_at heading trust pe r.root tag h ≡ true
  read_at [] pe tag r i e = absurd (none_read heading.words.inorder heading.world pe r i)
  read_at (y ∷ h) pe tag r i e =
      or_left (reads heading (y ∷ h) pe tag r.root) _ (read_by (readings heading (y ∷ h) pe) tag r i e)

  -- where a PE reads under the tag of an entry, it reads through the entry's own root
  pub one_root : (h : List Event) → keeps heading trust h ≡ true → (x : Entry) → Tagged heading trust h x → x.since ≤ length h
      → (pe : ℕ) → pe < heading.pes → (r : Reading) → Contains (readings heading h pe) r → r.tag ≡ tag_of_entry x
      → ReadsThrough heading h x r.root
  one_root h kept x tagged made pe is_pe r i e = by (is_given_up heading h x) refl
    where
      holds : holds_tag heading trust r.root (tag_of_entry x) h ≡ true
      holds = pe_finds heading.pes (λ (p : ℕ). holds_at heading trust p r.root (tag_of_entry x) h) pe is_pe
          (read_at h pe (tag_of_entry x) r i e)

      by : (b : Bool) → is_given_up heading h x ≡ b → ReadsThrough heading h x r.root
      by false up = record {
        same = k.tags.one_root h k.proper kept r.root x.root (tag_of_entry x) holds (tag_now heading trust k h kept x tagged up made);
        stays = up;
      }
      by true up = absurd (true≢false (sym (tag_left heading trust k h kept x tagged
          (and_parts heading.words.unflushed (given_up_since x.since x.root h) up).1)
          ∙ k.tags.left_alone h k.proper kept r.root x.root (tag_of_entry x) holds))

  -- a register write gives no root up
  before_msr : (h : List Event) (x : Entry) (pe : ℕ) (reg : Reg) (value root : ℕ) → ReadsThrough heading (Msr pe reg value ∷ h) x root
      → ReadsThrough heading h x root
  before_msr h x pe reg value root t = record {
    same = t.same;
    stays = still_up heading.words.unflushed (nat_le x.since (length h) && false) (given_up_since x.since x.root h) t.stays;
  }

  -- ---- the clauses of a safe log

  module _ (s : State) (x : Entry) (f : Fine heading trust s.log x) where
    no_stale : is_given_up heading s.log x ≡ false → (pe place value : ℕ) → keeps heading trust (Write pe place value ∷ s.log) ≡ true → (part : Part)
        → Contains (parts_of x) part → part.place ≡ place → needs part.kind part.level part.value value ≡ false
    no_stale up pe place value kept part i e =
        let older : keeps heading trust s.log ≡ true = kept_before heading trust (Write pe place value ∷ []) s.log kept in
        let p : Placed heading trust s.log x.root part = (f.rooted up).placed part i in
        let q : Holding heading trust s.log part = (f.rooted up).holding part i in
        let node : node_of heading trust (noted heading trust s.log) (page_of place) ≡ Some p.node
        = rw (← e, p.is_at.inside) (k.one_node.the_first s.log older p.node p.in_tree) in
        let held : held_at heading trust (noted heading trust s.log) p.node place ≡ Some q.value
        = rw (← e) (held_there heading trust k s.log older x part p.node p.is_at q.value q.holds) in
        let rule : (node_of heading trust (noted heading trust s.log) (page_of place)
        >>= (λ (n : Node). held_at heading trust (noted heading trust s.log) n place
        >>= (λ (old : ℕ). if_so (needs n.kind n.level old value) place))) ≡ None
        = k.each_rule.sound (Write pe place value ∷ s.log) [] s.log (Write pe place value) kept refl BreakBeforeMake in
        let one : if_so (needs p.node.kind p.node.level q.value value) place ≡ None = rw (node, held) at rule in
        let there : needs p.node.kind p.node.level q.value value ≡ false = if_none (needs p.node.kind p.node.level q.value value) place one in
        no_need heading trust k part.kind part.level q.value part.value value (held_valid heading trust k s.log older x part q) q.same_core
        (rw (p.is_at.kind, p.is_at.level) at there)

    no_page : is_given_up heading s.log x ≡ false → (pe page : ℕ) → keeps heading trust (Init pe page ∷ s.log) ≡ true → (part : Part) → Contains (parts_of x) part
        → page_of part.place ≡ page → ⊥
    no_page up pe page kept part i e =
        let p : Placed heading trust s.log x.root part = (f.rooted up).placed part i in
        true≢false (sym (k.tree.has (noted heading trust s.log) p.node p.in_tree)
        ∙ (ap (in_tree heading trust (noted heading trust s.log)) (sym p.is_at.inside ∙ e)
        ∙ (k.one_position.no_init s.log pe page kept).0))

    no_other : (pe value : ℕ) (reg : Reg) → pe < heading.pes → keeps heading trust (Msr pe reg value ∷ s.log) ≡ true → (r : Reading)
        → Contains (readings heading (Msr pe reg value ∷ s.log) pe) r → r.tag ≡ tag_of_entry x
        → ReadsThrough heading (Msr pe reg value ∷ s.log) x r.root
    no_other pe value reg is_pe kept =
        let older : keeps heading trust s.log ≡ true = kept_before heading trust (Msr pe reg value ∷ []) s.log kept in
        let none : LeavesIt heading s.log (Msr pe reg value) x = λ q dsb is. absurd (apart q dsb is) in
        one_root (Msr pe reg value ∷ s.log) kept x (tagged_after heading trust k s.log (Msr pe reg value) older x f none)
        (omega (arith, f.shape.made)) pe is_pe
      where
        apart : (q : ℕ) (dsb : Barrier) → Msr pe reg value ≡ Dsb q dsb → ⊥
        apart q dsb is = cc

  -- the log up to an event of a run is a log that keeps the rules
  module _ (log : List Event) (is_log : IsLog heading log) (kept : keeps heading trust log ≡ true) (s : State) (e : Event)
      (c : ComesTo heading log s e) where
    kept_to : keeps heading trust (e ∷ s.log) ≡ true
    kept_to = kept_before heading trust c.later (e ∷ s.log) (subst (λ (es : List Event). keeps heading trust es ≡ true) c.split kept)

    log_to : (y : Event) → Contains (e ∷ s.log) y → fits_heading heading y ≡ true
    log_to y i = is_log.events y (subst (λ (es : List Event). Contains es y) (sym c.split) (contains_after c.later (e ∷ s.log) y i))

    fine_to : AllFine s
    fine_to =
        run_fine c.steps s (record { header = is_log.header; events = λ y i. log_to y (contains_more s.log e y i) })
        (kept_before heading trust (e ∷ []) s.log kept_to) c.run

  pub safe_log : (log : List Event) → IsLog heading log → keeps heading trust log ≡ true → Safe heading log
  safe_log log is_log kept = record {
    at_write = λ s pe place value c l i up part j e.
        no_stale s l.entry (fine_to log is_log kept s (Write pe place value) c l i) up pe place value
        (kept_to log is_log kept s (Write pe place value) c) part j e;
    at_init = λ s pe page c l i up part j e.
        no_page s l.entry (fine_to log is_log kept s (Init pe page) c l i) up pe page (kept_to log is_log kept s (Init pe page) c) part j e;
    at_msr = λ s pe value reg c l i r j e. before_msr s.log l.entry pe reg value r.root
        (no_other s l.entry (fine_to log is_log kept s (Msr pe reg value) c l i) pe value reg
        (ltb-true pe heading.pes (and_parts (nat_lt pe heading.pes) (is_value value)
        (log_to log is_log kept s (Msr pe reg value) c (Msr pe reg value) (contains_head s.log (Msr pe reg value)))).0)
        (kept_to log is_log kept s (Msr pe reg value) c) r j e);
  }

  pub one_root_log : (log : List Event) → IsLog heading log → keeps heading trust log ≡ true → OneRootATag heading log
  one_root_log log is_log kept = record {
    one_root = λ steps s later run split l i pe is_pe r j e.
        let kept' : keeps heading trust s.log ≡ true
        = kept_before heading trust later s.log (subst (λ (es : List Event). keeps heading trust es ≡ true) split kept) in
        let log' : IsLog heading s.log = record {
          header = is_log.header;
          events = λ y m. is_log.events y (subst (λ (es : List Event). Contains es y) (sym split) (contains_after later s.log y m));
        } in
        let f = run_fine steps s log' kept' run l i in
        one_root s.log kept' l.entry f.tagged f.shape.made pe is_pe r j e;
  }
