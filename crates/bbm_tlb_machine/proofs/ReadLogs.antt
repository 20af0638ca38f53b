-- The events of an accepted log fit the header of its first line and keep the rules.
use Rattle.bbm_rules.proofs.Common.{◌≡◌, ℕ, true, List, [], ◌∷◌, sym, subst, inl, inr, and_parts, fits_heading}
use Rattle.bbm_rules.proofs.Common.{label_fits, keeps, Trust, verdict_of_bytes, Heading, Event, Contains}
use Rattle.bbm_rules.proofs.Common.{contains_cases, contains_none}
use Rattle.bbm_events.specs.LineLaws.{LineLaws}
use Rattle.bbm_events.specs.declared.event.Item.TheVariants as item
use Rattle.bbm_rules.proofs.AcceptedLogs.{EventLine, EventLines, Parts, kept, parts}
use Rattle.bbm_rules.specs.declared.limits.Limits.{Limits}
use Rattle.bbm_rules.specs.declared.verdict.Verdict.TheVariants.{Accepted}
use Rattle.bbm_tlb_machine.specs.Accepted.{HoldsOfLog}
use Rattle.bbm_tlb_machine.specs.Safe.{IsLog}

module _ (laws : LineLaws) (trust : Trust) (limits : Limits) where
  each_fits : (heading : Heading) (lines : List (List ℕ)) (h : List Event) → EventLines trust limits heading lines h
      → (e : Event) → Contains h e → fits_heading heading e ≡ true
  each_fits heading lines [] are e there = absurd (contains_none e there)
  each_fits heading lines (last ∷ h) are e there =
      let line : EventLine trust limits heading h are.1 last = are.3 in
      elim (contains_cases h last e there) [
        | inl same ↦ subst (λ (x : Event). fits_heading heading x ≡ true) same
            (and_parts (fits_heading heading last) (label_fits heading.version line.label)
            (laws.item heading are.1 (item.Event last line.label) line.spells)).0
        | inr older ↦ each_fits heading are.0 h are.4 e older
      ]

  pub accepted_says : (Says : Heading → List Event → Type 0)
      → ((heading : Heading) (log : List Event) → IsLog heading log → keeps heading trust log ≡ true → Says heading log)
      → (bytes : List ℕ) (count : ℕ) → verdict_of_bytes trust limits bytes ≡ Accepted count
      → HoldsOfLog Says trust limits bytes
  accepted_says Says said bytes count accepted =
      let p : Parts trust limits bytes count accepted = parts trust limits bytes count accepted in
      let log : IsLog p.start.heading p.h = record {
        header = laws.header p.start.line p.start.heading p.start.spells;
        events = each_fits p.start.heading p.ends.events p.h p.ends.are_events;
      } in
      record {
        heading = p.start.heading;
        line = p.start.line;
        lines = p.start.behind;
        first = p.start.split;
        header = p.start.spells;
        says = subst (λ (h : List Event). Says p.start.heading h) (sym p.logged)
            (said p.start.heading p.h log (kept trust limits p.start.heading p.ends.events p.h p.ends.are_events));
      }
