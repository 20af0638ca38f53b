use Rattle.bbm_replay.proofs.Common.{node_in, marks_at, restless_place, value_at, Marks, notes, view_of, state_of}
use Rattle.bbm_replay.proofs.Common.{waiting, ReplayState}
use Rattle.bbm_rules.proofs.Common.{◌≡◌, ℕ, Option, is_some, sym, ◌∙◌, ap, core_of, Patterns, is_restless, page_of}
use Rattle.bbm_replay.proofs.Cases.{some_or}
use Rattle.bbm_replay.proofs.Entries.{broken_marks}
use Rattle.bbm_replay.proofs.parts.ReplayState.restless.Goals as goal

pub returns : goal.returns
returns c heading h s = c.restless.ensures.count
    ∙ sym ((c.law_restless_places.ensures heading).numbered h _ (restless_place p.map) (record {
      restless = λ i below. is (restless_place p.map i) ∙ c.restless.ensures.broken i below;
      each = λ a k. c.restless.ensures.each a (sym (is a) ∙ k);
      once = c.restless.ensures.once;
    }))
  where
    p : ReplayState
    p = c.args.self.now

    is : (a : ℕ) → is_restless heading Patterns (notes heading h) a ≡ is_some (marks_at p.map a)
    is a = some_or (node_in p.index (page_of a))
        (λ n k. (c.law_entry_phase.ensures heading).restless h n a (state_of (view_of p.map p.index) n.kind n.level a)
        (waiting (view_of p.map p.index) a) (sym (s.told.nodes (page_of a)) ∙ k) (s.told.entries n a k)
        ∙ broken_marks (core_of n.kind n.level (value_at p.map a)) (marks_at p.map a))
        (λ k. (c.law_entry_phase.ensures heading).outside_restless h a (sym (s.told.nodes (page_of a)) ∙ k)
        ∙ sym (ap (λ (m : Option Marks). is_some m) (s.told.outside a k)))
