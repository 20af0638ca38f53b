use Rattle.bbm_counterrun.proofs.Common.{combined, blocks, forbidden_by}
use Rattle.bbm_rules.proofs.Common.{◌≡◌, ℕ, ◌<◌, ◌≤◌, true, false, length, take, any}
use Rattle.bbm_counterrun.proofs.combining.clear.Given as goal

abbrev pub invariant-loop-answer : goal.invariant-loop-answer
invariant-loop-answer l = record {
  joined : l.joined ≡ combined l.joined.joined l.entry;
  later : l.fn.joined.joined ≤ l.joined.joined;
  free : any (blocks l.search.header.now (length l.search.events.now) l.entry l.joined.joined) (take l.answer-index l.search.answers.now) ≡ false;
  first : (m : ℕ) → l.fn.joined.joined ≤ m → m < l.joined.joined
      → forbidden_by l.search.header.now l.search.answers.now m (length l.search.events.now) (combined m l.entry) ≡ true;
}
