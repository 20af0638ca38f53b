use Rattle.bbm_place_map.proofs.Common.{◌⊎◌, ℕ, Bool, true, false, not, ap, sym, subst, ◌∙◌, inr, false≢true, entry_in}
use Rattle.bbm_place_map.proofs.Common.{Holds, Rests, either, none-some}
use Rattle.bbm_place_map.proofs.Doing.{rests_after, rests_kept, rests_same}
use Rattle.bbm_place_map.proofs.Holding.{listed_in}
use Rattle.bbm_place_map.proofs.Resting.{stays_kept}
use Rattle.bbm_place_map.proofs.Rounds.{no_visit, none_inside}
use Rattle.bbm_place_map.proofs.visit.visit_listed.Goals as goal

pub visit_cells-requires-clause-known : goal.visit_cells-requires-clause-known
visit_cells-requires-clause-known c = λ j.
    let by = c.args.barrier.now in
    let here = entry_in c.args.entries.now.cells.items c.args.entries.now.list.items j in
    let wide = not c.is_non-wide.result in
    either (c.requires.known wide j) (listed_in c.args.list.now wide c.part.result.now j c.requires.open c.part.ensures)
    (λ rests. rests_same by.effect by c.requires.has (c.is_idle.ensures.busy c.if-is_idle.false) here
    (subst (λ (b : Bool). Rests by.effect (not b) by.n by.issuer here) c.is_non-wide.ensures rests) (c.requires.settled j))

pub returns-then-is_idle-clause-visited : goal.returns-then-is_idle-clause-visited
returns-then-is_idle-clause-visited c = record {
  visited = no_visit c.args.barrier.now.effect c.args.entries.now c.args.lost.now;
  each = λ j. c.is_idle.ensures.idle c.if-is_idle.true (entry_in c.args.entries.now.cells.items c.args.entries.now.list.items j) (c.requires.settled j);
  lost = λ page inside. absurd (none_inside c.args.lost.now.items c.requires.none page inside);
  told = λ j page left.
      absurd (none-some page (sym (stays_kept (entry_in c.args.entries.now.cells.items c.args.entries.now.list.items j)) ∙ left));
}

pub returns-then-wide-clause-known : goal.returns-then-wide-clause-known
returns-then-wide-clause-known c = λ wide j.
    let by = c.args.barrier.now in
    inr (rests_after by.effect by (c.is_idle.ensures.busy c.if-is_idle.false) wide
    (λ _. ap not (sym c.is_non-wide.ensures ∙ c.if-wide.true))
    (entry_in c.args.entries.now.cells.items c.args.entries.now.list.items j)
    (entry_in c.visit_cells.new.entries.cells.items c.visit_cells.new.entries.list.items j) (c.visit_cells.ensures.each j))

known_then : (c : goal.After-pass_local) → (wide : Bool) (j : ℕ) → Holds c.pass_local.new.list wide j
    ⊎ Rests c.args.barrier.now.effect wide c.args.barrier.now.n c.args.barrier.now.issuer
    (entry_in c.visit_cells.new.entries.cells.items c.visit_cells.new.entries.list.items j)
known_then c true j =
    let by = c.args.barrier.now in
    either (c.requires.known true j) (c.pass_local.ensures j)
    (rests_kept by.effect by true (entry_in c.args.entries.now.cells.items c.args.entries.now.list.items j)
    (entry_in c.visit_cells.new.entries.cells.items c.visit_cells.new.entries.list.items j) (c.visit_cells.ensures.each j))
known_then c false j =
    let by = c.args.barrier.now in
    inr (rests_after by.effect by (c.is_idle.ensures.busy c.if-is_idle.false) false (λ is. absurd (false≢true is))
    (entry_in c.args.entries.now.cells.items c.args.entries.now.list.items j)
    (entry_in c.visit_cells.new.entries.cells.items c.visit_cells.new.entries.list.items j) (c.visit_cells.ensures.each j))

pub returns-else-wide-clause-known : goal.returns-else-wide-clause-known
returns-else-wide-clause-known c = known_then c
