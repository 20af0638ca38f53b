use Rattle.bbm_place_map.proofs.Common.{arith, refl, List, subst, take, slice_get, EachAdvances, NotesFound, Entry}
use Rattle.bbm_place_map.proofs.Common.{Found, NoCover, ap, sym, ◌∙◌, ◌≡◌, ℕ, is_found, Some}
use Rattle.std.proofs.lemmas.List.{take_all}
use Rattle.bbm_place_map.proofs.Advancing.{self_advances}
use Rattle.bbm_place_map.proofs.Keeping.{each_from, kept_moved, seats_all}
use Rattle.bbm_place_map.proofs.Noting.{not_noted}
use Rattle.bbm_place_map.proofs.issue.note_found.Goals as goal

pub loop-i-init : goal.loop-i-init
loop-i-init c = record {
  same = seats_all c.args.broken.now;
  each = λ m.
      self_advances (NotesFound (take 0 c.args.found.now) c.args.tlbi.now) (slice_get c.args.broken.now.entries m)
      (λ x is. (not_noted NoCover c.args.tlbi.now x refl, λ none. refl));
}

pub note_next-requires-clause-sound : goal.note_next-requires-clause-sound
note_next-requires-clause-sound c = kept_moved c.requires.sound c.loop-i.invariant

pub note_next-requires-clause-ready : goal.note_next-requires-clause-ready
note_next-requires-clause-ready c = λ m e is among none.
    let x = each_from c.loop-i.invariant m e is in
    let same : e ≡ x.0 = x.3.1 (ap (λ (p : ℕ × ℕ × ℕ). is_found (take c.loop-i.i c.args.found.now) p.0) (sym x.2) ∙ none) in
    c.requires.ready m e (x.1 ∙ ap (λ (y : Entry). Some y) (sym same)) among

pub loop-i-preserved : goal.loop-i-preserved
loop-i-preserved c = c.note_next.ensures c.args.broken.now c.loop-i.invariant

pub returns : goal.returns
returns c =
    let P : List Found → Type 0 = λ ys. EachAdvances (λ _. NotesFound ys c.args.tlbi.now) c.args.broken.now c.loop-i.broken in
    subst P (take_all c.loop-i.i c.args.found.now (omega arith)) c.loop-i.invariant
