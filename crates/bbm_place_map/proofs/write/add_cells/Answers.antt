use Rattle.bbm_place_map.proofs.Common.{◌≡◌, ◌+◌, ◌-◌, ◌++◌, ℕ, List, arith, ap, sym, ◌∙◌, vec_len, count_by, number_of}
use Rattle.bbm_place_map.proofs.Common.{is_listed, slot_in, replicate}
use Rattle.std.proofs.Common.{is_ok}
use Rattle.bbm_place_map.proofs.Filling.{count_filled, filled, values_filled}
use Rattle.bbm_place_map.proofs.write.add_cells.Goals as goal

pub returns-clause-kept : goal.returns-clause-kept
returns-clause-kept c =
    let old = c.args.cells.now.items in
    let new = c.resize.new.self.items in
    let all = c.len.result + c.args.count in
    let more = all - vec_len c.args.cells.now in
    let items : new ≡ old ++ replicate more 0
    = filled old new all more (is_ok c.resize.result) (c.resize.ensures.succeeds (omega arith)) (omega arith) c.resize.ensures.items in
    let slots : (i : ℕ) → slot_in new i ≡ slot_in old i
    = λ i. ap (λ (xs : List ℕ). slot_in xs i) items ∙ ap number_of (values_filled old more i) in
    record {
      slots = slots;
      linked = λ entries was. record {
        forth = λ j k h. was.forth j k (sym (slots j) ∙ h);
        back = λ j k h. slots j ∙ was.back j k h;
        count = ap (λ (xs : List ℕ). count_by is_listed xs) items ∙ count_filled old more ∙ was.count;
      };
    }
