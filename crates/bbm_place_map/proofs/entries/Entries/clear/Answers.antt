use Rattle.bbm_place_map.proofs.Common.{arith, sym, ap, refl, ◌∙◌, entry_of, entry_of_cell, split_at}
use Rattle.bbm_place_map.proofs.Linking.{cell_within}
use Rattle.bbm_place_map.proofs.Positions.{still_same}
use Rattle.bbm_place_map.proofs.entries.Entries.clear.Goals as goal

pub unlink-requires : goal.unlink-requires
unlink-requires c =
    omega (
      arith,
      cell_within c.args.self.now.list.items c.in-Some.k c.args.j (c.args.self.now.linked.forth c.args.j c.in-Some.k
          (sym c.number.ensures ∙ c.in-Some.is)),
    )

pub returns-in_default : goal.returns-in_default
returns-in_default c =
    let self = c.args.self.now in
    let none = sym c.number.ensures ∙ c.in_default.is in
    record {
      sound = still_same self;
      entries = λ i. split_at i c.args.j (λ same. ap (entry_of_cell self) same ∙ ap (entry_of self.list.items) none) (λ _. refl);
    }
