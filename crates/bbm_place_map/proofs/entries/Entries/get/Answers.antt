use Rattle.bbm_place_map.proofs.Common.{ℕ, Option, arith, ap, sym, ◌∙◌, entry_of}
use Rattle.bbm_place_map.proofs.Leaving.{entry_read}
use Rattle.bbm_place_map.proofs.Linking.{cell_within}
use Rattle.bbm_place_map.proofs.entries.Entries.get.Goals as goal

pub index-requires : goal.index-requires
index-requires c =
    omega (
      arith,
      cell_within c.args.self.now.list.items c.in-Some.k c.args.cell (c.args.self.now.linked.forth c.args.cell c.in-Some.k
          (sym c.number.ensures ∙ c.in-Some.is)),
    )

pub returns-in-Some : goal.returns-in-Some
returns-in-Some c =
    let list = c.args.self.now.list.items in
    let is = sym c.number.ensures ∙ c.in-Some.is in
    let within = cell_within list c.in-Some.k c.args.cell (c.args.self.now.linked.forth c.args.cell c.in-Some.k is) in
    sym (ap (λ (o : Option ℕ). entry_of list o) is ∙ entry_read list c.in-Some.k c.index.result.now (omega (arith, within)) c.index.ensures)
