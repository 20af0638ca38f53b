use Rattle.bbm_roots.proofs.Common.{List, ◌∷◌, ◌≡◌, rules, RootValue, loads_in}
use Rattle.bbm_roots.proofs.Columns.{changed, read}
use Rattle.bbm_roots.proofs.registers.put.Goals as goal

pub returns : goal.returns
returns g c = record {
  loads = changed (λ (xs : List RootValue). c.args.load ∷ xs) _ _ _ c.index_mut.result.now c.put_front.new.loads c.get.ensures.value
      c.requires.known c.index_mut.ensures.value c.put_front.ensures;
  pes = search rules;
}

pub put_front-requires : goal.put_front-requires
put_front-requires g c =
    let e : loads_in c.args.column.now.items c.args.pe ≡ c.index_mut.result.now.items =
    read _ _ _ c.index_mut.result.now c.get.ensures.value c.requires.known c.index_mut.ensures.value in
    (search rules, rw (← e) c.requires.room)
