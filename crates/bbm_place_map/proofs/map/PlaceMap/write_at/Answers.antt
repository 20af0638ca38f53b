use Rattle.bbm_place_map.proofs.Common.{Option, sym, subst, Core, Written, Live, state_at}
use Rattle.bbm_place_map.proofs.Wholes.{left_live, made}
use Rattle.bbm_place_map.proofs.map.PlaceMap.write_at.Goals as goal

pub returns-in-Some : goal.returns-in-Some
returns-in-Some c =
    let core = c.in-Some._core in
    let was = state_at c.args.self.now c.args.live.now c.args.position.now.place in
    let P : Option Core → Type 0 = λ new. Written was c.args.pe new (Live core) in
    record {
      written = (
        Live core,
        subst P (sym c.in-Some.is) (made was c.args.pe core),
        left_live core c.put_unbroken.ensures.left,
      );
      put = c.put_unbroken.ensures.put;
    }
