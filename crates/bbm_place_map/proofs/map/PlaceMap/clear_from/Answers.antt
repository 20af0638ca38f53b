use Rattle.bbm_place_map.proofs.Common.{sym, subst, EntryState, Leaves}
use Rattle.bbm_place_map.proofs.Wholes.{left_live}
use Rattle.bbm_place_map.proofs.map.PlaceMap.clear_from.Goals as goal

pub returns-in-Broken : goal.returns-in-Broken
returns-in-Broken c =
    let P : EntryState → Type 0 = λ s. Leaves s c.args.position.now.place c.args.self.now c.put_broken.new.self in
    record {
      written = (c.write.result, c.write.ensures, subst P (sym c.in-Broken.is) c.put_broken.ensures.left);
      put = c.put_broken.ensures.put;
    }

pub returns-in-Clean : goal.returns-in-Clean
returns-in-Clean c =
    let P : EntryState → Type 0 = λ s. Leaves s c.args.position.now.place c.args.self.now c.put_unbroken.new.self in
    record {
      written = (c.write.result, c.write.ensures, subst P (sym c.in-Clean.is) c.put_unbroken.ensures.left);
      put = c.put_unbroken.ensures.put;
    }

pub returns-in-Live : goal.returns-in-Live
returns-in-Live c =
    let P : EntryState → Type 0 = λ s. Leaves s c.args.position.now.place c.args.self.now c.put_unbroken-in-Live.new.self in
    record {
      written = (c.write.result, c.write.ensures, subst P (sym c.in-Live.is) (left_live _ c.put_unbroken-in-Live.ensures.left));
      put = c.put_unbroken-in-Live.ensures.put;
    }
