use Rattle.std.proofs.Common.{◌<◌, length, refl}
use Rattle.std.proofs.lemmas.Cmp.{nat_eq_equiv}
use Rattle.std.proofs.lemmas.Map.Entries.{lookup_from_place}
use Rattle.std.proofs.lemmas.Option.{slice_get_read}
use Rattle.bbm_page_map.proofs.column.PageColumn.at.Goals as goal

pub returns-clause-value : goal.returns-clause-value
returns-clause-value g c =
    let es = c.self.inside.entries.items in
    let entry = c.index-entry.result.now in
    let within : c.args.index < length es = rw (← c.self.view_is) at c.requires in
    rw (← c.self.view_is)
    (lookup_from_place nat_eq_equiv es c.args.index entry.0 entry.1 c.self.invariant
    (slice_get_read es (length es) c.args.index entry refl within c.index-entry.ensures))
