use Rattle.std.proofs.Common.{◌≡◌, ◌<◌, ◌∙◌, ℕ, List, Some, ap, length, nat_eq, refl, set, slice_get, subst, sym}
use Rattle.std.proofs.lemmas.Map.{keys-set_value}
use Rattle.std.proofs.lemmas.Option.{slice_get_read}
use Rattle.std.specs.List.{IsDistinct}
use Rattle.std.specs.Map.{keys_of}
use Rattle.bbm_page_map.proofs.Entries.{put_is, put_updates}
use Rattle.bbm_page_map.proofs.column.PageColumn.put.Goals as goal

stands : (g : _) (c : goal.After-drop-index_mut g)
    → slice_get c.self.inside.entries.items c.args.index ≡ Some c.index_mut.result.now
stands g c =
    let es = c.self.inside.entries.items in
    let within : c.args.index < length es = rw (← c.self.view_is) at c.requires in
    slice_get_read es (length es) c.args.index c.index_mut.result.now refl within c.index_mut.ensures.value

keys : (g : _) (c : goal.After-drop-index_mut g)
    → keys_of (set c.self.inside.entries.items c.args.index (c.index_mut.result.now.0, c.args.value))
    ≡ keys_of c.self.inside.entries.items
keys g c =
    let es = c.self.inside.entries.items in
    ap keys_of (put_is es c.args.index c.index_mut.result.now c.args.value c.self.invariant (stands g c))
    ∙ keys-set_value (nat_eq c.index_mut.result.now.0) es c.args.value

pub invariant_of-self : goal.invariant_of-self
invariant_of-self g c = subst (λ (ks : List ℕ). IsDistinct nat_eq ks) (sym (keys g c)) c.self.invariant

pub returns-clause-updates : goal.returns-clause-updates
returns-clause-updates g c =
    rw (← c.self.view_is)
    (put_updates c.self.inside.entries.items c.args.index c.index_mut.result.now c.args.value c.self.invariant
    (stands g c))

pub returns-clause-keys : goal.returns-clause-keys
returns-clause-keys g c = rw (← c.self.view_is) (keys g c)
