use Rattle.bbm_roots.proofs.Common.{◌∙◌, ap, Option, is_some, tag_key, PeMask}
use Rattle.std.proofs.lemmas.Result.{on_ok_weaker}
use Rattle.bbm_roots.proofs.Places.{at-kept, at-here}
use Rattle.bbm_roots.proofs.issue.make_place.Goals as goal

pub returns-clause-same : goal.returns-clause-same
returns-clause-same c =
    at-kept c.args.waits.now.items c.args.place c.index_mut.result.now c.make_entries.new.waits c.requires
    c.index_mut.ensures.value c.make_entries.ensures.same

pub returns-clause-made : goal.returns-clause-made
returns-clause-made c = on_ok_weaker c.make_entries.result (λ made g p kept takes.
    ap (λ (o : Option PeMask). is_some o)
    (at-here c.args.waits.now.items c.args.place c.make_entries.new.waits c.requires (tag_key g))
    ∙ made g p kept takes) c.make_entries.ensures.made
