use Rattle.bbm_roots.proofs.Common.{◌∙◌, rules, newest}
use Rattle.bbm_roots.proofs.Columns.{changed, take-one}
use Rattle.bbm_roots.proofs.registers.sync.Goals as goal

pub returns : goal.returns
returns g c = record {
  loads = changed newest _ _ _ c.index_mut.result.now c.truncate.new.self c.get.ensures.value c.requires.known c.index_mut.ensures.value
      (c.truncate.ensures.items ∙ take-one _);
  pes = search rules;
}
