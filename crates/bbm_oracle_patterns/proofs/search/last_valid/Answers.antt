use Rattle.bbm_rules.proofs.Common.{◌-◌, get_or, arith, subst}
use Rattle.bbm_oracle_patterns.specs.Lasts.{TellsOf}
use Rattle.bbm_oracle_patterns.specs.declared.search.Says.{Says}
use Rattle.bbm_oracle_patterns.proofs.Lasts.{found_before, none_before, silent_before, none_left}
use Rattle.bbm_oracle_patterns.proofs.search.last_valid.Goals as goal

pub returns-in-ItIs-clause-found : goal.returns-in-ItIs-clause-found
returns-in-ItIs-clause-found c =
    found_before c.args.kind c.args.level c.args.place c.args.log.now c.loop-index.index c.index-log-index.result
    (omega arith) (omega arith)
    c.loop-index.invariant.silent c.in-ItIs.value
    (subst (λ (s : Says). TellsOf s c.args.kind c.args.level c.args.place
    (get_or c.args.log.now (c.loop-index.index - 1) c.index-log-index.result).event) c.in-ItIs.is c.told_by.ensures)

pub returns-in-NoWrite-clause-found : goal.returns-in-NoWrite-clause-found
returns-in-NoWrite-clause-found c =
    none_before c.args.kind c.args.level c.args.place c.args.log.now c.loop-index.index c.index-log-index.result
    (omega arith) (omega arith)
    c.loop-index.invariant.silent
    (subst (λ (s : Says). TellsOf s c.args.kind c.args.level c.args.place
    (get_or c.args.log.now (c.loop-index.index - 1) c.index-log-index.result).event) c.in-NoWrite.is
    c.told_by.ensures)

pub loop-index-preserved : goal.loop-index-preserved
loop-index-preserved c = record {
  within = omega arith;
  silent = silent_before c.args.kind c.args.level c.args.place c.args.log.now c.loop-index.index
      c.index-log-index.result (omega arith) (omega arith)
      c.loop-index.invariant.silent
      (subst (λ (s : Says). TellsOf s c.args.kind c.args.level c.args.place
      (get_or c.args.log.now (c.loop-index.index - 1) c.index-log-index.result).event) c.in-Older.is
      c.told_by.ensures);
}

pub returns-clause-found : goal.returns-clause-found
returns-clause-found c =
    none_left c.args.kind c.args.level c.args.place c.args.log.now c.loop-index.index
    (omega arith) c.loop-index.invariant.silent
