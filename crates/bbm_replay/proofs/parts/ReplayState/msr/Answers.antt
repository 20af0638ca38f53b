use Rattle.bbm_replay.proofs.Meeting.{meets_msr}
use Rattle.bbm_replay.proofs.parts.ReplayState.msr.Goals as goal

pub returns : goal.returns
returns c = meets_msr c.laws.ensures c.args.self.now c.write_reg.new.self c.args.pe c.args.reg c.args.value c.requires
    c.write_reg.result c.names_null-null.result c.names_null-null.ensures c.write_reg.ensures.judged c.write_reg.ensures.taken
    c.write_reg.ensures.kept
