-- The lanes are made into pairs of digits, and those into a number.
use Rattle.bbm_log_grammar.proofs.Common.{◌∙◌}
use Rattle.bbm_log_grammar.proofs.Lanes.{number_is}
use Rattle.bbm_log_grammar.proofs.read_ahead.lanes.number_in.Goals as goal

pub returns : goal.returns
returns c = c.from_be_bytes.ensures ∙ number_is c.args.lanes c.fits-lanes.0
