use Rattle.bbm_alike.proofs.Joined.{itself_alike, joined_alike, start_alike, turned_alike}
use Rattle.bbm_alike.proofs.joins.law_alike_joins.Goals as goal

pub returns : goal.returns
returns c heading = record {
  start = start_alike heading;
  itself = itself_alike heading;
  turned = turned_alike heading;
  joined = joined_alike heading;
}
