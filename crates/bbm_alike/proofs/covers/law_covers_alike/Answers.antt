use Rattle.bbm_alike.proofs.CoverAlike.{cover_alike, top_alike}
use Rattle.bbm_alike.proofs.covers.law_covers_alike.Goals as goal

pub returns : goal.returns
returns c heading one other = let k = c.known.ensures heading in record {
  covers = λ h h' e place a. cover_alike heading k one other h h' a e place;
  tops = λ h h' e place a. top_alike heading k one other h h' a e place;
}
