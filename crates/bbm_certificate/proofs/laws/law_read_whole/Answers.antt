use Rattle.bbm_certificate.proofs.Sound.{read_sound}
use Rattle.bbm_certificate.proofs.laws.law_read_whole.Goals as goal

pub returns : goal.returns
returns c bytes heading log claims is =
    read_sound (record { header = c.law_header_in_range.ensures; item = c.law_item_fits.ensures }) bytes heading log claims is
