use Rattle.bbm_idle.proofs.Common.{note_of, notes_of}
use Rattle.bbm_rules.proofs.Common.{Bool, ◌||◌, Option, length, reverse, sym, ap, ◌∙◌, Cover, ValidWrite, last_valid}
use Rattle.bbm_rules.proofs.Common.{◌&&◌}
use Rattle.bbm_regimes.specs.PeMask.{pe_in}
use Rattle.bbm_oracle_patterns.specs.Kept.{cover_in}
use Rattle.bbm_oracle_patterns.specs.declared.kept.Covering.TheVariants.{Whole, Top}
use Rattle.bbm_idle.specs.Finding.{adds_for}
use Rattle.bbm_rules.specs.Held.{empties_tables}
use Rattle.bbm_idle.proofs.FindPlaces.{adds_by_both}
use Rattle.bbm_idle.proofs.find_places.added_at.Goals as goal

pub returns : goal.returns
returns c = λ p.
    let heading = c.args.header.now in
    let place = c.args.seat.now.place in
    let found : Option ValidWrite = last_valid c.args.seat.now.kind c.args.seat.now.level place (notes_of (reverse c.args.log.now)) in
    let whole : Bool = adds_for heading Whole (cover_in c.args.newest.now.covers.items place) p place found in
    c.or.ensures p
    ∙ ap (λ (b : Bool). b || pe_in c.added_by_top.result p)
    (c.added_for-whole.ensures p ∙ ap (λ (x : Cover). adds_for heading Whole x p place found) c.cover_for-cover.ensures)
    ∙ ap (λ (b : Bool). whole || b)
    (c.added_by_top.ensures p
    ∙ ap (λ (x : Cover). empties_tables heading.version && adds_for heading Top x p place found) c.cover_for-top.ensures)
    ∙ sym (adds_by_both heading (note_of (length c.args.log.now) c.args.newest.now) p place found)
