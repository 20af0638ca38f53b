use Rattle.bbm_idle.proofs.Common.{IsSearch}
use Rattle.bbm_rules.proofs.Common.{◌≡◌, ◌+◌, ◌∷◌, List, take, reverse, subst, reverse_more, Event, fits_heading}
use Rattle.bbm_lemmas.proofs.Reversed.{passes_at}
use Rattle.bbm_idle.specs.Idle.{is_idle}
use Rattle.bbm_idle.proofs.FindMarks.{marks_more}
use Rattle.bbm_idle.proofs.finding.find.Goals as goal

pub take-requires-clause-fits : goal.take-requires-clause-fits
take-requires-clause-fits c =
    passes_at (fits_heading c.args.header.now) c.args.log.now c.loop-index.index c.index-log-index.result c.requires.fit
    c.loop-index-test.true c.index-log-index.is

pub loop-index-preserved : goal.loop-index-preserved
loop-index-preserved c =
    let items = c.args.log.now in
    let i = c.loop-index.index in
    let h = reverse (take i items) in
    let more : c.index-log-index.result ∷ h ≡ reverse (take (i + 1) items) =
    reverse_more items i c.index-log-index.result c.loop-index-test.true c.index-log-index.is in
    let stands : IsSearch c.take.new.self c.args.header.now (c.index-log-index.result ∷ h) =
    c.in_ok-is_idle.ensures.stands in
    let told : c.in_ok-is_idle.is_idle ≡ is_idle c.args.header.now h c.index-log-index.result =
    c.in_ok-is_idle.ensures.idle in
    record {
      search = subst (λ (es : List Event). IsSearch c.take.new.self c.args.header.now es) more stands;
      marks = marks_more c.args.header.now c.index-log-index.result h (reverse (take (i + 1) items)) c.in_ok-is_idle.is_idle
          c.loop-index.marks.items c.push_mark.new.marks.items more c.loop-index.invariant.marks told c.in_ok-push_mark.ensures;
    }
