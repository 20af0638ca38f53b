use Rattle.bbm_rules.proofs.Common.{List, sym, ap, ◌∙◌, Reading}
use Rattle.bbm_oracle_tags.specs.Moments.{is_read}
use Rattle.bbm_idle.proofs.FindTags.{known_already}
use Rattle.bbm_idle.proofs.find_tags.add_reading.Goals as goal

pub returns-then-is_read : goal.returns-then-is_read
returns-then-is_read c = λ test.
    known_already (λ g k e. (c.law_equality_tests.ensures.tags g k).0 e) test c.args.known.now.items c.args.reading.now
    (sym (c.is_read.ensures
    ∙ ap (λ (rs : List Reading). is_read rs c.reading.inside.tag c.reading.inside.root) c.deref.ensures.value
    ∙ ap (λ (r : Reading). is_read c.args.known.now.items r.tag r.root) c.reading.view_is)
    ∙ c.if-is_read.true)
