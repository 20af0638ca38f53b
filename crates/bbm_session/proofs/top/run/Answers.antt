use Rattle.bbm_session.proofs.Common.{Patterns, Judge, Verify, Generate, Selftest}
use Rattle.bbm_rules.proofs.Common.{◌≡◌}
use Rattle.bbm_session.proofs.Served.{served-accepted, served-accepts, served-as, served-fault, served-generated}
use Rattle.bbm_session.proofs.Served.{served-part, served-part_of_some, served-read, served-selftested, served-some}
use Rattle.bbm_session.proofs.Served.{served-status, served-text, served-unread, served-untold, served-untouched}
use Rattle.bbm_session.proofs.Served.{served-verified, served-want}
use Rattle.bbm_session.proofs.top.run.Goals as goal

pub returns-in-Some-clause-status : goal.returns-in-Some-clause-status
returns-in-Some-clause-status g c = λ request bytes asked tells.
    let same : c.in-Some.request ≡ request = cc in
    let serves = served-as _ _ _ _ same c.serve.ensures.serves in
    served-status _ _ bytes asked.has request serves tells

pub returns-in-Some-clause-text : goal.returns-in-Some-clause-text
returns-in-Some-clause-text g c = λ request bytes asked tells.
    let same : c.in-Some.request ≡ request = cc in
    let serves = served-as _ _ _ _ same c.serve.ensures.serves in
    served-text _ _ bytes asked.has request serves tells

pub returns-in-Some-clause-some_verdict : goal.returns-in-Some-clause-some_verdict
returns-in-Some-clause-some_verdict g c = λ request says tells.
    let same : c.in-Some.request ≡ request = cc in
    let serves = served-as _ _ _ _ same c.serve.ensures.serves in
    served-some _ _ request serves tells

pub returns-in-Some-clause-unread : goal.returns-in-Some-clause-unread
returns-in-Some-clause-unread g c = λ request bytes asked tells.
    let same : c.in-Some.request ≡ request = cc in
    let serves = served-as _ _ _ _ same c.serve.ensures.serves in
    served-unread _ _ bytes asked.has request serves tells

pub returns-in-Some-clause-read_to_the_line : goal.returns-in-Some-clause-read_to_the_line
returns-in-Some-clause-read_to_the_line g c = λ request bytes asked tells.
    let same : c.in-Some.request ≡ request = cc in
    let serves = served-as _ _ _ _ same c.serve.ensures.serves in
    served-read _ _ bytes asked.has request serves tells

pub returns-in-Some-clause-accepted_reads_all : goal.returns-in-Some-clause-accepted_reads_all
returns-in-Some-clause-accepted_reads_all g c = λ request bytes asked reads accepted.
    let same : c.in-Some.request ≡ request = cc in
    let serves = served-as _ _ _ _ same c.serve.ensures.serves in
    served-accepted _ _ bytes asked.has request serves reads accepted

pub returns-in-Some-clause-generated_reads_nothing : goal.returns-in-Some-clause-generated_reads_nothing
returns-in-Some-clause-generated_reads_nothing g c = λ request says reads.
    let same : c.in-Some.request ≡ request = cc in
    let serves = served-as _ _ _ _ same c.serve.ensures.serves in
    served-untouched _ _ request serves reads

pub returns-in-Some-clause-generated : goal.returns-in-Some-clause-generated
returns-in-Some-clause-generated g c = λ n count says.
    let same : c.in-Some.request ≡ Generate n count = cc in
    let serves = served-as _ _ _ _ same c.serve.ensures.serves in
    served-generated _ _ n count serves

pub returns-in-Some-clause-selftested : goal.returns-in-Some-clause-selftested
returns-in-Some-clause-selftested g c = λ n count says.
    let same : c.in-Some.request ≡ Selftest n count = cc in
    let serves = served-as _ _ _ _ same c.serve.ensures.serves in
    served-selftested _ _ n count serves

pub returns-in-Some-clause-no_stale_entry : goal.returns-in-Some-clause-no_stale_entry
returns-in-Some-clause-no_stale_entry g c = λ command bytes asked accepted.
    let same : c.in-Some.request ≡ Judge command = cc in
    let serves = served-as _ _ _ _ same c.serve.ensures.serves in
    let accepts = served-accepts _ _ bytes asked.has command serves accepted in
    c.law_accepted_is_safe.ensures.safe Patterns _ bytes accepts.0 accepts.1

pub returns-in-Some-clause-one_root_a_tag : goal.returns-in-Some-clause-one_root_a_tag
returns-in-Some-clause-one_root_a_tag g c = λ command bytes asked accepted.
    let same : c.in-Some.request ≡ Judge command = cc in
    let serves = served-as _ _ _ _ same c.serve.ensures.serves in
    let accepts = served-accepts _ _ bytes asked.has command serves accepted in
    c.law_accepted_is_safe.ensures.one_root Patterns _ bytes accepts.0 accepts.1

pub returns-in-Some-clause-isolated : goal.returns-in-Some-clause-isolated
returns-in-Some-clause-isolated g c = λ command bytes asked accepted.
    let same : c.in-Some.request ≡ Judge command = cc in
    let serves = served-as _ _ _ _ same c.serve.ensures.serves in
    let accepts = served-accepts _ _ bytes asked.has command serves accepted in
    c.law_accepted_is_isolated.ensures.isolated Patterns _ bytes accepts.0 accepts.1

pub returns-in-Some-clause-verified_is_safe : goal.returns-in-Some-clause-verified_is_safe
returns-in-Some-clause-verified_is_safe g c = λ bytes asked accepted.
    let same : c.in-Some.request ≡ Verify = cc in
    let serves = served-as _ _ _ _ same c.serve.ensures.serves in
    let k = served-verified _ _ bytes asked.has serves accepted in
    c.law_verified_is_safe.ensures bytes k.0 k.2 k.1 k.3 k.4

pub returns-in-Some-clause-unread_untold : goal.returns-in-Some-clause-unread_untold
returns-in-Some-clause-unread_untold g c = λ request bytes asked cuts.
    let same : c.in-Some.request ≡ request = cc in
    let serves = served-as _ _ _ _ same c.serve.ensures.serves in
    served-untold _ _ bytes asked.has request serves cuts

pub returns-in-Some-clause-part_of_text : goal.returns-in-Some-clause-part_of_text
returns-in-Some-clause-part_of_text g c = λ request bytes asked cuts.
    let same : c.in-Some.request ≡ request = cc in
    let serves = served-as _ _ _ _ same c.serve.ensures.serves in
    served-part _ _ bytes asked.has request serves cuts

pub returns-in-Some-clause-part_of_some : goal.returns-in-Some-clause-part_of_some
returns-in-Some-clause-part_of_some g c = λ request says cuts.
    let same : c.in-Some.request ≡ request = cc in
    let serves = served-as _ _ _ _ same c.serve.ensures.serves in
    served-part_of_some _ _ request serves cuts

pub returns-in-Some-clause-read_to_fault : goal.returns-in-Some-clause-read_to_fault
returns-in-Some-clause-read_to_fault g c = λ request bytes asked fault.
    let same : c.in-Some.request ≡ request = cc in
    let serves = served-as _ _ _ _ same c.serve.ensures.serves in
    served-fault _ _ bytes asked.has request serves fault

pub returns-in-Some-clause-read_to_want : goal.returns-in-Some-clause-read_to_want
returns-in-Some-clause-read_to_want g c = λ request bytes asked want.
    let same : c.in-Some.request ≡ request = cc in
    let serves = served-as _ _ _ _ same c.serve.ensures.serves in
    served-want _ _ bytes asked.has request serves want
