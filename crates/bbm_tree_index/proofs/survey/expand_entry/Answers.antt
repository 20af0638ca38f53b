use Rattle.bbm_tree_index.proofs.Common.{get, spot_with, fresh_of, spot_as, value_at}
use Rattle.bbm_rules.proofs.Common.{refl, sym, ap, ◌∙◌, nat_eq, ◌||◌, ◌==◌, on_ok_weaker, true≢false, same_Some}
use Rattle.bbm_rules.proofs.Common.{page_of}
use Rattle.bbm_tree_index.proofs.Counting.{marks_same}
use Rattle.bbm_tree_index.proofs.Cutting.{stands}
use Rattle.bbm_tree_index.proofs.Scanning.{page_done}
use Rattle.bbm_tree_index.proofs.survey.expand_entry.Goals as goal

pub returns-in-Some-clause-level : goal.returns-in-Some-clause-level
returns-in-Some-clause-level c = on_ok_weaker c.expand_page.result (λ h starts k done uniform plain undone found old.
    h (fresh_of c.args.roles.now) starts k done c.args.mark.now uniform
    (sym c.is_fresh.ensures ∙ c.if-not-is_fresh.false) undone refl found
    (stands c.in-Some.spot found.node (same_Some (spot_as found.node) c.in-Some.spot (sym (plain found.node found.is_there)
    ∙ ap (spot_with c.args.header.now) (sym found.role) ∙ sym c.spot_of.ensures ∙ c.in-Some.is))) old) c.expand_page.ensures.level

pub returns-then-not-is_fresh-clause-level : goal.returns-then-not-is_fresh-clause-level
returns-then-not-is_fresh-clause-level c = λ starts k done uniform plain undone found. let fresh = fresh_of c.args.roles.now in
    marks_same fresh (value_at c.args.map.now) starts k done (λ a. done a || page_of a == c.args.page)
    (λ n m a s. page_done c.args.page n.page a (done a) s.inside
    (λ e. true≢false (sym s.is_fresh ∙ ap fresh e ∙ sym c.is_fresh.ensures ∙ c.if-not-is_fresh.true))) (get nat_eq c.args.below.now)
