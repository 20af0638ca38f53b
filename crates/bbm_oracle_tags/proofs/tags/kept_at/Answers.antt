use Rattle.bbm_rules.proofs.Common.{◌≡◌, Bool, ◌||◌, reverse, sym, ap, ◌∙◌, holds_at, kept_at, left_at}
use Rattle.bbm_rules.specs.Claims.{Patterns}
use Rattle.bbm_oracle_tags.proofs.tags.kept_at.Goals as goal
use Rattle.bbm_oracle_tags.proofs.tags.kept_at.Goals.{then-watch, else-watch}

pub returns : goal.returns
returns c =
    let heading = c.args.header.now in
    let asked = c.args.asked.now in
    let h = reverse c.args.events.now in
    let left : Bool = left_at heading Patterns asked.pe asked.root asked.tag h in
    let kept : (holds_at heading Patterns asked.pe asked.root asked.tag h || left)
    ≡ kept_at heading Patterns asked.pe asked.root asked.tag h =
    sym ((c.law_tag_kept.ensures heading Patterns).parts asked.pe asked.root asked.tag h) in
    let watch = c.in_ok-watch.ensures in
    elim c.if-watch.branch [
      | then-watch w ↦ w.result-is ∙ w.if-watch.true
          ∙ sym (ap (λ (b : Bool). b || left) (sym watch.holds ∙ w.if-watch.true)) ∙ kept
      | else-watch w ↦ w.result-is ∙ watch.left
          ∙ sym (ap (λ (b : Bool). b || left) (sym watch.holds ∙ w.if-watch.false)) ∙ kept
    ]
