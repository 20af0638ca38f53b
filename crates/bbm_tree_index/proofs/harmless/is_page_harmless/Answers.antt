use Rattle.bbm_tree_index.proofs.Common.{asks, spares, value_at}
use Rattle.bbm_rules.proofs.Common.{◌≤◌, ◌+◌, ◌*◌, inl, inr, sym, ◌∙◌, subst, arith, cases_lt}
use Rattle.bbm_tree_index.proofs.Joined.{bits_some}
use Rattle.bbm_tree_index.proofs.LeafBits.{harmless}
use Rattle.bbm_tree_index.proofs.Wrongs.{no_leaves}
use Rattle.bbm_tree_index.proofs.harmless.is_page_harmless.Goals as goal

pub are_eight_harmless-requires-clause-some : goal.are_eight_harmless-requires-clause-some
are_eight_harmless-requires-clause-some c = subst (λ n. 1 ≤ n) (sym c.leaf_bits-bits.ensures) (bits_some c.args.level)

pub loop-part-preserved : goal.loop-part-preserved
loop-part-preserved c = λ leaf j below.
    let value = value_at c.args.map.now in
    elim (cases_lt j (8 * c.loop-part.part)) [
      | inl less ↦ c.loop-part.invariant leaf j less
      | inr more ↦ harmless leaf c.args.kind c.args.level (value (c.args.page + 8 * j))
          (sym (λ k. spares (c.is_lower-lower.ensures k) (c.leaf_bits-bits.ensures k)
          (value (c.in-Some.ensures.place k + 8 * j)))
          ∙ c.are_eight_harmless.ensures c.if-not-are_eight_harmless.false j more (omega (arith, below)))
    ]

pub returns : goal.returns
returns c = λ yes leaf.
    no_leaves (value_at c.args.map.now) (asks leaf) c.args.kind c.args.level c.args.page (8 * c.loop-part.part)
    (c.loop-part.invariant leaf) (omega (arith, c.loop-part-test.false))
