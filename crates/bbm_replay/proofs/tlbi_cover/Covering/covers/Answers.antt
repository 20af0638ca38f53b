use Rattle.bbm_replay.proofs.Common.{restless_place, notes}
use Rattle.bbm_rules.proofs.Common.{◌<◌, ◌≡◌, ◌++◌, ◌∷◌, [], ℕ, List, Some, ◌∙◌, ap, arith, slice_get, length, inl, inr}
use Rattle.bbm_rules.proofs.Common.{cases_lt, Cover, Patterns, cover_at, Tlbi}
use Rattle.bbm_replay.proofs.Findings.{at_end, before_end}
use Rattle.bbm_replay.proofs.tlbi_cover.Covering.covers.Goals as goal

pub loop-i-preserved : goal.loop-i-preserved
loop-i-preserved c =
    let map = c.args.map.now in
    let i = c.loop-i.i in
    let items = c.loop-i.covers.items in
    record {
      len = omega (arith, c.in_ok-push.ensures.len);
      each = λ heading h pe op xt m j below.
          let cover : ℕ → Cover = cover_at heading Patterns (notes heading h) (Tlbi pe op xt) in
          let all = ap (λ (xs : List Cover). slice_get xs j) c.in_ok-push.ensures.ok in
          elim (cases_lt j i) [
            | inl lt ↦ all ∙ before_end items c.new.result j (omega (arith, lt, c.loop-i.invariant.len))
                ∙ c.loop-i.invariant.each heading h pe op xt m j lt
            | inr ge ↦ (let same : j ≡ length items = omega (arith, ge, below, c.loop-i.invariant.len) in
                let number : i ≡ j = omega (arith, ge, below) in
                all ∙ ap (λ n. slice_get (items ++ c.new.result ∷ []) n) same ∙ at_end items c.new.result
                ∙ ap (λ (x : Cover). Some x) (c.new.ensures ∙ c.cover_next-cover.ensures.here heading h pe op xt m
                ∙ ap cover (ap (λ n. restless_place map n) number)))
          ];
      alike = c.cover_next-cover.ensures.alike;
    }

pub returns-clause-each : goal.returns-clause-each
returns-clause-each c heading h pe op xt m a broken =
    let n = c.restless-i-end.ensures.each a broken in
    let cover : ℕ → Cover = cover_at heading Patterns (notes heading h) (Tlbi pe op xt) in
    let below : n.0 < c.loop-i.i = omega (arith, n.1, c.restless-i-end.ensures.count) in
    (n.0, n.2, c.loop-i.invariant.each heading h pe op xt m n.0 below ∙ ap (λ p. Some (cover p)) n.2)
