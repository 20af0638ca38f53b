-- A heading that a header can say has a PE, pages for each root, and walks that start at a level below 4.
use Rattle.bbm_histories.proofs.Common.{Ttbr0, Heading, Proper}
use Rattle.bbm_rules.proofs.Common.{◌≡◌, ℕ, ◌<◌, ◌≤◌, ◌&&◌, ◌||◌, not, Bool, true, false, cond, ◌==◌, nat_le, nat_lt}
use Rattle.bbm_rules.proofs.Common.{inl, inr, arith, and_parts, eqb-true, leb-true, or_cases, Kind, are_s2_pages}
use Rattle.bbm_rules.proofs.Common.{page_count, world_ok, are_pes, heading_ok, is_version, may_share}
use Rattle.bbm_regimes.specs.declared.regime.Kind.TheVariants.{El2, S2, Ttbr1}
use Rattle.bbm_regimes.specs.declared.regime.World.{World}
use Rattle.bbm_regimes.specs.declared.regime.World.TheVariants.{Hyp, Kernel}
use Rattle.bbm_regimes.specs.World.{start_of}
use Rattle.bbm_events.specs.Heading.{words_ok}

some_joined : (start pages : ℕ) → are_s2_pages start pages ≡ true → 0 < pages
some_joined start pages e = by (start == 0) e
  where
    is : (n : ℕ) → (pages == n) ≡ true → 0 < n → 0 < pages
    is n k some = let same : pages ≡ n = eqb-true pages n k in omega arith

    by : (b : Bool) → cond b (pages == 1) (pages == 1 || pages == 2 || pages == 4 || pages == 8 || pages == 16) ≡ true → 0 < pages
    by true k = is 1 k (omega arith)
    by false k =
        elim (or_cases (pages == 1 || pages == 2 || pages == 4 || pages == 8) (pages == 16) k) [
          | inr last ↦ is 16 last (omega arith)
          | inl k8 ↦ elim (or_cases (pages == 1 || pages == 2 || pages == 4) (pages == 8) k8) [
            | inr here ↦ is 8 here (omega arith)
            | inl k4 ↦ elim (or_cases (pages == 1 || pages == 2) (pages == 4) k4) [
              | inr here ↦ is 4 here (omega arith)
              | inl k2 ↦ elim (or_cases (pages == 1) (pages == 2) k2) [
                | inr here ↦ is 2 here (omega arith)
                | inl here ↦ is 1 here (omega arith)
              ]
            ]
          ]
        ]

some_page : (world : World) (kind : Kind) → world_ok world ≡ true → 0 < page_count world kind
some_page (Hyp world) S2 e =
    some_joined world.s2_start world.s2_pages
    (and_parts (nat_le world.el2_start 2 && nat_le world.s2_start 2) (are_s2_pages world.s2_start world.s2_pages) e).1
some_page (Hyp world) El2 e = omega arith
some_page (Hyp world) Ttbr0 e = omega arith
some_page (Hyp world) Ttbr1 e = omega arith
some_page (Kernel world) kind e = omega arith

low : (start : ℕ) → nat_le start 2 ≡ true → start < 4
low start e = let k : start ≤ 2 = leb-true start 2 e in omega arith

start : (world : World) (kind : Kind) → world_ok world ≡ true → start_of world kind < 4
start (Hyp world) El2 e =
    low world.el2_start (and_parts (nat_le world.el2_start 2) (nat_le world.s2_start 2)
    (and_parts (nat_le world.el2_start 2 && nat_le world.s2_start 2) (are_s2_pages world.s2_start world.s2_pages) e).0).0
start (Hyp world) S2 e =
    low world.s2_start (and_parts (nat_le world.el2_start 2) (nat_le world.s2_start 2)
    (and_parts (nat_le world.el2_start 2 && nat_le world.s2_start 2) (are_s2_pages world.s2_start world.s2_pages) e).0).1
start (Hyp world) Ttbr0 e = omega arith
start (Hyp world) Ttbr1 e = omega arith
start (Kernel world) Ttbr0 e = low world.start0 (and_parts (nat_le world.start0 2) (nat_le world.start1 2) e).0
start (Kernel world) Ttbr1 e = low world.start1 (and_parts (nat_le world.start0 2) (nat_le world.start1 2) e).1
start (Kernel world) El2 e = omega arith
start (Kernel world) S2 e = omega arith

pub proper : (heading : Heading) → heading_ok heading ≡ true → Proper heading
proper heading e =
    let all = and_parts (is_version heading.version && are_pes heading.version heading.pes && (may_share heading.version || not heading.cnp)
    && words_ok heading.version heading.world heading.words) (world_ok heading.world) e in
    let said = and_parts (is_version heading.version && are_pes heading.version heading.pes && (may_share heading.version || not heading.cnp))
    (words_ok heading.version heading.world heading.words) all.0 in
    let first = and_parts (is_version heading.version && are_pes heading.version heading.pes) (may_share heading.version || not heading.cnp) said.0 in
    let pes = and_parts (is_version heading.version) (are_pes heading.version heading.pes) first.0 in
    let least : 1 ≤ heading.pes = leb-true 1 heading.pes
    (and_parts (nat_le 1 heading.pes) (nat_le heading.pes (cond (nat_lt heading.version 3) 64 128)) pes.1).0 in
    record {
      some_pe = omega arith;
      some_page = λ kind. some_page heading.world kind all.1;
      start = λ kind. start heading.world kind all.1;
    }
