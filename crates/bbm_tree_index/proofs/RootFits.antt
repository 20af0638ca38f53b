-- The pages of a root fit below the end of the addresses.
use Rattle.bbm_tree_index.proofs.Common.{Heading, first_input_page, start_of, Ttbr0, Fits, RoleFits, RootPage}
use Rattle.bbm_rules.proofs.Common.{◌≡◌, ℕ, zero, suc, ◌<◌, ◌≤◌, ◌+◌, ◌-◌, ◌*◌, ◌%◌, ◌^◌, Bool, true, ◌||◌, ◌==◌, arith}
use Rattle.bbm_rules.proofs.Common.{nat_tests, refl, subst, and_parts, eqb-true, leb-true, ltb-true, if◌then◌else◌}
use Rattle.bbm_rules.proofs.Common.{same_Some, is_root_page, heading_ok, page_count, world_ok, Kind}
use Rattle.bbm_regimes.specs.World.{input_pages}
use Rattle.bbm_regimes.specs.declared.regime.Kind.TheVariants.{El2, S2, Ttbr1}
use Rattle.bbm_regimes.specs.declared.regime.World.{World}
use Rattle.bbm_regimes.specs.declared.regime.World.TheVariants.{Hyp, Kernel}

-- the number of pages of a root
abbrev IsCount : ℕ → Bool
IsCount n = n == 1 || n == 2 || n == 4 || n == 8 || n == 16

counts : (w : World) → world_ok w ≡ true → (kind : Kind) → IsCount (page_count w kind) ≡ true
counts (Hyp w) k S2 = by (w.s2_start == 0) (and_parts _ _ k).1
  where
    by : (b : Bool) → (if b then w.s2_pages == 1 else IsCount w.s2_pages) ≡ true → IsCount w.s2_pages ≡ true
    by b e = grind (arith, nat_tests)
counts _ k _ = refl

pub start_low : (w : World) → world_ok w ≡ true → (kind : Kind) → start_of w kind ≤ 2
start_low (Hyp w) k El2 = leb-true w.el2_start 2 (and_parts _ _ (and_parts _ _ k).0).0
start_low (Hyp w) k S2 = leb-true w.s2_start 2 (and_parts _ _ (and_parts _ _ k).0).1
start_low (Kernel w) k Ttbr0 = leb-true w.start0 2 (and_parts _ _ k).0
start_low (Kernel w) k Ttbr1 = leb-true w.start1 2 (and_parts _ _ k).1
start_low _ k _ = omega arith

first_low : (w : World) (kind : Kind) → first_input_page w kind ≤ 2 ^ 44
first_low w Ttbr1 = less (2 ^ 44) (512 * input_pages (start_of w Ttbr1))
  where
    less : (a b : ℕ) → a - b ≤ a
    less a b = omega arith
first_low w _ = omega arith

level_fits : (base i level : ℕ) → level ≤ 2 → base ≤ 2 ^ 44 → i < 16 → base + i * (512 * input_pages level) + 512 * input_pages level ≤ 2 ^ 45
level_fits base i zero l b h = omega (arith, b, h)
level_fits base i (suc zero) l b h = omega (arith, b, h)
level_fits base i (suc (suc zero)) l b h = omega (arith, b, h)
level_fits base i (suc (suc (suc level))) l b h = absurd (omega (arith, l))

-- a page that is aligned to the size of all pages of a root has them below the end of the addresses
root_below : (n first : ℕ) → IsCount n ≡ true → first < 2 ^ 48 → (first % (4096 * n) == 0) ≡ true → first + 4096 * n ≤ 2 ^ 48
root_below n first count below aligned = grind (arith, nat_tests)

module _ (heading : Heading) (ok : heading_ok heading ≡ true) (kind : Kind) (first : ℕ) where
  world_is : world_ok heading.world ≡ true
  world_is = (and_parts _ _ ok).1

  pub kind_low : start_of heading.world kind ≤ 2
  kind_low = start_low heading.world world_is kind

  count : IsCount (page_count heading.world kind) ≡ true
  count = counts heading.world world_is kind

  count_low : page_count heading.world kind ≤ 16
  count_low = grind (arith, nat_tests, count)

  pub count_some : 1 ≤ page_count heading.world kind
  count_some = grind (arith, nat_tests, count)

  pub root_fits : (i : ℕ) → i < page_count heading.world kind → RoleFits heading (RootPage kind first i)
  root_fits i l s e = subst Fits (same_Some _ s e) (record {
    shallow = omega (arith, kind_low);
    within = level_fits (first_input_page heading.world kind) i (start_of heading.world kind) kind_low (first_low heading.world kind)
        (omega (arith, l, count_low));
  })

  pub root_end : is_root_page heading.world kind first ≡ true → (first + 4096 * page_count heading.world kind ≤ 2 ^ 48) × (first % 4096 ≡ 0)
  root_end e = let p = and_parts _ _ e in let q = and_parts _ _ p.0 in
      (root_below (page_count heading.world kind) first count (ltb-true first (2 ^ 48) q.0) p.1, eqb-true (first % 4096) 0 q.1)
