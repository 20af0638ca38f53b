-- Tests of the readings of a PE: what the values in front alone give, all values give; and the test by cases.
use Rattle.bbm_roots.proofs.Common.{◌≡◌, ℕ, Bool, true, false, ◌&&◌, ◌||◌, List, [], ◌∷◌, ◌++◌, refl, sym, ◌∙◌, arith}
use Rattle.bbm_roots.proofs.Common.{FromTtbr0, FromTtbr1, El2Tag, Ttbr1Tag, any_and, any_both, any_same, ap, cond}
use Rattle.bbm_roots.proofs.Common.{Option, Some, None, is_some, list_any, flat_map, list_any-append, AsidFrom, Kind}
use Rattle.bbm_roots.proofs.Common.{El2, S2, Ttbr0, Ttbr1, Tag, Vmid, Asid, World, Hyp, Kernel, asid_readings}
use Rattle.bbm_roots.proofs.Common.{readings_of, readings_with, own_reading, reading_under, reading_at, tag_of, has_tag}
use Rattle.bbm_roots.proofs.Common.{is_of_tag, same_tag, reads_tag, newest, RootValue, Reading, and-false, and-true}
use Rattle.bbm_roots.proofs.Common.{or-false}
use Rattle.bbm_roots.specs.Readings.{reads_asid, names_some, names_root}
use Rattle.bbm_lemmas.proofs.Tests.{any_never}
use Rattle.bbm_roots.proofs.Tests.{any-weaker}

-- a test of what each element gives
any-flat_map : {X Y : Type 0} (t : Y → Bool) (f : X → List Y) (xs : List X) →
    list_any t (flat_map f xs) ≡ list_any (λ x. list_any t (f x)) xs
any-flat_map t f [] = refl
any-flat_map t f (x ∷ xs) =
    list_any-append t (f x) (flat_map f xs) ∙ ap (λ (b : Bool). list_any t (f x) || b) (any-flat_map t f xs)

any-newest : (p : RootValue → Bool) (xs : List RootValue) → list_any p (newest xs) ≡ true → list_any p xs ≡ true
any-newest p [] e = e
any-newest p (x ∷ xs) e = grind (arith)

-- what a test finds among what some values give it finds among what more values give
module _ (t : Reading → Bool) where
  grows : (f : RootValue → List Reading) (xs : List RootValue) →
      list_any t (flat_map f (newest xs)) ≡ true → list_any t (flat_map f xs) ≡ true
  grows f xs e =
      any-flat_map t f xs
      ∙ any-newest (λ x. list_any t (f x)) xs (sym (any-flat_map t f (newest xs)) ∙ e)

  crossed : (xs ys : List RootValue) → list_any t (flat_map (readings_with (newest xs)) (newest ys)) ≡ true →
      list_any t (flat_map (readings_with xs) ys) ≡ true
  crossed xs ys e =
      any-flat_map t (readings_with xs) ys
      ∙ any-weaker (λ y. list_any t (readings_with (newest xs) y)) (λ y. list_any t (readings_with xs y))
      (λ y. grows (reading_under (Asid y.number)) xs) ys
      (any-newest (λ y. list_any t (readings_with (newest xs) y)) ys
      (sym (any-flat_map t (readings_with (newest xs)) (newest ys)) ∙ e))

  both : (ls bs cs ds : List Reading) → (list_any t ls ≡ true → list_any t cs ≡ true) →
      (list_any t bs ≡ true → list_any t ds ≡ true) → list_any t (ls ++ bs) ≡ true → list_any t (cs ++ ds) ≡ true
  both ls bs cs ds f g e = grind (arith, list_any-append t cs ds, list_any-append t ls bs)

  asids-newest : (from : AsidFrom) (xs ys : List RootValue) →
      list_any t (asid_readings from (newest xs) (newest ys) ++ flat_map (own_reading Ttbr1) (newest ys)) ≡ true →
      list_any t (asid_readings from xs ys ++ flat_map (own_reading Ttbr1) ys) ≡ true
  asids-newest FromTtbr0 xs ys = both _ _ _ _ (grows (own_reading Ttbr0) xs) (grows (own_reading Ttbr1) ys)
  asids-newest FromTtbr1 xs ys = both _ _ _ _ (crossed xs ys) (grows (own_reading Ttbr1) ys)

  readings-newest : (world : World) (xs ys : List RootValue) →
      list_any t (readings_of world (newest xs) (newest ys)) ≡ true → list_any t (readings_of world xs ys) ≡ true
  readings-newest (Hyp w) xs ys = both _ _ _ _ (grows (own_reading El2) xs) (grows (own_reading S2) ys)
  readings-newest (Kernel w) xs ys = asids-newest w.asid_from xs ys

  -- the same where one PE alone had an ISB
  pub readings-isb : (world : World) (b : Bool) (xs ys : List RootValue) →
      list_any t (readings_of world (cond b (newest xs) xs) (cond b (newest ys) ys)) ≡ true →
      list_any t (readings_of world xs ys) ≡ true
  readings-isb world true xs ys e = readings-newest world xs ys e
  readings-isb world false xs ys e = e

-- ---- the test by cases

some-name : (root : Option ℕ) (tag g : Tag) → list_any (is_of_tag g) (reading_at tag root) ≡ (is_some root && same_tag tag g)
some-name None tag g = refl
some-name (Some n) tag g = or-false (same_tag tag g)

module _ (g : Tag) where
  -- whether a value of the register of the kind names a root under the tag
  own : (kind : Kind) (xs : List RootValue) → has_tag g (flat_map (own_reading kind) xs)
      ≡ list_any (λ x. is_some x.root && same_tag (tag_of kind x.number) g) xs
  own kind xs =
      any-flat_map (is_of_tag g) (own_reading kind) xs
      ∙ any_same (λ x. has_tag g (own_reading kind x)) (λ x. is_some x.root && same_tag (tag_of kind x.number) g) xs
      (λ x. some-name x.root (tag_of kind x.number) g)

  -- the readings under each ASID of the second list
  crossed-one : (n : ℕ) (xs : List RootValue) →
      has_tag g (flat_map (reading_under (Asid n)) xs) ≡ (list_any names_root xs && same_tag (Asid n) g)
  crossed-one n xs =
      any-flat_map (is_of_tag g) (reading_under (Asid n)) xs
      ∙ any_same (λ x. has_tag g (reading_under (Asid n) x)) (λ x. names_root x && same_tag (Asid n) g) xs
      (λ x. some-name x.root (Asid n) g)
      ∙ any_both names_root (same_tag (Asid n) g) xs

  crossed-all : (xs ys : List RootValue) → has_tag g (flat_map (readings_with xs) ys)
      ≡ (list_any names_root xs && list_any (λ y. same_tag (Asid y.number) g) ys)
  crossed-all xs ys =
      any-flat_map (is_of_tag g) (readings_with xs) ys
      ∙ any_same (λ y. has_tag g (readings_with xs y)) (λ y. list_any names_root xs && same_tag (Asid y.number) g) ys
      (λ y. crossed-one y.number xs)
      ∙ any_and (list_any names_root xs) (λ y. same_tag (Asid y.number) g) ys

  split : (ls ms : List Reading) → has_tag g (ls ++ ms) ≡ (has_tag g ls || has_tag g ms)
  split = list_any-append (is_of_tag g)

-- in the Kernel world, by the register that names the ASID
abbrev reads_of_kernel : AsidFrom → List RootValue → List RootValue → Tag → Bool
reads_of_kernel from xs ys Ttbr1Tag = names_some ys
reads_of_kernel from xs ys (Asid a) = reads_asid from xs ys a
reads_of_kernel from xs ys _ = false

ruleset told = (split, own, crossed-all, and-true, and-false, or-false, any_never)

reads_asids-is : (from : AsidFrom) (xs ys : List RootValue) (g : Tag) →
    has_tag g (asid_readings from xs ys ++ flat_map (own_reading Ttbr1) ys) ≡ reads_of_kernel from xs ys g
reads_asids-is FromTtbr0 xs ys El2Tag = simp told
reads_asids-is FromTtbr0 xs ys (Vmid v) = simp told
reads_asids-is FromTtbr0 xs ys (Asid v) = simp told
reads_asids-is FromTtbr0 xs ys Ttbr1Tag = simp told
reads_asids-is FromTtbr1 xs ys El2Tag = simp told
reads_asids-is FromTtbr1 xs ys (Vmid v) = simp told
reads_asids-is FromTtbr1 xs ys (Asid v) = simp told
reads_asids-is FromTtbr1 xs ys Ttbr1Tag = simp told

pub reads_tag-is : (world : World) (xs ys : List RootValue) (g : Tag) → has_tag g (readings_of world xs ys) ≡ reads_tag world xs ys g
reads_tag-is (Hyp w) xs ys El2Tag = simp told
reads_tag-is (Hyp w) xs ys (Vmid v) = simp told
reads_tag-is (Hyp w) xs ys (Asid v) = simp told
reads_tag-is (Hyp w) xs ys Ttbr1Tag = simp told
reads_tag-is (Kernel w) xs ys El2Tag = reads_asids-is w.asid_from xs ys El2Tag
reads_tag-is (Kernel w) xs ys (Vmid v) = reads_asids-is w.asid_from xs ys (Vmid v)
reads_tag-is (Kernel w) xs ys (Asid v) = reads_asids-is w.asid_from xs ys (Asid v)
reads_tag-is (Kernel w) xs ys Ttbr1Tag = reads_asids-is w.asid_from xs ys Ttbr1Tag
