-- A register write that makes nothing readable but what is held: by the PE, or one tag, by its root at some PE.
use Rattle.bbm_roots.proofs.Common.{◌≡◌, ◌<◌, ℕ, Bool, true, false, ◌&&◌, ◌||◌, not, nat_eq, List, [], ◌∷◌, nat_tests}
use Rattle.bbm_roots.proofs.Common.{FromTtbr0, FromTtbr1, Ttbr1Tag, Heading, Event, or_assoc, any_found}
use Rattle.bbm_roots.proofs.Common.{any_finds, other_loads, ◌++◌, Option, Some, cond, refl, sym, ◌∙◌, ap}
use Rattle.bbm_roots.proofs.Common.{list_any, flat_map, false≢true, eq-eqb, not-true, list_any-append, IndexMap, get}
use Rattle.bbm_roots.proofs.Common.{AsidFrom, Ttbr1, Reg, Tag, Asid, World, Hyp, Kernel}
use Rattle.bbm_roots.proofs.Common.{first_true, loads_in, hold_in, entry_bit, entry_kept, kept_tag, has_tag, is_of_tag, tag_key, conflict_in}
use Rattle.bbm_roots.proofs.Common.{all_held, anew, kernel_anew, kernel_tag, own_tag, readings_after, asid_readings}
use Rattle.bbm_roots.proofs.Common.{fun_ext, list_all, reading_under, under_held}
use Rattle.std.proofs.lemmas.List.Folds.{list_all-append}
use Rattle.bbm_roots.proofs.Common.{readings_of, readings_with, own_reading, reading_at, has_reading, has_other}
use Rattle.bbm_roots.proofs.Common.{is_reading, is_other, same_tag, arith, is_first, Stands, world_of, pes_of, Held}
use Rattle.bbm_roots.proofs.Common.{RootValue, Reading, Roots, or-false, pe_found, tag_equal, is_listed, eqb-true}
use Rattle.bbm_roots.proofs.Common.{IsCalm, Marks, and-false, firsts_of, firsts_written, standings_of}
use Rattle.bbm_lemmas.proofs.Bools.{and_apart, or_middle}
use Rattle.bbm_lemmas.proofs.Elements.{every_in}
use Rattle.bbm_roots.proofs.Tests.{all_flat, and_right, as-same, or-split}
use Rattle.bbm_roots.proofs.Readable.{firsts-are, readings-same}
use Rattle.bbm_roots.proofs.Steps.{reads-holds}
use Rattle.bbm_roots.specs.RootJudgements.{IsShared}
use Rattle.bbm_roots.proofs.Conflicts.{kept_tag-is}

-- what a test finds among what is readable after a write of the value
module _ (t : Reading → Bool) where
  -- one more value of TTBR0_EL1, under each ASID of the values of TTBR1_EL1
  each : (x : RootValue) (xs ys : List RootValue) →
      list_any t (flat_map (readings_with (x ∷ xs)) ys)
      ≡ (list_any t (flat_map (readings_with (x ∷ [])) ys) || list_any t (flat_map (readings_with xs) ys))
  each x xs [] = refl
  each x xs (y ∷ ys) = simp (list_any-append t, each x xs ys, or-false) (search or_middle)

  kernel-after : (from : AsidFrom) (b : Bool) (load : RootValue) (first second : List RootValue) →
      list_any t (asid_readings from (cond b (load ∷ first) first) (cond b second (load ∷ second))
      ++ flat_map (own_reading Ttbr1) (cond b second (load ∷ second)))
      ≡ (list_any t (kernel_anew from b load (cond b second first))
      || list_any t (asid_readings from first second ++ flat_map (own_reading Ttbr1) second))
  kernel-after FromTtbr0 true load first second = simp (list_any-append t, or_assoc)
  kernel-after FromTtbr1 true load first second = simp (list_any-append t, each load first second, or_assoc)
  kernel-after FromTtbr0 false load first second = simp (list_any-append t) (grind (arith))
  kernel-after FromTtbr1 false load first second = simp (list_any-append t) (grind (arith))

  pub after : (world : World) (b : Bool) (load : RootValue) (first second : List RootValue) →
      list_any t (readings_of world (cond b (load ∷ first) first) (cond b second (load ∷ second)))
      ≡ (list_any t (anew world b load (cond b second first)) || list_any t (readings_of world first second))
  after (Hyp w) true load first second = simp (list_any-append t, or_assoc)
  after (Hyp w) false load first second = simp (list_any-append t) (grind (arith))
  after (Kernel w) b load first second = kernel-after w.asid_from b load first second

-- all pairs that give readings are held, value by value
under-held : {S : Type 0} (hs : IndexMap ℕ Held S) (p : ℕ) (first : List RootValue) (second : RootValue) →
    all_held hs p (readings_with first second) ≡ under_held hs p first second
under-held hs p first second = all_flat (λ (x : Reading). hold_in hs x.tag x.root p) (reading_under (Asid second.number)) first

pub anew-held : {S : Type 0} (hs : IndexMap ℕ Held S) (p : ℕ) (b : Bool) (load : RootValue) (others : List RootValue) →
    all_held hs p (kernel_anew FromTtbr1 b load others)
    ≡ cond b (list_all (under_held hs p (load ∷ [])) others)
    (all_held hs p (reading_at Ttbr1Tag load.root) && under_held hs p others load)
anew-held hs p true load others =
    all_flat (λ (x : Reading). hold_in hs x.tag x.root p) (readings_with (load ∷ [])) others
    ∙ ap (λ (test : RootValue → Bool). list_all test others) (fun_ext (under-held hs p (load ∷ [])))
anew-held hs p false load others =
    list_all-append (λ (x : Reading). hold_in hs x.tag x.root p) (reading_at Ttbr1Tag load.root) (readings_with others load)
    ∙ ap (λ (c : Bool). all_held hs p (reading_at Ttbr1Tag load.root) && c) (under-held hs p others load)

-- a reading of a list that the PE holds
one-held : {S : Type 0} (hs : IndexMap ℕ Held S) (pe : ℕ) (g : Tag) (r : ℕ) (readings : List Reading) →
    all_held hs pe readings ≡ true → has_reading g r readings ≡ true → hold_in hs g r pe ≡ true
one-held hs pe g r readings held e =
    let x = any_found (is_reading g r) readings e in
    as-same (λ h m. hold_in hs h m pe ≡ true) x.0.tag g x.0.root r x.2
    (every_in (λ (y : Reading). hold_in hs y.tag y.root pe) readings x.0 held x.1)

-- an entry is of one root, which holds its tag or left it
pub one-root : (n r s p : ℕ) (o : Option Held) → entry_bit false r p o ≡ true → nat_eq r s ≡ false →
    (entry_kept false n s o ≡ false) × ((q : ℕ) → entry_bit false s q o ≡ false)
one-root n r s p o e apart = (grind (arith, nat_tests), λ q. grind (arith, nat_tests))

pub none-left : (n r s p : ℕ) (o : Option Held) → entry_bit false r p o ≡ true →
    (entry_kept true n s o ≡ false) × ((q : ℕ) → entry_bit true s q o ≡ false)
none-left n r s p o e = (grind (arith), λ q. grind (arith))

-- where all that is then readable is held at some PE, nothing is in conflict
pub no-clash : {S : Type 0} (hs : IndexMap ℕ Held S) (seen : List Reading) →
    ((g : Tag) (r : ℕ) → has_reading g r seen ≡ true → (q : ℕ) × (hold_in hs g r q ≡ true)) →
    (n : ℕ) (x : Reading) → conflict_in hs n seen x ≡ false
no-clash hs seen held n x = neither (and_apart (has_other x.tag x.root seen) _ (λ e.
    let y = any_found (is_other x.tag x.root) seen e in
    let tags : same_tag y.0.tag x.tag ≡ true = first_true _ (not (nat_eq y.0.root x.root)) y.2 in
    let apart : nat_eq y.0.root x.root ≡ false = not-true _ (and_right (same_tag y.0.tag x.tag) _ y.2) in
    let there : has_reading x.tag y.0.root seen ≡ true =
    any_finds (is_reading x.tag y.0.root) seen y.0 y.1 (rw tags (eq-eqb y.0.root y.0.root refl)) in
    let q = held x.tag y.0.root there in
    let others = one-root n y.0.root x.root q.0 (get nat_eq hs (tag_key x.tag)) q.1 apart in
    let read = held x.tag x.root in
    let none = others.1 in
    let unheld = others.0 in
    grind (arith)))
    (and_apart (has_tag x.tag seen) (kept_tag hs true n x.tag x.root) (λ e.
    let y = any_found (is_of_tag x.tag) seen e in
    let there : has_reading x.tag y.0.root seen ≡ true =
    any_finds (is_reading x.tag y.0.root) seen y.0 y.1 (rw y.2 (eq-eqb y.0.root y.0.root refl)) in
    let q = held x.tag y.0.root there in
    (none-left n y.0.root x.root q.0 (get nat_eq hs (tag_key x.tag)) q.1).0))
  where
    neither : {a b : Bool} → a ≡ false → b ≡ false → (a || b) ≡ false
    neither {a} {b} e k = ap (λ (x : Bool). x || b) e ∙ k

-- where all that is then readable is held, nothing more is
pub held-stays : {S : Type 0} (hs : IndexMap ℕ Held S) (pe : ℕ) (seen : List Reading) →
    ((g : Tag) (r : ℕ) → has_reading g r seen ≡ true → hold_in hs g r pe ≡ true) → Marks hs hs pe seen
held-stays hs pe seen held = record {
  held = λ g r p. let h = held g r in grind (arith, nat_tests);
  left = λ g r p. refl;
}

-- what is readable is held
pub read-held : (roots : Roots) (pe : ℕ) (heading : Heading) (h : List Event) → Stands roots heading h → pe < pes_of roots →
    (g : Tag) (r : ℕ) → has_reading g r (readings_of (world_of roots) (firsts_of roots.registers pe)
    (loads_in roots.registers.second.items pe)) ≡ true → hold_in roots.holds g r pe ≡ true
read-held roots pe heading h stands known g r e =
    let less : pe < heading.pes = let n = stands.pes in omega (arith, known) in
    stands.holds g r pe
    ∙ reads-holds heading h g r pe
    (ap (has_reading g r) (sym (readings-same heading h pe))
    ∙ rw (← stands.second pe less, ← firsts-are stands pe less, ← stands.world) e)

-- what a test finds after a write of the value, where readings go by values
values-after : (roots : Roots) (pe : ℕ) (reg : Reg) (load : RootValue) → roots.registers.in_order ≡ false → (t : Reading → Bool) →
    list_any t (readings_after roots.registers pe reg load)
    ≡ (list_any t (anew (world_of roots) (is_first reg) load (other_loads roots.registers pe reg))
    || list_any t (readings_of (world_of roots) (firsts_of roots.registers pe) (loads_in roots.registers.second.items pe)))
values-after roots pe reg load by_values t = by roots.registers.in_order by_values
  where
    first : List RootValue
    first = loads_in roots.registers.first.items pe

    second : List RootValue
    second = loads_in roots.registers.second.items pe

    by : (b : Bool) → b ≡ false → list_any t (readings_of (world_of roots)
        (firsts_written b (is_first reg) load first (other_loads roots.registers pe reg) (standings_of roots.registers pe))
        (cond (is_first reg) second (load ∷ second)))
        ≡ (list_any t (anew (world_of roots) (is_first reg) load (other_loads roots.registers pe reg))
        || list_any t (readings_of (world_of roots) (cond b (standings_of roots.registers pe) first) second))
    by true e = absurd (false≢true (sym e))
    by false e = after t (world_of roots) (is_first reg) load first second

-- where what a value makes readable anew is held, all that is readable after its write is
pub held-after : (roots : Roots) (pe : ℕ) (reg : Reg) (load : RootValue) (heading : Heading) (h : List Event) →
    Stands roots heading h → pe < pes_of roots → roots.registers.in_order ≡ false →
    all_held roots.holds pe (anew (world_of roots) (is_first reg) load (other_loads roots.registers pe reg)) ≡ true →
    (g : Tag) (r : ℕ) → has_reading g r (readings_after roots.registers pe reg load) ≡ true →
    hold_in roots.holds g r pe ≡ true
held-after roots pe reg load heading h stands known by_values new g r e =
    or-split _ _ (hold_in roots.holds g r pe ≡ true)
    (one-held roots.holds pe g r (anew (world_of roots) (is_first reg) load (other_loads roots.registers pe reg)) new)
    (read-held roots pe heading h stands known g r)
    (sym (values-after roots pe reg load by_values (is_reading g r)) ∙ e)

-- such a value makes its one tag readable anew
kernel-own : (from : AsidFrom) (b : Bool) (load : RootValue) (other : List RootValue) (tag : Tag) →
    kernel_tag from b load.number ≡ Some tag → kernel_anew from b load other ≡ reading_at tag load.root
kernel-own FromTtbr0 true load other tag e = cc
kernel-own FromTtbr0 false load other tag e = cc
kernel-own FromTtbr1 b load other tag e = absurd (cc)

own-anew : (world : World) (b : Bool) (load : RootValue) (other : List RootValue) (tag : Tag) →
    own_tag world b load.number ≡ Some tag → anew world b load other ≡ reading_at tag load.root
own-anew (Hyp w) true load other tag e = cc
own-anew (Hyp w) false load other tag e = cc
own-anew (Kernel w) b load other tag e = kernel-own w.asid_from b load other tag e

module _ (roots : Roots) (pe : ℕ) (reg : Reg) (load : RootValue) (reading : Reading) (shared : IsShared pe reg load reading roots) where
  -- a PE at which the root holds the tag
  holder : (q : ℕ) × (hold_in roots.holds reading.tag reading.root q ≡ true)
  holder =
      let f = pe_found (pes_of roots) (hold_in roots.holds reading.tag reading.root)
      (sym (kept_tag-is roots.holds false (pes_of roots) reading.tag reading.root) ∙ shared.held) in (f.0, f.2)

  -- the root may hold it
  pub tag-listed : (g : Tag) (r : ℕ) → has_reading g r (reading ∷ []) ≡ true →
      is_listed roots.by_root r (tag_key g) ≡ true
  tag-listed g r e =
      as-same (λ t m. is_listed roots.by_root m (tag_key t) ≡ true) reading.tag g reading.root r
      (sym (or-false (same_tag reading.tag g && nat_eq reading.root r)) ∙ e)
      (roots.listed reading.tag reading.root holder.0 holder.1)

  unheld : (g : Tag) (r : ℕ) → has_other g r (reading ∷ []) ≡ true
      → (has_reading g r (reading ∷ []) ≡ false) × ((p : ℕ) → hold_in roots.holds g r p ≡ false)
  unheld g r e =
      let other : (same_tag reading.tag g && not (nat_eq reading.root r)) ≡ true = sym (or-false _) ∙ e in
      let same = tag_equal reading.tag g (first_true _ (not (nat_eq reading.root r)) other) in
      let apart : nat_eq reading.root r ≡ false = not-true _ (and_right (same_tag reading.tag g) _ other) in
      let others =
      one-root (pes_of roots) reading.root r holder.0 (get nat_eq roots.holds (tag_key reading.tag)) holder.1
      apart in (rw apart (or-false _ ∙ and-false (same_tag reading.tag g)), λ p. rw (← same) (others.1 p))

  -- no other root holds it, and none left it
  pub calm-one : IsCalm roots.holds (reading ∷ [])
  calm-one = record {
    others = unheld;
    none_left = λ g r p e.
        let same = tag_equal reading.tag g (sym (or-false _) ∙ e) in
        rw (← same) ((none-left (pes_of roots) reading.root r holder.0 (get nat_eq roots.holds (tag_key reading.tag))
        holder.1).1 p);
  }

  module _ (heading : Heading) (h : List Event) (stands : Stands roots heading h) (known : pe < pes_of roots) where
    abbrev read : Tag → ℕ → Bool
    read g r = has_reading g r (readings_of (world_of roots) (firsts_of roots.registers pe)
        (loads_in roots.registers.second.items pe))

    readable : (g : Tag) (r : ℕ) → has_reading g r (readings_after roots.registers pe reg load)
        ≡ (has_reading g r (reading ∷ []) || read g r)
    readable g r =
        values-after roots pe reg load shared.by_values (is_reading g r)
        ∙ ap (λ (xs : List Reading). has_reading g r xs || read g r)
        (own-anew (world_of roots) (is_first reg) load (other_loads roots.registers pe reg) reading.tag shared.tag
        ∙ ap (reading_at reading.tag) shared.root)

    -- all that is then readable is held at some PE
    pub held-somewhere : (g : Tag) (r : ℕ) → has_reading g r (readings_after roots.registers pe reg load) ≡ true →
        (q : ℕ) × (hold_in roots.holds g r q ≡ true)
    held-somewhere g r e =
        or-split _ _ ((q : ℕ) × (hold_in roots.holds g r q ≡ true))
        (λ k. as-same (λ t m. (q : ℕ) × (hold_in roots.holds t m q ≡ true)) reading.tag g reading.root r
        (sym (or-false (same_tag reading.tag g && nat_eq reading.root r)) ∙ k) holder)
        (λ k. (pe, read-held roots pe heading h stands known g r k))
        (sym (readable g r) ∙ e)

    marked-all : (new : Roots) → Marks roots.holds new.holds pe (reading ∷ []) → (g : Tag) (r p : ℕ) → hold_in new.holds g r p
        ≡ (hold_in roots.holds g r p || (nat_eq p pe && has_reading g r (readings_after roots.registers pe reg load)))
    marked-all new marked g r p =
        marked.held g r p
        ∙ marks-step (hold_in roots.holds g r p) (nat_eq p pe) (has_reading g r (reading ∷ [])) (read g r)
        (λ at k. ap (hold_in roots.holds g r) (eqb-true p pe at) ∙ read-held roots pe heading h stands known g r k)
        ∙ ap (λ (b : Bool). hold_in roots.holds g r p || (nat_eq p pe && b)) (sym (readable g r))
      where
        marks-step : (old here own others : Bool) → (here ≡ true → others ≡ true → old ≡ true) →
            (old || (here && own)) ≡ (old || (here && (own || others)))
        marks-step old here own others = grind (arith)

    -- the mark of the one tag marks all
    pub marks-all : (new : Roots) → Marks roots.holds new.holds pe (reading ∷ []) →
        Marks roots.holds new.holds pe (readings_after roots.registers pe reg load)
    marks-all new marked = record { held = marked-all new marked; left = marked.left }
