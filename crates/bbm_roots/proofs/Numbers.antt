-- The numbers of a list of values: one, or several.
use Rattle.bbm_roots.proofs.Common.{◌≡◌, ℕ, ◌<◌, Bool, false, ◌&&◌, nat_eq, nat_lt, List, [], ◌∷◌, ◌∙◌, Option}
use Rattle.bbm_roots.proofs.Common.{map, tag_number, Event, load_in, Some, None, length, cond, subst, slice_index_or}
use Rattle.bbm_roots.proofs.Common.{list_all, numbered}
use Rattle.bbm_roots.proofs.Common.{refl, sym, ap, arith, false≢true, eq-eqb, ltb-true, ◌==◌, Reg, IsLeast, UpTo}
use Rattle.bbm_roots.proofs.Common.{RootValue}
use Rattle.std.proofs.lemmas.List.{length-map}
use Rattle.std.proofs.lemmas.Simd.{map-map}
use Rattle.bbm_lemmas.specs.ListWords as words

abbrev pub one_number : List RootValue → Option ℕ
one_number loads = words.one_number (map (λ (l : RootValue). l.number) loads)

pub none-found : (pes : ℕ) (f : ℕ → Bool) → ((p : ℕ) → p < pes → f p ≡ false) → IsLeast UpTo (λ p. nat_lt p pes && f p) None
none-found pes f before p = grind (arith, ltb-true, before p)

-- the one number of values, by the first of them
pub one-by : (loads : List RootValue) (n : ℕ) (b : Bool) (x : RootValue) → n ≡ (slice_index_or loads 0 x).number →
    nat_eq (length loads) 0 ≡ false → b ≡ list_all (numbered n) loads → cond b (Some n) None ≡ one_number loads
one-by [] n b x is some all = absurd (false≢true (sym some))
one-by (l ∷ ls) n b x is some all =
    ap (λ (t : Bool). cond t (Some n) None) all
    ∙ subst (λ (m : ℕ). cond (list_all (numbered m) (l ∷ ls)) (Some m) None ≡ one_number (l ∷ ls)) (sym is) by
  where
    mapped : (ls : List RootValue) → list_all (numbered l.number) ls
        ≡ words.every (λ m. m == l.number) (map (λ (x : RootValue). x.number) ls)
    mapped [] = refl
    mapped (x ∷ xs) = ap (λ (t : Bool). (x.number == l.number) && t) (mapped xs)

    by : cond (list_all (numbered l.number) (l ∷ ls)) (Some l.number) None ≡ one_number (l ∷ ls)
    by = rw (eq-eqb l.number l.number refl, mapped ls) refl

-- the values of a register: as many as it has, each with its number
pub length-loads : (h : List Event) (reg : Reg) (vs : List ℕ) → length (map (load_in h reg) vs) ≡ length vs
length-loads h reg vs = length-map vs (load_in h reg)

pub numbers-are : (h : List Event) (reg : Reg) (vs : List ℕ) → map (λ (l : RootValue). l.number) (map (load_in h reg) vs) ≡ map tag_number vs
numbers-are h reg vs = map-map (λ (l : RootValue). l.number) (load_in h reg) vs
