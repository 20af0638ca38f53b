-- Bytes of a reader of std, behind those that were read ahead.
use Rattle.std.proofs.Common.{◌≡◌, ℕ, List, ◌++◌, length, take, drop, slice_range, ◌+◌, ◌-◌, ◌≤◌, arith, Option, None}
use Rattle.std.proofs.Common.{Some, ap, sym, ◌∙◌, subst, append-nil}
use Rattle.std.proofs.lemmas.List.{drop-take, drop-drop, length-take}
use Rattle.std.proofs.Math.Seq.{take-add}
use Rattle.std.specs.Io.KnownBytes.{Keeps, Appends, Consumes}

-- what was taken after calls that took nothing
pub keeps-consumes : (a b c : Option (List ℕ)) (bs : List ℕ) → Keeps a b → Consumes b c bs → Consumes a c bs
keeps-consumes None b c bs kept taken = tt
keeps-consumes (Some xs) None c bs kept taken = absurd kept
keeps-consumes (Some xs) (Some ys) None bs kept taken = absurd taken
keeps-consumes (Some xs) (Some ys) (Some zs) bs kept taken = sym kept ∙ taken

pub keeps-appends : (a b c : Option (List ℕ)) (bs : List ℕ) → Keeps a b → Appends b c bs → Appends a c bs
keeps-appends None b c bs kept added = tt
keeps-appends (Some xs) None c bs kept added = absurd kept
keeps-appends (Some xs) (Some ys) None bs kept added = absurd added
keeps-appends (Some xs) (Some ys) (Some zs) bs kept added = added ∙ ap (λ held. held ++ bs) kept

-- a piece of which nothing was taken
pub appends-nothing : (a b : Option (List ℕ)) (n : ℕ) (piece : List ℕ) → n ≡ 0 → Appends a b (take n piece) → Keeps a b
appends-nothing None b n piece none added = tt
appends-nothing (Some xs) None n piece none added = absurd added
appends-nothing (Some xs) (Some ys) n piece none added = added ∙ ap (λ m. xs ++ take m piece) none ∙ append-nil xs

-- what stands in a buffer, where more was read behind the bytes at hand
pub behind-hand : (buffer before hand : List ℕ) (count end : ℕ) → take count buffer ≡ take count before → slice_range before 0 count ≡ hand → count ≤ end → slice_range buffer 0 end ≡ hand ++ slice_range buffer count end
behind-hand buffer before hand count end front is within =
    let whole : end - 0 ≡ count + (end - count) = omega (arith, within) in
    let zero : count - 0 ≡ count = omega arith in
    ap (λ n. take n buffer) whole ∙ take-add count (end - count) buffer ∙ ap (λ x. x ++ slice_range buffer count end) (front ∙ ap (λ n. take n before) (sym zero) ∙ is)

-- what is left of a range, where its first bytes were taken
range-rest : (buffer : List ℕ) (at count end : ℕ) → count ≤ length (slice_range buffer at end) → slice_range buffer (at + count) end ≡ drop count (slice_range buffer at end)
range-rest buffer at count end within =
    let parts : end - at ≡ count + (end - (at + count)) = omega (arith, within, length-take (end - at) (drop at buffer)) in
    sym (ap (λ n. drop count (take n (drop at buffer))) parts ∙ drop-take count (end - (at + count)) (drop at buffer)
    ∙ ap (take (end - (at + count))) (drop-drop count at buffer))

pub hand-rest : (hand buffer : List ℕ) (at count end : ℕ) → slice_range buffer at end ≡ hand → count ≤ length hand → slice_range buffer (at + count) end ≡ drop count hand
hand-rest hand buffer at count end is within =
    range-rest buffer at count end (subst (λ xs. count ≤ length xs) (sym is) within) ∙ ap (drop count) is

pub ruleset readers = (keeps-consumes, keeps-appends, appends-nothing)
