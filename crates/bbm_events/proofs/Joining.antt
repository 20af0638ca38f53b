-- Pieces that are joined by spaces and whose bytes all show are the fields of what they are joined to, which is one line.
use Rattle.bbm_events.proofs.Common.{◌≡◌, ℕ, zero, suc, ◌/◌, ◌%◌, List, [], ◌∷◌, ◌++◌, Bool, true, false, ◌&&◌, cond}
use Rattle.bbm_events.proofs.Common.{◌==◌, refl, ap, sym, ◌∙◌, arith, nat_lt, digit_glyph, digits_onto, and_parts}
use Rattle.bbm_events.proofs.Common.{nat_tests, fields, joined, ◌≤◌, length, not, subst}
use Rattle.bbm_events.specs.Spelling.{is_plain}
use Rattle.std.proofs.Common.{◌+◌, append-nil, length-append}
use Rattle.std.proofs.lemmas.Bool.{and_from}
use Rattle.std.specs.Fmt.{digits}
use Rattle.std.specs.List.{onto_first}
use Rattle.std.proofs.lemmas.List.Splits.{slice_split-cons_no, join_with_byte-slice_split}

-- whether each byte shows: none is a space, and none below it, as a newline is
abbrev pub visible : List ℕ → Bool
visible [] = true
visible (byte ∷ bytes) = nat_lt 32 byte && visible bytes

abbrev pub all_visible : List (List ℕ) → Bool
all_visible [] = true
all_visible (piece ∷ pieces) = visible piece && all_visible pieces

-- a byte that shows is no space
no_space : (byte : ℕ) → nat_lt 32 byte ≡ true → (byte == 32) ≡ false
no_space byte shows = grind (arith, nat_tests)

pub fields_last : (piece : List ℕ) → visible piece ≡ true → fields piece ≡ piece ∷ []
fields_last [] h = refl
fields_last (byte ∷ bytes) h =
    let parts = and_parts (nat_lt 32 byte) (visible bytes) h in
    slice_split-cons_no (λ (b : ℕ). b == 32) byte bytes (no_space byte parts.0)
    ∙ ap (λ (xs : List (List ℕ)). onto_first byte xs) (fields_last bytes parts.1)

fields_then : (piece rest : List ℕ) → visible piece ≡ true → fields (piece ++ 32 ∷ rest) ≡ piece ∷ fields rest
fields_then [] rest h = refl
fields_then (byte ∷ bytes) rest h =
    let parts = and_parts (nat_lt 32 byte) (visible bytes) h in
    slice_split-cons_no (λ (b : ℕ). b == 32) byte (bytes ++ 32 ∷ rest) (no_space byte parts.0)
    ∙ ap (λ (xs : List (List ℕ)). onto_first byte xs) (fields_then bytes rest parts.1)

pub fields_joined : (piece : List ℕ) (pieces : List (List ℕ)) → all_visible (piece ∷ pieces) ≡ true → fields (joined (piece ∷ pieces)) ≡ piece ∷ pieces
fields_joined piece [] h = fields_last piece (and_parts (visible piece) true h).0
fields_joined piece (next ∷ pieces) h =
    let parts = and_parts (visible piece) (all_visible (next ∷ pieces)) h in
    fields_then piece (joined (next ∷ pieces)) parts.0
    ∙ ap (λ (xs : List (List ℕ)). piece ∷ xs) (fields_joined next pieces parts.1)

-- a line is its fields, joined again
pub joined_fields : (line : List ℕ) (pieces : List (List ℕ)) → fields line ≡ pieces → line ≡ joined pieces
joined_fields line pieces e = sym (join_with_byte-slice_split 32 line) ∙ ap joined e

glyph_visible : (digit : ℕ) → nat_lt 32 (digit_glyph false digit) ≡ true
glyph_visible digit = grind (arith, nat_tests)

onto_visible : (k base n : ℕ) (acc : List ℕ) → visible acc ≡ true → visible (digits_onto k base false n acc) ≡ true
onto_visible zero base n acc h = h
onto_visible (suc k) base n acc h = by (n / base == 0) (onto_visible k base (n / base) (digit_glyph false (n % base) ∷ acc) more)
  where
    more : visible (digit_glyph false (n % base) ∷ acc) ≡ true
    more = rw (glyph_visible (n % base)) h

    by : (t : Bool) → visible (digits_onto k base false (n / base) (digit_glyph false (n % base) ∷ acc)) ≡ true
        → visible (cond t (digit_glyph false (n % base) ∷ acc) (digits_onto k base false (n / base) (digit_glyph false (n % base) ∷ acc))) ≡ true
    by true on = more
    by false on = on

pub digits_visible : (base n : ℕ) → visible (digits base false n) ≡ true
unfolding digits
digits_visible base n = onto_visible 64 base n [] refl

-- the bytes of fields, each with one behind it
abbrev pub size : List (List ℕ) → ℕ
size [] = 0
size (piece ∷ pieces) = suc (length piece) + size pieces

pub size_append : (xs ys : List (List ℕ)) → size (xs ++ ys) ≡ size xs + size ys
size_append [] ys = omega arith
size_append (x ∷ xs) ys = let more = size_append xs ys in omega (arith, more)

pub joined_size : (pieces : List (List ℕ)) → length (joined pieces) ≤ size pieces
joined_size [] = omega arith
joined_size (piece ∷ []) = omega arith
joined_size (piece ∷ next ∷ pieces) =
    let more = joined_size (next ∷ pieces) in
    omega (arith, more, length-append piece (32 ∷ joined (next ∷ pieces)))

pub visible_append : (xs ys : List (List ℕ)) → all_visible xs ≡ true → all_visible ys ≡ true → all_visible (xs ++ ys) ≡ true
visible_append [] ys p q = q
visible_append (x ∷ xs) ys p q =
    let parts = and_parts (visible x) (all_visible xs) p in
    and_from _ _ parts.0 (visible_append xs ys parts.1 q)

-- ---- no newline

no_newline : (byte : ℕ) → nat_lt 32 byte ≡ true → not (byte == 10) ≡ true
no_newline byte shows = grind (arith, nat_tests)

visible_then : (piece rest : List ℕ) → visible piece ≡ true → is_plain rest ≡ true → is_plain (piece ++ rest) ≡ true
visible_then [] rest shows clean = clean
visible_then (byte ∷ bytes) rest shows clean =
    let parts = and_parts (nat_lt 32 byte) (visible bytes) shows in
    rw (no_newline byte parts.0, visible_then bytes rest parts.1 clean) refl

pub joined_plain : (pieces : List (List ℕ)) → all_visible pieces ≡ true → is_plain (joined pieces) ≡ true
joined_plain [] shows = refl
joined_plain (piece ∷ []) shows =
    subst (λ (line : List ℕ). is_plain line ≡ true) (append-nil piece)
    (visible_then piece [] (and_parts (visible piece) true shows).0 refl)
joined_plain (piece ∷ next ∷ pieces) shows =
    let parts = and_parts (visible piece) (all_visible (next ∷ pieces)) shows in
    visible_then piece (32 ∷ joined (next ∷ pieces)) parts.0 (joined_plain (next ∷ pieces) parts.1)
