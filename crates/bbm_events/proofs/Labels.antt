-- A label that is kept in 32 bytes is the front of them, and each byte of it shows; the table of the bytes of labels, and
-- four of them asked at once.
use Rattle.bbm_events.proofs.Common.{◌≡◌, ℕ, ◌<◌, List, [], ◌∷◌, true, false, ◌&&◌, ◌≤◌, length, drop, refl, ap, ◌∙◌}
use Rattle.bbm_events.proofs.Common.{arith, nat_lt, and_parts, leb-true, list_all, nat_tests, is_label_byte, is_label}
use Rattle.std.proofs.Common.{◌-◌, nat_le, take, get_or, slice_index_or}
use Rattle.std.proofs.Math.ListN.{replicate}
use Rattle.std.proofs.Math.Seq.{take-append_seam}
use Rattle.std.proofs.lemmas.Bool.{agree_below_at}
use Rattle.std.proofs.lemmas.List.{take_all}
use Rattle.std.proofs.Math.Bool.{and_assoc}
use Rattle.bbm_events.proofs.Joining.{visible}
use Rattle.bbm_events.specs.Label.{padded}
use Rattle.bbm_events.specs.declared.label.TheConstants.{IN_LABEL}

pub label_length : (text : List ℕ) → is_label text ≡ true → length text ≤ 32
label_length text e =
    let sizes = and_parts (nat_le 1 (length text) && nat_le (length text) 32) (list_all is_label_byte text) e in
    leb-true (length text) 32 (and_parts (nat_le 1 (length text)) (nat_le (length text) 32) sizes.0).1

pub front : (text : List ℕ) → take (length text) (padded text) ≡ text
front text = take-append_seam text (drop (length text) (replicate 32 0))

byte_visible : (byte : ℕ) → is_label_byte byte ≡ true → nat_lt 32 byte ≡ true
byte_visible byte e = grind (arith, nat_tests)

bytes_visible : (text : List ℕ) → list_all is_label_byte text ≡ true → visible text ≡ true
bytes_visible [] e = refl
bytes_visible (byte ∷ bytes) e =
    let parts = and_parts (is_label_byte byte) (list_all is_label_byte bytes) e in
    rw (byte_visible byte parts.0) (bytes_visible bytes parts.1)

pub label_visible : (text : List ℕ) → is_label text ≡ true → visible text ≡ true
label_visible text e = bytes_visible text (and_parts (nat_le 1 (length text) && nat_le (length text) 32) (list_all is_label_byte text) e).1

pub ruleset kept = (label_length, front)

-- the table tells of each byte whether it can stand in a label
pub told : (byte : ℕ) → byte < 256 → slice_index_or IN_LABEL byte false ≡ is_label_byte byte
told byte below = agree_below_at (λ b. slice_index_or IN_LABEL b false) is_label_byte 256 byte refl below

-- the first four bytes, and then the others, in the form of a slice
pub first_four : (text : List ℕ) → 4 ≤ length text
    → (is_label_byte (get_or text 0 0) && is_label_byte (get_or text 1 0) && is_label_byte (get_or text 2 0)
    && is_label_byte (get_or text 3 0) && list_all is_label_byte (take (length text - 4) (drop 4 text)))
    ≡ list_all is_label_byte text
first_four [] some = absurd (omega arith)
first_four (a ∷ []) some = absurd (omega arith)
first_four (a ∷ b ∷ []) some = absurd (omega arith)
first_four (a ∷ b ∷ c ∷ []) some = absurd (omega arith)
first_four (a ∷ b ∷ c ∷ d ∷ rest) some =
    let at = is_label_byte in
    ap (λ (more : List ℕ). at a && at b && at c && at d && list_all at more)
    (take_all (length (a ∷ b ∷ c ∷ d ∷ rest) - 4) rest (omega arith))
    ∙ and_assoc (at a && at b && at c) (at d) (list_all at rest)
    ∙ and_assoc (at a && at b) (at c) (at d && list_all at rest)
    ∙ and_assoc (at a) (at b) (at c && (at d && list_all at rest))
