-- What the laws of lines state on which other crates stand: of what a line is read as, and of what is written.
-- Source: project's own choice.
use Rattle.std.specs.Prelude.{◌≡◌, ◌≤◌, ℕ, List, length, true, Ok}
use Rattle.bbm_events.specs.Certificate.{certificate_line, claim_fits, claim_line}
use Rattle.bbm_events.specs.Fits.{item_fits}
use Rattle.bbm_events.specs.Heading.{Heading, heading_ok}
use Rattle.bbm_events.specs.Lines.{header_of, item_of, header_line, item_line}
use Rattle.bbm_events.specs.Spelling.{is_plain}
use Rattle.bbm_events.specs.declared.certificate.ClaimItem.{ClaimItem}
use Rattle.bbm_events.specs.declared.event.Item.{Item}

-- each header that a line spells has its numbers in their ranges
abbrev pub HeadersAreInRange : Type 0
HeadersAreInRange = (line : List ℕ) (heading : Heading) → header_of line ≡ Ok heading → heading_ok heading ≡ true

-- each item that a line spells fits the header under which the line is read
abbrev pub ItemsFit : Type 0
ItemsFit = (heading : Heading) (line : List ℕ) (item : Item) → item_of heading line ≡ Ok item
    → item_fits heading item ≡ true

-- both
pub record LineLaws : Type 0 where
  pub header : HeadersAreInRange
  pub item : ItemsFit

-- a written header is read as the same header, and a written item that fits is read as the same item
pub record WrittenIsRead : Type 0 where
  pub header : (heading : Heading) → heading_ok heading ≡ true → header_of (header_line heading) ≡ Ok heading
  pub item : (heading : Heading) (item : Item) → heading_ok heading ≡ true → item_fits heading item ≡ true
      → item_of heading (item_line item) ≡ Ok item

-- A written header, and a written item that fits, is one line: no byte of it is a newline, byte 10, and it has at most
-- 200 bytes.
pub record WrittenIsALine : Type 0 where
  pub header_plain : (heading : Heading) → is_plain (header_line heading) ≡ true
  pub header_short : (heading : Heading) → heading_ok heading ≡ true → length (header_line heading) ≤ 200
  pub item_plain : (heading : Heading) (item : Item) → item_fits heading item ≡ true → is_plain (item_line item) ≡ true
  pub item_short : (heading : Heading) (item : Item) → heading_ok heading ≡ true → item_fits heading item ≡ true
      → length (item_line item) ≤ 200

-- The same of a certificate: of its first line, of a written claim that fits, and of a written count.
pub record ClaimIsALine : Type 0 where
  pub first_plain : is_plain certificate_line ≡ true
  pub first_short : length certificate_line ≤ 200
  pub item_plain : (item : ClaimItem) → is_plain (claim_line item) ≡ true
  pub item_short : (heading : Heading) (item : ClaimItem) → heading_ok heading ≡ true → claim_fits heading item ≡ true
      → length (claim_line item) ≤ 200
