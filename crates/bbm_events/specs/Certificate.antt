-- The grammar of the lines of a certificate: what a line says, or the first cause for which it says nothing, and the
-- one line of what it says. A certificate stands beside a log, whose header its claims are read under.
-- Source: project's own choice.
use Rattle.std.specs.Prelude.{ℕ, ◌^◌, List, [], ◌∷◌, Bool, ◌&&◌, nat_lt, ◌==◌, if◌then◌else◌, Result, Ok, Err}
use Rattle.std.specs.Prelude.{codes, decimal, bytes_eq}
use Rattle.bbm_regimes.specs.declared.regime.Tag.{Tag}
use Rattle.bbm_regimes.specs.declared.regime.Tag.TheVariants as tag
use Rattle.bbm_events.specs.declared.claim.Claim.{Claim}
use Rattle.bbm_events.specs.declared.claim.Claim.TheVariants.{Place, Two, Taken}
use Rattle.bbm_events.specs.declared.certificate.ClaimItem.{ClaimItem}
use Rattle.bbm_events.specs.declared.certificate.ClaimItem.TheVariants as item
use Rattle.bbm_events.specs.declared.certificate.CertificateWord.{CertificateWord}
use Rattle.bbm_events.specs.declared.certificate.CertificateWord.TheVariants as first
use Rattle.bbm_events.specs.declared.certificate.ClaimWord.{ClaimWord}
use Rattle.bbm_events.specs.declared.certificate.ClaimWord.TheVariants as second
use Rattle.bbm_events.specs.declared.certificate.TagWord.{TagWord}
use Rattle.bbm_events.specs.declared.certificate.TagWord.TheVariants as word
use Rattle.bbm_events.specs.declared.malformed.Malformed.{Malformed}
use Rattle.bbm_events.specs.declared.malformed.Malformed.TheVariants.{NoMagic, BadNumber}
use Rattle.bbm_events.specs.Heading.{Heading}
use Rattle.bbm_events.specs.Spelling.{fields, joined, hex}
use Rattle.bbm_events.specs.Fits.{is_pe, is_place, is_count}
use Rattle.bbm_events.specs.Codec.{◌>>=◌, Fields, Codec, decimals, words, ◌&>◌, ◌&◌, mapped, line}
use Rattle.bbm_events.specs.Lines.{pe_field, place_field, count_field}

-- the first line of a certificate
abbrev pub certificate_line : List ℕ
certificate_line = codes "bbmcert 1"

-- another first line is none of a certificate
abbrev pub certificate_of : List ℕ → Result (Unit {0}) Malformed
certificate_of line = if bytes_eq line certificate_line then Ok tt else Err NoMagic

-- the first word of a line after it
abbrev pub certificate_word : CertificateWord → List ℕ
certificate_word first.Claim = codes "c"
certificate_word first.End = codes "end"

abbrev pub certificate_words : List CertificateWord
certificate_words = first.Claim ∷ first.End ∷ []

-- the word of a claim
abbrev pub claim_word : ClaimWord → List ℕ
claim_word second.Place = codes "place"
claim_word second.Two = codes "two"
claim_word second.Tag = codes "tag"

abbrev pub claim_words : List ClaimWord
claim_words = second.Place ∷ second.Two ∷ second.Tag ∷ []

-- the word of a tag
abbrev pub tag_word : TagWord → List ℕ
tag_word word.El2 = codes "el2"
tag_word word.Vmid = codes "vmid"
tag_word word.Asid = codes "asid"
tag_word word.Ttbr1 = codes "ttbr1"

abbrev pub tag_words : List TagWord
tag_words = word.El2 ∷ word.Vmid ∷ word.Asid ∷ word.Ttbr1 ∷ []

-- A tag is spelled as its word and its number, which is 0 for a tag that has none.
abbrev pub word_of_tag : Tag → TagWord
word_of_tag tag.El2 = word.El2
word_of_tag (tag.Vmid vmid) = word.Vmid
word_of_tag (tag.Asid asid) = word.Asid
word_of_tag tag.Ttbr1 = word.Ttbr1

abbrev pub number_of_tag : Tag → ℕ
number_of_tag tag.El2 = 0
number_of_tag (tag.Vmid vmid) = vmid
number_of_tag (tag.Asid asid) = asid
number_of_tag tag.Ttbr1 = 0

abbrev pub tag_with : TagWord → ℕ → Tag
tag_with word.El2 n = tag.El2
tag_with word.Vmid n = tag.Vmid n
tag_with word.Asid n = tag.Asid n
tag_with word.Ttbr1 n = tag.Ttbr1

abbrev pub has_number : TagWord → ℕ → Bool
has_number word.El2 n = n == 0
has_number word.Vmid n = nat_lt n (2 ^ 16)
has_number word.Asid n = nat_lt n (2 ^ 16)
has_number word.Ttbr1 n = n == 0

abbrev pub is_tag : Tag → Bool
is_tag tag = has_number (word_of_tag tag) (number_of_tag tag)

-- A position counts events from 1, as the count of an `end` line does. No event has position 0.
abbrev pub is_position : ℕ → Bool
is_position n = is_count n

-- which claims can stand in a certificate beside a log with a header
abbrev pub is_claim : Heading → Claim → Bool
is_claim h (Place pe place b t d) = is_pe h pe && is_place place && is_position b && (is_position t && is_position d)
is_claim h (Two pe place b t1 d1 t2 d2) =
    is_pe h pe && is_place place && is_position b && (is_position t1 && is_position d1)
    && (is_position t2 && is_position d2)
is_claim h (Taken pe tag t d) = is_pe h pe && is_tag tag && (is_position t && is_position d)

-- the same of a line: a claim fits, and the count of an end is below 2 ^ 32
abbrev pub claim_fits : Heading → ClaimItem → Bool
claim_fits h (item.Claim claim) = is_claim h claim
claim_fits h (item.End count) = is_count count

-- The fields of claims.

abbrev pub certificate_word_field : Codec CertificateWord
certificate_word_field = words certificate_word certificate_words

abbrev pub claim_word_field : Codec ClaimWord
claim_word_field = words claim_word claim_words

abbrev pub tag_word_field : Codec TagWord
tag_word_field = words tag_word tag_words

abbrev pub tag_number_field : TagWord → Codec ℕ
tag_number_field word = decimals BadNumber (has_number word)

-- `TAGKIND NUM`
abbrev pub tag_fields : Codec Tag
tag_fields = mapped (tag_word_field &> tag_number_field) (λ (word, n). tag_with word n) (λ tag. (word_of_tag tag, number_of_tag tag))

abbrev pub position_field : Codec ℕ
position_field = count_field

-- `T D`, a TLBI and the DSB that answers it
abbrev pub flush_fields : Codec (ℕ × ℕ)
flush_fields = position_field & position_field

-- The table of claims: what follows each second word, and what it says.
abbrev pub claim_after : Heading → ClaimWord → Fields → Result ClaimItem Malformed
claim_after h second.Place =
    line (pe_field h & place_field & position_field & flush_fields)
    (λ (((pe, place), b), (t, d)). item.Claim (Place pe place b t d))
claim_after h second.Two =
    line (pe_field h & place_field & position_field & flush_fields & flush_fields)
    (λ ((((pe, place), b), (t1, d1)), (t2, d2)). item.Claim (Two pe place b t1 d1 t2 d2))
claim_after h second.Tag =
    line (pe_field h & tag_fields & flush_fields) (λ ((pe, tag), (t, d)). item.Claim (Taken pe tag t d))

-- the word of a claim and its fields
abbrev pub any_claim : Heading → Fields → Result ClaimItem Malformed
any_claim h rest = do
  word ← claim_word_field.read rest
  claim_after h word.0 word.1

-- The table of lines: what follows each first word.
abbrev pub certificate_after : Heading → CertificateWord → Fields → Result ClaimItem Malformed
certificate_after h first.Claim = any_claim h
certificate_after h first.End = line count_field item.End

-- A line of a certificate after its first.
unfoldable pub claim_of : Heading → List ℕ → Result ClaimItem Malformed
claim_of h line = do
  word ← certificate_word_field.read (fields line)
  certificate_after h word.0 word.1

-- The other direction: the fields behind `c`.
abbrev pub claim_fields : Claim → Fields
claim_fields (Place pe place b t d) =
    codes "place" ∷ decimal pe ∷ hex place ∷ decimal b ∷ decimal t ∷ decimal d ∷ []
claim_fields (Two pe place b t1 d1 t2 d2) =
    codes "two" ∷ decimal pe ∷ hex place ∷ decimal b ∷ decimal t1 ∷ decimal d1 ∷ decimal t2 ∷ decimal d2 ∷ []
claim_fields (Taken pe tag t d) =
    codes "tag" ∷ decimal pe ∷ tag_word (word_of_tag tag) ∷ decimal (number_of_tag tag) ∷ decimal t ∷ decimal d ∷ []

-- all fields of a line
abbrev pub claim_item_fields : ClaimItem → Fields
claim_item_fields (item.Claim claim) = codes "c" ∷ claim_fields claim
claim_item_fields (item.End count) = codes "end" ∷ decimal count ∷ []

-- the one line of what a line says
unfoldable pub claim_line : ClaimItem → List ℕ
claim_line item = joined (claim_item_fields item)
