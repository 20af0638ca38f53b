-- The grammar of a log: which header or item a line spells, or the first cause for which it spells none,
-- and the one line of a header or an item. A line is its bytes without the newline.
-- Source: project's own choice.
use Rattle.std.specs.Prelude.{ℕ, List, [], ◌∷◌, ◌++◌, drop, Bool, true, false, ◌&&◌, ◌==◌, if◌then◌else◌, Option, Some}
use Rattle.std.specs.Prelude.{None}
use Rattle.std.specs.Prelude.{Result, Ok, Err, codes, decimal, bytes_eq}
use Rattle.std.specs.Option.{option_map}
use Rattle.bbm_regimes.specs.declared.regime.World.{World}
use Rattle.bbm_regimes.specs.declared.regime.World.TheVariants.{Hyp, Kernel}
use Rattle.bbm_regimes.specs.declared.regime.Kind.{Kind}
use Rattle.bbm_regimes.specs.declared.regime.Reg.{Reg}
use Rattle.bbm_regimes.specs.declared.regime.AsidFrom.{AsidFrom}
use Rattle.bbm_barriers.specs.declared.Dsb.{Dsb}
use Rattle.bbm_tlbi_scope.specs.declared.op.TlbiOp.{TlbiOp}
use Rattle.bbm_tlbi_scope.specs.Operations.{has_operand}
use Rattle.bbm_events.specs.declared.event.Event.{Event}
use Rattle.bbm_events.specs.declared.event.Event.TheVariants as event
use Rattle.bbm_events.specs.declared.event.Item.{Item}
use Rattle.bbm_events.specs.declared.event.Item.TheVariants as item
use Rattle.bbm_events.specs.declared.keyword.Keyword.{Keyword}
use Rattle.bbm_events.specs.declared.keyword.Keyword.TheVariants as first
use Rattle.bbm_events.specs.declared.malformed.Malformed.{Malformed}
use Rattle.bbm_events.specs.declared.malformed.Malformed.TheVariants.{NoMagic, BadHeader, BadNumber, BadPe}
use Rattle.bbm_events.specs.declared.malformed.Malformed.TheVariants.{BadAddress, BadLabel}
use Rattle.bbm_events.specs.Heading.{Heading, heading_ok, is_version, has_op, has_words, may_label, may_share, no_words}
use Rattle.bbm_events.specs.Heading.{WordRow, word_rows}
use Rattle.bbm_events.specs.declared.header_words.HeaderWords.{HeaderWords}
use Rattle.bbm_events.specs.declared.header_words.WorldWord.{WorldWord}
use Rattle.bbm_events.specs.declared.header_words.WorldWord.TheVariants as world
pub use Rattle.bbm_events.specs.Codec.{passing}
use Rattle.bbm_events.specs.Codec.{◌>>=◌, Fields, FieldRead, found, whole, Codec, field, field_or, decimals}
use Rattle.bbm_events.specs.Codec.{hexes, words, some_words, ◌&>◌, ◌&◌, line}
use Rattle.bbm_events.specs.Label.{is_label}
use Rattle.bbm_events.specs.Spelling.{fields, joined, hex, decimal_value, hex_value}
use Rattle.bbm_events.specs.Words.{with_word, keyword_word, keywords, cnp_word, cnps, kind_word, kinds, reg_word, regs}
use Rattle.bbm_events.specs.Words.{world_word, world_words, asid_from_word, asid_froms, dsb_word, dsbs, op_word, ops}
use Rattle.bbm_events.specs.Fits.{is_pe, is_page, is_place, is_value, is_root_page, is_lock, is_root_lock, is_count, is_operand}

-- The header.

abbrev pub exactly : List ℕ → List ℕ → Option (List ℕ)
exactly word text = if bytes_eq word text then Some text else None

abbrev pub magic_field : Codec (List ℕ)
magic_field = field_or NoMagic NoMagic (exactly (codes "bbmlog")) (λ _. codes "bbmlog") (bytes_eq (codes "bbmlog"))

-- the second field of a header, `1` to `5`
abbrev pub version_field : Codec ℕ
version_field = field_or NoMagic NoMagic (λ text. passing is_version (decimal_value text)) decimal is_version

abbrev pub header_field : {A : Type 0} → (List ℕ → Option A) → (A → List ℕ) → (A → Bool) → Codec A
header_field = field_or BadHeader BadHeader

abbrev pub world_field : Codec WorldWord
world_field = header_field (with_word world_word world_words) world_word (λ _. true)

abbrev pub number_field : Codec ℕ
number_field = header_field decimal_value decimal is_value

abbrev pub asid_from_field : Codec AsidFrom
asid_from_field = header_field (with_word asid_from_word asid_froms) asid_from_word (λ _. true)

abbrev pub shared_field : Codec Bool
shared_field = header_field (with_word cnp_word cnps) cnp_word (λ _. true)

-- a word that may stand or not: whether it does, and what follows
abbrev pub word_field : List ℕ → Fields → Bool × Fields
word_field word [] = (false, [])
word_field word (text ∷ rest) = if bytes_eq word text then (true, rest) else (false, text ∷ rest)

-- Whether TLBs are shared. Version 1 doesn't say it, versions 2 to 4 do by `cnp` or `-`, and later ones by the word
-- `cnp` or by none.
abbrev pub cnp_field : ℕ → Fields → FieldRead Bool
cnp_field version rest = if has_words version then Ok (word_field (codes "cnp") rest)
    else (if may_share version then shared_field.read rest else Ok (false, rest))

-- the words, each of which stands or doesn't, in the order of their rows
abbrev pub read_words : List WordRow → HeaderWords → Fields → HeaderWords × Fields
read_words [] words rest = (words, rest)
read_words (row ∷ rows) words rest =
    let here : Bool × Fields = word_field row.name rest in read_words rows (row.put here.0 words) here.1

-- what else the words say; before version 5 there is none
abbrev pub header_words : ℕ → Fields → HeaderWords × Fields
header_words version rest = if has_words version then read_words word_rows no_words rest else (no_words, rest)

-- the heading, where no field is left and its numbers are in their ranges
abbrev pub checked : Heading → Fields → Result Heading Malformed
checked h [] = if heading_ok h then Ok h else Err BadHeader
checked h (text ∷ rest) = Err BadHeader

-- what follows the numbers: whether TLBs are shared, and the words
abbrev pub heading_end : ℕ → ℕ → World → Fields → Result Heading Malformed
heading_end version pes world rest = do
  cnp ← cnp_field version rest
  let words : HeaderWords × Fields = header_words version cnp.1
  checked (record { version = version; pes = pes; cnp = cnp.0; words = words.0; world = world }) words.1

-- the numbers of a header, by the number of PEs and the world that they tell, and what follows them
abbrev pub heading_line : {A : Type 0} → ℕ → Codec A → (A → ℕ × World) → Fields → Result Heading Malformed
heading_line version codec says rest = do
  x ← codec.read rest
  heading_end version (says x.0).0 (says x.0).1 x.1

-- The table of headers: what follows the word of each world, `PES EL2START S2START S2PAGES` or
-- `PES START0 START1 ASIDFROM`, and then in versions 2 to 4 one more field, `cnp` or `-`, and from version 5 on words.
abbrev pub world_after : ℕ → WorldWord → Fields → Result Heading Malformed
world_after version world.Hyp =
    heading_line version (number_field & number_field & number_field & number_field)
    (λ (((pes, el2_start), s2_start), s2_pages).
    (pes, Hyp (record { el2_start = el2_start; s2_start = s2_start; s2_pages = s2_pages })))
world_after version world.Kernel =
    heading_line version (number_field & number_field & number_field & asid_from_field)
    (λ (((pes, start0), start1), asid_from).
    (pes, Kernel (record { start0 = start0; start1 = start1; asid_from = asid_from })))

-- the fields after the version
abbrev pub version_after : ℕ → Fields → Result Heading Malformed
version_after version rest = do
  word ← world_field.read rest
  world_after version word.0 word.1

-- Line 1: `bbmlog VERSION`, the word of the world, and what follows it.
unfoldable pub header_of : List ℕ → Result Heading Malformed
header_of line = do
  magic ← magic_field.read (fields line)
  version ← version_field.read magic.1
  version_after version.0 version.1

-- The fields of event lines.

abbrev pub pe_field : Heading → Codec ℕ
pe_field h = decimals BadPe (is_pe h)

abbrev pub page_field : Codec ℕ
page_field = hexes BadAddress is_page

abbrev pub place_field : Codec ℕ
place_field = hexes BadAddress is_place

abbrev pub root_page_field : Heading → Kind → Codec ℕ
root_page_field h kind = hexes BadAddress (is_root_page h.world kind)

abbrev pub value_field : Codec ℕ
value_field = field BadNumber hex_value hex is_value

-- an operand stands exactly where the operation has one
abbrev pub operand_fields : TlbiOp → ℕ → Fields
operand_fields op xt = if has_operand op then hex xt ∷ [] else []

abbrev pub operand_field : TlbiOp → Codec ℕ
operand_field op = record {
  read = λ rest. if has_operand op then value_field.read rest else Ok (0, rest);
  written = operand_fields op;
  fits = is_operand op;
}

abbrev pub lock_field : Codec ℕ
lock_field = decimals BadNumber is_lock

-- a lock, or `-` for none
abbrev pub root_lock : List ℕ → Option (Option ℕ)
root_lock text = if bytes_eq text (codes "-") then Some None else option_map Some (passing is_lock (decimal_value text))

abbrev pub lock_text : Option ℕ → List ℕ
lock_text None = codes "-"
lock_text (Some lock) = decimal lock

abbrev pub root_lock_field : Codec (Option ℕ)
root_lock_field = field BadNumber root_lock lock_text is_root_lock

abbrev pub count_field : Codec ℕ
count_field = decimals BadNumber is_count

abbrev pub kind_field : Codec Kind
kind_field = words kind_word kinds

abbrev pub dsb_field : Codec Dsb
dsb_field = words dsb_word dsbs

abbrev pub op_field : ℕ → Codec TlbiOp
op_field version = some_words op_word ops (has_op version)

abbrev pub reg_field : Codec Reg
reg_field = words reg_word regs

-- the first word of a line; a line always has a first field, if an empty one
abbrev pub keyword_field : Codec Keyword
keyword_field = words keyword_word keywords

-- a field that is marked as a label
abbrev pub is_marked : List ℕ → Bool
is_marked [] = false
is_marked (byte ∷ bytes) = byte == 64

-- the label behind the mark `@`
abbrev pub label_value : List ℕ → Option (List ℕ)
label_value text = if is_label (drop 1 text) then Some (drop 1 text) else None

-- the label that follows the last field of an event line, where one stands there
abbrev pub label_field : ℕ → Fields → FieldRead (Option (List ℕ))
label_field version [] = Ok (None, [])
label_field version (text ∷ rest) =
    if may_label version && is_marked text then found BadLabel (option_map Some (label_value text)) rest
    else Ok (None, text ∷ rest)

-- the event with its label, where no field is left
abbrev pub event_item : Heading → Event → Fields → Result Item Malformed
event_item h event rest = do
  label ← label_field h.version rest
  whole (item.Event event label.0) label.1

-- what an event line says by a value, behind which a label can stand
abbrev pub event_line : {A : Type 0} → Heading → Codec A → (A → Event) → Fields → Result Item Malformed
event_line h codec says rest = do
  x ← codec.read rest
  event_item h (says x.0) x.1

-- The table of lines: what follows each first word, and what it says. No label follows the count of the end.
abbrev pub line_after : Heading → Keyword → Fields → Result Item Malformed
line_after h first.Init = event_line h (pe_field h & page_field) (λ (pe, page). event.Init pe page)
line_after h first.Null = event_line h (pe_field h & page_field) (λ (pe, page). event.Null pe page)
line_after h first.Root =
    event_line h (pe_field h & kind_field & root_lock_field &> (λ x. root_page_field h x.0.1))
    (λ (((pe, kind), lock), page). event.Root pe kind lock page)
line_after h first.Unroot = event_line h (pe_field h & page_field) (λ (pe, page). event.Unroot pe page)
line_after h first.Write =
    event_line h (pe_field h & place_field & value_field) (λ ((pe, place), value). event.Write pe place value)
line_after h first.Dsb = event_line h (pe_field h & dsb_field) (λ (pe, dsb). event.Dsb pe dsb)
line_after h first.Dmb = event_line h (pe_field h & dsb_field) (λ (pe, dsb). event.Dmb pe dsb)
line_after h first.Isb = event_line h (pe_field h) event.Isb
line_after h first.Tlbi =
    event_line h (pe_field h & op_field h.version &> (λ x. operand_field x.1)) (λ ((pe, op), xt). event.Tlbi pe op xt)
line_after h first.Msr =
    event_line h (pe_field h & reg_field & value_field) (λ ((pe, reg), value). event.Msr pe reg value)
line_after h first.Lock = event_line h (pe_field h & lock_field) (λ (pe, lock). event.Lock pe lock)
line_after h first.Unlock = event_line h (pe_field h & lock_field) (λ (pe, lock). event.Unlock pe lock)
line_after h first.End = line count_field item.End

-- A line after the header.
unfoldable pub item_of : Heading → List ℕ → Result Item Malformed
item_of h line = do
  word ← keyword_field.read (fields line)
  line_after h word.0 word.1

-- The other direction: the fields of a header and of an item, with a space between two of them.

-- a word, where it is said
abbrev pub said : Bool → List ℕ → Fields
said true word = word ∷ []
said false word = []

abbrev pub cnp_fields : ℕ → Bool → Fields
cnp_fields version cnp = if has_words version then said cnp (codes "cnp")
    else (if may_share version then cnp_word cnp ∷ [] else [])

abbrev pub said_words : List WordRow → HeaderWords → Fields
said_words [] words = []
said_words (row ∷ rows) words = said (row.stands words) row.name ++ said_words rows words

abbrev pub word_fields : HeaderWords → Fields
word_fields words = said_words word_rows words

-- the world's word, the number of PEs and the world's fields, with those that follow
abbrev pub header_fields : ℕ → World → Fields → Fields
header_fields pes (Hyp world) after =
    codes "hyp" ∷ decimal pes ∷ decimal world.el2_start ∷ decimal world.s2_start ∷ decimal world.s2_pages ∷ after
header_fields pes (Kernel world) after =
    codes "kernel" ∷ decimal pes ∷ decimal world.start0 ∷ decimal world.start1 ∷ asid_from_word world.asid_from ∷ after

-- the one line of a header
unfoldable pub header_line : Heading → List ℕ
header_line h = joined (codes "bbmlog" ∷ decimal h.version
    ∷ header_fields h.pes h.world (cnp_fields h.version h.cnp ++ word_fields h.words))

abbrev pub event_fields : Event → Fields
event_fields (event.Init pe page) = codes "init" ∷ decimal pe ∷ hex page ∷ []
event_fields (event.Null pe page) = codes "null" ∷ decimal pe ∷ hex page ∷ []
event_fields (event.Root pe kind lock page) =
    codes "root" ∷ decimal pe ∷ kind_word kind ∷ lock_text lock ∷ hex page ∷ []
event_fields (event.Unroot pe page) = codes "unroot" ∷ decimal pe ∷ hex page ∷ []
event_fields (event.Write pe place value) = codes "w" ∷ decimal pe ∷ hex place ∷ hex value ∷ []
event_fields (event.Dsb pe dsb) = codes "dsb" ∷ decimal pe ∷ dsb_word dsb ∷ []
event_fields (event.Dmb pe dsb) = codes "dmb" ∷ decimal pe ∷ dsb_word dsb ∷ []
event_fields (event.Isb pe) = codes "isb" ∷ decimal pe ∷ []
event_fields (event.Tlbi pe op xt) = codes "tlbi" ∷ decimal pe ∷ op_word op ∷ operand_fields op xt
event_fields (event.Msr pe reg value) = codes "msr" ∷ decimal pe ∷ reg_word reg ∷ hex value ∷ []
event_fields (event.Lock pe lock) = codes "lock" ∷ decimal pe ∷ decimal lock ∷ []
event_fields (event.Unlock pe lock) = codes "unlock" ∷ decimal pe ∷ decimal lock ∷ []

abbrev pub label_fields : Option (List ℕ) → Fields
label_fields None = []
label_fields (Some label) = (64 ∷ label) ∷ []

abbrev pub item_fields : Item → Fields
item_fields (item.Event event label) = event_fields event ++ label_fields label
item_fields (item.End count) = codes "end" ∷ decimal count ∷ []

-- the one line of an item
unfoldable pub item_line : Item → List ℕ
item_line item = joined (item_fields item)
