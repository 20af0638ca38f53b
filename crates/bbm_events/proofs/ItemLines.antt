-- Lines of events, and the end: a row for each.
use Rattle.bbm_events.proofs.Common.{◌≡◌, ℕ, ◌*◌, ◌≤◌, List, [], ◌∷◌, ◌++◌, drop, Bool, true, false, ◌&&◌, cond}
use Rattle.bbm_events.proofs.Common.{nat_le, refl, ap, sym, ◌∙◌, subst, arith, Option, Some, None, Ok}
use Rattle.bbm_events.proofs.Common.{option_map, IfErr, leb-true, and_parts, eqb-true, Event, Item, Malformed}
use Rattle.bbm_events.proofs.Common.{BadLabel, MissingField, UnknownWord, Keyword, IsFieldCause, IsLineCause, Heading}
use Rattle.bbm_events.proofs.Common.{heading_ok, may_label, is_label, keyword_word}
use Rattle.bbm_events.proofs.Common.{keywords, fits_heading, item_fits, is_pe, is_value, is_root_lock, is_root_page}
use Rattle.bbm_events.proofs.Common.{label_fits, Codec, Fields, found, whole, line_after}
use Rattle.bbm_events.proofs.Common.{is_marked, label_value, label_field, label_fields, event_line}
use Rattle.bbm_events.proofs.Common.{event_fields, item_fields}
use Rattle.std.proofs.Common.{◌+◌, append_assoc, append-nil}
use Rattle.std.proofs.Math.Bool.{and-true}
use Rattle.std.proofs.lemmas.Bool.{and_from}
use Rattle.bbm_events.specs.declared.event.Event.TheVariants as event
use Rattle.bbm_events.specs.declared.event.Item.TheVariants as item
use Rattle.bbm_events.specs.declared.keyword.Keyword.TheVariants as first
use Rattle.bbm_events.specs.Lines.{item_of, item_line}
use Rattle.bbm_events.proofs.Codecs.{IsCodec, Ends, then_ends, bind_ok, on, a_word, both}
use Rattle.bbm_events.proofs.Joining.{all_visible, size, size_append, visible_append}
use Rattle.bbm_events.proofs.Labels.{label_visible, label_length}
use Rattle.bbm_events.proofs.LineFields.{pe, page, place, root_page, value, lock, root_lock_or_none, count, kind, dsb}
use Rattle.bbm_events.proofs.LineFields.{reg, op, operand}
use Rattle.bbm_events.proofs.Tables.{Grammar, IsLine, Row, AreLines, HasFirst, row, table, lines, widened, whole_ends}
use Rattle.bbm_events.proofs.Ranges.{any_heading}
use Rattle.bbm_events.proofs.WordsRead.{keyword_word_read}

-- the cause of a field is one of its line
pub of_field : (cause : Malformed) → IsFieldCause cause → IsLineCause cause
of_field BadLabel e = tt
of_field cause e = e

-- ---- the label behind an event

marked_is : (text : List ℕ) → is_marked text ≡ true → text ≡ 64 ∷ drop 1 text
marked_is [] e = cc
marked_is (byte ∷ bytes) e = ap (λ (b : ℕ). b ∷ bytes) (eqb-true byte 64 e)

-- a label that is read fits, and stood there
label_read_as : (version : ℕ) (rest : Fields) (x : Option (List ℕ) × Fields) → label_field version rest ≡ Ok x
    → (label_fits version x.0 ≡ true) × (rest ≡ label_fields x.0 ++ x.1)
label_read_as version [] x e =
    subst (λ (y : Option (List ℕ) × Fields). (label_fits version y.0 ≡ true) × ([] ≡ label_fields y.0 ++ y.1)) none (refl, refl)
  where
    none : ◌≡◌ {A = Option (List ℕ) × Fields} (None, []) x
    none = cc
label_read_as version (text ∷ rest) x e = by (may_label version) (is_marked text) (is_label (drop 1 text)) refl refl refl e
  where
    by : (may marked label : Bool) → may_label version ≡ may → is_marked text ≡ marked → is_label (drop 1 text) ≡ label
        → cond (may && marked) (found BadLabel (option_map Some (cond label (Some (drop 1 text)) None)) rest) (Ok (None, text ∷ rest)) ≡ Ok x
        → (label_fits version x.0 ≡ true) × (text ∷ rest ≡ label_fields x.0 ++ x.1)
    by true true true may mark label f =
        let some : ◌≡◌ {A = Option (List ℕ) × Fields} (Some (drop 1 text), rest) x = cc in (
          ap (λ (y : Option (List ℕ) × Fields). label_fits version y.0) (sym some) ∙ and_from _ _ may label,
          ap (λ (t : List ℕ). t ∷ rest) (marked_is text mark) ∙ ap (λ (y : Option (List ℕ) × Fields). label_fields y.0 ++ y.1) some,
        )
    by true true false may mark label f = cc
    by true false b may mark label f =
        let none : ◌≡◌ {A = Option (List ℕ) × Fields} (None, text ∷ rest) x = cc in
        (ap (λ (y : Option (List ℕ) × Fields). label_fits version y.0) (sym none), ap (λ (y : Option (List ℕ) × Fields). label_fields y.0 ++ y.1) none)
    by false marked b may mark label f =
        let none : ◌≡◌ {A = Option (List ℕ) × Fields} (None, text ∷ rest) x = cc in
        (ap (λ (y : Option (List ℕ) × Fields). label_fits version y.0) (sym none), ap (λ (y : Option (List ℕ) × Fields). label_fields y.0 ++ y.1) none)

label_read : (version : ℕ) (label : Option (List ℕ)) → label_fits version label ≡ true → label_field version (label_fields label) ≡ Ok (label, [])
label_read version None fits = refl
label_read version (Some text) fits =
    let parts = and_parts (may_label version) (is_label text) fits in
    ap (λ t. cond (t && true) (found BadLabel (option_map Some (label_value (64 ∷ text))) []) (Ok (None, (64 ∷ text) ∷ []))) parts.0
    ∙ ap (λ t. found BadLabel (option_map Some (cond t (Some text) None)) []) parts.1

label_shows : (version : ℕ) (label : Option (List ℕ)) → label_fits version label ≡ true
    → (all_visible (label_fields label) ≡ true) × (size (label_fields label) ≤ 34)
label_shows version None fits = (refl, omega arith)
label_shows version (Some text) fits =
    let label = (and_parts (may_label version) (is_label text) fits).1 in
    let few = label_length text label in
    (and_from _ _ (label_visible text label) refl, omega (arith, few))

label_ends : (version : ℕ) (rest : Fields) → Ends IsLineCause (label_field version rest)
label_ends version [] = tt
label_ends version (text ∷ rest) = by (may_label version && is_marked text) (option_map Some (label_value text))
  where
    by : (marked : Bool) (label : Option (Option (List ℕ))) → Ends IsLineCause (cond marked (found BadLabel label rest) (Ok (None, text ∷ rest)))
    by true None = tt
    by true (Some label) = tt
    by false label = tt

whole_item : (x : Item) (rest : Fields) {y : Item} → whole x rest ≡ Ok y → (rest ≡ []) × (x ≡ y)
whole_item x [] e = (refl, cc)
whole_item x (text ∷ rest) e = cc

module _ (h : Heading) where
  abbrev items : Grammar Item
  items = record {
    Sure = heading_ok h ≡ true;
    Cause = IsLineCause;
    Field = IsFieldCause;
    wide = of_field;
    Shown = λ x. item_fits h x ≡ true;
    fit = item_fits h;
    spelled = item_fields;
  }

  -- an event line, by the codec of what its event says
  event_is : {A : Type 0} {front : Fields} {n : ℕ} {codec : Codec A} (says : A → Event)
      → IsCodec (heading_ok h ≡ true) IsFieldCause n codec → nat_le (21 * n + 34) 150 ≡ true
      → ((x : A) → codec.fits x ≡ fits_heading h (says x))
      → ((x : A) → event_fields (says x) ≡ front ++ codec.written x)
      → IsLine items front true 150 (λ (x : A × Option (List ℕ)). item.Event (says x.0) x.1) (event_line h codec says)
  event_is {A = A} {front = front} {n = n} {codec = codec} says is few same spelled = record {
    tail = λ x. codec.written x.0 ++ label_fields x.1;
    fits = λ known rest x e. let r = read rest x e in
        ap (item_fits h) (sym r.4) ∙ and_from _ _ (sym (same r.0.0) ∙ is.fit rest r.0 r.2) r.5.0;
    once = λ rest x e. let r = read rest x e in
        ap (λ (left : Fields). front ++ left) (is.once rest r.0 r.2 ∙ ap (λ (left : Fields). codec.written r.0.0 ++ left) r.5.1)
        ∙ sym (spells (r.0.0, r.1)) ∙ ap item_fields r.4;
    ends = λ rest.
        then_ends IsLineCause (codec.read rest) _ (widened of_field (codec.read rest) (is.ends rest)) (λ v.
        then_ends IsLineCause (label_field h.version v.1) _ (label_ends h.version v.1) (λ label.
        whole_ends IsLineCause tt (item.Event (says v.0) label.0) label.1));
    spells = spells;
    again = λ ok x e. let both = parts x e in
        on (codec.read (codec.written x.0 ++ label_fields x.1)) _ (is.again ok x.0 (label_fields x.1) both.0)
        ∙ on (label_field h.version (label_fields x.1)) _ (label_read h.version x.1 both.1);
    shows = λ x e. visible_append (codec.written x.0) (label_fields x.1) (is.shows x.0) (label_shows h.version x.1 (parts x e).1).0;
    short = λ ok x e.
        let both = parts x e in
        let some = is.short ok x.0 both.0 in
        let more = (label_shows h.version x.1 both.1).1 in
        let all = leb-true (21 * n + 34) 150 few in
        omega (arith, some, more, all, size_append (codec.written x.0) (label_fields x.1));
  }
    where
      spells : (x : A × Option (List ℕ)) → event_fields (says x.0) ++ label_fields x.1 ≡ front ++ (codec.written x.0 ++ label_fields x.1)
      spells x = ap (λ (fs : Fields). fs ++ label_fields x.1) (spelled x.0) ∙ append_assoc front (codec.written x.0) (label_fields x.1)

      parts : (x : A × Option (List ℕ)) → item_fits h (item.Event (says x.0) x.1) ≡ true
          → (codec.fits x.0 ≡ true) × (label_fits h.version x.1 ≡ true)
      parts x e =
          let both = and_parts (fits_heading h (says x.0)) (label_fits h.version x.1) e in
          (same x.0 ∙ both.0, both.1)

      read : (rest : Fields) (x : Item) → event_line h codec says rest ≡ Ok x
          → (v : A × Fields) × (label : Option (List ℕ)) × (codec.read rest ≡ Ok v) × (label_field h.version v.1 ≡ Ok (label, []))
          × (item.Event (says v.0) label ≡ x) × ((label_fits h.version label ≡ true) × (v.1 ≡ label_fields label))
      read rest x e =
          let v = bind_ok (codec.read rest) _ e in
          let label = bind_ok (label_field h.version v.0.1) _ v.2 in
          let end = whole_item (item.Event (says v.0.0) label.0.0) label.0.1 label.2 in
          let kept = label_read_as h.version v.0.1 label.0 label.1 in (
            v.0,
            label.0.0,
            v.1,
            label.1 ∙ ap (λ (left : Fields). Ok (label.0.0, left)) end.0,
            end.1,
            (kept.0, kept.1 ∙ ap (λ (left : Fields). label_fields label.0.0 ++ left) end.0 ∙ append-nil (label_fields label.0.0)),
          )

  abbrev event_row : {A : Type 0} {front : Fields} {n : ℕ} {codec : Codec A} (says : A → Event)
      → IsCodec (heading_ok h ≡ true) IsFieldCause n codec → nat_le (21 * n + 34) 150 ≡ true
      → ((x : A) → codec.fits x ≡ fits_heading h (says x))
      → ((x : A) → event_fields (says x) ≡ front ++ codec.written x)
      → Row items front true 150 (event_line h codec says)
  event_row {A = A} says is few same spelled = record {
    C = A × Option (List ℕ);
    says = λ x. item.Event (says x.0) x.1;
    is = event_is says is few same spelled;
  }

  -- a row for each first word
  abbrev rows : (w : Keyword) → Row items (keyword_word w ∷ []) true 150 (line_after h w)
  rows first.Init = event_row (λ x. event.Init x.0 x.1) (both (pe h) (λ _. page)) refl (λ x. refl) (λ x. refl)
  rows first.Null = event_row (λ x. event.Null x.0 x.1) (both (pe h) (λ _. page)) refl (λ x. refl) (λ x. refl)
  rows first.Root =
      event_row (λ x. event.Root x.0.0.0 x.0.0.1 x.0.1 x.1)
      (both (both (both (pe h) (λ _. kind)) (λ _. root_lock_or_none)) (λ x. root_page h x.0.1)) refl
      (λ x. ap (λ t. t && is_root_lock x.0.1 && is_root_page h.world x.0.0.1 x.1) (and-true (is_pe h x.0.0.0))) (λ x. refl)
  rows first.Unroot = event_row (λ x. event.Unroot x.0 x.1) (both (pe h) (λ _. page)) refl (λ x. refl) (λ x. refl)
  rows first.Write =
      event_row (λ x. event.Write x.0.0 x.0.1 x.1) (both (both (pe h) (λ _. place)) (λ _. value)) refl (λ x. refl) (λ x. refl)
  rows first.Dsb = event_row (λ x. event.Dsb x.0 x.1) (both (pe h) (λ _. dsb)) refl (λ x. and-true (is_pe h x.0)) (λ x. refl)
  rows first.Dmb = event_row (λ x. event.Dmb x.0 x.1) (both (pe h) (λ _. dsb)) refl (λ x. and-true (is_pe h x.0)) (λ x. refl)
  rows first.Isb = event_row event.Isb (pe h) refl (λ x. refl) (λ x. refl)
  rows first.Tlbi =
      event_row (λ x. event.Tlbi x.0.0 x.0.1 x.1) (both (both (pe h) (λ _. op h.version)) (λ x. operand x.1)) refl
      (λ x. refl) (λ x. refl)
  rows first.Msr =
      event_row (λ x. event.Msr x.0.0 x.0.1 x.1) (both (both (pe h) (λ _. reg)) (λ _. value)) refl
      (λ x. ap (λ t. t && is_value x.1) (and-true (is_pe h x.0.0))) (λ x. refl)
  rows first.Lock = event_row (λ x. event.Lock x.0 x.1) (both (pe h) (λ _. lock)) refl (λ x. refl) (λ x. refl)
  rows first.Unlock = event_row (λ x. event.Unlock x.0 x.1) (both (pe h) (λ _. lock)) refl (λ x. refl) (λ x. refl)
  rows first.End = row tt item.End count refl (λ x. refl) (λ x. refl)

  -- the row of each item
  at : (x : Item) → (w : Keyword) × (v : (rows w).C) × ((rows w).says v ≡ x)
  at (item.Event (event.Init pe page) label) = (first.Init, ((pe, page), label), refl)
  at (item.Event (event.Null pe page) label) = (first.Null, ((pe, page), label), refl)
  at (item.Event (event.Root pe kind lock page) label) = (first.Root, ((((pe, kind), lock), page), label), refl)
  at (item.Event (event.Unroot pe page) label) = (first.Unroot, ((pe, page), label), refl)
  at (item.Event (event.Write pe place value) label) = (first.Write, (((pe, place), value), label), refl)
  at (item.Event (event.Dsb pe dsb) label) = (first.Dsb, ((pe, dsb), label), refl)
  at (item.Event (event.Dmb pe dsb) label) = (first.Dmb, ((pe, dsb), label), refl)
  at (item.Event (event.Isb pe) label) = (first.Isb, (pe, label), refl)
  at (item.Event (event.Tlbi pe op xt) label) = (first.Tlbi, (((pe, op), xt), label), refl)
  at (item.Event (event.Msr pe reg value) label) = (first.Msr, (((pe, reg), value), label), refl)
  at (item.Event (event.Lock pe lock) label) = (first.Lock, ((pe, lock), label), refl)
  at (item.Event (event.Unlock pe lock) label) = (first.Unlock, ((pe, lock), label), refl)
  at (item.End count) = (first.End, count, refl)

  first_of : (x : Item) → HasFirst item_fields x
  first_of x = let a = at x in
      (keyword_word a.0, (rows a.0).is.tail a.1, ap item_fields (sym a.2) ∙ (rows a.0).is.spells a.1)

  pub item_lines : AreLines items (item_of h) item_line
  unfolding item_of item_line
  item_lines =
      lines (table MissingField UnknownWord tt tt (a_word (heading_ok h ≡ true) keyword_word keywords keyword_word_read refl) rows (λ x. x) at (λ x e. refl)) refl first_of

pub item_of_fits : (h : Heading) (line : List ℕ) (x : Item) → item_of h line ≡ Ok x → item_fits h x ≡ true
item_of_fits h = (item_lines h).fits

pub item_one_line : (h : Heading) (line : List ℕ) (x : Item) → item_of h line ≡ Ok x → line ≡ item_line x
item_one_line h = (item_lines h).once

pub item_of_causes : (h : Heading) (line : List ℕ) → IfErr (item_of h line) IsLineCause
item_of_causes h = (item_lines h).ends

-- an event's line has a first word
pub event_fields_some : (event : Event) → HasFirst event_fields event
event_fields_some event =
    let some = first_of any_heading (item.Event event None) in
    (some.0, some.1, sym (append-nil (event_fields event)) ∙ some.2)
