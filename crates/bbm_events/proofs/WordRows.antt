-- The words of a header: of all rows by one induction, and what is asked of each row by a test of their list.
use Rattle.bbm_events.proofs.Common.{◌≡◌, ℕ, suc, ◌≤◌, List, [], ◌∷◌, ◌++◌, length, Bool, true, false, not, ◌&&◌, ◌||◌}
use Rattle.bbm_events.proofs.Common.{cond, refl, ap, sym, ◌∙◌, arith, bytes_eq, bytes_eq-Decides, list_all}
use Rattle.bbm_events.proofs.Common.{and_parts, World, Fields}
use Rattle.std.proofs.Common.{◌+◌, append_assoc}
use Rattle.std.proofs.lemmas.Bool.{and_from, not-true}
use Rattle.bbm_events.specs.declared.header_words.HeaderWords.{HeaderWords}
use Rattle.bbm_events.specs.Heading.{WordRow, word_rows, words_ok, has_words, no_words}
use Rattle.bbm_events.specs.Lines.{header_words, read_words, said, said_words, word_field, word_fields}
use Rattle.bbm_events.proofs.Joining.{visible, all_visible, size, size_append, visible_append}

-- whether each word stands
abbrev Standing : List WordRow → Type 0
Standing [] = Unit {0}
Standing (row ∷ rows) = Bool × Standing rows

abbrev put : (rows : List WordRow) → Standing rows → HeaderWords → HeaderWords
put [] standing words = words
put (row ∷ rows) standing words = put rows standing.1 (row.put standing.0 words)

abbrev of : (rows : List WordRow) → HeaderWords → Standing rows
of [] words = tt
of (row ∷ rows) words = (row.stands words, of rows words)

abbrev none : (rows : List WordRow) → Standing rows
none [] = tt
none (row ∷ rows) = (false, none rows)

abbrev read : (rows : List WordRow) → Fields → Standing rows × Fields
read [] rest = (tt, rest)
read (row ∷ rows) rest =
    let here : Bool × Fields = word_field row.name rest in
    let more : Standing rows × Fields = read rows here.1 in
    ((here.0, more.0), more.1)

abbrev written : (rows : List WordRow) → Standing rows → Fields
written [] standing = []
written (row ∷ rows) standing = said standing.0 row.name ++ written rows standing.1

read_is : (rows : List WordRow) (words : HeaderWords) (rest : Fields)
    → ◌≡◌ {A = HeaderWords × Fields} (read_words rows words rest) (put rows (read rows rest).0 words, (read rows rest).1)
read_is [] words rest = refl
read_is (row ∷ rows) words rest = read_is rows (row.put (word_field row.name rest).0 words) (word_field row.name rest).1

said_is : (rows : List WordRow) (words : HeaderWords) → said_words rows words ≡ written rows (of rows words)
said_is [] words = refl
said_is (row ∷ rows) words = ap (λ (more : Fields). said (row.stands words) row.name ++ more) (said_is rows words)

-- ---- one line

-- a word that may stand is the field where it was read
pub may_word_once : (word : List ℕ) (rest : Fields) → rest ≡ said (word_field word rest).0 word ++ (word_field word rest).1
may_word_once word [] = refl
may_word_once word (text ∷ rest) = by (bytes_eq word text) refl
  where
    by : (b : Bool) → bytes_eq word text ≡ b
        → text ∷ rest ≡ said (cond {A = Bool × Fields} b (true, rest) (false, text ∷ rest)).0 word ++ (cond {A = Bool × Fields} b (true, rest) (false, text ∷ rest)).1
    by true e = ap (λ (t : List ℕ). t ∷ rest) (sym ((bytes_eq-Decides word text).0 e))
    by false e = refl

once : (rows : List WordRow) (rest : Fields) → rest ≡ written rows (read rows rest).0 ++ (read rows rest).1
once [] rest = refl
once (row ∷ rows) rest =
    let here : Bool × Fields = word_field row.name rest in
    may_word_once row.name rest
    ∙ ap (λ (left : Fields). said here.0 row.name ++ left) (once rows here.1)
    ∙ sym (append_assoc (said here.0 row.name) (written rows (read rows here.1).0) (read rows here.1).1)

-- the words that are read are those that stood there
pub words_once : (version : ℕ) (rest : Fields) → rest ≡ word_fields (header_words version rest).0 ++ (header_words version rest).1
words_once version rest = by (has_words version)
  where
    by : (b : Bool) → rest ≡ word_fields (cond {A = HeaderWords × Fields} b (read_words word_rows no_words rest) (no_words, rest)).0
        ++ (cond {A = HeaderWords × Fields} b (read_words word_rows no_words rest) (no_words, rest)).1
    by true = once word_rows rest
    by false = refl

-- ---- read again

-- no row has the name
abbrev pub is_apart : List ℕ → List WordRow → Bool
is_apart name rows = list_all (λ row. not (bytes_eq name row.name)) rows

abbrev are_apart : List WordRow → Bool
are_apart [] = true
are_apart (row ∷ rows) = is_apart row.name rows && are_apart rows

-- a word that stands is read, and one that doesn't where another field or none stands in its place
skipped : (name : List ℕ) (rows : List WordRow) (standing : Standing rows) → is_apart name rows ≡ true
    → ◌≡◌ {A = Bool × Fields} (word_field name (written rows standing)) (false, written rows standing)
skipped name [] standing apart = refl
skipped name (row ∷ rows) standing apart =
    let parts = and_parts (not (bytes_eq name row.name)) (is_apart name rows) apart in
    by standing.0 parts.0 (skipped name rows standing.1 parts.1)
  where
    by : (b : Bool) → not (bytes_eq name row.name) ≡ true
        → ◌≡◌ {A = Bool × Fields} (word_field name (written rows standing.1)) (false, written rows standing.1)
        → ◌≡◌ {A = Bool × Fields} (word_field name (said b row.name ++ written rows standing.1)) (false, said b row.name ++ written rows standing.1)
    by true other more = ap (λ t. cond {A = Bool × Fields} t (true, written rows standing.1) (false, row.name ∷ written rows standing.1)) (not-true (bytes_eq name row.name) other)
    by false other more = more

next : (b : Bool) (name : List ℕ) (rows : List WordRow) (standing : Standing rows) → is_apart name rows ≡ true
    → ◌≡◌ {A = Bool × Fields} (word_field name (said b name ++ written rows standing)) (b, written rows standing)
next true name rows standing apart =
    ap (λ t. cond {A = Bool × Fields} t (true, written rows standing) (false, name ∷ written rows standing)) ((bytes_eq-Decides name name).1 refl)
next false name rows standing apart = skipped name rows standing apart

again : (rows : List WordRow) (standing : Standing rows) → are_apart rows ≡ true
    → ◌≡◌ {A = Standing rows × Fields} (read rows (written rows standing)) (standing, [])
again [] standing apart = refl
again (row ∷ rows) standing apart =
    let parts = and_parts (is_apart row.name rows) (are_apart rows) apart in
    ap (λ (here : Bool × Fields). ((here.0, (read rows here.1).0), (read rows here.1).1)) (next standing.0 row.name rows standing.1 parts.0)
    ∙ ap (λ (more : Standing rows × Fields). ((standing.0, more.0), more.1)) (again rows standing.1 parts.1)

-- where no word may stand, none does
none_stands : (rows : List WordRow) (words : HeaderWords) (world : World)
    → list_all (λ row. not (row.stands words) || (false && row.of_world world)) rows ≡ true → of rows words ≡ none rows
none_stands [] words world e = refl
none_stands (row ∷ rows) words world e =
    let parts = and_parts (not (row.stands words) || false) (list_all (λ row. not (row.stands words) || (false && row.of_world world)) rows) e in
    ap (λ (b : Bool). (b, of rows words)) (by (row.stands words) parts.0)
    ∙ ap (λ (more : Standing rows). (false, more)) (none_stands rows words world parts.1)
  where
    by : (b : Bool) → (not b || false) ≡ true → b ≡ false
    by true f = cc
    by false f = refl

pub words_read : (version : ℕ) (world : World) (words : HeaderWords) → words_ok version world words ≡ true
    → ◌≡◌ {A = HeaderWords × Fields} (header_words version (word_fields words)) (words, [])
words_read version world words fits = by (has_words version) fits
  where
    by : (b : Bool) → list_all (λ row. not (row.stands words) || (b && row.of_world world)) word_rows ≡ true
        → ◌≡◌ {A = HeaderWords × Fields} (cond {A = HeaderWords × Fields} b (read_words word_rows no_words (word_fields words)) (no_words, word_fields words)) (words, [])
    by true f =
        ap (read_words word_rows no_words) (said_is word_rows words)
        ∙ read_is word_rows no_words (written word_rows (of word_rows words))
        ∙ ap (λ (x : Standing word_rows × Fields). (put word_rows x.0 no_words, x.1)) (again word_rows (of word_rows words) refl)
    by false f =
        let empty = none_stands word_rows words world f in
        ap (λ (fields : Fields). (no_words, fields)) (said_is word_rows words ∙ ap (written word_rows) empty)
        ∙ ap (λ (standing : Standing word_rows). (put word_rows standing no_words, [])) (sym empty)

-- a word in front of them
pub word_next : (b : Bool) (name : List ℕ) (words : HeaderWords) → is_apart name word_rows ≡ true
    → ◌≡◌ {A = Bool × Fields} (word_field name (said b name ++ word_fields words)) (b, word_fields words)
word_next b name words apart =
    ap (λ (fields : Fields). word_field name (said b name ++ fields)) (said_is word_rows words)
    ∙ next b name word_rows (of word_rows words) apart
    ∙ ap (λ (fields : Fields). (b, fields)) (sym (said_is word_rows words))

-- ---- one short line

pub said_shows : (b : Bool) (word : List ℕ) → visible word ≡ true
    → (all_visible (said b word) ≡ true) × (size (said b word) ≤ suc (length word))
said_shows true word shows = (and_from _ _ shows refl, omega arith)
said_shows false word shows = (refl, omega arith)

abbrev total : List WordRow → ℕ
total [] = 0
total (row ∷ rows) = suc (length row.name) + total rows

shows : (rows : List WordRow) (words : HeaderWords) → list_all (λ row. visible row.name) rows ≡ true
    → (all_visible (said_words rows words) ≡ true) × (size (said_words rows words) ≤ total rows)
shows [] words clean = (refl, omega arith)
shows (row ∷ rows) words clean =
    let parts = and_parts (visible row.name) (list_all (λ row. visible row.name) rows) clean in
    let here = said_shows (row.stands words) row.name parts.0 in
    let more = shows rows words parts.1 in
    let few = here.1 in
    let left = more.1 in (
      visible_append (said (row.stands words) row.name) (said_words rows words) here.0 more.0,
      omega (arith, few, left, size_append (said (row.stands words) row.name) (said_words rows words)),
    )

pub words_show : (words : HeaderWords) → (all_visible (word_fields words) ≡ true) × (size (word_fields words) ≤ 27)
words_show words = shows word_rows words refl
