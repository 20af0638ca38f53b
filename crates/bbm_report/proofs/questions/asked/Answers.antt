use Rattle.bbm_rules.proofs.Common.{◌≡◌, map, [], ◌∷◌, sym, arith, true, nat_tests, codes}
use Rattle.std.specs.Prelude.{bytes_eq}
use Rattle.std.specs.String.{string_bytes}
use Rattle.bbm_report.specs.Questions.{question_of}
use Rattle.bbm_report.proofs.Words.{where_it_is, four_words, fewer_words, more_words}
use Rattle.bbm_report.proofs.questions.asked.Goals as goal
use Rattle.bbm_report.proofs.questions.asked.Goals.{in_default-via-then-words-lt4}
use Rattle.bbm_report.proofs.questions.asked.Goals.{in_default-via-else-words-lt4+else-words-lt5}

pub returns-then-eq : goal.returns-then-eq
returns-then-eq c =
    let words : map string_bytes c.args.words.now
    ≡ string_bytes c.word-item.result ∷ string_bytes c.kind-item.result ∷ string_bytes c.root-item.result
    ∷ string_bytes c.addr-item.result ∷ []
    = four_words string_bytes c.args.words.now c.word-item.result c.kind-item.result c.root-item.result c.addr-item.result
    (omega arith) (omega arith) c.word-item.is c.kind-item.is c.root-item.is c.addr-item.is in
    let is_walk : bytes_eq (string_bytes c.word-item.result) (codes "walk") ≡ true = cc in
    rw words (where_it_is (bytes_eq (string_bytes c.word-item.result) (codes "walk")) c.read_question.result
    (question_of (string_bytes c.kind-item.result) (string_bytes c.root-item.result) (string_bytes c.addr-item.result))
    is_walk cc)

pub returns-in_default : goal.returns-in_default
returns-in_default c =
    elim c.in_default.branch [
      | in_default-via-then-words-lt4 w ↦ sym (fewer_words string_bytes c.args.words.now (grind (arith, nat_tests)))
      | in_default-via-else-words-lt4+else-words-lt5 w ↦ sym (more_words string_bytes c.args.words.now (grind (arith, nat_tests)))
    ]
