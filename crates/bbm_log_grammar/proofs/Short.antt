-- Each word has at most 12 bytes.
use Rattle.bbm_log_grammar.proofs.Common.{◌≡◌, ◌≤◌, ℕ, List, length, true, refl, list_all, Some, Reg, Dsb, TlbiOp, reg_word}
use Rattle.bbm_log_grammar.proofs.Common.{dsb_word, op_word}
use Rattle.std.proofs.lemmas.Bool.{leb-true}
use Rattle.std.specs.Prelude.{Bool, nat_le}
use Rattle.bbm_regimes.specs.declared.regime.Kind.{Kind}
use Rattle.bbm_regimes.specs.declared.regime.AsidFrom.{AsidFrom}
use Rattle.bbm_events.specs.Words.{asid_from_word, asid_froms, cnp_word, cnps, dsbs, kind_word, kinds, ops, regs, with_word}
use Rattle.bbm_events.proofs.Codecs.{word_passes}
use Rattle.bbm_events.proofs.WordsRead.{asid_from_word_read, cnp_word_read, dsb_word_read, kind_word_read, op_word_read}
use Rattle.bbm_events.proofs.WordsRead.{reg_word_read}

abbrev is_short : List ℕ → Bool
is_short word = nat_le (length word) 12

short : {A : Type 0} (word : A → List ℕ) (values : List A) (x : A) → list_all (λ v. is_short (word v)) values ≡ true
    → with_word word values (word x) ≡ Some x → length (word x) ≤ 12
short word values x all read = leb-true (length (word x)) 12 (word_passes is_short word (word x) x values all read)

pub cnp_word_short : (cnp : Bool) → length (cnp_word cnp) ≤ 12
cnp_word_short cnp = short cnp_word cnps cnp refl (cnp_word_read cnp)

pub kind_word_short : (kind : Kind) → length (kind_word kind) ≤ 12
kind_word_short kind = short kind_word kinds kind refl (kind_word_read kind)

pub reg_word_short : (reg : Reg) → length (reg_word reg) ≤ 12
reg_word_short reg = short reg_word regs reg refl (reg_word_read reg)

pub asid_from_word_short : (asid_from : AsidFrom) → length (asid_from_word asid_from) ≤ 12
asid_from_word_short from = short asid_from_word asid_froms from refl (asid_from_word_read from)

pub dsb_word_short : (dsb : Dsb) → length (dsb_word dsb) ≤ 12
dsb_word_short dsb = short dsb_word dsbs dsb refl (dsb_word_read dsb)

pub op_word_short : (op : TlbiOp) → length (op_word op) ≤ 12
op_word_short op = short op_word ops op refl (op_word_read op)
