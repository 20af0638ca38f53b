-- The words of a log, each kind of word as one table from a value to its word, and one list of its values.
-- Source: project's own choice, where no other is named.
use Rattle.std.specs.Prelude.{ℕ, List, [], ◌∷◌, Bool, true, false, Option, codes, bytes_eq}
use Rattle.std.specs.List.{find}
use Rattle.bbm_regimes.specs.declared.regime.Kind.{Kind}
use Rattle.bbm_regimes.specs.declared.regime.Kind.TheVariants.{El2, S2, Ttbr0, Ttbr1}
use Rattle.bbm_regimes.specs.declared.regime.Reg.{Reg}
use Rattle.bbm_regimes.specs.declared.regime.Reg.TheVariants.{Ttbr0El2, VttbrEl2, Ttbr0El1, Ttbr1El1}
use Rattle.bbm_regimes.specs.declared.regime.AsidFrom.{AsidFrom}
use Rattle.bbm_regimes.specs.declared.regime.AsidFrom.TheVariants as from
use Rattle.bbm_barriers.specs.declared.Dsb.{Dsb}
use Rattle.bbm_barriers.specs.declared.Domain.{Domain}
use Rattle.bbm_barriers.specs.declared.Domain.TheVariants.{Full, Inner, Outer, Non}
use Rattle.bbm_barriers.specs.declared.Types.{Types}
use Rattle.bbm_barriers.specs.declared.Types.TheVariants.{All, Stores, Loads}
use Rattle.bbm_tlbi_scope.specs.declared.op.TlbiOp.{TlbiOp}
use Rattle.bbm_tlbi_scope.specs.declared.op.TlbiOp.TheVariants.{Alle2, Alle2is, Vae2, Vae2is, Vale2, Vale2is, Alle1}
use Rattle.bbm_tlbi_scope.specs.declared.op.TlbiOp.TheVariants.{Alle1is, Vmalle1, Vmalle1is, Vmalls12e1, Vmalls12e1is}
use Rattle.bbm_tlbi_scope.specs.declared.op.TlbiOp.TheVariants.{Ipas2e1, Ipas2e1is, Ipas2le1, Ipas2le1is, Vae1, Vae1is}
use Rattle.bbm_tlbi_scope.specs.declared.op.TlbiOp.TheVariants.{Vale1, Vale1is, Vaae1, Vaae1is, Vaale1, Vaale1is}
use Rattle.bbm_tlbi_scope.specs.declared.op.TlbiOp.TheVariants.{Aside1, Aside1is, Rvae2, Rvae2is, Rvale2, Rvale2is}
use Rattle.bbm_tlbi_scope.specs.declared.op.TlbiOp.TheVariants.{Ripas2e1, Ripas2e1is, Ripas2le1, Ripas2le1is, Rvae1}
use Rattle.bbm_tlbi_scope.specs.declared.op.TlbiOp.TheVariants.{Rvae1is, Rvale1, Rvale1is, Rvaae1, Rvaae1is, Rvaale1}
use Rattle.bbm_tlbi_scope.specs.declared.op.TlbiOp.TheVariants.{Rvaale1is}
use Rattle.bbm_events.specs.declared.header_words.WorldWord.{WorldWord}
use Rattle.bbm_events.specs.declared.header_words.WorldWord.TheVariants as world
use Rattle.bbm_events.specs.declared.keyword.Keyword.{Keyword}
use Rattle.bbm_events.specs.declared.keyword.Keyword.TheVariants as first

-- the value, among these, whose word this is
abbrev pub with_word : {A : Type 0} → (A → List ℕ) → List A → List ℕ → Option A
with_word word values text = find (λ value. bytes_eq (word value) text) values

-- the first word of a line.
abbrev pub keyword_word : Keyword → List ℕ
keyword_word first.Init = codes "init"
keyword_word first.Null = codes "null"
keyword_word first.Root = codes "root"
keyword_word first.Unroot = codes "unroot"
keyword_word first.Write = codes "w"
keyword_word first.Dsb = codes "dsb"
keyword_word first.Dmb = codes "dmb"
keyword_word first.Isb = codes "isb"
keyword_word first.Tlbi = codes "tlbi"
keyword_word first.Msr = codes "msr"
keyword_word first.Lock = codes "lock"
keyword_word first.Unlock = codes "unlock"
keyword_word first.End = codes "end"

abbrev pub keywords : List Keyword
keywords =
    first.Init ∷ first.Null ∷ first.Root ∷ first.Unroot ∷ first.Write ∷ first.Dsb ∷ first.Dmb ∷ first.Isb
    ∷ first.Tlbi ∷ first.Msr ∷ first.Lock ∷ first.Unlock ∷ first.End ∷ []

-- the world of a header.
abbrev pub world_word : WorldWord → List ℕ
world_word world.Hyp = codes "hyp"
world_word world.Kernel = codes "kernel"

abbrev pub world_words : List WorldWord
world_words = world.Hyp ∷ world.Kernel ∷ []

-- whether TLBs are shared.
abbrev pub cnp_word : Bool → List ℕ
cnp_word true = codes "cnp"
cnp_word false = codes "-"

abbrev pub cnps : List Bool
cnps = true ∷ false ∷ []

-- the kind of a root.
abbrev pub kind_word : Kind → List ℕ
kind_word El2 = codes "el2"
kind_word S2 = codes "s2"
kind_word Ttbr0 = codes "ttbr0"
kind_word Ttbr1 = codes "ttbr1"

abbrev pub kinds : List Kind
kinds = El2 ∷ S2 ∷ Ttbr0 ∷ Ttbr1 ∷ []

-- the register that is written. Source: Arm ARM (DDI 0487), "AArch64 System register descriptions".
abbrev pub reg_word : Reg → List ℕ
reg_word Ttbr0El2 = codes "ttbr0_el2"
reg_word VttbrEl2 = codes "vttbr_el2"
reg_word Ttbr0El1 = codes "ttbr0_el1"
reg_word Ttbr1El1 = codes "ttbr1_el1"

abbrev pub regs : List Reg
regs = Ttbr0El2 ∷ VttbrEl2 ∷ Ttbr0El1 ∷ Ttbr1El1 ∷ []

-- the register of the current ASID, in the header.
abbrev pub asid_from_word : AsidFrom → List ℕ
asid_from_word from.Ttbr0 = codes "ttbr0"
asid_from_word from.Ttbr1 = codes "ttbr1"

abbrev pub asid_froms : List AsidFrom
asid_froms = from.Ttbr0 ∷ from.Ttbr1 ∷ []

-- the option of a barrier, by its domain and its types. Source: Arm ARM (DDI 0487), "Memory barriers".
abbrev pub option_word : Domain → Types → List ℕ
option_word Full All = codes "sy"
option_word Full Stores = codes "st"
option_word Full Loads = codes "ld"
option_word Inner All = codes "ish"
option_word Inner Stores = codes "ishst"
option_word Inner Loads = codes "ishld"
option_word Outer All = codes "osh"
option_word Outer Stores = codes "oshst"
option_word Outer Loads = codes "oshld"
option_word Non All = codes "nsh"
option_word Non Stores = codes "nshst"
option_word Non Loads = codes "nshld"

abbrev pub dsb_word : Dsb → List ℕ
dsb_word dsb = option_word dsb.domain dsb.types

-- the options of a domain
abbrev pub options_of : Domain → List Dsb → List Dsb
options_of domain others =
    record { domain = domain; types = All } ∷ record { domain = domain; types = Stores }
    ∷ record { domain = domain; types = Loads } ∷ others

abbrev pub dsbs : List Dsb
dsbs = options_of Full (options_of Inner (options_of Outer (options_of Non [])))

-- the operation of a TLBI. Source: Arm ARM (DDI 0487), "TLB maintenance instructions".
abbrev pub op_word : TlbiOp → List ℕ
op_word Alle2 = codes "alle2"
op_word Alle2is = codes "alle2is"
op_word Vae2 = codes "vae2"
op_word Vae2is = codes "vae2is"
op_word Vale2 = codes "vale2"
op_word Vale2is = codes "vale2is"
op_word Alle1 = codes "alle1"
op_word Alle1is = codes "alle1is"
op_word Vmalle1 = codes "vmalle1"
op_word Vmalle1is = codes "vmalle1is"
op_word Vmalls12e1 = codes "vmalls12e1"
op_word Vmalls12e1is = codes "vmalls12e1is"
op_word Ipas2e1 = codes "ipas2e1"
op_word Ipas2e1is = codes "ipas2e1is"
op_word Ipas2le1 = codes "ipas2le1"
op_word Ipas2le1is = codes "ipas2le1is"
op_word Vae1 = codes "vae1"
op_word Vae1is = codes "vae1is"
op_word Vale1 = codes "vale1"
op_word Vale1is = codes "vale1is"
op_word Vaae1 = codes "vaae1"
op_word Vaae1is = codes "vaae1is"
op_word Vaale1 = codes "vaale1"
op_word Vaale1is = codes "vaale1is"
op_word Aside1 = codes "aside1"
op_word Aside1is = codes "aside1is"
op_word Rvae2 = codes "rvae2"
op_word Rvae2is = codes "rvae2is"
op_word Rvale2 = codes "rvale2"
op_word Rvale2is = codes "rvale2is"
op_word Ripas2e1 = codes "ripas2e1"
op_word Ripas2e1is = codes "ripas2e1is"
op_word Ripas2le1 = codes "ripas2le1"
op_word Ripas2le1is = codes "ripas2le1is"
op_word Rvae1 = codes "rvae1"
op_word Rvae1is = codes "rvae1is"
op_word Rvale1 = codes "rvale1"
op_word Rvale1is = codes "rvale1is"
op_word Rvaae1 = codes "rvaae1"
op_word Rvaae1is = codes "rvaae1is"
op_word Rvaale1 = codes "rvaale1"
op_word Rvaale1is = codes "rvaale1is"

abbrev pub ops : List TlbiOp
ops =
    Alle2 ∷ Alle2is ∷ Vae2 ∷ Vae2is ∷ Vale2 ∷ Vale2is ∷ Alle1 ∷ Alle1is ∷ Vmalle1 ∷ Vmalle1is
    ∷ Vmalls12e1 ∷ Vmalls12e1is
    ∷ Ipas2e1 ∷ Ipas2e1is ∷ Ipas2le1 ∷ Ipas2le1is ∷ Vae1 ∷ Vae1is ∷ Vale1 ∷ Vale1is
    ∷ Vaae1 ∷ Vaae1is ∷ Vaale1 ∷ Vaale1is
    ∷ Aside1 ∷ Aside1is
    ∷ Rvae2 ∷ Rvae2is ∷ Rvale2 ∷ Rvale2is ∷ Ripas2e1 ∷ Ripas2e1is ∷ Ripas2le1 ∷ Ripas2le1is
    ∷ Rvae1 ∷ Rvae1is ∷ Rvale1 ∷ Rvale1is ∷ Rvaae1 ∷ Rvaae1is ∷ Rvaale1 ∷ Rvaale1is ∷ []
