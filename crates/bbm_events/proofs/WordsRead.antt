-- Each word is read as its value again.
use Rattle.bbm_events.proofs.Common.{◌≡◌, Bool, true, false, refl, Some, Kind, El2, S2, Ttbr0, Ttbr1, Reg, AsidFrom}
use Rattle.bbm_events.proofs.Common.{Dsb, TlbiOp, Keyword, keyword_word, keywords, with_word, cnp_word, cnps, kind_word, kinds, reg_word, regs}
use Rattle.bbm_events.proofs.Common.{asid_from_word, asid_froms, dsb_word, dsbs, op_word, ops}
use Rattle.bbm_regimes.specs.declared.regime.Reg.TheVariants.{Ttbr0El2, VttbrEl2, Ttbr0El1, Ttbr1El1}
use Rattle.bbm_regimes.specs.declared.regime.AsidFrom.TheVariants as from
use Rattle.bbm_barriers.specs.declared.Domain.{Domain}
use Rattle.bbm_barriers.specs.declared.Domain.TheVariants.{Full, Inner, Outer, Non}
use Rattle.bbm_barriers.specs.declared.Types.{Types}
use Rattle.bbm_barriers.specs.declared.Types.TheVariants.{All, Stores, Loads}
use Rattle.bbm_tlbi_scope.specs.declared.op.TlbiOp.TheVariants.{Alle2, Alle2is, Vae2, Vae2is, Vale2, Vale2is, Alle1}
use Rattle.bbm_tlbi_scope.specs.declared.op.TlbiOp.TheVariants.{Alle1is, Vmalle1, Vmalle1is, Vmalls12e1, Vmalls12e1is}
use Rattle.bbm_tlbi_scope.specs.declared.op.TlbiOp.TheVariants.{Ipas2e1, Ipas2e1is, Ipas2le1, Ipas2le1is, Vae1, Vae1is}
use Rattle.bbm_tlbi_scope.specs.declared.op.TlbiOp.TheVariants.{Vale1, Vale1is, Vaae1, Vaae1is, Vaale1, Vaale1is}
use Rattle.bbm_tlbi_scope.specs.declared.op.TlbiOp.TheVariants.{Aside1, Aside1is, Rvae2, Rvae2is, Rvale2, Rvale2is}
use Rattle.bbm_tlbi_scope.specs.declared.op.TlbiOp.TheVariants.{Ripas2e1, Ripas2e1is, Ripas2le1, Ripas2le1is, Rvae1}
use Rattle.bbm_tlbi_scope.specs.declared.op.TlbiOp.TheVariants.{Rvae1is, Rvale1, Rvale1is, Rvaae1, Rvaae1is, Rvaale1}
use Rattle.bbm_tlbi_scope.specs.declared.op.TlbiOp.TheVariants.{Rvaale1is}
use Rattle.bbm_events.specs.Words.{option_word, world_word, world_words}
use Rattle.bbm_events.specs.declared.header_words.WorldWord.{WorldWord}
use Rattle.bbm_events.specs.declared.header_words.WorldWord.TheVariants as world
use Rattle.bbm_events.specs.declared.keyword.Keyword.TheVariants as first
use Rattle.bbm_events.specs.declared.machine.MachineWord.{MachineWord}
use Rattle.bbm_events.specs.declared.machine.MachineWord.TheVariants as machine
use Rattle.bbm_events.specs.declared.certificate.CertificateWord.{CertificateWord}
use Rattle.bbm_events.specs.declared.certificate.CertificateWord.TheVariants as certificate
use Rattle.bbm_events.specs.declared.certificate.ClaimWord.{ClaimWord}
use Rattle.bbm_events.specs.declared.certificate.ClaimWord.TheVariants as claim
use Rattle.bbm_events.specs.declared.certificate.TagWord.{TagWord}
use Rattle.bbm_events.specs.declared.certificate.TagWord.TheVariants as tag
use Rattle.bbm_events.specs.Machine.{machine_word, machine_words}
use Rattle.bbm_events.specs.Certificate.{certificate_word, certificate_words, claim_word, claim_words, tag_word, tag_words}

pub cnp_word_read : (cnp : Bool) → with_word cnp_word cnps (cnp_word cnp) ≡ Some cnp
cnp_word_read true = refl
cnp_word_read false = refl

pub kind_word_read : (kind : Kind) → with_word kind_word kinds (kind_word kind) ≡ Some kind
kind_word_read El2 = refl
kind_word_read S2 = refl
kind_word_read Ttbr0 = refl
kind_word_read Ttbr1 = refl

pub reg_word_read : (reg : Reg) → with_word reg_word regs (reg_word reg) ≡ Some reg
reg_word_read Ttbr0El2 = refl
reg_word_read VttbrEl2 = refl
reg_word_read Ttbr0El1 = refl
reg_word_read Ttbr1El1 = refl

pub asid_from_word_read : (asid_from : AsidFrom) → with_word asid_from_word asid_froms (asid_from_word asid_from) ≡ Some asid_from
asid_from_word_read from.Ttbr0 = refl
asid_from_word_read from.Ttbr1 = refl

pub op_word_read : (op : TlbiOp) → with_word op_word ops (op_word op) ≡ Some op
op_word_read Alle2 = refl
op_word_read Alle2is = refl
op_word_read Vae2 = refl
op_word_read Vae2is = refl
op_word_read Vale2 = refl
op_word_read Vale2is = refl
op_word_read Alle1 = refl
op_word_read Alle1is = refl
op_word_read Vmalle1 = refl
op_word_read Vmalle1is = refl
op_word_read Vmalls12e1 = refl
op_word_read Vmalls12e1is = refl
op_word_read Ipas2e1 = refl
op_word_read Ipas2e1is = refl
op_word_read Ipas2le1 = refl
op_word_read Ipas2le1is = refl
op_word_read Vae1 = refl
op_word_read Vae1is = refl
op_word_read Vale1 = refl
op_word_read Vale1is = refl
op_word_read Vaae1 = refl
op_word_read Vaae1is = refl
op_word_read Vaale1 = refl
op_word_read Vaale1is = refl
op_word_read Aside1 = refl
op_word_read Aside1is = refl
op_word_read Rvae2 = refl
op_word_read Rvae2is = refl
op_word_read Rvale2 = refl
op_word_read Rvale2is = refl
op_word_read Ripas2e1 = refl
op_word_read Ripas2e1is = refl
op_word_read Ripas2le1 = refl
op_word_read Ripas2le1is = refl
op_word_read Rvae1 = refl
op_word_read Rvae1is = refl
op_word_read Rvale1 = refl
op_word_read Rvale1is = refl
op_word_read Rvaae1 = refl
op_word_read Rvaae1is = refl
op_word_read Rvaale1 = refl
op_word_read Rvaale1is = refl

option_word_read : (domain : Domain) (types : Types) → with_word dsb_word dsbs (option_word domain types) ≡ Some (record { domain = domain; types = types })
option_word_read Full All = refl
option_word_read Full Stores = refl
option_word_read Full Loads = refl
option_word_read Inner All = refl
option_word_read Inner Stores = refl
option_word_read Inner Loads = refl
option_word_read Outer All = refl
option_word_read Outer Stores = refl
option_word_read Outer Loads = refl
option_word_read Non All = refl
option_word_read Non Stores = refl
option_word_read Non Loads = refl

pub dsb_word_read : (dsb : Dsb) → with_word dsb_word dsbs (dsb_word dsb) ≡ Some dsb
dsb_word_read dsb = option_word_read dsb.domain dsb.types

pub keyword_word_read : (word : Keyword) → with_word keyword_word keywords (keyword_word word) ≡ Some word
keyword_word_read first.Init = refl
keyword_word_read first.Null = refl
keyword_word_read first.Root = refl
keyword_word_read first.Unroot = refl
keyword_word_read first.Write = refl
keyword_word_read first.Dsb = refl
keyword_word_read first.Dmb = refl
keyword_word_read first.Isb = refl
keyword_word_read first.Tlbi = refl
keyword_word_read first.Msr = refl
keyword_word_read first.Lock = refl
keyword_word_read first.Unlock = refl
keyword_word_read first.End = refl

pub machine_word_read : (word : MachineWord) → with_word machine_word machine_words (machine_word word) ≡ Some word
machine_word_read machine.Start = refl
machine_word_read machine.Extend = refl
machine_word_read machine.Combine = refl
machine_word_read machine.Share = refl
machine_word_read machine.Drop = refl

pub certificate_word_read : (word : CertificateWord) → with_word certificate_word certificate_words (certificate_word word) ≡ Some word
certificate_word_read certificate.Claim = refl
certificate_word_read certificate.End = refl

pub claim_word_read : (word : ClaimWord) → with_word claim_word claim_words (claim_word word) ≡ Some word
claim_word_read claim.Place = refl
claim_word_read claim.Two = refl
claim_word_read claim.Tag = refl

pub tag_word_read : (word : TagWord) → with_word tag_word tag_words (tag_word word) ≡ Some word
tag_word_read tag.El2 = refl
tag_word_read tag.Vmid = refl
tag_word_read tag.Asid = refl
tag_word_read tag.Ttbr1 = refl

pub world_word_read : (word : WorldWord) → with_word world_word world_words (world_word word) ≡ Some word
world_word_read world.Hyp = refl
world_word_read world.Kernel = refl
