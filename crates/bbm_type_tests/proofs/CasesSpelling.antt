-- Worked cases: the first cause for which a line isn't well formed, and the lines of all forms of items.
use Rattle.bbm_type_tests.proofs.Common.{◌≡◌, ℕ, List, [], ◌∷◌, map, Bool, true, false, Option, Some, None, Result, Ok}
use Rattle.bbm_type_tests.proofs.Common.{Err, refl, S2, World, Hyp, Kernel, Inner, Stores, Alle2is, Vae2is, Rvae2is, Heading}
use Rattle.std.specs.Prelude.{◌++◌, codes}
use Prim.Native.String.{String}
use Rattle.std.specs.Fmt.{digits}
use Rattle.bbm_regimes.specs.declared.regime.AsidFrom.TheVariants as from
use Rattle.bbm_regimes.specs.declared.regime.Reg.TheVariants.{VttbrEl2}
use Rattle.bbm_regimes.specs.declared.regime.Tag.TheVariants as tag
use Rattle.bbm_events.specs.declared.event.Event.TheVariants as event
use Rattle.bbm_events.specs.declared.event.Item.TheVariants as item
use Rattle.bbm_events.specs.declared.claim.Claim.TheVariants as claim
use Rattle.bbm_events.specs.declared.certificate.ClaimItem.TheVariants as said
use Rattle.bbm_events.specs.declared.machine.MachineLine.TheVariants as step
use Rattle.bbm_events.specs.declared.malformed.Malformed.{Malformed}
use Rattle.bbm_events.specs.declared.malformed.Malformed.TheVariants.{NoMagic, BadHeader, UnknownWord, BadNumber, BadPe}
use Rattle.bbm_events.specs.declared.malformed.Malformed.TheVariants.{BadAddress, MissingField, ExtraField, BadLabel}
use Rattle.bbm_events.specs.declared.header_words.HeaderWords.{HeaderWords}
use Rattle.bbm_events.specs.Heading.{no_words}
use Rattle.bbm_events.specs.Spelling.{decimal_value, hex_value}
use Rattle.bbm_events.specs.Lines.{header_of, item_of, header_line, item_line}
use Rattle.bbm_events.specs.Machine.{machine_of, machine_line}
use Rattle.bbm_events.specs.Certificate.{certificate_of, claim_of, claim_line}
use Rattle.bbm_type_tests.proofs.Rows.{Gives, Gives2}

abbrev err : {A : Type 0} → Result A Malformed → Option Malformed
err (Ok _) = None
err (Err cause) = Some cause

-- a heading of the Hyp world of this version, with so many PEs and pages of a stage 2 root
abbrev hyp : ℕ → ℕ → ℕ → Heading
hyp version pes pages =
    let world : World = Hyp (record { el2_start = 1; s2_start = 1; s2_pages = pages }) in
    record { version = version; pes = pes; cnp = false; words = no_words; world = world }

-- a heading of the Kernel world of this version, with `cnp`, `unflushed` and `inorder` where they are true
abbrev kernel : ℕ → Bool → Bool → Bool → Heading
kernel version cnp unflushed inorder =
    let world : World = Kernel (record { start0 = 2; start1 = 0; asid_from = from.Ttbr1 }) in
    let words : HeaderWords = record no_words { unflushed = unflushed; inorder = inorder } in
    record { version = version; pes = 2; cnp = cnp; words = words; world = world }

unfoldable pub header_cause : String → Option Malformed
unfolding digits decimal_value hex_value header_of
header_cause line = err (header_of (codes line))

pub headers : Gives header_cause (
    ("bbmlog 1 hyp 64 1 1 1", None)
    ∷ ("bbmlog 2 hyp 64 1 1 1 cnp", None)
    ∷ ("bbmlog 3 hyp 128 1 1 1 -", None)
    ∷ ("bbmlog 4 kernel 128 0 2 ttbr1 cnp", None)
    ∷ ("bbmlog 5 hyp 128 1 1 1", None)
    ∷ ("bbmlog 5 hyp 2 1 1 1 cnp unflushed", None)
    ∷ ("bbmlog 5 hyp 2 1 1 1 isolated", None)
    ∷ ("bbmlog 5 hyp 2 1 1 1 cnp isolated", None)
    ∷ ("bbmlog 5 hyp 2 1 1 1 cnp unflushed isolated", None)
    ∷ ("bbmlog 5 kernel 2 0 0 ttbr1 cnp", None)
    ∷ ("bbmlog 5 kernel 2 1 1 ttbr0 unflushed", None)
    ∷ ("bbmlog 5 kernel 2 1 1 ttbr1 inorder", None)
    ∷ ("bbmlog 5 kernel 2 1 1 ttbr0 cnp unflushed inorder", None)
    ∷ ("", Some NoMagic)
    ∷ ("bbmlog", Some NoMagic)
    ∷ ("bbmlog  1 hyp 2 1 1 1", Some NoMagic)
    ∷ (" bbmlog 1 hyp 2 1 1 1", Some NoMagic)
    ∷ ("bbmlog 0 hyp 2 1 1 1", Some NoMagic)
    ∷ ("bbmlog 6 hyp 2 1 1 1", Some NoMagic)
    ∷ ("bbmlog 05 hyp 2 1 1 1", Some NoMagic)
    ∷ ("bbmlog 02 hyp 2 1 1 1 -", Some NoMagic)
    ∷ ("bbmlog 1", Some BadHeader)
    ∷ ("bbmlog 1 hyp 2 1 1", Some BadHeader)
    ∷ ("bbmlog 1 hyp 2 1 1 1 ", Some BadHeader)
    ∷ ("bbmlog 1 hyp 2 1 1 1\r", Some BadHeader)
    ∷ ("bbmlog 1 hyp 2 1 1 1 -", Some BadHeader)
    ∷ ("bbmlog 1 hyp 0 1 1 1", Some BadHeader)
    ∷ ("bbmlog 1 hyp 65 1 1 1", Some BadHeader)
    ∷ ("bbmlog 1 hyp 02 1 1 1", Some BadHeader)
    ∷ ("bbmlog 1 hyp 2 3 1 1", Some BadHeader)
    ∷ ("bbmlog 1 hyp 2 1 0 2", Some BadHeader)
    ∷ ("bbmlog 1 hyp 2 1 1 3", Some BadHeader)
    ∷ ("bbmlog 1 kernel 2 1 1 el2", Some BadHeader)
    ∷ ("bbmlog 2 hyp 2 1 1 1", Some BadHeader)
    ∷ ("bbmlog 2 hyp 2 1 1 1 CNP", Some BadHeader)
    ∷ ("bbmlog 2 hyp 2 1 1 1 - ", Some BadHeader)
    ∷ ("bbmlog 2 hyp 65 1 1 1 -", Some BadHeader)
    ∷ ("bbmlog 3 hyp 129 1 1 1 -", Some BadHeader)
    ∷ ("bbmlog 3 hyp 0 1 1 1 -", Some BadHeader)
    ∷ ("bbmlog 4 kernel 2 1 1 ttbr0", Some BadHeader)
    ∷ ("bbmlog 4 hyp 2 1 1 1 unflushed", Some BadHeader)
    ∷ ("bbmlog 4 hyp 2 1 1 1 cnp unflushed", Some BadHeader)
    ∷ ("bbmlog 4 hyp 2 1 1 1 cnp isolated", Some BadHeader)
    ∷ ("bbmlog 4 kernel 2 1 1 ttbr1 - inorder", Some BadHeader)
    ∷ ("bbmlog 5 hyp 129 1 1 1", Some BadHeader)
    ∷ ("bbmlog 5 hyp 2 1 1", Some BadHeader)
    ∷ ("bbmlog 5 hyp 2 1 1 1 -", Some BadHeader)
    ∷ ("bbmlog 5 hyp 2 1 1 1 CNP", Some BadHeader)
    ∷ ("bbmlog 5 hyp 2 1 1 1 ", Some BadHeader)
    ∷ ("bbmlog 5 hyp 2 1 1 1  cnp", Some BadHeader)
    ∷ ("bbmlog 5 hyp 2 1 1 1 cnp ", Some BadHeader)
    ∷ ("bbmlog 5 hyp 2 1 1 1 cnp cnp", Some BadHeader)
    ∷ ("bbmlog 5 hyp 2 1 1 1 unflushed cnp", Some BadHeader)
    ∷ ("bbmlog 5 hyp 2 1 1 1 unflushed unflushed", Some BadHeader)
    ∷ ("bbmlog 5 hyp 2 1 1 1 unflushed ", Some BadHeader)
    ∷ ("bbmlog 5 hyp 2 1 1 1 unflush", Some BadHeader)
    ∷ ("bbmlog 5 hyp 2 1 1 1 isolated isolated", Some BadHeader)
    ∷ ("bbmlog 5 hyp 2 1 1 1 isolated unflushed", Some BadHeader)
    ∷ ("bbmlog 5 hyp 2 1 1 1 isolated cnp", Some BadHeader)
    ∷ ("bbmlog 5 hyp 2 1 1 1 isolated ", Some BadHeader)
    ∷ ("bbmlog 5 hyp 2 1 1 1 inorder", Some BadHeader)
    ∷ ("bbmlog 5 hyp 2 1 1 1 unflushed inorder", Some BadHeader)
    ∷ ("bbmlog 5 kernel 2 1 1 ttbr1 isolated", Some BadHeader)
    ∷ ("bbmlog 5 kernel 2 1 1 ttbr1 inorder isolated", Some BadHeader)
    ∷ ("bbmlog 5 kernel 2 1 1 ttbr1 inorder inorder", Some BadHeader)
    ∷ ("bbmlog 5 kernel 2 1 1 ttbr1 inorder unflushed", Some BadHeader)
    ∷ ("bbmlog 5 kernel 2 1 1 ttbr1 inorder cnp", Some BadHeader)
    ∷ ("bbmlog 5 kernel 2 1 1 inorder", Some BadHeader)
    ∷ [])
unfolding header_cause
headers = refl

unfoldable pub item_cause : Heading → List ℕ → Option Malformed
unfolding digits decimal_value hex_value item_of
item_cause heading line = err (item_of heading line)

pub lines : Gives (λ line. item_cause (hyp 1 2 16) (codes line)) (
    ("end 4294967295", None)
    ∷ ("", Some UnknownWord)
    ∷ ("nop 0", Some UnknownWord)
    ∷ ("bbmlog 1 hyp 2 1 1 1", Some UnknownWord)
    ∷ (" isb 0", Some UnknownWord)
    ∷ ("root 0 el3 - 0x40000000", Some UnknownWord)
    ∷ ("dsb 0 full", Some UnknownWord)
    ∷ ("tlbi 0 VAE2IS 0x1", Some UnknownWord)
    ∷ ("msr 0 ttbr0_el3 0x0", Some UnknownWord)
    ∷ ("w 0 0x40000008 0X0", Some BadNumber)
    ∷ ("w 0 0x40000008 0xA", Some BadNumber)
    ∷ ("w 0 0x40000008 0x", Some BadNumber)
    ∷ ("w 0 0x40000008 0x00", Some BadNumber)
    ∷ ("w 0 0x40000008 0x10000000000000000", Some BadNumber)
    ∷ ("w 0 0x40000008 ", Some BadNumber)
    ∷ ("w 0 0x40000008 0x0\r", Some BadNumber)
    ∷ ("tlbi 0 vae2is 1", Some BadNumber)
    ∷ ("lock 0 01", Some BadNumber)
    ∷ ("lock 0 1024", Some BadNumber)
    ∷ ("root 0 el2 1024 0x40000000", Some BadNumber)
    ∷ ("end 00", Some BadNumber)
    ∷ ("end 4294967296", Some BadNumber)
    ∷ ("end 18446744073709551616", Some BadNumber)
    ∷ ("isb 2", Some BadPe)
    ∷ ("isb 0\r", Some BadPe)
    ∷ ("isb  0", Some BadPe)
    ∷ ("isb 00", Some BadPe)
    ∷ ("tlbi 5 vae3 0x1", Some BadPe)
    ∷ ("w 0 0x40000004 0x0", Some BadAddress)
    ∷ ("w 0 0x1000000000000 0x0", Some BadAddress)
    ∷ ("w 0  0x40000008 0x0", Some BadAddress)
    ∷ ("init 0 0x40000008", Some BadAddress)
    ∷ ("root 0 s2 - 0x40001000", Some BadAddress)
    ∷ ("w", Some MissingField)
    ∷ ("w 0 0x40000008", Some MissingField)
    ∷ ("tlbi 0 vae2is", Some MissingField)
    ∷ ("end", Some MissingField)
    ∷ ("isb 0 0", Some ExtraField)
    ∷ ("isb 0 ", Some ExtraField)
    ∷ ("tlbi 0 alle2is 0x0", Some ExtraField)
    ∷ ("w 0 0x40000008 0x0 0x0", Some ExtraField)
    ∷ ("end 0 0", Some ExtraField)
    ∷ [])
unfolding item_cause
lines = refl

-- A tab and byte 0 part no fields, and byte 255 is in no word.
pub other_bytes : Gives (item_cause (hyp 1 2 16)) (
    (codes "isb" ++ 9 ∷ codes "0", Some UnknownWord)
    ∷ (codes "isb" ++ 0 ∷ codes "0", Some UnknownWord)
    ∷ (255 ∷ codes "sb 0", Some UnknownWord)
    ∷ [])
unfolding item_cause
other_bytes = refl

-- A version, and a line whose last field may be a label.
pub labels : Gives2 (λ version line. item_cause (hyp version 128 1) (codes line)) (
    (3, "isb 127 @a", None)
    ∷ (3, "isb 127 @abcdefghijklmnopqrstuvwxyz012345", None)
    ∷ (3, "isb 127 @abcdefghijklmnopqrstuvwxyz0123456", Some BadLabel)
    ∷ (3, "isb 0 @.", None)
    ∷ (3, "isb 0 @/", None)
    ∷ (3, "isb 0 @:", None)
    ∷ (3, "isb 0 @_", None)
    ∷ (3, "isb 0 @-", None)
    ∷ (3, "isb 0 @A-Z_az09", None)
    ∷ (3, "isb 0 @", Some BadLabel)
    ∷ (3, "isb 0 @a+b", Some BadLabel)
    ∷ (3, "isb 0 @a@b", Some BadLabel)
    ∷ (3, "isb 0 @ x", Some BadLabel)
    ∷ (3, "isb 0 @a @b", Some ExtraField)
    ∷ (3, "isb 0 @a ", Some ExtraField)
    ∷ (3, "isb 0 x", Some ExtraField)
    ∷ (3, "isb 0 x @a", Some ExtraField)
    ∷ (3, "isb 128 @a", Some BadPe)
    ∷ (3, "tlbi 0 vae2is @x", Some BadNumber)
    ∷ (3, "end 0 @a", Some ExtraField)
    ∷ (2, "isb 0 @a", Some ExtraField)
    ∷ [])
unfolding item_cause
labels = refl

abbrev pub range_causes : ℕ → List String → List (Option Malformed)
range_causes version ops = map (λ op. item_cause (hyp version 2 1) (codes "tlbi 0 " ++ codes op ++ codes " 0x0")) ops

abbrev pub range_ops : List String
range_ops =
    "rvae2" ∷ "rvae2is" ∷ "rvale2" ∷ "rvale2is" ∷ "ripas2e1" ∷ "ripas2e1is" ∷ "ripas2le1" ∷ "ripas2le1is"
    ∷ "rvae1" ∷ "rvae1is" ∷ "rvale1" ∷ "rvale1is" ∷ "rvaae1" ∷ "rvaae1is" ∷ "rvaale1" ∷ "rvaale1is" ∷ []

-- Version 4 has the operations for ranges.
pub range_operations : range_causes 4 range_ops ≡ map (λ op. None) range_ops
unfolding item_cause
range_operations = refl

-- Version 3 has none of them.
pub no_range_operations : range_causes 3 range_ops ≡ map (λ op. Some UnknownWord) range_ops
unfolding item_cause
no_range_operations = refl

unfoldable pub step_cause : ℕ → String → Option Malformed
unfolding digits decimal_value hex_value machine_of
step_cause version line = err (machine_of (hyp version 2 1) (codes line))

pub steps : Gives2 step_cause (
    (1, "m start 1 el2 0 0x40000008 0x80000701", None)
    ∷ (1, "m start 0 s2 65535 0x40000008 0x1", None)
    ∷ (1, "m extend 4294967295 0x40000008 0x1", None)
    ∷ (1, "m combine 1", None)
    ∷ (2, "m share 1 1", None)
    ∷ (4, "m drop 0", None)
    ∷ (1, "", Some UnknownWord)
    ∷ (1, "isb 0", Some UnknownWord)
    ∷ (1, "mm drop 1", Some UnknownWord)
    ∷ (1, "m", Some MissingField)
    ∷ (1, "m walk", Some UnknownWord)
    ∷ (1, "m share", Some UnknownWord)
    ∷ (2, "m share", Some MissingField)
    ∷ (2, "m share 1 2", Some BadPe)
    ∷ (2, "m share 0x1 0", Some BadNumber)
    ∷ (1, "m start 2 el3", Some BadPe)
    ∷ (1, "m start 0 el3 0", Some UnknownWord)
    ∷ (1, "m start 0 el2 1 0x4", Some BadNumber)
    ∷ (1, "m start 0 s2 65536 0x4", Some BadNumber)
    ∷ (1, "m start 0 ttbr1 7 0x4", Some BadAddress)
    ∷ (1, "m start 0 ttbr0 7 0x8", Some MissingField)
    ∷ (1, "m extend 4294967296 0x8", Some BadNumber)
    ∷ (1, "m extend 1 0x8 1", Some BadNumber)
    ∷ (3, "m drop 1 @a", Some ExtraField)
    ∷ (1, "m combine 1 ", Some ExtraField)
    ∷ [])
unfolding step_cause
steps = refl

unfoldable pub claim_cause : String → Option Malformed
unfolding digits decimal_value hex_value claim_of
claim_cause line = err (claim_of (hyp 1 2 1) (codes line))

pub claims : Gives claim_cause (
    ("c place 1 0x40000008 6 7 8", None)
    ∷ ("c two 0 0xfffffffffff8 7 8 9 10 4294967295", None)
    ∷ ("c tag 0 el2 0 7 8", None)
    ∷ ("c tag 0 vmid 65535 7 8", None)
    ∷ ("c tag 1 asid 0 0 0", None)
    ∷ ("c tag 1 ttbr1 0 7 8", None)
    ∷ ("end 300000", None)
    ∷ ("", Some UnknownWord)
    ∷ ("isb 0", Some UnknownWord)
    ∷ ("c", Some MissingField)
    ∷ ("c ", Some UnknownWord)
    ∷ ("c page 0 0x8 1 2 3", Some UnknownWord)
    ∷ ("c place 2 0x4", Some BadPe)
    ∷ ("c place 1 0x4 a", Some BadAddress)
    ∷ ("c place 1 0x1000000000000 6", Some BadAddress)
    ∷ ("c place 1 0x8 06 7", Some BadNumber)
    ∷ ("c place 1 0x8 6 7", Some MissingField)
    ∷ ("c place 1 0x8 6 7 4294967296", Some BadNumber)
    ∷ ("c two 1 0x8 6 7 8", Some MissingField)
    ∷ ("c two 1 0x8 6 7 8 9 10 11", Some ExtraField)
    ∷ ("c tag 0 s2 5 7 8", Some UnknownWord)
    ∷ ("c tag 0 el2 1 7 8", Some BadNumber)
    ∷ ("c tag 0 ttbr1 1 7 8", Some BadNumber)
    ∷ ("c tag 0 vmid 65536 7 8", Some BadNumber)
    ∷ ("c tag 0 asid", Some MissingField)
    ∷ ("c tag 0 asid 5 7 8 @a", Some ExtraField)
    ∷ ("end 4294967296", Some BadNumber)
    ∷ ("end 1 ", Some ExtraField)
    ∷ [])
unfolding claim_cause
claims = refl

pub first_lines_of_a_certificate : Gives (λ (line : String). err (certificate_of (codes line))) (
    ("bbmcert 1", None)
    ∷ ("bbmcert 2", Some NoMagic)
    ∷ ("bbmcert 1 ", Some NoMagic)
    ∷ ("", Some NoMagic)
    ∷ [])
first_lines_of_a_certificate = refl

pub header_lines : Gives header_line (
    (hyp 1 2 16, codes "bbmlog 1 hyp 2 1 1 16")
    ∷ (hyp 4 128 1, codes "bbmlog 4 hyp 128 1 1 1 -")
    ∷ (record (hyp 2 64 1) { cnp = true }, codes "bbmlog 2 hyp 64 1 1 1 cnp")
    ∷ (hyp 5 2 1, codes "bbmlog 5 hyp 2 1 1 1")
    ∷ (record (hyp 5 2 1) { cnp = true }, codes "bbmlog 5 hyp 2 1 1 1 cnp")
    ∷ (record (hyp 5 2 1) { words = record no_words { unflushed = true } }, codes "bbmlog 5 hyp 2 1 1 1 unflushed")
    ∷ (record (hyp 5 2 1) { words = record no_words { isolated = true } }, codes "bbmlog 5 hyp 2 1 1 1 isolated")
    ∷ (
      record (hyp 5 2 1) { cnp = true; words = record no_words { unflushed = true; isolated = true } },
      codes "bbmlog 5 hyp 2 1 1 1 cnp unflushed isolated",
    )
    ∷ (kernel 1 false false false, codes "bbmlog 1 kernel 2 2 0 ttbr1")
    ∷ (kernel 5 true true false, codes "bbmlog 5 kernel 2 2 0 ttbr1 cnp unflushed")
    ∷ (kernel 5 false false true, codes "bbmlog 5 kernel 2 2 0 ttbr1 inorder")
    ∷ (kernel 5 true true true, codes "bbmlog 5 kernel 2 2 0 ttbr1 cnp unflushed inorder")
    ∷ [])
unfolding digits header_line
header_lines = refl

pub item_lines : Gives item_line (
    (item.Event (event.Init 1 0x40010000) None, codes "init 1 0x40010000")
    ∷ (item.Event (event.Null 1 0x40010000) None, codes "null 1 0x40010000")
    ∷ (item.Event (event.Root 1 S2 None 0x40010000) None, codes "root 1 s2 - 0x40010000")
    ∷ (item.Event (event.Root 1 S2 (Some 1023) 0x40010000) None, codes "root 1 s2 1023 0x40010000")
    ∷ (item.Event (event.Unroot 1 0x40010000) None, codes "unroot 1 0x40010000")
    ∷ (item.Event (event.Write 1 0x40001008 0xffffffffffffffff) None, codes "w 1 0x40001008 0xffffffffffffffff")
    ∷ (item.Event (event.Dsb 1 (record { domain = Inner; types = Stores })) None, codes "dsb 1 ishst")
    ∷ (item.Event (event.Dmb 1 (record { domain = Inner; types = Stores })) None, codes "dmb 1 ishst")
    ∷ (item.Event (event.Isb 127) (Some (codes "mm/map.c:88")), codes "isb 127 @mm/map.c:88")
    ∷ (item.Event (event.Tlbi 1 Alle2is 0) None, codes "tlbi 1 alle2is")
    ∷ (item.Event (event.Tlbi 1 Vae2is 64) None, codes "tlbi 1 vae2is 0x40")
    ∷ (item.Event (event.Tlbi 0 Rvae2is 1) None, codes "tlbi 0 rvae2is 0x1")
    ∷ (item.Event (event.Msr 1 VttbrEl2 0) None, codes "msr 1 vttbr_el2 0x0")
    ∷ (item.Event (event.Lock 1 0) None, codes "lock 1 0")
    ∷ (item.Event (event.Unlock 1 10) None, codes "unlock 1 10")
    ∷ (item.End 4294967295, codes "end 4294967295")
    ∷ [])
unfolding digits item_line
item_lines = refl

pub step_lines : Gives machine_line (
    (step.Start 1 S2 5 0x40000008 0x80000701, codes "m start 1 s2 5 0x40000008 0x80000701")
    ∷ (step.Extend 7 0x40000008 0x80000701, codes "m extend 7 0x40000008 0x80000701")
    ∷ (step.Combine 7, codes "m combine 7")
    ∷ (step.Share 7 1, codes "m share 7 1")
    ∷ (step.Drop 7, codes "m drop 7")
    ∷ [])
unfolding digits machine_line
step_lines = refl

pub claim_lines : Gives claim_line (
    (said.Claim (claim.Place 1 0x40000008 6 7 8), codes "c place 1 0x40000008 6 7 8")
    ∷ (said.Claim (claim.Two 1 0x40000008 7 8 9 10 11), codes "c two 1 0x40000008 7 8 9 10 11")
    ∷ (said.Claim (claim.Taken 1 (tag.Vmid 5) 7 8), codes "c tag 1 vmid 5 7 8")
    ∷ (said.Claim (claim.Taken 1 tag.Ttbr1 4294967294 4294967295), codes "c tag 1 ttbr1 0 4294967294 4294967295")
    ∷ (said.End 4, codes "end 4")
    ∷ [])
unfolding digits claim_line
claim_lines = refl
