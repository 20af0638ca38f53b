-- What a log's header says.
-- Source: project's own choice.
use Rattle.std.specs.Prelude.{ℕ, List, [], ◌∷◌, Bool, true, false, ◌&&◌, ◌||◌, not, nat_le, nat_lt, if◌then◌else◌, codes}
use Rattle.std.specs.List.{list_all}
use Rattle.bbm_regimes.specs.declared.regime.Kind.TheVariants.{S2, Ttbr0}
use Rattle.bbm_regimes.specs.declared.regime.World.{World}
use Rattle.bbm_regimes.specs.World.{kind_in_world, world_ok}
use Rattle.bbm_tlbi_scope.specs.declared.op.TlbiOp.{TlbiOp}
use Rattle.bbm_tlbi_scope.specs.Operations.{operation}
use Rattle.bbm_events.specs.declared.header_words.HeaderWords.{HeaderWords}

-- the version of the log, the number of PEs, whether their TLBs may copy entries from one another, what else its words
-- say, and the world with the levels at which walks start
pub record Heading : Type 0 where
  pub version : ℕ
  pub pes : ℕ
  pub cnp : Bool
  pub words : HeaderWords
  pub world : World

abbrev pub is_version : ℕ → Bool
is_version n = nat_le 1 n && nat_le n 5

-- Versions 1 and 2 have 1 to 64 PEs, later ones 1 to 128.
abbrev pub are_pes : ℕ → ℕ → Bool
are_pes version n = nat_le 1 n && nat_le n (if nat_lt version 3 then 64 else 128)

-- Version 1 has no shared TLBs.
abbrev pub may_share : ℕ → Bool
may_share version = nat_le 2 version

-- Versions 3 and later have labels.
abbrev pub may_label : ℕ → Bool
may_label version = nat_le 3 version

-- Versions 4 and later have the operations for a range of pages.
abbrev pub has_op : ℕ → TlbiOp → Bool
has_op version op = nat_le 4 version || not (operation op).range

-- Version 5 has words behind the numbers, where versions 2 to 4 have one field for `cnp`.
abbrev pub has_words : ℕ → Bool
has_words version = nat_le 5 version

-- From version 5 on a null page may be the base of every root register, in both worlds; before, of TTBR0_EL1 alone.
abbrev pub nulls_everywhere : ℕ → Bool
nulls_everywhere version = nat_le 5 version

abbrev pub no_words : HeaderWords
no_words = record { unflushed = false; inorder = false; isolated = false }

-- a word of the header: its name, which worlds have it, whether it stands, and the words where it stands or doesn't
pub record WordRow : Type 0 where
  pub name : List ℕ
  pub of_world : World → Bool
  pub stands : HeaderWords → Bool
  pub put : Bool → HeaderWords → HeaderWords

-- The words, in their order. `inorder` is one of the Kernel world, `isolated` of the Hyp world.
abbrev pub word_rows : List WordRow
word_rows =
    record {
      name = codes "unflushed";
      of_world = λ _. true;
      stands = λ words. words.unflushed;
      put = λ stands words. record words { unflushed = stands };
    }
    ∷ record {
      name = codes "inorder";
      of_world = λ world. kind_in_world world Ttbr0;
      stands = λ words. words.inorder;
      put = λ stands words. record words { inorder = stands };
    }
    ∷ record {
      name = codes "isolated";
      of_world = λ world. kind_in_world world S2;
      stands = λ words. words.isolated;
      put = λ stands words. record words { isolated = stands };
    }
    ∷ []

-- Words stand from version 5 on, each in the worlds that have it.
abbrev pub words_ok : ℕ → World → HeaderWords → Bool
words_ok version world words = list_all (λ row. not (row.stands words) || (has_words version && row.of_world world)) word_rows

abbrev pub heading_ok : Heading → Bool
heading_ok h = is_version h.version && are_pes h.version h.pes && (may_share h.version || not h.cnp)
    && words_ok h.version h.world h.words && world_ok h.world
