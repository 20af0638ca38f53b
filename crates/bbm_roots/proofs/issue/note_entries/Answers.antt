use Rattle.bbm_roots.proofs.Common.{◌≡◌, take, arith, ap, ◌∙◌, ◌&&◌, ◌||◌, Bool, refl, list_any, take_all, proved, Is}
use Rattle.bbm_roots.proofs.Common.{true, sym, Tag, tag_self, takes_whole_tag, has_wait, wait_in, unread_at, same_tag, tag_with}
use Rattle.bbm_roots.proofs.Tests.{any-next}
use Rattle.bbm_roots.proofs.Entries.{held-among, is_key_of}
use Rattle.bbm_roots.proofs.issue.note_entries.Goals as goal

noted-more : (o h s t z : Bool) → ((o || (h && (s && z))) || (h && (t && z))) ≡ (o || (h && ((s || t) && z)))
noted-more = proved 5 (λ o h s t z. Is ((o || (h && (s && z))) || (h && (t && z))) (o || (h && ((s || t) && z)))) refl

pub loop-key-preserved : goal.loop-key-preserved
loop-key-preserved c =
    let all = c.tag_keys-key-items.result.now in
    let i = c.loop-key.key-index in
    let x = c.key-item.result in
    let old = c.args.waits.now in
    record {
      bits = λ g p.
          let z = takes_whole_tag c.args.scope.now c.args.vmid g
          && unread_at c.args.registers.now c.args.issuer c.args.scope.now.broadcast g p in
          let next = any-next (is_key_of g) all i x (omega arith) c.key-item.is in
          rw (c.note_one-in-loop-key.ensures.bits g p, c.tag.ensures, c.loop-key.invariant.bits g p, c.loop-key.invariant.known g, next)
          (noted-more (wait_in old g p) (has_wait old g) (list_any (is_key_of g) (take i all)) (same_tag (tag_with x) g) z);
      known = λ g. c.note_one-in-loop-key.ensures.known g ∙ c.loop-key.invariant.known g;
    }

pub returns : goal.returns
returns c = λ g h p kept.
    let all = c.tag_keys-key-items.result.now in
    let old = c.args.waits.now in
    let z = takes_whole_tag c.args.scope.now c.args.vmid g
    && unread_at c.args.registers.now c.args.issuer c.args.scope.now.broadcast g p in
    let whole : take c.loop-key.key-index all ≡ all = take_all c.loop-key.key-index all (omega arith) in
    c.loop-key.invariant.bits g p
    ∙ ap (λ (b : Bool). wait_in old g p || (has_wait old g && (b && z)))
    (ap (list_any (is_key_of g)) (whole ∙ c.tag_keys-key-items.ensures) ∙ held-among c.args.holds.now g h kept)

-- the one tag that it takes
one : (o h s t u : Bool) → (t ≡ true → s ≡ true) → (o || (h && (s && (t && u)))) ≡ (o || (h && (t && u)))
one o h s t u = grind (arith)

pub returns-in-Some : goal.returns-in-Some
returns-in-Some c = λ g h p kept.
    let old = c.args.waits.now in
    c.note_one.ensures.bits g p
    ∙ one (wait_in old g p) (has_wait old g) (same_tag c.in-Some.tag g) (takes_whole_tag c.args.scope.now c.args.vmid g)
    (unread_at c.args.registers.now c.args.issuer c.args.scope.now.broadcast g p)
    (λ e. ap (λ (t : Tag). same_tag t g) (sym (c.in-Some.ensures g e)) ∙ tag_self g)
