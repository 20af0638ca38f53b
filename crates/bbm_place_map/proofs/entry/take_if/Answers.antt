use Rattle.bbm_place_map.proofs.Common.{◌≡◌, ◌&&◌, not, ℕ, Bool, false, ap, sym, ◌∙◌, arith, refl, subst, List, length}
use Rattle.bbm_place_map.proofs.Common.{and-false, Cover, waits_in, Pend, pend_in, no_pend, IsFirst, Lacks, Pending}
use Rattle.bbm_place_map.proofs.Idle.{no_pe_waits}
use Rattle.bbm_place_map.proofs.Pendings.{lacks_all, written}
use Rattle.bbm_place_map.proofs.entry.take_if.Goals as goal

pub returns-then-not-flag : goal.returns-then-not-flag
returns-then-not-flag c =
    let none : Cover → ℕ → Bool = λ cover p. waits_in (pend_in c.args.pendings.now.items c.args.lane) cover p in
    record {
      done = λ cover p. c.none.ensures cover p ∙ sym (ap (λ (b : Bool). b && none cover p) c.if-not-flag.true);
      left = λ cover p. sym (ap (λ (b : Bool). not b && none cover p) c.if-not-flag.true);
      others = λ m other. refl;
    }

first : (c : goal.After-pendings-1) → IsFirst c.as_mut_slice.result.now c.in-Some.i c.args.lane
first c =
    let P : List Pending → Type 0 = λ ps. IsFirst ps c.in-Some.i c.args.lane in
    subst P (c.as_slice.ensures ∙ sym c.as_mut_slice.ensures.value) c.in-Some.ensures.some

pub returns-in-Some : goal.returns-in-Some
returns-in-Some c =
    let items = c.args.pendings.now.items in
    let k = c.args.lane in
    let shown = c.as_mut_slice.ensures.value in
    let now = written c.args.pendings.now c.as_mut_slice.result.now c.take_here.new.pendings shown c.take_here.ensures.len in
    record {
      done = λ cover p.
          ap (λ (x : Pend). waits_in x cover p) (c.take_here.ensures.done k (first c) ∙ ap (λ (ps : List Pending). pend_in ps k) shown)
          ∙ sym (ap (λ (b : Bool). b && waits_in (pend_in items k) cover p) c.if-not-flag.false);
      left = λ cover p.
          ap (λ (ps : List Pending). waits_in (pend_in ps k) cover p) now ∙ c.take_here.ensures.left k (first c) cover p
          ∙ sym (ap (λ (b : Bool). not b && waits_in (pend_in items k) cover p) c.if-not-flag.false);
      others = λ m other.
          ap (λ (ps : List Pending). pend_in ps m) now ∙ c.take_here.ensures.others k m (first c) other
          ∙ ap (λ (ps : List Pending). pend_in ps m) shown;
    }

pub returns-in-None : goal.returns-in-None
returns-in-None c =
    let items = c.args.pendings.now.items in
    let k = c.args.lane in
    let P : List Pending → Type 0 = λ ps. Lacks ps (length ps) k in
    let none : pend_in items k ≡ no_pend
    = lacks_all items (length items) k (omega arith) (subst P c.as_slice.ensures (c.place_of.ensures.none c.in-None.is)) in
    let nothing : (cover : Cover) (p : ℕ) → waits_in (pend_in items k) cover p ≡ false
    = λ cover p. ap (λ (x : Pend). waits_in x cover p) none ∙ no_pe_waits cover p in
    record {
      done = λ cover p.
          c.none-in-None.ensures cover p
          ∙ sym (ap (λ (w : Bool). c.args.flag && w) (nothing cover p) ∙ and-false c.args.flag);
      left = λ cover p.
          nothing cover p ∙ sym (ap (λ (w : Bool). not c.args.flag && w) (nothing cover p) ∙ and-false (not c.args.flag));
      others = λ m other. refl;
    }
