-- What waits, by lane, after an edit.
use Rattle.bbm_place_map.proofs.Common.{◌≡◌, ◌≢◌, ℕ, ◌<◌, ◌≤◌, ◌&&◌, ◌||◌, not, Bool, true, false, nat_eq, zero, suc}
use Rattle.bbm_place_map.proofs.Common.{List, [], ◌∷◌, ◌++◌, length, get_or, set, refl, ap, sym, ◌∙◌, arith}
use Rattle.bbm_place_map.proofs.Common.{if◌then◌else◌, Option, Some, None, is_some, IfSome, IsTrue, ◌↔◌, cond-true}
use Rattle.bbm_place_map.proofs.Common.{cond-false, eq-eqb, ne_eqb, false≢true, get_or_default, Pend, Dsb}
use Rattle.bbm_place_map.proofs.Common.{answers_broadcast, answers_local, PeMask, Cover, Noted, waits_in, Marks, Pends}
use Rattle.bbm_place_map.proofs.Common.{Broken, Adds, WaitsAlike, lane_of, no_pend, pend_in, pends_in, IsFirst, Lacks}
use Rattle.bbm_place_map.proofs.Common.{IsQuiet, Pending, SmallVec, proved, If, Is, Half, Second, Full, subst, pe_in}
use Rattle.bbm_place_map.proofs.Common.{NoCover}
use Rattle.bbm_entry_state.specs.Marking.{counts_for}
use Rattle.bbm_place_map.specs.Dsbs.{Takes, TakesAnswered, WaitsOn}
use Rattle.smallvec.specs.SmallVec.{with_items}
use Rattle.smallvec.proofs.SmallVecLemmas.{items-with_items}

tail_lacks : (p : Pending) (ps : List Pending) (n q : ℕ) → Lacks (p ∷ ps) (suc n) q → Lacks ps n q
tail_lacks p ps n q lacks k d below in' = lacks (suc k) d (omega arith) (omega arith)

pub lacks_all : (ps : List Pending) (n q : ℕ) → length ps ≤ n → Lacks ps n q → pend_in ps q ≡ no_pend
lacks_all [] n q whole lacks = refl
lacks_all (p ∷ ps) zero q whole lacks = absurd (omega arith)
lacks_all (p ∷ ps) (suc n) q whole lacks =
    cond-false (nat_eq p.lane q) p.pend (pend_in ps q) (lacks 0 p (omega arith) (omega arith))
    ∙ lacks_all ps n q (omega arith) (tail_lacks p ps n q lacks)

pub set_there : (ps : List Pending) (n : ℕ) (y : Pending) (q : ℕ) → n < length ps → Lacks ps n q → nat_eq y.lane q ≡ true
    → pend_in (set ps n y) q ≡ y.pend
set_there [] n y q within lacks is = absurd (omega arith)
set_there (p ∷ ps) zero y q within lacks is = cond-true (nat_eq y.lane q) y.pend (pend_in ps q) is
set_there (p ∷ ps) (suc n) y q within lacks is =
    cond-false (nat_eq p.lane q) p.pend (pend_in (set ps n y) q) (lacks 0 p (omega arith) (omega arith))
    ∙ set_there ps n y q (omega arith) (tail_lacks p ps n q lacks) is

-- an item of another lane in place of an item of the same one
pub set_others : (ps : List Pending) (n : ℕ) (x y : Pending) (q : ℕ) → n < length ps → x ≡ get_or ps n x
    → nat_eq x.lane q ≡ false → nat_eq y.lane q ≡ false → pend_in (set ps n y) q ≡ pend_in ps q
set_others [] n x y q within is not-x not-y = absurd (omega arith)
set_others (p ∷ ps) zero x y q within is not-x not-y =
    cond-false (nat_eq y.lane q) y.pend (pend_in ps q) not-y
    ∙ sym (cond-false (nat_eq p.lane q) p.pend (pend_in ps q) (ap (λ (z : Pending). nat_eq z.lane q) (sym is) ∙ not-x))
set_others (p ∷ ps) (suc n) x y q within is not-x not-y =
    ap (λ (r : Pend). if nat_eq p.lane q then p.pend else r) (set_others ps n x y q (omega arith) is not-x not-y)

pub more_there : (ps : List Pending) (y : Pending) (q : ℕ) → (n : ℕ) → length ps ≤ n → Lacks ps n q → nat_eq y.lane q ≡ true
    → pend_in (ps ++ y ∷ []) q ≡ y.pend
more_there [] y q n whole lacks is = cond-true (nat_eq y.lane q) y.pend no_pend is
more_there (p ∷ ps) y q zero whole lacks is = absurd (omega arith)
more_there (p ∷ ps) y q (suc n) whole lacks is =
    cond-false (nat_eq p.lane q) p.pend (pend_in (ps ++ y ∷ []) q) (lacks 0 p (omega arith) (omega arith))
    ∙ more_there ps y q n (omega arith) (tail_lacks p ps n q lacks) is

pub more_others : (ps : List Pending) (y : Pending) (q : ℕ) → nat_eq y.lane q ≡ false → pend_in (ps ++ y ∷ []) q ≡ pend_in ps q
more_others [] y q other = cond-false (nat_eq y.lane q) y.pend no_pend other
more_others (p ∷ ps) y q other = ap (λ (r : Pend). if nat_eq p.lane q then p.pend else r) (more_others ps y q other)

-- a list that is written as a slice, which keeps its length
module _ (v : SmallVec Pending) (old new : List Pending) (shown : old ≡ v.items) (len : length new ≡ length old) where
  pub written : (with_items v new).items ≡ new
  written = items-with_items v new (len ∙ ap (λ (ps : List Pending). length ps) shown)

-- what waits for a lane is that of the first of its
pub first_pend : (ps : List Pending) (i q : ℕ) (d : Pending) → IsFirst ps i q → pend_in ps q ≡ (get_or ps i d).pend
first_pend [] i q d first = absurd (omega (arith, first.0))
first_pend (p ∷ ps) zero q d first = cond-true (nat_eq p.lane q) p.pend (pend_in ps q) (eq-eqb p.lane q (first.1 p))
first_pend (p ∷ ps) (suc n) q d first =
    cond-false (nat_eq p.lane q) p.pend (pend_in ps q) (first.2 0 p (omega arith) (omega arith))
    ∙ first_pend ps n q d (omega (arith, first.0), λ e. first.1 e, tail_lacks p ps n q first.2)

-- others wait there
module _ (ps : List Pending) (i q : ℕ) (d : Pending) (new : Pend) (first : IsFirst ps i q) where
  issued : nat_eq (get_or ps i d).lane q ≡ true
  issued = eq-eqb (get_or ps i d).lane q (first.1 d)

  pub first_there : pend_in (set ps i (record { lane = (get_or ps i d).lane; pend = new })) q ≡ new
  first_there = set_there ps i (record { lane = (get_or ps i d).lane; pend = new }) q first.0 first.2 issued

  pub first_others : (r : ℕ) → r ≢ q → pend_in (set ps i (record { lane = (get_or ps i d).lane; pend = new })) r ≡ pend_in ps r
  first_others r other =
      let apart : nat_eq (get_or ps i d).lane r ≡ false = ne_eqb (get_or ps i d).lane r (λ is. other (sym is ∙ first.1 d)) in
      set_others ps i (get_or ps i d) (record { lane = (get_or ps i d).lane; pend = new }) r first.0
      (get_or_default ps i d (get_or ps i d) first.0) apart apart

-- a lane with a place of its own doesn't lack
first_known : (ps : List Pending) (i q : ℕ) → IsFirst ps i q → Lacks ps (length ps) q → ⊥
first_known [] i q first lacks = absurd (omega (arith, first.0))
first_known (p ∷ ps) i q first lacks = false≢true (sym (lacks i p first.0 first.0) ∙ eq-eqb (get_or (p ∷ ps) i p).lane q (first.1 p))

pub known_by : (ps : List Pending) (o : Option ℕ) (q : ℕ) → is_some o ≡ true → IfSome o (λ i. IsFirst ps i q) → Lacks ps (length ps) q → ⊥
known_by ps None q is first = cc
known_by ps (Some i) q is first = first_known ps i q first

-- lanes of two issuers, or of one that are broadcast and that aren't, are two
pub lanes_apart : (q r : ℕ) (b d : Bool) → q ≢ r → lane_of q b ≢ lane_of r d
lanes_apart q r true true other same = other (omega (arith, same))
lanes_apart q r true false other same = other (omega (arith, same))
lanes_apart q r false true other same = other (omega (arith, same))
lanes_apart q r false false other same = other (omega (arith, same))

pub sides_apart : (q : ℕ) → lane_of q true ≢ lane_of q false
sides_apart q same = absurd (omega (arith, same))

pub both_alike : (x y : Pends) → ((c : Cover) (p : ℕ) → waits_in y.broadcast c p ≡ waits_in x.broadcast c p)
    → ((c : Cover) (p : ℕ) → waits_in y.local c p ≡ waits_in x.local c p) → WaitsAlike x y
both_alike x y all own true c p = all c p
both_alike x y all own false c p = own c p

pub quiet_alike : (x y : Pends) → WaitsAlike x y → (wide r : Bool) → (IsTrue r ↔ IsQuiet wide y) → IsTrue r ↔ IsQuiet wide x
quiet_alike x y alike wide r tells = (
  λ t b c p is. sym (alike b c p) ∙ (tells.0 t) b c p is,
  λ quiet. tells.1 (λ b c p is. alike b c p ∙ quiet b c p is),
)

two_sides : Pend → Pend → Pends
two_sides x y = record { broadcast = x; local = y }

module _ (old new : List Pending) (k : ℕ) (others : (m : ℕ) → m ≢ k → pend_in new m ≡ pend_in old m) where
  -- what waits for an issuer none of whose lanes changes
  pub issuer_kept : (q : ℕ) → lane_of q true ≢ k → lane_of q false ≢ k → pends_in new q ≡ pends_in old q
  unfolding two_sides
  issuer_kept q all own =
      ap (λ (x : Pend). two_sides x (pend_in new (lane_of q false))) (others (lane_of q true) all)
      ∙ ap (two_sides (pend_in old (lane_of q true))) (others (lane_of q false) own)

-- a TLBI is noted in its lane
pub noted_in : (old new : List Pending) (q : ℕ) (marks : Marks) (reach : PeMask) (broadcast : Bool) (cover : Cover)
    → Adds marks reach cover (pend_in old (lane_of q broadcast)) (pend_in new (lane_of q broadcast))
    → ((m : ℕ) → m ≢ lane_of q broadcast → pend_in new m ≡ pend_in old m)
    → Noted (Broken marks) (pends_in old q) reach broadcast cover (pends_in new q)
noted_in old new q marks reach true cover there others false c p =
    ap (λ (x : Pend). waits_in x c p) (others (lane_of q false) (λ same. sides_apart q (sym same)))
noted_in old new q marks reach false cover there others true c p =
    ap (λ (x : Pend). waits_in x c p) (others (lane_of q true) (sides_apart q))
noted_in old new q marks reach _ cover there others _ c p = there c p

-- the answered ones are taken out of both lanes of an issuer
module _ (old mid new : List Pending) (q : ℕ) (dsb : Dsb) (all own both : Pend)
    (first : Takes (lane_of q true) (answers_broadcast dsb) old mid all)
    (second : Takes (lane_of q false) (answers_local dsb) mid new own)
    (both_are : (c : Cover) (p : ℕ) → waits_in both c p ≡ (waits_in all c p || waits_in own c p)) where
  own_was : pend_in mid (lane_of q false) ≡ pend_in old (lane_of q false)
  own_was = first.others (lane_of q false) (λ same. sides_apart q (sym same))

  left : WaitsOn dsb (pends_in old q) (pends_in new q)
  left true c p = ap (λ (x : Pend). waits_in x c p) (second.others (lane_of q true) (sides_apart q)) ∙ first.left c p
  left false c p = second.left c p ∙ ap (λ (x : Pend). not (answers_local dsb) && waits_in x c p) own_was

  pub takes_answered : TakesAnswered dsb q old new both
  takes_answered = record {
    done = λ c p.
        both_are c p ∙ ap (λ (w : Bool). w || waits_in own c p) (first.done c p)
        ∙ ap (λ (w : Bool). (answers_broadcast dsb && waits_in (pend_in old (lane_of q true)) c p) || w)
        (second.done c p ∙ ap (λ (x : Pend). answers_local dsb && waits_in x c p) own_was);
    left = left;
    others = λ r other.
        issuer_kept mid new (lane_of q false) second.others r (lanes_apart r q true false other) (lanes_apart r q false false other)
        ∙ issuer_kept old mid (lane_of q true) first.others r (lanes_apart r q true true other) (lanes_apart r q false true other);
  }

kept_by : (r k w : Bool) → ((r && k) && not w) ≡ false → w ≡ ((r && (true && k)) || w)
kept_by = proved 3 (λ r k w. If (Is ((r && k) && not w) false) (Is w ((r && (true && k)) || w))) refl

passed_by : (r k w : Bool) → w ≡ ((r && (false && k)) || w)
passed_by = proved 3 (λ r k w. Is w ((r && (false && k)) || w)) refl

adds_none : (marks : Marks) (reach : PeMask) (cover : Cover) (pend : Pend)
    → ((p : ℕ) → ((pe_in reach p && counts_for marks cover p) && not (waits_in pend cover p)) ≡ false)
    → Adds marks reach cover pend pend
adds_none marks reach NoCover pend none NoCover p = kept_by (pe_in reach p) false false (none p)
adds_none marks reach Half pend none Half p = kept_by (pe_in reach p) (pe_in marks.seen p) (pe_in pend.half p) (none p)
adds_none marks reach Second pend none Second p = kept_by (pe_in reach p) (pe_in marks.half p) (pe_in pend.second p) (none p)
adds_none marks reach Full pend none Full p = kept_by (pe_in reach p) (pe_in marks.seen p) (pe_in pend.full p) (none p)
adds_none marks reach cover pend none c p = passed_by (pe_in reach p) (counts_for marks c p) (waits_in pend c p)

-- nothing is added where each PE waits that a TLBI reaches and for which it counts
pub adds_nothing : (marks : Marks) (reach seen missing : PeMask) (cover at : Cover) (pend : Pend) → cover ≡ at
    → ((p : ℕ) → pe_in seen p ≡ (pe_in reach p && counts_for marks at p))
    → ((p : ℕ) → pe_in missing p ≡ (pe_in seen p && not (waits_in pend at p))) → ((p : ℕ) → pe_in missing p ≡ false)
    → Adds marks reach cover pend pend
adds_nothing marks reach seen missing cover at pend is seen_is missing_is none =
    subst (λ (x : Cover). Adds marks reach x pend pend) (sym is) (adds_none marks reach at pend (λ p.
    ap (λ (x : Bool). x && not (waits_in pend at p)) (sym (seen_is p)) ∙ sym (missing_is p) ∙ none p))
