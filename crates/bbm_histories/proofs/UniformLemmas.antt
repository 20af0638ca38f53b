-- Under `cnp` all PEs are alike.
use Rattle.bbm_histories.proofs.Common.{Heading, Event, Published, Below}
use Rattle.bbm_rules.proofs.Common.{◌≡◌, ℕ, ◌<◌, Bool, true, ◌&&◌, ◌||◌, not, ◌==◌, nat_lt, List, refl, sym, ◌∙◌, ap}
use Rattle.bbm_rules.proofs.Common.{true≢false, and_from, and_parts, lt-ltb, Inner, All, Stores, is_non, Cover, Half}
use Rattle.bbm_rules.proofs.Common.{operation, Trust, half, seen, Noted, Flush, HalfBy, Publication, Issued, reaches}
use Rattle.bbm_rules.proofs.Common.{published, publishes_to, same_truth}
use Rattle.bbm_barriers.specs.declared.Dsb.{Dsb as Barrier}
use Rattle.bbm_barriers.specs.declared.Domain.{Domain}
use Rattle.bbm_barriers.specs.declared.Domain.TheVariants.{Full as FullDomain, Outer, Non}
use Rattle.bbm_barriers.specs.declared.Types.{Types}
use Rattle.bbm_barriers.specs.declared.Types.TheVariants.{Loads}
use Rattle.bbm_barriers.specs.Options.{audience, hears}
use Rattle.bbm_events.specs.declared.event.Event.TheVariants.{Tlbi}

-- a barrier of another domain than the non-shareable one is heard by each PE where it is by one
heard : (domain : Domain) (types : Types) (q pes p r : ℕ) → not (is_non domain) ≡ true → nat_lt r pes ≡ true
    → hears (audience domain types) q pes p ≡ true → hears (audience domain types) q pes r ≡ true
heard Non types q pes p r other below k = absurd (true≢false (sym other))
heard FullDomain All q pes p r other below k = below
heard Inner All q pes p r other below k = below
heard Outer All q pes p r other below k = below
heard FullDomain Stores q pes p r other below k = below
heard Inner Stores q pes p r other below k = below
heard Outer Stores q pes p r other below k = below
heard FullDomain Loads q pes p r other below k = absurd (true≢false (sym k))
heard Inner Loads q pes p r other below k = absurd (true≢false (sym k))
heard Outer Loads q pes p r other below k = absurd (true≢false (sym k))

module _ (heading : Heading) (cnp : heading.cnp ≡ true) where
  pub publishes_alike : (dsb : Barrier) (q p r : ℕ) → r < heading.pes → publishes_to heading dsb q p ≡ true
      → publishes_to heading dsb q r ≡ true
  publishes_alike dsb q p r below k =
      let parts = and_parts (hears (audience dsb.domain dsb.types) q heading.pes p) (not (heading.cnp && is_non dsb.domain)) k in
      let other : not (is_non dsb.domain) ≡ true = sym (ap (λ (c : Bool). not (c && is_non dsb.domain)) cnp) ∙ parts.1 in
      and_from (hears (audience dsb.domain dsb.types) q heading.pes r) (not (heading.cnp && is_non dsb.domain))
      (heard dsb.domain dsb.types q heading.pes p r other (lt-ltb r heading.pes below) parts.0) parts.1

  pub publication_alike : (place p r : ℕ) (since : List Noted) (b : Noted) → r < heading.pes
      → Publication heading place p since b → Publication heading place r since b
  publication_alike place p r since b below k = record {
    q = k.q;
    dsb = k.dsb;
    value = k.value;
    write = k.write;
    newer = k.newer;
    between = k.between;
    older = k.older;
    split = k.split;
    wrote = k.wrote;
    barrier = k.barrier;
    publishes = publishes_alike k.dsb k.q p r below k.publishes;
  }

  pub reached_alike : (e : Event) (p r : ℕ) → reaches heading e p ≡ reaches heading e r
  reached_alike (Tlbi pe op xt) p r =
      ap (λ (c : Bool). (operation op).broadcast || (not c && pe == p)) cnp
      ∙ sym (ap (λ (c : Bool). (operation op).broadcast || (not c && pe == r)) cnp)
  reached_alike e p r = refl

  pub flush_alike : (cover : Cover) (place p r : ℕ) (since : List Noted) (t : Issued Noted) (d : Noted)
      → Flush heading cover place p since t d → Flush heading cover place r since t d
  flush_alike cover place p r since t d k =
      record { answer = k.answer; reached = sym (reached_alike t.tlbi.event p r) ∙ k.reached; covered = k.covered }

  pub half_alike : (place p r : ℕ) (since : List Noted) (b : Noted) (t : Issued Noted) (d : Noted) → r < heading.pes
      → HalfBy heading place p since b t d → HalfBy heading place r since b t d
  half_alike place p r since b t d below k = record {
    flush = flush_alike Half place p r since t d k.flush;
    published = publication_alike place p r t.before b below k.published;
  }

  pub published_alike : (trust : Trust) → Below heading trust → (q p r : ℕ) (later : List Event) → r < heading.pes
      → published heading q p later ≡ true → published heading q r later ≡ true
  published_alike trust b q p r later below k =
      let s : Published heading q p later = b.published.sound q p later k in
      b.published.complete q r later (record {
        dsb = s.dsb;
        after = s.after;
        before = s.before;
        split = s.split;
        publishes = publishes_alike s.dsb q p r below s.publishes;
      })

  -- two tests that follow from each other are the same
  pub seen_alike : (trust : Trust) → Below heading trust → (place p r : ℕ) (since : List Noted) → p < heading.pes → r < heading.pes
      → seen heading place p since ≡ seen heading place r since
  seen_alike trust b place p r since is_pe is_pe' =
      same_truth (seen heading place p since) (seen heading place r since) (go p r is_pe') (go r p is_pe)
    where
      go : (p r : ℕ) → r < heading.pes → seen heading place p since ≡ true → seen heading place r since ≡ true
      go p r below s =
          let k = b.seen.sound place p since s in
          b.seen.complete place r since (k.0, publication_alike place p r since k.0 below k.1)

  pub half_test_alike : (trust : Trust) → Below heading trust → (place p r : ℕ) (since : List Noted) → p < heading.pes → r < heading.pes
      → half heading place p since ≡ half heading place r since
  half_test_alike trust b place p r since is_pe is_pe' =
      same_truth (half heading place p since) (half heading place r since) (go p r is_pe') (go r p is_pe)
    where
      go : (p r : ℕ) → r < heading.pes → half heading place p since ≡ true → half heading place r since ≡ true
      go p r below s =
          let k = b.half.sound place p since s in
          b.half.complete place r since (k.0, k.1, k.2, half_alike place p r since k.0 k.1 k.2 below k.3)
