-- What is readable at a moment: by the lists that are kept, at the start, and after an event that changes nothing of
-- it.
use Rattle.bbm_rules.proofs.Common.{◌≡◌, ℕ, ◌+◌, ◌<◌, Bool, true, false, ◌||◌, List, [], ◌∷◌, ◌++◌, length, take, get_or, Option}
use Rattle.bbm_rules.proofs.Common.{refl, sym, ap, ◌∙◌, true≢false, append_assoc, take_more, filter_map-append}
use Rattle.bbm_rules.proofs.Common.{AsidFrom, FromTtbr0, FromTtbr1, Ttbr0El1, Ttbr1El1, Ttbr1Tag, World, Hyp, Kernel}
use Rattle.bbm_rules.proofs.Common.{Reg, Heading, Event, Root, Unroot, Isb, Msr, Tag, changes, register_values}
use Rattle.bbm_rules.proofs.Common.{roots_of, Reading, asid_readings, readings, readings_in, readings_of, reads}
use Rattle.bbm_rules.proofs.Common.{reads_for_some}
use Rattle.std.specs.List.{filter_map}
use Rattle.std.specs.Option.{option_to_list}
use Rattle.bbm_rules.specs.RegisterValues.{standings}
use Rattle.bbm_rules.specs.Tags.{second_readings}
use Rattle.bbm_oracle_tags.specs.Moments.{IsMoment, asid_readings_by, first_reg, second_reg, readings_by, is_read}
use Rattle.bbm_oracle_tags.specs.Moments.{is_read_for_some, second_readings_by}
use Rattle.bbm_oracle_tags.specs.declared.moment.Moment.{Moment}
use Rattle.bbm_rules.proofs.TagLaw.{no_reading}
use Rattle.bbm_lemmas.proofs.Elements.{one_option}

second-readings-by : (inorder : Bool) (h : List Event) (p : ℕ)
    → second_readings inorder h p ≡ second_readings_by inorder (roots_of h) (register_values h p Ttbr0El1)
    (register_values h p Ttbr1El1) (standings h p)
second-readings-by true h p = refl
second-readings-by false h p = refl

asid-readings-by : (inorder : Bool) (from : AsidFrom) (h : List Event) (p : ℕ)
    → asid_readings inorder from h p ≡ asid_readings_by inorder from (roots_of h) (register_values h p Ttbr0El1)
    (register_values h p Ttbr1El1) (standings h p)
asid-readings-by inorder FromTtbr0 h p = refl
asid-readings-by inorder FromTtbr1 h p = second-readings-by inorder h p

pub readings-by : (inorder : Bool) (world : World) (h : List Event) (p : ℕ)
    → readings_in inorder world h p ≡ readings_by inorder world (roots_of h) (register_values h p (first_reg world))
    (register_values h p (second_reg world)) (standings h p)
readings-by inorder (Hyp world) h p = refl
readings-by inorder (Kernel world) h p = ap (λ own. own ++ readings_of h p Ttbr1El1 (λ value. Ttbr1Tag))
    (asid-readings-by inorder world.asid_from h p)

pub moment-readings : (heading : Heading) (h : List Event) (p : ℕ) (m : Moment) → IsMoment heading.world p h m
    → readings_by heading.words.inorder heading.world m.roots.items m.first.items m.second.items m.standings.items
    ≡ readings heading h p
moment-readings heading h p m k =
    rw (k.roots, k.first, k.second, k.standings) (sym (readings-by heading.words.inorder heading.world h p))

-- an event that changes neither roots nor registers
pub same-roots : (e : Event) (h : List Event) → ((changes e).roots || (changes e).registers) ≡ false
    → roots_of (e ∷ h) ≡ roots_of h
same-roots (Root pe kind lock page) h k = absurd (true≢false k)
same-roots (Unroot pe page) h k = absurd (true≢false k)
same-roots e h k = refl

pub same-values : (e : Event) (h : List Event) (p : ℕ) (reg : Reg)
    → ((changes e).roots || (changes e).registers) ≡ false
    → register_values (e ∷ h) p reg ≡ register_values h p reg
same-values (Isb pe) h p reg k = absurd (true≢false k)
same-values (Msr pe r value) h p reg k = absurd (true≢false k)
same-values e h p reg k = refl

same-standings : (e : Event) (h : List Event) (p : ℕ) → ((changes e).roots || (changes e).registers) ≡ false
    → standings (e ∷ h) p ≡ standings h p
same-standings (Isb pe) h p k = absurd (true≢false k)
same-standings (Msr pe r value) h p k = absurd (true≢false k)
same-standings e h p k = refl

pub same-readings : (heading : Heading) (e : Event) (h : List Event) (p : ℕ)
    → ((changes e).roots || (changes e).registers) ≡ false
    → readings heading (e ∷ h) p ≡ readings heading h p
same-readings heading e h p k =
    readings-by heading.words.inorder heading.world (e ∷ h) p
    ∙ rw (
      same-roots e h k,
      same-values e h p (first_reg heading.world) k,
      same-values e h p (second_reg heading.world) k,
      same-standings e h p k,
    )
    (sym (readings-by heading.words.inorder heading.world h p))

pub same-reads : (heading : Heading) (e : Event) (h : List Event) (p : ℕ) (tag : Tag) (root : ℕ)
    → ((changes e).roots || (changes e).registers) ≡ false
    → reads heading (e ∷ h) p tag root ≡ reads heading h p tag root
same-reads heading e h p tag root k = ap (λ (rs : List Reading). is_read rs tag root)
    (same-readings heading e h p k)

pub same-reads-some : (heading : Heading) (e : Event) (h : List Event) (p : ℕ) (tag : Tag)
    → ((changes e).roots || (changes e).registers) ≡ false
    → reads_for_some heading (e ∷ h) p tag ≡ reads_for_some heading h p tag
same-reads-some heading e h p tag k = ap (λ (rs : List Reading). is_read_for_some rs tag)
    (same-readings heading e h p k)

pub reads-nothing : (heading : Heading) (p : ℕ) (tag : Tag) (root : ℕ) → reads heading [] p tag root ≡ false
reads-nothing heading p tag root = ap (λ (rs : List Reading). is_read rs tag root)
    (no_reading heading.words.inorder heading.world p)

pub reads-nothing-some : (heading : Heading) (p : ℕ) (tag : Tag) → reads_for_some heading [] p tag ≡ false
reads-nothing-some heading p tag = ap (λ (rs : List Reading). is_read_for_some rs tag)
    (no_reading heading.words.inorder heading.world p)

-- one more value, and what it lets read
pub readings-more : {X Y : Type 0} (f : X → Option Y) (xs : List X) (i : ℕ) (x : X) (now old start : List Y)
    → i < length xs → old ≡ start ++ filter_map f (take i xs) → now ≡ old ++ option_to_list (f (get_or xs i x))
    → now ≡ start ++ filter_map f (take (i + 1) xs)
readings-more {X} {Y} f xs i x now old start lt before here =
    here
    ∙ ap (λ (ys : List Y). ys ++ option_to_list (f (get_or xs i x))) before
    ∙ append_assoc start (filter_map f (take i xs)) (option_to_list (f (get_or xs i x)))
    ∙ ap (λ (ys : List Y). start ++ ys) (sym (ap (λ (zs : List X). filter_map f zs) (take_more xs i x lt)
    ∙ filter_map-append f (take i xs) (get_or xs i x ∷ [])
    ∙ ap (λ (ys : List Y). filter_map f (take i xs) ++ ys) (one_option (f (get_or xs i x)))))

-- the two tests of what is readable, by the lists that are kept
pub reads-by : (heading : Heading) (h : List Event) (p : ℕ) (m : Moment) (rs : List Reading) (tag : Tag) (root : ℕ)
    → IsMoment heading.world p h m → rs ≡ readings_by heading.words.inorder heading.world m.roots.items m.first.items
    m.second.items m.standings.items
    → is_read rs tag root ≡ reads heading h p tag root
reads-by heading h p m rs tag root k e =
    ap (λ (rs : List Reading). is_read rs tag root) (e ∙ moment-readings heading h p m k)

pub reads-some-by : (heading : Heading) (h : List Event) (p : ℕ) (m : Moment) (rs : List Reading) (tag : Tag)
    → IsMoment heading.world p h m → rs ≡ readings_by heading.words.inorder heading.world m.roots.items m.first.items
    m.second.items m.standings.items
    → is_read_for_some rs tag ≡ reads_for_some heading h p tag
reads-some-by heading h p m rs tag k e =
    ap (λ (rs : List Reading). is_read_for_some rs tag) (e ∙ moment-readings heading h p m k)
