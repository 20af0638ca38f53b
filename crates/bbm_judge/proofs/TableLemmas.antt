-- The least page by which the rule on table pages is broken.
use Rattle.bbm_rules.proofs.Common.{◌≡◌, ℕ, true, not, Bool, cond, List, ◌++◌, Option, None, filter, fun_ext, sym, ◌∙◌, ap}
use Rattle.bbm_rules.proofs.Common.{least, Heading, Event, Trust, Noted}
use Rattle.bbm_rules.specs.Mapped.{is_clean, table_pages}
use Rattle.bbm_rules.specs.Rules.{bad_tables, made_tables, mapped_table, puts_over}
use Rattle.bbm_judge.specs.Lesser.{lesser}
use Rattle.bbm_judge.proofs.Leasts.{least_both}

pub least_bad : (heading : Heading) (trust : Trust) (h : List Noted) (e : Event) (over : ℕ → Bool) (tables made : List ℕ)
    (one other : Option ℕ) → heading.words.isolated ≡ true → ((page : ℕ) → over page ≡ puts_over heading trust h e page)
    → tables ≡ table_pages heading trust h ++ made → made ≡ made_tables heading trust h e → one ≡ least (filter over tables)
    → other ≡ least (filter (λ (page : ℕ). not (is_clean heading trust h page)) made)
    → lesser one other ≡ mapped_table heading trust h e
least_bad heading trust h e over tables made one other on same are makes is is' =
    least_both (filter over tables) (filter (λ (page : ℕ). not (is_clean heading trust h page)) made) one other is is'
    ∙ ap least
    (ap (λ (test : ℕ → Bool). filter test tables ++ filter (λ (page : ℕ). not (is_clean heading trust h page)) made) (fun_ext same)
    ∙ ap (λ (pages : List ℕ). filter (puts_over heading trust h e) pages ++ filter (λ (page : ℕ). not (is_clean heading trust h page)) made) are
    ∙ ap (λ (pages : List ℕ). filter (puts_over heading trust h e) (table_pages heading trust h ++ pages)
    ++ filter (λ (page : ℕ). not (is_clean heading trust h page)) pages) makes)
    ∙ sym (ap (λ (b : Bool). cond b (least (bad_tables heading trust h e)) None) on)
