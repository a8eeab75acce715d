-- A book with one entry more.
use Rattle.std.proofs.Common.{◌≡◌, ℕ, nat_eq, Bool, cond, true, false, List, [], ◌∷◌, ◌+◌, ◌<◌, length, take, reverse, get_or, subst, sym, Option, Some, None, refl, ap, ◌∙◌}
use Rattle.std.specs.Option.{option_map}
use Rattle.std.specs.HashMap.{HashMap, get}
use Rattle.toc_entry.specs.declared.entry.Entry.{Entry}
use Rattle.entry_choices.specs.declared.options.Options.{Options}
use Rattle.entry_choices.specs.declared.known.Known.{Known}
use Rattle.entry_choices.specs.Books.{Knows}
use Rattle.entry_choices.specs.Choices.{section_among, is_taken_among, section_behind, is_taken_behind}
use Rattle.entry_choices.proofs.Behind.{next_behind}

split : {X : Type 0} (f : Known → X) (b : Bool) (k : Known) (old : Option Known) (x : X) (r : Option X) → f k ≡ x → option_map f old ≡ r → option_map f (cond b (Some k) old) ≡ elim b as (λ _. Option X) [ true ↦ Some x | false ↦ r ]
split f true k old x r here there = ap Some here
split f false k old x r here there = there

pub knows_more : {S : Type 0} (o : Options) (before : List Entry) (e : Entry) (k : Known) (m n : HashMap ℕ Known S) →
    ((id : ℕ) → get nat_eq n id ≡ cond (nat_eq e.dump_id id) (Some k) (get nat_eq m id)) →
    Knows o before m → k.section ≡ section_behind before e → k.taken ≡ is_taken_behind o before e → Knows o (e ∷ before) n
unfolding section_among is_taken_among
knows_more o before e k m n updated known section taken = record {
  sections = λ id. ap (option_map (λ (x : Known). x.section)) (updated id) ∙ split (λ (x : Known). x.section) (nat_eq e.dump_id id) k (get nat_eq m id) (section_behind before e) (section_among before id) section (known.sections id);
  taken = λ id. ap (option_map (λ (x : Known). x.taken)) (updated id) ∙ split (λ (x : Known). x.taken) (nat_eq e.dump_id id) k (get nat_eq m id) (is_taken_behind o before e) (is_taken_among o before id) taken (known.taken id);
}

pub knows_none : {S : Type 0} (o : Options) (book : HashMap ℕ Known S) → ((id : ℕ) → get nat_eq book id ≡ None) → Knows o [] book
unfolding section_among is_taken_among
knows_none o book none = record {
  sections = λ id. ap (option_map (λ (x : Known). x.section)) (none id);
  taken = λ id. ap (option_map (λ (x : Known). x.taken)) (none id);
}

pub knows_next : {S : Type 0} (o : Options) (es : List Entry) (i : ℕ) (e : Entry) (book : HashMap ℕ Known S) → i < length es → e ≡ get_or es i e →
    Knows o (e ∷ reverse (take i es)) book → Knows o (reverse (take (i + 1) es)) book
knows_next {S} o es i e book below is known =
    let P : List Entry → Type 0 = λ (xs : List Entry). Knows {S = S} o xs book in
    subst P (sym (next_behind es i e below is)) known
