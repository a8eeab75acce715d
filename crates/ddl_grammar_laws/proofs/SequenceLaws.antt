-- The clauses of a sequence are items that can be told apart, and those behind a place are read by the clauses before it.
use Rattle.ddl_grammar_laws.proofs.Common.{arith, ◌≡◌, ℕ, ◌<◌, ◌-◌, ◌||◌, Bool, true, false, List, [], ◌∷◌, length, codes, Ok, refl, ap, ◌∙◌, Lexeme, is_word, starts, Reading, seen_at, Fails, ReadError, Halted, Memory, drop, Lawful, words_apart, headed_seen, lead_begins, lawful_seen, lawful_word, lawful_either, AreApart, items_from, fewer as items_fewer, Clauses, clause_behind, begins_clause, clausing, with_clause, with_clauses, no_clauses, cond, inl, inr, or_cases, IsTooLong, shortened}
use Rattle.ddl_part_laws.proofs.{Shorter.word_like, Composing.one_word, Composing.◌also◌, Repeated.from_none, Repeated.from_read, Repeated.from_stop, Simple.nothing_laws, Basics.passes_by, Tables.AllLawful, Tables.one_of_laws, NumberLaws.whole_number_laws}
use Rattle.ddl_grammar.specs.{Lexemes.never, declared.sequences.Bound.TheVariants.Usual, declared.sequences.Bound.TheVariants.Given, declared.sequences.Clause.Clause, SequenceGrammar.kind_branch, SequenceGrammar.more_branches, SequenceGrammar.is_unsaid, SequenceGrammar.usual_bound, declared.sequences.Clause.TheVariants.Kind, declared.sequences.Clause.TheVariants.Start, declared.sequences.Clause.TheVariants.Step, declared.sequences.Clause.TheVariants.Least, declared.sequences.Clause.TheVariants.Greatest, declared.sequences.Clause.TheVariants.Cache, declared.sequences.Clause.TheVariants.Cycle}
use Rattle.ddl_part_laws.specs.{Parts.Branch, Parts.one_of, Parts.◌▸◌, Numbers.whole_number}
use Rattle.ddl_grammar_laws.proofs.RestLaws.{begun_by_laws}
use Rattle.cat_model.specs.declared.constraint.SequenceKind.TheVariants.{SmallInt, Integer}

-- ---- the laws of a clause

usual_laws : (least greatest : Bool) → Lawful (usual_bound least greatest)
usual_laws true true = lawful_either (headed_seen (λ u. Least Usual) (one_word (codes "minvalue") refl)) (headed_seen (λ u. Greatest Usual) (one_word (codes "maxvalue") refl)) (words_apart (codes "maxvalue") (codes "minvalue") refl)
usual_laws true false = (headed_seen (λ u. Least Usual) (one_word (codes "minvalue") refl)).laws
usual_laws false x = (headed_seen (λ u. Greatest Usual) (one_word (codes "maxvalue") refl)).laws

abbrev usual_branch : Clauses → Branch Clause
usual_branch c = record { key = codes "no"; part = usual_bound (is_unsaid c.least) (is_unsaid c.greatest) }

branches_laws : (c : Clauses) → AllLawful (usual_branch c) (kind_branch ∷ more_branches)
branches_laws c =
    let kind = lawful_either (headed_seen (λ u. Kind SmallInt) (one_word (codes "smallint") refl)) (headed_seen (λ u. Kind Integer) (one_word (codes "integer") refl)) (words_apart (codes "integer") (codes "smallint") refl) in
    usual_laws (is_unsaid c.least) (is_unsaid c.greatest) also kind also lawful_word (codes "with") refl (lawful_seen Start whole_number_laws) also lawful_word (codes "by") refl (lawful_seen Step whole_number_laws)
    also lawful_seen (λ n. Least (Given n)) whole_number_laws also lawful_seen (λ n. Greatest (Given n)) whole_number_laws also lawful_seen Cache whole_number_laws also nothing_laws never Cycle

-- the words that branches begin with
abbrev words : List (Branch Clause) → Lexeme → Bool
words [] t = false
words (b ∷ rest) t = is_word b.key t || words rest t

some_token : (b : Branch Clause) (rest : List (Branch Clause)) (v : Clause) → (one_of b rest).Spells v [] → ⊥
some_token b [] v spells = let e : false ≡ true = lead_begins (is_word b.key) b.part v [] spells in absurd cc
some_token b (c ∷ rest) v spells = elim spells [ inl x ↦ (let e : false ≡ true = lead_begins (is_word b.key) b.part v [] x in absurd cc) | inr x ↦ some_token c rest v x ]

led : (t : Lexeme) (b : Branch Clause) → Lawful b.part → is_word b.key t ≡ true → (v : Clause) × (more : List Lexeme) × (is_word b.key ▸ b.part).Spells v (t ∷ more)
led t b lp e = let x = lp.example in (x.value, x.tokens, ((tt, x.value), refl, (t ∷ [], x.tokens, refl, (t, refl, ap passes_by e), x.spells)))

one_led : (t : Lexeme) (b : Branch Clause) (rest : List (Branch Clause)) → AllLawful b rest → words (b ∷ rest) t ≡ true → (v : Clause) × (more : List Lexeme) × (one_of b rest).Spells v (t ∷ more)
one_led t b [] laws is = led t b laws (grind arith)
one_led t b (c ∷ rest) laws is = elim (or_cases (is_word b.key t) (words (c ∷ rest) t) is) [ inl e ↦ (let x = led t b laws.0 e in (x.0, x.1, inl x.2)) | inr e ↦ (let x = one_led t c rest laws.1 e in (x.0, x.1, inr x.2)) ]

pub clauses_apart : AreApart (begins_clause no_clauses) clausing
unfolding begins_clause clause_behind whole_number
clauses_apart = record {
  laws = λ c.
      let goes : (t : Lexeme) → begins_clause c t ≡ true → words (usual_branch c ∷ kind_branch ∷ more_branches) t ≡ true = λ t e. grind arith in
      let b = usual_branch c in
      begun_by_laws (begins_clause c) (agrees c) (clause_behind c) (one_of_laws b (kind_branch ∷ more_branches) refl (branches_laws c)) (some_token b (kind_branch ∷ more_branches)) (λ t e. one_led t b (kind_branch ∷ more_branches) (branches_laws c) (goes t e));
  agrees = agrees;
  begins = λ c v ts spells. spells.0;
  apart = λ c v t e. ends (is_unsaid c.least) (is_unsaid c.greatest) t;
  covers = λ c t e. (covers c t e, ends (is_unsaid c.least) (is_unsaid c.greatest) t);
}
  where
    agrees : (c : Clauses) (t : Lexeme) → IsTooLong t → begins_clause c (shortened t) ≡ begins_clause c t
    agrees c t long = simp (word_like t long)

    other : (word : List ℕ) (t : Lexeme) (a : Bool) {x y : Bool} → cond (is_word word t) true x ≡ false → (x ≡ false → y ≡ false) → cond (is_word word t) a y ≡ false
    other word t a e later = grind arith

    covers : (c : Clauses) (t : Lexeme) → begins_clause no_clauses t ≡ false → begins_clause c t ≡ false
    covers c t none = other (codes "as") t _ none (λ e. other (codes "start") t _ e (λ e. other (codes "increment") t _ e (λ e. other (codes "no") t _ e (λ e. other (codes "minvalue") t _ e (λ e. other (codes "maxvalue") t _ e (λ e. other (codes "cache") t _ e (λ e. grind arith)))))))

    ends : (least greatest : Bool) (t : Lexeme) → ((usual_bound least greatest).goes_on t || (one_of kind_branch more_branches).goes_on t) ≡ false
    ends true true t = refl
    ends true false t = refl
    ends false x t = refl

-- ---- clause by clause

-- where a clause begins, it is read
begun : (c : Clauses) (ts : List Lexeme) (r : Reading Clause) → starts (begins_clause c) ts ≡ true → (clause_behind c).read ts ≡ r → (clausing.item c).read ts ≡ r
begun c ts r begins e = rw begins e

-- the clauses behind a place, by those before it
abbrev pub left : Clauses → List Lexeme → Reading Clauses
left c ts = seen_at (with_clauses c) (items_from clausing c ts)

pub goes : (c : Clauses) (ts rest : List Lexeme) (v : Clause) → starts (begins_clause c) ts ≡ true → (clause_behind c).read ts ≡ Ok (v, rest) → left c ts ≡ left (with_clause c v) rest
goes c ts rest v begins e = ap (seen_at (with_clauses c)) (from_read clauses_apart c ts (Ok (v, rest)) begins (begun c ts (Ok (v, rest)) begins e)) ∙ (grind arith)

pub fewer : (c : Clauses) (ts : List Lexeme) (at next : ℕ) (v : Clause) → starts (begins_clause c) (drop at ts) ≡ true → (clause_behind c).read (drop at ts) ≡ Ok (v, drop next ts) → length ts - next < length ts - at
fewer c ts at next v begins e = items_fewer clauses_apart (λ v. v) ts c at (v, next) begins (begun c (drop at ts) (Ok (v, drop next ts)) begins e)

-- no clause begins
pub stops : (c : Clauses) (ts : List Lexeme) → starts (begins_clause c) ts ≡ false → left c ts ≡ Ok (c, ts)
stops c ts none = ap (seen_at (with_clauses c)) (from_none clausing c ts none)

-- one begins that isn't read
pub fails : (c : Clauses) (ts : List Lexeme) (at : ℕ) (error : ReadError) → starts (begins_clause c) (drop at ts) ≡ true → Fails ts error ((clause_behind c).read (drop at ts)) → Fails ts error (left c (drop at ts))
fails c ts at Memory begins e = tt
fails c ts at (Halted h) begins e = ap (seen_at (with_clauses c)) (from_stop clausing c (drop at ts) _ begins (begun c (drop at ts) _ begins e))
