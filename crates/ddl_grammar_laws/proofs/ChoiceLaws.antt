-- Parts that may be left out have the laws of a part, one before another.
use Rattle.ddl_grammar_laws.proofs.Common.{append_assoc, arith, ◌≡◌, ℕ, Bool, true, false, ◌||◌, List, [], ◌∷◌, ◌++◌, Option, Some, None, sym, ap, ◌∙◌, inl, inr, or_parts, or_left, or_right, str_eq_ignore_ascii_case, Lexeme, is_word, starts, Part, mark, seen, ◌▸◌, Lawful, Apart, starts_neither, starts_apart, starts-append, seen_laws, wider_laws, is_far, words_apart, Headed, lawful_then, headed_word, headed_seen, one_word, lawful_choose, lawful_maybe, avoids_maybe, any_word, clause, said, flag, ◌before◌}
use Rattle.ddl_grammar_laws.proofs.AdminTelling.{all_differ, words_differ, any-append}

-- A part that may be left out: what spells it is nothing or begins with one of the key words, and no other token goes on.
pub record IsOptional {A : Type 0} (keys : List (List ℕ)) (p : Part A) : Type 0 where
  pub laws : Lawful p
  pub skips : (test : Lexeme → Bool) → Apart (any_word keys) test → (v : A) (ts rest : List Lexeme) → p.Spells v ts → starts test rest ≡ false → starts test (ts ++ rest) ≡ false
  pub only : (t : Lexeme) → any_word keys t ≡ false → p.goes_on t ≡ false

-- one before another, where their key words differ
pub before_is : {A B : Type 0} {keys others : List (List ℕ)} {p : Part A} {q : Part B} → IsOptional keys p → IsOptional others q → all_differ others keys ≡ true → IsOptional (keys ++ others) (p before q)
before_is {keys = keys} {others = others} {p = p} {q = q} hp hq differ = record {
  laws = lawful_then hp.laws (wider_laws p.goes_on q hq.laws) (λ v ts rest spells free. hq.skips p.goes_on (λ t e. hp.only t (words_differ others keys differ t e)) v ts rest spells (starts_neither q.goes_on p.goes_on rest free).1);
  skips = λ test apart v ts rest spells free.
      let first : Apart (any_word keys) test = λ t e. apart t (any-append keys others t ∙ or_left (any_word keys t) (any_word others t) e) in
      let second : Apart (any_word others) test = λ t e. apart t (any-append keys others t ∙ or_right (any_word keys t) (any_word others t) e) in
      ap (λ (x : List Lexeme). starts test (x ++ rest)) spells.2 ∙ ap (starts test) (append_assoc spells.0 spells.1 rest) ∙ hp.skips test first v.0 spells.0 (spells.1 ++ rest) spells.3 (hq.skips test second v.1 spells.1 rest spells.4 free);
  only = λ t e. let h = or_parts (any_word keys t) (any_word others t) (sym (any-append keys others t) ∙ e) in ap (λ (b : Bool). b || p.goes_on t) (hq.only t h.1) ∙ hp.only t h.0;
}

pub seen_is : {A B : Type 0} {keys : List (List ℕ)} {p : Part A} (f : A → B) → IsOptional keys p → IsOptional keys (seen f p)
seen_is {p = p} f h = record { laws = seen_laws f p h.laws; skips = λ test apart w ts rest spells free. h.skips test apart spells.0 ts rest spells.2 free; only = h.only }

-- what begins with one of the key words
begun : {A : Type 0} {p : Part A} {one : Lexeme → Bool} (keys : List (List ℕ)) → Headed one p → ((t : Lexeme) → one t ≡ true → any_word keys t ≡ true) → (test : Lexeme → Bool) → Apart (any_word keys) test → (v : A) (ts rest : List Lexeme) → p.Spells v ts → starts test (ts ++ rest) ≡ false
begun {one = one} keys h is test apart v ts rest spells = starts_apart one test (ts ++ rest) (λ t e. apart t (is t e)) (starts-append one ts rest (h.begins v ts spells))

-- ---- a part behind a key word

pub clause_is : {A : Type 0} {p : Part A} (key : List ℕ) → is_far key ≡ true → Lawful p → ((t : Lexeme) → p.goes_on t ≡ false) → IsOptional (key ∷ []) (clause key p)
clause_is {A} {p} key far lp free = record { laws = lawful_maybe (any_word (key ∷ [])) None given (λ t e. grind arith); skips = skips; only = λ t e. ap (λ (b : Bool). b || any_word (key ∷ []) t) (free t) ∙ e }
  where
    given : Headed (is_word key) (seen Some (is_word key ▸ p))
    given = headed_seen Some (headed_word key far lp)

    skips : (test : Lexeme → Bool) → Apart (any_word (key ∷ [])) test → (v : Option A) (ts rest : List Lexeme) → (clause key p).Spells v ts → starts test rest ≡ false → starts test (ts ++ rest) ≡ false
    skips test apart v ts rest (inl h) none = begun (key ∷ []) given (λ t e. grind arith) test apart v ts rest h
    skips test apart v ts rest (inr h) none = ap (λ (x : List Lexeme). starts test (x ++ rest)) h.1 ∙ none

-- ---- a key word, or another that denies it

pub flag_is : (key denial : List ℕ) → is_far key ≡ true → is_far denial ≡ true → str_eq_ignore_ascii_case denial key ≡ false → IsOptional (key ∷ denial ∷ []) (flag key denial)
flag_is key denial far far' differ =
    record {
      laws = lawful_choose yes (lawful_maybe (any_word (key ∷ denial ∷ [])) None no (λ t e. grind arith)) (avoids_maybe (is_word key) no (words_apart denial key differ) (any_word (key ∷ denial ∷ [])) None (λ t e. grind arith));
      skips = skips;
      only = λ t e. e;
    }
  where
    yes : Headed (is_word key) (seen (said true) (mark (is_word key)))
    yes = headed_seen (said true) (one_word key far)

    no : Headed (is_word denial) (seen (said false) (mark (is_word denial)))
    no = headed_seen (said false) (one_word denial far')

    skips : (test : Lexeme → Bool) → Apart (any_word (key ∷ denial ∷ [])) test → (v : Option Bool) (ts rest : List Lexeme) → (flag key denial).Spells v ts → starts test rest ≡ false → starts test (ts ++ rest) ≡ false
    skips test apart v ts rest (inl h) none = begun (key ∷ denial ∷ []) yes (λ t e. grind arith) test apart v ts rest h
    skips test apart v ts rest (inr (inl h)) none = begun (key ∷ denial ∷ []) no (λ t e. grind arith) test apart v ts rest h
    skips test apart v ts rest (inr (inr h)) none = ap (λ (x : List Lexeme). starts test (x ++ rest)) h.1 ∙ none
