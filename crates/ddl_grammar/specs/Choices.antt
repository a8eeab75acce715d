-- Parts that may each be left out and that stand in one order.
use Rattle.std.specs.{Prelude.ℕ, Prelude.Bool, Prelude.true, Prelude.false, Prelude.List, Prelude.[], Prelude.◌∷◌, Prelude.Option, Prelude.Some, Prelude.None, List.list_any}
use Rattle.ddl_parts.specs.{Lexemes.Lexeme, Lexemes.is_word, Lexemes.is_sign, Parts.Part, Parts.mark, Parts.seen, Parts.choose, Parts.nothing, Parts.wider, Parts.◌then◌, Parts.◌▸◌}

abbrev pub semicolon : Lexeme → Bool
semicolon = is_sign 59

-- one of these key words
abbrev pub any_word : List (List ℕ) → Lexeme → Bool
any_word keys t = list_any (λ key. is_word key t) keys

-- a part behind a key word, or nothing
abbrev pub clause : {A : Type 0} → List ℕ → Part A → Part (Option A)
clause key p = choose (is_word key) (seen Some (is_word key ▸ p)) (nothing (any_word (key ∷ [])) None)

abbrev pub said : Bool → Unit {0} → Option Bool
said b u = Some b

-- a key word, or another that denies it, or nothing
abbrev pub flag : List ℕ → List ℕ → Part (Option Bool)
flag key denial =
    choose (is_word key) (seen (said true) (mark (is_word key)))
    (choose (is_word denial) (seen (said false) (mark (is_word denial))) (nothing (any_word (key ∷ denial ∷ [])) None))

-- a part that may be left out before another that may be: what could belong to the first may not follow both
infixr 20 ◌before◌
abbrev pub ◌before◌ : {A B : Type 0} → Part A → Part B → Part (A × B)
p before q = p then wider p.goes_on q
