-- What several kinds of statements have: the semicolon, parts that begin with some tokens, named checks and new owners.
use Rattle.std.specs.Prelude.{◌≡◌, ℕ, Bool, true, List, codes}
use Rattle.cat_model.specs.declared.table.CheckDef.{CheckDef}
use Rattle.ddl_parts.specs.{Lexemes.Lexeme, Lexemes.is_word, Lexemes.is_sign, Lexemes.starts, Parts.Part, Parts.mark, Parts.seen, Parts.choose, Parts.choose_at, Parts.stop, Parts.◌then◌, Parts.◌▸◌, Parts.◌◂◌, Leaves.name, Expressions.expression}

abbrev pub semicolon : Lexeme → Bool
semicolon = is_sign 59

-- a part, where the next token passes a test
abbrev pub begun_by : {A : Type 0} → (Lexeme → Bool) → Part A → Part A
begun_by test p = record {
  Spells = λ v ts. (starts test ts ≡ true) × p.Spells v ts;
  read = λ ts. choose_at (starts test ts) (p.read ts) (stop ts);
  goes_on = p.goes_on;
}

abbrev pub check_of : List ℕ × List ℕ → CheckDef
check_of x = record { name = x.0; text = x.1 }

-- CONSTRAINT name CHECK (expression)
unfoldable pub named_check : Part CheckDef
named_check =
    seen check_of
    (is_word (codes "constraint") ▸ (name then (is_word (codes "check") ▸ (is_sign 40 ▸ (expression ◂ is_sign 41)))))

-- an equals sign, or TO
unfoldable pub equals_or_to : Part (Unit {0})
equals_or_to = choose (is_sign 61) (mark (is_sign 61)) (mark (is_word (codes "to")))
