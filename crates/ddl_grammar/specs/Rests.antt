-- What may follow the columns of a key, or those of a foreign key's parents: words that are kept as they stand.
use Rattle.std.specs.Prelude.{◌≡◌, ℕ, ◌-◌, Bool, true, false, ◌||◌, List, [], ◌∷◌, length, take, Ok, Err, codes}
use Rattle.ddl_parts.specs.{Lexemes.Lexeme, Lexemes.is_word, Lexemes.is_sign, Lexemes.never, Lexemes.source, Parts.Part, Parts.Reading, Parts.mark, Parts.seen, Parts.choose, Parts.one_of, Parts.nothing, Parts.◌then◌, Parts.◌▸◌}
use Rattle.ddl_grammar.specs.Columns.{columns}

-- ---- what a part takes

-- the tokens before those that are left
abbrev pub taken : List Lexeme → List Lexeme → List Lexeme
taken ts rest = take (length ts - length rest) ts

abbrev pub kept_at : {A : Type 0} → List Lexeme → Reading A → Reading (List ℕ)
kept_at ts (Ok x) = Ok (source (taken ts x.1), x.1)
kept_at ts (Err s) = Err s

-- the source text of the tokens that a part takes, whatever its value is
abbrev pub kept : {A : Type 0} → Part A → Part (List ℕ)
kept {A} p = record {
  Spells = λ v ts. (x : A) × (v ≡ source ts) × p.Spells x ts;
  read = λ ts. kept_at ts (p.read ts);
  goes_on = p.goes_on;
}

-- ---- what follows

unfoldable pub rest_goes_on : Lexeme → Bool
rest_goes_on t = is_word (codes "on") t || (is_word (codes "deferrable") t || is_sign 40 t)

abbrev pub nothing_more : Part (Unit {0})
nothing_more = nothing never tt

-- words behind a key word, or nothing where further tokens could belong to it
abbrev pub maybe : (Lexeme → Bool) → List ℕ → Part (Unit {0}) → Part (Unit {0})
maybe more key p = choose (is_word key) (is_word key ▸ p) (nothing more tt)

-- DEFERRABLE, or DEFERRABLE INITIALLY DEFERRED, or nothing
unfoldable pub deferral : Part (Unit {0})
deferral = maybe rest_goes_on (codes "deferrable") (maybe (is_word (codes "initially")) (codes "initially") (mark (is_word (codes "deferred"))))

-- columns that are set where a parent's row goes, or nothing
abbrev pub set_columns : Bool → Part (Unit {0})
set_columns true = choose (is_sign 40) (seen (λ names. tt) columns) (nothing (is_sign 40) tt)
set_columns false = nothing_more

-- what is done where a parent's row changes, or where it goes
unfoldable pub action : Bool → Part (Unit {0})
action goes =
    one_of (record { key = codes "no"; part = mark (is_word (codes "action")) })
    (record { key = codes "set"; part = one_of (record { key = codes "null"; part = set_columns goes }) (record { key = codes "default"; part = set_columns goes } ∷ []) }
    ∷ record { key = codes "cascade"; part = nothing_more } ∷ record { key = codes "restrict"; part = nothing_more } ∷ [])

-- DELETE and an action
unfoldable pub on_delete : Part (Unit {0})
on_delete = is_word (codes "delete") ▸ seen (λ x. tt) (action true then deferral)

-- words behind ON, or none
abbrev pub behind_on : Part (Unit {0}) → Part (Unit {0})
behind_on p = choose (is_word (codes "on")) (is_word (codes "on") ▸ p) deferral

-- ON UPDATE and an action, ON DELETE and an action, either or both
unfoldable pub reactions : Part (Unit {0})
reactions = behind_on (choose (is_word (codes "update")) (is_word (codes "update") ▸ seen (λ x. tt) (action false then behind_on on_delete)) on_delete)

-- what follows the columns of a key, or nothing
unfoldable pub key_rest : Part (List ℕ)
key_rest = kept deferral

-- what follows the columns of a foreign key's parents, or nothing
unfoldable pub foreign_rest : Part (List ℕ)
foreign_rest = kept reactions
