-- What a line says that begins with a backslash, as psql has them: the line is one token.
use Rattle.std.specs.{Prelude.◌≡◌, Prelude.◌⊎◌, Prelude.ℕ, Prelude.◌+◌, Prelude.◌≤◌, Prelude.Bool, Prelude.true, Prelude.false, Prelude.not, Prelude.◌&&◌, Prelude.◌||◌, Prelude.List, Prelude.[], Prelude.◌∷◌, Prelude.length, Prelude.take, Prelude.drop, Prelude.Option, Prelude.Some, Prelude.None, Prelude.Result, Prelude.Ok, Prelude.Err, Prelude.⊤, Prelude.if◌then◌else◌, Prelude.codes, List.list_all, List.prefix_len, Str.bytes_eq}
use Rattle.copy_text.specs.Texts.{IsName}
use Rattle.sql_lex.specs.Bytes.{is_blank, in_line}
use Rattle.cat_model.specs.{declared.stmt.Stmt.Stmt, declared.stmt.Stmt.TheVariants.Connect}
use Rattle.ddl_grammar.specs.{pieces.Piece.Piece, Leaves.name_value, Leaves.is_name_kind, Pieces.lexeme_of, Collecting.collected}
use Rattle.ddl_scripts.specs.declared.meta_lines.MetaError.{MetaError}
use Rattle.ddl_scripts.specs.declared.meta_lines.MetaError.TheVariants as errors

-- ---- the command and what stands behind it

-- a line's bytes up to the first white space
unfoldable pub command_len : List ℕ → ℕ
command_len line = prefix_len (λ b. not (is_blank b)) line

-- white space alone stands before the token and behind it
unfoldable pub stands_alone : List ℕ → Piece → Bool
stands_alone text p = list_all is_blank (take p.token.start text) && list_all is_blank (drop p.token.end text)

-- why a line says nothing: the place in it from which on it doesn't, and whether a name there is one but for its length
pub record Wrong : Type 0 where
  pub long : Bool
  pub at : ℕ

-- the line is none that is known
abbrev pub unknown : {A : Type 0} → Result A Wrong
unknown = Err (record { long = false; at = 0 })

-- what a name or a quoted text at a place stands for
abbrev pub named : ℕ → Result (List ℕ) Bool → Result (List ℕ) Wrong
named at (Ok n) = Ok n
named at (Err long) = Err (record { long = long; at = at })

-- one name, and white space around it, behind a command of this length
abbrev pub one_name : ℕ → List ℕ → List Piece → Result (List ℕ) Wrong
one_name len text (p ∷ []) = if stands_alone text p && is_name_kind p.token.kind then named (len + p.token.start) (name_value (lexeme_of text p)) else unknown
one_name len text _ = unknown

unfoldable pub name_alone : ℕ → List ℕ → Result (List ℕ) Wrong
name_alone len text = one_name len text (collected text 0).pieces

-- ---- what it says

abbrev pub connected : Result (List ℕ) Wrong → Result (Option Stmt) Wrong
connected (Ok n) = Ok (Some (Connect n))
connected (Err wrong) = Err wrong

-- \restrict and \unrestrict are passed over, whatever stands behind them; \connect has a name
unfoldable pub said_by : List ℕ → List ℕ → Result (Option Stmt) Wrong
said_by command behind =
    if bytes_eq command (codes "\\restrict") || bytes_eq command (codes "\\unrestrict") then Ok None
    else (if bytes_eq command (codes "\\connect") then connected (name_alone (length command) behind) else unknown)

-- the statement of a line, or None where it is passed over
unfoldable pub meta_line : List ℕ → Result (Option Stmt) Wrong
meta_line line = said_by (take (command_len line) line) (drop (command_len line) line)

-- what a line of a script says: nothing, or a name, which lies in one line too
abbrev pub IsSaid : Option Stmt → Type 0
IsSaid s = (s ≡ None) ⊎ ((n : List ℕ) × (s ≡ Some (Connect n)) × IsName n × (list_all in_line n ≡ true))

-- ---- what the code answers

abbrev pub Fails : {A : Type 0} → MetaError → Result A Wrong → Type 0
Fails errors.Memory given = ⊤
Fails (errors.LongName at) given = given ≡ Err (record { long = true; at = at })
Fails (errors.Unknown at) given = given ≡ Err (record { long = false; at = at })

abbrev pub Gives : {A B : Type 0} → (A → B) → Result A MetaError → Result B Wrong → Type 0
Gives view (Ok x) given = given ≡ Ok (view x)
Gives view (Err error) given = Fails error given

-- the place of an error lies in a line of this length, or right behind it
abbrev pub IsWithin : ℕ → MetaError → Type 0
IsWithin len errors.Memory = ⊤
IsWithin len (errors.LongName at) = at ≤ len
IsWithin len (errors.Unknown at) = at ≤ len
