-- Which texts read as which statements, and which place of a text is the first from which on none reads.
-- Said by relations, apart from how a text is read.
use Rattle.std.specs.Prelude.{◌≡◌, ◌↔◌, ℕ, Bool, true, List, [], ◌∷◌, ◌++◌, length, Option, Some, None, Ok, Err}
use Rattle.sql_lex.specs.{declared.fault.LexFault.LexFault, declared.token.Token.Token, declared.token.TokenKind.TheVariants.MetaLine, Next.next_token_of, Meaning.spelling}
use Rattle.cat_model.specs.declared.stmt.Stmt.{Stmt}
use Rattle.ddl_grammar.specs.{Lexemes.Lexeme, Lexemes.start_of, Pieces.lexemes, Collecting.collected, Shortened.IsTooLong, Shortened.shortened, Grammar.statement}
use Rattle.ddl_scripts.specs.{declared.located.Located.Located, declared.fault.DdlFault.DdlFault, declared.fault.DdlFault.TheVariants.Lex, MetaLines.Wrong, MetaLines.meta_line, Reading.whole, Reading.completed, Reading.line_at, Reading.line_fault, Reading.listed, Reading.first_start, Reading.fault_by}

-- all tokens from a place up to a semicolon spell a statement, or an empty one, and the rows of a COPY stand behind them;
-- it stands between two places
pub record IsStatement (text : List ℕ) (at : ℕ) (s : Option Stmt) (start end : ℕ) : Type 0 where
  pub first : first_start (collected text at).pieces ≡ Some start
  pub header : Option Stmt
  pub spells : statement.Spells header (lexemes text (collected text at).pieces)
  pub all : completed text (collected text at).end header ≡ Ok (whole s end)

abbrev pub line_token : ℕ → ℕ → Token
line_token start end = record { kind = MetaLine; start = start; end = end }

-- the next token is a line that begins with a backslash, and says a statement or is passed over
pub record IsLine (text : List ℕ) (at : ℕ) (s : Option Stmt) (start end : ℕ) : Type 0 where
  pub next : next_token_of text at ≡ Ok (Some (line_token start end))
  pub says : meta_line (spelling text (line_token start end)) ≡ Ok s

-- from a place on a text reads as these statements: one after another, up to where no token is left
pub data Reads (text : List ℕ) : ℕ → List Located → Type 0 where
  all_read : (at : ℕ) → first_start (collected text at).pieces ≡ None → (collected text at).fault ≡ None → Reads text at []
  one_read : (at : ℕ) (s : Option Stmt) (start end : ℕ) (more : List Located) → IsStatement text at s start end → Reads text end more → Reads text at (listed s start end more)
  line_read : (at : ℕ) (s : Option Stmt) (start end : ℕ) (more : List Located) → IsLine text at s start end → Reads text end more → Reads text at (listed s start end more)

-- The first of these tokens is too long, and with a shorter one in its place those before can be finished to a statement.
pub record IsLongThere (front rest : List Lexeme) : Type 0 where
  pub token : Lexeme
  pub behind : List Lexeme
  pub is : rest ≡ token ∷ behind
  pub long : IsTooLong token
  pub finished : (s : Option Stmt) × (more : List Lexeme) × statement.Spells s (front ++ shortened token ∷ more)

-- A statement's tokens go on up to a place: those before can be finished to a statement, and with the next token they
-- can't, whatever comes behind it; or they end there, and are none. The next token is too long where a shorter one in its
-- place could go on.
pub record IsStuck (text : List ℕ) (at : ℕ) (fault : DdlFault) : Type 0 where
  pub front : List Lexeme
  pub rest : List Lexeme
  pub tokens : lexemes text (collected text at).pieces ≡ front ++ rest
  pub finished : (s : Option Stmt) × (more : List Lexeme) × statement.Spells s (front ++ more)
  pub none : (t : Lexeme) (behind : List Lexeme) → rest ≡ t ∷ behind → (s : Option Stmt) (more : List Lexeme) → ¬ statement.Spells s (front ++ t ∷ more)
  pub short : rest ≡ [] → (s : Option Stmt) → ¬ statement.Spells s front
  pub long : Bool
  pub too_long : (long ≡ true) ↔ IsLongThere front rest
  pub place : fault ≡ fault_by (length text) (collected text at).fault long (start_of rest)

-- the tokens are a COPY, and behind them stands a byte with which no rows begin
pub record HasNoRows (text : List ℕ) (at : ℕ) (fault : DdlFault) : Type 0 where
  pub header : Option Stmt
  pub spells : statement.Spells header (lexemes text (collected text at).pieces)
  pub none : completed text (collected text at).end header ≡ Err fault

-- a line that begins with a backslash and says nothing that is known
pub record IsBadLine (text : List ℕ) (at : ℕ) (fault : DdlFault) : Type 0 where
  pub start : ℕ
  pub end : ℕ
  pub next : next_token_of text at ≡ Ok (Some (line_token start end))
  pub wrong : Wrong
  pub none : meta_line (spelling text (line_token start end)) ≡ Err wrong
  pub is : fault ≡ line_fault start wrong

-- from a place on a text reads as statements up to this fault
pub data FailsAt (text : List ℕ) : ℕ → DdlFault → Type 0 where
  no_token : (at : ℕ) (fault : LexFault) → first_start (collected text at).pieces ≡ None → (collected text at).fault ≡ Some fault → FailsAt text at (Lex fault)
  stuck : (at start : ℕ) (fault : DdlFault) → line_at text at ≡ None → first_start (collected text at).pieces ≡ Some start → IsStuck text at fault → FailsAt text at fault
  no_rows : (at : ℕ) (fault : DdlFault) → HasNoRows text at fault → FailsAt text at fault
  bad_line : (at : ℕ) (fault : DdlFault) → IsBadLine text at fault → FailsAt text at fault
  later : (at : ℕ) (s : Option Stmt) (start end : ℕ) (fault : DdlFault) → IsStatement text at s start end → FailsAt text end fault → FailsAt text at fault
  later_line : (at : ℕ) (s : Option Stmt) (start end : ℕ) (fault : DdlFault) → IsLine text at s start end → FailsAt text end fault → FailsAt text at fault
