-- The statements of a text, and the first place from which on it has none.
-- A statement's tokens are those up to its semicolon; all of them together spell it. The rows of a COPY stand behind
-- its semicolon. A line that begins with a backslash is a statement by itself.
use Rattle.std.specs.{Prelude.◌≡◌, Prelude.ℕ, Prelude.zero, Prelude.suc, Prelude.◌+◌, Prelude.Bool, Prelude.true, Prelude.false, Prelude.◌||◌, Prelude.List, Prelude.[], Prelude.◌∷◌, Prelude.◌++◌, Prelude.length, Prelude.drop, Prelude.Option, Prelude.Some, Prelude.None, Prelude.Result, Prelude.Ok, Prelude.Err, Prelude.⊤, Prelude.if◌then◌else◌, Prelude.codes, List.list_any}
use Rattle.sql_lex.specs.{declared.fault.LexFault.LexFault, declared.token.Token.Token, declared.token.TokenKind.TokenKind, declared.token.TokenKind.TheVariants.MetaLine, Next.next_token_of, Meaning.spelling, Meaning.is_keyword_of}
use Rattle.cat_model.specs.{declared.object.QName.QName, declared.stmt.Stmt.Stmt}
use Rattle.cat_model.specs.declared.stmt.Stmt.TheVariants as stmt
use Rattle.ddl_grammar.specs.{pieces.Piece.Piece, Lexemes.Lexeme, Lexemes.is_sign_kind, Lexemes.start_of, Parts.Stop, Pieces.lexemes, Pieces.value_of, Collecting.Collected, Collecting.collected, fault.ReadError.ReadError, Grammar.statement}
use Rattle.ddl_grammar.specs.fault.ReadError.TheVariants as reading
use Rattle.ddl_scripts.specs.{CopyRows.Copied, CopyRows.rows_behind, MetaLines.Wrong, MetaLines.meta_line, declared.located.Located.Located, declared.fault.DdlFault.DdlFault, declared.fault.DdlFault.TheVariants.Lex, declared.fault.DdlFault.TheVariants.Unknown, declared.fault.DdlFault.TheVariants.LongName, declared.fault.DdlFault.TheVariants.Incomplete, declared.fault.ReadStmtsError.ReadStmtsError}
use Rattle.ddl_scripts.specs.declared.fault.ReadStmtsError.TheVariants as errors

infixl 10 ◌>>=◌
abbrev pub ◌>>=◌ : {A B : Type 0} → Result A DdlFault → (A → Result B DdlFault) → Result B DdlFault
(Ok x) >>= f = f x
(Err fault) >>= f = Err fault

-- ---- where reading stops

-- behind the last token: the text has a fault there, or it ends too early
abbrev pub fault_behind : ℕ → Option LexFault → DdlFault
fault_behind limit (Some fault) = Lex fault
fault_behind limit None = Incomplete limit

abbrev pub fault_by : ℕ → Option LexFault → Bool → Option ℕ → DdlFault
fault_by limit fault long None = fault_behind limit fault
fault_by limit fault true (Some at) = LongName at
fault_by limit fault false (Some at) = Unknown at

-- the fault where reading the collected tokens stops, in a text of this length
abbrev pub fault_of : ℕ → Option LexFault → Stop → DdlFault
fault_of limit fault s = fault_by limit fault s.long (start_of s.rest)

-- ---- one statement

abbrev pub told : {A : Type 0} → ℕ → Option LexFault → Result A Stop → Result A DdlFault
told limit fault (Ok v) = Ok v
told limit fault (Err s) = Err (fault_of limit fault s)

-- the statement at the front of tokens of a text of this length, with a fault behind them; None for an empty one
unfoldable pub statement_of : ℕ → List Lexeme → Option LexFault → Result (Option Stmt) DdlFault
statement_of limit ts fault = told limit fault (value_of (statement.read ts))

-- ---- the rows of a COPY

-- a statement, and the place where it ends
pub record Whole : Type 0 where
  pub stmt : Option Stmt
  pub end : ℕ

abbrev pub whole : Option Stmt → ℕ → Whole
whole s end = record { stmt = s; end = end }

abbrev pub with_rows : QName → List (List ℕ) → Result Copied ℕ → Result Whole DdlFault
with_rows q columns (Ok c) = Ok (whole (Some (stmt.CopyRows q columns c.rows)) c.end)
with_rows q columns (Err at) = Err (Unknown at)

-- a statement whose tokens end at a place: a COPY has its rows behind them
abbrev pub completed : List ℕ → ℕ → Option Stmt → Result Whole DdlFault
completed text end (Some (stmt.CopyRows q columns rows)) = with_rows q columns (rows_behind text end)
completed text end s = Ok (whole s end)

abbrev pub whole_of : List ℕ → ℕ → Result (Option Stmt) DdlFault → Result Whole DdlFault
whole_of text end read = read >>= completed text end

-- ---- a line that begins with a backslash

abbrev pub is_line_kind : TokenKind → Bool
is_line_kind MetaLine = true
is_line_kind _ = false

abbrev pub line_in : Result (Option Token) LexFault → Option Token
line_in (Ok (Some t)) = if is_line_kind t.kind then Some t else None
line_in _ = None

-- the next token, where it is such a line
unfoldable pub line_at : List ℕ → ℕ → Option Token
line_at text at = line_in (next_token_of text at)

-- what a line says that begins at a place, or its fault
abbrev pub line_fault : ℕ → Wrong → DdlFault
line_fault start wrong = if wrong.long then LongName (start + wrong.at) else Unknown (start + wrong.at)

abbrev pub line_said : ℕ → Result (Option Stmt) Wrong → Result (Option Stmt) DdlFault
line_said start (Ok s) = Ok s
line_said start (Err wrong) = Err (line_fault start wrong)

-- ---- a token that begins no statement

-- the first word of each kind of statement
abbrev pub first_words : List (List ℕ)
first_words =
    codes "create" ∷ codes "alter" ∷ codes "select" ∷ codes "set" ∷ codes "copy" ∷ codes "grant" ∷ codes "revoke" ∷ codes "comment" ∷ []

-- a token of this kind and word begins a statement, or is an empty one
unfoldable pub begins_statement : TokenKind → List ℕ → Bool
begins_statement kind word = is_sign_kind 59 kind || list_any (is_keyword_of kind word) first_words

abbrev pub stray_in : List ℕ → Result (Option Token) LexFault → Option ℕ
stray_in text (Ok (Some t)) = if begins_statement t.kind (spelling text t) then None else Some t.start
stray_in text _ = None

-- the place of the next token, where no statement begins with it
unfoldable pub stray : List ℕ → ℕ → Option ℕ
stray text at = stray_in text (next_token_of text at)

-- ---- all of them

-- a statement before the others, unless it is empty
abbrev pub listed : Option Stmt → ℕ → ℕ → List Located → List Located
listed None start end more = more
listed (Some s) start end more = record { stmt = s; start = start; end = end } ∷ more

abbrev pub first_start : List Piece → Option ℕ
first_start [] = None
first_start (p ∷ ps) = Some p.token.start

abbrev pub no_more : Option LexFault → Result (List Located) DdlFault
no_more (Some fault) = Err (Lex fault)
no_more None = Ok []

-- The statements from a place on, whose tokens are collected, by the place of the first; `later` says those behind a
-- place.
abbrev pub statements_by : (ℕ → Result (List Located) DdlFault) → List ℕ → Collected → Option ℕ → Result (List Located) DdlFault
statements_by later text c None = no_more c.fault
statements_by later text c (Some start) =
    whole_of text c.end (statement_of (length text) (lexemes text c.pieces) c.fault) >>= λ w. later w.end >>= λ more. Ok (listed w.stmt start w.end more)

abbrev pub statements_from : (ℕ → Result (List Located) DdlFault) → List ℕ → Collected → Result (List Located) DdlFault
statements_from later text c = statements_by later text c (first_start c.pieces)

-- the same, by the line that stands next
abbrev pub statements_at : (ℕ → Result (List Located) DdlFault) → List ℕ → ℕ → Option Token → Result (List Located) DdlFault
statements_at later text at None = statements_from later text (collected text at)
statements_at later text at (Some t) = line_said t.start (meta_line (spelling text t)) >>= λ s. later t.end >>= λ more. Ok (listed s t.start t.end more)

-- at most n statements from a place on
unfoldable pub statements_within : ℕ → List ℕ → ℕ → Result (List Located) DdlFault
statements_within zero text at = Ok []
statements_within (suc n) text at = statements_at (statements_within n text) text at (line_at text at)

-- the statements of a text; each has a byte at least
unfoldable pub statements_of : List ℕ → Result (List Located) DdlFault
statements_of text = statements_within (length text + 1) text 0

-- ---- what the code answers

abbrev pub Fails : {B : Type 0} → ReadStmtsError → Result B DdlFault → Type 0
Fails errors.Memory given = ⊤
Fails (errors.Fault fault) given = given ≡ Err fault

-- what a call returned, seen by view, is what is due, unless memory ran out
abbrev pub Gives : {A B : Type 0} → (A → B) → Result A ReadStmtsError → Result B DdlFault → Type 0
Gives view (Ok x) given = given ≡ Ok (view x)
Gives view (Err error) given = Fails error given

-- the error of a reader of tokens, at a place of the text
abbrev pub error_of : ℕ → Option LexFault → List Lexeme → ReadError → ReadStmtsError
error_of limit fault ts reading.Memory = errors.Memory
error_of limit fault ts (reading.Halted h) = errors.Fault (fault_by limit fault h.long (start_of (drop h.at ts)))

-- a call that read a statement added it to those before and answered its end, unless memory ran out
abbrev pub Adds : List Located → List Located → Result ℕ ReadStmtsError → ℕ → Result Whole DdlFault → Type 0
Adds old new (Ok end) start given = (s : Option Stmt) × (given ≡ Ok (whole s end)) × (new ≡ old ++ listed s start end [])
Adds old new (Err error) start given = Fails error given

-- the same of a line that begins with a backslash
abbrev pub AddsLine : List Located → List Located → Result (Unit {0}) ReadStmtsError → Token → Result (Option Stmt) DdlFault → Type 0
AddsLine old new (Ok u) t given = (s : Option Stmt) × (given ≡ Ok s) × (new ≡ old ++ listed s t.start t.end [])
AddsLine old new (Err error) t given = Fails error given
