-- A text read statement by statement: those so far and those behind are those of the text.
use Rattle.ddl_read.proofs.Common.{some_left, ◌≡◌, ℕ, suc, ◌+◌, ◌-◌, ◌<◌, ◌≤◌, false, List, [], ◌∷◌, ◌++◌, length, Option, Some, None, Result, Ok, Err, refl, ap, ◌∙◌, arith, append_assoc, append-nil, LexFault, Token, next_token_of, spelling, Stmt, Piece, is_word, is_sign, lexeme_of, lexemes, value_of, Collected, collected, collected_within, collected_by, Reading, Whole, whole, whole_of, begins_statement, stray_in, stray, told, line_at, line_said, statements_at, listed, first_start, no_more, statement_of, statements_by, statements_within, statements_of}
use Rattle.ddl_scripts.specs.{MetaLines.meta_line, Grammar.command, Grammar.statement, Syntax.part, declared.fault.DdlFault.TheVariants.Unknown, declared.located.Located.Located, declared.fault.DdlFault.DdlFault, declared.fault.ReadStmtsError.ReadStmtsError, Reading.◌>>=◌, Reading.Fails}
use Rattle.ddl_scripts.specs.declared.fault.ReadStmtsError.TheVariants as errors

-- statements so far, before what is read behind them
abbrev pub behind : List Located → Result (List Located) DdlFault → Result (List Located) DdlFault
behind so_far read = read >>= λ more. Ok (so_far ++ more)

-- more is read behind a place
pub record IsLeft (whole : Result (List Located) DdlFault) (text : List ℕ) (so_far : List Located) (at : ℕ) : Type 0 where
  pub fuel : ℕ
  pub enough : length text - at < fuel
  pub same : whole ≡ behind so_far (statements_within fuel text at)

opened : {whole : Result (List Located) DdlFault} {text : List ℕ} {so_far : List Located} {at : ℕ} → IsLeft whole text so_far at → (n : ℕ) × (length text - at < suc n) × (whole ≡ behind so_far (statements_at (statements_within n text) text at (line_at text at)))
unfolding statements_within
opened {text = text} {so_far = so_far} {at = at} left =
    let k = some_left left.fuel (omega (arith, left.enough)) in (k.0, omega (arith, left.enough, k.1), left.same ∙ ap (λ n. behind so_far (statements_within n text at)) k.1)

pub all_left : (text : List ℕ) → IsLeft (statements_of text) text [] 0
unfolding statements_of
all_left text = grind arith

-- no line with a backslash stands next, and these tokens are collected
pub record IsNext (text : List ℕ) (at : ℕ) (c : Collected) (start : Option ℕ) : Type 0 where
  pub no_line : line_at text at ≡ None
  pub tokens : collected text at ≡ c
  pub first : first_start c.pieces ≡ start

begun : {whole : Result (List Located) DdlFault} {text : List ℕ} {so_far : List Located} {at : ℕ} {c : Collected} {start : Option ℕ} → IsLeft whole text so_far at → IsNext text at c start → (n : ℕ) × (length text - at < suc n) × (whole ≡ behind so_far (statements_by (statements_within n text) text c start))
begun left next = let o = opened left in (o.0, o.1, o.2 ∙ (rw (next.no_line, next.tokens, next.first) refl))

pub at_end : (whole : Result (List Located) DdlFault) (text : List ℕ) (so_far : List Located) (at : ℕ) (c : Collected) → IsLeft whole text so_far at → IsNext text at c None → no_more c.fault ≡ Ok [] → whole ≡ Ok so_far
at_end whole text so_far at c left next done = (begun left next).2 ∙ (grind (arith, append-nil))

pub at_fault : (whole : Result (List Located) DdlFault) (text : List ℕ) (so_far : List Located) (at : ℕ) (c : Collected) (error : ReadStmtsError) → IsLeft whole text so_far at → IsNext text at c None → Fails error (no_more c.fault) → Fails error whole
at_fault whole text so_far at c error left next failed = rw (begun left next).2 (grind arith)

-- ---- statements

abbrev pub parsed : List ℕ → Collected → Result Whole DdlFault
parsed text c = whole_of text c.end (statement_of (length text) (lexemes text c.pieces) c.fault)

pub at_statement : (answer : Result (List Located) DdlFault) (text : List ℕ) (so_far : List Located) (at : ℕ) (c : Collected) (start : ℕ) (s : Option Stmt) (end : ℕ) → IsLeft answer text so_far at → IsNext text at c (Some start) → parsed text c ≡ Ok (whole s end) → at < end → end ≤ length text
    → IsLeft answer text (so_far ++ listed s start end []) end
at_statement answer text so_far at c start s end left next read past high =
    let o = begun left next in
    record { fuel = o.0; enough = omega (arith, o.1); same = o.2 ∙ (rw read (grind (arith, append-nil, append_assoc))) }

pub at_bad_statement : (answer : Result (List Located) DdlFault) (text : List ℕ) (so_far : List Located) (at : ℕ) (c : Collected) (start : ℕ) (error : ReadStmtsError) → IsLeft answer text so_far at → IsNext text at c (Some start) → Fails error (parsed text c) → Fails error answer
at_bad_statement answer text so_far at c start errors.Memory left next failed = tt
at_bad_statement answer text so_far at c start (errors.Fault fault) left next failed = (begun left next).2 ∙ (rw failed refl)

-- ---- lines with a backslash

abbrev pub line_parsed : List ℕ → Token → Result (Option Stmt) DdlFault
line_parsed text t = line_said t.start (meta_line (spelling text t))

pub at_line : (answer : Result (List Located) DdlFault) (text : List ℕ) (so_far : List Located) (at : ℕ) (t : Token) (s : Option Stmt) → IsLeft answer text so_far at → line_at text at ≡ Some t → line_parsed text t ≡ Ok s → at < t.end → t.end ≤ length text
    → IsLeft answer text (so_far ++ listed s t.start t.end []) t.end
at_line answer text so_far at t s left line read past high =
    let o = opened left in
    record { fuel = o.0; enough = omega (arith, o.1); same = o.2 ∙ (rw (line, read) (grind (arith, append-nil, append_assoc))) }

pub at_bad_line : (answer : Result (List Located) DdlFault) (text : List ℕ) (so_far : List Located) (at : ℕ) (t : Token) (error : ReadStmtsError) → IsLeft answer text so_far at → line_at text at ≡ Some t → Fails error (line_parsed text t) → Fails error answer
at_bad_line answer text so_far at t errors.Memory left line failed = tt
at_bad_line answer text so_far at t (errors.Fault fault) left line failed = (opened left).2 ∙ (rw (line, failed) refl)

-- ---- a token that begins no statement

strayed : (text : List ℕ) (r : Result (Option Token) LexFault) (start : ℕ) → stray_in text r ≡ Some start → (t : Token) × (r ≡ Ok (Some t)) × (begins_statement t.kind (spelling text t) ≡ false) × (t.start ≡ start)
strayed text r start e = grind arith

-- the tokens that would be collected begin with it
collected_by_it : (text : List ℕ) (at : ℕ) (t : Token) → next_token_of text at ≡ Ok (Some t) → (more : List Piece) × ((collected text at).pieces ≡ record { from = at; token = t } ∷ more)
unfolding collected collected_within
collected_by_it text at t e =
    let fuel : length text + 1 ≡ suc (length text) = omega arith in
    (_, ap (λ n. (collected_within n text at).pieces) fuel ∙ ap (λ r. (collected_by (collected_within (length text) text) at r).pieces) e)

pub at_stray : (answer : Result (List Located) DdlFault) (text : List ℕ) (so_far : List Located) (at start : ℕ) → IsLeft answer text so_far at → line_at text at ≡ None → stray text at ≡ Some start → answer ≡ Err (Unknown start)
unfolding stray statement_of statement command part begins_statement is_sign is_word
at_stray answer text so_far at start left no_line e =
    let s = strayed text (next_token_of text at) start e in
    let c = collected text at in
    let p = collected_by_it text at s.0 s.1 in
    let first : first_start c.pieces ≡ Some start = ap first_start p.1 ∙ ap (λ (k : ℕ). Some k) s.3 in
    let read : statement.read (lexemes text c.pieces) ≡ Err (record { long = false; rest = (lexeme_of text (record { from = at; token = s.0 })) ∷ lexemes text p.0 }) =
    ap (λ (ps : List Piece). statement.read (lexemes text ps)) p.1 ∙ (grind arith) in
    let place : statement_of (length text) (lexemes text c.pieces) c.fault ≡ Err (Unknown start) = ap (λ (r : Reading (Option Stmt)). told (length text) c.fault (value_of r)) read ∙ ap (λ k. Err (Unknown k)) s.3 in
    at_bad_statement answer text so_far at c start (errors.Fault (Unknown start)) left (record { no_line = no_line; tokens = refl; first = first }) (ap (whole_of text c.end) place)

pub some_pieces : (ps : List Piece) (start : ℕ) → first_start ps ≡ Some start → 0 < length ps
some_pieces ps start e = grind arith
