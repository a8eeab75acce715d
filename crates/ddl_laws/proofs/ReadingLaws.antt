-- A text reads as statements exactly where it is read so, and a fault is the first: reading fails where a text fails at a
-- fault, at the same place.
use Rattle.ddl_relation_texts.proofs.{Closing.only_last, Closing.nothing_left, Kept.collected_has}
use Rattle.ddl_laws.proofs.Common.{◌≡◌, ℕ, zero, suc, ◌+◌, Bool, true, false, List, [], ◌∷◌, ◌++◌, Option, Some, None, Result, Ok, Err, refl, sym, ap, ◌∙◌, length, ◌-◌, ◌<◌, ◌≤◌, subst, arith, append-nil, inl, inr, ◌⊎◌, Token, LexFault, next_token_of, Stmt, Piece, Lexeme, is_sign, is_sign_kind, is_word, start_of, lexeme_of, lexemes, value_of, gives, Collected, collected, collected_within, collected_by, semicolon, statement, command, spelling, is_keyword_of, lies_behind, Stop, Reading, Located, DdlFault, Wrong, meta_line, rows_bounds, ◌>>=◌, Whole, whole, whole_of, completed, line_in, line_at, line_fault, line_said, statements_at, first_start, fault_of, statement_of, statements_by, statements_within, statements_of, fault_by, shortened, Stopped, IsStatement, IsLine, line_token, Reads, all_read, one_read, line_read, IsLongThere, IsStuck, FailsAt, no_token, stuck, no_rows, bad_line, later, later_line}
use Rattle.ddl_scripts.specs.Reading.{listed, told, no_more}
use Rattle.ddl_scripts.specs.Syntax.{part}
use Rattle.std.proofs.lemmas.List.{append_cancel_right}
use Rattle.ddl_syntax_laws.proofs.{Commands.statement_laws, Whole.statement_closes}
use Rattle.cat_model.specs.declared.stmt.Stmt.TheVariants as stmt

-- ---- the tokens that are collected

collected_last : (text : List ℕ) (at : ℕ) → at ≤ length text → only_last semicolon (lexemes text (collected text at).pieces) ≡ true
unfolding collected is_sign
collected_last text = collected_has text (λ at c. only_last semicolon (lexemes text c.pieces) ≡ true) (λ at fault le. refl) (λ at t c le e lies. by (record { from = at; token = t }) c (is_sign_kind 59 t.kind) refl) (length text + 1)
  where
    by : (p : Piece) (c : Collected) (b : Bool) → is_sign_kind 59 p.token.kind ≡ b → (b ≡ true → c.pieces ≡ []) → only_last semicolon (lexemes text c.pieces) ≡ true → only_last semicolon (lexemes text (p ∷ c.pieces)) ≡ true
    by p c true is none behind = ap (λ (ps : List Piece). only_last semicolon (lexemes text (p ∷ ps))) (none refl)
    by p c false is none behind = grind arith

-- ---- where collected tokens end

abbrev pub Bounds : List ℕ → ℕ → Collected → Type 0
Bounds text at c = (at ≤ c.end) × (c.end ≤ length text) × ((start : ℕ) → first_start c.pieces ≡ Some start → at < c.end)

pub bounds : (text : List ℕ) (at : ℕ) → at ≤ length text → Bounds text at (collected text at)
unfolding collected
bounds text =
    collected_has text (Bounds text) (λ at fault le. (omega arith, le, λ start e. absurd cc))
    (λ at t c le e lies none behind. (omega (arith, lies.0, lies.1, behind.0), behind.1, λ start f. omega (arith, lies.0, lies.1, behind.0))) (length text + 1)

-- ---- one statement

ok_read : {A : Type 0} (limit : ℕ) (fault : Option LexFault) (r : Reading A) (v : A) → told limit fault (value_of r) ≡ Ok v → (rest : List Lexeme) × (r ≡ Ok (v, rest))
ok_read {A} limit fault (Ok x) v e = (x.1, let is : x.0 ≡ v = cc in ap (λ (u : A). gives u x.1) is)
ok_read limit fault (Err s) v e = absurd cc

err_read : {A : Type 0} (limit : ℕ) (fault : Option LexFault) (r : Reading A) (f : DdlFault) → told limit fault (value_of r) ≡ Err f → (s : Stop) × (r ≡ Err s) × (f ≡ fault_of limit fault s)
err_read limit fault r f e = grind arith

pub read_whole : (s : Option Stmt) (ts : List Lexeme) → statement.Spells s ts → statement.read ts ≡ Ok (s, [])
read_whole s ts spells = ap statement.read (sym (append-nil ts)) ∙ statement_laws.only s ts [] spells refl

pub not_both : (r : Reading (Option Stmt)) (s : Option Stmt) (u : Stop) → r ≡ Ok (s, []) → r ≡ Err u → ⊥
not_both r s u e f = absurd (cc (e, f))

-- where a token is too long and a shorter one would go on, the reader says so
told_long : (ts : List Lexeme) (s : Stop) (f : Stopped statement ts s) (there : IsLongThere f.front s.rest) (b : Bool) → s.long ≡ b → s.long ≡ true
told_long ts s f there true e = e
told_long ts s f there false e =
    let x = there.finished in
    let us = f.front ++ shortened there.token ∷ x.1 in
    absurd (not_both (statement.read us) x.0 (record { long = s.long; rest = shortened there.token ∷ x.1 }) (read_whole x.0 us x.2) (f.local there.token there.behind there.is (shortened there.token) (inr (e, there.long, refl)) x.1))

-- where reading tokens stops
pub is_stuck : (text : List ℕ) (at : ℕ) (fault : DdlFault) → statement_of (length text) (lexemes text (collected text at).pieces) (collected text at).fault ≡ Err fault → IsStuck text at fault
unfolding statement_of
is_stuck text at fault e =
    let ts = lexemes text (collected text at).pieces in
    let t = err_read (length text) (collected text at).fault (statement.read ts) fault e in
    let f = statement_laws.stopped ts t.0 t.1 in
    record {
      front = f.front;
      rest = t.0.rest;
      tokens = f.parts;
      finished = (f.value, f.more, f.finished);
      none = λ x behind is s more spells. not_both (statement.read (f.front ++ x ∷ more)) s (record { long = t.0.long; rest = x ∷ more }) (read_whole s (f.front ++ x ∷ more) spells) (f.local x behind is x (inl refl) more);
      short = λ is s spells. not_both (statement.read ts) s t.0 (ap statement.read (f.parts ∙ ap (λ (r : List Lexeme). f.front ++ r) is ∙ append-nil f.front) ∙ read_whole s f.front spells) t.1;
      long = t.0.long;
      too_long = (
        λ e. (let n = f.named e in record { token = n.token; behind = n.behind; is = n.is; long = n.long; finished = (n.value, n.more, n.spells) }),
        λ there. told_long ts t.0 f there t.0.long refl,
      );
      place = t.2;
    }

-- ---- a line that begins with a backslash

line_found : (r : Result (Option Token) LexFault) (u : Token) → line_in r ≡ Some u → r ≡ Ok (Some (line_token u.start u.end))
line_found r u e = grind arith

-- what is collected begins with the next token
pub collected_first : (text : List ℕ) (at : ℕ) → collected text at ≡ collected_by (collected_within (length text) text) at (next_token_of text at)
unfolding collected collected_within
collected_first text at = let fuel : length text + 1 ≡ suc (length text) = omega arith in ap (λ n. collected_within n text at) fuel

pub no_line_left : (text : List ℕ) (at : ℕ) → first_start (collected text at).pieces ≡ None → line_at text at ≡ None
unfolding line_at
no_line_left text at e = grind (arith, collected_first)

begins_no_line : (text : List ℕ) (at start end : ℕ) (s : Option Stmt) → next_token_of text at ≡ Ok (Some (line_token start end)) → statement.Spells s (lexemes text (collected text at).pieces) → ⊥
unfolding statement command is_sign is_word is_keyword_of part
begins_no_line text at start end s next spells =
    let t = line_token start end in
    let behind = collected_within (length text) text in
    let here = subst (λ (c : Collected). statement.Spells s (lexemes text c.pieces)) (collected_first text at ∙ ap (collected_by behind at) next) spells in
    let l = lexeme_of text (record { from = at; token = t }) in
    not_both (statement.read (lexemes text (collected_by behind at (Ok (Some t))).pieces)) s (record { long = false; rest = _ }) (read_whole s (lexemes text (collected_by behind at (Ok (Some t))).pieces) here) refl

pub no_line_of : (text : List ℕ) (at : ℕ) (s : Option Stmt) → statement.Spells s (lexemes text (collected text at).pieces) → (line : Option Token) → line_at text at ≡ line → line_at text at ≡ None
unfolding line_at
no_line_of text at s spells line e = grind (arith, begins_no_line, line_found)

-- ---- the rows of a COPY

pub whole_bounds : (text : List ℕ) (at : ℕ) (h : Option Stmt) (w : Whole) → at ≤ length text → completed text at h ≡ Ok w → (at ≤ w.end) × (w.end ≤ length text)
whole_bounds text at (Some (stmt.CopyRows q columns rows)) w le e = grind (arith, rows_bounds)
whole_bounds text at h w le e = let same : at ≡ w.end = cc e in (omega (arith, same), rw (← same) le)

-- ---- all statements

abbrev pub header : List ℕ → ℕ → Result (Option Stmt) DdlFault
header text at = statement_of (length text) (lexemes text (collected text at).pieces) (collected text at).fault

abbrev by_start : ℕ → List ℕ → ℕ → Option ℕ → Result (List Located) DdlFault
by_start n text at start = statements_by (statements_within n text) text (collected text at) start

abbrev by_line : ℕ → List ℕ → ℕ → Option Token → Result (List Located) DdlFault
by_line n text at line = statements_at (statements_within n text) text at line

pub begun_by : (n : ℕ) (text : List ℕ) (at : ℕ) (line : Option Token) → line_at text at ≡ line → statements_within (suc n) text at ≡ by_line n text at line
unfolding statements_within
begun_by n text at line e = ap (by_line n text at) e

pub begun : (n : ℕ) (text : List ℕ) (at : ℕ) (start : Option ℕ) → line_at text at ≡ None → first_start (collected text at).pieces ≡ start → statements_within (suc n) text at ≡ by_start n text at start
begun n text at start plain e = begun_by n text at None plain ∙ ap (by_start n text at) e

pub spelled_whole : (text : List ℕ) (at : ℕ) → at ≤ length text → (h : Option Stmt) → header text at ≡ Ok h → statement.Spells h (lexemes text (collected text at).pieces)
unfolding statement_of
spelled_whole text at le h e =
    let ts = lexemes text (collected text at).pieces in
    let v = ok_read (length text) (collected text at).fault (statement.read ts) h e in
    let f = statement_laws.found ts h v.0 v.1 in
    let none = nothing_left semicolon f.front v.0 (ap (only_last semicolon) (sym f.parts) ∙ collected_last text at le) (statement_closes h f.front f.spells) in
    subst (statement.Spells h) (sym (f.parts ∙ ap (λ (r : List Lexeme). f.front ++ r) none ∙ append-nil f.front)) f.spells

-- a statement ends behind its place
pub ends_past : (text : List ℕ) (at : ℕ) (s : Option Stmt) (start end : ℕ) → at ≤ length text → IsStatement text at s start end → (at < end) × (end ≤ length text)
ends_past text at s start end le is = grind (arith, bounds, whole_bounds, whole)

pub line_past : (text : List ℕ) (at start end : ℕ) → at ≤ length text → next_token_of text at ≡ Ok (Some (line_token start end)) → (at < end) × (end ≤ length text)
line_past text at start end le e = let lies = lies_behind text at (Ok (Some (line_token start end))) le (sym e) in (omega (arith, lies.0, lies.1), lies.2)

-- ---- what reading comes to

-- what was told of a text from a place on: it reads as statements, or fails at a fault
abbrev pub Told : List ℕ → ℕ → Result (List Located) DdlFault → Type 0
Told text at (Ok found) = Reads text at found
Told text at (Err fault) = FailsAt text at fault

-- a statement or a line stands next
abbrev IsNext : List ℕ → ℕ → Option Stmt → ℕ → ℕ → Type 0
IsNext text at s start end = IsStatement text at s start end ⊎ IsLine text at s start end

next_past : (text : List ℕ) (at : ℕ) (s : Option Stmt) (start end : ℕ) → at ≤ length text → IsNext text at s start end → (at < end) × (end ≤ length text)
next_past text at s start end le (inl is) = ends_past text at s start end le is
next_past text at s start end le (inr is) = line_past text at start end le is.next

abbrev going_on : Option Stmt → ℕ → ℕ → Result (List Located) DdlFault → Result (List Located) DdlFault
going_on s start end r = r >>= λ more. Ok (listed s start end more)

abbrev with_others : ℕ → List ℕ → ℕ → Result Whole DdlFault → Result (List Located) DdlFault
with_others n text start r = r >>= λ w. going_on w.stmt start w.end (statements_within n text w.end)

abbrev said_on : ℕ → List ℕ → ℕ → ℕ → Result (Option Stmt) Wrong → Result (List Located) DdlFault
said_on n text start end r = line_said start r >>= λ s. going_on s start end (statements_within n text end)

-- what is told behind a place
abbrev Behind : ℕ → List ℕ → ℕ → Type 0
Behind n text at = (end : ℕ) → at < end → end ≤ length text → Told text end (statements_within n text end)

-- what stands behind a statement, or a line, goes on with it
told_on : (n : ℕ) (text : List ℕ) (at : ℕ) (s : Option Stmt) (start end : ℕ) → at ≤ length text → IsNext text at s start end → Behind n text at → Told text at (going_on s start end (statements_within n text end))
told_on n text at s start end le is behind = let past = next_past text at s start end le is in by is (statements_within n text end) (behind end past.0 past.1)
  where
    by : IsNext text at s start end → (r : Result (List Located) DdlFault) → Told text end r → Told text at (going_on s start end r)
    by (inl is) (Ok more) others = one_read at s start end more is others
    by (inl is) (Err fault) others = later at s start end fault is others
    by (inr is) (Ok more) others = line_read at s start end more is others
    by (inr is) (Err fault) others = later_line at s start end fault is others

told_within : (n : ℕ) (text : List ℕ) (at : ℕ) → at ≤ length text → length text - at < n → Told text at (statements_within n text at)
unfolding line_at spelling
told_within zero text at le enough = absurd (omega arith)
told_within (suc n) text at le enough =
    subst (Told text at) (sym (begun_by n text at (line_at text at) refl)) (by_lines (line_at text at) refl (λ end past low. told_within n text end low (omega arith)))
  where
    by_rows : (start : ℕ) (h : Option Stmt) → first_start (collected text at).pieces ≡ Some start → header text at ≡ Ok h → Behind n text at → (r : Result Whole DdlFault) → completed text (collected text at).end h ≡ r → Told text at (with_others n text start r)
    by_rows start h first is behind (Err fault) e = no_rows at fault (record { header = h; spells = spelled_whole text at le h is; none = e })
    by_rows start h first is behind (Ok w) e = told_on n text at w.stmt start w.end le (inl (record { first = first; header = h; spells = spelled_whole text at le h is; all = e })) behind

    by_header : (start : ℕ) → line_at text at ≡ None → first_start (collected text at).pieces ≡ Some start → Behind n text at → (r : Result (Option Stmt) DdlFault) → header text at ≡ r → Told text at (with_others n text start (whole_of text (collected text at).end r))
    by_header start plain first behind (Err fault) e = stuck at start fault plain first (is_stuck text at fault e)
    by_header start plain first behind (Ok h) e = by_rows start h first e behind (completed text (collected text at).end h) refl

    by_end : first_start (collected text at).pieces ≡ None → (fault : Option LexFault) → (collected text at).fault ≡ fault → Told text at (no_more fault)
    by_end first None e = all_read at first e
    by_end first (Some x) e = no_token at x first e

    by_starts : line_at text at ≡ None → Behind n text at → (start : Option ℕ) → first_start (collected text at).pieces ≡ start → Told text at (by_start n text at start)
    by_starts plain behind None first = by_end first (collected text at).fault refl
    by_starts plain behind (Some start) first = by_header start plain first behind (header text at) refl

    by_said : (t : Token) → next_token_of text at ≡ Ok (Some (line_token t.start t.end)) → Behind n text at → (r : Result (Option Stmt) Wrong) → meta_line (spelling text t) ≡ r → Told text at (said_on n text t.start t.end r)
    by_said t next behind (Ok s) e = told_on n text at s t.start t.end le (inr (record { next = next; says = refl ∙ e })) behind
    by_said t next behind (Err wrong) e = bad_line at (line_fault t.start wrong) (record { start = t.start; end = t.end; next = next; wrong = wrong; none = refl ∙ e; is = refl })

    by_lines : (line : Option Token) → line_at text at ≡ line → Behind n text at → Told text at (by_line n text at line)
    by_lines None plain behind = by_starts plain behind (first_start (collected text at).pieces) refl
    by_lines (Some t) line behind = by_said t (line_found (next_token_of text at) t line) behind (meta_line (spelling text t)) refl

-- ---- and back

header_is : (text : List ℕ) (at : ℕ) (s : Option Stmt) → statement.Spells s (lexemes text (collected text at).pieces) → header text at ≡ Ok s
unfolding statement_of
header_is text at s spells = ap (λ (r : Reading (Option Stmt)). told (length text) (collected text at).fault (value_of r)) (read_whole s (lexemes text (collected text at).pieces) spells)

-- with tries enough this is read from a place on
abbrev Gives : List ℕ → ℕ → Result (List Located) DdlFault → Type 0
Gives text at r = (n : ℕ) → length text - at ≤ n → statements_within (suc n) text at ≡ r

next_read : (n : ℕ) (text : List ℕ) (at : ℕ) (s : Option Stmt) (start end : ℕ) → IsNext text at s start end → statements_within (suc n) text at ≡ going_on s start end (statements_within n text end)
unfolding line_at
next_read n text at s start end (inl is) =
    begun n text at (Some start) (no_line_of text at is.header is.spells (line_at text at) refl) is.first ∙ ap (λ r. with_others n text start (whole_of text (collected text at).end r)) (header_is text at is.header is.spells) ∙ ap (with_others n text start) is.all
next_read n text at s start end (inr is) = begun_by n text at (Some (line_token start end)) (ap line_in is.next) ∙ ap (said_on n text start end) is.says

-- behind a statement, or a line, reading goes on
gives_on : (text : List ℕ) (at : ℕ) (s : Option Stmt) (start end : ℕ) → at ≤ length text → IsNext text at s start end → (r : Result (List Located) DdlFault) → (end ≤ length text → Gives text end r) → Gives text at (going_on s start end r)
gives_on text at s start end le is r behind zero low = absurd (omega (arith, next_past text at s start end le is))
gives_on text at s start end le is r behind (suc n) low = let past = next_past text at s start end le is in next_read (suc n) text at s start end is ∙ ap (going_on s start end) (behind past.1 n (omega (arith, past.0)))

reads_only : (text : List ℕ) (at : ℕ) (found : List Located) → Reads text at found → at ≤ length text → Gives text at (Ok found)
reads_only text _ _ (all_read at first none) le n low = begun n text at None (no_line_left text at first) first ∙ ap no_more none
reads_only text _ _ (one_read at s start end more is others) le n low = gives_on text at s start end le (inl is) (Ok more) (reads_only text end more others) n low
reads_only text _ _ (line_read at s start end more is others) le n low = gives_on text at s start end le (inr is) (Ok more) (reads_only text end more others) n low

-- ---- where tokens stop

-- no token that stands next can be gone on with
abbrev Ends : (List Lexeme → Type 0) → List Lexeme → List Lexeme → Type 0
Ends S front rest = (t : Lexeme) (behind : List Lexeme) → rest ≡ t ∷ behind → (more : List Lexeme) → S (front ++ t ∷ more) → ⊥

-- tokens stop at one place: the fronts that can be finished and not gone on with leave the same
same_rest : (S : List Lexeme → Type 0) (a b r q m n : List Lexeme) → a ++ r ≡ b ++ q → Ends S a r → Ends S b q → S (a ++ m) → S (b ++ n) → r ≡ q
same_rest S [] [] r q m n e ends ends' one other = e
same_rest S [] (x ∷ b) r q m n e ends ends' one other = absurd (ends x (b ++ q) e (b ++ n) other)
same_rest S (x ∷ a) [] r q m n e ends ends' one other = absurd (ends' x (a ++ r) (sym e) (a ++ m) one)
same_rest S (x ∷ a) (y ∷ b) r q m n e ends ends' one other =
    let first : y ≡ x = cc e in
    let behind : a ++ r ≡ b ++ q = cc e in
    same_rest (λ ts. S (x ∷ ts)) a b r q m n behind ends (λ t behind is more s. ends' t behind is more (subst (λ z. S (z ∷ (b ++ t ∷ more))) (sym first) s)) one (subst (λ z. S (z ∷ (b ++ n))) first other)

abbrev Spelled : List Lexeme → Type 0
Spelled ts = (s : Option Stmt) × statement.Spells s ts

-- tokens are stuck in one way
stuck_once : (text : List ℕ) (at : ℕ) (f g : DdlFault) → IsStuck text at f → IsStuck text at g → f ≡ g
stuck_once text at f g h k =
    let both_true : (a b : Bool) → (a ≡ true → b ≡ true) → (b ≡ true → a ≡ true) → a ≡ b = λ a b f g. grind arith in
    let ends : Ends Spelled h.front h.rest = λ t behind is more s. h.none t behind is s.0 more s.1 in
    let ends' : Ends Spelled k.front k.rest = λ t behind is more s. k.none t behind is s.0 more s.1 in
    let rest = same_rest Spelled h.front k.front h.rest k.rest h.finished.1 k.finished.1 (sym h.tokens ∙ k.tokens) ends ends' (h.finished.0, h.finished.2) (k.finished.0, k.finished.2) in
    let front = append_cancel_right h.front k.front k.rest (ap (λ (r : List Lexeme). h.front ++ r) (sym rest) ∙ sym h.tokens ∙ k.tokens) in
    let there : h.long ≡ true → k.long ≡ true = λ e. k.too_long.1 (subst (λ (x : List Lexeme). IsLongThere x k.rest) front (subst (IsLongThere h.front) rest (h.too_long.0 e))) in
    let back : k.long ≡ true → h.long ≡ true = λ e. h.too_long.1 (subst (λ (x : List Lexeme). IsLongThere x h.rest) (sym front) (subst (IsLongThere k.front) (sym rest) (k.too_long.0 e))) in
    let fault = (collected text at).fault in
    h.place ∙ ap (λ (long : Bool). fault_by (length text) fault long (start_of h.rest)) (both_true h.long k.long there back) ∙ ap (λ (r : List Lexeme). fault_by (length text) fault k.long (start_of r)) rest ∙ sym k.place

not_stuck : (text : List ℕ) (at : ℕ) (fault : DdlFault) (s : Option Stmt) → IsStuck text at fault → statement.Spells s (lexemes text (collected text at).pieces) → ⊥
not_stuck text at fault s h spells = grind (arith, append-nil)

header_fails : (text : List ℕ) (at : ℕ) (fault : DdlFault) → at ≤ length text → IsStuck text at fault → header text at ≡ Err fault
header_fails text at fault le h =
    let by : (r : Result (Option Stmt) DdlFault) → header text at ≡ r → r ≡ Err fault = elim [ Ok s ↦ λ e. absurd (not_stuck text at fault s h (spelled_whole text at le s e)) | Err g ↦ λ e. ap (λ fault. Err fault) (stuck_once text at g fault (is_stuck text at g e) h) ] in
    by (header text at) refl

-- ---- a statement has a token

some_first : (text : List ℕ) (s : Option Stmt) (ps : List Piece) → statement.Spells s (lexemes text ps) → (start : ℕ) × (first_start ps ≡ Some start)
unfolding statement command part
some_first text s [] spells = absurd (not_both (statement.read []) s (record { long = false; rest = [] }) (read_whole s [] spells) refl)
some_first text s (p ∷ ps) spells = (p.token.start, refl)

fails_only : (text : List ℕ) (at : ℕ) (fault : DdlFault) → FailsAt text at fault → at ≤ length text → Gives text at (Err fault)
unfolding line_at
fails_only text _ _ (no_token at fault first is) le n low = begun n text at None (no_line_left text at first) first ∙ ap no_more is
fails_only text _ _ (stuck at start fault plain first h) le n low = begun n text at (Some start) plain first ∙ ap (λ r. with_others n text start (whole_of text (collected text at).end r)) (header_fails text at fault le h)
fails_only text _ _ (no_rows at fault h) le n low =
    let first = some_first text h.header (collected text at).pieces h.spells in
    begun n text at (Some first.0) (no_line_of text at h.header h.spells (line_at text at) refl) first.1 ∙ ap (λ r. with_others n text first.0 (whole_of text (collected text at).end r)) (header_is text at h.header h.spells) ∙ ap (with_others n text first.0) h.none
fails_only text _ _ (bad_line at fault h) le n low = begun_by n text at (Some (line_token h.start h.end)) (ap line_in h.next) ∙ ap (said_on n text h.start h.end) h.none ∙ ap (λ fault. Err fault) (sym h.is)
fails_only text _ _ (later at s start end fault is others) le n low = gives_on text at s start end le (inl is) (Err fault) (fails_only text end fault others) n low
fails_only text _ _ (later_line at s start end fault is others) le n low = gives_on text at s start end le (inr is) (Err fault) (fails_only text end fault others) n low

-- ---- whole texts

pub exact : (text : List ℕ) (r : Result (List Located) DdlFault) → (statements_of text ≡ r → Told text 0 r) × (Told text 0 r → statements_of text ≡ r)
unfolding statements_of
exact text r = (λ e. subst (Told text 0) e (told_within (length text + 1) text 0 (omega arith) (omega arith)), λ told. ap (λ n. statements_within n text 0) (let fuel : length text + 1 ≡ suc (length text) = omega arith in fuel) ∙ back r told (length text) (omega arith))
  where
    back : (r : Result (List Located) DdlFault) → Told text 0 r → Gives text 0 r
    back (Ok found) reads = reads_only text 0 found reads (omega arith)
    back (Err fault) fails = fails_only text 0 fault fails (omega arith)

pub only : (text : List ℕ) (statements : List Located) → Reads text 0 statements → statements_of text ≡ Ok statements
only text statements reads = (exact text (Ok statements)).1 reads
