-- Written statements, joined, read as the same statements; and what is read of a text can be written.
use Rattle.ddl_relation_texts.proofs.{Closing.only_last, Closing.ends_with, Putting.nothing_follows, Tokens.passed, Kept.came_token, Standing.collects}
use Rattle.ddl_scripts.specs.{Respelling.spelling, Respelling.in_words, Syntax.Fits, Syntax.pieces, Grammar.command}
use Rattle.ddl_syntax_laws.proofs.Whole.{statement_closes, statement_put, command_text, command_made, fits_writable}
use Rattle.ddl_grammar_laws.proofs.Common.{name_begins}
use Rattle.ddl_laws.proofs.Common.{joined, and_parts, and_from, or_right, drop_all, list_all-append, IsUtf8-append, IsUtf8-from_is_utf8, is_utf8-from_IsUtf8, ◌≡◌, ℕ, suc, ◌+◌, Bool, true, cond, ◌-◌, List, [], ◌∷◌, ◌++◌, length, length-append, append_assoc, append-nil, Option, Some, None, Result, Ok, refl, sym, ap, subst, ◌∙◌, arith, ◌⊎◌, inl, inr, codes, ◌≤◌, ◌==◌, slice_index, list_all, is_utf8, IsUtf8, chars, encode, Token, LexFault, next_token_of, spelling as token_text, IsMetaLine, goes_on, token_at, written_kind, next_at_end, spelling_is_read, Piece, Lexeme, spelled, is_sign, start_of, name_value, is_name, is_name_kind, lexeme_of, lexemes, Collected, collected, collected_within, collected_by, nothing_more, preceded, IsLine, IsStatement, Reads, all_read, one_read, line_read, line_token, a_name, Gap, space, name_no_sign, name_means, none, IsName, is_blank, in_line, next_is, begins_line, doubled, quoted, written_name, MetaLine, connect_text, unknown, named, stands_alone, one_name, name_alone, connected, command_len, said_by, meta_line, Stmt, Located, semicolon, statement, Whole, whole, with_rows, completed, first_start, statements_of, DdlFault, AreRows, rows_behind, rows_read_back, read_are_rows, end_mark, QName, IsWritable, AllWritable, spellings, said, Stood, placed, columns, AllCame, have_come, IsTokenAt, newline as line_feed}
use Rattle.ddl_relation_texts.proofs.{Tokens.newline, Passed.both_passed, Passed.feed_passed, Passed.comment_passed, Tokens.passes, Paths.name_utf8}
use Rattle.ddl_scripts.specs.{Reading.listed, Reading.listed as listed_before, Laying.Lays, Laying.no_more, Laying.empty_line, Laying.comment_line, Laying.statement_text, Laying.comment}
use Rattle.ddl_laws.proofs.{ReadingLaws.collected_first, ReadingLaws.exact, ReadingLaws.only, ReadingLaws.ends_past, ReadingLaws.line_past}
use Rattle.ddl_scripts.proofs.LineNames.{said_is_a_name}
use Rattle.cat_model.specs.declared.stmt.Stmt.TheVariants as stmt

-- pieces that stand in brackets there
both_behind : (x l y e : List ℕ) → x ++ (l ++ (y ++ e)) ≡ (x ++ (l ++ y)) ++ e
both_behind x l y e = simp append_assoc

-- the line without its line feed
abbrev pub connect_line : List ℕ → List ℕ
connect_line n = codes "\\connect " ++ written_name n

-- ---- the name behind the command

abbrev behind_space : List ℕ → List ℕ
behind_space n = 32 ∷ written_name n

abbrev name_at : List ℕ → Token
name_at n = token_at (written_kind n) 1 (written_name n)

name_next : (n : List ℕ) → IsUtf8 n → (next_token_of (behind_space n) 0 ≡ Ok (Some (name_at n))) × (token_text (behind_space n) (name_at n) ≡ written_name n)
unfolding token_text
name_next n utf8 =
    let name = a_name {g = 32 ∷ []} n [] space utf8 refl in
    let there = name.token (32 ∷ []) [] refl in
    ((simp append-nil at (name.gap [] [] refl)) ∙ (simp append-nil at there.found), simp append-nil at there.spelled)

abbrev piece : List ℕ → Piece
piece n = record { from = 0; token = name_at n }

abbrev by_sign : List ℕ → Bool → Collected
by_sign n b = preceded (piece n) (cond b (nothing_more (name_at n).end None) (collected_within (length (behind_space n)) (behind_space n) (name_at n).end))

one_piece : (n : List ℕ) → IsUtf8 n → (collected (behind_space n) 0).pieces ≡ piece n ∷ []
unfolding collected_within
one_piece n utf8 =
    let nothing_behind : (text : List ℕ) (n : ℕ) → (collected_within (suc n) text (length text)).pieces ≡ [] =
    λ text n. ap (λ (r : Result (Option Token) LexFault). (collected_by (collected_within n text) (length text) r).pieces) (next_at_end text (length text) refl) in
    let text = behind_space n in
    ap (λ (c : Collected). c.pieces) ((collected_first text 0 ∙ ap (collected_by (collected_within (length text) text) 0) (name_next n utf8).0) ∙ ap (by_sign n) (name_no_sign 59 n))
    ∙ ap (λ k. piece n ∷ (collected_within (length text) text k).pieces) (let one : 1 + length (written_name n) ≡ length text = omega arith in one) ∙ ap (λ (ps : List Piece). piece n ∷ ps) (nothing_behind text (length (written_name n)))

name_found : (len : ℕ) (n : List ℕ) → IsName n → name_alone len (behind_space n) ≡ Ok n
unfolding name_alone is_name stands_alone is_blank
name_found len n is =
    let alone : (n : List ℕ) → stands_alone (behind_space n) (piece n) ≡ true = λ n. ap (λ (x : List ℕ). list_all is_blank x) (drop_all (1 + length (written_name n)) (behind_space n) (omega arith)) in
    let t = lexeme_of (behind_space n) (piece n) in
    let means = name_means n is t refl (name_next n is.utf8).1 in
    ap (one_name len (behind_space n)) (one_piece n is.utf8)
    ∙ ap (λ (b : Bool). cond b (named (len + 1) (name_value t)) unknown) (and_from (stands_alone (behind_space n) (piece n)) (is_name_kind t.kind) (alone n) (name_begins n (t ∷ []) (t, refl, means)))
    ∙ ap (named (len + 1)) means

-- ---- the line as a token

in_one_line : (q : ℕ) (n : List ℕ) → in_line q ≡ true → list_all in_line n ≡ true → list_all in_line (doubled q n) ≡ true
unfolding doubled
in_one_line q [] mark all = refl
in_one_line q (b ∷ n) mark all = grind (arith, and_parts, (in_one_line q n mark (and_parts (in_line b) (list_all in_line n) all).1))

-- a place where a line begins: the text begins there, or a line feed stands before it
abbrev pub IsFresh : List ℕ → Type 0
IsFresh front = (front ≡ []) ⊎ ((before : List ℕ) × (front ≡ before ++ 10 ∷ []))

fresh_begins : (front rest : List ℕ) → IsFresh front → begins_line (front ++ rest) (length front) ≡ true
unfolding begins_line
fresh_begins front rest (inl is) = rw is refl
fresh_begins front rest (inr h) =
    let less : length front - 1 ≡ length h.0 = omega (arith, (ap (λ (x : List ℕ). length x) h.1 ∙ length-append h.0 (10 ∷ []))) in
    let whole : front ++ rest ≡ h.0 ++ 10 ∷ rest = ap (λ (x : List ℕ). x ++ rest) h.1 ∙ append_assoc h.0 (10 ∷ []) rest in
    rw (ap (λ n. slice_index (front ++ rest) n) less ∙ ap (λ (x : List ℕ). slice_index x (length h.0)) whole ∙ index_at h.0 10 rest) (or_right (length front == 0) true refl)
  where
    index_at : (before : List ℕ) (b : ℕ) (rest : List ℕ) → slice_index (before ++ b ∷ rest) (length before) ≡ b
    index_at [] b rest = refl
    index_at (x ∷ before) b rest = index_at before b rest

pub line_stands : (front g n rest : List ℕ) → Gap g → IsFresh (front ++ g) → IsName n → list_all in_line n ≡ true
    → IsLine (front ++ (g ++ (connect_line n ++ 10 ∷ rest))) (length front) (Some (stmt.Connect n)) (length front + length g) (length front + length g + length (connect_line n))
unfolding goes_on next_is in_line is_blank meta_line command_len said_by written_name quoted is_utf8 chars encode
line_stands front g n rest gap fresh is plain =
    let line = connect_line n in
    let spells : IsMetaLine line = (_, name_line n (grind (arith, and_from, list_all-append, in_one_line)), refl) in
    let utf8 = is_utf8-from_IsUtf8 line (IsUtf8-append (codes "\\connect ") (written_name n) (IsUtf8-from_is_utf8 (codes "\\connect ") refl) (name_utf8 n is)) in
    let there = spelling_is_read (front ++ g) line (10 ∷ rest) MetaLine spells refl utf8 (λ e. fresh_begins (front ++ g) (line ++ 10 ∷ rest) fresh) in
    let lies : (line : List ℕ) → IsTokenAt ((front ++ g) ++ (line ++ 10 ∷ rest)) (length (front ++ g)) MetaLine line → (next_token_of (front ++ (g ++ (line ++ 10 ∷ rest))) (length front) ≡ Ok (Some (token_at MetaLine (length front + length g) line))) × (token_text (front ++ (g ++ (line ++ 10 ∷ rest))) (token_at MetaLine (length front + length g) line) ≡ line) =
    λ line there. (passes g gap front (line ++ 10 ∷ rest) ∙ (simp (append_assoc, length-append) at there.found), simp (append_assoc, length-append) at there.spelled) in
    let here = lies line there in
    record { next = here.0; says = ap meta_line here.1 ∙ ap connected (name_found 8 n is) }
  where
    name_line : (n : List ℕ) → list_all in_line (written_name n) ≡ true → list_all in_line (codes "connect " ++ written_name n) ≡ true
    name_line n e = e

-- ---- one statement

-- how a statement is written, behind a gap
pub record IsLaidOut (g : List ℕ) (s : Stmt) (text : List ℕ) : Type 0 where
  pub tokens : List Lexeme
  pub bytes : spelled tokens ++ 10 ∷ [] ≡ g ++ text
  pub stood : Stood tokens
  pub says : (at : ℕ) → statement.Spells (Some s) (placed at tokens)
  pub last : only_last semicolon tokens ≡ true

pub laid_out : {g : List ℕ} (gap : Gap g) (s : Stmt) → Fits command s → IsLaidOut g s (in_words s)
unfolding in_words
laid_out {g} gap s fit =
    let k = statement_put gap s fit [] nothing_follows refl in
    record {
      tokens = k.tokens;
      bytes = ap (λ (x : List ℕ). x ++ 10 ∷ []) (k.bytes ∙ command_text g s) ∙ append_assoc g (joined (pieces [] command s)) (10 ∷ []);
      stood = subst Stood (append-nil k.tokens) k.stood;
      says = k.spells;
      last = ap (only_last semicolon) (sym (append-nil k.tokens)) ∙ k.last;
    }

-- how a statement's text lies behind a gap: in tokens, with the rows of a COPY behind them, or as one line
pub data Lies (g : List ℕ) : Stmt → List ℕ → Type 0 where
  by_tokens : (s : Stmt) (text : List ℕ) → IsLaidOut g s text → ((t : List ℕ) (end : ℕ) → completed t end (Some s) ≡ Ok (whole (Some s) end)) → Lies g s text
  by_rows : (q : QName) (columns : List (List ℕ)) (rows : List ℕ) → IsLaidOut g (stmt.CopyRows q columns []) (in_words (stmt.CopyRows q columns [])) → AreRows rows → Lies g (stmt.CopyRows q columns rows) (in_words (stmt.CopyRows q columns []) ++ (rows ++ (end_mark ++ line_feed ∷ [])))
  by_line : (n : List ℕ) → IsName n → list_all in_line n ≡ true → Lies g (stmt.Connect n) (connect_line n ++ 10 ∷ [])

pub can_be_written : {g : List ℕ} (gap : Gap g) (s : Stmt) → IsWritable s → Lies g s (spelling s)
unfolding spelling connect_text
can_be_written gap (stmt.CopyRows q columns rows) is = by_rows q columns rows (laid_out gap (stmt.CopyRows q columns []) is.0) is.1
can_be_written gap (stmt.Connect n) is = by_line n is.0 is.1
can_be_written gap s is = by_tokens s (spelling s) (laid_out gap s is) (λ t end. refl)

-- ---- where nothing is left

no_token : (front g : List ℕ) → Gap g → next_token_of (front ++ g) (length front) ≡ Ok None
no_token front g gap =
    let over : next_token_of (front ++ g) (length front) ≡ next_token_of (front ++ g) (length front + length g) =
    subst (λ (x : List ℕ). next_token_of (front ++ x) (length front) ≡ next_token_of (front ++ x) (length front + length g)) (append-nil g) (passes g gap front []) in
    over ∙ next_at_end (front ++ g) (length front + length g) (sym (length-append front g))

-- ---- one after another

ends_placed : (at : ℕ) (ts : List Lexeme) → ends_with semicolon (placed at ts) ≡ ends_with semicolon ts
unfolding is_sign
ends_placed at [] = refl
ends_placed at (t ∷ []) = refl
ends_placed at (t ∷ u ∷ ts) = ends_placed (at + length t.gap + length t.word) (u ∷ ts)

some_first : (test : Lexeme → Bool) (at : ℕ) (ts : List Lexeme) → ends_with test ts ≡ true → (start : ℕ) × (start_of (placed at ts) ≡ Some start)
some_first test at [] e = absurd cc
some_first test at (t ∷ ts) e = (at + length t.gap, refl)

-- a list of statements that a text reads as from a place on
pub record ReadsAs (text : List ℕ) (at : ℕ) (statements : List Stmt) : Type 0 where
  pub found : List Located
  pub reads : Reads text at found
  pub same : said found ≡ statements

abbrev ends_at : Option Stmt → ℕ → Result Whole DdlFault
ends_at s n = Ok (whole s n)

-- what is read of the text behind a statement
abbrev ReadsRest : List ℕ → List ℕ → List Stmt → Type 0
ReadsRest text rest more = (front g : List ℕ) → Gap g → IsFresh (front ++ g) → text ≡ front ++ (g ++ rest) → ReadsAs text (length front) more

-- the tokens of a statement, and a line feed behind them
record Collects (text front : List ℕ) (ts : List Lexeme) (header : Option Stmt) : Type 0 where
  start : ℕ
  first : first_start (collected text (length front)).pieces ≡ Some start
  spells : statement.Spells header (lexemes text (collected text (length front)).pieces)
  place : (collected text (length front)).end ≡ length (front ++ spelled ts)

tokens_collected : (text front rest : List ℕ) (ts : List Lexeme) (s : Stmt) → text ≡ front ++ (spelled ts ++ 10 ∷ rest) → Stood ts → only_last semicolon ts ≡ true → ((at : ℕ) → statement.Spells (Some s) (placed at ts)) → Collects text front ts (Some s)
tokens_collected text front rest ts s e stood last says =
    let ends = sym (ends_placed (length front) ts) ∙ statement_closes (Some s) (placed (length front) ts) (says (length front)) in
    let k = collects text front ts (10 ∷ rest) e stood refl last ends in
    let first = some_first semicolon (length front) ts ends in
    record {
      start = first.0;
      first = sym (grind arith) ∙ ap start_of k.tokens ∙ first.1;
      spells = subst (λ (us : List Lexeme). statement.Spells (Some s) us) (sym k.tokens) (says (length front));
      place = k.end ∙ sym (length-append front (spelled ts));
    }

regrouped : (g text rest tokens : List ℕ) → tokens ++ 10 ∷ [] ≡ g ++ text → g ++ (text ++ rest) ≡ tokens ++ (10 ∷ rest)
regrouped g text rest tokens bytes = sym (append_assoc g text rest) ∙ ap (λ (x : List ℕ). x ++ rest) (sym bytes) ∙ append_assoc tokens (10 ∷ []) rest

one_as : (text : List ℕ) (at : ℕ) (s : Stmt) (start end : ℕ) (more : List Stmt) → IsStatement text at (Some s) start end → ReadsAs text end more → ReadsAs text at (s ∷ more)
one_as text at s start end more is others = record { found = listed (Some s) start end others.found; reads = one_read at (Some s) start end others.found is others.reads; same = ap (λ (x : List Stmt). s ∷ x) others.same }

one_statement : (text front g : List ℕ) (s : Stmt) (words : List ℕ) (more : List Stmt) (rest : List ℕ) → Gap g → IsFresh (front ++ g) → Lies g s words → text ≡ front ++ (g ++ (words ++ rest)) → ReadsRest text rest more → ReadsAs text (length front) (s ∷ more)
one_statement text front g _ _ more rest gap fresh (by_tokens s words l complete) e later =
    let e' : text ≡ front ++ (spelled l.tokens ++ (10 ∷ rest)) = e ∙ ap (λ (x : List ℕ). front ++ x) (regrouped g words rest (spelled l.tokens) l.bytes) in
    let k = tokens_collected text front rest l.tokens s e' l.stood l.last l.says in
    let front' = front ++ spelled l.tokens in
    let others = later front' (10 ∷ []) newline (inr (front', refl)) (e' ∙ sym (append_assoc front (spelled l.tokens) (10 ∷ rest))) in
    let all = complete text (collected text (length front)).end ∙ ap (λ n. ends_at (Some s) n) k.place in
    one_as text (length front) s k.start (length front') more (record { first = k.first; header = Some s; spells = k.spells; all = all }) others
one_statement text front g _ _ more rest gap fresh (by_rows q columns rows l are) e later =
    let head_behind : (head rows mark feed rest : List ℕ) → (head ++ (rows ++ (mark ++ feed))) ++ rest ≡ head ++ (rows ++ (mark ++ (feed ++ rest))) = λ head rows mark feed rest. simp append_assoc in
    let s = stmt.CopyRows q columns rows in
    let behind = rows ++ (end_mark ++ (line_feed ∷ rest)) in
    let e' : text ≡ front ++ (spelled l.tokens ++ (10 ∷ behind)) =
    e ∙ ap (λ (x : List ℕ). front ++ (g ++ x)) (head_behind (in_words (stmt.CopyRows q columns [])) rows end_mark (line_feed ∷ []) rest) ∙ ap (λ (x : List ℕ). front ++ x) (regrouped g (in_words (stmt.CopyRows q columns [])) behind (spelled l.tokens) l.bytes) in
    let k = tokens_collected text front behind l.tokens (stmt.CopyRows q columns []) e' l.stood l.last l.says in
    let head = front ++ spelled l.tokens in
    let text_is : text ≡ head ++ (10 ∷ behind) = e' ∙ sym (append_assoc front (spelled l.tokens) (10 ∷ behind)) in
    let front' = head ++ (10 ∷ (rows ++ (end_mark ++ line_feed ∷ []))) in
    let others = later front' [] none (inr (head ++ (10 ∷ (rows ++ end_mark)), simp (append_assoc, append-nil))) (text_is ∙ (simp append_assoc)) in
    let place : length head + 1 + length rows + 3 ≡ length front' = omega (arith, length-append head (10 ∷ (rows ++ (end_mark ++ line_feed ∷ []))), length-append rows (end_mark ++ line_feed ∷ [])) in
    let found : rows_behind text (collected text (length front)).end ≡ Ok (record { rows = rows; end = length front' }) =
    ap (rows_behind text) k.place ∙ ap (λ (x : List ℕ). rows_behind x (length head)) text_is ∙ rows_read_back head rows rest are ∙ ap (λ n. Ok (record { rows = rows; end = n })) place in
    one_as text (length front) s k.start (length front') more (record { first = k.first; header = Some (stmt.CopyRows q columns []); spells = k.spells; all = ap (with_rows q columns) found }) others
one_statement text front g _ _ more rest gap fresh (by_line n is plain) e later =
    let s = stmt.Connect n in
    let line = connect_line n in
    let e' : text ≡ front ++ (g ++ (line ++ 10 ∷ rest)) = e ∙ ap (λ (x : List ℕ). front ++ (g ++ x)) (append_assoc line (10 ∷ []) rest) in
    let l = subst (λ (x : List ℕ). IsLine x (length front) (Some s) (length front + length g) (length front + length g + length line)) (sym e') (line_stands front g n rest gap fresh is plain) in
    let others = later (front ++ (g ++ line)) (10 ∷ []) newline (inr ((front ++ (g ++ line)), refl)) (e' ∙ both_behind front g line (10 ∷ rest)) in
    let reads = subst (λ k. Reads text k others.found) (sym (omega (arith, length-append front (g ++ line), length-append g line))) others.reads in
    record {
      found = listed (Some s) (length front + length g) (length front + length g + length line) others.found;
      reads = line_read (length front) (Some s) (length front + length g) (length front + length g + length line) others.found l reads;
      same = ap (λ (x : List Stmt). s ∷ x) others.same;
    }

none_left : (text : List ℕ) (at : ℕ) → next_token_of text at ≡ Ok None → ReadsAs text at []
none_left text at e =
    let none_collected : (text : List ℕ) (at : ℕ) → next_token_of text at ≡ Ok None → (first_start (collected text at).pieces ≡ None) × ((collected text at).fault ≡ None) = λ text at e. grind (arith, collected_first) in
    let h = none_collected text at e in record { found = []; reads = all_read at h.0 h.1; same = refl }

-- statements with empty lines and comments between them
pub laid_read : (text front g rest : List ℕ) (statements : List Stmt) → Gap g → IsFresh (front ++ g) → Lays rest statements → text ≡ front ++ (g ++ rest) → ReadsAs text (length front) statements
laid_read text front g _ _ gap fresh no_more is = grind (arith, append-nil, none_left, no_token, passed, both_passed, passes, feed_passed, append_assoc)
laid_read text front g _ _ gap fresh (empty_line rest statements lays) is =
    laid_read text front (g ++ 10 ∷ []) rest statements (passed (g ++ 10 ∷ []) (both_passed g (10 ∷ []) (passes g gap) feed_passed)) (inr (front ++ g, sym (append_assoc front g (10 ∷ [])))) lays
    (is ∙ ap (λ (x : List ℕ). front ++ x) (sym (append_assoc g (10 ∷ []) rest)))
laid_read text front g _ _ gap fresh (comment_line line rest statements shown lays) is =
    laid_read text front (g ++ comment line) rest statements (passed (g ++ comment line) (both_passed g (comment line) (passes g gap) (comment_passed line shown.0 shown.1)))
    (inr (front ++ (g ++ (45 ∷ 45 ∷ line)), ap (λ (x : List ℕ). front ++ x) (sym (append_assoc g (45 ∷ 45 ∷ line) (10 ∷ []))) ∙ sym (append_assoc front (g ++ (45 ∷ 45 ∷ line)) (10 ∷ [])))) lays
    (is ∙ ap (λ (x : List ℕ). front ++ x) (sym (append_assoc g (comment line) rest)))
laid_read text front g _ _ gap fresh (statement_text s rest statements can lays) is =
    one_statement text front g s (spelling s) statements rest gap fresh (can_be_written gap s can) is
    (λ front' g' gap' fresh' there. laid_read text front' g' rest statements gap' fresh' lays there)

-- ---- whole texts

pub laid_out_read : (text : List ℕ) (statements : List Stmt) → Lays text statements → (found : List Located) × (statements_of text ≡ Ok found) × (said found ≡ statements)
laid_out_read text statements lays = let r = laid_read text [] [] text statements none (inl refl) lays refl in (r.found, only text r.found r.reads, r.same)

-- spellings that are joined lie one behind another
all_lay : (statements : List Stmt) → AllWritable statements → Lays (spellings statements) statements
all_lay [] all = no_more
all_lay (s ∷ more) all = statement_text s (spellings more) more all.0 (all_lay more all.1)

-- one statement lies in its spelling
pub writable_is_spelled : (s : Stmt) → IsWritable s → Lays (spelling s) (s ∷ [])
writable_is_spelled s is = subst (λ (x : List ℕ). Lays x (s ∷ [])) (append-nil (spelling s)) (statement_text s [] [] is no_more)

pub joined_read : (statements : List Stmt) → AllWritable statements → (found : List Located) × (statements_of (spellings statements) ≡ Ok found) × (said found ≡ statements)
joined_read statements all = laid_out_read (spellings statements) statements (all_lay statements all)

-- ---- statements

statement_yields : (s : Stmt) (ts : List Lexeme) (r : List ℕ) → AllCame ts r → statement.Spells (Some s) ts → IsWritable s
unfolding statement
statement_yields s ts r came spells = elim spells [ inl h ↦ absurd cc h.1 | inr h ↦ (let same : h.0 ≡ s = cc h.1 in subst IsWritable same (fits_writable h.0 (command_made h.0 ts r came h.2))) ]

-- ---- whole texts

-- a statement that is read with its rows can be written where it can without
abbrev IsDone : Option Stmt → Type 0
IsDone None = Unit {0}
IsDone (Some s) = IsWritable s

done : (text : List ℕ) (at : ℕ) (h s : Option Stmt) (end : ℕ) → IsDone h → completed text at h ≡ ends_at s end → IsDone s
done text at h s end is e = grind (arith, read_are_rows)

header_done : (text : List ℕ) (at : ℕ) (h : Option Stmt) → at ≤ length text → statement.Spells h (lexemes text (collected text at).pieces) → IsDone h
header_done text at None le spells = tt
header_done text at (Some s) le spells = statement_yields s (lexemes text (collected text at).pieces) _ (have_come text at le) spells

one_more : (start end : ℕ) (more : List Located) (s : Option Stmt) → IsDone s → AllWritable (said more) → AllWritable (said (listed_before s start end more))
one_more start end more s is later = grind arith

-- what a line with a backslash says can be written
line_spelled : (text : List ℕ) (at start end : ℕ) → at ≤ length text → next_token_of text at ≡ Ok (Some (line_token start end)) → list_all in_line (token_text text (line_token start end)) ≡ true
unfolding in_line
line_spelled text at start end le e = let c = came_token text at (line_token start end) le e in ap (list_all in_line) c.spells.2 ∙ and_from (in_line 92) (list_all in_line c.spells.0) refl c.spells.1

line_done : (text : List ℕ) (at start end : ℕ) (s : Option Stmt) → at ≤ length text → IsLine text at s start end → IsDone s
line_done text at start end s le is = grind (arith, said_is_a_name, line_spelled)

all_writable : (text : List ℕ) (at : ℕ) (found : List Located) → at ≤ length text → Reads text at found → AllWritable (said found)
all_writable text _ _ le (all_read at first sound) = tt
all_writable text _ _ le (one_read at s start end more is others) = grind (arith, one_more, done, header_done, ends_past, line_done, line_past, (all_writable text end more (ends_past text at s start end le is).1 others))
all_writable text _ _ le (line_read at s start end more is others) = grind (arith, one_more, done, header_done, ends_past, line_done, line_past, (all_writable text end more (line_past text at start end le is.next).1 others))

-- what was read of a text can be written
pub read_is_writable : (text : List ℕ) (statements : List Located) → statements_of text ≡ Ok statements → AllWritable (said statements)
read_is_writable text statements e = all_writable text 0 statements (omega arith) ((exact text (Ok statements)).0 e)

pub read_again : (text : List ℕ) (statements : List Located) → statements_of text ≡ Ok statements → (same : List Located) × (statements_of (spellings (said statements)) ≡ Ok same) × (said same ≡ said statements)
read_again text statements e = joined_read (said statements) (read_is_writable text statements e)
