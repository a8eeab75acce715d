-- The text of a run of a machine is written with the tokens that it has: behind a gap and before other tokens, and what
-- was read of a text is such a text.
use Rattle.ddl_forms.proofs.Common.{◌≡◌, ℕ, ◌+◌, ◌-◌, Bool, true, false, List, [], ◌∷◌, ◌++◌, length, length-append, append-nil, take, drop, Option, Some, None, refl, sym, ap, subst, ◌∙◌, arith, option_and_then, drop-length, TokenKind, Sign, MetaLine, Piece, Lexeme, spelled, source, is_sign, is_sign_kind, start_of, Machine, run, Runs, lexeme_of, lexemes, run_none, collected, semicolon}
use Rattle.ddl_parts.specs.Texts.{IsTextOf}
use Rattle.ddl_forms.proofs.{Closing.only_last, Standing.is_safe, Standing.Stands, Standing.Stood, Standing.placed, Standing.NoSemicolon, Standing.collects_all, Kept.AllCame, Kept.Plain, Kept.AllPlain, Kept.begun_some, Kept.token_begun, Kept.have_come, Kept.whole_text, Kept.stands_again, Kept.all_stand_again, Kept.spelled-append, Tokens.Gap, Tokens.none as none_before, Tokens.gap_stands}

-- ---- machines

pub not_some : {A : Type 0} (x : A) (o : Option A) → o ≡ Some x → o ≡ None → ⊥
not_some x o e f = absurd (cc (e, f))

abbrev pub bare : TokenKind → List ℕ → Lexeme
bare kind word = record { gap = []; kind = kind; word = word; start = 0 }

pub sign_kind : (b : ℕ) (k : TokenKind) → is_sign_kind b k ≡ true → k ≡ Sign b
sign_kind b k e = grind arith

-- a step goes by kinds and words, and takes neither a semicolon nor a line that begins with a backslash
abbrev pub GoesByWords : {S : Type 0} → (Lexeme → Option S) → Type 0
GoesByWords step =
    ((gap : List ℕ) (start : ℕ) (t : Lexeme) → step (record { gap = gap; kind = t.kind; word = t.word; start = start }) ≡ step t) × ((word : List ℕ) → (step (bare (Sign 59) word) ≡ None) × (step (bare MetaLine word) ≡ None))

-- the token of such a step is plain, and it is the same for a token of the same kind and word
pub goes_plain : {S : Type 0} (step : Lexeme → Option S) → GoesByWords step → (x : S) (t : Lexeme) → step t ≡ Some x → Plain t
unfolding is_sign
goes_plain step goes x t e = record { ends = ends (is_sign_kind 59 t.kind) refl; line = λ is. refused MetaLine is (goes.1 t.word).1 }
  where
    refused : (k : TokenKind) → t.kind ≡ k → step (bare k t.word) ≡ None → ⊥
    refused k is none = not_some x (step t) e (sym (goes.0 [] 0 t) ∙ ap (λ (k : TokenKind). step (bare k t.word)) is ∙ none)

    ends : (b : Bool) → is_sign_kind 59 t.kind ≡ b → is_sign_kind 59 t.kind ≡ false
    ends false is = is
    ends true is = absurd (refused (Sign 59) (sign_kind 59 t.kind is) (goes.1 t.word).0)

pub same_step : {S : Type 0} (step : Lexeme → Option S) → ((gap : List ℕ) (start : ℕ) (t : Lexeme) → step (record { gap = gap; kind = t.kind; word = t.word; start = start }) ≡ step t) → (t u : Lexeme) → u.kind ≡ t.kind → u.word ≡ t.word → step u ≡ step t
same_step step same t u kind word = ap (λ (k : TokenKind). step (record { gap = u.gap; kind = k; word = u.word; start = u.start })) kind ∙ ap (λ (w : List ℕ). step (record { gap = u.gap; kind = t.kind; word = w; start = u.start })) word ∙ same u.gap u.start t

-- A machine that takes no semicolon and no line that begins with a backslash, that looks at kinds and words alone, and
-- that takes a token at least.
pub record IsPlainMachine (m : Machine) : Type 0 where
  pub goes : (s : m.State) → GoesByWords (m.step s)
  pub begins : m.done m.start ≡ false

pub run-append : (m : Machine) (s : Option m.State) (a b : List Lexeme) → run m s (a ++ b) ≡ run m (run m s a) b
run-append m s [] b = refl
run-append m s (t ∷ a) b = run-append m (option_and_then (λ x. m.step x t) s) a b

-- a run that goes on has a state
pub run_some : (m : Machine) (o : Option m.State) (ts : List Lexeme) (last : m.State) → run m o ts ≡ Some last → (x : m.State) × (o ≡ Some x) × (run m (Some x) ts ≡ Some last)
run_some m None ts last e = absurd (not_some last (run m None ts) e (run_none m ts))
run_some m (Some x) ts last e = (x, refl, e)

pub are_plain : (m : Machine) → IsPlainMachine m → (s last : m.State) (ts : List Lexeme) → run m (Some s) ts ≡ Some last → AllPlain ts
are_plain m h s last [] e = tt
are_plain m h s last (t ∷ ts) e = let n = run_some m (m.step s t) ts last e in (goes_plain (m.step s) (h.goes s) n.0 t n.1, are_plain m h n.0 last ts n.2)

pub last_more : (test : Lexeme → Bool) (t : Lexeme) (us : List Lexeme) → test t ≡ false → only_last test us ≡ true → only_last test (t ∷ us) ≡ true
last_more test t us e last = grind arith

pub plain_last : (ts us : List Lexeme) → AllPlain ts → only_last semicolon us ≡ true → only_last semicolon (ts ++ us) ≡ true
plain_last [] us h last = last
plain_last (t ∷ ts) us h last = last_more semicolon t (ts ++ us) h.0.ends (plain_last ts us h.1 last)

-- ---- the same tokens elsewhere

abbrev pub gapped : List ℕ → Lexeme → Lexeme
gapped g t = record { gap = g; kind = t.kind; word = t.word; start = 0 }

pub placed-append : (at : ℕ) (a b : List Lexeme) → placed at (a ++ b) ≡ placed at a ++ placed (at + length (spelled a)) b
placed-append at [] b = ap (λ n. placed n b) (let e : at ≡ at + 0 = omega arith in e)
placed-append at (t ∷ a) b =
    let start : Lexeme = record { gap = t.gap; kind = t.kind; word = t.word; start = at + length t.gap } in
    ap (λ (x : List Lexeme). start ∷ x) (placed-append (at + length t.gap + length t.word) a b)
    ∙ ap (λ n. start ∷ (placed (at + length t.gap + length t.word) a ++ placed n b))
    (let e : at + length t.gap + length t.word + length (spelled a) ≡ at + length (spelled (t ∷ a)) = omega (arith, length-append t.gap (t.word ++ spelled a), length-append t.word (spelled a)) in e)

pub spelled_placed : (at : ℕ) (ts : List Lexeme) → spelled (placed at ts) ≡ spelled ts
spelled_placed at [] = refl
spelled_placed at (t ∷ ts) = ap (λ (x : List ℕ). t.gap ++ (t.word ++ x)) (spelled_placed (at + length t.gap + length t.word) ts)

-- what tokens say, wherever they stand
abbrev pub words : List Lexeme → List (TokenKind × List ℕ)
words [] = []
words (t ∷ ts) = (t.kind, t.word) ∷ words ts

words_placed : (at : ℕ) (ts : List Lexeme) → words (placed at ts) ≡ words ts
words_placed at [] = refl
words_placed at (t ∷ ts) = ap (λ (ws : List (TokenKind × List ℕ)). (t.kind, t.word) ∷ ws) (words_placed (at + length t.gap + length t.word) ts)

pub one_said : (t u : Lexeme) (ts us : List Lexeme) → words (u ∷ us) ≡ words (t ∷ ts) → (u.kind ≡ t.kind) × (u.word ≡ t.word) × (words us ≡ words ts)
one_said t u ts us e = let same : (u.kind, u.word) ≡ (t.kind, t.word) = cc in (ap (λ (x : TokenKind × List ℕ). x.0) same, ap (λ (x : TokenKind × List ℕ). x.1) same, cc)

run_same : (m : Machine) → IsPlainMachine m → (s : Option m.State) (ts us : List Lexeme) → words us ≡ words ts → run m s us ≡ run m s ts
run_same m h s [] [] e = refl
run_same m h s [] (u ∷ us) e = absurd cc
run_same m h s (t ∷ ts) [] e = absurd cc
run_same m h None (t ∷ ts) (u ∷ us) e = run_same m h None ts us (one_said t u ts us e).2
run_same m h (Some x) (t ∷ ts) (u ∷ us) e = let w = one_said t u ts us e in ap (λ o. run m o us) (same_step (m.step x) (h.goes x).0 t u w.0 w.1) ∙ run_same m h (m.step x t) ts us w.2

pub run_placed : (m : Machine) → IsPlainMachine m → (s : Option m.State) (at : ℕ) (ts : List Lexeme) → run m s (placed at ts) ≡ run m s ts
run_placed m h s at ts = run_same m h s ts (placed at ts) (words_placed at ts)

-- tokens that have something are plain, and others that say the same have it too
pub record IsPlain (Run : List Lexeme → Type 0) : Type 0 where
  pub plain : (ts : List Lexeme) → Run ts → AllPlain ts
  pub same : (ts us : List Lexeme) → words us ≡ words ts → Run ts → Run us

pub plain_runs : {m : Machine} → IsPlainMachine m → IsPlain (Runs m)
plain_runs {m} h = record { plain = λ ts r. are_plain m h m.start r.last ts r.runs; same = λ ts us e r. record { last = r.last; runs = run_same m h (Some m.start) ts us e ∙ r.runs; done = r.done } }

source_gapped : (g : List ℕ) (at : ℕ) (t : Lexeme) (ts : List Lexeme) → source (placed at (gapped g t ∷ ts)) ≡ t.word ++ spelled ts
source_gapped g at t ts = ap (λ (x : List ℕ). t.word ++ x) (spelled_placed (at + length g + length t.word) ts)

-- ---- before what is safe

-- whatever is safe behind them, they begin with what is safe
abbrev pub IsSafe : List Lexeme → Type 0
IsSafe others = (after : List ℕ) → is_safe after ≡ true → is_safe (spelled others ++ after) ≡ true

pub safe_behind : (others : List Lexeme) → is_safe (spelled others) ≡ true → IsSafe others
safe_behind others e = grind arith

-- ---- a run's text

-- tokens for the text of a run behind a gap, before others
pub record IsRunKept (Run : List Lexeme → Type 0) (g v : List ℕ) (others : List Lexeme) : Type 0 where
  pub tokens : List Lexeme
  pub bytes : spelled tokens ≡ g ++ v
  pub stood : Stood (tokens ++ others)
  pub plain : AllPlain tokens
  pub runs : (at : ℕ) → Run (placed at tokens)
  pub whole : (at : ℕ) → source (placed at tokens) ≡ v
  pub same : (at : ℕ) → words (placed at tokens) ≡ words (lexemes v (collected v 0).pieces)

first_gap : (Run : List Lexeme → Type 0) → IsPlain Run → (g v : List ℕ) (ps : List Piece) (others : List Lexeme) → Gap g → start_of (lexemes v ps) ≡ Some 0 → Run (lexemes v ps) → AllCame (lexemes v ps) [] → v ≡ spelled (lexemes v ps)
    → words (lexemes v ps) ≡ words (lexemes v (collected v 0).pieces) → Stood others → IsSafe others → IsRunKept Run g v others
unfolding is_sign
first_gap Run h g v [] others gap first runs came whole same stood safe = absurd cc
first_gap Run h g v (p ∷ ps) others gap first runs came whole same stood safe =
    let start : p.token.start ≡ 0 = cc in
    let none : (lexeme_of v p).gap ≡ [] = ap (λ n. take n (drop p.from v)) (let e : p.token.start - p.from ≡ 0 = omega arith in e) in
    let all = h.plain ((lexeme_of v p) ∷ (lexemes v ps)) runs in
    let first = token_begun (lexeme_of v p).kind (lexeme_of v p).word all.0.line came.0.spells in
    let here = subst (Stands (lexeme_of v p)) (sym (spelled-append (lexemes v ps) others)) (stands_again (lexeme_of v p) (spelled (lexemes v ps)) [] (spelled others) all.0.line (begun_some (lexeme_of v p).word first) came.0 safe) in
    record {
      tokens = gapped g (lexeme_of v p) ∷ (lexemes v ps);
      bytes = ap (λ (x' : List ℕ). g ++ x') (sym (whole ∙ ap (λ (x : List ℕ). x ++ ((lexeme_of v p).word ++ spelled (lexemes v ps))) none));
      stood = (record { gap = gap_stands g (lexeme_of v p).word (spelled ((lexemes v ps) ++ others)) gap first; token = here.token; some = here.some }, (all_stand_again (lexemes v ps) others [] all.1 came.1 stood safe));
      plain = (record { ends = all.0.ends; line = all.0.line }, all.1);
      runs = λ at. h.same (lexeme_of v p ∷ lexemes v ps) (placed at (gapped g (lexeme_of v p) ∷ lexemes v ps)) (words_placed at (gapped g (lexeme_of v p) ∷ lexemes v ps)) runs;
      whole = λ at. source_gapped g at (lexeme_of v p) (lexemes v ps) ∙ sym (whole ∙ ap (λ (x : List ℕ). x ++ ((lexeme_of v p).word ++ spelled (lexemes v ps))) none);
      same = λ at. words_placed at (gapped g (lexeme_of v p) ∷ (lexemes v ps)) ∙ same;
    }

pub run_kept : (Run : List Lexeme → Type 0) → IsPlain Run → (g v : List ℕ) (others : List Lexeme) → Gap g → IsTextOf Run v → Stood others → is_safe (spelled others) ≡ true → IsRunKept Run g v others
run_kept Run plain g v others gap h stood safe =
    let c = collected v 0 in
    let none : drop c.end v ≡ [] = ap (λ n. drop n v) h.last ∙ drop-length v in
    let whole : v ≡ spelled (lexemes v c.pieces) = whole_text v 0 (omega arith) ∙ ap (λ (x : List ℕ). spelled (lexemes v c.pieces) ++ x) none ∙ append-nil (spelled (lexemes v c.pieces)) in
    first_gap Run plain g v c.pieces others gap h.first h.runs (subst (AllCame (lexemes v c.pieces)) none (have_come v 0 (omega arith))) whole refl stood (safe_behind others safe)

-- ---- a run that was read

no_semicolons : (ts : List Lexeme) → AllPlain ts → NoSemicolon ts
no_semicolons [] h = tt
no_semicolons (t ∷ ts) h = (h.0.ends, no_semicolons ts h.1)

-- what tokens of a text say, as a text of its own: a run's text, with tokens of the same kinds
pub record IsReadAgain (Run : List Lexeme → Type 0) (ts : List Lexeme) : Type 0 where
  pub text : IsTextOf Run (source ts)
  pub whole : source (lexemes (source ts) (collected (source ts) 0).pieces) ≡ source ts
  pub says : words (lexemes (source ts) (collected (source ts) 0).pieces) ≡ words ts

pub read_again : (Run : List Lexeme → Type 0) → IsPlain Run → (t : Lexeme) (ts : List Lexeme) (r : List ℕ) → AllCame (t ∷ ts) r → Run (t ∷ ts) → IsReadAgain Run (t ∷ ts)
unfolding is_sign
read_again Run h t ts r came runs =
    let all = h.plain (t ∷ ts) runs in
    let first = token_begun t.kind t.word all.0.line came.0.spells in
    let others = subst Stood (append-nil ts) (all_stand_again ts [] r all.1 came.1 tt (λ after e. e)) in
    let here : Stands t (spelled ts) = subst (Stands t) (append-nil (spelled ts)) (stands_again t (spelled ts) r [] all.0.line (begun_some t.word first) came.0 (λ after e. e)) in
    let us = gapped [] t ∷ ts in
    let v = source (t ∷ ts) in
    let c = collects_all v us refl (record { gap = gap_stands [] t.word (spelled ts) none_before first; token = here.token; some = here.some }, others) (all.0.ends, no_semicolons ts all.1) in
    record {
      text = record {
        first = ap start_of c.tokens;
        last = c.end ∙ (let e : 0 + length v ≡ length v = omega arith in e);
        runs = subst Run (sym c.tokens) (h.same (t ∷ ts) (placed 0 us) (words_placed 0 us) runs);
      };
      whole = ap source c.tokens ∙ source_gapped [] 0 t ts;
      says = ap words c.tokens ∙ words_placed 0 us;
    }

abbrev pub IsRunRead : Machine → List Lexeme → Type 0
IsRunRead m ts = IsReadAgain (Runs m) ts

pub run_read : (m : Machine) → IsPlainMachine m → (ts : List Lexeme) (r : List ℕ) → AllCame ts r → Runs m ts → IsRunRead m ts
run_read m h [] r came runs = let same : m.start ≡ runs.last = cc runs.runs in absurd (let d = runs.done in let b = h.begins in let e = ap m.done same ∙ d in cc)
run_read m h (t ∷ ts) r came runs = read_again (Runs m) (plain_runs h) t ts r came runs
