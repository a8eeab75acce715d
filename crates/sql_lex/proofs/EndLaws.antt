-- Ends that are found are where the spelling says, and where the spelling says they are found.
use Rattle.std.proofs.Common.{◌≡◌, ℕ, zero, suc, ◌+◌, ◌-◌, Bool, true, false, eqb, ◌||◌, ◌&&◌, List, [], ◌∷◌, ◌++◌, append_assoc, length, length-append, drop, take, Some, refl, sym, ap, subst, ◌∙◌, inl, inr, arith}
use Rattle.std.specs.Prelude.{◌==◌, ◌⊎◌}
use Rattle.std.specs.List.{prefix_len, list_all}
use Rattle.std.proofs.lemmas.Bool.{cases_Bool, eqb-true, eq-eqb, ne_eqb, and_parts, and_from, and_left, and_right, or_parts, or_from}
use Rattle.std.proofs.lemmas.List.{take-append-drop, length-take-le, drop_at}
use Rattle.std.proofs.lemmas.List.Sums.{prefix_len-le-length}
use Rattle.sql_lex.specs.Bytes.{is_digit, next_is}
use Rattle.sql_lex.specs.Ends.{run_end, quote_end, escape_end, comment_end, fraction_end, number_end}
use Rattle.sql_lex.specs.Written.{doubled}
use Rattle.sql_lex.specs.Spelling.{IsEscapedText, none, plain, quote, taken, Closes, all, opens, closes, passes, is_bound, AreDigits, IsNumber, goes_on_behind_dot}
use Rattle.sql_lex.proofs.Scans.{quote_closed, escape_closed}

-- ---- runs

pub record RunFound (p : ℕ → Bool) (xs : List ℕ) (n : ℕ) : Type 0 where
  pub run : list_all p (take n xs) ≡ true
  pub ends : next_is p (drop n xs) ≡ false

pub run_found : (p : ℕ → Bool) (xs : List ℕ) → RunFound p xs (prefix_len p xs)
unfolding next_is
run_found p [] = record { run = refl; ends = refl }
run_found p (x ∷ xs) =
    elim (cases_Bool (p x)) [
      | inl is ↦ let h = run_found p xs in
          let n : prefix_len p (x ∷ xs) ≡ suc (prefix_len p xs) = rw is (omega arith) in
          subst (RunFound p (x ∷ xs)) (sym n) (record { run = and_from (p x) (list_all p (take (prefix_len p xs) xs)) is h.run; ends = h.ends })
      | inr isnt ↦ let n : prefix_len p (x ∷ xs) ≡ 0 = rw isnt refl in
          subst (RunFound p (x ∷ xs)) (sym n) (record { run = refl; ends = isnt })
    ]

pub run_only : (p : ℕ → Bool) (word rest : List ℕ) → list_all p word ≡ true → next_is p rest ≡ false → prefix_len p (word ++ rest) ≡ length word
unfolding next_is
run_only p [] [] a e = refl
run_only p [] (b ∷ rest) a e = rw e refl
run_only p (x ∷ word) rest a e =
    let parts = and_parts (p x) (list_all p word) a in
    rw parts.0 (ap (λ n. 1 + n) (run_only p word rest parts.1 e) ∙ omega arith)

-- ---- quotes

abbrev pub QuoteOpen : ℕ → ℕ → List ℕ → ℕ → Type 0
QuoteOpen q at rest end = (text : List ℕ) × (more : List ℕ) × (rest ≡ doubled q text ++ (q ∷ more)) × (next_is (λ c. c == q) more ≡ false) × (end ≡ at + length (doubled q text) + 1)

abbrev pub QuoteShut : ℕ → ℕ → List ℕ → ℕ → Type 0
QuoteShut q at rest end = ((end ≡ at) × (next_is (λ c. c == q) rest ≡ false)) ⊎ ((tail : List ℕ) × (rest ≡ q ∷ tail) × QuoteOpen q (at + 1) tail end)

abbrev pub QuoteState : ℕ → Bool → ℕ → List ℕ → ℕ → Type 0
QuoteState q true at rest end = QuoteOpen q at rest end
QuoteState q false at rest end = QuoteShut q at rest end

some_is : (a b : ℕ) → Some a ≡ Some b → a ≡ b
some_is a b e = cc

pub doubled_quote : (q b : ℕ) (text : List ℕ) → b ≡ q → doubled q (b ∷ text) ≡ b ∷ q ∷ doubled q text
unfolding doubled
doubled_quote q b text e = rw (eq-eqb b q e, e) refl

pub doubled_plain : (q b : ℕ) (text : List ℕ) → (b == q) ≡ false → doubled q (b ∷ text) ≡ b ∷ doubled q text
unfolding doubled
doubled_plain q b text e = rw e refl

open_quote : (q b at end : ℕ) (rest : List ℕ) → b ≡ q → QuoteShut q (at + 1) rest end → QuoteOpen q at (b ∷ rest) end
unfolding doubled
open_quote q b at end rest e (inl h) = ([], rest, ap (λ c. c ∷ rest) e, h.1, h.0 ∙ omega arith)
open_quote q b at end rest e (inr (tail, is, (text, more, bytes, stops, place))) = (
  b ∷ text,
  more,
  ap (λ (r : List ℕ). b ∷ r) (is ∙ ap (λ (r : List ℕ). q ∷ r) bytes) ∙ ap (λ (r : List ℕ). r ++ (q ∷ more)) (sym (doubled_quote q b text e)),
  stops,
  place ∙ (let len = ap length (doubled_quote q b text e) in omega arith),
)

open_plain : (q b at end : ℕ) (rest : List ℕ) → (b == q) ≡ false → QuoteOpen q (at + 1) rest end → QuoteOpen q at (b ∷ rest) end
open_plain q b at end rest e (text, more, bytes, stops, place) = (
  b ∷ text,
  more,
  ap (λ (r : List ℕ). b ∷ r) bytes ∙ ap (λ (r : List ℕ). r ++ (q ∷ more)) (sym (doubled_plain q b text e)),
  stops,
  place ∙ (let len = ap length (doubled_plain q b text e) in omega arith),
)

pub quote_found : (q : ℕ) (open_now : Bool) (at : ℕ) (rest : List ℕ) (end : ℕ) → quote_end q open_now at rest ≡ Some end → QuoteState q open_now at rest end
unfolding quote_end next_is
quote_found q true at [] end e = absurd cc
quote_found q false at [] end e = inl (sym (some_is at end e), refl)
quote_found q true at (b ∷ rest) end e =
    elim (cases_Bool (b == q)) [
      | inl is ↦ open_quote q b at end rest (eqb-true b q is) (quote_found q false (at + 1) rest end (rw is at e))
      | inr isnt ↦ open_plain q b at end rest isnt (quote_found q true (at + 1) rest end (rw isnt at e))
    ]
quote_found q false at (b ∷ rest) end e =
    elim (cases_Bool (b == q)) [
      | inl is ↦ inr (rest, ap (λ c. c ∷ rest) (eqb-true b q is), quote_found q true (at + 1) rest end (rw is at e))
      | inr isnt ↦ inl (sym (some_is at end (rw isnt at e)), isnt)
    ]

pub quote_only : (q at : ℕ) (text more : List ℕ) → next_is (λ c. c == q) more ≡ false → quote_end q true at (doubled q text ++ (q ∷ more)) ≡ Some (at + length (doubled q text) + 1)
unfolding quote_end doubled
quote_only q at [] more e = rw (eq-eqb q q refl) (quote_closed q (at + 1) more e ∙ ap Some (omega arith))
quote_only q at (b ∷ text) more e =
    elim (cases_Bool (b == q)) [
      | inl is ↦ let two = doubled_quote q b text (eqb-true b q is) in
          let len = ap length two in
          ap (λ (r : List ℕ). quote_end q true at (r ++ (q ∷ more))) two ∙ rw (is, eq-eqb q q refl) (quote_only q (at + 1 + 1) text more e ∙ ap Some (omega arith))
      | inr isnt ↦ let one = doubled_plain q b text isnt in
          let len = ap length one in
          ap (λ (r : List ℕ). quote_end q true at (r ++ (q ∷ more))) one ∙ rw isnt (quote_only q (at + 1) text more e ∙ ap Some (omega arith))
    ]

-- ---- quotes with escapes

abbrev pub EscapeOpen : ℕ → List ℕ → ℕ → Type 0
EscapeOpen at rest end = (text : List ℕ) × (more : List ℕ) × (rest ≡ text ++ (39 ∷ more)) × IsEscapedText text × (next_is (λ c. c == 39) more ≡ false) × (end ≡ at + length text + 1)

abbrev pub EscapeShut : ℕ → List ℕ → ℕ → Type 0
EscapeShut at rest end = ((end ≡ at) × (next_is (λ c. c == 39) rest ≡ false)) ⊎ ((tail : List ℕ) × (rest ≡ 39 ∷ tail) × EscapeOpen (at + 1) tail end)

abbrev pub EscapeTaken : ℕ → List ℕ → ℕ → Type 0
EscapeTaken at rest end = (b : ℕ) × (tail : List ℕ) × (rest ≡ b ∷ tail) × EscapeOpen (at + 1) tail end

abbrev pub EscapeState : Bool → Bool → ℕ → List ℕ → ℕ → Type 0
EscapeState true now at rest end = EscapeTaken at rest end
EscapeState false true at rest end = EscapeOpen at rest end
EscapeState false false at rest end = EscapeShut at rest end

open_mark : (at end : ℕ) (rest : List ℕ) → EscapeShut (at + 1) rest end → EscapeOpen at (39 ∷ rest) end
open_mark at end rest (inl h) = ([], rest, refl, none, h.1, h.0 ∙ omega arith)
open_mark at end rest (inr (tail, is, (text, more, bytes, body, stops, place))) =
    (39 ∷ 39 ∷ text, more, ap (λ (r : List ℕ). 39 ∷ r) (is ∙ ap (λ (r : List ℕ). 39 ∷ r) bytes), quote body, stops, place ∙ omega arith)

open_taken : (at end : ℕ) (rest : List ℕ) → EscapeTaken (at + 1) rest end → EscapeOpen at (92 ∷ rest) end
open_taken at end rest (b, tail, is, (text, more, bytes, body, stops, place)) =
    (92 ∷ b ∷ text, more, ap (λ (r : List ℕ). 92 ∷ r) (is ∙ ap (λ (r : List ℕ). b ∷ r) bytes), taken b body, stops, place ∙ omega arith)

open_other : (b at end : ℕ) (rest : List ℕ) → (b == 39) ≡ false → (b == 92) ≡ false → EscapeOpen (at + 1) rest end → EscapeOpen at (b ∷ rest) end
open_other b at end rest e f (text, more, bytes, body, stops, place) =
    (b ∷ text, more, ap (λ (r : List ℕ). b ∷ r) bytes, plain b e f body, stops, place ∙ omega arith)

pub escape_found : (hidden now : Bool) (at : ℕ) (rest : List ℕ) (end : ℕ) → escape_end hidden now at rest ≡ Some end → EscapeState hidden now at rest end
unfolding escape_end next_is
escape_found true now at [] end e = absurd cc
escape_found false true at [] end e = absurd cc
escape_found false false at [] end e = inl (sym (some_is at end e), refl)
escape_found true now at (b ∷ rest) end e = (b, rest, refl, escape_found false true (at + 1) rest end e)
escape_found false true at (b ∷ rest) end e =
    elim (cases_Bool (b == 39)) [
      | inl is ↦ subst (λ c. EscapeOpen at (c ∷ rest) end) (sym (eqb-true b 39 is)) (open_mark at end rest (escape_found false false (at + 1) rest end (rw (ap (λ k. k == 92) (eqb-true b 39 is), is) at e)))
      | inr isnt ↦ elim (cases_Bool (b == 92)) [
        | inl is ↦ subst (λ c. EscapeOpen at (c ∷ rest) end) (sym (eqb-true b 92 is)) (open_taken at end rest (escape_found true true (at + 1) rest end (rw (is, isnt) at e)))
        | inr nor ↦ open_other b at end rest isnt nor (escape_found false true (at + 1) rest end (rw (nor, isnt) at e))
      ]
    ]
escape_found false false at (b ∷ rest) end e =
    elim (cases_Bool (b == 39)) [
      | inl is ↦ inr (rest, ap (λ c. c ∷ rest) (eqb-true b 39 is), escape_found false true (at + 1) rest end (rw is at e))
      | inr isnt ↦ inl (sym (some_is at end (rw isnt at e)), isnt)
    ]

pub escape_only : (at : ℕ) {text : List ℕ} (more : List ℕ) → next_is (λ c. c == 39) more ≡ false → IsEscapedText text → escape_end false true at (text ++ (39 ∷ more)) ≡ Some (at + length text + 1)
unfolding escape_end
escape_only at more e none = escape_closed (at + 1) more e ∙ ap Some (omega arith)
escape_only at more e (plain b f g h) = rw (f, g) (escape_only (at + 1) more e h ∙ ap Some (omega arith))
escape_only at more e (quote h) = escape_only (at + 1 + 1) more e h ∙ ap Some (omega arith)
escape_only at more e (taken b h) = escape_only (at + 1 + 1) more e h ∙ ap Some (omega arith)

-- ---- comments

Closes-some : {depth : ℕ} {text : List ℕ} → Closes (suc depth) text → (b : ℕ) × (rest : List ℕ) × (text ≡ b ∷ rest)
Closes-some (opens {text = text} h) = (47, 42 ∷ text, refl)
Closes-some (closes {text = text} h) = (42, 47 ∷ text, refl)
Closes-some (passes {text = text} b e h) = (b, text, refl)

Closes-none : {text : List ℕ} → Closes 0 text → text ≡ []
Closes-none all = refl

-- the byte before, and the bytes of the comment from it on
abbrev pub CommentFound : ℕ → ℕ → ℕ → List ℕ → ℕ → Type 0
CommentFound depth before at rest end = (word : List ℕ) × (more : List ℕ) × (before ∷ rest ≡ word ++ more) × Closes depth word × (end + 1 ≡ at + length word)

-- behind a mark
abbrev pub CommentBehind : ℕ → ℕ → List ℕ → ℕ → Type 0
CommentBehind depth at rest end = (word : List ℕ) × (more : List ℕ) × (rest ≡ word ++ more) × Closes depth word × (end ≡ at + length word)

passed-zero : {depth : ℕ} {word : List ℕ} (rest more : List ℕ) → Closes (suc depth) word → 0 ∷ rest ≡ word ++ more → (tail : List ℕ) × (word ≡ 0 ∷ tail) × (rest ≡ tail ++ more) × Closes (suc depth) tail
passed-zero rest more (opens h) e = absurd cc
passed-zero rest more (closes h) e = absurd cc
passed-zero rest more (passes {text = text} b n h) e = (text, ap (λ c. c ∷ text) (let z : 0 ≡ b = cc in sym z), cc, h)

pub behind : (depth at end : ℕ) (rest : List ℕ) → CommentFound (suc depth) 0 at rest end → CommentBehind (suc depth) at rest end
behind depth at end rest (word, more, bytes, h, place) =
    let z = passed-zero rest more h bytes in
    let len = ap length z.1 in
    (z.0, more, z.2, z.3, omega arith)

found_close : (depth before b at end : ℕ) (rest : List ℕ) → before ≡ 42 → b ≡ 47 → CommentBehind depth (at + 1) rest end → CommentFound (suc depth) before at (b ∷ rest) end
found_close depth before b at end rest e f (word, more, bytes, h, place) =
    (42 ∷ 47 ∷ word, more, rw (e, f) (ap (λ (r : List ℕ). 42 ∷ 47 ∷ r) bytes), closes h, omega arith)

found_open : (depth before b at end : ℕ) (rest : List ℕ) → before ≡ 47 → b ≡ 42 → CommentBehind (suc (suc depth)) (at + 1) rest end → CommentFound (suc depth) before at (b ∷ rest) end
found_open depth before b at end rest e f (word, more, bytes, h, place) =
    (47 ∷ 42 ∷ word, more, rw (e, f) (ap (λ (r : List ℕ). 47 ∷ 42 ∷ r) bytes), opens h, omega arith)

no_bound : (before b : ℕ) (word rest : List ℕ) → (before == 42 && b == 47) ≡ false → (before == 47 && b == 42) ≡ false → word ≡ b ∷ rest → is_bound before word ≡ false
unfolding is_bound next_is
no_bound before b word rest e f is = rw (is, e, f) refl

found_pass : (depth before b at end : ℕ) (rest : List ℕ) → (before == 42 && b == 47) ≡ false → (before == 47 && b == 42) ≡ false → CommentFound (suc depth) b (at + 1) rest end → CommentFound (suc depth) before at (b ∷ rest) end
found_pass depth before b at end rest e f (word, more, bytes, h, place) =
    let some = Closes-some h in
    let same : some.0 ≡ b = let cells : b ∷ rest ≡ some.0 ∷ (some.1 ++ more) = bytes ∙ ap (λ (w : List ℕ). w ++ more) some.2 in cc in
    let is : word ≡ b ∷ some.1 = some.2 ∙ ap (λ c. c ∷ some.1) same in
    (before ∷ word, more, ap (λ (r : List ℕ). before ∷ r) bytes, passes before (no_bound before b word some.1 e f is) h, omega arith)

pub comment_found : (depth before at : ℕ) (rest : List ℕ) (end : ℕ) → comment_end (suc depth) before at rest ≡ Some end → CommentFound (suc depth) before at rest end
unfolding comment_end
comment_found depth before at [] end e = absurd cc
comment_found zero before at (b ∷ rest) end e =
    elim (cases_Bool (before == 42 && b == 47)) [
      | inl is ↦ let both = and_parts (before == 42) (b == 47) is in
          found_close 0 before b at end rest (eqb-true before 42 both.0) (eqb-true b 47 both.1) ([], rest, refl, all, let place : at + 1 ≡ end = some_is (at + 1) end (rw is at e) in omega arith)
      | inr isnt ↦ elim (cases_Bool (before == 47 && b == 42)) [
        | inl is ↦ let both = and_parts (before == 47) (b == 42) is in
            found_open 0 before b at end rest (eqb-true before 47 both.0) (eqb-true b 42 both.1) (behind 1 (at + 1) end rest (comment_found 1 0 (at + 1) rest end (rw (isnt, is) at e)))
        | inr nor ↦ found_pass 0 before b at end rest isnt nor (comment_found 0 b (at + 1) rest end (rw (isnt, nor) at e))
      ]
    ]
comment_found (suc depth) before at (b ∷ rest) end e =
    elim (cases_Bool (before == 42 && b == 47)) [
      | inl is ↦ let both = and_parts (before == 42) (b == 47) is in
          let not_opens : (before == 47 && b == 42) ≡ false = rw (eqb-true before 42 both.0) refl in
          let deep : eqb (suc (suc depth)) 1 ≡ false = ne_eqb (suc (suc depth)) 1 (λ (k : suc (suc depth) ≡ 1). omega arith) in
          let less : suc (suc depth) - 1 ≡ suc depth = omega arith in
          found_close (suc depth) before b at end rest (eqb-true before 42 both.0) (eqb-true b 47 both.1) (behind depth (at + 1) end rest (comment_found depth 0 (at + 1) rest end (rw (is, not_opens, deep, less) at e)))
      | inr isnt ↦ elim (cases_Bool (before == 47 && b == 42)) [
        | inl is ↦ let both = and_parts (before == 47) (b == 42) is in
            found_open (suc depth) before b at end rest (eqb-true before 47 both.0) (eqb-true b 42 both.1) (behind (suc (suc depth)) (at + 1) end rest (comment_found (suc (suc depth)) 0 (at + 1) rest end (let deeper : suc (suc depth) + 1 ≡ suc (suc (suc depth)) = omega arith in rw (isnt, is, deeper) at e)))
        | inr nor ↦ found_pass (suc depth) before b at end rest isnt nor (comment_found (suc depth) b (at + 1) rest end (rw (isnt, nor) at e))
      ]
    ]

bound_free : (b c : ℕ) (rest : List ℕ) → is_bound b (c ∷ rest) ≡ false → ((b == 42 && c == 47) ≡ false) × ((b == 47 && c == 42) ≡ false)
unfolding is_bound next_is
bound_free b c rest e = let parts = or_parts (b == 47 && c == 42) (b == 42 && c == 47) e in (parts.1, parts.0)

-- a byte that begins no mark makes no difference
comment_passed : (depth before b at : ℕ) (rest : List ℕ) → (before == 42 && b == 47) ≡ false → (before == 47 && b == 42) ≡ false → comment_end depth before at (b ∷ rest) ≡ comment_end depth 0 at (b ∷ rest)
unfolding comment_end
comment_passed depth before b at rest e f = rw (e, f) refl

pub comment_only : (at : ℕ) {depth : ℕ} {word : List ℕ} (more : List ℕ) → Closes (suc depth) word → comment_end (suc depth) 0 at (word ++ more) ≡ Some (at + length word)
unfolding comment_end
comment_only at more (opens {depth = depth} {text = text} h) =
    let deeper : suc depth + 1 ≡ suc (suc depth) = omega arith in
    rw deeper (comment_only (at + 1 + 1) more h ∙ ap Some (omega arith))
comment_only at more (closes {depth = zero} {text = text} h) = ap (λ (w : List ℕ). Some (at + 1 + 1)) (Closes-none h) ∙ ap Some (let len = ap length (Closes-none h) in omega arith)
comment_only at more (closes {depth = suc depth} {text = text} h) =
    let deep : eqb (suc (suc depth)) 1 ≡ false = ne_eqb (suc (suc depth)) 1 (λ (k : suc (suc depth) ≡ 1). omega arith) in
    let less : suc (suc depth) - 1 ≡ suc depth = omega arith in
    rw (deep, less) (comment_only (at + 1 + 1) more h ∙ ap Some (omega arith))
comment_only at more (passes {depth = depth} {text = text} b e h) =
    let some = Closes-some h in
    let free = bound_free b some.0 some.1 (ap (is_bound b) (sym some.2) ∙ e) in
    let cells : text ++ more ≡ some.0 ∷ (some.1 ++ more) = ap (λ (w : List ℕ). w ++ more) some.2 in
    ap (comment_end (suc depth) b (at + 1)) cells ∙ comment_passed (suc depth) b some.0 (at + 1) (some.1 ++ more) free.0 free.1 ∙ ap (comment_end (suc depth) 0 (at + 1)) (sym cells)
    ∙ comment_only (at + 1) more h ∙ ap Some (omega arith)

-- ---- numbers

fraction_stays : (at : ℕ) (rest : List ℕ) → goes_on_behind_dot rest ≡ false → fraction_end at rest ≡ at
unfolding fraction_end goes_on_behind_dot next_is
fraction_stays at [] e = refl
fraction_stays at (b ∷ []) e = refl
fraction_stays at (b ∷ c ∷ rest) e = rw e refl

dot_cut : (b : ℕ) → goes_on_behind_dot (b ∷ []) ≡ false
unfolding goes_on_behind_dot next_is
dot_cut b = and_right (b == 46) false refl

not_all : (p : ℕ → Bool) (b : ℕ) (front rest : List ℕ) → p b ≡ false → list_all p (front ++ (b ∷ rest)) ≡ false
not_all p b [] rest e = and_left (p b) (list_all p rest) e
not_all p b (x ∷ front) rest e = and_right (p x) (list_all p (front ++ (b ∷ rest))) (not_all p b front rest e)

-- the number at the front, behind its first digit
pub record NumberFound (at b : ℕ) (rest : List ℕ) (end : ℕ) : Type 0 where
  pub word : List ℕ
  pub more : List ℕ
  pub bytes : b ∷ rest ≡ word ++ more
  pub place : end ≡ at + length word
  pub number : IsNumber word
  pub ends : (next_is is_digit more || (list_all is_digit word && goes_on_behind_dot more)) ≡ false

whole_found : (at b : ℕ) (rest tail : List ℕ) → is_digit b ≡ true → drop (prefix_len is_digit rest) rest ≡ tail → goes_on_behind_dot tail ≡ false → NumberFound at b rest (at + 1 + prefix_len is_digit rest)
whole_found at b rest tail digit is stops =
    let n = prefix_len is_digit rest in
    let h = run_found is_digit rest in
    let le = prefix_len-le-length is_digit rest in
    let len : length (take n rest) ≡ n = length-take-le n rest le in
    record {
      word = b ∷ take n rest;
      more = drop n rest;
      bytes = ap (λ (r : List ℕ). b ∷ r) (sym (take-append-drop n rest));
      place = omega arith;
      number = inl (omega arith, and_from (is_digit b) (list_all is_digit (take n rest)) digit h.run);
      ends = or_from (next_is is_digit (drop n rest)) (list_all is_digit (b ∷ take n rest) && goes_on_behind_dot (drop n rest)) h.ends (and_right (list_all is_digit (b ∷ take n rest)) (goes_on_behind_dot (drop n rest)) (ap goes_on_behind_dot is ∙ stops));
    }

fraction_found : (at b d : ℕ) (rest tail : List ℕ) → is_digit b ≡ true → is_digit d ≡ true → drop (prefix_len is_digit rest) rest ≡ 46 ∷ d ∷ tail
    → NumberFound at b rest (at + 1 + prefix_len is_digit rest + 2 + prefix_len is_digit tail)
unfolding is_digit
fraction_found at b d rest tail digit second is =
    let n = prefix_len is_digit rest in
    let m = prefix_len is_digit tail in
    let h = run_found is_digit rest in
    let g = run_found is_digit tail in
    let le = prefix_len-le-length is_digit rest in
    let le2 = prefix_len-le-length is_digit tail in
    let len : length (take n rest) ≡ n = length-take-le n rest le in
    let len2 : length (take m tail) ≡ m = length-take-le m tail le2 in
    let whole : List ℕ = b ∷ take n rest in
    let parts : List ℕ = d ∷ take m tail in
    let sum : length (whole ++ (46 ∷ parts)) ≡ length whole + length (46 ∷ parts) = length-append whole (46 ∷ parts) in
    record {
      word = whole ++ (46 ∷ parts);
      more = drop m tail;
      bytes = ap (λ (r : List ℕ). b ∷ r) (sym (take-append-drop n rest) ∙ ap (λ (r : List ℕ). take n rest ++ r) (is ∙ ap (λ (r : List ℕ). 46 ∷ d ∷ r) (sym (take-append-drop m tail))) ∙ sym (append_assoc (take n rest) (46 ∷ parts) (drop m tail)));
      place = omega arith;
      number = inr (whole, parts, (omega arith, and_from (is_digit b) (list_all is_digit (take n rest)) digit h.run), (omega arith, and_from (is_digit d) (list_all is_digit (take m tail)) second g.run), refl);
      ends = or_from (next_is is_digit (drop m tail)) (list_all is_digit (whole ++ (46 ∷ parts)) && goes_on_behind_dot (drop m tail)) g.ends (and_left (list_all is_digit (whole ++ (46 ∷ parts))) (goes_on_behind_dot (drop m tail)) (not_all is_digit 46 whole parts refl));
    }

number_by : (at b : ℕ) (rest tail : List ℕ) → is_digit b ≡ true → drop (prefix_len is_digit rest) rest ≡ tail → NumberFound at b rest (fraction_end (at + 1 + prefix_len is_digit rest) tail)
unfolding fraction_end goes_on_behind_dot next_is run_end
number_by at b rest [] digit is = whole_found at b rest [] digit is refl
number_by at b rest (c ∷ []) digit is = whole_found at b rest (c ∷ []) digit is (dot_cut c)
number_by at b rest (c ∷ d ∷ tail) digit is =
    elim (cases_Bool (c == 46 && is_digit d)) [
      | inl yes_both ↦ let both = and_parts (c == 46) (is_digit d) yes_both in
          rw yes_both (fraction_found at b d rest tail digit both.1 (is ∙ ap (λ k. k ∷ d ∷ tail) (eqb-true c 46 both.0)))
      | inr isnt ↦ rw isnt (whole_found at b rest (c ∷ d ∷ tail) digit is isnt)
    ]

pub number_found : (at b : ℕ) (rest : List ℕ) → is_digit b ≡ true → NumberFound at b rest (number_end (at + 1) rest)
unfolding number_end
number_found at b rest digit = number_by at b rest (drop (prefix_len is_digit rest) rest) digit refl

-- the first digit of a number, and where the rest of it ends
pub record NumberOnly (at : ℕ) (word more : List ℕ) : Type 0 where
  pub first : ℕ
  pub rest : List ℕ
  pub bytes : word ≡ first ∷ rest
  pub digit : is_digit first ≡ true
  pub place : number_end (at + 1) (rest ++ more) ≡ at + length word

digits_only : (at : ℕ) (word more : List ℕ) → AreDigits word → next_is is_digit more ≡ false → goes_on_behind_dot more ≡ false → NumberOnly at word more
unfolding number_end
digits_only at [] more h e f = absurd (omega (arith, h.0))
digits_only at (b ∷ word) more h e f =
    let parts = and_parts (is_digit b) (list_all is_digit word) h.1 in
    let n : prefix_len is_digit (word ++ more) ≡ length word = run_only is_digit word more parts.1 e in
    record {
      first = b;
      rest = word;
      bytes = refl;
      digit = parts.0;
      place = rw (n, drop_at word more (length word) refl) (fraction_stays (at + 1 + length word) more f ∙ omega arith);
    }

parts_only : (at : ℕ) (whole parts more : List ℕ) → AreDigits whole → AreDigits parts → next_is is_digit more ≡ false → NumberOnly at (whole ++ (46 ∷ parts)) more
unfolding number_end fraction_end run_end is_digit next_is
parts_only at [] parts more h g e = absurd (omega (arith, h.0))
parts_only at (b ∷ whole) [] more h g e = absurd (omega (arith, g.0))
parts_only at (b ∷ whole) (d ∷ parts) more h g e =
    let first = and_parts (is_digit b) (list_all is_digit whole) h.1 in
    let second = and_parts (is_digit d) (list_all is_digit parts) g.1 in
    let tail : List ℕ = 46 ∷ d ∷ (parts ++ more) in
    let n : prefix_len is_digit (whole ++ tail) ≡ length whole = run_only is_digit whole tail first.1 refl in
    let m : prefix_len is_digit (parts ++ more) ≡ length parts = run_only is_digit parts more second.1 e in
    let joined : (whole ++ (46 ∷ d ∷ parts)) ++ more ≡ whole ++ tail = append_assoc whole (46 ∷ d ∷ parts) more in
    let sum : length (whole ++ (46 ∷ d ∷ parts)) ≡ length whole + length (46 ∷ d ∷ parts) = length-append whole (46 ∷ d ∷ parts) in
    record {
      first = b;
      rest = whole ++ (46 ∷ d ∷ parts);
      bytes = refl;
      digit = first.0;
      place = ap (number_end (at + 1)) joined ∙ rw (n, drop_at whole tail (length whole) refl, second.0, m) (omega arith);
    }

pub number_only : (at : ℕ) (word more : List ℕ) → IsNumber word → (next_is is_digit more || (list_all is_digit word && goes_on_behind_dot more)) ≡ false → NumberOnly at word more
number_only at word more (inl h) e =
    let parts = or_parts (next_is is_digit more) (list_all is_digit word && goes_on_behind_dot more) e in
    digits_only at word more h parts.0 (sym (ap (λ t. t && goes_on_behind_dot more) h.1) ∙ parts.1)
number_only at word more (inr (whole, parts, h, g, is)) e =
    let ends = or_parts (next_is is_digit more) (list_all is_digit word && goes_on_behind_dot more) e in
    subst (λ (w : List ℕ). NumberOnly at w more) (sym is) (parts_only at whole parts more h g ends.0)
