-- What a search for a mark tells of where quotes and comments end.
use Rattle.std.proofs.Common.{◌≡◌, ℕ, zero, suc, ◌+◌, ◌-◌, ◌<◌, ◌≤◌, Bool, true, false, cond, ltb, eqb, ◌||◌, ◌&&◌, List, [], ◌∷◌, length, get_or, drop, take, Some, None, refl, sym, ap, ◌∙◌, inl, inr, arith}
use Rattle.std.specs.Prelude.{◌==◌}
use Rattle.std.proofs.lemmas.Bool.{cases_lt, cases_Bool, lt-ltb, le-ltb, eqb-true, or_parts, or_cases}
use Rattle.std.specs.List.{prefix_len}
use Rattle.std.proofs.lemmas.Bool.Decides.{nat_tests}
use Rattle.std.proofs.lemmas.List.{take_rest, drop_more, drop_all, get_or-drop, drop-drop, length-drop}
use Rattle.memchr.specs.Find.{IsFirstByte}
use Rattle.sql_lex.specs.Bytes.{is_digit, next_is}
use Rattle.sql_lex.specs.Ends.{run_end, quote_end, escape_end, comment_end, fraction_end, number_end}

-- none of the first n bytes passes the test
abbrev pub NonePasses : (ℕ → Bool) → ℕ → List ℕ → Type 0
NonePasses test n xs = (j : ℕ) → j < n → test (get_or xs j 0) ≡ false

NonePasses-rest : (test : ℕ → Bool) (n x : ℕ) (xs : List ℕ) → NonePasses test (suc n) (x ∷ xs) → NonePasses test n xs
NonePasses-rest test n x xs h j lt = h (suc j) (omega arith)

-- a byte was found k places on
pub record IsFound (test : ℕ → Bool) (text : List ℕ) (at k : ℕ) : Type 0 where
  pub room : at + k < length text
  pub passes : test (get_or text (at + k) 0) ≡ true
  pub before : NonePasses test k (drop at text)

pub found : (test : ℕ → Bool) (text : List ℕ) (at k : ℕ) → IsFirstByte test (take (length text - at) (drop at text)) (Some k) → IsFound test text at k
found test text at k h =
    let g : IsFirstByte test (drop at text) (Some k) = rw take_rest at h in
    let high = g.0.high in
    record {
      room = omega (arith, length-drop at text);
      passes = rw (← get_or-drop at text k 0) g.1;
      before = λ j lt. elim (cases_Bool (test (get_or (drop at text) j 0))) [ inl is ↦ absurd (g.0.before j (omega arith) lt is) | inr isnt ↦ isnt ];
    }

pub not_found : (test : ℕ → Bool) (text : List ℕ) (at : ℕ) → IsFirstByte test (take (length text - at) (drop at text)) None → NonePasses test (length (drop at text)) (drop at text)
not_found test text at h =
    let g : IsFirstByte test (drop at text) None = rw take_rest at h in
    λ j lt. elim (cases_Bool (test (get_or (drop at text) j 0))) [ inl is ↦ absurd (g j (omega arith) lt is) | inr isnt ↦ isnt ]

-- the byte at a place, and what follows
pub at_place : (text : List ℕ) (at b : ℕ) → at < length text → get_or text at 0 ≡ b → drop at text ≡ b ∷ drop (at + 1) text
at_place text at b lt e = drop_more text at 0 lt ∙ ap (λ c. c ∷ drop (at + 1) text) e

pub next_is_some : (p : ℕ → Bool) (rest : List ℕ) → next_is p rest ≡ true → (b : ℕ) × (more : List ℕ) × (rest ≡ b ∷ more) × (p b ≡ true)
unfolding next_is
next_is_some p [] e = absurd cc
next_is_some p (b ∷ more) e = (b, more, refl, e)

-- ---- quotes

quote_skip : (q at n : ℕ) (xs : List ℕ) → NonePasses (λ b. b == q) n xs → n ≤ length xs → quote_end q true at xs ≡ quote_end q true (at + n) (drop n xs)
unfolding quote_end
quote_skip q at zero xs h le = ap (λ k. quote_end q true k xs) (omega arith)
quote_skip q at (suc n) [] h le = absurd (omega arith)
quote_skip q at (suc n) (x ∷ xs) h le =
    let here : eqb x q ≡ false = h 0 (omega arith) in
    let later = quote_skip q (at + 1) n xs (NonePasses-rest (λ b. b == q) n x xs h) (omega arith) in
    rw here (later ∙ ap (λ k. quote_end q true k (drop n xs)) (omega arith))

-- behind the next quote
pub quote_found : (q : ℕ) (text : List ℕ) (at k : ℕ) → IsFound (λ b. b == q) text at k → quote_end q true at (drop at text) ≡ quote_end q false (at + k + 1) (drop (at + k + 1) text)
unfolding quote_end
quote_found q text at k f =
    let room = f.room in
    let skip = quote_skip q at k (drop at text) f.before (omega (arith, length-drop at text)) in
    let same : get_or text (at + k) 0 ≡ q = eqb-true _ _ f.passes in
    let cell : drop k (drop at text) ≡ get_or text (at + k) 0 ∷ drop (at + k + 1) text = drop-drop k at text ∙ drop_more text (at + k) 0 room in
    skip ∙ ap (quote_end q true (at + k)) cell ∙ rw f.passes refl

pub quote_stays : (q : ℕ) (text : List ℕ) (at : ℕ) → NonePasses (λ b. b == q) (length (drop at text)) (drop at text) → quote_end q true at (drop at text) ≡ None
unfolding quote_end
quote_stays q text at h =
    quote_skip q at (length (drop at text)) (drop at text) h (omega arith) ∙ ap (quote_end q true (at + length (drop at text))) (drop_all (length (drop at text)) (drop at text) (omega arith))

pub quote_closed : (q at : ℕ) (rest : List ℕ) → next_is (λ c. c == q) rest ≡ false → quote_end q false at rest ≡ Some at
unfolding quote_end next_is
quote_closed q at [] e = refl
quote_closed q at (b ∷ rest) e = rw e refl

pub quote_again : (q : ℕ) (text : List ℕ) (at : ℕ) → next_is (λ c. c == q) (drop at text) ≡ true → at < length text → quote_end q false at (drop at text) ≡ quote_end q true (at + 1) (drop (at + 1) text)
unfolding quote_end next_is
quote_again q text at e lt =
    let cell = drop_more text at 0 lt in
    let same : eqb (get_or text at 0) q ≡ true = ap (next_is (λ c. c == q)) (sym cell) ∙ e in
    ap (quote_end q false at) cell ∙ rw same refl

pub next_is_room : (p : ℕ → Bool) (text : List ℕ) (at : ℕ) → next_is p (drop at text) ≡ true → at < length text
next_is_room p text at e =
    elim (cases_lt at (length text)) [
      | inl lt ↦ lt
      | inr ge ↦ let n = next_is_some p [] (rw (← drop_all at text ge) e) in absurd cc
    ]

-- ---- quotes with escapes

abbrev pub is_mark : ℕ → Bool
is_mark b = b == 39 || b == 92

escape_skip : (at n : ℕ) (xs : List ℕ) → NonePasses is_mark n xs → n ≤ length xs → escape_end false true at xs ≡ escape_end false true (at + n) (drop n xs)
unfolding escape_end
escape_skip at zero xs h le = ap (λ k. escape_end false true k xs) (omega arith)
escape_skip at (suc n) [] h le = absurd (omega arith)
escape_skip at (suc n) (x ∷ xs) h le =
    let here = or_parts (eqb x 39) (eqb x 92) (h 0 (omega arith)) in
    let later = escape_skip (at + 1) n xs (NonePasses-rest is_mark n x xs h) (omega arith) in
    rw (here.0, here.1) (later ∙ ap (λ k. escape_end false true k (drop n xs)) (omega arith))

-- the text from the next mark on
escape_at : (text : List ℕ) (at k : ℕ) → IsFound is_mark text at k → escape_end false true at (drop at text) ≡ escape_end false true (at + k) (get_or text (at + k) 0 ∷ drop (at + k + 1) text)
escape_at text at k f =
    let room = f.room in
    let skip = escape_skip at k (drop at text) f.before (omega (arith, length-drop at text)) in
    let cell : drop k (drop at text) ≡ get_or text (at + k) 0 ∷ drop (at + k + 1) text = drop-drop k at text ∙ drop_more text (at + k) 0 room in
    skip ∙ ap (escape_end false true (at + k)) cell

pub escape_quote : (text : List ℕ) (at k : ℕ) → IsFound is_mark text at k → get_or text (at + k) 0 ≡ 39 → escape_end false true at (drop at text) ≡ escape_end false false (at + k + 1) (drop (at + k + 1) text)
unfolding escape_end
escape_quote text at k f e = escape_at text at k f ∙ rw e refl

pub escape_backslash : (text : List ℕ) (at k : ℕ) → IsFound is_mark text at k → (get_or text (at + k) 0 ≡ 39 → ⊥) → escape_end false true at (drop at text) ≡ escape_end true true (at + k + 1) (drop (at + k + 1) text)
unfolding escape_end
escape_backslash text at k f ne =
    let which : get_or text (at + k) 0 ≡ 92 = grind (arith, nat_tests, f.passes) in
    escape_at text at k f ∙ rw which refl

pub escape_stays : (text : List ℕ) (at : ℕ) → NonePasses is_mark (length (drop at text)) (drop at text) → escape_end false true at (drop at text) ≡ None
unfolding escape_end
escape_stays text at h =
    escape_skip at (length (drop at text)) (drop at text) h (omega arith) ∙ ap (escape_end false true (at + length (drop at text))) (drop_all (length (drop at text)) (drop at text) (omega arith))

pub escape_closed : (at : ℕ) (rest : List ℕ) → next_is (λ c. c == 39) rest ≡ false → escape_end false false at rest ≡ Some at
unfolding escape_end next_is
escape_closed at [] e = refl
escape_closed at (b ∷ rest) e = rw e refl

pub escape_again : (text : List ℕ) (at : ℕ) → next_is (λ c. c == 39) (drop at text) ≡ true → at < length text → escape_end false false at (drop at text) ≡ escape_end false true (at + 1) (drop (at + 1) text)
unfolding escape_end next_is
escape_again text at e lt =
    let cell = drop_more text at 0 lt in
    let same : eqb (get_or text at 0) 39 ≡ true = ap (next_is (λ c. c == 39)) (sym cell) ∙ e in
    ap (escape_end false false at) cell ∙ rw same refl

pub escape_taken : (text : List ℕ) (at : ℕ) → at < length text → escape_end true true at (drop at text) ≡ escape_end false true (at + 1) (drop (at + 1) text)
unfolding escape_end
escape_taken text at lt = ap (escape_end true true at) (drop_more text at 0 lt)

pub escape_cut : (text : List ℕ) (at : ℕ) → at ≡ length text → escape_end true true at (drop at text) ≡ None
unfolding escape_end
escape_cut text at e = ap (escape_end true true at) (drop_all at text (omega arith))

-- ---- comments

abbrev pub is_bound : ℕ → Bool
is_bound b = b == 42 || b == 47

comment_plain : (depth b at : ℕ) (xs : List ℕ) → eqb b 42 ≡ false → eqb b 47 ≡ false → comment_end depth b at xs ≡ comment_end depth 0 at xs
unfolding comment_end
comment_plain depth b at [] e f = refl
comment_plain depth b at (x ∷ xs) e f = rw (e, f) refl

comment_skip : (depth at n : ℕ) (xs : List ℕ) → NonePasses is_bound n xs → n ≤ length xs → comment_end depth 0 at xs ≡ comment_end depth 0 (at + n) (drop n xs)
unfolding comment_end
comment_skip depth at zero xs h le = ap (λ k. comment_end depth 0 k xs) (omega arith)
comment_skip depth at (suc n) [] h le = absurd (omega arith)
comment_skip depth at (suc n) (x ∷ xs) h le =
    let here = or_parts (eqb x 42) (eqb x 47) (h 0 (omega arith)) in
    let later = comment_skip depth (at + 1) n xs (NonePasses-rest is_bound n x xs h) (omega arith) in
    comment_plain depth x (at + 1) xs here.0 here.1 ∙ later ∙ ap (λ k. comment_end depth 0 k (drop n xs)) (omega arith)

comment_at : (depth : ℕ) (text : List ℕ) (at k : ℕ) → IsFound is_bound text at k → comment_end depth 0 at (drop at text) ≡ comment_end depth (get_or text (at + k) 0) (at + k + 1) (drop (at + k + 1) text)
unfolding comment_end
comment_at depth text at k f =
    let room = f.room in
    let skip = comment_skip depth at k (drop at text) f.before (omega (arith, length-drop at text)) in
    let cell : drop k (drop at text) ≡ get_or text (at + k) 0 ∷ drop (at + k + 1) text = drop-drop k at text ∙ drop_more text (at + k) 0 room in
    skip ∙ ap (comment_end depth 0 (at + k)) cell

pub comment_stays : (depth : ℕ) (text : List ℕ) (at : ℕ) → NonePasses is_bound (length (drop at text)) (drop at text) → comment_end depth 0 at (drop at text) ≡ None
unfolding comment_end
comment_stays depth text at h =
    comment_skip depth at (length (drop at text)) (drop at text) h (omega arith) ∙ ap (comment_end depth 0 (at + length (drop at text))) (drop_all (length (drop at text)) (drop at text) (omega arith))

-- `/*` opens one more
pub comment_opens : (depth : ℕ) (text : List ℕ) (at k : ℕ) → IsFound is_bound text at k → get_or text (at + k) 0 ≡ 47 → next_is (λ c. c == 42) (drop (at + k + 1) text) ≡ true
    → comment_end depth 0 at (drop at text) ≡ comment_end (depth + 1) 0 (at + k + 1 + 1) (drop (at + k + 1 + 1) text)
unfolding comment_end
comment_opens depth text at k f e star =
    let more = next_is_some (λ c. c == 42) (drop (at + k + 1) text) star in
    let same : more.0 ≡ 42 = eqb-true _ _ more.3 in
    let room = next_is_room (λ c. c == 42) text (at + k + 1) star in
    let rest : drop (at + k + 1 + 1) text ≡ more.1 = sym (drop-drop 1 (at + k + 1) text) ∙ ap (drop 1) more.2 in
    comment_at depth text at k f ∙ ap (λ b. comment_end depth b (at + k + 1) (drop (at + k + 1) text)) e ∙ ap (comment_end depth 47 (at + k + 1)) more.2
    ∙ ap (λ b. comment_end depth 47 (at + k + 1) (b ∷ more.1)) same ∙ ap (comment_end (depth + 1) 0 (at + k + 1 + 1)) (sym rest)

-- `*/` closes one
pub comment_closes : (depth : ℕ) (text : List ℕ) (at k : ℕ) → IsFound is_bound text at k → get_or text (at + k) 0 ≡ 42 → next_is (λ c. c == 47) (drop (at + k + 1) text) ≡ true
    → comment_end depth 0 at (drop at text) ≡ cond (eqb depth 1) (Some (at + k + 1 + 1)) (comment_end (depth - 1) 0 (at + k + 1 + 1) (drop (at + k + 1 + 1) text))
unfolding comment_end
comment_closes depth text at k f e slash =
    let more = next_is_some (λ c. c == 47) (drop (at + k + 1) text) slash in
    let same : more.0 ≡ 47 = eqb-true _ _ more.3 in
    let rest : drop (at + k + 1 + 1) text ≡ more.1 = sym (drop-drop 1 (at + k + 1) text) ∙ ap (drop 1) more.2 in
    comment_at depth text at k f ∙ ap (λ b. comment_end depth b (at + k + 1) (drop (at + k + 1) text)) e ∙ ap (comment_end depth 42 (at + k + 1)) more.2
    ∙ ap (λ b. comment_end depth 42 (at + k + 1) (b ∷ more.1)) same ∙ ap (λ (more : List ℕ). cond (eqb depth 1) (Some (at + k + 1 + 1)) (comment_end (depth - 1) 0 (at + k + 1 + 1) more)) (sym rest)

after_slash : (depth at : ℕ) (rest : List ℕ) → next_is (λ c. c == 42) rest ≡ false → comment_end depth 47 at rest ≡ comment_end depth 0 at rest
unfolding comment_end next_is
after_slash depth at [] e = refl
after_slash depth at (b ∷ rest) e = rw e refl

after_star : (depth at : ℕ) (rest : List ℕ) → next_is (λ c. c == 47) rest ≡ false → comment_end depth 42 at rest ≡ comment_end depth 0 at rest
unfolding comment_end next_is
after_star depth at [] e = refl
after_star depth at (b ∷ rest) e = rw e refl

-- any other byte is passed over
pub comment_goes_on : (depth : ℕ) (text : List ℕ) (at k : ℕ) → IsFound is_bound text at k
    → (get_or text (at + k) 0 ≡ 47 → next_is (λ c. c == 42) (drop (at + k + 1) text) ≡ false)
    → (get_or text (at + k) 0 ≡ 42 → next_is (λ c. c == 47) (drop (at + k + 1) text) ≡ false)
    → comment_end depth 0 at (drop at text) ≡ comment_end depth 0 (at + k + 1) (drop (at + k + 1) text)
comment_goes_on depth text at k f slash star =
    comment_at depth text at k f ∙ elim (or_cases (eqb (get_or text (at + k) 0) 42) (eqb (get_or text (at + k) 0) 47) f.passes) [
      | inl e ↦ let is : get_or text (at + k) 0 ≡ 42 = eqb-true _ _ e in ap (λ b. comment_end depth b (at + k + 1) (drop (at + k + 1) text)) is ∙ after_star depth (at + k + 1) (drop (at + k + 1) text) (star is)
      | inr e ↦ let is : get_or text (at + k) 0 ≡ 47 = eqb-true _ _ e in ap (λ b. comment_end depth b (at + k + 1) (drop (at + k + 1) text)) is ∙ after_slash depth (at + k + 1) (drop (at + k + 1) text) (slash is)
    ]

-- ---- numbers

-- behind the digits, by the bytes at the next two places
pub fraction_cells : (text : List ℕ) (at : ℕ) → fraction_end at (drop at text) ≡ cond (ltb (at + 1) (length text) && (eqb (get_or text at 0) 46 && is_digit (get_or text (at + 1) 0))) (run_end is_digit (at + 2) (drop (at + 2) text)) at
unfolding fraction_end
fraction_cells text at =
    elim (cases_lt (at + 1) (length text)) [
      | inl lt ↦ ap (fraction_end at) (drop_more text at 0 (omega arith) ∙ ap (λ (more : List ℕ). get_or text at 0 ∷ more) (drop_more text (at + 1) 0 lt))
          ∙ rw (lt-ltb _ _ lt) (ap (λ k. cond (eqb (get_or text at 0) 46 && is_digit (get_or text (at + 1) 0)) (run_end is_digit (at + 2) (drop k text)) at) (omega arith))
      | inr ge ↦ elim (cases_lt at (length text)) [
        | inl lt ↦ ap (fraction_end at) (drop_more text at 0 lt ∙ ap (λ (more : List ℕ). get_or text at 0 ∷ more) (drop_all (at + 1) text ge)) ∙ rw (le-ltb _ _ ge) refl
        | inr past ↦ ap (fraction_end at) (drop_all at text past) ∙ rw (le-ltb _ _ ge) refl
      ]
    ]

pub number_parts : (text : List ℕ) (at : ℕ) → number_end at (drop at text) ≡ fraction_end (run_end is_digit at (drop at text)) (drop (run_end is_digit at (drop at text)) text)
unfolding number_end run_end
number_parts text at = ap (fraction_end (at + prefix_len is_digit (drop at text))) (drop-drop (prefix_len is_digit (drop at text)) at text)

-- what follows the byte behind a place
pub two_on : {A : Type 0} (F : ℕ → List ℕ → A) (text : List ℕ) (at : ℕ) → F (at + 1 + 1) (drop (at + 1 + 1) text) ≡ F (at + 2) (drop 1 (drop (at + 1) text))
two_on F text at = ap (λ (rest : List ℕ). F (at + 1 + 1) rest) (sym (drop-drop 1 (at + 1) text)) ∙ ap (λ k. F k (drop 1 (drop (at + 1) text))) (omega arith)
