-- Text written in quotes, piece by piece.
use Rattle.std.proofs.Common.{◌≡◌, ℕ, zero, suc, ◌+◌, ◌-◌, ◌<◌, ◌≤◌, true, false, eqb, List, [], ◌∷◌, ◌++◌, append_assoc, length, get_or, take, drop, Some, None, refl, sym, ap, ◌∙◌, inl, inr, arith}
use Rattle.std.specs.Prelude.{◌==◌}
use Rattle.std.proofs.lemmas.Bool.{eqb-true, eq-eqb, cases_Bool}
use Rattle.std.proofs.lemmas.List.{take-append-le, length-take, take_more, drop_more, drop_all, append-nil, take_all, get_or-drop, drop-drop, length-drop}
use Rattle.memchr.specs.Find.{IsFirstByte}
use Rattle.sql_lex.specs.Written.{doubled, quoted}
use Rattle.sql_lex.specs.Bytes.{next_is}
use Rattle.sql_lex.specs.Meaning.{undoubled}
use Rattle.sql_lex.proofs.Scans.{NonePasses, IsFound}

-- what was there stays where more is added
pub kept_more : (n : ℕ) (old new piece : List ℕ) → n ≡ length old → take n new ≡ old → take n (new ++ piece) ≡ old
kept_more n old new piece e h =
    let lens : length (take n new) ≡ length old = ap length h in
    take-append-le n new piece (omega (arith, length-take n new)) ∙ h

-- a piece up to a quote, and the quote once more
doubled_skip : (q n : ℕ) (xs : List ℕ) → NonePasses (λ b. b == q) n xs → n ≤ length xs → doubled q xs ≡ take n xs ++ doubled q (drop n xs)
unfolding doubled
doubled_skip q zero xs h le = refl
doubled_skip q (suc n) [] h le = absurd (omega arith)
doubled_skip q (suc n) (x ∷ xs) h le =
    let here : eqb x q ≡ false = h 0 (omega arith) in
    rw here (ap (λ (more : List ℕ). x ∷ more) (doubled_skip q n xs (λ j lt. h (suc j) (omega arith)) (omega arith)))

before_found : (q : ℕ) (xs : List ℕ) (k : ℕ) → IsFirstByte (λ b. b == q) xs (Some k) → NonePasses (λ b. b == q) k xs
before_found q xs k h j lt = elim (cases_Bool (eqb (get_or xs j 0) q)) [ inl is ↦ absurd (h.0.before j (omega arith) lt is) | inr isnt ↦ isnt ]

pub doubled_found : (q : ℕ) (xs : List ℕ) (k : ℕ) → IsFirstByte (λ b. b == q) xs (Some k) → doubled q xs ≡ take (k + 1) xs ++ (q ∷ doubled q (drop (k + 1) xs))
unfolding doubled
doubled_found q xs k h =
    let room = h.0.high in
    let same : get_or xs k 0 ≡ q = eqb-true _ _ h.1 in
    let cell : drop k xs ≡ q ∷ drop (k + 1) xs = drop_more xs k 0 room ∙ ap (λ b. b ∷ drop (k + 1) xs) same in
    let front : take (k + 1) xs ≡ take k xs ++ q ∷ [] = take_more xs k 0 room ∙ ap (λ b. take k xs ++ b ∷ []) same in
    let twice : doubled q (q ∷ drop (k + 1) xs) ≡ q ∷ q ∷ doubled q (drop (k + 1) xs) = rw (eq-eqb q q refl) refl in
    doubled_skip q k xs (before_found q xs k h) (omega arith) ∙ ap (λ (more : List ℕ). take k xs ++ doubled q more) cell ∙ ap (λ (more : List ℕ). take k xs ++ more) twice
    ∙ rw front (sym (append_assoc (take k xs) (q ∷ []) (q ∷ doubled q (drop (k + 1) xs))))

pub doubled_last : (q : ℕ) (xs : List ℕ) → IsFirstByte (λ b. b == q) xs None → doubled q xs ≡ xs
unfolding doubled
doubled_last q xs h =
    doubled_skip q (length xs) xs (λ j lt. elim (cases_Bool (eqb (get_or xs j 0) q)) [ inl is ↦ absurd (h j (omega arith) lt is) | inr isnt ↦ isnt ]) (omega arith)
    ∙ ap (λ (more : List ℕ). take (length xs) xs ++ doubled q more) (drop_all (length xs) xs (omega arith)) ∙ append-nil (take (length xs) xs) ∙ take_all (length xs) xs (omega arith)

-- the first quote is written
pub quoted_begins : (q : ℕ) (text old new : List ℕ) → new ≡ old ++ q ∷ [] → new ++ (doubled q text ++ q ∷ []) ≡ old ++ quoted q text
unfolding quoted
quoted_begins q text old new e = rw e (append_assoc old (q ∷ []) (doubled q text ++ q ∷ []))

-- a piece up to a quote is written, and the quote once more
pub quoted_goes_on : (q k : ℕ) (rest now more new : List ℕ) → IsFirstByte (λ b. b == q) rest (Some k) → more ≡ now ++ take (k + 1) rest → new ≡ more ++ q ∷ []
    → new ++ (doubled q (drop (k + 1) rest) ++ q ∷ []) ≡ now ++ (doubled q rest ++ q ∷ [])
quoted_goes_on q k rest now more new h e f =
    rw (f, e, doubled_found q rest k h) (simp append_assoc)

-- the last piece and the last quote are written
pub quoted_ends : (q : ℕ) (rest now more new : List ℕ) → IsFirstByte (λ b. b == q) rest None → more ≡ now ++ rest → new ≡ more ++ q ∷ [] → new ≡ now ++ (doubled q rest ++ q ∷ [])
quoted_ends q rest now more new h e f = rw (f, e, doubled_last q rest h) (append_assoc now rest (q ∷ []))

-- ---- doubled quotes read

undoubled_skip : (q n : ℕ) (xs : List ℕ) → NonePasses (λ b. b == q) n xs → n ≤ length xs → undoubled q false xs ≡ take n xs ++ undoubled q false (drop n xs)
unfolding undoubled
undoubled_skip q zero xs h le = refl
undoubled_skip q (suc n) [] h le = absurd (omega arith)
undoubled_skip q (suc n) (x ∷ xs) h le =
    let here : eqb x q ≡ false = h 0 (omega arith) in
    rw here (ap (λ (more : List ℕ). x ∷ more) (undoubled_skip q n xs (λ j lt. h (suc j) (omega arith)) (omega arith)))

-- up to a quote, which is one of the text
pub undoubled_found : (q : ℕ) (text : List ℕ) (at k : ℕ) → IsFound (λ b. b == q) text at k → undoubled q false (drop at text) ≡ take (k + 1) (drop at text) ++ undoubled q true (drop (at + k + 1) text)
unfolding undoubled
undoubled_found q text at k f =
    let room = f.room in
    let rest : List ℕ = drop at text in
    let long : k < length rest = omega (arith, length-drop at text) in
    let same : get_or text (at + k) 0 ≡ q = eqb-true _ _ f.passes in
    let cell : drop k rest ≡ q ∷ drop (at + k + 1) text = drop-drop k at text ∙ drop_more text (at + k) 0 room ∙ ap (λ b. b ∷ drop (at + k + 1) text) same in
    let front : take (k + 1) rest ≡ take k rest ++ q ∷ [] = take_more rest k 0 long ∙ ap (λ b. take k rest ++ b ∷ []) (get_or-drop at text k 0 ∙ same) in
    let one : undoubled q false (q ∷ drop (at + k + 1) text) ≡ q ∷ undoubled q true (drop (at + k + 1) text) = rw (eq-eqb q q refl) refl in
    undoubled_skip q k rest f.before (omega arith) ∙ ap (λ (more : List ℕ). take k rest ++ undoubled q false more) cell ∙ ap (λ (more : List ℕ). take k rest ++ more) one
    ∙ rw front (sym (append_assoc (take k rest) (q ∷ []) (undoubled q true (drop (at + k + 1) text))))

-- the second of two quotes is left out
pub undoubled_second : (q : ℕ) (text : List ℕ) (at : ℕ) → next_is (λ c. c == q) (drop at text) ≡ true → at < length text → undoubled q true (drop at text) ≡ undoubled q false (drop (at + 1) text)
unfolding undoubled next_is
undoubled_second q text at e lt =
    let cell = drop_more text at 0 lt in
    let same : eqb (get_or text at 0) q ≡ true = ap (next_is (λ c. c == q)) (sym cell) ∙ e in
    ap (undoubled q true) cell ∙ rw same refl

pub undoubled_other : (q : ℕ) (rest : List ℕ) → next_is (λ c. c == q) rest ≡ false → undoubled q true rest ≡ undoubled q false rest
unfolding undoubled next_is
undoubled_other q [] e = refl
undoubled_other q (b ∷ rest) e = rw e refl

pub undoubled_last : (q : ℕ) (text : List ℕ) (at : ℕ) → NonePasses (λ b. b == q) (length (drop at text)) (drop at text) → undoubled q false (drop at text) ≡ drop at text
unfolding undoubled
undoubled_last q text at h =
    let rest : List ℕ = drop at text in
    undoubled_skip q (length rest) rest h (omega arith) ∙ ap (λ (more : List ℕ). take (length rest) rest ++ undoubled q false more) (drop_all (length rest) rest (omega arith)) ∙ append-nil (take (length rest) rest) ∙ take_all (length rest) rest (omega arith)

-- a piece of the text is copied
pub undoubled_goes_on : (q k : ℕ) (text : List ℕ) (at next : ℕ) (now new whole : List ℕ) → IsFound (λ b. b == q) text at k → new ≡ now ++ take (at + k + 1 - at) (drop at text)
    → undoubled q true (drop (at + k + 1) text) ≡ undoubled q false (drop next text) → now ++ undoubled q false (drop at text) ≡ whole → new ++ undoubled q false (drop next text) ≡ whole
undoubled_goes_on q k text at next now new whole f e later so_far =
    let len : at + k + 1 - at ≡ k + 1 = omega arith in
    let piece : new ≡ now ++ take (k + 1) (drop at text) = e ∙ ap (λ n. now ++ take n (drop at text)) len in
    let rest : undoubled q false (drop at text) ≡ take (k + 1) (drop at text) ++ undoubled q false (drop next text) = undoubled_found q text at k f ∙ ap (λ (more : List ℕ). take (k + 1) (drop at text) ++ more) later in
    rw piece (append_assoc now (take (k + 1) (drop at text)) (undoubled q false (drop next text)) ∙ ap (λ (more : List ℕ). now ++ more) (sym rest) ∙ so_far)
