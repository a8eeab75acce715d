-- Cutting a line into pieces.
use Rattle.std.proofs.Common.{◌≡◌, ℕ, zero, suc, ◌+◌, ◌-◌, ◌<◌, ◌≤◌, true, false, eqb, Option, List, [], ◌∷◌, ◌++◌, length, get_or, take, drop, refl, sym, ap, subst, ◌∙◌, append_assoc, arith, inl, inr, ◌⊎◌, ⊎_elim, zero-add, suc-add}
use Rattle.std.specs.List.{onto_first}
use Rattle.std.proofs.lemmas.Bool.{ne_eqb, eqb-true, eqb-false, or_parts, or_cases, false_from_ne_true}
use Rattle.std.proofs.lemmas.List.{drop_more, drop-drop, get_or-drop, append-nil, take_more, drop_all, take_all, length-drop, take-append-drop, take_rest}
use Rattle.memchr.specs.Find.{IsFirstByte, Nowhere, Passes, is_byte2}
use Rattle.copy_text.specs.Marks.{tab, backslash}
use Rattle.copy_text.specs.Pieces.{pieces, pieces_after, IsFirstPiece}

-- the pieces with these bytes before the first of them
abbrev pub onto_front : List ℕ → List (List ℕ) → List (List ℕ)
onto_front [] parts = parts
onto_front (b ∷ bytes) parts = onto_first b (onto_front bytes parts)

pub onto_front-append : (xs ys : List ℕ) (parts : List (List ℕ)) → onto_front (xs ++ ys) parts ≡ onto_front xs (onto_front ys parts)
onto_front-append [] ys parts = refl
onto_front-append (x ∷ xs) ys parts = ap (onto_first x) (onto_front-append xs ys parts)

pub onto_front-cons : (xs p : List ℕ) (ps : List (List ℕ)) → onto_front xs (p ∷ ps) ≡ (xs ++ p) ∷ ps
onto_front-cons [] p ps = refl
onto_front-cons (x ∷ xs) p ps = ap (onto_first x) (onto_front-cons xs p ps)

-- a run without tab and backslash stays together
pub pieces_run : (k : ℕ) (bytes : List ℕ) → k ≤ length bytes → ((j : ℕ) → j < k → (get_or bytes j 0 ≡ tab → ⊥) × (get_or bytes j 0 ≡ backslash → ⊥))
    → pieces bytes ≡ onto_front (take k bytes) (pieces (drop k bytes))
unfolding pieces_after
pieces_run zero bytes le none = refl
pieces_run (suc k) [] le none = absurd (omega arith)
pieces_run (suc k) (b ∷ rest) le none =
    let no_tab : eqb b tab ≡ false = ne_eqb b tab (none 0 (omega arith)).0 in
    let no_backslash : eqb b backslash ≡ false = ne_eqb b backslash (none 0 (omega arith)).1 in
    rw (no_tab, no_backslash) (ap (onto_first b) (pieces_run k rest (omega arith) (λ j lt. none (suc j) (omega arith))))

pub pieces_nil : pieces [] ≡ [] ∷ []
unfolding pieces_after
pieces_nil = refl

pub pieces_tab : (rest : List ℕ) → pieces (tab ∷ rest) ≡ [] ∷ pieces rest
unfolding pieces_after
pieces_tab rest = refl

pub pieces_escaped : (c : ℕ) (rest : List ℕ) → pieces (backslash ∷ c ∷ rest) ≡ onto_front (backslash ∷ c ∷ []) (pieces rest)
unfolding pieces_after
pieces_escaped c rest = refl

pub pieces_open : pieces (backslash ∷ []) ≡ (backslash ∷ []) ∷ []
unfolding pieces_after
pieces_open = refl

-- ---- the loop: the line up to `at` belongs to the first piece, and `found` is the next tab or backslash

neither : (bytes : List ℕ) (n : ℕ) → Nowhere (Passes (is_byte2 tab backslash) bytes) 0 n → (j : ℕ) → j < n → (get_or bytes j 0 ≡ tab → ⊥) × (get_or bytes j 0 ≡ backslash → ⊥)
neither bytes n none j lt =
    let fails = or_parts _ _ (false_from_ne_true _ (none j (omega arith) lt)) in
    (eqb-false _ _ fails.0, eqb-false _ _ fails.1)

take_then : (at k : ℕ) (bytes : List ℕ) → take at bytes ++ take k (drop at bytes) ≡ take (at + k) bytes
take_then zero k bytes = rw zero-add refl
take_then (suc at) zero [] = rw suc-add refl
take_then (suc at) (suc k) [] = rw suc-add refl
take_then (suc at) k (b ∷ rest) = rw suc-add (ap (λ (xs : List ℕ). b ∷ xs) (take_then at k rest))

-- up to the place that was found the line belongs to the first piece
pub run_goes_on : (line : List ℕ) (at k : ℕ) → at + k ≤ length line → pieces line ≡ onto_front (take at line) (pieces (drop at line))
    → Nowhere (Passes (is_byte2 tab backslash) (drop at line)) 0 k → pieces line ≡ onto_front (take (at + k) line) (pieces (drop (at + k) line))
run_goes_on line at k le so_far none =
    let fits : k ≤ length (drop at line) = omega (arith, length-drop at line) in
    let run = pieces_run k (drop at line) fits (neither (drop at line) k none) in
    let behind : drop k (drop at line) ≡ drop (at + k) line = drop-drop k at line in
    so_far ∙ ap (onto_front (take at line)) run ∙ sym (onto_front-append (take at line) (take k (drop at line)) (pieces (drop k (drop at line)))) ∙ rw (take_then at k line, behind) refl

-- the found byte
found_byte : (line : List ℕ) (at k : ℕ) → at + k < length line → Passes (is_byte2 tab backslash) (drop at line) k → (get_or line (at + k) 0 ≡ tab) ⊎ (get_or line (at + k) 0 ≡ backslash)
found_byte line at k lt here = which (or_cases _ _ (subst (λ (b : ℕ). is_byte2 tab backslash b ≡ true) (get_or-drop at line k 0) here))
  where
    which : (eqb (get_or line (at + k) 0) tab ≡ true) ⊎ (eqb (get_or line (at + k) 0) backslash ≡ true) → (get_or line (at + k) 0 ≡ tab) ⊎ (get_or line (at + k) 0 ≡ backslash)
    which (inl first) = inl (eqb-true _ _ first)
    which (inr second) = inr (eqb-true _ _ second)

pub first_piece_ends : (line : List ℕ) (at : ℕ) → at ≤ length line → pieces line ≡ onto_front (take at line) (pieces (drop at line))
    → Nowhere (Passes (is_byte2 tab backslash) (drop at line)) 0 (length (drop at line)) → IsFirstPiece line (length line)
first_piece_ends line at le so_far none =
    let k : ℕ = length (drop at line) in
    let is : at + k ≡ length line = omega (arith, length-drop at line) in
    let run : pieces line ≡ onto_front (take (length line) line) (pieces (drop (length line) line)) = subst (λ (n : ℕ). pieces line ≡ onto_front (take n line) (pieces (drop n line))) is (run_goes_on line at k (omega arith) so_far none) in
    let whole : pieces line ≡ line ∷ [] = run ∙ rw (take_all (length line) line (omega arith), drop_all (length line) line (omega arith), pieces_nil) (onto_front-cons line [] [] ∙ rw append-nil refl) in
    record { within = omega arith; last = λ _. whole; cut = λ lt. absurd (omega arith) }

-- a tab cuts
pub first_piece_cut : (line : List ℕ) (at k : ℕ) → k < length (drop at line) → at ≤ length line → pieces line ≡ onto_front (take at line) (pieces (drop at line))
    → Nowhere (Passes (is_byte2 tab backslash) (drop at line)) 0 k → get_or line (at + k) 0 ≡ tab → IsFirstPiece line (at + k)
first_piece_cut line at k lt le so_far none here =
    let below : at + k < length line = omega (arith, length-drop at line) in
    let run = run_goes_on line at k (omega arith) so_far none in
    let behind : drop (at + k) line ≡ tab ∷ drop (at + k + 1) line = drop_more line (at + k) 0 below ∙ ap (λ (b : ℕ). b ∷ drop (at + k + 1) line) here in
    let parts : pieces line ≡ take (at + k) line ∷ pieces (drop (at + k + 1) line) = run ∙ rw (behind, pieces_tab) (onto_front-cons (take (at + k) line) [] (pieces (drop (at + k + 1) line)) ∙ rw append-nil refl) in
    record { within = omega arith; last = λ is. absurd (omega arith); cut = λ _. parts }

-- a backslash takes the next byte with it
pub run_escaped : (line : List ℕ) (at k : ℕ) → k < length (drop at line) → at ≤ length line → pieces line ≡ onto_front (take at line) (pieces (drop at line))
    → Nowhere (Passes (is_byte2 tab backslash) (drop at line)) 0 k → Passes (is_byte2 tab backslash) (drop at line) k → (get_or line (at + k) 0 ≡ tab → ⊥) → 2 ≤ length line - (at + k)
    → (at + k + 2 ≤ length line) × (pieces line ≡ onto_front (take (at + k + 2) line) (pieces (drop (at + k + 2) line)))
run_escaped line at k lt le so_far none here no_tab two =
    let below : at + k < length line = omega (arith, length-drop at line) in
    let next : at + k + 1 < length line = omega arith in
    let run = run_goes_on line at k (omega arith) so_far none in
    let is_backslash : get_or line (at + k) 0 ≡ backslash = ⊎_elim (λ is. absurd (no_tab is)) (λ is. is) (found_byte line at k below here) in
    let c : ℕ = get_or line (at + k + 1) 0 in
    let rest : List ℕ = drop (at + k + 2) line in
    let same : at + k + 1 + 1 ≡ at + k + 2 = omega arith in
    let second : drop (at + k + 1) line ≡ c ∷ rest = drop_more line (at + k + 1) 0 next ∙ ap (λ (n : ℕ). c ∷ drop n line) same in
    let behind : drop (at + k) line ≡ backslash ∷ c ∷ rest = drop_more line (at + k) 0 below ∙ ap (λ (b : ℕ). b ∷ drop (at + k + 1) line) is_backslash ∙ ap (λ (xs : List ℕ). backslash ∷ xs) second in
    let front : take (at + k) line ++ backslash ∷ c ∷ [] ≡ take (at + k + 2) line = sym (ap (λ (n : ℕ). take n line) (sym same) ∙ take_more line (at + k + 1) 0 next ∙ ap (λ (xs : List ℕ). xs ++ c ∷ []) (take_more line (at + k) 0 below ∙ ap (λ (b : ℕ). take (at + k) line ++ b ∷ []) is_backslash) ∙ append_assoc (take (at + k) line) (backslash ∷ []) (c ∷ [])) in
    (omega arith, run ∙ rw (behind, pieces_escaped) (sym (onto_front-append (take (at + k) line) (backslash ∷ c ∷ []) (pieces rest)) ∙ rw front refl))

-- nothing follows the backslash
pub first_piece_open : (line : List ℕ) (at k : ℕ) → k < length (drop at line) → at ≤ length line → pieces line ≡ onto_front (take at line) (pieces (drop at line))
    → Nowhere (Passes (is_byte2 tab backslash) (drop at line)) 0 k → Passes (is_byte2 tab backslash) (drop at line) k → (get_or line (at + k) 0 ≡ tab → ⊥) → length line - (at + k) < 2
    → IsFirstPiece line (length line)
first_piece_open line at k lt le so_far none here no_tab two =
    let below : at + k < length line = omega (arith, length-drop at line) in
    let run = run_goes_on line at k (omega arith) so_far none in
    let is_backslash : get_or line (at + k) 0 ≡ backslash = ⊎_elim (λ is. absurd (no_tab is)) (λ is. is) (found_byte line at k below here) in
    let nothing : drop (at + k + 1) line ≡ [] = drop_all (at + k + 1) line (omega arith) in
    let behind : drop (at + k) line ≡ backslash ∷ [] = drop_more line (at + k) 0 below ∙ ap (λ (b : ℕ). b ∷ drop (at + k + 1) line) is_backslash ∙ ap (λ (xs : List ℕ). backslash ∷ xs) nothing in
    let whole : take (at + k) line ++ backslash ∷ [] ≡ line = ap (λ (xs : List ℕ). take (at + k) line ++ xs) (sym behind) ∙ take-append-drop (at + k) line in
    let parts : pieces line ≡ line ∷ [] = run ∙ rw (behind, pieces_open) (onto_front-cons (take (at + k) line) (backslash ∷ []) [] ∙ rw whole refl) in
    record { within = omega arith; last = λ _. parts; cut = λ lt. absurd (omega arith) }

-- what the search in the rest of the line found
pub found_behind : (line : List ℕ) (at : ℕ) (r : Option ℕ) → IsFirstByte (is_byte2 tab backslash) (take (length line - at) (drop at line)) r → IsFirstByte (is_byte2 tab backslash) (drop at line) r
found_behind line at r found = subst (λ (xs : List ℕ). IsFirstByte (is_byte2 tab backslash) xs r) (take_rest line at) found
