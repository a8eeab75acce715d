-- Slices of lists side by side, and the text of a run of tokens as a slice of the whole text.
use Rattle.ddl_pieces.proofs.Common.{◌≡◌, ℕ, zero, suc, ◌+◌, ◌-◌, ◌<◌, ◌≤◌, true, List, [], ◌∷◌, ◌++◌, length, take, drop, get_or, refl, sym, ap, subst, arith, append-nil, slice_range, list_all, IsUtf8, IsUtf8-append, list_all-append, IsUtf8-nil, IsUtf8-from_is_utf8, and_parts, spelling, Piece, Lexeme, spelled, source, lexeme_of, lexemes, are_joined, are_joined_from, is_sound, are_sound}
use Rattle.std.proofs.{lemmas.List.map-append, lemmas.List.Elements.All-take, lemmas.List.Elements.All-drop, lemmas.List.Sums.AllPass-from_list_all, lemmas.List.Sums.list_all-from_AllPass}
use Rattle.ddl_pieces.proofs.Joined.{joined_head, joined_from}
use Rattle.ddl_parts.proofs.Slices.{seam}

-- ---- the text of some tokens

pub record IsSlice (text : List ℕ) (at end : ℕ) (bytes : List ℕ) : Type 0 where
  pub low : at ≤ end
  pub high : end ≤ length text
  pub same : bytes ≡ slice_range text at end

part : (text : List ℕ) (at from end : ℕ) → from ≡ at → at ≤ end → end ≤ length text → IsSlice text at end (slice_range text from end)
part text at from end e low high = record { low = low; high = high; same = ap (λ n. slice_range text n end) e }

joined_slices : (text : List ℕ) (at mid end : ℕ) (a b : List ℕ) → IsSlice text at mid a → IsSlice text mid end b → IsSlice text at end (a ++ b)
joined_slices text at mid end a b f g = grind (arith, seam)

source_slice : (text : List ℕ) (at : ℕ) (ps : List Piece) (n : ℕ) (d : Piece) → are_joined_from (length text) at ps ≡ true → n < length ps → IsSlice text (get_or ps zero d).token.start (get_or ps n d).token.end (source (take (suc n) (lexemes text ps)))
unfolding spelling
source_slice text at [] n d e lt = absurd (omega arith)
source_slice text at (p ∷ []) (suc n) d e lt = absurd (omega arith)
source_slice text at (p ∷ ps) zero d e lt =
    let h = joined_head (length text) at p ps e in
    subst (IsSlice text p.token.start p.token.end) (sym (append-nil (lexeme_of text p).word)) (part text p.token.start p.token.start p.token.end refl (omega (arith, h.0)) h.0.2)
source_slice text at (p ∷ q ∷ ps) (suc n) d e lt =
    let h = joined_head (length text) at p (q ∷ ps) e in
    let k = joined_head (length text) p.token.end q ps h.2 in
    joined_slices text p.token.start p.token.end (get_or (q ∷ ps) n d).token.end _ _ (part text p.token.start p.token.start p.token.end refl (omega (arith, h.0)) h.0.2)
    (joined_slices text p.token.end q.token.start (get_or (q ∷ ps) n d).token.end _ _ (part text p.token.end q.from q.token.start k.1 (omega (arith, k.0, k.1)) (omega (arith, k.0))) (source_slice text p.token.end (q ∷ ps) n d h.2 (omega arith)))

slice_from : (text : List ℕ) (at : ℕ) (ps : List Piece) (i n : ℕ) (d : Piece) → are_joined_from (length text) at ps ≡ true → i + n < length ps → IsSlice text (get_or ps i d).token.start (get_or ps (i + n) d).token.end (source (take (suc n) (drop i (lexemes text ps))))
slice_from text at ps zero n d e lt =
    subst (λ k. IsSlice text (get_or ps zero d).token.start (get_or ps k d).token.end (source (take (suc n) (lexemes text ps)))) (let is : n ≡ 0 + n = omega arith in is)
    (source_slice text at ps n d e (omega arith))
slice_from text at [] (suc i) n d e lt = absurd (omega arith)
slice_from text at (p ∷ ps) (suc i) n d e lt = grind (arith, joined_head, (slice_from text p.token.end ps i n d (joined_head (length text) at p ps e).2 (omega arith)))

-- what stands from one token up to the end of another is a slice
pub run_is : (text : List ℕ) (ps : List Piece) (i end : ℕ) (d : Piece) → are_joined (length text) ps ≡ true → i < end → end ≤ length ps → IsSlice text (get_or ps i d).token.start (get_or ps (end - 1) d).token.end (source (take (end - i) (drop i (lexemes text ps))))
run_is text ps i end d e lt le =
    let place : end - 1 ≡ i + (end - i - 1) = omega arith in
    let size : end - i ≡ suc (end - i - 1) = omega arith in
    subst (λ k. IsSlice text (get_or ps i d).token.start (get_or ps (end - 1) d).token.end (source (take k (drop i (lexemes text ps))))) (sym size)
    (subst (λ k. IsSlice text (get_or ps i d).token.start (get_or ps k d).token.end (source (take (suc (end - i - 1)) (drop i (lexemes text ps))))) (sym place)
    (slice_from text (get_or ps 0 d).from ps i (end - i - 1) d (joined_from (length text) ps d e (omega arith)) (omega arith)))

-- ---- tokens that are UTF-8

spelled_utf8 : (ts : List Lexeme) → list_all is_sound ts ≡ true → IsUtf8 (spelled ts)
unfolding is_sound
spelled_utf8 [] e = IsUtf8-nil
spelled_utf8 (t ∷ ts) e = grind (arith, and_parts, IsUtf8-append, IsUtf8-from_is_utf8, (spelled_utf8 ts))

source_utf8 : (ts : List Lexeme) → list_all is_sound ts ≡ true → IsUtf8 (source ts)
unfolding is_sound
source_utf8 [] e = IsUtf8-nil
source_utf8 (t ∷ ts) e = grind (arith, and_parts, IsUtf8-append, IsUtf8-from_is_utf8, spelled_utf8)

-- a run of them is UTF-8
pub run_utf8 : (text : List ℕ) (ps : List Piece) (n i : ℕ) → are_sound text ps ≡ true → IsUtf8 (source (take n (drop i (lexemes text ps))))
unfolding are_sound
run_utf8 text ps n i e =
    let sound = λ (t : Lexeme). is_sound t ≡ true in
    source_utf8 _ (list_all-from_AllPass is_sound _ (All-take sound n _ (All-drop sound i _ (AllPass-from_list_all is_sound _ e))))

-- ---- what is collected is UTF-8

pub sound_none : (text : List ℕ) → are_sound text [] ≡ true
unfolding are_sound
sound_none text = refl

pub sound_one_more : (text : List ℕ) (ps : List Piece) (p : Piece) → are_sound text ps ≡ true → is_sound (lexeme_of text p) ≡ true → are_sound text (ps ++ p ∷ []) ≡ true
unfolding are_sound
sound_one_more text ps p e s = rw (map-append, list_all-append, e, s) refl
