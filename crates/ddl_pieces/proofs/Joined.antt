-- Tokens of a text by their places.
use Rattle.ddl_pieces.proofs.Common.{◌≡◌, ◌∙◌, ap, sym, ℕ, zero, suc, ◌+◌, ◌<◌, ◌≤◌, true, List, [], ◌∷◌, length, drop, get_or, arith, leb-true, ltb-true, eqb-true, and_parts, Piece, Lexeme, lexeme_of, lexemes, are_joined, are_joined_from}
use Rattle.std.proofs.lemmas.List.{drop_more, drop-map}

pub read_at : (text : List ℕ) (ps : List Piece) (i : ℕ) (d : Piece) → i < length ps → drop i (lexemes text ps) ≡ lexeme_of text (get_or ps i d) ∷ drop (i + 1) (lexemes text ps)
read_at text ps i d lt = drop-map (lexeme_of text) i ps ∙ ap (lexemes text) (drop_more ps i d lt) ∙ ap (λ (r : List Lexeme). lexeme_of text (get_or ps i d) ∷ r) (sym (drop-map (lexeme_of text) (i + 1) ps))

-- a token of a byte at least in a text
abbrev pub Lies : ℕ → Piece → Type 0
Lies limit p = (p.from ≤ p.token.start) × (p.token.start < p.token.end) × (p.token.end ≤ limit)

pub joined_head : (limit at : ℕ) (p : Piece) (ps : List Piece) → are_joined_from limit at (p ∷ ps) ≡ true → Lies limit p × (p.from ≡ at) × (are_joined_from limit p.token.end ps ≡ true)
unfolding are_joined_from
joined_head limit at p ps e = grind (arith, leb-true, ltb-true, eqb-true, and_parts)

lies_from : (limit at : ℕ) (ps : List Piece) (i : ℕ) (d : Piece) → are_joined_from limit at ps ≡ true → i < length ps → Lies limit (get_or ps i d)
lies_from limit at [] i d e lt = absurd (omega arith)
lies_from limit at (q ∷ ps) zero d e lt = (joined_head limit at q ps e).0
lies_from limit at (q ∷ ps) (suc i) d e lt = lies_from limit q.token.end ps i d (joined_head limit at q ps e).2 (omega arith)

pub joined_from : (limit : ℕ) (ps : List Piece) (d : Piece) → are_joined limit ps ≡ true → 0 < length ps → are_joined_from limit (get_or ps 0 d).from ps ≡ true
unfolding are_joined
joined_from limit ps d e some = grind arith

pub lies_at : (limit : ℕ) (ps : List Piece) (i : ℕ) (d : Piece) → are_joined limit ps ≡ true → i < length ps → Lies limit (get_or ps i d)
lies_at limit ps i d e lt = lies_from limit (get_or ps 0 d).from ps i d (joined_from limit ps d e (omega arith)) lt
