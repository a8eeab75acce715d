-- What a line with a backslash says is a name of one line.
use Rattle.ddl_scripts.proofs.Common.{name_in_is, ◌≡◌, ℕ, ◌-◌, Bool, true, not, ◌&&◌, List, [], ◌∷◌, map, take, drop, Option, Some, Result, Ok, Err, refl, subst, arith, inl, inr, ◌==◌, list_all, to_ascii_lowercase, and_parts, cases_Bool, and_from, nat_tests, IsName, TokenKind, in_line, unless, inside, undoubled, name_of, spelling, Stmt, Piece, name_value, is_name_kind, lexeme_of, collected, IsSaid, Wrong, command_len, stands_alone, one_name, name_alone, connected, said_by, meta_line}
use Rattle.std.proofs.{lemmas.List.Elements.All-take, lemmas.List.Elements.All-drop, lemmas.List.Sums.AllPass-from_list_all, lemmas.List.Sums.list_all-from_AllPass}
use Rattle.cat_model.specs.declared.stmt.Stmt.TheVariants.{Connect}

-- ---- in one line

abbrev OneLine : List ℕ → Type 0
OneLine bytes = list_all in_line bytes ≡ true

take_line : (n : ℕ) (bytes : List ℕ) → OneLine bytes → OneLine (take n bytes)
take_line n bytes all = list_all-from_AllPass in_line _ (All-take (λ b. in_line b ≡ true) n bytes (AllPass-from_list_all in_line bytes all))

drop_line : (n : ℕ) (bytes : List ℕ) → OneLine bytes → OneLine (drop n bytes)
drop_line n bytes all = list_all-from_AllPass in_line _ (All-drop (λ b. in_line b ≡ true) n bytes (AllPass-from_list_all in_line bytes all))

small_line : (bytes : List ℕ) → OneLine bytes → OneLine (map to_ascii_lowercase bytes)
unfolding in_line
small_line [] all = refl
small_line (b ∷ bytes) all = and_from (in_line (to_ascii_lowercase b)) (list_all in_line (map to_ascii_lowercase bytes)) (grind (arith, nat_tests)) (small_line bytes (and_parts (in_line b) (list_all in_line bytes) all).1)

undoubled_line : (q : ℕ) (second : Bool) (bytes : List ℕ) → OneLine bytes → OneLine (undoubled q second bytes)
unfolding undoubled
undoubled_line q second [] all = refl
undoubled_line q second (b ∷ rest) all =
    let unless_line : (skip : Bool) (b : ℕ) (rest : List ℕ) → in_line b ≡ true → OneLine rest → OneLine (unless skip b rest) = λ skip b rest is all. grind arith in
    let h = and_parts (in_line b) (list_all in_line rest) all in
    unless_line (second && b == q) b (undoubled q (not second && b == q) rest) h.0 (undoubled_line q (not second && b == q) rest h.1)

-- ---- the name of a line

piece_name : (text : List ℕ) (p : Piece) (n : List ℕ) → OneLine text → name_value (lexeme_of text p) ≡ Ok n → IsName n × OneLine n
unfolding name_value spelling inside name_of
piece_name text p n all e =
    let named_line : (kind : TokenKind) (word n : List ℕ) → OneLine word → name_of kind word ≡ Some n → OneLine n = λ kind word n all e. grind (arith, small_line, undoubled_line, take_line, drop_line) in
    let h = name_in_is (name_of p.token.kind (spelling text p.token)) n e in
    (h.1, named_line p.token.kind (spelling text p.token) n (take_line (p.token.end - p.token.start) (drop p.token.start text) (drop_line p.token.start text all)) h.0)

one_name_is : (len : ℕ) (text : List ℕ) (ps : List Piece) (n : List ℕ) → OneLine text → one_name len text ps ≡ Ok n → IsName n × OneLine n
one_name_is len text [] n all e = absurd cc
one_name_is len text (p ∷ q ∷ ps) n all e = absurd cc
one_name_is len text (p ∷ []) n all e = elim (cases_Bool (stands_alone text p && is_name_kind p.token.kind)) [
  | inl is ↦ piece_name text p n all (grind arith)
  | inr isnt ↦ absurd (let f = rw isnt at e in cc)
]

connected_is : (len : ℕ) (text : List ℕ) (r : Result (List ℕ) Wrong) (s : Option Stmt) → OneLine text → name_alone len text ≡ r → connected r ≡ Ok s → IsSaid s
unfolding name_alone
connected_is len text (Ok n) s all is e = let same : Some (Connect n) ≡ s = cc in let h = one_name_is len text (collected text 0).pieces n all is in subst IsSaid same (inr (n, refl, h.0, h.1))
connected_is len text (Err wrong) s all is e = absurd cc

said_is : (command behind : List ℕ) (s : Option Stmt) → OneLine behind → said_by command behind ≡ Ok s → IsSaid s
unfolding said_by
said_is command behind s all e = grind (arith, connected_is)

pub said_is_a_name : (line : List ℕ) (s : Option Stmt) → list_all in_line line ≡ true → meta_line line ≡ Ok s → IsSaid s
unfolding meta_line
said_is_a_name line s all e = said_is (take (command_len line) line) (drop (command_len line) line) s (drop_line (command_len line) line all) e
