-- What files hold, as one finite map from names to texts, and what one call does to it. A relation between
-- two trees is a map over the option in which an object tells its tree: it says nothing where none is told.
use Rattle.std.specs.Prelude.{◌≡◌, ℕ, ◌+◌, ◌≤◌, ◌<◌, List, [], ◌++◌, length, take, drop, Option, option_map, unwrap_or, ◌⊎◌, IfSome}
use Rattle.std.specs.Option.{option_map_or}
use Rattle.std.specs.Ordering.{nat_cmp}
use Rattle.std.specs.Cmp.Lexicographic.{slice_cmp}
use Rattle.std.specs.FinMap.{FinMap, get, insert}

-- the texts by their names
abbrev pub Tree : Type 0
Tree = FinMap (slice_cmp nat_cmp) (List ℕ)

-- the text of a name, where it has one
abbrev pub text_at : Tree → List ℕ → Option (List ℕ)
text_at tree name = get tree name

-- the bytes behind a name, none where it is absent
abbrev pub bytes_at : Tree → List ℕ → List ℕ
bytes_at tree name = unwrap_or (text_at tree name) []

-- the tree in which a name holds the empty text
abbrev pub made : List ℕ → Tree → Tree
made name tree = insert tree name []

-- the tree in which a name's text goes on with these bytes; an absent name begins empty
abbrev pub appended : List ℕ → List ℕ → Tree → Tree
appended name bytes tree = insert tree name (bytes_at tree name ++ bytes)

-- a text in which these bytes stand in place of those from a place on
abbrev pub overwritten : ℕ → List ℕ → List ℕ → List ℕ
overwritten at bytes text = take at text ++ bytes ++ drop (at + length bytes) text

-- the tree in which a range of a name's text is replaced; an absent name has none
abbrev pub patched : List ℕ → ℕ → List ℕ → Tree → Tree
patched name at bytes tree = option_map_or (λ text. insert tree name (overwritten at bytes text)) (text_at tree name) tree

-- the range lies in the text of the name
abbrev pub HasRange : Option Tree → List ℕ → ℕ → ℕ → Type 0
HasRange tree name at len = IfSome tree (λ t. at + len ≤ length (bytes_at t name))

-- the tree is as it was, or as a call left it that took some first part of the bytes
abbrev pub TakesPrefix : (List ℕ → Tree → Tree) → List ℕ → Option Tree → Option Tree → Type 0
TakesPrefix step bytes before after = (after ≡ before) ⊎ ((n : ℕ) × (n ≤ length bytes) × (after ≡ option_map (step (take n bytes)) before))

-- n bytes stand at the front of the buffer, the next ones of what is left; none only where the buffer is empty or nothing is left
pub record FillsFront (left : List ℕ) (buffer : List ℕ) (n : ℕ) : Type 0 where
  pub front : take n buffer ≡ take n left
  pub given : n ≤ length left
  pub some : 0 < length buffer → 0 < length left → 0 < n
