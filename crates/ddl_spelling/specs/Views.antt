-- The spelling of a view's body.
use Rattle.std.specs.Prelude.{ℕ, Bool, true, false, ◌==◌, List, [], ◌∷◌, drop, Option, Some, Result, Ok, if◌then◌else◌, codes}
use Rattle.sql_lex.specs.{declared.token.Token.Token, declared.fault.LexFault.LexFault, Next.next_token_of}

-- nothing, or a newline first
abbrev pub ends_line : List ℕ → Bool
ends_line [] = true
ends_line (b ∷ rest) = b == 10

abbrev pub ends_line_behind : List ℕ → Result (Option Token) LexFault → Bool
ends_line_behind body (Ok (Some t)) = ends_line (drop t.end body)
ends_line_behind body _ = false

-- nothing or a newline follows the first token of the body
unfoldable pub stands_alone : List ℕ → Bool
stands_alone body = ends_line_behind body (next_token_of body 0)

-- the body stands behind a space, or without one where its first token stands alone in its line
unfoldable pub space_before : List ℕ → List ℕ
space_before body = if stands_alone body then [] else codes " "
