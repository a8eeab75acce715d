-- Worked examples of the tokens of a text, and of what is written.
-- 10 is a line feed, 34 is `"`, 39 is a single quote, 92 is a backslash.
use Rattle.std.specs.Prelude.{◌≡◌, ℕ, [], ◌∷◌, ◌++◌, Some, None, Ok, Err, codes}
use Rattle.sql_lex.specs.declared.fault.LexFault.TheVariants.{Unclosed, BadByte}
use Rattle.sql_lex.specs.declared.token.TokenKind.{TokenKind}
use Rattle.sql_lex.specs.declared.token.TokenKind.TheVariants.{Word, QuotedName, Literal, Number, Sign, MetaLine}
use Rattle.sql_lex.specs.declared.token.Token.{Token}
use Rattle.sql_lex.specs.Next.{next_token_of, tokens_of}
use Rattle.sql_lex.specs.Written.{written_name, written_literal}
use Rattle.sql_lex.specs.Meaning.{name_of, literal_of}

abbrev pub token : TokenKind → ℕ → ℕ → Token
token kind start end = record { kind = kind; start = start; end = end }

pub record WorkedExamples : Type 0 where
  -- a."B c"
  pub dotted : tokens_of (codes "a." ++ (34 ∷ codes "B c") ++ 34 ∷ []) ≡ Ok (token Word 0 1 ∷ token (Sign 46) 1 2 ∷ token QuotedName 2 7 ∷ [])
  -- 'x
  pub unclosed : tokens_of (39 ∷ codes "x") ≡ Err (Unclosed 0)
  pub nested : tokens_of (codes "/* /* */ */;") ≡ Ok (token (Sign 59) 11 12 ∷ [])
  pub never_closed : tokens_of (codes "1/*/* */") ≡ Err (Unclosed 1)
  -- E'a\'b'
  pub escapes : tokens_of (codes "E" ++ (39 ∷ codes "a") ++ (92 ∷ 39 ∷ codes "b") ++ 39 ∷ []) ≡ Ok (token Literal 0 7 ∷ [])
  -- dE''
  pub no_escapes : tokens_of (codes "dE" ++ 39 ∷ 39 ∷ []) ≡ Ok (token Word 0 2 ∷ token Literal 2 4 ∷ [])
  -- ''''
  pub doubled_quote : tokens_of (39 ∷ 39 ∷ 39 ∷ 39 ∷ []) ≡ Ok (token Literal 0 4 ∷ [])
  pub numbers : tokens_of (codes "1. 1.5 .5 1e") ≡ Ok (token Number 0 1 ∷ token (Sign 46) 1 2 ∷ token Number 3 6 ∷ token (Sign 46) 7 8 ∷ token Number 8 9 ∷ token Number 10 11 ∷ token Word 11 12 ∷ [])
  -- a backslash begins a line, and doesn't
  pub meta_line : tokens_of (10 ∷ 92 ∷ codes "x y" ++ 10 ∷ []) ≡ Ok (token MetaLine 1 5 ∷ [])
  pub no_meta_line : tokens_of (32 ∷ 92 ∷ codes "x y") ≡ Err (BadByte 1)
  pub line_comment : tokens_of (codes "a--b" ++ (10 ∷ codes "c")) ≡ Ok (token Word 0 1 ∷ token Word 5 6 ∷ [])
  -- the byte ff in a comment
  pub no_utf8 : tokens_of (codes "a--" ++ 255 ∷ []) ≡ Err (BadByte 1)
  pub dollar : tokens_of (codes "a$1 $") ≡ Err (BadByte 4)
  pub from_inside : next_token_of (codes "ab") 1 ≡ Ok (Some (token Word 1 2))
  pub bare_name : written_name (codes "users") ≡ codes "users"
  pub reserved_name : written_name (codes "user") ≡ 34 ∷ codes "user" ++ 34 ∷ []
  pub written : written_literal (codes "it" ++ 39 ∷ []) ≡ 39 ∷ codes "it" ++ 39 ∷ 39 ∷ 39 ∷ []
  pub small : name_of Word (codes "Ab") ≡ Some (codes "ab")
  -- "A"""
  pub quoted_name : name_of QuotedName (34 ∷ codes "A" ++ 34 ∷ 34 ∷ 34 ∷ []) ≡ Some (codes "A" ++ 34 ∷ [])
  pub escaped_text : literal_of Literal (codes "e" ++ 39 ∷ 39 ∷ []) ≡ None
