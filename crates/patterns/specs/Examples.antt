-- Worked examples of patterns.
-- 34 is `"`, 233 as UTF-8 is 195 169.
use Rattle.std.specs.Prelude.{◌≡◌, true, false, [], ◌∷◌, ◌++◌, Some, None, codes}
use Rattle.patterns.specs.declared.fault.PatternFault.TheVariants.{Unclosed, TooManyDots, Empty}
use Rattle.patterns.specs.Reading.{fault_of}
use Rattle.patterns.specs.Quoted.{text_hits}

pub record WorkedExamples : Type 0 where
  -- letters are made small, `*` stands for any characters, `?` for one
  pub both_parts : text_hits (codes "Pub*.T?") (codes "public") (codes "t1") ≡ true
  pub one_is_one : text_hits (codes "Pub*.T?") (codes "public") (codes "t") ≡ false
  pub one_is_a_character : text_hits (codes "a?") (codes "public") (codes "a" ++ 195 ∷ 169 ∷ []) ≡ true
  pub not_two : text_hits (codes "a??") (codes "public") (codes "a" ++ 195 ∷ 169 ∷ []) ≡ false
  pub many_are_none : text_hits (codes "a*") (codes "public") (codes "a") ≡ true
  pub last_place : text_hits (codes "*a*b") (codes "public") (codes "aabab") ≡ true
  -- without a dot the schema is public
  pub other_schema : text_hits (codes "t") (codes "a") (codes "t") ≡ false
  -- "a.b"
  pub dot_in_quotes : text_hits (34 ∷ codes "a.b" ++ 34 ∷ []) (codes "public") (codes "a.b") ≡ true
  -- "*"
  pub star_in_quotes : text_hits (34 ∷ codes "*" ++ 34 ∷ []) (codes "public") (codes "t") ≡ false
  -- "a""b"
  pub two_quotes : text_hits (34 ∷ codes "a" ++ 34 ∷ 34 ∷ codes "b" ++ 34 ∷ []) (codes "public") (codes "a" ++ 34 ∷ codes "b") ≡ true
  -- "a
  pub unclosed : fault_of (34 ∷ codes "a") ≡ Some (Unclosed 0)
  -- """a
  pub unclosed_behind_two : fault_of (34 ∷ 34 ∷ 34 ∷ codes "a") ≡ Some (Unclosed 0)
  -- .a."
  pub unclosed_first : fault_of (codes ".a." ++ 34 ∷ []) ≡ Some (Unclosed 3)
  pub second_dot : fault_of (codes ".a..") ≡ Some (TooManyDots 2)
  pub no_text : fault_of [] ≡ Some Empty
  -- ""
  pub quotes_alone : fault_of (34 ∷ 34 ∷ []) ≡ Some Empty
  pub no_name : fault_of (codes "a.") ≡ Some Empty
  pub no_schema : fault_of (codes ".a") ≡ Some Empty
  pub pattern : fault_of (codes "a.?") ≡ None
