-- What a text is as a pattern, and why it is none.
use Rattle.std.specs.Prelude.{◌≡◌, ⊤, ℕ, ◌+◌, Bool, true, false, ◌&&◌, ◌||◌, List, [], ◌∷◌, ◌++◌, Option, Some, None, Result, Ok, Err, option_map, if◌then◌else◌}
use Rattle.std.specs.Option.{option_to_list}
use Rattle.patterns.specs.declared.fault.PatternFault.{PatternFault}
use Rattle.patterns.specs.declared.fault.PatternFault.TheVariants.{Unclosed, TooManyDots, Empty}
use Rattle.patterns.specs.declared.fault.PatternReadError.{PatternReadError}
use Rattle.patterns.specs.declared.fault.PatternReadError.TheVariants as errors
use Rattle.patterns.specs.declared.marks.Mark.{Mark}
use Rattle.patterns.specs.declared.marks.Mark.TheVariants as mark
use Rattle.patterns.specs.declared.marks.Quotes.{Quotes}
use Rattle.patterns.specs.declared.marks.Quotes.TheVariants.{Outside}
use Rattle.patterns.specs.Marks.{mark_of, quotes_behind, opened}
use Rattle.patterns.specs.Parts.{Parts, parts_from, has_empty}

-- what the bytes from a place on stand for
unfoldable pub marks_from : Quotes → ℕ → List ℕ → List Mark
marks_from quotes at [] = []
marks_from quotes at (b ∷ rest) = option_to_list (mark_of quotes b) ++ marks_from (quotes_behind quotes at b) (at + 1) rest

-- where the quotes opened that have no end
unfoldable pub open_from : Quotes → ℕ → List ℕ → Option ℕ
open_from quotes at [] = opened quotes
open_from quotes at (b ∷ rest) = open_from (quotes_behind quotes at b) (at + 1) rest

abbrev pub is_dot : Option Mark → Bool
is_dot None = false
is_dot (Some mark.Dot) = true
is_dot (Some (mark.Atom a)) = false

-- the first dot outside quotes behind another; `dotted` says that one has come
unfoldable pub second_dot_from : Quotes → Bool → ℕ → List ℕ → Option ℕ
second_dot_from quotes dotted at [] = None
second_dot_from quotes dotted at (b ∷ rest) =
    let dot = is_dot (mark_of quotes b) in
    if dot && dotted then Some at else second_dot_from (quotes_behind quotes at b) (dot || dotted) (at + 1) rest

-- the first that there is
abbrev pub or_else : Option PatternFault → Option PatternFault → Option PatternFault
or_else (Some fault) later = Some fault
or_else None later = later

-- why a text is no pattern
unfoldable pub fault_of : List ℕ → Option PatternFault
fault_of text =
    or_else (option_map Unclosed (open_from Outside 0 text))
    (or_else (option_map TooManyDots (second_dot_from Outside false 0 text))
    (if has_empty true (marks_from Outside 0 text) then Some Empty else None))

abbrev pub unless : Option PatternFault → Parts → Result Parts PatternFault
unless (Some fault) parts = Err fault
unless None parts = Ok parts

-- the pattern that a text is
unfoldable pub pattern_of : List ℕ → Result Parts PatternFault
pattern_of text = unless (fault_of text) (parts_from None [] (marks_from Outside 0 text))

-- what a call returned is what the text gives, unless memory ran out
abbrev pub Gives : Result Parts PatternReadError → Result Parts PatternFault → Type 0
Gives (Ok pattern) given = given ≡ Ok pattern
Gives (Err errors.Memory) given = ⊤
Gives (Err (errors.Fault fault)) given = given ≡ Err fault
