-- What each byte of a pattern's text means, and how the place behind it stands to the quotes.
-- 34 is `"`, 42 is `*`, 46 is `.`, 63 is `?`.
use Rattle.std.specs.Prelude.{ℕ, ◌==◌, Option, Some, None, if◌then◌else◌}
use Rattle.std.specs.Char.{to_ascii_lowercase}
use Rattle.patterns.specs.declared.atom.Atom.TheVariants.{Byte, One, Many}
use Rattle.patterns.specs.declared.marks.Mark.{Mark}
use Rattle.patterns.specs.declared.marks.Mark.TheVariants as mark
use Rattle.patterns.specs.declared.marks.Quotes.{Quotes}
use Rattle.patterns.specs.declared.marks.Quotes.TheVariants.{Outside, Inside, Closing}

-- outside quotes: a quote only opens them, three more bytes have a meaning of their own, a letter is made small
abbrev pub bare_mark : ℕ → Option Mark
bare_mark b =
    if b == 34 then None
    else (if b == 46 then Some mark.Dot
    else (if b == 42 then Some (mark.Atom Many)
    else (if b == 63 then Some (mark.Atom One) else Some (mark.Atom (Byte (to_ascii_lowercase b))))))

-- inside quotes a byte is itself; of two quotes there the second is
abbrev pub mark_of : Quotes → ℕ → Option Mark
mark_of Outside b = bare_mark b
mark_of (Inside opened) b = if b == 34 then None else Some (mark.Atom (Byte b))
mark_of (Closing opened) b = if b == 34 then Some (mark.Atom (Byte b)) else bare_mark b

abbrev pub quotes_behind : Quotes → ℕ → ℕ → Quotes
quotes_behind Outside at b = if b == 34 then Inside at else Outside
quotes_behind (Inside opened) at b = if b == 34 then Closing opened else Inside opened
quotes_behind (Closing opened) at b = if b == 34 then Inside opened else Outside

-- where the quotes opened that are open still
abbrev pub opened : Quotes → Option ℕ
opened Outside = None
opened (Inside at) = Some at
opened (Closing at) = None
