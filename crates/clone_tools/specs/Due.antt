-- What is due of a call: what one tool does, or the first refusal of its steps; or, of pg_clone, the dump of a folder into a file
-- or a directory, and behind it, over the files as they stand once it is written, what pg_restore does of that archive, or psql
-- of that script, with another folder.
use Rattle.std.specs.Prelude.{not, List, [], ◌∷◌, Option, Some, None, Result, Ok}
use Rattle.std.specs.FinMap.{insert}
use Rattle.cat_model.specs.Values.{Bytes}
use Rattle.clone_restores.specs.Due.{Restoration, written_due}
use Rattle.clone_words.specs.declared.asked.CloneAsked.{CloneAsked}
use Rattle.clone_words.specs.Words.{clone_in}
use Rattle.dump_ports.specs.Tree.{Tree, patched}
use Rattle.dump_outputs.specs.Forms.{Putting}
use Rattle.dump_outputs.specs.Pieces.{Place, Printed, Stored, Patched, Piece}
use Rattle.dump_ports.specs.declared.moment.Moment.{Moment}
use Rattle.dump_tools.specs.Due.{Plan, Puts, dump_due, due}
use Rattle.tool_words.specs.declared.outcome.Outcome.{Outcome}
use Rattle.tool_words.specs.declared.words.DumpAsked.{DumpAsked}
use Rattle.tool_words.specs.Answers.{◌>>=◌}
use Rattle.tool_words.specs.Messages.{teller_name}
use Rattle.tool_words.specs.Words.{teller_of}

-- what a call does once all is read that is read first
pub data Work : Type 0 where
  -- what one tool does
  Does : Plan → Work
  -- pg_clone puts a dump where it is asked for, up to a row that fails; behind a whole one this is due
  Clones : Putting → Result Restoration Outcome → Work

-- ---- the first half of a clone

-- the dump that is written
abbrev pub dumped : CloneAsked → DumpAsked
dumped asked = record { folder = asked.source; choice = asked.choice; format = asked.format; target = Some asked.archive }

unfoldable pub first_due : CloneAsked → Moment → Tree → Result Plan Outcome
first_due asked moment tree = dump_due (dumped asked) moment tree

-- the files once a text is put in a place, and once all of these are
abbrev pub text_put : Place → Bytes → Tree → Tree
text_put Printed text tree = tree
text_put (Stored name) text tree = insert tree name text
text_put (Patched name) text tree = patched name 0 text tree

abbrev pub all_put : List Piece → Tree → Tree
all_put [] tree = tree
all_put (piece ∷ pieces) tree = all_put pieces (text_put piece.place piece.text tree)

-- ---- its second half

-- What is due with what was written, over the files as they stand then: a script is run on the other folder, to its end, and of
-- an archive all entries are restored into it. Owners are set unless the dump leaves them out. What is told begins with this name.
abbrev pub second_due : Bytes → CloneAsked → Tree → Result Restoration Outcome
second_due name asked tree = written_due name asked.format (not asked.choice.no_owner) asked.target asked.archive tree

-- ---- both

-- a dump that is put, with what is due behind it
abbrev pub cloning : Bytes → CloneAsked → Tree → Plan → Work
cloning name asked tree (Puts first) = Clones first (second_due name asked (all_put first.pieces tree))
cloning name asked tree plan = Does plan

unfoldable pub clone_due : Bytes → CloneAsked → Moment → Tree → Result Work Outcome
clone_due name asked moment tree = first_due asked moment tree >>= λ plan. Ok (cloning name asked tree plan)

-- ---- any call

abbrev pub due_by : Option CloneAsked → List Bytes → Moment → Tree → Bytes → Result Work Outcome
due_by (Some asked) words moment tree input = clone_due (teller_name (teller_of words)) asked moment tree
due_by None words moment tree input = due words moment tree input >>= λ plan. Ok (Does plan)

-- what is due for the words, the moment, the files and standard input
abbrev pub call_due : List Bytes → Moment → Tree → Bytes → Result Work Outcome
call_due words moment tree input = due_by (clone_in words) words moment tree input
