-- How each half of a clone ends, before the line of its answer is told.
use Rattle.std.specs.Prelude.{◌≡◌, ◌⊎◌, ◌≤◌, not, ℕ, List, [], ◌∷◌, ◌++◌, map, Option, Some, None, Result, Ok}
use Rattle.clone_words.specs.declared.asked.CloneAsked.{CloneAsked}
use Rattle.clone_tools.specs.declared.clone.Halves.{Halves}
use Rattle.clone_tools.specs.Due.{Work, dumped}
use Rattle.clone_tools.specs.Runs.{MayWork, HasCut}
use Rattle.dump_ports.specs.Faults.{HasRisen}
use Rattle.dump_ports.specs.Tree.{Tree}
use Rattle.dump_plain.specs.Dumps.{BadRow}
use Rattle.dump_plans.specs.Outcomes.{bad_row_outcome}
use Rattle.dump_outputs.specs.Forms.{Putting}
use Rattle.dump_outputs.specs.Pieces.{Piece, IsFront}
use Rattle.dump_tools.specs.Due.{Plan, Puts, WerePut}
use Rattle.dump_tools.specs.Outputs.{World, Output, Tells, all_performed, puts}
use Rattle.dump_tools.specs.Runs.{run_of, IsEarly}
use Rattle.tool_words.specs.declared.outcome.Outcome.{Outcome}
use Rattle.tool_words.specs.declared.words.Teller.{Teller}
use Rattle.tool_words.specs.Answers.{IsDue}
use Rattle.tool_words.specs.Lines.{Appends, AppendsPart}
use Rattle.tool_words.specs.declared.outcome.Outcome.TheVariants.{WriteFault}
use Rattle.tool_words.specs.Messages.{outcome_line}

-- ---- the first half

-- the dump that was due is written, whole
pub record HasPut (due : Result Plan Outcome) (before after : Option Tree) (out_before out_after : Option (List ℕ)) : Type 0 where
  pub first : Putting
  pub is_due : due ≡ Ok (Puts first)
  pub whole : first.bad ≡ None
  pub put : (told : Option (List ℕ)) → WerePut (map puts first.pieces) before after out_before out_after told told

-- the answer with which it ended on its way: a call failed, or memory ran out, or a row fails
abbrev pub IsBreak : Outcome → Option BadRow → Type 0
IsBreak outcome bad = IsEarly outcome ⊎ ((row : BadRow) × (bad ≡ Some row) × (outcome ≡ bad_row_outcome row))

-- some first part of the dump that was due is written
pub record HasPutPart (outcome : Outcome) (due : Result Plan Outcome) (before after : Option Tree) (out_before out_after : Option (List ℕ)) : Type 0 where
  pub first : Putting
  pub is_due : due ≡ Ok (Puts first)
  pub front : List Piece
  pub is_front : IsFront first.pieces front
  pub put : (told : Option (List ℕ)) → WerePut (map puts front) before after out_before out_after told told
  pub ends : IsBreak outcome first.bad

-- nothing of it is, since it is refused, or a call failed, or memory ran out
pub record HasPutNone (outcome : Outcome) (due : Result Plan Outcome) (before after : Option Tree) (out_before out_after : Option (List ℕ)) : Type 0 where
  pub is_due : IsDue outcome due
  pub kept : after ≡ before
  pub quiet : out_after ≡ out_before

abbrev pub HasNotPut : Outcome → Result Plan Outcome → Option Tree → Option Tree → Option (List ℕ) → Option (List ℕ) → Type 0
HasNotPut outcome due before after out_before out_after = HasPutNone outcome due before after out_before out_after ⊎ HasPutPart outcome due before after out_before out_after

-- ---- both halves

-- what the two halves of a clone take
pub record AreHalves (asked : CloneAsked) (halves : Halves) : Type 0 where
  pub dump : halves.dump ≡ dumped asked
  pub target : halves.target ≡ asked.target
  pub path : halves.path ≡ asked.archive
  pub format : halves.format ≡ asked.format
  pub owners : halves.owners ≡ not asked.choice.no_owner

-- all of a run that may come is put out but for the line of its answer
pub record IsToTell (teller : Teller) (due : Result Work Outcome) (outcome : Outcome) (before after : World) : Type 0 where
  pub outputs : List Output
  pub may : MayWork teller due (run_of (outputs ++ Tells (outcome_line teller outcome) ∷ []) outcome)
  pub put : after ≡ all_performed outputs before

-- a clone ended without having told its answer: its line is to be told, or it was cut short
abbrev pub IsUntold : Teller → Result Work Outcome → Outcome → World → World → Type 0
IsUntold teller due outcome before after =
    (IsEarly outcome × HasCut None teller due before after) ⊎ ((IsEarly outcome → ⊥) × IsToTell teller due outcome before after)

-- ---- the line of an answer

-- The line of an outcome is told, and the outcome is the answer; or a first part of it is, and the answer is WriteFault.
abbrev pub IsTelling : Teller → Outcome → Outcome → Option (List ℕ) → Option (List ℕ) → ℕ → ℕ → Type 0
IsTelling teller outcome answer told_before told_after lines lines_after =
    ((answer ≡ outcome) × Appends (outcome_line teller outcome) told_before told_after × (lines_after ≡ lines))
    ⊎ ((answer ≡ WriteFault) × AppendsPart (outcome_line teller outcome) told_before told_after × (lines ≤ lines_after) × HasRisen lines lines_after)
