-- What is due of pg_restore once its steps are done, and what a step takes of standard input.
use Rattle.std.proofs.Common.{◌≡◌, ℕ, length, drop, Option, Some, None, Result, Ok, Err, IfOk, refl, ap, subst, sym}
use Rattle.std.specs.Prelude.{is_none}
use Rattle.dump_ports.specs.Tree.{Tree}
use Rattle.cat_model.specs.Values.{Bytes}
use Rattle.command_line.specs.declared.command.RestoreWords.{RestoreWords}
use Rattle.restore_outcomes.specs.Texts.{path_text, input_text}
use Rattle.tool_words.specs.declared.outcome.Limit.TheVariants.{Archive as ArchiveLimit}
use Rattle.tool_words.specs.declared.outcome.Outcome.{Outcome}
use Rattle.tool_words.specs.declared.words.ArchiveAsked.{ArchiveAsked}
use Rattle.tool_words.specs.Answers.{◌>>=◌, IsDue, Gives}
use Rattle.tool_words.proofs.Dues.{due_map}
use Rattle.dump_tools.specs.Due.{Puts, script_limit, input_of, text_of_input, text_of_archive, restore_due}
use Rattle.dump_outputs.specs.Forms.{one_piece}
use Rattle.dump_tools.specs.Inputs.{where_read, TellsLeft, TakesPart}
use Rattle.dump_tools.specs.Runs.{StepTakes}
use Rattle.dump_tools.proofs.Scripting.{step_taken, part_taken}

-- ---- the archive that standard input is

pub input_read : {X : Type 0} (view : X → Bytes) (r : Result X Outcome) (words : RestoreWords) (tree : Tree) (input text : Bytes) → input_of ArchiveLimit script_limit input ≡ Ok text → Gives view r (input_text words text tree) → Gives view r (text_of_input words tree input)
unfolding text_of_input
input_read view r words tree input text e h = subst (λ (d : Result Bytes Outcome). Gives view r (d >>= λ taken. input_text words taken tree)) (sym e) h

pub input_refused : (outcome : Outcome) (words : RestoreWords) (tree : Tree) (input : Bytes) → IsDue outcome (input_of ArchiveLimit script_limit input) → IsDue outcome (text_of_input words tree input)
unfolding text_of_input
input_refused outcome words tree input d =
    due_map outcome (input_of ArchiveLimit script_limit input) (input_of ArchiveLimit script_limit input >>= λ taken. input_text words taken tree) (λ o e. ap (λ (r : Result Bytes Outcome). r >>= λ taken. input_text words taken tree) e) d

-- ---- the archive, wherever it is

pub of_path : {X : Type 0} (view : X → Bytes) (r : Result X Outcome) (archive : Option Bytes) (path : Bytes) (words : RestoreWords) (tree : Tree) (input : Bytes) → archive ≡ Some path → Gives view r (path_text words path tree) → Gives view r (text_of_archive archive words tree input)
unfolding text_of_archive
of_path view r archive path words tree input e h = rw e h

pub of_input : {X : Type 0} (view : X → Bytes) (r : Result X Outcome) (archive : Option Bytes) (words : RestoreWords) (tree : Tree) (input : Bytes) → archive ≡ None → Gives view r (text_of_input words tree input) → Gives view r (text_of_archive archive words tree input)
unfolding text_of_archive
of_input view r archive words tree input e h = rw e h

-- it isn't standard input, so that nothing is taken
pub path_takes : {X : Type 0} (r : Result X Outcome) (archive : Option Bytes) (path input : Bytes) (left left' : Option Bytes) → archive ≡ Some path → left' ≡ left → StepTakes r (where_read (is_none archive) input) left left'
path_takes (Ok x) archive path input left left' e k = rw e k
path_takes (Err outcome) archive path input left left' e k = rw e (λ late. k)

pub path_takes_part : (archive : Option Bytes) (path input : Bytes) (left left' : Option Bytes) → archive ≡ Some path → left' ≡ left → TakesPart (where_read (is_none archive) input) left left'
path_takes_part archive path input left left' e k = rw e k

-- it is
pub input_takes : {X : Type 0} (r : Result X Outcome) (archive : Option Bytes) (input : Bytes) (left left' : Option Bytes) → archive ≡ None → StepTakes r (Some input) left left' → StepTakes r (where_read (is_none archive) input) left left'
input_takes r archive input left left' e h = rw e h

pub input_takes_part : (archive : Option Bytes) (input : Bytes) (left left' : Option Bytes) → archive ≡ None → TakesPart (Some input) left left' → TakesPart (where_read (is_none archive) input) left left'
input_takes_part archive input left left' e h = rw e h

pub told_left : (archive : Option Bytes) (left : Option Bytes) (input : Bytes) → archive ≡ None → TellsLeft (is_none archive) left input → left ≡ Some input
told_left None left input e tells = tells refl
told_left (Some path) left input e tells = absurd cc

-- what reading standard input tells of what was taken, where the archive stands there
pub piped_taken : {X : Type 0} (view : X → Bytes) (r : Result X Outcome) (archive before after : Option Bytes) → archive ≡ None
    → ((bytes : Bytes) → before ≡ Some bytes → Gives view r (input_of ArchiveLimit script_limit bytes))
    → IfOk r (λ text. (bytes : Bytes) → before ≡ Some bytes → after ≡ Some (drop (length bytes) bytes))
    → ((bytes : Bytes) → before ≡ Some bytes → (n : ℕ) × (after ≡ Some (drop n bytes)))
    → (input : Bytes) → TellsLeft (is_none archive) before input → StepTakes r (where_read (is_none archive) input) before after
piped_taken view r (Some path) before after is due whole part input tells = absurd cc
piped_taken view r None before after is due whole part input tells = step_taken view r ArchiveLimit input before after (tells refl) (due input (tells refl)) whole (part input (tells refl))

pub piped_part : (archive before after : Option Bytes) → archive ≡ None → ((bytes : Bytes) → before ≡ Some bytes → (n : ℕ) × (after ≡ Some (drop n bytes)))
    → (input : Bytes) → TellsLeft (is_none archive) before input → TakesPart (where_read (is_none archive) input) before after
piped_part (Some path) before after is part input tells = absurd cc
piped_part None before after is part input tells = part_taken input before after (tells refl) (part input (tells refl))

-- ---- the whole

pub restore_read : (asked : ArchiveAsked) (tree : Tree) (input text : Bytes) → text_of_archive asked.archive asked.words tree input ≡ Ok text → restore_due asked tree input ≡ Ok (Puts (one_piece asked.target text None))
unfolding restore_due
restore_read asked tree input text e = ap (λ (r : Result Bytes Outcome). r >>= λ text. Ok (Puts (one_piece asked.target text None))) e

pub restore_refused : (outcome : Outcome) (asked : ArchiveAsked) (tree : Tree) (input : Bytes) → IsDue outcome (text_of_archive asked.archive asked.words tree input) → IsDue outcome (restore_due asked tree input)
unfolding restore_due
restore_refused outcome asked tree input d =
    due_map outcome (text_of_archive asked.archive asked.words tree input) (text_of_archive asked.archive asked.words tree input >>= λ text. Ok (Puts (one_piece asked.target text None)))
    (λ o e. ap (λ (r : Result Bytes Outcome). r >>= λ text. Ok (Puts (one_piece asked.target text None))) e) d
