-- The text of psql's script, wherever it is read, and what is due once it is.
use Rattle.std.proofs.Common.{◌≡◌, Bool, ℕ, zero, suc, ◌+◌, ◌≤◌, List, [], ◌∷◌, length, take, drop, Option, Some, option_map, Result, Ok, Err, IfOk, cond, refl, sym, ap, subst, ◌∙◌}
use Rattle.std.proofs.lemmas.List.{take-append-drop}
use Rattle.std.proofs.lemmas.Bool.{le-leb}
use Rattle.dump_ports.specs.Tree.{Tree}
use Rattle.cat_model.specs.Values.{Bytes}
use Rattle.ddl_read.specs.located.Located.{Located}
use Rattle.tool_words.specs.declared.outcome.Limit.{Limit}
use Rattle.tool_words.specs.declared.outcome.Limit.TheVariants.{Script}
use Rattle.tool_words.specs.declared.outcome.Outcome.{Outcome}
use Rattle.tool_words.specs.declared.outcome.Outcome.TheVariants.{Done, Usage, ReadFault, WriteFault, Missing, BadExport, BadScript, OutOfProfile, TooLarge, Differs, ScriptStopped, BadArchive, BadList, BadDefn, WithErrors, RestoreStopped, Loop, NoMatch, Memory}
use Rattle.tool_words.specs.declared.words.Asked.{Asked}
use Rattle.tool_words.specs.declared.words.ScriptSource.{ScriptSource}
use Rattle.tool_words.specs.declared.words.ScriptSource.TheVariants.{File, Input}
use Rattle.tool_words.specs.Answers.{◌>>=◌, IsDue, Gives, CountsRead}
use Rattle.tool_words.specs.Words.{is_input, asks_for_input, asked_input, words_asked, reads_input}
use Rattle.tool_words.proofs.Dues.{due_map}
use Rattle.dump_tools.specs.Due.{script_limit, input_of, source_of, script_read, statements_due, text_due, psql_due, IsCarriedOut, WasDue, counts, CountsStep}
use Rattle.dump_tools.specs.Inputs.{where_read, TellsLeft, HasTaken, TakesPart}
use Rattle.dump_tools.specs.Runs.{IsEarly, StepTakes, read_by}
use Rattle.dump_tools.proofs.Counting.{alike, counted_reading, counted_input}
use Rattle.dump_tools.proofs.Taking.{all_taken}

-- ---- what was taken

drop_front : {X : Type 0} (n : ℕ) (xs : List X) → drop (length (take n xs)) xs ≡ drop n xs
drop_front zero xs = refl
drop_front (suc n) [] = refl
drop_front (suc n) (x ∷ xs) = drop_front n xs

left_then : (k : ℕ) (input : Bytes) (before after : Option Bytes) → before ≡ Some input → after ≡ Some (drop k input) → after ≡ option_map (λ left. drop k left) before
left_then k input before after e f = f ∙ sym (ap (λ (l : Option Bytes). option_map (λ left. drop k left) l) e)

front_left : (n : ℕ) (input : Bytes) (before after : Option Bytes) → before ≡ Some input → after ≡ Some (drop n input) → after ≡ option_map (λ left. drop (length (take n input)) left) before
front_left n input before after e f = left_then (length (take n input)) input before after e (f ∙ ap Some (sym (drop_front n input)))

-- all of the input was taken
pub whole_taken : (input : Bytes) (before after : Option Bytes) → before ≡ Some input → after ≡ Some (drop (length input) input) → HasTaken (Some input) before after
whole_taken input before after e f = (input, all_taken input, left_then (length input) input before after e f)

-- some first part was
pub part_taken : (input : Bytes) (before after : Option Bytes) → before ≡ Some input → (n : ℕ) × (after ≡ Some (drop n input)) → TakesPart (Some input) before after
part_taken input before after e h = (take h.0 input, drop h.0 input, sym (take-append-drop h.0 input), front_left h.0 input before after e h.1)

-- a refusal that is due
is_due : {Y : Type 0} (outcome : Outcome) (due : Result Y Outcome) → (IsEarly outcome → ⊥) → IsDue outcome due → due ≡ Err outcome
is_due Done due late d = d
is_due (Usage word kind) due late d = d
is_due ReadFault due late d = elim (late tt) [ ]
is_due WriteFault due late d = elim (late tt) [ ]
is_due (Missing name) due late d = d
is_due (BadExport file line kind) due late d = d
is_due (BadScript fault) due late d = d
is_due (OutOfProfile what) due late d = d
is_due (TooLarge what n) due late d = d
is_due (Differs key) due late d = d
is_due (ScriptStopped stop) due late d = d
is_due (BadArchive fault) due late d = d
is_due (BadList fault) due late d = d
is_due (BadDefn entry fault) due late d = d
is_due (WithErrors errors) due late d = d
is_due (RestoreStopped stop) due late d = d
is_due (Loop path) due late d = d
is_due (NoMatch pattern) due late d = d
is_due Memory due late d = elim (late tt) [ ]

within : (what : Limit) (limit : ℕ) (input : Bytes) → length input ≤ limit → input_of what limit input ≡ Ok input
unfolding input_of
within what limit input h = ap (λ b. cond {A = Result Bytes Outcome} b (Ok input) (Err (TooLarge what (limit + 1)))) (le-leb (length input) limit h)

-- where it is refused it is longer than the limit
too_long : (outcome : Outcome) (what : Limit) (limit : ℕ) (input : Bytes) → input_of what limit input ≡ Err outcome → length input ≤ limit → ⊥
too_long outcome what limit input e h =
    let both : ◌≡◌ {A = Result Bytes Outcome} (Ok input) (Err outcome) = sym (within what limit input h) ∙ e in
    cc

pub refused_taken : (outcome : Outcome) (what : Limit) (input : Bytes) (before after : Option Bytes) → before ≡ Some input → IsDue outcome (input_of what script_limit input) → (n : ℕ) × (after ≡ Some (drop n input)) → (IsEarly outcome → ⊥) → HasTaken (Some input) before after
refused_taken outcome what input before after e d h late = (
  take h.0 input,
  record {
    rest = drop h.0 input;
    split = sym (take-append-drop h.0 input);
    whole = λ short. elim (too_long outcome what script_limit input (is_due outcome (input_of what script_limit input) late d) short) [ ];
  },
  front_left h.0 input before after e h.1,
)

-- the same of all that reading standard input tells
pub step_taken : {X : Type 0} (view : X → Bytes) (r : Result X Outcome) (what : Limit) (input : Bytes) (before after : Option Bytes) → before ≡ Some input → Gives view r (input_of what script_limit input)
    → IfOk r (λ text. (bytes : Bytes) → before ≡ Some bytes → after ≡ Some (drop (length bytes) bytes))
    → (n : ℕ) × (after ≡ Some (drop n input)) → StepTakes r (Some input) before after
step_taken view (Ok text) what input before after e due whole part = whole_taken input before after e (whole input e)
step_taken view (Err outcome) what input before after e due whole part = λ late. refused_taken outcome what input before after e due part late

pub input_taken : {X : Type 0} (view : X → Bytes) (r : Result X Outcome) (script : ScriptSource) (before after : Option Bytes) → script ≡ Input
    → ((bytes : Bytes) → before ≡ Some bytes → Gives view r (input_of Script script_limit bytes))
    → IfOk r (λ text. (bytes : Bytes) → before ≡ Some bytes → after ≡ Some (drop (length bytes) bytes))
    → ((bytes : Bytes) → before ≡ Some bytes → (n : ℕ) × (after ≡ Some (drop n bytes)))
    → (input : Bytes) → TellsLeft (is_input script) before input → StepTakes r (where_read (is_input script) input) before after
input_taken view r (File name) before after is due whole part input tells = absurd cc
input_taken view r Input before after is due whole part input tells = step_taken view r Script input before after (tells refl) (due input (tells refl)) whole (part input (tells refl))

pub input_part : (script : ScriptSource) (before after : Option Bytes) → script ≡ Input
    → ((bytes : Bytes) → before ≡ Some bytes → (n : ℕ) × (after ≡ Some (drop n bytes)))
    → (input : Bytes) → TellsLeft (is_input script) before input → TakesPart (where_read (is_input script) input) before after
input_part (File name) before after is part input tells = absurd cc
input_part Input before after is part input tells = part_taken input before after (tells refl) (part input (tells refl))

-- what was taken, whatever the step's answer
pub takes_any : {X : Type 0} (r : Result X Outcome) (reads before after : Option Bytes) → HasTaken reads before after → StepTakes r reads before after
takes_any (Ok x) reads before after h = h
takes_any (Err outcome) reads before after h = λ late. h

-- words that aren't read take nothing
pub unasked : (outcome : Outcome) (words : List Bytes) (input : Bytes) (left : Option Bytes) → IsDue outcome (words_asked words) → (IsEarly outcome → ⊥) → HasTaken (read_by words input) left left
unasked outcome words input left d late =
    subst (λ (r : Result Asked Outcome). HasTaken (where_read (asked_input r) input) left left) (sym (is_due outcome (words_asked words) late d)) refl

-- whether the words read it, once they are read
pub reads_asked : (words : List Bytes) (asked : Asked) → words_asked words ≡ Ok asked → reads_input words ≡ asks_for_input asked
reads_asked words asked e = ap asked_input e

-- ---- counts

pub step_reading : {X : Type 0} (r : Result X Outcome) (a b i w p l : ℕ) (w' : ℕ) → CountsRead r a b → w' ≡ w → CountsStep r (counts a i w p l) (counts b i w' p l)
step_reading (Ok x) a b i w p l w' c e = alike a b i i w w' p p l l c refl e refl refl
step_reading {X = X} (Err o) a b i w p l w' c e = counted_reading X o a b i i w w' p p l l c refl e refl refl

pub step_input : {X : Type 0} (r : Result X Outcome) (a i j w p l : ℕ) → CountsRead r i j → CountsStep r (counts a i w p l) (counts a j w p l)
step_input (Ok x) a i j w p l c = alike a a i j w w p p l l refl c refl refl refl
step_input {X = X} (Err o) a i j w p l c = counted_input X o a a i j w w p p l l refl c refl refl refl

-- ---- what is due once the text is read

pub psql_read : (folder : Bytes) (script : ScriptSource) (stop : Bool) (tree : Tree) (input text : Bytes) → source_of script tree input ≡ Ok text → psql_due folder script stop tree input ≡ text_due folder stop text tree
unfolding psql_due
psql_read folder script stop tree input text e = ap (λ (r : Result Bytes Outcome). r >>= λ text. text_due folder stop text tree) e

pub psql_refused : (outcome : Outcome) (folder : Bytes) (script : ScriptSource) (stop : Bool) (tree : Tree) (input : Bytes) → IsDue outcome (source_of script tree input) → IsDue outcome (psql_due folder script stop tree input)
unfolding psql_due
psql_refused outcome folder script stop tree input d =
    due_map outcome (source_of script tree input) (source_of script tree input >>= λ text. text_due folder stop text tree) (λ o e. ap (λ (r : Result Bytes Outcome). r >>= λ text. text_due folder stop text tree) e) d

pub psql_done : (folder : Bytes) (script : ScriptSource) (stop : Bool) (tree : Tree) (input text : Bytes) (answer : Outcome) (start between after : Option Tree) (printed told told' : Option Bytes) → source_of script tree input ≡ Ok text → between ≡ start → WasDue (text_due folder stop text tree) answer between after printed printed told told' → WasDue (psql_due folder script stop tree input) answer start after printed printed told told'
psql_done folder script stop tree input text answer start between after printed told told' e k w = record {
  plan = w.plan;
  is_due = psql_read folder script stop tree input text e ∙ w.is_due;
  answers = w.answers;
  carried = subst (λ (s : Option Tree). IsCarriedOut w.plan s after printed printed told told') k w.carried;
}

-- ---- and once its statements are

pub text_read : (folder : Bytes) (stop : Bool) (text : Bytes) (tree : Tree) (statements : List Located) → script_read text ≡ Ok statements → text_due folder stop text tree ≡ statements_due folder stop statements tree
unfolding text_due
text_read folder stop text tree statements e = ap (λ (r : Result (List Located) Outcome). r >>= λ statements. statements_due folder stop statements tree) e

pub text_refused : (outcome : Outcome) (folder : Bytes) (stop : Bool) (text : Bytes) (tree : Tree) → IsDue outcome (script_read text) → IsDue outcome (text_due folder stop text tree)
unfolding text_due
text_refused outcome folder stop text tree d =
    due_map outcome (script_read text) (script_read text >>= λ statements. statements_due folder stop statements tree) (λ o e. ap (λ (r : Result (List Located) Outcome). r >>= λ statements. statements_due folder stop statements tree) e) d

pub text_done : (folder : Bytes) (stop : Bool) (text : Bytes) (tree : Tree) (statements : List Located) (answer : Outcome) (before after : Option Tree) (printed told told' : Option Bytes) → script_read text ≡ Ok statements → WasDue (statements_due folder stop statements tree) answer before after printed printed told told' → WasDue (text_due folder stop text tree) answer before after printed printed told told'
text_done folder stop text tree statements answer before after printed told told' e w = record {
  plan = w.plan;
  is_due = text_read folder stop text tree statements e ∙ w.is_due;
  answers = w.answers;
  carried = w.carried;
}
