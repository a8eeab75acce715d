-- What is due passes from one step to the steps that it begins.
use Rattle.std.proofs.Common.{◌≡◌, Result, Err}
use Rattle.tool_words.specs.declared.outcome.Outcome.{Outcome}
use Rattle.tool_words.specs.declared.outcome.Outcome.TheVariants.{Done, Usage, ReadFault, WriteFault, Missing, BadExport, BadScript, OutOfProfile, TooLarge, Differs, ScriptStopped, BadArchive, BadList, BadDefn, WithErrors, RestoreStopped, Loop, NoMatch, Memory}
use Rattle.tool_words.specs.Answers.{IsDue, IsLate}

-- where each refusal that is due of one is due of the other
pub due_map : {Y Z : Type 0} (outcome : Outcome) (one : Result Y Outcome) (other : Result Z Outcome) → ((o : Outcome) → one ≡ Err o → other ≡ Err o) → IsDue outcome one → IsDue outcome other
due_map Done one other h d = h Done d
due_map (Usage word kind) one other h d = h (Usage word kind) d
due_map ReadFault one other h d = tt
due_map WriteFault one other h d = tt
due_map (Missing name) one other h d = h (Missing name) d
due_map (BadExport file line kind) one other h d = h (BadExport file line kind) d
due_map (BadScript fault) one other h d = h (BadScript fault) d
due_map (OutOfProfile what) one other h d = h (OutOfProfile what) d
due_map (TooLarge what n) one other h d = h (TooLarge what n) d
due_map (Differs key) one other h d = h (Differs key) d
due_map (ScriptStopped stop) one other h d = h (ScriptStopped stop) d
due_map (BadArchive fault) one other h d = h (BadArchive fault) d
due_map (BadList fault) one other h d = h (BadList fault) d
due_map (BadDefn entry fault) one other h d = h (BadDefn entry fault) d
due_map (WithErrors errors) one other h d = h (WithErrors errors) d
due_map (RestoreStopped stop) one other h d = h (RestoreStopped stop) d
due_map (Loop path) one other h d = h (Loop path) d
due_map (NoMatch pattern) one other h d = h (NoMatch pattern) d
due_map Memory one other h d = tt

-- what may come late is due
pub late_due : {Y : Type 0} (outcome : Outcome) (one : Result Y Outcome) → IsLate outcome → IsDue outcome one
late_due Done one l = elim l [ ]
late_due (Usage word kind) one l = elim l [ ]
late_due ReadFault one l = elim l [ ]
late_due WriteFault one l = tt
late_due (Missing name) one l = elim l [ ]
late_due (BadExport file line kind) one l = elim l [ ]
late_due (BadScript fault) one l = elim l [ ]
late_due (OutOfProfile what) one l = elim l [ ]
late_due (TooLarge what n) one l = elim l [ ]
late_due (Differs key) one l = elim l [ ]
late_due (ScriptStopped stop) one l = elim l [ ]
late_due (BadArchive fault) one l = elim l [ ]
late_due (BadList fault) one l = elim l [ ]
late_due (BadDefn entry fault) one l = elim l [ ]
late_due (WithErrors errors) one l = elim l [ ]
late_due (RestoreStopped stop) one l = elim l [ ]
late_due (Loop path) one l = elim l [ ]
late_due (NoMatch pattern) one l = elim l [ ]
late_due Memory one l = tt
