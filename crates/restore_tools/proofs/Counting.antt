-- Counts of faults of a restore.
use Rattle.std.proofs.Common.{◌≡◌, ℕ, Result, Ok, Err, IfErr, refl}
use Rattle.tool_words.specs.declared.outcome.Outcome.{Outcome}
use Rattle.tool_words.specs.declared.outcome.Outcome.TheVariants.{Done, Usage, ReadFault, WriteFault, Missing, BadExport, BadScript, OutOfProfile, TooLarge, Differs, ScriptStopped, BadArchive, BadList, BadDefn, WithErrors, RestoreStopped, Loop, NoMatch, Memory}
use Rattle.restore_tools.specs.Standing.{IsUnread, CountsReads}

-- no read failed
pub unread_count : {X : Type 0} (r : Result X Outcome) (a b : ℕ) → IfErr r IsUnread → b ≡ a → CountsReads r a b
unread_count (Ok x) a b unread same = same
unread_count (Err Done) a b unread same = same
unread_count (Err (Usage word kind)) a b unread same = same
unread_count (Err ReadFault) a b unread same = elim unread [ ]
unread_count (Err WriteFault) a b unread same = same
unread_count (Err (Missing name)) a b unread same = same
unread_count (Err (BadExport file line kind)) a b unread same = same
unread_count (Err (BadScript fault)) a b unread same = same
unread_count (Err (OutOfProfile what)) a b unread same = same
unread_count (Err (TooLarge what most)) a b unread same = same
unread_count (Err (Differs key)) a b unread same = same
unread_count (Err (ScriptStopped stop)) a b unread same = same
unread_count (Err (BadArchive fault)) a b unread same = same
unread_count (Err (BadList fault)) a b unread same = same
unread_count (Err (BadDefn entry fault)) a b unread same = same
unread_count (Err (WithErrors errors)) a b unread same = same
unread_count (Err (RestoreStopped stop)) a b unread same = same
unread_count (Err (Loop path)) a b unread same = same
unread_count (Err (NoMatch pattern)) a b unread same = same
unread_count (Err Memory) a b unread same = same
