-- What is due passes from one step to the steps that it begins.
use Rattle.std.proofs.Common.{◌≡◌, ℕ, Result, Err}
use Rattle.folder_io.specs.declared.fault.FolderFault.{FolderFault}
use Rattle.folder_io.specs.declared.fault.FolderFault.TheVariants.{Failed, Missing, BadExport, TooLarge, Memory}
use Rattle.folder_io.specs.Answers.{IsDue, IsCallFree, CountsRead}

-- where each refusal that is due of one is due of the other
pub due_map : {Y Z : Type 0} (fault : FolderFault) (one : Result Y FolderFault) (other : Result Z FolderFault) → ((o : FolderFault) → one ≡ Err o → other ≡ Err o) → IsDue fault one → IsDue fault other
due_map Failed one other h d = tt
due_map (Missing name) one other h d = h (Missing name) d
due_map (BadExport file line kind) one other h d = h (BadExport file line kind) d
due_map (TooLarge limit n) one other h d = h (TooLarge limit n) d
due_map Memory one other h d = tt

-- where nothing was called, no count rose
pub call_free_count : (X : Type 0) (fault : FolderFault) (before after : ℕ) → IsCallFree fault → after ≡ before → CountsRead {X = X} (Err fault) before after
call_free_count X Failed before after free e = elim free [ ]
call_free_count X (Missing name) before after free e = e
call_free_count X (BadExport file line kind) before after free e = e
call_free_count X (TooLarge limit n) before after free e = e
call_free_count X Memory before after free e = e
