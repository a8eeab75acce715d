-- How a restore ends.
use Rattle.std.proofs.Common.{◌≡◌, ℕ, ◌==◌, Bool, true, false, Option, Some, None, IsSome, IfSome, Result, Ok, Err, IfOk, IfErr, OnErr, if◌then◌else◌, refl, sym, subst}
use Rattle.cat_model.specs.Values.{Named}
use Rattle.cat_rows.specs.declared.catalogue.Catalogue.{Catalogue}
use Rattle.restore_folders.specs.Works.{answer_by}
use Rattle.restore_folders.specs.Written.{Leaves}
use Rattle.restore_tools.specs.Standing.{IsUnread, CountsWrites}
use Rattle.saved_folders.specs.Exports.{WithTexts}
use Rattle.script_runs.specs.Writing.{IsUnwritten, StandFor}
use Rattle.tool_words.specs.declared.outcome.Outcome.{Outcome}
use Rattle.tool_words.specs.declared.outcome.Outcome.TheVariants.{Done, ReadFault, WriteFault, OutOfProfile, TooLarge, WithErrors, Memory}
use Rattle.tool_words.specs.Answers.{IsLate}
use Rattle.clone_restores.specs.Due.{Restoration}
use Rattle.clone_restores.specs.declared.restored.Restored.{Restored}
use Rattle.clone_restores.specs.Standing.{IsAnswer, IsUnfailed, IsMade}

by_count : (errors : ℕ) (b : Bool) → IsAnswer (if b then Done else WithErrors errors)
by_count errors true = tt
by_count errors false = tt

-- the answers of a restore that was carried out
pub answers_end : (errors : ℕ) → IsAnswer (answer_by errors None)
answers_end errors = by_count errors (errors == 0)

-- no failed call gives such an answer
pub unmade_unfailed : (opening : Catalogue) (named : Named) (outcome : Outcome) → IsUnwritten opening named outcome → IsUnfailed outcome
unmade_unfailed opening named (OutOfProfile what) h = tt
unmade_unfailed opening named (TooLarge what most) h = tt
unmade_unfailed opening named Memory h = tt
unmade_unfailed opening named outcome h = elim h [ ]

pub unfailed_unread : (outcome : Outcome) → IsUnfailed outcome → IsUnread outcome
unfailed_unread ReadFault h = elim h [ ]
unfailed_unread outcome h = tt

-- and no count rises with one
pub unfailed_count : (outcome : Outcome) (files lines : ℕ) → IsUnfailed outcome → CountsWrites {X = Outcome} (Err outcome) files files lines lines
unfailed_count WriteFault files lines h = elim h [ ]
unfailed_count outcome files lines h = (refl, refl)

-- no failed read gives one that comes while the folder is written
pub late_unread : (outcome : Outcome) → IsLate outcome → IsUnread outcome
late_unread WriteFault h = tt
late_unread Memory h = tt
late_unread outcome h = elim h [ ]

-- ---- what is known of a result, together

pub made_of : (plan : Restoration) (r : Result Restored Outcome) → IfOk r (λ x. StandFor plan.opening.cat plan.left x.texts) → IfOk r (λ x. x.report.items ≡ plan.told) → IfOk r (λ x. x.errors ≡ plan.errors) → IfOk r (IsMade plan)
made_of plan (Ok x) stand told errors = record { stand = stand; told = told; errors = errors }
made_of plan (Err outcome) stand told errors = tt

pub both_err : {X Y : Type 0} (r : Result X Y) (P : Y → Type 0) (C : Type 0) → IfErr r P → OnErr r C → IfErr r (λ y. P y × C)
both_err (Ok x) P C p c = tt
both_err (Err y) P C p c = (p, c)

-- ---- the texts of a restore that goes on behind refusals

pub some_texts : (opening : Catalogue) (named : Named) (texts : Option WithTexts) → Leaves opening true named texts → IsSome texts
some_texts opening named None leaves = absurd cc
some_texts opening named (Some made) leaves = refl

pub stand_of : (opening : Catalogue) (named : Named) (texts : Option WithTexts) (restored : WithTexts) → Leaves opening true named texts → IfSome texts (λ made. restored ≡ made) → StandFor opening named restored
stand_of opening named None restored leaves is = absurd cc
stand_of opening named (Some made) restored leaves is = subst (StandFor opening named) (sym is) leaves.1
