-- What was told of an entry whose next statement ran, and of one that has none left.
use Rattle.std.proofs.Common.{◌≡◌, ℕ, ◌+◌, List, [], ◌++◌, Some, None, refl, ap, sym, ◌∙◌, append-nil}
use Rattle.cat_model.specs.declared.cause.Cause.{Cause}
use Rattle.cat_model.specs.Effects.{effect}
use Rattle.cat_model.specs.Trees.{next, outcome, seen}
use Rattle.cat_model.specs.Values.{Bytes, Named}
use Rattle.restore_plan.specs.declared.status.Note.{Note}
use Rattle.restore_plan.specs.declared.step.Step.{Step}
use Rattle.restore_plan.specs.Serial.{ending, noted}
use Rattle.restore_core.specs.Machine.{Going, ran_next}
use Rattle.serial_restore.specs.Ways.{listed}
use Rattle.restore_board.specs.Notes.{noted_at}
use Rattle.restore_board.specs.Ran.{HasRun}
use Rattle.restore_board.proofs.Noting.{noted_none}

pub one-ran : (boot : Bytes) (named named' : Named) (x : Going) (run run' id entry : ℕ) (s : Step) (old new : List (List Note)) (before refused : List Cause) → x.plan.id ≡ id → named' ≡ next (effect boot s.statement) named → run' ≡ run + 1 → new ≡ noted_at old entry (noted id s.is_owner (outcome (effect boot s.statement) (seen named))) → before ≡ [] → refused ≡ before ++ listed (ending s.is_owner (outcome (effect boot s.statement) (seen named))) → HasRun (ran_next boot named x run (Some s)) named' run' entry x.notes old new refused
one-ran boot named named' x run run' id entry s old new before refused same applied ran put none ended = record {
  catalogue = applied;
  ran = ran;
  more = noted x.plan.id s.is_owner (outcome (effect boot s.statement) (seen named));
  put = put ∙ ap (λ (n : ℕ). noted_at old entry (noted n s.is_owner (outcome (effect boot s.statement) (seen named)))) (sym same);
  noted = refl;
  refusal = ended ∙ ap (λ (b : List Cause). b ++ listed (ending s.is_owner (outcome (effect boot s.statement) (seen named)))) none;
}

pub none-ran : (boot : Bytes) (named named' : Named) (x : Going) (run run' entry : ℕ) (old new : List (List Note)) (refused : List Cause) → named' ≡ named → run' ≡ run → new ≡ old → refused ≡ [] → HasRun (ran_next boot named x run None) named' run' entry x.notes old new refused
none-ran boot named named' x run run' entry old new refused applied ran put none = record {
  catalogue = applied;
  ran = ran;
  more = [];
  put = put ∙ sym (noted_none old entry);
  noted = append-nil x.notes;
  refusal = none;
}
