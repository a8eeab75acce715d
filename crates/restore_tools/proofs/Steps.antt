-- What is due once all is read.
use Rattle.std.proofs.Common.{◌≡◌, Option, Result, Ok, Err, sym, ap, ◌∙◌}
use Rattle.cat_model.specs.Values.{Bytes}
use Rattle.command_line.specs.declared.command.RestoreWords.{RestoreWords}
use Rattle.dump_ports.specs.Tree.{Tree}
use Rattle.restore_folders.specs.declared.refusal.OnRefusal.{OnRefusal}
use Rattle.restore_folders.specs.Works.{Work}
use Rattle.tool_words.specs.declared.outcome.Outcome.{Outcome}
use Rattle.tool_words.specs.Answers.{◌>>=◌, IsDue}
use Rattle.tool_words.proofs.Dues.{due_map}
use Rattle.restore_tools.specs.Due.{Restoring, refusal_of, restoring, work_of, restore_due}

-- all was read
pub restore_read : (folder : Bytes) (archive : Option Bytes) (words : RestoreWords) (input : Bytes) (tree : Tree) (how : OnRefusal) (work : Work) → how ≡ refusal_of words →
    work_of folder archive words input tree ≡ Ok work → restore_due folder archive words input tree ≡ Ok (restoring folder how work)
unfolding restore_due
restore_read folder archive words input tree how work is e =
    ap (λ (r : Result Work Outcome). r >>= λ w. Ok (restoring folder (refusal_of words) w)) e ∙ ap (λ (h : OnRefusal). Ok (restoring folder h work)) (sym is)

-- a step refused
pub restore_refused : (outcome : Outcome) (folder : Bytes) (archive : Option Bytes) (words : RestoreWords) (input : Bytes) (tree : Tree) →
    IsDue outcome (work_of folder archive words input tree) → IsDue outcome (restore_due folder archive words input tree)
unfolding restore_due
restore_refused outcome folder archive words input tree d =
    due_map outcome (work_of folder archive words input tree) (work_of folder archive words input tree >>= λ work. Ok (restoring folder (refusal_of words) work))
    (λ o e. ap (λ (r : Result Work Outcome). r >>= λ work. Ok (restoring folder (refusal_of words) work)) e) d
