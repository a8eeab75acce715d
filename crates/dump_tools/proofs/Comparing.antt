-- What is due of pg_catcmp once its folders are read.
use Rattle.std.proofs.Common.{◌≡◌, Option, Ok, ap, sym, subst, ◌∙◌, Result, inl, inr}
use Rattle.dump_ports.specs.Tree.{Tree}
use Rattle.cat_model.specs.Values.{Bytes, Named}
use Rattle.exports.specs.Exports.{Exported, held, texts_of, export_of}
use Rattle.exports.proofs.Steps.{texts_held}
use Rattle.openings.specs.Openings.{opened, opened_folder, export_named}
use Rattle.tool_words.specs.declared.outcome.Outcome.{Outcome}
use Rattle.tool_words.specs.declared.outcome.Outcome.TheVariants.{Done, Usage, ReadFault, WriteFault, Missing, BadExport, BadScript, OutOfProfile, TooLarge, Differs, ScriptStopped, BadArchive, BadList, BadDefn, WithErrors, RestoreStopped, Loop, NoMatch, Memory}
use Rattle.tool_words.specs.Answers.{◌>>=◌, IsDue}
use Rattle.tool_words.proofs.Dues.{due_map}
use Rattle.dump_tools.specs.Due.{Plan, Compares, second_due, compare_due, IsCarriedOut, WasDue, IsUnequal, IsAnswerDue}

-- the export of the first folder was read
pub export_read : (first second : Bytes) (tree : Tree) (export : Exported) → export_of first tree ≡ Ok export → compare_due first second tree ≡ (opened export >>= λ one. second_due one second tree)
unfolding compare_due opened_folder
export_read first second tree export e = ap (λ (r : Result Exported Outcome). (r >>= opened) >>= λ one. second_due one second tree) e

pub export_opened : (first : Bytes) (tree : Tree) (export one : Exported) → export_of first tree ≡ Ok export → opened export ≡ Ok one → opened_folder first tree ≡ Ok one
unfolding opened_folder
export_opened first tree export one e is = ap (λ (r : Result Exported Outcome). r >>= opened) e ∙ is

-- it wasn't, or it isn't an opening
pub export_unread : (outcome : Outcome) (first second : Bytes) (tree : Tree) → IsDue outcome (export_of first tree) → IsDue outcome (compare_due first second tree)
unfolding compare_due opened_folder
export_unread outcome first second tree due =
    due_map outcome (export_of first tree) (compare_due first second tree) (λ o e. ap (λ (r : Result Exported Outcome). (r >>= opened) >>= λ one. second_due one second tree) e) due

pub export_refused : (outcome : Outcome) (first second : Bytes) (tree : Tree) (export : Exported) → export_of first tree ≡ Ok export → IsDue outcome (opened export) → IsDue outcome (compare_due first second tree)
export_refused outcome first second tree export read due =
    due_map outcome (opened export) (compare_due first second tree) (λ o e. export_read first second tree export read ∙ ap (λ (r : Result Exported Outcome). r >>= λ one. second_due one second tree) e) due

-- the texts of the first folder were read, and don't hold rows
pub texts_unheld : (outcome : Outcome) (first second : Bytes) (tree : Tree) (texts : Exported) → texts_of first tree ≡ Ok texts → IsDue outcome (held texts) → IsDue outcome (compare_due first second tree)
texts_unheld outcome first second tree texts read due =
    export_unread outcome first second tree (subst (λ (r : Result Exported Outcome). IsDue outcome r) (sym (texts_held first tree texts read)) due)

-- the second folder was read
pub second_read : (one : Exported) (second : Bytes) (tree : Tree) (other : Exported) → opened_folder second tree ≡ Ok other → second_due one second tree ≡ Ok (Compares (export_named one) (export_named other))
unfolding second_due
second_read one second tree other e = ap (λ (r : Result Exported Outcome). r >>= λ other. Ok (Compares (export_named one) (export_named other))) e

-- the first folder was read
pub first_read : (first second : Bytes) (tree : Tree) (one : Exported) → opened_folder first tree ≡ Ok one → compare_due first second tree ≡ second_due one second tree
unfolding compare_due
first_read first second tree one e = ap (λ (r : Result Exported Outcome). r >>= λ one. second_due one second tree) e

-- the plan that was due of the second folder was carried out
pub first_done : (first second : Bytes) (tree : Tree) (one : Exported) (answer : Outcome) (start between after : Option Tree) (printed told : Option Bytes) → opened_folder first tree ≡ Ok one → between ≡ start → WasDue (second_due one second tree) answer between after printed printed told told → WasDue (compare_due first second tree) answer start after printed printed told told
first_done first second tree one answer start between after printed told e k w = record {
  plan = w.plan;
  is_due = first_read first second tree one e ∙ w.is_due;
  answers = w.answers;
  carried = subst (λ (s : Option Tree). IsCarriedOut w.plan s after printed printed told told) k w.carried;
}

-- an answer by which they aren't the same
pub unequal_due : (outcome : Outcome) (a b : Named) (due : Result Plan Outcome) → due ≡ Ok (Compares a b) → IsUnequal outcome a b → IsAnswerDue outcome due
unequal_due Done a b due e u = elim u [ ]
unequal_due (Usage word kind) a b due e u = elim u [ ]
unequal_due ReadFault a b due e u = elim u [ ]
unequal_due WriteFault a b due e u = elim u [ ]
unequal_due (Missing name) a b due e u = elim u [ ]
unequal_due (BadExport file line kind) a b due e u = elim u [ ]
unequal_due (BadScript fault) a b due e u = elim u [ ]
unequal_due (OutOfProfile what) a b due e u = elim u [ ]
unequal_due (TooLarge what most) a b due e u = elim u [ ]
unequal_due (Differs key) a b due e u = inr (inl (record { a = a; b = b; is_due = e; least = u }))
unequal_due (ScriptStopped stop) a b due e u = elim u [ ]
unequal_due (BadArchive fault) a b due e u = elim u [ ]
unequal_due (BadList fault) a b due e u = elim u [ ]
unequal_due (BadDefn entry fault) a b due e u = elim u [ ]
unequal_due (WithErrors errors) a b due e u = elim u [ ]
unequal_due (RestoreStopped stop) a b due e u = elim u [ ]
unequal_due (Loop path) a b due e u = elim u [ ]
unequal_due (NoMatch pattern) a b due e u = elim u [ ]
unequal_due Memory a b due e u = inl tt
