-- The folder that a clone leaves, read again.
use Rattle.std.proofs.Common.{◌≡◌, List, [], ◌∷◌, ◌++◌, map, Option, Some, None, option_map, Result, Ok, ap, subst, ◌∙◌, inl, inr}
use Rattle.cat_model.specs.Values.{Bytes, Named}
use Rattle.cat_rows.specs.declared.catalogue.Catalogue.{Catalogue}
use Rattle.clone_restores.specs.Due.{Restoration, answer_of}
use Rattle.clone_restores.specs.Standing.{IsAnswer}
use Rattle.clone_tools.specs.Due.{Work, Clones, all_put}
use Rattle.clone_tools.specs.Runs.{IsRestored, MayBeRestored, GoesOn, HasEnded, ReadsBack}
use Rattle.clone_tools.proofs.Joining.{put_tree, goes_on}
use Rattle.dump_ports.specs.Tree.{Tree}
use Rattle.dump_outputs.specs.Forms.{Putting}
use Rattle.dump_outputs.specs.Pieces.{Piece}
use Rattle.dump_tools.specs.Outputs.{World, world, Output, Tells, all_performed, stores, puts}
use Rattle.dump_tools.specs.Runs.{Run, IsUnmadeAnswer, Begins}
use Rattle.dump_tools.proofs.Putting.{all_put as stored_all}
use Rattle.dump_tools.proofs.Taking.{performed_both}
use Rattle.saved_folders.specs.Folders.{files_of, folder_saved}
use Rattle.tool_words.specs.declared.outcome.Outcome.{Outcome}
use Rattle.tool_words.specs.declared.outcome.Outcome.TheVariants.{OutOfProfile, TooLarge}
use Rattle.tool_words.specs.declared.words.Teller.{Teller}

-- what isn't written has another answer
no_answer : (opening : Catalogue) (named : Named) (outcome : Outcome) → IsUnmadeAnswer opening named outcome → IsAnswer outcome → ⊥
no_answer opening named (OutOfProfile what) unmade is = is
no_answer opening named (TooLarge limit most) unmade is = is
no_answer opening named outcome unmade is = elim unmade [ ]

-- what a run takes of standard input changes no file
begun_tree : (reads : Option Bytes) (first : List Output) (w : World) → Begins reads first → (all_performed first w).tree ≡ w.tree
begun_tree None first w begins = ap (λ (os : List Output). (all_performed os w).tree) begins
begun_tree (Some input) first w (text, taken, is) = ap (λ (os : List Output). (all_performed os w).tree) is

-- the files once a dump is put out, and then those of a folder
left_tree : (plan : Restoration) (pieces : List Piece) (run : Run) (r : IsRestored plan run) (w : World) (tree : Tree) → w.tree ≡ Some tree
    → (all_performed (map puts pieces ++ run.outputs) w).tree ≡ Some (folder_saved plan.folder r.texts.texts (all_put pieces tree))
left_tree plan pieces run r w tree known =
    let files = files_of plan.folder r.texts.texts in
    let more = Tells plan.told ∷ [] in
    let middle = all_performed (map puts pieces) (world (Some tree) w.left w.printed w.told) in
    ap (λ (t : Option Tree). (all_performed (map puts pieces ++ run.outputs) (world t w.left w.printed w.told)).tree) known
    ∙ ap (λ (x : Run). (all_performed (map puts pieces ++ x.outputs) (world (Some tree) w.left w.printed w.told)).tree) r.is
    ∙ ap (λ (v : World). v.tree) (performed_both (map puts pieces) (map stores files ++ more) (world (Some tree) w.left w.printed w.told))
    ∙ ap (λ (v : World). v.tree) (stored_all files more middle.tree middle.left middle.printed middle.told)
    ∙ ap (λ (t : Option Tree). option_map (folder_saved plan.folder r.texts.texts) t) (put_tree pieces tree w.left w.printed w.told)

pub leaves : (reads : Option Bytes) (teller : Teller) (due : Result Work Outcome) (tree : Tree) (first : Putting) (plan : Restoration) (answer : Outcome) (before after : World)
    → due ≡ Ok (Clones first (Ok plan)) → first.bad ≡ None → before.tree ≡ Some tree → IsAnswer answer → HasEnded reads teller due answer before after
    → (answer ≡ answer_of plan) × ReadsBack plan after.tree
leaves reads teller due tree first plan answer before after is whole known ends h =
    let goes = goes_on teller due first (Ok plan) h.may.later is whole h.may.may in
    by goes goes.may
  where
    by : (goes : GoesOn teller first.pieces (Ok plan) h.may.later) → MayBeRestored teller plan goes.later → (answer ≡ answer_of plan) × ReadsBack plan after.tree
    by goes (inl r) = (
      h.answers ∙ ap (λ (run : Run). run.answer) h.may.is ∙ ap (λ (run : Run). run.answer) goes.is ∙ ap (λ (run : Run). run.answer) r.is,
      record {
        tree = folder_saved plan.folder r.texts.texts (all_put first.pieces tree);
        is =
            ap (λ (w : World). w.tree) h.put
            ∙ ap (λ (run : Run). (all_performed run.outputs before).tree) h.may.is
            ∙ ap (λ (w : World). w.tree) (performed_both h.may.first h.may.later.outputs before)
            ∙ ap (λ (run : Run). (all_performed run.outputs (all_performed h.may.first before)).tree) goes.is
            ∙ left_tree plan first.pieces goes.later r (all_performed h.may.first before) tree (begun_tree reads h.may.first before h.may.begins ∙ known);
        export = r.texts.export;
        reads = r.stand.reads plan.folder (all_put first.pieces tree);
        same = r.stand.same;
      },
    )
    by goes (inr (other, unmade, told)) =
        absurd (no_answer plan.opening.cat plan.left other unmade (subst IsAnswer (h.answers ∙ ap (λ (run : Run). run.answer) h.may.is ∙ ap (λ (run : Run). run.answer) goes.is ∙ ap (λ (run : Run). run.answer) told) ends))
