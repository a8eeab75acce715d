-- Outputs one after another: what the outside holds once some of them are whole and the next one is cut.
use Rattle.std.proofs.Common.{◌≡◌, List, [], ◌∷◌, ◌++◌, map, take, drop, Option, Some, None, option_map, Result, Ok, refl, sym, ap, subst, ◌∙◌, inl, inr, append-nil}
use Rattle.std.proofs.lemmas.List.{append_assoc, map-append, take-append-drop}
use Rattle.std.specs.FinMap.{insert}
use Rattle.dump_ports.specs.Tree.{Tree, TakesPrefix}
use Rattle.cat_model.specs.Values.{Bytes}
use Rattle.schema_folders.specs.declared.schemas.SchemaRow.{SchemaRow}
use Rattle.schema_folders.specs.Naming.{boot, named}
use Rattle.schema_folders.specs.Run.{catalogue_after, Grown}
use Rattle.schema_folders.specs.Folder.{files_written, IsNamespaces}
use Rattle.saved_folders.specs.Files.{File, saved, PartSaved}
use Rattle.saved_folders.specs.Files.{IsCut as IsCutFile}
use Rattle.tool_words.specs.declared.outcome.Outcome.{Outcome}
use Rattle.tool_words.specs.declared.outcome.Outcome.TheVariants.{Done}
use Rattle.tool_words.specs.declared.words.Teller.{Teller}
use Rattle.tool_words.specs.Lines.{Appends, AppendsPart}
use Rattle.dump_ports.specs.declared.moment.Moment.{Moment}
use Rattle.tool_words.specs.declared.words.Asked.{Asked}
use Rattle.tool_words.specs.Answers.{◌>>=◌}
use Rattle.tool_words.specs.Words.{words_asked}
use Rattle.restore_tools.specs.Written.{LeavesEnding, files_written as files_restored}
use Rattle.restore_tools.specs.Due.{Restoring, ending, answer_due, report_of as report_of_restore}
use Rattle.saved_folders.specs.Exports.{WithTexts}
use Rattle.saved_folders.specs.Folders.{Texts, files_of}
use Rattle.dump_tools.specs.Due.{asked_due, due, Plan, Running, Runs, Leaves, report_of_run, answer_of_run, Restores, Application, report_of}
use Rattle.dump_tools.specs.Outputs.{World, world, Output, Tells, all_performed, IsPart, IsCut, CutShort, stores}
use Rattle.dump_tools.specs.Runs.{Run, run_of, IsApplied, MayCome, HasCut}
use Rattle.dump_tools.proofs.Ending.{made_of, holds}
use Rattle.dump_tools.proofs.Taking.{Came, alone}

pub same_world : (tree tree' : Option Tree) (left : Option Bytes) (printed printed' told told' : Option Bytes) → tree ≡ tree' → printed ≡ printed' → told ≡ told' → world tree left printed told ≡ world tree' left printed' told'
same_world tree tree' left printed printed' told told' a b c = rw (a, b, c) refl

-- ---- files that are stored

-- files that are stored one after another, and what is put out behind them
pub all_put : (files : List File) (more : List Output) (tree : Option Tree) (left printed told : Option Bytes) → all_performed (map stores files ++ more) (world tree left printed told) ≡ all_performed more (world (option_map (saved files) tree) left printed told)
all_put [] more None left printed told = refl
all_put [] more (Some t) left printed told = refl
all_put (file ∷ files) more None left printed told = all_put files more None left printed told
all_put (file ∷ files) more (Some t) left printed told = all_put files more (Some (insert t file.name file.text)) left printed told

pub whole_put : (files : List File) (tree : Option Tree) (left printed told : Option Bytes) → all_performed (map stores files) (world tree left printed told) ≡ world (option_map (saved files) tree) left printed told
whole_put [] None left printed told = refl
whole_put [] (Some t) left printed told = refl
whole_put (file ∷ files) None left printed told = whole_put files None left printed told
whole_put (file ∷ files) (Some t) left printed told = whole_put files (Some (insert t file.name file.text)) left printed told

-- ---- outputs that are cut

none_cut : (outputs : List Output) (before after : World) → after ≡ before → IsCut outputs before after
none_cut [] before after e = e
none_cut (output ∷ outputs) before after e = inl e

file_part : (file : File) (before after : Option Tree) (left printed told : Option Bytes) → TakesPrefix (λ text tree. insert tree file.name text) file.text before after → IsPart (stores file) (world before left printed told) (world after left printed told)
file_part file before after left printed told (inl e) = inl (ap (λ tree. world tree left printed told) e)
file_part file before after left printed told (inr h) = inr (record {
  front = take h.0 file.text;
  rest = drop h.0 file.text;
  split = sym (take-append-drop h.0 file.text);
  put = ap (λ tree. world tree left printed told) h.2;
})

files_cut : (later : List File) (more : List Output) (before after : Option Tree) (left printed told : Option Bytes) → IsCutFile later before after → IsCut (map stores later ++ more) (world before left printed told) (world after left printed told)
files_cut [] more before after left printed told e = none_cut more (world before left printed told) (world after left printed told) (ap (λ tree. world tree left printed told) e)
files_cut (file ∷ later) more before after left printed told h = file_part file before after left printed told h

split_files : (files whole later : List File) (more : List Output) → files ≡ whole ++ later → map stores files ++ more ≡ map stores whole ++ (map stores later ++ more)
split_files files whole later more e =
    ap (λ fs. map stores fs ++ more) e
    ∙ ap (λ os. os ++ more) (map-append stores whole later)
    ∙ append_assoc (map stores whole) (map stores later) more

-- the storing of these files ended on its way
pub folder_cut : (files : List File) (more : List Output) (before after : Option Tree) (left printed told : Option Bytes) → PartSaved files before after → CutShort (map stores files ++ more) (world before left printed told) (world after left printed told)
folder_cut files more before after left printed told s = record {
  whole = map stores s.whole;
  later = map stores s.later ++ more;
  split = split_files files s.whole s.later more s.split;
  cut = subst (λ w. IsCut (map stores s.later ++ more) w (world after left printed told)) (sym (whole_put s.whole before left printed told)) (files_cut s.later more (option_map (saved s.whole) before) after left printed told s.cut);
}

-- a first part of a text was told
pub told_part : (tree : Option Tree) (left printed told after : Option Bytes) (text : Bytes) → AppendsPart text told after → IsPart (Tells text) (world tree left printed told) (world tree left printed after)
told_part tree left printed told after text p = inr (record { front = p.front; rest = p.rest; split = p.split; put = ap (λ t. world tree left printed t) p.taken })

-- a whole text was told
pub told_whole : (tree : Option Tree) (left printed told after : Option Bytes) (text : Bytes) → Appends text told after → IsPart (Tells text) (world tree left printed told) (world tree left printed after)
told_whole tree left printed told after text a = inr (record { front = text; rest = []; split = sym (append-nil text); put = ap (λ t. world tree left printed t) a })

-- ---- runs that are cut short

-- nothing was put out
pub cut_none : (teller : Teller) (due : Result Plan Outcome) (before after : World) → after ≡ before → HasCut None teller due before after
cut_none teller due before after e = record { outputs = []; of_run = inl refl; cut = record { whole = []; later = []; split = refl; cut = e } }

-- the files are as they were, and so are the streams
pub cut_kept : (teller : Teller) (due : Result Plan Outcome) (tree tree' : Option Tree) (left printed told : Option Bytes) → tree' ≡ tree → HasCut None teller due (world tree left printed told) (world tree' left printed told)
cut_kept teller due tree tree' left printed told e = cut_none teller due (world tree left printed told) (world tree' left printed told) (ap (λ t. world t left printed told) e)

-- what is cut short of what is due
pub cut_due : (teller : Teller) (reads r : Option Bytes) (due d : Result Plan Outcome) (before after : World) → reads ≡ r → due ≡ d → HasCut r teller d before after → HasCut reads teller due before after
cut_due teller reads r due d before after one two h = subst (λ x. HasCut x teller due before after) (sym one) (subst (λ x. HasCut r teller x before after) (sym two) h)

-- what is due of the words, once they are read
pub due_asked : (words : List Bytes) (moment : Moment) (tree : Tree) (input : Bytes) (asked : Asked) → words_asked words ≡ Ok asked → due words moment tree input ≡ asked_due asked moment tree input
due_asked words moment tree input asked e = ap (λ (r : Result Asked Outcome). r >>= λ a. asked_due a moment tree input) e

-- ---- a run that stores files and tells a report

abbrev pub stored_run : List File → Bytes → Outcome → Run
stored_run files told answer = run_of (map stores files ++ Tells told ∷ []) answer

-- the storing of the files ended on its way
pub cut_in_files : (teller : Teller) (due : Result Plan Outcome) (files : List File) (report : Bytes) (answer : Outcome) → MayCome teller due (stored_run files report answer) → (before after : Option Tree) (left printed told : Option Bytes) → PartSaved files before after → HasCut None teller due (world before left printed told) (world after left printed told)
cut_in_files teller due files report answer may before after left printed told s = record {
  outputs = map stores files ++ Tells report ∷ [];
  of_run = inr (stored_run files report answer, alone teller due (stored_run files report answer) may, refl);
  cut = folder_cut files (Tells report ∷ []) before after left printed told s;
}

-- the telling of the report did
pub cut_in_told : (teller : Teller) (due : Result Plan Outcome) (files : List File) (report : Bytes) (answer : Outcome) → MayCome teller due (stored_run files report answer) → (before after : Option Tree) (left printed told told_after : Option Bytes) → after ≡ option_map (saved files) before → AppendsPart report told told_after → HasCut None teller due (world before left printed told) (world after left printed told_after)
cut_in_told teller due files report answer may before after left printed told told_after whole p = record {
  outputs = map stores files ++ Tells report ∷ [];
  of_run = inr (stored_run files report answer, alone teller due (stored_run files report answer) may, refl);
  cut = record {
    whole = map stores files;
    later = Tells report ∷ [];
    split = refl;
    cut = subst (λ w. IsPart (Tells report) w (world after left printed told_after))
        (ap (λ tree. world tree left printed told) whole ∙ sym (whole_put files before left printed told))
        (told_part after left printed told told_after report p);
  };
}

-- all of them were stored, and the report told
pub came_stored : (teller : Teller) (due : Result Plan Outcome) (files : List File) (report : Bytes) (answer : Outcome) → MayCome teller due (stored_run files report answer) → (before after : Option Tree) (left out_before out_after told_before told_after : Option Bytes)
    → after ≡ option_map (saved files) before → out_after ≡ out_before → Appends report told_before told_after → Came teller due answer (world before left out_before told_before) (world after left out_after told_after)
came_stored teller due files report answer may before after left out_before out_after told_before told_after whole kept told = record {
  run = stored_run files report answer;
  may = may;
  answers = refl;
  put = same_world after (option_map (saved files) before) left out_after out_before told_after (option_map (λ told. told ++ report) told_before) whole kept told
      ∙ sym (all_put files (Tells report ∷ []) before left out_before told_before);
}

-- the run in which a script is applied
pub may_apply : (plan : Application) (schemas : List SchemaRow) (text : Bytes) → Grown plan.rows schemas → named schemas ≡ catalogue_after boot plan.statements (named plan.rows) → IsNamespaces schemas text → IsApplied plan (stored_run (files_written plan.folder text) (report_of plan) Done)
may_apply plan schemas text g same n = record { text = text; comes = made_of plan schemas text g same n; holds = holds plan schemas text n; is = refl }

-- the run of a script on an opening
pub may_run : (teller : Teller) (plan : Running) (texts : Texts) → Leaves plan texts → MayCome teller (Ok (Runs plan)) (stored_run (files_of plan.folder texts) (report_of_run plan) (answer_of_run plan))
may_run teller plan texts leaves = inl (record { texts = texts; leaves = leaves; is = refl })

-- the run of a restore into a folder
pub may_restore : (teller : Teller) (plan : Restoring) (texts : Option WithTexts) → LeavesEnding plan.work.opening.cat plan.how (ending plan) texts → MayCome teller (Ok (Restores plan)) (stored_run (files_restored plan.folder texts) (report_of_restore plan) (answer_due plan))
may_restore teller plan texts leaves = inl (record { texts = texts; leaves = leaves; is = refl })
