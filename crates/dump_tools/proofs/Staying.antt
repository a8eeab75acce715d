-- What outputs leave as it was.
use Rattle.std.proofs.Common.{◌≡◌, ◌≢◌, false, cond, List, [], ◌∷◌, ◌++◌, map, Option, Some, None, option_map, Result, Ok, Err, refl, sym, ap, subst, ◌∙◌, inl, inr, append-nil}
use Rattle.std.specs.declared.cmp.Ordering.{Ordering}
use Rattle.std.specs.declared.cmp.Ordering.TheVariants.{Less, Equal, Greater}
use Rattle.std.specs.Ordering.{eq_by_cmp, is_eq}
use Rattle.std.specs.FinMap.{get-insert, insert, nat_cmp-IsAntisymmetric, slice_cmp-IsAntisymmetric}
use Rattle.std.specs.Cmp.Lexicographic.{nat_list_cmp_total}
use Rattle.std.specs.Option.{option_map_or}
use Rattle.dump_ports.specs.Tree.{Tree, text_at, overwritten, patched}
use Rattle.cat_rows.specs.declared.table.SysTable.{SysTable}
use Rattle.cat_model.specs.Values.{Bytes, bytes_cmp, Named}
use Rattle.dump_plain.specs.Dumps.{BadRow}
use Rattle.tool_words.specs.declared.outcome.Outcome.{Outcome}
use Rattle.tool_words.specs.declared.words.Teller.{Teller}
use Rattle.schema_folders.specs.Folder.{IsElsewhere, all_tables, table_written, table_files, marker_written, files_written}
use Rattle.saved_folders.specs.Files.{File}
use Rattle.dump_tools.specs.Outputs.{World, Output, Stores, Patches, Writes, Tells, Takes, with_text, performed, all_performed, IsPart, IsCut, CutShort, stores}
use Rattle.std.specs.List.{AllByRecursion}
use Rattle.restore_tools.specs.Written.{files_written as files_restored}
use Rattle.restore_tools.specs.Due.{Restoring, report_of as report_of_restore}
use Rattle.saved_folders.specs.Folders.{files_of}
use Rattle.dump_tools.specs.Runs.{Run, IsCompared, put_by, MayBeRun, MayBeRestored, MayCome, MayRun}
use Rattle.dump_tools.specs.Due.{Plan, Applies, Running, Runs, Puts, Restores, Compares, dump_line, report_of, report_of_run}
use Rattle.dump_tools.specs.Stays.{IsOther, AreOthers, Keeps, IsSilent, AreSilent, TakesNone, AllTakeNone}
use Rattle.dump_plans.specs.Outcomes.{bad_row_outcome}
use Rattle.dump_outputs.specs.Pieces.{Piece}
use Rattle.dump_tools.proofs.Taking.{came}
use Rattle.dump_tools.proofs.Pieces.{pieces_none, all_none}

not_tied : (a b : Bytes) (o : Ordering) → bytes_cmp a b ≡ o → a ≢ b → is_eq o ≡ false
not_tied a b Less e n = refl
not_tied a b Equal e n = elim (n (slice_cmp-IsAntisymmetric nat_cmp-IsAntisymmetric a b e)) [ ]
not_tied a b Greater e n = refl

apart : (a b : Bytes) → a ≢ b → eq_by_cmp bytes_cmp a b ≡ false
apart a b n = not_tied a b (bytes_cmp a b) refl n

other_text : (name file text : Bytes) (tree : Tree) → name ≢ file → text_at (insert tree file text) name ≡ text_at tree name
other_text name file text tree n =
    get-insert nat_list_cmp_total tree file text name
    ∙ ap (λ t. cond t (Some text) (text_at tree name)) (apart name file n)

-- one output
one_keeps : (name : Bytes) (output : Output) (w : World) → IsOther name output → Keeps name w (performed output w)
one_keeps name (Stores file text) w n = of w.tree
  where
    of : (tree : Option Tree) → option_map (λ t. text_at t name) (option_map (λ t. insert t file text) tree) ≡ option_map (λ t. text_at t name) tree
    of None = refl
    of (Some t) = ap Some (other_text name file text t n)
one_keeps name (Patches file text) w n = of w.tree
  where
    there : (t : Tree) (found : Option Bytes) → text_at (option_map_or (λ old. insert t file (overwritten 0 text old)) found t) name ≡ text_at t name
    there t None = refl
    there t (Some old) = other_text name file (overwritten 0 text old) t n

    of : (tree : Option Tree) → option_map (λ t. text_at t name) (option_map (patched file 0 text) tree) ≡ option_map (λ t. text_at t name) tree
    of None = refl
    of (Some t) = ap Some (there t (text_at t file))
one_keeps name (Writes text) w n = refl
one_keeps name (Tells text) w n = refl
one_keeps name (Takes text) w n = refl

same_kind : (name : Bytes) (output : Output) (text : Bytes) → IsOther name output → IsOther name (with_text output text)
same_kind name (Stores file old) text n = n
same_kind name (Patches file old) text n = n
same_kind name (Writes old) text n = tt
same_kind name (Tells old) text n = tt
same_kind name (Takes old) text n = tt

all_keep : (name : Bytes) (outputs : List Output) (w : World) → AreOthers name outputs → Keeps name w (all_performed outputs w)
all_keep name [] w n = refl
all_keep name (output ∷ outputs) w n = all_keep name outputs (performed output w) n.1 ∙ one_keeps name output w n.0

part_keeps : (name : Bytes) (output : Output) (before after : World) → IsOther name output → IsPart output before after → Keeps name before after
part_keeps name output before after n (inl e) = ap (λ w. option_map (λ tree. text_at tree name) w.tree) e
part_keeps name output before after n (inr p) =
    ap (λ w. option_map (λ tree. text_at tree name) w.tree) p.put
    ∙ one_keeps name (with_text output p.front) before (same_kind name output p.front n)

cut_keeps : (name : Bytes) (outputs : List Output) (before after : World) → AreOthers name outputs → IsCut outputs before after → Keeps name before after
cut_keeps name [] before after n e = ap (λ w. option_map (λ tree. text_at tree name) w.tree) e
cut_keeps name (output ∷ outputs) before after n p = part_keeps name output before after n.0 p

firsts : (name : Bytes) (xs ys : List Output) → AreOthers name (xs ++ ys) → AreOthers name xs
firsts name [] ys h = tt
firsts name (x ∷ xs) ys h = (h.0, firsts name xs ys h.1)

lasts : (name : Bytes) (xs ys : List Output) → AreOthers name (xs ++ ys) → AreOthers name ys
lasts name [] ys h = h
lasts name (x ∷ xs) ys h = lasts name xs ys h.1

pub short_keeps : (outputs : List Output) (before after : World) (name : Bytes) → CutShort outputs before after → AreOthers name outputs → Keeps name before after
short_keeps outputs before after name s n =
    let all : AreOthers name (s.whole ++ s.later) = subst (λ os. AreOthers name os) s.split n in
    cut_keeps name s.later (all_performed s.whole before) after (lasts name s.whole s.later all) s.cut
    ∙ all_keep name s.whole before (firsts name s.whole s.later all)

-- ---- standard input

one_left : (output : Output) (w : World) → TakesNone output → (performed output w).left ≡ w.left
one_left (Stores file text) w h = refl
one_left (Patches file text) w h = refl
one_left (Writes text) w h = refl
one_left (Tells text) w h = refl
one_left (Takes text) w h = elim h [ ]

still_none : (output : Output) (text : Bytes) → TakesNone output → TakesNone (with_text output text)
still_none (Stores file old) text h = tt
still_none (Patches file old) text h = tt
still_none (Writes old) text h = tt
still_none (Tells old) text h = tt
still_none (Takes old) text h = elim h [ ]

all_left : (outputs : List Output) (w : World) → AllTakeNone outputs → (all_performed outputs w).left ≡ w.left
all_left [] w h = refl
all_left (output ∷ outputs) w h = all_left outputs (performed output w) h.1 ∙ one_left output w h.0

cut_left : (outputs : List Output) (before after : World) → AllTakeNone outputs → IsCut outputs before after → after.left ≡ before.left
cut_left [] before after h e = ap (λ w. w.left) e
cut_left (output ∷ outputs) before after h (inl e) = ap (λ w. w.left) e
cut_left (output ∷ outputs) before after h (inr p) = ap (λ w. w.left) p.put ∙ one_left (with_text output p.front) before (still_none output p.front h.0)

first_none : (xs ys : List Output) → AllTakeNone (xs ++ ys) → AllTakeNone xs
first_none [] ys h = tt
first_none (x ∷ xs) ys h = (h.0, first_none xs ys h.1)

last_none : (xs ys : List Output) → AllTakeNone (xs ++ ys) → AllTakeNone ys
last_none [] ys h = h
last_none (x ∷ xs) ys h = last_none xs ys h.1

pub short_left : (outputs : List Output) (before after : World) → CutShort outputs before after → AllTakeNone outputs → after.left ≡ before.left
short_left outputs before after s n =
    let all : AllTakeNone (s.whole ++ s.later) = subst (λ os. AllTakeNone os) s.split n in
    cut_left s.later (all_performed s.whole before) after (last_none s.whole s.later all) s.cut
    ∙ all_left s.whole before (first_none s.whole s.later all)

-- ---- standard output

one_printed : (output : Output) (w : World) → IsSilent output → (performed output w).printed ≡ w.printed
one_printed (Stores file text) w h = refl
one_printed (Patches file text) w h = refl
one_printed (Writes text) w h = elim h [ ]
one_printed (Tells text) w h = refl
one_printed (Takes text) w h = refl

still_silent : (output : Output) (text : Bytes) → IsSilent output → IsSilent (with_text output text)
still_silent (Stores file old) text h = tt
still_silent (Patches file old) text h = tt
still_silent (Writes old) text h = elim h [ ]
still_silent (Tells old) text h = tt
still_silent (Takes old) text h = tt

all_printed : (outputs : List Output) (w : World) → AreSilent outputs → (all_performed outputs w).printed ≡ w.printed
all_printed [] w h = refl
all_printed (output ∷ outputs) w h = all_printed outputs (performed output w) h.1 ∙ one_printed output w h.0

cut_printed : (outputs : List Output) (before after : World) → AreSilent outputs → IsCut outputs before after → after.printed ≡ before.printed
cut_printed [] before after h e = ap (λ w. w.printed) e
cut_printed (output ∷ outputs) before after h (inl e) = ap (λ w. w.printed) e
cut_printed (output ∷ outputs) before after h (inr p) = ap (λ w. w.printed) p.put ∙ one_printed (with_text output p.front) before (still_silent output p.front h.0)

first_silent : (xs ys : List Output) → AreSilent (xs ++ ys) → AreSilent xs
first_silent [] ys h = tt
first_silent (x ∷ xs) ys h = (h.0, first_silent xs ys h.1)

last_silent : (xs ys : List Output) → AreSilent (xs ++ ys) → AreSilent ys
last_silent [] ys h = h
last_silent (x ∷ xs) ys h = last_silent xs ys h.1

pub short_printed : (outputs : List Output) (before after : World) → CutShort outputs before after → AreSilent outputs → after.printed ≡ before.printed
short_printed outputs before after s n =
    let all : AreSilent (s.whole ++ s.later) = subst (λ os. AreSilent os) s.split n in
    cut_printed s.later (all_performed s.whole before) after (last_silent s.whole s.later all) s.cut
    ∙ all_printed s.whole before (first_silent s.whole s.later all)

-- ---- runs

pub whole_short : (outputs : List Output) (before : World) → CutShort outputs before (all_performed outputs before)
whole_short outputs before = record { whole = outputs; later = []; split = sym (append-nil outputs); cut = refl }

pub folder_alone : (folder namespaces report name : Bytes) → IsElsewhere folder name → AreOthers name (map stores (files_written folder namespaces) ++ Tells report ∷ [])
unfolding table_files
folder_alone folder namespaces report name e = of all_tables
  where
    of : (tables : List SysTable) → AreOthers name (map stores (map (table_written folder namespaces) tables ++ marker_written folder ∷ []) ++ Tells report ∷ [])
    of [] = (e.marker, (tt, tt))
    of (table ∷ tables) = (e.table table, of tables)

pub stored_silent : (files : List File) (report : Bytes) → AreSilent (map stores files ++ Tells report ∷ [])
stored_silent [] report = (tt, tt)
stored_silent (file ∷ files) report = (tt, stored_silent files report)

pub stored_alone : (files : List File) (report name : Bytes) → AllByRecursion (λ file. name ≢ file.name) files → AreOthers name (map stores files ++ Tells report ∷ [])
stored_alone [] report name apart = (tt, tt)
stored_alone (file ∷ files) report name apart = (apart.0, stored_alone files report name apart.1)

-- ---- what takes nothing off standard input

stored_none : (files : List File) (report : Bytes) → AllTakeNone (map stores files ++ Tells report ∷ [])
stored_none [] report = (tt, tt)
stored_none (file ∷ files) report = (tt, stored_none files report)

run_none : (teller : Teller) (plan : Running) (run : Run) → MayBeRun teller plan run → AllTakeNone run.outputs
run_none teller plan run (inl ran) = subst (λ (r : Run). AllTakeNone r.outputs) (sym ran.is) (stored_none (files_of plan.folder ran.texts) (report_of_run plan))
run_none teller plan run (inr h) = subst (λ (r : Run). AllTakeNone r.outputs) (sym h.2) (tt, tt)

restored_none : (teller : Teller) (plan : Restoring) (run : Run) → MayBeRestored teller plan run → AllTakeNone run.outputs
restored_none teller plan run (inl restored) = subst (λ (r : Run). AllTakeNone r.outputs) (sym restored.is) (stored_none (files_restored plan.folder restored.texts) (report_of_restore plan))
restored_none teller plan run (inr h) = subst (λ (r : Run). AllTakeNone r.outputs) (sym h.2) (tt, tt)

compared_none : (teller : Teller) (a b : Named) (run : Run) → IsCompared teller a b run → AllTakeNone run.outputs
compared_none teller a b run (inl h) = subst (λ (r : Run). AllTakeNone r.outputs) (sym h.1) tt
compared_none teller a b run (inr h) = subst (λ (r : Run). AllTakeNone r.outputs) (sym h.2) (tt, tt)

put_none : (pieces : List Piece) (bad : Option BadRow) (run : Run) → put_by pieces bad run → AllTakeNone run.outputs
put_none pieces None run may = subst (λ (r : Run). AllTakeNone r.outputs) (sym may) (all_none pieces)
put_none pieces (Some bad) run may = subst (λ (r : Run). AllTakeNone r.outputs) (sym may.2) (pieces_none may.0 (Tells (dump_line (bad_row_outcome bad)) ∷ []) (tt, tt))

pub later_none : (teller : Teller) (due : Result Plan Outcome) (run : Run) → MayCome teller due run → AllTakeNone run.outputs
later_none teller (Err refusal) run may = subst (λ (r : Run). AllTakeNone r.outputs) (sym may) (tt, tt)
later_none teller (Ok (Applies plan)) run may = subst (λ (r : Run). AllTakeNone r.outputs) (sym may.is) (stored_none (files_written plan.folder may.text) (report_of plan))
later_none teller (Ok (Runs plan)) run may = run_none teller plan run may
later_none teller (Ok (Puts plan)) run may = put_none plan.pieces plan.bad run may
later_none teller (Ok (Restores plan)) run may = restored_none teller plan run may
later_none teller (Ok (Compares a b)) run may = compared_none teller a b run may

pub unread_none : (teller : Teller) (due : Result Plan Outcome) (run : Run) → MayRun None teller due run → AllTakeNone run.outputs
unread_none teller due run may = later_none teller due run (came teller due run may)
