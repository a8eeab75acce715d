-- Rows of a directory's entries one after another.
use Rattle.std.proofs.Common.{◌≡◌, ℕ, ◌+◌, ◌<◌, List, [], ◌∷◌, ◌++◌, length, take, drop, get_or, Option, Result, Ok, Err, ap, ◌∙◌, sym, refl, append_assoc}
use Rattle.std.proofs.lemmas.List.{drop_more, take_more, map_push, append-nil}
use Rattle.std.specs.Global.{Vec}
use Rattle.dump_ports.specs.Tree.{Tree}
use Rattle.toc_parts.specs.Parts.{◌>>=◌}
use Rattle.toc_entry.specs.declared.entry.Entry.{Entry}
use Rattle.fmt_directory.specs.declared.fault.DirFault.{DirFault}
use Rattle.fmt_directory.specs.Directories.{Directory}
use Rattle.fmt_custom.specs.Customs.{Custom}
use Rattle.archive_scripts.specs.Directories.{rows_within}
use Rattle.archive_scripts.specs.Scripts.{custom_rows}
use Rattle.list_files.specs.Lists.{entries_at}
use Rattle.restore_input.specs.Answers.{texts_seen}
use Rattle.restore_input.specs.Inputs.{input, custom_texts, with_text, texts_due, directory_input}

abbrev pub Texts : Type 0
Texts = List (Option (List ℕ))

-- rows that were read, and those of the entries to come
abbrev pub before : Texts → Result Texts DirFault → Result Texts DirFault
before first later = later >>= λ texts. Ok (first ++ texts)

pub begun : (later : Result Texts DirFault) (first : List (Option (Vec ℕ))) → first ≡ [] → before (texts_seen first) later ≡ later
begun (Ok texts) first none = ap (λ (xs : List (Option (Vec ℕ))). Ok (texts_seen xs ++ texts)) none
begun (Err fault) first none = refl

joined : (first : Texts) (text : Option (List ℕ)) (later : Result Texts DirFault) → before (first ++ text ∷ []) later ≡ before first (with_text text later)
joined first text (Ok texts) = ap (λ (xs : Texts). Ok xs) (append_assoc first (text ∷ []) texts)
joined first text (Err fault) = refl

at_entry : (d : Directory) (tree : Tree) (used : ℕ) (es : List Entry) (k : ℕ) (e : Entry) → k < length es → e ≡ get_or es k e →
    texts_due d tree used (drop k es) ≡ (rows_within d tree used e.dump_id >>= λ x. with_text x.0 (texts_due d tree x.1 (drop (k + 1) es)))
unfolding texts_due
at_entry d tree used es k e below is =
    ap (texts_due d tree used) (drop_more es k e below ∙ ap (λ (x : Entry). x ∷ drop (k + 1) es) (sym is))

pub text_next : (d : Directory) (tree : Tree) (used : ℕ) (first : Texts) (es : List Entry) (k : ℕ) (e : Entry) (text : Option (List ℕ)) (n : ℕ) (now : Texts) (whole : Result Texts DirFault) →
    k < length es → e ≡ get_or es k e → rows_within d tree used e.dump_id ≡ Ok (text, n) → now ≡ first ++ text ∷ [] →
    before first (texts_due d tree used (drop k es)) ≡ whole → before now (texts_due d tree n (drop (k + 1) es)) ≡ whole
text_next d tree used first es k e text n now whole below is due added so =
    ap (λ (xs : Texts). before xs (texts_due d tree n (drop (k + 1) es))) added
    ∙ joined first text (texts_due d tree n (drop (k + 1) es))
    ∙ sym (ap (before first) (at_entry d tree used es k e below is ∙ ap (λ (r : Result (Option (List ℕ) × ℕ) DirFault). r >>= λ x. with_text x.0 (texts_due d tree x.1 (drop (k + 1) es))) due))
    ∙ so

pub text_stops : (d : Directory) (tree : Tree) (used : ℕ) (first : Texts) (es : List Entry) (k : ℕ) (e : Entry) (f : DirFault) (whole : Result Texts DirFault) →
    k < length es → e ≡ get_or es k e → rows_within d tree used e.dump_id ≡ Err f →
    before first (texts_due d tree used (drop k es)) ≡ whole → whole ≡ Err f
text_stops d tree used first es k e f whole below is due so =
    sym so
    ∙ ap (before first) (at_entry d tree used es k e below is ∙ ap (λ (r : Result (Option (List ℕ) × ℕ) DirFault). r >>= λ x. with_text x.0 (texts_due d tree x.1 (drop (k + 1) es))) due)

pub text_last : (d : Directory) (tree : Tree) (used : ℕ) (first : Texts) (es : List Entry) (k : ℕ) (whole : Result Texts DirFault) →
    drop k es ≡ [] → before first (texts_due d tree used (drop k es)) ≡ whole → whole ≡ Ok first
unfolding texts_due
text_last d tree used first es k whole ended so = sym so ∙ ap (λ (xs : List Entry). before first (texts_due d tree used xs)) ended ∙ ap (λ (xs : Texts). Ok xs) (append-nil first)

-- ---- custom archives

pub custom_next : (custom : Custom) (es : List Entry) (k : ℕ) (e : Entry) (first after : List (Option (Vec ℕ))) → texts_seen first ≡ custom_texts custom (take k es) → texts_seen after ≡ texts_seen first ++ custom_rows custom e.dump_id ∷ [] →
    k < length es → e ≡ get_or es k e → texts_seen after ≡ custom_texts custom (take (k + 1) es)
custom_next custom es k e first after so added below is =
    added
    ∙ ap (λ (xs : Texts). xs ++ custom_rows custom e.dump_id ∷ []) so
    ∙ sym (map_push (λ (x : Entry). custom_rows custom x.dump_id) (take k es) e)
    ∙ ap (custom_texts custom) (ap (λ (x : Entry). take k es ++ x ∷ []) is ∙ sym (take_more es k e below))

-- ---- the entries of a directory at places, with their rows

pub input_stops : (d : Directory) (tree : Tree) (used : ℕ) (places : List ℕ) (es : List Entry) (f : DirFault) → es ≡ entries_at d.entries places → texts_due d tree used es ≡ Err f → directory_input d tree used places ≡ Err f
input_stops d tree used places es f are due =
    ap (λ (r : Result Texts DirFault). r >>= λ texts. Ok (input (entries_at d.entries places) texts)) (ap (texts_due d tree used) (sym are) ∙ due)

pub input_ends : (d : Directory) (tree : Tree) (used : ℕ) (places : List ℕ) (es taken : List Entry) (texts : Texts) → es ≡ entries_at d.entries places → taken ≡ entries_at d.entries places → texts_due d tree used es ≡ Ok texts → directory_input d tree used places ≡ Ok (input taken texts)
input_ends d tree used places es taken texts are own due =
    ap (λ (r : Result Texts DirFault). r >>= λ ts. Ok (input (entries_at d.entries places) ts)) (ap (texts_due d tree used) (sym are) ∙ due)
    ∙ ap (λ (xs : List Entry). Ok (input xs texts)) (sym own)
