-- Dumps that are printed: what ends one on its way, and what was printed by then.
use Rattle.std.proofs.Common.{◌≡◌, ℕ, Bool, true, false, cond, List, [], ◌∷◌, length, Option, Some, None, Result, Ok, refl, ap, subst, ◌⊎◌, inl, inr}
use Rattle.std.specs.Prelude.{nat_lt}
use Rattle.std.proofs.lemmas.Bool.{lt-ltb}
use Rattle.dump_ports.specs.Tree.{Tree, bytes_at}
use Rattle.dump_ports.specs.declared.moment.Moment.{Moment}
use Rattle.cat_rows.specs.declared.catalogue.Catalogue.{Catalogue}
use Rattle.exports.specs.Exports.{formed_of}
use Rattle.tool_words.specs.declared.words.DumpAsked.{DumpAsked}
use Rattle.tool_words.specs.Answers.{◌>>=◌}
use Rattle.cat_model.specs.Values.{Bytes}
use Rattle.dump_files.specs.declared.file.DataFile.{DataFile}
use Rattle.dump_files.specs.declared.stop.DumpStop.{DumpStop}
use Rattle.dump_files.specs.declared.stop.DumpStop.TheVariants as stops
use Rattle.dump_files.specs.Needed.{first_missing, first_large, stop_by, unready}
use Rattle.dump_files.specs.Stops.{most}
use Rattle.dump_plain.specs.Dumps.{BadRow}
use Rattle.dump_plain.specs.Stops.{HasLarge}
use Rattle.dump_plans.specs.Outcomes.{bad_row_outcome, stop_outcome}
use Rattle.tool_words.specs.declared.outcome.Outcome.{Outcome}
use Rattle.tool_words.specs.declared.words.Teller.{Teller}
use Rattle.tool_words.specs.Lines.{Appends, AppendsPart}
use Rattle.dump_tools.specs.Due.{Puts, chosen_due, dump_due, IsFinal, dump_answer, dump_line, were_put_by}
use Rattle.dump_outputs.specs.Forms.{IsStop}
use Rattle.dump_outputs.specs.Pieces.{Piece}
use Rattle.dump_tools.specs.Outputs.{world}
use Rattle.dump_tools.specs.Runs.{HasCut}
use Rattle.dump_tools.proofs.Pieces.{PutFront, put_bad, cut_put, cut_put_line}

-- ---- what is due of a folder

pub catalogue_read : (asked : DumpAsked) (moment : Moment) (tree : Tree) (cat : Catalogue) → formed_of asked.folder tree ≡ Ok cat → dump_due asked moment tree ≡ chosen_due asked moment tree cat
unfolding dump_due
catalogue_read asked moment tree cat e = ap (λ (r : Result Catalogue Outcome). r >>= chosen_due asked moment tree) e

-- ---- what ends a dump

large : (tree : Tree) (files : List DataFile) → first_large tree files ≡ None → HasLarge tree files → ⊥
large tree [] e h = h
large tree (file ∷ files) e (inl more) = taken (nat_lt most (length (bytes_at tree file.name))) (lt-ltb most (length (bytes_at tree file.name)) more) e
  where
    taken : (b : Bool) → b ≡ true → cond b (Some (length (bytes_at tree file.name))) (first_large tree files) ≡ None → ⊥
    taken true t h = cc
    taken false t h = cc
large tree (file ∷ files) e (inr h) = large tree files (others (nat_lt most (length (bytes_at tree file.name))) e) h
  where
    others : (b : Bool) → cond b (Some (length (bytes_at tree file.name))) (first_large tree files) ≡ None → first_large tree files ≡ None
    others true h = absurd cc
    others false h = h

not_large : (tree : Tree) (files : List DataFile) → unready tree files ≡ None → HasLarge tree files → ⊥
unfolding unready
not_large tree files e h = large tree files (by (first_missing tree files) (first_large tree files) e) h
  where
    by : (m : Option Bytes) (l : Option ℕ) → stop_by m l ≡ None → l ≡ None
    by (Some name) l f = absurd cc
    by None (Some size) f = absurd cc
    by None None f = refl

-- what isn't a failed call, nor want of memory, is a row that fails
pub stop_is_bad : (tree : Tree) (files : List DataFile) (due : Option BadRow) (stop : DumpStop) → unready tree files ≡ None → IsStop tree files due stop → IsFinal (stop_outcome stop) → (bad : BadRow) × (due ≡ Some bad) × (stop_outcome stop ≡ bad_row_outcome bad)
stop_is_bad tree files due (stops.Missing name) ready h f = elim h [ ]
stop_is_bad tree files due (stops.TooLarge size) ready h f = elim (not_large tree files ready h.1) [ ]
stop_is_bad tree files due stops.ReadFault ready h f = elim f [ ]
stop_is_bad tree files due (stops.BadRows table first) ready h f = (record { table = table; first = first }, h, refl)
stop_is_bad tree files due stops.WriteFault ready h f = elim f [ ]
stop_is_bad tree files due stops.Memory ready h f = elim f [ ]

-- so it is the answer that is due
pub stop_answers : (tree : Tree) (files : List DataFile) (due : Option BadRow) (stop : DumpStop) (answer : Outcome) → unready tree files ≡ None → IsStop tree files due stop → answer ≡ stop_outcome stop → IsFinal answer → answer ≡ dump_answer due
stop_answers tree files due stop answer ready h e f =
    let bad = stop_is_bad tree files due stop ready h (subst IsFinal e f) in
    rw (e, bad.1) bad.2

-- ---- what was put out by then

-- the row that fails was told
pub stop_put : (tree : Tree) (files : List DataFile) (due : Option BadRow) (stop : DumpStop) (pieces : List Piece) (before after : Option Tree) (out out' told told' : Option Bytes) → unready tree files ≡ None → IsStop tree files due stop → IsFinal (stop_outcome stop)
    → PutFront pieces before after out out' told told → Appends (dump_line (stop_outcome stop)) told told' → were_put_by pieces due before after out out' told told'
stop_put tree files due stop pieces before after out out' told told' ready h f p line =
    let bad = stop_is_bad tree files due stop ready h f in
    rw (bad.1) (put_bad pieces bad.0 before after out out' told told' p (rw (bad.2) at line))

-- whatever ended it
pub cut_stop : (teller : Teller) (tree : Tree) (files : List DataFile) (due : Option BadRow) (stop : DumpStop) (pieces : List Piece) (before after : Option Tree) (left out out' told told' : Option Bytes) → unready tree files ≡ None → IsStop tree files due stop
    → PutFront pieces before after out out' told told → (told' ≡ told) ⊎ (IsFinal (stop_outcome stop) × AppendsPart (dump_line (stop_outcome stop)) told told')
    → HasCut None teller (Ok (Puts (record { pieces = pieces; bad = due }))) (world before left out told) (world after left out' told')
cut_stop teller tree files due stop pieces before after left out out' told told' ready h p (inl same) = rw (same) (cut_put teller pieces due before after left out out' told told p)
cut_stop teller tree files due stop pieces before after left out out' told told' ready h p (inr (f, q)) =
    let bad = stop_is_bad tree files due stop ready h f in
    rw (bad.1) (cut_put_line teller pieces bad.0 before after left out out' told told' p (rw (bad.2) at q))
