-- One more piece of a file that is read on.
use Rattle.std.proofs.Common.{◌≡◌, ℕ, ◌+◌, ◌<◌, Bool, true, false, List, [], ◌∷◌, ◌++◌, length, take, drop, Result, Ok, Err, IfOk, refl, sym, ap, subst, ◌∙◌, arith}
use Rattle.std.proofs.lemmas.List.{append-nil, take-append-drop, drop-drop, take-append-le, take_all}
use Rattle.dump_ports.specs.Tree.{FillsFront}
use Rattle.data_rows.specs.declared.fault.CheckRowsError.{CheckRowsError}
use Rattle.data_rows.specs.declared.fault.CheckRowsError.TheVariants.{Fault}
use Rattle.data_rows.specs.declared.fault.CheckRowsError.TheVariants as faults
use Rattle.dump_files.specs.declared.stop.DumpStop.{DumpStop}
use Rattle.dump_files.specs.declared.stop.DumpStop.TheVariants.{BadRows, Memory}
use Rattle.dump_files.specs.Spelled.{Spelled}
use Rattle.dump_files.specs.Readings.{Reading, coming, behind, to_come}
use Rattle.dump_files.specs.Stops.{TellsFault, IsReadStop, told_of}

-- ---- answers of a table

ok_told : {X : Type 0} (table : ℕ) (answer : Result X CheckRowsError) (x : X) (P : X → Type 0) → Ok x ≡ told_of table answer → IfOk answer P → P x
ok_told table (Ok y) x P e p = let same : y ≡ x = cc in subst P same p
ok_told table (Err (Fault first)) x P e p = absurd cc
ok_told table (Err faults.Memory) x P e p = absurd cc

err_told : {X : Type 0} (table : ℕ) (answer : Result X CheckRowsError) (stop : DumpStop) (text : List ℕ) (due : Spelled) → Err stop ≡ told_of table answer → TellsFault answer due → IsReadStop table text due stop
err_told table (Ok y) stop text due e t = absurd cc
err_told table (Err (Fault first)) stop text due e t = let same : BadRows table first ≡ stop = cc in subst (IsReadStop table text due) same (refl, t)
err_told table (Err faults.Memory) stop text due e t = let same : Memory ≡ stop = cc in subst (IsReadStop table text due) same tt

-- a read of nothing into a buffer that isn't empty: nothing is left
nothing_left : (left buffer : List ℕ) (n : ℕ) → FillsFront left buffer n → 0 < length buffer → n ≡ 0 → left ≡ []
nothing_left [] buffer n f b e = refl
nothing_left (x ∷ left) buffer n f b e = let some : 0 < n = f.some b (omega arith) in absurd (omega arith)

-- what was read into a buffer stands in front in it
pub front_of : (len n : ℕ) (buffer rest now : List ℕ) → length buffer ≡ len → now ≡ take len (buffer ++ rest) → take n now ≡ take n buffer
front_of len n buffer rest now l is =
    ap (take n) (is ∙ take-append-le len buffer rest (omega arith) ∙ take_all len buffer (omega arith))

module _ (columns table : ℕ) (r : Reading) (rows at : ℕ) (held : List ℕ) (over : Bool) (is : record { rows = rows; at = at; held = held; over = over } ≡ r) (more : over ≡ false) (text buffer : List ℕ) (n : ℕ) (fills : FillsFront (drop at text) buffer n) where
  opened : to_come columns r text ≡ coming columns rows false (held ++ drop at text)
  opened = ap (λ (s : Reading). to_come columns s text) (sym is) ∙ ap (λ (b : Bool). coming columns rows b (held ++ drop at text)) more

  rows_are : r.rows ≡ rows
  rows_are = ap (λ (s : Reading). s.rows) (sym is)

  open_out : (out : List ℕ) (due : Spelled) → to_come columns r text ≡ due → behind out r.rows (to_come columns r text) ≡ behind out rows due
  open_out out due e = ap (λ (k : ℕ). behind out k (to_come columns r text)) rows_are ∙ ap (behind out rows) e

  -- ---- at the end

  module _ (some : 0 < length buffer) (none : n ≡ 0) where
    ended : to_come columns r text ≡ coming columns rows false held
    ended = opened ∙ ap (λ (rest : List ℕ). coming columns rows false (held ++ rest)) (nothing_left (drop at text) buffer n fills some none) ∙ ap (coming columns rows false) (append-nil held)

    pub ended_same : (line out new held' : List ℕ) (count : ℕ) (answer : Result ℕ CheckRowsError) → line ≡ held → Ok count ≡ told_of table answer
        → ((rest : List ℕ) → IfOk answer (λ c. behind out rows (coming columns rows false line) ≡ behind new c (coming columns c true rest)))
        → behind out r.rows (to_come columns r text) ≡ behind new count (coming columns count true (held' ++ drop at text))
    ended_same line out new held' count answer l e same =
        open_out out (coming columns rows false held) ended
        ∙ ap (λ (xs : List ℕ). behind out rows (coming columns rows false xs)) (sym l)
        ∙ ok_told table answer count (λ c. behind out rows (coming columns rows false line) ≡ behind new c (coming columns c true (held' ++ drop at text))) e (same (held' ++ drop at text))

    pub ended_due : (line : List ℕ) (answer : Result ℕ CheckRowsError) (stop : DumpStop) → line ≡ held → Err stop ≡ told_of table answer → TellsFault answer (coming columns rows false line) → IsReadStop table text (to_come columns r text) stop
    ended_due line answer stop l e tells =
        subst (λ (due : Spelled). IsReadStop table text due stop) (sym (ended ∙ ap (coming columns rows false) (sym l))) (err_told table answer stop text (coming columns rows false line) e tells)

  -- ---- before it

  module _ (piece : List ℕ) (cut : piece ≡ take n buffer) where
    left_is : to_come columns r text ≡ coming columns rows false (held ++ (piece ++ drop (at + n) text))
    left_is = opened ∙ ap (λ (rest : List ℕ). coming columns rows false (held ++ rest)) whole
      where
        whole : drop at text ≡ piece ++ drop (at + n) text
        whole =
            sym (take-append-drop n (drop at text))
            ∙ ap (λ (front : List ℕ). front ++ drop n (drop at text)) (sym fills.front ∙ sym cut)
            ∙ ap (λ (rest : List ℕ). piece ++ rest) (drop-drop n at text)

    pub next_same : (out new held' : List ℕ) (count : ℕ) (over' : Bool) (answer : Result (ℕ × Bool) CheckRowsError) → Ok (count, over') ≡ told_of table answer
        → ((behind_it : List ℕ) → IfOk answer (λ x. behind out rows (coming columns rows false (held ++ (piece ++ behind_it))) ≡ behind new x.0 (coming columns x.0 x.1 (held' ++ behind_it))))
        → behind out r.rows (to_come columns r text) ≡ behind new count (coming columns count over' (held' ++ drop (at + n) text))
    next_same out new held' count over' answer e same =
        open_out out (coming columns rows false (held ++ (piece ++ drop (at + n) text))) left_is
        ∙ ok_told table answer (count, over') (λ x. behind out rows (coming columns rows false (held ++ (piece ++ drop (at + n) text))) ≡ behind new x.0 (coming columns x.0 x.1 (held' ++ drop (at + n) text))) e (same (drop (at + n) text))

    pub next_due : (answer : Result (ℕ × Bool) CheckRowsError) (stop : DumpStop) → Err stop ≡ told_of table answer → ((behind_it : List ℕ) → TellsFault answer (coming columns rows false (held ++ (piece ++ behind_it)))) → IsReadStop table text (to_come columns r text) stop
    next_due answer stop e tells =
        subst (λ (due : Spelled). IsReadStop table text due stop) (sym left_is) (err_told table answer stop text (coming columns rows false (held ++ (piece ++ drop (at + n) text))) e (tells (drop (at + n) text)))
