-- Texts that are put where they are asked for.
use Rattle.std.proofs.Common.{◌≡◌, ℕ, ◌≤◌, arith, List, [], ◌∷◌, ◌++◌, map, Option, Some, None, Ok, Err, refl, sym, ap, subst, ◌∙◌, ◌⊎◌, inl, inr}
use Rattle.std.proofs.lemmas.List.{map-append}
use Rattle.dump_ports.specs.Tree.{Tree}
use Rattle.cat_model.specs.Values.{Bytes}
use Rattle.dump_files.specs.declared.stop.DumpStop.{DumpStop}
use Rattle.dump_files.specs.declared.stop.DumpStop.TheVariants as stops
use Rattle.dump_files.specs.Stops.{IsLate as IsLateStop}
use Rattle.dump_files.specs.Outlets.{Outside, outside}
use Rattle.dump_ports.specs.Faults.{HasRisen}
use Rattle.tool_words.specs.declared.outcome.Outcome.TheVariants.{Done}
use Rattle.tool_words.specs.declared.words.Teller.{Teller}
use Rattle.tool_words.specs.Lines.{Appends, AppendsPart}
use Rattle.dump_plain.specs.Dumps.{BadRow}
use Rattle.dump_plans.specs.Outcomes.{bad_row_outcome, stop_outcome}
use Rattle.dump_outputs.specs.Counts.{CountsOut}
use Rattle.dump_outputs.specs.Forms.{Putting}
use Rattle.dump_outputs.specs.Pieces.{Place, Printed, Stored, Patched, Piece, put_out, all_out, AreBegun, IsFront, PartOut}
use Rattle.dump_tools.specs.Due.{Puts, WerePut, were_put_by, dump_answer, dump_line, counts, Counted}
use Rattle.dump_tools.specs.Outputs.{World, world, Output, Tells, with_text, text_of, performed, all_performed, IsPart, IsCut, CutShort, put_at, puts}
use Rattle.dump_tools.specs.Runs.{run_of, IsEarly, HasCut}
use Rattle.dump_tools.specs.Stays.{TakesNone, AllTakeNone}
use Rattle.dump_tools.proofs.Counting.{alike}
use Rattle.dump_tools.proofs.Taking.{Came, alone, performed_both}
use Rattle.dump_tools.proofs.Putting.{told_part}

-- ---- what stands once pieces are put out

abbrev of_outside : Outside → Option Bytes → Option Bytes → World
of_outside o left told = world o.tree left o.written told

one_put : (piece : Piece) (o : Outside) (left told : Option Bytes) → performed (puts piece) (of_outside o left told) ≡ of_outside (put_out piece.place piece.text o) left told
one_put piece o left told = by piece.place
  where
    by : (place : Place) → performed (put_at place piece.text) (of_outside o left told) ≡ of_outside (put_out place piece.text o) left told
    by Printed = refl
    by (Stored name) = refl
    by (Patched name) = refl

all_put : (pieces : List Piece) (o : Outside) (left told : Option Bytes) → all_performed (map puts pieces) (of_outside o left told) ≡ of_outside (all_out pieces o) left told
all_put [] o left told = refl
all_put (piece ∷ pieces) o left told = ap (λ w. all_performed (map puts pieces) w) (one_put piece o left told) ∙ all_put pieces (put_out piece.place piece.text o) left told

-- all of them were
pub were_put : (pieces : List Piece) (tree tree' : Option Tree) (out out' told : Option Bytes) → outside tree' out' ≡ all_out pieces (outside tree out) → WerePut (map puts pieces) tree tree' out out' told told
were_put pieces tree tree' out out' told e left = ap (λ o. of_outside o left told) e ∙ sym (all_put pieces (outside tree out) left told)

-- or some first part
pub record PutFront (pieces : List Piece) (before after : Option Tree) (out out' told told' : Option Bytes) : Type 0 where
  pub front : List Piece
  pub is : IsFront pieces front
  pub put : WerePut (map puts front) before after out out' told told'

pub part_put : (pieces : List Piece) (tree tree' : Option Tree) (out out' told : Option Bytes) → PartOut pieces (outside tree out) (outside tree' out') → PutFront pieces tree tree' out out' told told
part_put pieces tree tree' out out' told p = record { front = p.front; is = p.is; put = were_put p.front tree tree' out out' told p.put }

-- what ends the putting of a text
pub late_early : (stop : DumpStop) → IsLateStop stop → IsEarly (stop_outcome stop)
late_early (stops.Missing name) late = elim late [ ]
late_early (stops.TooLarge size) late = elim late [ ]
late_early stops.ReadFault late = elim late [ ]
late_early (stops.BadRows table first) late = elim late [ ]
late_early stops.WriteFault late = tt
late_early stops.Memory late = tt

text_put : (place : Place) (text : Bytes) → text_of (put_at place text) ≡ text
text_put Printed text = refl
text_put (Stored name) text = refl
text_put (Patched name) text = refl

other_put : (place : Place) (text other : Bytes) → with_text (put_at place text) other ≡ put_at place other
other_put Printed text other = refl
other_put (Stored name) text other = refl
other_put (Patched name) text other = refl

part_cut : (later last : List Piece) (between after : World) → AreBegun later last → after ≡ all_performed (map puts last) between → IsCut (map puts later) between after
part_cut [] last between after b e = e ∙ ap (λ ps. all_performed (map puts ps) between) b
part_cut (piece ∷ later) last between after (inl b) e = inl (e ∙ ap (λ ps. all_performed (map puts ps) between) b)
part_cut (piece ∷ later) last between after (inr h) e = inr (record {
  front = h.0;
  rest = h.1;
  split = text_put piece.place piece.text ∙ h.2;
  put = e ∙ ap (λ ps. all_performed (map puts ps) between) h.3 ∙ ap (λ o. performed o between) (sym (other_put piece.place piece.text h.0));
})

pub front_cut : (pieces : List Piece) (before after : Option Tree) (left out out' told told' : Option Bytes) → PutFront pieces before after out out' told told' → CutShort (map puts pieces) (world before left out told) (world after left out' told')
front_cut pieces before after left out out' told told' p = record {
  whole = map puts p.is.whole;
  later = map puts p.is.later;
  split = ap (λ ps. map puts ps) p.is.split ∙ map-append puts p.is.whole p.is.later;
  cut = part_cut p.is.later p.is.last (all_performed (map puts p.is.whole) (world before left out told)) (world after left out' told') p.is.begun
      (p.put left ∙ ap (λ ps. all_performed (map puts ps) (world before left out told)) p.is.is
      ∙ ap (λ os. all_performed os (world before left out told)) (map-append puts p.is.whole p.is.last)
      ∙ performed_both (map puts p.is.whole) (map puts p.is.last) (world before left out told));
}

abbrev of_pieces : List Piece → Option BadRow → Putting
of_pieces pieces bad = record { pieces = pieces; bad = bad }

-- ---- runs that are cut short

-- and nothing was told
pub cut_put : (teller : Teller) (pieces : List Piece) (bad : Option BadRow) (before after : Option Tree) (left out out' told told' : Option Bytes) → PutFront pieces before after out out' told told' → HasCut None teller (Ok (Puts (of_pieces pieces bad))) (world before left out told) (world after left out' told')
cut_put teller pieces None before after left out out' told told' p =
    let run = run_of (map puts pieces) Done in
    record {
      outputs = run.outputs;
      of_run = inr (run, alone teller (Ok (Puts (of_pieces pieces None))) run refl, refl);
      cut = front_cut pieces before after left out out' told told' p;
    }
cut_put teller pieces (Some bad) before after left out out' told told' p =
    let line = dump_line (bad_row_outcome bad) in
    let run = run_of (map puts p.front ++ Tells line ∷ []) (bad_row_outcome bad) in
    record {
      outputs = run.outputs;
      of_run = inr (run, alone teller (Ok (Puts (of_pieces pieces (Some bad)))) run (p.front, p.is, refl), refl);
      cut = record { whole = map puts p.front; later = Tells line ∷ []; split = refl; cut = inl (p.put left) };
    }

-- and some of the line of the row that fails was told
pub cut_put_line : (teller : Teller) (pieces : List Piece) (bad : BadRow) (before after : Option Tree) (left out out' told told' : Option Bytes) → PutFront pieces before after out out' told told → AppendsPart (dump_line (bad_row_outcome bad)) told told' → HasCut None teller (Ok (Puts (of_pieces pieces (Some bad)))) (world before left out told) (world after left out' told')
cut_put_line teller pieces bad before after left out out' told told' p q =
    let line = dump_line (bad_row_outcome bad) in
    let run = run_of (map puts p.front ++ Tells line ∷ []) (bad_row_outcome bad) in
    record {
      outputs = run.outputs;
      of_run = inr (run, alone teller (Ok (Puts (of_pieces pieces (Some bad)))) run (p.front, p.is, refl), refl);
      cut = record {
        whole = map puts p.front;
        later = Tells line ∷ [];
        split = refl;
        cut = subst (λ w. IsPart (Tells line) w (world after left out' told')) (p.put left) (told_part after left out' told told' line q);
      };
    }

-- ---- a row that fails, whose line was told

told_behind : (front : List Piece) (before after : Option Tree) (out out' told told' : Option Bytes) (line : Bytes) → WerePut (map puts front) before after out out' told told → Appends line told told' → WerePut (map puts front ++ Tells line ∷ []) before after out out' told told'
told_behind front before after out out' told told' line p said left =
    ap (λ t. world after left out' t) said
    ∙ ap (λ w. performed (Tells line) w) (p left)
    ∙ sym (performed_both (map puts front) (Tells line ∷ []) (world before left out told))

pub put_bad : (pieces : List Piece) (bad : BadRow) (before after : Option Tree) (out out' told told' : Option Bytes) → PutFront pieces before after out out' told told → Appends (dump_line (bad_row_outcome bad)) told told' → were_put_by pieces (Some bad) before after out out' told told'
put_bad pieces bad before after out out' told told' p said = (p.front, p.is, told_behind p.front before after out out' told told' (dump_line (bad_row_outcome bad)) p.put said)

-- ---- a run that has ended

pub put_came : (teller : Teller) (pieces : List Piece) (bad : Option BadRow) (before after : Option Tree) (left out out' told told' : Option Bytes) → were_put_by pieces bad before after out out' told told'
    → Came teller (Ok (Puts (of_pieces pieces bad))) (dump_answer bad) (world before left out told) (world after left out' told')
put_came teller pieces None before after left out out' told told' h = record {
  run = run_of (map puts pieces) Done;
  may = refl;
  answers = refl;
  put = h left;
}
put_came teller pieces (Some bad) before after left out out' told told' h = record {
  run = run_of (map puts h.0 ++ Tells (dump_line (bad_row_outcome bad)) ∷ []) (bad_row_outcome bad);
  may = (h.0, h.1, refl);
  answers = refl;
  put = h.2 left;
}

-- ---- what takes nothing off standard input

piece_none : (place : Place) (text : Bytes) → TakesNone (put_at place text)
piece_none Printed text = tt
piece_none (Stored name) text = tt
piece_none (Patched name) text = tt

pub pieces_none : (pieces : List Piece) (more : List Output) → AllTakeNone more → AllTakeNone (map puts pieces ++ more)
pieces_none [] more h = h
pieces_none (piece ∷ pieces) more h = (piece_none piece.place piece.text, pieces_none pieces more h)

pub all_none : (pieces : List Piece) → AllTakeNone (map puts pieces)
all_none [] = tt
all_none (piece ∷ pieces) = (piece_none piece.place piece.text, all_none pieces)

-- ---- counts

-- a step that puts a text
pub counted_put : (X : Type 0) (stop : DumpStop) (r r' i w w' p p' l : ℕ) → IsLateStop stop → r' ≡ r → CountsOut {X = X} (Err stop) w w' p p' → Counted (stop_outcome stop) (counts r i w p l) (counts r' i w' p' l)
counted_put X (stops.Missing name) r r' i w w' p p' l late e k = elim late [ ]
counted_put X (stops.TooLarge size) r r' i w w' p p' l late e k = elim late [ ]
counted_put X stops.ReadFault r r' i w w' p p' l late e k = elim late [ ]
counted_put X (stops.BadRows table first) r r' i w w' p p' l late e k = elim late [ ]
counted_put X stops.WriteFault r r' i w w' p p' l late e k = (record { reads = same_le r r' e; inputs = same_le i i refl; writes = k.0; prints = k.1; lines = same_le l l refl }, either k.2)
  where
    same_le : (a b : ℕ) → b ≡ a → a ≤ b
    same_le a b e = omega arith

    either : HasRisen w w' ⊎ HasRisen p p' → HasRisen w w' ⊎ HasRisen p p' ⊎ HasRisen l l
    either (inl h) = inl h
    either (inr h) = inr (inl h)
counted_put X stops.Memory r r' i w w' p p' l late e k = alike r r' i i w w' p p' l l e refl k.0 k.1 refl
