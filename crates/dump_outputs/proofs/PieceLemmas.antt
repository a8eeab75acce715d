-- Texts that are put out one after another.
use Rattle.std.proofs.Common.{◌≡◌, ℕ, ◌≤◌, List, [], ◌∷◌, ◌++◌, Option, Some, None, Result, Ok, Err, refl, ◌∙◌, ◌⊎◌, inl, inr, arith}
use Rattle.dump_files.specs.declared.stop.DumpStop.{DumpStop}
use Rattle.dump_files.specs.declared.stop.DumpStop.TheVariants as stops
use Rattle.dump_files.specs.Outlets.{Outside, outputs, IsBegun, CountsPut}
use Rattle.dump_outputs.specs.Counts.{CountsOut}
use Rattle.dump_outputs.specs.Pieces.{place_of, Piece, put_out, all_out, AreBegun, PartOut}

abbrev a_piece : Option (List ℕ) → List ℕ → Piece
a_piece target text = record { place = place_of target; text = text }

-- one text
pub one_out : (target : Option (List ℕ)) (text : List ℕ) (o : Outside) → outputs target text o ≡ all_out (a_piece target text ∷ []) o
one_out None text o = refl
one_out (Some name) text o = refl

-- texts behind others
pub all_out_both : (xs ys : List Piece) (o : Outside) → all_out (xs ++ ys) o ≡ all_out ys (all_out xs o)
all_out_both [] ys o = refl
all_out_both (x ∷ xs) ys o = all_out_both xs ys (put_out x.place x.text o)

none_begun : (later : List Piece) → AreBegun later []
none_begun [] = refl
none_begun (piece ∷ later) = inl refl

-- nothing was put out
pub nothing_out : (pieces : List Piece) (before after : Outside) → after ≡ before → PartOut pieces before after
nothing_out pieces before after e = record {
  front = [];
  is = record { whole = []; later = pieces; split = refl; last = []; begun = none_begun pieces; is = refl };
  put = e;
}

-- a first part of the first text
pub begun_out : (target : Option (List ℕ)) (text : List ℕ) (more : List Piece) (before after : Outside) → IsBegun target text before after → PartOut (a_piece target text ∷ more) before after
begun_out target text more before after (inl e) = nothing_out (a_piece target text ∷ more) before after e
begun_out target text more before after (inr h) = record {
  front = a_piece target h.0 ∷ [];
  is = record {
    whole = [];
    later = a_piece target text ∷ more;
    split = refl;
    last = a_piece target h.0 ∷ [];
    begun = inr (h.0, h.1, h.2, refl);
    is = refl;
  };
  put = h.3 ∙ one_out target h.0 before;
}

-- a place is as it was, or holds nothing
pub begun_none : (target : Option (List ℕ)) (text : List ℕ) (before after : Outside) → (after ≡ before) ⊎ (after ≡ outputs target [] before) → PartOut (a_piece target text ∷ []) before after
begun_none target text before after (inl e) = nothing_out (a_piece target text ∷ []) before after e
begun_none target text before after (inr e) = begun_out target text [] before after (inr ([], text, refl, e))

-- ---- counts

same_le : (a b : ℕ) → b ≡ a → a ≤ b
same_le a b e = omega arith

pub counts_whole : {X Y : Type 0} (x : X) (y : Y) (target : Option (List ℕ)) (w w' p p' : ℕ) → CountsPut target (Ok x) w w' p p' → CountsOut (Ok y) w w' p p'
counts_whole x y None w w' p p' c = c
counts_whole x y (Some name) w w' p p' c = c

pub counts_stop : (X Y : Type 0) (target : Option (List ℕ)) (stop : DumpStop) (w w' p p' : ℕ) → CountsPut {X = X} target (Err stop) w w' p p' → CountsOut {X = Y} (Err stop) w w' p p'
counts_stop X Y None (stops.Missing name) w w' p p' c = c
counts_stop X Y None (stops.TooLarge size) w w' p p' c = c
counts_stop X Y None stops.ReadFault w w' p p' c = c
counts_stop X Y None (stops.BadRows table first) w w' p p' c = c
counts_stop X Y None stops.WriteFault w w' p p' c = (same_le w w' c.0, c.1.0, inr c.1.1)
counts_stop X Y None stops.Memory w w' p p' c = c
counts_stop X Y (Some file) (stops.Missing name) w w' p p' c = c
counts_stop X Y (Some file) (stops.TooLarge size) w w' p p' c = c
counts_stop X Y (Some file) stops.ReadFault w w' p p' c = c
counts_stop X Y (Some file) (stops.BadRows table first) w w' p p' c = c
counts_stop X Y (Some file) stops.WriteFault w w' p p' c = (c.0.0, same_le p p' c.1, inl c.0.1)
counts_stop X Y (Some file) stops.Memory w w' p p' c = c

pub counts_step : {X : Type 0} (target : Option (List ℕ)) (r : Result X DumpStop) (w w' p p' : ℕ) → CountsPut target r w w' p p' → CountsOut r w w' p p'
counts_step target (Ok x) w w' p p' c = counts_whole x x target w w' p p' c
counts_step {X = X} target (Err stop) w w' p p' c = counts_stop X X target stop w w' p p' c
