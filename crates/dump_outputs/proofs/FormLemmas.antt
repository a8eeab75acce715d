-- What is put out of a dump in each format.
use Rattle.std.proofs.Common.{◌≡◌, ℕ, ◌≤◌, ◌+◌, List, [], ◌∷◌, ◌++◌, map, length, take, drop, Option, Some, None, option_map, refl, sym, ap, ◌∙◌, inl, inr, arith}
use Rattle.std.specs.Option.{option_map_or}
use Rattle.std.specs.FinMap.{insert}
use Rattle.std.proofs.lemmas.List.{map-append, take-append-drop, length-take-le}
use Rattle.dump_ports.specs.Tree.{Tree, overwritten, patched}
use Rattle.dump_ports.proofs.Seen.{insert_twice}
use Rattle.toc_entry.specs.declared.entry.Entry.{Entry}
use Rattle.toc_entry.specs.declared.head.Head.{Head}
use Rattle.dump_files.specs.declared.file.DataFile.{DataFile}
use Rattle.dump_files.specs.declared.stop.DumpStop.{DumpStop}
use Rattle.dump_files.specs.declared.stop.DumpStop.TheVariants as stops
use Rattle.dump_files.specs.Outlets.{Outside, outside, outputs}
use Rattle.dump_plain.specs.Dumps.{BadRow, Output}
use Rattle.dump_plain.specs.Stops.{IsDumpStop}
use Rattle.dump_archives.specs.Customs.{unplaced_out, custom_front, custom_written, IsHalfPlaced, IsHalted}
use Rattle.dump_archives.proofs.GrowingLemmas.{bytes_put}
use Rattle.dump_archives.proofs.PlaceLemmas.{written_in_place}
use Rattle.dump_directory.specs.Files.{Written, saved, IsPart, PartSaved}
use Rattle.dump_outputs.specs.Forms.{places_put, custom_put, stored, IsStop}
use Rattle.dump_outputs.specs.Pieces.{Stored, Patched, place_of, Piece, all_out, AreBegun, PartOut}
use Rattle.dump_outputs.proofs.PieceLemmas.{begun_out, all_out_both}

-- a stop tells of a dump its bad row alone
pub bad_stop : (tree : Tree) (needed : List DataFile) (due : Output) (stop : DumpStop) → IsDumpStop tree needed due stop → IsStop tree needed due.bad stop
bad_stop tree needed due (stops.Missing name) h = h
bad_stop tree needed due (stops.TooLarge size) h = h
bad_stop tree needed due stops.ReadFault h = h
bad_stop tree needed due (stops.BadRows table first) h = h
bad_stop tree needed due stops.WriteFault h = h
bad_stop tree needed due stops.Memory h = h

-- ---- custom archives

patched_at : (t : Tree) (name text bytes : List ℕ) → patched name 0 bytes (insert t name text) ≡ insert t name (overwritten 0 bytes text)
patched_at t name text bytes =
    ap (λ (o : Option (List ℕ)). option_map_or (λ x. insert (insert t name text) name (overwritten 0 bytes x)) o (insert t name text)) (bytes_put t name text)
    ∙ insert_twice t name text (overwritten 0 bytes text)

patched_by : (name text bytes : List ℕ) (o : Option Tree) → option_map (patched name 0 bytes) (option_map (λ t. insert t name text) o) ≡ option_map (λ t. insert t name (overwritten 0 bytes text)) o
patched_by name text bytes None = refl
patched_by name text bytes (Some t) = ap (λ (x : Tree). Some x) (patched_at t name text bytes)

abbrev both_pieces : List ℕ → List ℕ → List ℕ → List Piece
both_pieces name text front = record { place = Stored name; text = text } ∷ record { place = Patched name; text = front } ∷ []

over_out : (name text front : List ℕ) (before : Outside) → outputs (Some name) (overwritten 0 front text) before ≡ all_out (both_pieces name text front) before
over_out name text front before = ap (λ (t : Option Tree). outside t before.written) (sym (patched_by name text front before.tree))

-- all of it is there
whole_by : (bad : Option BadRow) (target : Option (List ℕ)) (text front written : List ℕ) (before after : Outside) → bad ≡ None → ((name : List ℕ) → target ≡ Some name → written ≡ overwritten 0 front text) → (target ≡ None → written ≡ text)
    → after ≡ outputs target written before → after ≡ all_out (record { place = place_of target; text = text } ∷ places_put bad target front) before
whole_by (Some row) target text front written before after good over same e = absurd cc
whole_by None None text front written before after good over same e = e ∙ ap (λ x. outputs None x before) (same refl)
whole_by None (Some name) text front written before after good over same e = e ∙ ap (λ x. outputs (Some name) x before) (over name refl) ∙ over_out name text front before

pub custom_whole : (tree : Tree) (target : Option (List ℕ)) (head : Head) (entries : List Entry) (needed : List DataFile) (before after : Outside)
    → (unplaced_out tree head entries needed).bad ≡ None
    → after ≡ outputs target (custom_written tree target head entries needed) before
    → after ≡ all_out (custom_put target (unplaced_out tree head entries needed) (custom_front tree head entries needed)).pieces before
custom_whole tree target head entries needed before after good e =
    let due = unplaced_out tree head entries needed in
    let front = custom_front tree head entries needed in
    whole_by due.bad target due.text front (custom_written tree target head entries needed) before after good
    (λ name is. ap (λ t. custom_written tree t head entries needed) is ∙ written_in_place tree name head entries needed)
    (λ is. ap (λ t. custom_written tree t head entries needed) is)
    e

-- places are told in part
front_length : (n : ℕ) (front : List ℕ) → n ≤ length front → 0 + length (take n front) ≡ n
front_length n front l = omega (arith, length-take-le n front l)

half_by : (bad : Option BadRow) (target : Option (List ℕ)) (text front : List ℕ) (before after : Outside) → bad ≡ None → IsHalfPlaced target front text before after → PartOut (record { place = place_of target; text = text } ∷ places_put bad target front) before after
half_by (Some row) target text front before after good h = absurd cc
half_by None None text front before after good h = elim h [ ]
half_by None (Some name) text front before after good h =
    let part = take h.0 front in
    record {
      front = both_pieces name text part;
      is = record {
        whole = record { place = Stored name; text = text } ∷ [];
        later = record { place = Patched name; text = front } ∷ [];
        split = refl;
        last = record { place = Patched name; text = part } ∷ [];
        begun = inr (part, drop h.0 front, sym (take-append-drop h.0 front), refl);
        is = refl;
      };
      put = h.2
          ∙ ap (λ (k : ℕ). outputs (Some name) (part ++ drop k text) before) (sym (front_length h.0 front h.1))
          ∙ over_out name text part before;
    }

pub custom_part : (tree : Tree) (target : Option (List ℕ)) (head : Head) (entries : List Entry) (needed : List DataFile) (before after : Outside) → IsHalted tree target head entries needed before after
    → PartOut (custom_put target (unplaced_out tree head entries needed) (custom_front tree head entries needed)).pieces before after
custom_part tree target head entries needed before after (inl begun) =
    begun_out target (unplaced_out tree head entries needed).text (places_put (unplaced_out tree head entries needed).bad target (custom_front tree head entries needed)) before after begun
custom_part tree target head entries needed before after (inr h) =
    half_by (unplaced_out tree head entries needed).bad target (unplaced_out tree head entries needed).text (custom_front tree head entries needed) before after h.0 h.1

-- ---- archives in folders

pub saved_out : (files : List Written) (o : Outside) → saved files o ≡ all_out (map stored files) o
saved_out [] o = refl
saved_out (file ∷ files) o = saved_out files (outputs (Some file.name) file.text o)

last_by : (later : List Written) (between after : Outside) → IsPart later between after → (last : List Piece) × AreBegun (map stored later) last × (after ≡ all_out last between)
last_by [] between after e = ([], refl, e)
last_by (file ∷ later) between after (inl e) = ([], inl refl, e)
last_by (file ∷ later) between after (inr h) = (record { place = Stored file.name; text = h.0 } ∷ [], inr (h.0, h.1, h.2, refl), h.3)

pub saved_part : (files : List Written) (before after : Outside) → PartSaved files before after → PartOut (map stored files) before after
saved_part files before after p =
    let last = last_by p.later (saved p.whole before) after p.part in
    record {
      front = map stored p.whole ++ last.0;
      is = record {
        whole = map stored p.whole;
        later = map stored p.later;
        split = ap (λ fs. map stored fs) p.split ∙ map-append stored p.whole p.later;
        last = last.0;
        begun = last.1;
        is = refl;
      };
      put = last.2 ∙ ap (λ o. all_out last.0 o) (saved_out p.whole before) ∙ sym (all_out_both (map stored p.whole) last.0 before);
    }
