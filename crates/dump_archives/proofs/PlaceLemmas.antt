-- The places of the blocks, and the front of a file that tells them.
use Rattle.std.proofs.Common.{◌≡◌, ◌≤◌, ℕ, ◌+◌, Bool, true, false, List, [], ◌∷◌, ◌++◌, length, take, drop, map, pos, Option, Some, None, option_map, unwrap_or, ◌⊎◌, refl, sym, ap, subst, ◌∙◌, append_assoc, append-nil, arith, length-append, inl, inr}
use Rattle.std.specs.Option.{option_map_or}
use Rattle.std.specs.FinMap.{insert}
use Rattle.std.proofs.lemmas.List.{length-take-le, length-map}
use Rattle.dump_ports.proofs.Seen.{insert_twice}
use Rattle.dump_ports.specs.Tree.{Tree, overwritten, patched, HasRange, TakesPrefix}
use Rattle.toc_entry.specs.declared.entry.Entry.{Entry}
use Rattle.toc_entry.specs.declared.entry.Extra.TheVariants.{Place}
use Rattle.toc_entry.specs.declared.head.Head.{Head}
use Rattle.toc_layout.specs.Entries.{whole}
use Rattle.toc_layout.specs.Heads.{HeadFields, head_seen, head as head_part}
use Rattle.toc_layout.specs.Writable.{entry_text}
use Rattle.toc_table.specs.Writing.{entries_text, toc_text}
use Rattle.fmt_custom.specs.Stored.{block_by}
use Rattle.fmt_custom.specs.Writing.{front_text}
use Rattle.archive_entries.specs.Extras.{with_extra, bare_text, extra_text, unplaced, placed, told_by, told}
use Rattle.archive_entries.proofs.ExtraLemmas.{entry_as, place_length, told_length}
use Rattle.dump_files.specs.declared.file.DataFile.{DataFile}
use Rattle.dump_files.specs.Outlets.{Outside, outside, outputs, IsCut, IsBegun}
use Rattle.dump_plain.specs.Dumps.{file_rows}
use Rattle.dump_archives.specs.Pieces.{pieces_of}
use Rattle.dump_archives.specs.Customs.{first_front, unplaced_out, place_then, places_from, custom_front, blocks_out, custom_written, IsHalfPlaced, IsHalted}
use Rattle.dump_archives.specs.Growing.{HasRoom, IsRefronted, IsPartRefronted}
use Rattle.dump_archives.proofs.BlockLemmas.{unplaced-is}
use Rattle.dump_archives.proofs.GrowingLemmas.{bytes_put}

-- ---- places

pub places-nil : (tree : Tree) (at : ℕ) (needed : List DataFile) → places_from tree at [] needed ≡ []
unfolding places_from
places-nil tree at needed = refl

pub places-cons : (tree : Tree) (at : ℕ) (e : Entry) (es : List Entry) (needed : List DataFile) → places_from tree at (e ∷ es) needed ≡ place_then tree at e.dump_id e.has_rows needed (λ behind left. places_from tree behind es left)
unfolding places_from
places-cons tree at e es needed = refl

pub no_place : (tree : Tree) (at id : ℕ) (has_rows : Bool) (needed : List DataFile) (more : ℕ → List DataFile → List ℕ) → has_rows ≡ false → place_then tree at id has_rows needed more ≡ more at needed
no_place tree at id has_rows needed more e = ap (λ (b : Bool). place_then tree at id b needed more) e

pub no_file_left : (tree : Tree) (at id : ℕ) (has_rows : Bool) (needed : List DataFile) (more : ℕ → List DataFile → List ℕ) → needed ≡ [] → place_then tree at id has_rows needed more ≡ more at needed
no_file_left tree at id false needed more e = refl
no_file_left tree at id true needed more e = ap (λ (l : List DataFile). place_then tree at id true l more) e ∙ ap (more at) (sym e)

pub next_place : (tree : Tree) (at id : ℕ) (has_rows : Bool) (needed : List DataFile) (file : DataFile) (others : List DataFile) (more : ℕ → List DataFile → List ℕ) (places new : List ℕ) (here behind : ℕ)
    → has_rows ≡ true → needed ≡ file ∷ others → here ≡ at → new ≡ places ++ here ∷ [] → behind ≡ at + length (block_by true id (pieces_of (file_rows tree file).text))
    → places ++ place_then tree at id has_rows needed more ≡ new ++ more behind others
next_place tree at id has_rows needed file others more places new here behind has split h n b =
    ap (λ (x : Bool). places ++ place_then tree at id x needed more) has
    ∙ ap (λ (l : List DataFile). places ++ place_then tree at id true l more) split
    ∙ ap (λ (k : ℕ). places ++ (k ∷ more (at + length (block_by true id (pieces_of (file_rows tree file).text))) others)) (sym h)
    ∙ ap (λ (k : ℕ). places ++ (here ∷ more k others)) (sym b)
    ∙ sym (append_assoc places (here ∷ []) (more behind others))
    ∙ ap (λ (l : List ℕ). l ++ more behind others) (sym n)

-- ---- the front is as long

behind : (front x y : List ℕ) → length x ≡ length y → length (front ++ x) ≡ length (front ++ y)
behind front x y same = omega (arith, same, length-append front x, length-append front y)

as_long : (e : Entry) (state offset other at : ℕ) → length (entry_text (with_extra (Place state offset) e)) ≡ length (entry_text (with_extra (Place other at) e))
as_long e state offset other at =
    ap length (entry_as e (Place state offset))
    ∙ behind (bare_text e) (extra_text (Place state offset)) (extra_text (Place other at)) (sym (place_length state offset) ∙ place_length other at)
    ∙ ap length (sym (entry_as e (Place other at)))

one_longer : (e f : Entry) (es fs : List Entry) → length (entry_text e) ≡ length (entry_text f) → length (entries_text es) ≡ length (entries_text fs) → length (entries_text (e ∷ es)) ≡ length (entries_text (f ∷ fs))
one_longer e f es fs one all = omega (arith, one, all, length-append (entry_text e) (entries_text es), length-append (entry_text f) (entries_text fs))

told_as_long_by : (e : Entry) (es : List Entry) (b : Bool) (places : List ℕ) → ((left : List ℕ) → length (entries_text (told es left)) ≡ length (entries_text (map unplaced es)))
    → length (entries_text (told_by e b places (told es))) ≡ length (entries_text (map unplaced (e ∷ es)))
told_as_long_by e es false places h = one_longer (unplaced e) (unplaced e) (told es places) (map unplaced es) refl (h places)
told_as_long_by e es true [] h = one_longer (unplaced e) (unplaced e) (told es []) (map unplaced es) refl (h [])
told_as_long_by e es true (p ∷ places) h = one_longer (placed p e) (unplaced e) (told es places) (map unplaced es) (as_long e 2 p _ 0) (h places)

told_as_long : (es : List Entry) (places : List ℕ) → length (entries_text (told es places)) ≡ length (entries_text (map unplaced es))
unfolding told
told_as_long [] places = refl
told_as_long (e ∷ es) places = told_as_long_by e es e.has_rows places (told_as_long es)

pub front_as_long : (h : HeadFields) (es : List Entry) (places : List ℕ) → length (front_text h (told es places)) ≡ length (front_text h (map unplaced es))
front_as_long h es places =
    behind (head_part.write h) (toc_text (told es places)) (toc_text (map unplaced es))
    (ap (λ (n : ℕ). length (whole.write (pos n) ++ entries_text (told es places))) (told_length es places ∙ sym (length-map es unplaced))
    ∙ behind (whole.write (pos (length (map unplaced es)))) (entries_text (told es places)) (entries_text (map unplaced es)) (told_as_long es places))

pub custom_front-is : (tree : Tree) (head : Head) (entries : List Entry) (needed : List DataFile) → custom_front tree head entries needed ≡ front_text (head_seen head) (told entries (places_from tree (length (first_front head entries)) entries needed))
unfolding custom_front
custom_front-is tree head entries needed = refl

pub custom_as_long : (tree : Tree) (head : Head) (entries : List Entry) (needed : List DataFile) → length (custom_front tree head entries needed) ≡ length (first_front head entries)
custom_as_long tree head entries needed =
    ap length (custom_front-is tree head entries needed) ∙ front_as_long (head_seen head) entries (places_from tree (length (first_front head entries)) entries needed)

-- ---- written anew in its place

drop_behind : (old rest : List ℕ) (n : ℕ) → n ≡ length old → drop n (old ++ rest) ≡ rest
drop_behind [] rest n e = ap (λ (k : ℕ). drop k rest) e
drop_behind (x ∷ old) rest n e = ap (λ (k : ℕ). drop k (x ∷ (old ++ rest))) e ∙ drop_behind old rest (length old) refl

over : (new old rest : List ℕ) → length new ≡ length old → overwritten 0 new (old ++ rest) ≡ new ++ rest
over new old rest same = ap (λ (l : List ℕ). new ++ l) (drop_behind old rest (0 + length new) (omega (arith, same)))

pub written_in_place : (tree : Tree) (name : List ℕ) (head : Head) (entries : List Entry) (needed : List DataFile) → custom_written tree (Some name) head entries needed ≡ overwritten 0 (custom_front tree head entries needed) (unplaced_out tree head entries needed).text
written_in_place tree name head entries needed =
    let front = custom_front tree head entries needed in
    sym (ap (λ (l : List ℕ). overwritten 0 front l) (ap (λ o. o.text) (unplaced-is tree head entries needed))
    ∙ over front (first_front head entries) (blocks_out tree entries needed).text (custom_as_long tree head entries needed))

patched_at : (t : Tree) (name text bytes : List ℕ) → patched name 0 bytes (insert t name text) ≡ insert t name (overwritten 0 bytes text)
patched_at t name text bytes =
    ap (λ (o : Option (List ℕ)). option_map_or (λ x. insert (insert t name text) name (overwritten 0 bytes x)) o (insert t name text)) (bytes_put t name text)
    ∙ insert_twice t name text (overwritten 0 bytes text)

patched_by : (name text bytes : List ℕ) (o : Option Tree) → option_map (patched name 0 bytes) (option_map (λ t. insert t name text) o) ≡ option_map (λ t. insert t name (overwritten 0 bytes text)) o
patched_by name text bytes None = refl
patched_by name text bytes (Some t) = ap (λ (x : Tree). Some x) (patched_at t name text bytes)

patched_out : (name text bytes : List ℕ) (before mid : Outside) (now : Option Tree) → mid ≡ outputs (Some name) text before → now ≡ option_map (patched name 0 bytes) mid.tree → outside now mid.written ≡ outputs (Some name) (overwritten 0 bytes text) before
patched_out name text bytes before mid now e p =
    ap (λ (t : Option Tree). outside t mid.written) (p ∙ ap (λ (o : Outside). option_map (patched name 0 bytes) o.tree) e ∙ patched_by name text bytes before.tree)
    ∙ ap (λ (w : Option (List ℕ)). outside (option_map (λ t. insert t name (overwritten 0 bytes text)) before.tree) w) (ap (λ (o : Outside). o.written) e)

room_by : (name text : List ℕ) (len : ℕ) (o : Option Tree) → len ≤ length text → HasRange (option_map (λ t. insert t name text) o) name 0 len
room_by name text len None l = tt
room_by name text len (Some t) l = omega (arith, l, ap length (ap (λ (o : Option (List ℕ)). unwrap_or o []) (bytes_put t name text)))

pub has_room : (target : Option (List ℕ)) (front more new : List ℕ) (before now : Outside) → now ≡ outputs target (front ++ more) before → length new ≡ length front → HasRoom target now.tree (length new)
has_room None front more new before now e l = tt
has_room (Some name) front more new before now e l =
    subst (λ (o : Outside). HasRange o.tree name 0 (length new)) (sym e) (room_by name (front ++ more) (length new) before.tree (omega (arith, l, length-append front more)))

-- ---- what stands in the end

module _ (tree : Tree) (head : Head) (entries : List Entry) (needed : List DataFile) (places : List ℕ) (before mid : Outside) (now : Option Tree) where
  front_is : places ≡ places_from tree (length (first_front head entries)) entries needed → front_text (head_seen head) (told entries places) ≡ custom_front tree head entries needed
  front_is e = ap (λ (ps : List ℕ). front_text (head_seen head) (told entries ps)) e ∙ sym (custom_front-is tree head entries needed)

  pub placed_out : (target : Option (List ℕ)) → mid ≡ outputs target (unplaced_out tree head entries needed).text before → IsRefronted target (front_text (head_seen head) (told entries places)) mid.tree now
      → ((name : List ℕ) → target ≡ Some name → places ≡ places_from tree (length (first_front head entries)) entries needed) → outside now mid.written ≡ outputs target (custom_written tree target head entries needed) before
  placed_out None e r at = ap (λ (t : Option Tree). outside t mid.written) r ∙ e
  placed_out (Some name) e r at =
      patched_out name (unplaced_out tree head entries needed).text (front_text (head_seen head) (told entries places)) before mid now e r
      ∙ ap (λ (l : List ℕ). outputs (Some name) (overwritten 0 l (unplaced_out tree head entries needed).text) before) (front_is (at name refl))
      ∙ ap (λ (l : List ℕ). outputs (Some name) l before) (sym (written_in_place tree name head entries needed))

  all_out : (target : Option (List ℕ)) (text : List ℕ) → mid ≡ outputs target text before → now ≡ mid.tree → IsCut target text before (outside now mid.written)
  all_out target text e same = (text, [], sym (append-nil text), ap (λ (t : Option Tree). outside t mid.written) same ∙ e)

  half : (front text : List ℕ) (n : ℕ) → n ≤ length front → overwritten 0 (take n front) text ≡ take n front ++ drop n text
  half front text n l = let whole : 0 + length (take n front) ≡ n = omega (arith, length-take-le n front l) in ap (λ (k : ℕ). take n front ++ drop k text) whole

  pub halted_out : (target : Option (List ℕ)) → (unplaced_out tree head entries needed).bad ≡ None → mid ≡ outputs target (unplaced_out tree head entries needed).text before → IsPartRefronted target (front_text (head_seen head) (told entries places)) mid.tree now
      → ((name : List ℕ) → target ≡ Some name → places ≡ places_from tree (length (first_front head entries)) entries needed) → IsHalted tree target head entries needed before (outside now mid.written)
  halted_out None good e r at = absurd r
  halted_out (Some name) good e r at =
      by (custom_front tree head entries needed) (subst (λ (l : List ℕ). TakesPrefix (patched name 0) l mid.tree now) (front_is (at name refl)) r)
    where
      by : (front : List ℕ) → TakesPrefix (patched name 0) front mid.tree now → IsBegun (Some name) (unplaced_out tree head entries needed).text before (outside now mid.written) ⊎ (((unplaced_out tree head entries needed).bad ≡ None) × IsHalfPlaced (Some name) front (unplaced_out tree head entries needed).text before (outside now mid.written))
      by front (inl same) = inl (inr (all_out (Some name) (unplaced_out tree head entries needed).text e same))
      by front (inr p) =
          let text = (unplaced_out tree head entries needed).text in
          inr (good, (p.0, p.1, patched_out name text (take p.0 front) before mid now e p.2 ∙ ap (λ (l : List ℕ). outputs (Some name) l before) (half front text p.0 p.1)))

-- nothing more was written than some first part of the dump
pub halted_cut : (tree : Tree) (target : Option (List ℕ)) (head : Head) (entries : List Entry) (needed : List DataFile) (before now : Outside) → IsBegun target (unplaced_out tree head entries needed).text before now → IsHalted tree target head entries needed before now
halted_cut tree target head entries needed before now p = inl p
