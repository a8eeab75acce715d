-- The script of a directory's entries whose rows are read.
use Rattle.std.proofs.Common.{◌≡◌, ℕ, ◌+◌, ◌≤◌, Bool, true, false, cond, List, [], ◌∷◌, ◌++◌, length, Option, Some, None, Result, Ok, Err, refl, sym, ap, subst, ◌∙◌, append_assoc, append-nil, arith, length-append, zero, suc}
use Rattle.std.specs.Prelude.{if◌then◌else◌}
use Rattle.std.specs.List.{AllByRecursion, slice_get, range_with_len, filter}
use Rattle.std.specs.Option.{option_map_or}
use Rattle.std.proofs.lemmas.Bool.{le-leb}
use Rattle.dump_ports.specs.Tree.{Tree}
use Rattle.toc_parts.specs.Parts.{◌>>=◌}
use Rattle.toc_entry.specs.declared.entry.Entry.{Entry}
use Rattle.fmt_text.specs.Parts.{part}
use Rattle.fmt_text.specs.Script.{script_end}
use Rattle.fmt_directory.specs.declared.fault.DirFault.{DirFault}
use Rattle.fmt_directory.specs.declared.fault.DirFault.TheVariants.{TooLarge}
use Rattle.fmt_directory.specs.Directories.{Directory, rows_due}
use Rattle.archive_scripts.specs.Scripts.{head_text, parts_at}
use Rattle.archive_scripts.specs.Directories.{counted, rows_len, rows_within, part_due, parts_due, directory_script}
use Rattle.archive_laws.proofs.Scripts.{at_seam}

module _ (owners : Bool) (d : Directory) (now : Tree) (rows : ℕ → Option (List ℕ)) where
  abbrev IsRead : Entry → Type 0
  IsRead e = rows_due d e.dump_id now ≡ Ok (rows e.dump_id)

  -- how many bytes the rows of an entry have, and those at places
  abbrev bytes_in : Option Entry → ℕ
  bytes_in o = option_map_or (λ (e : Entry). rows_len (rows e.dump_id)) o 0

  abbrev bytes_at : List Entry → List ℕ → ℕ
  bytes_at es [] = 0
  bytes_at es (i ∷ places) = bytes_in (slice_get es i) + bytes_at es places

  abbrev pub bytes_of : List Entry → ℕ
  bytes_of [] = 0
  bytes_of (e ∷ es) = rows_len (rows e.dump_id) + bytes_of es

  within : (used : ℕ) (e : Entry) → IsRead e → used + rows_len (rows e.dump_id) ≤ 268435456 → rows_within d now used e.dump_id ≡ Ok (rows e.dump_id, used + rows_len (rows e.dump_id))
  unfolding rows_within
  within used e read few =
      ap (λ (r : Result (Option (List ℕ)) DirFault). r >>= λ x. counted used (rows_len x) >>= λ n. Ok (x, n)) read
      ∙ ap (λ (b : Bool). (if b then Ok (used + rows_len (rows e.dump_id)) else Err (TooLarge 268435457)) >>= λ n. Ok (rows e.dump_id, n)) (le-leb (used + rows_len (rows e.dump_id)) 268435456 few)

  one_part : (used : ℕ) (o : Option Entry) → ((e : Entry) → o ≡ Some e → IsRead e) → used + bytes_in o ≤ 268435456
      → part_due owners d now used o ≡ Ok (option_map_or (λ (e : Entry). part owners e (rows e.dump_id)) o [], used + bytes_in o)
  one_part used None read few = ap (λ (n : ℕ). Ok ([], n)) (omega arith)
  one_part used (Some e) read few = ap (λ (r : Result (Option (List ℕ) × ℕ) DirFault). r >>= λ x. Ok (part owners e x.0, x.1)) (within used e (read e refl) few)

  all_parts : ((i : ℕ) (e : Entry) → slice_get d.entries i ≡ Some e → IsRead e) → (used : ℕ) (text places : List ℕ) → used + bytes_at d.entries places ≤ 268435456
      → parts_due owners d now used text places ≡ Ok (text ++ parts_at owners d.entries rows places)
  unfolding parts_due
  all_parts read used text [] few = ap (λ (t : List ℕ). Ok t) (sym (append-nil text))
  all_parts read used text (i ∷ places) few =
      let o = slice_get d.entries i in
      let more = option_map_or (λ (e : Entry). part owners e (rows e.dump_id)) o [] in
      ap (λ (r : Result (List ℕ × ℕ) DirFault). r >>= λ p. parts_due owners d now p.1 (text ++ p.0) places) (one_part used o (read i) (omega (arith, few)))
      ∙ all_parts read (used + bytes_in o) (text ++ more) places (omega (arith, few))
      ∙ ap (λ (t : List ℕ). Ok t) (append_assoc text more (parts_at owners d.entries rows places))

  -- ---- how many bytes are read

  fewer_by : (es : List Entry) (i : ℕ) (kept all : List ℕ) (b : Bool) → bytes_at es kept ≤ bytes_at es all → bytes_at es (cond b (i ∷ kept) kept) ≤ bytes_in (slice_get es i) + bytes_at es all
  fewer_by es i kept all true less = omega (arith, less)
  fewer_by es i kept all false less = omega (arith, less)

  fewer : (es : List Entry) (p : ℕ → Bool) (places : List ℕ) → bytes_at es (filter p places) ≤ bytes_at es places
  fewer es p [] = omega arith
  fewer es p (i ∷ places) = fewer_by es i (filter p places) places (p i) (fewer es p places)

  bytes_from : (pre es : List Entry) → bytes_at (pre ++ es) (range_with_len (length pre) (length es)) ≡ bytes_of es
  bytes_from pre [] = refl
  bytes_from pre (e ∷ es) =
      ap (λ (o : Option Entry). bytes_in o + bytes_at (pre ++ (e ∷ es)) (range_with_len (length pre + 1) (length es))) (at_seam pre e es)
      ∙ ap (λ (n : ℕ). rows_len (rows e.dump_id) + n) (
      ap (λ (l : List Entry). bytes_at l (range_with_len (length pre + 1) (length es))) (sym (append_assoc pre (e ∷ []) es))
      ∙ ap (λ (n : ℕ). bytes_at ((pre ++ e ∷ []) ++ es) (range_with_len n (length es))) one_more
      ∙ bytes_from (pre ++ e ∷ []) es
      )
    where
      one_more : length pre + 1 ≡ length (pre ++ e ∷ [])
      one_more = omega (arith, length-append pre (e ∷ []))

  -- ---- the whole

  read_at : (es : List Entry) → AllByRecursion IsRead es → (i : ℕ) (e : Entry) → slice_get es i ≡ Some e → IsRead e
  read_at [] all i e found = absurd cc
  read_at (x ∷ es) all zero e found = let same : x ≡ e = cc in subst IsRead same all.0
  read_at (x ∷ es) all (suc i) e found = read_at es all.1 i e found

  pub scripted : (used : ℕ) (p : ℕ → Bool) → AllByRecursion IsRead d.entries → used + bytes_of d.entries ≤ 268435456
      → directory_script owners d now used (filter p (range_with_len 0 (length d.entries))) ≡ Ok (head_text d.head ++ parts_at owners d.entries rows (filter p (range_with_len 0 (length d.entries))) ++ script_end)
  unfolding directory_script
  scripted used p all few =
      let places = filter p (range_with_len 0 (length d.entries)) in
      ap (λ (r : Result (List ℕ) DirFault). r >>= λ text. Ok (text ++ script_end))
      (all_parts (read_at d.entries all) used (head_text d.head) places (omega (arith, few, fewer d.entries p (range_with_len 0 (length d.entries)), bytes_from [] d.entries)))
