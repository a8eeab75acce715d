-- Scripts by their entries.
use Rattle.std.proofs.Common.{◌≡◌, ℕ, Bool, true, false, cond, List, [], ◌∷◌, ◌++◌, map, Option, Some, None, Result, Ok, Err, refl, ap, sym, ◌∙◌}
use Rattle.std.proofs.lemmas.List.{append-nil}
use Rattle.std.proofs.lemmas.List.Folds.{flat_map-map}
use Rattle.std.proofs.lemmas.Grind.{flat_map-append}
use Rattle.std.specs.Global.{Vec}
use Rattle.std.specs.Option.{option_map, option_map_or}
use Rattle.std.specs.List.{flat_map, filter, slice_get}
use Rattle.dump_ports.specs.Tree.{Tree, text_at}
use Rattle.toc_parts.specs.Parts.{◌>>=◌}
use Rattle.toc_entry.specs.declared.entry.Entry.{Entry}
use Rattle.toc_entry.specs.declared.head.Head.{Head}
use Rattle.toc_layout.specs.Heads.{head_seen}
use Rattle.toc_table.specs.Ids.{is_among}
use Rattle.toc_table.specs.Tables.{ids_with_rows}
use Rattle.fmt_text.specs.Parts.{part}
use Rattle.fmt_text.specs.Script.{script_end, parts, script}
use Rattle.fmt_custom.specs.Customs.{Custom}
use Rattle.fmt_directory.specs.declared.fault.DirFault.{DirFault}
use Rattle.fmt_directory.specs.declared.fault.DirFault.TheVariants as faults
use Rattle.fmt_directory.specs.Directories.{Directory, rows_name, found, text_by}
use Rattle.archive_scripts.specs.Scripts.{head_text, part_at, parts_at, custom_rows, custom_script}
use Rattle.archive_scripts.specs.Directories.{counted, rows_len, rows_within, part_due, parts_due, directory_script}
use Rattle.archive_scripts.proofs.Heads.{head_is}
use Rattle.restore_laws.specs.Laws.{with_rows, entries_with_rows}

abbrev pub of_pair : Bool → (Entry × Option (List ℕ)) → List ℕ
of_pair owners e = part owners e.0 e.1

one_entry : (owners : Bool) (rows : ℕ → Option (List ℕ)) (o : Option Entry) → flat_map (of_pair owners) (with_rows rows o) ≡ option_map_or (λ e. part owners e (rows e.dump_id)) o []
one_entry owners rows None = refl
one_entry owners rows (Some e) = append-nil (part owners e (rows e.dump_id))

all_entries : (owners : Bool) (es : List Entry) (rows : ℕ → Option (List ℕ)) (places : List ℕ) → flat_map (of_pair owners) (entries_with_rows es rows places) ≡ parts_at owners es rows places
all_entries owners es rows [] = refl
all_entries owners es rows (i ∷ places) =
    flat_map-append (of_pair owners) (with_rows rows (slice_get es i)) (entries_with_rows es rows places)
    ∙ (λ k. one_entry owners rows (slice_get es i) k ++ all_entries owners es rows places k)

abbrev pub seen_pair : (Entry × Option (Vec ℕ)) → Entry × Option (List ℕ)
seen_pair e = (e.0, option_map (λ (v : Vec ℕ). v.items) e.1)

pub scripts_alike : (owners : Bool) (custom : Custom) (places : List ℕ) (head : Head) (entries : List (Entry × Option (Vec ℕ))) → head_seen head ≡ custom.head →
    map seen_pair entries ≡ entries_with_rows custom.entries (custom_rows custom) places → custom_script owners custom places ≡ script head entries owners
unfolding custom_script script parts
scripts_alike owners custom places head entries heads are =
    sym (λ k. head_is head custom.head heads k ++ both k ++ script_end)
  where
    both : parts owners entries ≡ parts_at owners custom.entries (custom_rows custom) places
    both = sym (flat_map-map (of_pair owners) seen_pair entries) ∙ ap (flat_map (of_pair owners)) are ∙ all_entries owners custom.entries (custom_rows custom) places

filtered : (owners : Bool) (es : List Entry) (rows : ℕ → Option (List ℕ)) (p : ℕ → Bool) (places : List ℕ) → ((i : ℕ) → p i ≡ false → part_at owners es rows i ≡ []) →
    parts_at owners es rows (filter p places) ≡ parts_at owners es rows places
filtered owners es rows p [] none = refl
filtered owners es rows p (i ∷ places) none = by (p i) refl (filtered owners es rows p places none)
  where
    by : (b : Bool) → p i ≡ b → parts_at owners es rows (filter p places) ≡ parts_at owners es rows places →
        parts_at owners es rows (cond (p i) (i ∷ filter p places) (filter p places)) ≡ part_at owners es rows i ++ parts_at owners es rows places
    by true e others = rw e (ap (λ (t : List ℕ). part_at owners es rows i ++ t) others)
    by false e others = rw e (others ∙ ap (λ (t : List ℕ). t ++ parts_at owners es rows places) (sym (none i e)))

pub may_go : (owners : Bool) (custom : Custom) (places : List ℕ) (p : ℕ → Bool) → ((i : ℕ) → p i ≡ false → part_at owners custom.entries (custom_rows custom) i ≡ []) →
    custom_script owners custom (filter p places) ≡ custom_script owners custom places
unfolding custom_script
may_go owners custom places p none = ap (λ (t : List ℕ). head_text custom.head ++ t ++ script_end) (filtered owners custom.entries (custom_rows custom) p places none)

-- the steps of a script of a directory's entries, one behind another
abbrev rows_and : ℕ → Result (Option (List ℕ)) DirFault → Result (Option (List ℕ) × ℕ) DirFault
rows_and used r = r >>= λ rows. counted used (rows_len rows) >>= λ n. Ok (rows, n)

abbrev part_and : Bool → Entry → Result (Option (List ℕ) × ℕ) DirFault → Result (List ℕ × ℕ) DirFault
part_and owners e r = r >>= λ x. Ok (part owners e x.0, x.1)

abbrev parts_and : Bool → Directory → Tree → List ℕ → Result (List ℕ × ℕ) DirFault → Result (List ℕ) DirFault
parts_and owners d tree places r = r >>= λ p. parts_due owners d tree p.1 (head_text d.head ++ p.0) places

abbrev end_and : Result (List ℕ) DirFault → Result (List ℕ) DirFault
end_and r = r >>= λ text. Ok (text ++ script_end)

pub missing : (owners : Bool) (d : Directory) (tree : Tree) (used i : ℕ) (places : List ℕ) (e : Entry) →
    slice_get d.entries i ≡ Some e → is_among (ids_with_rows [] d.entries) e.dump_id ≡ true → text_at tree (rows_name d.folder e.dump_id) ≡ None →
    directory_script owners d tree used (i ∷ places) ≡ Err (faults.Missing (rows_name d.folder e.dump_id))
unfolding directory_script parts_due rows_within
missing owners d tree used i places e at among absent =
    let name = rows_name d.folder e.dump_id in
    ap (λ (o : Option Entry). end_and (parts_and owners d tree places (part_due owners d tree used o))) at
    ∙ ap (λ (b : Bool). end_and (parts_and owners d tree places (part_and owners e (rows_and used (cond b (found (text_by name (text_at tree name))) (Ok None)))))) among
    ∙ ap (λ (t : Option (List ℕ)). end_and (parts_and owners d tree places (part_and owners e (rows_and used (found (text_by name t)))))) absent
