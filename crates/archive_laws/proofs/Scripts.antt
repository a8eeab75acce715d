-- The script of all entries of an archive, beside the plain dump of the same entries.
use Rattle.std.proofs.Common.{◌≡◌, ℕ, ◌+◌, Bool, true, false, cond, List, [], ◌∷◌, ◌++◌, map, length, Option, Some, None, option_map, codes, refl, sym, ap, ◌∙◌, append_assoc, arith, length-append}
use Rattle.std.specs.List.{slice_get, range_with_len, filter}
use Rattle.std.specs.Option.{option_map_or}
use Rattle.dump_ports.specs.Tree.{Tree}
use Rattle.toc_entry.specs.declared.entry.Entry.{Entry}
use Rattle.toc_entry.specs.declared.head.Head.{Head}
use Rattle.toc_layout.specs.Heads.{HeadFields}
use Rattle.entry_choices.specs.declared.options.Options.{Options}
use Rattle.entry_choices.specs.Choices.{wanted, wanted_places}
use Rattle.fmt_custom.specs.Customs.{Custom}
use Rattle.fmt_text.specs.Lines.{title}
use Rattle.fmt_text.specs.Parts.{is_of_session, about, body, part}
use Rattle.fmt_text.specs.Script.{versions, session, script_head, script_end}
use Rattle.fmt_text.specs.Owners.{path_of, owned_object, owner_part}
use Rattle.archive_scripts.specs.Scripts.{head_text, part_at, parts_at, custom_rows, custom_script}
use Rattle.dump_files.specs.declared.file.DataFile.{DataFile}
use Rattle.dump_plain.specs.Dumps.{Output, of_text, file_rows, with_rows, parts_out, plain_out}
use Rattle.dump_plain.proofs.GoingLemmas.{rows_then-ok, parts-nil, parts-cons, plain-is}
use Rattle.output_laws.proofs.PairLemmas.{part_rows}
use Rattle.archive_laws.specs.Restored.{bare, RowIs, RowsAre, LeavesNone, HasVersions}
use Rattle.archive_laws.proofs.Bare.{first_bare, rest_bare}
use Rattle.archive_laws.proofs.Wanted.{wanted_alike}
use Rattle.std.proofs.lemmas.Option.{slice_get-map}

part_bare : (owners : Bool) (e : Entry) (rows : Option (List ℕ)) → part owners (bare e) rows ≡ part owners e rows
unfolding part about body owner_part owned_object path_of
part_bare owners e rows = refl

part_alike : (owners : Bool) (w e : Entry) (rows : Option (List ℕ)) → bare w ≡ bare e → part owners w rows ≡ part owners e rows
part_alike owners w e rows h = sym (part_bare owners w rows) ∙ ap (λ (x : Entry). part owners x rows) h ∙ part_bare owners e rows

-- ---- entries one after another

abbrev pub parts_text : Bool → (ℕ → Option (List ℕ)) → List Entry → List ℕ
parts_text owners rows [] = []
parts_text owners rows (e ∷ es) = part owners e (rows e.dump_id) ++ parts_text owners rows es

pub at_seam : (pre : List Entry) (e : Entry) (es : List Entry) → slice_get (pre ++ (e ∷ es)) (length pre) ≡ Some e
at_seam [] e es = refl
at_seam (x ∷ pre) e es = at_seam pre e es

parts_from : (owners : Bool) (rows : ℕ → Option (List ℕ)) (pre es : List Entry) → parts_at owners (pre ++ es) rows (range_with_len (length pre) (length es)) ≡ parts_text owners rows es
parts_from owners rows pre [] = refl
parts_from owners rows pre (e ∷ es) =
    ap (λ (o : Option Entry). option_map_or (λ x. part owners x (rows x.dump_id)) o [] ++ parts_at owners (pre ++ (e ∷ es)) rows (range_with_len (length pre + 1) (length es))) (at_seam pre e es)
    ∙ ap (λ (t : List ℕ). part owners e (rows e.dump_id) ++ t) (
    ap (λ (l : List Entry). parts_at owners l rows (range_with_len (length pre + 1) (length es))) (sym (append_assoc pre (e ∷ []) es))
    ∙ ap (λ (n : ℕ). parts_at owners ((pre ++ e ∷ []) ++ es) rows (range_with_len n (length es))) one_more
    ∙ parts_from owners rows (pre ++ e ∷ []) es
    )
  where
    one_more : length pre + 1 ≡ length (pre ++ e ∷ [])
    one_more = omega (arith, length-append pre (e ∷ []))

pub parts_all : (owners : Bool) (rows : ℕ → Option (List ℕ)) (es : List Entry) → parts_at owners es rows (range_with_len 0 (length es)) ≡ parts_text owners rows es
parts_all owners rows es = parts_from owners rows [] es

-- ---- beside the plain dump

module _ (tree : Tree) (rows : ℕ → Option (List ℕ)) (owners : Bool) (last : List ℕ) where
  abbrev out : List Entry → List DataFile → Output
  out es needed = parts_out tree owners (of_text last) es needed

  says_one : (w e : Entry) (ws es : List Entry) → bare w ≡ bare e → (has : Bool) (needed : List DataFile) → RowIs tree rows w has needed (λ others. RowsAre tree rows ws others)
      → ((others : List DataFile) → RowsAre tree rows ws others → parts_text owners rows ws ++ last ≡ (out es others).text)
      → part owners w (rows w.dump_id) ++ (parts_text owners rows ws ++ last) ≡ part owners e None ++ (with_rows tree has needed (out es)).text
  says_one w e ws es same false needed r again =
      ap (λ (o : Option (List ℕ)). part owners w o ++ (parts_text owners rows ws ++ last)) r.0
      ∙ ap (λ (p : List ℕ). p ++ (parts_text owners rows ws ++ last)) (part_alike owners w e None same)
      ∙ ap (λ (t : List ℕ). part owners e None ++ t) (again needed r.1)
  says_one w e ws es same true [] r again = absurd r
  says_one w e ws es same true (file ∷ others) r again =
      let text = (file_rows tree file).text in
      ap (λ (o : Option (List ℕ)). part owners w o ++ (parts_text owners rows ws ++ last)) r.2
      ∙ ap (λ (p : List ℕ). p ++ (parts_text owners rows ws ++ last)) (part_alike owners w e (Some text) same ∙ part_rows owners e text (sym (ap (λ (x : Entry). x.desc) same) ∙ r.0))
      ∙ append_assoc (part owners e None) text (parts_text owners rows ws ++ last)
      ∙ ap (λ (t : List ℕ). part owners e None ++ (text ++ t)) (again others r.3)
      ∙ ap (λ (o : Output). part owners e None ++ o.text) (sym (rows_then-ok file.table (file_rows tree file) (out es others) r.1))

  pub says_parts : (ws es : List Entry) (needed : List DataFile) → map bare ws ≡ map bare es → RowsAre tree rows ws needed → parts_text owners rows ws ++ last ≡ (out es needed).text
  says_parts [] [] needed same r = ap (λ (o : Output). o.text) (sym (parts-nil tree owners (of_text last) needed))
  says_parts [] (e ∷ es) needed same r = absurd cc
  says_parts (w ∷ ws) [] needed same r = absurd cc
  says_parts (w ∷ ws) (e ∷ es) needed same r =
      let first = first_bare w e ws es same in
      append_assoc (part owners w (rows w.dump_id)) (parts_text owners rows ws) last
      ∙ says_one w e ws es first w.has_rows needed r (λ others more. says_parts ws es others (rest_bare w e ws es same) more)
      ∙ ap (λ (b : Bool). part owners e None ++ (with_rows tree b needed (out es)).text) (ap (λ (x : Entry). x.has_rows) first)
      ∙ ap (λ (o : Output). o.text) (sym (parts-cons tree owners (of_text last) e es needed))

-- ---- the whole script

no_part : (owners : Bool) (e : Entry) (rows : Option (List ℕ)) → is_of_session e.desc ≡ true → part owners e rows ≡ []
unfolding part
no_part owners e rows is = rw is refl

left_out : (owners : Bool) (rows : ℕ → Option (List ℕ)) (o : Option Entry) → ((e : Entry) → o ≡ Some e → is_of_session e.desc ≡ true) → option_map_or (λ e. part owners e (rows e.dump_id)) o [] ≡ []
left_out owners rows None h = refl
left_out owners rows (Some e) h = no_part owners e (rows e.dump_id) (h e refl)

one_filtered : (owners : Bool) (es : List Entry) (rows : ℕ → Option (List ℕ)) (i : ℕ) (kept all : List ℕ) (b : Bool) → (b ≡ false → part_at owners es rows i ≡ []) → parts_at owners es rows kept ≡ parts_at owners es rows all
    → parts_at owners es rows (cond b (i ∷ kept) kept) ≡ part_at owners es rows i ++ parts_at owners es rows all
one_filtered owners es rows i kept all true none others = ap (λ (t : List ℕ). part_at owners es rows i ++ t) others
one_filtered owners es rows i kept all false none others = others ∙ ap (λ (t : List ℕ). t ++ parts_at owners es rows all) (sym (none refl))

filtered : (owners : Bool) (es : List Entry) (rows : ℕ → Option (List ℕ)) (p : ℕ → Bool) (places : List ℕ) → ((i : ℕ) → p i ≡ false → part_at owners es rows i ≡ []) → parts_at owners es rows (filter p places) ≡ parts_at owners es rows places
filtered owners es rows p [] none = refl
filtered owners es rows p (i ∷ places) none = one_filtered owners es rows i (filter p places) places (p i) (none i) (filtered owners es rows p places none)

same_head : (plain : Head) (h : HeadFields) → HasVersions plain h → head_text h ≡ script_head plain
unfolding head_text script_head
same_head plain h v =
    ap (λ (s : List ℕ). title (codes "PostgreSQL database dump") ++ versions s h.dumper ++ session) (sym v.server)
    ∙ ap (λ (d : List ℕ). title (codes "PostgreSQL database dump") ++ versions plain.server d ++ session) (sym v.dumper)

pub whole_text : (tree : Tree) (h : HeadFields) (es : List Entry) (held : ℕ → Option (List ℕ)) (plain : Head) (entries : List Entry) (needed : List DataFile) (o : Options)
    → map bare es ≡ map bare entries → RowsAre tree held es needed → HasVersions plain h → LeavesNone o es
    → head_text h ++ parts_at o.owners es held (wanted_places o es) ++ script_end ≡ (plain_out tree plain o.owners entries needed).text
whole_text tree h es held plain entries needed o same rows v all =
    let none = λ (i : ℕ) (not_wanted : wanted o es i ≡ false). left_out o.owners held (slice_get es i) (λ e found. all i e not_wanted found) in
    ap (λ (t : List ℕ). head_text h ++ t ++ script_end) (filtered o.owners es held (wanted o es) (range_with_len 0 (length es)) none ∙ parts_all o.owners held es)
    ∙ ap (λ (t : List ℕ). t ++ parts_text o.owners held es ++ script_end) (same_head plain h v)
    ∙ append_assoc (script_head plain) (parts_text o.owners held es) script_end
    ∙ ap (λ (t : List ℕ). script_head plain ++ t) (says_parts tree held o.owners script_end es entries needed same rows)
    ∙ ap (λ (x : Output). x.text) (sym (plain-is tree plain o.owners entries needed))

pub scripted : (tree : Tree) (custom : Custom) (plain : Head) (entries : List Entry) (needed : List DataFile) (o : Options)
    → map bare custom.entries ≡ map bare entries → RowsAre tree (custom_rows custom) custom.entries needed → HasVersions plain custom.head → LeavesNone o custom.entries
    → custom_script o.owners custom (wanted_places o custom.entries) ≡ (plain_out tree plain o.owners entries needed).text
unfolding custom_script
scripted tree custom plain entries needed o same rows v all = whole_text tree custom.head custom.entries (custom_rows custom) plain entries needed o same rows v all

left_by : (o : Option Entry) (w : Entry) → option_map bare (Some w) ≡ option_map bare o → (e : Entry) × (o ≡ Some e) × (w.desc ≡ e.desc)
left_by None w h = absurd cc
left_by (Some e) w h = let inner : bare w ≡ bare e = cc in (e, refl, ap (λ (x : Entry). x.desc) inner)

-- options leave out none of entries that are alike either
pub leaves_none_alike : (o : Options) (es ws : List Entry) → map bare ws ≡ map bare es → LeavesNone o es → LeavesNone o ws
leaves_none_alike o es ws same all = λ i w not_wanted found.
    let other = left_by (slice_get es i) w (ap (option_map bare) (sym found) ∙ sym (slice_get-map bare ws i) ∙ ap (λ (l : List Entry). slice_get l i) same ∙ slice_get-map bare es i) in
    ap is_of_session other.2 ∙ all i other.0 (sym (wanted_alike o ws es i same) ∙ not_wanted) other.1
