-- What dumps write, entry by entry.
use Rattle.std.proofs.Common.{◌≡◌, ℕ, Bool, true, false, List, [], ◌∷◌, ◌++◌, Option, Some, None, map, length, option_map, codes, if◌then◌else◌, refl, sym, ap, ◌∙◌, append_assoc, append-nil}
use Rattle.std.specs.Global.{Vec}
use Rattle.dump_ports.specs.Tree.{Tree}
use Rattle.data_rows.specs.declared.fault.RowsFault.{RowsFault}
use Rattle.toc_entry.specs.declared.entry.Entry.{Entry}
use Rattle.toc_entry.specs.declared.head.Head.{Head}
use Rattle.toc_layout.specs.Heads.{head_seen}
use Rattle.fmt_text.specs.Lines.{title}
use Rattle.fmt_text.specs.Parts.{is_of_session, is_table_data, about, text_or_none, body, part}
use Rattle.fmt_text.specs.Owners.{kind_of, owned_object, owner_part}
use Rattle.fmt_text.specs.Script.{parts, script, script_head, script_end}
use Rattle.fmt_custom.specs.Stored.{Stored, entries_of, block_by, blocks_text, custom_text}
use Rattle.fmt_custom.specs.Writing.{front_text}
use Rattle.dump_files.specs.declared.file.DataFile.{DataFile}
use Rattle.dump_plain.specs.Dumps.{Output, of_text, after, file_rows, with_rows, parts_out, plain_out}
use Rattle.dump_plain.proofs.GoingLemmas.{rows_then-ok, parts-nil, parts-cons, plain-is}
use Rattle.dump_archives.specs.Pieces.{pieces_of}
use Rattle.archive_entries.specs.Extras.{unplaced, placed, told_by, told}
use Rattle.dump_archives.specs.Customs.{block_then_by, block_then, with_block, blocks_out, custom_out, first_front, unplaced_out, places_from, custom_written}
use Rattle.dump_archives.proofs.BlockLemmas.{blocks-nil, blocks-cons, custom-is, unplaced-is}
use Rattle.dump_archives.proofs.PlaceLemmas.{custom_front-is}
use Rattle.output_laws.specs.Pairs.{HasText, HaveTexts, HasPieces, HavePieces, written_entries}

-- ---- the data of a table

owner_none : (owners : Bool) (e : Entry) → e.desc ≡ codes "TABLE DATA" → owner_part owners e ≡ []
unfolding owner_part owned_object kind_of
owner_none true e is = rw is refl
owner_none false e is = refl

joined : (t c rows : List ℕ) → (t ++ (c ++ rows)) ++ [] ≡ ((t ++ (c ++ [])) ++ []) ++ rows
joined t c rows =
    append-nil (t ++ (c ++ rows)) ∙ sym (append_assoc t c rows) ∙ ap (λ (l : List ℕ). l ++ rows) (ap (λ (l : List ℕ). t ++ l) (sym (append-nil c)) ∙ sym (append-nil (t ++ (c ++ []))))

-- the part of an entry, if its kind were another
abbrev part_by : Bool → Entry → List ℕ → Option (List ℕ) → List ℕ
part_by owners e desc rows = if is_of_session desc then [] else title (about owners e) ++ (if is_table_data desc then text_or_none e.copy_stmt ++ text_or_none rows else text_or_none e.defn ++ codes "\n\n") ++ owner_part owners e

part-is : (owners : Bool) (e : Entry) (rows : Option (List ℕ)) → part owners e rows ≡ part_by owners e e.desc rows
unfolding part body
part-is owners e rows = refl

part_data : (owners : Bool) (e : Entry) (rows : Option (List ℕ)) → e.desc ≡ codes "TABLE DATA" → part owners e rows ≡ (title (about owners e) ++ (text_or_none e.copy_stmt ++ text_or_none rows)) ++ []
part_data owners e rows is =
    part-is owners e rows
    ∙ ap (λ (d : List ℕ). part_by owners e d rows) is
    ∙ ap (λ (o : List ℕ). (title (about owners e) ++ (text_or_none e.copy_stmt ++ text_or_none rows)) ++ o) (owner_none owners e is)

pub part_rows : (owners : Bool) (e : Entry) (rows : List ℕ) → e.desc ≡ codes "TABLE DATA" → part owners e (Some rows) ≡ part owners e None ++ rows
part_rows owners e rows is =
    part_data owners e (Some rows) is ∙ joined (title (about owners e)) (text_or_none e.copy_stmt) rows ∙ ap (λ (l : List ℕ). l ++ rows) (sym (part_data owners e None is))

parts-more : (owners : Bool) (s : Entry × Option (Vec ℕ)) (ss : List (Entry × Option (Vec ℕ))) → parts owners (s ∷ ss) ≡ part owners s.0 (option_map (λ rows. rows.items) s.1) ++ parts owners ss
unfolding parts
parts-more owners s ss = refl

parts-none : (owners : Bool) → parts owners [] ≡ []
unfolding parts
parts-none owners = refl

abbrev Says : Output → List ℕ → Type 0
Says o text = (o.bad ≡ None) × (o.text ≡ text)

-- ---- scripts

module _ (tree : Tree) (owners : Bool) (last : List ℕ) where
  says_parts : (entries : List Entry) (needed : List DataFile) (stored : List (Entry × Option (Vec ℕ))) → HaveTexts tree entries needed stored → Says (parts_out tree owners (of_text last) entries needed) (parts owners stored ++ last)
  says_parts [] needed [] h = rw (parts-nil tree owners (of_text last) needed, parts-none owners) (refl, refl)
  says_parts [] needed (s ∷ ss) h = absurd h
  says_parts (e ∷ es) needed [] h = absurd h
  says_parts (e ∷ es) needed (s ∷ ss) h =
      let inner = by e.has_rows needed (λ left p. says_parts es left ss p) h.1 in
      let text = option_map (λ (v : Vec ℕ). v.items) s.1 in (
        ap (λ (o : Output). o.bad) (parts-cons tree owners (of_text last) e es needed) ∙ inner.0,
        ap (λ (o : Output). o.text) (parts-cons tree owners (of_text last) e es needed)
            ∙ inner.1
            ∙ ap (λ (x : Entry). part owners x text ++ (parts owners ss ++ last)) (sym h.0)
            ∙ sym (append_assoc (part owners s.0 text) (parts owners ss) last)
            ∙ ap (λ (l : List ℕ). l ++ last) (sym (parts-more owners s ss)),
      )
    where
      by : (has : Bool) (left : List DataFile) → ((others : List DataFile) → HaveTexts tree es others ss → Says (parts_out tree owners (of_text last) es others) (parts owners ss ++ last)) → HasText tree e has left (option_map (λ (v : Vec ℕ). v.items) s.1) (λ others. HaveTexts tree es others ss)
          → Says (after (part owners e None) 0 (with_rows tree has left (parts_out tree owners (of_text last) es))) (part owners e (option_map (λ (v : Vec ℕ). v.items) s.1) ++ (parts owners ss ++ last))
      by false left later p =
          let again = later left p.1 in
          (again.0, ap (λ (l : List ℕ). part owners e None ++ l) again.1 ∙ ap (λ (r : Option (List ℕ)). part owners e r ++ (parts owners ss ++ last)) (sym p.0))
      by true [] later p = absurd p
      by true (file ∷ others) later p =
          let again = later others p.3 in
          let more = parts_out tree owners (of_text last) es others in
          let opened = rows_then-ok file.table (file_rows tree file) more p.1 in (
            ap (λ (o : Output). o.bad) opened ∙ again.0,
            ap (λ (o : Output). part owners e None ++ o.text) opened
                ∙ sym (append_assoc (part owners e None) (file_rows tree file).text more.text)
                ∙ ap (λ (l : List ℕ). l ++ more.text) (sym (part_rows owners e (file_rows tree file).text p.0))
                ∙ ap (λ (l : List ℕ). part owners e (Some (file_rows tree file).text) ++ l) again.1
                ∙ ap (λ (r : Option (List ℕ)). part owners e r ++ (parts owners ss ++ last)) (sym p.2),
          )

pub says_script : (tree : Tree) (head : Head) (owners : Bool) (entries : List Entry) (needed : List DataFile) (stored : List (Entry × Option (Vec ℕ))) → HaveTexts tree entries needed stored → Says (plain_out tree head owners entries needed) (script head stored owners)
unfolding script
says_script tree head owners entries needed stored h =
    let inner = says_parts tree owners script_end entries needed stored h in (
      ap (λ (o : Output). o.bad) (plain-is tree head owners entries needed) ∙ inner.0,
      ap (λ (o : Output). o.text) (plain-is tree head owners entries needed) ∙ ap (λ (l : List ℕ). script_head head ++ l) inner.1 ∙ sym (append_assoc (script_head head) (parts owners stored) script_end),
    )

-- ---- archives

block_then-ok : (id table : ℕ) (tree : Tree) (file : DataFile) (more : Output) → (file_rows tree file).fault ≡ None → block_then id table (file_rows tree file) more ≡ after (block_by true id (pieces_of (file_rows tree file).text)) (file_rows tree file).rows more
unfolding block_then
block_then-ok id table tree file more e = ap (λ (f : Option RowsFault). block_then_by id table (file_rows tree file) f more) e

says_blocks : (tree : Tree) (entries : List Entry) (needed : List DataFile) (stored : List Stored) → HavePieces tree entries needed stored → Says (blocks_out tree entries needed) (blocks_text stored)
says_blocks tree [] needed [] h = rw (blocks-nil tree needed) (refl, refl)
says_blocks tree [] needed (s ∷ ss) h = absurd h
says_blocks tree (e ∷ es) needed [] h = absurd h
says_blocks tree (e ∷ es) needed (s ∷ ss) h =
    let inner = by e.has_rows needed (λ left p. says_blocks tree es left ss p) h.1 in (
      ap (λ (o : Output). o.bad) (blocks-cons tree e es needed) ∙ inner.0,
      ap (λ (o : Output). o.text) (blocks-cons tree e es needed) ∙ inner.1 ∙ ap (λ (x : Entry). block_by x.has_rows x.dump_id s.pieces ++ blocks_text ss) (sym h.0),
    )
  where
    by : (has : Bool) (left : List DataFile) → ((others : List DataFile) → HavePieces tree es others ss → Says (blocks_out tree es others) (blocks_text ss)) → HasPieces tree has left s.pieces (λ others. HavePieces tree es others ss) → Says (with_block tree e.dump_id has left (blocks_out tree es)) (block_by has e.dump_id s.pieces ++ blocks_text ss)
    by false left later p = later left p
    by true [] later p = absurd p
    by true (file ∷ others) later p =
        let again = later others p.2 in
        let opened = block_then-ok e.dump_id file.table tree file (blocks_out tree es others) p.0 in (
          ap (λ (o : Output). o.bad) opened ∙ again.0,
          ap (λ (o : Output). o.text) opened ∙ ap (λ (ps : List (List ℕ)). block_by true e.dump_id ps ++ (blocks_out tree es others).text) (sym p.1) ∙ ap (λ (l : List ℕ). block_by true e.dump_id s.pieces ++ l) again.1,
        )

pub same_entries : (tree : Tree) (entries : List Entry) (needed : List DataFile) (stored : List Stored) → HavePieces tree entries needed stored → entries ≡ entries_of stored
same_entries tree [] needed [] h = refl
same_entries tree [] needed (s ∷ ss) h = absurd h
same_entries tree (e ∷ es) needed [] h = absurd h
same_entries tree (e ∷ es) needed (s ∷ ss) h = ap (λ (x : Entry). x ∷ es) (sym h.0) ∙ ap (λ (l : List Entry). s.entry ∷ l) (by e.has_rows needed (λ left p. same_entries tree es left ss p) h.1)
  where
    by : (has : Bool) (left : List DataFile) → ((others : List DataFile) → HavePieces tree es others ss → es ≡ entries_of ss) → HasPieces tree has left s.pieces (λ others. HavePieces tree es others ss) → es ≡ entries_of ss
    by false left later p = later left p
    by true [] later p = absurd p
    by true (file ∷ others) later p = later others p.2

pub says_archive : (tree : Tree) (head : Head) (entries : List Entry) (needed : List DataFile) (stored : List Stored) → HavePieces tree entries needed stored → Says (custom_out tree head entries needed) (custom_text (head_seen head) stored)
says_archive tree head entries needed stored h =
    let inner = says_blocks tree entries needed stored h in (
      ap (λ (o : Output). o.bad) (custom-is tree head entries needed) ∙ inner.0,
      ap (λ (o : Output). o.text) (custom-is tree head entries needed) ∙ ap (λ (l : List ℕ). front_text (head_seen head) entries ++ l) inner.1
          ∙ ap (λ (es : List Entry). front_text (head_seen head) es ++ blocks_text stored) (same_entries tree entries needed stored h),
    )

-- ---- what is written in the end

-- blocks are those of entries whatever these tell of their places
with_same : (tree : Tree) (id : ℕ) (has : Bool) (needed : List DataFile) (more other : List DataFile → Output) → ((left : List DataFile) → more left ≡ other left) → with_block tree id has needed more ≡ with_block tree id has needed other
with_same tree id false needed more other h = h needed
with_same tree id true [] more other h = h []
with_same tree id true (file ∷ needed) more other h = ap (block_then id file.table (file_rows tree file)) (h needed)

same_blocks : (tree : Tree) (e f : Entry) (es fs : List Entry) (needed : List DataFile) → e.dump_id ≡ f.dump_id → e.has_rows ≡ f.has_rows → ((left : List DataFile) → blocks_out tree es left ≡ blocks_out tree fs left) → blocks_out tree (e ∷ es) needed ≡ blocks_out tree (f ∷ fs) needed
same_blocks tree e f es fs needed id has h =
    blocks-cons tree e es needed
    ∙ ap (λ (i : ℕ). with_block tree i e.has_rows needed (blocks_out tree es)) id
    ∙ ap (λ (b : Bool). with_block tree f.dump_id b needed (blocks_out tree es)) has
    ∙ with_same tree f.dump_id f.has_rows needed (blocks_out tree es) (blocks_out tree fs) h
    ∙ sym (blocks-cons tree f fs needed)

unplaced_blocks : (tree : Tree) (es : List Entry) (needed : List DataFile) → blocks_out tree (map unplaced es) needed ≡ blocks_out tree es needed
unplaced_blocks tree [] needed = refl
unplaced_blocks tree (e ∷ es) needed = same_blocks tree (unplaced e) e (map unplaced es) es needed refl refl (unplaced_blocks tree es)

told_blocks_by : (tree : Tree) (e : Entry) (es : List Entry) (has : Bool) (places : List ℕ) (needed : List DataFile) → ((ps : List ℕ) (left : List DataFile) → blocks_out tree (told es ps) left ≡ blocks_out tree es left)
    → blocks_out tree (told_by e has places (told es)) needed ≡ blocks_out tree (e ∷ es) needed
told_blocks_by tree e es false places needed h = same_blocks tree (unplaced e) e (told es places) es needed refl refl (h places)
told_blocks_by tree e es true [] needed h = same_blocks tree (unplaced e) e (told es []) es needed refl refl (h [])
told_blocks_by tree e es true (at ∷ places) needed h = same_blocks tree (placed at e) e (told es places) es needed refl refl (h places)

told_blocks : (tree : Tree) (es : List Entry) (places : List ℕ) (needed : List DataFile) → blocks_out tree (told es places) needed ≡ blocks_out tree es needed
unfolding told
told_blocks tree [] places needed = refl
told_blocks tree (e ∷ es) places needed = told_blocks_by tree e es e.has_rows places needed (told_blocks tree es)

pub written_blocks : (tree : Tree) (target : Option (List ℕ)) (head : Head) (entries : List Entry) (needed : List DataFile) → blocks_out tree (written_entries tree target head entries needed) needed ≡ blocks_out tree entries needed
written_blocks tree None head entries needed = unplaced_blocks tree entries needed
written_blocks tree (Some name) head entries needed = told_blocks tree entries (places_from tree (length (first_front head entries)) entries needed) needed

written-is : (tree : Tree) (target : Option (List ℕ)) (head : Head) (entries : List Entry) (needed : List DataFile) → custom_written tree target head entries needed ≡ front_text (head_seen head) (written_entries tree target head entries needed) ++ (blocks_out tree entries needed).text
written-is tree None head entries needed = ap (λ (o : Output). o.text) (unplaced-is tree head entries needed)
written-is tree (Some name) head entries needed = ap (λ (l : List ℕ). l ++ (blocks_out tree entries needed).text) (custom_front-is tree head entries needed)

pub says_written : (tree : Tree) (target : Option (List ℕ)) (head : Head) (entries : List Entry) (needed : List DataFile) (stored : List Stored) → HavePieces tree (written_entries tree target head entries needed) needed stored
    → ((unplaced_out tree head entries needed).bad ≡ None) × (custom_written tree target head entries needed ≡ custom_text (head_seen head) stored)
says_written tree target head entries needed stored h =
    let written = written_entries tree target head entries needed in
    let inner = says_blocks tree written needed stored h in (
      ap (λ (o : Output). o.bad) (unplaced-is tree head entries needed ∙ ap (after (first_front head entries) 0) (sym (written_blocks tree target head entries needed))) ∙ inner.0,
      written-is tree target head entries needed
          ∙ ap (λ (o : Output). front_text (head_seen head) written ++ o.text) (sym (written_blocks tree target head entries needed))
          ∙ ap (λ (l : List ℕ). front_text (head_seen head) written ++ l) inner.1
          ∙ ap (λ (es : List Entry). front_text (head_seen head) es ++ blocks_text stored) (same_entries tree written needed stored h),
    )
