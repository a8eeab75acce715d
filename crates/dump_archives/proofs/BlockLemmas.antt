-- Blocks that are put out one after another.
use Rattle.std.proofs.Common.{◌≡◌, ℕ, Bool, true, false, List, [], ◌∷◌, ◌++◌, map, Option, Some, None, refl, sym, ap, ◌∙◌, append_assoc, append-nil, inl}
use Rattle.dump_ports.specs.Tree.{Tree, bytes_at}
use Rattle.data_rows.specs.declared.fault.RowsFault.{RowsFault}
use Rattle.toc_entry.specs.declared.entry.Entry.{Entry}
use Rattle.toc_entry.specs.declared.head.Head.{Head}
use Rattle.toc_layout.specs.Heads.{head_seen}
use Rattle.fmt_custom.specs.Blocks.{piece}
use Rattle.fmt_custom.specs.Stored.{block_by, open_block}
use Rattle.fmt_custom.specs.Writing.{front_text}
use Rattle.archive_entries.specs.Extras.{unplaced}
use Rattle.dump_files.specs.declared.file.DataFile.{DataFile}
use Rattle.dump_files.specs.declared.stop.DumpStop.{DumpStop}
use Rattle.dump_files.specs.declared.stop.DumpStop.TheVariants.{Missing, TooLarge, ReadFault, BadRows, WriteFault, Memory}
use Rattle.dump_files.specs.Spelled.{Spelled}
use Rattle.dump_files.specs.Stops.{IsPutStop}
use Rattle.dump_files.specs.Outlets.{Outside, IsCut, Stands}
use Rattle.dump_files.proofs.OutletLemmas.{cut_more, cut_all}
use Rattle.dump_plain.specs.Dumps.{Output, of_text, after, file_rows}
use Rattle.dump_plain.specs.Stops.{IsDumpStop, Goes}
use Rattle.dump_archives.specs.Pieces.{pieces_of}
use Rattle.dump_archives.specs.Customs.{block_then_by, block_then, with_block, blocks_out, custom_out, first_front, unplaced_out}

pub blocks-nil : (tree : Tree) (needed : List DataFile) → blocks_out tree [] needed ≡ of_text []
unfolding blocks_out
blocks-nil tree needed = refl

pub blocks-cons : (tree : Tree) (e : Entry) (es : List Entry) (needed : List DataFile) → blocks_out tree (e ∷ es) needed ≡ with_block tree e.dump_id e.has_rows needed (blocks_out tree es)
unfolding blocks_out
blocks-cons tree e es needed = refl

pub custom-is : (tree : Tree) (head : Head) (entries : List Entry) (needed : List DataFile) → custom_out tree head entries needed ≡ after (front_text (head_seen head) entries) 0 (blocks_out tree entries needed)
unfolding custom_out
custom-is tree head entries needed = refl

with_same : (tree : Tree) (id : ℕ) (has : Bool) (needed : List DataFile) (more other : List DataFile → Output) → ((left : List DataFile) → more left ≡ other left) → with_block tree id has needed more ≡ with_block tree id has needed other
with_same tree id false needed more other h = h needed
with_same tree id true [] more other h = h []
with_same tree id true (file ∷ needed) more other h = ap (block_then id file.table (file_rows tree file)) (h needed)

-- blocks don't go by what entries tell of their places
unplaced_blocks : (tree : Tree) (es : List Entry) (needed : List DataFile) → blocks_out tree (map unplaced es) needed ≡ blocks_out tree es needed
unplaced_blocks tree [] needed = refl
unplaced_blocks tree (e ∷ es) needed =
    blocks-cons tree (unplaced e) (map unplaced es) needed
    ∙ with_same tree e.dump_id e.has_rows needed (blocks_out tree (map unplaced es)) (blocks_out tree es) (unplaced_blocks tree es)
    ∙ sym (blocks-cons tree e es needed)

pub unplaced-is : (tree : Tree) (head : Head) (entries : List Entry) (needed : List DataFile) → unplaced_out tree head entries needed ≡ after (first_front head entries) 0 (blocks_out tree entries needed)
unplaced-is tree head entries needed = custom-is tree head (map unplaced entries) needed ∙ ap (after (first_front head entries) 0) (unplaced_blocks tree entries needed)

block_then-ok : (id table : ℕ) (s : Spelled) (more : Output) → s.fault ≡ None → block_then id table s more ≡ after (block_by true id (pieces_of s.text)) s.rows more
unfolding block_then
block_then-ok id table s more e = ap (λ (f : Option RowsFault). block_then_by id table s f more) e

block_then-bad : (id table : ℕ) (s : Spelled) (more : Output) (first : RowsFault) → s.fault ≡ Some first → block_then id table s more ≡ record { text = open_block id (pieces_of s.text); rows = s.rows; bad = Some (record { table = table; first = first }) }
unfolding block_then
block_then-bad id table s more first e = ap (λ (f : Option RowsFault). block_then_by id table s f more) e

module _ (ends : (id : ℕ) (ps : List (List ℕ)) → open_block id ps ++ piece.write None ≡ block_by true id ps) where
  block_text : (id table : ℕ) (s : Spelled) (more : Output) → (rest : List ℕ) × ((block_then id table s more).text ≡ open_block id (pieces_of s.text) ++ rest)
  block_text id table s more = by s.fault refl
    where
      by : (f : Option RowsFault) → s.fault ≡ f → (rest : List ℕ) × ((block_then id table s more).text ≡ open_block id (pieces_of s.text) ++ rest)
      by None e = (
        piece.write None ++ more.text,
        ap (λ (o : Output). o.text) (block_then-ok id table s more e)
            ∙ ap (λ (l : List ℕ). l ++ more.text) (sym (ends id (pieces_of s.text)))
            ∙ append_assoc (open_block id (pieces_of s.text)) (piece.write None) more.text,
      )
      by (Some first) e = ([], ap (λ (o : Output). o.text) (block_then-bad id table s more first e) ∙ sym (append-nil (open_block id (pieces_of s.text))))

  block_cut : (target : Option (List ℕ)) (id table : ℕ) (s : Spelled) (more : Output) (done : List ℕ) (before now : Outside) → IsCut target (done ++ open_block id (pieces_of s.text)) before now → IsCut target (done ++ (block_then id table s more).text) before now
  block_cut target id table s more done before now p =
      let whole = block_text id table s more in
      cut_all target ((done ++ open_block id (pieces_of s.text)) ++ whole.0) (done ++ (block_then id table s more).text) before now
      (append_assoc done (open_block id (pieces_of s.text)) whole.0 ∙ ap (λ (l : List ℕ). done ++ l) (sym whole.1))
      (cut_more target (done ++ open_block id (pieces_of s.text)) whole.0 before now p)

  block_stop : (tree : Tree) (id : ℕ) (file : DataFile) (needed : List DataFile) (s : Spelled) (more : Output) (stop : DumpStop) → IsPutStop file.table (bytes_at tree file.name) s stop → IsDumpStop tree (file ∷ needed) (block_then id file.table s more) stop
  block_stop tree id file needed s more (Missing name) p = p
  block_stop tree id file needed s more (TooLarge n) p = (p.0, inl p.1)
  block_stop tree id file needed s more ReadFault p = tt
  block_stop tree id file needed s more (BadRows of first) p =
      ap (λ (o : Output). o.bad) (block_then-bad id file.table s more first p.1) ∙ ap (λ (t : ℕ). Some (record { table = t; first = first })) (sym p.0)
  block_stop tree id file needed s more WriteFault p = tt
  block_stop tree id file needed s more Memory p = tt

  module _ (target : Option (List ℕ)) (tree : Tree) (id : ℕ) (has_rows : Bool) (has : has_rows ≡ true) (needed : List DataFile) (file : DataFile) (others : List DataFile) (split : needed ≡ file ∷ others) where
    opened : (more : List DataFile → Output) → with_block tree id has_rows needed more ≡ block_then id file.table (file_rows tree file) (more others)
    opened more = ap (λ (b : Bool). with_block tree id b needed more) has ∙ ap (λ (l : List DataFile). with_block tree id true l more) split

    pub next_block_ok : (more : List DataFile → Output) (done : List ℕ) (before now : Outside) (count : ℕ) (waiting : List ℕ) → ((file_rows tree file).fault ≡ None) × (count ≡ (file_rows tree file).rows) × Stands target (done ++ block_by true id (pieces_of (file_rows tree file).text)) before now waiting
        → Goes target (with_block tree id has_rows needed more) done before now waiting count (more others)
    next_block_ok more done before now count waiting p = record {
      text = block_by true id (pieces_of (file_rows tree file).text);
      stands = p.2;
      same =
          opened more ∙ block_then-ok id file.table (file_rows tree file) (more others) p.0
          ∙ ap (λ (n : ℕ). after (block_by true id (pieces_of (file_rows tree file).text)) n (more others)) (sym p.1);
    }

    pub next_block_err : (more : List DataFile → Output) (done : List ℕ) (before now : Outside) (stop : DumpStop) → IsPutStop file.table (bytes_at tree file.name) (file_rows tree file) stop × IsCut target (done ++ open_block id (pieces_of (file_rows tree file).text)) before now
        → IsDumpStop tree needed (with_block tree id has_rows needed more) stop × IsCut target (done ++ (with_block tree id has_rows needed more).text) before now
    next_block_err more done before now stop p =
        rw (opened more, split) (
          block_stop tree id file others (file_rows tree file) (more others) stop p.0,
          block_cut target id file.table (file_rows tree file) (more others) done before now p.1,
        )
