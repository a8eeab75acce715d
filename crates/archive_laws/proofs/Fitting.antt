-- A dump in the custom format is an archive that reads as it.
use Rattle.std.proofs.Common.{◌≡◌, ℕ, zero, suc, ◌+◌, ◌<◌, ◌≤◌, ◌^◌, ◌==◌, Bool, true, false, List, [], ◌∷◌, ◌++◌, All, map, length, take, drop, Some, option_map, refl, sym, ap, subst, ◌∙◌, arith, length-append}
use Rattle.std.specs.List.{AllByRecursion, concat}
use Rattle.std.proofs.lemmas.Bool.{eqb-true}
use Rattle.std.proofs.lemmas.List.{length-take, length-map, length-drop, take-append-drop}
use Rattle.std.proofs.lemmas.List.Elements.{All-head, All-tail}
use Rattle.dump_ports.specs.Tree.{Tree}
use Rattle.toc_entry.specs.declared.entry.Entry.{Entry}
use Rattle.toc_entry.specs.declared.entry.Extra.{Extra}
use Rattle.toc_entry.specs.declared.entry.Extra.TheVariants.{Place}
use Rattle.toc_entry.specs.declared.head.Head.{Head}
use Rattle.toc_layout.specs.Heads.{HeadFields, head_seen}
use Rattle.toc_layout.specs.Values.{IsHead, IsExtra, IsEntry}
use Rattle.toc_layout.specs.Writable.{ExtraCanBeWritten, EntryCanBeWritten, is_file}
use Rattle.toc_table.specs.Ids.{is_among}
use Rattle.toc_table.specs.Writing.{HasOwnIds, EntryFits, TocFits}
use Rattle.fmt_custom.specs.Customs.{Found, pieces_of as found_pieces}
use Rattle.fmt_custom.specs.Stored.{Stored, rows_of, rows_by as rows_from, entries_of, block_by, blocks_text, first_place, IsPiece, OffsetLeads, OffsetsLead, CustomFits}
use Rattle.archive_entries.specs.Extras.{with_extra, unplaced_extra, unplaced, placed, told_by, told}
use Rattle.archive_entries.specs.Fits.{Rise, CanBeArchived}
use Rattle.dump_files.specs.declared.file.DataFile.{DataFile}
use Rattle.dump_plain.specs.Dumps.{file_rows}
use Rattle.dump_archives.specs.Customs.{first_front, place_then, places_from, placed_entries}
use Rattle.dump_archives.proofs.PlaceLemmas.{front_as_long}
use Rattle.archive_entries.proofs.ExtraLemmas.{told_length}
use Rattle.fmt_custom.specs.Writing.{front_text}
use Rattle.dump_archives.specs.Pieces.{cut, piece_size, pieces_of}
use Rattle.output_laws.specs.Pairs.{HavePieces}
use Rattle.output_laws.proofs.PairLemmas.{same_entries}
use Rattle.archive_laws.specs.Restored.{bare, RowIs, RowsAre, HasRows, HaveRows}
use Rattle.archive_laws.proofs.Bare.{first_bare, rest_bare}

-- ---- the entries with the pieces of their rows

abbrev pub stored_by : Tree → Entry → Bool → List DataFile → (List DataFile → List Stored) → List Stored
stored_by tree e false needed more = record { entry = e; pieces = [] } ∷ more needed
stored_by tree e true [] more = record { entry = e; pieces = [] } ∷ more []
stored_by tree e true (file ∷ needed) more = record { entry = e; pieces = pieces_of (file_rows tree file).text } ∷ more needed

abbrev pub stored_of : Tree → List Entry → List DataFile → List Stored
stored_of tree [] needed = []
stored_of tree (e ∷ es) needed = stored_by tree e e.has_rows needed (stored_of tree es)

rows_by : (tree : Tree) (w e : Entry) (ws es : List Entry) → w.desc ≡ e.desc → (has : Bool) (needed : List DataFile) → ((others : List DataFile) → HaveRows tree es others → HaveRows tree ws others)
    → HasRows tree e has needed (λ others. HaveRows tree es others) → HasRows tree w has needed (λ others. HaveRows tree ws others)
rows_by tree w e ws es desc false needed again r = again needed r
rows_by tree w e ws es desc true [] again r = absurd r
rows_by tree w e ws es desc true (file ∷ others) again r = (desc ∙ r.0, r.1, again others r.2)

pub rows_alike : (tree : Tree) (ws es : List Entry) (needed : List DataFile) → map bare ws ≡ map bare es → HaveRows tree es needed → HaveRows tree ws needed
rows_alike tree [] [] needed same r = tt
rows_alike tree [] (e ∷ es) needed same r = absurd cc
rows_alike tree (w ∷ ws) [] needed same r = absurd cc
rows_alike tree (w ∷ ws) (e ∷ es) needed same r =
    let first = first_bare w e ws es same in
    let has : w.has_rows ≡ e.has_rows = ap (λ (x : Entry). x.has_rows) first in
    rw has (rows_by tree w e ws es (ap (λ (x : Entry). x.desc) first) e.has_rows needed (λ others more. rows_alike tree ws es others (rest_bare w e ws es same) more) r)

pieces_by : (tree : Tree) (e : Entry) (es : List Entry) (has : Bool) (needed : List DataFile) → e.has_rows ≡ has → ((others : List DataFile) → HaveRows tree es others → HavePieces tree es others (stored_of tree es others))
    → HasRows tree e has needed (λ others. HaveRows tree es others) → HavePieces tree (e ∷ es) needed (stored_by tree e has needed (stored_of tree es))
pieces_by tree e es false needed h again r = (refl, rw h (again needed r))
pieces_by tree e es true [] h again r = absurd r
pieces_by tree e es true (file ∷ others) h again r = (refl, rw h (r.1, refl, again others r.2))

pub have_pieces : (tree : Tree) (es : List Entry) (needed : List DataFile) → HaveRows tree es needed → HavePieces tree es needed (stored_of tree es needed)
have_pieces tree [] needed r = tt
have_pieces tree (e ∷ es) needed r = pieces_by tree e es e.has_rows needed refl (have_pieces tree es) r

pub stored_entries : (tree : Tree) (es : List Entry) (needed : List DataFile) → HaveRows tree es needed → entries_of (stored_of tree es needed) ≡ es
stored_entries tree es needed r = sym (same_entries tree es needed (stored_of tree es needed) (have_pieces tree es needed r))

-- ---- pieces

cut_fits : (size n : ℕ) (bytes : List ℕ) → 0 < size → size < 2 ^ 32 → AllByRecursion IsPiece (cut size n bytes)
unfolding cut
cut_fits size zero bytes some low = tt
cut_fits size (suc n) [] some low = tt
cut_fits size (suc n) (b ∷ bytes) some low =
    ((omega (arith, length-take size (b ∷ bytes)), omega (arith, length-take size (b ∷ bytes))), cut_fits size n (drop size (b ∷ bytes)) some low)

stored_fits_by : (tree : Tree) (e : Entry) (has : Bool) (needed : List DataFile) (more : List DataFile → List Stored) → ((others : List DataFile) → AllByRecursion (λ (s : Stored). AllByRecursion IsPiece s.pieces) (more others))
    → AllByRecursion (λ (s : Stored). AllByRecursion IsPiece s.pieces) (stored_by tree e has needed more)
stored_fits_by tree e false needed more again = (tt, again needed)
stored_fits_by tree e true [] more again = (tt, again [])
stored_fits_by tree e true (file ∷ others) more again = (cut_fits piece_size (length (file_rows tree file).text) (file_rows tree file).text (omega arith) (omega arith), again others)

pub stored_fits : (tree : Tree) (es : List Entry) (needed : List DataFile) → AllByRecursion (λ (s : Stored). AllByRecursion IsPiece s.pieces) (stored_of tree es needed)
stored_fits tree [] needed = tt
stored_fits tree (e ∷ es) needed = stored_fits_by tree e e.has_rows needed (stored_of tree es) (stored_fits tree es)

-- ---- dump ids

among_by : (e k : ℕ) (ids : List ℕ) (b : Bool) → (e == k) ≡ b → e < k → is_among ids k ≡ false → is_among (e ∷ ids) k ≡ false
among_by e k ids false is low none = rw is none
among_by e k ids true is low none = absurd (omega (arith, eqb-true e k is))

pub own_ids : (earlier : List ℕ) (last : ℕ) (es : List Entry) → ((k : ℕ) → last < k → is_among earlier k ≡ false) → Rise last es → HasOwnIds earlier es
own_ids earlier last [] none rise = tt
own_ids earlier last (e ∷ es) none rise =
    (none e.dump_id rise.0, own_ids (e.dump_id ∷ earlier) e.dump_id es (λ k low. among_by e.dump_id k earlier (e.dump_id == k) refl low (none k (omega (arith, low, rise.0)))) rise.1)

own_unplaced : (earlier : List ℕ) (es : List Entry) → HasOwnIds earlier es → HasOwnIds earlier (map unplaced es)
own_unplaced earlier [] own = tt
own_unplaced earlier (e ∷ es) own = (own.0, own_unplaced (e.dump_id ∷ earlier) es own.1)

-- ---- entries without places

pub value_with : (e : Entry) (x : Extra) → IsEntry e → IsExtra x → IsEntry (with_extra x e)
value_with e x value is = record {
  dump_id = value.dump_id;
  tableoid = value.tableoid;
  oid = value.oid;
  tag = value.tag;
  desc = value.desc;
  defn = value.defn;
  drop_stmt = value.drop_stmt;
  copy_stmt = value.copy_stmt;
  namespace = value.namespace;
  tablespace = value.tablespace;
  tableam = value.tableam;
  owner = value.owner;
  depends = value.depends;
  extra = is;
}

pub can_with : (e : Entry) (x : Extra) → EntryCanBeWritten e → ExtraCanBeWritten x → EntryCanBeWritten (with_extra x e)
can_with e x can is = record {
  dump_id = can.dump_id;
  section = can.section;
  texts = record {
    tag = can.texts.tag;
    desc = can.texts.desc;
    defn = can.texts.defn;
    drop_stmt = can.texts.drop_stmt;
    copy_stmt = can.texts.copy_stmt;
    namespace = can.texts.namespace;
    tablespace = can.texts.tablespace;
    tableam = can.texts.tableam;
    owner = can.texts.owner;
  };
  extra = is;
}

unplaced_can : (has : Bool) → ExtraCanBeWritten (unplaced_extra has)
unplaced_can false = (omega arith, omega arith)
unplaced_can true = (omega arith, omega arith)

unplaced_fit : (es : List Entry) → AllByRecursion IsEntry es → All EntryCanBeWritten es → AllByRecursion (EntryFits false) (map unplaced es)
unplaced_fit [] values can = tt
unplaced_fit (e ∷ es) values can = (
  record {
    value = value_with e (unplaced_extra e.has_rows) values.0 (omega arith);
    can = can_with e (unplaced_extra e.has_rows) (All-head EntryCanBeWritten e es can) (unplaced_can e.has_rows);
    kind = refl;
  },
  unplaced_fit es values.1 (All-tail EntryCanBeWritten e es can),
)

no_place_told : (at : ℕ) (b has : Bool) → OffsetLeads at b (unplaced_extra has)
no_place_told at b false = λ told. absurd (omega (arith, told))
no_place_told at b true = λ told. absurd (omega (arith, told))

unplaced_lead_by : (tree : Tree) (at : ℕ) (e : Entry) (has : Bool) (needed : List DataFile) (more : List DataFile → List Stored) → ((behind : ℕ) (others : List DataFile) → OffsetsLead behind (more others)) → OffsetsLead at (stored_by tree (unplaced e) has needed more)
unplaced_lead_by tree at e false needed more again = (no_place_told at e.has_rows e.has_rows, again _ needed)
unplaced_lead_by tree at e true [] more again = (no_place_told at e.has_rows e.has_rows, again _ [])
unplaced_lead_by tree at e true (file ∷ others) more again = (no_place_told at e.has_rows e.has_rows, again _ others)

unplaced_lead : (tree : Tree) (at : ℕ) (es : List Entry) (needed : List DataFile) → OffsetsLead at (stored_of tree (map unplaced es) needed)
unplaced_lead tree at [] needed = tt
unplaced_lead tree at (e ∷ es) needed = unplaced_lead_by tree at e e.has_rows needed (stored_of tree (map unplaced es)) (λ behind others. unplaced_lead tree behind es others)

pub unplaced_bare : (es : List Entry) → map bare (map unplaced es) ≡ map bare es
unplaced_bare [] = refl
unplaced_bare (e ∷ es) = ap (λ (l : List Entry). bare e ∷ l) (unplaced_bare es)

pub unplaced_fits : (tree : Tree) (h : HeadFields) (es : List Entry) (needed : List DataFile) → CanBeArchived h es → IsHead h → AllByRecursion IsEntry es → HaveRows tree (map unplaced es) needed → h.format ≡ 1 → CustomFits h (stored_of tree (map unplaced es) needed)
unplaced_fits tree h es needed archive head values rows format =
    let are = stored_entries tree (map unplaced es) needed rows in
    record {
      head = head;
      can = archive.head;
      format = format;
      toc = subst (TocFits false) (sym are) (record {
        few = omega (arith, archive.few, length-map es unplaced);
        each = unplaced_fit es values archive.each;
        own = own_unplaced [] es (own_ids [] 0 es (λ k low. refl) archive.rise);
      });
      pieces = stored_fits tree (map unplaced es) needed;
      offsets = unplaced_lead tree (first_place h (stored_of tree (map unplaced es) needed)) es needed;
    }

-- ---- the rows that are read

concat_cut : (size n : ℕ) (bytes : List ℕ) → 0 < size → length bytes ≤ n → concat (cut size n bytes) ≡ bytes
unfolding cut
concat_cut size zero [] some l = refl
concat_cut size zero (b ∷ bytes) some l = absurd (omega arith)
concat_cut size (suc n) [] some l = refl
concat_cut size (suc n) (b ∷ bytes) some l =
    ap (λ (r : List ℕ). take size (b ∷ bytes) ++ r) (concat_cut size n (drop size (b ∷ bytes)) some (omega (arith, length-drop size (b ∷ bytes))))
    ∙ take-append-drop size (b ∷ bytes)

abbrev IsFound : List Found → Stored → Type 0
IsFound found s = found_pieces s.entry.dump_id found ≡ rows_of s

held_by : (tree : Tree) (found : List Found) (e : Entry) (es : List Entry) (has : Bool) (needed : List DataFile) → e.has_rows ≡ has → HasRows tree e has needed (λ others. HaveRows tree es others) → AllByRecursion (IsFound found) (stored_by tree e has needed (stored_of tree es))
    → ((others : List DataFile) → HaveRows tree es others → AllByRecursion (IsFound found) (stored_of tree es others) → RowsAre tree (λ id. option_map concat (found_pieces id found)) es others)
    → RowIs tree (λ id. option_map concat (found_pieces id found)) e has needed (λ others. RowsAre tree (λ id. option_map concat (found_pieces id found)) es others)
held_by tree found e es false needed has r f again =
    (ap (option_map concat) (f.0 ∙ ap (λ (b : Bool). rows_from b []) has), again needed r f.1)
held_by tree found e es true [] has r f again = absurd r
held_by tree found e es true (file ∷ others) has r f again =
    let text = (file_rows tree file).text in
    (r.0, r.1, ap (option_map concat) (f.0 ∙ ap (λ (b : Bool). rows_from b (pieces_of text)) has) ∙ ap (λ (l : List ℕ). Some l) (concat_cut piece_size (length text) text (omega arith) (omega arith)), again others r.2 f.1)

pub rows_held : (tree : Tree) (found : List Found) (es : List Entry) (needed : List DataFile) → HaveRows tree es needed → AllByRecursion (IsFound found) (stored_of tree es needed) → RowsAre tree (λ id. option_map concat (found_pieces id found)) es needed
rows_held tree found [] needed r f = tt
rows_held tree found (e ∷ es) needed r f = held_by tree found e es e.has_rows needed refl r f (rows_held tree found es)

-- ---- entries that tell their places

own_told_by : (earlier : List ℕ) (e : Entry) (es : List Entry) (has : Bool) (places : List ℕ) → is_among earlier e.dump_id ≡ false → ((ps : List ℕ) → HasOwnIds (e.dump_id ∷ earlier) (told es ps)) → HasOwnIds earlier (told_by e has places (told es))
own_told_by earlier e es false places fresh again = (fresh, again places)
own_told_by earlier e es true [] fresh again = (fresh, again [])
own_told_by earlier e es true (p ∷ places) fresh again = (fresh, again places)

own_told : (earlier : List ℕ) (es : List Entry) (places : List ℕ) → HasOwnIds earlier es → HasOwnIds earlier (told es places)
unfolding told
own_told earlier [] places own = tt
own_told earlier (e ∷ es) places own = own_told_by earlier e es e.has_rows places own.0 (λ ps. own_told (e.dump_id ∷ earlier) es ps own.1)

fit_one : (e : Entry) (x : Extra) → IsEntry e → EntryCanBeWritten e → IsExtra x → ExtraCanBeWritten x → is_file x ≡ false → EntryFits false (with_extra x e)
fit_one e x value can is written kind = record { value = value_with e x value is; can = can_with e x can written; kind = kind }

fit_unplaced : (e : Entry) → IsEntry e → EntryCanBeWritten e → EntryFits false (unplaced e)
fit_unplaced e value can = fit_one e (unplaced_extra e.has_rows) value can (omega arith) (unplaced_can e.has_rows) refl

told_fit_by : (e : Entry) (es : List Entry) (has : Bool) (places : List ℕ) → IsEntry e → EntryCanBeWritten e → AllByRecursion (λ p. p < 2 ^ 64) places → ((ps : List ℕ) → AllByRecursion (λ p. p < 2 ^ 64) ps → AllByRecursion (EntryFits false) (told es ps))
    → AllByRecursion (EntryFits false) (told_by e has places (told es))
told_fit_by e es false places value can low again = (fit_unplaced e value can, again places low)
told_fit_by e es true [] value can low again = (fit_unplaced e value can, again [] tt)
told_fit_by e es true (p ∷ places) value can low again = (fit_one e (Place 2 p) value can low.0 (omega arith, omega arith) refl, again places low.1)

told_fit : (es : List Entry) (places : List ℕ) → AllByRecursion IsEntry es → All EntryCanBeWritten es → AllByRecursion (λ p. p < 2 ^ 64) places → AllByRecursion (EntryFits false) (told es places)
unfolding told
told_fit [] places values can low = tt
told_fit (e ∷ es) places values can low = told_fit_by e es e.has_rows places values.0 (All-head EntryCanBeWritten e es can) low (λ ps l. told_fit es ps values.1 (All-tail EntryCanBeWritten e es can) l)

-- the places are those of the blocks
places_low_by : (tree : Tree) (at : ℕ) (e : Entry) (es : List Entry) (has : Bool) (needed : List DataFile) → e.has_rows ≡ has → at + length (blocks_text (stored_by tree e has needed (stored_of tree es))) < 2 ^ 64
    → ((behind : ℕ) (others : List DataFile) → HaveRows tree es others → behind + length (blocks_text (stored_of tree es others)) < 2 ^ 64 → AllByRecursion (λ p. p < 2 ^ 64) (places_from tree behind es others))
    → HasRows tree e has needed (λ others. HaveRows tree es others) → AllByRecursion (λ p. p < 2 ^ 64) (place_then tree at e.dump_id has needed (λ behind left. places_from tree behind es left))
places_low_by tree at e es false needed has low again r = again at needed r (subst (λ (b : Bool). at + length (block_by b e.dump_id [] ++ blocks_text (stored_of tree es needed)) < 2 ^ 64) has low)
places_low_by tree at e es true [] has low again r = absurd r
places_low_by tree at e es true (file ∷ others) has low again r =
    let block = block_by true e.dump_id (pieces_of (file_rows tree file).text) in
    let whole = subst (λ (b : Bool). at + length (block_by b e.dump_id (pieces_of (file_rows tree file).text) ++ blocks_text (stored_of tree es others)) < 2 ^ 64) has low in
    (omega (arith, whole), again (at + length block) others r.2 (omega (arith, whole, length-append block (blocks_text (stored_of tree es others)))))

places_low : (tree : Tree) (at : ℕ) (es : List Entry) (needed : List DataFile) → HaveRows tree es needed → at + length (blocks_text (stored_of tree es needed)) < 2 ^ 64 → AllByRecursion (λ p. p < 2 ^ 64) (places_from tree at es needed)
unfolding places_from
places_low tree at [] needed r low = tt
places_low tree at (e ∷ es) needed r low = places_low_by tree at e es e.has_rows needed refl low (λ behind others rows less. places_low tree behind es others rows less) r

lead_at : (tree : Tree) (ws : List Entry) (others : List DataFile) (here behind : ℕ) → here ≡ behind → OffsetsLead here (stored_of tree ws others) → OffsetsLead behind (stored_of tree ws others)
lead_at tree ws others here behind e l = subst (λ (k : ℕ). OffsetsLead k (stored_of tree ws others)) e l

told_lead_by : (tree : Tree) (at : ℕ) (e : Entry) (es : List Entry) (has : Bool) (needed : List DataFile) → e.has_rows ≡ has
    → ((behind : ℕ) (others : List DataFile) → HaveRows tree es others → OffsetsLead behind (stored_of tree (told es (places_from tree behind es others)) others))
    → HasRows tree e has needed (λ others. HaveRows tree es others) → OffsetsLead at (stored_of tree (told_by e has (place_then tree at e.dump_id has needed (λ behind left. places_from tree behind es left)) (told es)) needed)
told_lead_by tree at e es false needed has again r =
    subst (λ (b : Bool). OffsetsLead at (stored_by tree (unplaced e) b needed (stored_of tree (told es (places_from tree at es needed))))) (sym has) (
      no_place_told at e.has_rows e.has_rows,
      lead_at tree (told es (places_from tree at es needed)) needed at (at + length (block_by e.has_rows e.dump_id [])) (none_longer has) (again at needed r),
    )
  where
    none_longer : e.has_rows ≡ false → at ≡ at + length (block_by e.has_rows e.dump_id [])
    none_longer h = let zero_long : length (block_by e.has_rows e.dump_id []) ≡ 0 = ap (λ (b : Bool). length (block_by b e.dump_id [])) h in omega (arith, zero_long)
told_lead_by tree at e es true [] has again r = absurd r
told_lead_by tree at e es true (file ∷ others) has again r =
    let ps = pieces_of (file_rows tree file).text in
    let block = block_by true e.dump_id ps in
    let more = told es (places_from tree (at + length block) es others) in
    subst (λ (b : Bool). OffsetsLead at (stored_by tree (placed at e) b (file ∷ others) (stored_of tree more))) (sym has) (
      λ state. (has, refl),
      lead_at tree more others (at + length block) (at + length (block_by e.has_rows e.dump_id ps)) (ap (λ (b : Bool). at + length (block_by b e.dump_id ps)) (sym has)) (again (at + length block) others r.2),
    )

told_lead : (tree : Tree) (at : ℕ) (es : List Entry) (needed : List DataFile) → HaveRows tree es needed → OffsetsLead at (stored_of tree (told es (places_from tree at es needed)) needed)
unfolding told places_from
told_lead tree at [] needed r = tt
told_lead tree at (e ∷ es) needed r = told_lead_by tree at e es e.has_rows needed refl (λ behind others rows. told_lead tree behind es others rows) r

told_bare_by : (e : Entry) (es : List Entry) (has : Bool) (places : List ℕ) → ((ps : List ℕ) → map bare (told es ps) ≡ map bare es) → map bare (told_by e has places (told es)) ≡ map bare (e ∷ es)
told_bare_by e es false places h = ap (λ (l : List Entry). bare e ∷ l) (h places)
told_bare_by e es true [] h = ap (λ (l : List Entry). bare e ∷ l) (h [])
told_bare_by e es true (p ∷ places) h = ap (λ (l : List Entry). bare e ∷ l) (h places)

pub told_bare : (es : List Entry) (places : List ℕ) → map bare (told es places) ≡ map bare es
unfolding told
told_bare [] places = refl
told_bare (e ∷ es) places = told_bare_by e es e.has_rows places (told_bare es)

pub placed_fits : (tree : Tree) (head : Head) (es : List Entry) (needed : List DataFile) → CanBeArchived (head_seen head) es → IsHead (head_seen head) → AllByRecursion IsEntry es → HaveRows tree es needed → head.format ≡ 1
    → length (first_front head es) + length (blocks_text (stored_of tree es needed)) < 2 ^ 64 → CustomFits (head_seen head) (stored_of tree (placed_entries tree head es needed) needed)
placed_fits tree head es needed archive types values rows format low =
    let h = head_seen head in
    let at = length (first_front head es) in
    let places = places_from tree at es needed in
    let written = told es places in
    let are = stored_entries tree written needed (rows_alike tree written es needed (told_bare es places) rows) in
    record {
      head = types;
      can = archive.head;
      format = format;
      toc = subst (TocFits false) (sym are) (record {
        few = omega (arith, archive.few, told_length es places);
        each = told_fit es places values archive.each (places_low tree at es needed rows low);
        own = own_told [] es places (own_ids [] 0 es (λ k some. refl) archive.rise);
      });
      pieces = stored_fits tree written needed;
      offsets = lead_at tree written needed at (first_place h (stored_of tree written needed)) (sym (ap (λ (l : List Entry). length (front_text h l)) are ∙ front_as_long h es places)) (told_lead tree at es needed rows);
    }
