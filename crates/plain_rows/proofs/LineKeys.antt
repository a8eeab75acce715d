-- The keys of lines are those of rows, and none again or all among others means the same of rows.
use Rattle.std.proofs.Common.{◌≡◌, ℕ, ◌+◌, Bool, true, false, cond, not, ◌&&◌, ◌||◌, List, [], ◌∷◌, ◌++◌, length, map, Option, Some, None, Result, Ok, Err, refl, sym, ap, ◌∙◌}
use Rattle.std.specs.List.{filter_map, list_any}
use Rattle.std.specs.Result.{result_ok}
use Rattle.std.specs.Cmp.{first_so, second_so}
use Rattle.std.specs.Cmp.Lexicographic.{nat_list_eq_equiv}
use Rattle.std.proofs.lemmas.Bool.{or_parts, not-true, and_from}
use Rattle.copy_text.specs.declared.fault.CopyFault.{CopyFault}
use Rattle.copy_text.specs.Lines.{data_lines}
use Rattle.copy_text.specs.Reading.{row_of}
use Rattle.cat_model.specs.declared.value.Column.{Column}
use Rattle.cat_model.specs.Values.{Bytes, Row}
use Rattle.cat_model.specs.Lexemes.{same_text}
use Rattle.cat_model.specs.RowTexts.{rows_held}
use Rattle.cat_model.specs.Tables.{onto, orphan_of, pair_or, place_of, repeated_after, same_key}
use Rattle.row_keys.specs.ByPlaces.{field_at, key_at}
use Rattle.row_keys.proofs.KnownKeys.{null_nowhere, null_more, one_more}
use Rattle.plain_rows.specs.Lines.{all_among, key_read, line_key, line_keys, none_again, same_some}

abbrev Key : Type 0
Key = List Bytes

-- a key of one column
abbrev wrap : Option Bytes → Option Key
wrap field = onto field (Some [])

-- ---- lines and rows

-- the keys of rows
abbrev row_keys : List Column → ℕ → List Row → List (Option Bytes)
row_keys columns place rows = map (field_at columns (Some place)) rows

keys_wrapped : (columns : List Column) (place : ℕ) (rows : List Row) → map (key_at columns (Some place ∷ [])) rows ≡ map wrap (row_keys columns place rows)
keys_wrapped columns place [] = refl
keys_wrapped columns place (row ∷ rows) = ap (λ (ks : List (Option Key)). wrap (field_at columns (Some place) row) ∷ ks) (keys_wrapped columns place rows)

abbrev read_rows : List Bytes → List Row
read_rows lines = filter_map result_ok (map row_of lines)

again_step : (known : List Bytes) (k : Option Bytes) (lines rows : List (Option Bytes)) → ((known : List Bytes) → none_again known lines ≡ true → none_again known rows ≡ true) → none_again known (k ∷ lines) ≡ true → none_again known (k ∷ rows) ≡ true
again_step known None lines rows later again = later known again
again_step known (Some k) lines rows later again =
    and_from _ _
    (first_so (not (list_any (same_text k) known)) (none_again (k ∷ known) lines) again)
    (later (k ∷ known) (second_so (not (list_any (same_text k) known)) (none_again (k ∷ known) lines) again))

none_again_rows : (columns : List Column) (place : ℕ) (lines : List Bytes) (known : List Bytes) → none_again known (map (line_key columns place) lines) ≡ true → none_again known (row_keys columns place (read_rows lines)) ≡ true
none_again_rows columns place [] known again = refl
none_again_rows columns place (line ∷ lines) known again = by (row_of line) (none_again_rows columns place lines) again
  where
    by : (r : Result Row CopyFault)
        → ((known : List Bytes) → none_again known (map (line_key columns place) lines) ≡ true → none_again known (row_keys columns place (read_rows lines)) ≡ true)
        → none_again known (key_read columns place r ∷ map (line_key columns place) lines) ≡ true
        → none_again known (row_keys columns place (filter_map result_ok (r ∷ map row_of lines))) ≡ true
    by (Err fault) later again = later known again
    by (Ok row) later again = again_step known (field_at columns (Some place) row) (map (line_key columns place) lines) (row_keys columns place (read_rows lines)) later again

-- ---- none again

and_true : (b : Bool) → (b && true) ≡ b
and_true true = refl
and_true false = refl

-- no key that isn't known stands before
abbrev Unknown : List Bytes → List (Option Key) → Type 0
Unknown known before = (q : Bytes) → list_any (same_text q) known ≡ false → place_of 1 (Some (q ∷ [])) before ≡ None

differ : (known : List Bytes) (before : List (Option Key)) (keys : List (Option Bytes)) → Unknown known before → none_again known keys ≡ true → repeated_after before (map wrap keys) ≡ None
differ known before [] none again = refl
differ known before (None ∷ keys) none again =
    ap (pair_or (repeated_after (before ++ None ∷ []) (map wrap keys)) (length before + 1)) (null_nowhere 1 before)
    ∙ differ known (before ++ None ∷ []) keys (λ q other. null_more 1 before (q ∷ []) ∙ none q other) again
differ known before (Some k ∷ keys) none again =
    let new : list_any (same_text k) known ≡ false = not-true _ (first_so (not (list_any (same_text k) known)) (none_again (k ∷ known) keys) again) in
    let rest : none_again (k ∷ known) keys ≡ true = second_so (not (list_any (same_text k) known)) (none_again (k ∷ known) keys) again in
    ap (pair_or (repeated_after (before ++ Some (k ∷ []) ∷ []) (map wrap keys)) (length before + 1)) (none k new)
    ∙ differ (k ∷ known) (before ++ Some (k ∷ []) ∷ []) keys (λ q other.
    let parts = or_parts _ _ other in
    let apart : (same_text k q && true) ≡ false = and_true (same_text k q) ∙ nat_list_eq_equiv.symm k q ∙ parts.0 in
    one_more before (k ∷ []) (q ∷ []) (none k new)
    ∙ ap (λ (b : Bool). cond b (Some (length before + 1)) (place_of 1 (Some (q ∷ [])) before)) apart
    ∙ none q parts.1) rest

pub rows_differ : (columns : List Column) (place : ℕ) (text : Bytes) → none_again [] (line_keys columns place text) ≡ true → repeated_after [] (map (key_at columns (Some place ∷ [])) (rows_held text)) ≡ None
rows_differ columns place text again =
    ap (repeated_after []) (keys_wrapped columns place (rows_held text))
    ∙ differ [] [] (row_keys columns place (rows_held text)) (λ q other. refl) (none_again_rows columns place (data_lines text) [] again)

-- ---- all among

among_same : (k : Bytes) (parents : List (Option Bytes)) → list_any (same_key (Some (k ∷ []))) (map wrap parents) ≡ list_any (same_some k) parents
among_same k [] = refl
among_same k (None ∷ parents) = among_same k parents
among_same k (Some j ∷ parents) =
    ap (λ (b : Bool). b || list_any (same_key (Some (k ∷ []))) (map wrap parents)) (and_true (same_text k j))
    ∙ ap (λ (b : Bool). same_text k j || b) (among_same k parents)

all_have : (n : ℕ) (parents keys : List (Option Bytes)) → all_among parents keys ≡ true → orphan_of n (map wrap parents) (map wrap keys) ≡ None
all_have n parents [] all = refl
all_have n parents (None ∷ keys) all = all_have (n + 1) parents keys all
all_have n parents (Some k ∷ keys) all =
    let there : list_any (same_some k) parents ≡ true = first_so (list_any (same_some k) parents) (all_among parents keys) all in
    let rest : all_among parents keys ≡ true = second_so (list_any (same_some k) parents) (all_among parents keys) all in
    ap (λ (b : Bool). cond b (orphan_of (n + 1) (map wrap parents) (map wrap keys)) (Some n)) (among_same k parents ∙ there)
    ∙ all_have (n + 1) parents keys rest

-- a line that is no row has no key
any_same : (columns : List Column) (place : ℕ) (lines : List Bytes) (q : Bytes) → list_any (same_some q) (map (line_key columns place) lines) ≡ list_any (same_some q) (row_keys columns place (read_rows lines))
any_same columns place [] q = refl
any_same columns place (line ∷ lines) q = by (row_of line) (any_same columns place lines q)
  where
    by : (r : Result Row CopyFault) → list_any (same_some q) (map (line_key columns place) lines) ≡ list_any (same_some q) (row_keys columns place (read_rows lines))
        → list_any (same_some q) (key_read columns place r ∷ map (line_key columns place) lines) ≡ list_any (same_some q) (row_keys columns place (filter_map result_ok (r ∷ map row_of lines)))
    by (Err fault) later = later
    by (Ok row) later = ap (λ (b : Bool). same_some q (field_at columns (Some place) row) || b) later

among_step : (parents others : List (Option Bytes)) (k : Option Bytes) (lines rows : List (Option Bytes)) → ((q : Bytes) → list_any (same_some q) parents ≡ list_any (same_some q) others) → (all_among parents lines ≡ true → all_among others rows ≡ true)
    → all_among parents (k ∷ lines) ≡ true → all_among others (k ∷ rows) ≡ true
among_step parents others None lines rows same later all = later all
among_step parents others (Some k) lines rows same later all =
    and_from _ _
    (sym (same k) ∙ first_so (list_any (same_some k) parents) (all_among parents lines) all)
    (later (second_so (list_any (same_some k) parents) (all_among parents lines) all))

among_rows : (columns : List Column) (place : ℕ) (parents others : List (Option Bytes)) → ((q : Bytes) → list_any (same_some q) parents ≡ list_any (same_some q) others) → (lines : List Bytes)
    → all_among parents (map (line_key columns place) lines) ≡ true → all_among others (row_keys columns place (read_rows lines)) ≡ true
among_rows columns place parents others same [] all = refl
among_rows columns place parents others same (line ∷ lines) all = by (row_of line) (among_rows columns place parents others same lines) all
  where
    by : (r : Result Row CopyFault)
        → (all_among parents (map (line_key columns place) lines) ≡ true → all_among others (row_keys columns place (read_rows lines)) ≡ true)
        → all_among parents (key_read columns place r ∷ map (line_key columns place) lines) ≡ true → all_among others (row_keys columns place (filter_map result_ok (r ∷ map row_of lines))) ≡ true
    by (Err fault) later all = later all
    by (Ok row) later all = among_step parents others (field_at columns (Some place) row) (map (line_key columns place) lines) (row_keys columns place (read_rows lines)) same later all

pub rows_have_parents : (columns parent_columns : List Column) (place parent_place : ℕ) (text parent_text : Bytes)
    → all_among (line_keys parent_columns parent_place parent_text) (line_keys columns place text) ≡ true
    → orphan_of 1 (map (key_at parent_columns (Some parent_place ∷ [])) (rows_held parent_text)) (map (key_at columns (Some place ∷ [])) (rows_held text)) ≡ None
rows_have_parents columns parent_columns place parent_place text parent_text all =
    let parents = row_keys parent_columns parent_place (rows_held parent_text) in
    ap (λ (ks : List (Option Key)). orphan_of 1 ks (map (key_at columns (Some place ∷ [])) (rows_held text))) (keys_wrapped parent_columns parent_place (rows_held parent_text))
    ∙ ap (orphan_of 1 (map wrap parents)) (keys_wrapped columns place (rows_held text))
    ∙ all_have 1 parents (row_keys columns place (rows_held text)) (among_rows columns place (line_keys parent_columns parent_place parent_text) parents (any_same parent_columns parent_place (data_lines parent_text)) (data_lines text) all)
