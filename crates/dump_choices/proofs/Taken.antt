-- The entries that have rows, one entry after another.
use Rattle.std.proofs.Common.{◌≡◌, ℕ, ◌+◌, ◌<◌, ◌≤◌, true, false, List, [], ◌∷◌, ◌++◌, length, map, take, sym, ap, append-nil, ◌∙◌}
use Rattle.std.proofs.Math.ListN.{get_or}
use Rattle.std.proofs.lemmas.List.{take_more, take_all, map-append}
use Rattle.std.proofs.lemmas.List.Elements.{filter-append}
use Rattle.std.specs.List.{filter}
use Rattle.cat_rows.specs.declared.catalogue.Catalogue.{Catalogue}
use Rattle.toc_entry.specs.declared.entry.Entry.{Entry}
use Rattle.dump_choices.specs.declared.data.TableData.{TableData}
use Rattle.dump_choices.specs.Data.{data_of, table_data}

pub with_rows : (cat : Catalogue) (e : Entry) (before after : List TableData) (x : TableData) → e.has_rows ≡ true → after ≡ before ++ x ∷ [] → x ≡ data_of cat e → after ≡ before ++ table_data cat (e ∷ [])
unfolding table_data
with_rows cat e before after x has added is = rw has (added ∙ ap (λ (d : TableData). before ++ d ∷ []) is)

pub without_rows : (cat : Catalogue) (e : Entry) (before : List TableData) → e.has_rows ≡ false → before ≡ before ++ table_data cat (e ∷ [])
unfolding table_data
without_rows cat e before has = rw has (sym (append-nil before))

both_data : (cat : Catalogue) (a b : List Entry) → table_data cat (a ++ b) ≡ table_data cat a ++ table_data cat b
unfolding table_data
both_data cat a b =
    ap (map (data_of cat)) (filter-append (λ (e : Entry). e.has_rows) a b)
    ∙ map-append (data_of cat) (filter (λ (e : Entry). e.has_rows) a) (filter (λ (e : Entry). e.has_rows) b)

pub data_more : (cat : Catalogue) (before after : List TableData) (entries : List Entry) (i : ℕ) (x : Entry) → before ≡ table_data cat (take i entries) → after ≡ before ++ table_data cat (x ∷ []) → i < length entries → x ≡ get_or entries i x → after ≡ table_data cat (take (i + 1) entries)
data_more cat before after entries i x so added h is =
    added
    ∙ ap (λ (b : List TableData). b ++ table_data cat (x ∷ [])) so
    ∙ sym (both_data cat (take i entries) (x ∷ []))
    ∙ ap (table_data cat) (ap (λ (y : Entry). take i entries ++ y ∷ []) is ∙ sym (take_more entries i x h))

pub data_none : (cat : Catalogue) (all : List TableData) → all ≡ [] → all ≡ table_data cat []
unfolding table_data
data_none cat all e = e

pub data_all : (cat : Catalogue) (all : List TableData) (entries : List Entry) (i : ℕ) → all ≡ table_data cat (take i entries) → length entries ≤ i → all ≡ table_data cat entries
data_all cat all entries i so h = so ∙ ap (table_data cat) (take_all i entries h)
