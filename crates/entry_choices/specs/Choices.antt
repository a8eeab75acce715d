-- Which entries of an archive a restore takes.
-- What is said of an entry goes by the entries before it, and those stand in a list with the last one first.
use Rattle.std.specs.Prelude.{ℕ, ◌+◌, Bool, true, false, not, ◌&&◌, ◌||◌, ◌==◌, List, [], ◌∷◌, length, take, reverse, slice_get, Option, Some, None, option_and_then, unwrap_or, map, if◌then◌else◌}
use Rattle.std.specs.List.{filter, range_with_len}
use Rattle.std.specs.Option.{option_map_or}
use Rattle.cat_model.specs.declared.words.Sections.{Sections}
use Rattle.toc_entry.specs.declared.entry.Entry.{Entry}
use Rattle.entry_choices.specs.declared.options.Options.{Options}
use Rattle.entry_choices.specs.Kinds.{is_one_of, session_kinds, database_kinds, data_kinds, relation_kinds, is_comment, is_grants}

abbrev pub first_dependency : Entry → Option ℕ
first_dependency e = slice_get e.depends 0

-- ---- sections

-- an entry of no section has its first dependency's, where that one is known, and else comes before the data
abbrev pub section_by : Option ℕ → Entry → ℕ
section_by first e = if e.section == 1 then unwrap_or first 2 else e.section

-- the section of the entry with this id
unfoldable pub section_among : List Entry → ℕ → Option ℕ
section_among [] id = None
section_among (e ∷ before) id =
    elim (e.dump_id == id) [ true ↦ Some (section_by (option_and_then (section_among before) (first_dependency e)) e) | false ↦ section_among before id ]

abbrev pub section_behind : List Entry → Entry → ℕ
section_behind before e = section_by (option_and_then (section_among before) (first_dependency e)) e

abbrev pub takes_section : Sections → ℕ → Bool
takes_section sections section = sections.pre && section == 2 || sections.rows && section == 3 || sections.post && section == 4

-- ---- the options, for an entry by itself

abbrev pub is_data : Entry → Bool
is_data e = is_one_of data_kinds e.desc

abbrev pub is_empty : List (List ℕ) → Bool
is_empty names = length names == 0

abbrev pub is_in : List (List ℕ) → Entry → Bool
is_in schemas e = option_map_or (is_one_of schemas) e.namespace false

-- without rows and values, or these alone
abbrev pub passes_data : Options → Entry → Bool
passes_data o e = if is_data e then not o.schema_only else not o.data_only

-- in these schemas, and not in those
abbrev pub passes_schemas : Options → Entry → Bool
passes_schemas o e = (is_empty o.schemas || is_in o.schemas e) && not (is_in o.not_schemas e)

-- tables, views and sequences of these names
abbrev pub passes_tables : Options → Entry → Bool
passes_tables o e = is_empty o.tables || is_one_of relation_kinds e.desc && is_one_of o.tables e.tag

abbrev pub passes : Options → ℕ → Entry → Bool
passes o section e = passes_data o e && passes_schemas o e && passes_tables o e && takes_section o.sections section

-- ---- comments and grants

-- what says something of another entry
abbrev pub is_beside : Entry → Bool
is_beside e = is_comment e.desc || is_grants e.desc

-- the option of its own
abbrev pub is_allowed : Options → Entry → Bool
is_allowed o e = if is_comment e.desc then o.comments else o.grants

-- ---- all together

-- Whether an entry of this section is taken. What sets up the session always is, and the database never. A comment or a
-- grant goes with what it first depends on, where it is told whether that is taken.
abbrev pub takes : Options → ℕ → Option Bool → Entry → Bool
takes o section first e =
    if is_one_of session_kinds e.desc then true
    else (if is_one_of database_kinds e.desc then false
    else (if is_beside e then is_allowed o e && unwrap_or first (passes o section e)
    else passes o section e))

-- whether the entry with this id is taken
unfoldable pub is_taken_among : Options → List Entry → ℕ → Option Bool
is_taken_among o [] id = None
is_taken_among o (e ∷ before) id =
    elim (e.dump_id == id) [ true ↦ Some (takes o (section_behind before e) (option_and_then (is_taken_among o before) (first_dependency e)) e) | false ↦ is_taken_among o before id ]

-- whether an entry is taken behind these
abbrev pub is_taken_behind : Options → List Entry → Entry → Bool
is_taken_behind o before e = takes o (section_behind before e) (option_and_then (is_taken_among o before) (first_dependency e)) e

abbrev pub is_first_taken : Options → List Entry → Bool
is_first_taken o [] = false
is_first_taken o (e ∷ before) = is_taken_behind o before e

-- whether the entry at a place is wanted
unfoldable pub wanted : Options → List Entry → ℕ → Bool
wanted o entries i = is_first_taken o (reverse (take (i + 1) entries))

-- for each entry, whether it is wanted
abbrev pub wanted_marks : Options → List Entry → List Bool
wanted_marks o entries = map (wanted o entries) (range_with_len 0 (length entries))

-- the places of those that are wanted
abbrev pub wanted_places : Options → List Entry → List ℕ
wanted_places o entries = filter (wanted o entries) (range_with_len 0 (length entries))
