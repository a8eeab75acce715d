-- Which other entry decides whether one is taken.
use Rattle.std.specs.Prelude.{ℕ, Option, None, if◌then◌else◌}
use Rattle.toc_entry.specs.declared.entry.Entry.{Entry}
use Rattle.entry_choices.specs.declared.options.Options.{Options}
use Rattle.entry_choices.specs.Kinds.{is_one_of, session_kinds, database_kinds}
use Rattle.entry_choices.specs.Choices.{first_dependency, is_beside, is_allowed}

-- the id of the entry on which it depends whether a comment or a grant is taken
abbrev pub asked_of : Options → Entry → Option ℕ
asked_of o e =
    if is_one_of session_kinds e.desc then None
    else (if is_one_of database_kinds e.desc then None
    else (if is_beside e then (if is_allowed o e then first_dependency e else None)
    else None))
