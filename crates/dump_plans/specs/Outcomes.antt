-- What the program answers where a dump can't be made, or not to its end.
use Rattle.std.specs.Prelude.{◌≡◌, List, Option, Some, None, Result, Ok, Err}
use Rattle.cat_model.specs.declared.words.What.TheVariants as what
use Rattle.obj_graph.specs.declared.select.SelectFault.{SelectFault}
use Rattle.obj_graph.specs.declared.select.SelectFault.TheVariants.{NoSchemas, NoTables}
use Rattle.toc_entry.specs.declared.entry.Entry.{Entry}
use Rattle.table_rows.specs.declared.fault.ValuesFault.{ValuesFault}
use Rattle.dump_toc.specs.Toc.{Refusal, no_match, looping, too_many}
use Rattle.dump_files.specs.declared.stop.DumpStop.{DumpStop}
use Rattle.dump_files.specs.declared.stop.DumpStop.TheVariants as stop
use Rattle.dump_plain.specs.Dumps.{BadRow}
use Rattle.tool_words.specs.declared.outcome.Limit.TheVariants.{Entries, DataFile}
use Rattle.tool_words.specs.declared.outcome.Unmatched.{Unmatched}
use Rattle.tool_words.specs.declared.outcome.Unmatched.TheVariants.{Schemas, Tables}
use Rattle.tool_words.specs.declared.outcome.Outcome.{Outcome}
use Rattle.tool_words.specs.declared.outcome.Outcome.TheVariants.{ReadFault, WriteFault, Missing, TooLarge, Loop, NoMatch, Memory}
use Rattle.tool_words.specs.Outcomes.{values_outcome}

abbrev pub unmatched : SelectFault → Unmatched
unmatched (NoSchemas at) = Schemas at
unmatched (NoTables at) = Tables at

-- why there is no table of contents
abbrev pub refusal_outcome : Refusal → Outcome
refusal_outcome (no_match fault) = NoMatch (unmatched fault)
refusal_outcome (looping path) = Loop path
refusal_outcome (too_many count) = TooLarge Entries count

-- the entries, or why there are none
abbrev pub toc_told : Result (List Entry) Refusal → Result (List Entry) Outcome
toc_told (Ok entries) = Ok entries
toc_told (Err refusal) = Err (refusal_outcome refusal)

-- a row of a data file that fails
abbrev pub bad_row_outcome : BadRow → Outcome
bad_row_outcome bad = values_outcome (record { table = bad.table; row = bad.first.row; fault = bad.first.fault })

-- why a dump isn't written, or not to its end
abbrev pub stop_outcome : DumpStop → Outcome
stop_outcome (stop.Missing name) = Missing name
stop_outcome (stop.TooLarge size) = TooLarge DataFile size
stop_outcome stop.ReadFault = ReadFault
stop_outcome (stop.BadRows table first) = bad_row_outcome (record { table = table; first = first })
stop_outcome stop.WriteFault = WriteFault
stop_outcome stop.Memory = Memory

-- the data files that are needed are there, or why not
abbrev pub ready_told : {X : Type 0} → X → Option DumpStop → Result X Outcome
ready_told x None = Ok x
ready_told x (Some stop) = Err (stop_outcome stop)
