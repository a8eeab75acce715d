-- What a catalogue by names is written as.
use Rattle.std.specs.Prelude.{◌≡◌, List, [], Option, Some, None, Err}
use Rattle.std.specs.FinMap.{empty}
use Rattle.std.specs.List.{find}
use Rattle.std.specs.Option.{option_map}
use Rattle.cat_rows.specs.declared.catalogue.Catalogue.{Catalogue}
use Rattle.cat_rows.specs.declared.roles.DatabaseRow.{DatabaseRow}
use Rattle.cat_model.specs.declared.words.What.TheVariants.{Unbuilt}
use Rattle.cat_model.specs.Values.{Bytes, Named}
use Rattle.cat_names.specs.DataSets.{TextsByOid}
use Rattle.eng_tables.specs.Oids.{IsLeastUnused}
use Rattle.object_ids.specs.Ids.{IdsOf}
use Rattle.opening_written.specs.Keeping.{BeganAs}
use Rattle.opening_written.specs.Export.{IsExported}
use Rattle.tool_words.specs.declared.outcome.Outcome.{Outcome}
use Rattle.tool_words.specs.declared.outcome.Outcome.TheVariants.{OutOfProfile, TooLarge, Memory}
use Rattle.openings.specs.Exports.{Exported, export_of}
use Rattle.openings.specs.Openings.{export_named}
use Rattle.saved_folders.specs.Exports.{WithTexts, ReadsAs, IsReordered}
use Rattle.saved_folders.specs.Folders.{Texts, AreTexts, folder_saved}

-- the name of the first database that is the current one
abbrev pub current_name : List DatabaseRow → Option Bytes
current_name databases = option_map (λ d. d.datname) (find (λ d. d.datcurrent) databases)

-- Each oid that may be drawn is in use: what an opening became needs more than there are.
pub record NoOidIsLeft (opening : Catalogue) : Type 0 where
  pub ids : IdsOf
  pub began : BeganAs opening ids
  pub all_used : IsLeastUnused ids.used None

-- a folder of tables that were made of what an opening became is past a limit, so that reading it is refused
pub record IsPastLimit (opening : Catalogue) (named : Named) (refusal : Outcome) : Type 0 where
  pub current : Bytes
  pub is_current : current_name opening.pg_database ≡ Some current
  pub cat : Catalogue
  pub rows : TextsByOid
  pub exported : IsExported opening named current cat rows
  pub texts : Texts
  pub spelled : AreTexts cat rows texts
  pub refused : export_of [] (folder_saved [] texts empty) ≡ Err refusal

-- What an opening became isn't written: its files would be too large, no oid is left for it, or memory ran out.
abbrev pub IsUnwritten : Catalogue → Named → Outcome → Type 0
IsUnwritten opening named (TooLarge limit most) = IsPastLimit opening named (TooLarge limit most)
IsUnwritten opening named (OutOfProfile what) = (what ≡ Unbuilt) × NoOidIsLeft opening
IsUnwritten opening named Memory = Unit {0}
IsUnwritten opening named outcome = ⊥

-- The export holds, in the order of each table's rows, tables that were made of what an opening became: what had an oid by the
-- opening's rows has it, what had none has one that they don't name, and the dependencies are the opening's.
pub record IsMadeOf (opening : Catalogue) (named : Named) (export : Exported) : Type 0 where
  pub current : Bytes
  pub is_current : current_name opening.pg_database ≡ Some current
  pub cat : Catalogue
  pub rows : TextsByOid
  pub exported : IsExported opening named current cat rows
  pub order : IsReordered cat rows export

-- texts of a folder that is read as an export which stands for the catalogue, and was made of what the opening became
pub record StandFor (opening : Catalogue) (named : Named) (made : WithTexts) : Type 0 where
  pub reads : ReadsAs made.texts made.export
  pub same : export_named made.export ≡ named
  pub made_of : IsMadeOf opening named made.export
