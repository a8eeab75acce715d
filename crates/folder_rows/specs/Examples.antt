-- Worked examples of folders, whose name is D, and of the two tables 16385 and 16400 of a catalogue.
use Rattle.std.specs.Prelude.{◌≡◌, ℕ, List, [], ◌∷◌, Result, Ok, Err, codes}
use Rattle.std.specs.FinMap.{from_entries}
use Rattle.cat_rows.specs.declared.catalogue.Catalogue.{Catalogue}
use Rattle.cat_rows.specs.Catalogues.{no_rows}
use Rattle.cat_names.specs.DataSets.{TextsByOid}
use Rattle.folder_io.specs.declared.file.ExportFile.TheVariants.{Data}
use Rattle.folder_io.specs.declared.fault.FolderLimit.TheVariants.{Folder}
use Rattle.folder_io.specs.declared.fault.FolderFault.{FolderFault}
use Rattle.folder_io.specs.declared.fault.FolderFault.TheVariants.{Missing, TooLarge}
use Rattle.folder_io.specs.Examples.{File, tree_of, in_folder}
use Rattle.table_rows.specs.Examples.{relation}
use Rattle.folder_rows.specs.Reading.{data_of}

-- a table, a view and a table
abbrev pub small : Catalogue
small = record no_rows { pg_class = relation 16400 114 ∷ relation 16386 118 ∷ relation 16385 114 ∷ [] }

-- the data files of 16385 and 16400
abbrev pub first_file : File
first_file = in_folder (Data 16385) (codes "1\n")

abbrev pub second_file : File
second_file = in_folder (Data 16400) (codes "1\ta\n")

-- what is due of a folder of these files, where so many bytes are used before them
abbrev pub due : ℕ → Catalogue → List File → Result TextsByOid FolderFault
due used cat files = data_of (codes "D") used cat (tree_of files)

abbrev pub past_folder : FolderFault
past_folder = TooLarge Folder 268435457

pub record Examples : Type 0 where
  pub no_tables : due 100 no_rows [] ≡ Ok (from_entries [])
  pub both : due 100 small (second_file ∷ first_file ∷ []) ≡ Ok (from_entries ((16385, codes "1\n") ∷ (16400, codes "1\ta\n") ∷ []))
  pub none : due 100 small [] ≡ Err (Missing (codes "D/data/16385.copy"))
  pub no_second : due 100 small (first_file ∷ []) ≡ Err (Missing (codes "D/data/16400.copy"))
  pub just_within : due 268435450 small (second_file ∷ first_file ∷ []) ≡ Ok (from_entries ((16385, codes "1\n") ∷ (16400, codes "1\ta\n") ∷ []))
  pub past_at_second : due 268435451 small (second_file ∷ first_file ∷ []) ≡ Err past_folder
  pub past_at_first : due 268435455 small (first_file ∷ []) ≡ Err past_folder
  pub past_before : due 268435457 small [] ≡ Err past_folder
  pub past_without_tables : due 268435457 no_rows [] ≡ Err past_folder
