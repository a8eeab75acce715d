use Rattle.std.proofs.Common.{◌≡◌, ◌+◌, ℕ, List, [], ◌∷◌, length, codes, Option, Result, Ok, refl, ap, ◌∙◌}
use Rattle.std.specs.Fmt.{digits}
use Rattle.std.specs.FinMap.{from_entries}
use Rattle.oid_groups.specs.Orders.{placed, by_number}
use Rattle.dump_ports.specs.Tree.{text_at}
use Rattle.folder_io.specs.Answers.{◌>>=◌}
use Rattle.folder_io.specs.declared.fault.FolderLimit.TheVariants.{DataFile}
use Rattle.folder_io.specs.declared.fault.FolderFault.{FolderFault}
use Rattle.folder_io.specs.Folders.{Bytes, within, file_text}
use Rattle.folder_io.specs.Examples.{File, tree_of}
use Rattle.folder_io.proofs.Examples.{found, first_of}
use Rattle.cat_names.specs.DataSets.{TextsByOid}
use Rattle.table_rows.specs.Tables.{is_table_row, table_oids}
use Rattle.folder_rows.specs.Reading.{total_of, texts_from, rows_from, data_of}
use Rattle.folder_rows.specs.Examples.{small, first_file, second_file, due}
use Rattle.folder_rows.proofs.laws.worked_examples.Goals as goal

-- what is due where the two data files hold this
abbrev of_two : ℕ → Option Bytes → Option Bytes → Result TextsByOid FolderFault
of_two used first second =
    total_of used >>= λ done.
    (within DataFile (codes "D/data/16385.copy") first >>= λ one. total_of (used + length one) >>= λ done.
    (within DataFile (codes "D/data/16400.copy") second >>= λ two. total_of (used + length one + length two) >>= λ done.
    Ok ((16400, two) ∷ [])) >>= λ texts. Ok ((16385, one) ∷ texts)) >>= λ texts. Ok (from_entries texts)

-- the files are found by their names
both_found : (used : ℕ) (files : List File) → due used small files ≡ of_two used (first_of files (codes "D/data/16385.copy")) (first_of files (codes "D/data/16400.copy"))
unfolding digits placed by_number is_table_row table_oids file_text texts_from rows_from data_of
both_found used files =
    ap (λ o. of_two used o (text_at (tree_of files) (codes "D/data/16400.copy"))) (found files (codes "D/data/16385.copy"))
    ∙ ap (of_two used (first_of files (codes "D/data/16385.copy"))) (found files (codes "D/data/16400.copy"))

pub returns : goal.returns
unfolding digits placed by_number is_table_row table_oids file_text texts_from rows_from data_of
returns c = record {
  no_tables = refl;
  both = both_found 100 (second_file ∷ first_file ∷ []);
  none = both_found 100 [];
  no_second = both_found 100 (first_file ∷ []);
  just_within = both_found 268435450 (second_file ∷ first_file ∷ []);
  past_at_second = both_found 268435451 (second_file ∷ first_file ∷ []);
  past_at_first = both_found 268435455 (first_file ∷ []);
  past_before = both_found 268435457 [];
  past_without_tables = refl;
}
