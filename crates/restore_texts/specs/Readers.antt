-- A reader of the code holds the archive that is due, or a fault is due.
use Rattle.std.specs.Prelude.{◌≡◌, Result, Ok, Err}
use Rattle.fmt_custom.specs.declared.reader.CustomReader.{CustomReader}
use Rattle.fmt_custom.specs.Customs.{Custom}
use Rattle.fmt_custom.specs.Readers as custom
use Rattle.fmt_directory.specs.declared.reader.DirReader.{DirReader}
use Rattle.fmt_directory.specs.Directories.{Directory}
use Rattle.fmt_directory.specs.Answers as directory
use Rattle.restore_texts.specs.declared.fault.TextFault.{TextFault}
use Rattle.restore_texts.specs.Faults.{IsDue}

abbrev pub GivesCustom : Result Custom TextFault → Result CustomReader TextFault → Type 0
GivesCustom due (Ok reader) = (c : Custom) × (due ≡ Ok c) × custom.Holds reader c
GivesCustom due (Err fault) = IsDue fault due

abbrev pub GivesDirectory : Result Directory TextFault → Result DirReader TextFault → Type 0
GivesDirectory due (Ok reader) = (d : Directory) × (due ≡ Ok d) × directory.Holds reader d
GivesDirectory due (Err fault) = IsDue fault due
