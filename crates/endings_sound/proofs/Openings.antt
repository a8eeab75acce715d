-- What scripts and restores leave of a folder that is taken in can be exported.
use Rattle.std.proofs.Common.{◌≡◌, ℕ, Bool, List, Option, Some, Ok}
use Rattle.dump_ports.specs.Tree.{Tree}
use Rattle.cat_model.specs.Values.{Bytes}
use Rattle.cat_names.specs.Naming.{boot}
use Rattle.ddl_laws.specs.located.Located.{Located}
use Rattle.ddl_laws.specs.Reading.{statements_of}
use Rattle.ddl_laws.specs.Spellings as laws
use Rattle.ddl_laws.proofs.Respelled.{read_is_writable}
use Rattle.exports.specs.Exports.{Exported}
use Rattle.openings.specs.Openings.{opened_folder, export_named}
use Rattle.opening_sound.specs.Export.{CanBeExported}
use Rattle.opening_sound.specs.Left.{IsLeft}
use Rattle.opening_sound.proofs.Leaving.{opened}
use Rattle.opening_sound.proofs.Made.{left_exported}
use Rattle.restore_plan.specs.declared.entry.Entry as planned
use Rattle.restore_runs.specs.Endings.{ending as restore_ending}
use Rattle.restore_runs.specs.Wanted.{wanted_due}
use Rattle.script_runs.specs.Stopping.{ending as script_ending}
use Rattle.sound_folders.proofs.Opened.{is_loaded, folder_sound}
use Rattle.sound_texts.proofs.Writable.{all_fit}
use Rattle.toc_entry.specs.declared.entry.Entry.{Entry}
use Rattle.well_formed.proofs.Formed.{well_formed}
use Rattle.script_runs.proofs.Kept.{script_left}
use Rattle.restore_folders.proofs.Ready.{entries_fit, restore_left}

module _ (folder : Bytes) (tree : Tree) (opening : Exported) (role : Bytes) (taken : opened_folder folder tree ≡ Ok opening) (is_role : boot opening.cat ≡ Some role) where
  started : IsLeft opening.cat opening.rows role (export_named opening)
  unfolding export_named
  started = opened opening.cat opening.rows role (well_formed opening.cat (is_loaded folder tree opening taken).tables) (folder_sound folder tree opening taken) is_role

  pub script_exported : (text : List ℕ) (statements : List Located) (stop : Bool) → statements_of text ≡ Ok statements → CanBeExported opening.cat (script_ending stop role statements (export_named opening)).left
  script_exported text statements stop read =
      left_exported opening.cat opening.rows role (script_ending stop role statements (export_named opening)).left (well_formed opening.cat (is_loaded folder tree opening taken).tables)
      (script_left opening.cat opening.rows role stop statements (export_named opening) started (all_fit (laws.said statements) (read_is_writable text statements read)))

  pub restore_exported : (teller : Bytes) (owners : Bool) (entries : List Entry) (rows : List (Option (List ℕ))) (wanted : List planned.Entry) (stop : Bool) → wanted_due owners entries rows ≡ Ok wanted → CanBeExported opening.cat (restore_ending stop teller role entries wanted (export_named opening)).left
  restore_exported teller owners entries rows wanted stop read =
      left_exported opening.cat opening.rows role (restore_ending stop teller role entries wanted (export_named opening)).left (well_formed opening.cat (is_loaded folder tree opening taken).tables)
      (restore_left opening.cat opening.rows role teller stop entries wanted (export_named opening) started (entries_fit owners entries rows wanted read))
