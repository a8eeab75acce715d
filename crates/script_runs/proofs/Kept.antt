-- A script leaves an opening in order, to its end or to the first statement that is refused.
use Rattle.std.proofs.Common.{◌≡◌, Bool, true, false, List, [], ◌∷◌, Some, None, Result, Ok, Err, refl}
use Rattle.std.specs.List.{AllByRecursion}
use Rattle.cat_rows.specs.declared.catalogue.Catalogue.{Catalogue}
use Rattle.cat_model.specs.declared.cause.Cause.{Cause}
use Rattle.cat_model.specs.Values.{Bytes, Named}
use Rattle.cat_names.specs.DataSets.{TextsByOid}
use Rattle.cat_names.specs.Naming.{boot}
use Rattle.openings.specs.Loads.{rows_fault}
use Rattle.cat_sound.specs.Fit.{IsFit}
use Rattle.ddl_read.specs.located.Located.{Located}
use Rattle.ddl_read.specs.Spellings as laws
use Rattle.openings.specs.Exports.{Exported}
use Rattle.openings.specs.Openings.{export_named}
use Rattle.opening_written.specs.Export.{CanBeExported}
use Rattle.opening_written.specs.Left.{IsLeft}
use Rattle.opening_written.proofs.Leaving.{carried, opened}
use Rattle.opening_written.proofs.Made.{left_exported}
use Rattle.schema_folders.specs.Run.{said, next, catalogue_after}
use Rattle.script_runs.specs.Stopping.{behind, until, ending}
use Rattle.sound_texts.specs.Grammar.{grammar}
use Rattle.sound_whole.proofs.Loaded.{sound}
use Rattle.well_formed.specs.Catalogues.{catalogue_fault}
use Rattle.well_formed.proofs.Formed.{well_formed}

module _ (opening : Catalogue) (texts : TextsByOid) (role : Bytes) where
  throughout_left : (ls : List Located) (named : Named) → IsLeft opening texts role named → AllByRecursion (IsFit grammar) (laws.said ls) → IsLeft opening texts role (catalogue_after role ls named)
  throughout_left [] named is fit = is
  throughout_left (l ∷ ls) named is fit = throughout_left ls (next named (said role l.stmt named)) (by (said role l.stmt named) refl) fit.1
    where
      by : (r : Result Named Cause) → said role l.stmt named ≡ r → IsLeft opening texts role (next named r)
      by (Ok after) e = carried opening texts role l.stmt named after is fit.0 e
      by (Err cause) e = is

  until_left : (ls : List Located) (named : Named) → IsLeft opening texts role named → AllByRecursion (IsFit grammar) (laws.said ls) → IsLeft opening texts role (until role ls named).left
  until_left [] named is fit = is
  until_left (l ∷ ls) named is fit = by (λ later here. until_left ls later here fit.1) (said role l.stmt named) refl
    where
      by : ((later : Named) → IsLeft opening texts role later → IsLeft opening texts role (until role ls later).left) → (r : Result Named Cause) → said role l.stmt named ≡ r → IsLeft opening texts role (behind (until role ls) named l r).left
      by more (Ok after) e = more after (carried opening texts role l.stmt named after is fit.0 e)
      by more (Err cause) e = is

  pub script_left : (stop : Bool) (ls : List Located) (named : Named) → IsLeft opening texts role named → AllByRecursion (IsFit grammar) (laws.said ls) → IsLeft opening texts role (ending stop role ls named).left
  unfolding ending
  script_left true ls named is fit = until_left ls named is fit
  script_left false ls named is fit = throughout_left ls named is fit

-- ---- an opening that was taken in

-- it is in order at the start
pub opened_left : (opening : Exported) (role : Bytes) → catalogue_fault opening.cat ≡ None → rows_fault opening.cat opening.rows ≡ None → boot opening.cat ≡ Some role → IsLeft opening.cat opening.rows role (export_named opening)
unfolding export_named
opened_left opening role formed meets is = opened opening.cat opening.rows role (well_formed opening.cat formed) (sound opening.cat opening.rows (record { tables = formed; rows = meets })) is

-- and what a script leaves of it can be exported
pub script_exported : (opening : Exported) (role : Bytes) (stop : Bool) (ls : List Located) → catalogue_fault opening.cat ≡ None → rows_fault opening.cat opening.rows ≡ None → boot opening.cat ≡ Some role → AllByRecursion (IsFit grammar) (laws.said ls)
    → CanBeExported opening.cat (ending stop role ls (export_named opening)).left
script_exported opening role stop ls formed meets is fit =
    left_exported opening.cat opening.rows role (ending stop role ls (export_named opening)).left (well_formed opening.cat formed) (script_left opening.cat opening.rows role stop ls (export_named opening) (opened_left opening role formed meets is) fit)
