use Rattle.std.proofs.Common.{◌≡◌, Ok, sym, ap, ◌∙◌}
use Rattle.std.proofs.lemmas.Result.{IfOk-weaker}
use Rattle.cat_rows.specs.declared.catalogue.Catalogue.{Catalogue}
use Rattle.folder_io.specs.Folders.{catalogue_rows}
use Rattle.well_formed.specs.Catalogues.{catalogue_fault}
use Rattle.same_folders.proofs.as_one.open_with.Goals as goal

pub returns-in-Ok-clause-one : goal.returns-in-Ok-clause-one
returns-in-Ok-clause-one g c =
    let same : c.in-Ok.formed ≡ c.args.cat = c.in-Ok.ensures.same in
    IfOk-weaker c.open_formed.result _ _ (λ one all yes tree known tables bytes.
    all yes tree known (tables ∙ sym (ap (λ (k : Catalogue). Ok (catalogue_rows k)) same)) (ap catalogue_fault same ∙ c.in-Ok.ensures.fault) bytes)
    c.open_formed.ensures.one
