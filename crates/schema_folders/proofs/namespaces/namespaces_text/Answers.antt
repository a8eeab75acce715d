use Rattle.std.proofs.Common.{subst}
use Rattle.std.proofs.lemmas.Result.{IfOk-weaker}
use Rattle.schema_folders.specs.Folder.{IsNamespaces}
use Rattle.schema_folders.proofs.Standing.{is_namespaces}
use Rattle.schema_folders.proofs.namespaces.namespaces_text.Goals as goal

pub returns : goal.returns
returns c =
    IfOk-weaker c.rows_text.result _ _ (λ text w. subst (λ rows. IsNamespaces rows text.items) c.into_rows-rows.ensures.rows (is_namespaces c.into_rows-rows.result.items text.items c.into_rows-rows.ensures.names c.into_rows-rows.ensures.oids w)) c.rows_text.ensures
