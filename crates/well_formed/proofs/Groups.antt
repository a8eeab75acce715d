-- Going over the tables one by one, and in groups, finds one fault.
use Rattle.std.proofs.Common.{◌≡◌, List, [], ◌∷◌, ◌++◌, Option, Some, None, refl, ap, ◌∙◌}
use Rattle.cat_rows.specs.declared.catalogue.Catalogue.{Catalogue}
use Rattle.cat_rows.specs.declared.table.SysTable.{SysTable}
use Rattle.cat_names.specs.declared.fault.CatFault.{CatFault}
use Rattle.cat_names.specs.Findings.{in_table, fault_before}
use Rattle.well_formed.specs.Catalogues.{table_fault, first_in, catalogue_fault, cluster, objects, columns, own_rows, notes}

before_assoc : (a b c : Option CatFault) → fault_before a (fault_before b c) ≡ fault_before (fault_before a b) c
before_assoc (Some f) b c = refl
before_assoc None b c = refl

appended : (cat : Catalogue) (xs ys : List SysTable) → first_in cat (xs ++ ys) ≡ fault_before (first_in cat xs) (first_in cat ys)
unfolding first_in
appended cat [] ys = refl
appended cat (x ∷ xs) ys =
    ap (fault_before (in_table x (table_fault cat x))) (appended cat xs ys)
    ∙ before_assoc (in_table x (table_fault cat x)) (first_in cat xs) (first_in cat ys)

pub grouped : (cat : Catalogue) → catalogue_fault cat ≡ fault_before (first_in cat cluster) (fault_before (first_in cat objects) (fault_before (first_in cat columns) (fault_before (first_in cat own_rows) (first_in cat notes))))
grouped cat =
    appended cat cluster (objects ++ columns ++ own_rows ++ notes)
    ∙ ap (fault_before (first_in cat cluster)) (appended cat objects (columns ++ own_rows ++ notes)
    ∙ ap (fault_before (first_in cat objects)) (appended cat columns (own_rows ++ notes)
    ∙ ap (fault_before (first_in cat columns)) (appended cat own_rows notes)))
