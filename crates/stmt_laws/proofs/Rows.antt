-- What rows hold, and what is found of them.
use Rattle.std.proofs.Common.{◌≡◌, ℕ, List, map, refl, subst}
use Rattle.std.specs.List.{AllByRecursion}
use Rattle.copy_text.specs.Texts.{IsName}
use Rattle.cat_rows.specs.declared.catalogue.Catalogue.{Catalogue}
use Rattle.cat_rows.specs.declared.cell.Cell.{Cell}
use Rattle.cat_rows.specs.declared.table.SysTable.{SysTable}
use Rattle.cat_rows.specs.declared.table.SysTable.TheVariants as table
use Rattle.cat_rows.specs.Catalogues.{rows_in}
use Rattle.cat_rows.specs.RowCells.{namespace_cells, class_cells}
use Rattle.cat_rows.specs.Writing.{IsRowOf}
use Rattle.cat_names.specs.Kinds.{class_of}
use Rattle.cat_names.specs.Lookups.{same_oid}
use Rattle.cat_book.specs.Paths.{schema_of, path_in, class_path, class_path_of}
use Rattle.ddl_grammar.specs.Respelling.{IsPath}
use Rattle.stmt_laws.specs.Named.{HoldsCells}
use Rattle.stmt_laws.proofs.Lists.{Known, known_then, known_map, found_has, seen_so}

-- a row of a table, by its cells
abbrev pub IsOf : {R : Type 0} → SysTable → (R → List Cell) → R → Type 0
IsOf t cells row = IsRowOf t (cells row)

abbrev pub All : {R : Type 0} → SysTable → (R → List Cell) → List R → Type 0
All t cells rows = AllByRecursion (IsOf t cells) rows

pub rows_hold : {R : Type 0} (cat : Catalogue) → HoldsCells cat → (t : SysTable) (cells : R → List Cell) (rows : List R) → rows_in t cat ≡ map cells rows → All t cells rows
rows_hold cat holds t cells rows e = seen_so (IsRowOf t) cells rows (subst (λ (x : List (List Cell)). AllByRecursion (λ row. IsRowOf t row) x) e (holds t))

-- ---- paths

pub path_known : (cat : Catalogue) → HoldsCells cat → (oid : ℕ) (name : List ℕ) → IsName name → Known IsPath (path_in cat.pg_namespace oid name)
path_known cat holds oid name is =
    known_map (IsOf table.PgNamespace namespace_cells) IsPath (λ s. record { schema = s.nspname; name = name }) (schema_of cat.pg_namespace oid)
    (found_has (IsOf table.PgNamespace namespace_cells) (λ s. same_oid oid s.oid) cat.pg_namespace (rows_hold cat holds table.PgNamespace namespace_cells cat.pg_namespace refl))
    (λ s row. (row.cells.1.0, is))

pub class_path_known : (cat : Catalogue) → HoldsCells cat → (oid : ℕ) → Known IsPath (class_path_of cat oid)
class_path_known cat holds oid =
    known_then (IsOf table.PgClass class_cells) IsPath (class_path cat.pg_namespace) (class_of cat.pg_class oid)
    (found_has (IsOf table.PgClass class_cells) (λ r. same_oid oid r.oid) cat.pg_class (rows_hold cat holds table.PgClass class_cells cat.pg_class refl))
    (λ r row. path_known cat holds r.relnamespace r.relname row.cells.1.0)
