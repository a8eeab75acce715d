-- What a script leaves: the schemas that were there and those that were made, in a folder that is an export.
use Rattle.std.proofs.Common.{◌≡◌, ℕ, Bool, false, refl, ◌≤◌, List, [], ◌∷◌, ◌++◌, map, Ok, Result, ap, ◌∙◌, arith}
use Rattle.std.specs.FinMap.{nat_cmp-IsAntisymmetric}
use Rattle.std.specs.declared.cmp.Ordering.{Ordering}
use Rattle.std.specs.declared.cmp.Ordering.TheVariants.{Less, Equal, Greater}
use Rattle.std.specs.Ordering.{nat_cmp, is_eq}
use Rattle.std.specs.List.{AllByRecursion}
use Rattle.std.specs.List.Sorted.{IsPermutation}
use Rattle.std.proofs.lemmas.List.Elements.{recursion_from_All, All-from_recursion}
use Rattle.std.proofs.lemmas.List.Sorted.{All-permutation}
use Rattle.dump_ports.specs.Tree.{Tree}
use Rattle.cat_rows.specs.declared.table.SysTable.TheVariants.{PgNamespace}
use Rattle.cat_rows.specs.Reading.{table_of}
use Rattle.cat_model.specs.References.{is_system}
use Rattle.cat_model.specs.Values.{Bytes}
use Rattle.cat_names.specs.Lookups.{is_no_oid}
use Rattle.schema_folders.specs.declared.schemas.SchemaRow.{SchemaRow}
use Rattle.schema_folders.specs.Folder.{opening_in, opening_of, cells_of_row}
use Rattle.schema_folders.specs.Run.{IsUsers}
use Rattle.exports.specs.Exports.{Exported, export_of}
use Rattle.tool_words.specs.Answers.{◌>>=◌}
use Rattle.tool_words.specs.declared.words.ScriptSource.{ScriptSource}
use Rattle.tool_words.specs.declared.outcome.Outcome.{Outcome}
use Rattle.dump_tools.specs.Due.{Application, Applies, Comes, source_of, script_read, plan_for, text_due, psql_due}
use Rattle.tool_laws.proofs.Planning.{planned_rows}
use Rattle.tool_laws.specs.Opening.{AreSchemas, WereRead}
use Rattle.tool_laws.proofs.Opened.{bind_ok}

-- an oid of a user's object is one
has_oid : (oid : ℕ) → 16384 ≤ oid → is_no_oid oid ≡ false
has_oid oid l = by (nat_cmp oid 0) refl
  where
    none : oid ≡ 0 → ⊥
    none e = omega arith

    by : (o : Ordering) → nat_cmp oid 0 ≡ o → is_eq o ≡ false
    by Less e = refl
    by Equal e = elim (none (nat_cmp-IsAntisymmetric oid 0 e)) [ ]
    by Greater e = refl

both_parts : (P : SchemaRow → Type 0) (xs ys : List SchemaRow) → AllByRecursion P xs → AllByRecursion P ys → AllByRecursion P (xs ++ ys)
both_parts P [] ys a b = b
both_parts P (x ∷ xs) ys a b = (a.0, both_parts P xs ys a.1 b)

made_ids : (made : List SchemaRow) → AllByRecursion IsUsers made → AllByRecursion (λ row. is_no_oid row.oid ≡ false) made
made_ids [] u = tt
made_ids (row ∷ made) u = (has_oid row.oid u.0.0, made_ids made u.1)

made_users : (made : List SchemaRow) → AllByRecursion IsUsers made → AllByRecursion (λ row. is_system row.name ≡ false) made
made_users [] u = tt
made_users (row ∷ made) u = (u.0.1, made_users made u.1)

moved : (P : SchemaRow → Type 0) (rows sorted : List SchemaRow) → IsPermutation rows sorted → AllByRecursion P rows → AllByRecursion P sorted
moved P rows sorted p h = recursion_from_All P sorted (All-permutation P rows sorted p (All-from_recursion P rows h))

-- what the statements come to are schemas
pub comes_schemas : (plan : Application) (text : Bytes) (comes : Comes plan text) → AreSchemas plan.rows → AreSchemas comes.rows
comes_schemas plan text comes are =
    let users = recursion_from_All IsUsers comes.made comes.drawn in
    record {
      ids = moved _ (plan.rows ++ comes.made) comes.rows comes.kept (both_parts _ plan.rows comes.made are.ids (made_ids comes.made users));
      users = moved _ (plan.rows ++ comes.made) comes.rows comes.kept (both_parts _ plan.rows comes.made are.users (made_users comes.made users));
      oids = comes.oids;
      names = comes.names;
    }

-- the text of pg_namespace reads as their rows
pub comes_read : (plan : Application) (text : Bytes) (comes : Comes plan text) → table_of PgNamespace text ≡ Ok (map cells_of_row comes.rows)
comes_read plan text comes = ap (λ t. table_of PgNamespace t) comes.written.text ∙ comes.written.reads

-- the schemas of an opening
abbrev pub OpenLaw : Type 0
OpenLaw = (folder : Bytes) (tree : Tree) (rows : List SchemaRow) → opening_of folder tree ≡ Ok rows → WereRead rows

-- the rows of a plan of psql were read
pub plan_read : OpenLaw → (folder : Bytes) (script : ScriptSource) (stop : Bool) (tree : Tree) (input : Bytes) (plan : Application) → psql_due folder script stop tree input ≡ Ok (Applies plan) → WereRead plan.rows
unfolding psql_due text_due opening_of
plan_read opened folder script stop tree input plan e =
    let text = bind_ok (source_of script tree input) _ (Applies plan) e in
    let statements = bind_ok (script_read text.0) _ (Applies plan) text.2 in
    let export = bind_ok (export_of folder tree) (λ export. plan_for folder stop statements.0 export) (Applies plan) statements.2 in
    opened folder tree plan.rows (ap (λ (r : Result Exported Outcome). r >>= λ export. opening_in export.cat) export.1 ∙ planned_rows folder stop statements.0 export.0 plan export.2)
