-- The script of a dump of schemas, read by psql and applied to a fresh folder.
use Rattle.std.proofs.Common.{◌≡◌, ℕ, Bool, true, false, ◌&&◌, ◌||◌, cond, List, [], ◌∷◌, ◌++◌, map, Result, Ok, Err, refl, sym, ap, subst, ◌∙◌, inl, inr, codes}
use Rattle.std.specs.Ordering.{eq_by_cmp}
use Rattle.std.specs.Str.{bytes_eq}
use Rattle.std.specs.Cmp.{eq_by_cmp_equiv}
use Rattle.std.specs.Cmp.Lexicographic.{nat_list_cmp_total}
use Rattle.std.specs.List.{flat_map, AllByRecursion, IsDistinct, list_all}
use Rattle.std.specs.List.Sorted.{IsPermutation}
use Rattle.std.specs.FinMap.{get}
use Rattle.std.specs.Option.{option_or}
use Rattle.std.proofs.lemmas.Bool.{cases_Bool}
use Rattle.std.proofs.lemmas.List.Elements.{recursion_from_All, All-from_recursion}
use Rattle.std.proofs.lemmas.List.Sorted.{IsPermutation-map, All-permutation}
use Rattle.std.proofs.lemmas.Map.Keys.{IsDistinct-head, IsDistinct-tail, IsDistinct-IsPermutation}
use Rattle.cat_model.specs.References.{is_system}
use Rattle.cat_model.specs.Values.{Bytes, bytes_cmp, Named}
use Rattle.cat_model.specs.declared.stmt.Stmt.{Stmt}
use Rattle.cat_model.specs.declared.words.What.TheVariants as what
use Rattle.ddl_scripts.specs.declared.located.Located.{Located}
use Rattle.ddl_scripts.specs.Reading.{statements_of as read_of}
use Rattle.ddl_scripts.specs.Spellings.{said}
use Rattle.dump_stmts.specs.Paths.{is_public}
use Rattle.schema_dumps.specs.Alone.{schema_said}
use Rattle.script_laws.specs.Scripts.{session_statements}
use Rattle.schema_folders.specs.declared.schemas.SchemaRow.{SchemaRow}
use Rattle.schema_folders.specs.Folder.{has_public}
use Rattle.tool_words.specs.declared.outcome.Outcome.{Outcome}
use Rattle.tool_words.specs.declared.outcome.Outcome.TheVariants.{OutOfProfile}
use Rattle.schema_folders.specs.Naming.{boot, schema_changes, with_schemas, cluster, named}
use Rattle.cat_model.specs.Trees.{changed}
use Rattle.tool_laws.specs.RoundTrip.{fresh, fresh_rows, CanBeMade, Remakes}
use Rattle.schema_folders.specs.Statements.{is_taken, are_taken, scripted, script_of}
use Rattle.tool_laws.proofs.Remade.{Runs, runs-append, ran, settings_run, others, rows_run, fresh_due, overlay_of, rows_alone}

-- ---- rows told by their names alone

abbrev of_name : Bytes → SchemaRow
of_name name = record { oid = 0; name = name }

abbrev names_of : List SchemaRow → List Bytes
names_of rows = map (λ (row : SchemaRow). row.name) rows

-- no oid occurs in what rows stand for
same_named : (below : Named) (rows : List SchemaRow) → with_schemas below (map of_name (names_of rows)) ≡ with_schemas below rows
same_named below [] = refl
same_named below (row ∷ rows) = same_named (changed (schema_changes row.name) below) rows

same_public : (rows : List SchemaRow) → has_public (map of_name (names_of rows)) ≡ has_public rows
same_public [] = refl
same_public (row ∷ rows) = ap (λ (b : Bool). bytes_eq row.name (codes "public") || b) (same_public rows)

abbrev IsUsers : SchemaRow → Type 0
IsUsers row = is_system row.name ≡ false

same_users : (rows : List SchemaRow) → AllByRecursion IsUsers rows → AllByRecursion IsUsers (map of_name (names_of rows))
same_users [] h = tt
same_users (row ∷ rows) h = (h.0, same_users rows h.1)

abbrev same_name : SchemaRow → SchemaRow → Bool
same_name a b = eq_by_cmp bytes_cmp a.name b.name

apart : (row : SchemaRow) (rows : List SchemaRow) → AllByRecursion (λ other. same_name row other ≡ false) rows → AllByRecursion (λ other. same_name (of_name row.name) other ≡ false) (map of_name (names_of rows))
apart row [] h = tt
apart row (other ∷ rows) h = (h.0, apart row rows h.1)

same_distinct : (rows : List SchemaRow) → IsDistinct same_name rows → IsDistinct same_name (map of_name (names_of rows))
unfolding IsDistinct
same_distinct [] d = tt
same_distinct (row ∷ rows) d = (apart row rows (IsDistinct-head same_name row rows d), same_distinct rows (IsDistinct-tail same_name row rows d))

-- ---- the statements of the dump

abbrev of_rows : List SchemaRow → List Stmt
of_rows rows = flat_map (λ row. schema_said boot row.name) rows

by_name : (names : List Bytes) → flat_map (schema_said boot) names ≡ of_rows (map of_name names)
by_name [] = refl
by_name (name ∷ names) = ap (λ (l : List Stmt). schema_said boot name ++ l) (by_name names)

-- psql carries them out
rows_taken : (rows : List SchemaRow) → list_all is_taken (of_rows rows) ≡ true
rows_taken [] = refl
rows_taken (row ∷ rows) =
    elim (cases_Bool (is_public row.name)) [
      | inl is ↦ rw is (rows_taken rows)
      | inr isnt ↦ rw isnt (rows_taken rows)
    ]

all_taken : (rows : List SchemaRow) → list_all is_taken (session_statements ++ of_rows rows) ≡ true
all_taken rows = rows_taken rows

said_are_taken : (found : List Located) → are_taken found ≡ list_all is_taken (said found)
said_are_taken [] = refl
said_are_taken (l ∷ found) = ap (λ b. is_taken l.stmt && b) (said_are_taken found)

taken_read : (text : List ℕ) (found : List Located) → read_of text ≡ Ok found → are_taken found ≡ true → script_of text ≡ Ok found
unfolding script_of
taken_read text found reads taken = ap scripted reads ∙ ap (λ b. cond {A = Result (List Located) Outcome} b (Ok found) (Err (OutOfProfile what.Unbuilt))) taken

-- ---- the script

kept_all : (P : SchemaRow → Type 0) (rows sorted : List SchemaRow) → IsPermutation rows sorted → AllByRecursion P rows → AllByRecursion P sorted
kept_all P rows sorted kept h = recursion_from_All P sorted (All-permutation P rows sorted kept (All-from_recursion P rows h))

-- the text reads as the statements of these schemas, one after another in some order
pub record SaysSchemas (text : Bytes) (rows : List SchemaRow) : Type 0 where
  pub names : List Bytes
  pub kept : IsPermutation (names_of rows) names
  pub found : List Located
  pub reads : read_of text ≡ Ok found
  pub says : said found ≡ session_statements ++ flat_map (schema_said boot) names

pub remakes : (text : Bytes) (rows : List SchemaRow) → CanBeMade rows → SaysSchemas text rows → Remakes text rows
remakes text rows can says =
    let plain = map of_name (names_of rows) in
    let sorted = map of_name says.names in
    let kept : IsPermutation plain sorted = IsPermutation-map of_name (names_of rows) says.names says.kept in
    let users = kept_all IsUsers plain sorted kept (same_users rows can.users) in
    let distinct = IsDistinct-IsPermutation same_name (λ a b. (eq_by_cmp_equiv nat_list_cmp_total).symm a.name b.name) plain sorted kept (same_distinct rows can.distinct) in
    let statements : said says.found ≡ session_statements ++ of_rows sorted = says.says ∙ ap (λ (l : List Stmt). session_statements ++ l) (by_name says.names) in
    let taken = said_are_taken says.found ∙ ap (λ (l : List Stmt). list_all is_taken l) statements ∙ all_taken sorted in
    let runs =
    runs-append session_statements (of_rows sorted) fresh fresh (named (fresh_rows ++ others sorted))
    (settings_run fresh) (rows_run sorted fresh_rows (fresh_due sorted) distinct users) in
    let all =
    subst (λ (l : List Stmt). Runs l fresh (named (fresh_rows ++ others sorted))) (sym statements) runs in
    let done = ran says.found fresh (named (fresh_rows ++ others sorted)) all in
    record {
      statements = says.found;
      reads = taken_read text says.found says.reads taken;
      unrefused = done.0;
      overlaid = λ q. ap (λ (n : Named). get n q) done.1 ∙ subst (λ (above : Named). get (named (fresh_rows ++ others sorted)) q ≡ option_or (get above q) (get fresh q)) (same_named cluster rows) (overlay_of plain sorted kept q);
      same = λ public. done.1 ∙ rows_alone plain sorted kept (same_public rows ∙ public) ∙ same_named cluster rows;
    }
