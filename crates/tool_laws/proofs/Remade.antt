-- The statements of a dump, applied to a fresh folder: none is refused, and they leave the rows laid over what was there.
use Rattle.std.proofs.Common.{◌≡◌, Bool, true, false, cond, not, ◌||◌, List, [], ◌∷◌, ◌++◌, map, Option, Some, None, IfSome, Result, Ok, refl, sym, ap, subst, ◌∙◌, inl, inr, codes, append_assoc, append-nil}
use Rattle.std.specs.Ordering.{eq_by_cmp}
use Rattle.std.specs.Str.{bytes_eq}
use Rattle.std.specs.Cmp.{eq_by_cmp_equiv}
use Rattle.std.specs.Cmp.Lexicographic.{nat_list_cmp_total}
use Rattle.std.specs.List.{flat_map, filter, AllByRecursion, IsDistinct}
use Rattle.std.specs.List.Sorted.{IsPermutation}
use Rattle.std.specs.Option.{option_or}
use Rattle.std.specs.FinMap.{get, get-from_entries, same_map}
use Rattle.std.proofs.lemmas.Bool.{cases_Bool}
use Rattle.std.proofs.lemmas.List.Folds.{list_any-append}
use Rattle.std.proofs.lemmas.List.Sorted.{list_any-IsPermutation}
use Rattle.std.proofs.lemmas.Map.Keys.{IsDistinct-head, IsDistinct-tail}
use Rattle.std.proofs.lemmas.Map.Text.{is_eq-slice_cmp}
use Rattle.std.proofs.lemmas.Slice.Eq.{bytes_eq-Decides}
use Rattle.cat_model.specs.declared.cause.Cause.{Cause}
use Rattle.cat_model.specs.declared.constraint.Encoding.TheVariants as encoding
use Rattle.cat_model.specs.declared.key.Key.{Key}
use Rattle.cat_model.specs.declared.key.Key.TheVariants as key
use Rattle.cat_model.specs.declared.object.Object.{Object}
use Rattle.cat_model.specs.declared.object.Object.TheVariants as object
use Rattle.cat_model.specs.declared.stmt.Stmt.{Stmt}
use Rattle.cat_model.specs.KeyLaws.{key_cmp_total, key_cmp-IsAntisymmetric}
use Rattle.cat_model.specs.References.{is_system}
use Rattle.cat_model.specs.declared.value.Value.TheVariants as value
use Rattle.cat_model.specs.declared.value.Value.{Value}
use Rattle.cat_model.specs.Values.{Bytes, bytes_cmp, Named}
use Rattle.ddl_scripts.specs.declared.located.Located.{Located}
use Rattle.dump_stmts.specs.Paths.{is_public}
use Rattle.schema_dumps.specs.Alone.{schema_said}
use Rattle.schema_folders.specs.declared.schemas.SchemaRow.{SchemaRow}
use Rattle.schema_folders.specs.Folder.{has_public}
use Rattle.schema_folders.specs.Naming.{boot, boot_role, cluster, named, has_name}
use Rattle.script_laws.specs.Scripts.{session_statements}
use Rattle.tool_laws.specs.RoundTrip.{fresh, fresh_rows, IsOverlay}
use Rattle.schema_folders.specs.Run.{said, next, noted, catalogue_after, refusals}
use Rattle.schema_folders.proofs.Distinct.{list_any_same}
use Rattle.schema_folders.proofs.Named.{part_of, stands, with_value, schema_of, no_schema, same_stands, get-with_schemas, run_created, run_owned}

-- ---- statements that run

-- one after another they lead from one catalogue to another, and none is refused
abbrev pub Runs : List Stmt → Named → Named → Type 0
Runs [] before after = before ≡ after
Runs (s ∷ more) before after = (between : Named) × (said boot s before ≡ Ok between) × Runs more between after

pub runs-append : (xs ys : List Stmt) (a b c : Named) → Runs xs a b → Runs ys b c → Runs (xs ++ ys) a c
runs-append [] ys a b c h k = subst (λ m. Runs ys m c) (sym h) k
runs-append (x ∷ xs) ys a b c h k = (h.0, h.1, runs-append xs ys h.0 b c h.2 k)

pub ran : (located : List Located) (a b : Named) → Runs (map (λ l. l.stmt) located) a b → (refusals boot located a ≡ []) × (catalogue_after boot located a ≡ b)
ran [] a b h = (refl, h)
ran (l ∷ located) a b h =
    let more = ran located h.0 b h.2 in
    (ap (λ (r : Result Named Cause). noted l.start r ++ refusals boot located (next a r)) h.1 ∙ more.0, ap (λ (r : Result Named Cause). catalogue_after boot located (next a r)) h.1 ∙ more.1)

-- settings change nothing
pub settings_run : (n : Named) → Runs session_statements n n
settings_run n = (n, refl, (n, refl, (n, refl, (n, refl, (n, refl, (n, refl, (n, refl, (n, refl, (n, refl, (n, refl, refl))))))))))

-- ---- the statements of rows

abbrev same_name : SchemaRow → SchemaRow → Bool
same_name a b = eq_by_cmp bytes_cmp a.name b.name

-- of the rows' names, those done are public's alone
abbrev AreDue : List SchemaRow → List SchemaRow → Type 0
AreDue done rows = AllByRecursion (λ row. has_name row.name done ≡ is_public row.name) rows

-- the rows that aren't public
abbrev pub others : List SchemaRow → List SchemaRow
others rows = filter (λ row. not (is_public row.name)) rows

or_none : (a b : Bool) → b ≡ false → (a || (b || false)) ≡ a
or_none true b e = refl
or_none false b e = ap (λ x. x || false) e

one_done : (done : List SchemaRow) (row : SchemaRow) (rows : List SchemaRow) → AreDue done rows → AllByRecursion (λ other. same_name row other ≡ false) rows → AreDue (done ++ row ∷ []) rows
one_done done row [] due apart = tt
one_done done row (r ∷ rows) due apart =
    (list_any-append (λ x. eq_by_cmp bytes_cmp x.name r.name) done (row ∷ []) ∙ or_none (has_name r.name done) (eq_by_cmp bytes_cmp row.name r.name) apart.0 ∙ due.0, one_done done row rows due.1 apart.1)

or_true : (a : Bool) → (a || true) ≡ true
or_true true = refl
or_true false = refl

last_has : (done : List SchemaRow) (row : SchemaRow) → has_name row.name (done ++ row ∷ []) ≡ true
last_has done row =
    list_any-append (λ x. eq_by_cmp bytes_cmp x.name row.name) done (row ∷ [])
    ∙ ap (λ b. has_name row.name done || (b || false)) ((eq_by_cmp_equiv nat_list_cmp_total).refl row.name)
    ∙ or_true (has_name row.name done)

free : (a b : Bool) → a ≡ false → b ≡ false → (a || b) ≡ false
free a b e f = ap (λ x. x || b) e ∙ f

pub rows_run : (rows done : List SchemaRow) → AreDue done rows → IsDistinct same_name rows → AllByRecursion (λ row. is_system row.name ≡ false) rows
    → Runs (flat_map (λ row. schema_said boot row.name) rows) (named done) (named (done ++ others rows))
rows_run [] done due distinct users = ap named (sym (append-nil done))
rows_run (row ∷ rows) done due distinct users =
    let apart = IsDistinct-head same_name row rows distinct in
    let rest = IsDistinct-tail same_name row rows distinct in
    elim (cases_Bool (is_public row.name)) [
      | inl is ↦ rw is (named done, run_owned done row.name boot (due.0 ∙ is) refl, rows_run rows done due.1 rest users.1)
      | inr isnt ↦
          let more = rows_run rows (done ++ row ∷ []) (one_done done row rows due.1 apart) rest users.1 in
          let all = subst (λ l. Runs (flat_map (λ (row : SchemaRow). schema_said boot row.name) rows) (named (done ++ row ∷ [])) (named l)) (append_assoc done (row ∷ []) (others rows)) more in
          rw isnt (
            named (done ++ row ∷ []),
            run_created done row.name row.oid (free (has_name row.name done) (is_system row.name) (due.0 ∙ isnt) users.0),
            (named (done ++ row ∷ []), run_owned (done ++ row ∷ []) row.name boot (last_has done row) refl, all),
          )
    ]

abbrev public_name : Bytes
public_name = codes "public"

or_nothing : (a : Bool) → (a || false) ≡ a
or_nothing true = refl
or_nothing false = refl

-- of a fresh folder's schemas
pub fresh_due : (rows : List SchemaRow) → AreDue fresh_rows rows
fresh_due [] = tt
fresh_due (row ∷ rows) =
    (or_nothing (eq_by_cmp bytes_cmp public_name row.name) ∙ (eq_by_cmp_equiv nat_list_cmp_total).symm public_name row.name ∙ is_eq-slice_cmp row.name public_name, fresh_due rows)

-- ---- what stands behind them

-- a name that isn't public is one of the others
others_has : (rows : List SchemaRow) (m : Bytes) → eq_by_cmp bytes_cmp public_name m ≡ false → has_name m (others rows) ≡ has_name m rows
others_has [] m apart = refl
others_has (row ∷ rows) m apart =
    elim (cases_Bool (is_public row.name)) [
      | inl is ↦
          let same : row.name ≡ public_name = (bytes_eq-Decides row.name public_name).0 is in
          rw is (others_has rows m apart ∙ ap (λ b. b || has_name m rows) (sym (ap (λ n. eq_by_cmp bytes_cmp n m) same ∙ apart)))
      | inr isnt ↦ rw isnt (ap (λ b. eq_by_cmp bytes_cmp row.name m || b) (others_has rows m apart))
    ]

-- the names behind them
both_have : (rows sorted : List SchemaRow) → IsPermutation rows sorted → (m : Bytes) → has_name m (fresh_rows ++ others sorted) ≡ (has_name m fresh_rows || has_name m rows)
both_have rows sorted kept m = by (eq_by_cmp bytes_cmp public_name m) refl
  where
    by : (p : Bool) → eq_by_cmp bytes_cmp public_name m ≡ p → has_name m (fresh_rows ++ others sorted) ≡ (has_name m fresh_rows || has_name m rows)
    by true e = rw e refl
    by false e = rw e (others_has sorted m e ∙ sym (list_any-IsPermutation (λ row. eq_by_cmp bytes_cmp row.name m) rows sorted kept))

-- they are the rows' names, where public is one of them
rows_have : (rows : List SchemaRow) → has_public rows ≡ true → (m : Bytes) → (has_name m fresh_rows || has_name m rows) ≡ has_name m rows
rows_have rows public m = by (eq_by_cmp bytes_cmp public_name m) refl
  where
    by : (p : Bool) → eq_by_cmp bytes_cmp public_name m ≡ p → (has_name m fresh_rows || has_name m rows) ≡ has_name m rows
    by false e = rw e refl
    by true e =
        let same : public_name ≡ m = (bytes_eq-Decides public_name m).0 (sym (is_eq-slice_cmp public_name m) ∙ e) in
        let there : has_name m rows ≡ true =
        ap (λ n. has_name n rows) (sym same) ∙ list_any_same (λ (row : SchemaRow). eq_by_cmp bytes_cmp row.name public_name) (λ row. bytes_eq row.name public_name) (λ row. is_eq-slice_cmp row.name public_name) rows ∙ public in
        rw e (sym there)

-- a part of a schema has nothing in a cluster without schemas
nothing_of : (o : Object) → IfSome (with_value (value.Owner boot) (schema_of o)) (λ _. get cluster (key.Owner o) ≡ None)
nothing_of (object.Schema name) = get-from_entries key_cmp_total ((key.Role boot, value.Role boot_role) ∷ (key.Database boot, value.Database encoding.Utf8) ∷ (key.Owner (object.Database boot), value.Owner boot) ∷ []) (key.Owner (object.Schema name))
nothing_of (object.Type q) = tt
nothing_of (object.Relation q) = tt
nothing_of (object.Column q c) = tt
nothing_of (object.Constraint q c) = tt
nothing_of (object.Database d) = tt

nothing_granted : (o : Object) → get cluster (key.Acl o) ≡ None
nothing_granted o = get-from_entries key_cmp_total ((key.Role boot, value.Role boot_role) ∷ (key.Database boot, value.Database encoding.Utf8) ∷ (key.Owner (object.Database boot), value.Owner boot) ∷ []) (key.Acl o)

at_part : (part : Option (Bytes × Value)) (c : Option Value) → c ≡ None → IfSome part (λ _. c ≡ None)
at_part None c e = tt
at_part (Some p) c e = e

nothing_there : (q : Key) → IfSome (part_of q) (λ _. get cluster q ≡ None)
nothing_there (key.Schema name) = no_schema name
nothing_there (key.Owner o) = nothing_of o
nothing_there (key.Acl o) = at_part (part_of (key.Acl o)) (get cluster (key.Acl o)) (nothing_granted o)
nothing_there (key.Role a) = tt
nothing_there (key.Member a b c) = tt
nothing_there (key.UserType a) = tt
nothing_there (key.Rel a) = tt
nothing_there (key.Default a b) = tt
nothing_there (key.Con a b) = tt
nothing_there (key.Index a b) = tt
nothing_there (key.Rows a) = tt
nothing_there (key.SeqVal a) = tt
nothing_there (key.OwnedBy a) = tt
nothing_there (key.Comment a) = tt
nothing_there (key.Body a) = tt
nothing_there (key.Database a) = tt

either : (below above : Bool) (v : Value) → cond (below || above) (Some v) None ≡ option_or (cond above (Some v) None) (cond below (Some v) None)
either true true v = refl
either true false v = refl
either false true v = refl
either false false v = refl

itself : (c : Option Value) → c ≡ option_or c c
itself None = refl
itself (Some v) = refl

laid_over : (part : Option (Bytes × Value)) (below above both : Bytes → Bool) (c : Option Value) → ((m : Bytes) → both m ≡ (below m || above m)) → IfSome part (λ _. c ≡ None)
    → stands both part c ≡ option_or (stands above part c) (stands below part c)
laid_over None below above both c h none = itself c
laid_over (Some p) below above both c h none =
    ap (λ b. cond b (Some p.1) c) (h p.0)
    ∙ ap (λ (c : Option Value). cond (below p.0 || above p.0) (Some p.1) c) none
    ∙ either (below p.0) (above p.0) p.1
    ∙ ap (λ (c : Option Value). option_or (cond (above p.0) (Some p.1) c) (cond (below p.0) (Some p.1) c)) (sym none)

pub overlay_of : (rows sorted : List SchemaRow) → IsPermutation rows sorted → IsOverlay fresh (named rows) (named (fresh_rows ++ others sorted))
overlay_of rows sorted kept q =
    get-with_schemas cluster (fresh_rows ++ others sorted) q
    ∙ laid_over (part_of q) (λ m. has_name m fresh_rows) (λ m. has_name m rows) (λ m. has_name m (fresh_rows ++ others sorted)) (get cluster q) (both_have rows sorted kept) (nothing_there q)
    ∙ ap (λ above. option_or above (stands (λ m. has_name m fresh_rows) (part_of q) (get cluster q))) (sym (get-with_schemas cluster rows q))
    ∙ ap (λ below. option_or (get (named rows) q) below) (sym (get-with_schemas cluster fresh_rows q))

pub rows_alone : (rows sorted : List SchemaRow) → IsPermutation rows sorted → has_public rows ≡ true → named (fresh_rows ++ others sorted) ≡ named rows
rows_alone rows sorted kept public =
    same_map key_cmp_total key_cmp-IsAntisymmetric (named (fresh_rows ++ others sorted)) (named rows) (λ q.
    get-with_schemas cluster (fresh_rows ++ others sorted) q
    ∙ same_stands (λ m. has_name m (fresh_rows ++ others sorted)) (λ m. has_name m rows) (λ m. both_have rows sorted kept m ∙ rows_have rows public m) (part_of q) (get cluster q)
    ∙ sym (get-with_schemas cluster rows q))
