-- Each kind of statement.
use Rattle.std.proofs.Common.{refl, inl, List}
use Rattle.cat_model.specs.declared.object.QName.{QName}
use Rattle.cat_model.specs.declared.key.Key.TheVariants as key
use Rattle.cat_model.specs.declared.stmt.Stmt.{Stmt}
use Rattle.cat_model.specs.declared.stmt.Stmt.TheVariants as stmt
use Rattle.cat_model.specs.Values.{Bytes, Named}
use Rattle.cat_model.specs.Trees.{seen}
use Rattle.cat_model.specs.Marks.{IsWithin}
use Rattle.cat_model.specs.Effects.{effect}
use Rattle.cat_model.specs.Footprints.{footprint_of, GivesParents}
use Rattle.model_laws.proofs.Stays.{alter-stays, check-stays, comment-stays, database-stays, default-stays, domain-stays, domain_check-stays, enum-stays, foreign-stays, grant-stays, index-stays, member-stays, owned_by-stays, owner-stays, primary-stays, replace-stays, revoke-stays, role-stays, schema-stays, sequence-stays, set_value-stays, table-stays, unique-stays, unique_index-stays, view-stays}
use Rattle.model_laws.proofs.CopyStays.{copy_rows-stays}
use Rattle.model_laws.proofs.Steps.{nothing, stays-sets, stays-needs}
use Rattle.model_laws.proofs.laws.statements_stay_within_footprints.Goals as goal

within : (boot : Bytes) (s : Stmt) (ps : List (QName × QName)) (n : Named) → GivesParents ps n s → IsWithin (footprint_of s ps) (seen n) (effect boot s)
within boot (stmt.Set name text) ps n given = tt
within boot (stmt.SetConfig name text) ps n given = tt
within boot (stmt.CreateSchema name) ps n given = (schema-stays (seen n) ps boot name).is
within boot (stmt.CreateEnum q labels) ps n given = (enum-stays (seen n) ps boot q labels).is
within boot (stmt.CreateDomain q base not_null default checks) ps n given = (domain-stays (seen n) ps boot q base not_null default checks).is
within boot (stmt.AddDomainCheck q name text) ps n given = (domain_check-stays (seen n) ps q name text).is
within boot (stmt.CreateTable q columns checks) ps n given = (table-stays (seen n) ps boot q columns checks).is
within boot (stmt.CreateSequence q kind start step min max cache cycle) ps n given = (sequence-stays (seen n) ps boot q (record { kind = kind; start = start; step = step; min = min; max = max; cache = cache; cycle = cycle })).is
within boot (stmt.OwnedBy q table column) ps n given = (owned_by-stays (seen n) ps q table column).is
within boot (stmt.SetVal q number called) ps n given = (set_value-stays (seen n) ps q number called).is
within boot (stmt.CreateView q body) ps n given = (view-stays (seen n) ps boot q body).is
within boot (stmt.ReplaceView q body) ps n given = (replace-stays (seen n) ps q body).is
within boot (stmt.SetDefault q column text) ps n given = (default-stays (seen n) ps q column text).is
within boot (stmt.AddPrimary q name names rest) ps n given = (primary-stays (seen n) ps q name names rest).is
within boot (stmt.AddUnique q name names rest) ps n given = (unique-stays (seen n) ps q name names rest).is
within boot (stmt.AddForeign q name names parent parent_names rest) ps n given = (foreign-stays (seen n) ps q name names parent parent_names rest).is
within boot (stmt.AddCheck q name text) ps n given = (check-stays (seen n) ps q name text).is
within boot (stmt.CreateIndex q name method rest) ps n given = (index-stays (seen n) ps q name method rest).is
within boot (stmt.CreateUniqueIndex q name method rest) ps n given = (unique_index-stays (seen n) ps q name method rest).is
within boot (stmt.CopyRows q names rows) ps n given = (copy_rows-stays n ps q names rows given).is
within boot (stmt.Grant what rights who option) ps n given = (grant-stays (seen n) ps what rights who option).is
within boot (stmt.Revoke what rights who) ps n given = (revoke-stays (seen n) ps what rights who).is
within boot (stmt.Comment what text) ps n given = (comment-stays (seen n) ps what text).is
within boot (stmt.OwnerTo what role) ps n given = (owner-stays (seen n) ps what role).is
within boot (stmt.CreateRole name) ps n given = (role-stays (seen n) ps name).is
within boot (stmt.AlterRole name changes) ps n given = (alter-stays (seen n) ps name changes).is
within boot (stmt.GrantRole role member grantor admin inherit may_set) ps n given = (member-stays (seen n) ps boot role member grantor admin inherit may_set).is
within boot (stmt.CreateDatabase name encoding) ps n given = (database-stays (seen n) ps boot name encoding).is
within boot (stmt.Connect name) ps n given = (stays-needs {f = footprint_of (stmt.Connect name) ps} {s = seen n} (key.Database name) (inl refl) (stays-sets nothing)).is

pub returns : goal.returns
returns c = within
