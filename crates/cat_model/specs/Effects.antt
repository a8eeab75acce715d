-- The effect of each statement: its conditions in the order in which they are tried, and what it sets.
-- All other keys stay.
use Rattle.std.specs.Prelude.{List, [], ◌∷◌}
use Rattle.cat_model.specs.declared.key.Key.TheVariants as key
use Rattle.cat_model.specs.declared.stmt.Stmt.{Stmt}
use Rattle.cat_model.specs.declared.stmt.Stmt.TheVariants as stmt
use Rattle.cat_model.specs.Values.{Bytes}
use Rattle.cat_model.specs.Grants.{granted, revoked}
use Rattle.cat_model.specs.Trees.{Tree, sets}
use Rattle.cat_model.specs.Conditions.{needs}
use Rattle.cat_model.specs.ObjectEffects.{create_schema, owner_to, change_grants, comment_on}
use Rattle.cat_model.specs.RoleEffects.{create_role, alter_role, grant_role, create_database}
use Rattle.cat_model.specs.TypeEffects.{create_enum, create_domain, add_domain_check}
use Rattle.cat_model.specs.RelationEffects.{create_table, set_default, create_sequence, owned_by, set_value, create_view, replace_view}
use Rattle.cat_model.specs.KeyEffects.{add_primary, add_unique, add_foreign, add_check, create_index, create_unique_index}
use Rattle.cat_model.specs.CopyEffect.{copy_rows}

-- the effect of a statement where boot is the name of the role that owns what is created
abbrev pub effect : Bytes → Stmt → Tree
effect boot (stmt.Set name text) = sets []
effect boot (stmt.SetConfig name text) = sets []
effect boot (stmt.CreateSchema name) = create_schema boot name
effect boot (stmt.CreateEnum q labels) = create_enum boot q labels
effect boot (stmt.CreateDomain q base not_null default checks) = create_domain boot q base not_null default checks
effect boot (stmt.AddDomainCheck q name text) = add_domain_check q name text
effect boot (stmt.CreateTable q columns checks) = create_table boot q columns checks
effect boot (stmt.CreateSequence q kind start step min max cache cycle) =
    create_sequence boot q (record { kind = kind; start = start; step = step; min = min; max = max; cache = cache; cycle = cycle })
effect boot (stmt.OwnedBy q table column) = owned_by q table column
effect boot (stmt.SetVal q n called) = set_value q n called
effect boot (stmt.CreateView q body) = create_view boot q body
effect boot (stmt.ReplaceView q body) = replace_view q body
effect boot (stmt.SetDefault q column text) = set_default q column text
effect boot (stmt.AddPrimary q name columns rest) = add_primary q name columns rest
effect boot (stmt.AddUnique q name columns rest) = add_unique q name columns rest
effect boot (stmt.AddForeign q name columns parent parent_columns rest) = add_foreign q name columns parent parent_columns rest
effect boot (stmt.AddCheck q name text) = add_check q name text
effect boot (stmt.CreateIndex q name method rest) = create_index q name method rest
effect boot (stmt.CreateUniqueIndex q name method rest) = create_unique_index q name method rest
effect boot (stmt.CopyRows q columns rows) = copy_rows q columns rows
effect boot (stmt.Grant what rights who option) = change_grants what who (granted rights option)
effect boot (stmt.Revoke what rights who) = change_grants what who (revoked rights)
effect boot (stmt.Comment what text) = comment_on what text
effect boot (stmt.OwnerTo what role) = owner_to what role
effect boot (stmt.CreateRole name) = create_role name
effect boot (stmt.AlterRole name changes) = alter_role name changes
effect boot (stmt.GrantRole role member grantor admin inherit may_set) = grant_role boot role member grantor admin inherit may_set
effect boot (stmt.CreateDatabase name encoding) = create_database boot name
effect boot (stmt.Connect name) = needs (key.Database name) (sets [])
