-- Each kind of statement leaves a catalogue in order, and so does a run of statements.
use Rattle.std.proofs.Common.{List, [], ◌∷◌, refl}
use Rattle.std.specs.List.{AllByRecursion}
use Rattle.cat_model.specs.declared.key.Key.TheVariants as key
use Rattle.cat_model.specs.declared.stmt.Stmt.{Stmt}
use Rattle.cat_model.specs.declared.stmt.Stmt.TheVariants as stmt
use Rattle.cat_model.specs.Values.{Bytes, Named}
use Rattle.cat_model.specs.Effects.{effect}
use Rattle.cat_model.specs.Trees.{next}
use Rattle.model_laws.specs.Examples.{catalogue_after}
use Rattle.cat_sound.specs.Asked.{Asked}
use Rattle.cat_sound.specs.Fit.{IsFit}
use Rattle.cat_sound.specs.Sound.{IsMet, IsSound}
use Rattle.cat_sound.specs.Texts.{Texts}
use Rattle.cat_sound.proofs.Copies.{copy_rows-keeps}
use Rattle.cat_sound.proofs.DomainChecks.{add_domain_check-keeps}
use Rattle.cat_sound.proofs.GrantStatements.{grant-keeps, revoke-keeps}
use Rattle.cat_sound.proofs.Indexes.{add_foreign-keeps, add_check-keeps, create_index-keeps, create_unique_index-keeps}
use Rattle.cat_sound.proofs.KeyStatements.{add_primary-keeps, add_unique-keeps}
use Rattle.cat_sound.proofs.Objects.{create_schema-keeps, comment_on-keeps}
use Rattle.cat_sound.proofs.OwnerTo.{owner_to-keeps}
use Rattle.cat_sound.proofs.Roles.{create_role-keeps, alter_role-keeps, grant_role-keeps, create_database-keeps}
use Rattle.cat_sound.proofs.Sequences.{create_sequence-keeps, owned_by-keeps, set_value-keeps, create_view-keeps, replace_view-keeps, set_default-keeps}
use Rattle.cat_sound.proofs.Tables.{create_table-keeps}
use Rattle.cat_sound.proofs.Types.{create_enum-keeps, create_domain-keeps}
use Rattle.cat_sound.proofs.TreeSteps.{Keeps, keeps_sets, keeps_needs}

pub statement-keeps : (texts : Texts) (boot : Bytes) (s : Stmt) (named : Named) → IsSound texts named → IsFit texts s → IsMet named (key.Role boot, Asked.there) → Keeps texts named (effect boot s)
statement-keeps texts boot (stmt.Set name text) named sound fit there = keeps_sets refl sound
statement-keeps texts boot (stmt.SetConfig name text) named sound fit there = keeps_sets refl sound
statement-keeps texts boot (stmt.CreateSchema name) named sound fit there = create_schema-keeps texts named sound boot name there
statement-keeps texts boot (stmt.CreateEnum q labels) named sound fit there = create_enum-keeps texts named sound boot q labels there
statement-keeps texts boot (stmt.CreateDomain q base not_null default checks) named sound fit there = create_domain-keeps texts named sound boot q base not_null default checks there fit.0 fit.1 fit.2
statement-keeps texts boot (stmt.AddDomainCheck q name text) named sound fit there = add_domain_check-keeps texts named sound q name text fit
statement-keeps texts boot (stmt.CreateTable q columns checks) named sound fit there = create_table-keeps texts named sound boot q columns checks there fit.0 fit.1
statement-keeps texts boot (stmt.CreateSequence q kind start step min max cache cycle) named sound fit there =
    create_sequence-keeps texts named sound boot q (record { kind = kind; start = start; step = step; min = min; max = max; cache = cache; cycle = cycle }) there
statement-keeps texts boot (stmt.OwnedBy q table column) named sound fit there = owned_by-keeps texts named sound q table column
statement-keeps texts boot (stmt.SetVal q n called) named sound fit there = set_value-keeps texts named sound q n called
statement-keeps texts boot (stmt.CreateView q body) named sound fit there = create_view-keeps texts named sound boot q body there fit
statement-keeps texts boot (stmt.ReplaceView q body) named sound fit there = replace_view-keeps texts named sound q body fit
statement-keeps texts boot (stmt.SetDefault q column text) named sound fit there = set_default-keeps texts named sound q column text fit
statement-keeps texts boot (stmt.AddPrimary q name columns rest) named sound fit there = add_primary-keeps texts named sound q name columns rest fit
statement-keeps texts boot (stmt.AddUnique q name columns rest) named sound fit there = add_unique-keeps texts named sound q name columns rest fit
statement-keeps texts boot (stmt.AddForeign q name columns parent parent_columns rest) named sound fit there = add_foreign-keeps texts named sound q name columns parent parent_columns rest fit
statement-keeps texts boot (stmt.AddCheck q name text) named sound fit there = add_check-keeps texts named sound q name text fit
statement-keeps texts boot (stmt.CreateIndex q name method rest) named sound fit there = create_index-keeps texts named sound q name method rest fit
statement-keeps texts boot (stmt.CreateUniqueIndex q name method rest) named sound fit there = create_unique_index-keeps texts named sound q name method rest fit
statement-keeps texts boot (stmt.CopyRows q columns rows) named sound fit there = copy_rows-keeps texts named sound q columns rows
statement-keeps texts boot (stmt.Grant what rights who option) named sound fit there = grant-keeps texts named sound what rights who option fit
statement-keeps texts boot (stmt.Revoke what rights who) named sound fit there = revoke-keeps texts named sound what rights who
statement-keeps texts boot (stmt.Comment what text) named sound fit there = comment_on-keeps texts named sound what text
statement-keeps texts boot (stmt.OwnerTo what role) named sound fit there = owner_to-keeps texts named sound what role
statement-keeps texts boot (stmt.CreateRole name) named sound fit there = create_role-keeps texts named sound name
statement-keeps texts boot (stmt.AlterRole name changes) named sound fit there = alter_role-keeps texts named sound name changes
statement-keeps texts boot (stmt.GrantRole role member grantor admin inherit may_set) named sound fit there = grant_role-keeps texts named sound boot role member grantor admin inherit may_set there
statement-keeps texts boot (stmt.CreateDatabase name encoding) named sound fit there = create_database-keeps texts named sound boot name there
statement-keeps texts boot (stmt.Connect name) named sound fit there = keeps_needs sound (key.Database name) (λ v is. keeps_sets refl sound)

pub run-keeps : (texts : Texts) (boot : Bytes) (ss : List Stmt) (named : Named) → IsSound texts named → AllByRecursion (IsFit texts) ss → IsMet named (key.Role boot, Asked.there) → IsSound texts (catalogue_after boot ss named)
run-keeps texts boot [] named sound fit there = sound
run-keeps texts boot (s ∷ ss) named sound fit there =
    let one = statement-keeps texts boot s named sound fit.0 there in
    run-keeps texts boot ss (next (effect boot s) named) one.is fit.1 (one.stays (key.Role boot) refl there)
