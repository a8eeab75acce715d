use Rattle.std.proofs.Common.{◌≡◌, true, false, Err, sym, ap, ◌∙◌, rules}
use Rattle.schema_folders.specs.declared.schemas.SchemaCause.{SchemaCause}
use Rattle.schema_folders.specs.declared.schemas.SchemaCause.TheVariants as why
use Rattle.schema_folders.specs.declared.schemas.ApplyFault.TheVariants as faults
use Rattle.schema_folders.specs.Naming.{has_name}
use Rattle.schema_folders.specs.Run.{cause_of}
use Rattle.schema_folders.proofs.Named.{run_no_schema, run_no_role, run_owned}
use Rattle.schema_folders.proofs.schemas.Schemas.own.Goals as goal

same_cause : (x y : SchemaCause) → faults.Refused x ≡ faults.Refused y → x ≡ y
same_cause x y e = cc

pub returns-then-not-contains-clause-refused : goal.returns-then-not-contains-clause-refused
returns-then-not-contains-clause-refused c = λ cause e.
    let absent : has_name c.args.schema.now c.args.self.now ≡ false = search rules in
    run_no_schema c.args.self.now c.args.schema.now c.args.role.now absent
    ∙ ap (λ n. Err (cause_of (why.NoSchema n))) (sym c.in_ok-clone.ensures.cases)
    ∙ ap (λ w. Err (cause_of w)) (same_cause _ _ e)

pub returns-then-not-is_boot-clause-refused : goal.returns-then-not-is_boot-clause-refused
returns-then-not-is_boot-clause-refused c = λ cause e.
    let there : has_name c.args.schema.now c.args.self.now ≡ true = search rules in
    run_no_role c.args.self.now c.args.schema.now c.args.role.now there (rw (sym c.as_bytes.ensures.value) (search rules))
    ∙ ap (λ n. Err (cause_of (why.NoRole n))) (sym c.in_ok-clone-2.ensures.cases)
    ∙ ap (λ w. Err (cause_of w)) (same_cause _ _ e)

pub returns-clause-ok : goal.returns-clause-ok
returns-clause-ok c =
    let there : has_name c.args.schema.now c.args.self.now ≡ true = search rules in
    run_owned c.args.self.now c.args.schema.now c.args.role.now there (search rules)
