use Rattle.std.proofs.Common.{◌≡◌, [], ◌∷◌, ◌++◌, sym, ◌∙◌, ap, Ok, Err}
use Rattle.schema_folders.specs.declared.schemas.SchemaCause.{SchemaCause}
use Rattle.schema_folders.specs.declared.schemas.SchemaCause.TheVariants as why
use Rattle.schema_folders.specs.declared.schemas.ApplyFault.TheVariants as faults
use Rattle.schema_folders.specs.Run.{cause_of}
use Rattle.schema_folders.specs.Naming.{named}
use Rattle.schema_folders.proofs.Named.{run_refused, run_created}
use Rattle.schema_folders.proofs.schemas.Schemas.create.Goals as goal

same_cause : (x y : SchemaCause) → faults.Refused x ≡ faults.Refused y → x ≡ y
same_cause x y e = cc

pub returns-then-refuses-clause-refused : goal.returns-then-refuses-clause-refused
returns-then-refuses-clause-refused c = λ cause e.
    run_refused c.args.self.now c.args.name.now (sym c.refuses.ensures ∙ c.if-refuses.true)
    ∙ ap (λ n. Err (cause_of (why.Exists n))) (sym c.in_ok-clone.ensures.cases)
    ∙ ap (λ w. Err (cause_of w)) (same_cause _ _ e)

pub returns-clause-ok : goal.returns-clause-ok
returns-clause-ok c =
    run_created c.args.self.now c.args.name.now c.in-Some.oid (sym c.refuses.ensures ∙ c.if-refuses.false)
    ∙ ap (λ rows. Ok (named rows))
    (ap (λ n. c.args.self.now ++ record { oid = c.in-Some.oid; name = n } ∷ []) (sym c.in_ok-name.ensures.cases)
    ∙ ap (λ xs. xs ++ record { oid = c.in-Some.oid; name = c.in_ok-name.name } ∷ []) (sym c.self.view_is)
    ∙ sym c.in_ok-push.ensures.ok)
