-- The kinds whose text takes long to compute, or is joined otherwise than it is appended.
use Rattle.std.proofs.Common.{◌≡◌, ℕ, Bool, List, [], ◌∷◌, Option, refl, append_assoc, codes}
use Rattle.sql_lex.specs.Written.{written_name}
use Rattle.cat_model.specs.declared.table.RoleChanges.{RoleChanges}
use Rattle.cat_model.specs.declared.stmt.Stmt.TheVariants as stmt
use Rattle.ddl_spelling.specs.{Paths.joined, Roles.attributes_text, Roles.member_text}
use Rattle.ddl_write.specs.Said.{said}
use Rattle.ddl_write.proofs.Spelled.{of_kind}
use Rattle.ddl_write.proofs.writing.put_stmt.Goals as goal

pub put_said-requires-in-CreateDomain : goal.put_said-requires-in-CreateDomain
unfolding said
put_said-requires-in-CreateDomain c = of_kind _ c.in-CreateDomain.is (rw c.as_slice-in-CreateDomain.ensures (simp append_assoc))

pub put_said-requires-in-CreateSequence : goal.put_said-requires-in-CreateSequence
unfolding said
put_said-requires-in-CreateSequence c = of_kind _ c.in-CreateSequence.is (simp append_assoc)

pub put_said-requires-in-CreateDatabase : goal.put_said-requires-in-CreateDatabase
unfolding said
put_said-requires-in-CreateDatabase c = of_kind _ c.in-CreateDatabase.is refl

pub put_said-requires-in-SetDefault : goal.put_said-requires-in-SetDefault
unfolding said
put_said-requires-in-SetDefault c = of_kind _ c.in-SetDefault.is refl

pub put_said-requires-in-AddPrimary : goal.put_said-requires-in-AddPrimary
unfolding said
put_said-requires-in-AddPrimary c = of_kind _ c.in-AddPrimary.is (rw c.as_slice-in-AddPrimary.ensures refl)

pub put_said-requires-in-AddUnique : goal.put_said-requires-in-AddUnique
unfolding said
put_said-requires-in-AddUnique c = of_kind _ c.in-AddUnique.is (rw c.as_slice-in-AddUnique.ensures refl)

pub put_said-requires-in-AddForeign : goal.put_said-requires-in-AddForeign
unfolding said
put_said-requires-in-AddForeign c = of_kind _ c.in-AddForeign.is (rw (c.as_slice-in-AddForeign.ensures, c.as_slice-in-AddForeign-2.ensures) refl)

pub put_said-requires-in-AddCheck : goal.put_said-requires-in-AddCheck
unfolding said
put_said-requires-in-AddCheck c = of_kind _ c.in-AddCheck.is refl

pub put_said-requires-in-CopyRows : goal.put_said-requires-in-CopyRows
unfolding said
put_said-requires-in-CopyRows c = of_kind _ c.in-CopyRows.is (rw (c.as_slice-in-CopyRows.ensures, c.as_slice-in-CopyRows-2.ensures) refl)

-- roles: the text of one leaf is itself joined
alter_role : (n : List ℕ) (changes : RoleChanges) → joined (codes "ALTER ROLE " ∷ written_name n ∷ codes " WITH" ∷ attributes_text changes ∷ codes ";\n" ∷ []) ≡ said (stmt.AlterRole n changes)
unfolding said
alter_role n changes = refl

pub put_said-requires-in-AlterRole : goal.put_said-requires-in-AlterRole
unfolding attributes_text
put_said-requires-in-AlterRole c = of_kind _ c.in-AlterRole.is (simp append_assoc at (alter_role c.in-AlterRole.name c.in-AlterRole.changes))

grant_role : (role member : List ℕ) (grantor : Option (List ℕ)) (admin : Bool) (inherit : Option Bool) (may_set : Bool)
    → joined (codes "GRANT" ∷ member_text role member grantor admin inherit may_set ∷ codes "\n" ∷ []) ≡ said (stmt.GrantRole role member grantor admin inherit may_set)
unfolding said
grant_role role member grantor admin inherit may_set = refl

pub put_said-requires-in-GrantRole : goal.put_said-requires-in-GrantRole
unfolding member_text
put_said-requires-in-GrantRole c =
    let known = c.in-GrantRole in
    of_kind _ known.is (simp append_assoc at (grant_role known.role known.member known.grantor known.admin known.inherit known.set))
