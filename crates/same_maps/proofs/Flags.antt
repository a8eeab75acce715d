-- Attributes of roles, one by one.
use Rattle.std.proofs.Common.{◌≡◌, true, refl}
use Rattle.std.proofs.Math.ListN.{get_or}
use Rattle.std.proofs.lemmas.Slice.Eq.{slice_eq-Decides}
use Rattle.std.specs.Bool.{beq}
use Rattle.std.specs.Cmp.Lexicographic.{pointwise}
use Rattle.cat_model.specs.declared.value.Role.{Role}
use Rattle.same_maps.specs.Flags.{role_flags}
use Rattle.same_maps.proofs.Bytes.{same_bool}

-- roles with the same attributes
pub same_attributes : (a b : Role) → pointwise beq (role_flags a) (role_flags b) ≡ true → a.limit ≡ b.limit → a.password ≡ b.password → a.valid_until ≡ b.valid_until → a ≡ b
same_attributes a b flags limit password end =
    let same : role_flags a ≡ role_flags b = (slice_eq-Decides same_bool (role_flags a) (role_flags b) (pointwise beq (role_flags a) (role_flags b)) refl).0 flags in
    λ i. record {
      superuser = get_or (same i) 0 true;
      inherit = get_or (same i) 1 true;
      create_role = get_or (same i) 2 true;
      create_db = get_or (same i) 3 true;
      login = get_or (same i) 4 true;
      replication = get_or (same i) 5 true;
      bypass_rls = get_or (same i) 6 true;
      limit = limit i;
      password = password i;
      valid_until = end i;
    }
