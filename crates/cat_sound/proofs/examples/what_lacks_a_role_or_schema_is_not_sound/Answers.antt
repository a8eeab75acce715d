use Rattle.cat_sound.proofs.Refuted.{no_schema, no_public, no_role, no_owner, not_a_right, no_such_grantee}
use Rattle.cat_sound.proofs.examples.what_lacks_a_role_or_schema_is_not_sound.Goals as goal

pub returns : goal.returns
returns c = record {
  schema = λ texts named q v is none sound. no_schema texts named sound q v is none;
  public = λ texts named v is sound. no_public texts named sound v is;
  role = λ texts named o role is none sound. no_role texts named sound o role is none;
  owner = λ texts named q columns is none sound. no_owner texts named sound q columns is none;
  rights = λ texts named q grants h item columns is table has wrong sound. not_a_right texts named sound q grants h item columns is table has wrong;
  grantee = λ texts named o grants name item is has none sound. no_such_grantee texts named sound o grants name item is has none;
}
