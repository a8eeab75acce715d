-- Which texts are good for which use. What follows has this as a parameter, so that it needs no grammar.
use Rattle.std.specs.Prelude.{Bool}
use Rattle.cat_model.specs.declared.object.QName.{QName}
use Rattle.cat_model.specs.declared.type_name.TypeName.{TypeName}
use Rattle.cat_model.specs.declared.value.Constraint.{Constraint}
use Rattle.cat_model.specs.declared.value.Index.{Index}
use Rattle.cat_model.specs.Values.{Bytes}

pub record Texts : Type 0 where
  -- the type of a column or of a domain, as it is named
  pub type : TypeName → Bool
  -- the expression of a default
  pub expression : Bytes → Bool
  -- a constraint of a table; a check of a domain stands here as one of a table
  pub constraint : Constraint → Bool
  -- an index of this table and of this name
  pub index : QName → Bytes → Index → Bool
  -- the body of a view
  pub body : Bytes → Bool
