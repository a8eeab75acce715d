-- What good texts must be at least: each that a row of well-formed tables may hold is good.
use Rattle.std.specs.Prelude.{◌≡◌, true, Some}
use Rattle.cat_model.specs.declared.stmt.Stmt.{Stmt}
use Rattle.cat_model.specs.declared.type_name.TypeName.{TypeName}
use Rattle.cat_model.specs.declared.value.Constraint.{Constraint}
use Rattle.cat_model.specs.declared.value.Value.TheVariants as value
use Rattle.cat_model.specs.Values.{Bytes}
use Rattle.row_texts.specs.DefaultTexts.{default_said}
use Rattle.row_texts.specs.IndexTexts.{index_said}
use Rattle.row_texts.specs.TypeTexts.{type_named}
use Rattle.row_texts.specs.ViewTexts.{view_body}
use Rattle.row_texts.specs.declared.index_text.IndexText.{IndexText}
use Rattle.constraint_table.specs.Said.{statement_said}
use Rattle.cat_naming.specs.Constraints.{constraint_value}
use Rattle.cat_sound.specs.Texts.{Texts}

pub record Reads (texts : Texts) : Type 0 where
  pub types : (text : Bytes) (t : TypeName) → type_named text ≡ Some t → texts.type t ≡ true
  pub defaults : (text v : Bytes) → default_said text ≡ Some v → texts.expression v ≡ true
  pub constraints : (text : Bytes) (s : Stmt) (c : Constraint) → statement_said text ≡ Some s → constraint_value s ≡ Some (value.Constraint c) → texts.constraint c ≡ true
  pub indexes : (text : Bytes) (said : IndexText) → index_said text ≡ Some said → texts.index said.table said.name (record { method = said.method; unique = said.unique; text = said.rest }) ≡ true
  pub bodies : (text body : Bytes) → view_body text ≡ Some body → texts.body body ≡ true
