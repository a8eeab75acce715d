-- Worked examples: texts that are good by the grammar, and texts that aren't.
use Rattle.std.specs.Prelude.{◌≡◌, true, false, List, [], ◌∷◌, Option, Some, None, codes}
use Rattle.cat_model.specs.declared.constraint.ConstraintKind.{ConstraintKind}
use Rattle.cat_model.specs.declared.constraint.ConstraintKind.TheVariants as kinds
use Rattle.cat_model.specs.declared.object.QName.{QName}
use Rattle.cat_model.specs.declared.type_name.TypeName.TheVariants.{Words, Path}
use Rattle.cat_model.specs.declared.value.Constraint.{Constraint}
use Rattle.cat_model.specs.declared.value.Index.{Index}
use Rattle.cat_model.specs.Values.{Bytes}
use Rattle.sound_texts.specs.Grammar.{grammar}

abbrev pub path : Bytes → QName
path name = record { schema = codes "public"; name = name }

-- a text is kept from its first token to its last, so that it has no blanks around it
pub record Types : Type 0 where
  pub words : grammar.type (Words (codes "character varying(20)")) ≡ true
  pub array : grammar.type (Words (codes "integer[]")) ≡ true
  pub as_a_path : grammar.type (Path (path (codes "e"))) ≡ true
  pub no_name : grammar.type (Path (path [])) ≡ false
  pub blank : grammar.type (Words (codes " integer")) ≡ false
  pub behind : grammar.type (Words (codes "integer ")) ≡ false
  pub comment : grammar.type (Words (codes "integer -- a")) ≡ false
  pub path_as_words : grammar.type (Words (codes "public.e")) ≡ false
  pub semicolon : grammar.type (Words (codes "integer;")) ≡ false
  pub open_bracket : grammar.type (Words (codes "numeric(10")) ≡ false
  pub empty : grammar.type (Words []) ≡ false

pub record Expressions : Type 0 where
  pub default : grammar.expression (codes "1 + (2)") ≡ true
  pub inner_comment : grammar.expression (codes "1 /* a; */ + 2") ≡ true
  pub blank : grammar.expression (codes "1 ") ≡ false
  pub not_null : grammar.expression (codes "1 NOT NULL") ≡ false
  pub two : grammar.expression (codes "1, 2") ≡ false
  pub unclosed : grammar.expression (codes "1 'a") ≡ false
  pub empty : grammar.expression [] ≡ false
  pub body : grammar.body (codes "SELECT a, b FROM public.t") ≡ true
  pub body_without_semicolon : grammar.body (codes "SELECT 1;") ≡ false
  pub open_bracket : grammar.body (codes "SELECT (1") ≡ false

abbrev pub constraint : ConstraintKind → List Bytes → Option (QName × List Bytes) → Bytes → Constraint
constraint kind columns parent text = record { kind = kind; columns = columns; parent = parent; text = text }

abbrev pub a : List Bytes
a = codes "a" ∷ []

pub record Constraints : Type 0 where
  pub primary : grammar.constraint (constraint kinds.Primary a None []) ≡ true
  pub deferred : grammar.constraint (constraint kinds.Primary a None (codes "DEFERRABLE INITIALLY DEFERRED")) ≡ true
  pub no_column : grammar.constraint (constraint kinds.Primary [] None []) ≡ false
  pub undue : grammar.constraint (constraint kinds.Unique a None (codes "ON DELETE CASCADE")) ≡ false
  pub foreign_key : grammar.constraint (constraint kinds.Foreign a (Some (path (codes "t"), a)) (codes "ON DELETE CASCADE")) ≡ true
  pub no_parent : grammar.constraint (constraint kinds.Foreign a None []) ≡ false
  pub check : grammar.constraint (constraint kinds.Check [] None (codes "(a > 0)")) ≡ true
  pub no_check : grammar.constraint (constraint kinds.Check [] None (codes "(a > 0")) ≡ false

abbrev pub index : Bytes → Bytes → Index
index method text = record { method = method; unique = false; text = text }

pub record Indexes : Type 0 where
  pub one : grammar.index (path (codes "t")) (codes "i") (index (codes "btree") (codes "(a, lower(b)) WHERE b > 0")) ≡ true
  pub without_bracket : grammar.index (path (codes "t")) (codes "i") (index (codes "btree") (codes "a")) ≡ false
  pub no_method : grammar.index (path (codes "t")) (codes "i") (index [] (codes "(a)")) ≡ false
  pub no_name : grammar.index (path (codes "t")) [] (index (codes "btree") (codes "(a)")) ≡ false
