-- Worked examples: texts of types, defaults, indexes, sequences' types and views, each with what it says, and lists of
-- names.
use Rattle.std.specs.Prelude.{◌≡◌, Bool, true, false, [], ◌∷◌, Some, None, codes}
use Rattle.cat_model.specs.declared.constraint.SequenceKind.TheVariants.{SmallInt, Integer, BigInt}
use Rattle.cat_model.specs.declared.object.QName.{QName}
use Rattle.cat_model.specs.declared.type_name.TypeName.TheVariants.{Words, Path}
use Rattle.cat_model.specs.Tables.{distinct}
use Rattle.cat_model.specs.Values.{Bytes}
use Rattle.row_texts.specs.declared.index_text.IndexText.{IndexText}
use Rattle.row_texts.specs.TypeTexts.{type_named}
use Rattle.row_texts.specs.DefaultTexts.{default_said, is_default}
use Rattle.row_texts.specs.IndexTexts.{index_said}
use Rattle.row_texts.specs.SequenceTypes.{sequence_kind}
use Rattle.row_texts.specs.ViewTexts.{view_body}

-- a name in the schema public
abbrev pub path : Bytes → QName
path name = record { schema = codes "public"; name = name }

pub record Types : Type 0 where
  pub words : type_named (codes " character varying(20) -- b") ≡ Some (Words (codes "character varying(20)"))
  pub array : type_named (codes "/* a */ integer [ ]\n") ≡ Some (Words (codes "integer [ ]"))
  pub as_a_path : type_named (codes "\"public\".E") ≡ Some (Path (path (codes "e")))
  pub of_the_system : type_named (codes "pg_catalog.int4") ≡ Some (Path (record { schema = codes "pg_catalog"; name = codes "int4" }))
  pub quoted : type_named (codes "\"integer\"") ≡ None
  pub open_bracket : type_named (codes "numeric(10") ≡ None
  pub not_null : type_named (codes "integer NOT NULL") ≡ None
  pub semicolon : type_named (codes "integer;") ≡ None
  pub second : type_named (codes "integer; text") ≡ None
  pub unclosed : type_named (codes "integer 'a") ≡ None
  pub unclosed_comment : type_named (codes "integer /*") ≡ None
  pub three_names : type_named (codes "a.public.e") ≡ None
  pub empty : type_named [] ≡ None

pub record Defaults : Type 0 where
  pub expression : default_said (codes " 1 + (2) -- b") ≡ Some (codes "1 + (2)")
  pub is_one : is_default (codes " 1 + (2) -- b") ≡ true
  pub inner_comment : default_said (codes "1 /* a; */ + 2") ≡ Some (codes "1 /* a; */ + 2")
  pub not_null : default_said (codes "1 NOT NULL") ≡ None
  pub is_none : is_default (codes "1 NOT NULL") ≡ false
  pub is_not_null : default_said (codes "a IS NOT NULL") ≡ None
  pub null_in_brackets : default_said (codes "(a IS NOT NULL)") ≡ Some (codes "(a IS NOT NULL)")
  pub two : default_said (codes "1, 2") ≡ None
  pub in_brackets : default_said (codes "(1, 2)") ≡ Some (codes "(1, 2)")
  pub open_bracket : default_said (codes "(1") ≡ None
  pub semicolon : default_said (codes "1;") ≡ None
  pub unclosed : default_said (codes "1 'a") ≡ None
  pub empty : default_said (codes " -- 1") ≡ None

-- the index public.i of public.t by this method, with this rest
abbrev pub index : Bool → Bytes → Bytes → IndexText
index unique method rest = record { unique = unique; name = codes "i"; table = path (codes "t"); method = method; rest = rest }

pub record Indexes : Type 0 where
  pub one : index_said (codes "CREATE INDEX i ON public.t USING btree (a, lower(b))") ≡ Some (index false (codes "btree") (codes "(a, lower(b))"))
  pub unique : index_said (codes "CREATE UNIQUE INDEX i ON public.t USING btree (a)") ≡ Some (index true (codes "btree") (codes "(a)"))
  pub comments_around : index_said (codes " create index I on Public.T using gin (a) where b > 0 -- x") ≡ Some (index false (codes "gin") (codes "(a) where b > 0"))
  pub quoted : index_said (codes "CREATE INDEX \"i\" ON \"public\".t USING btree (a)") ≡ Some (index false (codes "btree") (codes "(a)"))
  pub semicolon : index_said (codes "CREATE INDEX i ON public.t USING btree (a);") ≡ None
  pub without_bracket : index_said (codes "CREATE INDEX i ON public.t USING btree a") ≡ None
  pub open_bracket : index_said (codes "CREATE INDEX i ON public.t USING btree (a") ≡ None
  pub no_method : index_said (codes "CREATE INDEX i ON public.t (a)") ≡ None
  pub no_schema : index_said (codes "CREATE INDEX i ON t USING btree (a)") ≡ None
  pub no_name : index_said (codes "CREATE INDEX ON public.t USING btree (a)") ≡ None
  pub empty : index_said [] ≡ None

pub record Sequences : Type 0 where
  pub smallest : sequence_kind (codes " SmallInt") ≡ Some SmallInt
  pub middle : sequence_kind (codes "integer -- a") ≡ Some Integer
  pub largest : sequence_kind (codes "bigint") ≡ Some BigInt
  pub another_type : sequence_kind (codes "oid") ≡ None
  pub quoted : sequence_kind (codes "\"bigint\"") ≡ None
  pub two_words : sequence_kind (codes "bigint integer") ≡ None
  pub semicolon : sequence_kind (codes "bigint;") ≡ None
  pub empty : sequence_kind [] ≡ None

pub record Views : Type 0 where
  pub one : view_body (codes " SELECT a FROM public.t;") ≡ Some (codes "SELECT a FROM public.t")
  pub comment_behind : view_body (codes "SELECT 1; -- one") ≡ Some (codes "SELECT 1")
  pub in_a_literal : view_body (codes "SELECT ';';") ≡ Some (codes "SELECT ';'")
  pub no_semicolon : view_body (codes "SELECT 1") ≡ None
  pub two_semicolons : view_body (codes "SELECT 1;;") ≡ None
  pub two_bodies : view_body (codes "SELECT 1; SELECT 2") ≡ None
  pub unclosed_behind : view_body (codes "SELECT 1; /*") ≡ None
  pub closing_bracket : view_body (codes "SELECT 1);") ≡ None
  pub no_body : view_body (codes ";") ≡ None

pub record Names : Type 0 where
  pub none : distinct [] ≡ true
  pub different : distinct (codes "a" ∷ codes "b" ∷ codes "A" ∷ []) ≡ true
  pub twice : distinct (codes "a" ∷ codes "b" ∷ codes "a" ∷ []) ≡ false
