-- Worked examples: an index, a sequence and a view of the small catalogue, and what is wrong with them after one change.
use Rattle.std.specs.Prelude.{◌≡◌, pos, true, List, [], ◌∷◌, Option, None, codes}
use Rattle.cat_rows.specs.declared.table.SysTable.TheVariants.{PgIndex, PgSequence, PgRewrite}
use Rattle.cat_rows.specs.declared.relations.IndexRow.{IndexRow}
use Rattle.cat_rows.specs.declared.relations.RewriteRow.{RewriteRow}
use Rattle.cat_rows.specs.declared.sequences.SequenceRow.{SequenceRow}
use Rattle.cat_model.specs.Values.{Bytes}
use Rattle.cat_names.specs.declared.fault.LineFault.{LineFault}
use Rattle.cat_names.specs.declared.fault.FaultKind.TheVariants as kind
use Rattle.well_formed.specs.Catalogues.{table_fault}
use Rattle.table_laws.specs.Small.{at, index, on_a_and_b, sequence, view, all_of_t, small, with_more}

abbrev pub unique : Bytes → IndexRow
unique text = record (index text) { indisunique = true }

-- public.i is the index 16506, public.k 16504 that of the primary key, a.i 16508, public.t the table 16500 and public.v the
-- view 16502
abbrev pub in_indexes : List IndexRow → Option LineFault
in_indexes rows = table_fault (record with_more { pg_index = rows }) PgIndex

pub record Indexes : Type 0 where
  pub none : in_indexes [] ≡ None
  pub one : in_indexes (on_a_and_b ∷ []) ≡ None
  pub comments_around : in_indexes (index (codes " create index I on Public.T using gin (a) where b > 0 -- x") ∷ []) ≡ None
  pub quoted : in_indexes (index (codes "CREATE INDEX \"i\" ON \"public\".t USING btree (a)") ∷ []) ≡ None
  pub twice : in_indexes (on_a_and_b ∷ on_a_and_b ∷ []) ≡ at 2 kind.RepeatedOid
  pub no_index : in_indexes (record on_a_and_b { indexrelid = 16500 } ∷ []) ≡ at 1 kind.Dangling
  pub of_no_table : in_indexes (record on_a_and_b { indrelid = 16502 } ∷ []) ≡ at 1 kind.Dangling
  pub of_a_key : in_indexes (record on_a_and_b { indexrelid = 16504; indexdef = codes "CREATE INDEX k ON public.t USING btree (a)" } ∷ []) ≡ at 1 kind.BadText
  pub in_another_schema : in_indexes (record on_a_and_b { indexrelid = 16508 } ∷ []) ≡ at 1 kind.BadText
  pub another_name : in_indexes (index (codes "CREATE INDEX j ON public.t USING btree (a)") ∷ []) ≡ at 1 kind.BadText
  pub another_table : in_indexes (index (codes "CREATE INDEX i ON public.v USING btree (a)") ∷ []) ≡ at 1 kind.BadText
  pub says_unique : in_indexes (index (codes "CREATE UNIQUE INDEX i ON public.t USING btree (a)") ∷ []) ≡ at 1 kind.BadText
  pub says_no_unique : in_indexes (unique (codes "CREATE INDEX i ON public.t USING btree (a)") ∷ []) ≡ at 1 kind.BadText
  pub semicolon : in_indexes (index (codes "CREATE INDEX i ON public.t USING btree (a);") ∷ []) ≡ at 1 kind.BadText
  pub without_bracket : in_indexes (index (codes "CREATE INDEX i ON public.t USING btree a") ∷ []) ≡ at 1 kind.BadText
  pub open_bracket : in_indexes (index (codes "CREATE INDEX i ON public.t USING btree (a") ∷ []) ≡ at 1 kind.BadText
  pub plain_columns : in_indexes (unique (codes "CREATE UNIQUE INDEX i ON public.t USING btree (b, a)") ∷ []) ≡ None
  pub no_column : in_indexes (unique (codes "CREATE UNIQUE INDEX i ON public.t USING btree (a, c)") ∷ []) ≡ at 1 kind.BadText
  pub column_twice : in_indexes (unique (codes "CREATE UNIQUE INDEX i ON public.t USING btree (a, a)") ∷ []) ≡ at 1 kind.BadText
  pub no_plain_column : in_indexes (unique (codes "CREATE UNIQUE INDEX i ON public.t USING btree (lower(c))") ∷ []) ≡ None
  pub not_unique : in_indexes (index (codes "CREATE INDEX i ON public.t USING btree (c)") ∷ []) ≡ None

abbrev pub bigint : SequenceRow
bigint = sequence (codes "bigint")

-- public.t has the columns 1 and 2
abbrev pub in_sequences : List SequenceRow → Option LineFault
in_sequences rows = table_fault (record small { pg_sequence = rows }) PgSequence

pub record Sequences : Type 0 where
  pub one : in_sequences (bigint ∷ []) ≡ None
  pub owned : in_sequences (record bigint { ownrel = 16500; owncol = pos 2 } ∷ []) ≡ None
  pub any_case : in_sequences (sequence (codes " SmallInt") ∷ []) ≡ None
  pub twice : in_sequences (bigint ∷ bigint ∷ []) ≡ at 2 kind.RepeatedOid
  pub no_sequence : in_sequences (record bigint { seqrelid = 16502 } ∷ []) ≡ at 1 kind.Dangling
  pub no_owner : in_sequences (record bigint { ownrel = 16500; owncol = pos 3 } ∷ []) ≡ at 1 kind.Dangling
  pub no_type : in_sequences (sequence (codes "oid") ∷ []) ≡ at 1 kind.BadText
  pub two_words : in_sequences (sequence (codes "bigint integer") ∷ []) ≡ at 1 kind.BadText
  pub beyond_smallint : in_sequences (record (sequence (codes "smallint")) { seqmax = pos 32768 } ∷ []) ≡ at 1 kind.BadText
  pub largest_smallint : in_sequences (record (sequence (codes "smallint")) { seqmax = pos 32767 } ∷ []) ≡ None
  pub no_step : in_sequences (record bigint { seqincrement = pos 0 } ∷ []) ≡ at 1 kind.BadText
  pub last_beyond : in_sequences (record bigint { last_value = pos 101 } ∷ []) ≡ at 1 kind.BadText
  pub start_beyond : in_sequences (record bigint { seqstart = pos 0 } ∷ []) ≡ at 1 kind.BadText
  pub nothing_kept : in_sequences (record bigint { seqcache = pos 0 } ∷ []) ≡ at 1 kind.BadText

-- no relation is public.x, and no type public.f
abbrev pub in_views : List RewriteRow → Option LineFault
in_views rows = table_fault (record small { pg_rewrite = rows }) PgRewrite

pub record Views : Type 0 where
  pub one : in_views (all_of_t ∷ []) ≡ None
  pub comment_behind : in_views (view (codes "SELECT 1; -- one") ∷ []) ≡ None
  pub of_itself : in_views (view (codes "SELECT a FROM public.v;") ∷ []) ≡ None
  pub second_oid : in_views (all_of_t ∷ all_of_t ∷ []) ≡ at 2 kind.RepeatedOid
  pub second_of_a_view : in_views (all_of_t ∷ record all_of_t { oid = 16701 } ∷ []) ≡ at 2 kind.RepeatedName
  pub no_view : in_views (record all_of_t { ev_class = 16500 } ∷ []) ≡ at 1 kind.Dangling
  pub no_oid : in_views (record all_of_t { oid = 0 } ∷ []) ≡ at 1 kind.BadText
  pub no_semicolon : in_views (view (codes "SELECT 1") ∷ []) ≡ at 1 kind.BadText
  pub two_semicolons : in_views (view (codes "SELECT 1;;") ∷ []) ≡ at 1 kind.BadText
  pub two_bodies : in_views (view (codes "SELECT 1; SELECT 2") ∷ []) ≡ at 1 kind.BadText
  pub unclosed_behind : in_views (view (codes "SELECT 1; /*") ∷ []) ≡ at 1 kind.BadText
  pub no_body : in_views (view (codes ";") ∷ []) ≡ at 1 kind.BadText
  pub no_table : in_views (view (codes "SELECT a FROM public.x;") ∷ []) ≡ at 1 kind.BadText
  pub of_the_system : in_views (view (codes "SELECT a FROM pg_catalog.pg_class;") ∷ []) ≡ None
  pub no_type : in_views (view (codes "SELECT 'x'::public.f;") ∷ []) ≡ at 1 kind.BadText
