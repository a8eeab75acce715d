-- Worked examples: what options of a dump choose of a small catalogue, and the patterns that are refused.
-- It has the schemas public and a, the tables public.t and a.u, the view public.v, the sequence public.s that a column of
-- public.t owns, an index public.i of public.t, and the enum a.e.
use Rattle.std.specs.Prelude.{◌≡◌, pos, false, true, List, [], ◌∷◌, ◌++◌, Option, Some, None, Result, Ok, Err, codes}
use Rattle.cat_rows.specs.declared.catalogue.Catalogue.{Catalogue}
use Rattle.cat_model.specs.Values.{Bytes}
use Rattle.patterns.specs.declared.fault.PatternFault.{PatternFault}
use Rattle.patterns.specs.Parts.{Parts}
use Rattle.patterns.specs.Reading.{pattern_of}
use Rattle.graph_laws.specs.Small.{empty_cluster, public, schema, enum, relation, column, owned}
use Rattle.obj_graph.specs.declared.select.SelectFault.{SelectFault}
use Rattle.obj_graph.specs.declared.select.SelectFault.TheVariants.{NoSchemas, NoTables}
use Rattle.obj_graph.specs.Chosen.{select_fault}
use Rattle.obj_graph.specs.Ids.{schema_id, type_id, relation_id, data_id, pre_data, post_data}
use Rattle.graph_laws.specs.Shown.{all, ids}

abbrev pub mixed : Catalogue
mixed = record empty_cluster {
  pg_namespace = public ∷ schema 16384 (codes "a") ∷ [];
  pg_type = record (enum 16385 (codes "e")) { typnamespace = 16384 } ∷ [];
  pg_class =
      relation 16390 (codes "t") 114 ∷ record (relation 16391 (codes "u") 114) { relnamespace = 16384 }
      ∷ relation 16392 (codes "v") 118 ∷ relation 16393 (codes "s") 83 ∷ relation 16394 (codes "i") 105 ∷ [];
  pg_attribute = column 16390 (pos 1) (codes "a") 0 (codes "integer") ∷ column 16391 (pos 1) (codes "e") 16385 (codes "a.e") ∷ [];
  pg_index = record { indexrelid = 16394; indrelid = 16390; indisunique = false; indexdef = codes "CREATE INDEX i ON public.t USING btree (a)" } ∷ [];
  pg_sequence = owned 16393 16390 ∷ [];
  pg_rewrite = record { oid = 16395; ev_class = 16392; viewdef = codes " SELECT a FROM public.t;" } ∷ [];
}

abbrev pub if_read : Result Parts PatternFault → List Parts
if_read (Ok pattern) = pattern ∷ []
if_read (Err fault) = []

-- a pattern
abbrev pub pattern : Bytes → List Parts
pattern text = if_read (pattern_of text)

pub record Chosen : Type 0 where
  pub every : ids mixed all ≡
      schema_id 2200 ∷ schema_id 16384 ∷ type_id 16385 ∷ relation_id 16390 ∷ relation_id 16391 ∷ relation_id 16392 ∷ relation_id 16393
      ∷ pre_data ∷ data_id 16390 ∷ data_id 16391 ∷ data_id 16393 ∷ post_data ∷ relation_id 16394 ∷ []
  -- -s and -a
  pub without_data : ids mixed (record all { schema_only = true }) ≡
      schema_id 2200 ∷ schema_id 16384 ∷ type_id 16385 ∷ relation_id 16390 ∷ relation_id 16391 ∷ relation_id 16392 ∷ relation_id 16393
      ∷ pre_data ∷ post_data ∷ relation_id 16394 ∷ []
  pub data_alone : ids mixed (record all { data_only = true }) ≡ pre_data ∷ data_id 16390 ∷ data_id 16391 ∷ data_id 16393 ∷ post_data ∷ []
  -- -n A, in any letter case
  pub one_schema : ids mixed (record all { schemas = pattern (codes "A") }) ≡
      schema_id 16384 ∷ type_id 16385 ∷ relation_id 16391 ∷ pre_data ∷ data_id 16391 ∷ post_data ∷ []
  -- -N a
  pub without_schema : ids mixed (record all { not_schemas = pattern (codes "a") }) ≡
      schema_id 2200 ∷ relation_id 16390 ∷ relation_id 16392 ∷ relation_id 16393
      ∷ pre_data ∷ data_id 16390 ∷ data_id 16393 ∷ post_data ∷ relation_id 16394 ∷ []
  -- -t t: no schema, but the sequence that the table owns; -N then takes nothing away
  pub one_table : ids mixed (record all { tables = pattern (codes "t"); not_schemas = pattern (codes "*") }) ≡
      relation_id 16390 ∷ relation_id 16393 ∷ pre_data ∷ data_id 16390 ∷ data_id 16393 ∷ post_data ∷ relation_id 16394 ∷ []
  -- -t a.* hits what stands in the schema a
  pub in_schema : ids mixed (record all { tables = pattern (codes "a.*") }) ≡ relation_id 16391 ∷ pre_data ∷ data_id 16391 ∷ post_data ∷ []
  -- -T s takes no owned sequence away, and -T t leaves it
  pub owned : ids mixed (record all { not_tables = pattern (codes "s"); schema_only = true }) ≡
      schema_id 2200 ∷ schema_id 16384 ∷ type_id 16385 ∷ relation_id 16390 ∷ relation_id 16391 ∷ relation_id 16392 ∷ relation_id 16393
      ∷ pre_data ∷ post_data ∷ relation_id 16394 ∷ []
  pub without_table : ids mixed (record all { not_tables = pattern (codes "t"); schema_only = true }) ≡
      schema_id 2200 ∷ schema_id 16384 ∷ type_id 16385 ∷ relation_id 16391 ∷ relation_id 16392 ∷ relation_id 16393 ∷ pre_data ∷ post_data ∷ []
  -- rows of tables in the schema public are left out, and no value of a sequence
  pub without_rows : ids mixed (record all { not_table_data = pattern (codes "*"); data_only = true }) ≡ pre_data ∷ data_id 16391 ∷ data_id 16393 ∷ post_data ∷ []

abbrev pub fault : List Parts → List Parts → Option SelectFault
fault schemas tables = select_fault mixed (record all { schemas = schemas; tables = tables })

-- with --strict-names
abbrev pub strict_fault : List Parts → List Parts → Option SelectFault
strict_fault schemas tables = select_fault mixed (record all { schemas = schemas; tables = tables; strict = true })

pub record Refused : Type 0 where
  pub nothing_named : fault [] [] ≡ None
  pub schema_hit : fault (pattern (codes "a")) [] ≡ None
  pub no_schema : fault (pattern (codes "none")) [] ≡ Some (NoSchemas 0)
  -- one of two hits
  pub one_of_two : fault (pattern (codes "none") ++ pattern (codes "a")) [] ≡ None
  pub strict : strict_fault (pattern (codes "a") ++ pattern (codes "none")) [] ≡ Some (NoSchemas 1)
  -- the schema part is tried as public
  pub with_a_dot : fault (pattern (codes "a.a")) [] ≡ Some (NoSchemas 0)
  pub table_hit : fault [] (pattern (codes "v")) ≡ None
  pub no_table : fault [] (pattern (codes "none")) ≡ Some (NoTables 0)
  -- an index is none, nor is a table of another schema
  pub index : fault [] (pattern (codes "i")) ≡ Some (NoTables 0)
  pub of_another_schema : fault [] (pattern (codes "u")) ≡ Some (NoTables 0)
  pub schemas_first : fault (pattern (codes "none")) (pattern (codes "none")) ≡ Some (NoSchemas 0)
  -- what is taken away may hit nothing
  pub taken_away : select_fault mixed (record all { not_schemas = pattern (codes "none"); not_tables = pattern (codes "none"); strict = true }) ≡ None
