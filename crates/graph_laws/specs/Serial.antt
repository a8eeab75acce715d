-- Worked example: the table public.t, whose column takes its values from the sequence public.t_id_seq, which it owns.
use Rattle.std.specs.Prelude.{◌≡◌, pos, true, [], ◌∷◌, Some, codes}
use Rattle.cat_rows.specs.declared.catalogue.Catalogue.{Catalogue}
use Rattle.graph_laws.specs.Small.{empty_cluster, relation, column, default, owned}
use Rattle.obj_graph.specs.Ids.{schema_id, relation_id, default_id, data_id, pre_data, post_data}
use Rattle.graph_laws.specs.Shown.{all, ids, arrows, stays}

abbrev pub serial : Catalogue
serial = record empty_cluster {
  pg_class = relation 16384 (codes "t_id_seq") 83 ∷ relation 16385 (codes "t") 114 ∷ [];
  pg_attribute = record (column 16385 (pos 1) (codes "id") 0 (codes "integer")) { attnotnull = true } ∷ [];
  pg_attrdef = default 16386 16385 (pos 1) (codes "nextval('public.t_id_seq'::regclass)") ∷ [];
  pg_sequence = owned 16384 16385 ∷ [];
}

-- the table depends on the sequence by its default alone, and the sequence on the table that owns it
pub record Serial : Type 0 where
  pub objects : ids serial all ≡
      schema_id 2200 ∷ relation_id 16384 ∷ relation_id 16385 ∷ pre_data ∷ data_id 16384 ∷ data_id 16385 ∷ post_data ∷ []
  pub edges : arrows serial all ≡
      stays 1 0 ∷ stays 4 1 ∷ stays 2 0 ∷ stays 5 2
      ∷ (2, 1, Some (default_id 16386)) ∷ stays 1 2
      ∷ stays 3 0 ∷ stays 3 1 ∷ stays 3 2 ∷ stays 6 3
      ∷ stays 4 3 ∷ stays 6 4 ∷ stays 5 3 ∷ stays 6 5 ∷ []
