-- Worked example: the tables public.a and public.b, with a foreign key from a to the primary key of b.
use Rattle.std.specs.Prelude.{◌≡◌, pos, true, [], ◌∷◌, codes}
use Rattle.cat_rows.specs.declared.catalogue.Catalogue.{Catalogue}
use Rattle.cat_rows.specs.declared.constraints.ConstraintRow.{ConstraintRow}
use Rattle.graph_laws.specs.Small.{empty_cluster, relation, column}
use Rattle.obj_graph.specs.Ids.{schema_id, relation_id, constraint_id, data_id, pre_data, post_data}
use Rattle.graph_laws.specs.Shown.{all, ids, arrows, stays}

abbrev pub key_of_b : ConstraintRow
key_of_b = record { oid = 16388; conname = codes "b_pkey"; contype = 112; conrelid = 16386; contypid = 0; conindid = 16387; confrelid = 0; condef = codes "PRIMARY KEY (id)" }

abbrev pub a_to_b : ConstraintRow
a_to_b = record { oid = 16389; conname = codes "a_fk"; contype = 102; conrelid = 16385; contypid = 0; conindid = 0; confrelid = 16386; condef = codes "FOREIGN KEY (b) REFERENCES public.b(id)" }

abbrev pub two_tables : Catalogue
two_tables = record empty_cluster {
  pg_class = relation 16385 (codes "a") 114 ∷ relation 16386 (codes "b") 114 ∷ relation 16387 (codes "b_pkey") 105 ∷ [];
  pg_attribute = column 16385 (pos 1) (codes "b") 0 (codes "integer") ∷ record (column 16386 (pos 1) (codes "id") 0 (codes "integer")) { attnotnull = true } ∷ [];
  pg_constraint = key_of_b ∷ a_to_b ∷ [];
}

-- the foreign key depends on its table, on its parent, and on the key there; the index stands with its constraint
pub record TwoTables : Type 0 where
  pub objects : ids two_tables all ≡
      schema_id 2200 ∷ relation_id 16385 ∷ relation_id 16386 ∷ pre_data ∷ data_id 16385 ∷ data_id 16386 ∷ post_data ∷ constraint_id 16388 ∷ constraint_id 16389 ∷ []
  pub edges : arrows two_tables all ≡
      stays 1 0 ∷ stays 4 1 ∷ stays 2 0 ∷ stays 5 2
      ∷ stays 7 2 ∷ stays 8 1 ∷ stays 8 2 ∷ stays 8 7
      ∷ stays 3 0 ∷ stays 3 1 ∷ stays 3 2 ∷ stays 6 3
      ∷ stays 4 3 ∷ stays 6 4 ∷ stays 5 3 ∷ stays 6 5
      ∷ stays 7 6 ∷ stays 8 6 ∷ []
