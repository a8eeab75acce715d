-- Worked examples: two views of each other, and a view whose query needs the primary key of a table.
use Rattle.std.specs.Prelude.{◌≡◌, pos, true, [], ◌∷◌, Some, codes}
use Rattle.cat_rows.specs.declared.catalogue.Catalogue.{Catalogue}
use Rattle.cat_rows.specs.declared.constraints.ConstraintRow.{ConstraintRow}
use Rattle.graph_laws.specs.Small.{empty_cluster, relation, column}
use Rattle.obj_graph.specs.Ids.{schema_id, relation_id, constraint_id, rule_id, data_id, pre_data, post_data}
use Rattle.graph_laws.specs.Shown.{all, ids, arrows, stays}

abbrev pub ring : Catalogue
ring = record empty_cluster {
  pg_class = relation 16384 (codes "v") 118 ∷ relation 16385 (codes "w") 118 ∷ [];
  pg_attribute = column 16384 (pos 1) (codes "a") 0 (codes "integer") ∷ column 16385 (pos 1) (codes "a") 0 (codes "integer") ∷ [];
  pg_rewrite = record { oid = 16386; ev_class = 16384; viewdef = codes " SELECT w.a FROM public.w;" } ∷ record { oid = 16387; ev_class = 16385; viewdef = codes " SELECT v.a FROM public.v;" } ∷ [];
}

-- each needs the other, until its rule does
pub record Ring : Type 0 where
  pub objects : ids ring all ≡ schema_id 2200 ∷ relation_id 16384 ∷ relation_id 16385 ∷ pre_data ∷ post_data ∷ []
  pub edges : arrows ring all ≡
      stays 1 0 ∷ stays 2 0
      ∷ (1, 2, Some (rule_id 16386)) ∷ (2, 1, Some (rule_id 16387))
      ∷ stays 3 0 ∷ stays 3 1 ∷ stays 3 2 ∷ stays 4 3 ∷ []

abbrev pub key_of_t : ConstraintRow
key_of_t = record { oid = 16386; conname = codes "t_pkey"; contype = 112; conrelid = 16384; contypid = 0; conindid = 16385; confrelid = 0; condef = codes "PRIMARY KEY (id)" }

abbrev pub grouped : Catalogue
grouped = record empty_cluster {
  pg_class = relation 16384 (codes "t") 114 ∷ relation 16385 (codes "t_pkey") 105 ∷ relation 16387 (codes "g") 118 ∷ [];
  pg_attribute = record (column 16384 (pos 1) (codes "id") 0 (codes "integer")) { attnotnull = true } ∷ column 16384 (pos 2) (codes "n") 0 (codes "text") ∷ column 16387 (pos 1) (codes "id") 0 (codes "integer") ∷ column 16387 (pos 2) (codes "n") 0 (codes "text") ∷ [];
  pg_constraint = key_of_t ∷ [];
  pg_rewrite = record { oid = 16388; ev_class = 16387; viewdef = codes " SELECT t.id, t.n FROM public.t GROUP BY t.id;" } ∷ [];
  pg_depend = record { classid = 2618; objid = 16388; objsubid = pos 0; refclassid = 2606; refobjid = 16386; refobjsubid = pos 0; deptype = 110 } ∷ [];
}

-- the rule of the view, which is named as what depends on the key, stands for the view
pub record Grouped : Type 0 where
  pub objects : ids grouped all ≡ schema_id 2200 ∷ relation_id 16384 ∷ relation_id 16387 ∷ pre_data ∷ data_id 16384 ∷ post_data ∷ constraint_id 16386 ∷ []
  pub edges : arrows grouped all ≡
      stays 1 0 ∷ stays 4 1 ∷ stays 2 0
      ∷ stays 6 1
      ∷ (2, 1, Some (rule_id 16388)) ∷ (2, 6, Some (rule_id 16388))
      ∷ stays 3 0 ∷ stays 3 1 ∷ stays 3 2 ∷ stays 5 3
      ∷ stays 4 3 ∷ stays 5 4 ∷ stays 6 5 ∷ []
