-- The table of an index by rows: that of its row of pg_index, or of its key.
use Rattle.std.proofs.Common.{◌≡◌, ℕ, ◌==◌, ◌||◌, ◌&&◌, Bool, true, false, true≢false, not, Option, Some, None, option_map, refl, ap, sym, ◌∙◌}
use Rattle.std.specs.Cmp.{first_so, second_so}
use Rattle.std.specs.FinMap.{get, nat_cmp-IsAntisymmetric}
use Rattle.std.specs.Option.{option_or}
use Rattle.cat_rows.specs.declared.catalogue.Catalogue.{Catalogue}
use Rattle.cat_rows.specs.declared.relations.IndexRow.{IndexRow}
use Rattle.cat_rows.specs.declared.constraints.ConstraintRow.{ConstraintRow}
use Rattle.cat_model.specs.declared.object.QName.{QName}
use Rattle.cat_model.specs.declared.key.Key.TheVariants as key
use Rattle.cat_model.specs.declared.value.Value.{Value}
use Rattle.cat_model.specs.declared.value.Value.TheVariants as value
use Rattle.cat_model.specs.declared.value.Constraint.{Constraint}
use Rattle.cat_model.specs.declared.value.Index.{Index}
use Rattle.cat_model.specs.KeyEffects.{index_path}
use Rattle.cat_model.specs.Trees.{is_unique}
use Rattle.cat_model.specs.Values.{Bytes, Named}
use Rattle.cat_names.specs.Lookups.{same_oid}
use Rattle.cat_book.specs.Leads.{is_key}
use Rattle.cat_naming.specs.Found.{table_of_key, table_of_index}
use Rattle.cat_sound.specs.Beside.{is_key_at, is_index_at}
use Rattle.cat_sound.specs.Texts.{Texts}
use Rattle.cat_sound.specs.Sound.{IsSound}
use Rattle.cat_sound.proofs.Lists.{IsIn}
use Rattle.named_tables.specs.Oids.{AreOids}
use Rattle.named_tables.specs.Standing.{AreRowsOf}
use Rattle.named_tables.proofs.Ties.{tie}
use Rattle.named_tables.proofs.Rows.{in_place}
use Rattle.named_objects.specs.Oids.{ObjectOids}
use Rattle.named_objects.specs.Relations.{NamedIndex, IsIndex, IsIndexRow}
use Rattle.named_objects.specs.Constraints.{NamedConstraint, Constrained, of_table, of_domain, IsConstrained, IsConstrainedRow}
use Rattle.named_objects.proofs.Constraints.{none_found, same_constraint}
use Rattle.named_objects.proofs.Found.{find_row}
use Rattle.named_objects.proofs.KeyIndexes.{keyed_so, index_so, index_at, key_index}
use Rattle.named_objects.proofs.Lookups.{AreLedTo, has_tie}
use Rattle.named_objects.proofs.RelationRows.{keyed_letter}

rel_path : (p q : QName) → key.Rel p ≡ key.Rel q → p ≡ q
rel_path p q e = cc

module _ (texts : Texts) (named : Named) (sound : IsSound texts named) (oids : ObjectOids) (own : AreOids named oids.of) (cat : Catalogue) (led : AreLedTo named oids.of cat) (constraints : AreRowsOf (IsConstrained named) (IsConstrainedRow oids) cat.pg_constraint) (indexes : AreRowsOf (IsIndex named) (IsIndexRow oids.of) cat.pg_index) (q table : QName) (is : get named (key.Rel q) ≡ Some (value.IndexOf table)) where
  path : index_path table q.name ≡ q
  path = λ i. record { schema = sym (sound.each (key.Rel q) (value.IndexOf table) is).own i; name = q.name }

  relation : (t : NamedIndex) → IsIndex named t → get named (key.Rel (index_path t.table t.name)) ≡ Some (value.IndexOf t.table)
  relation t is_t = index_at texts named sound (index_path t.table t.name) t.table (sound.each (key.Index t.table t.name) (value.Index t.index) is_t).others.1.0

  -- an index whose relation has this oid is the one of this table and name
  record ItsPath (p : QName) (n : Bytes) : Type 0 where
    tables : p ≡ table
    names : n ≡ q.name

  its_path : (p : QName) (n : Bytes) → get named (key.Rel (index_path p n)) ≡ Some (value.IndexOf p) → oids.of (key.Rel q) ≡ oids.of (key.Rel (index_path p n)) → ItsPath p n
  its_path p n there equal =
      let paths : index_path p n ≡ q = rel_path (index_path p n) q (own.apart (key.Rel (index_path p n)) (key.Rel q) (value.IndexOf p) (value.IndexOf table) there is refl refl refl (sym equal)) in
      let values : Some (value.IndexOf p) ≡ Some (value.IndexOf table) = sym there ∙ ap (λ (x : QName). get named (key.Rel x)) paths ∙ is in
      let tables : p ≡ table = cc in
      record { tables = tables; names = ap (λ (x : QName). x.name) paths }

  same_index : (t s : NamedIndex) → IsIndex named t → IsIndex named s → t.table ≡ s.table → t.name ≡ s.name → t ≡ s
  same_index t s is_t is_s tables names =
      let values : Some (value.Index t.index) ≡ Some (value.Index s.index) = sym is_t ∙ (λ i. get named (key.Index (tables i) (names i))) ∙ is_s in
      let same : t.index ≡ s.index = cc in
      λ i. record { table = tables i; name = names i; index = same i }

  of_index : (i : Index) → get named (key.Index table q.name) ≡ Some (value.Index i) → table_of_index cat (oids.of (key.Rel q)) ≡ Some (oids.of (key.Rel table))
  of_index i there =
      let thing : NamedIndex = record { table = table; name = q.name; index = i } in
      let at = indexes.each thing there in
      let oid : oids.of (key.Rel q) ≡ at.0.indexrelid = ap (λ (p : QName). oids.of (key.Rel p)) (sym path) ∙ sym at.2.relation in
      let found = find_row (IsIndex named) (IsIndexRow oids.of) cat.pg_index indexes (λ (r : IndexRow). same_oid (oids.of (key.Rel q)) r.indexrelid) thing at.0 at.1 at.2 (has_tie (oids.of (key.Rel q)) at.0.indexrelid oid)
      (λ s r is_s says ties. only s r is_s says ties) in
      ap (λ (o : Option IndexRow). option_or (option_map (λ (r : IndexRow). r.indrelid) o) (table_of_key cat (oids.of (key.Rel q)))) found ∙ ap Some at.2.table
    where
      only : (s : NamedIndex) (r : IndexRow) → IsIndex named s → IsIndexRow oids.of s r → same_oid (oids.of (key.Rel q)) r.indexrelid ≡ true → s ≡ record { table = table; name = q.name; index = i }
      only s r is_s says ties =
          let p = its_path s.table s.name (relation s is_s) (tie nat_cmp-IsAntisymmetric (oids.of (key.Rel q)) r.indexrelid ties ∙ says.relation) in
          same_index s (record { table = table; name = q.name; index = i }) is_s there p.tables p.names

  abbrev key_test : ConstraintRow → Bool
  key_test c = is_key c && same_oid (oids.of (key.Rel q)) c.conindid

  of_key : (c : Constraint) → get named (key.Con table q.name) ≡ Some (value.Constraint c) → is_unique c.kind ≡ true → get named (key.Index table q.name) ≡ None → table_of_index cat (oids.of (key.Rel q)) ≡ Some (oids.of (key.Rel table))
  of_key c there keyed no_index =
      let thing : NamedConstraint = record { table = table; name = q.name; constraint = c } in
      let at = constraints.each (of_table thing) there in
      let of_kind : is_key at.0 ≡ true = ap (λ (n : ℕ). n == 112 || n == 117) at.2.letter ∙ keyed_letter c.kind keyed in
      let index : oids.of (key.Rel q) ≡ at.0.conindid = sym (at.2.index ∙ index_so thing oids.of c.kind keyed ∙ ap (λ (p : QName). oids.of (key.Rel p)) path) in
      let found = find_row (IsConstrained named) (IsConstrainedRow oids) cat.pg_constraint constraints key_test (of_table thing) at.0 at.1 at.2 (rw (of_kind, has_tie (oids.of (key.Rel q)) at.0.conindid index) refl) only in
      ap (λ (o : Option IndexRow). option_or (option_map (λ (r : IndexRow). r.indrelid) o) (table_of_key cat (oids.of (key.Rel q)))) (none_found (λ (r : IndexRow). same_oid (oids.of (key.Rel q)) r.indexrelid) cat.pg_index (λ r among. none r among (same_oid (oids.of (key.Rel q)) r.indexrelid) refl))
      ∙ ap (option_map (λ (r : ConstraintRow). r.conrelid)) found
      ∙ ap Some at.2.table
    where
      none : (r : IndexRow) → IsIn r cat.pg_index → (b : Bool) → same_oid (oids.of (key.Rel q)) r.indexrelid ≡ b → b ≡ false
      none r among false e = refl
      none r among true e =
          let one = indexes.only r (in_place cat.pg_index r among) in
          let p = its_path one.0.table one.0.name (relation one.0 one.1) (tie nat_cmp-IsAntisymmetric (oids.of (key.Rel q)) r.indexrelid e ∙ one.2.relation) in
          let both : None ≡ Some (value.Index one.0.index) = sym no_index ∙ (λ k. get named (key.Index (sym p.tables k) (sym p.names k))) ∙ one.1 in
          cc

      only : (s : Constrained) (r : ConstraintRow) → IsConstrained named s → IsConstrainedRow oids s r → key_test r ≡ true → s ≡ of_table (record { table = table; name = q.name; constraint = c })
      only (of_table s) r is_s says passes =
          let letter = first_so (is_key r) (same_oid (oids.of (key.Rel q)) r.conindid) passes in
          let ties = second_so (is_key r) (same_oid (oids.of (key.Rel q)) r.conindid) passes in
          let unique : is_unique s.constraint.kind ≡ true = keyed_so s.constraint.kind (ap (λ (n : ℕ). n == 112 || n == 117) (sym says.letter) ∙ letter) in
          let there_s = index_at texts named sound (index_path s.table s.name) s.table (key_index texts named sound s.table s.name s.constraint is_s unique) in
          let p = its_path s.table s.name there_s (tie nat_cmp-IsAntisymmetric (oids.of (key.Rel q)) r.conindid ties ∙ says.index ∙ index_so s oids.of s.constraint.kind unique) in
          ap of_table (same_constraint texts named sound oids own cat led constraints s (record { table = table; name = q.name; constraint = c }) is_s there (λ k. key.Con (p.tables k) (p.names k)))
      only (of_domain s) r is_s says passes =
          let letter = first_so (is_key r) (same_oid (oids.of (key.Rel q)) r.conindid) passes in
          absurd (true≢false (sym letter ∙ ap (λ (n : ℕ). n == 112 || n == 117) says.letter))

  pub table_of_index_found : table_of_index cat (oids.of (key.Rel q)) ≡ Some (oids.of (key.Rel table))
  table_of_index_found = by (get named (key.Con table q.name)) refl (get named (key.Index table q.name)) refl (sound.beside.indexes q table is)
    where
      by : (o : Option Value) → get named (key.Con table q.name) ≡ o → (p : Option Value) → get named (key.Index table q.name) ≡ p → is_key_at o ≡ not (is_index_at p) → table_of_index cat (oids.of (key.Rel q)) ≡ Some (oids.of (key.Rel table))
      by o at (Some (value.Index i)) there same = of_index i there
      by (Some (value.Constraint c)) at None there same = of_key c at same there
      by (Some v) at None there same = elim (sound.each (key.Con table q.name) v at).own [ ]
      by None at None there same = cc
      by o at (Some v) there same = elim (sound.each (key.Index table q.name) v there).own [ ]
