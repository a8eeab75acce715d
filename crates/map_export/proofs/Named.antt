-- Rows of what the entries of a catalogue say stand for what it has, where oids tell things apart.
use Rattle.std.proofs.Common.{◌≡◌, List, Option, Some, filter_map, sym, ◌∙◌}
use Rattle.std.specs.FinMap.{get, entries}
use Rattle.cat_model.specs.declared.key.Key.{Key}
use Rattle.cat_model.specs.declared.value.Value.{Value}
use Rattle.cat_model.specs.KeyLaws.{key_cmp_total, key_cmp-IsAntisymmetric}
use Rattle.cat_model.specs.Values.{Named}
use Rattle.cat_names.specs.Naming.{Entry}
use Rattle.cat_sound.proofs.Maps.{entry_of, of_entry}
use Rattle.named_tables.specs.Standing.{AreRowsOf}
use Rattle.map_export.specs.Making.{AreSaid}
use Rattle.map_export.proofs.Entries.{stands, apart_keys}

pub same_thing : {T : Type 0} (t u : T) → Some t ≡ Some u → t ≡ u
same_thing t u e = cc

module _ {T R M : Type 0} (named : Named) (There : T → Type 0) (Says : T → R → Type 0) (key_of : T → Key) (mark : R → M) (mark_of : T → M)
    (marked : (t : T) (row : R) → Says t row → mark row ≡ mark_of t)
    (one_key : (t u : T) → There t → There u → mark_of t ≡ mark_of u → key_of t ≡ key_of u)
    (says : Entry → Option T)
    (found : (t : T) → There t → (v : Value) × (get named (key_of t) ≡ Some v) × (says (key_of t, v) ≡ Some t))
    (is : (e : Entry) (t : T) → get named e.0 ≡ Some e.1 → says e ≡ Some t → There t × (key_of t ≡ e.0)) where
  pub stand_for : (rows : List R) → AreSaid Says (filter_map says (entries named)) rows → AreRowsOf There Says rows
  stand_for rows said =
      stands There Says key_of mark mark_of marked one_key (λ k v. get named k ≡ Some v) (λ k v w a b. same_thing v w (sym a ∙ b)) says found is (entries named) rows
      (apart_keys key_cmp_total named)
      (λ e among. of_entry key_cmp_total key_cmp-IsAntisymmetric named e.0 e.1 among)
      (λ k v at. entry_of key_cmp_total key_cmp-IsAntisymmetric named k v at)
      said
