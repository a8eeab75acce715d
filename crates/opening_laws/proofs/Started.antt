-- What began as an opening has its boot role and its current database.
use Rattle.std.proofs.Common.{◌≡◌, ℕ, false, not, Option, Some, unwrap_or, refl, ap, subst, ◌∙◌}
use Rattle.std.specs.FinMap.{get}
use Rattle.cat_rows.specs.declared.catalogue.Catalogue.{Catalogue}
use Rattle.cat_rows.specs.declared.roles.DatabaseRow.{DatabaseRow}
use Rattle.cat_model.specs.declared.constraint.Encoding.TheVariants as encoding
use Rattle.cat_model.specs.declared.key.Key.{Key}
use Rattle.cat_model.specs.declared.key.Key.TheVariants as key
use Rattle.cat_model.specs.declared.value.Role.{Role}
use Rattle.cat_model.specs.declared.value.Value.{Value}
use Rattle.cat_model.specs.declared.value.Value.TheVariants as value
use Rattle.cat_model.specs.Values.{Bytes, Named}
use Rattle.cat_names.specs.Lookups.{boot_oid, is_role}
use Rattle.sound_loads.specs.Entries.{catalogue_named}
use Rattle.sound_loads.specs.Relations.{RowsByOid}
use Rattle.cat_sound.specs.Asked.{Asked}
use Rattle.cat_sound.specs.Itself.{Itself}
use Rattle.cat_sound.specs.Sound.{is_comment, IsSound}
use Rattle.cat_sound.specs.Texts.{Texts}
use Rattle.cat_sound.proofs.Changes.{value_met}
use Rattle.entry_ids.specs.Ids.{of_keys}
use Rattle.named_tables.specs.Oids.{IsStarted}
use Rattle.opening_ids.specs.Opening.{opening_ids}
use Rattle.opening_ids.proofs.Kept.{roles_keep}
use Rattle.sound_loads.specs.Formed.{IsWellFormed}
use Rattle.sound_rows.specs.Rows.{IsAmong}
use Rattle.sound_rows.proofs.Among.{each_in}
use Rattle.sound_rows.proofs.Roles.{named_role, role_is_named}
use Rattle.sound_loads.proofs.Classes.{not_false}
use Rattle.sound_loads.proofs.Standing.{IsThere, is_met, role_of_oid, database_there}
use Rattle.opening_laws.specs.Growing.{Grows}

role_at : (texts : Texts) (name : Bytes) (v : Value) → Itself texts (key.Role name) v → (r : Role) × (v ≡ value.Role r)
role_at texts name (value.Role r) own = (r, refl)
role_at texts name _ own = elim own [ ]

database_at : (texts : Texts) (name : Bytes) (v : Value) → Itself texts (key.Database name) v → v ≡ value.Database encoding.Utf8
database_at texts name (value.Database encoding.Utf8) own = refl
database_at texts name _ own = elim own [ ]

module _ (texts : Texts) (cat : Catalogue) (rows : RowsByOid) (well : IsWellFormed cat) (named : Named) (sound : IsSound texts named) (grows : Grows (catalogue_named cat rows) named) where
  stays : (k : Key) → is_comment k ≡ false → IsThere cat rows k → (v : Value) × (get named k ≡ Some v) × Itself texts k v
  stays k apart at =
      let found = value_met named (k, Asked.there) (grows.there k apart (is_met cat rows k at)) in
      (found.0, found.1, (sound.each k found.0 found.1).own)

  pub started : (d : DatabaseRow) → IsAmong d cat.pg_database → IsStarted named (of_keys (opening_ids cat)) d.datname
  started d among =
      let role = role_is_named cat.pg_authid boot_oid well.roles.needed in
      let r = named_role cat.pg_authid boot_oid role.0 role.1 in
      let boot = stays (key.Role role.0) refl (role_of_oid cat rows boot_oid role.0 role.1) in
      let value = role_at texts role.0 boot.0 boot.2 in
      let owner = role_is_named cat.pg_authid d.datdba (not_false _ (each_in (λ (e : DatabaseRow). not (is_role cat.pg_authid e.datdba) ≡ false) cat.pg_database well.databases.there d among)) in
      let database = stays (key.Database d.datname) refl (database_there cat rows d among owner.0 owner.1) in
      record {
        boot = role.0;
        role = value.0;
        boot_there = boot.1 ∙ ap Some value.1;
        boot_oid = subst (λ (n : Bytes). of_keys (opening_ids cat) (key.Role n) ≡ boot_oid) r.2 (ap (λ (o : Option ℕ). unwrap_or o 0) (roles_keep cat r.1.0 r.0 well.roles r.1.1) ∙ r.3);
        current_there = database.1 ∙ ap Some (database_at texts d.datname database.0 database.2);
      }
