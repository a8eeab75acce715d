-- What is left of a well-formed opening can be exported: tables that are made of it are well-formed.
use Rattle.std.proofs.Common.{◌≡◌, ℕ, ℤ, Option, Some, None, unwrap_or, refl, sym, ap, subst, ◌∙◌, arith}
use Rattle.std.specs.FinMap.{get}
use Rattle.cat_rows.specs.declared.catalogue.Catalogue.{Catalogue}
use Rattle.cat_model.specs.declared.object.QName.{QName}
use Rattle.cat_model.specs.declared.key.Key.{Key}
use Rattle.cat_model.specs.declared.key.Key.TheVariants as key
use Rattle.cat_model.specs.Values.{Bytes, Named}
use Rattle.cat_names.specs.DataSets.{TextsByOid}
use Rattle.cat_names.specs.Lookups.{boot_oid}
use Rattle.opening_laws.specs.Entries.{catalogue_named}
use Rattle.opening_laws.specs.Texts.{rows_by_oid}
use Rattle.opening_laws.specs.Ids.{of_keys, oids_of}
use Rattle.cat_sound.specs.Sound.{IsSound}
use Rattle.named_objects.specs.Views.{AreKept}
use Rattle.named_objects.proofs.Formed.{all_formed}
use Rattle.named_objects.proofs.Whole.{whole_named}
use Rattle.named_tables.specs.Oids.{IsStarted}
use Rattle.object_ids.specs.Ids.{IdsOf, KeepIds}
use Rattle.object_ids.specs.Slots.{object}
use Rattle.opening_ids.specs.Opening.{opening_ids}
use Rattle.opening_laws.proofs.Keeping.{are_kept}
use Rattle.opening_laws.proofs.Started.{started}
use Rattle.opening_laws.specs.Grammar.{grammar}
use Rattle.table_rows.specs.Values.{values_fault}
use Rattle.named_objects.specs.Formed.{IsWellFormed}
use Rattle.opening_sound.specs.Left.{IsLeft}
use Rattle.opening_sound.specs.Export.{IsExport, CanBeExported}
use Rattle.opening_sound.proofs.Holding.{AreReadAgain, hold_rows}

-- an oid other than 0 stays
kept_oid : (old new : IdsOf) → KeepIds old new → (k : Key) → of_keys old k ≡ boot_oid → of_keys new k ≡ boot_oid
kept_oid old new keeps k is = by (get old.ids (object k)) refl
  where
    not_boot : ◌≡◌ {A = ℕ} 0 boot_oid → ⊥
    not_boot same = omega arith

    by : (o : Option ℕ) → get old.ids (object k) ≡ o → of_keys new k ≡ boot_oid
    by (Some n) at = ap (λ (o : Option ℕ). unwrap_or o 0) (keeps (object k) n at ∙ sym at) ∙ is
    by None at = absurd (not_boot (sym (ap (λ (o : Option ℕ). unwrap_or o 0) at) ∙ is))

-- ---- what is left of an opening

module _ (opening : Catalogue) (texts : TextsByOid) (role : Bytes) (named : Named) (well : IsWellFormed opening) (is : IsLeft opening texts role named) where
  left_kept : (ids : IdsOf) (number : QName → Bytes → ℤ) (current : Bytes) (cat : Catalogue) (made : TextsByOid) → IsExport opening named ids number current cat made → AreKept cat
  left_kept ids number current cat made of =
      are_kept grammar opening (rows_by_oid texts) well named is.sound is.grown ids of.oids of.began cat
      (record { roles = of.stand.cluster.roles; schemas = of.stand.cluster.schemas; relations = of.stand.relations; types = of.stand.types })
      of.keep

  pub left_exported : CanBeExported opening named
  left_exported = record {
    formed = well;
    sound = is.sound;
    started = λ d among. started grammar opening (rows_by_oid texts) well named is.sound is.grown d among;
    kept = left_kept;
  }

-- ---- what is made of it

module _ (opening : Catalogue) (named : Named) (can : CanBeExported opening named) (ids : IdsOf) (number : QName → Bytes → ℤ) (current : Bytes) (cat : Catalogue) (texts : TextsByOid) (of : IsExport opening named ids number current cat texts) where
  pub made_named : catalogue_named cat (rows_by_oid texts) ≡ named
  made_named = whole_named grammar named can.sound (oids_of ids number) of.oids of.numbers of.checks current opening.pg_depend cat (rows_by_oid texts) of.stand

  pub still_started : IsStarted named (of_keys (opening_ids opening)) current → IsStarted named (of_keys ids) current
  still_started was = record {
    boot = was.boot;
    role = was.role;
    boot_there = was.boot_there;
    boot_oid = kept_oid (opening_ids opening) ids of.began.keep (key.Role was.boot) was.boot_oid;
    current_there = was.current_there;
  }

  pub made_formed : IsStarted named (of_keys (opening_ids opening)) current → IsWellFormed cat
  made_formed was =
      all_formed grammar named (oids_of ids number) current opening.pg_depend cat (rows_by_oid texts) can.sound of.oids (still_started was) of.numbers of.checks of.labels (can.kept ids number current cat texts of) of.stand

  pub made_held : IsStarted named (of_keys (opening_ids opening)) current → AreReadAgain → values_fault cat texts ≡ None
  made_held was again = hold_rows grammar cat (made_formed was) texts (subst (IsSound grammar) (sym made_named) can.sound) of.spelled again
