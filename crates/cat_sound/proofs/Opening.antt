-- The export of an empty cluster is in order, and where all texts are good so is what a run of statements makes of it.
use Rattle.std.proofs.Common.{◌≡◌, true, List, [], ◌∷◌, Option, Some, None, refl, ap, sym, subst, ◌∙◌, codes}
use Rattle.std.specs.Cmp.{first_so, second_so}
use Rattle.std.specs.FinMap.{get, find, get-from_sorted}
use Rattle.std.specs.List.{AllByRecursion, list_all}
use Rattle.cat_model.specs.declared.key.Key.{Key}
use Rattle.cat_model.specs.declared.key.Key.TheVariants as key
use Rattle.cat_model.specs.declared.object.Object.TheVariants as object
use Rattle.cat_model.specs.declared.stmt.Stmt.{Stmt}
use Rattle.cat_model.specs.declared.stmt.Stmt.TheVariants as stmt
use Rattle.cat_model.specs.declared.table.ColumnDef.{ColumnDef}
use Rattle.cat_model.specs.declared.table.CheckDef.{CheckDef}
use Rattle.cat_model.specs.declared.value.Value.TheVariants as value
use Rattle.cat_model.specs.declared.value.Value.{Value}
use Rattle.cat_model.specs.Values.{Bytes}
use Rattle.cat_model.specs.Grants.{owner_only, schema_rights}
use Rattle.cat_model.specs.Keys.{key_cmp}
use Rattle.cat_model.specs.KeyLaws.{key_cmp_total, key_cmp-IsAntisymmetric}
use Rattle.model_laws.specs.Examples.{postgres}
use Rattle.model_laws.specs.Runs.{empty_entries, empty_cluster}
use Rattle.cat_sound.specs.Texts.{Texts}
use Rattle.cat_sound.specs.Asked.{Asked, Meets, Passes}
use Rattle.cat_sound.specs.Asks.{Ask}
use Rattle.cat_sound.specs.Itself.{IsDefault}
use Rattle.cat_sound.specs.Beside.{is_primary_at}
use Rattle.cat_sound.specs.Fit.{IsFit, AreFitColumns, AreFitChecks}
use Rattle.cat_sound.specs.Sound.{IsMet, IsSoundAt, IsSound}
use Rattle.cat_sound.specs.Examples.{all_good, grants_fit, all_grants_fit}
use Rattle.cat_sound.proofs.Lists.{of_member}
use Rattle.cat_sound.proofs.Maps.{find-in}
use Rattle.cat_sound.proofs.NewGrants.{owner_first, holders_met}

found : (k : Key) → get empty_cluster k ≡ find key_cmp k empty_entries
found k = get-from_sorted key_cmp empty_entries k tt

met : (ask : Ask) (v : Value) → find key_cmp ask.0 empty_entries ≡ Some v → Meets ask.1 v → IsMet empty_cluster ask
met ask v is fits = subst (λ (o : Option Value). Passes o ask.1) (sym (found ask.0 ∙ is)) fits

pub boot_is_there : IsMet empty_cluster (key.Role postgres, Asked.there)
boot_is_there = met (key.Role postgres, Asked.there) _ refl tt

module _ (texts : Texts) where
  entries_sound : AllByRecursion (λ (e : Key × Value). IsSoundAt texts empty_cluster e.0 e.1) empty_entries
  entries_sound = (
    record { own = refl; others = tt },
    (
      record { own = refl; others = (met (key.Owner (object.Schema (codes "public")), Asked.there) _ refl tt, (met (key.Acl (object.Schema (codes "public")), Asked.there) _ refl tt, tt)) },
      (
        record { own = refl; others = (boot_is_there, (met (key.Schema (codes "public"), Asked.ownable) _ refl refl, tt)) },
        (
          record { own = refl; others = (boot_is_there, (met (key.Database postgres, Asked.ownable) _ refl refl, tt)) },
          (
            record {
              own = (refl, (owner_first schema_rights refl refl).items);
              others = (
                met (key.Schema (codes "public"), Asked.takes (owner_only schema_rights)) value.Schema refl (owner_first schema_rights refl refl).within,
                (
                  met (key.Owner (object.Schema (codes "public")), Asked.there) _ refl tt,
                  holders_met empty_cluster (object.Schema (codes "public")) (owner_only schema_rights) (λ name item is. let none = (owner_first schema_rights refl refl).none name in cc),
                ),
              );
            },
            (record { own = tt; others = (met (key.Owner (object.Database postgres), Asked.there) _ refl tt, tt) }, tt),
          ),
        ),
      ),
    ),
  )

  pub opening_sound : IsSound texts empty_cluster
  opening_sound = record {
    each = λ k v is. of_member (λ (e : Key × Value). IsSoundAt texts empty_cluster e.0 e.1) empty_entries entries_sound (k, v) (find-in key_cmp_total key_cmp-IsAntisymmetric empty_entries k v (sym (found k) ∙ is));
    beside = record {
      chains = λ q d is. let none = found (key.UserType q) in cc;
      primaries = λ q name other one two. let none = ap is_primary_at (found (key.Con q name)) in cc;
      indexes = λ q table is. let none = found (key.Rel q) in cc;
      parents = λ q name c parent names is has. let none = found (key.Con q name) in cc;
    };
  }

-- ---- where all texts are good

fit_default : (text : Option Bytes) → IsDefault all_good text
fit_default None = tt
fit_default (Some text) = refl

fit_columns : (cs : List ColumnDef) → AreFitColumns all_good cs
fit_columns [] = tt
fit_columns (c ∷ cs) = (record { named = refl; expression = fit_default c.default }, fit_columns cs)

fit_checks : (cs : List CheckDef) → AreFitChecks all_good cs
fit_checks [] = tt
fit_checks (c ∷ cs) = (refl, fit_checks cs)

fit_good : (s : Stmt) → grants_fit s ≡ true → IsFit all_good s
fit_good (stmt.Grant what rights who option) e = e
fit_good (stmt.CreateDomain q base not_null default checks) e = (refl, fit_default default, fit_checks checks)
fit_good (stmt.CreateTable q columns checks) e = (fit_columns columns, fit_checks checks)
fit_good (stmt.AddDomainCheck q name text) e = refl
fit_good (stmt.CreateView q body) e = refl
fit_good (stmt.ReplaceView q body) e = refl
fit_good (stmt.SetDefault q column text) e = refl
fit_good (stmt.AddPrimary q name columns rest) e = refl
fit_good (stmt.AddUnique q name columns rest) e = refl
fit_good (stmt.AddForeign q name columns parent parent_columns rest) e = refl
fit_good (stmt.AddCheck q name text) e = refl
fit_good (stmt.CreateIndex q name method rest) e = refl
fit_good (stmt.CreateUniqueIndex q name method rest) e = refl
fit_good _ e = tt

pub all_fit : (ss : List Stmt) → all_grants_fit ss ≡ true → AllByRecursion (IsFit all_good) ss
all_fit [] e = tt
all_fit (s ∷ ss) e = (fit_good s (first_so (grants_fit s) (list_all grants_fit ss) e), all_fit ss (second_so (grants_fit s) (list_all grants_fit ss) e))
