-- Statements that can be written are fit, and so are those that are read.
use Rattle.std.proofs.Common.{◌≡◌, Bool, true, false, ◌&&◌, List, [], ◌∷◌, Option, Some, None, refl, sym, ap, ◌∙◌}
use Rattle.std.proofs.lemmas.Bool.{and_from}
use Rattle.std.specs.List.{AllByRecursion}
use Rattle.copy_text.specs.Texts.{IsName, is_name}
use Rattle.copy_text.proofs.TextLemmas.{test_from_name}
use Rattle.cat_model.specs.declared.grant.Granted.{Granted}
use Rattle.cat_model.specs.declared.object.QName.{QName}
use Rattle.cat_model.specs.declared.grant.Granted.TheVariants as on
use Rattle.cat_model.specs.declared.grant.Rights.{Rights}
use Rattle.cat_model.specs.declared.stmt.Stmt.{Stmt}
use Rattle.cat_model.specs.declared.stmt.Stmt.TheVariants as stmt
use Rattle.cat_model.specs.declared.table.ColumnDef.{ColumnDef}
use Rattle.cat_model.specs.declared.table.CheckDef.{CheckDef}
use Rattle.cat_model.specs.Values.{Bytes}
use Rattle.ddl_laws.specs.Expressions.{nested}
use Rattle.ddl_laws.specs.Laws.{Lawful}
use Rattle.ddl_laws.specs.Parts.{Part}
use Rattle.ddl_laws.specs.Texts.{IsPath, IsBracketText}
use Rattle.ddl_laws.proofs.LeafLaws.{deferral_laws, reactions_laws}
use Rattle.ddl_laws.specs.RightsGrammar.{within, kind_rights}
use Rattle.ddl_laws.specs.Writable.{kind_of}
use Rattle.ddl_laws.specs.Respelling.{AreColumns, IsRest, IsWritable, AllWritable, IsDefault as IsGivenDefault, IsCheck, IsColumn}
use Rattle.ddl_laws.proofs.Spelled.{by_syntax}
use Rattle.cat_sound.specs.Fit.{IsFit, AreFitColumns, AreFitChecks}
use Rattle.cat_sound.specs.Itself.{IsDefault}
use Rattle.cat_sound.specs.Rights.{implies, is_within, rights_on}
use Rattle.sound_texts.specs.Grammar.{grammar}
use Rattle.sound_texts.specs.Tests.{is_path, is_bracketed, are_columns, is_rest}
use Rattle.sound_texts.proofs.Tested.{run_to, bracket_to, path_to, type_to, columns_to, rest_to}

-- ---- rights

-- the nine rights one by one, by either definition
last : (c : Bool) → (c && true) ≡ c
last true = refl
last false = refl

nine_of : (s u i r d t n p c : Bool) → (s && (u && (i && (r && (d && (t && (n && (p && (c && true))))))))) ≡ true → (s && (u && (i && (r && (d && (t && (n && (p && c)))))))) ≡ true
nine_of s u i r d t n p c e = ap (λ x. s && (u && (i && (r && (d && (t && (n && (p && x)))))))) (sym (last c)) ∙ e

nine : (a b : Rights) → within a b ≡ true → is_within a b ≡ true
nine a b e =
    nine_of (implies a.select b.select) (implies a.usage b.usage) (implies a.insert b.insert) (implies a.references b.references) (implies a.delete b.delete)
    (implies a.trigger b.trigger) (implies a.truncate b.truncate) (implies a.update b.update) (implies a.create b.create) e

rights : (what : Granted) (r : Rights) → within r (kind_rights (kind_of what)) ≡ true → is_within r (rights_on what) ≡ true
rights (on.Table q) r e = nine r _ e
rights (on.Sequence q) r e = nine r _ e
rights (on.Schema name) r e = nine r _ e
rights (on.Type q) r e = nine r _ e

-- ---- columns, defaults and checks

default_fit : (o : Option Bytes) → IsGivenDefault o → IsDefault grammar o
default_fit None is = tt
default_fit (Some v) is = run_to (nested true false) v is

columns_fit : (cs : List ColumnDef) → AllByRecursion IsColumn cs → AreFitColumns grammar cs
columns_fit [] is = tt
columns_fit (c ∷ cs) is = (record { named = type_to c.type_name is.0.1; expression = default_fit c.default is.0.2 }, columns_fit cs is.1)

checks_fit : (cs : List CheckDef) → AllByRecursion IsCheck cs → AreFitChecks grammar cs
checks_fit [] is = tt
checks_fit (c ∷ cs) is = (run_to (nested false false) c.text is.0.1, checks_fit cs is.1)

-- ---- statements

key_fit : {p : Part (Unit {0})} → Lawful p → (columns : List Bytes) (rest : Bytes) → AreColumns columns × IsRest p rest → (are_columns columns && is_rest p rest) ≡ true
key_fit laws columns rest is = and_from _ _ (columns_to columns is.0) (rest_to laws rest is.1)

index_fit : (q : QName) (name method rest : Bytes) → IsName name × (IsPath q × (IsName method × IsBracketText rest)) → (is_path q && (is_name name && (is_name method && is_bracketed rest))) ≡ true
index_fit q name method rest is = and_from _ _ (path_to q is.1.0) (and_from _ _ (test_from_name name is.0) (and_from _ _ (test_from_name method is.1.1.0) (bracket_to rest is.1.1.1)))

pub writable_fit : (s : Stmt) → IsWritable s → IsFit grammar s
unfolding by_syntax
writable_fit (stmt.CreateDomain q base not_null default checks) is = (type_to base is.0.1.0.0, default_fit default is.0.1.0.1, checks_fit checks is.0.1.1)
writable_fit (stmt.AddDomainCheck q name text) is = run_to (nested false false) text is.0.1.0.1
writable_fit (stmt.CreateTable q columns checks) is = (columns_fit columns is.0.1.0, checks_fit checks is.0.1.1)
writable_fit (stmt.CreateView q body) is = run_to (nested false false) body is.0.1
writable_fit (stmt.ReplaceView q body) is = run_to (nested false false) body is.0.1
writable_fit (stmt.SetDefault q column text) is = run_to (nested true false) text is.0.1.0.1
writable_fit (stmt.AddPrimary q name columns rest) is = key_fit deferral_laws columns rest is.0.1.0.1.0
writable_fit (stmt.AddUnique q name columns rest) is = key_fit deferral_laws columns rest is.0.1.0.1.0
writable_fit (stmt.AddForeign q name columns parent parents rest) is =
    let c = is.0.1.0.1.0 in
    and_from _ _ (columns_to columns c.0) (and_from _ _ (and_from _ _ (path_to parent c.1.0) (columns_to parents c.1.1.0)) (rest_to reactions_laws rest c.1.1.1))
writable_fit (stmt.AddCheck q name text) is = run_to (nested false false) text is.0.1.0.1.0
writable_fit (stmt.CreateIndex q name method rest) is = index_fit q name method rest is.0.0
writable_fit (stmt.CreateUniqueIndex q name method rest) is = index_fit q name method rest is.0.0
writable_fit (stmt.Grant what r who option) is = rights what r is.1.1
writable_fit _ is = tt

pub all_fit : (ss : List Stmt) → AllWritable ss → AllByRecursion (IsFit grammar) ss
all_fit [] all = tt
all_fit (s ∷ ss) all = (writable_fit s all.0, all_fit ss all.1)
