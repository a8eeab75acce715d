-- What a run leaves computes over the entries of the empty cluster as a list, but for grants and checks (`Maps`).
use Rattle.std.proofs.Common.{◌≡◌, ℕ, zero, suc, not, List, [], ◌∷◌, Option, Some, ap, ◌∙◌}
use Rattle.std.specs.Option.{is_some}
use Rattle.std.specs.Cmp.Lexicographic.{nat_list_cmp_total}
use Rattle.std.specs.FinMap.{get, find, insert, entries, from_entries, entries-from_sorted, get-from_entries}
use Rattle.cat_model.specs.declared.object.QName.{QName}
use Rattle.cat_model.specs.declared.key.Key.TheVariants as key
use Rattle.cat_model.specs.declared.cause.Cause.TheVariants as cause
use Rattle.cat_model.specs.declared.stmt.Stmt.{Stmt}
use Rattle.cat_model.specs.declared.stmt.Stmt.TheVariants as stmt
use Rattle.cat_model.specs.declared.value.Domain.{Domain}
use Rattle.cat_model.specs.declared.value.Value.{Value}
use Rattle.cat_model.specs.declared.value.Value.TheVariants as value
use Rattle.cat_model.specs.Holders.{bytes_cmp}
use Rattle.cat_model.specs.Keys.{key_cmp}
use Rattle.cat_model.specs.Values.{Bytes}
use Rattle.cat_model.specs.References.{expression_references}
use Rattle.cat_model.specs.Conditions.{needs_each, check, if_domain}
use Rattle.cat_model.specs.Trees.{Tree, sets, outcome}
use Rattle.model_laws.specs.Examples.{postgres, causes, catalogue_after}
use Rattle.model_laws.specs.Runs.{empty_entries, empty_cluster}
use Rattle.model_laws.proofs.Listed.{causes_in, causes-in, entries_after, catalogue-in, after_in, next_in, seen_in}
use Rattle.value_runs.specs.Written.{Entries}
use Rattle.value_runs.proofs.Maps.{Made, Checks, filled, settled, filled-settled}

-- what a run comes to, over the list
abbrev pub after : List Stmt → Entries
after run = entries_after postgres run empty_entries

-- a run leaves these values where it makes their maps, and these are the maps' entries
pub leaves : (run : List Stmt) (ms : List Made) (cs : List Checks) (es : Entries) → after run ≡ filled ms cs es → settled ms cs es ≡ es → entries (catalogue_after postgres run empty_cluster) ≡ es
leaves run ms cs es makes are =
    catalogue-in postgres run empty_cluster
    ∙ ap (entries_after postgres run) (entries-from_sorted key_cmp empty_entries tt)
    ∙ makes
    ∙ filled-settled ms cs es
    ∙ are

-- ---- a check more of a domain: whether its name is new is asked of a map

-- the rest of the statement where that is known
abbrev pub asked : Domain → QName → Bytes → Bytes → Option Bytes → Tree
asked d q name text there =
    check (not (is_some there)) (cause.Exists (key.UserType q))
    (needs_each (expression_references text)
    (sets ((key.UserType q, Some (value.Domain (record d { checks = insert d.checks name text }))) ∷ [])))

-- the domain as it is with these checks
abbrev pub with_checks : Domain → Checks → Domain
with_checks d checks = record d { checks = from_entries checks }

pub asked-in : (q : QName) (name text : Bytes) (more : List Stmt) (d : Domain) (checks : Checks) (es : Entries) → find key_cmp (key.UserType q) es ≡ Some (value.Domain (with_checks d checks)) → entries_after postgres (stmt.AddDomainCheck q name text ∷ more) es ≡ entries_after postgres more (next_in (asked (with_checks d checks) q name text (find bytes_cmp name checks)) es)
asked-in q name text more d checks es h =
    ap (λ (v : Option Value). entries_after postgres more (after_in (outcome (if_domain q (λ d. asked d q name text (get d.checks name)) v) (seen_in es)) es)) h
    ∙ ap (λ (there : Option Bytes). entries_after postgres more (next_in (asked (with_checks d checks) q name text there) es)) (get-from_entries nat_list_cmp_total checks name)

-- ---- parts of a run

abbrev pub firsts : ℕ → List Stmt → List Stmt
firsts zero ss = []
firsts (suc n) [] = []
firsts (suc n) (s ∷ ss) = s ∷ firsts n ss

abbrev pub others_behind : ℕ → List Stmt → List Stmt
others_behind zero ss = ss
others_behind (suc n) [] = []
others_behind (suc n) (s ∷ ss) = others_behind n ss

-- what a run says, over the list
pub says : (run : List Stmt) → causes postgres run empty_cluster ≡ causes_in postgres run empty_entries
says run = causes-in postgres run empty_cluster ∙ ap (causes_in postgres run) (entries-from_sorted key_cmp empty_entries tt)
