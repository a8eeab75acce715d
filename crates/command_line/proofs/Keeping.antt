-- Each value of an option that takes patterns is one, so none is left out.
use Rattle.std.proofs.Common.{◌≡◌, ℕ, Bool, true, false, cond, List, [], ◌∷◌, Option, Some, None, refl, sym, ap, ◌∙◌, subst}
use Rattle.std.specs.Prelude.{slice_get, not, is_some}
use Rattle.std.proofs.lemmas.Bool.{eqb-true}
use Rattle.patterns.specs.declared.fault.PatternFault.{PatternFault}
use Rattle.patterns.specs.Parts.{Parts}
use Rattle.patterns.specs.Reading.{unless, fault_of, pattern_of}
use Rattle.command_line.specs.declared.options.Tool.{Tool}
use Rattle.command_line.specs.declared.options.Opt.{Opt}
use Rattle.command_line.specs.declared.options.Opt.TheVariants as opt
use Rattle.command_line.specs.declared.options.Takes.TheVariants.{Value}
use Rattle.command_line.specs.declared.options.ValueKind.TheVariants as kind
use Rattle.command_line.specs.declared.lists.PatternWord.{PatternWord}
use Rattle.command_line.specs.Options.{takes, place, is_same}
use Rattle.command_line.specs.Values.{bad_unless, value_fault}
use Rattle.command_line.specs.Reading.{Reading, Done, Fails, Given, Other}
use Rattle.command_line.specs.Mentions.{values_of}
use Rattle.command_line.specs.Commands.{with_pattern, patterns_of}
use Rattle.command_line.specs.Sayings.{TakesValue}
use Rattle.command_line.specs.Complete.{SaysTaken, texts_of}

abbrev all_options : List Opt
all_options = opt.Dbname ∷ opt.File ∷ opt.Format ∷ opt.DataOnly ∷ opt.SchemaOnly ∷ opt.Schema ∷ opt.ExcludeSchema ∷ opt.Table ∷ opt.ExcludeTable ∷ opt.ExcludeTableData ∷ opt.NoOwner ∷ opt.NoPrivileges ∷ opt.NoComments ∷ opt.Section ∷ opt.StrictNames ∷ opt.Compress ∷ opt.List ∷ opt.UseList ∷ opt.Jobs ∷ opt.SingleTransaction ∷ opt.ExitOnError ∷ opt.GlobalsOnly ∷ opt.RolesOnly ∷ opt.Variable ∷ opt.Tables ∷ opt.Create ∷ opt.Clean ∷ opt.IfExists ∷ opt.LargeObjects ∷ opt.NoLargeObjects ∷ []

placed : (option : Opt) → slice_get all_options (place option) ≡ Some option
placed opt.Dbname = refl
placed _ = refl

same_option : (option other : Opt) → is_same option other ≡ true → option ≡ other
same_option option other e =
    let there : Some option ≡ Some other = sym (placed option) ∙ ap (slice_get all_options) (eqb-true (place option) (place other) e) ∙ placed other in
    cc

one_kept : (value : List ℕ) (fault : Option PatternFault) (parts : Parts) (others : List PatternWord) → bad_unless (not (is_some fault)) ≡ None → texts_of (with_pattern value (unless fault parts) others) ≡ value ∷ texts_of others
one_kept value None parts others e = refl
one_kept value (Some fault) parts others e = cc

pattern_kept : (value : List ℕ) (others : List PatternWord) → value_fault kind.Pattern value ≡ None → texts_of (with_pattern value (pattern_of value) others) ≡ value ∷ texts_of others
unfolding value_fault pattern_of
pattern_kept value others e = one_kept value (fault_of value) _ others e

kept_if : (same : Bool) (value : List ℕ) (later : List (List ℕ)) → (same ≡ true → value_fault kind.Pattern value ≡ None) → texts_of (patterns_of later) ≡ later → texts_of (patterns_of (cond same (value ∷ later) later)) ≡ cond same (value ∷ later) later
kept_if true value later h e = pattern_kept value (patterns_of later) (h refl) ∙ ap (λ l. value ∷ l) e
kept_if false value later h e = e

pub patterns_kept : (tool : Tool) (option : Opt) (r : Reading) → takes tool option ≡ Value kind.Pattern → SaysTaken tool r → texts_of (patterns_of (values_of option r)) ≡ values_of option r
unfolding values_of
patterns_kept tool option Done t s = refl
patterns_kept tool option (Fails at kind) t s = refl
patterns_kept tool option (Given word given value later) t s =
    kept_if (is_same given option) value (values_of option later)
    (λ e. subst (λ x. TakesValue x value) (ap (takes tool) (same_option given option e) ∙ t) s.0)
    (patterns_kept tool option later t s.1)
patterns_kept tool option (Other word text later) t s = patterns_kept tool option later t s
