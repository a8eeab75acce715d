use Rattle.std.proofs.Common.{ℕ, List, sym, ◌∙◌, subst}
use Rattle.std.specs.Str.Parse.{ParsesUnsigned}
use Rattle.cat_rows.proofs.NumberLemmas.{oid_of-parsed, oid_of-other, oid_of-unparsed}
use Rattle.cat_rows.proofs.value.read_oid.Goals as goal

pub returns-in-Ok : goal.returns-in-Ok
returns-in-Ok c =
    let parses = subst (λ (xs : List ℕ). ParsesUnsigned 32 10 xs c.parse.result) c.as_str.ensures c.parse.ensures.value.0 in
    sym (oid_of-parsed c.args.text.now c.parse.result c.in-Ok.oid parses c.in-Ok.is (sym c.is_decimal.ensures ∙ c.if-is_decimal.true))

pub returns-in_default : goal.returns-in_default
returns-in_default c =
    let parses = subst (λ (xs : List ℕ). ParsesUnsigned 32 10 xs c.parse.result) c.as_str.ensures c.parse.ensures.value.0 in
    sym (oid_of-other c.args.text.now c.parse.result c.in-Ok.oid parses c.in-Ok.is (sym c.is_decimal.ensures ∙ c.if-is_decimal.false))

pub returns-in_default-2 : goal.returns-in_default-2
returns-in_default-2 c =
    let parses = subst (λ (xs : List ℕ). ParsesUnsigned 32 10 xs c.parse.result) c.as_str.ensures c.parse.ensures.value.0 in
    sym (oid_of-unparsed c.args.text.now c.parse.result c.in_default.field-0 parses c.in_default.is)
