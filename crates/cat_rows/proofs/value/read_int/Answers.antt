use Rattle.std.proofs.Common.{◌≡◌, ℕ, ℤ, Result, List, Ok, Some, sym, ap, ◌∙◌, subst, to_z, of_z}
use Rattle.std.proofs.lemmas.Int.{to_z-of_z}
use Rattle.std.specs.Str.{bytes_eq}
use Rattle.std.specs.Fmt.{signed_decimal}
use Rattle.std.proofs.lemmas.Result.{OkIff-at_ok}
use Rattle.std.specs.Int.RustNames.{FitsSigned}
use Rattle.std.specs.Str.Parse.{ParsesSigned}
use Rattle.std.specs.Int.{w64}
use Rattle.cat_rows.proofs.NumberLemmas.{int_of-parsed, int_of-other, int_of-unparsed}
use Rattle.cat_rows.proofs.value.read_int.Goals as goal

kept : {E : Type 0} (text : List ℕ) (r : Result ℤ E) (z : ℤ) → ParsesSigned w64 10 text r → r ≡ Ok z → to_z w64 (of_z w64 z) ≡ z
kept text r z parses read =
    let told = OkIff-at_ok r _ _ z parses read in
    to_z-of_z w64 z (subst (λ (y : ℤ). FitsSigned w64 y) (sym told.1) told.0.1)

pub returns-in-Ok : goal.returns-in-Ok
returns-in-Ok c =
    let parses = subst (λ (xs : List ℕ). ParsesSigned w64 10 xs c.parse.result) c.as_str.ensures c.parse.ensures.value.0 in
    ap (λ (z : ℤ). Some z) (kept c.args.text.now c.parse.result c.in-Ok.number parses c.in-Ok.is) ∙ sym (int_of-parsed c.args.text.now c.parse.result c.in-Ok.number parses c.in-Ok.is (ap (λ (z : ℤ). bytes_eq (signed_decimal z) c.args.text.now) (sym (kept c.args.text.now c.parse.result c.in-Ok.number parses c.in-Ok.is)) ∙ sym c.is_signed_decimal.ensures ∙ c.if-is_signed_decimal.true))

pub returns-in_default : goal.returns-in_default
returns-in_default c =
    let parses = subst (λ (xs : List ℕ). ParsesSigned w64 10 xs c.parse.result) c.as_str.ensures c.parse.ensures.value.0 in
    sym (int_of-other c.args.text.now c.parse.result c.in-Ok.number parses c.in-Ok.is (ap (λ (z : ℤ). bytes_eq (signed_decimal z) c.args.text.now) (sym (kept c.args.text.now c.parse.result c.in-Ok.number parses c.in-Ok.is)) ∙ sym c.is_signed_decimal.ensures ∙ c.if-is_signed_decimal.false))

pub returns-in_default-2 : goal.returns-in_default-2
returns-in_default-2 c =
    let parses = subst (λ (xs : List ℕ). ParsesSigned w64 10 xs c.parse.result) c.as_str.ensures c.parse.ensures.value.0 in
    sym (int_of-unparsed c.args.text.now c.parse.result c.in_default.field-0 parses c.in_default.is)
