-- Each turn reads one name and the mark behind it.
use Rattle.std.proofs.Common.{◌≡◌, ◌++◌, ◌&&◌, List, Option, Some, None, ◌∙◌, map, sym, ap}
use Rattle.std.specs.Prelude.{if◌then◌else◌}
use Rattle.std.specs.Option.{option_map}
use Rattle.cat_model.specs.IndexColumns.{names_to_bracket}
use Rattle.cat_model.specs.Lexemes.{is_sign, no_more}
use Rattle.cat_model.specs.Values.{Bytes}
use Rattle.stmt_refs.specs.Said.{said}
use Rattle.stmt_refs.proofs.ColumnNames.{goes_on, ends, too_short}
use Rattle.stmt_refs.proofs.columns.names_to_bracket.Goals as goal

pub loop-x-preserved : goal.loop-x-preserved
loop-x-preserved c =
    goes_on c.args.lexemes.now c.loop-x.left.now c.in-Some.rest.now c.in-Some.x.now c.in-Some.mark.now c.in-Some-2.name c.loop-x.names.items c.loop-x.invariant c.in-Some.ensures (sym c.in_ok-name.ensures ∙ c.in-Some-2.is) (sym c.if-not-is_sign.ensures)
    ∙ ap (λ (ns : List Bytes). option_map (λ (m : List Bytes). ns ++ m) (names_to_bracket (map said c.in-Some.rest.now))) (sym c.in_ok-push.ensures.items)

pub returns-then-not-is_sign : goal.returns-then-not-is_sign
returns-then-not-is_sign c =
    c.closed.ensures
    ∙ ap (λ (ns : List Bytes). if is_sign 41 (said c.in-Some.mark.now) && no_more (map said c.in-Some.rest.now) then Some ns else None) c.in_ok-push.ensures.items
    ∙ sym (ends c.args.lexemes.now c.loop-x.left.now c.in-Some.rest.now c.in-Some.x.now c.in-Some.mark.now c.in-Some-2.name c.loop-x.names.items c.loop-x.invariant c.in-Some.ensures (sym c.in_ok-name.ensures ∙ c.in-Some-2.is) (sym c.if-not-is_sign.ensures))

pub returns : goal.returns
returns c = sym (c.loop-x.invariant ∙ ap (λ (o : Option (List Bytes)). option_map (λ (m : List Bytes). c.loop-x.names.items ++ m) o) (too_short c.loop-x.left.now c.in_default.ensures))
