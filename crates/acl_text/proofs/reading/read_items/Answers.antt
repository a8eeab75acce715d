use Rattle.std.proofs.Common.{◌≡◌, ℕ, ◌<◌, ◌≤◌, List, [], Vec, Global, length, map, get_or, sym, ap, ◌∙◌, arith}
use Rattle.std.proofs.lemmas.Result.{err_from_is_err_and}
use Rattle.std.proofs.lemmas.List.{length-map, get_or-map}
use Rattle.acl_text.specs.Acls.{items_of, item_of}
use Rattle.acl_text.proofs.ReadingLemmas.{items_step, items_fail, items_end, FailsAcl-from}
use Rattle.acl_text.proofs.reading.read_items.Goals as goal

pub returns-in_err-read_item : goal.returns-in_err-read_item
returns-in_err-read_item c =
    let view : Vec ℕ Global → List ℕ = λ e. e.items in
    let elements = c.args.elements.now in
    let texts = map view elements in
    let at = c.loop-element.element-index in
    let within : at < length elements = c.loop-element-test.true in
    let lt : at < length texts = omega (arith, length-map elements view) in
    let text_is : get_or texts at [] ≡ c.as_slice.result.now = get_or-map view elements at c.element-item.result [] within ∙ ap view (sym c.element-item.is) ∙ sym c.as_slice.ensures.value in
    let p = err_from_is_err_and c.from_residual-in_err-read_item.result c.from_residual-in_err-read_item.ensures.1 in
    rw (p.1, p.2) (FailsAcl-from c.in_err-read_item.field-0.0 (item_of c.as_slice.result.now) (items_of texts)
    (λ none. items_fail texts at c.loop-element.items.items (items_of texts) lt (ap item_of text_is ∙ none) c.loop-element.invariant)
    c.in_err-read_item.ensures)

pub loop-element-preserved : goal.loop-element-preserved
loop-element-preserved c =
    let view : Vec ℕ Global → List ℕ = λ e. e.items in
    let elements = c.args.elements.now in
    let texts = map view elements in
    let at = c.loop-element.element-index in
    let within : at < length elements = c.loop-element-test.true in
    let lt : at < length texts = omega (arith, length-map elements view) in
    let text_is : get_or texts at [] ≡ c.as_slice.result.now = get_or-map view elements at c.element-item.result [] within ∙ ap view (sym c.element-item.is) ∙ sym c.as_slice.ensures.value in
    rw c.in_ok-push.ensures.items (items_step texts at c.in_ok-read_item.field-0 c.loop-element.items.items (items_of texts) lt (ap item_of text_is ∙ c.in_ok-read_item.ensures) c.loop-element.invariant)

pub returns : goal.returns
returns c =
    let view : Vec ℕ Global → List ℕ = λ e. e.items in
    let elements = c.args.elements.now in
    let texts = map view elements in
    let at = c.loop-element.element-index in
    let done : length elements ≤ at = c.loop-element-test.false in
    items_end texts at c.loop-element.items.items (items_of texts) (omega (arith, length-map elements view)) c.loop-element.invariant
