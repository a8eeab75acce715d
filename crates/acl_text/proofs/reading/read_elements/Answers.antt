use Rattle.std.proofs.Common.{◌≡◌, ℕ, ◌+◌, ◌<◌, ◌++◌, List, [], ◌∷◌, Some, Vec, Global, length, map, get_or, drop, refl, sym, ap, ◌∙◌}
use Rattle.std.proofs.lemmas.List.{map-append}
use Rattle.acl_text.specs.declared.reading.State.{State}
use Rattle.acl_text.specs.declared.reading.Effect.{Effect}
use Rattle.acl_text.specs.Acls.{elements_before, elements_from, elements_of, byte_before, at_end}
use Rattle.acl_text.proofs.ReadingLemmas.{elements_step, elements_end, elements_done, elements_open}
use Rattle.acl_text.proofs.reading.read_elements.Goals as goal

pub loop-byte-init : goal.loop-byte-init
loop-byte-init c = rw (c.new-elements.ensures.items, c.new-element.ensures.items) refl

pub loop-byte-preserved : goal.loop-byte-preserved
loop-byte-preserved c =
    let view : List (Vec ℕ Global) → List (List ℕ) = map (λ e. e.items) in
    let text = c.args.text.now in
    let at = c.loop-byte.byte-index in
    let b = get_or text at 0 in
    let done = view c.loop-byte.elements.items in
    let begun = c.loop-byte.element.items in
    let done' = view c.put_byte.new.elements.items in
    let begun' = c.put_byte.new.element.items in
    let within : at < length text = c.loop-byte-test.true in
    elements_step text at c.loop-byte.state b done done' begun begun' (elements_of text) within refl
    (λ more. c.in_ok-put_byte.ensures more ∙ ap (λ (e : Effect). elements_before done begun (byte_before e b more)) c.effect_of-effect.ensures)
    c.loop-byte.invariant
    ∙ ap (λ (s : State). elements_before done' begun' (elements_from s (drop (at + 1) text))) (sym c.next_state-state.ensures)

pub returns-in_ok-push-in-Done : goal.returns-in_ok-push-in-Done
returns-in_ok-push-in-Done c =
    let view : List (Vec ℕ Global) → List (List ℕ) = map (λ e. e.items) in
    let text = c.args.text.now in
    let done = view c.loop-byte.elements.items in
    let begun = c.loop-byte.element.items in
    let pushed : view c.push.new.self.items ≡ done ++ begun ∷ [] =
    ap view c.in_ok-push-in-Done.ensures.items ∙ map-append (λ (e : Vec ℕ Global). e.items) c.loop-byte.elements.items (c.loop-byte.element ∷ []) in
    elements_end text c.loop-byte.byte-index c.loop-byte.state done begun (elements_of text) c.loop-byte-test.false c.loop-byte.invariant
    ∙ ap (λ (s : State). elements_before done begun (at_end s)) c.in-Done.is ∙ elements_done done begun ∙ ap Some (sym pushed)

pub returns-in_default : goal.returns-in_default
returns-in_default c =
    let view : List (Vec ℕ Global) → List (List ℕ) = map (λ e. e.items) in
    let text = c.args.text.now in
    let done = view c.loop-byte.elements.items in
    let begun = c.loop-byte.element.items in
    elements_end text c.loop-byte.byte-index c.loop-byte.state done begun (elements_of text) c.loop-byte-test.false c.loop-byte.invariant
    ∙ elements_open done begun c.loop-byte.state c.in_default.not-Done
