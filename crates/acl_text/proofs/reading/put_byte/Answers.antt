use Rattle.std.proofs.Common.{◌≡◌, ℕ, ◌++◌, List, [], ◌∷◌, Vec, Global, map, ap, ◌∙◌}
use Rattle.std.proofs.lemmas.List.{map-append}
use Rattle.acl_text.proofs.ReadingLemmas.{put_cut}
use Rattle.acl_text.proofs.reading.put_byte.Goals as goal

pub returns-in_ok-push-in-Cut : goal.returns-in_ok-push-in-Cut
returns-in_ok-push-in-Cut c =
    let view : List (Vec ℕ Global) → List (List ℕ) = map (λ e. e.items) in
    let done = view c.args.elements.now.items in
    let begun = c.args.element.now.items in
    let bytes : c.in_ok-bytes-in-Cut.bytes.items ≡ begun = c.in_ok-bytes-in-Cut.ensures.items ∙ c.as_slice.ensures.value in
    let pushed : view c.push-in-Cut.new.self.items ≡ done ++ begun ∷ [] =
    ap view c.in_ok-push-in-Cut.ensures.items ∙ map-append (λ (e : Vec ℕ Global). e.items) c.args.elements.now.items (c.in_ok-bytes-in-Cut.bytes ∷ []) ∙ ap (λ (l : List ℕ). done ++ l ∷ []) bytes in
    λ more. rw (pushed, c.clear.ensures.items, c.in-Cut.is) (put_cut done begun c.args.byte more)
