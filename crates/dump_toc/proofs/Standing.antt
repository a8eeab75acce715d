-- The defaults that stand alone, one object after another.
use Rattle.std.proofs.Common.{◌≡◌, ℕ, ◌+◌, ◌<◌, ◌≤◌, List, [], ◌∷◌, ◌++◌, length, map, take, sym, ap, ◌∙◌}
use Rattle.std.proofs.Math.ListN.{get_or}
use Rattle.std.proofs.lemmas.List.{take_more, take_all, map-append}
use Rattle.std.proofs.lemmas.List.Elements.{filter-append}
use Rattle.std.specs.List.{filter}
use Rattle.graph_parts.specs.declared.object.Obj.{Obj}
use Rattle.dep_sort.specs.Cut.{is_default}
use Rattle.dump_toc.specs.Toc.{standing_of}

both_standing : (a b : List Obj) → standing_of (a ++ b) ≡ standing_of a ++ standing_of b
both_standing a b =
    ap (map (λ (o : Obj). o.id.oid)) (filter-append (λ (o : Obj). is_default o.kind) a b)
    ∙ map-append (λ (o : Obj). o.id.oid) (filter (λ (o : Obj). is_default o.kind) a) (filter (λ (o : Obj). is_default o.kind) b)

pub standing_more : (before after : List ℕ) (objects : List Obj) (i : ℕ) (x : Obj) → before ≡ standing_of (take i objects) → after ≡ before ++ standing_of (x ∷ []) → i < length objects → x ≡ get_or objects i x → after ≡ standing_of (take (i + 1) objects)
standing_more before after objects i x so added h is =
    added
    ∙ ap (λ b. b ++ standing_of (x ∷ [])) so
    ∙ sym (both_standing (take i objects) (x ∷ []))
    ∙ ap standing_of (ap (λ y. take i objects ++ y ∷ []) is ∙ sym (take_more objects i x h))

pub standing_all : (all : List ℕ) (objects : List Obj) (i : ℕ) → all ≡ standing_of (take i objects) → length objects ≤ i → all ≡ standing_of objects
standing_all all objects i so h = so ∙ ap standing_of (take_all i objects h)
