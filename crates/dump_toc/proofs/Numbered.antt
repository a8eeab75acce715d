-- The numbers of first entries, one object after another.
use Rattle.std.proofs.Common.{◌≡◌, ℕ, ◌+◌, ◌<◌, ◌≤◌, List, [], ◌∷◌, ◌++◌, length, drop, Option, refl, sym, ap, append_assoc, ◌∙◌}
use Rattle.std.proofs.Math.ListN.{get_or}
use Rattle.std.proofs.lemmas.List.{at_drop_more, at_drop_all, append-nil}
use Rattle.dump_toc.specs.Numbers.{first_of, first_ids}

ids_of : (next count : ℕ) (counts : List ℕ) → first_ids next (count ∷ counts) ≡ first_of next count ∷ first_ids (next + count) counts
unfolding first_ids
ids_of next count counts = refl

no_ids : (next : ℕ) → first_ids next [] ≡ []
unfolding first_ids
no_ids next = refl

pub ids_more : (all before after : List (Option ℕ)) (next count : ℕ) (counts : List ℕ) (i d : ℕ) → before ++ first_ids next (drop i counts) ≡ all → after ≡ before ++ first_of next count ∷ [] → i < length counts → count ≡ get_or counts i d → after ++ first_ids (next + count) (drop (i + 1) counts) ≡ all
ids_more all before after next count counts i d so added h is =
    ap (λ ids. ids ++ first_ids (next + count) (drop (i + 1) counts)) added
    ∙ append_assoc before (first_of next count ∷ []) (first_ids (next + count) (drop (i + 1) counts))
    ∙ ap (λ ids. before ++ ids) (sym (ids_of next count (drop (i + 1) counts)))
    ∙ ap (λ c. before ++ first_ids next (c ∷ drop (i + 1) counts)) is
    ∙ ap (λ ids. before ++ ids) (sym (at_drop_more (first_ids next) counts i d h))
    ∙ so

pub ids_all : (all ids : List (Option ℕ)) (next : ℕ) (counts : List ℕ) (i : ℕ) → ids ++ first_ids next (drop i counts) ≡ all → length counts ≤ i → ids ≡ all
ids_all all ids next counts i so h =
    sym (append-nil ids) ∙ ap (λ more. ids ++ more) (sym (no_ids next) ∙ sym (at_drop_all (first_ids next) counts i h)) ∙ so
