-- What is read of parents, pair by pair.
use Rattle.std.proofs.Common.{◌≡◌, ℕ, ◌+◌, ◌<◌, Bool, true, false, List, [], ◌∷◌, ◌++◌, take, length, get_or, refl, ap, sym, ◌∙◌, append_assoc}
use Rattle.std.proofs.lemmas.List.{take_more}
use Rattle.std.specs.Prelude.{if◌then◌else◌}
use Rattle.cat_model.specs.declared.object.QName.{QName}
use Rattle.cat_model.specs.declared.key.Key.TheVariants as key
use Rattle.cat_model.specs.declared.class.Mark.{Mark}
use Rattle.cat_model.specs.declared.class.Mark.TheVariants as mark
use Rattle.cat_model.specs.Footprints.{parent_reads}
use Rattle.cat_model.specs.Trees.{same_path}

onto : (b : Bool) (parent : QName) (xs ys zs : List Mark) → xs ≡ ys ++ zs
    → (if b then mark.Key (key.Rel parent) ∷ mark.Key (key.Rows parent) ∷ xs else xs) ≡ (if b then mark.Key (key.Rel parent) ∷ mark.Key (key.Rows parent) ∷ ys else ys) ++ zs
onto true parent xs ys zs e = ap (λ (ms : List Mark). mark.Key (key.Rel parent) ∷ mark.Key (key.Rows parent) ∷ ms) e
onto false parent xs ys zs e = e

-- those of one more pair come last
pub parent_reads_push : (q : QName) (pairs : List (QName × QName)) (pair : QName × QName) → parent_reads q (pairs ++ pair ∷ []) ≡ parent_reads q pairs ++ parent_reads q (pair ∷ [])
parent_reads_push q [] pair = refl
parent_reads_push q (p ∷ pairs) pair = onto (same_path q p.0) p.1 (parent_reads q (pairs ++ pair ∷ [])) (parent_reads q pairs) (parent_reads q (pair ∷ [])) (parent_reads_push q pairs pair)

-- the marks after one more pair
pub next_parents : (marks more before : List Mark) (q : QName) (pairs : List (QName × QName)) (i : ℕ) (pair : QName × QName)
    → marks ≡ before ++ parent_reads q (take i pairs) → more ≡ marks ++ parent_reads q (pair ∷ []) → i < length pairs → pair ≡ get_or pairs i pair
    → more ≡ before ++ parent_reads q (take (i + 1) pairs)
next_parents marks more before q pairs i pair so_far added h is =
    added
    ∙ ap (λ (ms : List Mark). ms ++ parent_reads q (pair ∷ [])) so_far
    ∙ append_assoc before (parent_reads q (take i pairs)) (parent_reads q (pair ∷ []))
    ∙ ap (λ (ms : List Mark). before ++ ms) (sym (parent_reads_push q (take i pairs) pair))
    ∙ ap (λ (p : QName × QName). before ++ parent_reads q (take i pairs ++ p ∷ [])) is
    ∙ ap (λ (ps : List (QName × QName)). before ++ parent_reads q ps) (sym (take_more pairs i pair h))
