-- A step taken for each of a list: what is left to do behind the first ones.
use Rattle.std.proofs.Common.{◌≡◌, ℕ, suc, ◌+◌, ◌<◌, ◌≤◌, List, [], ◌∷◌, ◌++◌, length, drop, get_or, Result, Ok, Err, refl, sym, ap, ◌∙◌, add-one}
use Rattle.std.proofs.Math.Seq.{drop-cons}
use Rattle.std.proofs.lemmas.List.{drop_all, append_assoc, append-nil}
use Rattle.folder_io.specs.declared.fault.FolderFault.{FolderFault}
use Rattle.folder_io.specs.Answers.{◌>>=◌, each_of}

-- what the steps for the rest give goes behind what the first ones gave
abbrev pub GoesOn : {A B : Type 0} → (A → Result B FolderFault) → List A → List B → List A → Type 0
GoesOn step all done left = each_of step all ≡ (each_of step left >>= λ rest. Ok (done ++ rest))

-- before the first step nothing is done
pub begins : {A B : Type 0} (step : A → Result B FolderFault) (all : List A) → GoesOn step all [] all
begins {B = B} step all = by (each_of step all)
  where
    by : (r : Result (List B) FolderFault) → r ≡ (r >>= λ rest. Ok ([] ++ rest))
    by (Ok ys) = refl
    by (Err o) = refl

-- the one at an index is the first of what is left
left : {A : Type 0} (all : List A) (i : ℕ) (x : A) → i < length all → get_or all i x ≡ x → drop i all ≡ x ∷ drop (i + 1) all
left all i x l t = drop-cons all i x l ∙ ap (λ y. y ∷ drop (suc i) all) t ∙ ap (λ n. x ∷ drop n all) (sym (add-one i))

-- a step that gives something
pub gave : {A B : Type 0} (step : A → Result B FolderFault) (all : List A) (done : List B) (i : ℕ) (x : A) (y : B)
    → i < length all → get_or all i x ≡ x → GoesOn step all done (drop i all) → step x ≡ Ok y → GoesOn step all (done ++ y ∷ []) (drop (i + 1) all)
unfolding each_of
gave {B = B} step all done i x y l t goes e =
    goes
    ∙ ap (λ xs. each_of step xs >>= λ rest. Ok (done ++ rest)) (left all i x l t)
    ∙ ap (λ r. (r >>= λ y. each_of step (drop (i + 1) all) >>= λ ys. Ok (y ∷ ys)) >>= λ rest. Ok (done ++ rest)) e
    ∙ behind (each_of step (drop (i + 1) all))
  where
    behind : (r : Result (List B) FolderFault) → ((r >>= λ ys. Ok (y ∷ ys)) >>= λ rest. Ok (done ++ rest)) ≡ (r >>= λ rest. Ok ((done ++ y ∷ []) ++ rest))
    behind (Ok ys) = ap Ok (sym (append_assoc done (y ∷ []) ys))
    behind (Err o) = refl

-- a step that refuses
pub refused : {A B : Type 0} (step : A → Result B FolderFault) (all : List A) (done : List B) (i : ℕ) (x : A) (o : FolderFault)
    → i < length all → get_or all i x ≡ x → GoesOn step all done (drop i all) → step x ≡ Err o → each_of step all ≡ Err o
unfolding each_of
refused step all done i x o l t goes e =
    goes
    ∙ ap (λ xs. each_of step xs >>= λ rest. Ok (done ++ rest)) (left all i x l t)
    ∙ ap (λ r. (r >>= λ y. each_of step (drop (i + 1) all) >>= λ ys. Ok (y ∷ ys)) >>= λ rest. Ok (done ++ rest)) e

-- all steps are taken
pub ended : {A B : Type 0} (step : A → Result B FolderFault) (all : List A) (done : List B) (i : ℕ)
    → length all ≤ i → GoesOn step all done (drop i all) → each_of step all ≡ Ok done
unfolding each_of
ended step all done i l goes =
    goes
    ∙ ap (λ xs. each_of step xs >>= λ rest. Ok (done ++ rest)) (drop_all i all l)
    ∙ ap Ok (append-nil done)
