-- Bytes that are cut into pieces from the front on.
use Rattle.std.proofs.Common.{◌≡◌, ℕ, zero, suc, Bool, true, false, eqb, ◌<◌, ◌≤◌, List, [], ◌∷◌, ◌++◌, length, take, drop, Some, refl, sym, ap, ◌∙◌, append_assoc, append-nil, arith, length-append, lit<}
use Rattle.std.proofs.lemmas.List.{nil_from_length, take-append-drop, length-take-le, take-append-le, take_all, length-drop, drop_all}
use Rattle.std.proofs.Math.Seq.{drop-append_seam}
use Rattle.std.proofs.lemmas.Bool.{eqb-true, false≢true}
use Rattle.fmt_custom.specs.Blocks.{piece}
use Rattle.fmt_custom.specs.Stored.{pieces_out}
use Rattle.dump_archives.specs.Pieces.{cut, cut_all, piece_size, packed}

cut-nil : (size n : ℕ) → cut size n [] ≡ []
unfolding cut
cut-nil size zero = refl
cut-nil size (suc n) = refl

cut-cons : (size n b : ℕ) (bytes : List ℕ) → cut size (suc n) (b ∷ bytes) ≡ take size (b ∷ bytes) ∷ cut size n (drop size (b ∷ bytes))
unfolding cut
cut-cons size n b bytes = refl

-- where there are pieces enough, more of them change nothing
enough : (size : ℕ) → 0 < size → (n m : ℕ) (bytes : List ℕ) → length bytes ≤ n → length bytes ≤ m → cut size n bytes ≡ cut size m bytes
enough size some n m [] l k = cut-nil size n ∙ sym (cut-nil size m)
enough size some zero m (b ∷ bytes) l k = absurd (omega arith)
enough size some (suc n) zero (b ∷ bytes) l k = absurd (omega arith)
enough size some (suc n) (suc m) (b ∷ bytes) l k =
    cut-cons size n b bytes
    ∙ ap (λ (ps : List (List ℕ)). take size (b ∷ bytes) ∷ ps) (enough size some n m (drop size (b ∷ bytes)) (omega (arith, length-drop size (b ∷ bytes))) (omega (arith, length-drop size (b ∷ bytes))))
    ∙ sym (cut-cons size m b bytes)

-- a whole piece in front
cut_front : (size : ℕ) → 0 < size → (front rest : List ℕ) → length front ≡ size → cut_all size (front ++ rest) ≡ front ∷ cut_all size rest
cut_front size some [] rest l = absurd (omega arith)
cut_front size some (b ∷ front) rest l =
    cut-cons size (length (front ++ rest)) b (front ++ rest)
    ∙ ap (λ (p : List ℕ). p ∷ cut size (length (front ++ rest)) (drop size (b ∷ (front ++ rest)))) first
    ∙ ap (λ (r : List ℕ). (b ∷ front) ∷ cut size (length (front ++ rest)) r) behind
    ∙ ap (λ (ps : List (List ℕ)). (b ∷ front) ∷ ps) (enough size some (length (front ++ rest)) (length rest) rest (omega (arith, length-append front rest)) (omega arith))
  where
    first : take size (b ∷ (front ++ rest)) ≡ b ∷ front
    first = take-append-le size (b ∷ front) rest (omega (arith, l)) ∙ take_all size (b ∷ front) (omega (arith, l))

    behind : drop size (b ∷ (front ++ rest)) ≡ rest
    behind = ap (λ (n : ℕ). drop n (b ∷ (front ++ rest))) (sym l) ∙ drop-append_seam (b ∷ front) rest

pub packed_front : (front rest : List ℕ) → length front ≡ piece_size → packed (front ++ rest) ≡ piece.write (Some front) ++ packed rest
packed_front front rest l = ap pieces_out (cut_front piece_size (lit< tt) front rest l)

-- a last piece
cut_last : (size : ℕ) (bytes : List ℕ) → 0 < length bytes → length bytes ≤ size → cut_all size bytes ≡ bytes ∷ []
cut_last size [] some l = absurd (omega arith)
cut_last size (b ∷ bytes) some l =
    cut-cons size (length bytes) b bytes
    ∙ ap (λ (p : List ℕ). p ∷ cut size (length bytes) (drop size (b ∷ bytes))) (take_all size (b ∷ bytes) l)
    ∙ ap (λ (r : List ℕ). (b ∷ bytes) ∷ cut size (length bytes) r) (drop_all size (b ∷ bytes) l)
    ∙ ap (λ (ps : List (List ℕ)). (b ∷ bytes) ∷ ps) (cut-nil size (length bytes))

pub packed_last : (bytes : List ℕ) → 0 < length bytes → length bytes < piece_size → packed bytes ≡ piece.write (Some bytes)
packed_last bytes some l = ap pieces_out (cut_last piece_size bytes some (omega arith)) ∙ append-nil (piece.write (Some bytes))

pub packed_none : (bytes : List ℕ) → bytes ≡ [] → packed bytes ≡ []
packed_none bytes e = ap packed e ∙ ap pieces_out (cut-nil piece_size 0)

-- ---- what waits

pub last_empty : (run w : List ℕ) (b : Bool) → b ≡ eqb (length run) 0 → b ≡ true → w ≡ w ++ packed run
last_empty run w b is full = sym (ap (λ (l : List ℕ). w ++ l) (packed_none run (nil_from_length run (eqb-true (length run) 0 (sym is ∙ full)))) ∙ append-nil w)

some : (run : List ℕ) (b : Bool) → b ≡ eqb (length run) 0 → b ≡ false → 0 < length run
some [] b is not_so = absurd (false≢true (sym not_so ∙ is))
some (x ∷ run) b is not_so = omega arith

pub last_full : (run w new : List ℕ) (b : Bool) → b ≡ eqb (length run) 0 → b ≡ false → length run < piece_size → new ≡ w ++ piece.write (Some run) → new ≡ w ++ packed run
last_full run w new b is not_so l e = e ∙ ap (λ (x : List ℕ). w ++ x) (sym (packed_last run (some run b is not_so) l))

pub pack_step : (run start w new current front later more : List ℕ) → front ≡ take piece_size current → later ≡ drop piece_size current → piece_size ≤ length current → w ≡ start ++ more → new ≡ w ++ piece.write (Some front)
    → ((rest : List ℕ) → packed (run ++ rest) ≡ more ++ packed (current ++ rest))
    → (all : List ℕ) × (new ≡ start ++ all) × ((rest : List ℕ) → packed (run ++ rest) ≡ all ++ packed (later ++ rest))
pack_step run start w new current front later more f b l e n same = (
  more ++ piece.write (Some front),
  n ∙ ap (λ (x : List ℕ). x ++ piece.write (Some front)) e ∙ append_assoc start more (piece.write (Some front)),
  λ rest.
      same rest
      ∙ ap (λ (x : List ℕ). more ++ packed (x ++ rest)) (sym (take-append-drop piece_size current))
      ∙ ap (λ (x : List ℕ). more ++ packed ((x ++ drop piece_size current) ++ rest)) (sym f)
      ∙ ap (λ (x : List ℕ). more ++ packed ((front ++ x) ++ rest)) (sym b)
      ∙ ap (λ (x : List ℕ). more ++ packed x) (append_assoc front later rest)
      ∙ ap (λ (x : List ℕ). more ++ x) (packed_front front (later ++ rest) (ap length f ∙ length-take-le piece_size current l))
      ∙ sym (append_assoc more (piece.write (Some front)) (packed (later ++ rest))),
)
