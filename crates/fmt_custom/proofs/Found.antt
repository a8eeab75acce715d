-- Reading blocks one after the other, as a loop does.
use Rattle.std.proofs.Common.{◌≡◌, ℕ, zero, suc, ◌-◌, ◌<◌, ◌≤◌, List, [], ◌∷◌, ◌++◌, length, take, drop, Result, Ok, Err, refl, sym, ap, subst, ◌∙◌, append_assoc, arith, length-append}
use Rattle.std.proofs.lemmas.List.{drop_at, take-append-drop}
use Rattle.toc_parts.specs.Parts.{Reading, ◌>>=◌}
use Rattle.toc_parts.proofs.Steps.{fewer}
use Rattle.fmt_custom.specs.declared.fault.BlockHalt.{BlockHalt}
use Rattle.fmt_custom.specs.Blocks.{pieces, rest_of, pieces_in, block_start, block}
use Rattle.fmt_custom.specs.Customs.{Found, ids_of, found_at}
use Rattle.fmt_custom.specs.Indexes.{IsSuffix}
use Rattle.fmt_custom.proofs.BlockLaws.{block_start_laws, block_laws, block_some, pieces_are}

-- ---- the end of bytes

suffix_is : (front rest : List ℕ) → drop (length (front ++ rest) - length rest) (front ++ rest) ≡ rest
suffix_is front rest = drop_at front rest (length (front ++ rest) - length rest) (omega (arith, length-append front rest))

pub is_suffix : (bytes front rest : List ℕ) → bytes ≡ front ++ rest → IsSuffix rest bytes
is_suffix bytes front rest e = subst (λ (x : List ℕ). IsSuffix rest x) (sym e) (suffix_is front rest)

pub suffix_of_suffix : (bytes mid front rest : List ℕ) → IsSuffix mid bytes → mid ≡ front ++ rest → IsSuffix rest bytes
suffix_of_suffix bytes mid front rest s e =
    let k = length bytes - length mid in
    let whole : bytes ≡ (take k bytes ++ front) ++ rest = sym (take-append-drop k bytes) ∙ ap (λ (x : List ℕ). take k bytes ++ x) (s ∙ e) ∙ sym (append_assoc (take k bytes) front rest) in
    is_suffix bytes (take k bytes ++ front) rest whole

-- ---- blocks

abbrev made : ℕ → List (List ℕ) → List ℕ → Reading BlockHalt (ℕ × List (List ℕ))
made id ps rest = Ok ((id, ps), rest)

abbrev pub with_block : ℕ → List ℕ → List Found → ℕ → List (List ℕ) → List Found
with_block len left found id ps = record { id = id; start = len - length left; pieces = ps } ∷ found

module _ (len : ℕ) (known : List ℕ) where
  enough : (n m : ℕ) (found : List Found) (bytes : List ℕ) → length bytes ≤ n → length bytes ≤ m → found_at len known n found bytes ≡ found_at len known m found bytes
  unfolding found_at
  enough n m found [] low also = refl
  enough zero m found (b ∷ bytes) low also = absurd (omega arith)
  enough (suc n) zero found (b ∷ bytes) low also = absurd (omega arith)
  enough (suc n) (suc m) found (b ∷ bytes) low also =
      behind n m found (b ∷ bytes) (λ fs rest less. enough n m fs rest (omega (arith, less, low)) (omega (arith, less, also)))
    where
      behind : (n m : ℕ) (found : List Found) (bytes : List ℕ) → ((fs : List Found) (rest : List ℕ) → length rest < length bytes → found_at len known n fs rest ≡ found_at len known m fs rest)
          → ((block known (ids_of found)).read bytes >>= λ x. found_at len known n (with_block len bytes found x.0.0 x.0.1) x.1) ≡ ((block known (ids_of found)).read bytes >>= λ x. found_at len known m (with_block len bytes found x.0.0 x.0.1) x.1)
      behind n m found bytes same = by ((block known (ids_of found)).read bytes) refl
        where
          by : (r : Reading BlockHalt (ℕ × List (List ℕ))) → (block known (ids_of found)).read bytes ≡ r
              → (r >>= λ x. found_at len known n (with_block len bytes found x.0.0 x.0.1) x.1) ≡ (r >>= λ x. found_at len known m (with_block len bytes found x.0.0 x.0.1) x.1)
          by (Err e) is = refl
          by (Ok x) is = same (with_block len bytes found x.0.0 x.0.1) x.1 (fewer (block known (ids_of found)) (block_laws known (ids_of found)) (block_some known (ids_of found)) bytes x.0 x.1 is)

  step : (found : List Found) (bytes : List ℕ) → 0 < length bytes → found_at len known (length bytes) found bytes ≡ ((block known (ids_of found)).read bytes >>= λ x. found_at len known (length bytes - 1) (with_block len bytes found x.0.0 x.0.1) x.1)
  unfolding found_at
  step found [] some = absurd (omega arith)
  step found (b ∷ bytes) some = let k : length (b ∷ bytes) - 1 ≡ length bytes = omega arith in rw k refl

  rest_ok : (rows : List ℕ) (r : Reading BlockHalt (List (List ℕ))) (behind : List ℕ) → pieces.read rows ≡ r → rest_of r ≡ Ok behind → r ≡ Ok (pieces_in rows, behind)
  rest_ok rows (Ok x) behind is e =
      let same : x.1 ≡ behind = cc in
      let ps : x.0 ≡ pieces_in rows = sym (pieces_are rows x.0 x.1 is) in
      rw (ps, same) refl
  rest_ok rows (Err d) behind is e = absurd cc

  -- the block at the front
  whole_block : (earlier left : List ℕ) (id : ℕ) (rows behind : List ℕ) → (block_start known earlier).read left ≡ Ok (id, rows) → rest_of (pieces.read rows) ≡ Ok behind → (block known earlier).read left ≡ Ok ((id, pieces_in rows), behind)
  whole_block earlier left id rows behind start ends =
      ap (λ r. r >>= λ a. pieces.read a.1 >>= λ b. Ok ((a.0, b.0), b.1)) start ∙ ap (λ r. r >>= λ b. made id b.0 b.1) (rest_ok rows (pieces.read rows) behind refl ends)

  pub blocks_go_on : (found : List Found) (left : List ℕ) (id : ℕ) (rows behind : List ℕ) (total : Result (List Found) BlockHalt) → 0 < length left → (block_start known (ids_of found)).read left ≡ Ok (id, rows) → rest_of (pieces.read rows) ≡ Ok behind
      → found_at len known (length left) found left ≡ total → found_at len known (length behind) (with_block len left found id (pieces_in rows)) behind ≡ total
  blocks_go_on found left id rows behind total some start ends so_far =
      let is = whole_block (ids_of found) left id rows behind start ends in
      let less = fewer (block known (ids_of found)) (block_laws known (ids_of found)) (block_some known (ids_of found)) left (id, pieces_in rows) behind is in
      enough (length behind) (length left - 1) (with_block len left found id (pieces_in rows)) behind (omega arith) (omega (arith, less))
      ∙ sym (step found left some ∙ ap (λ r. r >>= λ x. found_at len known (length left - 1) (with_block len left found x.0.0 x.0.1) x.1) is) ∙ so_far

  pub fewer_left : (found : List Found) (left : List ℕ) (id : ℕ) (rows behind : List ℕ) → (block_start known (ids_of found)).read left ≡ Ok (id, rows) → rest_of (pieces.read rows) ≡ Ok behind → length behind < length left
  fewer_left found left id rows behind start ends =
      fewer (block known (ids_of found)) (block_laws known (ids_of found)) (block_some known (ids_of found)) left (id, pieces_in rows) behind (whole_block (ids_of found) left id rows behind start ends)

  pub start_fails : (found : List Found) (left : List ℕ) (e : BlockHalt) (total : Result (List Found) BlockHalt) → 0 < length left → (block_start known (ids_of found)).read left ≡ Err e → found_at len known (length left) found left ≡ total → total ≡ Err e
  start_fails found left e total some is so_far =
      sym so_far ∙ step found left some
      ∙ ap (λ r. (r >>= λ a. pieces.read a.1 >>= λ b. made a.0 b.0 b.1) >>= λ x. found_at len known (length left - 1) (with_block len left found x.0.0 x.0.1) x.1) is

  rest_err : (r : Reading BlockHalt (List (List ℕ))) (e : BlockHalt) → rest_of r ≡ Err e → r ≡ Err e
  rest_err (Ok x) e is = absurd cc
  rest_err (Err d) e is = cc

  pub pieces_fail : (found : List Found) (left : List ℕ) (id : ℕ) (rows : List ℕ) (e : BlockHalt) (total : Result (List Found) BlockHalt) → 0 < length left → (block_start known (ids_of found)).read left ≡ Ok (id, rows) → rest_of (pieces.read rows) ≡ Err e
      → found_at len known (length left) found left ≡ total → total ≡ Err e
  pieces_fail found left id rows e total some start is so_far =
      sym so_far ∙ step found left some
      ∙ ap (λ r. (r >>= λ a. pieces.read a.1 >>= λ b. made a.0 b.0 b.1) >>= λ x. found_at len known (length left - 1) (with_block len left found x.0.0 x.0.1) x.1) start
      ∙ ap (λ r. (r >>= λ b. made id b.0 b.1) >>= λ x. found_at len known (length left - 1) (with_block len left found x.0.0 x.0.1) x.1) (rest_err (pieces.read rows) e is)

  pub blocks_end : (found : List Found) (left : List ℕ) (total : Result (List Found) BlockHalt) → length left ≡ 0 → found_at len known (length left) found left ≡ total → total ≡ Ok found
  unfolding found_at
  blocks_end found [] total none so_far = sym so_far
  blocks_end found (b ∷ left) total none so_far = absurd cc

  pub rows_suffix : (earlier bytes left : List ℕ) (id : ℕ) (rows : List ℕ) → IsSuffix left bytes → (block_start known earlier).read left ≡ Ok (id, rows) → IsSuffix rows bytes
  rows_suffix earlier bytes left id rows s start =
      let f = (block_start_laws known earlier).found left id rows start in
      suffix_of_suffix bytes left f.front rows s f.parts

  pub behind_suffix : (earlier bytes left : List ℕ) (id : ℕ) (rows behind : List ℕ) → IsSuffix left bytes → (block_start known earlier).read left ≡ Ok (id, rows) → rest_of (pieces.read rows) ≡ Ok behind → IsSuffix behind bytes
  behind_suffix earlier bytes left id rows behind s start ends =
      let f = (block_laws known earlier).found left (id, pieces_in rows) behind (whole_block earlier left id rows behind start ends) in
      suffix_of_suffix bytes left f.front behind s f.parts
