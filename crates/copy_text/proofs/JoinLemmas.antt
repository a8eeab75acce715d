-- The pieces of a line, joined by tabs, are the line; only the last piece can end in a backslash that escapes nothing.
use Rattle.std.proofs.Common.{◌≡◌, ℕ, zero, suc, ◌+◌, ◌<◌, Bool, true, false, eqb, List, [], ◌∷◌, ◌++◌, length, get_or, refl, sym, ap, subst, ◌∙◌, arith, inl, inr, ◌⊎◌}
use Rattle.std.specs.List.{All, AllByRecursion, onto_first, join_with_byte}
use Rattle.std.proofs.lemmas.Bool.{cases_Bool, eqb-true}
use Rattle.std.proofs.lemmas.List.{get_or_append_left, get_or-append-add, length-append}
use Rattle.std.proofs.lemmas.List.Elements.{All-append}
use Rattle.copy_text.specs.Marks.{tab, backslash}
use Rattle.copy_text.specs.Pieces.{pieces, pieces_after, ends_escaping, ends_in_backslash}

-- ---- how pieces are made, step by step

pub after_nil : (escaped : Bool) → pieces_after escaped [] ≡ [] ∷ []
unfolding pieces_after
after_nil true = refl
after_nil false = refl

pub after_escaped : (b : ℕ) (rest : List ℕ) → pieces_after true (b ∷ rest) ≡ onto_first b (pieces_after false rest)
unfolding pieces_after
after_escaped b rest = refl

pub after_tab : (b : ℕ) (rest : List ℕ) → eqb b tab ≡ true → pieces_after false (b ∷ rest) ≡ [] ∷ pieces_after false rest
unfolding pieces_after
after_tab b rest is = rw is refl

pub after_other : (b : ℕ) (rest : List ℕ) → eqb b tab ≡ false → pieces_after false (b ∷ rest) ≡ onto_first b (pieces_after (eqb b backslash) rest)
unfolding pieces_after
after_other b rest other = rw other refl

-- a line has a piece, and the first of one that has more is a byte longer
onto_some : (b : ℕ) (parts : List (List ℕ)) → 0 < length (onto_first b parts)
onto_some b [] = omega arith
onto_some b (p ∷ ps) = omega arith

pub after_some : (escaped : Bool) (line : List ℕ) → 0 < length (pieces_after escaped line)
after_some escaped [] = rw after_nil (omega arith)
after_some true (b ∷ rest) = rw after_escaped (onto_some b (pieces_after false rest))
after_some false (b ∷ rest) = elim (cases_Bool (eqb b tab)) [
  | inl is ↦ rw (after_tab b rest is) (omega arith)
  | inr other ↦ rw (after_other b rest other) (onto_some b (pieces_after (eqb b backslash) rest))
]

-- ---- joined again

join : List (List ℕ) → List ℕ
join parts = join_with_byte tab parts

join_onto : (b : ℕ) (parts : List (List ℕ)) → join_with_byte tab (onto_first b parts) ≡ b ∷ join_with_byte tab parts
join_onto b [] = refl
join_onto b (p ∷ []) = refl
join_onto b (p ∷ q ∷ ps) = refl

join_tab : (parts : List (List ℕ)) → 0 < length parts → join_with_byte tab ([] ∷ parts) ≡ tab ∷ join_with_byte tab parts
join_tab [] some = absurd (omega arith)
join_tab (p ∷ ps) some = refl

join_after : (escaped : Bool) (line : List ℕ) → join_with_byte tab (pieces_after escaped line) ≡ line
join_after escaped [] = ap (join_with_byte tab) (after_nil escaped)
join_after true (b ∷ rest) = ap (join_with_byte tab) (after_escaped b rest) ∙ join_onto b (pieces_after false rest) ∙ ap (λ (xs : List ℕ). b ∷ xs) (join_after false rest)
join_after false (b ∷ rest) = by (cases_Bool (eqb b tab)) (join_after false rest) (join_after (eqb b backslash) rest)
  where
    by : (eqb b tab ≡ true) ⊎ (eqb b tab ≡ false) → join_with_byte tab (pieces_after false rest) ≡ rest → join_with_byte tab (pieces_after (eqb b backslash) rest) ≡ rest
        → join_with_byte tab (pieces_after false (b ∷ rest)) ≡ b ∷ rest
    by (inl is) later other =
        let same : b ≡ tab = eqb-true b tab is in
        ap (join_with_byte tab) (after_tab b rest is) ∙ join_tab (pieces_after false rest) (after_some false rest) ∙ ap (λ (xs : List ℕ). tab ∷ xs) later ∙ ap (λ (c : ℕ). c ∷ rest) (sym same)
    by (inr no_tab) later other =
        ap (join_with_byte tab) (after_other b rest no_tab) ∙ join_onto b (pieces_after (eqb b backslash) rest) ∙ ap (λ (xs : List ℕ). b ∷ xs) other

pub join_pieces : (line : List ℕ) → join_with_byte tab (pieces line) ≡ line
join_pieces line = join_after false line

-- ---- the last piece alone can end in a backslash

-- each piece but the last is closed
abbrev pub Closed : Bool → List (List ℕ) → Type 0
Closed escaped [] = Unit {0}
Closed escaped (p ∷ []) = Unit {0}
Closed escaped (p ∷ q ∷ ps) = (ends_escaping escaped p ≡ false) × Closed false (q ∷ ps)

abbrev pub last_ends : Bool → List (List ℕ) → Bool
last_ends escaped [] = escaped
last_ends escaped (p ∷ []) = ends_escaping escaped p
last_ends escaped (p ∷ q ∷ ps) = last_ends false (q ∷ ps)

ends_nil : (escaped : Bool) → ends_escaping escaped [] ≡ escaped
unfolding ends_escaping
ends_nil true = refl
ends_nil false = refl

ends_true : (b : ℕ) (rest : List ℕ) → ends_escaping true (b ∷ rest) ≡ ends_escaping false rest
unfolding ends_escaping
ends_true b rest = refl

ends_false : (b : ℕ) (rest : List ℕ) → ends_escaping false (b ∷ rest) ≡ ends_escaping (eqb b backslash) rest
unfolding ends_escaping
ends_false b rest = refl

-- one byte more in front
module _ (b : ℕ) (before after : Bool) (step : (p : List ℕ) → ends_escaping before (b ∷ p) ≡ ends_escaping after p) where
  closed_onto : (parts : List (List ℕ)) → 0 < length parts → Closed after parts → Closed before (onto_first b parts)
  closed_onto [] some closed = tt
  closed_onto (p ∷ []) some closed = tt
  closed_onto (p ∷ q ∷ ps) some closed = (step p ∙ closed.0, closed.1)

  last_onto : (parts : List (List ℕ)) → 0 < length parts → last_ends before (onto_first b parts) ≡ last_ends after parts
  last_onto [] some = absurd (omega arith)
  last_onto (p ∷ []) some = step p
  last_onto (p ∷ q ∷ ps) some = refl

closed_tab : (parts : List (List ℕ)) → Closed false parts → Closed false ([] ∷ parts)
closed_tab [] closed = tt
closed_tab (p ∷ ps) closed = (ends_nil false, closed)

last_tab : (parts : List (List ℕ)) → 0 < length parts → last_ends false ([] ∷ parts) ≡ last_ends false parts
last_tab [] some = absurd (omega arith)
last_tab (p ∷ ps) some = refl

closed_after : (escaped : Bool) (line : List ℕ) → Closed escaped (pieces_after escaped line) × (last_ends escaped (pieces_after escaped line) ≡ ends_escaping escaped line)
closed_after escaped [] = rw after_nil (tt, refl)
closed_after true (b ∷ rest) =
    let later : Closed false (pieces_after false rest) × (last_ends false (pieces_after false rest) ≡ ends_escaping false rest) = closed_after false rest in
    let some : 0 < length (pieces_after false rest) = after_some false rest in
    rw after_escaped (
      closed_onto b true false (ends_true b) (pieces_after false rest) some later.0,
      last_onto b true false (ends_true b) (pieces_after false rest) some ∙ later.1 ∙ sym (ends_true b rest),
    )
closed_after false (b ∷ rest) = by (cases_Bool (eqb b tab)) (closed_after false rest) (closed_after (eqb b backslash) rest)
  where
    by : (eqb b tab ≡ true) ⊎ (eqb b tab ≡ false)
        → Closed false (pieces_after false rest) × (last_ends false (pieces_after false rest) ≡ ends_escaping false rest)
        → Closed (eqb b backslash) (pieces_after (eqb b backslash) rest) × (last_ends (eqb b backslash) (pieces_after (eqb b backslash) rest) ≡ ends_escaping (eqb b backslash) rest)
        → Closed false (pieces_after false (b ∷ rest)) × (last_ends false (pieces_after false (b ∷ rest)) ≡ ends_escaping false (b ∷ rest))
    by (inl is) later other =
        let same : b ≡ tab = eqb-true b tab is in
        let no_backslash : ends_escaping false (b ∷ rest) ≡ ends_escaping false rest = ends_false b rest ∙ ap (λ (c : ℕ). ends_escaping (eqb c backslash) rest) same in
        rw (after_tab b rest is) (closed_tab (pieces_after false rest) later.0, last_tab (pieces_after false rest) (after_some false rest) ∙ later.1 ∙ sym no_backslash)
    by (inr no_tab) later other =
        let escaped : Bool = eqb b backslash in
        let some : 0 < length (pieces_after escaped rest) = after_some escaped rest in
        rw (after_other b rest no_tab) (
          closed_onto b false escaped (ends_false b) (pieces_after escaped rest) some other.0,
          last_onto b false escaped (ends_false b) (pieces_after escaped rest) some ∙ other.1 ∙ sym (ends_false b rest),
        )

pub pieces_closed : (line : List ℕ) → Closed false (pieces line)
pieces_closed line = (closed_after false line).0

pub pieces_last : (line : List ℕ) → last_ends false (pieces line) ≡ ends_in_backslash line
pieces_last line = (closed_after false line).1

-- ---- what holds of each byte

module _ (P : ℕ → Type 0) where
  -- of each piece's bytes, if of the line's
  each_part : (parts : List (List ℕ)) → All P (join_with_byte tab parts) → AllByRecursion (All P) parts
  each_part [] all = tt
  each_part (p ∷ []) all = (all, tt)
  each_part (p ∷ q ∷ ps) all =
      let rest : List ℕ = join_with_byte tab (q ∷ ps) in (
        λ k d lt. rw (← get_or_append_left p (tab ∷ rest) d k lt) (all k d (omega (arith, length-append p (tab ∷ rest)))),
        each_part (q ∷ ps) (λ k d lt. rw (← shifted p rest k d) (all (length p + suc k) d (omega (arith, length-append p (tab ∷ rest))))),
      )
    where
      shifted : (xs ys : List ℕ) (k d : ℕ) → get_or (xs ++ tab ∷ ys) (length xs + suc k) d ≡ get_or ys k d
      shifted xs ys k d = get_or-append-add xs (tab ∷ ys) (suc k) d

  pub each_piece : (line : List ℕ) → All P line → AllByRecursion (All P) (pieces line)
  each_piece line all = each_part (pieces line) (subst (All P) (sym (join_pieces line)) all)

  -- of the line's, if of each piece's
  joined_parts : (parts : List (List ℕ)) → P tab → AllByRecursion (All P) parts → All P (join_with_byte tab parts)
  joined_parts [] at_tab each = λ k d lt. absurd (omega arith)
  joined_parts (p ∷ []) at_tab each = each.0
  joined_parts (p ∷ q ∷ ps) at_tab each = All-append P p (tab ∷ join_with_byte tab (q ∷ ps)) each.0 (All-append P (tab ∷ []) (join_with_byte tab (q ∷ ps)) one (joined_parts (q ∷ ps) at_tab each.1))
    where
      one : All P (tab ∷ [])
      one zero d lt = at_tab
      one (suc k) d lt = absurd (omega arith)

  pub whole_line : (line : List ℕ) → P tab → AllByRecursion (All P) (pieces line) → All P line
  whole_line line at_tab each = subst (All P) (join_pieces line) (joined_parts (pieces line) at_tab each)
