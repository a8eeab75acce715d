-- A default is written with the tokens that it has, with NOT NULL behind it or without; and what is read of a text as a
-- default can be written.
use Rattle.ddl_forms.proofs.Common.{◌≡◌, ℕ, suc, ◌-◌, Bool, true, false, List, [], ◌∷◌, ◌++◌, length, length-append, append-nil, drop, Some, refl, sym, ap, subst, ◌∙◌, ◌⊎◌, arith, inl, inr, codes, and_from, take_at, drop_at, is_keyword_of, Spot, First, LaterNot, Closed as Shut, Lexeme, source, is_word, is_sign, run, Nest, nested, nest_step, nest_done, ends_run, default_and_null, are_not_null, without_not_null, words_apart, nest, run_none, IsDefaultText, only_if, joined, Part, choose, seen, nothing, mark, never, runs_of, ◌▸◌, ◌then◌, passes_true}
use Rattle.ddl_forms.proofs.{Tokens.space, RunTexts.not_some, RunTexts.run_some, RunTexts.run-append, Behind.Safe, Written.Written, Written.pieces_as, Expressions.nested_plain, Written.is_key, Written.carry_as, Written.then_as, Written.run_as, Written.after_as, Written.choose_as, Written.lead_as, Written.word_as, Written.seen_as, Written.mark_as, Written.nothing_as}

-- ---- steps of the two machines of defaults

abbrev is_shut : Spot → Bool
is_shut Shut = true
is_shut _ = false

-- a step where NOT NULL isn't taken goes as where it is, and never behind it
step_more : (s x : Nest) (t : Lexeme) → nest_step true false s t ≡ Some x → (nest_step true true s t ≡ Some x) × (is_shut x.spot ≡ false)
unfolding nest_step
step_more s x t e = grind arith

-- A step where it is taken: one where it isn't, and behind a later NOT by that word alone; or NULL behind a later NOT.
step_goes : (s x : Nest) (t : Lexeme) → nest_step true true s t ≡ Some x
    → ((nest_step true false s t ≡ Some x) × (x.spot ≡ LaterNot → (is_word (codes "not") t ≡ true) × (nest_done s ≡ true))) ⊎ ((is_word (codes "null") t ≡ true) × (s.spot ≡ LaterNot) × (x ≡ nest [] Shut))
unfolding nest_step nest_done
step_goes s x t e = grind arith

run_more : (s last : Nest) (ts : List Lexeme) → is_shut s.spot ≡ false → run (nested true false) (Some s) ts ≡ Some last → (run (nested true true) (Some s) ts ≡ Some last) × (is_shut last.spot ≡ false)
run_more s last [] free e = (e, grind arith)
run_more s last (t ∷ ts) free e =
    let n = run_some (nested true false) (nest_step true false s t) ts last e in
    let m = step_more s n.0 t n.1 in
    let g = run_more n.0 last ts m.1 n.2 in
    (rw m.0 g.0, g.1)

-- ---- NOT NULL at the end

null_refused : (s x y : Nest) (a b : Lexeme) → nest_step true false s a ≡ Some x → nest_step true false x b ≡ Some y → is_word (codes "not") a ≡ true → is_word (codes "null") b ≡ true → nest_done y ≡ false
unfolding nest_step nest_done is_keyword_of is_word
null_refused s x y a b e f is null = grind (arith, (words_apart (codes "null") (codes "not") refl b null))

abbrev are_nulls : List Lexeme → Bool
are_nulls ts = are_not_null (drop (length ts - 2) ts)

without_nulls : (ts : List Lexeme) → are_nulls ts ≡ false → without_not_null ts ≡ (source ts, false)
unfolding without_not_null
without_nulls ts isnt = rw isnt refl

no_nulls : (s last : Nest) (ts : List Lexeme) → run (nested true false) (Some s) ts ≡ Some last → nest_done last ≡ true → are_nulls ts ≡ false
no_nulls s last [] e done = refl
no_nulls s last (a ∷ []) e done = refl
no_nulls s last (a ∷ b ∷ []) e done = grind (arith, null_refused)
no_nulls s last (a ∷ b ∷ c ∷ ts) e done =
    let n = run_some (nested true false) (nest_step true false s a) (b ∷ c ∷ ts) last e in
    let less : length (a ∷ b ∷ c ∷ ts) - 2 ≡ suc (length (b ∷ c ∷ ts) - 2) = omega arith in
    rw less (no_nulls n.0 last (b ∷ c ∷ ts) n.2 done)

-- where NOT NULL is taken, a run is one where it isn't, or such a one and NOT NULL, or NULL behind a later NOT
data IsRead (s last : Nest) : List Lexeme → Type 0 where
  alone : (ts : List Lexeme) → run (nested true false) (Some s) ts ≡ Some last → IsRead s last ts
  before : (ts : List Lexeme) (x : Nest) (a b : Lexeme) → run (nested true false) (Some s) ts ≡ Some x → nest_done x ≡ true → is_word (codes "not") a ≡ true → is_word (codes "null") b ≡ true → IsRead s last (ts ++ a ∷ b ∷ [])
  half : (b : Lexeme) → is_word (codes "null") b ≡ true → s.spot ≡ LaterNot → IsRead s last (b ∷ [])

run_is : (s last : Nest) (ts : List Lexeme) → run (nested true true) (Some s) ts ≡ Some last → IsRead s last ts
unfolding nest_step
run_is s last [] e = alone [] e
run_is s last (t ∷ ts) e =
    let n = run_some (nested true true) (nest_step true true s t) ts last e in
    elim (step_goes s n.0 t n.1) [ inl g ↦ more n.0 g.0 g.1 ts (run_is n.0 last ts n.2) | inr c ↦ shut ts (rw c.2 at n.2) c.0 c.1 ]
  where
    more : (x : Nest) → nest_step true false s t ≡ Some x → (x.spot ≡ LaterNot → (is_word (codes "not") t ≡ true) × (nest_done s ≡ true)) → (us : List Lexeme) → IsRead x last us → IsRead s last (t ∷ us)
    more x e f _ (alone us runs) = alone (t ∷ us) (rw e runs)
    more x e f _ (before us y a b runs done not null) = before (t ∷ us) y a b (rw e runs) done not null
    more x e f _ (half b is spot) = before [] s t b refl (f spot).1 (f spot).0 is

    shut : (us : List Lexeme) → run (nested true true) (Some (nest [] Shut)) us ≡ Some last → is_word (codes "null") t ≡ true → s.spot ≡ LaterNot → IsRead s last (t ∷ us)
    shut [] e is spot = half t is spot
    shut (u ∷ us) e is spot = grind (arith, not_some, run_none)

-- ---- a default and NOT NULL, or nothing, behind it

abbrev pub null_words : List ℕ
null_words = codes " NOT NULL"

abbrev pub with_null : Part (List ℕ × Bool)
with_null = seen source (runs_of (nested true false)) then choose never (is_word (codes "not") ▸ seen (λ u. true) (mark (is_word (codes "null")))) (nothing never false)

not_taken : (s : Nest) (a : Lexeme) → is_shut s.spot ≡ false → nest_done s ≡ true → is_word (codes "not") a ≡ true → nest_step true true s a ≡ Some (nest [] LaterNot)
unfolding nest_step nest_done ends_run is_word is_sign is_keyword_of
not_taken s a free done is = grind (arith, (words_apart (codes "not") (codes "default") refl a is), (words_apart (codes "not") (codes "constraint") refl a is))

null_taken : (b : Lexeme) → is_word (codes "null") b ≡ true → nest_step true true (nest [] LaterNot) b ≡ Some (nest [] Shut)
unfolding nest_step ends_run is_word is_sign is_keyword_of
null_taken b is = grind (arith, (words_apart (codes "null") (codes "not") refl b is), (words_apart (codes "null") (codes "default") refl b is), (words_apart (codes "null") (codes "constraint") refl b is))

pub spells_whole : (x : List ℕ × Bool) (ts : List Lexeme) → with_null.Spells x ts → default_and_null.Spells x ts
unfolding default_and_null without_not_null nest_done
spells_whole x ts s =
    let r = s.3.2.1 in
    let more = run_more (nest [] First) r.last s.0 refl r.runs in
    let whole : x.0 ≡ source s.0 = s.3.1 ∙ ap source s.3.2.0 in
    elim s.4 [
      | inl h ↦
          let a = h.2.3.0 in
          let b = h.2.4.2.0 in
          let not : is_word (codes "not") a ≡ true = passes_true tt _ h.2.3.2 in
          let null : is_word (codes "null") b ≡ true = passes_true tt _ h.2.4.2.2 in
          let runs = run-append (nested true true) (Some (nest [] First)) s.0 (a ∷ b ∷ []) ∙ rw (more.0, not_taken r.last a more.1 r.done not, null_taken b null) refl in
          rw (s.2, h.2.2, h.2.3.1, h.2.4.2.1) (s.0 ++ a ∷ b ∷ [], grind (arith, and_from, take_at, length-append, drop_at), (refl, record { last = nest [] Shut; runs = runs; done = refl }))
      | inr h ↦
          let pair : (x.0, x.1) ≡ (source s.0, false) = cc (whole, h.0) in
          rw (s.2, h.1, append-nil) (s.0, pair ∙ sym (without_nulls s.0 (no_nulls (nest [] First) r.last s.0 r.runs r.done)), (refl, record { last = r.last; runs = more.0; done = r.done }))
    ]

heard : (ts : List Lexeme) (last : Nest) → nest_done last ≡ true → IsRead (nest [] First) last ts → (y : List ℕ × Bool) × with_null.Spells y ts × ((without_not_null ts).0 ≡ y.0)
unfolding without_not_null
heard _ last done (alone ts runs) = ((source ts, false), (ts, [], sym (append-nil ts), (ts, refl, (refl, record { last = last; runs = runs; done = done })), inr (refl, refl)), ap (λ (y : List ℕ × Bool). y.0) (without_nulls ts (no_nulls (nest [] First) last ts runs done)))
heard _ last done (before ts x a b runs end not null) =
    ((source ts, true), (ts, a ∷ b ∷ [], refl, (ts, refl, (refl, record { last = x; runs = runs; done = end })), inl ((tt, true), refl, (a ∷ [], b ∷ [], refl, (a, refl, rw not refl), (tt, refl, (b, refl, rw null refl))))), grind (arith, and_from, take_at, length-append, drop_at))
heard _ last done (half b is spot) = absurd cc

pub whole_heard : (x : List ℕ × Bool) (ts : List Lexeme) → default_and_null.Spells x ts → (y : List ℕ × Bool) × with_null.Spells y ts × (x.0 ≡ y.0)
unfolding default_and_null
whole_heard x ts s =
    let q = s.2.1 in
    let h = heard ts q.last q.done (run_is (nest [] First) q.last ts q.runs) in
    (h.0, h.1, ap (λ (y : List ℕ × Bool). y.0) (s.1 ∙ ap without_not_null s.2.0) ∙ h.2)

pub are_keys : (is_key (codes "not") (codes "NOT") ≡ true) × (is_key (codes "null") (codes "NULL") ≡ true)
unfolding is_key
are_keys = (refl, refl)

abbrev pub null_fits : (b : Bool) → ((u : Unit {0}) × Unit {0} × (true ≡ b)) ⊎ (b ≡ false)
null_fits true = inl (tt, tt, refl)
null_fits false = inr refl

abbrev pub with_null_as : Written with_null
with_null_as =
    then_as (run_as (nested_plain true false) space)
    (after_as (choose_as (lead_as (word_as space (codes "NOT") are_keys.0) (seen_as (λ u. true) (mark_as (word_as space (codes "NULL") are_keys.1))) refl) (nothing_as false)) Safe refl) refl

pub same_bytes : (v : List ℕ) (b : Bool) (is : IsDefaultText v) → joined (with_null_as.pieces (v, b) (is, null_fits b)) ≡ joined ((32 ∷ []) ∷ v ∷ only_if b null_words ∷ [])
same_bytes v true is = refl
same_bytes v false is = refl

-- a default, and whether NOT NULL stands behind it
abbrev pub default_and_null_as : Written default_and_null
default_and_null_as =
    pieces_as (carry_as with_null_as default_and_null (λ x. IsDefaultText x.0) (λ x. IsDefaultText x.0) (λ x is. (x, (is, null_fits x.1))) (λ x is. spells_whole x) (λ x ts s. let h = whole_heard x ts s in (h.0, h.1, λ is. subst IsDefaultText (sym h.2) is.0)))
    (λ x is. (32 ∷ []) ∷ x.0 ∷ only_if x.1 null_words ∷ []) (λ x is. same_bytes x.0 x.1 is)
