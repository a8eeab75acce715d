-- The laws of any number of parts, one after another.
use Rattle.ddl_part_laws.proofs.Common.{◌≡◌, ℕ, zero, suc, ◌<◌, ◌≤◌, Bool, true, false, List, [], ◌∷◌, ◌++◌, length, Ok, Err, refl, sym, ap, subst, ◌∙◌, append_assoc, length-append, arith, Lexeme, starts, Stop, Reading, ◌>>=◌, Items, Many, no_more, one_more, many, many_at, Lawful, Begins, Apart}
use Rattle.ddl_part_laws.proofs.{Steps.Agrees, Steps.starts-append, Steps.starts_again, Told.Told, Told.Tells, Told.told, Told.lawful, Told.told_on, Told.told_stopped}

-- What items need so that they can be told apart: each has the laws where one may begin, and begins with its own tokens,
-- an item can't go on with the beginning of the next, and what `goes_on` leaves out begins no item and goes on with none.
pub record AreApart {A : Type 0} (goes_on : Lexeme → Bool) (items : Items A) : Type 0 where
  pub laws : (s : items.State) (ts : List Lexeme) → starts (items.more s) ts ≡ true → Lawful (items.item s)
  pub agrees : (s : items.State) → Agrees (items.more s)
  pub begins : (s : items.State) → Begins (items.more s) (items.item s)
  pub apart : (s : items.State) (v : A) → Apart (items.more (items.next s v)) (items.item s).goes_on
  pub covers : (s : items.State) (t : Lexeme) → goes_on t ≡ false → (items.more s t ≡ false) × ((items.item s).goes_on t ≡ false)

-- what begins with something has a token
begun_long : (test : Lexeme → Bool) (ts : List Lexeme) → starts test ts ≡ true → 0 < length ts
begun_long test ts e = grind arith

-- ---- how they are read

-- an item before others
abbrev pub with_first : {A : Type 0} → A → Reading (List A) → Reading (List A)
with_first v r = r >>= λ others. Ok (v ∷ others.0, others.1)

-- the items from a state on
abbrev pub items_from : {A : Type 0} → (items : Items A) → items.State → List Lexeme → Reading (List A)
items_from items s ts = many_at items (length ts) s ts

module _ {A : Type 0} (items : Items A) where
  -- an item and those behind it, by how these are read
  abbrev behind : (items.State → List Lexeme → Reading (List A)) → items.State → Reading A → Reading (List A)
  behind others s r = r >>= λ first. with_first first.0 (others (items.next s first.0) first.1)

  none_read : (n : ℕ) (s : items.State) (ts : List Lexeme) → starts (items.more s) ts ≡ false → many_at items n s ts ≡ Ok ([], ts)
  unfolding many_at
  none_read n s ts e = grind arith

  item_read : (n : ℕ) (s : items.State) (ts : List Lexeme) (r : Reading A) → starts (items.more s) ts ≡ true → (items.item s).read ts ≡ r → many_at items (suc n) s ts ≡ behind (many_at items n) s r
  unfolding many_at
  item_read n s ts r begins e = rw (begins, e) refl

  pub from_none : (s : items.State) (ts : List Lexeme) → starts (items.more s) ts ≡ false → items_from items s ts ≡ Ok ([], ts)
  from_none s ts none = none_read (length ts) s ts none

  pub from_stop : (s : items.State) (ts : List Lexeme) (u : Stop) → starts (items.more s) ts ≡ true → (items.item s).read ts ≡ Err u → items_from items s ts ≡ Err u
  from_stop s [] u begins e = absurd cc
  from_stop s (t ∷ ts) u begins e = item_read (length ts) s (t ∷ ts) (Err u) begins e

module _ {A : Type 0} {goes_on : Lexeme → Bool} {items : Items A} (h : AreApart goes_on items) where
  -- each item takes a token
  pub takes : (s : items.State) (ts : List Lexeme) (v : A) (rest : List Lexeme) → starts (items.more s) ts ≡ true → (items.item s).read ts ≡ Ok (v, rest) → length rest < length ts
  takes s ts v rest begins e =
      let f = (h.laws s ts begins).found ts v rest e in
      omega (arith, begun_long (items.more s) f.front (h.begins s v f.front f.spells), ap (λ (r : List Lexeme). length r) f.parts ∙ length-append f.front rest)

  -- so that those behind it are read alike where they are with fewer tokens
  alike : (f g : items.State → List Lexeme → Reading (List A)) (s : items.State) (ts : List Lexeme) → starts (items.more s) ts ≡ true → ((s' : items.State) (us : List Lexeme) → length us < length ts → f s' us ≡ g s' us)
      → (r : Reading A) → (items.item s).read ts ≡ r → behind items f s r ≡ behind items g s r
  alike f g s ts begins same (Err u) is = refl
  alike f g s ts begins same (Ok x) is = ap (with_first x.0) (same (items.next s x.0) x.1 (takes s ts x.0 x.1 begins is))

  -- and there are no more items than tokens
  enough : (n m : ℕ) (s : items.State) (ts : List Lexeme) → length ts ≤ n → length ts ≤ m → (b : Bool) → starts (items.more s) ts ≡ b → many_at items n s ts ≡ many_at items m s ts
  enough n m s ts le le' false e = none_read items n s ts e ∙ sym (none_read items m s ts e)
  enough zero m s ts le le' true e = absurd (omega (arith, begun_long (items.more s) ts e))
  enough (suc n) zero s ts le le' true e = absurd (omega (arith, begun_long (items.more s) ts e))
  enough (suc n) (suc m) s ts le le' true e =
      let r = (items.item s).read ts in
      item_read items n s ts r e refl ∙ alike (many_at items n) (many_at items m) s ts e (λ s' us less. enough n m s' us (omega arith) (omega arith) (starts (items.more s') us) refl) r refl ∙ sym (item_read items m s ts r e refl)

  pub from_read : (s : items.State) (ts : List Lexeme) (r : Reading A) → starts (items.more s) ts ≡ true → (items.item s).read ts ≡ r → items_from items s ts ≡ (r >>= λ first. with_first first.0 (items_from items (items.next s first.0) first.1))
  from_read s [] r begins e = absurd cc
  from_read s (t ∷ ts) r begins e =
      item_read items (length ts) s (t ∷ ts) r begins e
      ∙ alike (many_at items (length ts)) (items_from items) s (t ∷ ts) begins (λ s' us less. enough (length ts) (length us) s' us (omega arith) (omega arith) (starts (items.more s') us) refl) r e

  -- ---- what is read, and where reading stops

  abbrev TellsFrom : items.State → List Lexeme → Reading (List A) → Type 0
  TellsFrom s ts r = Told (Many items s) (items_from items s) ts r

  item_tells : (s : items.State) (ts : List Lexeme) → starts (items.more s) ts ≡ true → ((s' : items.State) (us : List Lexeme) → length us < length ts → TellsFrom s' us (items_from items s' us)) → (r : Reading A) → (items.item s).read ts ≡ r
      → Tells (items.item s) ts r → TellsFrom s ts (r >>= λ first. with_first first.0 (items_from items (items.next s first.0) first.1))
  item_tells s ts begins later (Ok x) is f =
      told_on (λ vs. x.0 ∷ vs) ts x.0 x.1 (items_from items (items.next s x.0) x.1) f (later (items.next s x.0) x.1 (takes s ts x.0 x.1 begins is)) (λ vs b others. one_more s x.0 vs f.front b f.fits others)
      (λ rest e. from_read s (f.front ++ rest) (Ok (x.0, rest)) (starts-append (items.more s) f.front rest (h.begins s x.0 f.front f.fits)) e)
  item_tells s ts begins later (Err u) is f =
      told_stopped ts u f (λ v a spells. (v ∷ [], [], one_more s v [] a [] spells (no_more (items.next s v))))
      (λ t behind at x like other e. from_read s (f.front ++ x ∷ other) (Err (record { long = u.long; rest = x ∷ other })) (starts_again (items.more s) (h.agrees s) true ts f.front u.rest t behind begins f.parts at u.long x like other) e)

  many_tell : (n : ℕ) (s : items.State) (ts : List Lexeme) → length ts ≤ n → (b : Bool) → starts (items.more s) ts ≡ b → TellsFrom s ts (items_from items s ts)
  many_tell n s ts le false none =
      subst (TellsFrom s ts) (sym (from_none items s ts none)) (record {
        front = [];
        parts = refl;
        fits = no_more s;
        local = λ t behind is u like other. from_none items s (u ∷ other) (starts_again (items.more s) (h.agrees s) false ts [] ts t behind none refl is false u like other);
        named = λ e. absurd cc;
      })
  many_tell zero s ts le true begins = absurd (omega (arith, begun_long (items.more s) ts begins))
  many_tell (suc n) s ts le true begins =
      let r = (items.item s).read ts in
      subst (TellsFrom s ts) (sym (from_read s ts r begins refl)) (item_tells s ts begins (λ s' us less. many_tell n s' us (omega arith) (starts (items.more s') us) refl) r refl (told (h.laws s ts begins) ts r refl))

  -- ---- what is spelled

  -- what follows an item, another item or what may follow them all, doesn't go on with it
  free_behind : (s : items.State) (v : A) (s' : items.State) → items.next s v ≡ s' → (vs : List A) (b rest : List Lexeme) → Many items s' vs b → starts goes_on rest ≡ false → starts (items.item s).goes_on (b ++ rest) ≡ false
  free_behind s v s' is vs b rest k free = grind arith

  many_only : (s : items.State) (vs : List A) (front rest : List Lexeme) → Many items s vs front → starts goes_on rest ≡ false → items_from items s (front ++ rest) ≡ Ok (vs, rest)
  many_only s _ _ rest (no_more _) free = from_none items s rest (grind arith)
  many_only s _ _ rest (one_more _ v vs a b spells others) free =
      let begins = h.begins s v a spells in
      let first = (h.laws s a begins).only v a (b ++ rest) spells (free_behind s v (items.next s v) refl vs b rest others free) in
      ap (items_from items s) (append_assoc a b rest) ∙ from_read s (a ++ (b ++ rest)) (Ok (v, b ++ rest)) (starts-append (items.more s) a (b ++ rest) begins) first ∙ ap (with_first v) (many_only (items.next s v) vs b rest others free)

  -- any number of items has the laws where they can be told apart
  pub many_laws : Lawful (many goes_on items)
  many_laws = lawful (λ ts. many_tell (length ts) items.start ts (omega arith) (starts (items.more items.start) ts) refl) (λ vs front rest spells free. many_only items.start vs front rest spells free) (record { value = []; tokens = []; spells = no_more items.start })
