-- A chain of bases ends within as many types as there are behind its first, or never.
use Rattle.std.proofs.Common.{◌≡◌, ℕ, zero, suc, ◌<◌, ◌≤◌, Bool, true, false, true≢false, cond, List, length, Option, Some, None, ◌⊎◌, inl, inr, refl, sym, ap, ◌∙◌, arith, subst}
use Rattle.std.proofs.lemmas.Option.{none-some}
use Rattle.std.proofs.lemmas.Bool.{cases_lt}
use Rattle.cat_rows.specs.declared.types.TypeRow.{TypeRow}
use Rattle.cat_names.specs.Lookups.{same_oid}
use Rattle.cat_book.specs.Chains.{has_base, type_of, base_of, ends_behind, ends_within, chain_ends}
use Rattle.cat_book.proofs.Counts.{count, count_most, Within, Alike, alike, found_alike}

behind_more : (f g : TypeRow → Bool) → Within f g → (o : Option TypeRow) → ends_behind f o ≡ true → ends_behind g o ≡ true
behind_more f g h None e = refl
behind_more f g h (Some b) e = h b e

pub behind_same : (f g : TypeRow → Bool) → ((x : TypeRow) → f x ≡ g x) → (o : Option TypeRow) → ends_behind f o ≡ ends_behind g o
behind_same f g h None = refl
behind_same f g h (Some b) = h b

-- a chain of no more than so many types is of no more than one more
within_more : (types : List TypeRow) (k : ℕ) (row : TypeRow) → ends_within k types row ≡ true → ends_within (suc k) types row ≡ true
unfolding ends_within
within_more types zero row e = absurd (true≢false (sym e))
within_more types (suc k) row e = behind_more (ends_within k types) (ends_within (suc k) types) (within_more types k) (base_of types row) e

-- one type more changes nothing for any of the types
abbrev IsStable : List TypeRow → ℕ → Type 0
IsStable types j = Alike (ends_within j types) (ends_within (suc j) types) types

base_alike : (f g : TypeRow → Bool) (types : List TypeRow) (row b : TypeRow) → Alike f g types → base_of types row ≡ Some b → g b ≡ f b
base_alike f g types row b a e = by (has_base row) e
  where
    by : (h : Bool) → cond h (type_of types row.typbasetype) None ≡ Some b → g b ≡ f b
    by true h = found_alike f g (λ t. same_oid row.typbasetype t.oid) types b a h
    by false h = absurd (none-some b h)

stable_next : (types : List TypeRow) (j : ℕ) → IsStable types j → (row : TypeRow) → ends_within (suc (suc j)) types row ≡ ends_within (suc j) types row
unfolding ends_within
stable_next types j s row = on (base_of types row) (λ b e. base_alike (ends_within j types) (ends_within (suc j) types) types row b s e)
  where
    on : (o : Option TypeRow) → ((b : TypeRow) → o ≡ Some b → ends_within (suc j) types b ≡ ends_within j types b) → ends_behind (ends_within (suc j) types) o ≡ ends_behind (ends_within j types) o
    on None h = refl
    on (Some b) h = h b refl

-- from then on nothing changes
stays : (types : List TypeRow) (j : ℕ) → IsStable types j → (m : ℕ) → suc j ≤ m → (row : TypeRow) → ends_within m types row ≡ ends_within (suc j) types row
unfolding ends_within
stays types j s zero le row = absurd (omega (arith, le))
stays types j s (suc m) le row = by (cases_lt j m) (λ h. stays types j s m h)
  where
    by : (j < m) ⊎ (m ≤ j) → (suc j ≤ m → (r : TypeRow) → ends_within m types r ≡ ends_within (suc j) types r) → ends_within (suc m) types row ≡ ends_within (suc j) types row
    by (inl below) more =
        behind_same (ends_within m types) (ends_within (suc j) types) (more (omega (arith, below))) (base_of types row) ∙ stable_next types j s row
    by (inr at) more =
        let same : m ≡ j = omega (arith, at, le) in
        ap (λ n. ends_within (suc n) types row) same

abbrev Grown : List TypeRow → ℕ → Type 0
Grown types k = ((j : ℕ) × (j < k) × IsStable types j) ⊎ (k ≤ count (ends_within k types) types)

one_more : (types : List TypeRow) (k : ℕ) → k ≤ count (ends_within k types) types
    → (count (ends_within k types) types < count (ends_within (suc k) types) types) ⊎ (count (ends_within (suc k) types) types ≤ count (ends_within k types) types)
    → Grown types (suc k)
one_more types k le (inl more) = inr (omega (arith, le, more))
one_more types k le (inr no_more) = inl (k, omega arith, alike (ends_within k types) (ends_within (suc k) types) (within_more types k) types no_more)

grown_more : (types : List TypeRow) (k : ℕ) → Grown types k → Grown types (suc k)
grown_more types k (inl s) = inl (s.0, omega (arith, s.1), s.2)
grown_more types k (inr le) = one_more types k le (cases_lt (count (ends_within k types) types) (count (ends_within (suc k) types) types))

-- so long as something changes, each step adds a type
grows : (types : List TypeRow) (k : ℕ) → Grown types k
grows types zero = inr (omega arith)
grows types (suc k) = grown_more types k (grows types k)

stable : (types : List TypeRow) → (j : ℕ) × (j < suc (length types)) × IsStable types j
stable types = by (grows types (suc (length types)))
  where
    by : Grown types (suc (length types)) → (j : ℕ) × (j < suc (length types)) × IsStable types j
    by (inl s) = s
    by (inr le) =
        let most = count_most (ends_within (suc (length types)) types) types in
        absurd (omega (arith, le, most))

-- a chain that is of no more than so many types, or more than there are, ends
pub settled : (types : List TypeRow) (m : ℕ) → suc (length types) ≤ m → (row : TypeRow) → ends_within m types row ≡ chain_ends types row
settled types m le row =
    let s = stable types in
    stays types s.0 s.2 m (omega (arith, s.1, le)) row ∙ sym (stays types s.0 s.2 (suc (length types)) (omega (arith, s.1)) row)

-- the chain behind a base ends where that of the base does
pub behind_base : (types : List TypeRow) (row : TypeRow) → ends_behind (chain_ends types) (base_of types row) ≡ chain_ends types row
unfolding ends_within
behind_base types row = settled types (suc (suc (length types))) (omega arith) row

-- a chain of no more than so many types is of no more than a larger number
within_larger : (types : List TypeRow) (n m : ℕ) → n ≤ m → (row : TypeRow) → ends_within n types row ≡ true → ends_within m types row ≡ true
within_larger types n zero le row e =
    let same : n ≡ 0 = omega (arith, le) in
    subst (λ k. ends_within k types row ≡ true) same e
within_larger types n (suc m) le row e = by (cases_lt m n) (λ h. within_larger types n m h row e)
  where
    by : (m < n) ⊎ (n ≤ m) → (n ≤ m → ends_within m types row ≡ true) → ends_within (suc m) types row ≡ true
    by (inl above) more =
        let same : n ≡ suc m = omega (arith, above, le) in
        subst (λ k. ends_within k types row ≡ true) same e
    by (inr below) more = within_more types m row (more below)

-- a chain that ends at all ends within the types
pub ends_at_all : (types : List TypeRow) (row : TypeRow) (n : ℕ) → ends_within n types row ≡ true → chain_ends types row ≡ true
ends_at_all types row n e = by (cases_lt n (suc (length types)))
  where
    by : (n < suc (length types)) ⊎ (suc (length types) ≤ n) → chain_ends types row ≡ true
    by (inl short) = within_larger types n (suc (length types)) (omega (arith, short)) row e
    by (inr long) = sym (settled types n long row) ∙ e
