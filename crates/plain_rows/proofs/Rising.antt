-- A key that stands behind all others is none of them.
use Rattle.std.proofs.Common.{◌≡◌, ℕ, Bool, true, false, ◌||◌, List, ◌∷◌, length, Option, Some, None, sym, ap, ◌∙◌, inl, inr, ◌⊎◌}
use Rattle.std.specs.Borrow.{Bor}
use Rattle.std.specs.declared.cmp.Ordering.TheVariants.{Less, Equal}
use Rattle.std.specs.Cmp.{IsTotalOrder, on_total, tied_itself}
use Rattle.std.specs.List.{list_any}
use Rattle.std.specs.Option.{IfSome}
use Rattle.std.proofs.lemmas.Bool.{false_from_ne_true, cases_Bool, true≢false}
use Rattle.std.proofs.lemmas.Cmp.{nat_list_cmp_total}
use Rattle.cat_model.specs.Values.{Bytes}
use Rattle.cat_model.specs.Lexemes.{same_text}
use Rattle.cat_model.proofs.MarkLaws.{same_text-equal}
use Rattle.plain_rows.specs.Lines.{AreUpTo, by_length}

total : IsTotalOrder by_length
total = on_total (λ (a : Bytes). length a ∷ a) nat_list_cmp_total

not_before_itself : (key : Bytes) → by_length key key ≡ Less → ⊥
not_before_itself key less = apart (sym less ∙ tied_itself total key)
  where
    apart : Less ≡ Equal → ⊥
    apart e = absurd cc

before : (last key q : Bytes) → by_length last key ≡ Less → (q ≡ last) ⊎ (by_length q last ≡ Less) → by_length q key ≡ Less
before last key q less (inl same) = ap (λ (x : Bytes). by_length x key) same ∙ less
before last key q less (inr earlier) = total.trans q last key earlier less

pub is_new : (last : Option (Bor (List ℕ))) (key : Bytes) (known : List Bytes) → IfSome last (λ l. by_length l.now key ≡ Less) → AreUpTo last known → list_any (same_text key) known ≡ false
is_new None key known behind are = are key
is_new (Some last) key known behind are = false_from_ne_true _ (λ there. not_before_itself key (before last.now key key behind (are key there)))

known_too : (key q : Bytes) (known : List Bytes) → same_text q key ≡ false → list_any (same_text q) (key ∷ known) ≡ true → list_any (same_text q) known ≡ true
known_too key q known other there = ap (λ (b : Bool). b || list_any (same_text q) known) (sym other) ∙ there

up_to_one : (last : Option (Bor (List ℕ))) (key q : Bytes) (known : List Bytes) → IfSome last (λ l. by_length l.now key ≡ Less) → AreUpTo last known → list_any (same_text q) known ≡ true → by_length q key ≡ Less
up_to_one None key q known behind are there = absurd (true≢false (sym there ∙ are q))
up_to_one (Some last) key q known behind are there = before last.now key q behind (are q there)

pub is_up_to : (last : Option (Bor (List ℕ))) (key : Bor (List ℕ)) (known : List Bytes) → IfSome last (λ l. by_length l.now key.now ≡ Less) → AreUpTo last known → AreUpTo (Some key) (key.now ∷ known)
is_up_to last key known behind are = λ q there. by q (cases_Bool (same_text q key.now)) there
  where
    by : (q : Bytes) → (same_text q key.now ≡ true) ⊎ (same_text q key.now ≡ false) → list_any (same_text q) (key.now ∷ known) ≡ true → (q ≡ key.now) ⊎ (by_length q key.now ≡ Less)
    by q (inl same) there = inl (same_text-equal q key.now same)
    by q (inr other) there = inr (up_to_one last key.now q known behind are (known_too key.now q known other there))
