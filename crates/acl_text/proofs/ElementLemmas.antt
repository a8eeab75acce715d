-- Elements in a row, each with a comma before it, and the closing brace.
use Rattle.std.proofs.Common.{◌≡◌, ◌≢◌, ℕ, Bool, true, false, not, eqb, List, [], ◌∷◌, ◌++◌, sym, ap, ◌∙◌, append_assoc}
use Rattle.std.specs.List.{flat_map, join_with_byte, list_all}
use Rattle.std.proofs.lemmas.Bool.{eq-eqb}
use Rattle.std.proofs.lemmas.List.{append-nil}
use Rattle.acl_text.specs.declared.list.AclItem.{AclItem}
use Rattle.acl_text.specs.Acls.{closing, comma, is_special}
use Rattle.acl_text.specs.Spells.{SpellsItem, SpellsElement}

-- elements with a comma before each, and the closing brace
abbrev pub tail_of : List (List ℕ) → List ℕ
tail_of es = flat_map (λ e. comma ∷ e) es ++ closing ∷ []

pub tail_more : (e : List ℕ) (es : List (List ℕ)) → comma ∷ (e ++ tail_of es) ≡ tail_of (e ∷ es)
tail_more e es = ap (λ (l : List ℕ). comma ∷ l) (sym (append_assoc e (flat_map (λ x. comma ∷ x) es) (closing ∷ [])))

pub joined : (e : List ℕ) (es : List (List ℕ)) → join_with_byte comma (e ∷ es) ≡ e ++ flat_map (λ x. comma ∷ x) es
joined e [] = sym (append-nil e)
joined e (f ∷ es) = ap (λ (l : List ℕ). e ++ (comma ∷ l)) (joined f es)

pub joined_tail : (e : List ℕ) (es : List (List ℕ)) → join_with_byte comma (e ∷ es) ++ closing ∷ [] ≡ e ++ tail_of es
joined_tail e es = ap (λ (l : List ℕ). l ++ closing ∷ []) (joined e es) ∙ append_assoc e (flat_map (λ x. comma ∷ x) es) (closing ∷ [])

abbrev pub SpellsEntry : AclItem → List ℕ → Type 0
SpellsEntry item element = (content : List ℕ) × SpellsElement content element × SpellsItem item content

pub differs_from : (b k : ℕ) → eqb b k ≡ false → b ≢ k
differs_from b k differs same = let yes_too : eqb b k ≡ true = eq-eqb b k same in absurd cc

abbrev pub are_bare : List ℕ → Bool
are_bare text = list_all (λ b. not (is_special b)) text
