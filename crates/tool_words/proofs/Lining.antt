-- Texts that a stream takes one after another, whole or a first part.
use Rattle.std.proofs.Common.{◌≡◌, ℕ, ◌≤◌, ◌++◌, List, [], length, take, drop, Option, Some, None, option_map, Result, Ok, Err, OnErr, refl, sym, ap, ◌∙◌, append-nil, rules, subst}
use Rattle.std.proofs.lemmas.List.{append_assoc, take-append-drop}
use Rattle.tool_words.specs.Lines.{Appends, AppendsPart}

no_more : (w : Option (List ℕ)) → w ≡ option_map (λ t. t ++ []) w
no_more None = refl
no_more (Some t) = ap Some (search rules)

-- nothing is taken
pub takes_none : (w : Option (List ℕ)) → Appends [] w w
takes_none w = no_more w

both : (w : Option (List ℕ)) (x y : List ℕ) → option_map (λ t. t ++ y) (option_map (λ t. t ++ x) w) ≡ option_map (λ t. t ++ (x ++ y)) w
both None x y = refl
both (Some t) x y = ap Some (append_assoc t x y)

-- one text and then another
pub takes_both : (a b c : Option (List ℕ)) (x y : List ℕ) → Appends x a b → Appends y b c → Appends (x ++ y) a c
takes_both a b c x y one two = two ∙ ap (λ w. option_map (λ t. t ++ y) w) one ∙ both a x y

-- some first bytes of a text
pub part_taken : (text : List ℕ) (before after : Option (List ℕ)) → (n : ℕ) × (n ≤ length text) × (after ≡ option_map (λ t. t ++ take n text) before) → AppendsPart text before after
part_taken text before after h = record {
  front = take h.0 text;
  rest = drop h.0 text;
  split = sym (take-append-drop h.0 text);
  taken = h.2;
}

-- nothing of a text
pub part_none : (text : List ℕ) (before after : Option (List ℕ)) → after ≡ before → AppendsPart text before after
part_none text before after e = record { front = []; rest = text; split = refl; taken = e ∙ no_more before }

-- a whole text
pub part_whole : (text : List ℕ) (before after : Option (List ℕ)) → Appends text before after → AppendsPart text before after
part_whole text before after a = record { front = text; rest = []; split = sym (append-nil text); taken = a }

-- a first part of the first of two texts
pub part_of_first : (x y : List ℕ) (before after : Option (List ℕ)) → AppendsPart x before after → AppendsPart (x ++ y) before after
part_of_first x y before after p = record {
  front = p.front;
  rest = p.rest ++ y;
  split = ap (λ t. t ++ y) p.split ∙ append_assoc p.front p.rest y;
  taken = p.taken;
}

-- the first of two texts, and a first part of the second
pub part_of_second : (x y : List ℕ) (a b c : Option (List ℕ)) → Appends x a b → AppendsPart y b c → AppendsPart (x ++ y) a c
part_of_second x y a b c one p = record {
  front = x ++ p.front;
  rest = p.rest;
  split = ap (λ t. x ++ t) p.split ∙ sym (append_assoc x p.front p.rest);
  taken = takes_both a b c x p.front one p.taken;
}

-- a first part of the first two of four texts
pub part_of_two : (p q r s : List ℕ) (before after : Option (List ℕ)) → AppendsPart (p ++ q) before after → AppendsPart (p ++ q ++ r ++ s) before after
part_of_two p q r s before after h = subst (λ (t : List ℕ). AppendsPart t before after) (sym (append_assoc (p ++ q) r s)) (part_of_first (p ++ q) (r ++ s) before after h)

-- the first two of four texts, and a first part of the others
pub part_of_four : (p q r s : List ℕ) (a b c : Option (List ℕ)) → Appends (p ++ q) a b → AppendsPart (r ++ s) b c → AppendsPart (p ++ q ++ r ++ s) a c
part_of_four p q r s a b c one h = subst (λ (t : List ℕ). AppendsPart t a c) (sym (append_assoc (p ++ q) r s)) (part_of_second (p ++ q) (r ++ s) a b c one h)

-- four texts
pub takes_four : (p q r s : List ℕ) (a b c : Option (List ℕ)) → Appends (p ++ q) a b → Appends (r ++ s) b c → Appends (p ++ q ++ r ++ s) a c
takes_four p q r s a b c one two = subst (λ (t : List ℕ). Appends t a c) (sym (append_assoc (p ++ q) r s)) (takes_both a b c (p ++ q) (r ++ s) one two)

-- what holds anyway holds of an error
pub always_err : {T E P : Type 0} (r : Result T E) → P → OnErr r P
always_err (Ok x) p = tt
always_err (Err e) p = p
