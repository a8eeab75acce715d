-- The grammar of rights and of objects has the laws of a part, and a list of rights is one that some kind has.
use Rattle.ddl_grammar_laws.proofs.Common.{cases_Bool, ◌≡◌, ℕ, Bool, true, false, cond, ◌||◌, List, [], ◌∷◌, Some, None, refl, ap, ◌∙◌, codes, inl, inr, arith, or_right, or_cases, is_keyword_of, Rights, table_rights, sequence_rights, schema_rights, Lexeme, is_word, starts, Many, no_more, many, Lawful, Begins, Apart, name, comma, avoids_never, avoids_begun, starts_more, sign_agrees, sign_no_word, seen_laws, lead_begins, AreApart, many_laws, a_word, name_laws, qualified_laws, word_laws, sign_laws, word_no_sign, words_apart, Right, Select, Usage, Create, Kind, Tables, Sequences, Schemas, Types, Wanted, ◌thenby◌, with_right, within, kind_rights, some_kind_has, goes_with, right_first, wanted_first, wanted, joining, right_behind, more_rights, all_of, rights_from, kind_first, kind_has, having, kind_with, object, on_object, rights_and_object, word_like}
use Rattle.ddl_grammar.specs.{Values.told, declared.rights.Wanted.TheVariants.All, declared.rights.Wanted.TheVariants.These}
use Rattle.ddl_part_laws.specs.Parts.{one_more}
use Rattle.ddl_grammar_laws.proofs.{Depends.thenby_laws, Firsts.by_first_laws}
use Rattle.cat_model.specs.declared.grant.Granted.TheVariants as on
use Rattle.ddl_grammar.proofs.Meanings.{right_word, object_on, wanted_is}

-- ---- words

abbrev pub kind_word : Kind → List ℕ
kind_word Tables = codes "table"
kind_word Sequences = codes "sequence"
kind_word Schemas = codes "schema"
kind_word Types = codes "type"

-- ---- rights that some kind has

-- some kind has them all
abbrev pub CanBeOn : Wanted → Type 0
CanBeOn All = Unit {0}
CanBeOn (These r) = some_kind_has r ≡ true

pub wanted_can : (ts : List Lexeme) (w : Wanted) → wanted_first ts ≡ Some w → CanBeOn w
unfolding some_kind_has
wanted_can = wanted_is CanBeOn tt (λ x. grind arith)

all_have : (first r : Rights) (xs : List Right) (ts : List Lexeme) → Many (more_rights first) r xs ts → some_kind_has r ≡ true → some_kind_has (all_of r xs) ≡ true
unfolding goes_with
all_have first r _ _ (no_more _) can = can
all_have first r _ _ (one_more _ x xs a b spells others) can = grind (arith, (all_have first (with_right x r) xs b others (grind arith)))

-- ---- a list of rights

-- some right may stand behind others
goes_on : (r : Rights) → (x : Right) × (goes_with r x ≡ true)
unfolding goes_with some_kind_has
goes_on r = elim (cases_Bool r.usage) [ inl is ↦ (Usage, grind arith) | inr isnt ↦ elim (cases_Bool r.create) [ inl is ↦ (Create, grind arith) | inr none ↦ (Select, grind arith) ] ]

pub right_behind_laws : (r : Rights) → Lawful (right_behind r)
unfolding right_first is_word is_keyword_of
right_behind_laws r =
    let right_is : (x : Right) → right_first (a_word (right_word x) ∷ []) ≡ Some x = λ x. grind arith in
    let h = goes_on r in
    by_first_laws (λ ts. joining r (right_first ts)) (λ t long. simp (word_like t long)) (a_word (right_word h.0)) h.0 (ap (joining r) (right_is h.0) ∙ ap (λ (b : Bool). cond b (Some h.0) None) h.1)

pub rights_apart : (r : Rights) → AreApart comma (more_rights r)
rights_apart r = search (sign_laws, right_behind_laws, sign_agrees, lead_begins, arith)

-- ---- objects

kind_found : (r : Rights) → some_kind_has r ≡ true → (k : Kind) × (within r (kind_rights k) ≡ true)
unfolding some_kind_has
kind_found r e =
    elim (or_cases (within r table_rights) _ e) [
      | inl h ↦ (Tables, h)
      | inr f ↦ elim (or_cases (within r sequence_rights) _ f) [ inl h ↦ (Sequences, h) | inr g ↦ elim (or_cases (within r schema_rights) _ g) [ inl h ↦ (Schemas, h) | inr h ↦ (Types, h) ] ]
    ]

kind_for : (w : Wanted) → CanBeOn w → (k : Kind) × (kind_has w k ≡ true)
kind_for w can = grind (arith, kind_found)

pub kind_with_laws : (w : Wanted) → CanBeOn w → Lawful (kind_with w)
unfolding kind_first is_word is_keyword_of
kind_with_laws w can =
    let kind_is : (k : Kind) → kind_first (a_word (kind_word k) ∷ []) ≡ Some k = λ k. grind arith in
    let h = kind_for w can in
    by_first_laws (λ ts. having w (kind_first ts)) (λ t long. simp (word_like t long)) (a_word (kind_word h.0)) h.0 (ap (having w) (kind_is h.0) ∙ ap (λ (b : Bool). cond b (Some h.0) None) h.1)

object_laws : (k : Kind) → Lawful (object k)
object_laws Schemas = seen_laws on.Schema name name_laws
object_laws k = search (seen_laws, qualified_laws)

object_ends : (k : Kind) (t : Lexeme) → (object k).goes_on t ≡ false
object_ends Tables t = refl
object_ends x t = refl

pub on_object_laws : (w : Wanted) → CanBeOn w → Lawful (on_object w)
unfolding on_object
on_object_laws w can = search (word_laws, thenby_laws, kind_with_laws, seen_laws, object_laws, object_ends, avoids_never, arith)

on_object_begins : (w : Wanted) → Begins (is_word (codes "on")) (on_object w)
unfolding on_object
on_object_begins w = lead_begins (is_word (codes "on")) (kind_with w thenby object_on w)

pub rights_and_object_laws : (w : Wanted) → CanBeOn w → Lawful (rights_and_object w)
unfolding rights_and_object rights_from on_object
rights_and_object_laws All can = on_object_laws All tt
rights_and_object_laws (These r) can =
    thenby_laws (rights_from r) (λ s. on_object (These s)) (seen_laws (all_of r) (many comma (more_rights r)) (many_laws (rights_apart r))) (record {
      laws = λ s ts spells. on_object_laws (These s) (ap some_kind_has spells.1 ∙ all_have r r spells.0 ts spells.2 can);
      ends = λ s t. refl;
      avoids = λ s ts spells. avoids_begun (is_word (codes "on")) comma (on_object (These s)) (on_object_begins (These s)) (word_no_sign (codes "on") 44);
    })

pub rights_and_object_ends : (w : Wanted) (t : Lexeme) → (rights_and_object w).goes_on t ≡ false
unfolding rights_and_object on_object
rights_and_object_ends All t = refl
rights_and_object_ends w t = refl

-- ---- what it begins with

abbrev pub goes_to_object : Lexeme → Bool
goes_to_object t = comma t || is_word (codes "on") t

pub rights_and_object_begins : (w : Wanted) → Begins goes_to_object (rights_and_object w)
unfolding rights_and_object rights_from
rights_and_object_begins w = grind (arith, on_object_begins, starts, starts_more, or_right)

pub to_no_object : Apart goes_to_object (is_word (codes "to"))
to_no_object t e = grind (arith, sign_no_word, (words_apart (codes "on") (codes "to") refl t))

-- ---- ALL, or the first right

pub wanted_laws : Lawful wanted
unfolding wanted_first right_first is_word is_keyword_of
wanted_laws = by_first_laws wanted_first (λ t long. simp (word_like t long)) (a_word (codes "all")) All refl

pub wanted_spelled : (w : Wanted) (ts : List Lexeme) → wanted.Spells w ts → CanBeOn w
wanted_spelled w ts spells = grind (arith, told, wanted_can)
