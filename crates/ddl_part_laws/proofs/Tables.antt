-- The laws of one of several parts by their key words.
use Rattle.ddl_part_laws.proofs.Common.{arith, ◌≡◌, ℕ, Bool, true, not, ◌&&◌, List, [], ◌∷◌, and_parts, not-true, str_eq_ignore_ascii_case, Lexeme, is_word, Branch, branch, one_of, Lawful, Begins, Avoids, Apart}
use Rattle.ddl_part_laws.proofs.{Shorter.is_far, Shorter.word_agrees, Sequence.lead_begins, Choice.choose_laws, Leads.word_laws, Leads.word_avoids, Leads.choose_avoids, Steps.avoids_begun}

-- the key words are all different, and far from short names
abbrev pub unlike : {A : Type 0} → List ℕ → Branch A → List (Branch A) → Bool
unlike key b [] = not (str_eq_ignore_ascii_case b.key key)
unlike key b (c ∷ rest) = not (str_eq_ignore_ascii_case b.key key) && unlike key c rest

abbrev pub distinct : {A : Type 0} → Branch A → List (Branch A) → Bool
distinct b [] = is_far b.key
distinct b (c ∷ rest) = is_far b.key && (unlike b.key c rest && distinct c rest)

abbrev pub AllLawful : {A : Type 0} → Branch A → List (Branch A) → Type 0
AllLawful b [] = Lawful b.part
AllLawful b (c ∷ rest) = Lawful b.part × AllLawful c rest

pub branch_begins : {A : Type 0} (b : Branch A) → Begins (is_word b.key) (branch b)
branch_begins b = lead_begins (is_word b.key) b.part

pub one_of_avoids : {A : Type 0} (key : List ℕ) (b : Branch A) (rest : List (Branch A)) → unlike key b rest ≡ true → Avoids (is_word key) (one_of b rest)
one_of_avoids key b [] e = word_avoids key b.key (branch b) (not-true _ e) (branch_begins b)
one_of_avoids key b (c ∷ rest) e =
    let h = and_parts (not (str_eq_ignore_ascii_case b.key key)) (unlike key c rest) e in
    choose_avoids (is_word key) (is_word b.key) (branch b) (one_of c rest) (word_avoids key b.key (branch b) (not-true _ h.0) (branch_begins b)) (one_of_avoids key c rest h.1)

-- no key word is another kind of token
pub one_of_avoids_others : {A : Type 0} (test : Lexeme → Bool) → ((key : List ℕ) → Apart (is_word key) test) → (b : Branch A) (rest : List (Branch A)) → Avoids test (one_of b rest)
one_of_avoids_others test apart b [] = avoids_begun (is_word b.key) test (branch b) (branch_begins b) (apart b.key)
one_of_avoids_others test apart b (c ∷ rest) = grind (arith, avoids_begun, branch_begins, choose_avoids, (one_of_avoids_others test apart c rest))

pub one_of_laws : {A : Type 0} (b : Branch A) (rest : List (Branch A)) → distinct b rest ≡ true → AllLawful b rest → Lawful (one_of b rest)
one_of_laws b [] e laws = word_laws b.key e b.part laws
one_of_laws b (c ∷ rest) e laws =
    let far = and_parts (is_far b.key) (unlike b.key c rest && distinct c rest) e in
    let h = and_parts (unlike b.key c rest) (distinct c rest) far.1 in
    choose_laws (is_word b.key) (word_agrees b.key far.0) (branch b) (one_of c rest) (word_laws b.key far.0 b.part laws.0) (one_of_laws c rest h.1 laws.1) (branch_begins b) (one_of_avoids b.key c rest h.0)
