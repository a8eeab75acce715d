-- Laws of parts put together, where the parts themselves go without saying, and with which tokens they begin.
use Rattle.ddl_part_laws.proofs.Common.{◌≡◌, ℕ, Bool, true, false, List, Some, None, Lexeme, is_word, is_sign, Part, mark, seen, choose, nothing, optional, ◌then◌, ◌▸◌, ◌◂◌, Lawful, Apart, Avoids, Begins, name, is_name, literal, is_literal}
use Rattle.ddl_part_laws.proofs.{Steps.Agrees, Steps.avoids_begun, Shorter.is_far, Shorter.word_agrees, Shorter.sign_agrees, Shorter.name_agrees, Shorter.literal_agrees, Simple.seen_laws, Simple.seen_begins, Simple.mark_laws, Simple.mark_begins, Simple.nothing_laws, Simple.nothing_avoids, Sequence.then_laws, Sequence.then_begins, Sequence.lead_begins, Choice.choose_laws, Leads.word_is, Leads.sign_is, Leads.word_laws, Leads.sign_laws, Leads.ended_laws, Leads.choose_avoids, Leads.name_laws, Leads.name_begins, Leads.literal_laws, Leads.literal_begins, Leads.qualified_laws, Leads.word_no_sign, Tables.one_of_laws, Telling.avoids_where, Telling.free, Telling.nothing_avoids_some, Telling.sign_no_word, Telling.signs_apart, Sequence.close_laws}
use Rattle.ddl_parts.proofs.Basics.{a_word, a_sign, words_apart}

-- ---- the laws

pub lawful_seen : {A B : Type 0} {p : Part A} (f : A → B) → Lawful p → Lawful (seen f p)
lawful_seen {p = p} f lp = seen_laws f p lp

pub lawful_word : {A : Type 0} {p : Part A} (key : List ℕ) → is_far key ≡ true → Lawful p → Lawful (is_word key ▸ p)
lawful_word {p = p} key far lp = word_laws key far p lp

pub lawful_sign : {A : Type 0} {p : Part A} (b : ℕ) → Lawful p → Lawful (is_sign b ▸ p)
lawful_sign {p = p} b lp = sign_laws b p lp

pub lawful_ended : {A : Type 0} {p : Part A} (b : ℕ) → Lawful p → Apart (is_sign b) p.goes_on → Lawful (p ◂ is_sign b)
lawful_ended {p = p} b lp apart = ended_laws b p lp apart

pub lawful_worded : {A : Type 0} {p : Part A} (key : List ℕ) → is_far key ≡ true → Lawful p → Apart (is_word key) p.goes_on → Lawful (p ◂ is_word key)
lawful_worded {p = p} key far lp apart = close_laws p (is_word key) (word_agrees key far) (a_word key) (word_is key) lp apart

pub lawful_then : {A B : Type 0} {p : Part A} {q : Part B} → Lawful p → Lawful q → Avoids p.goes_on q → Lawful (p then q)
lawful_then {p = p} {q = q} lp lq avoids = then_laws p q lp lq avoids

-- behind a part that goes on with no token
pub lawful_next : {A B : Type 0} {p : Part A} {q : Part B} → Lawful p → Lawful q → ((t : Lexeme) → p.goes_on t ≡ false) → Lawful (p then q)
lawful_next {p = p} {q = q} lp lq none = then_laws p q lp lq (avoids_where p.goes_on q none)

-- the laws of one branch and of the others
infixr 20 ◌also◌
abbrev pub ◌also◌ : {A B : Type 0} → A → B → A × B
a also b = (a, b)

-- ---- with what they begin

-- a part that has the laws and begins with what passes a test, which doesn't hang on a name's length
pub record Headed {A : Type 0} (test : Lexeme → Bool) (p : Part A) : Type 0 where
  pub laws : Lawful p
  pub begins : Begins test p
  pub agrees : Agrees test

pub headed_word : {A : Type 0} {p : Part A} (key : List ℕ) → is_far key ≡ true → Lawful p → Headed (is_word key) (is_word key ▸ p)
headed_word {p = p} key far lp = record { laws = word_laws key far p lp; begins = lead_begins (is_word key) p; agrees = word_agrees key far }

pub headed_sign : {A : Type 0} {p : Part A} (b : ℕ) → Lawful p → Headed (is_sign b) (is_sign b ▸ p)
headed_sign {p = p} b lp = record { laws = sign_laws b p lp; begins = lead_begins (is_sign b) p; agrees = sign_agrees b }

pub one_word : (key : List ℕ) → is_far key ≡ true → Headed (is_word key) (mark (is_word key))
one_word key far = record { laws = mark_laws (is_word key) (word_agrees key far) (a_word key) (word_is key); begins = mark_begins (is_word key); agrees = word_agrees key far }

pub one_sign : (b : ℕ) → Headed (is_sign b) (mark (is_sign b))
one_sign b = record { laws = mark_laws (is_sign b) (sign_agrees b) (a_sign b) (sign_is b); begins = mark_begins (is_sign b); agrees = sign_agrees b }

pub one_name : Headed is_name name
one_name = record { laws = name_laws; begins = name_begins; agrees = name_agrees }

pub one_literal : Headed is_literal literal
one_literal = record { laws = literal_laws; begins = literal_begins; agrees = literal_agrees }

pub headed_seen : {A B : Type 0} {p : Part A} {test : Lexeme → Bool} (f : A → B) → Headed test p → Headed test (seen f p)
headed_seen {p = p} {test = test} f h = record { laws = seen_laws f p h.laws; begins = seen_begins test f p h.begins; agrees = h.agrees }

pub headed_next : {A B : Type 0} {p : Part A} {q : Part B} {test : Lexeme → Bool} → Headed test p → Lawful q → ((t : Lexeme) → p.goes_on t ≡ false) → Headed test (p then q)
headed_next {p = p} {q = q} {test = test} h lq none = record { laws = lawful_next h.laws lq none; begins = then_begins test p q h.begins; agrees = h.agrees }

-- ---- one of two

-- where the second doesn't begin with what tells them apart
pub lawful_choose : {A : Type 0} {p q : Part A} {test : Lexeme → Bool} → Headed test p → Lawful q → Avoids test q → Lawful (choose test p q)
lawful_choose {p = p} {q = q} {test = test} h lq avoids = choose_laws test h.agrees p q h.laws lq h.begins avoids

pub lawful_either : {A : Type 0} {p q : Part A} {test other : Lexeme → Bool} → Headed test p → Headed other q → Apart other test → Lawful (choose test p q)
lawful_either {p = p} {q = q} {test = test} {other = other} h k apart = choose_laws test h.agrees p q h.laws k.laws h.begins (avoids_begun other test q k.begins apart)

-- a part, or no token where more could belong to it
pub lawful_maybe : {A : Type 0} {p : Part A} {test : Lexeme → Bool} (more : Lexeme → Bool) (v : A) → Headed test p → ((t : Lexeme) → more t ≡ false → test t ≡ false) → Lawful (choose test p (nothing more v))
lawful_maybe {p = p} {test = test} more v h none = choose_laws test h.agrees p (nothing more v) h.laws (nothing_laws more v) h.begins (nothing_avoids_some more test v none)

pub lawful_unless : {A : Type 0} {p : Part A} {test : Lexeme → Bool} (v : A) → Headed test p → Lawful (choose test p (nothing test v))
lawful_unless {p = p} {test = test} v h = choose_laws test h.agrees p (nothing test v) h.laws (nothing_laws test v) h.begins (nothing_avoids test v)

pub lawful_optional : {A : Type 0} {p : Part A} {test : Lexeme → Bool} → Headed test p → Lawful (optional test p)
lawful_optional h = lawful_unless None (headed_seen Some h)

-- ---- what stands before them

pub avoids_headed : {A : Type 0} {p : Part A} {test : Lexeme → Bool} (other : Lexeme → Bool) → Headed test p → Apart test other → Avoids other p
avoids_headed {p = p} {test = test} other h apart = avoids_begun test other p h.begins apart

pub avoids_either : {A : Type 0} {p q : Part A} {test one : Lexeme → Bool} (other : Lexeme → Bool) → Headed test p → Apart test other → Headed one q → Apart one other → Avoids other (choose test p q)
avoids_either {p = p} {q = q} {test = test} other h apart k apart' = choose_avoids other test p q (avoids_headed other h apart) (avoids_headed other k apart')

pub avoids_maybe : {A : Type 0} {p : Part A} {test : Lexeme → Bool} (other : Lexeme → Bool) → Headed test p → Apart test other → (more : Lexeme → Bool) (v : A) → ((t : Lexeme) → more t ≡ false → other t ≡ false) → Avoids other (choose test p (nothing more v))
avoids_maybe {p = p} {test = test} other h apart more v none = choose_avoids other test p (nothing more v) (avoids_headed other h apart) (nothing_avoids_some more other v none)

-- by which the laws of a part are found
pub ruleset grammar = (lawful_seen, lawful_word, lawful_sign, lawful_ended, lawful_worded, lawful_next, lawful_either, lawful_unless, lawful_optional, one_of_laws, name_laws, literal_laws, qualified_laws, headed_word, headed_sign, headed_seen, headed_next, one_word, one_sign, one_name, one_literal, free, words_apart, word_no_sign, sign_no_word, signs_apart)
