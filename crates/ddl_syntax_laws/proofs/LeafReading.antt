-- Leaves as they are read: their laws, and with which tokens they don't go on.
use Rattle.ddl_part_laws.proofs.Common.{◌≡◌, ℕ, Bool, true, false, not, ◌||◌, ◌&&◌, and_parts, ◌==◌, List, [], refl, subst, codes, arith, not-true, str_eq_ignore_ascii_case, Lexeme, is_word, is_sign, is_literal, Part, Lawful, Apart, Avoids, literal as literal_part, comma, words_apart, ends_run, expression as expression_part, default_text}
use Rattle.ddl_part_laws.proofs.{Leads.name_laws, Leads.literal_laws, Leads.literal_begins, Leads.qualified_laws, Leads.word_no_sign, Shorter.literal_agrees, Repeated.many_laws, Listing.listed_laws, NumberLaws.whole_number_laws, NumberLaws.whole_number_ends, RunLaws.expression_laws, RunLaws.default_text_laws, RunLaws.run_ends, Telling.avoids_where, Telling.free, Telling.sign_no_word, Telling.signs_apart, Telling.sign_no_literal, Composing.lawful_seen, Composing.lawful_either, Composing.lawful_unless, Composing.one_word, Composing.one_sign}
use Rattle.ddl_grammar_laws.proofs.{RestLaws.kept_laws, SequenceLaws.clauses_apart, TableLaws.elements_apart, DatabaseLaws.options_laws, DatabaseLaws.options_end, GrantLaws.granted_laws, GrantLaws.revoked_laws, RoleLaws.role_changes_are, RoleLaws.role_changes_end, TableLaws.named_check_is, TableLaws.named_check_free}
use Rattle.ddl_syntax_laws.proofs.LeafLaws.{columns_are, deferral_laws, reactions_laws, rest_ends, bracketed_laws, literal_path_laws, truth_laws, remark_laws, domain_laws, elements_end}
use Rattle.ddl_grammar.specs.LeafParts.{Leaf, name, literal, path, literal_path, number, truth, expression, given_default, body, brackets, columns, some_columns, key_rest, foreign_rest, labels, domain, elements, clauses, changes, encoding, equals, remark, check, granted, revoked, leaf_part}
use Rattle.ddl_grammar.specs.{Clauses.equals_or_to, Columns.columns as columns_part, CopyGrammar.some_columns as some_columns_part, Rests.key_rest as key_rest_part, Rests.foreign_rest as foreign_rest_part, SequenceGrammar.begins_clause, SequenceGrammar.no_clauses, SequenceGrammar.with_clauses, SequenceGrammar.sequence_clauses, SequenceGrammar.sequence_of, SequenceGrammar.sequence, TableGrammar.parted, TableGrammar.table_elements, RelationGrammar.bracketed, TableGrammar.domain_rest, ValueGrammar.truth as truth_part, Comments.remark as remark_part, Grants.granted as granted_part, Grants.revoked as revoked_part}

pub and_three : (a b c : Bool) → (a && (b && c)) ≡ true → (a ≡ true) × (b ≡ true) × (c ≡ true)
and_three a b c e = grind (arith, and_parts)

-- ---- what a token may be

pub data Kind : Type 0 where
  any : Kind
  word : List ℕ → Kind
  sign : ℕ → Kind

abbrev pub is_kind : Kind → Lexeme → Bool
is_kind any t = true
is_kind (word key) t = is_word key t
is_kind (sign b) t = is_sign b t

-- of the kinds that pass, no token passes the other test
abbrev pub AllApart : (Kind → Bool) → (Lexeme → Bool) → Type 0
AllApart passes other = (k : Kind) → passes k ≡ true → Apart (is_kind k) other

-- no token of this kind is the key word
abbrev pub unlike : List ℕ → Kind → Bool
unlike key any = false
unlike key (word w) = not (str_eq_ignore_ascii_case w key)
unlike key (sign b) = true

pub all_unlike : (key : List ℕ) → AllApart (unlike key) (is_word key)
all_unlike key any e = absurd cc
all_unlike key (word w) e = words_apart w key (not-true _ e)
all_unlike key (sign b) e = sign_no_word b key

-- the kind is a key word
abbrev pub is_word_kind : Kind → Bool
is_word_kind (word w) = true
is_word_kind k = false

pub words_no_sign : (b : ℕ) → AllApart is_word_kind (is_sign b)
words_no_sign b (word w) e = word_no_sign w b
words_no_sign b k e = absurd cc

-- the kind is this sign
abbrev pub only_sign : ℕ → Kind → Bool
only_sign b (sign c) = b == c
only_sign b k = false

only_apart : {other : Lexeme → Bool} (b : ℕ) → Apart (is_sign b) other → AllApart (only_sign b) other
only_apart {other} b apart (sign c) e = subst (λ x. Apart (is_sign x) other) (let same : b ≡ c = grind arith in same) apart
only_apart b apart k e = absurd cc

-- the kind ends a run, however it may be bounded
abbrev pub ends_runs : Kind → Bool
ends_runs (sign b) = b == 41 || b == 93 || b == 59
ends_runs k = false

-- A part that has its laws. `ends` has kinds of tokens with which it doesn't go on; and `begins` says that each kind with
-- which it may begin passes.
pub record Known {A : Type 0} (p : Part A) (ends : Kind → Bool) (begins : (Kind → Bool) → Bool) : Type 0 where
  pub laws : Lawful p
  pub behind : AllApart ends p.goes_on
  pub avoids : (passes : Kind → Bool) (other : Lexeme → Bool) → AllApart passes other → begins passes ≡ true → Avoids other p

-- ---- leaves

unfoldable pub leaf_ends : {A : Type 0} → Leaf A → Kind → Bool
leaf_ends expression k = ends_runs k
leaf_ends given_default k = ends_runs k
leaf_ends body k = ends_runs k
leaf_ends brackets k = ends_runs k
leaf_ends some_columns k = is_word_kind k
leaf_ends key_rest k = only_sign 59 k
leaf_ends foreign_rest k = only_sign 59 k
leaf_ends labels k = only_sign 41 k
leaf_ends elements k = only_sign 41 k
leaf_ends clauses k = only_sign 59 k
leaf_ends changes k = only_sign 59 k
leaf_ends encoding k = only_sign 59 k
leaf_ends l k = true

-- with which token a leaf begins is not asked
abbrev KnownLeaf : {A : Type 0} → Part A → (Kind → Bool) → Type 0
KnownLeaf p ends = Known p ends (λ passes. passes any)

so_ended : {A : Type 0} {p : Part A} {ends : Kind → Bool} → Lawful p → AllApart ends p.goes_on → KnownLeaf p ends
so_ended {p = p} laws behind = record { laws = laws; behind = behind; avoids = λ passes other apart e. avoids_where other p (λ t. apart any e t refl) }

closed : {A : Type 0} {p : Part A} → Lawful p → ((t : Lexeme) → p.goes_on t ≡ false) → KnownLeaf p (λ k. true)
closed laws none = so_ended laws (λ k e t is. none t)

ended_by : {A : Type 0} {p : Part A} (b : ℕ) → Lawful p → Apart (is_sign b) p.goes_on → KnownLeaf p (only_sign b)
ended_by b laws end = so_ended laws (only_apart b end)

runs_behind : (bounded : Bool) → AllApart ends_runs (λ t. not (ends_run bounded t))
runs_behind bounded (sign b) e = run_ends bounded b e
runs_behind bounded k e = absurd cc

pub leaf_known : {A : Type 0} (l : Leaf A) → KnownLeaf (leaf_part l) (leaf_ends l)
unfolding leaf_part leaf_ends expression_part default_text key_rest_part foreign_rest_part table_elements sequence sequence_clauses begins_clause bracketed some_columns_part columns_part equals_or_to truth_part remark_part domain_rest granted_part revoked_part
leaf_known name = closed name_laws (λ t. refl)
leaf_known literal = closed literal_laws (λ t. refl)
leaf_known path = closed qualified_laws (λ t. refl)
leaf_known literal_path = closed literal_path_laws (λ t. refl)
leaf_known number = closed whole_number_laws whole_number_ends
leaf_known truth = closed truth_laws (λ t. refl)
leaf_known expression = so_ended expression_laws (runs_behind false)
leaf_known given_default = so_ended default_text_laws (runs_behind true)
leaf_known body = so_ended expression_laws (runs_behind false)
leaf_known brackets = so_ended bracketed_laws (runs_behind false)
leaf_known columns = closed columns_are.laws (λ t. refl)
leaf_known some_columns = so_ended (lawful_unless [] columns_are) (words_no_sign 40)
leaf_known key_rest = ended_by 59 (kept_laws deferral_laws) (λ t e. (rest_ends t e).0)
leaf_known foreign_rest = ended_by 59 (kept_laws reactions_laws) (λ t e. (rest_ends t e).1)
leaf_known labels = ended_by 41 (listed_laws is_literal literal_agrees literal_part literal_laws literal_begins (free comma)) (λ t e. rw (sign_no_literal 41 t e, signs_apart 41 44 refl t e) refl)
leaf_known domain = closed domain_laws (λ t. refl)
leaf_known elements = ended_by 41 (lawful_seen parted (many_laws elements_apart)) elements_end
leaf_known clauses = ended_by 59 (lawful_seen sequence_of (lawful_seen (with_clauses no_clauses) (many_laws clauses_apart))) (λ t e. simp (sign_no_word 59))
leaf_known changes = ended_by 59 role_changes_are.laws role_changes_end
leaf_known encoding = ended_by 59 options_laws options_end
leaf_known equals = closed (lawful_either (one_sign 61) (one_word (codes "to") refl) (word_no_sign (codes "to") 61)) (λ t. refl)
leaf_known remark = closed remark_laws (λ t. refl)
leaf_known check = closed named_check_is.laws named_check_free
leaf_known granted = closed granted_laws (λ t. refl)
leaf_known revoked = closed revoked_laws (λ t. refl)
