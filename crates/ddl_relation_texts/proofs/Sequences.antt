-- The clauses of a sequence with the text that it is written in: each clause is an item behind those before it.
use Rattle.ddl_relation_texts.proofs.Common.{◌≡◌, ℕ, ℤ, Bool, true, false, not, cond, ◌&&◌, ◌||◌, List, [], ◌∷◌, ◌++◌, Option, Some, None, refl, sym, ap, subst, ◌∙◌, inl, inr, codes, arith, signed_decimal, Lexeme, is_word, never, starts, Part, ◌▸◌, joined, only_if as words_if, usual_min, usual_max, type_words, bound, min_text, max_text, Clauses, no_clauses, with_clause, with_clauses, clause_behind, begins_clause, clausing, sequence_clauses, sequence_of, Words, Safe, number_as, space, indented, Written, is_key, word_as, mark_as, lead_as, word_then, nothing_as, seen_as, choose_as, after_as, OptionFit, Follows, IsPut, followed, same_text, put_as, none_put, then_put, joined-append, then_opens, Opens, admits, admitted, meets, covers, indent, not_closed, AllCame, came_front, came_behind, Many, no_more, spelled, ◌then◌, str_to_ascii_lowercase, IsInt, IsSequence, sequence, clauses_text, bound_or, shown_as, pieces_as, append-nil}
use Rattle.cat_model.specs.declared.value.Sequence.{Sequence}
use Rattle.std.specs.{Option.unwrap_or, Ordering.int_eq, Str.str_eq_ignore_ascii_case}
use Rattle.cat_model.specs.{declared.constraint.SequenceKind.SequenceKind, declared.constraint.SequenceKind.TheVariants.SmallInt, declared.constraint.SequenceKind.TheVariants.Integer, declared.constraint.SequenceKind.TheVariants.BigInt}
use Rattle.ddl_grammar.specs.{Parts.one_more, SequenceGrammar.is_unsaid, SequenceGrammar.integer_kind, SequenceGrammar.usual_bound, declared.sequences.Bound.Bound, declared.sequences.Bound.TheVariants.Usual, declared.sequences.Bound.TheVariants.Given, declared.sequences.Clause.Clause, declared.sequences.Clause.TheVariants.Kind, declared.sequences.Clause.TheVariants.Start, declared.sequences.Clause.TheVariants.Step, declared.sequences.Clause.TheVariants.Least, declared.sequences.Clause.TheVariants.Greatest, declared.sequences.Clause.TheVariants.Cache, declared.sequences.Clause.TheVariants.Cycle}
use Rattle.ddl_part_laws.proofs.{Sequence.lead_begins, Telling.same_by}
use Rattle.ddl_forms.proofs.{Putting.begun, Written.items_from}

-- ---- what is read

abbrev pub IsBound : Bound → Type 0
IsBound Usual = Unit {0}
IsBound (Given n) = IsInt n

-- bigint has no words
abbrev pub IsClause : Clause → Type 0
IsClause (Kind BigInt) = ⊥
IsClause (Kind kind) = Unit {0}
IsClause (Start n) = IsInt n
IsClause (Step n) = IsInt n
IsClause (Least b) = IsBound b
IsClause (Greatest b) = IsBound b
IsClause (Cache n) = IsInt n
IsClause Cycle = Unit {0}

unfoldable pub clause_as : Written (clause_behind no_clauses)
unfolding clause_behind is_key
clause_as =
    let no : Written (is_word (codes "no") ▸ usual_bound true true) = lead_as (word_as indented (codes "NO") refl) (choose_as (seen_as (λ u. Least Usual) (mark_as (word_as space (codes "MINVALUE") refl))) (seen_as (λ u. Greatest Usual) (mark_as (word_as space (codes "MAXVALUE") refl)))) refl in
    let kind : Written (is_word (codes "as") ▸ integer_kind) = lead_as (word_as indented (codes "AS") refl) (choose_as (seen_as (λ u. Kind SmallInt) (mark_as (word_as space (codes "smallint") refl))) (seen_as (λ u. Kind Integer) (mark_as (word_as space (codes "integer") refl)))) refl in
    let start = lead_as (word_as indented (codes "START") refl) (word_then (codes "WITH") refl (seen_as Start (number_as space)) refl) refl in
    let step = lead_as (word_as indented (codes "INCREMENT") refl) (word_then (codes "BY") refl (seen_as Step (number_as space)) refl) refl in
    let least = lead_as (word_as indented (codes "MINVALUE") refl) (seen_as (λ n. Least (Given n)) (number_as space)) refl in
    let greatest = lead_as (word_as indented (codes "MAXVALUE") refl) (seen_as (λ n. Greatest (Given n)) (number_as space)) refl in
    let cache = lead_as (word_as indented (codes "CACHE") refl) (seen_as Cache (number_as space)) refl in
    let cycle = lead_as (word_as indented (codes "CYCLE") refl) (after_as (nothing_as Cycle) Words refl) refl in
    choose_as no (choose_as kind (choose_as start (choose_as step (choose_as least (choose_as greatest (choose_as cache cycle))))))

pub clause_is : (v : Clause) → clause_as.Is v → IsClause v
unfolding clause_as
clause_is v is = grind arith

-- a clause behind others is one behind none
anywhere : (c : Clauses) (v : Clause) (ts : List Lexeme) → (clause_behind c).Spells v ts → (clause_behind no_clauses).Spells v ts
unfolding clause_behind
anywhere c v ts spells =
    let any : (least greatest : Bool) (v : Clause) (ts : List Lexeme) → (usual_bound least greatest).Spells v ts → (usual_bound true true).Spells v ts = λ least greatest v ts s. grind arith in
    elim spells [ inl s ↦ inl (s.0, s.1, (s.2.0, s.2.1, s.2.2, s.2.3, any (is_unsaid c.least) (is_unsaid c.greatest) s.0.1 s.2.1 s.2.4)) | inr s ↦ inr s ]

-- ---- the numbers so far

abbrev pub AreGiven : Clauses → Type 0
AreGiven c = OptionFit IsInt c.start × (OptionFit IsInt c.step × (OptionFit IsBound c.least × (OptionFit IsBound c.greatest × OptionFit IsInt c.cache)))

pub one_given : (c : Clauses) (v : Clause) → AreGiven c → IsClause v → AreGiven (with_clause c v)
one_given c v given is = grind arith

pub all_given : (c : Clauses) (vs : List Clause) (ts : List Lexeme) (r : List ℕ) → AllCame ts r → AreGiven c → Many clausing c vs ts → AreGiven (with_clauses c vs)
all_given c _ _ r came given (no_more _) = given
all_given c _ _ r came given (one_more _ v vs a b spells others) = all_given (with_clause c v) vs b r (came_behind a b r came) (one_given c v given (clause_is v (clause_as.made v a (spelled b ++ r) (came_front a b r came) (anywhere c v a spells.1)))) others

pub sequence_is : (c : Clauses) → AreGiven c → IsSequence (sequence_of c)
unfolding sequence_of usual_min usual_max
sequence_is c given = grind arith

-- ---- clauses with their texts

-- by the words that a token is
abbrev pub unsaid_by : Clauses → (List ℕ → Bool) → Bool
unsaid_by c is =
    cond (is (codes "as")) (is_unsaid c.kind) (cond (is (codes "start")) (is_unsaid c.start) (cond (is (codes "increment")) (is_unsaid c.step) (cond (is (codes "no")) (is_unsaid c.least || is_unsaid c.greatest)
    (cond (is (codes "minvalue")) (is_unsaid c.least) (cond (is (codes "maxvalue")) (is_unsaid c.greatest) (cond (is (codes "cache")) (is_unsaid c.cache) (is (codes "cycle") && not c.cycle)))))))

pub key_begins : (key : List ℕ) (p : Part Clause) (c : Clauses) (v : Clause) (ts : List Lexeme) → (is_word key ▸ p).Spells v ts → unsaid_by c (str_eq_ignore_ascii_case key) ≡ true → starts (begins_clause c) ts ≡ true
unfolding begins_clause is_word
key_begins key p c v ts spells fresh = by ts (lead_begins (is_word key) p v ts spells)
  where
    by : (us : List Lexeme) → starts (is_word key) us ≡ true → starts (begins_clause c) us ≡ true
    by [] e = absurd cc
    by (t ∷ us) e =
        let same = λ (w : List ℕ). same_by t.kind t.word key w e in
        rw (same (codes "as"), same (codes "start"), same (codes "increment"), same (codes "no"), same (codes "minvalue"), same (codes "maxvalue"), same (codes "cache"), same (codes "cycle")) fresh

-- clauses behind others, with these texts before what is safe; they begin safely or are none
pub record Put (c : Clauses) (vs : List Clause) (pieces : List (List ℕ)) : Type 0 where
  pub put : (others : List Lexeme) → Follows others → admits Safe (spelled others) ≡ true → IsPut (items_from clausing c) vs (joined pieces) others
  pub begins : Opens true Safe (joined pieces)

-- a clause before others, by its first word and what stands behind that
pub one : {p : Part Clause} {vs : List Clause} {more : List (List ℕ)} (c : Clauses) (v : Clause) (word : List ℕ) (is : is_key (str_to_ascii_lowercase word) word ≡ true) (w : Written p) (fit : w.Fit v) (texts : List (List ℕ)) → meets Words w ≡ true → covers w.after Safe ≡ true
    → joined (indent ∷ word ∷ w.pieces v fit) ≡ joined texts → unsaid_by c (str_eq_ignore_ascii_case (str_to_ascii_lowercase word)) ≡ true → ((ts : List Lexeme) → (is_word (str_to_ascii_lowercase word) ▸ p).Spells v ts → (clause_behind c).Spells v ts) → Put (with_clause c v) vs more → Put c (v ∷ vs) (texts ++ more)
one {p} {vs} {more} c v word is w fit texts meet safe same unsaid here m =
    let lead = lead_as (word_as indented word is) w meet in
    let key = str_to_ascii_lowercase word in
    let first : (text : List ℕ) → Opens true Safe (indent ++ text) = λ text. grind arith in
    let begins : Opens true Safe (joined texts) = subst (Opens true Safe) same (first (word ++ joined (w.pieces v fit))) in
    record {
      put = λ others follows e.
          let k = m.put others follows e in
          let next = begun Safe k (m.begins Safe refl (spelled others) e) in
          let j = same_text (joined (indent ∷ word ∷ w.pieces v fit)) (joined texts) same (lead.put v fit (k.tokens ++ others) (followed k) (admitted w.after Safe (spelled (k.tokens ++ others)) safe next)) in
          put_as ((is_word key ▸ p) then items_from clausing (with_clause c v)) (items_from clausing c) (v, vs) (v ∷ vs) (joined (texts ++ more)) others (then_put (is_word key ▸ p) (items_from clausing (with_clause c v)) v vs texts more others k j)
          (λ ts h. subst (Many clausing c (v ∷ vs)) (sym h.2) (one_more c v vs h.0 h.1 (key_begins key p c v h.0 h.3 unsaid, here h.0 h.3) h.4));
      begins = subst (Opens true Safe) (sym (joined-append texts more)) (then_opens true true Safe Safe (joined texts) (joined more) begins m.begins);
    }

abbrev pub bound_of : Bool → ℤ → Bound
bound_of true n = Usual
bound_of false n = Given n

-- the type that is written
abbrev pub said : SequenceKind → Option SequenceKind
said SmallInt = Some SmallInt
said Integer = Some Integer
said BigInt = None

abbrev pub written : Sequence → Clauses
written v = record {
  kind = said v.kind;
  start = Some v.start;
  step = Some v.step;
  least = Some (bound_of (int_eq v.min (usual_min v.kind v.step)) v.min);
  greatest = Some (bound_of (int_eq v.max (usual_max v.kind v.step)) v.max);
  cache = Some v.cache;
  cycle = v.cycle;
}

abbrev pub with_cycle : Bool → List Clause
with_cycle true = Cycle ∷ []
with_cycle false = []

abbrev pub numbers_written : Sequence → List Clause
numbers_written v =
    Start v.start ∷ Step v.step ∷ Least (bound_of (int_eq v.min (usual_min v.kind v.step)) v.min) ∷ Greatest (bound_of (int_eq v.max (usual_max v.kind v.step)) v.max) ∷ Cache v.cache ∷ with_cycle v.cycle

abbrev pub with_kind : SequenceKind → List Clause → List Clause
with_kind BigInt vs = vs
with_kind kind vs = Kind kind ∷ vs

abbrev pub clauses_written : Sequence → List Clause
clauses_written v = with_kind v.kind (numbers_written v)

abbrev number_pieces : Sequence → List (List ℕ)
number_pieces v =
    codes "\n    START WITH " ∷ signed_decimal v.start ∷ codes "\n    INCREMENT BY " ∷ signed_decimal v.step ∷ min_text v.kind v.step v.min ∷ max_text v.kind v.step v.max
    ∷ codes "\n    CACHE " ∷ signed_decimal v.cache ∷ words_if v.cycle (codes "\n    CYCLE") ∷ []

abbrev pub clause_pieces : Sequence → List (List ℕ)
clause_pieces v = type_words v.kind ∷ number_pieces v

pub min_put : (d : Clauses) {vs : List Clause} {more : List (List ℕ)} (usual : Bool) (n : ℤ) → IsInt n → Put (record d { least = Some (bound_of usual n); greatest = None }) vs more
    → Put (record d { least = None; greatest = None }) (Least (bound_of usual n) ∷ vs) (bound usual (codes "\n    NO MINVALUE") (codes "\n    MINVALUE ") n ∷ more)
unfolding bound clause_behind is_key
min_put d true n is m =
    one (record d { least = None; greatest = None }) (Least Usual) (codes "NO") refl (seen_as (λ u. Least Usual) (mark_as (word_as space (codes "MINVALUE") refl))) (tt, tt, refl) (codes "\n    NO MINVALUE" ∷ []) refl refl refl refl
    (λ ts s. inl (s.0, s.1, (s.2.0, s.2.1, s.2.2, s.2.3, inl s.2.4))) m
min_put d false n is m =
    one (record d { least = None; greatest = None }) (Least (Given n)) (codes "MINVALUE") refl (seen_as (λ n. Least (Given n)) (number_as space)) (n, is, refl) ((codes "\n    MINVALUE " ++ signed_decimal n) ∷ []) refl refl refl refl (λ ts s. inr (inr (inr (inr (inl s))))) m

pub max_put : (d : Clauses) (least : Bound) {vs : List Clause} {more : List (List ℕ)} (usual : Bool) (n : ℤ) → IsInt n → Put (record d { least = Some least; greatest = Some (bound_of usual n) }) vs more
    → Put (record d { least = Some least; greatest = None }) (Greatest (bound_of usual n) ∷ vs) (bound usual (codes "\n    NO MAXVALUE") (codes "\n    MAXVALUE ") n ∷ more)
unfolding bound clause_behind is_key
max_put d least true n is m =
    one (record d { least = Some least; greatest = None }) (Greatest Usual) (codes "NO") refl (seen_as (λ u. Greatest Usual) (mark_as (word_as space (codes "MAXVALUE") refl))) (tt, tt, refl) (codes "\n    NO MAXVALUE" ∷ []) refl refl refl refl (λ ts s. inl s) m
max_put d least false n is m =
    one (record d { least = Some least; greatest = None }) (Greatest (Given n)) (codes "MAXVALUE") refl (seen_as (λ n. Greatest (Given n)) (number_as space)) (n, is, refl) ((codes "\n    MAXVALUE " ++ signed_decimal n) ∷ []) refl refl refl refl (λ ts s. inr (inr (inr (inr (inr (inl s)))))) m

-- clause by clause
pub clauses_put : (v : Sequence) → IsSequence v → Put no_clauses (clauses_written v) (clause_pieces v)
unfolding clause_behind is_key
clauses_put v is = by v.kind
  where
    none : (c : Clauses) (pieces : List (List ℕ)) → joined pieces ≡ [] → Put c [] pieces
    none c pieces e = record { put = λ others follows h. same_text [] (joined pieces) (sym e) (none_put (items_from clausing c) [] others (no_more c) follows); begins = λ m k rest h. ap (λ (x : List ℕ). admits m (x ++ rest)) e ∙ h }

    cycles : (c : Clauses) (cycle : Bool) → c.cycle ≡ false → Put c (with_cycle cycle) (words_if cycle (codes "\n    CYCLE") ∷ [])
    cycles c false e = none c ([] ∷ []) refl
    cycles c true e = one c Cycle (codes "CYCLE") refl (after_as (nothing_as {test = never} Cycle) Words refl) refl (codes "\n    CYCLE" ∷ []) refl refl refl (ap not e) (λ ts s. inr (inr (inr (inr (inr (inr (inr s))))))) (none (with_clause c Cycle) [] refl)

    behind : (kind : Option SequenceKind) → Put (record no_clauses { kind = kind }) (numbers_written v) (number_pieces v)
    behind kind =
        let c = record no_clauses { kind = kind; start = Some v.start; step = Some v.step } in
        let least = bound_of (int_eq v.min (usual_min v.kind v.step)) v.min in
        let bounded = record c { least = Some least; greatest = Some (bound_of (int_eq v.max (usual_max v.kind v.step)) v.max) } in
        let cache = one bounded (Cache v.cache) (codes "CACHE") refl (seen_as Cache (number_as space)) (v.cache, is.4, refl) (codes "\n    CACHE " ∷ signed_decimal v.cache ∷ []) refl refl refl refl (λ ts s. inr (inr (inr (inr (inr (inr (inl s))))))) (cycles (record bounded { cache = Some v.cache }) v.cycle refl) in
        let bounds = min_put c (int_eq v.min (usual_min v.kind v.step)) v.min is.2 (max_put c least (int_eq v.max (usual_max v.kind v.step)) v.max is.3 cache) in
        let step = one (record no_clauses { kind = kind; start = Some v.start }) (Step v.step) (codes "INCREMENT") refl (word_then (codes "BY") refl (seen_as Step (number_as space)) refl) (v.step, is.1, refl) (codes "\n    INCREMENT BY " ∷ signed_decimal v.step ∷ []) refl refl refl refl (λ ts s. inr (inr (inr (inl s)))) bounds in
        one (record no_clauses { kind = kind }) (Start v.start) (codes "START") refl (word_then (codes "WITH") refl (seen_as Start (number_as space)) refl) (v.start, is.0, refl) (codes "\n    START WITH " ∷ signed_decimal v.start ∷ []) refl refl refl refl (λ ts s. inr (inr (inl s))) step

    by : (kind : SequenceKind) → Put no_clauses (with_kind kind (numbers_written v)) (type_words kind ∷ number_pieces v)
    by SmallInt = one no_clauses (Kind SmallInt) (codes "AS") refl (seen_as (λ u. Kind SmallInt) (mark_as (word_as space (codes "smallint") refl))) (tt, tt, refl) (codes "\n    AS smallint" ∷ []) refl refl refl refl (λ ts s. inr (inl (s.0, s.1, (s.2.0, s.2.1, s.2.2, s.2.3, inl s.2.4)))) (behind (Some SmallInt))
    by Integer = one no_clauses (Kind Integer) (codes "AS") refl (seen_as (λ u. Kind Integer) (mark_as (word_as space (codes "integer") refl))) (tt, tt, refl) (codes "\n    AS integer" ∷ []) refl refl refl refl (λ ts s. inr (inl (s.0, s.1, (s.2.0, s.2.1, s.2.2, s.2.3, inr s.2.4)))) (behind (Some Integer))
    by BigInt = let m = behind None in record { put = m.put; begins = m.begins }

pub said_so : (v : Sequence) → with_clauses no_clauses (clauses_written v) ≡ written v
said_so v = grind arith

unfoldable pub clauses_as : Written sequence_clauses
unfolding sequence_clauses
clauses_as = record {
  Fit = λ c. (v : Sequence) × IsSequence v × (written v ≡ c);
  Is = AreGiven;
  pieces = λ c fit. clause_pieces fit.0;
  after = Safe;
  opens = Safe;
  lacks = true;
  closed = false;
  put = λ c fit others follows h. put_as (items_from clausing no_clauses) sequence_clauses (clauses_written fit.0) c (joined (clause_pieces fit.0)) others ((clauses_put fit.0 fit.1).put others follows h) (λ ts s. (clauses_written fit.0, sym (said_so fit.0 ∙ fit.2), s));
  begins = λ c fit. (clauses_put fit.0 fit.1).begins;
  made = λ c ts r came s. subst AreGiven (sym s.1) (all_given no_clauses s.0 ts r came (tt, (tt, (tt, (tt, tt)))) s.2);
  closes = not_closed sequence_clauses;
}

-- the numbers that are written are the sequence's
pub sequence_same : (v : Sequence) → sequence_of (written v) ≡ v
unfolding sequence_of
sequence_same v =
    let bound_is : (usual n : ℤ) → bound_or usual (Some (bound_of (int_eq n usual) n)) ≡ n = λ usual n. grind arith in
    let said_is : (kind : SequenceKind) → unwrap_or (said kind) BigInt ≡ kind = λ x. grind arith in
    rw (said_is v.kind, bound_is (usual_min v.kind v.step) v.min, bound_is (usual_max v.kind v.step) v.max) refl

unfoldable pub sequence_as : Written sequence
unfolding sequence clauses_text clauses_as
sequence_as = pieces_as (shown_as sequence_of clauses_as IsSequence (λ v is. (written v, (v, is, refl), sequence_same v)) sequence_is) (λ v is. clauses_text v ∷ []) (λ v is. sym (append-nil (clauses_text v)))
