-- The grammar of CREATE SEQUENCE: its clauses are items in any order, each at most once.
use Rattle.std.specs.{Prelude.◌&&◌, Prelude.◌||◌, Prelude.ℤ, Prelude.pos, Prelude.Bool, Prelude.true, Prelude.false, Prelude.not, Prelude.List, Prelude.[], Prelude.◌∷◌, Prelude.Option, Prelude.Some, Prelude.None, Prelude.is_some, Prelude.if◌then◌else◌, Prelude.codes, Option.unwrap_or}
use Rattle.cat_model.specs.{declared.constraint.SequenceKind.SequenceKind, declared.constraint.SequenceKind.TheVariants.SmallInt, declared.constraint.SequenceKind.TheVariants.Integer, declared.constraint.SequenceKind.TheVariants.BigInt, declared.value.Sequence.Sequence}
use Rattle.ddl_parts.specs.{Lexemes.Lexeme, Lexemes.is_word, Lexemes.never, Parts.Part, Parts.Branch, Parts.Items, Parts.mark, Parts.seen, Parts.choose, Parts.nothing, Parts.one_of, Parts.many, Parts.◌then◌, Parts.◌▸◌, Numbers.whole_number}
use Rattle.ddl_spelling.specs.Sequences.{falls, usual_min, usual_max}
use Rattle.ddl_grammar.specs.{declared.sequences.Bound.Bound, declared.sequences.Bound.TheVariants.Usual, declared.sequences.Bound.TheVariants.Given, declared.sequences.Clause.Clause, declared.sequences.Clause.TheVariants.Kind, declared.sequences.Clause.TheVariants.Start, declared.sequences.Clause.TheVariants.Step, declared.sequences.Clause.TheVariants.Least, declared.sequences.Clause.TheVariants.Greatest, declared.sequences.Clause.TheVariants.Cache, declared.sequences.Clause.TheVariants.Cycle, declared.sequences.Clauses.Clauses, Clauses.begun_by}

-- ---- one clause

abbrev pub integer_kind : Part Clause
integer_kind = choose (is_word (codes "smallint")) (seen (λ u. Kind SmallInt) (mark (is_word (codes "smallint")))) (seen (λ u. Kind Integer) (mark (is_word (codes "integer"))))

abbrev pub kind_branch : Branch Clause
kind_branch = record { key = codes "as"; part = integer_kind }

abbrev pub more_branches : List (Branch Clause)
more_branches =
    record { key = codes "start"; part = is_word (codes "with") ▸ seen Start whole_number } ∷ record { key = codes "increment"; part = is_word (codes "by") ▸ seen Step whole_number }
    ∷ record { key = codes "minvalue"; part = seen (λ n. Least (Given n)) whole_number } ∷ record { key = codes "maxvalue"; part = seen (λ n. Greatest (Given n)) whole_number }
    ∷ record { key = codes "cache"; part = seen Cache whole_number } ∷ record { key = codes "cycle"; part = nothing never Cycle } ∷ []

-- a clause but NO MINVALUE and NO MAXVALUE
abbrev pub plain_clause : Part Clause
plain_clause = one_of kind_branch more_branches

abbrev pub usual_least : Part Clause
usual_least = seen (λ u. Least Usual) (mark (is_word (codes "minvalue")))

abbrev pub usual_greatest : Part Clause
usual_greatest = seen (λ u. Greatest Usual) (mark (is_word (codes "maxvalue")))

-- behind NO: a bound, by whether nothing was said of the least number and of the greatest
abbrev pub usual_bound : Bool → Bool → Part Clause
usual_bound true true = choose (is_word (codes "minvalue")) usual_least usual_greatest
usual_bound true false = usual_least
usual_bound false greatest = usual_greatest

-- ---- clause by clause

abbrev pub no_clauses : Clauses
no_clauses = record { kind = None; start = None; step = None; least = None; greatest = None; cache = None; cycle = false }

-- the clauses so far, and one more
abbrev pub with_clause : Clauses → Clause → Clauses
with_clause c (Kind kind) = record c { kind = Some kind }
with_clause c (Start n) = record c { start = Some n }
with_clause c (Step n) = record c { step = Some n }
with_clause c (Least bound) = record c { least = Some bound }
with_clause c (Greatest bound) = record c { greatest = Some bound }
with_clause c (Cache n) = record c { cache = Some n }
with_clause c Cycle = record c { cycle = true }

abbrev pub is_unsaid : {A : Type 0} → Option A → Bool
is_unsaid said = not (is_some said)

-- behind these clauses
unfoldable pub clause_behind : Clauses → Part Clause
clause_behind c = choose (is_word (codes "no")) (is_word (codes "no") ▸ usual_bound (is_unsaid c.least) (is_unsaid c.greatest)) plain_clause

-- a clause begins that was not said before
unfoldable pub begins_clause : Clauses → Lexeme → Bool
begins_clause c t =
    if is_word (codes "as") t then is_unsaid c.kind
    else (if is_word (codes "start") t then is_unsaid c.start
    else (if is_word (codes "increment") t then is_unsaid c.step
    else (if is_word (codes "no") t then (is_unsaid c.least || is_unsaid c.greatest)
    else (if is_word (codes "minvalue") t then is_unsaid c.least
    else (if is_word (codes "maxvalue") t then is_unsaid c.greatest
    else (if is_word (codes "cache") t then is_unsaid c.cache
    else (is_word (codes "cycle") t && not c.cycle)))))))

abbrev pub clausing : Items Clause
clausing = record {
  State = Clauses;
  start = no_clauses;
  more = begins_clause;
  item = λ c. begun_by (begins_clause c) (clause_behind c);
  next = with_clause;
}

abbrev pub with_clauses : Clauses → List Clause → Clauses
with_clauses c [] = c
with_clauses c (v ∷ vs) = with_clauses (with_clause c v) vs

unfoldable pub sequence_clauses : Part Clauses
sequence_clauses = seen (with_clauses no_clauses) (many (begins_clause no_clauses) clausing)

-- ---- CREATE SEQUENCE

abbrev pub bound_or : ℤ → Option Bound → ℤ
bound_or usual (Some (Given n)) = n
bound_or usual said = usual

-- where it starts: at the least number, or at the greatest where it falls
abbrev pub usual_start : ℤ → ℤ → ℤ → ℤ
usual_start step min max = if falls step then max else min

abbrev pub sequence_with : SequenceKind → ℤ → ℤ → ℤ → Clauses → Sequence
sequence_with kind step min max c = record {
  kind = kind;
  start = unwrap_or c.start (usual_start step min max);
  step = step;
  min = min;
  max = max;
  cache = unwrap_or c.cache (pos 1);
  cycle = c.cycle;
}

abbrev pub sequence_by : SequenceKind → ℤ → Clauses → Sequence
sequence_by kind step c = sequence_with kind step (bound_or (usual_min kind step) c.least) (bound_or (usual_max kind step) c.greatest) c

-- clauses that are missing have their usual values
unfoldable pub sequence_of : Clauses → Sequence
sequence_of c = sequence_by (unwrap_or c.kind BigInt) (unwrap_or c.step (pos 1)) c

unfoldable pub sequence : Part Sequence
sequence = seen sequence_of sequence_clauses
