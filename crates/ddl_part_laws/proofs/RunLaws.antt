-- The laws of expressions and types.
use Rattle.ddl_part_laws.proofs.Common.{◌≡◌, ℕ, Bool, true, false, cond, not, List, [], ◌∷◌, Some, None, Result, is_ok, refl, ap, ◌∙◌, ◌||◌, codes, arith, ◌==◌, not-false, is_utf8, chars, encode, Number, is_keyword_of, name_of, Lexeme, is_word, is_sign, source, run, runs_of, Lawful, Apart, name_value, name_in, Bracket, Spot, First, Inside, Nest, nested, nest_step, nest_done, ends_run, expression, default_text, default_and_null, without_not_null, typing, type_step, type_done, type_long, type_goes_on, if_name, is_long_by, is_type_word, is_number, type_part, type_of, TypeSpot, Begin, FirstWord, Schema, Dotted, Path, Words, Opened, Counted, Further, Behind, Array, Ended, IsTooLong, shortened}
use Rattle.ddl_part_laws.proofs.{Simple.seen_laws, Shorter.word_like, Shorter.sign_like, Shorter.name_shortens, Machines.CanEnd, Machines.Shorter, Machines.machine_laws}
use Rattle.ddl_parts.proofs.Basics.{a_word, a_sign, nest}
use Rattle.ddl_parts.specs.declared.runs.Bracket.TheVariants.{Round, Square}

abbrev a_number : Lexeme
a_number = record { gap = 32 ∷ []; kind = Number; word = 48 ∷ []; start = 0 }

-- ---- expressions

abbrev closing : Bracket → Lexeme
closing Round = a_sign 41
closing Square = a_sign 93

abbrev closers : List Bracket → List Lexeme
closers [] = []
closers (b ∷ bs) = closing b ∷ closers bs

abbrev finish_by : Spot → List Bracket → List Lexeme
finish_by First [] = a_number ∷ []
finish_by _ bs = closers bs

abbrev last_by : Spot → List Bracket → Nest
last_by First [] = nest [] Inside
last_by spot [] = nest [] spot
last_by _ (b ∷ bs) = nest [] Inside

closes : (bounded takes : Bool) (bs : List Bracket) → run (nested bounded takes) (Some (nest bs Inside)) (closers bs) ≡ Some (nest [] Inside)
unfolding nest_step
closes bounded takes [] = refl
closes bounded takes (Round ∷ bs) = closes bounded takes bs
closes bounded takes (Square ∷ bs) = closes bounded takes bs

covered : (bounded takes : Bool) (s : Nest) (t : Lexeme) → nest_done s ≡ true → not (ends_run bounded t) ≡ false → nest_step bounded takes s t ≡ None
unfolding nest_step nest_done
covered bounded takes s t done free = grind (arith, not-false)

nested_ends : (bounded takes : Bool) → CanEnd (nested bounded takes)
unfolding nest_step ends_run is_word is_sign is_keyword_of nest_done
nested_ends bounded takes = record {
  finish = λ s. finish_by s.spot s.brackets;
  last = λ s. last_by s.spot s.brackets;
  finished = λ s. (grind (arith, closes));
  done = λ s. (grind arith);
  covers = covered bounded takes;
  shorter = λ s t none. record { undone = λ l. absurd cc; takes = λ l. absurd cc; stays = λ l long. ((grind (arith, word_like, sign_like)) ∙ none, refl) };
}

pub expression_laws : Lawful expression
unfolding expression
expression_laws = seen_laws source (runs_of (nested false false)) (machine_laws (nested false false) (nested_ends false false))

pub default_text_laws : Lawful default_text
unfolding default_text
default_text_laws = seen_laws source (runs_of (nested true false)) (machine_laws (nested true false) (nested_ends true false))

pub default_and_null_laws : Lawful default_and_null
unfolding default_and_null
default_and_null_laws = seen_laws without_not_null (runs_of (nested true true)) (machine_laws (nested true true) (nested_ends true true))

-- ---- types

type_finish : TypeSpot → List Lexeme
type_finish Begin = a_word (codes "text") ∷ []
type_finish (FirstWord short) = []
type_finish Schema = a_sign 46 ∷ a_word (codes "a") ∷ []
type_finish Dotted = a_word (codes "a") ∷ []
type_finish Opened = a_number ∷ a_sign 41 ∷ []
type_finish Counted = a_sign 41 ∷ []
type_finish Further = a_number ∷ a_sign 41 ∷ []
type_finish Array = a_sign 93 ∷ []
type_finish x = []

type_last : TypeSpot → TypeSpot
type_last Begin = FirstWord true
type_last (FirstWord short) = FirstWord short
type_last Schema = Path
type_last Dotted = Path
type_last Path = Path
type_last Words = Words
type_last Opened = Behind
type_last Array = Ended
type_last Ended = Ended
type_last x = Behind

-- where a name is due
name_due : (s : TypeSpot) (t : Lexeme) (r : Result (List ℕ) Bool) → name_value t ≡ r → if_name r s ≡ None → (is_long_by r ≡ true → IsTooLong t × (if_name (name_value (shortened t)) s ≡ Some s)) × (is_long_by r ≡ false → IsTooLong t → (if_name (name_value (shortened t)) s ≡ None) × (is_long_by (name_value (shortened t)) ≡ false))
name_due s t r is e = grind (arith, name_shortens)

type_shorter : (s : TypeSpot) (t : Lexeme) → type_step s t ≡ None → Shorter typing s t
unfolding type_step type_long type_done is_type_word is_number
type_shorter Begin t none = by (is_type_word t) refl none
  where
    by : (b : Bool) → is_type_word t ≡ b → cond b (Some (FirstWord (is_ok (name_value t)))) (if_name (name_value t) Schema) ≡ None → Shorter typing Begin t
    by true w e = absurd cc
    by false w e = let h = name_due Schema t (name_value t) refl e in record {
      undone = λ l. refl;
      takes = λ l. (let g = h.0 l in (g.0, (Schema, ap (λ (b : Bool). cond b (Some (FirstWord (is_ok (name_value (shortened t))))) (if_name (name_value (shortened t)) Schema)) ((simp (word_like t g.0)) ∙ w) ∙ g.1)));
      stays = λ l long. (let g = h.1 l long in (ap (λ (b : Bool). cond b (Some (FirstWord (is_ok (name_value (shortened t))))) (if_name (name_value (shortened t)) Schema)) ((simp (word_like t long)) ∙ w) ∙ g.0, g.1));
    }
type_shorter Dotted t none = let h = name_due Path t (name_value t) refl none in record { undone = λ l. refl; takes = λ l. (let g = h.0 l in (g.0, (Path, g.1))); stays = h.1 }
type_shorter s t none =
    let type_same : (s : TypeSpot) (t : Lexeme) → IsTooLong t → type_long s t ≡ false → (s ≡ Begin → ⊥) → (s ≡ Dotted → ⊥) → (type_step s (shortened t) ≡ type_step s t) × (type_long s (shortened t) ≡ false) =
    λ s t long l first later. grind (arith, sign_like, word_like) in
    record { undone = λ l. absurd cc; takes = λ l. absurd cc; stays = λ l long. (let g = type_same s t long l (λ e. absurd cc) (λ e. absurd cc) in (g.0 ∙ none, g.1)) }

pub typing_ends : CanEnd typing
unfolding type_step type_finish type_last is_type_word is_number is_word is_sign is_keyword_of name_value name_in name_of is_utf8 chars encode type_done type_goes_on
typing_ends = record { finish = type_finish; last = type_last; finished = λ s. (grind arith); done = λ s. (grind arith); covers = λ s t d free. (grind arith); shorter = type_shorter }

pub type_laws : Lawful type_part
unfolding type_part
type_laws = seen_laws type_of (runs_of typing) (machine_laws typing typing_ends)

-- ---- before which tokens runs end

-- a closing bracket and a semicolon end each run
pub run_ends : (bounded : Bool) (b : ℕ) → (b == 41 || b == 93 || b == 59) ≡ true → (t : Lexeme) → is_sign b t ≡ true → not (ends_run bounded t) ≡ false
unfolding ends_run is_sign
run_ends bounded b ends t e = grind arith

pub expression_ends : Apart (is_sign 59) expression.goes_on
unfolding expression
expression_ends = run_ends false 59 refl

pub expression_ends_bracket : Apart (is_sign 41) expression.goes_on
unfolding expression
expression_ends_bracket = run_ends false 41 refl
