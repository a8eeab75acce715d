-- One key more, new or known.
use Rattle.std.proofs.Common.{◌≡◌, ℕ, Bool, true, false, not, ◌&&◌, ◌||◌, List, [], ◌∷◌, map, Option, Some, None, Result, Ok, Err, refl, sym, ap, ◌∙◌, inl, inr}
use Rattle.std.specs.Cmp.{first_so, second_so}
use Rattle.std.specs.List.{list_any, slice_get}
use Rattle.std.specs.Option.{IfSome}
use Rattle.std.proofs.lemmas.Bool.{true≢false, and_from, false_from_ne_true, not-true, not_from_false}
use Rattle.copy_text.specs.declared.fault.CopyFault.{CopyFault}
use Rattle.copy_text.specs.Lines.{data_lines}
use Rattle.copy_text.specs.Reading.{row_of}
use Rattle.cat_model.specs.declared.value.Column.{Column}
use Rattle.cat_model.specs.Values.{Bytes, Row}
use Rattle.cat_model.specs.FieldTypes.{comparable}
use Rattle.cat_model.specs.Lexemes.{same_text}
use Rattle.cat_model.proofs.MarkLaws.{same_text-equal, same_text-self}
use Rattle.row_keys.specs.ByPlaces.{compared_by, field_at}
use Rattle.plain_rows.specs.Lines.{HasAtMost, all_among, key_read, line_key, line_keys, none_again, same_some}

-- a key that isn't known
pub new_key : (key : Bytes) (known : List Bytes) (more : List (Option Bytes)) → list_any (same_text key) known ≡ false → none_again (key ∷ known) more ≡ true → none_again known (Some key ∷ more) ≡ true
new_key key known more new rest = ap (λ (b : Bool). not b && none_again (key ∷ known) more) new ∙ rest

-- of a set with one key more a key is that one, or was there
pub one_more : {L : Type 0} (key q : Bytes) (old : Bool) → (same_text key q || old) ≡ true → (old ≡ true → L) → (same_text q key ≡ true → L) → L
one_more {L} key q old there was is = by (same_text key q) refl there
  where
    by : (b : Bool) → same_text key q ≡ b → (b || old) ≡ true → L
    by true same t = is (ap (λ (x : Bytes). same_text q x) (same_text-equal key q same) ∙ same_text-self q)
    by false other t = was t

-- the keys of lines, one line in front
pub first_key : (columns : List Column) (place : ℕ) (text line behind : Bytes) → data_lines text ≡ line ∷ data_lines behind → line_keys columns place text ≡ line_key columns place line ∷ line_keys columns place behind
first_key columns place text line behind split = ap (map (line_key columns place)) split

pub or_right : (b x : Bool) → x ≡ true → (b || x) ≡ true
or_right true x is = refl
or_right false x is = is

-- ---- a line that has at most this key

-- if the line reads, it has the key
pub at_most : (columns : List Column) (place : ℕ) (line key : Bytes) → ((row : Row) → row_of line ≡ Ok row → field_at columns (Some place) row ≡ Some key) → HasAtMost (Some key) (line_key columns place line)
at_most columns place line key read = by (row_of line) read
  where
    by : (r : Result Row CopyFault) → ((row : Row) → r ≡ Ok row → field_at columns (Some place) row ≡ Some key) → HasAtMost (Some key) (key_read columns place r)
    by (Ok row) has = inr (has row refl)
    by (Err fault) has = inl refl

pub exactly : (columns : List Column) (place : ℕ) (line key : Bytes) (row : Row) → ((row : Row) → row_of line ≡ Ok row → field_at columns (Some place) row ≡ Some key) → row_of line ≡ Ok row → Some key ≡ line_key columns place line
exactly columns place line key row read is = sym (ap (key_read columns place) is ∙ read row is)

fewer_known : (many few : List Bytes) (more : List (Option Bytes)) → ((q : Bytes) → list_any (same_text q) few ≡ true → list_any (same_text q) many ≡ true) → none_again many more ≡ true → none_again few more ≡ true
fewer_known many few [] within again = refl
fewer_known many few (None ∷ more) within again = fewer_known many few more within again
fewer_known many few (Some key ∷ more) within again =
    let new : list_any (same_text key) many ≡ false = not-true _ (first_so (not (list_any (same_text key) many)) (none_again (key ∷ many) more) again) in
    let rest : none_again (key ∷ many) more ≡ true = second_so (not (list_any (same_text key) many)) (none_again (key ∷ many) more) again in
    let too : list_any (same_text key) few ≡ false = false_from_ne_true _ (λ there. true≢false (sym (within key there) ∙ new)) in
    and_from _ _ (not_from_false _ too) (fewer_known (key ∷ many) (key ∷ few) more (λ q there. or_cases_to (same_text q key) (list_any (same_text q) few) (list_any (same_text q) many) (within q) there) rest)
  where
    or_cases_to : (b x y : Bool) → (x ≡ true → y ≡ true) → (b || x) ≡ true → (b || y) ≡ true
    or_cases_to true x y to there = refl
    or_cases_to false x y to there = to there

-- what is so of the key is so of what the line has
pub loosened : (known : List Bytes) (key found : Option Bytes) (more : List (Option Bytes)) → HasAtMost key found → none_again known (key ∷ more) ≡ true → none_again known (found ∷ more) ≡ true
loosened known key found more (inr same) again = ap (λ (k : Option Bytes). none_again known (k ∷ more)) same ∙ again
loosened known None found more (inl none) again = ap (λ (k : Option Bytes). none_again known (k ∷ more)) none ∙ again
loosened known (Some key) found more (inl none) again =
    ap (λ (k : Option Bytes). none_again known (k ∷ more)) none
    ∙ fewer_known (key ∷ known) known more (λ q there. or_right (same_text q key) (list_any (same_text q) known) there) (second_so (not (list_any (same_text key) known)) (none_again (key ∷ known) more) again)

pub loosened_among : (all : List (Option Bytes)) (key found : Option Bytes) (more : List (Option Bytes)) → HasAtMost key found → all_among all (key ∷ more) ≡ true → all_among all (found ∷ more) ≡ true
loosened_among all key found more (inr same) among = ap (λ (k : Option Bytes). all_among all (k ∷ more)) same ∙ among
loosened_among all None found more (inl none) among = ap (λ (k : Option Bytes). all_among all (k ∷ more)) none ∙ among
loosened_among all (Some key) found more (inl none) among =
    ap (λ (k : Option Bytes). all_among all (k ∷ more)) none ∙ second_so (list_any (same_some key) all) (all_among all more) among

-- the field that a line has at a place is its key there
pub field_compared : (columns : List Column) (column : Column) (place : ℕ) (row : Row) (text : Bytes) → slice_get columns place ≡ Some column → slice_get row place ≡ Some (Some text) → field_at columns (Some place) row ≡ Some (comparable column.resolved text)
field_compared columns column place row text there has = (λ i. compared_by (has i) (there i))

pub some_weaker : {A : Type 0} (P Q : A → Type 0) → ((a : A) → P a → Q a) → (o : Option A) → IfSome o P → IfSome o Q
some_weaker P Q weaker None p = p
some_weaker P Q weaker (Some a) p = weaker a p
