-- A text is read as a whole where no token is left behind what was read.
use Rattle.std.proofs.Common.{◌≡◌, ℕ, zero, suc, ◌<◌, ◌≤◌, true, false, true≢false, leb, List, [], ◌∷◌, append-nil, length, drop, Option, Some, None, is_some, ◌⊎◌, inl, inr, Result, Ok, Err, refl, sym, ap, subst, ◌∙◌, arith}
use Rattle.std.specs.Bool.{then_some}
use Rattle.std.specs.Option.{option_and_then}
use Rattle.std.proofs.lemmas.List.{drop_all}
use Rattle.std.proofs.lemmas.Bool.Decides.{leb_tells}
use Rattle.cat_model.specs.Values.{Bytes}
use Rattle.ddl_part_laws.specs.fault.ReadError.{ReadError}
use Rattle.ddl_part_laws.specs.Laws.{Lawful}
use Rattle.ddl_part_laws.specs.Lexemes.{Lexeme}
use Rattle.ddl_part_laws.specs.Parts.{Part, Reading}
use Rattle.ddl_part_laws.specs.Pieces.{GivesPart}
use Rattle.row_texts.specs.Tokens.{all_tokens}
use Rattle.row_texts.specs.Texts.{if_no_more, all_read, whole, SpellsWhole}

-- ---- no token is left behind a place where the place is that of the end

some_left : {A : Type 0} (v : A) (ts : List Lexeme) (place : ℕ) → place < length ts → if_no_more v (drop place ts) ≡ None
some_left v [] place h = absurd (omega (arith, h))
some_left v (t ∷ ts) zero h = refl
some_left v (t ∷ ts) (suc place) h = some_left v ts place (omega (arith, h))

pub no_more_at : {A : Type 0} (v : A) (ts : List Lexeme) (place : ℕ) → if_no_more v (drop place ts) ≡ then_some (leb (length ts) place) v
no_more_at {A} v ts place = by (leb_tells (length ts) place)
  where
    by : ((leb (length ts) place ≡ true) × (length ts ≤ place)) ⊎ ((leb (length ts) place ≡ false) × (place < length ts)) → if_no_more v (drop place ts) ≡ then_some (leb (length ts) place) v
    by (inl all) = ap (if_no_more v) (drop_all place ts all.1) ∙ ap (λ b. then_some b v) (sym all.0)
    by (inr left) = some_left v ts place left.1 ∙ ap (λ b. then_some b v) (sym left.0)

-- what the code read from the first token on
pub all_read_at : {A : Type 0} (ts : List Lexeme) (reading : Result (A × ℕ) ReadError) (due : Reading A) (v : A) (end : ℕ) → GivesPart ts (λ v. v) reading due → reading ≡ Ok (v, end) → all_read due ≡ then_some (leb (length ts) end) v
all_read_at {A} ts reading due v end gives is =
    ap all_read (subst (λ (r : Result (A × ℕ) ReadError). GivesPart ts (λ (w : A). w) r due) is gives) ∙ no_more_at v ts end

-- ---- as a whole, and by the part's laws

abbrev read_as : {A : Type 0} → A → List Lexeme → Reading A
read_as v rest = Ok (v, rest)

all_is : {A : Type 0} (r : Reading A) (v : A) → all_read r ≡ Some v → r ≡ Ok (v, [])
all_is {A} (Ok x) v e = by x.1 refl e
  where
    by : (ts : List Lexeme) → x.1 ≡ ts → if_no_more x.0 ts ≡ Some v → read_as x.0 x.1 ≡ read_as v []
    by [] is e = let same : x.0 ≡ v = cc in ap (λ (w : A). read_as w x.1) same ∙ ap (read_as v) is
    by (t ∷ ts) is e = absurd cc
all_is (Err s) v e = absurd cc

pub whole_found : {A : Type 0} (part : Part A) (text : Bytes) (v : A) → Lawful part → whole part text ≡ Some v → SpellsWhole part text v
whole_found {A} part text v laws e = by (all_tokens text) refl e
  where
    by : (o : Option (List Lexeme)) → all_tokens text ≡ o → option_and_then (λ ts. all_read (part.read ts)) o ≡ Some v → SpellsWhole part text v
    by None is e = absurd cc
    by (Some ts) is e =
        let f = laws.found ts v [] (all_is (part.read ts) v e) in
        (ts, is, subst (part.Spells v) (sym (f.parts ∙ append-nil f.front)) f.spells)

pub whole_only : {A : Type 0} (part : Part A) (text : Bytes) (v : A) → Lawful part → SpellsWhole part text v → whole part text ≡ Some v
whole_only part text v laws h =
    ap (option_and_then (λ ts. all_read (part.read ts))) h.1
    ∙ ap all_read (ap part.read (sym (append-nil h.0)) ∙ laws.only v h.0 [] h.2 refl)

pub some_value : {A : Type 0} (o : Option A) → is_some o ≡ true → (v : A) × (o ≡ Some v)
some_value None e = absurd (true≢false (sym e))
some_value (Some v) e = (v, refl)
