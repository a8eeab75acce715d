-- One more name of an index's columns.
use Rattle.std.proofs.Common.{◌≡◌, ◌<◌, ◌++◌, Bool, true, false, ◌&&◌, List, [], ◌∷◌, Option, Some, None, map, length, refl, ap, sym, ◌∙◌, append_assoc, append-nil, arith}
use Rattle.std.specs.Prelude.{if◌then◌else◌}
use Rattle.std.specs.Option.{option_map}
use Rattle.cat_model.specs.IndexColumns.{names_to_bracket, checked_name, onto_names}
use Rattle.cat_model.specs.Lexemes as says
use Rattle.cat_model.specs.Lexemes.{is_sign, name_in, no_more}
use Rattle.cat_model.specs.Values.{Bytes}
use Rattle.stmt_refs.specs.declared.lexeme.Lexeme.{Lexeme}
use Rattle.stmt_refs.specs.Said.{said}

abbrev behind : List Bytes → Option (List Bytes) → Option (List Bytes)
behind names more = option_map (λ (m : List Bytes). names ++ m) more

onto_one : (n : Bytes) (names : List Bytes) (more : Option (List Bytes)) → behind names (onto_names (Some n) more) ≡ behind (names ++ n ∷ []) more
onto_one n names None = refl
onto_one n names (Some m) = ap Some (sym (append_assoc names (n ∷ []) m))

-- what the first two lexemes leave of the names
step : (x mark : says.Lexeme) (rest : List says.Lexeme) (n : Bytes) (names : List Bytes) → checked_name (name_in x) ≡ Some n
    → behind names (names_to_bracket (x ∷ mark ∷ rest)) ≡ behind (names ++ n ∷ []) (if is_sign 44 mark then names_to_bracket rest else if is_sign 41 mark && no_more rest then Some [] else None)
step x mark rest n names e =
    ap (λ (o : Option Bytes). behind names (onto_names o (if is_sign 44 mark then names_to_bracket rest else if is_sign 41 mark && no_more rest then Some [] else None))) e
    ∙ onto_one n names (if is_sign 44 mark then names_to_bracket rest else if is_sign 41 mark && no_more rest then Some [] else None)

module _ (all left rest : List Lexeme) (x mark : Lexeme) (n : Bytes) (names : List Bytes)
    (so_far : names_to_bracket (map said all) ≡ option_map (λ (m : List Bytes). names ++ m) (names_to_bracket (map said left)))
    (is : left ≡ x ∷ mark ∷ rest) (name : checked_name (name_in (said x)) ≡ Some n) where
  both : names_to_bracket (map said all) ≡ behind (names ++ n ∷ []) (if is_sign 44 (said mark) then names_to_bracket (map said rest) else if is_sign 41 (said mark) && no_more (map said rest) then Some [] else None)
  both = so_far ∙ ap (λ (l : List Lexeme). behind names (names_to_bracket (map said l))) is ∙ step (said x) (said mark) (map said rest) n names name

  -- behind a comma
  pub goes_on : is_sign 44 (said mark) ≡ true → names_to_bracket (map said all) ≡ option_map (λ (m : List Bytes). (names ++ n ∷ []) ++ m) (names_to_bracket (map said rest))
  goes_on comma = both ∙ ap (λ (b : Bool). behind (names ++ n ∷ []) (if b then names_to_bracket (map said rest) else if is_sign 41 (said mark) && no_more (map said rest) then Some [] else None)) comma

  ended : (b : Bool) → behind (names ++ n ∷ []) (if b then Some [] else None) ≡ (if b then Some (names ++ n ∷ []) else None)
  ended true = ap Some (append-nil (names ++ n ∷ []))
  ended false = refl

  -- behind anything else
  pub ends : is_sign 44 (said mark) ≡ false → names_to_bracket (map said all) ≡ (if is_sign 41 (said mark) && no_more (map said rest) then Some (names ++ n ∷ []) else None)
  ends other =
      both ∙ ap (λ (b : Bool). behind (names ++ n ∷ []) (if b then names_to_bracket (map said rest) else if is_sign 41 (said mark) && no_more (map said rest) then Some [] else None)) other
      ∙ ended (is_sign 41 (said mark) && no_more (map said rest))

-- fewer than two lexemes are no names
pub too_short : (left : List Lexeme) → length left < 2 → names_to_bracket (map said left) ≡ None
too_short [] h = refl
too_short (x ∷ []) h = refl
too_short (x ∷ y ∷ rest) h = absurd (omega arith)
