-- A text's path is what all of its tokens spell.
use Rattle.ddl_part_laws.proofs.Common.{◌≡◌, List, [], None, ℕ, arith, append-nil, Ok, sym, ◌∙◌, Option, subst, is_some, Reading, qualified, whole_path, path_in, LexFault, QName, lexemes, collected}
use Rattle.ddl_part_laws.proofs.Leads.{qualified_laws}

-- a text's path is what all of its tokens spell, with no fault behind them
abbrev pub SpellsPath : List ℕ → QName → Type 0
SpellsPath text q = ((collected text 0).fault ≡ None) × qualified.Spells q (lexemes text (collected text 0).pieces)

pub path_found : (text : List ℕ) (q : QName) → path_in text ≡ Ok q → SpellsPath text q
unfolding path_in
path_found text q e =
    let ts = lexemes text (collected text 0).pieces in
    let whole : (o : Option LexFault) (r : Reading QName) → whole_path (is_some o) r ≡ Ok q → (o ≡ None) × (r ≡ Ok (q, [])) = λ o r e. grind arith in
    let h = whole (collected text 0).fault (qualified.read ts) e in
    let f = qualified_laws.found ts q [] h.1 in
    (h.0, subst (qualified.Spells q) (sym (f.parts ∙ append-nil f.front)) f.spells)

pub path_only : (text : List ℕ) (q : QName) → SpellsPath text q → path_in text ≡ Ok q
unfolding path_in
path_only text q h = cc
