-- Written texts are laid out in tokens that stand wherever they are put.
use Rattle.ddl_forms.proofs.Common.{arith, ◌≡◌, ℕ, ◌+◌, true, false, List, [], ◌∷◌, ◌++◌, length, append_assoc, append-nil, refl, sym, ap, subst, ◌∙◌, ◌⊎◌, Lexeme, spelled, Part, ◌then◌, joined, semicolon}
use Rattle.ddl_forms.proofs.{Behind.Behind, Behind.admits, Closing.only_last, Kept.AllCame, Kept.spelled-append, RunTexts.placed-append, RunTexts.last_more, Standing.Stands, Standing.Stood, Standing.placed}

-- the others stand, and have no semicolon but the last
pub record Follows (others : List Lexeme) : Type 0 where
  pub stood : Stood others
  pub last : only_last semicolon others ≡ true

pub nothing_follows : Follows []
nothing_follows = record { stood = tt; last = refl }

-- tokens with this text, before others, that spell a value of a part
pub record IsPut {A : Type 0} (p : Part A) (v : A) (text : List ℕ) (others : List Lexeme) : Type 0 where
  pub tokens : List Lexeme
  pub bytes : spelled tokens ≡ text
  pub stood : Stood (tokens ++ others)
  pub spells : (at : ℕ) → p.Spells v (placed at tokens)
  pub last : only_last semicolon (tokens ++ others) ≡ true

pub followed : {A : Type 0} {p : Part A} {v : A} {text : List ℕ} {others : List Lexeme} (k : IsPut p v text others) → Follows (k.tokens ++ others)
followed k = record { stood = k.stood; last = k.last }

-- what it begins with, before the others
pub begun : {A : Type 0} {p : Part A} {v : A} {text : List ℕ} {others : List Lexeme} (b : Behind) (k : IsPut p v text others) → admits b (text ++ spelled others) ≡ true → admits b (spelled (k.tokens ++ others)) ≡ true
begun {others = others} b k e = ap (admits b) (spelled-append k.tokens others ∙ ap (λ (x : List ℕ). x ++ spelled others) k.bytes) ∙ e

pub same_text : {A : Type 0} {p : Part A} {v : A} {others : List Lexeme} (a b : List ℕ) → a ≡ b → IsPut p v a others → IsPut p v b others
same_text {p = p} {v = v} {others = others} a b e k = subst (λ (x : List ℕ). IsPut p v x others) e k

-- what spells a value of one part spells one of another
pub put_as : {A B : Type 0} (p : Part A) (q : Part B) (v : A) (w : B) (a : List ℕ) (others : List Lexeme) → IsPut p v a others → ((ts : List Lexeme) → p.Spells v ts → q.Spells w ts) → IsPut q w a others
put_as p q v w a others k too = record { tokens = k.tokens; bytes = k.bytes; stood = k.stood; spells = λ at. too (placed at k.tokens) (k.spells at); last = k.last }

-- no token
pub none_put : {A : Type 0} (p : Part A) (v : A) (others : List Lexeme) → p.Spells v [] → Follows others → IsPut p v [] others
none_put p v others says follows = record { tokens = []; bytes = refl; stood = follows.stood; spells = λ at. says; last = follows.last }

pub one_put : {A : Type 0} (p : Part A) (v : A) (t : Lexeme) (others : List Lexeme) → Stands t (spelled others) → semicolon t ≡ false ⊎ (others ≡ []) → ((at : ℕ) → p.Spells v (placed at (t ∷ []))) → Follows others → IsPut p v (t.gap ++ t.word) others
one_put p v t others stands plain says follows = record {
  tokens = t ∷ [];
  bytes = ap (λ (x : List ℕ). t.gap ++ x) (append-nil t.word);
  stood = (stands, follows.stood);
  spells = says;
  last = grind (arith, last_more);
}

pub joined-append : (a b : List (List ℕ)) → joined (a ++ b) ≡ joined a ++ joined b
joined-append [] b = refl
joined-append (x ∷ a) b = ap (λ (y : List ℕ). x ++ y) (joined-append a b) ∙ sym (append_assoc x (joined a) (joined b))

pub then_put : {A B : Type 0} (p : Part A) (q : Part B) (v : A) (w : B) (a b : List (List ℕ)) (others : List Lexeme) → (k : IsPut q w (joined b) others) → IsPut p v (joined a) (k.tokens ++ others) → IsPut (p then q) (v, w) (joined (a ++ b)) others
then_put p q v w a b others k j = record {
  tokens = j.tokens ++ k.tokens;
  bytes = spelled-append j.tokens k.tokens ∙ ap (λ (x : List ℕ). x ++ spelled k.tokens) j.bytes ∙ ap (λ (x : List ℕ). joined a ++ x) k.bytes ∙ sym (joined-append a b);
  stood = subst Stood (sym (append_assoc j.tokens k.tokens others)) j.stood;
  spells = λ at. (placed at j.tokens, placed (at + length (spelled j.tokens)) k.tokens, placed-append at j.tokens k.tokens, j.spells at, k.spells _);
  last = ap (only_last semicolon) (append_assoc j.tokens k.tokens others) ∙ j.last;
}

-- what tokens of a text spell has a property
abbrev pub Yields : {A : Type 0} → (A → Type 0) → Part A → Type 0
Yields {A} P p = (v : A) (ts : List Lexeme) (r : List ℕ) → AllCame ts r → p.Spells v ts → P v
