-- Parts that look at kinds and words alone, and take neither a semicolon nor a line that begins with a backslash.
use Rattle.ddl_forms.proofs.Common.{arith, ◌≡◌, ℕ, Bool, false, List, [], ◌∷◌, ◌++◌, Option, Some, None, Result, Ok, Err, refl, sym, ap, subst, ◌∙◌, inl, inr, Lexeme, is_word, is_sign, is_keyword_of, name, name_value, name_in, name_of, Part, Items, Many, no_more, one, many, mark, seen, choose, nothing, ◌then◌, ◌==◌}
use Rattle.ddl_parts.specs.Parts.{one_more, passes}
use Rattle.ddl_forms.proofs.{Kept.AllPlain, RunTexts.GoesByWords, RunTexts.goes_plain, RunTexts.same_step, RunTexts.words, RunTexts.one_said, RunTexts.IsPlain}

-- tokens that spell a value are plain, and others that say the same spell it too
pub record IsPlainPart {A : Type 0} (p : Part A) : Type 0 where
  pub said : (v : A) (ts us : List Lexeme) → words us ≡ words ts → p.Spells v ts → AllPlain ts × p.Spells v us

pub plain_spells : {A : Type 0} {p : Part A} → IsPlainPart p → (v : A) → IsPlain (p.Spells v)
plain_spells h v = record { plain = λ ts s. (h.said v ts ts refl s).0; same = λ ts us e s. (h.said v ts us e s).1 }

none_said : (us : List Lexeme) → words us ≡ [] → us ≡ []
none_said [] e = refl
none_said (u ∷ us) e = absurd cc

-- tokens that say the same as others before others
both_said : (a b us : List Lexeme) → words us ≡ words (a ++ b) → (c : List Lexeme) × (d : List Lexeme) × (us ≡ c ++ d) × (words c ≡ words a) × (words d ≡ words b)
both_said [] b us e = ([], us, refl, refl, e)
both_said (t ∷ a) b [] e = absurd cc
both_said (t ∷ a) b (u ∷ us) e = let h = both_said a b us cc in (u ∷ h.0, h.1, ap (λ (x : List Lexeme). u ∷ x) h.2, (let same = h.3 in cc), h.4)

both_plain : (a b : List Lexeme) → AllPlain a → AllPlain b → AllPlain (a ++ b)
both_plain [] b f g = g
both_plain (t ∷ a) b f g = (f.0, both_plain a b f.1 g)

-- ---- one token

abbrev pub if_ok : {A : Type 0} → Result A Bool → Option A
if_ok (Ok v) = Some v
if_ok (Err long) = None

pub one_plain : {A : Type 0} (value : Lexeme → Result A Bool) → GoesByWords (λ t. if_ok (value t)) → IsPlainPart (one value)
one_plain {A} value goes = record {
  said = λ v ts us e s.
      let is : if_ok (value s.0) ≡ Some v = ap if_ok s.2 in
      (subst AllPlain (sym s.1) (goes_plain (λ t. if_ok (value t)) goes v s.0 is, tt), again v s.0 us is (e ∙ ap words s.1));
}
  where
    found : (v : A) (r : Result A Bool) → if_ok r ≡ Some v → r ≡ Ok v
    found v r e = grind arith

    again : (v : A) (t : Lexeme) (us : List Lexeme) → if_ok (value t) ≡ Some v → words us ≡ words (t ∷ []) → (one value).Spells v us
    again v t [] is e = absurd cc
    again v t (u ∷ us) is e =
        let w = one_said t u [] us e in
        (u, ap (λ (x : List Lexeme). u ∷ x) (none_said us w.2), found v (value u) (same_step (λ t. if_ok (value t)) goes.0 t u w.0 w.1 ∙ is))

pub word_plain : (key : List ℕ) → IsPlainPart (mark (is_word key))
unfolding is_word is_keyword_of
word_plain key = one_plain (passes (is_word key)) (λ gap start t. refl, λ word. (refl, refl))

pub sign_plain : (b : ℕ) → (b == 59) ≡ false → IsPlainPart (mark (is_sign b))
unfolding is_sign
sign_plain b other = one_plain (passes (is_sign b)) (λ gap start t. refl, λ word. (rw other refl, refl))

pub name_plain : IsPlainPart name
unfolding name_value name_in name_of
name_plain = one_plain name_value (λ gap start t. refl, λ word. (refl, refl))

-- ---- parts put together

pub then_plain : {A B : Type 0} {p : Part A} {q : Part B} → IsPlainPart p → IsPlainPart q → IsPlainPart (p then q)
then_plain f g = record {
  said = λ v ts us e s.
      let w = both_said s.0 s.1 us (e ∙ ap words s.2) in
      let a = f.said v.0 s.0 w.0 w.3 s.3 in
      let b = g.said v.1 s.1 w.1 w.4 s.4 in
      (subst AllPlain (sym s.2) (both_plain s.0 s.1 a.0 b.0), (w.0, w.1, w.2, a.1, b.1));
}

pub seen_plain : {A B : Type 0} {p : Part A} (f : A → B) → IsPlainPart p → IsPlainPart (seen f p)
seen_plain f h = record { said = λ w ts us e s. let x = h.said s.0 ts us e s.2 in (x.0, (s.0, s.1, x.1)) }

pub choose_plain : {A : Type 0} {p q : Part A} {test : Lexeme → Bool} → IsPlainPart p → IsPlainPart q → IsPlainPart (choose test p q)
choose_plain f g = record { said = λ v ts us e s. elim s [ inl x ↦ (let a = f.said v ts us e x in (a.0, inl a.1)) | inr x ↦ (let b = g.said v ts us e x in (b.0, inr b.1)) ] }

pub nothing_plain : {A : Type 0} (test : Lexeme → Bool) (v : A) → IsPlainPart (nothing test v)
nothing_plain test v = record { said = λ w ts us e s. (subst AllPlain (sym s.1) tt, (s.0, none_said us (e ∙ ap words s.1))) }

pub many_plain : {A : Type 0} (goes_on : Lexeme → Bool) (items : Items A) → ((s : items.State) → IsPlainPart (items.item s)) → IsPlainPart (many goes_on items)
many_plain {A} goes_on items h = record { said = all items.start }
  where
    all : (s : items.State) (vs : List A) (ts us : List Lexeme) → words us ≡ words ts → Many items s vs ts → AllPlain ts × Many items s vs us
    all s _ _ us e (no_more _) = (tt, subst (Many items s []) (sym (none_said us e)) (no_more s))
    all s _ _ us e (one_more _ v vs a b first others) =
        let w = both_said a b us e in
        let x = (h s).said v a w.0 w.3 first in
        let y = all (items.next s v) vs b w.1 w.4 others in
        (both_plain a b x.0 y.0, subst (Many items s (v ∷ vs)) (sym w.2) (one_more s v vs w.0 w.1 x.1 y.1))

-- by which parts are found to be so
pub ruleset plain_parts = (word_plain, sign_plain, name_plain, then_plain, seen_plain, choose_plain, nothing_plain, many_plain)
