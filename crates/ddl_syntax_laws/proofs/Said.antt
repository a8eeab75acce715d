-- What can be written lies in tokens that spell it, and what tokens of a text spell can be written: by the syntax.
use Rattle.ddl_forms.proofs.Common.{◌≡◌, ℕ, Bool, true, false, ◌&&◌, ◌||◌, List, ◌==◌, cond, Some, None, refl, subst, arith, and_parts, is_word, is_sign}
use Rattle.ddl_forms.proofs.{Behind.Words, Behind.End, Behind.Anything, Tokens.Gap, Tokens.is_single, Written.is_key}
use Rattle.ddl_grammar.specs.Syntax.{Syntax, leaf, led, signed, both, ended, either, worded, seen, tabled, key, part, has, had, Fits, FitsBack, OneOf, pieces}
use Rattle.ddl_grammar.specs.LeafParts.{Leaf, granted, revoked, LeafFits}
use Rattle.ddl_syntax_laws.proofs.{LeafReading.and_three, Owing.LeafApart, Owing.Apart, Owing.Owes, LeafFacts.leaf_sound, LeafFacts.leaf_shape, LeafFacts.leaf_is, LeafFacts.leaf_said, Shapes.Shape, Shapes.word_shape, Shapes.sign_shape, Shapes.then_shape, Shapes.or_shape, Shapes.tabled_shape, Shapes.may_meet, Shapes.Said, Shapes.word_mark, Shapes.sign_mark, Shapes.both_said, Shapes.led_said, Shapes.ended_said, Shapes.seen_said, Shapes.either_said, Shapes.tabled_said}

-- ---- what is computed

-- how a text begins and ends
unfoldable pub shape : {A : Type 0} → Syntax A → Shape
shape (leaf gap l) = leaf_shape gap l
shape (led gap w s) = then_shape (word_shape gap w) (shape s)
shape (signed gap b s) = then_shape (sign_shape gap b) (shape s)
shape (both s t) = then_shape (shape s) (shape t)
shape (ended s gap b) = then_shape (shape s) (sign_shape gap b)
shape (worded s gap w) = then_shape (shape s) (word_shape gap w)
shape (seen f back s) = shape s
shape (either gap w s t) = or_shape (then_shape (word_shape gap w) (shape s)) (shape t)
shape (tabled s t) = tabled_shape (shape s) (shape t)

-- what stands behind a text may stand there
unfoldable pub sound : {A : Type 0} → Syntax A → Bool
sound (leaf gap l) = leaf_sound gap l
sound (led gap w s) = is_key (key w) w && (may_meet Words (shape s) && sound s)
sound (signed gap b s) = is_single b && (may_meet (cond (59 == b) End Anything) (shape s) && sound s)
sound (both s t) = may_meet (shape s).after (shape t) && (sound s && sound t)
sound (ended s gap b) = is_single b && (may_meet (shape s).after (sign_shape gap b) && sound s)
sound (worded s gap w) = is_key (key w) w && (may_meet (shape s).after (word_shape gap w) && sound s)
sound (seen f back s) = sound s
sound (either gap w s t) = is_key (key w) w && (may_meet Words (shape s) && (sound s && sound t))
sound (tabled s t) = may_meet Words (shape s) && (may_meet Words (shape t) && (sound s && sound t))

-- ---- what can be written is a part's

pub fits_has : {A : Type 0} (s : Syntax A) (v : A) → Fits s v → has s v ≡ true
unfolding Fits has
fits_has (leaf gap l) v fit = leaf_is l v fit
fits_has (led gap w s) v fit = fits_has s v fit
fits_has (signed gap b s) v fit = fits_has s v fit
fits_has (both s t) v fit = rw (fits_has s v.0 fit.0) (fits_has t v.1 fit.1)
fits_has (ended s gap b) v fit = fits_has s v fit
fits_has (worded s gap w) v fit = fits_has s v fit
fits_has (seen f back s) v fit = elim (back v) as (λ o. FitsBack f (Fits s) v o → had (has s) o ≡ true) [ None ↦ λ h. absurd h | Some x ↦ λ h. fits_has s x h.0 ] fit
fits_has (either gap w s t) v fit = elim (has s v) as (λ b. OneOf b (Fits s v) (Fits t v) → (b || has t v) ≡ true) [ true ↦ λ h. refl | false ↦ λ h. fits_has t v h ] fit
fits_has (tabled s t) v fit = elim (has s v.1) as (λ b. OneOf b (Fits s v.1) (Fits t v.1) → (b || has t v.1) ≡ true) [ true ↦ λ h. refl | false ↦ λ h. fits_has t v.1 h ] fit.1

leaf_apart : {A : Type 0} (is : A → Bool) (l : Leaf A) → LeafApart is l → (v : A) → LeafFits l v → is v ≡ false
unfolding LeafApart LeafFits
leaf_apart is granted apart v fit = grind arith
leaf_apart is revoked apart v fit = grind arith
leaf_apart is l apart v fit = apart v

pub apart_is : {A : Type 0} (is : A → Bool) (t : Syntax A) → Apart is t → (v : A) → Fits t v → is v ≡ false
unfolding Apart Fits
apart_is is (leaf gap l) apart v fit = leaf_apart is l apart v fit
apart_is is (led gap w s) apart v fit = apart_is is s apart v fit
apart_is is (signed gap b s) apart v fit = apart_is is s apart v fit
apart_is is (both s t) apart v fit = absurd apart
apart_is is (ended s gap b) apart v fit = apart_is is s apart v fit
apart_is is (worded s gap w) apart v fit = apart_is is s apart v fit
apart_is is (seen f back s) apart v fit = elim (back v) as (λ o. FitsBack f (Fits s) v o → is v ≡ false) [ None ↦ λ h. absurd h | Some x ↦ λ h. subst (λ y. is y ≡ false) h.1 (apart x) ] fit
apart_is is (either gap w s t) apart v fit = elim (has s v) as (λ b. OneOf b (Fits s v) (Fits t v) → is v ≡ false) [ true ↦ λ h. apart_is is s apart.0 v h | false ↦ λ h. apart_is is t apart.1 v h ] fit
apart_is is (tabled s t) apart v fit = absurd apart

-- ---- the laws

pub said : {A : Type 0} {g : List ℕ} → Gap g → (s : Syntax A) → sound s ≡ true → Owes s → Said (part s) (Fits s) (pieces g s) (shape s)
unfolding part Fits pieces shape sound Owes
said gap (leaf space l) is owes = leaf_said gap space l is
said gap (led space w s) is owes =
    let ok = and_three (is_key (key w) w) (may_meet Words (shape s)) (sound s) is in
    led_said (is_word (key w)) (word_mark gap space w ok.0) (said gap s ok.2 owes) ok.1
said gap (signed space b s) is owes =
    let ok = and_three (is_single b) (may_meet (cond (59 == b) End Anything) (shape s)) (sound s) is in
    led_said (is_sign b) (sign_mark gap space b ok.0) (said gap s ok.2 owes) ok.1
said gap (both s t) is owes =
    let ok = and_three (may_meet (shape s).after (shape t)) (sound s) (sound t) is in
    both_said (said gap s ok.1 owes.0) (said gap t ok.2 owes.1) ok.0
said gap (ended s space b) is owes =
    let ok = and_three (is_single b) (may_meet (shape s).after (sign_shape space b)) (sound s) is in
    ended_said (is_sign b) (said gap s ok.2 owes) (sign_mark gap space b ok.0) ok.1
said gap (worded s space w) is owes =
    let ok = and_three (is_key (key w) w) (may_meet (shape s).after (word_shape space w)) (sound s) is in
    ended_said (is_word (key w)) (said gap s ok.2 owes) (word_mark gap space w ok.0) ok.1
said gap (seen f back s) is owes = seen_said f back owes.0 (said gap s is owes.1)
said gap (either space w s t) is owes =
    let ok = and_three (is_key (key w) w) (may_meet Words (shape s)) (sound s && sound t) is in
    let are = and_parts (sound s) (sound t) ok.2 in
    either_said (has s) (fits_has s) (apart_is (has s) t owes.0) (led_said (is_word (key w)) (word_mark gap space w ok.0) (said gap s are.0 owes.1) ok.1) (said gap t are.1 owes.2)
said gap (tabled s t) is owes =
    let ok = and_three (may_meet Words (shape s)) (may_meet Words (shape t)) (sound s && sound t) is in
    let are = and_parts (sound s) (sound t) ok.2 in
    tabled_said (has s) (fits_has s) owes.0 (said gap s are.0 owes.1) (said gap t are.1 owes.2) ok.0 ok.1
