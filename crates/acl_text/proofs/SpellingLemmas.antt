-- Steps of reading a list of rights: runs of bytes, rights, names, and the states within an element.
use Rattle.std.proofs.Common.{◌≡◌, ℕ, ◌<◌, Bool, true, false, not, cond, eqb, List, [], ◌∷◌, ◌++◌, length, Option, Some, None, IsTrue, ◌↔◌, refl, ap, subst, ◌∙◌, arith, inl, inr, ◌⊎◌}
use Rattle.std.specs.Prelude.{◌&&◌, ◌||◌}
use Rattle.std.specs.List.{flat_map, list_all, prefix_len}
use Rattle.std.proofs.lemmas.Bool.{cases_Bool, false_from_ne_true, eqb-true}
use Rattle.std.proofs.lemmas.List.{append-nil}
use Rattle.copy_text.specs.Texts.{IsName, is_name}
use Rattle.acl_text.specs.declared.rights.Right.{Right}
use Rattle.acl_text.specs.declared.rights.Privilege.{Privilege}
use Rattle.acl_text.specs.declared.rights.Privilege.TheVariants.{Insert, Select, Update, Delete, Truncate, References, Trigger, Usage, Create}
use Rattle.acl_text.specs.declared.reading.Effect.TheVariants.{Keep, Cut, Skip}
use Rattle.acl_text.specs.declared.reading.State.TheVariants.{Start, Bare, Quoted, Closed}
use Rattle.acl_text.specs.Acls.{quote, star, comma, slash, equals, escaping, opening, closing, elements_from, byte_before, privilege_of, privilege_letter, rights_from, starts_with_star, quoted_name, is_plain, is_special, double_quote, spell_right, last_name}

abbrev pub NameTests : Type 0
NameTests = (bytes : List ℕ) → IsTrue (is_name bytes) ↔ IsName bytes

and_parts : (a b : Bool) → (a && b) ≡ true → (a ≡ true) × (b ≡ true)
and_parts true true is = (refl, refl)
and_parts true false is = absurd cc
and_parts false true is = absurd cc
and_parts false false is = absurd cc

-- a run of bytes that pass, and one that doesn't
pub prefix_stop : (p : ℕ → Bool) (xs : List ℕ) (b : ℕ) (rest : List ℕ) → list_all p xs ≡ true → p b ≡ false → prefix_len p (xs ++ b ∷ rest) ≡ length xs
prefix_stop p [] b rest all stops = rw stops refl
prefix_stop p (x ∷ xs) b rest all stops =
    let parts = and_parts (p x) (list_all p xs) all in
    rw (parts.0, prefix_stop p xs b rest parts.1 stops) (omega arith)

prefix_all : (p : ℕ → Bool) (xs : List ℕ) → list_all p xs ≡ true → prefix_len p xs ≡ length xs
prefix_all p [] all = refl
prefix_all p (x ∷ xs) all =
    let parts = and_parts (p x) (list_all p xs) all in
    rw (parts.0, prefix_all p xs parts.1) (omega arith)

-- ---- rights

privilege_spelled : (p : Privilege) → privilege_of (privilege_letter p) ≡ Some p
privilege_spelled Insert = refl
privilege_spelled Select = refl
privilege_spelled Update = refl
privilege_spelled Delete = refl
privilege_spelled Truncate = refl
privilege_spelled References = refl
privilege_spelled Trigger = refl
privilege_spelled Usage = refl
privilege_spelled Create = refl

no_star : (p : Privilege) → eqb (privilege_letter p) star ≡ false
no_star Insert = refl
no_star Select = refl
no_star Update = refl
no_star Delete = refl
no_star Truncate = refl
no_star References = refl
no_star Trigger = refl
no_star Usage = refl
no_star Create = refl

no_slash : (p : Privilege) → not (eqb (privilege_letter p) slash) ≡ true
no_slash Insert = refl
no_slash Select = refl
no_slash Update = refl
no_slash Delete = refl
no_slash Truncate = refl
no_slash References = refl
no_slash Trigger = refl
no_slash Usage = refl
no_slash Create = refl

no_star_first : (rights : List Right) → starts_with_star (flat_map spell_right rights) ≡ false
no_star_first [] = refl
no_star_first (right ∷ more) = no_star right.privilege

pub rights_spelled : (rights : List Right) → rights_from false (flat_map spell_right rights) ≡ Some rights
unfolding rights_from
rights_spelled [] = refl
rights_spelled (right ∷ more) = by right.grant_option (no_star_first more) (rights_spelled more) ∙ refl
  where
    by : (option : Bool) → starts_with_star (flat_map spell_right more) ≡ false → rights_from false (flat_map spell_right more) ≡ Some more
        → rights_from false ((privilege_letter right.privilege ∷ cond option (star ∷ []) []) ++ flat_map spell_right more) ≡ Some (record { privilege = right.privilege; grant_option = option } ∷ more)
    by true first rest = rw (privilege_spelled right.privilege, rest) refl
    by false first rest = rw (privilege_spelled right.privilege, first, rest) refl

pub no_slashes : (rights : List Right) → list_all (λ b. not (eqb b slash)) (flat_map spell_right rights) ≡ true
no_slashes [] = refl
no_slashes (right ∷ more) = by right.grant_option (no_slashes more)
  where
    by : (option : Bool) → list_all (λ b. not (eqb b slash)) (flat_map spell_right more) ≡ true → list_all (λ b. not (eqb b slash)) ((privilege_letter right.privilege ∷ cond option (star ∷ []) []) ++ flat_map spell_right more) ≡ true
    by true rest = rw (no_slash right.privilege, rest) refl
    by false rest = rw (no_slash right.privilege, rest) refl

-- ---- names

-- what may stand behind a name
abbrev pub Stops : List ℕ → Type 0
Stops rest = (rest ≡ []) ⊎ ((more : List ℕ) × (rest ≡ equals ∷ more))

pub plain_len : (name rest : List ℕ) → list_all is_plain name ≡ true → Stops rest → prefix_len is_plain (name ++ rest) ≡ length name
plain_len name rest all (inl none) = rw none (ap (prefix_len is_plain) (append-nil name) ∙ prefix_all is_plain name all)
plain_len name rest all (inr some) = rw some.1 (prefix_stop is_plain name equals some.0 all refl)

pub quoted_spelled : (name rest : List ℕ) → Stops rest → quoted_name false (flat_map double_quote name ++ quote ∷ rest) ≡ Some (name, rest)
unfolding quoted_name
quoted_spelled [] rest (inl none) = rw none refl
quoted_spelled [] rest (inr some) = rw some.1 refl
quoted_spelled (b ∷ name) rest stops = by (cases_Bool (eqb b quote)) (quoted_spelled name rest stops)
  where
    by : (eqb b quote ≡ true) ⊎ (eqb b quote ≡ false) → quoted_name false (flat_map double_quote name ++ quote ∷ rest) ≡ Some (name, rest)
        → quoted_name false ((double_quote b ++ flat_map double_quote name) ++ quote ∷ rest) ≡ Some (b ∷ name, rest)
    by (inl is) more = let same : b ≡ quote = eqb-true b quote is in rw (same, more) refl
    by (inr is) more = rw (is, is, more) refl

pub plain_first : (b : ℕ) → is_plain b ≡ true → eqb b quote ≡ false
plain_first b plain = false_from_ne_true _ (λ is.
    let same : b ≡ quote = eqb-true b quote is in
    let P : ℕ → Type 0 = λ x. is_plain x ≡ true in
    let no : is_plain quote ≡ true = subst P same plain in
    absurd cc)

pub last_again : NameTests → (name : List ℕ) → IsName name → last_name (name, []) ≡ Some name
last_again tests name is = let test = (tests name).1 is in rw test refl

-- ---- elements

abbrev pub text_before : List ℕ → Option (List ℕ × List (List ℕ)) → Option (List ℕ × List (List ℕ))
text_before text None = None
text_before text (Some read) = Some (text ++ read.0, read.1)

pub text_before-nil : (r : Option (List ℕ × List (List ℕ))) → r ≡ text_before [] r
text_before-nil None = refl
text_before-nil (Some read) = refl

pub keep_before : (b : ℕ) (text : List ℕ) (r : Option (List ℕ × List (List ℕ))) → byte_before Keep b (text_before text r) ≡ text_before (b ∷ text) r
keep_before b text None = refl
keep_before b text (Some read) = refl

skipped : (b : ℕ) (r : Option (List ℕ × List (List ℕ))) → byte_before Skip b r ≡ r
skipped b None = refl
skipped b (Some read) = refl

not_true : (b : Bool) → not b ≡ true → b ≡ false
not_true true is = absurd cc
not_true false is = refl

or_parts : (a b : Bool) → (a || b) ≡ false → (a ≡ false) × (b ≡ false)
or_parts false false is = (refl, refl)
or_parts false true is = absurd cc
or_parts true false is = absurd cc
or_parts true true is = absurd cc

pub bare_byte : (b : ℕ) (rest : List ℕ) → is_special b ≡ false → elements_from Bare (b ∷ rest) ≡ byte_before Keep b (elements_from Bare rest)
unfolding elements_from
bare_byte b rest plain = rw plain refl

bare_spelled : (text tail : List ℕ) → list_all (λ b. not (is_special b)) text ≡ true → elements_from Bare (text ++ tail) ≡ text_before text (elements_from Bare tail)
bare_spelled [] tail all = text_before-nil (elements_from Bare tail)
bare_spelled (b ∷ text) tail all =
    let parts = and_parts (not (is_special b)) (list_all (λ b. not (is_special b)) text) all in
    bare_byte b (text ++ tail) (not_true (is_special b) parts.0) ∙ ap (byte_before Keep b) (bare_spelled text tail parts.1) ∙ keep_before b text (elements_from Bare tail)

pub escaped_byte : (b : ℕ) (rest : List ℕ) → elements_from Quoted (escaping ∷ b ∷ rest) ≡ byte_before Keep b (elements_from Quoted rest)
unfolding elements_from
escaped_byte b rest = skipped escaping (byte_before Keep b (elements_from Quoted rest))

pub quoted_byte : (b : ℕ) (rest : List ℕ) → (eqb b quote || eqb b escaping) ≡ false → elements_from Quoted (b ∷ rest) ≡ byte_before Keep b (elements_from Quoted rest)
unfolding elements_from
quoted_byte b rest plain =
    let parts = or_parts (eqb b quote) (eqb b escaping) plain in
    rw (plain, parts.0, parts.1) refl

-- what stands behind an element
abbrev pub Ends : List ℕ → Type 0
Ends tail = (tail ≡ closing ∷ []) ⊎ ((more : List ℕ) × (tail ≡ comma ∷ more))

bare_end : (tail : List ℕ) → Ends tail → elements_from Bare tail ≡ elements_from Closed tail
unfolding elements_from
bare_end tail (inl is) = rw is refl
bare_end tail (inr is) = rw is.1 refl

pub start_byte : (b : ℕ) (rest : List ℕ) → is_special b ≡ false → elements_from Start (b ∷ rest) ≡ byte_before Keep b (elements_from Bare rest)
unfolding elements_from
start_byte b rest plain =
    let first : eqb b quote ≡ false = (or_parts (eqb b quote) (eqb b comma) (or_parts (eqb b quote || eqb b comma) (eqb b escaping) (or_parts (eqb b quote || eqb b comma || eqb b escaping) (eqb b opening) (or_parts (eqb b quote || eqb b comma || eqb b escaping || eqb b opening) (eqb b closing) plain).0).0).0).0 in
    rw (plain, first) refl

pub start_quote : (rest : List ℕ) → elements_from Start (quote ∷ rest) ≡ elements_from Quoted rest
unfolding elements_from
start_quote rest = skipped quote (elements_from Quoted rest)

pub end_quote : (rest : List ℕ) → elements_from Quoted (quote ∷ rest) ≡ elements_from Closed rest
unfolding elements_from
end_quote rest = skipped quote (elements_from Closed rest)

pub bare_element : (text tail : List ℕ) → 0 < length text → Ends tail → list_all (λ b. not (is_special b)) text ≡ true → elements_from Start (text ++ tail) ≡ text_before text (elements_from Closed tail)
bare_element [] tail some ends all = absurd (omega arith)
bare_element (b ∷ text) tail some ends all =
    let parts = and_parts (not (is_special b)) (list_all (λ b. not (is_special b)) text) all in
    start_byte b (text ++ tail) (not_true (is_special b) parts.0) ∙ ap (byte_before Keep b) (bare_spelled text tail parts.1) ∙ keep_before b text (elements_from Bare tail) ∙ ap (text_before (b ∷ text)) (bare_end tail ends)

pub closed_end : elements_from Closed (closing ∷ []) ≡ Some ([], [])
unfolding elements_from
closed_end = refl

pub closed_comma : (rest : List ℕ) → elements_from Closed (comma ∷ rest) ≡ byte_before Cut comma (elements_from Start rest)
unfolding elements_from
closed_comma rest = refl
