-- What was read of a text as a list of rights, the text spells.
use Rattle.std.proofs.Common.{◌≡◌, ◌≢◌, ℕ, suc, ◌+◌, Bool, true, false, cond, eqb, List, [], ◌∷◌, ◌++◌, length, take, drop, Option, Some, None, refl, sym, ap, ap₂, subst, ◌∙◌, append_assoc, arith, inl, inr, ◌⊎◌}
use Rattle.std.specs.Prelude.{◌&&◌, ◌||◌}
use Rattle.std.specs.List.{AllZip, flat_map, list_all, prefix_len}
use Rattle.std.specs.Str.{bytes_eq}
use Rattle.std.proofs.lemmas.Bool.{cases_Bool, eqb-true, and_parts}
use Rattle.std.proofs.lemmas.List.{append-nil, take-append-drop}
use Rattle.std.proofs.lemmas.Slice.Eq.{bytes_eq-Decides}
use Rattle.copy_text.specs.Texts.{IsName, is_name}
use Rattle.acl_text.specs.declared.rights.Right.{Right}
use Rattle.acl_text.specs.declared.rights.Privilege.{Privilege}
use Rattle.acl_text.specs.declared.rights.Privilege.TheVariants.{Insert, Select, Update, Delete, Truncate, References, Trigger, Usage, Create}
use Rattle.acl_text.specs.declared.list.AclItem.{AclItem}
use Rattle.acl_text.specs.declared.reading.Effect.TheVariants.{Keep, Cut, Skip}
use Rattle.acl_text.specs.declared.reading.State.{State}
use Rattle.acl_text.specs.declared.reading.State.TheVariants.{Start, Bare, Quoted, Escaped, Closed, Done, Failed}
use Rattle.acl_text.specs.Acls.{acl_of, behind, byte_before, closing, comma, double_quote, elements_before, elements_from, elements_of, equals, escaping, grantee_of, is_plain, is_special, item_of, items_of, last_name, name_at, onto_name, opening, privilege_letter, privilege_of, quote, quoted_name, right_before, rights_from, rights_of, slash, slash_at, spell_right, star, starts_with_star, ◌>>=◌}
use Rattle.acl_text.specs.Spells.{SpellsName, SpellsGrantee, SpellsItem, SpellsInQuotes, SpellsElement, SpellsAcl}
use Rattle.acl_text.proofs.SpellingLemmas.{NameTests, quoted_byte, start_byte, start_quote, end_quote, bare_byte}
use Rattle.acl_text.proofs.CanBeWritten.{bound}
use Rattle.acl_text.proofs.ElementLemmas.{tail_of, tail_more, joined_tail, SpellsEntry, differs_from, are_bare}

-- ---- names

-- a byte of a quoted name, in front of what was read behind it
onto_read : (b : ℕ) (more name rest : List ℕ) → ((shorter : List ℕ) → quoted_name false more ≡ Some (shorter, rest) → more ≡ flat_map double_quote shorter ++ quote ∷ rest)
    → onto_name b (quoted_name false more) ≡ Some (name, rest) → double_quote b ++ more ≡ flat_map double_quote name ++ quote ∷ rest
onto_read b more name rest again is = by (quoted_name false more) refl is
  where
    by : (r : Option (List ℕ × List ℕ)) → quoted_name false more ≡ r → onto_name b r ≡ Some (name, rest) → double_quote b ++ more ≡ flat_map double_quote name ++ quote ∷ rest
    by None r_is onto = absurd cc
    by (Some read) r_is onto =
        let both : (b ∷ read.0, read.1) ≡ (name, rest) = cc in
        let name_is : b ∷ read.0 ≡ name = ap (λ (p : List ℕ × List ℕ). p.0) both in
        let rest_is : read.1 ≡ rest = ap (λ (p : List ℕ × List ℕ). p.1) both in
        let found : quoted_name false more ≡ Some (read.0, rest) = r_is ∙ ap (λ (l : List ℕ). Some (read.0, l)) rest_is in
        ap (λ (l : List ℕ). double_quote b ++ l) (again read.0 found)
        ∙ sym (append_assoc (double_quote b) (flat_map double_quote read.0) (quote ∷ rest))
        ∙ ap (λ (n : List ℕ). flat_map double_quote n ++ quote ∷ rest) name_is

not_quote : (b : ℕ) (more : List ℕ) → eqb b quote ≡ false → b ∷ more ≡ double_quote b ++ more
not_quote b more differs = rw differs refl

is_quote : (b : ℕ) (more : List ℕ) → eqb b quote ≡ true → quote ∷ b ∷ more ≡ double_quote b ++ more
is_quote b more same = rw same (ap (λ (x : ℕ). quote ∷ x ∷ more) (eqb-true b quote same))

quoted-kept : (b : ℕ) (more : List ℕ) → eqb b quote ≡ false → quoted_name false (b ∷ more) ≡ onto_name b (quoted_name false more)
unfolding quoted_name
quoted-kept b more differs = rw differs refl

quoted-ended : (b : ℕ) (more : List ℕ) → eqb b quote ≡ true → quoted_name false (b ∷ more) ≡ quoted_name true more
unfolding quoted_name
quoted-ended b more same = rw same refl

behind_quote-other : (b : ℕ) (more : List ℕ) → eqb b quote ≡ false → quoted_name true (b ∷ more) ≡ Some ([], b ∷ more)
unfolding quoted_name
behind_quote-other b more differs = rw differs refl

behind_quote-doubled : (b : ℕ) (more : List ℕ) → eqb b quote ≡ true → quoted_name true (b ∷ more) ≡ onto_name b (quoted_name false more)
unfolding quoted_name
behind_quote-doubled b more same = rw same (ap (λ (x : ℕ). onto_name x (quoted_name false more)) (sym (eqb-true b quote same)))

none_read : (name rest : List ℕ) (at : List ℕ) → ◌≡◌ {A = Option (List ℕ × List ℕ)} (Some ([], at)) (Some (name, rest)) → quote ∷ at ≡ flat_map double_quote name ++ quote ∷ rest
none_read name rest at is =
    let both : ◌≡◌ {A = List ℕ × List ℕ} ([], at) (name, rest) = cc in
    ap (λ (p : List ℕ × List ℕ). flat_map double_quote p.0 ++ quote ∷ p.1) both

-- the rest of a quoted name, behind a quote that was just read or not
quoted_read : (taken : Bool) (text name rest : List ℕ) → quoted_name taken text ≡ Some (name, rest) → cond taken (quote ∷ text) text ≡ flat_map double_quote name ++ quote ∷ rest
unfolding quoted_name
quoted_read false [] name rest is = absurd cc
quoted_read true [] name rest is = none_read name rest [] is
quoted_read false (b ∷ more) name rest is = by (cases_Bool (eqb b quote)) (quoted_read true more name rest) (λ shorter. quoted_read false more shorter rest)
  where
    by : (eqb b quote ≡ true) ⊎ (eqb b quote ≡ false) → (quoted_name true more ≡ Some (name, rest) → quote ∷ more ≡ flat_map double_quote name ++ quote ∷ rest)
        → ((shorter : List ℕ) → quoted_name false more ≡ Some (shorter, rest) → more ≡ flat_map double_quote shorter ++ quote ∷ rest)
        → b ∷ more ≡ flat_map double_quote name ++ quote ∷ rest
    by (inl same) ended kept = ap (λ (x : ℕ). x ∷ more) (eqb-true b quote same) ∙ ended (sym (quoted-ended b more same) ∙ is)
    by (inr differs) ended kept = not_quote b more differs ∙ onto_read b more name rest kept (sym (quoted-kept b more differs) ∙ is)
quoted_read true (b ∷ more) name rest is = by (cases_Bool (eqb b quote)) (λ shorter. quoted_read false more shorter rest)
  where
    by : (eqb b quote ≡ true) ⊎ (eqb b quote ≡ false) → ((shorter : List ℕ) → quoted_name false more ≡ Some (shorter, rest) → more ≡ flat_map double_quote shorter ++ quote ∷ rest)
        → quote ∷ b ∷ more ≡ flat_map double_quote name ++ quote ∷ rest
    by (inl same) kept = is_quote b more same ∙ onto_read b more name rest kept (sym (behind_quote-doubled b more same) ∙ is)
    by (inr differs) kept = none_read name rest (b ∷ more) (sym (behind_quote-other b more differs) ∙ is)

-- a first part of which P holds, and the whole as it and the rest
record Front (P : List ℕ → Type 0) (text rest : List ℕ) : Type 0 where
  front : List ℕ
  split : text ≡ front ++ rest
  is : P front

prefix_passes : (p : ℕ → Bool) (xs : List ℕ) → list_all p (take (prefix_len p xs) xs) ≡ true
prefix_passes p [] = refl
prefix_passes p (x ∷ xs) = by (p x) refl (prefix_passes p xs)
  where
    by : (passes : Bool) → p x ≡ passes → list_all p (take (prefix_len p xs) xs) ≡ true → list_all p (take (cond passes (1 + prefix_len p xs) 0) (x ∷ xs)) ≡ true
    by true here again =
        let step : 1 + prefix_len p xs ≡ suc (prefix_len p xs) = omega arith in
        rw (step, here) again
    by false here again = refl

name_at-bare : (b : ℕ) (more : List ℕ) → eqb b quote ≡ false → name_at (b ∷ more) ≡ Some (take (prefix_len is_plain (b ∷ more)) (b ∷ more), drop (prefix_len is_plain (b ∷ more)) (b ∷ more))
unfolding name_at
name_at-bare b more differs = rw differs refl

name_at-quoted : (b : ℕ) (more : List ℕ) → eqb b quote ≡ true → name_at (b ∷ more) ≡ quoted_name false more
unfolding name_at
name_at-quoted b more same = rw same refl

name_read : (text name rest : List ℕ) → name_at text ≡ Some (name, rest) → Front (SpellsName name) text rest
unfolding name_at
name_read [] name rest is =
    let both : ◌≡◌ {A = List ℕ × List ℕ} ([], []) (name, rest) = cc in
    let name_is : [] ≡ name = ap (λ (p : List ℕ × List ℕ). p.0) both in
    let rest_is : [] ≡ rest = ap (λ (p : List ℕ × List ℕ). p.1) both in
    record { front = []; split = rest_is; is = inl (name_is, subst (λ (n : List ℕ). list_all is_plain n ≡ true) name_is refl) }
name_read (b ∷ more) name rest is = by (cases_Bool (eqb b quote))
  where
    by : (eqb b quote ≡ true) ⊎ (eqb b quote ≡ false) → Front (SpellsName name) (b ∷ more) rest
    by (inl same) =
        let read : more ≡ flat_map double_quote name ++ quote ∷ rest = quoted_read false more name rest (sym (name_at-quoted b more same) ∙ is) in
        record {
          front = quote ∷ (flat_map double_quote name ++ quote ∷ []);
          split = ap (λ (x : ℕ). x ∷ more) (eqb-true b quote same) ∙ ap (λ (l : List ℕ). quote ∷ l) (read ∙ sym (append_assoc (flat_map double_quote name) (quote ∷ []) rest));
          is = inr refl;
        }
    by (inr differs) =
        let text = b ∷ more in
        let n = prefix_len is_plain text in
        let read : Some (take n text, drop n text) ≡ Some (name, rest) = sym (name_at-bare b more differs) ∙ is in
        let both : (take n text, drop n text) ≡ (name, rest) = cc in
        let name_is : take n text ≡ name = ap (λ (p : List ℕ × List ℕ). p.0) both in
        let rest_is : drop n text ≡ rest = ap (λ (p : List ℕ × List ℕ). p.1) both in
        record {
          front = name;
          split = sym (take-append-drop n text) ∙ ap₂ (λ (a c : List ℕ). a ++ c) name_is rest_is;
          is = inl (refl, subst (λ (l : List ℕ). list_all is_plain l ≡ true) name_is (prefix_passes is_plain text));
        }

-- ---- rights

-- a test on a byte that gave a right, or one behind it that did
tested : (b k : ℕ) (q : Privilege) (others : Option Privilege) (p : Privilege) → cond (eqb b k) (Some q) others ≡ Some p → ((b ≡ k) × (q ≡ p)) ⊎ (others ≡ Some p)
tested b k q others p is = by (eqb b k) refl is
  where
    by : (same : Bool) → eqb b k ≡ same → cond same (Some q) others ≡ Some p → ((b ≡ k) × (q ≡ p)) ⊎ (others ≡ Some p)
    by true here read = inl (eqb-true b k here, cc)
    by false here read = inr read

letter_is : (b : ℕ) (q p : Privilege) → (b ≡ privilege_letter q) × (q ≡ p) → b ≡ privilege_letter p
letter_is b q p is = is.0 ∙ ap privilege_letter is.1

letter_read : (b : ℕ) (p : Privilege) → privilege_of b ≡ Some p → b ≡ privilege_letter p
letter_read b p is = elim (tested b 97 Insert _ p is) [
  | inl i ↦ letter_is b Insert p i
  | inr no_a ↦ elim (tested b 114 Select _ p no_a) [
    | inl i ↦ letter_is b Select p i
    | inr no_r ↦ elim (tested b 119 Update _ p no_r) [
      | inl i ↦ letter_is b Update p i
      | inr no_w ↦ elim (tested b 100 Delete _ p no_w) [
        | inl i ↦ letter_is b Delete p i
        | inr no_d ↦ elim (tested b 68 Truncate _ p no_d) [
          | inl i ↦ letter_is b Truncate p i
          | inr no_t ↦ elim (tested b 120 References _ p no_t) [
            | inl i ↦ letter_is b References p i
            | inr no_x ↦ elim (tested b 116 Trigger _ p no_x) [
              | inl i ↦ letter_is b Trigger p i
              | inr no_g ↦ elim (tested b 85 Usage _ p no_g) [
                | inl i ↦ letter_is b Usage p i
                | inr no_u ↦ elim (tested b 67 Create None p no_u) [
                  | inl i ↦ letter_is b Create p i
                  | inr none ↦ absurd cc
                ]
              ]
            ]
          ]
        ]
      ]
    ]
  ]
]

no_star_taken : (letters : List ℕ) → false ≡ true → starts_with_star letters ≡ true
no_star_taken letters taken = absurd cc

abbrev star_if : Bool → List ℕ
star_if option = cond option (star ∷ []) []

-- rights whose first byte is a star that was taken already, or not
rights_read : (taken : Bool) (letters : List ℕ) (rights : List Right) → (taken ≡ true → starts_with_star letters ≡ true) → rights_from taken letters ≡ Some rights → letters ≡ star_if taken ++ flat_map spell_right rights
unfolding rights_from
rights_read true [] rights starts is = let no : false ≡ true = starts refl in absurd cc
rights_read false [] rights starts is =
    let same : [] ≡ rights = cc in
    ap (flat_map spell_right) same
rights_read true (b ∷ more) rights starts is =
    let first : b ≡ star = eqb-true b star (starts refl) in
    ap₂ (λ (x : ℕ) (l : List ℕ). x ∷ l) first (rights_read false more rights (no_star_taken more) is)
rights_read false (b ∷ more) rights starts is = by (privilege_of b) refl (rights_from (starts_with_star more) more) refl is (λ others. rights_read (starts_with_star more) more others (λ starts. starts))
  where
    by : (o : Option Privilege) → privilege_of b ≡ o → (r : Option (List Right)) → rights_from (starts_with_star more) more ≡ r → right_before o (starts_with_star more) r ≡ Some rights
        → ((others : List Right) → rights_from (starts_with_star more) more ≡ Some others → more ≡ star_if (starts_with_star more) ++ flat_map spell_right others) → b ∷ more ≡ flat_map spell_right rights
    by None o_is r r_is read again = absurd cc
    by (Some p) o_is None r_is read again = absurd cc
    by (Some p) o_is (Some others) r_is read again =
        let right : Right = record { privilege = p; grant_option = starts_with_star more } in
        let same : right ∷ others ≡ rights = cc in
        ap₂ (λ (x : ℕ) (l : List ℕ). x ∷ l) (letter_read b p o_is) (again others r_is) ∙ ap (flat_map spell_right) same

-- ---- items

behind_read : (b : ℕ) (text rest : List ℕ) → behind b text ≡ Some rest → text ≡ b ∷ rest
behind_read b [] rest is = absurd cc
behind_read b (c ∷ more) rest is = by (eqb c b) refl is
  where
    by : (same : Bool) → eqb c b ≡ same → cond same (Some more) None ≡ Some rest → c ∷ more ≡ b ∷ rest
    by true here read =
        let rest_is : more ≡ rest = cc in
        ap₂ (λ (x : ℕ) (l : List ℕ). x ∷ l) (eqb-true c b here) rest_is
    by false here read = absurd cc

grantee_read : NameTests → (name : List ℕ) (grantee : Option (List ℕ)) (text : List ℕ) → grantee_of name ≡ Some grantee → SpellsName name text → SpellsGrantee grantee text
grantee_read tests [] grantee text is spells =
    let same : None ≡ grantee = cc in
    subst (λ (g : Option (List ℕ)). SpellsGrantee g text) same spells
grantee_read tests (b ∷ name) grantee text is spells = by (is_name (b ∷ name)) refl is
  where
    by : (valid : Bool) → is_name (b ∷ name) ≡ valid → cond valid (Some (Some (b ∷ name))) None ≡ Some grantee → SpellsGrantee grantee text
    by true here read =
        let same : Some (b ∷ name) ≡ grantee = cc in
        subst (λ (g : Option (List ℕ)). SpellsGrantee g text) same ((tests (b ∷ name)).0 here, spells)
    by false here read = absurd cc

-- the last name is the grantor's, and nothing stands behind it
record LastName (read : List ℕ × List ℕ) (name : List ℕ) : Type 0 where
  same : read.0 ≡ name
  end : read.1 ≡ []
  valid : IsName name

last_read : NameTests → (read : List ℕ × List ℕ) (name : List ℕ) → last_name read ≡ Some name → LastName read name
last_read tests read name is = by (is_name read.0 && eqb (length read.1) 0) refl is
  where
    nothing : (l : List ℕ) → eqb (length l) 0 ≡ true → l ≡ []
    nothing [] none = refl
    nothing (b ∷ l) none = let no : length (b ∷ l) ≡ 0 = eqb-true (length (b ∷ l)) 0 none in absurd (omega arith)

    by : (passes : Bool) → (is_name read.0 && eqb (length read.1) 0) ≡ passes → cond passes (Some read.0) None ≡ Some name → LastName read name
    by true here chosen =
        let same : read.0 ≡ name = cc in
        let parts = and_parts (is_name read.0) (eqb (length read.1) 0) here in
        record { same = same; end = nothing read.1 parts.1; valid = subst IsName same ((tests read.0).0 parts.0) }
    by false here chosen = absurd cc

item_read : NameTests → (text : List ℕ) (item : AclItem) → item_of text ≡ Some item → SpellsItem item text
unfolding item_of
item_read tests text item is =
    let a = bound (name_at text) _ item is in
    let b = bound (grantee_of a.0.0) _ item a.2 in
    let c = bound (behind equals a.0.1) _ item b.2 in
    let d = bound (rights_of (take (slash_at c.0) c.0)) _ item c.2 in
    let e = bound (behind slash (drop (slash_at c.0) c.0)) _ item d.2 in
    let f = bound (name_at e.0) _ item e.2 in
    let g = bound (last_name f.0) _ item f.2 in
    let same : record { grantee = b.0; rights = d.0; grantor = g.0 } ≡ item = cc in
    let first = name_read text a.0.0 a.0.1 a.1 in
    let second = name_read e.0 f.0.0 f.0.1 f.1 in
    let last = last_read tests f.0 g.0 g.1 in
    let letters : take (slash_at c.0) c.0 ≡ flat_map spell_right d.0 = rights_read false (take (slash_at c.0) c.0) d.0 (no_star_taken (take (slash_at c.0) c.0)) d.1 in
    let slashed : drop (slash_at c.0) c.0 ≡ slash ∷ e.0 = behind_read slash (drop (slash_at c.0) c.0) e.0 e.1 in
    let grantor : e.0 ≡ second.front = second.split ∙ ap (λ (l : List ℕ). second.front ++ l) last.end ∙ append-nil second.front in
    let after_equals : c.0 ≡ flat_map spell_right d.0 ++ slash ∷ second.front = sym (take-append-drop (slash_at c.0) c.0) ∙ ap₂ (λ (x y : List ℕ). x ++ y) letters (slashed ∙ ap (λ (l : List ℕ). slash ∷ l) grantor) in
    let whole : text ≡ first.front ++ equals ∷ (flat_map spell_right d.0 ++ slash ∷ second.front) = first.split ∙ ap (λ (l : List ℕ). first.front ++ l) (behind_read equals a.0.1 c.0 c.1 ∙ ap (λ (l : List ℕ). equals ∷ l) after_equals) in
    subst (λ (i : AclItem). SpellsItem i text) same (record {
      grantee = first.front;
      grantor = second.front;
      split = whole;
      whom = grantee_read tests a.0.0 b.0 first.front b.1 first.is;
      whose = subst (λ (n : List ℕ). SpellsName n second.front) last.same second.is;
      named = last.valid;
    })

items_read : NameTests → (texts : List (List ℕ)) (items : List AclItem) → items_of texts ≡ Some items → AllZip SpellsItem items texts
unfolding items_of
items_read tests [] items is =
    let same : [] ≡ items = cc in
    subst (λ (l : List AclItem). AllZip SpellsItem l []) same tt
items_read tests (text ∷ more) items is =
    let a = bound (item_of text) _ items is in
    let b = bound (items_of more) _ items a.2 in
    let same : a.0 ∷ b.0 ≡ items = cc in
    subst (λ (l : List AclItem). AllZip SpellsItem l (text ∷ more)) same (item_read tests text a.0 a.1, items_read tests more b.0 b.1)

-- ---- elements

-- what is left of a text: a first part of which P holds, and the other elements, which hold cs
record Rest (P : List ℕ → Type 0) (text : List ℕ) (cs : List (List ℕ)) : Type 0 where
  front : List ℕ
  es : List (List ℕ)
  split : text ≡ front ++ tail_of es
  is : P front
  others : AllZip SpellsElement cs es

abbrev EndsQuotes : List ℕ → List ℕ → Type 0
EndsQuotes c front = (body : List ℕ) × (front ≡ body ++ quote ∷ []) × SpellsInQuotes c body

abbrev EndsEscape : List ℕ → List ℕ → Type 0
EndsEscape c front = (b : ℕ) × (shorter : List ℕ) × (body : List ℕ) × (front ≡ b ∷ (body ++ quote ∷ [])) × (c ≡ b ∷ shorter) × SpellsInQuotes shorter body

-- what is left behind a place, by its state
abbrev Left : State → List ℕ → List ℕ → List (List ℕ) → Type 0
Left Start text c cs = Rest (SpellsElement c) text cs
Left Bare text c cs = Rest (λ front. (front ≡ c) × (are_bare c ≡ true)) text cs
Left Quoted text c cs = Rest (EndsQuotes c) text cs
Left Escaped text c cs = Rest (EndsEscape c) text cs
Left Closed text c cs = Rest (λ front. (front ≡ []) × (c ≡ [])) text cs
Left Done text c cs = (text ≡ []) × (c ≡ []) × (cs ≡ [])
Left Failed text c cs = ⊥

abbrev Again : List ℕ → Type 0
Again text = (s : State) (c : List ℕ) (cs : List (List ℕ)) → elements_from s text ≡ Some (c, cs) → Left s text c cs

kept_read : (b : ℕ) (r : Option (List ℕ × List (List ℕ))) (c : List ℕ) (cs : List (List ℕ)) → byte_before Keep b r ≡ Some (c, cs) → (shorter : List ℕ) × (r ≡ Some (shorter, cs)) × (c ≡ b ∷ shorter)
kept_read b None c cs is = absurd cc
kept_read b (Some read) c cs is =
    let both : (b ∷ read.0, read.1) ≡ (c, cs) = cc in
    (read.0, ap (λ (l : List (List ℕ)). Some (read.0, l)) (ap (λ (p : List ℕ × List (List ℕ)). p.1) both), sym (ap (λ (p : List ℕ × List (List ℕ)). p.0) both))

cut_read : (b : ℕ) (r : Option (List ℕ × List (List ℕ))) (c : List ℕ) (cs : List (List ℕ)) → byte_before Cut b r ≡ Some (c, cs) → (first : List ℕ) × (others : List (List ℕ)) × (r ≡ Some (first, others)) × (c ≡ []) × (cs ≡ first ∷ others)
cut_read b None c cs is = absurd cc
cut_read b (Some read) c cs is =
    let both : ◌≡◌ {A = List ℕ × List (List ℕ)} ([], read.0 ∷ read.1) (c, cs) = cc in
    (read.0, read.1, refl, sym (ap (λ (p : List ℕ × List (List ℕ)). p.0) both), sym (ap (λ (p : List ℕ × List (List ℕ)). p.1) both))

skip_read : (b : ℕ) (r : Option (List ℕ × List (List ℕ))) (c : List ℕ) (cs : List (List ℕ)) → byte_before Skip b r ≡ Some (c, cs) → r ≡ Some (c, cs)
skip_read b None c cs is = absurd cc
skip_read b (Some read) c cs is = is

no_escape : (rest : List ℕ) → elements_from Quoted (escaping ∷ rest) ≡ byte_before Skip escaping (elements_from Escaped rest)
unfolding elements_from
no_escape rest = refl

taken_as_it_is : (b : ℕ) (rest : List ℕ) → elements_from Escaped (b ∷ rest) ≡ byte_before Keep b (elements_from Quoted rest)
unfolding elements_from
taken_as_it_is b rest = refl

comma_left : (rest : List ℕ) → Again rest → (c : List ℕ) (cs : List (List ℕ)) → byte_before Cut comma (elements_from Start rest) ≡ Some (c, cs) → Left Closed (comma ∷ rest) c cs
comma_left rest again c cs is =
    let k = cut_read comma (elements_from Start rest) c cs is in
    let left = again Start k.0 k.1 k.2 in
    record {
      front = [];
      es = left.front ∷ left.es;
      split = ap (λ (l : List ℕ). comma ∷ l) left.split ∙ tail_more left.front left.es;
      is = (refl, k.3);
      others = subst (λ (l : List (List ℕ)). AllZip SpellsElement l (left.front ∷ left.es)) (sym k.4) (left.is, left.others);
    }

closing_left : (rest : List ℕ) → Again rest → (c : List ℕ) (cs : List (List ℕ)) → byte_before Skip closing (elements_from Done rest) ≡ Some (c, cs) → Left Closed (closing ∷ rest) c cs
closing_left rest again c cs is =
    let left = again Done c cs (skip_read closing (elements_from Done rest) c cs is) in
    record {
      front = [];
      es = [];
      split = ap (λ (l : List ℕ). closing ∷ l) left.0;
      is = (refl, left.1);
      others = subst (λ (l : List (List ℕ)). AllZip SpellsElement l []) (sym left.2) tt;
    }

failed_left : (b : ℕ) (rest : List ℕ) → Again rest → (c : List ℕ) (cs : List (List ℕ)) → byte_before Skip b (elements_from Failed rest) ≡ Some (c, cs) → ⊥
failed_left b rest again c cs is = again Failed c cs (skip_read b (elements_from Failed rest) c cs is)

bare_from_closed : (text c : List ℕ) (cs : List (List ℕ)) → Left Closed text c cs → Left Bare text c cs
bare_from_closed text c cs left = record {
  front = left.front;
  es = left.es;
  split = left.split;
  is = (left.is.0 ∙ sym left.is.1, subst (λ (l : List ℕ). are_bare l ≡ true) (sym left.is.1) refl);
  others = left.others;
}

start_from_bare : (text c : List ℕ) (cs : List (List ℕ)) → Left Bare text c cs → Left Start text c cs
start_from_bare text c cs left = record { front = left.front; es = left.es; split = left.split; is = inl left.is; others = left.others }

start_from_closed : (text c : List ℕ) (cs : List (List ℕ)) → Left Closed text c cs → Left Start text c cs
start_from_closed text c cs left = start_from_bare text c cs (bare_from_closed text c cs left)

-- a byte that asks for quotes is one of five
one_of_five : (P : ℕ → Type 0) → P quote → P comma → P escaping → P opening → P closing → (b : ℕ) → is_special b ≡ true → P b
one_of_five P q c e o d b is = by (eqb b quote) (eqb b comma) (eqb b escaping) (eqb b opening) (eqb b closing) refl refl refl refl refl is
  where
    by : (a1 a2 a3 a4 a5 : Bool) → eqb b quote ≡ a1 → eqb b comma ≡ a2 → eqb b escaping ≡ a3 → eqb b opening ≡ a4 → eqb b closing ≡ a5 → (a1 || a2 || a3 || a4 || a5) ≡ true → P b
    by true a2 a3 a4 a5 i1 i2 i3 i4 i5 some = subst P (sym (eqb-true b quote i1)) q
    by false true a3 a4 a5 i1 i2 i3 i4 i5 some = subst P (sym (eqb-true b comma i2)) c
    by false false true a4 a5 i1 i2 i3 i4 i5 some = subst P (sym (eqb-true b escaping i3)) e
    by false false false true a5 i1 i2 i3 i4 i5 some = subst P (sym (eqb-true b opening i4)) o
    by false false false false true i1 i2 i3 i4 i5 some = subst P (sym (eqb-true b closing i5)) d
    by false false false false false i1 i2 i3 i4 i5 some = absurd cc

-- a bare byte in front
bare_front : (b : ℕ) (rest : List ℕ) → is_special b ≡ false → Again rest → (c : List ℕ) (cs : List (List ℕ)) → byte_before Keep b (elements_from Bare rest) ≡ Some (c, cs) → Left Bare (b ∷ rest) c cs
bare_front b rest plain again c cs is =
    let k = kept_read b (elements_from Bare rest) c cs is in
    let left = again Bare k.0 cs k.1 in
    let bare : are_bare (b ∷ k.0) ≡ true = rw plain left.is.1 in
    record {
      front = c;
      es = left.es;
      split = ap (λ (l : List ℕ). b ∷ l) (left.split ∙ ap (λ (l : List ℕ). l ++ tail_of left.es) left.is.0) ∙ ap (λ (l : List ℕ). l ++ tail_of left.es) (sym k.2);
      is = (refl, subst (λ (l : List ℕ). are_bare l ≡ true) (sym k.2) bare);
      others = left.others;
    }

start_left : (b : ℕ) (rest : List ℕ) → Again rest → (c : List ℕ) (cs : List (List ℕ)) → elements_from Start (b ∷ rest) ≡ Some (c, cs) → Left Start (b ∷ rest) c cs
unfolding elements_from
start_left b rest again c cs is = by (cases_Bool (is_special b))
  where
    P : ℕ → Type 0
    P x = elements_from Start (x ∷ rest) ≡ Some (c, cs) → Left Start (x ∷ rest) c cs

    at_quote : P quote
    at_quote read =
        let left = again Quoted c cs (sym (start_quote rest) ∙ read) in
        record {
          front = quote ∷ left.front;
          es = left.es;
          split = ap (λ (l : List ℕ). quote ∷ l) left.split;
          is = inr (left.is.0, ap (λ (l : List ℕ). quote ∷ l) left.is.1, left.is.2);
          others = left.others;
        }

    by : (is_special b ≡ true) ⊎ (is_special b ≡ false) → Left Start (b ∷ rest) c cs
    by (inl special) = one_of_five P at_quote
        (λ read. start_from_closed (comma ∷ rest) c cs (comma_left rest again c cs read))
        (λ read. absurd (failed_left escaping rest again c cs read))
        (λ read. absurd (failed_left opening rest again c cs read))
        (λ read. start_from_closed (closing ∷ rest) c cs (closing_left rest again c cs read))
        b special is
    by (inr plain) = start_from_bare (b ∷ rest) c cs (bare_front b rest plain again c cs (sym (start_byte b rest plain) ∙ is))

bare_left : (b : ℕ) (rest : List ℕ) → Again rest → (c : List ℕ) (cs : List (List ℕ)) → elements_from Bare (b ∷ rest) ≡ Some (c, cs) → Left Bare (b ∷ rest) c cs
unfolding elements_from
bare_left b rest again c cs is = by (cases_Bool (is_special b))
  where
    P : ℕ → Type 0
    P x = elements_from Bare (x ∷ rest) ≡ Some (c, cs) → Left Bare (x ∷ rest) c cs

    by : (is_special b ≡ true) ⊎ (is_special b ≡ false) → Left Bare (b ∷ rest) c cs
    by (inl special) = one_of_five P
        (λ read. absurd (failed_left quote rest again c cs read))
        (λ read. bare_from_closed (comma ∷ rest) c cs (comma_left rest again c cs read))
        (λ read. absurd (failed_left escaping rest again c cs read))
        (λ read. absurd (failed_left opening rest again c cs read))
        (λ read. bare_from_closed (closing ∷ rest) c cs (closing_left rest again c cs read))
        b special is
    by (inr plain) = bare_front b rest plain again c cs (sym (bare_byte b rest plain) ∙ is)

quoted_left : (b : ℕ) (rest : List ℕ) → Again rest → (c : List ℕ) (cs : List (List ℕ)) → elements_from Quoted (b ∷ rest) ≡ Some (c, cs) → Left Quoted (b ∷ rest) c cs
quoted_left b rest again c cs is = by (cases_Bool (eqb b quote)) (cases_Bool (eqb b escaping))
  where
    P : ℕ → Type 0
    P x = elements_from Quoted (x ∷ rest) ≡ Some (c, cs) → Left Quoted (x ∷ rest) c cs

    at_quote : P quote
    at_quote read =
        let left = again Closed c cs (sym (end_quote rest) ∙ read) in
        record {
          front = quote ∷ [];
          es = left.es;
          split = ap (λ (l : List ℕ). quote ∷ l) (left.split ∙ ap (λ (l : List ℕ). l ++ tail_of left.es) left.is.0);
          is = ([], refl, subst (λ (l : List ℕ). SpellsInQuotes l []) (sym left.is.1) refl);
          others = left.others;
        }

    at_escape : P escaping
    at_escape read =
        let left = again Escaped c cs (skip_read escaping (elements_from Escaped rest) c cs (sym (no_escape rest) ∙ read)) in
        let b' = left.is.0 in
        let body = left.is.2 in
        record {
          front = escaping ∷ left.front;
          es = left.es;
          split = ap (λ (l : List ℕ). escaping ∷ l) left.split;
          is = (escaping ∷ b' ∷ body, ap (λ (l : List ℕ). escaping ∷ l) left.is.3, subst (λ (l : List ℕ). SpellsInQuotes l (escaping ∷ b' ∷ body)) (sym left.is.4) (body, left.is.5, inl refl));
          others = left.others;
        }

    by : (eqb b quote ≡ true) ⊎ (eqb b quote ≡ false) → (eqb b escaping ≡ true) ⊎ (eqb b escaping ≡ false) → Left Quoted (b ∷ rest) c cs
    by (inl same) escapes = subst P (sym (eqb-true b quote same)) at_quote is
    by (inr differs) (inl same) = subst P (sym (eqb-true b escaping same)) at_escape is
    by (inr differs) (inr plain) =
        let neither : (eqb b quote || eqb b escaping) ≡ false = rw (differs, plain) refl in
        let k = kept_read b (elements_from Quoted rest) c cs (sym (quoted_byte b rest neither) ∙ is) in
        let left = again Quoted k.0 cs k.1 in
        let body = left.is.0 in
        let no_quote : b ≢ quote = λ same. differs_from b quote differs same in
        let no_backslash : b ≢ escaping = λ same. differs_from b escaping plain same in
        record {
          front = b ∷ left.front;
          es = left.es;
          split = ap (λ (l : List ℕ). b ∷ l) left.split;
          is = (b ∷ body, ap (λ (l : List ℕ). b ∷ l) left.is.1, subst (λ (l : List ℕ). SpellsInQuotes l (b ∷ body)) (sym k.2) (body, left.is.2, inr (refl, no_quote, no_backslash)));
          others = left.others;
        }

escaped_left : (b : ℕ) (rest : List ℕ) → Again rest → (c : List ℕ) (cs : List (List ℕ)) → elements_from Escaped (b ∷ rest) ≡ Some (c, cs) → Left Escaped (b ∷ rest) c cs
escaped_left b rest again c cs is =
    let k = kept_read b (elements_from Quoted rest) c cs (sym (taken_as_it_is b rest) ∙ is) in
    let left = again Quoted k.0 cs k.1 in
    record {
      front = b ∷ left.front;
      es = left.es;
      split = ap (λ (l : List ℕ). b ∷ l) left.split;
      is = (b, k.0, left.is.0, ap (λ (l : List ℕ). b ∷ l) left.is.1, k.2, left.is.2);
      others = left.others;
    }

closed_other : (b : ℕ) (rest : List ℕ) → eqb b comma ≡ false → eqb b closing ≡ false → elements_from Closed (b ∷ rest) ≡ byte_before Skip b (elements_from Failed rest)
unfolding elements_from
closed_other b rest no_comma no_closing = rw (no_comma, no_closing) refl

closed_left : (b : ℕ) (rest : List ℕ) → Again rest → (c : List ℕ) (cs : List (List ℕ)) → elements_from Closed (b ∷ rest) ≡ Some (c, cs) → Left Closed (b ∷ rest) c cs
unfolding elements_from
closed_left b rest again c cs is = by (cases_Bool (eqb b comma)) (cases_Bool (eqb b closing))
  where
    P : ℕ → Type 0
    P x = elements_from Closed (x ∷ rest) ≡ Some (c, cs) → Left Closed (x ∷ rest) c cs

    at_comma : P comma
    at_comma read = comma_left rest again c cs read

    at_closing : P closing
    at_closing read = closing_left rest again c cs read

    by : (eqb b comma ≡ true) ⊎ (eqb b comma ≡ false) → (eqb b closing ≡ true) ⊎ (eqb b closing ≡ false) → Left Closed (b ∷ rest) c cs
    by (inl same) ends = subst P (sym (eqb-true b comma same)) at_comma is
    by (inr differs) (inl same) = subst P (sym (eqb-true b closing same)) at_closing is
    by (inr differs) (inr other) = absurd (failed_left b rest again c cs (sym (closed_other b rest differs other) ∙ is))

none_left : (b : ℕ) (rest : List ℕ) → Again rest → (c : List ℕ) (cs : List (List ℕ)) → elements_from Done (b ∷ rest) ≡ Some (c, cs) → ⊥
unfolding elements_from
none_left b rest again c cs is = failed_left b rest again c cs is

never_left : (b : ℕ) (rest : List ℕ) → Again rest → (c : List ℕ) (cs : List (List ℕ)) → elements_from Failed (b ∷ rest) ≡ Some (c, cs) → ⊥
unfolding elements_from
never_left b rest again c cs is = failed_left b rest again c cs is

next_left : (b : ℕ) (rest : List ℕ) → Again rest → Again (b ∷ rest)
next_left b rest again Start c cs is = start_left b rest again c cs is
next_left b rest again Bare c cs is = bare_left b rest again c cs is
next_left b rest again Quoted c cs is = quoted_left b rest again c cs is
next_left b rest again Escaped c cs is = escaped_left b rest again c cs is
next_left b rest again Closed c cs is = closed_left b rest again c cs is
next_left b rest again Done c cs is = absurd (none_left b rest again c cs is)
next_left b rest again Failed c cs is = never_left b rest again c cs is

last_left : Again []
unfolding elements_from
last_left Start c cs is = absurd cc
last_left Bare c cs is = absurd cc
last_left Quoted c cs is = absurd cc
last_left Escaped c cs is = absurd cc
last_left Closed c cs is = absurd cc
last_left Done c cs is =
    let both : ◌≡◌ {A = List ℕ × List (List ℕ)} ([], []) (c, cs) = cc in
    (refl, sym (ap (λ (p : List ℕ × List (List ℕ)). p.0) both), sym (ap (λ (p : List ℕ × List (List ℕ)). p.1) both))
last_left Failed c cs is = absurd cc

elements_read : (text : List ℕ) → Again text
elements_read [] = last_left
elements_read (b ∷ rest) = next_left b rest (elements_read rest)

-- ---- the whole text

entries : (items : List AclItem) (cs es : List (List ℕ)) → AllZip SpellsItem items cs → AllZip SpellsElement cs es → AllZip SpellsEntry items es
entries [] [] [] a b = tt
entries [] [] (e ∷ es) a b = absurd b
entries [] (c ∷ cs) es a b = absurd a
entries (i ∷ is) [] es a b = absurd a
entries (i ∷ is) (c ∷ cs) [] a b = absurd b
entries (i ∷ is) (c ∷ cs) (e ∷ es) a b = ((c, b.0, a.0), entries is cs es a.1 b.1)

begun_read : (r : Option (List ℕ × List (List ℕ))) (texts : List (List ℕ)) → elements_before [] [] r ≡ Some texts → (c : List ℕ) × (cs : List (List ℕ)) × (r ≡ Some (c, cs)) × (c ∷ cs ≡ texts)
begun_read None texts is = absurd cc
begun_read (Some read) texts is = (read.0, read.1, refl, cc)

pub acl_read : NameTests → (text : List ℕ) (items : List AclItem) → acl_of text ≡ Some items → SpellsAcl items text
unfolding acl_of
acl_read tests text items is =
    let a = bound (behind opening text) _ items is in
    by a.0 (behind_read opening text a.0 a.1) (bytes_eq a.0 (closing ∷ [])) refl a.2
  where
    by : (rest : List ℕ) → text ≡ opening ∷ rest → (empty : Bool) → bytes_eq rest (closing ∷ []) ≡ empty → cond empty (Some []) (elements_of rest >>= items_of) ≡ Some items → SpellsAcl items text
    by rest split true here read =
        let same : [] ≡ items = cc in
        let rest_is : rest ≡ closing ∷ [] = (bytes_eq-Decides rest (closing ∷ [])).0 here in
        subst (λ (l : List AclItem). SpellsAcl l text) same (record { elements = []; split = split ∙ ap (λ (l : List ℕ). opening ∷ l) rest_is; each = tt })
    by rest split false here read =
        let b = bound (elements_of rest) items_of items read in
        let cut = begun_read (elements_from Start rest) b.0 b.1 in
        let left : Rest (SpellsElement cut.0) rest cut.1 = elements_read rest Start cut.0 cut.1 cut.2 in
        let each_item : AllZip SpellsItem items (cut.0 ∷ cut.1) = items_read tests (cut.0 ∷ cut.1) items (ap items_of cut.3 ∙ b.2) in
        record {
          elements = left.front ∷ left.es;
          split = split ∙ ap (λ (l : List ℕ). opening ∷ l) (left.split ∙ sym (joined_tail left.front left.es));
          each = entries items (cut.0 ∷ cut.1) (left.front ∷ left.es) each_item (left.is, left.others);
        }
