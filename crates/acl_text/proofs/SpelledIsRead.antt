-- What a text spells as a list of rights is read of it.
use Rattle.std.proofs.Common.{◌≡◌, ◌≢◌, ℕ, ◌<◌, true, false, not, eqb, List, [], ◌∷◌, ◌++◌, length, drop, Option, Some, None, refl, sym, ap, ◌∙◌, append_assoc, arith, inl, inr, ◌⊎◌}
use Rattle.std.specs.Prelude.{◌||◌}
use Rattle.std.specs.List.{AllZip, flat_map, join_with_byte, list_all, prefix_len}
use Rattle.std.specs.Str.{bytes_eq}
use Rattle.std.proofs.Math.Seq.{take-append_seam, drop-append_seam}
use Rattle.std.proofs.lemmas.Bool.{false_from_ne_true, eqb-true, and_parts}
use Rattle.std.proofs.lemmas.List.{append-nil, length-append}
use Rattle.std.proofs.lemmas.Slice.Eq.{bytes_eq-Decides}
use Rattle.acl_text.specs.declared.list.AclItem.{AclItem}
use Rattle.acl_text.specs.declared.reading.Effect.TheVariants.{Keep, Cut}
use Rattle.acl_text.specs.declared.reading.State.TheVariants.{Start, Quoted, Closed}
use Rattle.acl_text.specs.Acls.{acl_of, byte_before, closing, comma, double_quote, elements_before, elements_from, elements_of, equals, escaping, grantee_of, is_plain, item_of, items_of, name_at, opening, quote, quoted_name, slash, slash_at, spell_right}
use Rattle.acl_text.specs.Spells.{SpellsName, SpellsGrantee, SpellsItem, SpellsInQuotes, SpellsElement}
use Rattle.acl_text.proofs.SpellingLemmas.{NameTests, Stops, Ends, plain_len, plain_first, prefix_stop, quoted_spelled, rights_spelled, no_slashes, text_before, text_before-nil, keep_before, escaped_byte, quoted_byte, start_quote, end_quote, bare_element, closed_end, closed_comma, last_again}
use Rattle.acl_text.proofs.ElementLemmas.{tail_of, tail_more, joined_tail, SpellsEntry}

bare_name_is_read : (name rest : List ℕ) → list_all is_plain name ≡ true → Stops rest → name_at (name ++ rest) ≡ Some (name, rest)
unfolding name_at
bare_name_is_read [] rest plain (inl none) = rw none refl
bare_name_is_read [] rest plain (inr some) = rw some.1 refl
bare_name_is_read (b ∷ name) rest plain stops =
    let first = plain_first b (and_parts (is_plain b) (list_all is_plain name) plain).0 in
    let len : prefix_len is_plain ((b ∷ name) ++ rest) ≡ length (b ∷ name) = plain_len (b ∷ name) rest plain stops in
    rw (first, len) (ap (λ (l : List ℕ). Some (l, drop (length (b ∷ name)) ((b ∷ name) ++ rest))) (take-append_seam (b ∷ name) rest) ∙ ap (λ (l : List ℕ). Some (b ∷ name, l)) (drop-append_seam (b ∷ name) rest))

quoted_name_is_read : (name rest : List ℕ) → Stops rest → name_at ((quote ∷ (flat_map double_quote name ++ quote ∷ [])) ++ rest) ≡ Some (name, rest)
unfolding name_at
quoted_name_is_read name rest stops = ap (quoted_name false) (append_assoc (flat_map double_quote name) (quote ∷ []) rest) ∙ quoted_spelled name rest stops

name_is_read : (name text rest : List ℕ) → SpellsName name text → Stops rest → name_at (text ++ rest) ≡ Some (name, rest)
name_is_read name text rest (inl bare) stops = ap (λ (l : List ℕ). name_at (l ++ rest)) bare.0 ∙ bare_name_is_read name rest bare.1 stops
name_is_read name text rest (inr quoted) stops = ap (λ (l : List ℕ). name_at (l ++ rest)) quoted ∙ quoted_name_is_read name rest stops

-- the bytes that a grantee is read as
abbrev bytes_of : Option (List ℕ) → List ℕ
bytes_of None = []
bytes_of (Some name) = name

grantee_is_read : (grantee : Option (List ℕ)) (text rest : List ℕ) → SpellsGrantee grantee text → Stops rest → name_at (text ++ rest) ≡ Some (bytes_of grantee, rest)
grantee_is_read None text rest spells stops = name_is_read [] text rest spells stops
grantee_is_read (Some name) text rest spells stops = name_is_read name text rest spells.1 stops

grantee_is_one : NameTests → (grantee : Option (List ℕ)) (text : List ℕ) → SpellsGrantee grantee text → grantee_of (bytes_of grantee) ≡ Some grantee
grantee_is_one tests None text spells = refl
grantee_is_one tests (Some []) text spells = let some = spells.0.some in absurd (omega arith)
grantee_is_one tests (Some (b ∷ name)) text spells = let test = (tests (b ∷ name)).1 spells.0 in rw test refl

item_is_read : NameTests → (item : AclItem) (text : List ℕ) → SpellsItem item text → item_of text ≡ Some item
unfolding item_of
item_is_read tests item text is =
    let letters = flat_map spell_right item.rights in
    let behind_equals = letters ++ slash ∷ is.grantor in
    let first = grantee_is_read item.grantee is.grantee (equals ∷ behind_equals) is.whom (inr (behind_equals, refl)) in
    let whom = grantee_is_one tests item.grantee is.grantee is.whom in
    let at : slash_at behind_equals ≡ length letters = prefix_stop (λ b. not (eqb b slash)) letters slash is.grantor (no_slashes item.rights) refl in
    let front = take-append_seam letters (slash ∷ is.grantor) in
    let back = drop-append_seam letters (slash ∷ is.grantor) in
    let rights = rights_spelled item.rights in
    let grantor : name_at is.grantor ≡ Some (item.grantor, []) = ap name_at (sym (append-nil is.grantor)) ∙ name_is_read item.grantor is.grantor [] is.whose (inl refl) in
    let whose = last_again tests item.grantor is.named in
    ap item_of is.split ∙ rw (first, whom, at, front, back, rights, grantor, whose) refl

items_are_read : NameTests → (items : List AclItem) (texts : List (List ℕ)) → AllZip SpellsItem items texts → items_of texts ≡ Some items
unfolding items_of
items_are_read tests [] [] all = refl
items_are_read tests [] (text ∷ more) all = absurd all
items_are_read tests (item ∷ items) [] all = absurd all
items_are_read tests (item ∷ items) (text ∷ more) all = rw (item_is_read tests item text all.0, items_are_read tests items more all.1) refl

quotes_are_read : (content body tail : List ℕ) → SpellsInQuotes content body → elements_from Quoted (body ++ tail) ≡ text_before content (elements_from Quoted tail)
quotes_are_read [] body tail spells = ap (λ (l : List ℕ). elements_from Quoted (l ++ tail)) spells ∙ text_before-nil (elements_from Quoted tail)
quotes_are_read (b ∷ content) body tail spells =
    by spells.2 ∙ ap (byte_before Keep b) (quotes_are_read content spells.0 tail spells.1) ∙ keep_before b content (elements_from Quoted tail)
  where
    by : (body ≡ escaping ∷ b ∷ spells.0) ⊎ ((body ≡ b ∷ spells.0) × (b ≢ quote) × (b ≢ escaping)) → elements_from Quoted (body ++ tail) ≡ byte_before Keep b (elements_from Quoted (spells.0 ++ tail))
    by (inl escaped) = ap (λ (l : List ℕ). elements_from Quoted (l ++ tail)) escaped ∙ escaped_byte b (spells.0 ++ tail)
    by (inr plain) =
        let no_quote : eqb b quote ≡ false = false_from_ne_true _ (λ same. plain.1 (eqb-true b quote same)) in
        let no_backslash : eqb b escaping ≡ false = false_from_ne_true _ (λ same. plain.2 (eqb-true b escaping same)) in
        let neither : (eqb b quote || eqb b escaping) ≡ false = rw (no_quote, no_backslash) refl in
        ap (λ (l : List ℕ). elements_from Quoted (l ++ tail)) plain.0 ∙ quoted_byte b (spells.0 ++ tail) neither

element_is_read : (content element tail : List ℕ) → 0 < length content → Ends tail → SpellsElement content element → elements_from Start (element ++ tail) ≡ text_before content (elements_from Closed tail)
element_is_read content element tail some ends (inl bare) = ap (λ (l : List ℕ). elements_from Start (l ++ tail)) bare.0 ∙ bare_element content tail some ends bare.1
element_is_read content element tail some ends (inr quoted) =
    ap (λ (l : List ℕ). elements_from Start (l ++ tail)) quoted.1
    ∙ start_quote ((quoted.0 ++ quote ∷ []) ++ tail)
    ∙ ap (elements_from Quoted) (append_assoc quoted.0 (quote ∷ []) tail)
    ∙ quotes_are_read content quoted.0 (quote ∷ tail) quoted.2
    ∙ ap (text_before content) (end_quote tail)

tail_ends : (es : List (List ℕ)) → Ends (tail_of es)
tail_ends [] = inl refl
tail_ends (e ∷ es) = inr (e ++ tail_of es, sym (tail_more e es))

abbrev Some_byte : List (List ℕ) → Type 0
Some_byte [] = Unit {0}
Some_byte (text ∷ more) = (0 < length text) × Some_byte more

elements_are_read : (c : List ℕ) (cs : List (List ℕ)) (e : List ℕ) (es : List (List ℕ)) → 0 < length c → Some_byte cs → SpellsElement c e → AllZip SpellsElement cs es → elements_from Start (e ++ tail_of es) ≡ Some (c, cs)
elements_are_read c [] e [] some others spells all =
    element_is_read c e (closing ∷ []) some (inl refl) spells ∙ ap (text_before c) closed_end ∙ ap (λ (l : List ℕ). Some (l, [])) (append-nil c)
elements_are_read c [] e (f ∷ es) some others spells all = absurd all
elements_are_read c (d ∷ cs) e [] some others spells all = absurd all
elements_are_read c (d ∷ cs) e (f ∷ es) some others spells all =
    element_is_read c e (tail_of (f ∷ es)) some (tail_ends (f ∷ es)) spells
    ∙ ap (text_before c) (ap (elements_from Closed) (sym (tail_more f es)) ∙ closed_comma (f ++ tail_of es) ∙ ap (byte_before Cut comma) (elements_are_read d cs f es others.0 others.1 all.0 all.1))
    ∙ ap (λ (l : List ℕ). Some (l, d ∷ cs)) (append-nil c)

-- the texts of items that stand in elements
record Contents (items : List AclItem) (es : List (List ℕ)) : Type 0 where
  texts : List (List ℕ)
  spelled : AllZip SpellsItem items texts
  held : AllZip SpellsElement texts es

contents : (items : List AclItem) (es : List (List ℕ)) → AllZip SpellsEntry items es → Contents items es
contents [] [] all = record { texts = []; spelled = tt; held = tt }
contents [] (e ∷ es) all = absurd all
contents (i ∷ is) [] all = absurd all
contents (i ∷ is) (e ∷ es) all =
    let more = contents is es all.1 in
    record { texts = all.0.0 ∷ more.texts; spelled = (all.0.2, more.spelled); held = (all.0.1, more.held) }

item_has_a_byte : (item : AclItem) (text : List ℕ) → SpellsItem item text → 0 < length text
item_has_a_byte item text is = omega (arith, ap length is.split, length-append is.grantee (equals ∷ (flat_map spell_right item.rights ++ slash ∷ is.grantor)))

items_have_bytes : (items : List AclItem) (texts : List (List ℕ)) → AllZip SpellsItem items texts → Some_byte texts
items_have_bytes [] [] all = tt
items_have_bytes [] (text ∷ more) all = absurd all
items_have_bytes (item ∷ items) [] all = absurd all
items_have_bytes (item ∷ items) (text ∷ more) all = (item_has_a_byte item text all.0, items_have_bytes items more all.1)

element_has_a_byte : (content element : List ℕ) → 0 < length content → SpellsElement content element → 0 < length element
element_has_a_byte content element some (inl bare) = omega (arith, ap length bare.0)
element_has_a_byte content element some (inr quoted) = omega (arith, ap length quoted.1)

not_empty : (e : List ℕ) (es : List (List ℕ)) → 0 < length e → bytes_eq (e ++ tail_of es) (closing ∷ []) ≡ false
not_empty e es some = false_from_ne_true _ (λ same.
    let equal : e ++ tail_of es ≡ closing ∷ [] = (bytes_eq-Decides (e ++ tail_of es) (closing ∷ [])).0 same in
    omega (arith, ap length equal, length-append e (tail_of es), length-append (flat_map (λ x. comma ∷ x) es) (closing ∷ [])))

braces_are_read : NameTests → (items : List AclItem) (e : List ℕ) (es : List (List ℕ)) (texts : List (List ℕ)) → AllZip SpellsItem items texts → AllZip SpellsElement texts (e ∷ es) → acl_of (opening ∷ (e ++ tail_of es)) ≡ Some items
unfolding acl_of
braces_are_read tests items e es [] spelled all = absurd all
braces_are_read tests [] e es (c ∷ cs) spelled all = absurd spelled
braces_are_read tests (item ∷ items) e es (c ∷ cs) spelled all =
    let some = items_have_bytes (item ∷ items) (c ∷ cs) spelled in
    let longer = not_empty e es (element_has_a_byte c e some.0 all.0) in
    let cut : elements_of (e ++ tail_of es) ≡ Some (c ∷ cs) = ap (elements_before [] []) (elements_are_read c cs e es some.0 some.1 all.0 all.1) in
    rw (longer, cut) (items_are_read tests (item ∷ items) (c ∷ cs) spelled)

pub acl_is_read : NameTests → (items : List AclItem) (elements : List (List ℕ)) (text : List ℕ) → text ≡ opening ∷ (join_with_byte comma elements ++ closing ∷ []) → AllZip SpellsEntry items elements → acl_of text ≡ Some items
unfolding acl_of
acl_is_read tests [] [] text split all = ap acl_of split
acl_is_read tests [] (e ∷ es) text split all = absurd all
acl_is_read tests (item ∷ items) [] text split all = absurd all
acl_is_read tests (item ∷ items) (e ∷ es) text split all =
    let inner = contents (item ∷ items) (e ∷ es) all in
    ap acl_of (split ∙ ap (λ (l : List ℕ). opening ∷ l) (joined_tail e es)) ∙ braces_are_read tests (item ∷ items) e es inner.texts inner.spelled inner.held
