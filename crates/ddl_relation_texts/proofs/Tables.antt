-- CREATE TYPE, CREATE DOMAIN and CREATE TABLE: each part of their grammar with the text that it is written in.
use Rattle.ddl_relation_texts.proofs.Common.{◌≡◌, arith, ℕ, Bool, true, false, cond, List, [], ◌∷◌, ◌++◌, map, append-nil, Option, Some, None, Ok, Err, refl, sym, ap, ◌∙◌, ◌⊎◌, inl, inr, codes, flat_map, AllByRecursion, is_reserved, written_kind, written_name, written_literal, IsName, IsText, ColumnDef, CheckDef, Lexeme, is_word, many, literal, is_literal, name_value, item_of, listing, joined, only_if, given_default, check_text, column_text, table_lines, Attributes, not_null, given, null_first, default_first, attributes, typed, checking, column_name, column_name_value, column_of, column, element, last_element, element_at, elements, more_elements, parted, table_elements, column_name_is, IsDefaultText, Words, Safe, default_as, space, indented, indent, tabbed, no_key, value_name, Written, name_said, is_key, comma_as, literal_as, then_as, lead_as, word_then, end_as, seen_as, like_as, shown_as, pieces_as, choose_as, nothing_as, maybe_as, OptionFit, AllFit, items_pieces, many_as, alike_as, IsCheck, IsColumn, IsDefault, listed, Gap, domain_rest, domain_text, in_lines, IsType, is_as, subst}
use Rattle.ddl_forms.proofs.{Types.type_as, Defaults.null_words, Defaults.default_and_null_as}
use Rattle.ddl_relation_texts.proofs.Relations.{lines_of_items, named_check_as}
use Rattle.ddl_grammar.specs.{declared.tables.TableElement.TableElement, declared.tables.TableElement.TheVariants.Column, declared.tables.TableElement.TheVariants.Check, declared.tables.Spot.Spot, declared.tables.Spot.TheVariants.Opening, declared.tables.Spot.TheVariants.BehindColumn, declared.tables.Spot.TheVariants.BehindCheck}

-- ---- CREATE TYPE

abbrev pub label_as : (behind : Bool) → Written (item_of literal behind)
label_as true = lead_as comma_as (literal_as indented) refl
label_as false = literal_as indented

abbrev pub labels_as : Written (listed is_literal literal)
labels_as = alike_as label_as IsText (elim [ true ↦ λ t is. is | false ↦ λ t is. is ]) (elim [ true ↦ λ t is. is | false ↦ λ t is. is ]) Words (elim [ true ↦ refl | false ↦ refl ])

-- a line behind others
abbrev pub in_line : List ℕ → List ℕ
in_line line = codes ",\n    " ++ line

pub labels_same : (labels : List (List ℕ)) (all : AllByRecursion IsText labels) → joined (labels_as.pieces labels all) ≡ in_lines (map written_literal labels) ++ []
labels_same [] all = refl
labels_same (t ∷ labels) all = ap (λ (x : List ℕ). (indent ++ written_literal t) ++ x) (more labels _) ∙ sym (append-nil (in_lines (map written_literal (t ∷ labels))))
  where
    more : (labels : List (List ℕ)) (fit : AllFit (listing is_literal literal) label_as true labels) → joined (items_pieces (listing is_literal literal) label_as true labels fit) ≡ flat_map in_line (map written_literal labels)
    more [] fit = refl
    more (t ∷ labels) fit = ap (λ (x : List ℕ). in_line (written_literal t) ++ x) (more labels fit.1)

unfoldable pub lines_as : Written (listed is_literal literal)
lines_as = pieces_as labels_as (λ ls is. in_lines (map written_literal ls) ∷ []) labels_same

-- ---- defaults and NOT NULL

unfoldable pub null_first_as : Written null_first
unfolding null_first is_key default_as
null_first_as = seen_as not_null (word_then (codes "NOT") refl (word_then (codes "NULL") refl (maybe_as (is_word (codes "default")) (word_then (codes "DEFAULT") refl default_as refl)) refl) refl)

unfoldable pub default_first_as : Written default_first
unfolding default_first is_key
default_first_as = seen_as given (word_then (codes "DEFAULT") refl default_and_null_as refl)

-- how values are written: NOT NULL first or last, where both are there
abbrev pub Attributed : Attributes → Type 0
Attributed x = ((d : Option (List ℕ)) × OptionFit IsDefaultText d × (not_null d ≡ x)) ⊎ (((y : List ℕ × Bool) × IsDefaultText y.0 × (given y ≡ x)) ⊎ (x ≡ (None, false)))

abbrev pub attributed : (domain : Bool) → (d : Option (List ℕ)) → (b : Bool) → IsDefault d → Attributed (d, b)
attributed domain None true is = inl (None, tt, refl)
attributed true (Some v) true is = inl (Some v, is, refl)
attributed false (Some v) true is = inr (inl ((v, true), is, refl))
attributed domain None false is = inr (inr refl)
attributed domain (Some v) false is = inr (inl ((v, false), is, refl))

pub default_is : (x : Attributes) → Attributed x → IsDefault x.0
default_is x h = grind arith

abbrev pub attribute_pieces : Bool → Option (List ℕ) → Bool → List (List ℕ)
attribute_pieces true d b = only_if b null_words ∷ given_default d ∷ []
attribute_pieces false d b = given_default d ∷ only_if b null_words ∷ []

unfoldable pub either_attributes_as : (domain : Bool) → Written attributes
unfolding attributes null_first_as default_first_as
either_attributes_as domain = like_as (choose_as null_first_as (choose_as default_first_as (nothing_as (None, false)))) (λ x. IsDefault x.0) (λ x is. attributed domain x.0 x.1 is) default_is

-- NOT NULL before a default, as domains have them, or behind it, as columns do
unfoldable pub attributes_as : (domain : Bool) → Written attributes
unfolding either_attributes_as
attributes_as domain = pieces_as (either_attributes_as domain) (λ x is. attribute_pieces domain x.0 x.1) (λ x is. by domain x.0 x.1 is)
  where
    by : (domain : Bool) (d : Option (List ℕ)) (b : Bool) (is : IsDefault d) → joined ((either_attributes_as domain).pieces (d, b) is) ≡ joined (attribute_pieces domain d b)
    by true None true is = refl
    by true (Some v) true is = refl
    by false None true is = refl
    by false (Some v) true is = refl
    by x d b is = refl

unfoldable pub typed_as : {g : List ℕ} → Gap g → (domain : Bool) → Written typed
unfolding typed attributes_as
typed_as gap domain = then_as (type_as gap) (attributes_as domain) refl

-- ---- CREATE DOMAIN

abbrev pub check_line : CheckDef → List ℕ
check_line c = check_text c.name c.text

unfoldable pub checks_as : Written (many (is_word (codes "constraint")) checking)
unfolding named_check_as
checks_as =
    pieces_as (alike_as (λ s. named_check_as tabbed) IsCheck (λ s c is. is) (λ s c is. is) Safe (λ s. refl)) (λ checks is. flat_map (λ c. codes "\n\t" ++ check_line c) checks ∷ [])
    (λ checks is. lines_of_items checking (λ s. named_check_as tabbed) (λ c. codes "\n\t" ++ check_line c) (λ s c fit more. refl) tt checks _ ∙ sym (append-nil (flat_map (λ c. codes "\n\t" ++ check_line c) checks)))

-- up to its semicolon
unfoldable pub domain_as : {g : List ℕ} → Gap g → Written domain_rest
unfolding domain_rest typed_as attributes_as checks_as domain_text
domain_as {g} gap =
    let whole : Written domain_rest = then_as (typed_as gap true) (end_as checks_as refl) refl in
    pieces_as (like_as whole (λ x. (IsType x.0.0 × IsDefault x.0.1.0) × AllByRecursion IsCheck x.1) (λ x is. is) (λ x is. is)) (λ x is. g ∷ domain_text x.0.0 x.0.1.1 x.0.1.0 x.1 ∷ []) (λ x is. ap (λ (t : List ℕ). g ++ t) (sym (append-nil (domain_text x.0.0 x.0.1.1 x.0.1.0 x.1))))

-- ---- CREATE TABLE

pub column_name_means : (n : List ℕ) → IsName n → (t : Lexeme) → t.kind ≡ written_kind n → t.word ≡ written_name n → name_value t ≡ Ok n → column_name_value t ≡ Ok n
unfolding column_name_value is_reserved
column_name_means n is t kind word e = ap (λ (b : Bool). cond b (Err false) (name_value t)) (no_key (codes "constraint") n is.utf8 refl t kind word) ∙ e

abbrev pub column_name_as : Written column_name
column_name_as = name_said indented IsName IsName (λ n. n) (λ n is. is) column_name_means (λ t n e. value_name t n (column_name_is t n e).1)

unfoldable pub column_as : Written column
unfolding column typed_as column_text
column_as =
    pieces_as (shown_as column_of (then_as column_name_as (typed_as space false) refl) IsColumn (λ c is. ((c.name, (c.type_name, (c.default, c.not_null))), (is.0, (is.1, is.2)), refl)) (λ x is. (is.0, is.1.0, is.1.1)))
    (λ c is. indent ∷ column_text c ∷ []) (λ c is. ap (λ (x : List ℕ). indent ++ x) (sym (append-nil (column_text c))))

abbrev pub IsElement : TableElement → Type 0
IsElement (Column c) = IsColumn c
IsElement (Check c) = IsCheck c

unfoldable pub element_as : Written element
unfolding element named_check_as column_as
element_as = is_as (choose_as (seen_as Check (named_check_as indented)) (seen_as Column column_as)) IsElement (λ v h. elim h [ inl x ↦ subst IsElement x.2 x.1 | inr y ↦ subst IsElement y.2 y.1 ])

unfoldable pub at_spot : (s : Spot) → Written (element_at s)
unfolding element_as last_element named_check_as
at_spot Opening = element_as
at_spot BehindColumn = lead_as comma_as element_as refl
at_spot BehindCheck = lead_as comma_as (seen_as Check (named_check_as indented)) refl

pub element_is : (s : Spot) (v : TableElement) → (at_spot s).Is v → IsElement v
unfolding at_spot element_as named_check_as
element_is BehindCheck v h = subst IsElement h.2 h.1
element_is s v h = h

unfoldable pub many_elements_as : Written (many more_elements elements)
unfolding at_spot
many_elements_as = many_as at_spot IsElement element_is Safe (elim [ Opening ↦ refl | x ↦ refl ])

abbrev pub listed_elements : List ColumnDef → List CheckDef → List TableElement
listed_elements columns checks = map Column columns ++ map Check checks

abbrev pub spot_at : Bool → Spot
spot_at true = Opening
spot_at false = BehindColumn

abbrev pub spot_lines : Spot → List (List ℕ) → List ℕ
spot_lines Opening l = in_lines l
spot_lines s l = flat_map in_line l

-- columns and checks from a spot on, with their lines, are parted into them
abbrev pub AreLaid : Spot → List ColumnDef → List CheckDef → Type 0
AreLaid s columns checks =
    (fit : AllFit elements at_spot s (listed_elements columns checks)) × (joined (items_pieces elements at_spot s (listed_elements columns checks) fit) ≡ spot_lines s (table_lines columns checks)) × (parted (listed_elements columns checks) ≡ (columns, checks))

pub checks_laid : (s : Spot) (checks : List CheckDef) → AllByRecursion IsCheck checks → AreLaid s [] checks
unfolding at_spot element_as named_check_as last_element
checks_laid Opening [] all = (tt, refl, refl)
checks_laid s [] all = (tt, refl, refl)
checks_laid s (c ∷ checks) all = by s (checks_laid BehindCheck checks all.1)
  where
    with_check : List ColumnDef × List CheckDef → List ColumnDef × List CheckDef
    with_check x = (x.0, c ∷ x.1)

    by : (s : Spot) → AreLaid BehindCheck [] checks → AreLaid s [] (c ∷ checks)
    by Opening more = ((inl (c, all.0, refl), more.0), ap (λ (x : List ℕ). (indent ++ check_line c) ++ x) more.1, ap with_check more.2)
    by BehindColumn more = ((inl (c, all.0, refl), more.0), ap (λ (x : List ℕ). in_line (check_line c) ++ x) more.1, ap with_check more.2)
    by BehindCheck more = (((c, all.0, refl), more.0), ap (λ (x : List ℕ). in_line (check_line c) ++ x) more.1, ap with_check more.2)

pub elements_laid : (first : Bool) (columns : List ColumnDef) (checks : List CheckDef) → AllByRecursion IsColumn columns → AllByRecursion IsCheck checks → AreLaid (spot_at first) columns checks
unfolding at_spot element_as named_check_as column_as
elements_laid first [] checks all others = checks_laid (spot_at first) checks others
elements_laid true (c ∷ columns) checks all others =
    let more = elements_laid false columns checks all.1 others in
    ((inr (c, all.0, refl), more.0), ap (λ (x : List ℕ). (indent ++ column_text c) ++ x) more.1, ap (λ (x : List ColumnDef × List CheckDef). (c ∷ x.0, x.1)) more.2)
elements_laid false (c ∷ columns) checks all others =
    let more = elements_laid false columns checks all.1 others in
    ((inr (c, all.0, refl), more.0), ap (λ (x : List ℕ). in_line (column_text c) ++ x) more.1, ap (λ (x : List ColumnDef × List CheckDef). (c ∷ x.0, x.1)) more.2)

abbrev pub AreElements : List ColumnDef × List CheckDef → Type 0
AreElements x = AllByRecursion IsColumn x.0 × AllByRecursion IsCheck x.1

pub are_elements : (es : List TableElement) → AllByRecursion IsElement es → AreElements (parted es)
are_elements [] all = (tt, tt)
are_elements (e ∷ es) all = let others = are_elements es all.1 in grind arith

unfoldable pub table_elements_as : Written table_elements
unfolding table_elements many_elements_as
table_elements_as =
    pieces_as (shown_as parted many_elements_as AreElements (λ x is. let laid = elements_laid true x.0 x.1 is.0 is.1 in (listed_elements x.0 x.1, laid.0, laid.2)) are_elements) (λ x is. in_lines (table_lines x.0 x.1) ∷ [])
    (λ x is. (elements_laid true x.0 x.1 is.0 is.1).1 ∙ sym (append-nil (in_lines (table_lines x.0 x.1))))
