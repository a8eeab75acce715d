-- The leaves of a syntax with the texts that they are written in.
use Rattle.ddl_forms.proofs.Common.{◌≡◌, ℕ, Bool, true, false, List, [], ◌∷◌, ◌++◌, refl, arith, joined, Lexeme, spelled}
unfoldable use Rattle.ddl_forms.proofs.Common.{default_text}
use Rattle.ddl_forms.proofs.{Behind.admits, Behind.Opens, Tokens.Gap, Tokens.none as no_gap, Numbers.number_as, Written.Written, Written.name_as, Written.literal_as, Written.path_as, Written.run_as, Expressions.nested_plain, Expressions.expression_as, Putting.Follows, Putting.IsPut, Putting.same_text, Putting.Yields}
use Rattle.ddl_relation_texts.proofs.{Paths.literal_path_as, Relations.columns_as, Relations.some_columns_as, Relations.key_rest_as, Relations.foreign_rest_as, Relations.named_check_as, Relations.equals_sign_as, Relations.truth_as, Relations.body_as, Relations.brackets_as, Tables.lines_as, Tables.domain_as, Tables.table_elements_as, Sequences.sequence_as}
use Rattle.ddl_admin_texts.proofs.{Admin.remark_as, Admin.changes_as, Admin.options_as, Rights.granted_as, Rights.revoked_as}
use Rattle.ddl_grammar.specs.LeafParts.{Leaf, name, literal, path, literal_path, number, truth, expression, given_default, body, brackets, columns, some_columns, key_rest, foreign_rest, labels, domain, elements, clauses, changes, encoding, equals, remark, check, granted, revoked, leaf_part, leaf_has, LeafFits, leaf_text}
use Rattle.ddl_grammar.specs.Syntax.{Space, none, feed, between}
use Rattle.ddl_syntax_laws.proofs.Shapes.{gap_of, begins_with, begins_so, Shape, shape_of, Said}

-- ---- leaves, with their texts behind a gap; or with their own space, or a line feed before it

unfoldable pub leaf_as : {A : Type 0} → {g : List ℕ} → Gap g → (l : Leaf A) → Written (leaf_part l)
unfolding leaf_part expression_as default_text columns_as some_columns_as key_rest_as foreign_rest_as named_check_as equals_sign_as truth_as body_as brackets_as lines_as domain_as table_elements_as sequence_as remark_as changes_as options_as granted_as revoked_as
leaf_as gap name = name_as gap
leaf_as gap literal = literal_as gap
leaf_as gap path = path_as gap
leaf_as gap literal_path = literal_path_as gap
leaf_as gap number = number_as gap
leaf_as gap truth = truth_as gap
leaf_as gap expression = expression_as gap
leaf_as gap given_default = run_as (nested_plain true false) gap
leaf_as gap body = body_as
leaf_as gap brackets = brackets_as gap
leaf_as gap columns = columns_as gap
leaf_as gap some_columns = some_columns_as
leaf_as gap key_rest = key_rest_as
leaf_as gap foreign_rest = foreign_rest_as
leaf_as gap labels = lines_as
leaf_as gap domain = domain_as gap
leaf_as gap elements = table_elements_as
leaf_as gap clauses = sequence_as
leaf_as gap changes = changes_as
leaf_as gap encoding = options_as
leaf_as gap equals = equals_sign_as gap
leaf_as gap remark = remark_as gap
leaf_as gap check = named_check_as gap
leaf_as gap granted = granted_as
leaf_as gap revoked = revoked_as

abbrev pub is_none : Space → Bool
is_none none = true
is_none _ = false

abbrev pub is_feed : Space → Bool
is_feed feed = true
is_feed _ = false

-- such a space may stand before it
unfoldable pub leaf_sound : {A : Type 0} → Space → Leaf A → Bool
leaf_sound gap some_columns = is_none gap
leaf_sound gap key_rest = is_none gap
leaf_sound gap foreign_rest = is_none gap
leaf_sound gap labels = is_none gap
leaf_sound gap elements = is_none gap
leaf_sound gap clauses = is_none gap
leaf_sound gap changes = is_none gap
leaf_sound gap encoding = is_none gap
leaf_sound gap granted = is_none gap
leaf_sound gap revoked = is_none gap
leaf_sound gap body = is_feed gap
leaf_sound gap l = true

unfoldable pub leaf_shape : {A : Type 0} → Space → Leaf A → Shape
leaf_shape none l = shape_of (leaf_as no_gap l)
leaf_shape space l = record (shape_of (leaf_as no_gap l)) { opens = begins_with space [] }

-- ---- their laws

own_text : (text g : List ℕ) (space : Space) → is_none space ≡ true → joined (text ∷ []) ≡ joined (between g space ∷ text ∷ [])
own_text text g none is = refl
own_text text g space is = absurd cc

fed_text : (text g : List ℕ) (space : Space) → is_feed space ≡ true → joined ((10 ∷ []) ∷ text ∷ []) ≡ joined (between g space ∷ text ∷ [])
fed_text text g feed is = refl
fed_text text g space is = absurd cc

leaf_put : {A : Type 0} {g : List ℕ} (gap : Gap g) (space : Space) (l : Leaf A) → leaf_sound space l ≡ true → (v : A) → LeafFits l v → (others : List Lexeme) → Follows others → admits (leaf_shape none l).after (spelled others) ≡ true → IsPut (leaf_part l) v (joined (between g space ∷ leaf_text l v ∷ [])) others
unfolding leaf_sound leaf_shape leaf_as leaf_text LeafFits
leaf_put gap space name is v fit others follows e = (name_as (gap_of gap space)).put v fit others follows e
leaf_put {g = g} gap space l is v fit others follows e = same_text _ (joined (between g space ∷ leaf_text l v ∷ [])) (grind (arith, own_text, fed_text)) ((leaf_as (gap_of gap space) l).put v fit others follows e)

leaf_made : {A : Type 0} (l : Leaf A) → Yields (LeafFits l) (leaf_part l)
unfolding leaf_as LeafFits
leaf_made name = (name_as no_gap).made
leaf_made l = (leaf_as no_gap l).made

leaf_begins : {A : Type 0} (g : List ℕ) (space : Space) (l : Leaf A) → leaf_sound space l ≡ true → (v : A) → LeafFits l v → Opens (leaf_shape space l).lacks (leaf_shape space l).opens (joined (between g space ∷ leaf_text l v ∷ []))
unfolding leaf_sound leaf_shape leaf_as leaf_text LeafFits
leaf_begins g none body is v fit = absurd cc
leaf_begins g none l is v fit = (leaf_as no_gap l).begins v fit
leaf_begins g space l is v fit = λ m c rest e. begins_so g space [] (leaf_text l v ++ []) m c rest refl

pub leaf_said : {A : Type 0} {g : List ℕ} → Gap g → (space : Space) (l : Leaf A) → leaf_sound space l ≡ true → Said (leaf_part l) (LeafFits l) (λ v. between g space ∷ leaf_text l v ∷ []) (leaf_shape space l)
unfolding leaf_shape
leaf_said {g = g} gap none l is = record { put = leaf_put gap none l is; begins = leaf_begins g none l is; made = leaf_made l; closes = (leaf_as no_gap l).closes }
leaf_said {g = g} gap space l is = record { put = leaf_put gap space l is; begins = leaf_begins g space l is; made = leaf_made l; closes = (leaf_as no_gap l).closes }

-- what can be written is a leaf's
pub leaf_is : {A : Type 0} (l : Leaf A) (v : A) → LeafFits l v → leaf_has l v ≡ true
unfolding LeafFits leaf_has
leaf_is granted v fit = grind arith
leaf_is revoked v fit = grind arith
leaf_is l v fit = refl
