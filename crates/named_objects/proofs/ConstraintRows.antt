-- The rows of pg_constraint meet the table's conditions.
use Rattle.std.proofs.Common.{◌≡◌, ◌⊎◌, ℕ, pos, ◌==◌, ◌<◌, Bool, true, false, true≢false, not, ◌&&◌, ◌||◌, List, [], ◌∷◌, ◌++◌, length, Option, Some, None, option_map, option_and_then, unwrap_or, refl, ap, sym, subst, ◌∙◌, inl, inr, if◌then◌else◌}
use Rattle.std.specs.Ordering.{nat_cmp, eq_by_cmp}
use Rattle.std.specs.Cmp.{first_so, second_so}
use Rattle.std.specs.Cmp.Lexicographic.{nat_list_cmp_total}
use Rattle.std.specs.FinMap.{get, entries}
use Rattle.std.specs.List.{AllByRecursion, filter, filter_map, flat_map, cons_option, slice_get, list_any}
use Rattle.std.specs.Prelude.{nat_le}
use Rattle.cat_rows.specs.declared.catalogue.Catalogue.{Catalogue}
use Rattle.cat_rows.specs.declared.constraints.ConstraintRow.{ConstraintRow}
use Rattle.cat_model.specs.declared.words.What.{What}
use Rattle.cat_model.specs.declared.words.What.TheVariants as what
use Rattle.cat_model.specs.declared.class.Class.TheVariants as class
use Rattle.cat_model.specs.declared.constraint.ConstraintKind.{ConstraintKind}
use Rattle.cat_model.specs.declared.constraint.ConstraintKind.TheVariants as kinds
use Rattle.cat_model.specs.declared.object.QName.{QName}
use Rattle.cat_model.specs.declared.key.Key.{Key}
use Rattle.cat_model.specs.declared.key.Key.TheVariants as key
use Rattle.cat_model.specs.declared.stmt.Stmt.{Stmt}
use Rattle.cat_model.specs.declared.stmt.Stmt.TheVariants as stmt
use Rattle.cat_model.specs.declared.value.Value.{Value}
use Rattle.cat_model.specs.declared.value.Value.TheVariants as value
use Rattle.cat_model.specs.declared.value.Constraint.{Constraint}
use Rattle.cat_model.specs.declared.value.Index.{Index}
use Rattle.cat_model.specs.HolderLaws.{bytes_cmp-IsAntisymmetric}
use Rattle.cat_model.specs.KeyEffects.{index_path}
use Rattle.cat_model.specs.References.{expression_references}
use Rattle.cat_model.specs.Tables.{same_set}
use Rattle.cat_model.specs.TypeEffects.{default_references}
use Rattle.cat_model.specs.Trees as trees
use Rattle.cat_model.specs.Trees.{same_path, is_on, unique_on, of_class}
use Rattle.cat_model.specs.Values.{Bytes, Named}
use Rattle.cat_model.proofs.MarkLaws.{same_path-self, same_path-equal}
use Rattle.cat_names.specs.Kinds.{kind_of, is_table, is_index}
use Rattle.cat_names.specs.Lookups.{same_oid, count_of, is_no_oid}
use Rattle.cat_book.specs.Chains.{type_of, is_domain_letter}
use Rattle.cat_book.specs.Leads.{is_key, is_primary, key_indexes, primary_tables}
use Rattle.cat_book.specs.Meets.{Meets}
use Rattle.cat_book.specs.Paths.{class_path_of}
use Rattle.cat_book.specs.Rules.{RowName, name_cmp, place_cmp}
use Rattle.row_texts.specs.IndexTexts.{index_said}
use Rattle.well_formed.specs.Agreeing.{are_met}
use Rattle.well_formed.specs.Indexes.{are_columns}
use Rattle.constraint_table.specs.declared.constraint_text.ConstraintText.{ConstraintText}
use Rattle.constraint_table.specs.declared.constraint_text.ConstraintText.TheVariants.{Primary, Unique, Foreign, Check}
use Rattle.constraint_table.specs.Keys.{key_columns, unique_columns, key_of_constraint, key_of_index, has_key_on}
use Rattle.constraint_table.specs.Said.{said_by, statement_said, constraint_said}
use Rattle.constraint_table.specs.Table.{is_there, is_index_there, is_parent_there, is_domain_row, is_table_or_none, is_domain_or_none, has_index_path, is_good_key, agrees_if_said, is_known, is_placed, is_bad_constraint, constraint_left_out, constraint_rules}
use Rattle.cat_naming.specs.Types.{check_said}
use Rattle.cat_naming.specs.Constraints.{constraint_value}
use Rattle.cat_sound.specs.Asked.{Asked}
use Rattle.cat_sound.specs.Asks.{type_asks, all_there}
use Rattle.cat_sound.specs.Beside.{is_primary_at, HasKey}
use Rattle.cat_sound.specs.Itself.{IsOfKind, HasParent}
use Rattle.cat_sound.specs.Texts.{Texts}
use Rattle.cat_sound.specs.Sound.{IsMet, IsSound}
use Rattle.cat_sound.proofs.Lists.{IsIn, of_member, all-back, flat-all}
use Rattle.cat_sound.proofs.Maps.{entry_of}
use Rattle.cat_sound.proofs.Owners.{one_key}
use Rattle.named_tables.specs.Oids.{AreOids}
use Rattle.named_tables.proofs.Ties.{tie}
use Rattle.named_tables.proofs.Rows.{name_cmp-IsAntisymmetric, in_place, place_in, among_in, one_oid, each_row, distinct_keys, no_keys, no_marks}
use Rattle.named_objects.specs.Oids.{ObjectOids, AreNumbers, AreCheckOids}
use Rattle.named_objects.specs.Constraints.{NamedConstraint, IsConstraint, IsConstraintRow, NamedCheck, IsCheck, Constrained, of_table, of_domain, IsConstrained, IsConstrainedRow, letter_of, index_of, parent_oid}
use Rattle.named_objects.proofs.Lookups.{AreLedTo, has_tie, class_path_found, kind_found, type_found, references_met}
use Rattle.named_objects.proofs.Columns.{table_met, are_columns_found}
use Rattle.named_objects.proofs.Constraints.{same_constraint}
use Rattle.named_objects.proofs.Counting.{pairs_of, pairs_filter, once_counted}
use Rattle.named_objects.proofs.KeyIndexes.{keyed_so, index_so, index_at, key_index}
use Rattle.named_objects.proofs.RelationRows.{HaveOwn}

-- ---- what texts say

abbrev said_kind : Constraint → ConstraintKind → Option ConstraintText
said_kind c kinds.Primary = Some (Primary c.columns)
said_kind c kinds.Unique = Some (Unique c.columns)
said_kind c kinds.Foreign = option_map (λ p. Foreign c.columns p.0 p.1) c.parent
said_kind c kinds.Check = Some (Check c.text)

inside : {A : Type 0} (x y : A) → Some x ≡ Some y → x ≡ y
inside x y e = ap (λ o. unwrap_or o x) e

as_said : (c d : Constraint) → Some (value.Constraint d) ≡ Some (value.Constraint c) → d ≡ c
as_said c d e =
    let values : value.Constraint d ≡ value.Constraint c = inside (value.Constraint d) (value.Constraint c) e in
    cc

stmt_said : (c : Constraint) (o : Option Stmt) → option_and_then constraint_value o ≡ Some (value.Constraint c) → option_and_then said_by o ≡ said_kind c c.kind
stmt_said c (Some (stmt.AddPrimary q name columns rest)) e =
    ap (λ (d : Constraint). said_kind d d.kind) (as_said c (record { kind = kinds.Primary; columns = columns; parent = None; text = rest }) e)
stmt_said c (Some (stmt.AddUnique q name columns rest)) e =
    ap (λ (d : Constraint). said_kind d d.kind) (as_said c (record { kind = kinds.Unique; columns = columns; parent = None; text = rest }) e)
stmt_said c (Some (stmt.AddForeign q name columns parent parent_columns rest)) e =
    ap (λ (d : Constraint). said_kind d d.kind) (as_said c (record { kind = kinds.Foreign; columns = columns; parent = Some (parent, parent_columns); text = rest }) e)
stmt_said c (Some (stmt.AddCheck q name text)) e =
    ap (λ (d : Constraint). said_kind d d.kind) (as_said c (record { kind = kinds.Check; columns = []; parent = None; text = text }) e)
stmt_said c (Some s) e = cc
stmt_said c None e = cc

said_so : (text : Bytes) (c : Constraint) → option_and_then constraint_value (statement_said text) ≡ Some (value.Constraint c) → constraint_said text ≡ said_kind c c.kind
unfolding constraint_said
said_so text c e = stmt_said c (statement_said text) e

stmt_checks : (text : Bytes) (o : Option Stmt) → option_and_then check_said o ≡ Some text → option_and_then said_by o ≡ Some (Check text)
stmt_checks text (Some (stmt.AddCheck q name said)) e = ap (λ (t : Bytes). Some (Check t)) (inside said text e)
stmt_checks text (Some s) e = cc
stmt_checks text None e = cc

check_so : (condef text : Bytes) → option_and_then check_said (statement_said condef) ≡ Some text → constraint_said condef ≡ Some (Check text)
unfolding constraint_said
check_so condef text e = stmt_checks text (statement_said condef) e

-- ---- tests

bad_so : (placed known agreed : Bool) → placed ≡ true → agreed ≡ true → (not placed || (known && not agreed)) ≡ false
bad_so true true true p a = refl
bad_so true false true p a = refl
bad_so placed known false p a = cc
bad_so false known true p a = cc

or_right : (a b : Bool) → b ≡ true → a || b ≡ true
or_right true b e = refl
or_right false b e = e

any_left : {A : Type 0} (test : A → Bool) (xs ys : List A) → list_any test xs ≡ true → list_any test (xs ++ ys) ≡ true
any_left test [] ys e = cc
any_left test (x ∷ xs) ys e = by (test x) (any_left test xs ys) e
  where
    by : (b : Bool) → (list_any test xs ≡ true → list_any test (xs ++ ys) ≡ true) → b || list_any test xs ≡ true → b || list_any test (xs ++ ys) ≡ true
    by true more h = refl
    by false more h = more h

any_right : {A : Type 0} (test : A → Bool) (xs ys : List A) → list_any test ys ≡ true → list_any test (xs ++ ys) ≡ true
any_right test [] ys e = e
any_right test (x ∷ xs) ys e = or_right (test x) (list_any test (xs ++ ys)) (any_right test xs ys e)

given_any : {R K : Type 0} (test : K → Bool) (key : R → Option K) (rows : List R) (row : R) (k : K) → IsIn row rows → key row ≡ Some k → test k ≡ true → list_any test (filter_map key rows) ≡ true
given_any test key [] row k among is passes = elim among [ ]
given_any {R = R} {K = K} test key (x ∷ rows) row k among is passes =
    by (λ later. given_any test key rows row k later is passes) among (key x) refl
  where
    by : (IsIn row rows → list_any test (filter_map key rows) ≡ true) → (x ≡ row) ⊎ IsIn row rows → (o : Option K) → key x ≡ o → list_any test (cons_option o (filter_map key rows)) ≡ true
    by more (inl same) None e =
        let none : None ≡ Some k = sym e ∙ ap key same ∙ is in
        cc
    by more (inl same) (Some j) e =
        let one : j ≡ k = inside j k (sym e ∙ ap key same ∙ is) in
        ap (λ (b : Bool). b || list_any test (filter_map key rows)) (ap test one ∙ passes)
    by more (inr later) None e = more later
    by more (inr later) (Some j) e = or_right (test j) (list_any test (filter_map key rows)) (more later)

primary_so : (kind : ConstraintKind) → letter_of kind == 112 ≡ true → kind ≡ kinds.Primary
primary_so kinds.Primary e = refl
primary_so kinds.Unique e = cc
primary_so kinds.Foreign e = cc
primary_so kinds.Check e = cc

letter_keyed : (kind : ConstraintKind) → trees.is_unique kind ≡ true → letter_of kind == 112 || letter_of kind == 117 ≡ true
letter_keyed kinds.Primary e = refl
letter_keyed kinds.Unique e = refl
letter_keyed kinds.Foreign e = cc
letter_keyed kinds.Check e = cc

rel_path : (p q : QName) → key.Rel p ≡ key.Rel q → p ≡ q
rel_path p q e = cc

key_said : (c : Constraint) (kind : ConstraintKind) → trees.is_unique kind ≡ true → option_and_then key_columns (said_kind c kind) ≡ Some c.columns
key_said c kinds.Primary e = refl
key_said c kinds.Unique e = refl
key_said c kinds.Foreign e = cc
key_said c kinds.Check e = cc

module _ (texts : Texts) (named : Named) (sound : IsSound texts named) (oids : ObjectOids) (own : AreOids named oids.of) (numbers : AreNumbers named oids.number) (checks : AreCheckOids named oids) (cat : Catalogue) (led : AreLedTo named oids.of cat) (have : HaveOwn named oids cat) where
  -- what is known of a constraint
  table : (t : NamedConstraint) → IsConstraint named t → IsMet named (key.Rel t.table, Asked.has_columns t.constraint.columns)
  table t is = (sound.each (key.Con t.table t.name) (value.Constraint t.constraint) is).others.0

  no_zero : (q : QName) (v : Value) → get named (key.Rel q) ≡ Some v → oids.of (key.Rel q) ≡ 0 → ⊥
  no_zero q v is zero = true≢false (ap is_no_oid (sym zero) ∙ own.some (key.Rel q) v is refl)

  -- ---- what is distinct

  same_check : (t s : NamedCheck) → IsCheck named t → IsCheck named s → t.path ≡ s.path → t.name ≡ s.name → t ≡ s
  same_check t s is_t is_s paths names =
      let values : Some (value.Domain t.domain) ≡ Some (value.Domain s.domain) = sym is_t.there ∙ ap (λ (q : QName). get named (key.UserType q)) paths ∙ is_s.there in
      let domains : t.domain ≡ s.domain = cc in
      let both : Some t.text ≡ Some s.text = sym is_t.at ∙ (λ i. get (domains i).checks (names i)) ∙ is_s.at in
      let words : t.text ≡ s.text = inside t.text s.text both in
      λ i. record { path = paths i; domain = domains i; name = names i; text = words i }

  one_constraint : (t s : NamedConstraint) → IsConstraint named t → IsConstraint named s → key.Con t.table t.name ≡ key.Con s.table s.name → of_table t ≡ of_table s
  one_constraint t s is_t is_s keys = ap of_table (same_constraint texts named sound oids own cat led have.constraints t s is_t is_s keys)

  by_oid : (t s : Constrained) (a b : ConstraintRow) → IsConstrained named t → IsConstrained named s → IsConstrainedRow oids t a → IsConstrainedRow oids s b → a.oid ≡ b.oid → t ≡ s
  by_oid (of_table t) (of_table s) a b is_t is_s at_a at_b same =
      let keys : key.Con t.table t.name ≡ key.Con s.table s.name = own.apart (key.Con t.table t.name) (key.Con s.table s.name) (value.Constraint t.constraint) (value.Constraint s.constraint) is_t is_s refl refl refl (sym at_a.oid ∙ same ∙ at_b.oid) in
      one_constraint t s is_t is_s keys
  by_oid (of_table t) (of_domain s) a b is_t is_s at_a at_b same = absurd (checks.of_no_table s.path s.domain s.name s.text t.table t.name (value.Constraint t.constraint) is_s.there is_s.at is_t (sym at_b.oid ∙ sym same ∙ at_a.oid))
  by_oid (of_domain t) (of_table s) a b is_t is_s at_a at_b same = absurd (checks.of_no_table t.path t.domain t.name t.text s.table s.name (value.Constraint s.constraint) is_t.there is_t.at is_s (sym at_a.oid ∙ same ∙ at_b.oid))
  by_oid (of_domain t) (of_domain s) a b is_t is_s at_a at_b same =
      let both = checks.apart t.path s.path t.domain s.domain t.name s.name t.text s.text is_t.there is_s.there is_t.at is_s.at (sym at_a.oid ∙ same ∙ at_b.oid) in
      ap of_domain (same_check t s is_t is_s both.0 both.1)

  same_key : (t s : Constrained) (a b : ConstraintRow) (k l : ℕ) → IsConstrained named t → IsConstrained named s → IsConstrainedRow oids t a → IsConstrainedRow oids s b → Some a.oid ≡ Some k → Some b.oid ≡ Some l → eq_by_cmp nat_cmp l k ≡ true → t ≡ s
  same_key t s a b k l is_t is_s at_a at_b is_k is_l ties = by_oid t s a b is_t is_s at_a at_b (one_oid a.oid b.oid k l is_k is_l ties)

  by_name : (t s : Constrained) (a b : ConstraintRow) → IsConstrained named t → IsConstrained named s → IsConstrainedRow oids t a → IsConstrainedRow oids s b → a.conrelid ≡ b.conrelid → a.contypid ≡ b.contypid → a.conname ≡ b.conname → t ≡ s
  by_name (of_table t) (of_table s) a b is_t is_s at_a at_b relations domains names =
      let one = table_met named t.table t.constraint.columns (table t is_t) in
      let two = table_met named s.table s.constraint.columns (table s is_s) in
      let tables : key.Rel t.table ≡ key.Rel s.table = own.apart (key.Rel t.table) (key.Rel s.table) (value.Table one.0) (value.Table two.0) one.1 two.1 refl refl refl (sym at_a.table ∙ relations ∙ at_b.table) in
      let paths : t.table ≡ s.table = cc in
      let words : t.name ≡ s.name = sym at_a.name ∙ names ∙ at_b.name in
      one_constraint t s is_t is_s (λ i. key.Con (paths i) (words i))
  by_name (of_table t) (of_domain s) a b is_t is_s at_a at_b relations domains names =
      let one = table_met named t.table t.constraint.columns (table t is_t) in
      absurd (no_zero t.table (value.Table one.0) one.1 (sym at_a.table ∙ relations ∙ at_b.no_table))
  by_name (of_domain t) (of_table s) a b is_t is_s at_a at_b relations domains names =
      let two = table_met named s.table s.constraint.columns (table s is_s) in
      absurd (no_zero s.table (value.Table two.0) two.1 (sym at_b.table ∙ sym relations ∙ at_a.no_table))
  by_name (of_domain t) (of_domain s) a b is_t is_s at_a at_b relations domains names =
      let types : key.UserType t.path ≡ key.UserType s.path = own.apart (key.UserType t.path) (key.UserType s.path) (value.Domain t.domain) (value.Domain s.domain) is_t.there is_s.there refl refl refl (sym at_a.domain ∙ domains ∙ at_b.domain) in
      let paths : t.path ≡ s.path = cc in
      ap of_domain (same_check t s is_t is_s paths (sym at_a.name ∙ names ∙ at_b.name))

  same_name : (t s : Constrained) (a b : ConstraintRow) (k l : RowName) → IsConstrained named t → IsConstrained named s → IsConstrainedRow oids t a → IsConstrainedRow oids s b → Some (a.conrelid, a.contypid, pos 0, a.conname) ≡ Some k → Some (b.conrelid, b.contypid, pos 0, b.conname) ≡ Some l → eq_by_cmp name_cmp l k ≡ true → t ≡ s
  same_name t s a b k l is_t is_s at_a at_b is_k is_l ties =
      let names : l ≡ k = tie name_cmp-IsAntisymmetric l k ties in
      let first : (a.conrelid, a.contypid, pos 0, a.conname) ≡ k = ap (λ (o : Option RowName). unwrap_or o k) is_k in
      let second : (b.conrelid, b.contypid, pos 0, b.conname) ≡ l = ap (λ (o : Option RowName). unwrap_or o l) is_l in
      let all = first ∙ sym names ∙ sym second in
      by_name t s a b is_t is_s at_a at_b (ap (λ (n : RowName). n.0) all) (ap (λ (n : RowName). n.1) all) (ap (λ (n : RowName). n.3) all)

  -- ---- what is there

  abbrev index_test : ℕ → ℕ → Bool
  index_test letter oid = if letter == 112 || letter == 117 then is_index (kind_of cat.pg_class oid) else (is_no_oid oid || is_index (kind_of cat.pg_class oid))

  abbrev parent_test : ℕ → ℕ → Bool
  parent_test letter oid = if letter == 102 then is_table (kind_of cat.pg_class oid) else (is_no_oid oid || is_table (kind_of cat.pg_class oid))

  its_index : (t : NamedConstraint) → IsConstraint named t → trees.is_unique t.constraint.kind ≡ true → get named (key.Rel (index_path t.table t.name)) ≡ Some (value.IndexOf t.table)
  its_index t is keyed = index_at texts named sound (index_path t.table t.name) t.table (key_index texts named sound t.table t.name t.constraint is keyed)

  index_there : (t : NamedConstraint) → IsConstraint named t → (kind : ConstraintKind) → t.constraint.kind ≡ kind → index_test (letter_of kind) (index_of oids.of t kind) ≡ true
  index_there t is kinds.Primary e = ap is_index (kind_found texts named sound oids.of own cat led (index_path t.table t.name) (value.IndexOf t.table) (its_index t is (ap trees.is_unique e)))
  index_there t is kinds.Unique e = ap is_index (kind_found texts named sound oids.of own cat led (index_path t.table t.name) (value.IndexOf t.table) (its_index t is (ap trees.is_unique e)))
  index_there t is kinds.Foreign e = refl
  index_there t is kinds.Check e = refl

  -- the parent of a foreign key
  record Parent (t : NamedConstraint) : Type 0 where
    path : QName
    names : List Bytes
    is : t.constraint.parent ≡ Some (path, names)
    met : IsMet named (key.Rel path, Asked.has_columns names)
    same : length t.constraint.columns == length names ≡ true

  parent_of : (t : NamedConstraint) → IsConstraint named t → t.constraint.kind ≡ kinds.Foreign → Parent t
  parent_of t is e = by t.constraint.parent refl
    where
      at : IsOfKind t.constraint kinds.Foreign
      at = subst (IsOfKind t.constraint) e (sound.each (key.Con t.table t.name) (value.Constraint t.constraint) is).own.kind

      by : (o : Option (QName × List Bytes)) → t.constraint.parent ≡ o → Parent t
      by None none = absurd (subst (HasParent t.constraint.columns) none at)
      by (Some (path, names)) some =
          let others = (sound.each (key.Con t.table t.name) (value.Constraint t.constraint) is).others in
          let asked = (rw (e, some) at others).1.0 in
          record { path = path; names = names; is = some; met = asked; same = subst (HasParent t.constraint.columns) some at }

  no_parent : (t : NamedConstraint) → IsConstraint named t → (kind : ConstraintKind) → t.constraint.kind ≡ kind → (kind ≡ kinds.Foreign → ⊥) → t.constraint.parent ≡ None
  no_parent t is kinds.Primary e other = subst (IsOfKind t.constraint) e (sound.each (key.Con t.table t.name) (value.Constraint t.constraint) is).own.kind
  no_parent t is kinds.Unique e other = subst (IsOfKind t.constraint) e (sound.each (key.Con t.table t.name) (value.Constraint t.constraint) is).own.kind
  no_parent t is kinds.Foreign e other = absurd (other refl)
  no_parent t is kinds.Check e other = (subst (IsOfKind t.constraint) e (sound.each (key.Con t.table t.name) (value.Constraint t.constraint) is).own.kind).0

  parent_there : (t : NamedConstraint) → IsConstraint named t → (kind : ConstraintKind) → t.constraint.kind ≡ kind → parent_test (letter_of kind) (parent_oid oids.of t.constraint.parent) ≡ true
  parent_there t is kinds.Primary e = ap (λ (o : Option (QName × List Bytes)). parent_test 112 (parent_oid oids.of o)) (no_parent t is kinds.Primary e (λ x. cc))
  parent_there t is kinds.Unique e = ap (λ (o : Option (QName × List Bytes)). parent_test 117 (parent_oid oids.of o)) (no_parent t is kinds.Unique e (λ x. cc))
  parent_there t is kinds.Check e = ap (λ (o : Option (QName × List Bytes)). parent_test 99 (parent_oid oids.of o)) (no_parent t is kinds.Check e (λ x. cc))
  parent_there t is kinds.Foreign e =
      let p = parent_of t is e in
      let at = table_met named p.path p.names p.met in
      ap (λ (o : Option (QName × List Bytes)). parent_test 102 (parent_oid oids.of o)) p.is ∙ ap is_table (kind_found texts named sound oids.of own cat led p.path (value.Table at.0) at.1)

  there : (t : Constrained) (row : ConstraintRow) → IsConstrained named t → IsConstrainedRow oids t row → is_there cat row ≡ true
  there (of_table t) row is at =
      let one = table_met named t.table t.constraint.columns (table t is) in
      let relation : is_table_or_none cat row.conrelid ≡ true = ap (is_table_or_none cat) at.table ∙ or_right (is_no_oid (oids.of (key.Rel t.table))) (is_table (kind_of cat.pg_class (oids.of (key.Rel t.table)))) (ap is_table (kind_found texts named sound oids.of own cat led t.table (value.Table one.0) one.1)) in
      let domain : is_domain_or_none cat row.contypid ≡ true = ap (is_domain_or_none cat) at.no_domain in
      let index : is_index_there cat row ≡ true = (λ i. index_test (at.letter i) (at.index i)) ∙ index_there t is t.constraint.kind refl in
      let parent : is_parent_there cat row ≡ true = (λ i. parent_test (at.letter i) (at.parent i)) ∙ parent_there t is t.constraint.kind refl in
      rw (relation, domain, index, parent) refl
  there (of_domain t) row is at =
      let found = type_found texts named sound oids.of own cat led t.path (value.Domain t.domain) is.there in
      let relation : is_table_or_none cat row.conrelid ≡ true = ap (is_table_or_none cat) at.no_table in
      let domain : is_domain_or_none cat row.contypid ≡ true = ap (is_domain_or_none cat) at.domain ∙ or_right (is_no_oid (oids.of (key.UserType t.path))) (is_domain_row (type_of cat.pg_type (oids.of (key.UserType t.path)))) (ap is_domain_row found.found ∙ ap is_domain_letter found.kind.letter) in
      let index : is_index_there cat row ≡ true = (λ i. index_test (at.letter i) (at.no_index i)) in
      let parent : is_parent_there cat row ≡ true = (λ i. parent_test (at.letter i) (at.no_parent i)) in
      rw (relation, domain, index, parent) refl

  -- ---- keys, one by one

  -- the constraint of a key's row
  record KeyOf (r : ConstraintRow) : Type 0 where
    key_of : NamedConstraint
    is : IsConstraint named key_of
    says : IsConstraintRow oids.of key_of r
    keyed : trees.is_unique key_of.constraint.kind ≡ true

  key_thing : (r : ConstraintRow) → IsIn r cat.pg_constraint → is_key r ≡ true → KeyOf r
  key_thing r among keyed = let one = have.constraints.only r (in_place cat.pg_constraint r among) in by one.0 one.1 one.2
    where
      by : (c : Constrained) → IsConstrained named c → IsConstrainedRow oids c r → KeyOf r
      by (of_table c) is says = record { key_of = c; is = is; says = says; keyed = keyed_so c.constraint.kind (ap (λ (n : ℕ). n == 112 || n == 117) (sym says.letter) ∙ keyed) }
      by (of_domain c) is says = absurd (true≢false (sym keyed ∙ ap (λ (n : ℕ). n == 112 || n == 117) says.letter))

  index_once : (oid : ℕ) → nat_le (count_of (key_indexes cat) oid) 1 ≡ true
  index_once oid =
      once_counted (λ (c : ConstraintRow). c.conindid) oid (filter is_key cat.pg_constraint)
      (pairs_filter (λ (a b : ConstraintRow). oid ≡ a.conindid → oid ≡ b.conindid → ⊥) is_key cat.pg_constraint
      (pairs_of (λ (a b : ConstraintRow). is_key a ≡ true → is_key b ≡ true → oid ≡ a.conindid → oid ≡ b.conindid → ⊥) cat.pg_constraint two))
    where
      two : (i j : ℕ) (a b : ConstraintRow) → i < j → slice_get cat.pg_constraint i ≡ Some a → slice_get cat.pg_constraint j ≡ Some b → is_key a ≡ true → is_key b ≡ true → oid ≡ a.conindid → oid ≡ b.conindid → ⊥
      two i j a b below at_a at_b key_a key_b same_a same_b =
          let c = key_thing a (place_in cat.pg_constraint i a at_a) key_a in
          let d = key_thing b (place_in cat.pg_constraint j b at_b) key_b in
          let first : a.conindid ≡ oids.of (key.Rel (index_path c.key_of.table c.key_of.name)) = c.says.index ∙ index_so c.key_of oids.of c.key_of.constraint.kind c.keyed in
          let second : b.conindid ≡ oids.of (key.Rel (index_path d.key_of.table d.key_of.name)) = d.says.index ∙ index_so d.key_of oids.of d.key_of.constraint.kind d.keyed in
          let keys : key.Rel (index_path c.key_of.table c.key_of.name) ≡ key.Rel (index_path d.key_of.table d.key_of.name) = own.apart (key.Rel (index_path c.key_of.table c.key_of.name)) (key.Rel (index_path d.key_of.table d.key_of.name)) (value.IndexOf c.key_of.table) (value.IndexOf d.key_of.table) (its_index c.key_of c.is c.keyed) (its_index d.key_of d.is d.keyed) refl refl refl (sym first ∙ sym same_a ∙ same_b ∙ second) in
          let both = one_key texts named sound c.key_of.table d.key_of.table c.key_of.name d.key_of.name c.key_of.constraint d.key_of.constraint c.is c.keyed d.is d.keyed (rel_path (index_path c.key_of.table c.key_of.name) (index_path d.key_of.table d.key_of.name) keys) in
          let things : of_table d.key_of ≡ of_table c.key_of = one_constraint d.key_of c.key_of d.is c.is (λ k. key.Con (sym both.0 k) (sym both.1 k)) in
          have.constraints.once i j a b (of_table c.key_of) below at_a at_b c.says (subst (λ (x : Constrained). IsConstrainedRow oids x b) things d.says)

  primary_once : (oid : ℕ) → nat_le (count_of (primary_tables cat) oid) 1 ≡ true
  primary_once oid =
      once_counted (λ (c : ConstraintRow). c.conrelid) oid (filter is_primary cat.pg_constraint)
      (pairs_filter (λ (a b : ConstraintRow). oid ≡ a.conrelid → oid ≡ b.conrelid → ⊥) is_primary cat.pg_constraint
      (pairs_of (λ (a b : ConstraintRow). is_primary a ≡ true → is_primary b ≡ true → oid ≡ a.conrelid → oid ≡ b.conrelid → ⊥) cat.pg_constraint two))
    where
      to_key : (r : ConstraintRow) → is_primary r ≡ true → is_key r ≡ true
      to_key r e = ap (λ (b : Bool). b || r.contype == 117) e

      primary_at : (r : ConstraintRow) (c : KeyOf r) → is_primary r ≡ true → is_primary_at (get named (key.Con c.key_of.table c.key_of.name)) ≡ true
      primary_at r c e =
          let kind : c.key_of.constraint.kind ≡ kinds.Primary = primary_so c.key_of.constraint.kind (ap (λ (n : ℕ). n == 112) (sym c.says.letter) ∙ e) in
          ap is_primary_at c.is ∙ ap trees.is_primary kind

      two : (i j : ℕ) (a b : ConstraintRow) → i < j → slice_get cat.pg_constraint i ≡ Some a → slice_get cat.pg_constraint j ≡ Some b → is_primary a ≡ true → is_primary b ≡ true → oid ≡ a.conrelid → oid ≡ b.conrelid → ⊥
      two i j a b below at_a at_b key_a key_b same_a same_b =
          let c = key_thing a (place_in cat.pg_constraint i a at_a) (to_key a key_a) in
          let d = key_thing b (place_in cat.pg_constraint j b at_b) (to_key b key_b) in
          let one = table_met named c.key_of.table c.key_of.constraint.columns (table c.key_of c.is) in
          let other = table_met named d.key_of.table d.key_of.constraint.columns (table d.key_of d.is) in
          let keys : key.Rel c.key_of.table ≡ key.Rel d.key_of.table = own.apart (key.Rel c.key_of.table) (key.Rel d.key_of.table) (value.Table one.0) (value.Table other.0) one.1 other.1 refl refl refl (sym c.says.table ∙ sym same_a ∙ same_b ∙ d.says.table) in
          let tables : c.key_of.table ≡ d.key_of.table = rel_path c.key_of.table d.key_of.table keys in
          let names : c.key_of.name ≡ d.key_of.name = sound.beside.primaries c.key_of.table c.key_of.name d.key_of.name (primary_at a c key_a) (ap (λ (q : QName). is_primary_at (get named (key.Con q d.key_of.name))) tables ∙ primary_at b d key_b) in
          let things : of_table d.key_of ≡ of_table c.key_of = one_constraint d.key_of c.key_of d.is c.is (λ k. key.Con (sym tables k) (sym names k)) in
          have.constraints.once i j a b (of_table c.key_of) below at_a at_b c.says (subst (λ (x : Constrained). IsConstrainedRow oids x b) things d.says)

  -- ---- what the text says agrees with the rows

  relation_path : (t : NamedConstraint) (row : ConstraintRow) → IsConstraint named t → IsConstraintRow oids.of t row → class_path_of cat row.conrelid ≡ Some t.table
  relation_path t row is at =
      let one = table_met named t.table t.constraint.columns (table t is) in
      ap (class_path_of cat) at.table ∙ class_path_found texts named sound oids.of own cat led t.table (value.Table one.0) one.1

  columns_there : (t : NamedConstraint) (row : ConstraintRow) → IsConstraint named t → IsConstraintRow oids.of t row → are_columns cat row.conrelid (Some t.constraint.columns) ≡ true
  columns_there t row is at = ap (λ (n : ℕ). are_columns cat n (Some t.constraint.columns)) at.table ∙ are_columns_found texts named sound oids own numbers cat led have.columns t.table t.constraint.columns (table t is)

  good_key : (t : NamedConstraint) (row : ConstraintRow) → IsConstraint named t → IsConstraintRow oids.of t row → trees.is_unique t.constraint.kind ≡ true → is_good_key cat row t.constraint.columns ≡ true
  good_key t row is at keyed =
      let index : class_path_of cat row.conindid ≡ Some (index_path t.table t.name) = ap (class_path_of cat) (at.index ∙ index_so t oids.of t.constraint.kind keyed) ∙ class_path_found texts named sound oids.of own cat led (index_path t.table t.name) (value.IndexOf t.table) (its_index t is keyed) in
      let path : has_index_path (class_path_of cat row.conrelid) (class_path_of cat row.conindid) row.conname ≡ true = (λ i. has_index_path (relation_path t row is at i) (index i) (at.name i)) ∙ same_path-self (index_path t.table t.name) in
      rw (columns_there t row is at, path, index_once row.conindid) refl

  abbrev key_on : QName → List Bytes → ℕ × List Bytes → Bool
  key_on q names k = same_oid (oids.of (key.Rel q)) k.0 && same_set names k.1

  -- the parent has a key on its columns
  has_key : (q : QName) (names : List Bytes) → HasKey named q names → has_key_on cat (oids.of (key.Rel q)) names ≡ true
  has_key q names (k, v, is, of) = by k v is of
    where
      of_constraint : (p : QName) (n : Bytes) (c : Constraint) → get named (key.Con p n) ≡ Some (value.Constraint c) → same_path q p && (trees.is_unique c.kind && same_set names c.columns) ≡ true → has_key_on cat (oids.of (key.Rel q)) names ≡ true
      of_constraint p n c is of =
          let path : q ≡ p = same_path-equal q p (first_so (same_path q p) (trees.is_unique c.kind && same_set names c.columns) of) in
          let rest = second_so (same_path q p) (trees.is_unique c.kind && same_set names c.columns) of in
          let keyed : trees.is_unique c.kind ≡ true = first_so (trees.is_unique c.kind) (same_set names c.columns) rest in
          let sets : same_set names c.columns ≡ true = second_so (trees.is_unique c.kind) (same_set names c.columns) rest in
          let at = have.constraints.each (of_table (record { table = p; name = n; constraint = c })) is in
          let of_key : is_key at.0 ≡ true = ap (λ (x : ℕ). x == 112 || x == 117) at.2.letter ∙ letter_keyed c.kind keyed in
          let said : option_and_then key_columns (constraint_said at.0.condef) ≡ Some c.columns = ap (option_and_then key_columns) (said_so at.0.condef c at.2.said) ∙ key_said c c.kind keyed in
          let given : key_of_constraint at.0 ≡ Some (at.0.conrelid, c.columns) = rw (of_key, said) refl in
          let ties : same_oid (oids.of (key.Rel q)) at.0.conrelid ≡ true = has_tie (oids.of (key.Rel q)) at.0.conrelid (ap (λ (x : QName). oids.of (key.Rel x)) path ∙ sym at.2.table) in
          any_left (key_on q names) (filter_map key_of_constraint cat.pg_constraint) (filter_map key_of_index cat.pg_index)
          (given_any (key_on q names) key_of_constraint cat.pg_constraint at.0 (at.0.conrelid, c.columns) (among_in cat.pg_constraint at.0 at.1) given (rw (ties, sets) refl))

      of_index : (p : QName) (n : Bytes) (i : Index) → get named (key.Index p n) ≡ Some (value.Index i) → (o : Option (List Bytes)) → unique_on i ≡ o → same_path q p && is_on names o ≡ true → has_key_on cat (oids.of (key.Rel q)) names ≡ true
      of_index p n i is None at_o of = absurd (true≢false (sym (second_so (same_path q p) false of)))
      of_index p n i is (Some columns) at_o of =
          let path : q ≡ p = same_path-equal q p (first_so (same_path q p) (same_set names columns) of) in
          let sets : same_set names columns ≡ true = second_so (same_path q p) (same_set names columns) of in
          let at = have.indexes.each (record { table = p; name = n; index = i }) is in
          let said : option_and_then unique_columns (index_said at.0.indexdef) ≡ Some columns = ap (option_and_then unique_columns) at.2.said ∙ at_o in
          let given : key_of_index at.0 ≡ Some (at.0.indrelid, columns) = rw said refl in
          let ties : same_oid (oids.of (key.Rel q)) at.0.indrelid ≡ true = has_tie (oids.of (key.Rel q)) at.0.indrelid (ap (λ (x : QName). oids.of (key.Rel x)) path ∙ sym at.2.table) in
          any_right (key_on q names) (filter_map key_of_constraint cat.pg_constraint) (filter_map key_of_index cat.pg_index)
          (given_any (key_on q names) key_of_index cat.pg_index at.0 (at.0.indrelid, columns) (among_in cat.pg_index at.0 at.1) given (rw (ties, sets) refl))

      by : (k : Key) (v : Value) → get named k ≡ Some v → of_class (class.KeysOn q names) k v ≡ true → has_key_on cat (oids.of (key.Rel q)) names ≡ true
      by (key.Con p n) (value.Constraint c) is of = of_constraint p n c is of
      by (key.Index p n) (value.Index i) is of = of_index p n i is (unique_on i) refl of
      by k v is of = cc

  agreeing : (t : NamedConstraint) (row : ConstraintRow) → IsConstraint named t → IsConstraintRow oids.of t row → (kind : ConstraintKind) → t.constraint.kind ≡ kind → agrees_if_said cat row (said_kind t.constraint kind) ≡ true
  agreeing t row is at kinds.Primary e =
      let letter : is_primary row ≡ true = ap (λ (n : ℕ). n == 112) (at.letter ∙ ap letter_of e) in
      rw (letter, good_key t row is at (ap trees.is_unique e), primary_once row.conrelid) refl
  agreeing t row is at kinds.Unique e =
      let letter : row.contype == 117 ≡ true = ap (λ (n : ℕ). n == 117) (at.letter ∙ ap letter_of e) in
      rw (letter, good_key t row is at (ap trees.is_unique e)) refl
  agreeing t row is at kinds.Foreign e =
      let p = parent_of t is e in
      let of_parent = table_met named p.path p.names p.met in
      let letter : row.contype == 102 ≡ true = ap (λ (n : ℕ). n == 102) (at.letter ∙ ap letter_of e) in
      let oid : row.confrelid ≡ oids.of (key.Rel p.path) = at.parent ∙ ap (parent_oid oids.of) p.is in
      let path : class_path_of cat row.confrelid ≡ Some p.path = ap (class_path_of cat) oid ∙ class_path_found texts named sound oids.of own cat led p.path (value.Table of_parent.0) of_parent.1 in
      let parent_columns : are_columns cat row.confrelid (Some p.names) ≡ true = ap (λ (n : ℕ). are_columns cat n (Some p.names)) oid ∙ are_columns_found texts named sound oids own numbers cat led have.columns p.path p.names p.met in
      let keys : has_key_on cat row.confrelid p.names ≡ true = ap (λ (n : ℕ). has_key_on cat n p.names) oid ∙ has_key p.path p.names (sound.beside.parents t.table t.name t.constraint p.path p.names is p.is) in
      ap (λ (o : Option (QName × List Bytes)). agrees_if_said cat row (option_map (λ x. Foreign t.constraint.columns x.0 x.1) o)) p.is
      ∙ rw (letter, path, same_path-self p.path, columns_there t row is at, parent_columns, p.same, keys) refl
  agreeing t row is at kinds.Check e =
      let letter : row.contype == 99 ≡ true = ap (λ (n : ℕ). n == 99) (at.letter ∙ ap letter_of e) in
      let others = (sound.each (key.Con t.table t.name) (value.Constraint t.constraint) is).others in
      let met : are_met cat None t.constraint.text ≡ true = references_met texts named sound oids.of own cat led (expression_references t.constraint.text) (rw e at others).1 in
      rw (letter, met) refl

  -- what a check of a domain refers to is there
  check_met : (t : NamedCheck) → IsCheck named t → are_met cat None t.text ≡ true
  check_met t is =
      let at = sound.each (key.UserType t.path) (value.Domain t.domain) is.there in
      let all = all-back (IsMet named) (type_asks t.domain.base t.domain.resolved ++ all_there (default_references t.domain.default)) (flat_map (λ e. all_there (expression_references e.1)) (entries t.domain.checks)) at.others.1.1.1 in
      references_met texts named sound oids.of own cat led (expression_references t.text)
      (of_member (λ (e : Bytes × Bytes). AllByRecursion (IsMet named) (all_there (expression_references e.1))) (entries t.domain.checks) (flat-all (IsMet named) (λ (e : Bytes × Bytes). all_there (expression_references e.1)) (entries t.domain.checks) all) (t.name, t.text) (entry_of nat_list_cmp_total bytes_cmp-IsAntisymmetric t.domain.checks t.name t.text is.at))

  good : (t : Constrained) (row : ConstraintRow) → IsConstrained named t → IsConstrainedRow oids t row → is_bad_constraint cat row ≡ false
  good (of_table t) row is at =
      let one = table_met named t.table t.constraint.columns (table t is) in
      let placed : is_placed row ≡ true = (λ i. if is_no_oid (at.no_domain i) then not (is_no_oid (at.table i)) else (is_no_oid (at.table i) && row.contype == 99)) ∙ ap not (own.some (key.Rel t.table) (value.Table one.0) one.1 refl) in
      let agreed : agrees_if_said cat row (constraint_said row.condef) ≡ true = ap (agrees_if_said cat row) (said_so row.condef t.constraint at.said) ∙ agreeing t row is at t.constraint.kind refl in
      bad_so (is_placed row) (is_known row) (agrees_if_said cat row (constraint_said row.condef)) placed agreed
  good (of_domain t) row is at =
      let nonzero : is_no_oid (oids.of (key.UserType t.path)) ≡ false = own.some (key.UserType t.path) (value.Domain t.domain) is.there refl in
      let placed : is_placed row ≡ true = (λ i. if is_no_oid (at.domain i) then not (is_no_oid (at.no_table i)) else (is_no_oid (at.no_table i) && at.letter i == 99)) ∙ rw nonzero refl in
      let letter : row.contype == 99 ≡ true = ap (λ (n : ℕ). n == 99) at.letter in
      let agreed : agrees_if_said cat row (constraint_said row.condef) ≡ true = ap (agrees_if_said cat row) (check_so row.condef t.text at.said) ∙ rw (letter, check_met t is) refl in
      bad_so (is_placed row) (is_known row) (agrees_if_said cat row (constraint_said row.condef)) placed agreed

  abbrev out_by : ℕ → Option What
  out_by n = if (n == 112 || n == 117) || (n == 102 || n == 99) then None else Some (what.ConstraintKind n)

  known : (kind : ConstraintKind) → out_by (letter_of kind) ≡ None
  known kinds.Primary = refl
  known kinds.Unique = refl
  known kinds.Foreign = refl
  known kinds.Check = refl

  inside_at : (t : Constrained) (row : ConstraintRow) → IsConstrained named t → IsConstrainedRow oids t row → constraint_left_out row ≡ None
  inside_at (of_table t) row is at = ap out_by at.letter ∙ known t.constraint.kind
  inside_at (of_domain t) row is at = ap out_by at.letter

  some_oid : (t : Constrained) (row : ConstraintRow) → IsConstrained named t → IsConstrainedRow oids t row → is_no_oid row.oid ≡ false
  some_oid (of_table t) row is at = ap is_no_oid at.oid ∙ own.some (key.Con t.table t.name) (value.Constraint t.constraint) is refl
  some_oid (of_domain t) row is at = ap is_no_oid at.oid ∙ checks.some t.path t.domain t.name t.text is.there is.at

  pub constraints_meet : Meets constraint_rules cat cat.pg_constraint
  constraints_meet = record {
    oids = distinct_keys (IsConstrained named) (IsConstrainedRow oids) cat.pg_constraint have.constraints nat_cmp (λ r. Some r.oid) same_key;
    names = distinct_keys (IsConstrained named) (IsConstrainedRow oids) cat.pg_constraint have.constraints name_cmp (λ r. Some (r.conrelid, r.contypid, pos 0, r.conname)) same_name;
    places = no_keys place_cmp cat.pg_constraint;
    marks = no_marks cat.pg_constraint;
    objects = each_row (IsConstrained named) (IsConstrainedRow oids) cat.pg_constraint have.constraints (λ row. is_no_oid row.oid ≡ false) some_oid;
    there = each_row (IsConstrained named) (IsConstrainedRow oids) cat.pg_constraint have.constraints (λ row. not (is_there cat row) ≡ false) (λ t row is at. ap not (there t row is at));
    texts = each_row (IsConstrained named) (IsConstrainedRow oids) cat.pg_constraint have.constraints (λ row. is_bad_constraint cat row ≡ false) good;
    inside = each_row (IsConstrained named) (IsConstrainedRow oids) cat.pg_constraint have.constraints (λ row. constraint_left_out row ≡ None) inside_at;
    needed = refl;
  }
