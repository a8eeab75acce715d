-- Who asks what: nobody asks for a comment, and that an owner has another name is asked by the grants on its object.
use Rattle.std.proofs.Common.{◌≡◌, Bool, true, false, ◌&&◌, List, [], ◌∷◌, ◌++◌, Option, Some, None, refl, if◌then◌else◌}
use Rattle.std.specs.FinMap.{entries}
use Rattle.std.specs.List.{AllByRecursion, flat_map}
use Rattle.cat_model.specs.declared.object.QName.{QName}
use Rattle.cat_model.specs.declared.object.Object.{Object}
use Rattle.cat_model.specs.declared.object.Object.TheVariants as object
use Rattle.cat_model.specs.declared.key.Key.{Key}
use Rattle.cat_model.specs.declared.key.Key.TheVariants as key
use Rattle.cat_model.specs.declared.constraint.ConstraintKind.{ConstraintKind}
use Rattle.cat_model.specs.declared.constraint.ConstraintKind.TheVariants as kinds
use Rattle.cat_model.specs.declared.type_name.TypeName.{TypeName}
use Rattle.cat_model.specs.declared.type_name.TypeName.TheVariants.{Words, Path}
use Rattle.cat_model.specs.declared.value.Value.TheVariants as value
use Rattle.cat_model.specs.declared.value.Value.{Value}
use Rattle.cat_model.specs.declared.holder.Holder.{Holder}
use Rattle.cat_model.specs.declared.holder.Item.{Item}
use Rattle.cat_model.specs.declared.value.Column.{Column}
use Rattle.cat_model.specs.declared.value.Resolved.{Resolved}
use Rattle.cat_model.specs.declared.value.Constraint.{Constraint}
use Rattle.cat_model.specs.declared.value.Domain.{Domain}
use Rattle.cat_model.specs.declared.holder.Holder.TheVariants.{Owner as OWNER, Public as PUBLIC, Role as ROLE}
use Rattle.cat_model.specs.Values.{Bytes}
use Rattle.cat_model.specs.Lexemes.{Lexeme, lexemes}
use Rattle.cat_model.specs.References.{is_system, expression_references, view_references, reference, cast_references, references_in, references_from, relation_named, type_named, relation_here, is_relation, place_after, start, Place}
use Rattle.cat_model.specs.TypeEffects.{default_references}
use Rattle.cat_sound.specs.Asked.{Asked}
use Rattle.cat_sound.specs.Asks.{Ask, asks, all_there, made_asks, type_asks, domain_asks, own_type_asks, column_asks, relation_asks, parent_asks, kind_asks, object_key, holder_asks, comment_asks}
use Rattle.cat_sound.specs.Sound.{is_comment}
use Rattle.cat_sound.proofs.Lists.{all-append, all-flat, of_each}

-- ---- references

-- relations and types
abbrev pub is_named : Key → Bool
is_named (key.Rel q) = true
is_named (key.UserType q) = true
is_named _ = false

abbrev AreNamed : List Key → Type 0
AreNamed keys = AllByRecursion (λ k. is_named k ≡ true) keys

of_relation : (o : Option QName) → AreNamed (reference key.Rel o)
of_relation None = tt
of_relation (Some q) = (refl, tt)

of_type : (o : Option QName) → AreNamed (reference key.UserType o)
of_type None = tt
of_type (Some q) = (refl, tt)

of_cast : (x : Lexeme) (rest : List Lexeme) → AreNamed (cast_references x rest)
of_cast x rest = all-append (λ k. is_named k ≡ true) (reference key.Rel (relation_named x rest)) (reference key.UserType (type_named x rest)) (of_relation (relation_named x rest)) (of_type (type_named x rest))

of_lexemes : (xs : List Lexeme) → AreNamed (references_in xs)
of_lexemes [] = tt
of_lexemes (x ∷ rest) = all-append (λ k. is_named k ≡ true) (cast_references x rest) (references_in rest) (of_cast x rest) (of_lexemes rest)

pub expression_named : (text : Bytes) → AllByRecursion (λ k. is_named k ≡ true) (expression_references text)
unfolding expression_references
expression_named text = of_lexemes (lexemes text)

abbrev here : Place → Lexeme → List Lexeme → Option QName
here at x rest = relation_here (at.expects && is_relation (x ∷ rest)) (x ∷ rest)

of_view : (at : Place) (xs : List Lexeme) → AreNamed (references_from at xs)
of_view at [] = tt
of_view at (x ∷ rest) =
    all-append (λ k. is_named k ≡ true) (cast_references x rest ++ reference key.Rel (here at x rest)) (references_from (place_after at x (at.expects && is_relation (x ∷ rest))) rest)
    (all-append (λ k. is_named k ≡ true) (cast_references x rest) (reference key.Rel (here at x rest)) (of_cast x rest) (of_relation (here at x rest)))
    (of_view (place_after at x (at.expects && is_relation (x ∷ rest))) rest)

pub view_named : (text : Bytes) → AllByRecursion (λ k. is_named k ≡ true) (view_references text)
unfolding view_references
view_named text = of_view start (lexemes text)

pub default_named : (text : Option Bytes) → AllByRecursion (λ k. is_named k ≡ true) (default_references text)
default_named None = tt
default_named (Some text) = expression_named text

-- ---- all that is asked

abbrev pub is_other : Asked → Bool
is_other (Asked.other_owner role) = true
is_other _ = false

pub record IsUsual (j : Key) (ask : Ask) : Type 0 where
  pub comment : is_comment ask.0 ≡ false
  pub other : is_other ask.1 ≡ true → (o : Object) × (j ≡ key.Acl o) × (ask.0 ≡ key.Owner o)

abbrev AreUsual : Key → List Ask → Type 0
AreUsual j es = AllByRecursion (IsUsual j) es

plain : {j : Key} (k : Key) (a : Asked) → is_comment k ≡ false → is_other a ≡ false → IsUsual j (k, a)
plain k a one two = record { comment = one; other = λ e. cc }

no_comment : (k : Key) → is_named k ≡ true → is_comment k ≡ false
no_comment (key.Comment o) e = cc
no_comment _ e = refl

usual_there : (j : Key) (ks : List Key) → AllByRecursion (λ k. is_named k ≡ true) ks → AreUsual j (all_there ks)
usual_there j [] all = tt
usual_there j (k ∷ ks) all = (plain k Asked.there (no_comment k all.0) refl, usual_there j ks all.1)

usual_type_in : (j : Key) (q : QName) (end : Resolved) (system : Bool) → AreUsual j (if system then [] else (key.UserType q, Asked.comes_to q end) ∷ [])
usual_type_in j q end true = tt
usual_type_in j q end false = (plain (key.UserType q) (Asked.comes_to q end) refl refl, tt)

usual_type : (j : Key) (type : TypeName) (end : Resolved) → AreUsual j (type_asks type end)
usual_type j (Words text) end = tt
usual_type j (Path q) end = usual_type_in j q end (is_system q.schema)

usual_made : (j : Key) (o : Object) → AreUsual j (made_asks o)
usual_made j o = (plain (key.Owner o) Asked.there refl refl, (plain (key.Acl o) Asked.there refl refl, tt))

usual_domain : (j : Key) (d : Domain) → AreUsual j (domain_asks d)
usual_domain j d =
    all-append (IsUsual j) (type_asks d.base d.resolved ++ all_there (default_references d.default)) (flat_map (λ e. all_there (expression_references e.1)) (entries d.checks))
    (all-append (IsUsual j) (type_asks d.base d.resolved) (all_there (default_references d.default)) (usual_type j d.base d.resolved) (usual_there j (default_references d.default) (default_named d.default)))
    (all-flat (IsUsual j) (λ (e : Bytes × Bytes). all_there (expression_references e.1)) (entries d.checks)
    (of_each (λ (e : Bytes × Bytes). AreUsual j (all_there (expression_references e.1))) (entries d.checks) (λ e among. usual_there j (expression_references e.1) (expression_named e.1))))

usual_columns : (j : Key) (columns : List Column) → AreUsual j (flat_map column_asks columns)
usual_columns j columns = all-flat (IsUsual j) column_asks columns (of_each (λ (c : Column). AreUsual j (column_asks c)) columns (λ c among. usual_type j c.type_name c.resolved))

usual_own_type : (j : Key) (v : Value) → AreUsual j (own_type_asks v)
usual_own_type j (value.Domain d) = usual_domain j d
usual_own_type j _ = tt

usual_relation : (j : Key) (q : QName) (v : Value) → AreUsual j (relation_asks q v)
usual_relation j q (value.Table columns) =
    (plain (key.Rows q) Asked.there refl refl, all-append (IsUsual j) (made_asks (object.Relation q)) (flat_map column_asks columns) (usual_made j (object.Relation q)) (usual_columns j columns))
usual_relation j q (value.Sequence s) = (plain (key.SeqVal q) Asked.there refl refl, usual_made j (object.Relation q))
usual_relation j q value.View = (plain (key.Body q) Asked.there refl refl, usual_made j (object.Relation q))
usual_relation j q _ = tt

usual_parent : (j : Key) (o : Option (QName × List Bytes)) → AreUsual j (parent_asks o)
usual_parent j (Some (parent, names)) = (plain (key.Rel parent) (Asked.has_columns names) refl refl, tt)
usual_parent j None = tt

usual_kind : (j : Key) (q : QName) (name : Bytes) (c : Constraint) (kind : ConstraintKind) → AreUsual j (kind_asks q name c kind)
usual_kind j q name c kinds.Primary = (plain (key.Rel _) (Asked.index_on q) refl refl, tt)
usual_kind j q name c kinds.Unique = (plain (key.Rel _) (Asked.index_on q) refl refl, tt)
usual_kind j q name c kinds.Foreign = usual_parent j c.parent
usual_kind j q name c kinds.Check = usual_there j (expression_references c.text) (expression_named c.text)

usual_object : (o : Object) → is_comment (object_key o) ≡ false
usual_object (object.Schema name) = refl
usual_object (object.Type q) = refl
usual_object (object.Relation q) = refl
usual_object (object.Column q column) = refl
usual_object (object.Constraint q name) = refl
usual_object (object.Database name) = refl

usual_holder : (o : Object) (h : Holder) → AreUsual (key.Acl o) (holder_asks o h)
usual_holder o OWNER = tt
usual_holder o PUBLIC = tt
usual_holder o (ROLE name) = (plain (key.Role name) Asked.there refl refl, (record { comment = refl; other = λ e. (o, refl, refl) }, tt))

usual_comment : (j : Key) (o : Object) → AreUsual j (comment_asks o)
usual_comment j (object.Column q column) = (plain (key.Rel q) (Asked.has_columns (column ∷ [])) refl refl, tt)
usual_comment j (object.Schema name) = (plain (key.Schema name) Asked.there refl refl, tt)
usual_comment j (object.Type q) = (plain (key.UserType q) Asked.there refl refl, tt)
usual_comment j (object.Relation q) = (plain (key.Rel q) Asked.there refl refl, tt)
usual_comment j (object.Constraint q name) = (plain (key.Con q name) Asked.there refl refl, tt)
usual_comment j (object.Database name) = (plain (key.Database name) Asked.there refl refl, tt)

pub all_usual : (j : Key) (u : Value) → AllByRecursion (IsUsual j) (asks j u)
all_usual (key.Role name) u = tt
all_usual (key.Member role member grantor) u = (plain (key.Role role) Asked.there refl refl, (plain (key.Role member) Asked.there refl refl, (plain (key.Role grantor) Asked.there refl refl, tt)))
all_usual (key.Schema name) u = usual_made (key.Schema name) (object.Schema name)
all_usual (key.UserType q) u =
    (plain (key.Schema q.schema) Asked.there refl refl, all-append (IsUsual (key.UserType q)) (made_asks (object.Type q)) (own_type_asks u) (usual_made (key.UserType q) (object.Type q)) (usual_own_type (key.UserType q) u))
all_usual (key.Rel q) u = (plain (key.Schema q.schema) Asked.there refl refl, usual_relation (key.Rel q) q u)
all_usual (key.Owner o) (value.Owner role) = (plain (key.Role role) Asked.there refl refl, (plain (object_key o) Asked.ownable (usual_object o) refl, tt))
all_usual (key.Owner o) _ = tt
all_usual (key.Default q column) (value.DefaultText text) = (plain (key.Rel q) (Asked.has_columns (column ∷ [])) refl refl, usual_there (key.Default q column) (expression_references text) (expression_named text))
all_usual (key.Default q column) _ = tt
all_usual (key.Con q name) (value.Constraint c) = (plain (key.Rel q) (Asked.has_columns c.columns) refl refl, usual_kind (key.Con q name) q name c c.kind)
all_usual (key.Con q name) _ = tt
all_usual (key.Index q name) (value.Index i) = (plain (key.Rel q) (Asked.has_columns _) refl refl, (plain (key.Rel _) (Asked.index_on q) refl refl, tt))
all_usual (key.Index q name) _ = tt
all_usual (key.Rows q) (value.Rows rows) = (plain (key.Rel q) (Asked.holds rows) refl refl, tt)
all_usual (key.Rows q) _ = tt
all_usual (key.SeqVal q) (value.SequenceValue n called) = (plain (key.Rel q) (Asked.counts n) refl refl, tt)
all_usual (key.SeqVal q) _ = tt
all_usual (key.OwnedBy q) (value.OwnedBy table column) = (plain (key.Rel q) Asked.a_sequence refl refl, (plain (key.Rel table) (Asked.has_columns (column ∷ [])) refl refl, tt))
all_usual (key.OwnedBy q) _ = tt
all_usual (key.Acl o) (value.Grants grants) = (
  plain (object_key o) (Asked.takes grants) (usual_object o) refl,
  (
    plain (key.Owner o) Asked.there refl refl,
    all-flat (IsUsual (key.Acl o)) (λ (e : Holder × Item). holder_asks o e.0) (entries grants) (of_each (λ (e : Holder × Item). AreUsual (key.Acl o) (holder_asks o e.0)) (entries grants) (λ e among. usual_holder o e.0)),
  ),
)
all_usual (key.Acl o) _ = tt
all_usual (key.Comment o) u = usual_comment (key.Comment o) o
all_usual (key.Body q) (value.Body text) = (plain (key.Rel q) Asked.a_view refl refl, usual_there (key.Body q) (view_references text) (view_named text))
all_usual (key.Body q) _ = tt
all_usual (key.Database name) u = (plain (key.Owner (object.Database name)) Asked.there refl refl, tt)
