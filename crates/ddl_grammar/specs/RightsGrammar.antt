-- The grammar of rights and of the objects that have them.
-- A list of rights goes on as long as some kind of object has all of them; the kind must have each.
use Rattle.std.specs.{Prelude.ℕ, Prelude.Bool, Prelude.true, Prelude.not, Prelude.◌||◌, Prelude.List, Prelude.[], Prelude.◌∷◌, Prelude.Option, Prelude.Some, Prelude.None, Prelude.option_map, Prelude.if◌then◌else◌, Prelude.codes, List.list_all}
use Rattle.cat_model.specs.{declared.grant.Rights.Rights, declared.grant.Granted.Granted, declared.grant.Grantee.Grantee, Grants.no_rights, Grants.table_rights, Grants.sequence_rights, Grants.schema_rights, Grants.type_rights, Lexemes.same_text}
use Rattle.cat_model.specs.declared.grant.Granted.TheVariants as on
use Rattle.cat_model.specs.declared.grant.Grantee.TheVariants as grantees
use Rattle.ddl_parts.specs.{Lexemes.Lexeme, Lexemes.is_word, Lexemes.starts, Parts.Part, Parts.Items, Parts.seen, Parts.many, Parts.◌then◌, Parts.◌▸◌, Leaves.name, Leaves.qualified, Lists.comma}
use Rattle.ddl_grammar.specs.{declared.rights.Right.Right, declared.rights.Right.TheVariants.Select, declared.rights.Right.TheVariants.Usage, declared.rights.Right.TheVariants.Insert, declared.rights.Right.TheVariants.References, declared.rights.Right.TheVariants.Delete, declared.rights.Right.TheVariants.Trigger, declared.rights.Right.TheVariants.Truncate, declared.rights.Right.TheVariants.Update, declared.rights.Right.TheVariants.Create, declared.rights.Kind.Kind, declared.rights.Kind.TheVariants.Tables, declared.rights.Kind.TheVariants.Sequences, declared.rights.Kind.TheVariants.Schemas, declared.rights.Kind.TheVariants.Types, declared.rights.Wanted.Wanted, declared.rights.Wanted.TheVariants.All, declared.rights.Wanted.TheVariants.These, Depending.◌thenby◌, Values.by_first}

-- ---- rights

abbrev pub has : Right → Rights → Bool
has Select r = r.select
has Usage r = r.usage
has Insert r = r.insert
has References r = r.references
has Delete r = r.delete
has Trigger r = r.trigger
has Truncate r = r.truncate
has Update r = r.update
has Create r = r.create

-- the rights and one more
abbrev pub with_right : Right → Rights → Rights
with_right Select r = record r { select = true }
with_right Usage r = record r { usage = true }
with_right Insert r = record r { insert = true }
with_right References r = record r { references = true }
with_right Delete r = record r { delete = true }
with_right Trigger r = record r { trigger = true }
with_right Truncate r = record r { truncate = true }
with_right Update r = record r { update = true }
with_right Create r = record r { create = true }

-- one right alone
abbrev pub only : Right → Rights
only x = with_right x no_rights

-- each of the first rights is one of the second
abbrev pub within : Rights → Rights → Bool
within a b = list_all (λ holds. holds) (
    (not a.select || b.select) ∷ (not a.usage || b.usage) ∷ (not a.insert || b.insert) ∷ (not a.references || b.references) ∷ (not a.delete || b.delete)
    ∷ (not a.trigger || b.trigger) ∷ (not a.truncate || b.truncate) ∷ (not a.update || b.update) ∷ (not a.create || b.create) ∷ [])

-- the rights that a kind of object has
abbrev pub kind_rights : Kind → Rights
kind_rights Tables = table_rights
kind_rights Sequences = sequence_rights
kind_rights Schemas = schema_rights
kind_rights Types = type_rights

unfoldable pub some_kind_has : Rights → Bool
some_kind_has r = within r table_rights || (within r sequence_rights || (within r schema_rights || within r type_rights))

-- A right may stand behind others: it is one of them, or some kind has it and them.
unfoldable pub goes_with : Rights → Right → Bool
goes_with r x = has x r || some_kind_has (with_right x r)

-- the right that is the first of some tokens
unfoldable pub right_first : List Lexeme → Option Right
right_first ts =
    if starts (is_word (codes "select")) ts then Some Select
    else (if starts (is_word (codes "usage")) ts then Some Usage
    else (if starts (is_word (codes "insert")) ts then Some Insert
    else (if starts (is_word (codes "references")) ts then Some References
    else (if starts (is_word (codes "delete")) ts then Some Delete
    else (if starts (is_word (codes "trigger")) ts then Some Trigger
    else (if starts (is_word (codes "truncate")) ts then Some Truncate
    else (if starts (is_word (codes "update")) ts then Some Update
    else (if starts (is_word (codes "create")) ts then Some Create else None))))))))

-- all rights, or those of a list that begins with one
unfoldable pub wanted_first : List Lexeme → Option Wanted
wanted_first ts = if starts (is_word (codes "all")) ts then Some All else option_map (λ x. These (only x)) (right_first ts)

abbrev pub wanted : Part Wanted
wanted = by_first wanted_first

-- ---- a list of rights

-- a right that may stand behind others
abbrev pub joining : Rights → Option Right → Option Right
joining r None = None
joining r (Some x) = if goes_with r x then Some x else None

abbrev pub right_behind : Rights → Part Right
right_behind r = by_first (λ ts. joining r (right_first ts))

-- the rights behind others, each behind a comma
abbrev pub more_rights : Rights → Items Right
more_rights r = record {
  State = Rights;
  start = r;
  more = λ s. comma;
  item = λ s. comma ▸ right_behind s;
  next = λ s x. with_right x s;
}

abbrev pub all_of : Rights → List Right → Rights
all_of r [] = r
all_of r (x ∷ xs) = all_of (with_right x r) xs

-- those before, and those of the list
unfoldable pub rights_from : Rights → Part Rights
rights_from r = seen (all_of r) (many comma (more_rights r))

-- ---- objects

unfoldable pub kind_first : List Lexeme → Option Kind
kind_first ts =
    if starts (is_word (codes "table")) ts then Some Tables
    else (if starts (is_word (codes "sequence")) ts then Some Sequences
    else (if starts (is_word (codes "schema")) ts then Some Schemas
    else (if starts (is_word (codes "type")) ts then Some Types else None)))

-- a kind has all the rights
abbrev pub kind_has : Wanted → Kind → Bool
kind_has All k = true
kind_has (These r) k = within r (kind_rights k)

abbrev pub having : Wanted → Option Kind → Option Kind
having w None = None
having w (Some k) = if kind_has w k then Some k else None

-- the word of a kind that has all the rights
abbrev pub kind_with : Wanted → Part Kind
kind_with w = by_first (λ ts. having w (kind_first ts))

-- ALL stands for the rights of the kind
abbrev pub rights_on : Wanted → Kind → Rights
rights_on All k = kind_rights k
rights_on (These r) k = r

-- a path, or the name of a schema
abbrev pub object : Kind → Part Granted
object Tables = seen on.Table qualified
object Sequences = seen on.Sequence qualified
object Schemas = seen on.Schema name
object Types = seen on.Type qualified

-- ON kind object
unfoldable pub on_object : Wanted → Part (Granted × Rights)
on_object w = is_word (codes "on") ▸ (kind_with w thenby (λ k. seen (λ o. (o, rights_on w k)) (object k)))

-- behind ALL, or behind the first right: the other rights, ON kind object
unfoldable pub rights_and_object : Wanted → Part (Granted × Rights)
rights_and_object All = on_object All
rights_and_object (These r) = rights_from r thenby (λ s. on_object (These s))

-- ---- grantees

-- the name `public` stands for all roles
unfoldable pub grantee_of : List ℕ → Grantee
grantee_of n = if same_text n (codes "public") then grantees.Public else grantees.Role n

abbrev pub grantee : Part Grantee
grantee = seen grantee_of name
