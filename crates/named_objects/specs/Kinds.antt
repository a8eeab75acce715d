-- The keys that each of these tables gives.
use Rattle.std.specs.Prelude.{Bool, true, false, not, List, Option, Some, None, if◌then◌else◌}
use Rattle.std.specs.FinMap.{from_entries}
use Rattle.cat_model.specs.declared.object.Object.{Object}
use Rattle.cat_model.specs.declared.object.Object.TheVariants as object
use Rattle.cat_model.specs.declared.key.Key.{Key}
use Rattle.cat_model.specs.declared.key.Key.TheVariants as key
use Rattle.cat_model.specs.declared.value.Value.{Value}
use Rattle.cat_model.specs.Conditions.{is_sequence}
use Rattle.cat_model.specs.Values.{Named}
use Rattle.cat_names.specs.Naming.{Entry}

abbrev pub of_defaults : Key → Bool
of_defaults (key.Default q column) = true
of_defaults _ = false

abbrev pub of_constraints : Key → Bool
of_constraints (key.Con q name) = true
of_constraints _ = false

abbrev pub of_indexes : Key → Bool
of_indexes (key.Index q name) = true
of_indexes _ = false

abbrev pub of_bodies : Key → Bool
of_bodies (key.Body q) = true
of_bodies _ = false

abbrev pub of_comments : Key → Bool
of_comments (key.Comment o) = true
of_comments _ = false

abbrev pub is_type : Object → Bool
is_type (object.Type q) = true
is_type _ = false

-- an enum or a domain, its owner and its grants
abbrev pub of_types : Key → Bool
of_types (key.UserType q) = true
of_types (key.Owner o) = is_type o
of_types (key.Acl o) = is_type o
of_types _ = false

-- a sequence, its value, and the column that owns it
abbrev pub of_sequences : Key → Value → Bool
of_sequences (key.Rel q) v = is_sequence v
of_sequences (key.SeqVal q) v = true
of_sequences (key.OwnedBy q) v = true
of_sequences _ v = false

abbrev pub is_relation : Object → Bool
is_relation (object.Relation q) = true
is_relation _ = false

-- a relation other than a sequence, the rows of a table, and the owner and the grants of a relation
abbrev pub of_relations : Key → Value → Bool
of_relations (key.Rel q) v = not (is_sequence v)
of_relations (key.Rows q) v = true
of_relations (key.Owner o) v = is_relation o
of_relations (key.Acl o) v = is_relation o
of_relations _ v = false

-- what is there, if it is so
abbrev pub kept : (Key → Value → Bool) → Key → Option Value → Option Value
kept of k None = None
kept of k (Some v) = if of k v then Some v else None

-- the catalogue of these entries
abbrev pub named_as : List Entry → Named
named_as es = from_entries es
