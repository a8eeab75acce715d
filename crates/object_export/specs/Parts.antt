-- What an entry of a catalogue by names says of the parts of relations and types, with what stands under other keys.
use Rattle.std.specs.Prelude.{ℕ, ◌+◌, ℤ, Bool, List, [], ◌∷◌, map, Option, Some, None}
use Rattle.std.specs.Option.{option_map}
use Rattle.std.specs.FinMap.{get, entries}
use Rattle.cat_model.specs.declared.object.QName.{QName}
use Rattle.cat_model.specs.declared.key.Key.TheVariants as key
use Rattle.cat_model.specs.declared.value.Value.{Value}
use Rattle.cat_model.specs.declared.value.Value.TheVariants as value
use Rattle.cat_model.specs.declared.value.Column.{Column}
use Rattle.cat_model.specs.declared.value.Domain.{Domain}
use Rattle.cat_model.specs.declared.value.Sequence.{Sequence}
use Rattle.cat_model.specs.Values.{Bytes, Named}
use Rattle.cat_names.specs.Naming.{Entry}
use Rattle.named_objects.specs.Types.{NamedLabel}
use Rattle.named_objects.specs.Relations.{NamedColumn, NamedDefault, NamedSequence, NamedIndex, NamedBody}
use Rattle.named_objects.specs.Constraints.{Constrained, of_table, of_domain, NamedComment}

-- ---- one thing at most

abbrev pub default_in : Entry → Option NamedDefault
default_in (key.Default q column, value.DefaultText text) = Some (record { table = q; column = column; text = text })
default_in _ = None

abbrev pub index_in : Entry → Option NamedIndex
index_in (key.Index q name, value.Index i) = Some (record { table = q; name = name; index = i })
index_in _ = None

abbrev pub body_in : Entry → Option NamedBody
body_in (key.Body q, value.Body text) = Some (record { view = q; body = text })
body_in _ = None

abbrev pub comment_in : Entry → Option NamedComment
comment_in (key.Comment o, value.Comment text) = Some (record { object = o; text = text })
comment_in _ = None

-- the value of a sequence, and whether it was given out
abbrev pub number_in : Option Value → Option (ℤ × Bool)
number_in (Some (value.SequenceValue last called)) = Some (last, called)
number_in _ = None

-- a sequence with its value
abbrev pub sequence_with : QName → Sequence → Option Value → Option NamedSequence
sequence_with q s v = option_map (λ (n : ℤ × Bool). record { path = q; sequence = s; last = n.0; called = n.1 }) (number_in v)

abbrev pub sequence_in : Named → Entry → Option NamedSequence
sequence_in named (key.Rel q, value.Sequence s) = sequence_with q s (get named (key.SeqVal q))
sequence_in named _ = None

-- ---- lists of things

-- the columns from a place on
abbrev pub columns_from : QName → List Column → ℕ → List Column → List NamedColumn
columns_from q all place [] = []
columns_from q all place (c ∷ cs) = record { table = q; columns = all; place = place; column = c } ∷ columns_from q all (place + 1) cs

abbrev pub columns_in : Entry → List NamedColumn
columns_in (key.Rel q, value.Table columns) = columns_from q columns 0 columns
columns_in _ = []

-- the labels from a place on
abbrev pub labels_from : QName → List Bytes → ℕ → List Bytes → List NamedLabel
labels_from q all place [] = []
labels_from q all place (l ∷ ls) = record { path = q; labels = all; place = place; label = l } ∷ labels_from q all (place + 1) ls

abbrev pub labels_in : Entry → List NamedLabel
labels_in (key.UserType q, value.Enum labels) = labels_from q labels 0 labels
labels_in _ = []

abbrev pub check_in : QName → Domain → Bytes × Bytes → Constrained
check_in q d e = of_domain (record { path = q; domain = d; name = e.0; text = e.1 })

-- a constraint of a table, or the checks of a domain
abbrev pub constrained_in : Entry → List Constrained
constrained_in (key.Con q name, value.Constraint c) = of_table (record { table = q; name = name; constraint = c }) ∷ []
constrained_in (key.UserType q, value.Domain d) = map (check_in q d) (entries d.checks)
constrained_in _ = []
