-- The layout of an entry, field by field.
use Rattle.std.specs.Prelude.{ℕ, zero, suc, ◌&&◌, nat_le, Bool, true, false, ℤ, pos, negsuc, List, [], Option, Some, None, option_map, option_and_then, unwrap_or, if◌then◌else◌, decimal, codes}
use Rattle.std.specs.Int.{w64}
use Rattle.toc_parts.specs.Parts.{Part, ◌then◌, seen, understood, raised, listed}
use Rattle.toc_parts.specs.declared.fault.FieldFault.TheVariants as fields
use Rattle.toc_parts.specs.Fields.{byte, number, integer, string, number_in}
use Rattle.toc_entry.specs.declared.entry.Entry.{Entry}
use Rattle.toc_entry.specs.declared.entry.Extra.{Extra}
use Rattle.toc_entry.specs.declared.entry.Extra.TheVariants.{Place, File}
use Rattle.toc_layout.specs.declared.fault.EntryHalt.{EntryHalt}
use Rattle.toc_layout.specs.declared.fault.EntryHalt.TheVariants.{Short, BadNumber, BadSection, BadState}
use Rattle.toc_layout.specs.Faults.{in_entry}

-- ---- fields

abbrev pub whole : Part EntryHalt ℤ
whole = raised in_entry (integer fields.Short)

abbrev pub optional : Part EntryHalt (Option (List ℕ))
optional = raised in_entry string

-- a string that isn't there reads as the empty text
abbrev pub text : Part EntryHalt (List ℕ)
text = seen (λ v. unwrap_or v []) Some optional

abbrev pub bad_number : {A : Type 0} → A → ℕ → EntryHalt
bad_number v left = BadNumber left

-- a dump id is 1 at least
abbrev pub id_of : ℤ → Option ℕ
id_of (pos zero) = None
id_of (pos (suc n)) = Some (suc n)
id_of (negsuc n) = None

unfoldable pub dump_id : Part EntryHalt ℕ
dump_id = understood id_of pos bad_number whole

-- anything but 0 is true
abbrev pub is_set : ℤ → Bool
is_set (pos zero) = false
is_set (pos (suc n)) = true
is_set (negsuc n) = true

abbrev pub shown_flag : Bool → ℤ
shown_flag false = pos 0
shown_flag true = pos 1

abbrev pub flag : Part EntryHalt Bool
flag = seen is_set shown_flag whole

-- the digits of a number
unfoldable pub oid : Part EntryHalt ℕ
oid = understood (λ v. option_and_then number_in v) (λ n. Some (decimal n)) bad_number optional

abbrev pub section_of : ℤ → Option ℕ
section_of (pos n) = if nat_le 1 n && nat_le n 4 then Some n else None
section_of (negsuc n) = None

unfoldable pub section : Part EntryHalt ℕ
section = understood section_of pos (λ v left. BadSection left) whole

-- a string that says nothing, written as `false`
abbrev pub unread : Part EntryHalt (Unit {0})
unread = seen (λ v. tt) (λ v. Some (codes "false")) optional

-- the digits of a dump id, or none more
abbrev pub dependency_of : Option (List ℕ) → Option (Option ℕ)
dependency_of None = Some None
dependency_of (Some digits) = option_map Some (number_in digits)

unfoldable pub dependency : Part EntryHalt (Option ℕ)
dependency = understood dependency_of (λ v. option_map decimal v) bad_number optional

abbrev pub dependencies : Part EntryHalt (List ℕ)
dependencies = listed dependency

-- ---- where the rows are

abbrev pub state_of : ℕ → Option ℕ
state_of n = if nat_le 1 n && nat_le n 3 then Some n else None

abbrev pub state : Part EntryHalt ℕ
state = understood state_of (λ n. n) (λ v left. BadState left) (byte Short)

abbrev pub place_of : Extra → ℕ × ℕ
place_of (Place s offset) = (s, offset)
place_of (File name) = (0, 0)

abbrev pub name_of : Extra → List ℕ
name_of (Place s offset) = []
name_of (File name) = name

-- a state and an offset, or in a directory the name of a file
unfoldable pub extra : Bool → Part EntryHalt Extra
extra false = seen (λ x. Place x.0 x.1) place_of (state then number Short w64)
extra true = seen File name_of text

-- ---- the entry

abbrev pub identity : Part EntryHalt (Bool × (ℕ × ℕ))
identity = flag then (oid then oid)

abbrev pub labels : Part EntryHalt (List ℕ × (List ℕ × ℕ))
labels = text then (text then section)

-- the definition, and the statements that drop the object and copy its rows; or the namespace, the tablespace and the
-- access method
abbrev pub Three : Type 0
Three = Option (List ℕ) × (Option (List ℕ) × Option (List ℕ))

abbrev pub three : Part EntryHalt Three
three = optional then (optional then optional)

-- the namespace, the tablespace and the access method; the owner, and what is unread
abbrev pub setting : Part EntryHalt (Three × (Option (List ℕ) × Unit {0}))
setting = three then (optional then unread)

-- the setting, what it needs and where its rows are
abbrev pub Behind : Type 0
Behind = (Three × (Option (List ℕ) × Unit {0})) × (List ℕ × Extra)

abbrev pub behind_texts : Bool → Part EntryHalt Behind
behind_texts directory = setting then (dependencies then extra directory)

-- all of an entry but its dump id
abbrev pub Body : Type 0
Body = (Bool × (ℕ × ℕ)) × ((List ℕ × (List ℕ × ℕ)) × (Three × Behind))

unfoldable pub body : Bool → Part EntryHalt Body
body directory = identity then (labels then (three then behind_texts directory))

abbrev pub entry_of : ℕ × Body → Entry
entry_of x =
    let b = x.1 in
    record {
      dump_id = x.0;
      has_rows = b.0.0;
      tableoid = b.0.1.0;
      oid = b.0.1.1;
      tag = b.1.0.0;
      desc = b.1.0.1.0;
      section = b.1.0.1.1;
      defn = b.1.1.0.0;
      drop_stmt = b.1.1.0.1.0;
      copy_stmt = b.1.1.0.1.1;
      namespace = b.1.1.1.0.0.0;
      tablespace = b.1.1.1.0.0.1.0;
      tableam = b.1.1.1.0.0.1.1;
      owner = b.1.1.1.0.1.0;
      depends = b.1.1.1.1.0;
      extra = b.1.1.1.1.1;
    }

abbrev pub body_of : Entry → Body
body_of e = (
  (e.has_rows, (e.tableoid, e.oid)),
  (
    (e.tag, (e.desc, e.section)),
    (
      (e.defn, (e.drop_stmt, e.copy_stmt)),
      (((e.namespace, (e.tablespace, e.tableam)), (e.owner, tt)), (e.depends, e.extra)),
    ),
  ),
)

-- the dump id and what follows it; `directory` says of which archive it is
abbrev pub entry : Bool → Part EntryHalt Entry
entry directory = seen entry_of (λ e. (e.dump_id, body_of e)) (dump_id then body directory)
