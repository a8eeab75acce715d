-- The kinds of statements: what stands behind the words that tell them apart, a line for each kind.
-- Key words stand in letters of any case, names bare or quoted; white space and comments stand anywhere between tokens.
use Rattle.std.specs.Prelude.{ℕ, List, [], Option, Some, None, codes}
use Rattle.cat_model.specs.{declared.object.QName.QName, declared.table.CheckDef.CheckDef, declared.stmt.Stmt.Stmt}
use Rattle.cat_model.specs.declared.grant.Owned.TheVariants as owned
use Rattle.cat_model.specs.declared.grant.Commented.TheVariants as commented
use Rattle.cat_model.specs.declared.stmt.Stmt.TheVariants as stmt
use Rattle.ddl_parts.specs.Parts.{Part, mark, seen as seen_part, choose}
use Rattle.ddl_grammar.specs.{declared.alters.Constraint.Constraint, declared.alters.Constraint.TheVariants.Check, declared.alters.Constraint.TheVariants.Primary, declared.alters.Constraint.TheVariants.Unique, declared.alters.Constraint.TheVariants.Foreign, declared.alters.TableChange.TableChange, declared.alters.TableChange.TheVariants.Owner, declared.alters.TableChange.TheVariants.Default, declared.alters.TableChange.TheVariants.Added, declared.relations.Index.Index}
use Rattle.ddl_grammar.specs.LeafParts.{name, literal, path, literal_path, number, truth, expression, given_default, body, brackets, columns, some_columns, key_rest, foreign_rest, labels, domain, elements, clauses, changes, encoding, equals, remark, check, granted, revoked}
use Rattle.ddl_grammar.specs.Syntax.{opening, closing, comma, dot, equal, ending, none, blank, feed, indent, given, Syntax, leaf, led, signed, ended, worded, both, seen, tabled, part, Branch, word, behind, ◌or◌, kind}
pub use Rattle.ddl_grammar.specs.Clauses.{semicolon, named_check}

-- ---- CREATE ..

-- name ON path USING method (rest
unfoldable pub index_body : Syntax Index
index_body =
    seen (λ x. record { name = x.0; table = x.1.0; method = x.1.1.0; rest = x.1.1.1 }) (λ i. Some (i.name, (i.table, (i.method, i.rest))))
    (both (leaf blank name) (led blank (codes "ON") (both (leaf blank path) (led blank (codes "USING") (both (leaf blank name) (leaf blank brackets))))))

unfoldable pub created_relation : Syntax Stmt
created_relation =
    word (codes "VIEW") (kind (λ x. stmt.CreateView x.0 x.1) (elim [ stmt.CreateView q text ↦ Some (q, text) | _ ↦ None ]) (both (leaf blank path) (led blank (codes "AS") (leaf feed body))))
    or (word (codes "OR") (led blank (codes "REPLACE") (led blank (codes "VIEW") (kind (λ x. stmt.ReplaceView x.0 x.1) (elim [ stmt.ReplaceView q text ↦ Some (q, text) | _ ↦ None ]) (both (leaf blank path) (led blank (codes "AS") (leaf feed body))))))
    or (word (codes "INDEX") (kind (λ i. stmt.CreateIndex i.table i.name i.method i.rest) (elim [ stmt.CreateIndex q n m rest ↦ Some (record { name = n; table = q; method = m; rest = rest }) | _ ↦ None ]) index_body)
    or (word (codes "UNIQUE") (led blank (codes "INDEX") (kind (λ i. stmt.CreateUniqueIndex i.table i.name i.method i.rest) (elim [ stmt.CreateUniqueIndex q n m rest ↦ Some (record { name = n; table = q; method = m; rest = rest }) | _ ↦ None ]) index_body))
    or behind (word (codes "SEQUENCE") (kind (λ x. stmt.CreateSequence x.0 x.1.kind x.1.start x.1.step x.1.min x.1.max x.1.cache x.1.cycle)
    (elim [ stmt.CreateSequence q kind start step min max cache cycle ↦ Some (q, record { kind = kind; start = start; step = step; min = min; max = max; cache = cache; cycle = cycle }) | _ ↦ None ])
    (both (leaf blank path) (leaf none clauses)))))))

unfoldable pub create_enum : Syntax Stmt
create_enum =
    seen (λ x. stmt.CreateEnum x.0 x.1) (elim [ stmt.CreateEnum q texts ↦ Some (q, texts) | _ ↦ None ])
    (both (leaf blank path) (led blank (codes "AS") (led blank (codes "ENUM") (signed blank opening (ended (ended (leaf none labels) feed closing) none ending)))))

unfoldable pub create_domain : Syntax Stmt
create_domain =
    seen (λ x. stmt.CreateDomain x.0 x.1.0.0 x.1.0.1.1 x.1.0.1.0 x.1.1) (elim [ stmt.CreateDomain q base not_null default checks ↦ Some (q, ((base, (default, not_null)), checks)) | _ ↦ None ])
    (both (leaf blank path) (led blank (codes "AS") (leaf blank domain)))

unfoldable pub create_table : Syntax Stmt
create_table =
    seen (λ x. stmt.CreateTable x.0 x.1.0 x.1.1) (elim [ stmt.CreateTable q defined checks ↦ Some (q, (defined, checks)) | _ ↦ None ])
    (both (leaf blank path) (signed blank opening (ended (ended (leaf none elements) feed closing) none ending)))

unfoldable pub create_database : Syntax Stmt
create_database =
    seen (λ x. stmt.CreateDatabase x.0 x.1) (elim [ stmt.CreateDatabase n known ↦ Some (n, known) | _ ↦ None ])
    (both (leaf blank name) (led blank (codes "WITH") (led blank (codes "TEMPLATE") (signed blank equal (led blank (codes "template0") (ended (leaf none encoding) none ending))))))

unfoldable pub created : Syntax Stmt
created =
    word (codes "SCHEMA") (kind stmt.CreateSchema (elim [ stmt.CreateSchema n ↦ Some n | _ ↦ None ]) (leaf blank name))
    or (word (codes "TYPE") create_enum
    or (word (codes "DOMAIN") create_domain
    or (word (codes "TABLE") create_table
    or (word (codes "ROLE") (kind stmt.CreateRole (elim [ stmt.CreateRole n ↦ Some n | _ ↦ None ]) (leaf blank name))
    or (word (codes "DATABASE") create_database
    or created_relation)))))

-- ---- ALTER ..

-- OWNER TO role;
unfoldable pub new_owner : Syntax (List ℕ)
new_owner = led blank (codes "OWNER") (led blank (codes "TO") (ended (leaf blank name) none ending))

-- what a constraint says
unfoldable pub constraint_body : Syntax Constraint
constraint_body =
    word (codes "CHECK") (seen Check (elim [ Check text ↦ Some text | _ ↦ None ]) (signed blank opening (ended (leaf none expression) none closing)))
    or (word (codes "PRIMARY") (seen (λ x. Primary x.0 x.1) (elim [ Primary names rest ↦ Some (names, rest) | _ ↦ None ]) (led blank (codes "KEY") (both (leaf blank columns) (leaf none key_rest))))
    or (word (codes "UNIQUE") (seen (λ x. Unique x.0 x.1) (elim [ Unique names rest ↦ Some (names, rest) | _ ↦ None ]) (both (leaf blank columns) (leaf none key_rest)))
    or behind (word (codes "FOREIGN") (seen (λ x. Foreign x.0 x.1.0 x.1.1.0 x.1.1.1) (elim [ Foreign names parent theirs rest ↦ Some (names, (parent, (theirs, rest))) | _ ↦ None ])
    (led blank (codes "KEY") (both (leaf blank columns) (led blank (codes "REFERENCES") (both (leaf blank path) (both (leaf none columns) (leaf none foreign_rest))))))))))

-- a change of the table alone, before which ONLY may stand
unfoldable pub own_change : Syntax TableChange
own_change =
    record { gap = indent; word = codes "ADD"; rest = seen (λ x. Added x.0 x.1) (elim [ Added n c ↦ Some (n, c) | _ ↦ None ]) (led blank (codes "CONSTRAINT") (both (leaf blank name) (ended constraint_body none ending))) }
    or behind (word (codes "ALTER") (seen (λ x. Default x.0 x.1) (elim [ Default n text ↦ Some (n, text) | _ ↦ None ])
    (led blank (codes "COLUMN") (both (leaf blank name) (led blank (codes "SET") (led blank (codes "DEFAULT") (ended (leaf blank given_default) none ending)))))))

unfoldable pub table_change : Syntax TableChange
table_change = word (codes "OWNER") (seen Owner (elim [ Owner role ↦ Some role | _ ↦ None ]) (led blank (codes "TO") (ended (leaf blank name) none ending))) or own_change

abbrev pub constrained : QName → List ℕ → Constraint → Stmt
constrained q n (Check text) = stmt.AddCheck q n text
constrained q n (Primary names rest) = stmt.AddPrimary q n names rest
constrained q n (Unique names rest) = stmt.AddUnique q n names rest
constrained q n (Foreign names parent theirs rest) = stmt.AddForeign q n names parent theirs rest

abbrev pub table_changed : QName → TableChange → Stmt
table_changed q (Owner role) = stmt.OwnerTo (owned.Table q) role
table_changed q (Default column text) = stmt.SetDefault q column text
table_changed q (Added n c) = constrained q n c

abbrev pub change_of : Stmt → Option (QName × TableChange)
change_of (stmt.OwnerTo (owned.Table q) role) = Some (q, Owner role)
change_of (stmt.SetDefault q column text) = Some (q, Default column text)
change_of (stmt.AddCheck q n text) = Some (q, Added n (Check text))
change_of (stmt.AddPrimary q n names rest) = Some (q, Added n (Primary names rest))
change_of (stmt.AddUnique q n names rest) = Some (q, Added n (Unique names rest))
change_of (stmt.AddForeign q n names parent theirs rest) = Some (q, Added n (Foreign names parent theirs rest))
change_of _ = None

unfoldable pub altered_table : Syntax Stmt
altered_table = seen (λ x. table_changed x.0 x.1) change_of (tabled own_change table_change)

-- what changes of a domain
pub data DomainChange : Type 0 where
  its_owner : List ℕ → DomainChange
  one_more_check : CheckDef → DomainChange

abbrev pub domain_changed : QName → DomainChange → Stmt
domain_changed q (its_owner role) = stmt.OwnerTo (owned.Domain q) role
domain_changed q (one_more_check c) = stmt.AddDomainCheck q c.name c.text

abbrev pub domain_change_of : Stmt → Option (QName × DomainChange)
domain_change_of (stmt.OwnerTo (owned.Domain q) role) = Some (q, its_owner role)
domain_change_of (stmt.AddDomainCheck q n text) = Some (q, one_more_check (record { name = n; text = text }))
domain_change_of _ = None

-- path OWNER TO role; or path ADD CONSTRAINT name CHECK (expression);
unfoldable pub altered_domain : Syntax Stmt
altered_domain =
    seen (λ x. domain_changed x.0 x.1) domain_change_of
    (both (leaf blank path) (word (codes "OWNER") (seen its_owner (elim [ its_owner role ↦ Some role | _ ↦ None ]) (led blank (codes "TO") (ended (leaf blank name) none ending)))
    or behind (record { gap = indent; word = codes "ADD"; rest = kind one_more_check (elim [ one_more_check c ↦ Some c | _ ↦ None ]) (leaf blank check) })))

-- what changes of a sequence
pub data SequenceChange : Type 0 where
  its_role : List ℕ → SequenceChange
  its_column : QName × List ℕ → SequenceChange

abbrev pub sequence_changed : QName → SequenceChange → Stmt
sequence_changed q (its_role role) = stmt.OwnerTo (owned.Sequence q) role
sequence_changed q (its_column x) = stmt.OwnedBy q x.0 x.1

abbrev pub sequence_change_of : Stmt → Option (QName × SequenceChange)
sequence_change_of (stmt.OwnerTo (owned.Sequence q) role) = Some (q, its_role role)
sequence_change_of (stmt.OwnedBy q table column) = Some (q, its_column (table, column))
sequence_change_of _ = None

-- path OWNER TO role; or path OWNED BY schema.table.column;
unfoldable pub altered_sequence : Syntax Stmt
altered_sequence =
    seen (λ x. sequence_changed x.0 x.1) sequence_change_of
    (both (leaf blank path) (word (codes "OWNER") (seen its_role (elim [ its_role role ↦ Some role | _ ↦ None ]) (led blank (codes "TO") (ended (leaf blank name) none ending)))
    or behind (word (codes "OWNED") (kind its_column (elim [ its_column x ↦ Some x | _ ↦ None ]) (led blank (codes "BY") (both (leaf blank path) (signed none dot (leaf none name))))))))

unfoldable pub altered : Syntax Stmt
altered =
    word (codes "SCHEMA") (seen (λ x. stmt.OwnerTo (owned.Schema x.0) x.1) (elim [ stmt.OwnerTo (owned.Schema n) role ↦ Some (n, role) | _ ↦ None ]) (both (leaf blank name) new_owner))
    or (word (codes "TYPE") (seen (λ x. stmt.OwnerTo (owned.Type x.0) x.1) (elim [ stmt.OwnerTo (owned.Type q) role ↦ Some (q, role) | _ ↦ None ]) (both (leaf blank path) new_owner))
    or (word (codes "DOMAIN") altered_domain
    or (word (codes "TABLE") altered_table
    or (word (codes "SEQUENCE") altered_sequence
    or (word (codes "VIEW") (seen (λ x. stmt.OwnerTo (owned.View x.0) x.1) (elim [ stmt.OwnerTo (owned.View q) role ↦ Some (q, role) | _ ↦ None ]) (both (leaf blank path) new_owner))
    or (word (codes "DATABASE") (seen (λ x. stmt.OwnerTo (owned.Database x.0) x.1) (elim [ stmt.OwnerTo (owned.Database n) role ↦ Some (n, role) | _ ↦ None ]) (both (leaf blank name) new_owner))
    or behind (word (codes "ROLE") (kind (λ x. stmt.AlterRole x.0 x.1) (elim [ stmt.AlterRole n c ↦ Some (n, c) | _ ↦ None ]) (both (leaf blank name) (led blank (codes "WITH") (leaf none changes)))))))))))

-- ---- SELECT pg_catalog. ..

unfoldable pub set_value : Syntax Stmt
set_value =
    seen (λ x. stmt.SetVal x.0 x.1.0 x.1.1) (elim [ stmt.SetVal q n called ↦ Some (q, (n, called)) | _ ↦ None ])
    (signed none opening (both (leaf none literal_path) (signed none comma (both (leaf blank number) (signed none comma (ended (ended (leaf blank truth) none closing) none ending))))))

unfoldable pub selected : Syntax Stmt
selected =
    led blank (codes "pg_catalog") (signed none dot
    (record {
      gap = none;
      word = codes "set_config";
      rest = seen (λ x. stmt.SetConfig x.0 x.1) (elim [ stmt.SetConfig n value ↦ Some (n, value) | _ ↦ None ])
          (signed none opening (both (leaf none literal) (signed none comma (ended (ended (worded (ended (leaf blank literal) none comma) blank (codes "false")) none closing) none ending))));
    }
    or behind (record { gap = none; word = codes "setval"; rest = set_value })))

-- ---- COMMENT ON ..

-- IS remark;
unfoldable pub remark_end : Syntax (Option (List ℕ))
remark_end = led blank (codes "IS") (ended (leaf blank remark) none ending)

unfoldable pub path_remarked : Syntax (QName × Option (List ℕ))
path_remarked = both (leaf blank path) remark_end

unfoldable pub commented_object : Syntax Stmt
commented_object =
    word (codes "SCHEMA") (seen (λ x. stmt.Comment (commented.Schema x.0) x.1) (elim [ stmt.Comment (commented.Schema n) text ↦ Some (n, text) | _ ↦ None ]) (both (leaf blank name) remark_end))
    or (word (codes "TYPE") (seen (λ x. stmt.Comment (commented.Type x.0) x.1) (elim [ stmt.Comment (commented.Type q) text ↦ Some (q, text) | _ ↦ None ]) path_remarked)
    or (word (codes "DOMAIN") (seen (λ x. stmt.Comment (commented.Domain x.0) x.1) (elim [ stmt.Comment (commented.Domain q) text ↦ Some (q, text) | _ ↦ None ]) path_remarked)
    or (word (codes "TABLE") (seen (λ x. stmt.Comment (commented.Table x.0) x.1) (elim [ stmt.Comment (commented.Table q) text ↦ Some (q, text) | _ ↦ None ]) path_remarked)
    or (word (codes "VIEW") (seen (λ x. stmt.Comment (commented.View x.0) x.1) (elim [ stmt.Comment (commented.View q) text ↦ Some (q, text) | _ ↦ None ]) path_remarked)
    or (word (codes "SEQUENCE") (seen (λ x. stmt.Comment (commented.Sequence x.0) x.1) (elim [ stmt.Comment (commented.Sequence q) text ↦ Some (q, text) | _ ↦ None ]) path_remarked)
    or (word (codes "INDEX") (seen (λ x. stmt.Comment (commented.Index x.0) x.1) (elim [ stmt.Comment (commented.Index q) text ↦ Some (q, text) | _ ↦ None ]) path_remarked)
    or (word (codes "COLUMN") (seen (λ x. stmt.Comment (commented.Column x.0 x.1.0) x.1.1) (elim [ stmt.Comment (commented.Column q n) text ↦ Some (q, (n, text)) | _ ↦ None ]) (both (leaf blank path) (signed none dot (both (leaf none name) remark_end))))
    or behind (word (codes "CONSTRAINT") (seen (λ x. stmt.Comment (commented.Constraint x.1.0 x.0) x.1.1) (elim [ stmt.Comment (commented.Constraint q n) text ↦ Some (n, (q, text)) | _ ↦ None ])
    (both (leaf blank name) (led blank (codes "ON") path_remarked)))))))))))

-- ---- statements

unfoldable pub setting : Syntax Stmt
setting = kind (λ x. stmt.Set x.0 x.1.1) (elim [ stmt.Set n value ↦ Some (n, (tt, value)) | _ ↦ None ]) (both (leaf blank name) (both (leaf blank equals) (leaf blank expression)))

-- COPY up to its semicolon. Its rows are no tokens.
unfoldable pub copy_from : Syntax Stmt
copy_from =
    kind (λ x. stmt.CopyRows x.0 x.1 []) (elim [ stmt.CopyRows q names [] ↦ Some (q, names) | _ ↦ None ])
    (both (leaf blank path) (worded (worded (leaf none some_columns) blank (codes "FROM")) blank (codes "stdin")))

abbrev pub first : List ℕ → Syntax Stmt → Branch Stmt
first w s = record { gap = given; word = w; rest = s }

-- by its first word
unfoldable pub command : Syntax Stmt
command =
    first (codes "CREATE") created
    or (first (codes "ALTER") altered
    or (first (codes "SELECT") selected
    or (first (codes "SET") setting
    or (first (codes "COPY") copy_from
    or (first (codes "GRANT") (leaf none granted)
    or (first (codes "REVOKE") (leaf none revoked)
    or behind (first (codes "COMMENT") (led blank (codes "ON") commented_object))))))))

-- a semicolon alone is an empty statement
unfoldable pub statement : Part (Option Stmt)
statement = choose semicolon (seen_part (λ x. None) (mark semicolon)) (seen_part Some (part command))
