-- The laws of writing statements: what is computed of their syntax, what it owes, and what follows of both.
use Rattle.ddl_forms.proofs.Common.{◌≡◌, ℕ, Bool, true, false, cond, List, [], ◌∷◌, ◌++◌, ap, before_end_mark, lines_nil, Some, inl, inr, refl, arith, joined, Lexeme, spelled, semicolon, Stmt}
use Rattle.ddl_forms.proofs.{Behind.End, Behind.admits, Closing.Closes, Tokens.Gap, Tokens.none as no_gap, Tokens.is_single, Written.is_key, Written.mark_closes, Putting.put_as, Putting.Follows, Putting.IsPut, Putting.Yields}
use Rattle.ddl_grammar.specs.Syntax.{part, Fits, pieces, has}
use Rattle.ddl_grammar.specs.LeafParts.{leaf_has}
use Rattle.ddl_grammar.specs.{Rows.AreRows, Rows.with_feeds, Rows.rows_in, Respelling.IsWritable}
use Rattle.cat_model.specs.declared.stmt.Stmt.TheVariants as stmt
use Rattle.cat_model.specs.declared.object.QName.{QName}
use Rattle.ddl_grammar.specs.{declared.alters.TableChange.TableChange, declared.alters.TableChange.TheVariants.Owner}
use Rattle.ddl_grammar.specs.Grammar.{DomainChange, SequenceChange, change_of, table_changed, domain_change_of, domain_changed, sequence_change_of, sequence_changed, command, created, created_relation, create_enum, create_domain, create_table, create_database, index_body, altered, altered_domain, altered_table, altered_sequence, own_change, table_change, constraint_body, new_owner, selected, set_value, setting, copy_from, commented_object, path_remarked, remark_end, statement}
use Rattle.ddl_syntax_laws.proofs.{Shapes.begins_with, Shapes.Said, LeafFacts.leaf_as, LeafFacts.leaf_sound, LeafFacts.leaf_shape, Owing.Owes, Owing.Apart, Owing.LeafApart, Said.shape, Said.sound, Said.said}

-- ---- what is computed

-- nothing stands behind it, and a semicolon ends it
computed : (sound command ≡ true) × ((shape command).after ≡ End) × ((shape command).closed ≡ true)
unfolding command created created_relation create_enum create_domain create_table create_database index_body altered altered_domain altered_table altered_sequence own_change table_change constraint_body new_owner selected set_value setting copy_from commented_object path_remarked remark_end sound shape begins_with leaf_sound leaf_shape leaf_as is_single is_key
computed = (refl, refl, refl)

-- ---- what is owed

created_owes : Owes created
unfolding created created_relation create_enum create_domain create_table create_database index_body has leaf_has Owes Apart LeafApart
created_owes = search arith

commented_owes : Owes commented_object
unfolding commented_object path_remarked remark_end has leaf_has Owes Apart LeafApart
commented_owes = search arith

selected_owes : Owes selected
unfolding selected set_value has leaf_has Owes Apart LeafApart
selected_owes = search arith

pub constraint_owes : Owes constraint_body
unfolding constraint_body has leaf_has Owes Apart LeafApart
constraint_owes = search arith

-- what changes of a table, of a domain and of a sequence, by cases
pub table_back : (q : QName) (c : TableChange) → change_of (table_changed q c) ≡ Some (q, c)
table_back q c = grind arith

domain_back : (q : QName) (c : DomainChange) → domain_change_of (domain_changed q c) ≡ Some (q, c)
domain_back q c = grind arith

sequence_back : (q : QName) (c : SequenceChange) → sequence_change_of (sequence_changed q c) ≡ Some (q, c)
sequence_back q c = grind arith

-- a change that is one of the table alone is written as such
own_fits : (c : TableChange) → has own_change c ≡ true → Fits table_change c → Fits own_change c
unfolding own_change table_change has Fits
own_fits (Owner role) e fit = absurd cc
own_fits c e fit = fit

altered_owes : Owes altered
unfolding altered altered_domain altered_table altered_sequence own_change table_change new_owner has leaf_has Owes Apart LeafApart
altered_owes = search (arith, table_back, domain_back, sequence_back, own_fits, constraint_owes)

pub command_owes : Owes command
unfolding command created created_relation create_enum create_domain create_table create_database index_body altered altered_domain altered_table altered_sequence selected set_value setting copy_from commented_object has leaf_has Owes Apart LeafApart
command_owes = search (arith, created_owes, altered_owes, selected_owes, commented_owes)

-- ---- what follows

command_said : {g : List ℕ} → Gap g → Said (part command) (Fits command) (pieces g command) (shape command)
command_said gap = said gap command computed.0 command_owes

-- what tokens spell can be written
pub command_made : Yields (Fits command) (part command)
command_made = (command_said no_gap).made

-- what stands before it is the first of its text, and stands nowhere else in it
given_or : (b : Bool) (g : List ℕ) (a t u : List (List ℕ)) → joined t ≡ g ++ joined u → joined (cond b (g ∷ a) t) ≡ g ++ joined (cond b ([] ∷ a) u)
given_or true g a t u e = refl
given_or false g a t u e = e

pub command_text : (g : List ℕ) (s : Stmt) → joined (pieces g command s) ≡ g ++ joined (pieces [] command s)
unfolding pieces command created created_relation create_enum create_domain create_table create_database index_body altered altered_domain altered_table altered_sequence own_change table_change constraint_body new_owner selected set_value setting copy_from commented_object path_remarked remark_end
command_text g s = search given_or depth 12

-- ---- statements, of which a semicolon alone is one

-- what can be written lies in tokens that spell it, before none or nothing that they go on with
pub statement_put : {g : List ℕ} → Gap g → (s : Stmt) → Fits command s → (others : List Lexeme) → Follows others → admits End (spelled others) ≡ true → IsPut statement (Some s) (joined (pieces g command s)) others
unfolding statement
statement_put {g = g} gap s fit others follows e = put_as (part command) statement s (Some s) (joined (pieces g command s)) others ((command_said gap).put s fit others follows (rw computed.1 e)) (λ ts h. inr (s, refl, h))

pub statement_closes : Closes semicolon statement
unfolding statement
statement_closes o ts spells = elim spells [ inl h ↦ mark_closes semicolon h.0 ts h.2 | inr h ↦ (command_said no_gap).closes computed.2 h.0 ts h.2 ]

-- ---- what can be written of a statement that was read

no_rows : AreRows []
unfolding rows_in
no_rows = ap with_feeds (ap before_end_mark lines_nil)

-- no row of COPY is read by its tokens, and no line
pub fits_writable : (s : Stmt) → Fits command s → IsWritable s
unfolding command created created_relation create_enum create_domain create_table create_database altered altered_domain altered_table altered_sequence selected set_value setting copy_from commented_object has leaf_has Fits
fits_writable (stmt.CopyRows q columns []) fit = (fit, no_rows)
fits_writable (stmt.CopyRows q columns (b ∷ rows)) fit = absurd fit
fits_writable (stmt.Connect n) fit = absurd fit
fits_writable s fit = fit
