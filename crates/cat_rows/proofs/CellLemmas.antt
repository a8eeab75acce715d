-- A field that is a cell of a kind is the field that is written for the cell, but for lists of rights.
use Rattle.std.proofs.Common.{◌≡◌, ◌≢◌, ℕ, ◌<◌, Bool, true, false, cond, ltb, List, [], ◌∷◌, Option, Some, None, refl, sym, ap, subst, ◌∙◌}
use Rattle.std.specs.Prelude.{codes}
use Rattle.std.specs.Option.{option_map}
use Rattle.std.specs.Str.{bytes_eq}
use Rattle.std.proofs.lemmas.Bool.{ltb-true}
use Rattle.std.proofs.lemmas.Slice.Eq.{bytes_eq-Decides}
use Rattle.copy_text.specs.Texts.{IsName, is_name}
use Rattle.copy_text.specs.Rows.{Field, IsField}
use Rattle.cat_rows.specs.declared.kind.ColKind.{ColKind}
use Rattle.cat_rows.specs.declared.kind.ColKind.TheVariants as kinds
use Rattle.cat_rows.specs.declared.cell.Cell.{Cell}
use Rattle.cat_rows.specs.declared.cell.Cell.TheVariants as cells
use Rattle.cat_rows.specs.Numbers.{oid_of, int_of}
use Rattle.cat_rows.specs.Cells.{bool_of, name_of, letter_of, cell_of, kind_of, field_of, IsCell}
use Rattle.acl_text.specs.declared.list.AclItem.{AclItem}
use Rattle.acl_text.specs.Acls.{acl_of, IsAcl}
use Rattle.cat_rows.proofs.NumberLemmas.{oid_of-spelled, oid_of-small, int_of-spelled, int_of-small}
use Rattle.cat_rows.proofs.WritingLemmas.{NameTests}

-- what was mapped
mapped : {A B : Type 0} (f : A → B) (o : Option A) (y : B) → option_map f o ≡ Some y → (x : A) × (o ≡ Some x) × (y ≡ f x)
mapped f (Some x) y is = (x, refl, cc)
mapped f None y is = absurd cc

bool_spelled : (text : List ℕ) (b : Bool) → bool_of text ≡ Some b → text ≡ cond b (codes "t") (codes "f")
bool_spelled text b is = by (bytes_eq text (codes "t")) refl (bytes_eq text (codes "f")) refl
  where
    by : (is_t : Bool) → bytes_eq text (codes "t") ≡ is_t → (is_f : Bool) → bytes_eq text (codes "f") ≡ is_f → text ≡ cond b (codes "t") (codes "f")
    by true t is_f f =
        let read : bool_of text ≡ Some true = rw t refl in
        let same : b ≡ true = cc in
        (bytes_eq-Decides text (codes "t")).0 t ∙ ap (λ (x : Bool). cond x (codes "t") (codes "f")) (sym same)
    by false t true f =
        let read : bool_of text ≡ Some false = rw (t, f) refl in
        let same : b ≡ false = cc in
        (bytes_eq-Decides text (codes "f")).0 f ∙ ap (λ (x : Bool). cond x (codes "t") (codes "f")) (sym same)
    by false t false f =
        let read : bool_of text ≡ None = rw (t, f) refl in
        absurd cc

name_spelled : (text name : List ℕ) → name_of text ≡ Some name → text ≡ name
name_spelled text name is = by (is_name text) refl
  where
    by : (valid : Bool) → is_name text ≡ valid → text ≡ name
    by true v = let read : name_of text ≡ Some text = rw v refl in cc
    by false v = let read : name_of text ≡ None = rw v refl in absurd cc

letter_spelled : (text : List ℕ) (b : ℕ) → letter_of text ≡ Some b → text ≡ b ∷ []
letter_spelled [] b is = absurd cc
letter_spelled (c ∷ d ∷ more) b is = absurd cc
letter_spelled (c ∷ []) b is = by (ltb c 128) refl
  where
    by : (small : Bool) → ltb c 128 ≡ small → c ∷ [] ≡ b ∷ []
    by true v = let read : letter_of (c ∷ []) ≡ Some c = rw v refl in cc
    by false v = let read : letter_of (c ∷ []) ≡ None = rw v refl in absurd cc

-- a cell that was read is of its column's kind
pub cell_of-kind : (kind : ColKind) (field : Field) (cell : Cell) → cell_of kind field ≡ Some cell → kind_of cell ≡ kind
unfolding cell_of
cell_of-kind kinds.Oid (Some text) cell is = let x = mapped cells.Oid (oid_of text) cell is in ap kind_of x.2
cell_of-kind kinds.Int (Some text) cell is = let x = mapped cells.Int (int_of text) cell is in ap kind_of x.2
cell_of-kind kinds.Bool (Some text) cell is = let x = mapped cells.Bool (bool_of text) cell is in ap kind_of x.2
cell_of-kind kinds.NameCol (Some text) cell is = let x = mapped cells.Name (name_of text) cell is in ap kind_of x.2
cell_of-kind kinds.TextCol (Some text) cell is = let x : cell ≡ cells.Text text = cc in ap kind_of x
cell_of-kind kinds.NullText field cell is = by field is
  where
    by : (field : Field) → cell_of kinds.NullText field ≡ Some cell → kind_of cell ≡ kinds.NullText
    by (Some text) is = let x : cell ≡ cells.NullText (Some text) = cc in ap kind_of x
    by None is = let x : cell ≡ cells.NullText None = cc in ap kind_of x
cell_of-kind kinds.Letter (Some text) cell is = let x = mapped cells.Letter (letter_of text) cell is in ap kind_of x.2
cell_of-kind kinds.Acl (Some text) cell is = let x = mapped (λ items. cells.Acl (Some items)) (acl_of text) cell is in ap kind_of x.2
cell_of-kind kinds.Acl None cell is = let x : cell ≡ cells.Acl None = cc in ap kind_of x
cell_of-kind kinds.Oid None cell is = absurd cc
cell_of-kind kinds.Int None cell is = absurd cc
cell_of-kind kinds.Bool None cell is = absurd cc
cell_of-kind kinds.NameCol None cell is = absurd cc
cell_of-kind kinds.TextCol None cell is = absurd cc
cell_of-kind kinds.Letter None cell is = absurd cc

-- each cell but a list of rights has one spelling
pub cell_of-spelled : (kind : ColKind) (field : Field) (cell : Cell) → kind ≢ kinds.Acl → cell_of kind field ≡ Some cell → field ≡ field_of cell
unfolding cell_of
cell_of-spelled kinds.Oid (Some text) cell other is =
    let x = mapped cells.Oid (oid_of text) cell is in
    ap Some (oid_of-spelled text x.0 x.1) ∙ ap field_of (sym x.2)
cell_of-spelled kinds.Int (Some text) cell other is =
    let x = mapped cells.Int (int_of text) cell is in
    ap Some (int_of-spelled text x.0 x.1) ∙ ap field_of (sym x.2)
cell_of-spelled kinds.Bool (Some text) cell other is =
    let x = mapped cells.Bool (bool_of text) cell is in
    ap Some (bool_spelled text x.0 x.1) ∙ ap field_of (sym x.2)
cell_of-spelled kinds.NameCol (Some text) cell other is =
    let x = mapped cells.Name (name_of text) cell is in
    ap Some (name_spelled text x.0 x.1) ∙ ap field_of (sym x.2)
cell_of-spelled kinds.TextCol (Some text) cell other is = let x : cells.Text text ≡ cell = cc in ap field_of x
cell_of-spelled kinds.NullText field cell other is = by field is
  where
    by : (field : Field) → cell_of kinds.NullText field ≡ Some cell → field ≡ field_of cell
    by (Some text) is = let x : cells.NullText (Some text) ≡ cell = cc in ap field_of x
    by None is = let x : cells.NullText None ≡ cell = cc in ap field_of x
cell_of-spelled kinds.Letter (Some text) cell other is =
    let x = mapped cells.Letter (letter_of text) cell is in
    ap Some (letter_spelled text x.0 x.1) ∙ ap field_of (sym x.2)
cell_of-spelled kinds.Acl field cell other is = absurd (other refl)
cell_of-spelled kinds.Oid None cell other is = absurd cc
cell_of-spelled kinds.Int None cell other is = absurd cc
cell_of-spelled kinds.Bool None cell other is = absurd cc
cell_of-spelled kinds.NameCol None cell other is = absurd cc
cell_of-spelled kinds.TextCol None cell other is = absurd cc
cell_of-spelled kinds.Letter None cell other is = absurd cc

-- ---- a cell that was read can be written

-- what a list of rights spells can be written
abbrev pub ListsWritten : Type 0
ListsWritten = (text : List ℕ) (items : List AclItem) → acl_of text ≡ Some items → IsAcl items

letter_small : (text : List ℕ) (b : ℕ) → letter_of text ≡ Some b → b < 128
letter_small [] b is = absurd cc
letter_small (c ∷ d ∷ more) b is = absurd cc
letter_small (c ∷ []) b is = by (ltb c 128) refl
  where
    by : (small : Bool) → ltb c 128 ≡ small → b < 128
    by true v =
        let read : letter_of (c ∷ []) ≡ Some c = rw v refl in
        let same : c ≡ b = cc in
        subst (λ (x : ℕ). x < 128) same (ltb-true c 128 v)
    by false v = let read : letter_of (c ∷ []) ≡ None = rw v refl in absurd cc

name_valid : NameTests → (text name : List ℕ) → name_of text ≡ Some name → IsName name
name_valid names text name is = by (is_name text) refl
  where
    by : (valid : Bool) → is_name text ≡ valid → IsName name
    by true v =
        let read : name_of text ≡ Some text = rw v refl in
        let same : text ≡ name = cc in
        subst IsName same ((names text).0 v)
    by false v = let read : name_of text ≡ None = rw v refl in absurd cc

pub cell_can_be_written : NameTests → ListsWritten → (kind : ColKind) (field : Field) (cell : Cell) → IsField field → cell_of kind field ≡ Some cell → IsCell cell
unfolding cell_of
cell_can_be_written names lists kinds.Oid (Some text) cell valid is =
    let x = mapped cells.Oid (oid_of text) cell is in
    subst IsCell (sym x.2) (oid_of-small text x.0 x.1)
cell_can_be_written names lists kinds.Int (Some text) cell valid is =
    let x = mapped cells.Int (int_of text) cell is in
    subst IsCell (sym x.2) (int_of-small text x.0 x.1)
cell_can_be_written names lists kinds.Bool (Some text) cell valid is =
    let x = mapped cells.Bool (bool_of text) cell is in
    subst IsCell (sym x.2) tt
cell_can_be_written names lists kinds.NameCol (Some text) cell valid is =
    let x = mapped cells.Name (name_of text) cell is in
    subst IsCell (sym x.2) (name_valid names text x.0 x.1)
cell_can_be_written names lists kinds.TextCol (Some text) cell valid is =
    let x : cells.Text text ≡ cell = cc in
    subst IsCell x valid
cell_can_be_written names lists kinds.NullText (Some text) cell valid is =
    let x : cells.NullText (Some text) ≡ cell = cc in
    subst IsCell x valid
cell_can_be_written names lists kinds.NullText None cell valid is =
    let x : cells.NullText None ≡ cell = cc in
    subst IsCell x tt
cell_can_be_written names lists kinds.Letter (Some text) cell valid is =
    let x = mapped cells.Letter (letter_of text) cell is in
    subst IsCell (sym x.2) (letter_small text x.0 x.1)
cell_can_be_written names lists kinds.Acl (Some text) cell valid is =
    let x = mapped (λ items. cells.Acl (Some items)) (acl_of text) cell is in
    subst IsCell (sym x.2) (lists text x.0 x.1)
cell_can_be_written names lists kinds.Acl None cell valid is =
    let x : cells.Acl None ≡ cell = cc in
    subst IsCell x tt
cell_can_be_written names lists kinds.Oid None cell valid is = absurd cc
cell_can_be_written names lists kinds.Int None cell valid is = absurd cc
cell_can_be_written names lists kinds.Bool None cell valid is = absurd cc
cell_can_be_written names lists kinds.NameCol None cell valid is = absurd cc
cell_can_be_written names lists kinds.TextCol None cell valid is = absurd cc
cell_can_be_written names lists kinds.Letter None cell valid is = absurd cc
