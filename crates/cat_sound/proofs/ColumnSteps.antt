-- The columns of a new table: their types are there and end, and their names are those that the statement gives.
use Rattle.std.proofs.Common.{◌≡◌, Bool, true, false, ◌||◌, List, [], ◌∷◌, map, suc, length, refl, ap, sym, subst, ◌∙◌, inl, inr}
use Rattle.std.specs.List.{AllByRecursion, flat_map}
use Rattle.cat_model.specs.declared.object.QName.{QName}
use Rattle.cat_model.specs.declared.key.Key.TheVariants as key
use Rattle.cat_model.specs.declared.table.ColumnDef.{ColumnDef}
use Rattle.cat_model.specs.declared.value.Column.{Column}
use Rattle.cat_model.specs.declared.value.Resolved.{Resolved}
use Rattle.cat_model.specs.Values.{Bytes, Named}
use Rattle.cat_model.specs.Lexemes.{same_text}
use Rattle.cat_model.specs.Tables.{column_there}
use Rattle.cat_model.specs.Trees.{Tree}
use Rattle.cat_model.specs.TypeEffects.{but, default_references}
use Rattle.cat_model.specs.RelationEffects.{needs_columns}
use Rattle.cat_model.proofs.MarkLaws.{same_text-self}
use Rattle.cat_sound.specs.Texts.{Texts}
use Rattle.cat_sound.specs.Asks.{column_asks}
use Rattle.cat_sound.specs.Itself.{IsTyped}
use Rattle.cat_sound.specs.Fit.{AreFitColumns}
use Rattle.cat_sound.specs.Sound.{IsMet, IsSound}
use Rattle.cat_sound.proofs.Lists.{IsIn, all-append}
use Rattle.cat_sound.proofs.References.{AreThere}
use Rattle.cat_sound.proofs.TreeSteps.{Keeps, keeps_needs_each}
use Rattle.cat_sound.proofs.TypeSteps.{ComesTo, keeps_type}

-- a column as its definition with its type resolved
abbrev pub column_of : ColumnDef → Resolved → Column
column_of c end = record { name = c.name; type_name = c.type_name; resolved = end; not_null = c.not_null }

-- a resolved column, and what its default refers to is there, but the table itself
pub record IsResolved (named : Named) (q : QName) (c : ColumnDef) (column : Column) : Type 0 where
  pub end : Resolved
  pub is : column ≡ column_of c end
  pub comes : ComesTo named c.type_name end
  pub refs : AreThere named (but (key.Rel q) (default_references c.default))

abbrev pub AreResolved : Named → QName → List ColumnDef → List Column → Type 0
AreResolved named q [] [] = Unit {0}
AreResolved named q [] (column ∷ columns) = ⊥
AreResolved named q (c ∷ cs) [] = ⊥
AreResolved named q (c ∷ cs) (column ∷ columns) = IsResolved named q c column × AreResolved named q cs columns

module _ {texts : Texts} {named : Named} (sound : IsSound texts named) where
  pub keeps_columns : (q : QName) (cs : List ColumnDef) {then_do : List Column → Tree} → ((columns : List Column) → AreResolved named q cs columns → Keeps texts named (then_do columns)) → Keeps texts named (needs_columns q cs then_do)
  keeps_columns q [] step = step [] tt
  keeps_columns q (c ∷ cs) step =
      keeps_type sound c.type_name (λ end comes.
      keeps_needs_each sound (but (key.Rel q) (default_references c.default)) (λ refs.
      keeps_columns q cs (λ columns resolved. step (column_of c end ∷ columns) (record { end = end; is = refl; comes = comes; refs = refs }, resolved))))

module _ (named : Named) (q : QName) where
  pub names_same : (cs : List ColumnDef) (columns : List Column) → AreResolved named q cs columns → map (λ c. c.name) columns ≡ map (λ c. c.name) cs
  names_same [] [] resolved = refl
  names_same [] (column ∷ columns) resolved = elim resolved [ ]
  names_same (c ∷ cs) [] resolved = elim resolved [ ]
  names_same (c ∷ cs) (column ∷ columns) resolved =
      let name : column.name ≡ c.name = ap (λ (x : Column). x.name) resolved.0.is in
      let names : map (λ c. c.name) columns ≡ map (λ c. c.name) cs = names_same cs columns resolved.1 in
      λ i. name i ∷ names i

  pub count_same : (cs : List ColumnDef) (columns : List Column) → AreResolved named q cs columns → length columns ≡ length cs
  count_same [] [] resolved = refl
  count_same [] (column ∷ columns) resolved = elim resolved [ ]
  count_same (c ∷ cs) [] resolved = elim resolved [ ]
  count_same (c ∷ cs) (column ∷ columns) resolved = ap (λ n. suc n) (count_same cs columns resolved.1)

  pub columns_typed : (texts : Texts) (cs : List ColumnDef) (columns : List Column) → AreResolved named q cs columns → AreFitColumns texts cs → AllByRecursion (λ (c : Column). IsTyped texts c.type_name c.resolved) columns
  columns_typed texts [] [] resolved fit = tt
  columns_typed texts [] (column ∷ columns) resolved fit = elim resolved [ ]
  columns_typed texts (c ∷ cs) [] resolved fit = elim resolved [ ]
  columns_typed texts (c ∷ cs) (column ∷ columns) resolved fit = (
    subst (λ (x : Column). IsTyped texts x.type_name x.resolved) (sym resolved.0.is) (record { named = fit.0.named; ends = resolved.0.comes.own }),
    columns_typed texts cs columns resolved.1 fit.1,
  )

  pub columns_met : (cs : List ColumnDef) (columns : List Column) → AreResolved named q cs columns → AllByRecursion (IsMet named) (flat_map column_asks columns)
  columns_met [] [] resolved = tt
  columns_met [] (column ∷ columns) resolved = elim resolved [ ]
  columns_met (c ∷ cs) [] resolved = elim resolved [ ]
  columns_met (c ∷ cs) (column ∷ columns) resolved =
      all-append (IsMet named) (column_asks column) (flat_map column_asks columns)
      (subst (λ (x : Column). AllByRecursion (IsMet named) (column_asks x)) (sym resolved.0.is) resolved.0.comes.met)
      (columns_met cs columns resolved.1)

  -- a column that is defined is there, and what its default refers to
  abbrev pub IsDefined : List Column → ColumnDef → Type 0
  IsDefined columns c = (column_there columns c.name ≡ true) × AreThere named (but (key.Rel q) (default_references c.default))

  pub columns_defined : (cs : List ColumnDef) (columns : List Column) → AreResolved named q cs columns → (c : ColumnDef) → IsIn c cs → IsDefined columns c
  columns_defined [] columns resolved c among = elim among [ ]
  columns_defined (d ∷ cs) [] resolved c among = elim resolved [ ]
  columns_defined (d ∷ cs) (column ∷ columns) resolved c (inl same) =
      let name : c.name ≡ column.name = ap (λ (x : ColumnDef). x.name) (sym same) ∙ ap (λ (x : Column). x.name) (sym resolved.0.is) in
      let here : same_text c.name column.name ≡ true = subst (λ (n : Bytes). same_text c.name n ≡ true) name (same_text-self c.name) in
      (rw here refl, subst (λ (x : ColumnDef). AreThere named (but (key.Rel q) (default_references x.default))) same resolved.0.refs)
  columns_defined (d ∷ cs) (column ∷ columns) resolved c (inr later) =
      let more = columns_defined cs columns resolved.1 c later in
      (by (same_text c.name column.name) more.0, more.1)
    where
      by : (here : Bool) → column_there columns c.name ≡ true → here || column_there columns c.name ≡ true
      by true e = refl
      by false e = e
