-- A COPY writes the rows of its table, and reads those of the parents that it is given.
use Rattle.std.proofs.Common.{◌≡◌, Bool, true, false, ◌&&◌, ◌||◌, List, [], ◌∷◌, refl, ap, sym, ◌∙◌}
use Rattle.std.specs.Prelude.{if◌then◌else◌}
use Rattle.std.specs.List.{list_any}
use Rattle.std.specs.Cmp.{both_ways}
use Rattle.cat_model.specs.declared.object.QName.{QName}
use Rattle.cat_model.specs.declared.key.Key.TheVariants as key
use Rattle.cat_model.specs.declared.class.Mark.TheVariants as mark
use Rattle.cat_model.specs.declared.stmt.Stmt.TheVariants as stmt
use Rattle.cat_model.specs.Keys.{key_eq}
use Rattle.cat_model.specs.KeyLaws.{key_eq-same}
use Rattle.cat_model.specs.Footprints.{footprint_of, is_given, parent_reads}
use Rattle.cat_model.specs.Marks.{meets, conflict}
use Rattle.cat_model.specs.Trees.{same_path}
use Rattle.cat_model.specs.Values.{Bytes}
use Rattle.cat_model.proofs.MarkLaws.{same_path-equal, same_path-self, key_eq-of}
use Rattle.model_laws.proofs.examples.copies_meet_where_paired.Goals as goal

same_rows : (p q : QName) → key_eq (key.Rows p) (key.Rows q) ≡ same_path p q
same_rows p q = both_ways (key_eq (key.Rows p) (key.Rows q)) (same_path p q)
    (λ h. let e : key.Rows p ≡ key.Rows q = key_eq-same (key.Rows p) (key.Rows q) h in
    let paths : p ≡ q = cc in
    ap (same_path p) (sym paths) ∙ same_path-self p)
    (λ h. key_eq-of (key.Rows p) (key.Rows q) (ap key.Rows (same_path-equal p q h)))

turned : (p q : QName) → same_path p q ≡ same_path q p
turned p q = both_ways (same_path p q) (same_path q p)
    (λ h. ap (same_path q) (same_path-equal p q h) ∙ same_path-self q)
    (λ h. ap (same_path p) (same_path-equal q p h) ∙ same_path-self p)

given_rows : (r q : QName) (pairs : List (QName × QName)) → list_any (meets (mark.Key (key.Rows r))) (parent_reads q pairs) ≡ is_given pairs q r
given_rows r q [] = refl
given_rows r q (pair ∷ pairs) = either (same_path q pair.0) (given_rows r q pairs)
  where
    either : (b : Bool) → list_any (meets (mark.Key (key.Rows r))) (parent_reads q pairs) ≡ is_given pairs q r → list_any (meets (mark.Key (key.Rows r))) (if b then mark.Key (key.Rel pair.1) ∷ mark.Key (key.Rows pair.1) ∷ parent_reads q pairs else parent_reads q pairs) ≡ ((b && same_path r pair.1) || is_given pairs q r)
    either true more =
        ap (λ (b : Bool). b || list_any (meets (mark.Key (key.Rows r))) (parent_reads q pairs)) (same_rows r pair.1)
        ∙ ap (λ (b : Bool). same_path r pair.1 || b) more
    either false more = more

-- what the parts of the conflict come to
abbrev joined : Bool → Bool → Bool → Bool → Bool
joined a b x y = ((a || x) || false) || (((a || false) || false) || ((b || y) || false))

apart : (x y : Bool) → joined false false x y ≡ (x || y)
apart true y = refl
apart false true = refl
apart false false = refl

pub returns : goal.returns
returns c = λ p q some more rows others parents h.
    let one : key_eq (key.Rows p) (key.Rows q) ≡ false = same_rows p q ∙ h in
    let two : key_eq (key.Rows q) (key.Rows p) ≡ false = same_rows q p ∙ turned q p ∙ h in
    ap (λ (a : Bool). joined a (key_eq (key.Rows q) (key.Rows p)) (list_any (meets (mark.Key (key.Rows p))) (parent_reads q parents)) (list_any (meets (mark.Key (key.Rows q))) (parent_reads p parents))) one
    ∙ ap (λ (b : Bool). joined false b (list_any (meets (mark.Key (key.Rows p))) (parent_reads q parents)) (list_any (meets (mark.Key (key.Rows q))) (parent_reads p parents))) two
    ∙ ap (λ (x : Bool). joined false false x (list_any (meets (mark.Key (key.Rows q))) (parent_reads p parents))) (given_rows p q parents)
    ∙ ap (joined false false (is_given parents q p)) (given_rows q p parents)
    ∙ apart (is_given parents q p) (is_given parents p q)
