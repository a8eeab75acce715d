-- Constraints and indexes of tables are equal by their tables and names.
use Rattle.std.proofs.Common.{◌≡◌, Bool, true, false, ◌&&◌, refl, ap, sym, ◌∙◌}
use Rattle.std.specs.Cmp.{both_ways, first_so, second_so}
use Rattle.cat_model.specs.declared.object.QName.{QName}
use Rattle.cat_model.specs.declared.key.Key.{Key}
use Rattle.cat_model.specs.declared.key.Key.TheVariants as key
use Rattle.cat_model.specs.Keys.{key_eq}
use Rattle.cat_model.specs.KeyLaws.{key_eq-same}
use Rattle.cat_model.specs.Values.{Bytes}
use Rattle.cat_model.specs.Lexemes.{same_text}
use Rattle.cat_model.specs.Trees.{same_path}
use Rattle.cat_model.proofs.MarkLaws.{same_path-equal, same_text-equal, same_path-self, same_text-self, both_true, key_eq-of}

part_from : (p q : QName) (x y : Bytes) → same_path p q && same_text x y ≡ true → (p ≡ q) × (x ≡ y)
part_from p q x y h = (same_path-equal p q (first_so (same_path p q) (same_text x y) h), same_text-equal x y (second_so (same_path p q) (same_text x y) h))

part_to : (p q : QName) (x y : Bytes) → p ≡ q → x ≡ y → same_path p q && same_text x y ≡ true
part_to p q x y e g = rw (e, g) (both_true (same_path q q) (same_text y y) (same_path-self q) (same_text-self y))

pub constraint_parts : (p q : QName) (x y : Bytes) → same_path p q && same_text x y ≡ key_eq (key.Con p x) (key.Con q y)
constraint_parts p q x y = both_ways (same_path p q && same_text x y) (key_eq (key.Con p x) (key.Con q y))
    (λ h. let e = part_from p q x y h in key_eq-of (key.Con p x) (key.Con q y) (λ i. key.Con (e.0 i) (e.1 i)))
    (λ h. let e : key.Con p x ≡ key.Con q y = key_eq-same (key.Con p x) (key.Con q y) h in
    let paths : p ≡ q = cc in
    let names : x ≡ y = cc in
    part_to p q x y paths names)

pub index_parts : (p q : QName) (x y : Bytes) → same_path p q && same_text x y ≡ key_eq (key.Index p x) (key.Index q y)
index_parts p q x y = both_ways (same_path p q && same_text x y) (key_eq (key.Index p x) (key.Index q y))
    (λ h. let e = part_from p q x y h in key_eq-of (key.Index p x) (key.Index q y) (λ i. key.Index (e.0 i) (e.1 i)))
    (λ h. let e : key.Index p x ≡ key.Index q y = key_eq-same (key.Index p x) (key.Index q y) h in
    let paths : p ≡ q = cc in
    let names : x ≡ y = cc in
    part_to p q x y paths names)

pub ruleset same_parts = (constraint_parts, index_parts)
