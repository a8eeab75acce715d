-- Conflicts go both ways.
use Rattle.std.proofs.Common.{◌≡◌, Bool, true, false, ◌&&◌, ◌||◌, List, [], ◌∷◌, Option, Some, None, refl, ap, sym, ◌∙◌}
use Rattle.std.specs.List.{list_any}
use Rattle.std.specs.Cmp.{eq_by_cmp_equiv}
use Rattle.std.proofs.lemmas.Cmp.{nat_list_eq_equiv}
use Rattle.cat_model.specs.declared.object.QName.{QName}
use Rattle.cat_model.specs.declared.key.Key.{Key}
use Rattle.cat_model.specs.declared.key.Key.TheVariants as key
use Rattle.cat_model.specs.declared.class.Class.{Class}
use Rattle.cat_model.specs.declared.class.Class.TheVariants as class
use Rattle.cat_model.specs.declared.class.Mark.{Mark}
use Rattle.cat_model.specs.declared.class.Mark.TheVariants as mark
use Rattle.cat_model.specs.declared.footprint.Footprint.{Footprint}
use Rattle.cat_model.specs.KeyLaws.{key_cmp_total}
use Rattle.cat_model.specs.Keys.{key_eq}
use Rattle.cat_model.specs.Lexemes.{same_text}
use Rattle.cat_model.specs.Trees.{same_path}
use Rattle.cat_model.specs.Values.{Bytes}
use Rattle.cat_model.specs.Marks.{meets, any_meet, conflict, classes_meet, same_table, table_of}
use Rattle.restore_core.proofs.Booleans.{or_first_false, or_second_false, or_false}

key-both : (a b : Key) → key_eq a b ≡ key_eq b a
key-both a b = (eq_by_cmp_equiv key_cmp_total).symm a b

text-both : (a b : Bytes) → same_text a b ≡ same_text b a
text-both a b = nat_list_eq_equiv.symm a b

both-parts : (a b c d : Bool) → a ≡ c → b ≡ d → a && b ≡ c && d
both-parts a b c d e g = ap (λ (x : Bool). x && b) e ∙ ap (λ (x : Bool). c && x) g

path-both : (p q : QName) → same_path p q ≡ same_path q p
path-both p q = both-parts (same_text p.schema q.schema) (same_text p.name q.name) (same_text q.schema p.schema) (same_text q.name p.name) (text-both p.schema q.schema) (text-both p.name q.name)

table-both : (p q : Option QName) → same_table p q ≡ same_table q p
table-both None None = refl
table-both None (Some q) = refl
table-both (Some p) None = refl
table-both (Some p) (Some q) = path-both p q

classes-both : (c d : Class) → classes_meet c d ≡ classes_meet d c
classes-both (class.Members r m) (class.Members s n) = both-parts (same_text r s) (same_text m n) (same_text s r) (same_text n m) (text-both r s) (text-both m n)
classes-both (class.Members r m) (class.Constraints t) = refl
classes-both (class.Members r m) (class.Indexes t) = refl
classes-both (class.Members r m) (class.PrimaryKeys t) = refl
classes-both (class.Members r m) (class.KeysOn t cs) = refl
classes-both (class.Constraints t) (class.Members r m) = refl
classes-both (class.Constraints t) (class.Constraints u) = path-both t u
classes-both (class.Constraints t) (class.Indexes u) = path-both t u
classes-both (class.Constraints t) (class.PrimaryKeys u) = path-both t u
classes-both (class.Constraints t) (class.KeysOn u cs) = path-both t u
classes-both (class.Indexes t) (class.Members r m) = refl
classes-both (class.Indexes t) (class.Constraints u) = path-both t u
classes-both (class.Indexes t) (class.Indexes u) = path-both t u
classes-both (class.Indexes t) (class.PrimaryKeys u) = path-both t u
classes-both (class.Indexes t) (class.KeysOn u cs) = path-both t u
classes-both (class.PrimaryKeys t) (class.Members r m) = refl
classes-both (class.PrimaryKeys t) (class.Constraints u) = path-both t u
classes-both (class.PrimaryKeys t) (class.Indexes u) = path-both t u
classes-both (class.PrimaryKeys t) (class.PrimaryKeys u) = path-both t u
classes-both (class.PrimaryKeys t) (class.KeysOn u cs) = path-both t u
classes-both (class.KeysOn t cs) (class.Members r m) = refl
classes-both (class.KeysOn t cs) (class.Constraints u) = path-both t u
classes-both (class.KeysOn t cs) (class.Indexes u) = path-both t u
classes-both (class.KeysOn t cs) (class.PrimaryKeys u) = path-both t u
classes-both (class.KeysOn t cs) (class.KeysOn u ds) = path-both t u

meets-both : (m n : Mark) → meets m n ≡ meets n m
meets-both (mark.Key j) (mark.Key k) = key-both j k
meets-both (mark.Key j) (mark.NewConstraint t name kind cs) = key-both j (key.Con t name)
meets-both (mark.Key j) (mark.NewIndex t name on) = key-both j (key.Index t name)
meets-both (mark.Key j) (mark.Class c) = refl
meets-both (mark.NewConstraint t name kind cs) (mark.Key k) = key-both (key.Con t name) k
meets-both (mark.NewConstraint t name kind cs) (mark.NewConstraint u other sort ds) = key-both (key.Con t name) (key.Con u other)
meets-both (mark.NewConstraint t name kind cs) (mark.NewIndex u other on) = key-both (key.Con t name) (key.Index u other)
meets-both (mark.NewConstraint t name kind cs) (mark.Class c) = refl
meets-both (mark.NewIndex t name on) (mark.Key k) = key-both (key.Index t name) k
meets-both (mark.NewIndex t name on) (mark.NewConstraint u other sort ds) = key-both (key.Index t name) (key.Con u other)
meets-both (mark.NewIndex t name on) (mark.NewIndex u other off) = key-both (key.Index t name) (key.Index u other)
meets-both (mark.NewIndex t name on) (mark.Class c) = refl
meets-both (mark.Class c) (mark.Key k) = refl
meets-both (mark.Class c) (mark.NewConstraint u other sort ds) = refl
meets-both (mark.Class c) (mark.NewIndex u other on) = refl
meets-both (mark.Class c) (mark.Class d) = classes-both c d

-- none of the marks meets this one
none-meets : (m : Mark) (ns : List Mark) → list_any (meets m) ns ≡ false → list_any (λ n. meets n m) ns ≡ false
none-meets m [] h = refl
none-meets m (n ∷ ns) h =
    or_false (meets n m) (list_any (λ x. meets x m) ns) (meets-both n m ∙ or_first_false (meets m n) (list_any (meets m) ns) h) (none-meets m ns (or_second_false (meets m n) (list_any (meets m) ns) h))

with-one : (m : Mark) (ms ns : List Mark) → list_any (λ n. meets n m) ns ≡ false → any_meet ns ms ≡ false → any_meet ns (m ∷ ms) ≡ false
with-one m ms [] h g = refl
with-one m ms (n ∷ ns) h g =
    or_false (meets n m || list_any (meets n) ms) (any_meet ns (m ∷ ms))
    (or_false (meets n m) (list_any (meets n) ms) (or_first_false (meets n m) (list_any (λ x. meets x m) ns) h) (or_first_false (list_any (meets n) ms) (any_meet ns ms) g))
    (with-one m ms ns (or_second_false (meets n m) (list_any (λ x. meets x m) ns) h) (or_second_false (list_any (meets n) ms) (any_meet ns ms) g))

with-none : (ns : List Mark) → any_meet ns [] ≡ false
with-none [] = refl
with-none (n ∷ ns) = with-none ns

any-both : (ms ns : List Mark) → any_meet ms ns ≡ false → any_meet ns ms ≡ false
any-both [] ns h = with-none ns
any-both (m ∷ ms) ns h =
    with-one m ms ns (none-meets m ns (or_first_false (list_any (meets m) ns) (any_meet ms ns) h)) (any-both ms ns (or_second_false (list_any (meets m) ns) (any_meet ms ns) h))

pub conflict-both : (f g : Footprint) → conflict f g ≡ false → conflict g f ≡ false
conflict-both f g h =
    let later : any_meet f.writes g.writes || any_meet g.writes f.reads ≡ false = or_second_false (any_meet f.writes g.reads) (any_meet f.writes g.writes || any_meet g.writes f.reads) h in
    or_false (any_meet g.writes f.reads) (any_meet g.writes f.writes || any_meet f.writes g.reads) (or_second_false (any_meet f.writes g.writes) (any_meet g.writes f.reads) later)
    (or_false (any_meet g.writes f.writes) (any_meet f.writes g.reads)
    (any-both f.writes g.writes (or_first_false (any_meet f.writes g.writes) (any_meet g.writes f.reads) later))
    (or_first_false (any_meet f.writes g.reads) (any_meet f.writes g.writes || any_meet g.writes f.reads) h))
