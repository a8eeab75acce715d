-- What a syntax owes beside what is computed: functions back are right, and no value of a second kind is one of the first.
use Rattle.ddl_forms.proofs.Common.{◌≡◌, ℕ, Bool, true, false, List, Option, Some, Rights, Granted}
use Rattle.cat_model.specs.declared.grant.Grantee.{Grantee}
use Rattle.cat_model.specs.declared.stmt.Stmt.TheVariants as stmt
use Rattle.ddl_grammar.specs.LeafParts.{Leaf, granted, revoked}
use Rattle.ddl_grammar.specs.Syntax.{Syntax, leaf, led, signed, both, ended, either, worded, seen, tabled, has, Fits}

-- no value of a leaf is one of this: of GRANT and REVOKE, none of their statements
unfoldable pub LeafApart : {A : Type 0} → (A → Bool) → Leaf A → Type 0
LeafApart has granted =
    ((object : Granted) (rights : Rights) (who : Grantee) (option : Bool) → has (stmt.Grant object rights who option) ≡ false)
    × ((role member : List ℕ) (grantor : Option (List ℕ)) (admin : Bool) (inherit : Option Bool) (may_set : Bool) → has (stmt.GrantRole role member grantor admin inherit may_set) ≡ false)
LeafApart has revoked = (object : Granted) (rights : Rights) (who : Grantee) → has (stmt.Revoke object rights who) ≡ false
LeafApart {A} has l = (v : A) → has v ≡ false

-- no value of the other is one of this
unfoldable pub Apart : {A : Type 0} → (A → Bool) → Syntax A → Type 0
Apart has (leaf gap l) = LeafApart has l
Apart has (led gap w s) = Apart has s
Apart has (signed gap b s) = Apart has s
Apart has (both s t) = ⊥
Apart has (ended s gap b) = Apart has s
Apart has (worded s gap w) = Apart has s
Apart has (seen {A} f back s) = (v : A) → has (f v) ≡ false
Apart has (either gap w s t) = Apart has s × Apart has t
Apart has (tabled s t) = ⊥

unfoldable pub Owes : {A : Type 0} → Syntax A → Type 0
Owes (leaf gap l) = Unit {0}
Owes (led gap w s) = Owes s
Owes (signed gap b s) = Owes s
Owes (both s t) = Owes s × Owes t
Owes (ended s gap b) = Owes s
Owes (worded s gap w) = Owes s
Owes (seen {A} f back s) = ((v : A) → back (f v) ≡ Some v) × Owes s
Owes (either gap w s t) = Apart (has s) t × Owes s × Owes t
Owes (tabled {A} s t) = ((v : A) → has s v ≡ true → Fits t v → Fits s v) × Owes s × Owes t
