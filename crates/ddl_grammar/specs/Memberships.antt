-- The grammar of GRANT of a role, behind the role's name.
use Rattle.std.specs.Prelude.{ℕ, Bool, true, false, List, [], ◌∷◌, Option, Some, None, if◌then◌else◌, codes}
use Rattle.cat_model.specs.declared.stmt.Stmt.{Stmt}
use Rattle.cat_model.specs.declared.stmt.Stmt.TheVariants as stmt
use Rattle.ddl_parts.specs.{Lexemes.Lexeme, Lexemes.is_word, Lexemes.is_sign, Lexemes.starts, Parts.Part, Parts.seen, Parts.mark, Parts.choose, Parts.one_of, Parts.nothing, Parts.◌then◌, Parts.◌▸◌, Parts.◌◂◌, Leaves.name, Lists.comma}
use Rattle.ddl_grammar.specs.Values.{by_first}

-- ---- TRUE, FALSE or OPTION

unfoldable pub truth_first : List Lexeme → Option Bool
truth_first ts =
    if starts (is_word (codes "true")) ts then Some true
    else (if starts (is_word (codes "option")) ts then Some true
    else (if starts (is_word (codes "false")) ts then Some false else None))

abbrev pub truth : Part Bool
truth = by_first truth_first

-- ---- options

-- , SET x; it may be left out and is then true
unfoldable pub set_behind : Part Bool
set_behind = choose comma (comma ▸ (is_word (codes "set") ▸ truth)) (nothing comma true)

-- INHERIT x[, SET x] or SET x
unfoldable pub inherit_and_set : Part (Option Bool × Bool)
inherit_and_set =
    one_of (record { key = codes "inherit"; part = seen (λ x. (Some x.0, x.1)) (truth then set_behind) })
    (record { key = codes "set"; part = seen (λ b. (None, b)) truth } ∷ [])

-- the same behind a comma, where they may be left out
unfoldable pub others_behind : Part (Option Bool × Bool)
others_behind = choose comma (comma ▸ inherit_and_set) (nothing comma (None, true))

-- ADMIN x and the others, or the others alone
unfoldable pub options : Part (Bool × (Option Bool × Bool))
options = choose (is_word (codes "admin")) (is_word (codes "admin") ▸ (truth then others_behind)) (seen (λ x. (false, x)) inherit_and_set)

-- WITH and options; they may be left out
unfoldable pub with_options : Part (Bool × (Option Bool × Bool))
with_options = choose (is_word (codes "with")) (is_word (codes "with") ▸ options) (nothing (is_word (codes "with")) (false, (None, true)))

-- GRANTED BY name; or the semicolon alone
unfoldable pub granted_by : Part (Option (List ℕ))
granted_by =
    choose (is_word (codes "granted")) (seen Some (is_word (codes "granted") ▸ (is_word (codes "by") ▸ (name ◂ is_sign 59))))
    (seen (λ x. None) (mark (is_sign 59)))

-- a member, its options and who grants it
abbrev pub Member : Type 0
Member = List ℕ × ((Bool × (Option Bool × Bool)) × Option (List ℕ))

unfoldable pub member : Part Member
member = name then (with_options then granted_by)

abbrev pub member_of : List ℕ → Member → Stmt
member_of role x = stmt.GrantRole role x.0 x.1.1 x.1.0.0 x.1.0.1.0 x.1.0.1.1

-- TO member[ WITH options][ GRANTED BY name];
unfoldable pub membership : List ℕ → Part Stmt
membership role = is_word (codes "to") ▸ seen (member_of role) member
