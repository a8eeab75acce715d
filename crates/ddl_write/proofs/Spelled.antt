-- A statement's text by the pieces that are appended.
use Rattle.std.proofs.Common.{◌≡◌, ℕ, List, [], ◌∷◌, ◌++◌, refl, ap, ◌∙◌, sym, append_assoc, codes}
use Rattle.std.proofs.lemmas.Grind.{flat_map-append}
use Rattle.cat_model.specs.declared.stmt.Stmt.{Stmt}
use Rattle.cat_model.specs.declared.grant.Owned.TheVariants as owned
use Rattle.cat_model.specs.declared.grant.Commented.TheVariants as commented
use Rattle.cat_model.specs.declared.stmt.Stmt.TheVariants as stmt
use Rattle.ddl_spelling.specs.{Paths.joined, RowsText.last_line}
use Rattle.ddl_grammar.specs.{Grammar.command, Syntax.pieces, Respelling.in_words, Respelling.spelling}
use Rattle.ddl_write.specs.Said.{in_tokens, said}

feed_behind : (s : Stmt) → in_tokens s ≡ in_words s
unfolding in_words
feed_behind s = flat_map-append (λ (text : List ℕ). text) (pieces [] command s) (codes "\n" ∷ [])

pub spells : (s : Stmt) → said s ≡ spelling s
unfolding said spelling in_words
spells (stmt.CopyRows q columns rows) =
    let texts : List (List ℕ) = pieces [] command (stmt.CopyRows q columns []) in
    flat_map-append (λ (text : List ℕ). text) texts (codes "\n" ∷ rows ∷ last_line ∷ []) ∙ sym (append_assoc (joined texts) (codes "\n") (rows ++ last_line))
spells (stmt.Connect name) = refl
spells (stmt.OwnerTo (owned.Schema n) role) = feed_behind (stmt.OwnerTo (owned.Schema n) role)
spells (stmt.Comment (commented.Schema n) text) = feed_behind (stmt.Comment (commented.Schema n) text)
spells s = feed_behind s

pub of_kind : {s : Stmt} {text : List ℕ} (t : Stmt) → s ≡ t → text ≡ said t → text ≡ said s
of_kind t is same = same ∙ ap said (sym is)
