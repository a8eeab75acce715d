-- The grammar of a comment's text.
use Rattle.std.specs.Prelude.{ℕ, List, Option, Some, None, codes}
use Rattle.ddl_parts.specs.{Lexemes.is_word, Parts.Part, Parts.mark, Parts.seen, Parts.choose, Leaves.literal}

-- NULL, or a text
unfoldable pub remark : Part (Option (List ℕ))
remark = choose (is_word (codes "null")) (seen (λ u. None) (mark (is_word (codes "null")))) (seen Some literal)
