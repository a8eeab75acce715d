-- What was appended so far are the words of the rights so far, and the flag says whether there is one.
use Rattle.std.proofs.Common.{◌≡◌, ◌++◌, take}
use Rattle.std.specs.List.{flat_map}
use Rattle.ddl_write.proofs.CommaLemmas.{any_word}
use Rattle.ddl_spelling.specs.RightsText.{word_there, with_commas}
use Rattle.ddl_write.proofs.rights.put_each_right.Given as goal

abbrev pub invariant-loop-right : goal.invariant-loop-right
invariant-loop-right l =
    (l.out.items ≡ l.initial.out.items ++ with_commas (flat_map (λ right. word_there right.0 right.1.now) (take l.right-index l.rights)))
    × (l.any ≡ any_word (flat_map (λ right. word_there right.0 right.1.now) (take l.right-index l.rights)))
