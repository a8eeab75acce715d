use Rattle.std.proofs.Common.{[], ◌∷◌, rules}
use Rattle.std.proofs.lemmas.Str.{IsUtf8-from_ascii}
use Rattle.cat_rows.proofs.fields.Fields.letter.Goals as goal

pub push_bytes-requires : goal.push_bytes-requires
push_bytes-requires c = let h = c.byte.ensures.ascii in IsUtf8-from_ascii (c.byte.result ∷ []) (search rules)
