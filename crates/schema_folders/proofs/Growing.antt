-- Schemas that are made one after another.
use Rattle.std.proofs.Common.{List, [], ◌∷◌, ◌++◌, ap, ◌∙◌}
use Rattle.std.specs.List.{AllByRecursion}
use Rattle.std.proofs.lemmas.List.{append_assoc}
use Rattle.std.proofs.lemmas.List.Elements.{recursion_from_All, All-from_recursion}
use Rattle.schema_folders.specs.declared.schemas.SchemaRow.{SchemaRow}
use Rattle.schema_folders.specs.Run.{IsUsers, Grown}

all_users : (xs ys : List SchemaRow) → AllByRecursion IsUsers xs → AllByRecursion IsUsers ys → AllByRecursion IsUsers (xs ++ ys)
all_users [] ys a b = b
all_users (x ∷ xs) ys a b = (a.0, all_users xs ys a.1 b)

-- what has grown grows on
pub grown_more : (before between after : List SchemaRow) → Grown before between → Grown between after → Grown before after
grown_more before between after g h = record {
  made = g.made ++ h.made;
  stays = h.stays ∙ ap (λ (l : List SchemaRow). l ++ h.made) g.stays ∙ append_assoc before g.made h.made;
  drawn = All-from_recursion IsUsers (g.made ++ h.made) (all_users g.made h.made (recursion_from_All IsUsers g.made g.drawn) (recursion_from_All IsUsers h.made h.drawn));
}
