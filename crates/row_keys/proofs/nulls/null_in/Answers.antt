-- The columns that are named are marked.
use Rattle.std.proofs.Common.{Bool, List, map, ap, ◌∙◌}
use Rattle.std.specs.List.{list_any}
use Rattle.cat_model.specs.declared.value.Column.{Column}
use Rattle.cat_model.specs.Lexemes.{same_text}
use Rattle.row_keys.specs.Nulls.{first_null}
use Rattle.row_keys.proofs.Rows.{by_marks}
use Rattle.row_keys.proofs.nulls.null_in.Goals as goal

pub returns : goal.returns
returns c =
    let marks : List Column → List Bool = λ columns. map (λ d. list_any (same_text d.name) c.args.names.now) columns in
    c.first_null.ensures
    ∙ ap (λ (ms : List Bool). first_null 1 ms c.args.rows.now) (c.deref.ensures.value ∙ c.in_ok-named.ensures ∙ ap marks c.as_slice.ensures)
    ∙ by_marks 1 c.args.columns.now c.args.names.now c.args.rows.now
