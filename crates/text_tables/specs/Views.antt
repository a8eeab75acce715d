-- The conditions of pg_rewrite, whose rows are the bodies of views.
use Rattle.std.specs.Prelude.{Bool, true, false, not, [], pos, Option, Some, None}
use Rattle.std.specs.List.{list_all}
use Rattle.cat_rows.specs.declared.catalogue.Catalogue.{Catalogue}
use Rattle.cat_rows.specs.declared.relations.RewriteRow.{RewriteRow}
use Rattle.cat_model.specs.References.{view_references}
use Rattle.cat_model.specs.Values.{Bytes}
use Rattle.cat_names.specs.Kinds.{kind_of, is_view}
use Rattle.cat_book.specs.Rules.{Rules}
use Rattle.row_texts.specs.ViewTexts.{view_body}
use Rattle.text_tables.specs.Agreeing.{is_met}

-- whether a text is a view's, and all that its body refers to is there
abbrev pub is_good_body : Catalogue → Option Bytes → Bool
is_good_body cat None = false
is_good_body cat (Some body) = list_all (is_met cat None) (view_references body)

-- oids are distinct; a view, which is there, has one body, whose references are met
abbrev pub view_rules : Rules Catalogue RewriteRow
view_rules = record {
  keys = λ row. record { oid = Some row.oid; name = Some (row.ev_class, 0, pos 0, []); place = None; is_marked = false };
  unmet = λ cat row. record {
    dangles = not (is_view (kind_of cat.pg_class row.ev_class));
    is_bad = not (is_good_body cat (view_body row.viewdef));
    left_out = None;
  };
  needed = λ cat. true;
}
