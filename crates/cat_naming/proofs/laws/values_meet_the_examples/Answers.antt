use Rattle.std.proofs.Common.{◌≡◌, [], ◌∷◌, refl, sym, ap, ◌∙◌}
use Rattle.std.proofs.lemmas.Option.{none-some}
use Rattle.std.specs.Cmp.Lexicographic.{nat_list_cmp_total}
use Rattle.std.specs.Str.{is_utf8, chars}
use Rattle.std.specs.FinMap.{FinMap, get, from_entries, get-from_entries}
use lib.Utf8.{encode}
use Rattle.copy_text.specs.Pieces.{pieces_after, ends_escaping}
use Rattle.copy_text.specs.Escapes.{decode_behind, escape}
use Rattle.copy_text.specs.Reading.{row_of, fields_of, field_of}
use Rattle.copy_text.specs.Lines.{lines}
use Rattle.cat_model.specs.Grants.{type_rights, without_option}
use Rattle.cat_model.specs.declared.value.Domain.{Domain}
use Rattle.cat_model.specs.declared.value.Value.TheVariants as value
use Rattle.cat_model.specs.declared.value.Value.{Value}
use Rattle.cat_model.specs.declared.holder.Holder.TheVariants.{Owner as OWNER, Public as PUBLIC}
use Rattle.cat_model.specs.Values.{Bytes, bytes_cmp, Grants}
use Rattle.cat_model.specs.HolderLaws.{holder_cmp_total}
use Rattle.cat_names.specs.Grants.{grants_of}
use Rattle.cat_naming.specs.ValueExamples.{least, most}
use Rattle.cat_naming.proofs.CheckMaps.{other_order, first_counts}
use Rattle.cat_naming.proofs.laws.values_meet_the_examples.Goals as goal

pub returns-clause-domains : goal.returns-clause-domains
returns-clause-domains c = record {
  other_order = λ d. same_domain d (other_order least most refl);
  first_counts = λ d. same_domain d (first_counts least.0 least.1 most.1);
  one_more = λ d same. none-some most.1 (sym (sym (get-from_entries nat_list_cmp_total (least ∷ most ∷ []) most.0) ∙ ap (λ (g : FinMap bytes_cmp Bytes). get g most.0) (ap checks_of same) ∙ get-from_entries nat_list_cmp_total (least ∷ []) most.0));
}
  where
    same_domain : (d : Domain) {m n : FinMap bytes_cmp Bytes} → m ≡ n → value.Domain (record d { checks = m }) ≡ value.Domain (record d { checks = n })
    same_domain d e = ap (λ (g : FinMap bytes_cmp Bytes). value.Domain (record d { checks = g })) e

    checks_of : Value → FinMap bytes_cmp Bytes
    checks_of (value.Domain d) = d.checks
    checks_of _ = from_entries []

pub returns-clause-rights : goal.returns-clause-rights
unfolding grants_of
returns-clause-rights c = record {
  table = refl;
  sequence = refl;
  schema = refl;
  type = refl;
  no_rights = λ e. none-some (without_option type_rights) (sym (sym (get-from_entries holder_cmp_total ((OWNER, without_option type_rights) ∷ (PUBLIC, without_option type_rights) ∷ []) OWNER) ∙ ap (λ (g : Grants). get g OWNER) e ∙ get-from_entries holder_cmp_total [] OWNER));
}

pub returns-clause-rows : goal.returns-clause-rows
unfolding is_utf8 chars encode pieces_after ends_escaping decode_behind escape row_of fields_of field_of lines
returns-clause-rows c = record {
  escaped = refl;
  last_newline = refl;
  end_mark = refl;
  null = refl;
  in_order = refl;
  no_row = refl;
}
