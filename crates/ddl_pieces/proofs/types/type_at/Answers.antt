use Rattle.ddl_pieces.proofs.Common.{refl, ◌≡◌, ◌-◌, ◌≤◌, drop, false, sym, ap, ◌∙◌, arith, err_from_is_err_and, is_sign, starts, lexemes}
use Rattle.ddl_parts.proofs.{Basics.value_is, Slices.drop_twice}
use Rattle.ddl_pieces.proofs.TypeRuns.{path_between, words_are, type_is, read_fails}
use Rattle.cat_model.specs.declared.type_name.TypeName.TheVariants as type_name
use Rattle.ddl_pieces.proofs.types.type_at.Goals as goal

pub returns-in_err-schema : goal.returns-in_err-schema
returns-in_err-schema c =
    let path = path_between _ _ _ _ c.is_path.ensures.long c.is_path.ensures.exact c.if-is_path.true c.in_ok-end.ensures.1 c.in_ok-end.ensures.2 in
    let p = err_from_is_err_and c.from_residual-in_err-schema.result c.from_residual-in_err-schema.ensures.1 in
    rw (p.1, p.2) (read_fails _ _ _ _ path.schema _ path.schema_is c.in_err-schema.ensures)

pub returns-in_err-name : goal.returns-in_err-name
returns-in_err-name c =
    let path = path_between _ _ _ _ c.is_path.ensures.long c.is_path.ensures.exact c.if-is_path.true c.in_ok-end.ensures.1 c.in_ok-end.ensures.2 in
    let p = err_from_is_err_and c.from_residual-in_err-name.result c.from_residual-in_err-name.ensures.1 in
    rw (p.1, p.2) (read_fails _ _ _ _ path.name _ path.name_is c.in_err-name.ensures)

pub returns-then-is_path : goal.returns-then-is_path
returns-then-is_path c =
    let path = path_between _ _ _ _ c.is_path.ensures.long c.is_path.ensures.exact c.if-is_path.true c.in_ok-end.ensures.1 c.in_ok-end.ensures.2 in
    let schema = value_is _ _ _ _ (sym path.schema_is ∙ c.in_ok-schema.ensures) in
    let name = value_is _ _ _ _ (sym path.name_is ∙ c.in_ok-name.ensures) in
    type_is _ _ _ _ c.in_ok-end.ensures.2 (path.type_is ∙ ap type_name.Path (rw (schema, name) refl))

pub returns : goal.returns
returns c =
    let ts = lexemes c.args.text.now c.args.pieces.now in
    let dot : 3 ≤ c.in_ok-end.end - c.args.at → starts (is_sign 46) (drop 1 (drop c.args.at ts)) ≡ false =
    λ le. ap (starts (is_sign 46)) (drop_twice 1 c.args.at ts) ∙ sym (c.is_path.ensures.exact (omega (arith, le))) ∙ c.if-is_path.false in
    type_is _ _ _ _ c.in_ok-end.ensures.2 (words_are _ _ dot ∙ ap type_name.Words (sym c.in_ok-words.ensures))
