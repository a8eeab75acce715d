use Rattle.ddl_relations.proofs.Common.{◌≡◌, ◌++◌, ◌∷◌, [], List, drop, sym, refl, ap, ◌∙◌, Ok, err_from_is_err_and, Lexeme, seen_at, many, Fails, ReadError, Halted, Memory, none_more, no_item, one_more, fewer, ColumnDef, CheckDef, TableElement, Column, Check, elements, columns_of, checks_of, parted, more_elements, table_elements}
use Rattle.ddl_grammar_laws.proofs.TableLaws.{elements_apart}
use Rattle.ddl_relations.proofs.tables.table_elements.Goals as goal

seen_ok : (ts rest : List Lexeme) (es : List TableElement) (cs : List ColumnDef) (ks : List CheckDef) → (many more_elements elements).read ts ≡ Ok (es, rest) → cs ≡ columns_of es → ks ≡ checks_of es → table_elements.read ts ≡ Ok ((cs, ks), rest)
unfolding table_elements
seen_ok ts rest es cs ks e c k = rw (c, k) (ap (seen_at parted) e)

seen_fails : (ts from : List Lexeme) (error : ReadError) → Fails ts error ((many more_elements elements).read from) → Fails ts error (table_elements.read from)
unfolding table_elements
seen_fails ts from Memory e = tt
seen_fails ts from (Halted h) e = ap (seen_at parted) e

columns-append : (a b : List TableElement) → columns_of (a ++ b) ≡ columns_of a ++ columns_of b
columns-append [] b = refl
columns-append (Column c ∷ a) b = ap (λ (x : List ColumnDef). c ∷ x) (columns-append a b)
columns-append (Check c ∷ a) b = columns-append a b

checks-append : (a b : List TableElement) → checks_of (a ++ b) ≡ checks_of a ++ checks_of b
checks-append [] b = refl
checks-append (Column c ∷ a) b = checks-append a b
checks-append (Check c ∷ a) b = ap (λ (x : List CheckDef). c ∷ x) (checks-append a b)

pub returns-then-not-begins_element : goal.returns-then-not-begins_element
returns-then-not-begins_element c =
    let i = c.elements.invariant in
    seen_ok (drop c.args.from c.args.pieces.now) (drop c.elements.at c.args.pieces.now) i.0 c.elements.columns.items c.elements.checks.items (none_more i.1 cc) i.2 i.3

pub returns-in_err-element : goal.returns-in_err-element
returns-in_err-element c =
    let ts = c.args.pieces.now in
    let p = err_from_is_err_and c.from_residual.result c.from_residual.ensures.1 in
    rw (p.1, p.2) (seen_fails ts (drop c.args.from ts) _ (no_item c.elements.invariant.1 _ (cc) c.in_err-element.ensures))

pub elements-smaller : goal.elements-smaller
elements-smaller c = fewer elements_apart (λ x. x) c.args.pieces.now c.elements.spot c.elements.at (c.in_ok-element.element, c.in_ok-element.next) (cc) c.in_ok-element.ensures

pub elements-preserved : goal.elements-preserved
elements-preserved c =
    let i = c.elements.invariant in
    let e = c.in_ok-element.element in (
      i.0 ++ e ∷ [],
      rw c.in_ok-spot.ensures.spot (one_more i.1 elements_apart (λ x. x) (e, c.in_ok-element.next) (cc) c.in_ok-element.ensures),
      c.in_ok-spot.ensures.columns ∙ ap (λ (x : List ColumnDef). x ++ columns_of (e ∷ [])) i.2 ∙ sym (columns-append i.0 (e ∷ [])),
      c.in_ok-spot.ensures.checks ∙ ap (λ (x : List CheckDef). x ++ checks_of (e ∷ [])) i.3 ∙ sym (checks-append i.0 (e ∷ [])),
    )
