use Rattle.ddl_admin.proofs.Common.{◌≡◌, List, [], ◌∷◌, ◌++◌, drop, Ok, refl, sym, ap, ◌∙◌, err_from_is_err_and, Rights, Lexeme, comma, seen_at, many, Fails, ReadError, Halted, Memory, all_left, none_more, no_item, one_more, fewer, Right, with_right, more_rights, all_of, rights_from}
use Rattle.ddl_grammar_laws.proofs.RightsLaws.{rights_apart}
use Rattle.ddl_admin.proofs.rights.rights_from.Goals as goal

total_ok : (r s : Rights) (ts rest : List Lexeme) (xs : List Right) → (many comma (more_rights r)).read ts ≡ Ok (xs, rest) → s ≡ all_of r xs → (rights_from r).read ts ≡ Ok (s, rest)
unfolding rights_from
total_ok r s ts rest xs e is = rw is (ap (seen_at (all_of r)) e)

total_fails : (r : Rights) (ts from : List Lexeme) (error : ReadError) → Fails ts error ((many comma (more_rights r)).read from) → Fails ts error ((rights_from r).read from)
unfolding rights_from
total_fails r ts from Memory e = tt
total_fails r ts from (Halted h) e = ap (seen_at (all_of r)) e

all-append : (r : Rights) (xs : List Right) (x : Right) → all_of r (xs ++ x ∷ []) ≡ with_right x (all_of r xs)
all-append r [] x = refl
all-append r (y ∷ xs) x = all-append (with_right y r) xs x

pub rights-init : goal.rights-init
rights-init c = ([], all_left (more_rights c.args.first) c.args.pieces.now c.args.from, refl)

pub returns-then-not-is_sign : goal.returns-then-not-is_sign
returns-then-not-is_sign c =
    let i = c.rights.invariant in
    total_ok c.args.first c.rights.rights (drop c.args.from c.args.pieces.now) (drop c.rights.at c.args.pieces.now) i.0 (none_more i.1 cc) i.2

pub returns-in_err-right : goal.returns-in_err-right
returns-in_err-right c =
    let ts = c.args.pieces.now in
    let p = err_from_is_err_and c.from_residual.result c.from_residual.ensures.1 in
    rw (p.1, p.2) (total_fails c.args.first ts (drop c.args.from ts) _ (no_item c.rights.invariant.1 _ (cc) c.in_err-right.ensures))

pub rights-smaller : goal.rights-smaller
rights-smaller c = fewer (rights_apart c.args.first) (λ x. x) c.args.pieces.now c.rights.rights c.rights.at (c.in_ok-right.right, c.in_ok-right.next) (cc) c.in_ok-right.ensures

pub rights-preserved : goal.rights-preserved
rights-preserved c =
    let r = c.args.first in
    let i = c.rights.invariant in
    let x = c.in_ok-right.right in
    let left = one_more i.1 (rights_apart r) (λ x. x) (x, c.in_ok-right.next) (cc) c.in_ok-right.ensures in
    (i.0 ++ x ∷ [], rw c.with_right-rights.ensures left, c.with_right-rights.ensures ∙ ap (with_right x) i.2 ∙ sym (all-append r i.0 x))
