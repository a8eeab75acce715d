use Rattle.std.proofs.Common.{◌||◌, map, take, drop, length, ◌+◌, ◌≤◌, sym, ap, subst, ◌∙◌, arith}
use Rattle.std.proofs.lemmas.List.{drop_all}
use Rattle.cat_names.specs.Indexed.{AreKeys}
use Rattle.cat_names.specs.Rights.{has_bad_item, grantee_cmp}
use Rattle.cat_names.proofs.Items.{bad_at, none_bad, grantees_more}
use Rattle.cat_names.proofs.rights.has_bad_item.Goals as goal

pub returns-then-branch : goal.returns-then-branch
returns-then-branch c =
    let items = c.args.items.now in
    let i = c.loop-item.item-index in
    let rest = has_bad_item c.args.on c.args.roles.now (map (λ x. x.now) (take (i + 1) items)) (map (λ x. x.now) (drop (i + 1) items)) in
    let bad = sym (c.in_ok-is_bad_item.ensures.bad (map (λ x. x.now) (take i items)) c.loop-item.invariant.1) ∙ c.if-branch.true in
    sym (c.loop-item.invariant.0
    ∙ bad_at (λ x. x.now) c.args.on c.args.roles.now items i c.item-item.result c.loop-item-test.true c.item-item.is
    ∙ ap (λ b. b || rest) bad)

pub loop-item-preserved : goal.loop-item-preserved
loop-item-preserved c =
    let items = c.args.items.now in
    let i = c.loop-item.item-index in
    let rest = has_bad_item c.args.on c.args.roles.now (map (λ x. x.now) (take (i + 1) items)) (map (λ x. x.now) (drop (i + 1) items)) in
    let good = sym (c.in_ok-is_bad_item.ensures.bad (map (λ x. x.now) (take i items)) c.loop-item.invariant.1) ∙ c.if-branch.false in (
      c.loop-item.invariant.0
          ∙ bad_at (λ x. x.now) c.args.on c.args.roles.now items i c.item-item.result c.loop-item-test.true c.item-item.is
          ∙ ap (λ b. b || rest) good,
      subst (AreKeys grantee_cmp c.is_bad_item.new.grantees) (sym (grantees_more (λ x. x.now) items i c.item-item.result c.loop-item-test.true c.item-item.is)) (c.in_ok-is_bad_item.ensures.added _ c.loop-item.invariant.1),
    )

pub returns : goal.returns
returns c =
    let items = c.args.items.now in
    let i = c.loop-item.item-index in
    let all : length items ≤ i = omega (arith, c.loop-item-test.false) in
    sym (c.loop-item.invariant.0 ∙ none_bad (λ x. x.now) c.args.on c.args.roles.now _ items i (drop_all i items all))
