use Rattle.std.proofs.Common.{◌≡◌, ℕ, ◌<◌, ◌≤◌, true, List, get_or, sym, subst, arith}
use Rattle.std.specs.Prelude.{◌&&◌, nat_eq}
use Rattle.graph_walks.specs.Arcs.{needs, AreWithin}
use Rattle.graph_walks.specs.Reaching.{reaches, on_cycle}
use Rattle.graph_walks.specs.Searching.{standing, shut}
use Rattle.graph_walks.proofs.Mates.{AreAlike, mate}
use Rattle.graph_walks.proofs.Standings.{marks_alike, marks_fall}
use Rattle.graph_walks.proofs.components.mark_components.Goals as goal

pub returns-clause-alike : goal.returns-clause-alike
returns-clause-alike c =
    let net = c.args.arcs.now in
    let count : c.count-place-end.result ≡ net.count = c.count-place-end.ensures.count in
    let all : (x : ℕ) → x < net.count → shut c.loop-place.search.statuses.items x ≡ true = λ x low. c.loop-place.invariant.closed x (omega arith) in
    subst (λ (l : List ℕ). (a b : ℕ) → a < net.count → b < net.count → nat_eq (get_or l a 0) (get_or l b 0) ≡ (reaches net.arcs a b && reaches net.arcs b a)) (sym c.into_marks.ensures)
    (marks_alike net (standing c.loop-place.search) c.loop-place.invariant.stands all)

pub returns-clause-falling : goal.returns-clause-falling
returns-clause-falling c =
    let net = c.args.arcs.now in
    let count : c.count-place-end.result ≡ net.count = c.count-place-end.ensures.count in
    let all : (x : ℕ) → x < net.count → shut c.loop-place.search.statuses.items x ≡ true = λ x low. c.loop-place.invariant.closed x (omega arith) in
    let within : AreWithin net.count net.arcs = subst (λ (k : ℕ). AreWithin k net.arcs) count c.count-place-end.ensures.within in
    subst (λ (l : List ℕ). (a b : ℕ) → needs net.arcs a b ≡ true → get_or l b 0 ≤ get_or l a 0) (sym c.into_marks.ensures)
    (marks_fall net (standing c.loop-place.search) within c.loop-place.invariant.stands all)

pub returns-clause-mates : goal.returns-clause-mates
returns-clause-mates c =
    let net = c.args.arcs.now in
    let count : c.count-place-end.result ≡ net.count = c.count-place-end.ensures.count in
    let all : (x : ℕ) → x < net.count → shut c.loop-place.search.statuses.items x ≡ true = λ x low. c.loop-place.invariant.closed x (omega arith) in
    let within : AreWithin net.count net.arcs = subst (λ (k : ℕ). AreWithin k net.arcs) count c.count-place-end.ensures.within in
    let marked : AreAlike net.count net.arcs c.loop-place.search.marks.items = marks_alike net (standing c.loop-place.search) c.loop-place.invariant.stands all in
    subst (λ (l : List ℕ). (a b : ℕ) → needs net.arcs a b ≡ true → nat_eq (get_or l a 0) (get_or l b 0) ≡ on_cycle net.arcs (a, b)) (sym c.into_marks.ensures)
    (λ a b need. sym (mate net.count net.arcs c.loop-place.search.marks.items within marked a b need))
