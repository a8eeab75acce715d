use Rattle.std.proofs.Common.{◌≡◌, ℕ, true, false, inl, inr, sym, ap, subst, ◌∙◌, arith}
use Rattle.std.specs.Prelude.{◌&&◌, nat_eq}
use Rattle.std.specs.List.{list_any}
use Rattle.std.proofs.lemmas.Bool.{cases_lt}
use Rattle.graph_walks.specs.Arcs.{AreWithin}
use Rattle.graph_walks.specs.Reaching.{on_cycle}
use Rattle.graph_walks.proofs.Mates.{mates_are, first_is, first_none}
use Rattle.graph_walks.proofs.telling.start_of.Goals as goal

pub returns-then-has_mate : goal.returns-then-has_mate
returns-then-has_mate c =
    let net = c.args.arcs.now in
    let count : c.count-place-end.result ≡ net.count = c.count-place-end.ensures.count in
    let within : AreWithin net.count net.arcs = subst (λ (k : ℕ). AreWithin k net.arcs) count c.count-place-end.ensures.within in
    let is : list_any (λ arc. nat_eq arc.0 c.loop-place.place && on_cycle net.arcs arc) net.arcs ≡ true = mates_are net.count net.arcs c.args.marks.now c.loop-place.place within c.requires.alike ∙ ap (list_any _) (sym c.from.ensures.value) ∙ sym c.has_mate.ensures ∙ c.if-has_mate.true in
    first_is net.count net.arcs c.loop-place.place (omega arith) is c.loop-place.invariant

pub loop-place-preserved : goal.loop-place-preserved
loop-place-preserved c =
    let net = c.args.arcs.now in
    let count : c.count-place-end.result ≡ net.count = c.count-place-end.ensures.count in
    let within : AreWithin net.count net.arcs = subst (λ (k : ℕ). AreWithin k net.arcs) count c.count-place-end.ensures.within in
    let isnt : list_any (λ arc. nat_eq arc.0 c.loop-place.place && on_cycle net.arcs arc) net.arcs ≡ false = mates_are net.count net.arcs c.args.marks.now c.loop-place.place within c.requires.alike ∙ ap (list_any _) (sym c.from.ensures.value) ∙ sym c.has_mate.ensures ∙ c.if-has_mate.false in
    λ x low. elim (cases_lt x c.loop-place.place) [
      | inl less ↦ c.loop-place.invariant x less
      | inr more ↦ let same : x ≡ c.loop-place.place = omega arith in subst (λ (k : ℕ). list_any (λ arc. nat_eq arc.0 k && on_cycle net.arcs arc) net.arcs ≡ false) (sym same) isnt
    ]

pub returns : goal.returns
returns c =
    let count : c.count-place-end.result ≡ c.args.arcs.now.count = c.count-place-end.ensures.count in
    first_none c.args.arcs.now.count c.args.arcs.now.arcs (λ x low. c.loop-place.invariant x (omega arith))
