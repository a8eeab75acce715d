-- The edges that break are the breakable ones with one mark at both ends.
use Rattle.std.proofs.Common.{◌≡◌, ℕ, ◌<◌, Bool, true, false, List, [], ◌∷◌, map, get_or, refl, sym, ap, ◌∙◌}
use Rattle.std.specs.Prelude.{◌&&◌, ◌||◌, nat_eq}
use Rattle.std.specs.List.{All, AllByRecursion}
use Rattle.std.proofs.lemmas.Bool.{eq-eqb}
use Rattle.std.proofs.lemmas.List.Elements.{All-map}
use Rattle.graph_parts.specs.declared.graph.Edge.{Edge}
use Rattle.graph_parts.specs.Parts.{LeadsAcross}
use Rattle.graph_walks.specs.Alike.{AreAlike}
use Rattle.graph_walks.specs.Arcs.{Arc, needs, AreWithin}
use Rattle.graph_walks.specs.Reaching.{on_cycle}
use Rattle.dep_sort.specs.Cut.{arc_of, is_breakable, breaks, breaks_if}

or_true : (a b : Bool) → a ≡ true → (a || b) ≡ true
or_true a b h = rw h refl

true_or : (a b : Bool) → b ≡ true → (a || b) ≡ true
true_or true b h = refl
true_or false b h = h

own_arcs : (edges : List Edge) (all : List Arc) → ((a b : ℕ) → needs (map arc_of edges) a b ≡ true → needs all a b ≡ true) → AllByRecursion (λ (e : Edge). needs all e.from e.to ≡ true) edges
own_arcs [] all has = tt
own_arcs (edge ∷ edges) all has = (
  has edge.from edge.to (or_true (nat_eq edge.from edge.from && nat_eq edge.to edge.to) (needs (map arc_of edges) edge.from edge.to) (rw (eq-eqb edge.from edge.from refl, eq-eqb edge.to edge.to refl) refl)),
  own_arcs edges all (λ a b h. has a b (true_or (nat_eq edge.from a && nat_eq edge.to b) (needs (map arc_of edges) a b) h)),
)

abbrev is_mate : List ℕ → Edge → Bool
is_mate marks e = is_breakable e && nat_eq (get_or marks e.from 0) (get_or marks e.to 0)

mates_map : (all : List Edge) (marks : List ℕ) (edges : List Edge) → AllByRecursion (λ (e : Edge). nat_eq (get_or marks e.from 0) (get_or marks e.to 0) ≡ on_cycle (map arc_of all) (arc_of e)) edges → map (is_mate marks) edges ≡ map (breaks all) edges
unfolding breaks breaks_if
mates_map all marks [] each = refl
mates_map all marks (edge ∷ edges) each =
    let rest : map (is_mate marks) edges ≡ map (breaks all) edges = mates_map all marks edges each.1 in
    ap (λ (b : Bool). b ∷ map (is_mate marks) edges) (here (is_breakable edge) refl) ∙ ap (λ (l : List Bool). breaks all edge ∷ l) rest
  where
    here : (b : Bool) → is_breakable edge ≡ b → is_mate marks edge ≡ breaks all edge
    here true is = rw is each.0
    here false is = rw is refl

each_mate : (all : List Edge) (net : List Arc) (count : ℕ) (marks : List ℕ) (edges : List Edge) → AreAlike count (map arc_of all) net → ((a b : ℕ) → needs net a b ≡ true → nat_eq (get_or marks a 0) (get_or marks b 0) ≡ on_cycle net (a, b)) → AllByRecursion (λ (e : Edge). needs (map arc_of all) e.from e.to ≡ true) edges → AllByRecursion (λ (e : Edge). nat_eq (get_or marks e.from 0) (get_or marks e.to 0) ≡ on_cycle (map arc_of all) (arc_of e)) edges
unfolding on_cycle
each_mate all net count marks [] alike mates own = tt
each_mate all net count marks (edge ∷ edges) alike mates own =
    (mates edge.from edge.to (sym (alike.needed edge.from edge.to) ∙ own.0) ∙ sym (alike.reached edge.to edge.from), each_mate all net count marks edges alike mates own.1)

pub breaks_are : (edges : List Edge) (net : List Arc) (count : ℕ) (marks : List ℕ) → AreAlike count (map arc_of edges) net → ((a b : ℕ) → needs net a b ≡ true → nat_eq (get_or marks a 0) (get_or marks b 0) ≡ on_cycle net (a, b)) → map (is_mate marks) edges ≡ map (breaks edges) edges
breaks_are edges net count marks alike mates =
    mates_map edges marks edges (each_mate edges net count marks edges alike mates (own_arcs edges (map arc_of edges) (λ a b h. h)))

pub arcs_within : (count : ℕ) (edges : List Edge) → All (LeadsAcross count) edges → AreWithin count (map arc_of edges)
arcs_within count edges ends =
    All-map (λ (arc : Arc). (arc.0 < count) × (arc.1 < count)) arc_of edges (λ k d low. let e = ends k d low in (e.from, e.to))
