-- A search that goes along the arcs and finds the groups of places that lead to each other.
use Rattle.std.specs.Prelude.{◌≡◌, ℕ, ◌+◌, ◌*◌, ◌-◌, ◌<◌, ◌≤◌, Bool, true, false, ◌||◌, ◌⊎◌, nat_eq, List, [], ◌∷◌, ◌++◌, length, slice_index, slice_index_or, slice_get, option_map, Option, All}
use Rattle.graph_walks.specs.Arcs.{Arc, needs, is_in}
use Rattle.graph_walks.specs.Counting.{one_if}
use Rattle.graph_walks.specs.Leading.{Leads}
use Rattle.graph_walks.specs.Starts.{Net}
use Rattle.graph_walks.specs.declared.components.Status.{Status}
use Rattle.graph_walks.specs.declared.components.Status.TheVariants.{New, Open, Closed}
use Rattle.graph_walks.specs.declared.components.Search.{Search}

abbrev pub status_of : List Status → ℕ → Status
status_of statuses place = slice_index_or statuses place New

abbrev pub is_closed : Status → Bool
is_closed New = false
is_closed (Open at) = false
is_closed Closed = true

abbrev pub is_new : Status → Bool
is_new New = true
is_new (Open at) = false
is_new Closed = false

-- whether all that a place leads to is known
abbrev pub shut : List Status → ℕ → Bool
shut statuses place = is_closed (status_of statuses place)

-- how many places the search hasn't come to
abbrev pub fresh : List Status → ℕ
fresh [] = 0
fresh (status ∷ statuses) = one_if (is_new status) + fresh statuses

-- places that lead to each other, as far as is known, and places that they need which are still to be looked at
pub record Group : Type 0 where
  pub nodes : List ℕ
  pub todo : List ℕ

-- the path of groups, the last one first: its places, what is to be looked at, and where each group begins in these lists
abbrev pub path_of : List Group → List ℕ
path_of [] = []
path_of (group ∷ groups) = path_of groups ++ group.nodes

abbrev pub todo_of : List Group → List ℕ
todo_of [] = []
todo_of (group ∷ groups) = todo_of groups ++ group.todo

abbrev pub begins_of : List Group → List (ℕ × ℕ)
begins_of [] = []
begins_of (group ∷ groups) = begins_of groups ++ (length (path_of groups), length (todo_of groups)) ∷ []

-- a group on the path, behind the places below it; `seen` are places that need no look any more
pub record IsGroup (arcs : List Arc) (below : List ℕ) (seen : ℕ → Bool) (group : Group) : Type 0 where
  pub member : ℕ
  pub is_member : is_in member group.nodes ≡ true
  pub among : (x y : ℕ) → is_in x group.nodes ≡ true → is_in y group.nodes ≡ true → Leads arcs x y
  pub onward : (x y : ℕ) → is_in x group.nodes ≡ true → is_in y group.todo ≡ true → Leads arcs x y
  pub from_below : (x y : ℕ) → is_in x below ≡ true → is_in y group.nodes ≡ true → Leads arcs x y
  pub covered : (x y : ℕ) → is_in x group.nodes ≡ true → needs arcs x y ≡ true → (seen y ≡ true) ⊎ ((is_in y group.nodes ≡ true) ⊎ (is_in y group.todo ≡ true))

abbrev pub AreGroups : List Arc → (ℕ → Bool) → List Group → Type 0
AreGroups arcs seen [] = Unit {0}
AreGroups arcs seen (group ∷ groups) = IsGroup arcs (path_of groups) seen group × AreGroups arcs (λ place. seen place || is_in place group.nodes) groups

-- what was found of the closed places
pub record AreMarked (arcs : List Arc) (statuses : List Status) (marks : List ℕ) (found : ℕ) : Type 0 where
  pub closed : (x y : ℕ) → needs arcs x y ≡ true → shut statuses x ≡ true → shut statuses y ≡ true
  pub low : (x : ℕ) → shut statuses x ≡ true → slice_index marks x < found
  pub alike : (x y : ℕ) → shut statuses x ≡ true → shut statuses y ≡ true → slice_index marks x ≡ slice_index marks y → Leads arcs x y
  pub together : (x y : ℕ) → shut statuses x ≡ true → shut statuses y ≡ true → Leads arcs x y → Leads arcs y x → slice_index marks x ≡ slice_index marks y
  pub falling : (x y : ℕ) → needs arcs x y ≡ true → shut statuses x ≡ true → slice_index marks y ≤ slice_index marks x

-- the places of the path are the open ones, each at its place
pub record AreOpen (count : ℕ) (statuses : List Status) (path : List ℕ) : Type 0 where
  pub within : All (λ place. place < count) path
  pub status : (at : ℕ) → at < length path → status_of statuses (slice_index path at) ≡ Open at
  pub below : (place at : ℕ) → status_of statuses place ≡ Open at → at < length path
  pub place : (place at : ℕ) → status_of statuses place ≡ Open at → slice_index path at ≡ place

-- how a search stands
pub record Standing : Type 0 where
  pub statuses : List Status
  pub marks : List ℕ
  pub found : ℕ
  pub path : List ℕ
  pub pending : List ℕ
  pub begins : List (ℕ × ℕ)

abbrev pub standing : Search → Standing
standing search = record {
  statuses = search.statuses.items;
  marks = search.marks.items;
  found = search.found;
  path = search.path.items;
  pending = search.pending.items;
  begins = search.groups.items;
}

-- that it stands well; `seen` are places that are being looked at
pub record IsSearch (net : Net) (seen : ℕ → Bool) (search : Standing) : Type 0 where
  pub groups : List Group
  pub path_is : search.path ≡ path_of groups
  pub todo_is : search.pending ≡ todo_of groups
  pub begins_are : search.begins ≡ begins_of groups
  pub sound : AreGroups net.arcs (λ place. shut search.statuses place || seen place) groups
  pub statuses_count : length search.statuses ≡ net.count
  pub marks_count : length search.marks ≡ net.count
  pub todo_within : All (λ place. place < net.count) search.pending
  pub opened : AreOpen net.count search.statuses search.path
  pub marked : AreMarked net.arcs search.statuses search.marks search.found
  pub few : search.found + length search.begins + fresh search.statuses ≤ net.count

abbrev pub none_seen : ℕ → Bool
none_seen place = false

-- a search that looks at a place to which all of its path leads
pub record IsLooking (net : Net) (looked_at : ℕ) (search : Standing) : Type 0 where
  pub stands : IsSearch net (λ place. nat_eq place looked_at) search
  pub leads : (x : ℕ) → is_in x search.path ≡ true → Leads net.arcs x looked_at

-- where what the last group has still to look at begins
abbrev pub last_todo : List (ℕ × ℕ) → Option ℕ
last_todo begins = option_map (λ begin. begin.1) (slice_get begins (length begins - 1))

-- what is left to be done
abbrev pub work : Net → Standing → ℕ
work net search = fresh search.statuses * (length net.arcs + 2) + length search.pending + length search.begins

-- these places are closed, with one mark
pub record AreClosed (places : List ℕ) (mark : ℕ) (statuses statuses' : List Status) (marks marks' : List ℕ) : Type 0 where
  pub statuses_count : length statuses' ≡ length statuses
  pub marks_count : length marks' ≡ length marks
  pub inside : (x : ℕ) → is_in x places ≡ true → status_of statuses' x ≡ Closed
  pub outside : (x : ℕ) → is_in x places ≡ false → status_of statuses' x ≡ status_of statuses x
  pub marked : (x : ℕ) → is_in x places ≡ true → slice_index marks' x ≡ mark
  pub others : (x : ℕ) → is_in x places ≡ false → slice_index marks' x ≡ slice_index marks x
  pub fresh_is : fresh statuses' ≡ fresh statuses
