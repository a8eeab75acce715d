use Rattle.std.proofs.Common.{◌≡◌, ℕ, ◌+◌, ◌<◌, ◌≤◌, List, length, get_or, drop, false, sym, ap, subst, ◌∙◌}
use Rattle.std.specs.Vec.{with_items}
use Rattle.std.proofs.lemmas.List.{with_items_is, get_or_default}
use Rattle.graph_walks.specs.declared.components.Status.{Status}
use Rattle.graph_walks.specs.Searching.{Standing, standing, IsSearch, none_seen, AreClosed, is_new, status_of}
use Rattle.graph_walks.proofs.Standings.{IsLast, last_is, last_open, search_closed}
use Rattle.graph_walks.proofs.components.Search.close.Goals as goal

pub split_at-requires : goal.split_at-requires
split_at-requires c =
    let last = last_is c.requires.stands.0 (standing c.args.self.now) c.pop.new.self.items c.in-Some.group c.requires.stands.1 c.in-Some.ensures.items c.requires.done in
    subst (λ (l : List ℕ). c.in-Some.group.0 ≤ length l) (sym c.deref.ensures.value) last.within

pub close_places-requires-clause-come : goal.close_places-requires-clause-come
close_places-requires-clause-come c =
    let net = c.requires.stands.0 in
    let search : Standing = standing c.args.self.now in
    let is : IsSearch net none_seen search = c.requires.stands.1 in
    let last : IsLast net search c.pop.new.self.items c.in-Some.group.0 = last_is net search c.pop.new.self.items c.in-Some.group is c.in-Some.ensures.items c.requires.done in
    let places : c.split_at.result.1.now ≡ last.group_of.nodes = c.split_at.ensures.back ∙ ap (drop c.in-Some.group.0) c.deref.ensures.value ∙ last.nodes_are in
    subst (λ (s : List Status). (k d : ℕ) → k < length c.split_at.result.1.now → is_new (status_of s (get_or c.split_at.result.1.now k d)) ≡ false) (sym c.deref_mut.ensures.value)
    (subst (λ (l : List ℕ). (k d : ℕ) → k < length l → is_new (status_of search.statuses (get_or l k d)) ≡ false) (sym places)
    (λ k d low. ap (λ (x : ℕ). is_new (status_of search.statuses x)) (get_or_default last.group_of.nodes k d 0 low) ∙ ap is_new (last_open net search c.pop.new.self.items c.in-Some.group.0 is last k low)))

pub returns-clause-stands : goal.returns-clause-stands
returns-clause-stands c =
    λ net is.
    let search : Standing = standing c.args.self.now in
    let start : ℕ = c.in-Some.group.0 in
    let statuses : List Status = c.close_places.new.statuses in
    let marks : List ℕ = c.close_places.new.marks in
    let places : c.split_at.result.1.now ≡ drop start search.path = c.split_at.ensures.back ∙ ap (drop start) c.deref.ensures.value in
    let closed : AreClosed (drop start search.path) search.found search.statuses statuses search.marks marks =
    subst (λ (l : List ℕ). AreClosed (drop start search.path) search.found search.statuses statuses l marks) c.deref_mut-2.ensures.value
    (subst (λ (l : List Status). AreClosed (drop start search.path) search.found l statuses c.deref_mut-2.result.now marks) c.deref_mut.ensures.value
    (subst (λ (l : List ℕ). AreClosed l search.found c.deref_mut.result.now statuses c.deref_mut-2.result.now marks) places c.close_places.ensures)) in
    let make : List Status → List ℕ → List ℕ → Standing = λ a b d. record { statuses = a; marks = b; found = search.found + 1; path = d; pending = search.pending; begins = c.pop.new.self.items } in
    let s_is : (with_items c.args.self.now.statuses statuses).items ≡ statuses = with_items_is c.args.self.now.statuses statuses (c.close_places.ensures.statuses_count ∙ c.deref_mut.ensures.len) in
    let m_is : (with_items c.args.self.now.marks marks).items ≡ marks = with_items_is c.args.self.now.marks marks (c.close_places.ensures.marks_count ∙ c.deref_mut-2.ensures.len) in
    subst (λ (l : List Status). IsSearch net none_seen (make l (with_items c.args.self.now.marks marks).items c.truncate.new.self.items)) (sym s_is)
    (subst (λ (l : List ℕ). IsSearch net none_seen (make statuses l c.truncate.new.self.items)) (sym m_is)
    (subst (λ (l : List ℕ). IsSearch net none_seen (make statuses marks l)) (sym c.truncate.ensures.items)
    (search_closed net search c.pop.new.self.items c.in-Some.group statuses marks is c.in-Some.ensures.items c.requires.done closed)))
