use Rattle.std.proofs.Common.{◌≡◌, ℕ, ◌<◌, ◌++◌, List, [], ◌∷◌, length, map, set, sym, ap, subst, ◌∙◌, arith}
use Rattle.std.proofs.lemmas.Result.{on_ok_weaker}
use Rattle.graph_walks.specs.Arcs.{Arc, arcs_from, AreWithin}
use Rattle.graph_walks.specs.declared.components.Status.TheVariants.{Open}
use Rattle.graph_walks.specs.Searching.{Standing, standing, IsSearch, none_seen, work}
use Rattle.graph_walks.proofs.Standings.{ends_of, search_opened, opened_less}
use Rattle.graph_walks.proofs.components.Search.open.Goals as goal

pub returns-clause-stands : goal.returns-clause-stands
returns-clause-stands c =
    let net = c.args.arcs.now in
    let search : Standing = standing c.args.self.now in
    let y : ℕ = c.args.place in
    let within : AreWithin net.count (arcs_from y net.arcs) = subst (AreWithin net.count) c.from.ensures.value c.from.ensures.within in
    let at : c.len-3.result ≡ length search.path = c.len-3.ensures ∙ c.args.self.now.path.ok.0 in
    let one : c.len.result ≡ length search.path = c.len.ensures ∙ c.args.self.now.path.ok.0 in
    let two : c.len-2.result ≡ length search.pending = c.len-2.ensures ∙ c.args.self.now.pending.ok.0 in
    let begins : c.push.new.self.items ≡ search.begins ++ (length search.path, length search.pending) ∷ [] = c.in_ok-push.ensures.items ∙ ap (λ (k : ℕ). search.begins ++ (k, c.len-2.result) ∷ []) one ∙ ap (λ (k : ℕ). search.begins ++ (length search.path, k) ∷ []) two in
    let make : ℕ → List ℕ → List ℕ → List (ℕ × ℕ) → Standing = λ k path pending begins. record { statuses = set search.statuses y (Open k); marks = search.marks; found = search.found; path = path; pending = pending; begins = begins } in
    let path' : List ℕ = search.path ++ y ∷ [] in
    let begins' : List (ℕ × ℕ) = search.begins ++ (length search.path, length search.pending) ∷ [] in
    on_ok_weaker c.push_ends.result
    (λ pushed.
    let pending : c.push_ends.new.pending.items ≡ search.pending ++ ends_of y net.arcs = pushed ∙ ap (λ (l : List Arc). search.pending ++ map (λ (arc : Arc). arc.1) l) c.from.ensures.value in
    subst (λ (k : ℕ). IsSearch net none_seen (make k c.push-2.new.self.items c.push_ends.new.pending.items c.push.new.self.items)) (sym at)
    (subst (λ (l : List ℕ). IsSearch net none_seen (make (length search.path) l c.push_ends.new.pending.items c.push.new.self.items)) (sym c.in_ok-push-2.ensures.items)
    (subst (λ (l : List ℕ). IsSearch net none_seen (make (length search.path) path' l c.push.new.self.items)) (sym pending)
    (subst (λ (l : List (ℕ × ℕ)). IsSearch net none_seen (make (length search.path) path' (search.pending ++ ends_of y net.arcs) l)) (sym begins)
    (search_opened net search y c.requires.within c.requires.new within c.requires.looking)))))
    c.push_ends.ensures

pub returns-clause-less : goal.returns-clause-less
returns-clause-less c =
    let net = c.args.arcs.now in
    let search : Standing = standing c.args.self.now in
    let y : ℕ = c.args.place in
    let long : length search.statuses ≡ net.count = c.requires.looking.stands.statuses_count in
    let small : y < net.count = c.requires.within in
    let at : c.len-3.result ≡ length search.path = c.len-3.ensures ∙ c.args.self.now.path.ok.0 in
    let one : c.len.result ≡ length search.path = c.len.ensures ∙ c.args.self.now.path.ok.0 in
    let two : c.len-2.result ≡ length search.pending = c.len-2.ensures ∙ c.args.self.now.pending.ok.0 in
    let begins : c.push.new.self.items ≡ search.begins ++ (length search.path, length search.pending) ∷ [] = c.in_ok-push.ensures.items ∙ ap (λ (k : ℕ). search.begins ++ (k, c.len-2.result) ∷ []) one ∙ ap (λ (k : ℕ). search.begins ++ (length search.path, k) ∷ []) two in
    let make : ℕ → List ℕ → List ℕ → List (ℕ × ℕ) → Standing = λ k path pending begins. record { statuses = set search.statuses y (Open k); marks = search.marks; found = search.found; path = path; pending = pending; begins = begins } in
    let path' : List ℕ = search.path ++ y ∷ [] in
    on_ok_weaker c.push_ends.result
    (λ pushed.
    let pending : c.push_ends.new.pending.items ≡ search.pending ++ ends_of y net.arcs = pushed ∙ ap (λ (l : List Arc). search.pending ++ map (λ (arc : Arc). arc.1) l) c.from.ensures.value in
    subst (λ (k : ℕ). work net (make k c.push-2.new.self.items c.push_ends.new.pending.items c.push.new.self.items) < work net search) (sym at)
    (subst (λ (l : List ℕ). work net (make (length search.path) l c.push_ends.new.pending.items c.push.new.self.items) < work net search) (sym c.in_ok-push-2.ensures.items)
    (subst (λ (l : List ℕ). work net (make (length search.path) path' l c.push.new.self.items) < work net search) (sym pending)
    (subst (λ (l : List (ℕ × ℕ)). work net (make (length search.path) path' (search.pending ++ ends_of y net.arcs) l) < work net search) (sym begins)
    (opened_less net search y (omega arith) c.requires.new)))))
    c.push_ends.ensures
