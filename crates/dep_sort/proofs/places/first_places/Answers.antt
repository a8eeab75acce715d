use Rattle.std.proofs.Common.{◌≡◌, ℕ, ◌<◌, length, map, Vec, Global, sym, ap, subst, ◌∙◌, rules}
use Rattle.std.specs.List.{All, filter}
use Rattle.std.specs.List.Sorted.{IsSortedBy, ties}
use Rattle.std.specs.Ordering.{is_lt}
use Rattle.std.proofs.lemmas.List.Sorted.{answers_always}
use Rattle.std.proofs.lemmas.Result.{IfOk-weaker}
use Rattle.dep_sort.specs.FirstOrder.{first_places}
use Rattle.dep_sort.proofs.Sorting.{Entry, first_less, first_order, first_places_are, first_count, first_within}
use Rattle.dep_sort.proofs.places.first_places.Goals as goal

pub returns : goal.returns
returns c =
    let compares = answers_always _ (λ a r. is_lt r ≡ first_less a.0.now a.1.0.now) _ (λ f a r f' called. search rules) in
    let rising : IsSortedBy first_less c.sort_by.new.self.items = c.in_ok-sort_by.ensures.sorted first_less first_order compares in
    let stable : (z : Entry) → filter (ties first_less z) c.sort_by.new.self.items ≡ filter (ties first_less z) c.in_ok-entries.entries.items = c.in_ok-sort_by.ensures.stable first_less first_order compares in
    let is : (v : Vec ℕ Global) → v.items ≡ map (λ (e : Entry). e.0) c.deref.result.now → v.items ≡ first_places c.args.objects.now = λ v is. is ∙ ap (map (λ (e : Entry). e.0)) c.deref.ensures.value ∙ first_places_are c.args.objects.now c.in_ok-entries.entries.items c.sort_by.new.self.items c.in_ok-entries.ensures rising stable in
    let given : Vec ℕ Global → Type 0 = λ v. v.items ≡ map (λ (e : Entry). e.0) c.deref.result.now in
    record {
      value = IfOk-weaker c.places_of.result given (λ (v : Vec ℕ Global). v.items ≡ first_places c.args.objects.now) is c.places_of.ensures;
      count = IfOk-weaker c.places_of.result given (λ (v : Vec ℕ Global). length v.items ≡ length c.args.objects.now) (λ v h. ap length (is v h) ∙ first_count c.args.objects.now) c.places_of.ensures;
      within = IfOk-weaker c.places_of.result given (λ (v : Vec ℕ Global). All (λ place. place < length c.args.objects.now) v.items) (λ v h. subst (All (λ place. place < length c.args.objects.now)) (sym (is v h)) (first_within c.args.objects.now)) c.places_of.ensures;
    }
