use Rattle.std.proofs.Common.{◌≡◌, ℕ, ℤ, w64, to_z, of_z, List, Some, None, false, sym, ap, subst, ◌∙◌}
use Rattle.std.specs.List.{slice_get}
use Rattle.std.proofs.lemmas.Int.{to_z-of_z}
use Rattle.std.proofs.lemmas.Option.{none-some, same_Some}
use Rattle.oid_groups.specs.Groups.{Key, first_place}
use Rattle.oid_groups.proofs.Placing.{is_key, is_key-tested, key_start_is, first_is_there, none_is_there}
use Rattle.oid_groups.proofs.groups.Groups.first.Goals as goal

-- a number that is moved into a pair goes through its machine form, and is itself again
pub returns-in-Some : goal.returns-in-Some
returns-in-Some c =
    let number : ℤ = to_z w64 (of_z w64 c.args.number) in
    let at : ℕ = c.key_start-at.result in
    let there : slice_get c.self.inside.sorted.items at ≡ Some c.in-Some.key = ap (λ (l : List Key). slice_get l at) (sym c.deref-2.ensures.value) ∙ sym c.in-Some.ensures in
    c.place_at.ensures
    ∙ ap (λ (l : List ℕ). slice_get l at) c.deref-in-Some.ensures.value
    ∙ first_is_there _ _ _ c.args.oid number at c.in-Some.key c.self.invariant (key_start_is _ _ _ _ (c.args.oid, number) _ c.self.invariant c.deref.ensures.value c.key_start-at.ensures) there (is_key-tested c.args.oid number c.in-Some.key ∙ sym c.eq.ensures ∙ c.if-eq.true)
    ∙ ap (λ (keys : List Key). first_place keys c.args.oid number) c.self.view_is
    ∙ ap (first_place c.args.self.now c.args.oid) (to_z-of_z w64 c.args.number c.ranges.number)

pub returns-in_default : goal.returns-in_default
returns-in_default c =
    let number : ℤ = to_z w64 (of_z w64 c.args.number) in
    let at : ℕ = c.key_start-at.result in
    let there : slice_get c.self.inside.sorted.items at ≡ Some c.in-Some.key = ap (λ (l : List Key). slice_get l at) (sym c.deref-2.ensures.value) ∙ sym c.in-Some.ensures in
    let other : is_key c.args.oid number c.in-Some.key ≡ false = is_key-tested c.args.oid number c.in-Some.key ∙ sym c.eq.ensures ∙ c.if-eq.false in
    none_is_there _ _ _ c.args.oid number at c.self.invariant (key_start_is _ _ _ _ (c.args.oid, number) _ c.self.invariant c.deref.ensures.value c.key_start-at.ensures) (λ key is. subst (λ (k : Key). is_key c.args.oid number k ≡ false) (same_Some c.in-Some.key key (sym there ∙ is)) other)
    ∙ ap (λ (keys : List Key). first_place keys c.args.oid number) c.self.view_is
    ∙ ap (first_place c.args.self.now c.args.oid) (to_z-of_z w64 c.args.number c.ranges.number)

pub returns-in_default-2 : goal.returns-in_default-2
returns-in_default-2 c =
    let number : ℤ = to_z w64 (of_z w64 c.args.number) in
    let at : ℕ = c.key_start-at.result in
    let none : slice_get c.self.inside.sorted.items at ≡ None = ap (λ (l : List Key). slice_get l at) (sym c.deref-2.ensures.value) ∙ sym c.key_at.ensures ∙ c.in_default.is in
    none_is_there _ _ _ c.args.oid number at c.self.invariant (key_start_is _ _ _ _ (c.args.oid, number) _ c.self.invariant c.deref.ensures.value c.key_start-at.ensures) (λ key is. absurd (none-some key (sym none ∙ is)))
    ∙ ap (λ (keys : List Key). first_place keys c.args.oid number) c.self.view_is
    ∙ ap (first_place c.args.self.now c.args.oid) (to_z-of_z w64 c.args.number c.ranges.number)
