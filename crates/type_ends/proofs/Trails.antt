-- Jumps that are doubled lead where so many single steps do.
use Rattle.std.proofs.Common.{◌≡◌, ℕ, zero, suc, ◌+◌, ◌*◌, Bool, true, false, List, length, Option, Some, None, option_map, unwrap_or, slice_get, refl, sym, ap, ◌∙◌, arith, zero-add}
use Rattle.std.specs.Prelude.{◌||◌}
use Rattle.std.proofs.lemmas.List.{length-map}
use Rattle.std.proofs.lemmas.Option.{slice_get-map}
use Rattle.type_ends.specs.declared.jumps.Jump.{Jump}
use Rattle.type_ends.specs.Jumps.{stay, jump_from, behind, doubled, trail}

or_none : (b : Bool) → b || false ≡ b
or_none true = refl
or_none false = refl

or_assoc : (a b c : Bool) → (a || b) || c ≡ a || (b || c)
or_assoc true b c = refl
or_assoc false b c = refl

stay_first : (place : ℕ) (j : Jump) → behind (stay place) j ≡ j
stay_first place j = ap (λ b. let more : Jump = record { place = j.place; not_null = b } in more) (or_none j.not_null)

behind_assoc : (a b c : Jump) → behind a (behind b c) ≡ behind (behind a b) c
behind_assoc a b c = ap (λ n. let more : Jump = record { place = c.place; not_null = n } in more) (or_assoc c.not_null b.not_null a.not_null)

-- some steps and then more are all of them
trail_add : (steps : List Jump) (m n place : ℕ) → trail steps (m + n) place ≡ behind (trail steps m place) (trail steps n (trail steps m place).place)
unfolding trail
trail_add steps zero n place = ap (λ k. trail steps k place) (zero-add n) ∙ sym (stay_first place (trail steps n place))
trail_add steps (suc m) n place =
    let j = jump_from steps place in
    let t = trail steps m j.place in
    let plus : suc m + n ≡ suc (m + n) = omega arith in
    ap (λ k. trail steps k place) plus
    ∙ ap (behind j) (trail_add steps m n j.place)
    ∙ behind_assoc j t (trail steps n t.place)

-- these are jumps of so many steps
pub record AreJumps (steps jumps : List Jump) (count : ℕ) : Type 0 where
  pub all : length jumps ≡ length steps
  pub leads : (place : ℕ) → jump_from jumps place ≡ trail steps count place

pub single_steps : (steps : List Jump) → AreJumps steps steps 1
unfolding trail
single_steps steps = record { all = refl; leads = λ p. refl }

pub more_steps : (steps jumps : List Jump) (k : ℕ) → AreJumps steps jumps k → AreJumps steps (doubled jumps) (k * 2)
more_steps steps jumps k are = record { all = length-map jumps further ∙ are.all; leads = leads }
  where
    twice : k + k ≡ k * 2
    twice = omega arith

    further : Jump → Jump
    further j = behind j (jump_from jumps j.place)

    by : (place : ℕ) (o : Option Jump) → slice_get jumps place ≡ o → unwrap_or (option_map further o) (stay place) ≡ further (unwrap_or o (stay place))
    by place (Some j) e = refl
    by place None e = sym (ap (λ o. behind (stay place) (unwrap_or o (stay place))) e)

    go : (place : ℕ) (j : Jump) → j ≡ trail steps k place → further j ≡ behind (trail steps k place) (trail steps k (trail steps k place).place)
    go place j e = ap (behind j) (are.leads j.place) ∙ ap (λ t. behind t (trail steps k t.place)) e

    leads : (place : ℕ) → jump_from (doubled jumps) place ≡ trail steps (k * 2) place
    leads place =
        ap (λ o. unwrap_or o (stay place)) (slice_get-map further jumps place)
        ∙ by place (slice_get jumps place) refl
        ∙ go place (jump_from jumps place) (are.leads place)
        ∙ sym (trail_add steps k k place)
        ∙ ap (λ n. trail steps n place) twice
