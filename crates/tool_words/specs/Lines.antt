-- What a stream has taken, where it tells it.
use Rattle.std.specs.Prelude.{◌≡◌, ℕ, ◌++◌, List, Option, option_map}

-- it took this text
abbrev pub Appends : List ℕ → Option (List ℕ) → Option (List ℕ) → Type 0
Appends text before after = after ≡ option_map (λ written. written ++ text) before

-- it took some first part of this text
pub record AppendsPart (text : List ℕ) (before after : Option (List ℕ)) : Type 0 where
  pub front : List ℕ
  pub rest : List ℕ
  pub split : text ≡ front ++ rest
  pub taken : Appends front before after
