-- What is known of the entries that were passed, by their dump ids.
use Rattle.std.specs.Prelude.{◌≡◌, ℕ, nat_eq, List, option_map}
use Rattle.std.specs.HashMap.{HashMap, get}
use Rattle.toc_entry.specs.declared.entry.Entry.{Entry}
use Rattle.entry_choices.specs.declared.options.Options.{Options}
use Rattle.entry_choices.specs.declared.known.Known.{Known}
use Rattle.entry_choices.specs.Choices.{section_among, is_taken_among}

-- the book has each of these entries, the last one first
pub record Knows {S : Type 0} (o : Options) (before : List Entry) (book : HashMap ℕ Known S) : Type 0 where
  pub sections : (id : ℕ) → option_map (λ k. k.section) (get nat_eq book id) ≡ section_among before id
  pub taken : (id : ℕ) → option_map (λ k. k.taken) (get nat_eq book id) ≡ is_taken_among o before id
