-- What is kept of the rows before a line, so that a key that is there again is found without going through them.
use Rattle.std.specs.Prelude.{◌≡◌, List, filter_map}
use Rattle.std.specs.List.{list_any}
use Rattle.std.specs.Ordering.{nat_cmp}
use Rattle.cat_names.specs.Indexed.{AreKeys}
use Rattle.cat_book.specs.Rules.{Rules, name_cmp, place_cmp}
use Rattle.cat_book.specs.Sets.{HoldsSeen, seen_name}
use Rattle.cat_book.specs.declared.seen.Seen.{Seen}

-- the sets are those of the keys of these rows, and the mark is known
pub record AreSeen {C R : Type 0} (rules : Rules C R) (before : List R) (seen : Seen) : Type 0 where
  pub oids : AreKeys nat_cmp seen.oids (filter_map (λ r. (rules.keys r).oid) before)
  pub names : HoldsSeen seen_name name_cmp seen.names (filter_map (λ r. (rules.keys r).name) before)
  pub places : AreKeys place_cmp seen.places (filter_map (λ r. (rules.keys r).place) before)
  pub is_marked : seen.is_marked ≡ list_any (λ r. (rules.keys r).is_marked) before
