-- Where the code's reading of a view's body stands, as the definition of its references sees it: the code keeps the
-- outer brackets with the innermost last.
use Rattle.std.specs.Prelude.{map, reverse}
use Rattle.stmt_refs.specs.declared.place.Bracket.{Bracket}
use Rattle.stmt_refs.specs.declared.place.Place.{Place}
use Rattle.cat_model.specs.References as refs

abbrev pub bracket : Bracket → refs.Bracket
bracket b = record { listing = b.listing; own = b.own }

abbrev pub place : Place → refs.Place
place p = record {
  inner = bracket p.inner;
  outer = map bracket (reverse p.outer.items);
  distinct = p.distinct;
  calls_own = p.calls_own;
  expects = p.expects;
  passing = p.passing;
}
