-- One more byte of a pattern's text, for each of the loops over it.
use Rattle.std.proofs.Common.{◌≡◌, ℕ, ◌+◌, ◌<◌, ◌≤◌, Bool, ◌||◌, ◌&&◌, List, [], ◌++◌, Some, None, length, drop, get_or, cond}
use Rattle.std.proofs.lemmas.List.{at_drop_more, at_drop_all}
use Rattle.std.specs.Option.{option_to_list}
use Rattle.patterns.specs.declared.marks.Quotes.{Quotes}
use Rattle.patterns.specs.Marks.{mark_of, quotes_behind, opened}
use Rattle.patterns.specs.Reading.{marks_from, open_from, is_dot, second_dot_from}

pub open_more : (quotes : Quotes) (text : List ℕ) (at : ℕ) → at < length text
    → open_from quotes at (drop at text) ≡ open_from (quotes_behind quotes at (get_or text at 0)) (at + 1) (drop (at + 1) text)
unfolding open_from
open_more quotes text at h = at_drop_more (open_from quotes at) text at 0 h

pub open_none : (quotes : Quotes) (text : List ℕ) (at : ℕ) → length text ≤ at → open_from quotes at (drop at text) ≡ opened quotes
unfolding open_from
open_none quotes text at h = at_drop_all (open_from quotes at) text at h

pub dots_more : (quotes : Quotes) (dotted : Bool) (text : List ℕ) (at : ℕ) → at < length text
    → second_dot_from quotes dotted at (drop at text)
    ≡ cond (is_dot (mark_of quotes (get_or text at 0)) && dotted) (Some at) (second_dot_from (quotes_behind quotes at (get_or text at 0)) (is_dot (mark_of quotes (get_or text at 0)) || dotted) (at + 1) (drop (at + 1) text))
unfolding second_dot_from
dots_more quotes dotted text at h = at_drop_more (second_dot_from quotes dotted at) text at 0 h

pub dots_none : (quotes : Quotes) (dotted : Bool) (text : List ℕ) (at : ℕ) → length text ≤ at → second_dot_from quotes dotted at (drop at text) ≡ None
unfolding second_dot_from
dots_none quotes dotted text at h = at_drop_all (second_dot_from quotes dotted at) text at h

pub marks_more : (quotes : Quotes) (text : List ℕ) (at : ℕ) → at < length text
    → marks_from quotes at (drop at text) ≡ option_to_list (mark_of quotes (get_or text at 0)) ++ marks_from (quotes_behind quotes at (get_or text at 0)) (at + 1) (drop (at + 1) text)
unfolding marks_from
marks_more quotes text at h = at_drop_more (marks_from quotes at) text at 0 h

pub marks_none : (quotes : Quotes) (text : List ℕ) (at : ℕ) → length text ≤ at → marks_from quotes at (drop at text) ≡ []
unfolding marks_from
marks_none quotes text at h = at_drop_all (marks_from quotes at) text at h
