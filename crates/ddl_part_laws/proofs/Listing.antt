-- The laws of lists with commas between their items.
use Rattle.ddl_part_laws.proofs.Common.{arith, Bool, true, false, ◌||◌, refl, or_parts, Lexeme, Part, Lawful, Begins, Apart, name, is_name, comma, item_begins, item_of, listing, listed}
use Rattle.ddl_part_laws.proofs.{Steps.Agrees, Shorter.sign_agrees, Shorter.name_agrees, Sequence.lead_begins, Leads.sign_laws, Leads.name_laws, Leads.name_begins, Repeated.AreApart, Repeated.many_laws}

-- a comma can't go on with an item, so that items are told apart
pub listing_apart : {A : Type 0} (first : Lexeme → Bool) → Agrees first → (p : Part A) → Lawful p → Begins first p → Apart comma p.goes_on → AreApart (λ t. first t || (comma t || p.goes_on t)) (listing first p)
listing_apart first agrees p lp begins apart = record {
  laws = λ s ts e. laws s;
  agrees = agreeing;
  begins = grind (arith, lead_begins);
  apart = grind arith;
  covers = grind (arith, or_parts);
}
  where
    laws : (s : Bool) → Lawful (item_of p s)
    laws true = sign_laws 44 p lp
    laws false = lp

    agreeing : (s : Bool) → Agrees (item_begins first s)
    agreeing true = sign_agrees 44
    agreeing false = agrees

pub listed_laws : {A : Type 0} (first : Lexeme → Bool) → Agrees first → (p : Part A) → Lawful p → Begins first p → Apart comma p.goes_on → Lawful (listed first p)
listed_laws first agrees p lp begins apart = many_laws (listing_apart first agrees p lp begins apart)

-- names with commas between them: a name takes no comma
pub names_laws : Lawful (listed is_name name)
names_laws = listed_laws is_name name_agrees name name_laws name_begins (λ t is. refl)
