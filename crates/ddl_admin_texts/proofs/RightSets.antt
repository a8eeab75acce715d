-- Sets of rights: a set as the list of its rights, a set within another, and all the rights of a kind.
use Rattle.ddl_admin_texts.proofs.Common.{◌≡◌, ℕ, Bool, true, false, List, [], ◌∷◌, ◌++◌, map, refl, sym, ap, ◌∙◌, codes, arith, flat_map, or_right, and_parts, Rights, Granted, no_rights, has_rights, Right, Select, Usage, Insert, References, Delete, Trigger, Truncate, Update, Create, Kind, has, with_right, within, kind_rights, some_kind_has, goes_with, all_of}
use Rattle.ddl_forms.specs.RightsText.{is_all, each_right, word_there}
use Rattle.ddl_grammar.specs.Writable.{kind_of}

-- ---- all the rights of a kind

pub all_is : (object : Granted) (r : Rights) → is_all object r ≡ true → r ≡ kind_rights (kind_of object)
unfolding is_all
all_is object r e = grind arith

pub kind_some : (k : Kind) → has_rights (kind_rights k) ≡ true
kind_some k = grind arith

pub kind_whole : (k : Kind) → within (kind_rights k) (kind_rights k) ≡ true
kind_whole k = grind arith

-- ---- some right

pub has_some : (r : Rights) (x : Right) → has x r ≡ true → has_rights r ≡ true
has_some r x e = grind arith

pub has_it : (x : Right) (r : Rights) → has x (with_right x r) ≡ true
has_it x r = grind arith

-- ---- a set as a list

abbrev right_there : Bool → Right → List Right
right_there true x = x ∷ []
right_there false x = []

-- the rights of a set, in their order
abbrev pub listed : Rights → List Right
listed r =
    flat_map (λ (x : Bool × Right). right_there x.0 x.1)
    ((r.select, Select) ∷ (r.usage, Usage) ∷ (r.insert, Insert) ∷ (r.references, References) ∷ (r.delete, Delete) ∷ (r.trigger, Trigger) ∷ (r.truncate, Truncate) ∷ (r.update, Update) ∷ (r.create, Create) ∷ [])

-- the set with this right, or without it
abbrev set_to : Bool → Right → Rights → Rights
set_to b Select r = record r { select = b }
set_to b Usage r = record r { usage = b }
set_to b Insert r = record r { insert = b }
set_to b References r = record r { references = b }
set_to b Delete r = record r { delete = b }
set_to b Trigger r = record r { trigger = b }
set_to b Truncate r = record r { truncate = b }
set_to b Update r = record r { update = b }
set_to b Create r = record r { create = b }

-- one step of the list, where the set lacks the right
stepped : (b : Bool) (x : Right) (r : Rights) (more : List Right) → set_to false x r ≡ r → set_to true x r ≡ with_right x r → all_of r (right_there b x ++ more) ≡ all_of (set_to b x r) more
stepped b x r more lacks with = grind arith

pub listed_is : (r : Rights) → all_of no_rights (listed r) ≡ r
listed_is r = grind (arith, stepped)

-- a list with an element
pub record IsListed (r : Rights) : Type 0 where
  pub first : Right
  pub more : List Right
  pub same : listed r ≡ first ∷ more

pub some_listed : (r : Rights) → has_rights r ≡ true → IsListed r
some_listed r e = by (listed r) refl
  where
    by : (xs : List Right) → listed r ≡ xs → IsListed r
    by [] is = absurd (let none : no_rights ≡ r = ap (all_of no_rights) (sym is) ∙ listed_is r in let no : has_rights no_rights ≡ true = ap has_rights none ∙ e in cc no)
    by (x ∷ xs) is = record { first = x; more = xs; same = is }

-- ---- words

abbrev pub written_word : Right → List ℕ
written_word Select = codes "SELECT"
written_word Usage = codes "USAGE"
written_word Insert = codes "INSERT"
written_word References = codes "REFERENCES"
written_word Delete = codes "DELETE"
written_word Trigger = codes "TRIGGER"
written_word Truncate = codes "TRUNCATE"
written_word Update = codes "UPDATE"
written_word Create = codes "CREATE"

word_of : (b : Bool) (x : Right) (xs : List Right) → map written_word (right_there b x ++ xs) ≡ word_there b (written_word x) ++ map written_word xs
word_of b x xs = grind arith

pub words_are : (r : Rights) → flat_map (λ (right : Bool × List ℕ). word_there right.0 right.1) (each_right r) ≡ map written_word (listed r)
words_are r = simp word_of

-- ---- sets within others

fewer_within : (k r : Rights) (x : Right) → within (with_right x r) k ≡ true → within r k ≡ true
fewer_within k r x e = grind (arith, and_parts)

front_within : (k r : Rights) (xs : List Right) → within (all_of r xs) k ≡ true → within r k ≡ true
front_within k r [] w = w
front_within k r (x ∷ xs) w = fewer_within k r x (front_within k (with_right x r) xs w)

-- each right of a list may stand behind those before it
abbrev pub AllGo : Rights → List Right → Type 0
AllGo r [] = Unit {0}
AllGo r (x ∷ xs) = (goes_with r x ≡ true) × AllGo (with_right x r) xs

pub all_go : (k : Kind) (r : Rights) (xs : List Right) → within (all_of r xs) (kind_rights k) ≡ true → AllGo r xs
unfolding goes_with some_kind_has
all_go k r [] w = tt
all_go k r (x ∷ xs) w =
    let kind_has_them : (k : Kind) (r : Rights) → within r (kind_rights k) ≡ true → some_kind_has r ≡ true = λ k r w. grind arith in
    grind (arith, or_right, kind_has_them, front_within, (all_go k (with_right x r) xs w))
