-- A part of an archive's layout: which bytes spell which value, how a value is read, and how it is written.
-- Parts are put together by a few combinators, so that the layout of an entry reads like its list of fields.
use Rattle.std.specs.Prelude.{◌≡◌, ℕ, zero, suc, List, [], ◌∷◌, ◌++◌, length, Option, Some, None, Result, Ok, Err}

-- a value and the bytes behind it, or a fault
abbrev pub Reading : Type 0 → Type 0 → Type 0
Reading E A = Result (A × List ℕ) E

infixl 10 ◌>>=◌
abbrev pub ◌>>=◌ : {E A B : Type 0} → Result A E → (A → Result B E) → Result B E
(Ok x) >>= f = f x
(Err e) >>= f = Err e

-- `Spells` has each spelling that is read, `write` the one that is written, and `Fits` the values that can be.
pub record Part (E A : Type 0) : Type 1 where
  pub Spells : A → List ℕ → Type 0
  pub read : List ℕ → Reading E A
  pub write : A → List ℕ
  pub Fits : A → Type 0

-- ---- nothing at all

abbrev pub nothing : {E A : Type 0} → A → Part E A
nothing v = record {
  Spells = λ w bytes. (w ≡ v) × (bytes ≡ []);
  read = λ bytes. Ok (v, bytes);
  write = λ w. [];
  Fits = λ w. w ≡ v;
}

-- ---- one after another

abbrev pub then_at : {E A B : Type 0} → (List ℕ → Reading E A) → (List ℕ → Reading E B) → List ℕ → Reading E (A × B)
then_at p q bytes = p bytes >>= λ a. q a.1 >>= λ b. Ok ((a.0, b.0), b.1)

infixr 20 ◌then◌
abbrev pub ◌then◌ : {E A B : Type 0} → Part E A → Part E B → Part E (A × B)
p then q = record {
  Spells = λ v bytes. (a : List ℕ) × (b : List ℕ) × (bytes ≡ a ++ b) × p.Spells v.0 a × q.Spells v.1 b;
  read = then_at p.read q.read;
  write = λ v. p.write v.0 ++ q.write v.1;
  Fits = λ v. p.Fits v.0 × q.Fits v.1;
}

-- a part whose form a first part tells, as bytes behind their number; the value tells the first part's
abbrev pub behind_at : {E N A : Type 0} → (List ℕ → Reading E N) → (N → List ℕ → Reading E A) → List ℕ → Reading E A
behind_at p q bytes = p bytes >>= λ n. q n.0 n.1

abbrev pub behind : {E N A : Type 0} → Part E N → (N → Part E A) → (A → N) → Part E A
behind {E} {N} {A} p q told = record {
  Spells = λ v bytes. (n : N) × (a : List ℕ) × (b : List ℕ) × (bytes ≡ a ++ b) × p.Spells n a × (q n).Spells v b;
  read = behind_at p.read (λ n. (q n).read);
  write = λ v. p.write (told v) ++ (q (told v)).write v;
  Fits = λ v. p.Fits (told v) × (q (told v)).Fits v;
}

-- ---- a value seen through another

abbrev pub seen_at : {E A B : Type 0} → (A → B) → Reading E A → Reading E B
seen_at f (Ok x) = Ok (f x.0, x.1)
seen_at f (Err e) = Err e

-- `f` sees the value, and `g` is what is written for it
abbrev pub seen : {E A B : Type 0} → (A → B) → (B → A) → Part E A → Part E B
seen {E} {A} f g p = record {
  Spells = λ w bytes. (v : A) × (w ≡ f v) × p.Spells v bytes;
  read = λ bytes. seen_at f (p.read bytes);
  write = λ w. p.write (g w);
  Fits = λ w. (f (g w) ≡ w) × p.Fits (g w);
}

-- A value that has a meaning, or none: then it is at fault, at the place of its first byte. Places count the bytes from
-- there to the end.
abbrev pub meant : {E A B : Type 0} → (A → ℕ → E) → ℕ → A → List ℕ → Option B → Reading E B
meant fault left v rest (Some w) = Ok (w, rest)
meant fault left v rest None = Err (fault v left)

abbrev pub understood_at : {E A B : Type 0} → (A → Option B) → (A → ℕ → E) → (List ℕ → Reading E A) → List ℕ → Reading E B
understood_at meaning fault p bytes = p bytes >>= λ x. meant fault (length bytes) x.0 x.1 (meaning x.0)

abbrev pub understood : {E A B : Type 0} → (A → Option B) → (B → A) → (A → ℕ → E) → Part E A → Part E B
understood {E} {A} meaning g fault p = record {
  Spells = λ w bytes. (v : A) × (meaning v ≡ Some w) × p.Spells v bytes;
  read = understood_at meaning fault p.read;
  write = λ w. p.write (g w);
  Fits = λ w. (meaning (g w) ≡ Some w) × p.Fits (g w);
}

-- ---- the same part with its faults seen as others

abbrev pub raised_at : {E F A : Type 0} → (E → F) → Reading E A → Reading F A
raised_at f (Ok x) = Ok x
raised_at f (Err e) = Err (f e)

abbrev pub raised : {E F A : Type 0} → (E → F) → Part E A → Part F A
raised f p = record {
  Spells = p.Spells;
  read = λ bytes. raised_at f (p.read bytes);
  write = p.write;
  Fits = p.Fits;
}

-- ---- any number of them

-- items up to one that says that there are no more
abbrev pub Listed : {E A : Type 0} → Part E (Option A) → List A → List ℕ → Type 0
Listed p [] bytes = p.Spells None bytes
Listed p (v ∷ vs) bytes = (a : List ℕ) × (b : List ℕ) × (bytes ≡ a ++ b) × p.Spells (Some v) a × Listed p vs b

abbrev pub FitsListed : {E A : Type 0} → Part E (Option A) → List A → Type 0
FitsListed p [] = p.Fits None
FitsListed p (v ∷ vs) = p.Fits (Some v) × FitsListed p vs

abbrev pub listed_text : {E A : Type 0} → Part E (Option A) → List A → List ℕ
listed_text p [] = p.write None
listed_text p (v ∷ vs) = p.write (Some v) ++ listed_text p vs

abbrev pub listed_by : {E A : Type 0} → (List ℕ → Reading E (List A)) → Option A → List ℕ → Reading E (List A)
listed_by more None rest = Ok ([], rest)
listed_by more (Some v) rest = more rest >>= λ y. Ok (v ∷ y.0, y.1)

abbrev pub none_more : {E A : Type 0} → List ℕ → Reading E (List A)
none_more rest = Ok ([], rest)

-- at most n items and one more; each takes a byte at least, so their number is never passed
unfoldable pub listed_at : {E A : Type 0} → Part E (Option A) → ℕ → List ℕ → Reading E (List A)
listed_at p zero bytes = p.read bytes >>= λ x. listed_by none_more x.0 x.1
listed_at p (suc n) bytes = p.read bytes >>= λ x. listed_by (listed_at p n) x.0 x.1

abbrev pub listed : {E A : Type 0} → Part E (Option A) → Part E (List A)
listed p = record {
  Spells = Listed p;
  read = λ bytes. listed_at p (length bytes) bytes;
  write = listed_text p;
  Fits = FitsListed p;
}

-- How items follow one another by a state, to which each item adds: what an item may be is told by those before it.
pub record Items (E A : Type 0) : Type 1 where
  pub State : Type 0
  pub item : State → Part E A
  pub next : State → A → State

-- so many items
abbrev pub Counted : {E A : Type 0} → (items : Items E A) → ℕ → items.State → List A → List ℕ → Type 0
Counted items zero s [] bytes = bytes ≡ []
Counted items (suc n) s (v ∷ vs) bytes = (a : List ℕ) × (b : List ℕ) × (bytes ≡ a ++ b) × (items.item s).Spells v a × Counted items n (items.next s v) vs b
Counted items zero s (v ∷ vs) bytes = ⊥
Counted items (suc n) s [] bytes = ⊥

abbrev pub FitsCounted : {E A : Type 0} → (items : Items E A) → ℕ → items.State → List A → Type 0
FitsCounted items zero s [] = Unit {0}
FitsCounted items (suc n) s (v ∷ vs) = (items.item s).Fits v × FitsCounted items n (items.next s v) vs
FitsCounted items zero s (v ∷ vs) = ⊥
FitsCounted items (suc n) s [] = ⊥

abbrev pub items_text : {E A : Type 0} → (items : Items E A) → items.State → List A → List ℕ
items_text items s [] = []
items_text items s (v ∷ vs) = (items.item s).write v ++ items_text items (items.next s v) vs

unfoldable pub counted_at : {E A : Type 0} → (items : Items E A) → ℕ → items.State → List ℕ → Reading E (List A)
counted_at items zero s bytes = Ok ([], bytes)
counted_at items (suc n) s bytes =
    (items.item s).read bytes >>= λ x. counted_at items n (items.next s x.0) x.1 >>= λ y. Ok (x.0 ∷ y.0, y.1)

-- the state behind some items
abbrev pub state_after : {E A : Type 0} → (items : Items E A) → items.State → List A → items.State
state_after items s [] = s
state_after items s (v ∷ vs) = state_after items (items.next s v) vs

-- how many bytes are left behind each item
abbrev pub left_behind : {E A : Type 0} → (A → List ℕ → List ℕ) → Reading E A → List ℕ
left_behind more (Ok x) = length x.1 ∷ more x.0 x.1
left_behind more (Err e) = []

unfoldable pub lefts_at : {E A : Type 0} → (items : Items E A) → ℕ → items.State → List ℕ → List ℕ
lefts_at items zero s bytes = []
lefts_at items (suc n) s bytes = left_behind (λ v rest. lefts_at items n (items.next s v) rest) ((items.item s).read bytes)

abbrev pub counted : {E A : Type 0} → (items : Items E A) → items.State → ℕ → Part E (List A)
counted items s n = record {
  Spells = Counted items n s;
  read = counted_at items n s;
  write = items_text items s;
  Fits = FitsCounted items n s;
}

-- items up to the end of the bytes
abbrev pub ToEnd : {E A : Type 0} → (items : Items E A) → items.State → List A → List ℕ → Type 0
ToEnd items s [] bytes = bytes ≡ []
ToEnd items s (v ∷ vs) bytes = (a : List ℕ) × (b : List ℕ) × (bytes ≡ a ++ b) × (items.item s).Spells v a × ToEnd items (items.next s v) vs b

-- at most n items, each of a byte at least
unfoldable pub to_end_at : {E A : Type 0} → (items : Items E A) → ℕ → items.State → List ℕ → Result (List A) E
to_end_at items n s [] = Ok []
to_end_at items zero s (b ∷ bytes) = Ok []
to_end_at items (suc n) s (b ∷ bytes) =
    (items.item s).read (b ∷ bytes) >>= λ x. to_end_at items n (items.next s x.0) x.1 >>= λ vs. Ok (x.0 ∷ vs)

abbrev pub to_end : {E A : Type 0} → (items : Items E A) → items.State → List ℕ → Result (List A) E
to_end items s bytes = to_end_at items (length bytes) s bytes
