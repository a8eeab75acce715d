-- What was read stands in front of what is still to be read.
use Rattle.std.proofs.Common.{◌≡◌, ℕ, suc, ◌+◌, ◌<◌, ◌≤◌, Bool, true, false, cond, eqb, List, [], ◌∷◌, ◌++◌, length, drop, get_or, Option, Some, None, refl, sym, ap, ◌∙◌, append_assoc, add-one, inl, inr, ◌⊎◌}
use Rattle.std.proofs.Math.Seq.{drop-cons}
use Rattle.std.proofs.lemmas.Bool.{cases_Bool}
use Rattle.std.proofs.lemmas.List.{append-nil, drop_all}
use Rattle.acl_text.specs.declared.rights.Right.{Right}
use Rattle.acl_text.specs.declared.rights.Privilege.{Privilege}
use Rattle.acl_text.specs.declared.list.AclItem.{AclItem}
use Rattle.acl_text.specs.declared.reading.AclError.{AclError}
use Rattle.acl_text.specs.declared.reading.AclError.TheVariants.{NotAnAcl, Memory}
use Rattle.acl_text.specs.declared.reading.Effect.TheVariants.{Keep, Cut}
use Rattle.acl_text.specs.declared.reading.State.{State}
use Rattle.acl_text.specs.declared.reading.State.TheVariants.{Start, Bare, Quoted, Escaped, Closed, Done, Failed}
use Rattle.acl_text.specs.Acls.{FailsAcl, ◌>>=◌, quote, star, elements_from, elements_before, byte_before, effect_of, next_state, at_end, item_of, items_of, privilege_of, rights_from, right_before, starts_with_star, after_star, behind, quoted_name, onto_name}

-- ---- lists of parts

abbrev pub in_front : {A : Type 0} → List A → Option (List A) → Option (List A)
in_front xs None = None
in_front xs (Some ys) = Some (xs ++ ys)

pub in_front-nil : {A : Type 0} (r : Option (List A)) → in_front [] r ≡ r
in_front-nil None = refl
in_front-nil (Some ys) = refl

in_front-one : {A : Type 0} (xs : List A) (x : A) (r : Option (List A)) → in_front xs (r >>= (λ ys. Some (x ∷ ys))) ≡ in_front (xs ++ x ∷ []) r
in_front-one xs x None = refl
in_front-one xs x (Some ys) = ap Some (sym (append_assoc xs (x ∷ []) ys))

-- where one reading fails exactly as another
pub FailsAcl-from : {Y Z : Type 0} (e : AclError) (read : Option Y) (other : Option Z) → (read ≡ None → other ≡ None) → FailsAcl e read → FailsAcl e other
FailsAcl-from NotAnAcl read other same fails = same fails
FailsAcl-from Memory read other same fails = tt

-- ---- items

pub items_step : (texts : List (List ℕ)) (i : ℕ) (item : AclItem) (done : List AclItem) (whole : Option (List AclItem)) → i < length texts → item_of (get_or texts i []) ≡ Some item → whole ≡ in_front done (items_of (drop i texts)) → whole ≡ in_front (done ++ item ∷ []) (items_of (drop (i + 1) texts))
unfolding items_of
items_step texts i item done whole lt read so_far =
    let here : drop i texts ≡ get_or texts i [] ∷ drop (i + 1) texts = rw add-one (drop-cons texts i [] lt) in
    let opened : items_of (drop i texts) ≡ (items_of (drop (i + 1) texts) >>= (λ others. Some (item ∷ others))) = rw (here, read) refl in
    so_far ∙ ap (in_front done) opened ∙ in_front-one done item (items_of (drop (i + 1) texts))

pub items_fail : (texts : List (List ℕ)) (i : ℕ) (done : List AclItem) (whole : Option (List AclItem)) → i < length texts → item_of (get_or texts i []) ≡ None → whole ≡ in_front done (items_of (drop i texts)) → whole ≡ None
unfolding items_of
items_fail texts i done whole lt read so_far =
    let here : drop i texts ≡ get_or texts i [] ∷ drop (i + 1) texts = rw add-one (drop-cons texts i [] lt) in
    let opened : items_of (drop i texts) ≡ None = rw (here, read) refl in
    so_far ∙ ap (in_front done) opened

pub items_end : (texts : List (List ℕ)) (i : ℕ) (done : List AclItem) (whole : Option (List AclItem)) → length texts ≤ i → whole ≡ in_front done (items_of (drop i texts)) → whole ≡ Some done
unfolding items_of
items_end texts i done whole le so_far =
    let none : drop i texts ≡ [] = drop_all i texts le in
    let opened : items_of (drop i texts) ≡ Some [] = rw none refl in
    so_far ∙ ap (in_front done) opened ∙ ap Some (append-nil done)

-- ---- elements

pub put_keep : (done : List (List ℕ)) (begun : List ℕ) (b : ℕ) (more : Option (List ℕ × List (List ℕ))) → elements_before done (begun ++ b ∷ []) more ≡ elements_before done begun (byte_before Keep b more)
put_keep done begun b None = refl
put_keep done begun b (Some read) = ap (λ (l : List ℕ). Some (done ++ l ∷ read.1)) (append_assoc begun (b ∷ []) read.0)

pub put_cut : (done : List (List ℕ)) (begun : List ℕ) (b : ℕ) (more : Option (List ℕ × List (List ℕ))) → elements_before (done ++ begun ∷ []) [] more ≡ elements_before done begun (byte_before Cut b more)
put_cut done begun b None = refl
put_cut done begun b (Some read) = ap Some (append_assoc done (begun ∷ []) (read.0 ∷ read.1) ∙ ap (λ (l : List ℕ). done ++ l ∷ read.0 ∷ read.1) (sym (append-nil begun)))

pub elements_step : (text : List ℕ) (i : ℕ) (state : State) (b : ℕ) (done done' : List (List ℕ)) (begun begun' : List ℕ) (whole : Option (List (List ℕ))) → i < length text → b ≡ get_or text i 0 → ((more : Option (List ℕ × List (List ℕ))) → elements_before done' begun' more ≡ elements_before done begun (byte_before (effect_of state b) b more)) → whole ≡ elements_before done begun (elements_from state (drop i text)) → whole ≡ elements_before done' begun' (elements_from (next_state state b) (drop (i + 1) text))
unfolding elements_from
elements_step text i state b done done' begun begun' whole lt is put so_far =
    let here : drop i text ≡ b ∷ drop (i + 1) text = rw add-one (drop-cons text i 0 lt ∙ ap (λ (x : ℕ). x ∷ drop (suc i) text) (sym is)) in
    let opened : elements_from state (drop i text) ≡ byte_before (effect_of state b) b (elements_from (next_state state b) (drop (i + 1) text)) = rw here refl in
    so_far ∙ ap (elements_before done begun) opened ∙ sym (put (elements_from (next_state state b) (drop (i + 1) text)))

pub elements_end : (text : List ℕ) (i : ℕ) (state : State) (done : List (List ℕ)) (begun : List ℕ) (whole : Option (List (List ℕ))) → length text ≤ i → whole ≡ elements_before done begun (elements_from state (drop i text)) → whole ≡ elements_before done begun (at_end state)
unfolding elements_from
elements_end text i state done begun whole le so_far =
    let none : drop i text ≡ [] = drop_all i text le in
    let opened : elements_from state (drop i text) ≡ at_end state = rw none refl in
    so_far ∙ ap (elements_before done begun) opened

pub elements_done : (done : List (List ℕ)) (begun : List ℕ) → elements_before done begun (at_end Done) ≡ Some (done ++ begun ∷ [])
elements_done done begun = ap (λ (l : List ℕ). Some (done ++ l ∷ [])) (append-nil begun)

pub elements_open : (done : List (List ℕ)) (begun : List ℕ) (state : State) → (state ≡ Done → ⊥) → elements_before done begun (at_end state) ≡ None
elements_open done begun Start never = refl
elements_open done begun Bare never = refl
elements_open done begun Quoted never = refl
elements_open done begun Escaped never = refl
elements_open done begun Closed never = refl
elements_open done begun Done never = absurd (never refl)
elements_open done begun Failed never = refl

-- ---- rights

pub after_star-from : (letters : List ℕ) → rights_from (starts_with_star letters) letters ≡ rights_from false (after_star letters)
unfolding rights_from
after_star-from [] = refl
after_star-from (b ∷ rest) = by (eqb b star)
  where
    by : (t : Bool) → rights_from t (b ∷ rest) ≡ rights_from false (cond t rest (b ∷ rest))
    by true = refl
    by false = refl

pub rights_step : (letters : List ℕ) (b : ℕ) (behind : List ℕ) (privilege : Privilege) (done : List Right) (whole : Option (List Right)) → letters ≡ b ∷ behind → privilege_of b ≡ Some privilege → whole ≡ in_front done (rights_from false letters) → whole ≡ in_front (done ++ record { privilege = privilege; grant_option = starts_with_star behind } ∷ []) (rights_from false (after_star behind))
unfolding rights_from
rights_step letters b behind privilege done whole here read so_far =
    let opened : rights_from false letters ≡ right_before (Some privilege) (starts_with_star behind) (rights_from (starts_with_star behind) behind) = rw (here, read) refl in
    so_far ∙ ap (in_front done) (opened ∙ ap (right_before (Some privilege) (starts_with_star behind)) (after_star-from behind)) ∙ by (rights_from false (after_star behind))
  where
    by : (r : Option (List Right)) → in_front done (right_before (Some privilege) (starts_with_star behind) r) ≡ in_front (done ++ record { privilege = privilege; grant_option = starts_with_star behind } ∷ []) r
    by None = refl
    by (Some rights) = ap Some (sym (append_assoc done (record { privilege = privilege; grant_option = starts_with_star behind } ∷ []) rights))

pub rights_fail : (letters : List ℕ) (b : ℕ) (behind : List ℕ) (done : List Right) (whole : Option (List Right)) → letters ≡ b ∷ behind → privilege_of b ≡ None → whole ≡ in_front done (rights_from false letters) → whole ≡ None
unfolding rights_from
rights_fail letters b behind done whole here read so_far =
    let opened : rights_from false letters ≡ None = rw (here, read) refl in
    so_far ∙ ap (in_front done) opened

pub rights_end : (letters : List ℕ) (done : List Right) (whole : Option (List Right)) → letters ≡ [] → whole ≡ in_front done (rights_from false letters) → whole ≡ Some done
unfolding rights_from
rights_end letters done whole here so_far =
    let opened : rights_from false letters ≡ Some [] = rw here refl in
    so_far ∙ ap (in_front done) opened ∙ ap Some (append-nil done)

-- ---- quoted names

abbrev pub name_before : List ℕ → Option (List ℕ × List ℕ) → Option (List ℕ × List ℕ)
name_before bytes None = None
name_before bytes (Some read) = Some (bytes ++ read.0, read.1)

pub name_before-nil : (r : Option (List ℕ × List ℕ)) → name_before [] r ≡ r
name_before-nil None = refl
name_before-nil (Some read) = refl

name_before-one : (bytes : List ℕ) (b : ℕ) (r : Option (List ℕ × List ℕ)) → name_before bytes (onto_name b r) ≡ name_before (bytes ++ b ∷ []) r
name_before-one bytes b None = refl
name_before-one bytes b (Some read) = ap (λ (l : List ℕ). Some (l, read.1)) (sym (append_assoc bytes (b ∷ []) read.0))

-- a quote that is doubled
pub name_double : (text after more bytes : List ℕ) (b : ℕ) (whole : Option (List ℕ × List ℕ)) → text ≡ b ∷ after → b ≡ quote → behind quote after ≡ Some more → whole ≡ name_before bytes (quoted_name false text) → whole ≡ name_before (bytes ++ b ∷ []) (quoted_name false more)
unfolding quoted_name
name_double text [] more bytes b whole here is doubled so_far = absurd cc
name_double text (c ∷ rest) more bytes b whole here is doubled so_far = by (cases_Bool (eqb c quote))
  where
    by : (eqb c quote ≡ true) ⊎ (eqb c quote ≡ false) → whole ≡ name_before (bytes ++ b ∷ []) (quoted_name false more)
    by (inl same) =
        let found : Some rest ≡ Some more = sym (rw same refl) ∙ doubled in
        let rest_is : rest ≡ more = cc in
        let opened : quoted_name false text ≡ onto_name quote (quoted_name false rest) = rw (here, is, same) refl in
        so_far ∙ ap (name_before bytes) opened ∙ name_before-one bytes quote (quoted_name false rest) ∙ ap (λ (l : List ℕ). name_before (bytes ++ quote ∷ []) (quoted_name false l)) rest_is ∙ ap (λ (x : ℕ). name_before (bytes ++ x ∷ []) (quoted_name false more)) (sym is)
    by (inr other) =
        let none : None ≡ Some more = sym (rw other refl) ∙ doubled in
        absurd cc

-- a quote that ends the name
pub name_end : (text more bytes : List ℕ) (b : ℕ) (whole : Option (List ℕ × List ℕ)) → text ≡ b ∷ more → b ≡ quote → behind quote more ≡ None → whole ≡ name_before bytes (quoted_name false text) → whole ≡ Some (bytes, more)
unfolding quoted_name
name_end text [] bytes b whole here is ends so_far =
    let opened : quoted_name false text ≡ Some ([], []) = rw (here, is) refl in
    so_far ∙ ap (name_before bytes) opened ∙ ap (λ (l : List ℕ). Some (l, [])) (append-nil bytes)
name_end text (c ∷ more) bytes b whole here is ends so_far = by (cases_Bool (eqb c quote))
  where
    by : (eqb c quote ≡ true) ⊎ (eqb c quote ≡ false) → whole ≡ Some (bytes, c ∷ more)
    by (inl same) =
        let found : Some more ≡ None = sym (rw same refl) ∙ ends in
        absurd cc
    by (inr other) =
        let opened : quoted_name false text ≡ Some ([], c ∷ more) = rw (here, is, other) refl in
        so_far ∙ ap (name_before bytes) opened ∙ ap (λ (l : List ℕ). Some (l, c ∷ more)) (append-nil bytes)

pub name_byte : (text more bytes : List ℕ) (b : ℕ) (whole : Option (List ℕ × List ℕ)) → text ≡ b ∷ more → eqb b quote ≡ false → whole ≡ name_before bytes (quoted_name false text) → whole ≡ name_before (bytes ++ b ∷ []) (quoted_name false more)
unfolding quoted_name
name_byte text more bytes b whole here other so_far =
    let opened : quoted_name false text ≡ onto_name b (quoted_name false more) = rw (here, other) refl in
    so_far ∙ ap (name_before bytes) opened ∙ name_before-one bytes b (quoted_name false more)

pub name_open : (text bytes : List ℕ) (whole : Option (List ℕ × List ℕ)) → text ≡ [] → whole ≡ name_before bytes (quoted_name false text) → whole ≡ None
unfolding quoted_name
name_open text bytes whole here so_far =
    let opened : quoted_name false text ≡ None = rw here refl in
    so_far ∙ ap (name_before bytes) opened
