-- Comments, roles and databases: each part of their grammar with the text that it is written in.
use Rattle.ddl_admin_texts.proofs.Common.{◌≡◌, ℕ, Bool, true, false, List, [], ◌∷◌, ◌++◌, Option, Some, None, Ok, refl, ap, inl, inr, codes, is_utf8, chars, str_to_ascii_lowercase, encode, IsUtf8-from_is_utf8, Encoding, Utf8, Lexeme, literal_value, Part, joined, flag_text, limit_text, given_literal, remark_text, remark, later_flags, role_flags, role_settings, changes_by, role_changes, furthers, utf8_in, utf8_value, encoded, maybe_encoded, Gap, attributes_text, encoding_text, written_literal, quoted, doubled, append-nil, sym, Words, Safe, number_as, space, Written, given_or, or_given, literal_said, is_key, equals_as, word_as, mark_as, meets, literal_as, then_as, lead_as, word_then, seen_as, fit_as, like_as, shown_as, pieces_as, after_as, wider_as, choose_as, heard_as, nothing_as, OptionFit, maybe_as, many_as, IsGivenText, IsLimit, AreChanges}
use Rattle.ddl_grammar.specs.{Choices.any_word, Choices.clause, Choices.flag, Choices.said, Choices.◌before◌, Databases.goes_on, Databases.options}

-- ---- COMMENT ON

-- NULL, or a text
unfoldable pub remark_as : {g : List ℕ} → Gap g → Written remark
unfolding remark is_key
remark_as {g} gap =
    let either : Written remark = like_as (choose_as (seen_as (λ u. None) (mark_as (word_as gap (codes "NULL") refl))) (seen_as Some (literal_as gap))) IsGivenText (λ o is. elim (given_or IsGivenText o is) [ inl h ↦ inr h | inr h ↦ inl h ]) (λ o h. or_given IsGivenText tt o (elim h [ inl x ↦ inr x | inr x ↦ inl x ])) in
    pieces_as either (λ o is. g ∷ remark_text o ∷ []) (elim [ None ↦ λ is. refl | Some t ↦ λ is. refl ])

-- ---- ALTER ROLE

-- a part that may be left out before another that may be
abbrev pub before_as : {A B : Type 0} → {p : Part A} → {q : Part B} → (a : Written p) → (b : Written q) → meets a.after (wider_as p.goes_on b) ≡ true → Written (p before q)
before_as {p = p} a b e = then_as a (wider_as p.goes_on b) e

-- an attribute, or the word behind NO
abbrev pub flag_as : (w : List ℕ) → is_key (str_to_ascii_lowercase w) w ≡ true → is_key (str_to_ascii_lowercase (codes "NO" ++ w)) (codes "NO" ++ w) ≡ true → Written (flag (str_to_ascii_lowercase w) (str_to_ascii_lowercase (codes "NO" ++ w)))
flag_as w is isnt =
    let either : Written (flag (str_to_ascii_lowercase w) (str_to_ascii_lowercase (codes "NO" ++ w))) = choose_as (seen_as (said true) (mark_as (word_as space w is))) (choose_as (seen_as (said false) (mark_as (word_as space (codes "NO" ++ w) isnt))) (nothing_as None)) in
    let flagged : (b : Option Bool) → either.Fit b = elim [ None ↦ inr (inr refl) | Some true ↦ inl (tt, tt, refl) | Some false ↦ inr (inl (tt, tt, refl)) ] in
    pieces_as (like_as either (λ b. Unit {0}) (λ b u. flagged b) (λ b h. tt)) (λ b u. flag_text w b ∷ []) (elim [ None ↦ λ u. refl | Some true ↦ λ u. refl | Some false ↦ λ u. refl ])

unfoldable pub role_flags_as : Written role_flags
unfolding role_flags later_flags is_key
role_flags_as =
    let later : Written later_flags = before_as (flag_as (codes "CREATEDB") refl refl) (before_as (flag_as (codes "LOGIN") refl refl) (before_as (flag_as (codes "REPLICATION") refl refl) (flag_as (codes "BYPASSRLS") refl refl) refl) refl) refl in
    before_as (flag_as (codes "SUPERUSER") refl refl) (before_as (flag_as (codes "INHERIT") refl refl) (before_as (flag_as (codes "CREATEROLE") refl refl) later refl) refl) refl

-- a clause behind its word, or nothing, with the text that it has as a whole
abbrev pub clause_as : {A : Type 0} → {p : Part A} → (w : List ℕ) → (is : is_key (str_to_ascii_lowercase w) w ≡ true) → (x : Written p) → (e : meets Words x ≡ true) → (P : Option A → Type 0) → P None → ((v : A) → P (Some v) → x.Fit v) → ((v : A) → x.Is v → P (Some v)) → (whole : Option A → List ℕ) → [] ≡ whole None
    → ((v : A) (fit : x.Fit v) → joined ((word_then w is x e).pieces v fit) ≡ whole (Some v) ++ []) → Written (clause (str_to_ascii_lowercase w) p)
clause_as {A} {p = p} w is x e P at to from whole unsaid some =
    let maybe : Written (clause (str_to_ascii_lowercase w) p) = maybe_as (any_word (str_to_ascii_lowercase w ∷ [])) (word_then w is x e) in
    let fits : (o : Option A) → P o → maybe.Fit o = elim [ None ↦ λ is. tt | Some v ↦ λ is. to v is ] in
    pieces_as (like_as maybe P fits (elim [ None ↦ λ is. at | Some v ↦ λ is. from v is ])) (λ o fit. whole o ∷ []) (elim [ None ↦ λ is. ap (λ (x : List ℕ). x ++ []) unsaid | Some v ↦ λ is. some v (to v is) ])

unfoldable pub role_settings_as : Written role_settings
unfolding role_settings is_key
role_settings_as =
    let limit = clause_as (codes "CONNECTION") refl (word_then (codes "LIMIT") refl (number_as space) refl) refl IsLimit tt (λ n is. is) (λ n is. is) limit_text refl (λ n is. refl) in
    let password = clause_as (codes "PASSWORD") refl (literal_as space) refl IsGivenText tt (λ t is. is) (λ t is. is) (given_literal (codes " PASSWORD ")) refl (λ t is. refl) in
    let valid = clause_as (codes "VALID") refl (word_then (codes "UNTIL") refl (literal_as space) refl) refl IsGivenText tt (λ t is. is) (λ t is. is) (given_literal (codes " VALID UNTIL ")) refl (λ t is. refl) in
    before_as limit (before_as password (after_as valid Safe refl) refl) refl

unfoldable pub changes_as : Written role_changes
unfolding role_changes role_flags_as role_settings_as attributes_text
changes_as =
    pieces_as (shown_as changes_by (before_as role_flags_as role_settings_as refl) AreChanges
    (λ c is. (((c.superuser, (c.inherit, (c.create_role, (c.create_db, (c.login, (c.replication, c.bypass_rls)))))), (c.limit, (c.password, c.valid_until))), ((tt, (tt, (tt, (tt, (tt, (tt, tt)))))), (is.0, (is.1, is.2))), refl)) (λ x is. (is.1.0, is.1.1.0, is.1.1.1)))
    (λ c is. attributes_text c ∷ []) (λ c is. sym (append-nil (attributes_text c)))

-- ---- CREATE DATABASE

unfoldable pub options_as : Written options
unfolding options maybe_encoded encoded furthers is_key utf8_value is_utf8 chars encode written_literal quoted doubled
options_as =
    let all : (o : Option Encoding) → OptionFit (λ e. Unit {0}) o = elim [ None ↦ tt | Some e ↦ tt ] in
    let means : (encoding : Encoding) → Unit {0} → (t : Lexeme) → literal_value t ≡ Ok (codes "UTF8") → utf8_value t ≡ Ok encoding = elim [ Utf8 ↦ λ u t e. ap utf8_in e ] in
    let no_furthers : Written furthers = fit_as (seen_as (λ options. tt) (many_as (λ s. heard_as (λ u. Unit {0}) (λ u ts r came h. tt)) (λ u. Unit {0}) (λ s u is. tt) Safe (λ s. refl))) (λ u. Unit {0}) (λ u is. ([], tt, refl)) in
    let encoding = word_then (codes "ENCODING") refl (lead_as equals_as (literal_said space (λ e. Unit {0}) (λ e. codes "UTF8") (λ e is. IsUtf8-from_is_utf8 (codes "UTF8") refl) means (λ t e is. tt)) refl) refl in
    let maybe : Written maybe_encoded = maybe_as goes_on (shown_as (λ x. x.0) (then_as encoding no_furthers refl) (λ e. Unit {0}) (λ e is. ((e, tt), (tt, tt), refl)) (λ x is. tt)) in
    let either : Written options = shown_as (λ x. x.1) (then_as no_furthers maybe refl) (λ o. Unit {0}) (λ o is. ((tt, o), (tt, all o), refl)) (λ x is. tt) in
    pieces_as either (λ o is. encoding_text o ∷ []) (elim [ None ↦ λ is. refl | Some Utf8 ↦ λ is. refl ])
