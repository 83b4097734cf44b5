-- A token that no derivation from a tree's nonterminal has: names whose alternatives have neither the token nor a name outside of them. Assumes nothing.
use mathlib.Core.Path.{◌≡◌, refl, sym, ap, ◌∙◌}
use mathlib.Core.Bool.{Bool, true, false, false≢true, cond, not, ◌&&◌}
use mathlib.Core.List.Memᴰ
use mathlib.Core.List.{List, [], ◌∷◌, ◌++◌, Memᴰ}
use mathlib.Core.Option.{none}
use Rattle.octets.specs.Plain.Runs.{same_as}
use Rattle.octets.proofs.SameLaws.{same_as-refl}
use Rattle.parse_tree.specs.Plain.Tree.{Text, Alternative, Nonterminal, Item, item}
use Rattle.passes.specs.Outcome.{Tree}
use Rattle.passes.specs.Grades.{annotated}
use Rattle.passes.specs.Sizes.{each}
use Rattle.meaning.specs.Phrases.{Token, bare_token, quoted_token, regex_token, error_token, Phrase, Phrases, token, parameter, reference, call, repeated, sequence, pnil, pcons, DerivesFrom, DeriveFrom, d_token, d_step, d_nil, d_cons}
use Rattle.meaning.specs.Meaning.{means, put, puts, Step, s_plain, s_level, s_call, s_sequence, s_question_none, s_question_one, s_star_none, s_star_plus, s_plus_one, s_plus_more}

-- ---- tests
and_left : (a b : Bool) → (a && b) ≡ true → a ≡ true
and_left true b h = refl
and_left false b h = h

and_right : (a b : Bool) → (a && b) ≡ true → b ≡ true
and_right true b h = h
and_right false b h = absurd (false≢true h)

and_both : (a b : Bool) → a ≡ true → b ≡ true → (a && b) ≡ true
and_both a b p q = ap (◌&& b) p ∙ q

each_in : {A : Type 0} (f : A → Bool) (xs : List A) (x : A) → each f xs ≡ true → Memᴰ x xs → f x ≡ true
each_in f [] x h i = absurd (Memᴰ.not-nil i)
each_in f (y ∷ xs) x h (Memᴰ.head e) = ap f e ∙ and_left (f y) (each f xs) h
each_in f (y ∷ xs) x h (Memᴰ.tail i) = each_in f xs x (and_right (f y) (each f xs) h) i

each_append : {A : Type 0} (f : A → Bool) (xs ys : List A) → each f xs ≡ true → each f ys ≡ true → each f (xs ++ ys) ≡ true
each_append f [] ys h k = k
each_append f (x ∷ xs) ys h k = and_both (f x) (each f (xs ++ ys)) (and_left (f x) (each f xs) h) (each_append f xs ys (and_right (f x) (each f xs) h) k)

-- whether there are arguments
abbrev pub has_arguments : List Text → Bool
has_arguments [] = false
has_arguments (p ∷ ps) = true

-- t is the quoted token's text, `safe` says from which names it can't be derived
module _ (levels : Bool) (G : Tree) (safe : Text → Bool) (t : Text) where
  abbrev pub is_other : Token → Bool
  is_other (bare_token u) = true
  is_other (quoted_token u) = not (same_as u t)
  is_other (regex_token u) = true
  is_other error_token = true

  -- what is put in for parameters is not looked at, so none may stand in an alternative
  abbrev mutual
    pub is_free : Phrase → Bool
    is_free (token u) = is_other u
    is_free (parameter n) = false
    is_free (reference n c) = safe n
    is_free (call n ms) = safe n
    is_free (repeated o m) = is_free m
    is_free (sequence ms) = are_free ms

    pub are_free : Phrases → Bool
    are_free pnil = true
    are_free (pcons m ms) = is_free m && are_free ms

  abbrev pub alternative_free : List Text → Alternative → Bool
  alternative_free ps a = are_free (means G ps a.symbols)

  -- no annotated nonterminal without arguments is among the names
  abbrev pub nonterminal_free : Nonterminal → Bool
  nonterminal_free d = each (alternative_free d.args) d.alternatives && cond (levels && annotated d) (has_arguments d.args) true

  abbrev pub item_free : Item → Bool
  item_free (item d) = cond (safe d.name) (nonterminal_free d) true
  item_free (Item.terminal s o n) = true

  module _ (ps : List Text) (xs : Phrases) where
    mutual
      unfolding put

      put_free : (m : Phrase) → is_free m ≡ true → is_free (put ps xs m) ≡ true
      put_free (token u) h = h
      put_free (parameter n) h = absurd (false≢true h)
      put_free (reference n c) h = h
      put_free (call n ms) h = h
      put_free (repeated o m) h = put_free m h
      put_free (sequence ms) h = puts_free ms h

      puts_free : (ms : Phrases) → are_free ms ≡ true → are_free (puts ps xs ms) ≡ true
      puts_free pnil h = h
      puts_free (pcons m ms) h =
          and_both (is_free (put ps xs m)) (are_free (puts ps xs ms)) (put_free m (and_left (is_free m) (are_free ms) h)) (puts_free ms (and_right (is_free m) (are_free ms) h))

  module _ (closed : each item_free G ≡ true) where
    in_item : (d : Nonterminal) → Memᴰ (item d) G → safe d.name ≡ true → nonterminal_free d ≡ true
    in_item d i h = sym (ap (λ (b : Bool). cond b (nonterminal_free d) true) h) ∙ each_in item_free G (item d) closed i

    in_alternative_lem : (d : Nonterminal) (a : Alternative) → Memᴰ (item d) G → safe d.name ≡ true → Memᴰ a d.alternatives → alternative_free d.args a ≡ true
    in_alternative_lem d a i h j = each_in (alternative_free d.args) d.alternatives a (and_left (each (alternative_free d.args) d.alternatives) (cond (levels && annotated d) (has_arguments d.args) true) (in_item d i h)) j

    no_annotated : (d : Nonterminal) → Memᴰ (item d) G → safe d.name ≡ true → cond (levels && annotated d) (has_arguments d.args) true ≡ true
    no_annotated d i h = and_right (each (alternative_free d.args) d.alternatives) (cond (levels && annotated d) (has_arguments d.args) true) (in_item d i h)

    step-free : {m : Phrase} {ms : Phrases} → Step levels G m ms → is_free m ≡ true → are_free ms ≡ true
    step-free (s_plain d a i e n j z k) h =
        ap are_free k ∙ sym (ap (λ (ps : List Text). alternative_free ps a) n) ∙ in_alternative_lem d a i (ap safe e ∙ h) j
    step-free (s_level d g i e n j z u k) h =
        absurd (false≢true (sym (ap has_arguments n) ∙ sym (ap (λ (b : Bool). cond b (has_arguments d.args) true) z) ∙ no_annotated d i (ap safe e ∙ h)))
    step-free (s_call {xs = xs} d a i e n j z k) h =
        ap are_free k ∙ puts_free d.args xs (means G d.args a.symbols) (in_alternative_lem d a i (ap safe e ∙ h) j)
    step-free s_sequence h = h
    step-free s_question_none h = refl
    step-free (s_question_one {m = m}) h = and_both (is_free m) true h refl
    step-free s_star_none h = refl
    step-free (s_star_plus {m = m}) h = and_both (is_free m) true h refl
    step-free (s_plus_one {m = m}) h = and_both (is_free m) true h refl
    step-free (s_plus_more {m = m}) h = and_both (is_free m) (is_free m && true) h (and_both (is_free m) true h refl)

    mutual
      derives_others : {m : Phrase} {w : List Token} → DerivesFrom (Step levels G) m w → is_free m ≡ true → each is_other w ≡ true
      derives_others (d_token {t = u} e) h = ap (each is_other) e ∙ and_both (is_other u) true h refl
      derives_others (d_step ms s ds) h = derive_others ds (step-free s h)

      derive_others : {ms : Phrases} {w : List Token} → DeriveFrom (Step levels G) ms w → are_free ms ≡ true → each is_other w ≡ true
      derive_others (d_nil e) h = ap (each is_other) e
      derive_others (d_cons {m = m} {ms = ms} u v e d ds) h =
          ap (each is_other) e ∙ each_append is_other u v (derives_others d (and_left (is_free m) (are_free ms) h)) (derive_others ds (and_right (is_free m) (are_free ms) h))

    -- the token alone is not derived
    pub never : (N : Text) → safe N ≡ true → DerivesFrom (Step levels G) (reference N none) (quoted_token t ∷ []) → ⊥
    never N h d = false≢true (sym (ap (λ (b : Bool). not b && true) (same_as-refl t)) ∙ derives_others d h)
