-- What stands before the symbols straight inside a command, between them and behind: the ways out of the code that writes it to a sink. Assumes nothing.
use mathlib.Core.Path.{◌≡◌, refl, sym, ap, ◌∙◌}
use mathlib.Core.Logic.{◌⊎◌, inl, inr}
use mathlib.Core.List.{List, [], ◌∷◌}
use Prim.Native.Nat.{ℕ, ◌+◌, ◌<◌, ◌≤◌}
use native.Mathlib.Numerals.{add-one}
use borrow.Author.Rules.{rules}
use borrow.Author.Tests.{lt-ltb, le-ltb, ne_eqb}
use lib.ListN.{length, drop, get_or, drop_of_length-le}
use lib.Seq.{drop-cons}
use Rattle.octets.specs.Working.Choice.{pick}
use Rattle.parse_tree.specs.Plain.Tree.{Text}
use Rattle.parse_tree.specs.Plain.Display.{escaped}
use Rattle.display.specs.Sink.{all_of, Taken}
use Rattle.display.specs.Follow.{quoted_text, word_at, leaf_text, mark_text, label_text, name_text, before_by, op_byte, behind_by, between_by}
use Rattle.display.proofs.StandsLaws.{escaped-one}
use Rattle.display.proofs.MeetCode.{named-room, macro_room, name_room, name_read, repeat_room}
use Rattle.display.proofs.TakenLaws.{all_append, taken_none, taken_then}

-- ---- escapes: t is s with what was passed more
module _ {A : Type 0} (more : A → ℕ → A) where
  pub record Escaping (s : A) (x : Text) (t : A) (i : ℕ) : Type 0 where
    pub rest : all_of more t (escaped (drop i x) []) ≡ all_of more s (escaped x [])

module _ {A : Type 0} {more : A → ℕ → A} where
  -- ---- escape
  module _ (s : A) (b : ℕ) where
    pub escape_marked : (t r : A) → (b ≡ 34) ⊎ ((b ≡ 34 → ⊥) × (b ≡ 92)) → Taken more s (92 ∷ []) t → Taken more t (b ∷ []) r → Taken more s (escaped (b ∷ []) []) r
    unfolding escaped
    escape_marked t r (inl e) p q = let z = rw e at (taken_then p q) in rw e z
    escape_marked t r (inr (n, e)) p q = let z = rw e at (taken_then p q) in rw e z

    pub escape_plain : (r : A) → (b ≡ 34 → ⊥) × (b ≡ 92 → ⊥) → Taken more s (b ∷ []) r → Taken more s (escaped (b ∷ []) []) r
    unfolding escaped
    escape_plain r (n, m) p = rw (ne_eqb b 34 n, ne_eqb b 92 m) p

  -- ---- escapes
  pub escapes_start : (s : A) (x : Text) → Escaping more s x s 0
  escapes_start s x = record { rest = refl }

  module _ (s : A) (x : Text) (t : A) (i : ℕ) (p : Escaping more s x t i) where
    pub escapes_next : (r : A) → i < length x → Taken more t (escaped (get_or x i 0 ∷ []) []) r → Escaping more s x r (i + 1)
    escapes_next r l a =
        let z : drop i x ≡ get_or x i 0 ∷ drop (i + 1) x = cc (drop-cons x i 0 l, add-one i) in
        record {
          rest = ap (λ (y : A). all_of more y (escaped (drop (i + 1) x) [])) a.is
              ∙ sym (all_append more t (escaped (get_or x i 0 ∷ []) []) (escaped (drop (i + 1) x) []))
              ∙ ap (all_of more t) (sym (escaped-one (get_or x i 0) (drop (i + 1) x)))
              ∙ ap (λ (y : Text). all_of more t (escaped y [])) (sym z)
              ∙ p.rest;
        }

    pub escapes_done : length x ≤ i → Taken more s (escaped x []) t
    unfolding all_of escaped
    escapes_done l = record { is = cc (drop_of_length-le x {i = i} l, p.rest) }

  pub quoted_done : (s : A) (x : Text) (t u r : A) → Taken more s (34 ∷ []) t → Taken more t (escaped x []) u → Taken more u (34 ∷ []) r → Taken more s (quoted_text x) r
  unfolding quoted_text
  quoted_done s x t u r a b c = taken_then a (taken_then b c)

  -- ---- leaf, marked
  module _ (f : A) (c : ℕ) where
    module _ (t x : Text) (j : t ≡ x) where
      pub leaf_quoted : (r : A) → c ≡ 34 → Taken more f (quoted_text t) r → Taken more f (leaf_text c x) r
      unfolding leaf_text pick
      leaf_quoted r e a = rw (e, ← j) a

      pub leaf_regex : (z u r : A) → c ≡ 35 → Taken more f (114 ∷ 35 ∷ []) z → Taken more z (quoted_text t) u → Taken more u (35 ∷ []) r → Taken more f (leaf_text c x) r
      unfolding leaf_text pick
      leaf_regex z u r e a d g = rw (e, ← j) (taken_then a (taken_then d g))

    pub leaf_name : (x : Text) (r : A) → (c ≡ 34 → ⊥) → (c ≡ 35 → ⊥) → Taken more f x r → Taken more f (leaf_text c x) r
    unfolding leaf_text pick
    leaf_name x r n34 n35 a = rw (ne_eqb c 34 n34, ne_eqb c 35 n35) a

    pub marked_left : (r : A) → c ≡ 42 → Taken more f (64 ∷ 76 ∷ []) r → Taken more f (mark_text c) r
    unfolding mark_text pick
    marked_left r e a = rw e a

    pub marked_right : (r : A) → c ≡ 43 → Taken more f (64 ∷ 82 ∷ []) r → Taken more f (mark_text c) r
    unfolding mark_text pick
    marked_right r e a = rw e a

    pub marked_error : (r : A) → (c ≡ 42 → ⊥) → (c ≡ 43 → ⊥) → Taken more f (101 ∷ 114 ∷ 114 ∷ 111 ∷ 114 ∷ []) r → Taken more f (mark_text c) r
    unfolding mark_text pick
    marked_error r n m a = rw (ne_eqb c 42 n, ne_eqb c 43 m) a

  module _ (f : A) where
    pub label_yes : (r : A) (v : ℕ) → v ≡ 1 → Taken more f (109 ∷ 117 ∷ 116 ∷ 32 ∷ []) r → Taken more f (label_text v) r
    unfolding label_text pick
    label_yes r v e h = rw e h

    pub label_no : (v : ℕ) → (v ≡ 1 → ⊥) → Taken more f (label_text v) f
    unfolding label_text pick
    label_no v n = rw (ne_eqb v 1 n) taken_none

    pub name_done : (x y r : A) (v : ℕ) (t : Text) → Taken more f (label_text v) x → Taken more x t y → Taken more y (58 ∷ []) r → Taken more f (name_text v t) r
    unfolding name_text
    name_done x y r v t a b d = taken_then a (taken_then b d)

  module _ (f : A) (c k : ℕ) where
    pub between_none : k ≡ 0 → Taken more f (between_by c k) f
    unfolding between_by pick
    between_none e = rw e taken_none

    pub between_comma : (r : A) → (k ≡ 0 → ⊥) → c ≡ 37 → Taken more f (44 ∷ 32 ∷ []) r → Taken more f (between_by c k) r
    unfolding between_by pick
    between_comma r n e a = rw (ne_eqb k 0 n, e) a

    pub between_space : (r : A) → (k ≡ 0 → ⊥) → (c ≡ 37 → ⊥) → Taken more f (32 ∷ []) r → Taken more f (between_by c k) r
    unfolding between_by pick
    between_space r n m a = rw (ne_eqb k 0 n, ne_eqb c 37 m) a

  -- ---- behind
  module _ (w : List ℕ) (at c : ℕ) (f : A) where
    pub behind_macro : (r : A) → c ≡ 37 → Taken more f (62 ∷ []) r → Taken more f (behind_by w at c) r
    unfolding behind_by pick
    behind_macro r e a = rw e a

    pub behind_repeat : (r : A) (o v : ℕ) → c ≡ 38 → v ≡ get_or w (at + 9) 0 → o ≡ op_byte v → Taken more f (o ∷ []) r → Taken more f (behind_by w at c) r
    unfolding behind_by pick
    behind_repeat r o v e j k a = rw (e, ← j, ← k) a

    pub behind_choose : (r : A) → c ≡ 39 → Taken more f (62 ∷ []) r → Taken more f (behind_by w at c) r
    unfolding behind_by pick
    behind_choose r e a = rw e a

    pub behind_group : (r : A) → c ≡ 41 → Taken more f (41 ∷ []) r → Taken more f (behind_by w at c) r
    unfolding behind_by pick
    behind_group r e a = rw e a

    pub behind_none : (c ≡ 37 → ⊥) → (c ≡ 38 → ⊥) → (c ≡ 39 → ⊥) → (c ≡ 41 → ⊥) → Taken more f (behind_by w at c) f
    unfolding behind_by pick
    behind_none a b d e = rw (ne_eqb c 37 a, ne_eqb c 38 b, ne_eqb c 39 d, ne_eqb c 41 e) taken_none

  -- ---- before
  module _ (wd : ℕ) (ts : List Text) (w : List ℕ) (at c : ℕ) (f : A) where
    pub before-leaf : (r : A) → c < 37 → Taken more f (leaf_text c (word_at wd ts w (at + 9))) r → Taken more f (before_by wd ts w at c) r
    unfolding before_by pick
    before-leaf r l a = rw (lt-ltb c 37 l) a

    pub before-macro : (x r : A) → c ≡ 37 → Taken more f (word_at wd ts w (at + 9)) x → Taken more x (60 ∷ []) r → Taken more f (before_by wd ts w at c) r
    unfolding before_by pick
    before-macro x r e a b = rw e (taken_then a b)

    pub before-repeat : c ≡ 38 → Taken more f (before_by wd ts w at c) f
    unfolding before_by pick
    before-repeat e = rw e taken_none

    pub before-choose : (r : A) → c ≡ 39 → Taken more f (60 ∷ []) r → Taken more f (before_by wd ts w at c) r
    unfolding before_by pick
    before-choose r e a = rw e a

    pub before-name : (r : A) (v : ℕ) → c ≡ 40 → v ≡ get_or w (at + 9) 0 → Taken more f (name_text v (word_at wd ts w (at + 10))) r → Taken more f (before_by wd ts w at c) r
    unfolding before_by pick
    before-name r v e j a = rw (e, ← j) a

    pub before-group : (r : A) → c ≡ 41 → Taken more f (40 ∷ []) r → Taken more f (before_by wd ts w at c) r
    unfolding before_by pick
    before-group r e a = rw e a

    pub before-mark : (r : A) → 37 ≤ c → (c ≡ 37 → ⊥) → (c ≡ 38 → ⊥) → (c ≡ 39 → ⊥) → (c ≡ 40 → ⊥) → (c ≡ 41 → ⊥) → Taken more f (mark_text c) r → Taken more f (before_by wd ts w at c) r
    unfolding before_by pick
    before-mark r l n37 n38 n39 n40 n41 a = rw (le-ltb c 37 l, ne_eqb c 37 n37, ne_eqb c 38 n38, ne_eqb c 39 n39, ne_eqb c 40 n40, ne_eqb c 41 n41) a

pub ruleset escaping = (rules, escape_marked, escape_plain)

pub ruleset passing = (rules, escapes_start, escapes_next, escapes_done)

pub ruleset quoting = (rules, quoted_done)

pub ruleset leafing = (rules, leaf_quoted, leaf_regex, leaf_name)

pub ruleset marking = (rules, marked_left, marked_right, marked_error)

pub ruleset naming = (rules, label_yes, label_no, name_done)

pub ruleset separating = (rules, between_none, between_comma, between_space)

pub ruleset closing = (rules, repeat_room, behind_macro, behind_repeat, behind_choose, behind_group, behind_none)

pub ruleset opening = (rules, named-room, macro_room, name_room, name_read, before-leaf, before-macro, before-repeat, before-choose, before-name, before-group, before-mark)
