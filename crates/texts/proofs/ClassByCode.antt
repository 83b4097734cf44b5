-- What the least class of a text's bytes says of the text: the ways out of `class_by`. Assumes nothing.
use mathlib.Core.Path.{◌≡◌, refl, sym, ap, ap₂, ◌∙◌}
use mathlib.Core.Bool.{Bool, true, false, ◌&&◌, ◌||◌, not, false≢true, and-true, and_assoc}
use mathlib.Mathlib.Data.Bool.Basic.{and_elim_right}
use mathlib.Core.List.{List, [], ◌∷◌}
use Prim.Native.Nat.{ℕ, ◌+◌, ◌-◌, ◌<◌, ◌≤◌, min}
use native.Mathlib.Omega.{arith}
use borrow.Author.Rules.{rules}
use borrow.Author.Tests.{le-leb, lt-leb, ne_eqb, ltb-true, ltb-false, leb-true, leb-false, not-true, not-false}
use Rattle.std.proofs.Common.{is_lt}
use Rattle.std.specs.Ordering.{is_some_and}
use lib.Dec.{eqb, leb, ltb}
use lib.ListN.{length, get_or, take, drop}
use Rattle.std.proofs.lemmas.Slice.Eq.{text_from_reads}
use Rattle.octets.specs.Working.Choice.{pick}
use Rattle.octets.specs.Plain.Runs.{part, same_as}
use Rattle.octets.proofs.SameLaws.{same_as-eq, eq_same_as}
use Rattle.octets.proofs.PartLaws.{part_none, part-one}
use Rattle.parse_tree.specs.Plain.Tree.{Text}
use Rattle.parse_tree.specs.Plain.Texts.{every, between, starts_name, in_name, is_identifier, is_name, is_literal, is_ascii, mut_text, error_text}
use Rattle.texts.specs.Classes.{text_class, byte_class, least, class_number}
use Rattle.texts.specs.contracts.class.TextClassPartialOrd.TheImpl.{partial_cmp-value}
use Rattle.texts.specs.declared.class.TextClass.{TextClass}
use Rattle.texts.proofs.TextClassLaws.{less_number}

every-same : (f g : ℕ → Bool) → ((b : ℕ) → f b ≡ g b) → (t : Text) → every f t ≡ every g t
unfolding every
every-same f g h [] = refl
every-same f g h (b ∷ bs) = ap₂ (λ x y. x && y) (h b) (every-same f g h bs)

min-leb : (j m n : ℕ) → leb j (min m n) ≡ leb j m && leb j n
min-leb j m n = go (leb j m) refl (leb j n) refl
  where
    go : (y : Bool) → leb j m ≡ y → (z : Bool) → leb j n ≡ z → leb j (min m n) ≡ y && z
    go true q true r = le-leb j (min m n) (omega (arith, leb-true j m q, leb-true j n r))
    go true q false r = lt-leb j (min m n) (omega (arith, leb-true j m q, leb-false j n r))
    go false q z r = lt-leb j (min m n) (omega (arith, leb-false j m q))

least-leb : (j m : ℕ) (t : Text) → leb j (least m t) ≡ leb j m && every (λ b. leb j (byte_class b)) t
unfolding least every
least-leb j m [] = sym (and-true (leb j m))
least-leb j m (b ∷ bs) =
    least-leb j (min m (byte_class b)) bs ∙ ap (λ (x : Bool). x && every (λ b. leb j (byte_class b)) bs) (min-leb j m (byte_class b))
    ∙ and_assoc (leb j m) (leb j (byte_class b)) (every (λ b. leb j (byte_class b)) bs)

-- ---- what a byte's class says
low_no_name : (b : ℕ) → b < 48 → in_name b ≡ false
unfolding in_name starts_name
low_no_name b h = simp (lt-leb 65 b (omega arith), lt-leb 97 b (omega arith), ne_eqb b 95 (λ e. omega arith), lt-leb 48 b h)

high_no_name : (b : ℕ) → 122 < b → in_name b ≡ false
unfolding in_name starts_name
high_no_name b h = simp (lt-leb b 90 (omega arith), lt-leb b 122 h, ne_eqb b 95 (λ e. omega arith), lt-leb b 57 (omega arith), le-leb 65 b (omega arith), le-leb 97 b (omega arith), le-leb 48 b (omega arith))

module _ (b : ℕ) where
  byte_1 : leb 1 (byte_class b) ≡ leb b 127
  unfolding byte_class pick
  byte_1 = go (ltb 127 b) refl (ltb b 32) (ltb 126 b) (in_name b)
    where
      go : (x : Bool) → ltb 127 b ≡ x → (y z n : Bool) → leb 1 (pick x 0 (pick y 1 (pick z 1 (pick n 3 2)))) ≡ leb b 127
      go true p y z n = sym (lt-leb b 127 (ltb-true 127 b p))
      go false p true z n = sym (le-leb b 127 (ltb-false 127 b p))
      go false p false true n = sym (le-leb b 127 (ltb-false 127 b p))
      go false p false false true = sym (le-leb b 127 (ltb-false 127 b p))
      go false p false false false = sym (le-leb b 127 (ltb-false 127 b p))

  byte_2 : leb 2 (byte_class b) ≡ between 32 126 b
  unfolding byte_class pick
  byte_2 = go (ltb 127 b) refl (ltb b 32) refl (ltb 126 b) refl (in_name b)
    where
      go : (x : Bool) → ltb 127 b ≡ x → (y : Bool) → ltb b 32 ≡ y → (z : Bool) → ltb 126 b ≡ z → (n : Bool) → leb 2 (pick x 0 (pick y 1 (pick z 1 (pick n 3 2)))) ≡ between 32 126 b
      go true p y q z r n = let h = ltb-true 127 b p in simp (le-leb 32 b (omega arith), lt-leb b 126 (omega arith))
      go false p true q z r n = let h = ltb-true b 32 q in simp (lt-leb 32 b h)
      go false p false q true r n = let h = ltb-true 126 b r in simp (le-leb 32 b (omega arith), lt-leb b 126 h)
      go false p false q false r true = let h = ltb-false b 32 q in let k = ltb-false 126 b r in simp (le-leb 32 b h, le-leb b 126 k)
      go false p false q false r false = let h = ltb-false b 32 q in let k = ltb-false 126 b r in simp (le-leb 32 b h, le-leb b 126 k)

  byte_3 : leb 3 (byte_class b) ≡ in_name b
  unfolding byte_class pick
  byte_3 = go (ltb 127 b) refl (ltb b 32) refl (ltb 126 b) refl (in_name b) refl
    where
      go : (x : Bool) → ltb 127 b ≡ x → (y : Bool) → ltb b 32 ≡ y → (z : Bool) → ltb 126 b ≡ z → (n : Bool) → in_name b ≡ n → leb 3 (pick x 0 (pick y 1 (pick z 1 (pick n 3 2)))) ≡ in_name b
      go true p y q z r n i = let h = ltb-true 127 b p in sym (high_no_name b (omega arith))
      go false p true q z r n i = let h = ltb-true b 32 q in sym (low_no_name b (omega arith))
      go false p false q true r n i = let h = ltb-true 126 b r in sym (high_no_name b (omega arith))
      go false p false q false r true i = sym i
      go false p false q false r false i = sym i

-- ---- what the least class says of a text
module _ (t : Text) where
  least-ascii : leb 1 (least 3 t) ≡ is_ascii t
  unfolding is_ascii
  least-ascii = least-leb 1 3 t ∙ every-same (λ b. leb 1 (byte_class b)) (λ b. leb b 127) byte_1 t

  least-literal : leb 2 (least 3 t) ≡ is_literal t
  unfolding is_literal
  least-literal = least-leb 2 3 t ∙ every-same (λ b. leb 2 (byte_class b)) (between 32 126) byte_2 t

  least-name : leb 3 (least 3 t) ≡ every in_name t
  least-name = least-leb 3 3 t ∙ every-same (λ b. leb 3 (byte_class b)) in_name byte_3 t

name_every : (t : Text) → every in_name t ≡ false → is_name t ≡ false
unfolding is_name is_identifier every in_name
name_every [] e = refl
name_every (b ∷ bs) e = go (starts_name b) refl (every in_name bs) refl
  where
    go : (x : Bool) → starts_name b ≡ x → (y : Bool) → every in_name bs ≡ y → (x && y) && (not (same_as (b ∷ bs) mut_text) && not (same_as (b ∷ bs) error_text)) ≡ false
    go true p true q = absurd (false≢true (sym e ∙ simp (p, q)))
    go true p false q = refl
    go false p y q = refl

-- ---- the ways out: m is the least class of t
module _ (t : Text) (m : ℕ) (p : m ≡ least 3 t) where
  class_least : m < 3 → m ≡ text_class t
  unfolding text_class pick
  class_least h =
      let n : every in_name t ≡ false = sym (least-name t) ∙ lt-leb 3 (least 3 t) (omega arith) in
      simp (name_every t n, ← least-literal t, ← least-ascii t, ← p) (go (leb 2 m) refl (leb 1 m) refl)
    where
      go : (x : Bool) → leb 2 m ≡ x → (y : Bool) → leb 1 m ≡ y → m ≡ pick x 2 (pick y 1 0)
      go true u y v = omega (arith, leb-true 2 m u)
      go false u true v = omega (arith, leb-false 2 m u, leb-true 1 m v)
      go false u false v = omega (arith, leb-false 1 m v)

  -- a text of name bytes that is no name
  no_name : 3 ≤ m → is_name t ≡ false → 2 ≡ text_class t
  unfolding text_class pick
  no_name h n = simp (n, ← least-literal t, ← p, le-leb 2 m (omega arith))

-- ---- the two texts that are no names
module _ (t : Text) where
  abbrev Reserved : Bool
  Reserved = same_as t mut_text || same_as t error_text

  pub says_mut : 3 ≤ length t → length t < 4 → get_or t 0 0 ≡ 109 → get_or t 1 0 ≡ 117 → get_or t 2 0 ≡ 116 → true ≡ Reserved
  says_mut l k b c d = let e = eq_same_as t mut_text (text_from_reads t mut_text (omega arith) (b, (c, (d, _)))) in rw e refl

  pub says_error : 5 ≤ length t → length t < 6 → get_or t 0 0 ≡ 101 → get_or t 1 0 ≡ 114 → get_or t 2 0 ≡ 114 → get_or t 3 0 ≡ 111 → get_or t 4 0 ≡ 114 → true ≡ Reserved
  says_error l k b c d f g =
      let e = eq_same_as t error_text (text_from_reads t error_text (omega arith) (b, (c, (d, (f, (g, _)))))) in
      go (same_as t mut_text) (same_as t error_text) e
    where
      go : (x y : Bool) → y ≡ true → true ≡ x || y
      go true y h = refl
      go false y h = sym h

  neither : (t ≡ mut_text → ⊥) → (t ≡ error_text → ⊥) → false ≡ Reserved
  neither m e = go (same_as t mut_text) (same_as t error_text) (λ h. m (same_as-eq t mut_text h)) (λ h. e (same_as-eq t error_text h))
    where
      go : (x y : Bool) → (x ≡ true → ⊥) → (y ≡ true → ⊥) → false ≡ x || y
      go true y m e = absurd (m refl)
      go false true m e = absurd (e refl)
      go false false m e = refl

  pub other_length : (length t ≡ 3 → ⊥) → (length t ≡ 5 → ⊥) → false ≡ Reserved
  other_length m e = neither (λ p. m (ap length p)) (λ p. e (ap length p))

  module _ (i v : ℕ) (p : get_or t i 0 ≡ v) where
    at_byte : (u : Text) → t ≡ u → v ≡ get_or u i 0
    at_byte u e = sym p ∙ ap (λ (x : Text). get_or x i 0) e

    pub no_mut : length t < 5 → (v ≡ get_or mut_text i 0 → ⊥) → false ≡ Reserved
    no_mut l n = neither (λ e. n (at_byte mut_text e)) (λ e. absurd (omega (arith, ap length e)))

    pub no_error : 4 ≤ length t → (v ≡ get_or error_text i 0 → ⊥) → false ≡ Reserved
    no_error l n = neither (λ e. absurd (omega (arith, ap length e))) (λ e. n (at_byte error_text e))

  reserved_no_name : Reserved ≡ true → is_name t ≡ false
  unfolding is_name
  reserved_no_name = go (is_identifier t) (same_as t mut_text) (same_as t error_text)
    where
      go : (x y z : Bool) → y || z ≡ true → x && (not y && not z) ≡ false
      go false y z h = refl
      go true true z h = refl
      go true false true h = refl
      go true false false h = absurd (false≢true h)

pub ruleset reserving = (says_mut, says_error, other_length, no_mut, no_error)

-- a text of name bytes that starts as a name and is neither `mut` nor `error`
is_name_lem : (b : ℕ) (bs : Text) → starts_name b ≡ true → every in_name (b ∷ bs) ≡ true → Reserved (b ∷ bs) ≡ false → 3 ≡ text_class (b ∷ bs)
unfolding text_class is_name is_identifier every pick
is_name_lem b bs x y = go (same_as (b ∷ bs) mut_text) refl (same_as (b ∷ bs) error_text) refl
  where
    go : (u : Bool) → same_as (b ∷ bs) mut_text ≡ u → (v : Bool) → same_as (b ∷ bs) error_text ≡ v → u || v ≡ false → 3 ≡ text_class (b ∷ bs)
    go true p v q h = absurd (false≢true (sym h))
    go false p true q h = absurd (false≢true (sym h))
    go false p false q h = simp (x, and_elim_right (in_name b) (every in_name bs) y, p, q)

-- ---- of the part of a tape from a to e; m is its least class
module _ (s : List ℕ) (a e : ℕ) (m : TextClass) (p : class_number m ≡ least 3 (part a e s)) (l : Bool) (lq : l ≡ is_some_and is_lt ((partial_cmp-value).it m TextClass.Name)) where
  pub class_lesser : l ≡ true → class_number m ≡ text_class (part a e s)
  unfolding class_number
  class_lesser lt = class_least (part a e s) (class_number m) p (ltb-true (class_number m) 3 (sym (less_number m TextClass.Name) ∙ sym lq ∙ lt))

  module _ (lf : l ≡ false) where
    most : 3 ≤ class_number m
    unfolding class_number
    most = ltb-false (class_number m) 3 (sym (less_number m TextClass.Name) ∙ sym lq ∙ lf)

    pub class_empty : e ≤ a → class_number TextClass.Literal ≡ text_class (part a e s)
    unfolding is_name is_identifier class_number
    class_empty k = no_name (part a e s) (class_number m) p most (rw (part_none a e s k))

    pub class_digit : (x : Bool) → a < e → e ≤ length s → x ≡ starts_name (get_or s a 0) → not x ≡ true → class_number TextClass.Literal ≡ text_class (part a e s)
    unfolding is_name is_identifier class_number
    class_digit x k n q r = no_name (part a e s) (class_number m) p most (rw (part-one a e s k n) (simp (sym q ∙ not-true x r)))

    pub class_reserved : (r : Bool) → r ≡ Reserved (take (e - a) (drop a s)) → r ≡ true → class_number TextClass.Literal ≡ text_class (part a e s)
    unfolding part class_number
    class_reserved r q u = no_name (part a e s) (class_number m) p most (reserved_no_name (part a e s) (sym q ∙ u))

    pub class_name : (x r : Bool) → a < e → e ≤ length s → x ≡ starts_name (get_or s a 0) → not x ≡ false → r ≡ Reserved (take (e - a) (drop a s)) → r ≡ false → class_number TextClass.Name ≡ text_class (part a e s)
    unfolding part class_number
    class_name x r k n q u i j =
        let t = part-one a e s k n in
        let f : every in_name (part a e s) ≡ true = sym (least-name (part a e s)) ∙ le-leb 3 (least 3 (part a e s)) (omega (arith, most)) in
        rw t (is_name_lem (get_or s a 0) (part (a + 1) e s) (sym q ∙ not-false x u) (rw t at f) (rw t at (sym i ∙ j)))

pub ruleset judging = (rules, class_lesser, class_empty, class_digit, class_reserved, class_name)

-- ---- the classes are nested, so a number tells them
name_all : (t : Text) → is_name t ≡ true → every in_name t ≡ true
name_all t h = go (every in_name t) refl
  where
    go : (x : Bool) → every in_name t ≡ x → every in_name t ≡ true
    go true e = e
    go false e = absurd (false≢true (sym (name_every t e) ∙ h))

name_literal : (t : Text) → is_name t ≡ true → is_literal t ≡ true
name_literal t h = sym (least-literal t) ∙ le-leb 2 (least 3 t) (omega (arith, leb-true 3 (least 3 t) (least-name t ∙ name_all t h)))

literal_ascii : (t : Text) → is_literal t ≡ true → is_ascii t ≡ true
literal_ascii t h = sym (least-ascii t) ∙ le-leb 1 (least 3 t) (omega (arith, leb-true 2 (least 3 t) (least-literal t ∙ h)))

module _ (t : Text) where
  pub class_is_name : eqb (text_class t) 3 ≡ is_name t
  unfolding text_class pick
  class_is_name = go (is_name t) (is_literal t) (is_ascii t)
    where
      go : (x y z : Bool) → eqb (pick x 3 (pick y 2 (pick z 1 0))) 3 ≡ x
      go true y z = refl
      go false true z = refl
      go false false true = refl
      go false false false = refl

  pub class_is_literal : leb 2 (text_class t) ≡ is_literal t
  unfolding text_class pick
  class_is_literal = go (is_name t) refl (is_literal t) refl (is_ascii t)
    where
      go : (x : Bool) → is_name t ≡ x → (y : Bool) → is_literal t ≡ y → (z : Bool) → leb 2 (pick x 3 (pick y 2 (pick z 1 0))) ≡ y
      go true e y f z = sym (sym f ∙ name_literal t e)
      go false e true f z = refl
      go false e false f true = refl
      go false e false f false = refl

  pub class_is_ascii : leb 1 (text_class t) ≡ is_ascii t
  unfolding text_class pick
  class_is_ascii = go (is_name t) refl (is_literal t) refl (is_ascii t) refl
    where
      go : (x : Bool) → is_name t ≡ x → (y : Bool) → is_literal t ≡ y → (z : Bool) → is_ascii t ≡ z → leb 1 (pick x 3 (pick y 2 (pick z 1 0))) ≡ z
      go true e y f z i = sym (sym i ∙ literal_ascii t (name_literal t e))
      go false e true f z i = sym (sym i ∙ literal_ascii t f)
      go false e false f true i = refl
      go false e false f false i = refl
