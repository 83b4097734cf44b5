-- Commands with the same code and operands, and symbols whose commands are such: they have the same printed form. Assumes nothing.
use mathlib.Core.Path.{◌≡◌, refl, sym, ap, ◌∙◌}
use mathlib.Core.Bool.{Bool, true, false}
use mathlib.Core.List.{List, [], ◌∷◌, ◌++◌}
use Prim.Native.Nat.{ℕ, zero, suc, ◌+◌, ◌-◌, ◌<◌, ◌≤◌}
use native.Mathlib.Omega.{arith}
use borrow.Author.Tests.{ltb-true, eqb-true}
use lib.Dec.{eqb, ltb}
use lib.ListN.{get_or, drop}
use lib.Seq.{get_or-take, get_or-drop}
use Rattle.octets.specs.Working.Choice.{pick}
use Rattle.octets.specs.Plain.Numbers.{le_at}
use Rattle.octets.specs.Plain.Runs.{part}
use Rattle.parse_tree.specs.Plain.Tree.{Text, Sym, Syms, nil, cons, count}
use Rattle.parse_tree.specs.Plain.Display.{shown, shown_all, shown_more, print}
use Rattle.parse_tree.specs.Working.Nodes.{long_of}
use Rattle.parse_tree.specs.Working.Nested.{inside_by}
use Rattle.laws.specs.Flat.{children, joined}
use Rattle.laws.proofs.Shape.{Alike, shown_alike}
use Rattle.display.specs.Follow.{word_at, leaf_text, name_text, op_byte, before_by, behind_by}
use Rattle.display.proofs.StandsLaws.{before_text, between_text, behind_text, print-parts}
use Rattle.display.proofs.MeetCode.{named-room, macro_room, macro_read, repeat_room, name_room, name_read, group_room}

-- ---- the bytes at two places are the same, from the d-th up to the n-th
abbrev pub Same : List ℕ → ℕ → ℕ → ℕ → ℕ → Type 0
Same w p q d n = (i : ℕ) → d ≤ i → i < n → get_or w (p + i) 0 ≡ get_or w (q + i) 0

part-byte : (w : List ℕ) (a n i : ℕ) → i < n → get_or (part a (a + n) w) i 0 ≡ get_or w (a + i) 0
unfolding part
part-byte w a n i h =
    let z : a + n - a ≡ n = omega arith in
    rw z (get_or-take n (drop a w) i 0 h ∙ get_or-drop a w i 0)

pub part_same : (w : List ℕ) (p q d n : ℕ) → part (p + d) (p + d + (n - d)) w ≡ part (q + d) (q + d + (n - d)) w → Same w p q d n
part_same w p q d n e i h k =
    let y : p + d + (i - d) ≡ p + i = omega arith in
    let z : q + d + (i - d) ≡ q + i = omega arith in
    ap (λ (j : ℕ). get_or w j 0) (sym y) ∙ sym (part-byte w (p + d) (n - d) (i - d) (omega arith)) ∙ ap (λ (l : List ℕ). get_or l (i - d) 0) e ∙ part-byte w (q + d) (n - d) (i - d) (omega arith)
    ∙ ap (λ (j : ℕ). get_or w j 0) z

-- and so is a number there
number_same : (w : List ℕ) (p q k d : ℕ) → Same w p q d (d + k) → le_at k w (p + d) ≡ le_at k w (q + d)
unfolding le_at
number_same w p q zero d o = refl
number_same w p q (suc k) d o =
    let y : p + d + 1 ≡ p + (d + 1) = omega arith in
    let z : q + d + 1 ≡ q + (d + 1) = omega arith in
    let i = number_same w p q k (d + 1) (λ i h l. o i (omega arith) (omega arith)) in
    let j : le_at k w (p + d + 1) ≡ le_at k w (q + d + 1) = ap (le_at k w) y ∙ i ∙ ap (le_at k w) (sym z) in
    omega (arith, o d (omega arith) (omega arith), j)

pick_same : {A : Type 0} (b : Bool) {x x' y y' : A} → (b ≡ true → x ≡ x') → y ≡ y' → pick b x y ≡ pick b x' y'
unfolding pick
pick_same true h k = h refl
pick_same false h k = k

-- ---- commands of the code c with the same operands
module _ (wd : ℕ) (ts : List Text) (w : List ℕ) (p q c : ℕ) (o : Same w p q 9 (long_of wd c)) where
  room : 0 + long_of wd c ≤ long_of wd c
  room = omega arith

  word_same : (d : ℕ) → 9 ≤ d → d + wd ≤ long_of wd c → word_at wd ts w (p + d) ≡ word_at wd ts w (q + d)
  unfolding word_at
  word_same d h k = ap (λ (n : ℕ). get_or ts n []) (number_same w p q wd d (λ i j l. o i (omega arith) (omega arith)))

  macro_same : eqb c 37 ≡ true → word_at wd ts w (p + 9) ≡ word_at wd ts w (q + 9)
  macro_same t = word_same 9 (omega arith) (omega (arith, macro_room wd c (long_of wd c) 0 room (eqb-true c 37 t)))

  name_same : eqb c 40 ≡ true → name_text (get_or w (p + 9) 0) (word_at wd ts w (p + 10)) ≡ name_text (get_or w (q + 9) 0) (word_at wd ts w (q + 10))
  name_same t =
      let y = o 9 (omega arith) (omega (arith, name_read wd c (long_of wd c) 0 room (eqb-true c 40 t))) in
      let z = word_same 10 (omega arith) (omega (arith, name_room wd c (long_of wd c) 0 room (eqb-true c 40 t))) in
      cc (y, z)

  pub before_same : 32 ≤ c → before_by wd ts w p c ≡ before_by wd ts w q c
  unfolding before_by
  before_same h =
      pick_same (ltb c 37) (λ t. ap (leaf_text c) (word_same 9 (omega arith) (omega (arith, named-room wd c (long_of wd c) 0 room h (ltb-true c 37 t)))))
      (pick_same (eqb c 37) (λ t. ap (λ (x : Text). x ++ (0x3c ∷ [])) (macro_same t))
      (pick_same (eqb c 38) (λ t. refl)
      (pick_same (eqb c 39) (λ t. refl)
      (pick_same (eqb c 40) name_same refl))))

  pub behind_same : behind_by w p c ≡ behind_by w q c
  unfolding behind_by
  behind_same =
      pick_same (eqb c 37) (λ t. refl)
      (pick_same (eqb c 38) (λ t. ap {B = Text} (λ (b : ℕ). op_byte b ∷ []) (o 9 (omega arith) (omega (arith, repeat_room wd c (long_of wd c) 0 room (eqb-true c 38 t))))) refl)

  pub inside-same : inside_by wd w p c ≡ inside_by wd w q c
  unfolding inside_by
  inside-same =
      pick_same (eqb c 37) counted
      (pick_same (eqb c 41) (λ t. number_same w p q 2 9 (λ i h l. o i h (omega (arith, group_room wd c (long_of wd c) 0 room (eqb-true c 41 t))))) refl)
    where
      counted : eqb c 37 ≡ true → get_or w (p + 9 + wd) 0 ≡ get_or w (q + 9 + wd) 0
      counted t =
          let y : p + 9 + wd ≡ p + (9 + wd) = omega arith in
          let z : q + 9 + wd ≡ q + (9 + wd) = omega arith in
          rw (y, z) (o (9 + wd) (omega arith) (omega (arith, macro_read wd c (long_of wd c) 0 room (eqb-true c 37 t))))

-- ---- symbols that print alike, one by one
more_alike : (xs ys : Syms) (sep r : Text) → Alike xs ys → shown_more xs sep r ≡ shown_more ys sep r
unfolding shown_more
more_alike nil nil sep r h = refl
more_alike nil (cons y ys) sep r h = absurd h
more_alike (cons x xs) nil sep r h = absurd h
more_alike (cons x xs) (cons y ys) sep r h = ap (λ (t : Text). sep ++ t) (ap (shown x) (more_alike xs ys sep r h.1) ∙ shown_alike x y (shown_more ys sep r) h.0)

all_alike : (xs ys : Syms) (sep r : Text) → Alike xs ys → shown_all xs sep r ≡ shown_all ys sep r
unfolding shown_all
all_alike nil nil sep r h = refl
all_alike nil (cons y ys) sep r h = absurd h
all_alike (cons x xs) nil sep r h = absurd h
all_alike (cons x xs) (cons y ys) sep r h = ap (shown x) (more_alike xs ys sep r h.1) ∙ shown_alike x y (shown_more ys sep r) h.0

-- theorem: symbols of which the parts are the same, and those inside print alike, print alike
pub parts_alike : (x y : Sym) → before_text x ≡ before_text y → between_text x ≡ between_text y → behind_text x ≡ behind_text y → Alike (children x) (children y) → print x ≡ print y
parts_alike x y a b c h =
    let z = all_alike (children x) (children y) (between_text x) (behind_text x) h in
    print-parts x ∙ cc (a, b, c, z) ∙ sym (print-parts y)

-- two lists of one length, each with another behind it
pub alike_split : (xs us ys vs : Syms) → count xs ≡ count us → Alike (joined xs ys) (joined us vs) → Alike xs us × Alike ys vs
unfolding joined count
alike_split nil nil ys vs e h = (tt, h)
alike_split nil (cons u us) ys vs e h = absurd (omega arith)
alike_split (cons x xs) nil ys vs e h = absurd (omega arith)
alike_split (cons x xs) (cons u us) ys vs e h = let z = alike_split xs us ys vs (omega arith) h.1 in ((h.0, z.0), z.1)
