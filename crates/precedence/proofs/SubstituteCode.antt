-- Substituting: the ways out of names, marked, replace_symbols, rename and substitute. Assumes nothing.
use mathlib.Core.Path.{◌≡◌, refl, sym, ap, ◌∙◌}
use mathlib.Core.Bool.{Bool, true, false}
use mathlib.Core.List.{List}
use Prim.Native.Nat.{ℕ, zero, suc, ◌+◌, ◌-◌, ◌≤◌, ◌<◌}
use native.Mathlib.Omega.{arith}
use borrow.Author.Rules.{rules}
use borrow.Author.Tests.{le-leb, lt-leb, ne_eqb, eq-eqb}
use lib.Dec.{eqb}
use lib.ListN.{length, get_or}
use Rattle.std.specs.Prelude.{Option, Some, None}
use Rattle.octets.specs.Working.Choice.{pick}
use Rattle.octets.specs.Plain.Numbers.{le_at, le}
use Rattle.octets.specs.Working.Stores.{store}
use Rattle.octets.proofs.StoreLaws.{length_store}
use Rattle.parse_tree.specs.Working.Nodes.{long_of}
use Rattle.grades.specs.declared.Assoc.{Assoc}
use Rattle.grades.specs.Skip.{names_at}
use Rattle.precedence.specs.declared.substitute.Marks.{Marks}
use Rattle.precedence.specs.Substitute.{marked_at, MarksIn, replace_out, Replaces, name_out, replace_all, substitute_out}

-- ---- names
module _ (wd target : ℕ) (w : List ℕ) (at : ℕ) where
  pub names_asked : (a : ℕ) → get_or w at 0 ≡ 36 → a ≡ le_at wd w (at + 9) → eqb a target ≡ names_at wd target w at
  unfolding names_at pick
  names_asked a h j = cc

  pub names_other : (get_or w at 0 ≡ 36 → ⊥) → false ≡ names_at wd target w at
  unfolding names_at pick
  names_other h = cc (ne_eqb (get_or w at 0) 36 h)

pub ruleset naming = (rules, names_asked, names_other)

-- ---- marked
pub marked_first : (p : ℕ) → record { first = p; last = p } ≡ marked_at p None
unfolding marked_at
marked_first p = refl

pub marked_later : (p : ℕ) (m : Marks) → record { first = m.first; last = p } ≡ marked_at p (Some m)
unfolding marked_at
marked_later p m = refl

pub ruleset marking = (rules, marked_first, marked_later)

-- ---- replace_symbols
-- with `fuel` commands to come at the most, the rest is what the whole is
pub record Replacing (wd target rest e at : ℕ) (w₀ w : List ℕ) (p : ℕ) (m : Option Marks) : Type 0 where
  pub narrow : 2 ≤ wd
  pub wide : wd ≤ 3
  pub inside : e + 16 ≤ length w
  pub same : length w ≡ length w₀
  pub on : at ≤ p
  pub marks : MarksIn at e m
  pub fuel : ℕ
  pub enough : e ≤ fuel + p
  pub left : replace_out wd target rest fuel w p e m ≡ replace_all wd target rest w₀ at e

pub replace_start : (wd target rest e at : ℕ) (w : List ℕ) → 2 ≤ wd → wd ≤ 3 → e + 16 ≤ length w → Replacing wd target rest e at w w at None
unfolding replace_all
replace_start wd target rest e at w n o i = record { narrow = n; wide = o; inside = i; same = refl; on = omega arith; marks = tt; fuel = e; enough = omega arith; left = refl }

pub replace-end : (wd target rest f : ℕ) (w : List ℕ) (p e : ℕ) (m : Option Marks) → e ≤ p → replace_out wd target rest f w p e m ≡ (w, m)
unfolding replace_out pick
replace-end wd target rest zero w p e m h = refl
replace-end wd target rest (suc f) w p e m h = cc (le-leb e p h)

module _ (wd target rest e at : ℕ) (w₀ w : List ℕ) (p : ℕ) (m : Option Marks) (g : Replacing wd target rest e at w₀ w p m) where
  pub replace_done : e ≤ p → Replaces (replace_all wd target rest w₀ at e) m w
  replace_done h =
      let z = sym g.left ∙ replace-end wd target rest g.fuel w p e m h in
      record { bytes = sym (ap (λ (x : List ℕ × Option Marks). x.0) z); marks = sym (ap (λ (x : List ℕ × Option Marks). x.1) z) }

  pub replace_marks : MarksIn at e m
  replace_marks = g.marks

  module _ (h : p < e) (b : Bool) (i : b ≡ names_at wd target w p) where
    abbrev less : ℕ
    less = g.fuel - 1

    opened : replace_out wd target rest g.fuel w p e m ≡ replace_out wd target rest (suc less) w p e m
    opened = let z : g.fuel ≡ suc less = omega (arith, g.enough) in ap (λ (f : ℕ). replace_out wd target rest f w p e m) z

    other : b ≡ false → (c l : ℕ) → c ≡ get_or w p 0 → l ≡ long_of wd c → replace_out wd target rest (suc less) w p e m ≡ replace_out wd target rest less w (p + l) e m
    unfolding replace_out pick
    other z c l j k = cc (lt-leb e p h)

    pub replace_other : b ≡ false → (c l : ℕ) → c ≡ get_or w p 0 → l ≡ long_of wd c → 0 < l → Replacing wd target rest e at w₀ w (p + l) m
    replace_other z c l j k o = record {
      narrow = g.narrow;
      wide = g.wide;
      inside = g.inside;
      same = g.same;
      on = omega (arith, g.on);
      marks = g.marks;
      fuel = less;
      enough = omega (arith, g.enough);
      left = sym (other z c l j k) ∙ sym opened ∙ g.left;
    }

    named : b ≡ true → (w' : List ℕ) (n : Option Marks) → Replaces (store w (p + 9) (le wd rest), Some (marked_at p m)) n w'
        → replace_out wd target rest (suc less) w p e m ≡ replace_out wd target rest less w' (p + (9 + wd)) e n
    unfolding replace_out pick
    named z w' n r = cc (lt-leb e p h, r.bytes, r.marks)

    marks_on : (m : Option Marks) → MarksIn at e m → MarksIn at e (Some (marked_at p m))
    unfolding marked_at
    marks_on (Some m) k = (k.0, k.1, g.on, h)
    marks_on None k = (g.on, h, g.on, h)

    pub replace_named : b ≡ true → (w' : List ℕ) (n : Option Marks) → Replaces (store w (p + 9) (le wd rest), Some (marked_at p m)) n w' → Replacing wd target rest e at w₀ w' (p + (9 + wd)) n
    replace_named z w' n r =
        let y : length w' ≡ length w = ap length r.bytes ∙ length_store w (p + 9) (le wd rest) in
        record {
          narrow = g.narrow;
          wide = g.wide;
          inside = rw y g.inside;
          same = y ∙ g.same;
          on = omega (arith, g.on);
          marks = rw r.marks (marks_on m g.marks);
          fuel = less;
          enough = omega (arith, g.enough);
          left = sym (named z w' n r) ∙ sym opened ∙ g.left;
        }

pub ruleset replacing = (rules, replace_start, replace_done, replace_marks, replace_other, replace_named)

-- ---- substitute
module _ (wd : ℕ) (w : List ℕ) (at e target here below : ℕ) (s : Assoc) (m : Option Marks) (w' : List ℕ) where
  module _ (x : Replaces (replace_all wd target below w at e) m w') where
    pub left_some : (n : Marks) → m ≡ Some n → s ≡ Assoc.Left → (r : List ℕ) → r ≡ store w' (n.first + 9) (le wd here) → r ≡ substitute_out wd w at e target here below s
    unfolding substitute_out name_out
    left_some n j z r i = cc (x.bytes, x.marks)

    pub left_none : m ≡ None → s ≡ Assoc.Left → w' ≡ substitute_out wd w at e target here below s
    unfolding substitute_out name_out
    left_none j z = cc (x.bytes, x.marks)

    pub right_some : (n : Marks) → m ≡ Some n → s ≡ Assoc.Right → (r : List ℕ) → r ≡ store w' (n.last + 9) (le wd here) → r ≡ substitute_out wd w at e target here below s
    unfolding substitute_out name_out
    right_some n j z r i = cc (x.bytes, x.marks)

    pub right_none : m ≡ None → s ≡ Assoc.Right → w' ≡ substitute_out wd w at e target here below s
    unfolding substitute_out name_out
    right_none j z = cc (x.bytes, x.marks)

  pub side_none : s ≡ Assoc.NonAssoc → Replaces (replace_all wd target below w at e) m w' → w' ≡ substitute_out wd w at e target here below s
  unfolding substitute_out
  side_none z x = cc x.bytes

  pub side_all : s ≡ Assoc.FullyAssoc → (here ≡ target → ⊥) → Replaces (replace_all wd target here w at e) m w' → w' ≡ substitute_out wd w at e target here below s
  unfolding substitute_out pick
  side_all z n x = cc (ne_eqb here target n, x.bytes)

pub side_same : (wd : ℕ) (w : List ℕ) (at e target here below : ℕ) (s : Assoc) → s ≡ Assoc.FullyAssoc → here ≡ target → w ≡ substitute_out wd w at e target here below s
unfolding substitute_out pick
side_same wd w at e target here below s z h = cc (eq-eqb here target h)

pub ruleset siding = (rules, left_some, left_none, right_some, right_none, side_none, side_all, side_same)
