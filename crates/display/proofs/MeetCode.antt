-- Bytes held against a text, the texts of the table, what of a command can be read by its code: the ways out of the code. Assumes nothing.
use mathlib.Core.Path.{◌≡◌, refl, sym, ap, ◌∙◌}
use mathlib.Core.Bool.{Bool, true, false}
use mathlib.Core.Logic.{◌⊎◌, inl, inr}
use mathlib.Core.List.{List, [], ◌∷◌, ◌++◌}
use Prim.Native.Nat.{ℕ, suc, ◌+◌, ◌≤◌, ◌<◌}
use native.Mathlib.Omega.{arith}
use native.Mathlib.Numerals.{add-one}
use borrow.Author.Rules.{rules}
use borrow.Author.Tests.{lt-ltb, le-ltb, eq-eqb, ne_eqb, eqb-true, eqb-false}
use lib.Dec.{eqb}
use lib.ListN.{length, drop, get_or, drop_of_length-le}
use lib.Seq.{drop-cons}
use Rattle.std.specs.Prelude.{Option, Some, None}
use Rattle.octets.specs.Working.Choice.{pick}
use Rattle.octets.specs.Plain.Numbers.{le_at}
use Rattle.parse_tree.specs.Plain.Tree.{Text}
use Rattle.parse_tree.specs.Working.Nodes.{long_of}
use Rattle.texts.specs.declared.Map.{Map}
use Rattle.texts.specs.Table.{texts}
use Rattle.display.specs.Follow.{met_one, met_by, word_at, op_byte}
use Rattle.display.proofs.MetLaws.{met_then, met_not}

-- ---- meet_byte
module _ (t : Text) (i b : ℕ) where
  pub byte_yes : (i < length t) × (get_or t i 0 ≡ b) → Some (i + 1) ≡ met_by t (Some i) (b ∷ [])
  unfolding met_by met_one pick
  byte_yes (h, e) = cc (lt-ltb i (length t) h, eq-eqb (get_or t i 0) b e)

  pub byte_no : (length t ≤ i) ⊎ ((i < length t) × (get_or t i 0 ≡ b → ⊥)) → None ≡ met_by t (Some i) (b ∷ [])
  unfolding met_by met_one pick
  byte_no (inl h) = cc (le-ltb i (length t) h)
  byte_no (inr (h, e)) = cc (lt-ltb i (length t) h, ne_eqb (get_or t i 0) b e)

pub ruleset byting = (rules, byte_yes, byte_no)

-- ---- meet
pub record Meeting (t x : Text) (i p k : ℕ) : Type 0 where
  pub rest : met_by t (Some p) (drop k x) ≡ met_by t (Some i) x

pub meet_start : (t x : Text) (i : ℕ) → Meeting t x i i 0
meet_start t x i = record { rest = refl }

module _ (t x : Text) (i p k : ℕ) (g : Meeting t x i p k) where
  module _ (o : Option ℕ) (h : k < length x) (j : o ≡ met_by t (Some p) (get_or x k 0 ∷ [])) where
    this : (get_or x k 0 ∷ []) ++ drop (k + 1) x ≡ drop k x
    this = cc (drop-cons x k 0 h, add-one k)

    pub meet_next : (q : ℕ) → o ≡ Some q → Meeting t x i q (k + 1)
    meet_next q e = record { rest = met_then t (Some p) (get_or x k 0 ∷ []) (drop (k + 1) x) j e refl ∙ ap (met_by t (Some p)) this ∙ g.rest }

    pub meet_differs : o ≡ None → None ≡ met_by t (Some i) x
    meet_differs e = met_not t (Some p) (get_or x k 0 ∷ []) (drop (k + 1) x) j e ∙ ap (met_by t (Some p)) this ∙ g.rest

  pub meet_done : length x ≤ k → Some p ≡ met_by t (Some i) x
  unfolding met_by
  meet_done h = let z : met_by t (Some p) (drop k x) ≡ Some p = cc (drop_of_length-le x {i = k} h) in sym z ∙ g.rest

pub ruleset meeting = (rules, meet_start, meet_next, meet_differs, meet_done)

-- ---- word
pub word_is : (wd : ℕ) (s w : List ℕ) (m : Map) (at x k : ℕ) → x ≡ le_at wd w at → k ≡ x → (t : List ℕ) → t ≡ get_or (texts s w m) k [] → t ≡ word_at wd (texts s w m) w at
unfolding word_at
word_is wd s w m at x k j q t e = cc

pub ruleset wording = (rules, word_is)

-- ---- op_byte
pub op_star : (op : ℕ) → op ≡ 0 → 42 ≡ op_byte op
unfolding op_byte pick
op_star op h = cc

pub op_plus : (op : ℕ) → (op ≡ 0 → ⊥) → op ≡ 1 → 43 ≡ op_byte op
unfolding op_byte pick
op_plus op n h = cc

pub op_question : (op : ℕ) → (op ≡ 0 → ⊥) → (op ≡ 1 → ⊥) → 63 ≡ op_byte op
unfolding op_byte pick
op_question op n h = cc (ne_eqb op 0 n, ne_eqb op 1 h)

pub ruleset operating = (rules, op_star, op_plus, op_question)

-- ---- how long a command is by its code
module _ (wd c : ℕ) where
  split : (k : ℕ) → k ≤ c → (c ≡ k) ⊎ (suc k ≤ c)
  split k h = go (eqb c k) refl
    where
      go : (b : Bool) → eqb c k ≡ b → (c ≡ k) ⊎ (suc k ≤ c)
      go true e = inl (eqb-true c k e)
      go false e = let n = eqb-false c k e in inr (omega (arith, n))

  long_named : 32 ≤ c → c < 37 → long_of wd c ≡ 9 + wd
  unfolding long_of pick
  long_named h k = go (split 32 h)
    where
      last : (c ≡ 35) ⊎ (36 ≤ c) → long_of wd c ≡ 9 + wd
      last (inl e) = cc
      last (inr l) = let e : c ≡ 36 = omega arith in cc

      third : (c ≡ 34) ⊎ (35 ≤ c) → long_of wd c ≡ 9 + wd
      third (inl e) = cc
      third (inr l) = last (split 35 l)

      second : (c ≡ 33) ⊎ (34 ≤ c) → long_of wd c ≡ 9 + wd
      second (inl e) = cc
      second (inr l) = third (split 34 l)

      go : (c ≡ 32) ⊎ (33 ≤ c) → long_of wd c ≡ 9 + wd
      go (inl e) = cc
      go (inr l) = second (split 33 l)

  module _ (n at : ℕ) (room : at + long_of wd c ≤ n) where
    pub named-room : 32 ≤ c → c < 37 → at + 9 + wd ≤ n
    named-room h k = omega (arith, long_named h k)

    module _ (h : c ≡ 37) where
      macro_long : long_of wd c ≡ 10 + wd
      unfolding long_of pick
      macro_long = cc

      pub macro_room : at + 9 + wd ≤ n
      macro_room = omega (arith, macro_long)

      pub macro_read : at + 9 + wd < n
      macro_read = omega (arith, macro_long)

    pub repeat_room : c ≡ 38 → at + 9 < n
    unfolding long_of pick
    repeat_room h = let z : long_of wd c ≡ 10 = cc in omega (arith, z)

    module _ (h : c ≡ 40) where
      name_long : long_of wd c ≡ 10 + wd
      unfolding long_of pick
      name_long = cc

      pub name_room : at + 10 + wd ≤ n
      name_room = omega (arith, name_long)

      pub name_read : at + 9 < n
      name_read = omega (arith, name_long)

    pub group_room : c ≡ 41 → at + 9 + 2 ≤ n
    unfolding long_of pick
    group_room h = let z : long_of wd c ≡ 11 = cc in omega (arith, z)
