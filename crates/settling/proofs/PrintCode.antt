-- The ways out of put_between, put_before, put_behind and open. Assumes nothing.
use mathlib.Core.Path.{◌≡◌, ap}
use mathlib.Core.Logic.{◌⊎◌, inl, inr}
use mathlib.Core.List.{List, [], ◌∷◌, ◌++◌}
use Prim.Native.Nat.{ℕ, ◌+◌, ◌*◌, ◌^◌, ◌<◌, ◌≤◌}
use native.Mathlib.Omega.{arith}
use borrow.Author.Rules.{rules}
use borrow.Author.Tests.{lt-ltb, le-ltb, ne_eqb}
use mir.Val.{Fits}
use mir.Syntax.{w64}
use lib.ListN.{length, get_or}
use Rattle.octets.specs.Working.Choice.{pick}
use Rattle.parse_tree.specs.Plain.Tree.{Text}
use Rattle.parse_tree.specs.Working.Nodes.{long_of}
use Rattle.parse_tree.specs.Working.Nested.{inside_by}
use Rattle.texts.specs.declared.Map.{Map}
use Rattle.texts.specs.Table.{texts}
use Rattle.grades.specs.Grading.{Worded}
use Rattle.display.specs.Follow.{word_at, leaf_text, mark_text, name_text, before_by, op_byte, behind_by, between_by}
use Rattle.display.proofs.MeetCode.{named-room, macro_room, name_room, repeat_room}
use Rattle.precedence.specs.Write.{Puts}
use Rattle.precedence.proofs.WriteLaws.{puts_none}
use Rattle.settling.specs.declared.Source.{Source}
use Rattle.settling.specs.Put.{source_text, Fixed, PlacedText}
use Rattle.settling.specs.Print.{Printable, Opening, Closing, OpensPrint}
use Rattle.settling.proofs.PutLaws.{puts_as}
use Rattle.settling.proofs.PrintLaws.{printable_next}

-- ---- what is asked
module _ (s w : List ℕ) (m : Map) (wd lim to : ℕ) (g : Printable s w m wd lim to) where
  pub print-worded : Worded s w m
  print-worded = g.readable.worded

  pub print-inside : lim ≤ length w
  print-inside = g.inside

  pub print-stop : to ≤ lim + 1
  print-stop = g.stop

  pub print-fixed : (t : Text) (p : Source) → PlacedText s w m t p → Fixed (length w) lim p
  print-fixed t p d = d.fixed lim g.above

-- ---- put_between
module _ (w : List ℕ) (c k lim to r : ℕ) (w1 : List ℕ) where
  pub between_none : k ≡ 0 → to ≤ lim + 1 → Puts w lim to (between_by c k) to w
  unfolding between_by pick
  between_none e h = rw e (puts_none w lim to h)

  pub between-comma : (k ≡ 0 → ⊥) → c ≡ 37 → Puts w lim to (44 ∷ 32 ∷ []) r w1 → Puts w lim to (between_by c k) r w1
  unfolding between_by pick
  between-comma n e a = rw (ne_eqb k 0 n, e) a

  pub between-space : (k ≡ 0 → ⊥) → (c ≡ 37 → ⊥) → Puts w lim to (32 ∷ []) r w1 → Puts w lim to (between_by c k) r w1
  unfolding between_by pick
  between-space n m a = rw (ne_eqb k 0 n, ne_eqb c 37 m) a

pub ruleset spacing = (rules, between_none, between-comma, between-space)

-- ---- put_behind
module _ (w : List ℕ) (at c lim to r : ℕ) (w1 : List ℕ) where
  pub behind_angle : (c ≡ 37) ⊎ (c ≡ 39) → Puts w lim to (62 ∷ []) r w1 → Puts w lim to (behind_by w at c) r w1
  unfolding behind_by pick
  behind_angle (inl e) a = rw e a
  behind_angle (inr e) a = rw e a

  pub behind_repeat : (v b : ℕ) → c ≡ 38 → v ≡ get_or w (at + 9) 0 → b ≡ op_byte v → Puts w lim to (b ∷ []) r w1 → Puts w lim to (behind_by w at c) r w1
  unfolding behind_by pick
  behind_repeat v b e j k a = rw (e, ← j, ← k) a

  pub behind_group : c ≡ 41 → Puts w lim to (41 ∷ []) r w1 → Puts w lim to (behind_by w at c) r w1
  unfolding behind_by pick
  behind_group e a = rw e a

  pub behind_none : (wd : ℕ) → ((c ≡ 37) ⊎ (c ≡ 39) → ⊥) → (c ≡ 38 → ⊥) → (c ≡ 41 → ⊥) → Closing w wd at c lim to → Puts w lim to (behind_by w at c) to w
  unfolding behind_by pick
  behind_none wd a b e h = rw (ne_eqb c 37 (λ i. a (inl i)), ne_eqb c 38 b, ne_eqb c 39 (λ i. a (inr i)), ne_eqb c 41 e) (puts_none w lim to h.stop)

  pub close_inside : (wd : ℕ) → Closing w wd at c lim to → lim ≤ length w
  close_inside wd h = h.inside

  pub close_room : (wd : ℕ) → Closing w wd at c lim to → c ≡ 38 → at + 9 < length w
  close_room wd h e = repeat_room wd c (length w) at h.room e

pub ruleset closing = (rules, close_inside, close_room, behind_angle, behind_repeat, behind_group, behind_none)

-- ---- put_named
pub named_put : (s w : List ℕ) (m : Map) (wd at lim to r : ℕ) (w1 : List ℕ) (p : Source) → PlacedText s w m (word_at wd (texts s w m) w (at + 10)) p
    → Puts w lim to (name_text (get_or w (at + 9) 0) (source_text w p)) r w1 → Puts w lim to (name_text (get_or w (at + 9) 0) (word_at wd (texts s w m) w (at + 10))) r w1
named_put s w m wd at lim to r w1 p d a = puts_as (ap (name_text (get_or w (at + 9) 0)) d.text) a

-- ---- put_before
module _ (s w : List ℕ) (m : Map) (wd at c lim to r : ℕ) (w1 : List ℕ) where
  pub before-named : (p : Source) → c < 37 → PlacedText s w m (word_at wd (texts s w m) w (at + 9)) p → Puts w lim to (leaf_text c (source_text w p)) r w1 → Puts w lim to (before_by wd (texts s w m) w at c) r w1
  unfolding before_by pick
  before-named p h d a = let z = d.text in rw (lt-ltb c 37 h) (puts_as (ap (leaf_text c) z) a)

  pub before-macro : (p : Source) → c ≡ 37 → PlacedText s w m (word_at wd (texts s w m) w (at + 9)) p → Puts w lim to (source_text w p ++ (60 ∷ [])) r w1 → Puts w lim to (before_by wd (texts s w m) w at c) r w1
  unfolding before_by pick
  before-macro p e d a = rw e (puts_as (ap (λ (t : Text). t ++ (60 ∷ [])) d.text) a)

  pub before-repeat : c ≡ 38 → to ≤ lim + 1 → Puts w lim to (before_by wd (texts s w m) w at c) to w
  unfolding before_by pick
  before-repeat e h = rw e (puts_none w lim to h)

  pub before-choose : c ≡ 39 → Puts w lim to (60 ∷ []) r w1 → Puts w lim to (before_by wd (texts s w m) w at c) r w1
  unfolding before_by pick
  before-choose e a = rw e a

  pub before-name : c ≡ 40 → Puts w lim to (name_text (get_or w (at + 9) 0) (word_at wd (texts s w m) w (at + 10))) r w1 → Puts w lim to (before_by wd (texts s w m) w at c) r w1
  unfolding before_by pick
  before-name e a = rw e a

  pub before-group : c ≡ 41 → Puts w lim to (40 ∷ []) r w1 → Puts w lim to (before_by wd (texts s w m) w at c) r w1
  unfolding before_by pick
  before-group e a = rw e a

  pub before-mark : 37 ≤ c → (c ≡ 37 → ⊥) → (c ≡ 38 → ⊥) → (c ≡ 39 → ⊥) → (c ≡ 40 → ⊥) → (c ≡ 41 → ⊥) → Puts w lim to (mark_text c) r w1 → Puts w lim to (before_by wd (texts s w m) w at c) r w1
  unfolding before_by pick
  before-mark l n37 n38 n39 n40 n41 a = rw (le-ltb c 37 l, ne_eqb c 37 n37, ne_eqb c 38 n38, ne_eqb c 39 n39, ne_eqb c 40 n40, ne_eqb c 41 n41) a

pub ruleset opening = (rules, print-worded, print-inside, print-stop, print-fixed, named-room, macro_room, name_room, before-named, before-macro, before-repeat, before-choose, before-name, before-group, before-mark)

-- ---- open
module _ (s w : List ℕ) (m : Map) (wd at lim to : ℕ) (g : Printable s w m wd lim to) (h : Opening w wd at) where
  pub open_fits : (l : ℕ) → l ≤ 17 → length w * 1 < 2 ^ 63 → Fits w64 (at + l)
  open_fits l k f = let z = h.within in omega arith

  pub open_put : (o l n r : ℕ) (w1 : List ℕ) → o ≡ get_or w at 0 → l ≡ long_of wd o → 0 < l → n ≡ inside_by wd w at o → Puts w lim to (before_by wd (texts s w m) w at o) r w1
      → OpensPrint s w m wd at lim to (record { code = o; at = at + l; inside = n; to = r }) w1
  open_put o l n r w1 e d p i b = record { code = e; end = ap (λ (v : ℕ). at + v) d; long = omega arith; room = omega (arith, h.room, ap (long_of wd) e); inside = i; before = b }

pub open_room : (w w1 : List ℕ) (wd at o : ℕ) → Opening w wd at → o ≡ get_or w at 0 → length w1 ≡ length w → at + long_of wd o ≤ length w1
open_room w w1 wd at o h e l = omega (arith, h.room, ap (long_of wd) e)

pub ruleset starting = (rules, print-inside, print-stop, printable_next, open_fits, open_put, open_room)
