-- The runs that `hand_over` and `hand_over_levels` copy stand one behind the other at the front. Assumes nothing.
use mathlib.Core.Path.{◌≡◌, ap, ◌∙◌}
use mathlib.Core.Bool.{false}
use mathlib.Core.List.{List, ◌++◌, append_assoc}
use Prim.Native.Nat.{ℕ, ◌+◌, ◌-◌, ◌≤◌}
use native.Mathlib.Omega.{arith}
use borrow.Author.Rules.{rules}
use lib.ListN.{length, drop, length-append}
use Rattle.octets.specs.Plain.Runs.{part}
use Rattle.octets.specs.Working.Stores.{store}
use Rattle.octets.proofs.PartLaws.{part_length}
use Rattle.octets.proofs.StoreLaws.{store_is, store-append}
use Rattle.parse_tree.specs.Plain.WriteTape.{bytes_of_each}
use Rattle.parse_tree.specs.Working.Encode.{atom_bytes}
use Rattle.texts.specs.Atoms.{some_long}
use Rattle.texts.specs.declared.Map.{Map}
use Rattle.precedence.specs.Names.{Naming}
use Rattle.levels.specs.declared.Room.{Room}
use Rattle.levels.specs.declared.Written.{Written}
use Rattle.levels.specs.Fresh.{new_texts, PutsNames}
use Rattle.output.specs.Working.Handing.{handed, HandsLevels, levels_tree, handed_levels}

module _ (s w o : List ℕ) (at a : ℕ) (h : at ≤ length s) (k : a + (length s - at) ≤ length w) (n : length s ≤ length o) where
  pub hand_done : (o₁ o₂ : List ℕ) → o₁ ≡ store o 0 (part 0 at s) → o₂ ≡ store o₁ at (part a (a + (length s - at)) w) → o₂ ≡ handed at s a w o
  unfolding handed
  hand_done o₁ o₂ p q =
      let x = part_length 0 at s h in
      let y = part_length a (a + (length s - at)) w k in
      let l = length-append (part 0 at s) (part a (a + (length s - at)) w) in
      let e : 0 + length (part 0 at s ++ part a (a + (length s - at)) w) ≡ length s = omega arith in
      q ∙ ap (λ (u : List ℕ). store u at (part a (a + (length s - at)) w)) p ∙ store-append o 0 at (part 0 at s) (part a (a + (length s - at)) w) (omega arith)
      ∙ store_is o 0 (part 0 at s ++ part a (a + (length s - at)) w) (omega arith)
      ∙ ap (λ (i : ℕ). (part 0 at s ++ part a (a + (length s - at)) w) ++ drop i o) e
      ∙ append_assoc (part 0 at s) (part a (a + (length s - at)) w) (drop (length s) o)

pub ruleset handing = (rules, hand_done)

-- ---- `hand_over_levels`: o₁ has the tape's atoms, o₂ the names up to q, o₃ the items
module _ (s w o : List ℕ) (at : ℕ) (m : Map) (room : Room) (v : Written) (h : HandsLevels s at w m room v (length o)) where
  abbrev names : List ℕ
  names = bytes_of_each (atom_bytes 2) (new_texts s w m v.count)

  pub atoms_inside : at ≤ length s
  atoms_inside = h.inside

  pub atoms_fit : 0 + (at - 0) ≤ length o
  atoms_fit = omega (arith, h.fits)

  pub names_there : Naming s w m v.count
  names_there = h.naming

  pub names_short : some_long (new_texts s w m v.count) ≡ false
  names_short = h.short

  pub items_from_lem : room.at ≤ v.to
  items_from_lem = h.from

  pub items_inside : v.to ≤ length w
  items_inside = h.upto

  pub names_fit : (o₁ : List ℕ) → length o₁ ≡ length o → at + length (bytes_of_each (atom_bytes 2) (new_texts s w m v.count)) ≤ length o₁
  names_fit o₁ e = omega (arith, h.fits)

  module _ (o₁ : List ℕ) (q : ℕ) (o₂ : List ℕ) (p : PutsNames o₁ at (bytes_of_each (atom_bytes 2) (new_texts s w m v.count)) q o₂) where
    pub items_fit : (u : List ℕ) → length u ≡ length o → q + (v.to - room.at) ≤ length u
    items_fit u e = omega (arith, h.fits, p.after)

    -- theorem: the three are the tree
    pub levels-handed : (o₃ : List ℕ) → o₁ ≡ store o 0 (part 0 at s) → o₃ ≡ store o₂ q (part room.at v.to w) → o₃ ≡ handed_levels s at w m room v o
    unfolding handed_levels levels_tree
    levels-handed o₃ x z =
        let a = part 0 at s in
        let i = part room.at v.to w in
        let la = part_length 0 at s h.inside in
        let li = part_length room.at v.to w h.upto in
        let l = length-append a (names ++ i) in
        let k = length-append names i in
        z ∙ ap (λ (u : List ℕ). store u q i) (p.bytes ∙ ap (λ (u : List ℕ). store u at names) x) ∙ store-append (store o 0 a) at q names i p.after
        ∙ store-append o 0 at a (names ++ i) (omega arith) ∙ store_is o 0 (a ++ (names ++ i)) (omega (arith, h.fits, h.inside))
        ∙ (let e : 0 + length (a ++ (names ++ i)) ≡ length (a ++ (names ++ i)) = omega arith in ap (λ (n : ℕ). (a ++ (names ++ i)) ++ drop n o) e)

pub ruleset handing_levels = (rules, atoms_inside, atoms_fit, names_there, names_short, items_from_lem, items_inside, names_fit, items_fit, levels-handed)
