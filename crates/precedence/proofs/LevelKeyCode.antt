-- The ways out of put_key. Assumes nothing.
use mathlib.Core.Path.{◌≡◌, ap, ◌∙◌}
use mathlib.Core.List.{List}
use Prim.Native.Nat.{ℕ, ◌+◌, ◌*◌, ◌^◌, ◌<◌, ◌≤◌}
use native.Mathlib.Omega.{arith}
use native.Mathlib.Nat.{mul_comm}
use mir.Syntax.{w64}
use mir.Val.{Fits}
use borrow.Author.Rules.{rules}
use lib.ListN.{length, get_or}
use Rattle.octets.specs.Plain.Numbers.{le_at}
use Rattle.parse_tree.specs.declared.syntax.Alternative.{Alternative}
use Rattle.parse_tree.specs.Working.Nodes.{alternative_here}
use Rattle.grades.specs.declared.Assoc.{Assoc}
use Rattle.grades.specs.declared.Ids.{Ids}
use Rattle.grades.specs.declared.Indices.{Indices}
use Rattle.grades.specs.Key.{key_index, key_side}
use Rattle.grades.specs.Annotations.{attributes_long, Annotates, conditions_from, symbols_from}
use Rattle.precedence.specs.declared.level.Level.{Level}
use Rattle.precedence.specs.Write.{PutsRenamed}
use Rattle.precedence.specs.Level.{key_entry, key_place, key_end, KeyInside, PutsKey}

-- ---- put_key
module _ (wd : ℕ) (w : List ℕ) (places lim to k : ℕ) (g : KeyInside wd w places lim to k) (h : to ≤ lim + 1) (l : lim + 16 ≤ length w) where
  key_end_lem : key_end w places k ≤ length w
  key_end_lem = omega (arith, g.upto)

  module _ (i p : ℕ) (y : i ≡ key_index k) (z : p ≡ le_at 8 w (places + 8 * i)) where
    x : p ≡ le_at 8 w (key_entry places k)
    x = z ∙ ap (λ (j : ℕ). le_at 8 w (places + 8 * j)) y

    key_start : symbols_from wd w p ≤ key_end w places k
    unfolding key_place
    key_start = rw x g.symbols

    pub key_whole : p + (14 + wd) ≤ length w
    unfolding symbols_from conditions_from
    key_whole = omega (arith, key_start, key_end_lem)

    pub key_attributes_fit : length w < 2 ^ 64 → Fits w64 (p + (14 + wd))
    key_attributes_fit u = record { fits = omega (arith, key_whole) }

    pub key_attributes : (n : ℕ) (d : Alternative) → d ≡ alternative_here wd w p → n ≡ d.attributes → p + (14 + wd) + attributes_long wd n ≤ length w
    unfolding symbols_from conditions_from attributes_long
    key_attributes n d v z =
        let u : n ≡ get_or w (p + 9) 0 = cc in
        let c = mul_comm (2 + 3 * wd) (get_or w (p + 9) 0) in
        rw u (omega (arith, key_start, key_end_lem, c))

  module _ (i p e : ℕ) (is : i ≡ key_index k) (from : p ≡ le_at 8 w (places + 8 * i)) (upto : e ≡ le_at 8 w (places + 8 * i + 8)) where
    from_entry : p ≡ le_at 8 w (key_entry places k)
    from_entry = from ∙ ap (λ (j : ℕ). le_at 8 w (places + 8 * j)) is

    y : e ≡ le_at 8 w (key_entry places k + 8)
    y = upto ∙ ap (λ (j : ℕ). le_at 8 w (places + 8 * j + 8)) is

    pub key_symbols : symbols_from wd w p ≤ e
    unfolding key_place key_end
    key_symbols = rw (from_entry, y) g.symbols

    pub key_upto : e ≤ to
    unfolding key_end
    key_upto = rw y g.upto

    pub key_put : (n : ℕ) (d : Alternative) → d ≡ alternative_here wd w p → n ≡ d.attributes → (ids : Ids) (f : Indices) → Annotates wd ids w (p + (14 + wd)) n f → (side : Assoc) → side ≡ key_side k
        → (target : ℕ) (v : Level) (below r : ℕ) (w1 : List ℕ) → below ≡ v.lower
        → PutsRenamed wd w p e f (record { target = target; here = v.name; below = below; side = side }) lim to r w1
        → PutsKey wd ids places target v lim k w to r w1
    unfolding key_place key_end
    key_put n d here count ids f a side s target v below r w1 b q =
        let z : n ≡ get_or w (p + 9) 0 = cc in
        let i = a.precedence.index in
        let j = a.assoc.index in
        let x1 = from_entry in
        let y1 = y in
        record { puts = rw (← b, ← s, ← x1, ← y1, ← z, ← i, ← j) q }

pub ruleset keyed = (rules, key_symbols, key_upto, key_whole, key_attributes_fit, key_put)

pub ruleset key_annotated = (rules, key_attributes)
