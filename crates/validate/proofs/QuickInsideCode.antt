-- The look at what stands inside a symbol: one law for each way out. Assumes nothing.
use mathlib.Core.Path.{◌≡◌, refl, sym}
use mathlib.Core.Bool.{Bool, true, false, ◌&&◌}
use mathlib.Core.List.{List}
use Prim.Native.Nat.{ℕ, ◌+◌, ◌-◌, ◌<◌, ◌≤◌}
use native.Mathlib.Omega.{arith}
use borrow.Author.Rules.{rules}
use lib.ListN.{length, get_or}
use Rattle.octets.specs.Working.Choice.{pick}
use Rattle.octets.specs.Plain.Numbers.{le_at}
use Rattle.parse_tree.specs.Working.Nodes.{named_leaf}
use Rattle.parse_tree.specs.Working.Questions.{leaf_defined, leaf_suits}
use Rattle.parse_tree.specs.Plain.Reading.{times}
use Rattle.parse_tree.specs.Working.Decode.{read_sym}
use Rattle.parse_tree.proofs.NestedCode.{at-low}
use Rattle.texts.specs.Atoms.{atoms_of}
use Rattle.validate.specs.Steps.{step_of}
use Rattle.validate.specs.Quick.{QuickPassed, QuickInside}
use Rattle.validate.specs.declared.Atoms.{Atoms}
use Rattle.std.specs.Prelude.{Option, Some, IfSome, Ok}
use Rattle.std.specs.Bool.{then_some}
use Rattle.validate.proofs.QuickCode.{quick_yes, quick_next}
use Rattle.validate.proofs.PassesCode.{passes-named}

pub inside-none : (s : List ℕ) (m : Atoms) (left n at : ℕ) → n ≡ 0 → QuickInside s m left n at at
unfolding times step_of
inside-none s m left n at e = record { passed = rw e }

module _ (s : List ℕ) (m : Atoms) (left n at c : ℕ) (e : c ≡ get_or s at 0) where
  -- one leaf is read
  one_leaf : (k : ℕ) → (left ≡ 0 → ⊥) → at < length s → 10 + m.width.bytes ≤ length s - at → 32 ≤ c → c ≤ 36 → k ≡ le_at m.width.bytes s (at + 9)
      → true ≡ (leaf_defined m.texts.count (named_leaf c k) && pick m.four (leaf_suits (atoms_of s m.texts.count) (named_leaf c k)) true)
      → Ok (at + (9 + m.width.bytes)) ≡ step_of (times (read_sym m.four m.width.bytes s (atoms_of s m.texts.count) left) 1 at)
  unfolding pick times step_of
  one_leaf k d h room l u i p =
      let inside : at + (10 + m.width.bytes) ≤ length s = omega arith in
      let q : QuickPassed s m left at (at + (9 + m.width.bytes)) = quick_yes s m left at c (9 + m.width.bytes) e (passes-named s m c at inside k (Some (9 + m.width.bytes)) true (omega arith) i p refl) d h room l (omega arith) in
      quick_next s m left at (at + (9 + m.width.bytes)) q 0 (at-low m.width.bytes s at c e (omega arith)) 1 _ refl refl 0 (omega arith)

  pub inside-leaf : (k : ℕ) (r : Option ℕ) (b : Bool) → (n ≡ 0 → ⊥) → n ≤ 1 → (left ≡ 0 → ⊥) → at < length s → 10 + m.width.bytes ≤ length s - at → 32 ≤ c → c ≤ 36 → k ≡ le_at m.width.bytes s (at + 9)
      → b ≡ (leaf_defined m.texts.count (named_leaf c k) && pick m.four (leaf_suits (atoms_of s m.texts.count) (named_leaf c k)) true) → r ≡ then_some b (at + (9 + m.width.bytes)) → IfSome r (QuickInside s m left n at)
  inside-leaf k r true f o d h room l u i p q =
      let one : n ≡ 1 = omega arith in
      rw (one, q) (record { passed = sym (one_leaf k d h room l u i p) })
  inside-leaf k r false f o d h room l u i p q = rw q tt

pub ruleset insiding = (rules, inside-none, inside-leaf)
