-- The ways out of settle_names. Assumes nothing.
use mathlib.Core.Path.{◌≡◌}
use mathlib.Core.List.{List}
use Prim.Native.Nat.{ℕ, ◌-◌, ◌<◌, ◌≤◌}
use native.Mathlib.Omega.{arith}
use borrow.Author.Rules.{rules}
use lib.ListN.{length}
use Rattle.texts.specs.declared.Map.{Map}
use Rattle.precedence.specs.Names.{named_text}
use Rattle.levels.specs.Settle.{NameReady, NameSettled, SettlingNames, SettledNames}
use Rattle.levels.proofs.SettleLaws.{Going, going_start, going_ready}
use Rattle.levels.proofs.SettleNext.{going_next}
use Rattle.levels.proofs.SettleTable.{going_done}

module _ (s w : List ℕ) (m : Map) (n end : ℕ) (h : SettlingNames s w m n end) (k q : ℕ) (w1 : List ℕ) (x : Going s w m n end k q w1) where
  pub settle_same : length w1 ≡ length w
  settle_same = x.long

  pub settle_ready : m.count < k → NameReady s w1 m (k - 1) q
  settle_ready l = going_ready s w m n end h k q w1 x (k - 1) (omega arith) (omega arith)

  pub settle_next : m.count < k → (r : ℕ) (w2 : List ℕ) → NameSettled s w1 m (k - 1) (named_text s w1 m (k - 1)) q r w2 → Going s w m n end (k - 1) r w2
  settle_next l r w2 f = going_next s w m n end h k q w1 x (k - 1) (omega arith) (omega arith) r w2 f

  pub settle_last : k ≤ m.count → SettledNames s w m n end q w1
  settle_last l = let z : k ≡ m.count = omega (arith, x.from) in going_done s w m n end h q w1 (rw z at x)

pub ruleset settling = (rules, going_start, settle_same, settle_ready, settle_next, settle_last)
