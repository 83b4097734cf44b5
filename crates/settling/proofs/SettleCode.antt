-- The ways out of settle. Assumes nothing.
use mathlib.Core.Path.{◌≡◌}
use mathlib.Core.List.{List}
use Prim.Native.Nat.{ℕ, ◌+◌, ◌-◌, ◌<◌, ◌≤◌}
use native.Mathlib.Omega.{arith}
use mir.Syntax.{w64}
use mir.Val.{Fits}
use borrow.Author.Rules.{rules}
use lib.ListN.{length}
use Rattle.texts.specs.declared.Map.{Map}
use Rattle.texts.specs.Table.{Growing, Grown, Spreading}
use Rattle.expander.specs.declared.Ground.{Ground}
use Rattle.expander.specs.Ground.{list_at, top_of}
use Rattle.expander.specs.Names.{described_by}
use Rattle.settling.specs.One.{TextReady, Written}
use Rattle.settling.specs.Settle.{Settling, Widens, Settles}
use Rattle.settling.proofs.SettleLaws.{Going, going_start, going_top}
use Rattle.settling.proofs.SettleSaid.{going_ready}
use Rattle.settling.proofs.SettleNext.{going_next}
use Rattle.settling.proofs.SettleGrow.{going_grow, going_done}
use Rattle.settling.proofs.WidenCode.{settled_spreading, settled_widened}

module _ (s w : List ℕ) (g : Ground) (n c end : ℕ) (h : Settling s w g n c end) where
  pub total_fits : Fits w64 (g.m.count + c)
  total_fits = record { fits = omega (arith, h.few) }

  module _ (i q : ℕ) (w1 : List ℕ) (x : Going s w g c end i q w1) where
    pub settle_same : length w1 ≡ length w
    settle_same = x.placed.long

    pub settle_ready : 0 < i → TextReady s w1 g (i - 1) q
    settle_ready l = going_ready s w g n c end h i q w1 x (i - 1) (omega arith)

    pub settle_next : 0 < i → (r : ℕ) (w2 : List ℕ) → Written s w1 g (i - 1) (described_by s w1 g (list_at w1 g (i - 1))) q r w2 → Going s w g c end (i - 1) r w2
    settle_next l r w2 k = going_next s w g n c end h i q w1 x (i - 1) (omega arith) r w2 k

    module _ (l : i ≤ 0) where
      last : Going s w g c end 0 q w1
      last = let z : i ≡ 0 = omega arith in rw z at x

      pub settle_grow : Growing s w1 g.m (g.m.count + c)
      settle_grow = going_grow s w g n c end h q w1 last

      grown : (m : Map) (w2 : List ℕ) → length w2 ≡ length w1 → Grown s w1 g.m (g.m.count + c) m w2 → Settles s w g c end (record { m = m; at = q }) w2
      grown m w2 k r = going_done s w g n c end h q w1 last m w2 k r

      upto : top_of g ≤ q
      upto = omega (arith, going_top s w g n c end h 0 q w1 last)

      pub settle_spreading : (m : Map) (w2 : List ℕ) → length w2 ≡ length w1 → Grown s w1 g.m (g.m.count + c) m w2 → Spreading s w2 m
      settle_spreading m w2 k r = settled_spreading s w g n c end h m q w2 (grown m w2 k r) upto

      pub settle_widened : (m : Map) (w2 : List ℕ) → length w2 ≡ length w1 → Grown s w1 g.m (g.m.count + c) m w2 → (m' : Map) (w3 : List ℕ) → Widens s w2 m m' w3 → Settles s w g c end (record { m = m'; at = q }) w3
      settle_widened m w2 k r m' w3 d = settled_widened s w g n c end h m q w2 (grown m w2 k r) upto m' w3 d

pub ruleset settling = (rules, total_fits, going_start, settle_same, settle_ready, settle_next, settle_grow, settle_spreading, settle_widened)
