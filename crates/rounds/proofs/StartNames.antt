-- What stays where the nine words of built-in texts are cleared: the ground, the places of pushed symbols, the texts by number and the names. Assumes nothing.
use mathlib.Core.Path.{◌≡◌}
use mathlib.Core.Logic.{◌⊎◌, inl, inr}
use mathlib.Core.List.{List}
use Prim.Native.Nat.{ℕ, ◌+◌, ◌-◌, ◌/◌, ◌<◌, ◌≤◌}
use native.Mathlib.Omega.{arith}
use lib.ListN.{get_or}
use Rattle.texts.proofs.TableStays.{le_at-agree}
use Rattle.expander.specs.declared.Ground.{Ground}
use Rattle.expander.specs.Ground.{size_in, top_of, slot_place, slot_at, key_at, list_place, list_at, printed_at, Grounded, Around}
use Rattle.expander.specs.Held.{down}
use Rattle.expander.specs.Names.{named_in, Names}
use Rattle.expander.proofs.GroundLaws.{list_keys, slots_top, stage_around, texts-around, printed_around}
use Rattle.expander.proofs.HeldLists.{down-same}
use Rattle.expander.proofs.NamesStay.{named_stay, names_stay}
use Rattle.appending.proofs.BuiltGround.{key_kept, records_kept}
use Rattle.rounds.specs.Start.{Cleared}

-- n symbols were pushed; the words are bytes of records of none of them, where no bucket has its head
module _ (s w w' : List ℕ) (g : Ground) (n : ℕ) (e : Grounded s w g) (room : n + 3 ≤ size_in g / 9) (heads : g.buckets + 3 ≤ size_in g / 9) (k : Cleared g.slots w w') where
  pub cleared_around : Around g w w'
  cleared_around = record { long = k.long; others = λ i d. k.others i (go i d) }
    where
      go : (i : ℕ) → (i < list_place g 0) ⊎ (top_of g ≤ i) → (i < g.slots - 72) ⊎ (g.slots ≤ i)
      go i (inl l) = inl (omega (arith, list_keys s w g e, e.fits))
      go i (inr l) = inr (omega (arith, slots_top s w g e))

  kept : (i : ℕ) → g.keys ≤ i → i < g.slots - 72 → get_or w' i 0 ≡ get_or w i 0
  kept i x y = k.others i (inl y)

  pub key_same : (j : ℕ) → j < n → key_at w' g j ≡ key_at w g j
  key_same = key_kept w w' g n e.fits room kept

  pub pile_same : down (key_at w' g) n ≡ down (key_at w g) n
  pile_same = down-same (key_at w' g) (key_at w g) n key_same

  print-same : (p : ℕ) → printed_at s w' g p ≡ printed_at s w g p
  print-same = printed_around s w w' g e cleared_around

  slot_same : (p : ℕ) → slot_at w' g p ≡ slot_at w g p
  slot_same p = le_at-agree 8 w w' (slot_place g p) (λ a x y. k.others a (inr (omega arith)))

  module _ (c : ℕ) (ps : List ℕ) (h : Names s w g n c ps) where
    pub list_same : (i : ℕ) → i < c → list_at w' g i ≡ list_at w g i
    list_same i l = le_at-agree 8 w w' (list_place g i) (λ a x y. k.others a (inl (omega (arith, h.room, e.fits))))

    -- theorem: the texts by number
    pub named-cleared : named_in s w' g c ≡ named_in s w g c
    named-cleared = named_stay s w w' g n c ps h key_same (λ p i. slot_same p) print-same (texts-around s w w' g e cleared_around) list_same

    -- theorem: and the names
    pub names_cleared : Names s w' g n c ps
    names_cleared =
        names_stay s w w' g n c ps h key_same (λ p i. slot_same p) print-same (texts-around s w w' g e cleared_around) list_same
        (records_kept w w' g n e.fits room kept s heads (stage_around s w w' g e cleared_around) (texts-around s w w' g e cleared_around) h.records)
