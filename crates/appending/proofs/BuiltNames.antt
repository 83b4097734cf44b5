-- The names where words of built-in texts change and texts may be listed: as they were, with the texts that are new. Assumes nothing.
use mathlib.Core.Path.{◌≡◌, ap, ◌∙◌}
use mathlib.Core.Bool.{true, false}
use mathlib.Core.Logic.{◌⊎◌, inl, inr}
use mathlib.Core.List.{List, ◌++◌}
use Prim.Native.Nat.{ℕ, ◌-◌, ◌/◌, ◌%◌, ◌<◌, ◌≤◌}
use native.Mathlib.Omega.{arith}
use lib.ListN.{length, get_or}
use Rattle.parse_tree.specs.Plain.Tree.{Text}
use Rattle.parse_tree.specs.Plain.Texts.{has, distinct}
use Rattle.texts.proofs.TableStays.{le_at-agree}
use Rattle.expander.specs.declared.Ground.{Ground}
use Rattle.expander.specs.Ground.{top_of, slot_place, slot_at, key_at, list_place, list_at, printed_at, Grounded, Around}
use Rattle.expander.specs.Names.{named_in, Names}
use Rattle.expander.proofs.GroundLaws.{slots_top, stage_around, texts-around, printed_around}
use Rattle.appending.specs.Built.{Built}
use Rattle.expander.proofs.NamesStay.{named_stay, names_then}
use Rattle.appending.proofs.BuiltGround.{key_kept, records_kept}

-- from w to w' nothing changed but the list of new texts from its c-th entry on and the words
pub record Worded (g : Ground) (c : ℕ) (w w' : List ℕ) : Type 0 where
  pub long : length w' ≡ length w
  pub others : (i : ℕ) → (i < list_place g c) ⊎ ((g.keys ≤ i) × (i < g.slots - 72)) ⊎ (g.slots ≤ i) → get_or w' i 0 ≡ get_or w i 0

module _ (s w w' : List ℕ) (g : Ground) (n c : ℕ) (ps : List ℕ) (e : Grounded s w g) (h : Names s w g n c ps) (b : Built s w g n c) (k : Worded g c w w') where
  list_up : list_place g 0 ≤ list_place g c
  list_up = omega arith

  pub around : Around g w w'
  around = record { long = k.long; others = λ i d. k.others i (go i d) }
    where
      go : (i : ℕ) → (i < list_place g 0) ⊎ (top_of g ≤ i) → (i < list_place g c) ⊎ ((g.keys ≤ i) × (i < g.slots - 72)) ⊎ (g.slots ≤ i)
      go i (inl l) = inl (omega (arith, list_up))
      go i (inr l) = inr (inr (omega (arith, slots_top s w g e)))

  kept : (i : ℕ) → g.keys ≤ i → i < g.slots - 72 → get_or w' i 0 ≡ get_or w i 0
  kept i x y = k.others i (inr (inl (x, y)))

  pub key_same : (j : ℕ) → j < n → key_at w' g j ≡ key_at w g j
  key_same = key_kept w w' g n e.fits b.room kept

  pub key_print : (j : ℕ) → j < n → printed_at s w' g (key_at w' g j) ≡ printed_at s w g (key_at w g j)
  key_print j l = ap (printed_at s w' g) (key_same j l) ∙ printed_around s w w' g e around (key_at w g j)

  slot_same : (p : ℕ) → slot_at w' g p ≡ slot_at w g p
  slot_same p = le_at-agree 8 w w' (slot_place g p) (λ a x y. k.others a (inr (inr (omega arith))))

  pub list_same : (i : ℕ) → i < c → list_at w' g i ≡ list_at w g i
  list_same i l = le_at-agree 8 w w' (list_place g i) (λ a x y. k.others a (inl (omega arith)))

  print-same : (p : ℕ) → printed_at s w' g p ≡ printed_at s w g p
  print-same = printed_around s w w' g e around

  pub named-kept : named_in s w' g c ≡ named_in s w g c
  named-kept = named_stay s w w' g n c ps h key_same (λ p i. slot_same p) print-same (texts-around s w w' g e around) list_same

  -- ---- the texts us are new, none of which is a pushed symbol's print
  module _ (c' : ℕ) (us : List Text) (more : c ≤ c') (room : list_place g c' ≤ g.keys) (named : named_in s w' g c' ≡ named_in s w g c ++ us) (apart : distinct (named_in s w' g c') ≡ true)
      (entries : (i : ℕ) → i < c' → (list_at w' g i % 2 ≡ 0 → list_at w' g i / 2 < n) × (list_at w' g i % 2 ≡ 1 → list_at w' g i / 2 < 9))
      (other : (j : ℕ) → j < n → has (printed_at s w g (key_at w g j)) us ≡ false) where
    -- theorem: the names then
    pub named_then : Names s w' g n c' ps
    named_then =
        names_then s w w' g n c ps h key_same (λ p i. slot_same p) print-same c' us more named apart other room entries
        (records_kept w w' g n e.fits b.room kept s b.heads (stage_around s w w' g e around) (texts-around s w w' g e around) h.records)
