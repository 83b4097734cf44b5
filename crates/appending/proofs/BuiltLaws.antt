-- Laws of the numbers of built-in texts: what `number` of expander gives. Assumes nothing.
use mathlib.Core.Path.{◌≡◌, refl, sym, ap, ◌∙◌}
use mathlib.Core.Bool.{Bool, true, false, false≢true}
use mathlib.Core.Logic.{◌⊎◌, inl, inr}
use mathlib.Core.List.{List}
use Prim.Native.Nat.{ℕ, ◌/◌, ◌%◌, ◌<◌, ◌≤◌}
use native.Mathlib.Omega.{arith}
use borrow.Author.Tests.{eqb-true, eqb-false}
use lib.Dec.{eqb}
use lib.ListN.{length, get_or}
use Rattle.octets.specs.Plain.Runs.{same_as}
use Rattle.parse_tree.specs.Plain.Tree.{Text}
use Rattle.parse_tree.specs.Plain.Texts.{has, number, distinct}
use Rattle.parse_tree.proofs.TextLaws.{has-text, number-text}
use Rattle.texts.proofs.TableStays.{le_at-agree}
use Rattle.laws.specs.Keys.{built_ins}
use Rattle.replacing.specs.Slots.{among}
use Rattle.expander.specs.declared.Ground.{Ground}
use Rattle.expander.specs.declared.slots.Numbered.{Numbered}
use Rattle.expander.specs.Ground.{slot_at, key_at, printed_at, Grounded, Around}
use Rattle.expander.specs.Held.{followed}
use Rattle.expander.specs.Names.{named_in, Names, NamedBy}
use Rattle.expander.proofs.GroundLaws.{listed-around, texts-around, printed_around}
use Rattle.appending.specs.Built.{built_text, built_place, built_at, BuiltIs, BuiltNot, Built, Gives}
use Rattle.expander.proofs.SlotsCode.{odd_one}
use Rattle.appending.proofs.BuiltGround.{key_kept}
use Rattle.appending.proofs.BuiltStays.{is_stays, not_stays}

-- ---- the nine texts
nine : length built_ins ≡ 9
unfolding built_ins
nine = refl

built_apart : distinct built_ins ≡ true
unfolding built_ins distinct has same_as
built_apart = refl

pub built_has : (i : ℕ) → i < 9 → has (built_text i) built_ins ≡ true
unfolding built_text
built_has i l = has-text built_ins i (omega (arith, nine))

-- no two are equal
pub built_one : (i j : ℕ) → i < 9 → j < 9 → built_text i ≡ built_text j → i ≡ j
unfolding built_text
built_one i j a b e = sym (number-text built_ins i built_apart (omega (arith, nine))) ∙ ap (number built_ins) e ∙ number-text built_ins j built_apart (omega (arith, nine))

-- ---- a symbol's text is numbered
module _ (s w : List ℕ) (g : Ground) (n c p : ℕ) (ps : List ℕ) (r : Numbered) (w' : List ℕ) (e : Grounded s w g) (h : Names s w g n c ps) (b : Built s w g n c) (a : among p ps ≡ true)
    (k : NamedBy s w g n c p ps r w') where
  around : Around g w w'
  around = listed-around s w g e w' k.changed

  kept : (i : ℕ) → g.keys ≤ i → i < g.slots → get_or w' i 0 ≡ get_or w i 0
  kept i x y = k.changed.others i (inr (inl (x, y)))

  key_same : (j : ℕ) → j < n → key_at w' g j ≡ key_at w g j
  key_same j l = key_kept w w' g n e.fits b.room (λ i x y. kept i x (omega arith)) j l

  word_same : (i : ℕ) → i < 9 → built_at w' g i ≡ built_at w g i
  word_same i l = le_at-agree 8 w w' (built_place g i) (λ q x y. kept q (omega (arith, e.fits, b.room)) (omega (arith, e.fits, b.room)))

  -- a new one is the print of a pushed symbol, so no built-in text
  other : (i : ℕ) → i < 9 → has (printed_at s w g p) (named_in s w g c) ≡ false → printed_at s w g p ≡ built_text i → ⊥
  other i l z y = go (eqb (followed w g (slot_at w g p) % 2) 0) refl
    where
      go : (d : Bool) → eqb (followed w g (slot_at w g p) % 2) 0 ≡ d → ⊥
      go true d =
          let (u, v) = (h.refs p a).even (eqb-true (followed w g (slot_at w g p) % 2) 0 d) in
          false≢true (sym z ∙ ap (λ (t : Text). has t (named_in s w g c)) (sym v) ∙ has-text (named_in s w g c) (followed w g (slot_at w g p) / 2) u)
      go false d =
          let (u, v, x) = (h.refs p a).odd (odd_one (followed w g (slot_at w g p)) (eqb-false (followed w g (slot_at w g p) % 2) 0 d)) in
          false≢true (sym (b.other (followed w g (slot_at w g p) / 2) u) ∙ ap (λ (t : Text). has t built_ins) (v ∙ y) ∙ built_has i l)

  new_built : Built s w' g n r.count
  new_built = record {
    room = b.room;
    heads = b.heads;
    list = b.list;
    other = λ j l. ap (λ (q : ℕ). has (printed_at s w' g q) built_ins) (key_same j l) ∙ ap (λ (t : Text). has t built_ins) (printed_around s w w' g e around (key_at w g j)) ∙ b.other j l;
    words = λ i l. go i l (b.words i l);
  }
    where
      go : (i : ℕ) → i < 9 → BuiltNot s w g c i ⊎ ((q : ℕ) × BuiltIs s w g c i q) → BuiltNot s w' g r.count i ⊎ ((q : ℕ) × BuiltIs s w' g r.count i q)
      go i l (inl x) = inl (not_stays s w w' g c r.count (printed_at s w g p) (texts-around s w w' g e around) k.texts-are i (word_same i l) (other i l) x)
      go i l (inr (q, x)) = inr (q, is_stays s w w' g c r.count (printed_at s w g p) (texts-around s w w' g e around) k.texts-are i q (word_same i l) x)

  -- theorem: what `number` of expander gives
  pub number-gives : Gives s w g n c ps (printed_at s w g p) r w'
  number-gives = record { is = k.is; texts-are = k.texts-are; names = k.names; built = new_built; pile = key_same; around = around }
