-- What stays of a round's ground where bytes change in the list of new texts, the records of pushed symbols and the slots only. Assumes nothing.
use mathlib.Core.Path.{◌≡◌, refl, sym, ap, ◌∙◌, subst}
use mathlib.Core.Bool.{false}
use mathlib.Core.Logic.{◌⊎◌, inl, inr}
use mathlib.Core.List.{List}
use Prim.Native.Nat.{ℕ, ◌+◌, ◌*◌, ◌≤◌, ◌<◌}
use native.Mathlib.Omega.{arith}
use lib.Dec.{leb}
use lib.ListN.{length, get_or}
use Rattle.parse_tree.specs.Plain.Tree.{Text}
use Rattle.parse_tree.specs.Plain.Texts.{distinct}
use Rattle.passes.specs.Macros.{MacroExpander}
use Rattle.texts.specs.Table.{Stays, texts}
use Rattle.texts.proofs.TableStays.{part-agree, stays, above_stays}
use Rattle.resolve.specs.Whole.{Apart}
use Rattle.replacing.specs.Prints.{sym_at, print_at}
use Rattle.replacing.specs.Slots.{Slots}
use Rattle.replacing.specs.Sound.{Firm, Sound}
use Rattle.expander.specs.declared.Ground.{Ground}
use Rattle.expander.specs.Ground.{stage_in, top_of, list_place, pushed_text, symbol_in, printed_at, KeyAt, Grounded, KeptAround, Around}
use Rattle.expander.specs.Held.{Listed}

-- ---- where the regions stand
pub list_start : (g : Ground) → list_place g 0 ≡ g.m.base + 24 * g.m.count
list_start g = omega arith

module _ (s w : List ℕ) (g : Ground) (h : Grounded s w g) where
  pub keys_slots : g.keys ≤ g.slots
  keys_slots = omega (arith, h.fits)

  pub slots_top : g.slots ≤ top_of g
  unfolding top_of
  slots_top = omega arith

  pub list_keys : list_place g 0 ≤ g.keys
  list_keys = rw (list_start g) h.records

  -- theorem: noting changes nothing around
  pub kept-around : (w' : List ℕ) → KeptAround g w w' → Around g w w'
  kept-around w' k = record { long = k.long; others = λ i d. k.others i (go i d) }
    where
      go : (i : ℕ) → (i < list_place g 0) ⊎ (top_of g ≤ i) → (i < g.keys) ⊎ (top_of g ≤ i)
      go i (inl p) = inl (omega (arith, list_keys))
      go i (inr p) = inr p

  -- theorem: nor does numbering
  pub listed-around : (w' : List ℕ) → Listed g w w' → Around g w w'
  listed-around w' k = record { long = k.long; others = λ i d. k.others i (go i d) }
    where
      go : (i : ℕ) → (i < list_place g 0) ⊎ (top_of g ≤ i) → (i < list_place g 0) ⊎ ((g.keys ≤ i) × (i < g.slots)) ⊎ (top_of g ≤ i)
      go i (inl p) = inl p
      go i (inr p) = inr (inr p)

-- theorem: the ground stays with the table
pub grounded_stays : (s w w' : List ℕ) (g : Ground) → Grounded s w g → length w' ≡ length w → Stays s w g.m w' g.m → Grounded s w' g
grounded_stays s w w' g h long t = record {
  table = t.table;
  some = h.some;
  distinct-texts = ap distinct t.same ∙ h.distinct-texts;
  narrow = h.narrow;
  wide = h.wide;
  ordered = h.ordered;
  inside = rw long h.inside;
  records = h.records;
  heads = h.heads;
  narrower = h.narrower;
  above = above_stays s w g.m w' g.m (top_of g) t h.above;
  off = h.off;
  fits = h.fits;
  top = rw long h.top;
  filled = h.filled;
  few = h.few;
  linkable = h.linkable;
  short = rw long h.short;
}

-- ---- what stays
module _ (s w w' : List ℕ) (g : Ground) (h : Grounded s w g) (a : Around g w w') where
  -- theorem: the items
  pub stage_around : stage_in w' g ≡ stage_in w g
  unfolding stage_in
  stage_around = part-agree w w' g.from g.end a.long h.inside (go h.off)
    where
      go : Apart g.from g.end g.m.base (top_of g) → (i : ℕ) → g.from ≤ i → i < g.end → get_or w' i 0 ≡ get_or w i 0
      go (inl p) i x y = a.others i (inl (omega (arith, list_start g)))
      go (inr p) i x y = a.others i (inr (omega arith))

  -- theorem: the table
  pub table-around : Stays s w g.m w' g.m
  table-around =
      let n = h.narrower in
      stays s w w' g.m (top_of g) h.table h.above a.long
      (record { agree = λ i x y. a.others i (inr x) })
      (record { agree = λ i x y. a.others i (inl (omega (arith, list_start g))) })
      (record { agree = λ i x y. a.others i (inl (omega (arith, list_start g))) })

  pub texts-around : texts s w' g.m ≡ texts s w g.m
  texts-around = table-around.same

  pub pushed-around : (k : ℕ) → k < g.m.count → pushed_text w' g k ≡ pushed_text w g k
  unfolding pushed_text
  pushed-around k i = ap (leb 2147483648) (table-around.cells k i)

  -- theorem: the ground
  pub grounded_around : Grounded s w' g
  grounded_around = grounded_stays s w w' g h a.long table-around

  -- ---- and so the symbols by their places
  -- what is said of the items and the texts
  pub said_around : (P : List ℕ → List Text → Type 0) → P (stage_in w g) (texts s w g.m) → P (stage_in w' g) (texts s w' g.m)
  said_around P x = subst (λ (ts : List Text). P (stage_in w' g) ts) (sym texts-around) (subst (λ (st : List ℕ). P st (texts s w g.m)) (sym stage_around) x)

  pub printed_around : (p : ℕ) → printed_at s w' g p ≡ printed_at s w g p
  printed_around p = said_around (λ st ts. print_at false g.width.bytes st ts p ≡ printed_at s w g p) refl

  pub key_around : (p : ℕ) → KeyAt s w g p → KeyAt s w' g p
  key_around p k = said_around (λ st ts. Firm false g.width.bytes st ts p) k

  pub sound_around : (x : Slots) (σ : MacroExpander) → Sound (symbol_in s w g) (KeyAt s w g) (texts s w g.m) x σ → Sound (symbol_in s w' g) (KeyAt s w' g) (texts s w' g.m) x σ
  sound_around x σ k = said_around (λ st ts. Sound (λ p. sym_at false g.width.bytes st ts p) (λ p. Firm false g.width.bytes st ts p) ts x σ) k
