-- What stays of a round's ground while new texts are written: texts from q up to `end`, and records behind those of the table. Assumes nothing.
use mathlib.Core.Path.{◌≡◌, refl, sym, ap, ◌∙◌}
use mathlib.Core.Bool.{Bool, true, false}
use mathlib.Core.Logic.{◌⊎◌, inl, inr}
use mathlib.Core.List.{List}
use Prim.Native.Nat.{ℕ, ◌+◌, ◌*◌, ◌/◌, ◌%◌, ◌<◌, ◌≤◌}
use native.Mathlib.Omega.{arith}
use borrow.Author.Tests.{eqb-true, eqb-false}
use lib.Dec.{eqb}
use lib.ListN.{length, get_or}
use Rattle.octets.specs.Plain.Numbers.{le_at}
use Rattle.parse_tree.specs.Plain.Tree.{Text}
use Rattle.texts.specs.Fields.{mark_at, hash_at, cell_at}
use Rattle.texts.specs.Forms.{stop}
use Rattle.texts.specs.Hash.{hash_of}
use Rattle.texts.specs.Table.{Above, texts}
use Rattle.texts.proofs.TableStays.{le_at-agree, above_lower}
use Rattle.replacing.specs.Prints.{sym_at, print_at}
use Rattle.replacing.specs.Sound.{Firm}
use Rattle.expander.specs.declared.Ground.{Ground}
use Rattle.expander.specs.Ground.{size_in, top_of, key_at, list_place, list_at, symbol_in, printed_at, KeyAt, Grounded}
use Rattle.expander.specs.Stage.{WroteOnly}
use Rattle.expander.specs.Names.{described_by}
use Rattle.expander.proofs.GroundLaws.{list_start, keys_slots, slots_top}
use Rattle.expander.proofs.NamedTexts.{described_even}
use Rattle.expander.proofs.HeldStays.{grounded_wrote, texts-wrote, table-wrote, above_wrote, said_wrote}
use Rattle.settling.specs.One.{Entry}
use Rattle.settling.proofs.OneCode.{described_odd}

-- from w to w' nothing changed but records from k on, up to the records of pushed symbols, and texts from q up to e
pub record PlacedText (g : Ground) (k q e : ℕ) (w w' : List ℕ) : Type 0 where
  pub long : length w' ≡ length w
  pub others : (j : ℕ) → (j < g.m.base + 24 * k) ⊎ ((g.keys ≤ j) × (j < q)) ⊎ (e ≤ j) → get_or w' j 0 ≡ get_or w j 0

module _ (s w w' : List ℕ) (g : Ground) (k q e : ℕ) (G : Grounded s w g) (behind : g.m.count ≤ k) (top : top_of g ≤ q) (items : g.end ≤ q) (above : Above s w g.m e) (p : PlacedText g k q e w w') where
  keys_top : g.keys ≤ top_of g
  keys_top = omega (arith, keys_slots s w g G, slots_top s w g G)

  wrote : WroteOnly g q e w w'
  wrote = record { long = p.long; others = λ j d. p.others j (go j d) }
    where
      go : (j : ℕ) → (j < list_place g 0) ⊎ ((top_of g ≤ j) × (j < q)) ⊎ (e ≤ j) → (j < g.m.base + 24 * k) ⊎ ((g.keys ≤ j) × (j < q)) ⊎ (e ≤ j)
      go j (inl d) = inl (omega (arith, list_start g))
      go j (inr (inl d)) = inr (inl (omega (arith, d.0, keys_top), d.1))
      go j (inr (inr d)) = inr (inr d)

  -- theorem: the ground
  pub placed_ground : Grounded s w' g
  placed_ground = grounded_wrote s w w' g q e e G top items (omega arith) above wrote

  -- theorem: the texts of the table, their cells, and that they stand behind
  pub placed_texts : texts s w' g.m ≡ texts s w g.m
  placed_texts = texts-wrote s w w' g q e e G top items (omega arith) above wrote

  pub placed_cells : (i : ℕ) → i < g.m.count → cell_at w' g.m.base i ≡ cell_at w g.m.base i
  placed_cells = (table-wrote s w w' g q e e G top items (omega arith) above wrote).cells

  pub placed_above : (z : ℕ) → z ≤ e → Above s w' g.m z
  placed_above z h = above_lower s w' g.m e z h (above_wrote s w w' g q e e G top items (omega arith) above wrote)

  -- theorem: the entries before them
  pub placed_list : (i : ℕ) → g.m.count + i < k → list_at w' g i ≡ list_at w g i
  placed_list i h = le_at-agree 8 w w' (list_place g i) (λ j a b. p.others j (inl (omega arith)))

  -- ---- pushed symbols
  field_same : (n b : ℕ) → g.keys ≤ b → b + n ≤ g.slots → le_at n w' b ≡ le_at n w b
  field_same n b h l = le_at-agree n w w' b (λ j x y. p.others j (inr (inl (omega arith, omega (arith, slots_top s w g G)))))

  module _ (i : ℕ) (h : i < size_in g / 9) where
    pub key_same : key_at w' g i ≡ key_at w g i
    unfolding key_at mark_at
    key_same = field_same 8 (g.keys + 24 * i) (omega arith) (omega (arith, G.fits))

    hash_same : hash_at w' g.keys i ≡ hash_at w g.keys i
    unfolding hash_at
    hash_same = field_same 4 (g.keys + 24 * i + 8) (omega arith) (omega (arith, G.fits))

    cell_same : cell_at w' g.keys i ≡ cell_at w g.keys i
    unfolding cell_at
    cell_same = field_same 4 (g.keys + 24 * i + 20) (omega arith) (omega (arith, G.fits))

  pub print-same : (a : ℕ) → printed_at s w' g a ≡ printed_at s w g a
  print-same a = said_wrote s w w' g q e e G top items (omega arith) above wrote (λ st ts. print_at false g.width.bytes st ts a ≡ printed_at s w g a) refl

  pub symbol_same : (a : ℕ) → symbol_in s w' g a ≡ symbol_in s w g a
  symbol_same a = said_wrote s w w' g q e e G top items (omega arith) above wrote (λ st ts. sym_at false g.width.bytes st ts a ≡ symbol_in s w g a) refl

  firm_same : (a : ℕ) → KeyAt s w g a → KeyAt s w' g a
  firm_same a f = said_wrote s w w' g q e e G top items (omega arith) above wrote (λ st ts. Firm false g.width.bytes st ts a) f

  key_print : (i : ℕ) → i < size_in g / 9 → printed_at s w' g (key_at w' g i) ≡ printed_at s w g (key_at w g i)
  key_print i h = ap (printed_at s w' g) (key_same i h) ∙ print-same (key_at w g i)

  -- ---- entries
  module _ (v : ℕ) (E : Entry s w g v) where
    -- theorem: an entry says a text as before
    pub placed_entry : Entry s w' g v
    placed_entry = record {
      room = E.room;
      key = λ z. rw (key_same (v / 2) (E.room z)) (firm_same (key_at w g (v / 2)) (E.key z));
      hash = λ z. hash_same (v / 2) (E.room z) ∙ E.hash z ∙ ap hash_of (sym (key_print (v / 2) (E.room z)));
      size = λ z. cell_same (v / 2) (E.room z) ∙ E.size z ∙ ap (λ (t : Text). stop (length t)) (sym (key_print (v / 2) (E.room z)));
      built = E.built;
    }

    -- theorem: and the same
    pub placed_text : described_by s w' g v ≡ described_by s w g v
    placed_text = go (eqb (v % 2) 0) refl
      where
        go : (b : Bool) → eqb (v % 2) 0 ≡ b → described_by s w' g v ≡ described_by s w g v
        go true z = let y = eqb-true (v % 2) 0 z in described_even s w' g v y ∙ key_print (v / 2) (E.room y) ∙ sym (described_even s w g v y)
        go false z = let y = eqb-false (v % 2) 0 z in described_odd s w' g v y ∙ sym (described_odd s w g v y)
