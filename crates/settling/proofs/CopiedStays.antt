-- What is known of the symbols of the stage stays while bytes are put behind it and before the texts. Assumes nothing.
use mathlib.Core.Path.{◌≡◌, sym, ap, ◌∙◌, subst}
use mathlib.Core.Bool.{Bool}
use mathlib.Core.Logic.{◌⊎◌, inl, inr}
use mathlib.Core.List.{List, [], ◌∷◌}
use Prim.Native.Nat.{ℕ, ◌+◌, ◌*◌, ◌/◌, ◌%◌, ◌<◌, ◌≤◌}
use native.Mathlib.Omega.{arith}
use lib.ListN.{length, get_or}
use Rattle.parse_tree.specs.Plain.Tree.{Text, Sym, Syms}
use Rattle.parse_tree.specs.Working.Within.{Each}
use Rattle.texts.specs.Fields.{mark_at}
use Rattle.texts.specs.Table.{texts}
use Rattle.texts.specs.Texts.{marked_text}
use Rattle.texts.proofs.TableStays.{le_at-agree, whole_agree, text_agree}
use Rattle.precedence.specs.Write.{Puts}
use Rattle.precedence.proofs.WriteLaws.{puts_beside}
use Rattle.expander.specs.declared.Ground.{Ground}
use Rattle.expander.specs.Ground.{size_in, top_of, slot_place, slot_at, key_at, printed_at}
use Rattle.expander.specs.Held.{followed}
use Rattle.expander.specs.Replace.{keys_of, keys_of_all, StandsAt, StandAt}
use Rattle.expander.proofs.GroundLaws.{keys_slots, slots_top}
use Rattle.expander.proofs.SlotsCode.{followed-kept}
use Rattle.settling.specs.declared.copied.Print.{Print}
use Rattle.settling.specs.Copied.{TextStands, Numbered, Said, Copying, SaidSymbol, SaidSymbols}
use Rattle.settling.proofs.PrintLaws.{next_on, printable_next, symbol_next, symbols_next}
use Rattle.settling.proofs.SettleStays.{PlacedText, placed_ground, placed_texts, key_same, print-same}

pub each_same : {P Q : ℕ → Type 0} (xs : List ℕ) → ((q : ℕ) → P q → Q q) → Each P xs → Each Q xs
each_same [] f h = tt
each_same (x ∷ xs) f h = (f x h.0, each_same xs f h.1)

-- a slot is inside the slots
pub slot_top : (g : Ground) (p : ℕ) → p + 9 ≤ size_in g → slot_place g p + 8 ≤ top_of g
unfolding top_of
slot_top g p h = omega arith

module _ (s w : List ℕ) (x : Print) (to : ℕ) (C : Copying s w x to) (bs : List ℕ) (r : ℕ) (w1 : List ℕ) (p : Puts w x.lim to bs r w1) where
  abbrev g : Ground
  g = x.g

  pub copied_on : to ≤ r
  copied_on = next_on s w g.m g.width.bytes x.lim to C.printable bs r w1 p

  placed : PlacedText g g.m.count to x.lim w w1
  placed = record { long = p.long; others = go }
    where
      go : (j : ℕ) → (j < g.m.base + 24 * g.m.count) ⊎ ((g.keys ≤ j) × (j < to)) ⊎ (x.lim ≤ j) → get_or w1 j 0 ≡ get_or w j 0
      go j (inl d) = puts_beside w w1 x.lim to bs r p j (inl (omega (arith, C.printable.records)))
      go j (inr (inl d)) = puts_beside w w1 x.lim to bs r p j (inl d.1)
      go j (inr (inr d)) = puts_beside w w1 x.lim to bs r p j (inr d)

  before : (n a : ℕ) → a + n ≤ to → (i : ℕ) → a ≤ i → i < a + n → get_or w1 i 0 ≡ get_or w i 0
  before n a h i k l = puts_beside w w1 x.lim to bs r p i (inl (omega arith))

  keys_to : g.keys ≤ to
  keys_to = omega (arith, C.top, keys_slots s w g C.ground, slots_top s w g C.ground)

  -- theorem: one may put on
  pub copying_next : Copying s w1 x r
  copying_next = record {
    ground = placed_ground s w w1 g g.m.count to x.lim C.ground (omega arith) C.top C.items C.printable.above placed;
    printable = printable_next s w g.m g.width.bytes x.lim to C.printable bs r w1 p;
    items = omega (arith, C.items, copied_on);
    top = omega (arith, C.top, copied_on);
    behind = rw p.long C.behind;
  }

  pub copied_texts : texts s w1 g.m ≡ texts s w g.m
  copied_texts = placed_texts s w w1 g g.m.count to x.lim C.ground (omega arith) C.top C.items C.printable.above placed

  -- theorem: a symbol prints as before
  pub copied_print : (q : ℕ) → printed_at s w1 g q ≡ printed_at s w g q
  copied_print q = print-same s w w1 g g.m.count to x.lim C.ground (omega arith) C.top C.items C.printable.above placed q

  -- ---- references
  slot_same : (q : ℕ) → q + 9 ≤ size_in g → slot_at w1 g q ≡ slot_at w g q
  slot_same q h = le_at-agree 8 w w1 (slot_place g q) (before 8 (slot_place g q) (omega (arith, slot_top g q h, C.top)))

  pushed-same : (j : ℕ) → j < size_in g / 9 → key_at w1 g j ≡ key_at w g j
  pushed-same j h = key_same s w w1 g g.m.count to x.lim C.ground (omega arith) C.top C.items C.printable.above placed j h

  module _ (q : ℕ) (h : Said s w x q) where
    abbrev v : ℕ
    v = slot_at w g q

    follow_same : followed w1 g (slot_at w1 g q) ≡ followed w g (slot_at w g q)
    follow_same = ap (followed w1 g) (slot_same q h.room) ∙ followed-kept w w1 g v (λ o. ap (slot_at w1 g) (pushed-same (v / 2) (h.pushed o)) ∙ slot_same (key_at w g (v / 2)) (h.place o))

  -- ---- texts
  module _ (k : ℕ) (t : TextStands s w x k) where
    mark_same : mark_at w1 g.m.base k ≡ mark_at w g.m.base k
    unfolding mark_at
    mark_same = le_at-agree 8 w w1 (g.m.base + 24 * k) (before 8 (g.m.base + 24 * k) (omega (arith, t.low, keys_to)))

    beyond : (d : ℕ) → x.lim ≤ d → d < length w → get_or w1 d 0 ≡ get_or w d 0
    beyond d a b = puts_beside w w1 x.lim to bs r p d (inr a)

    text_next : TextStands s w1 x k
    text_next = record {
      low = t.low;
      whole = rw mark_same (whole_agree s w w1 x.lim (mark_at w g.m.base k) p.long t.whole t.behind beyond);
      behind = rw mark_same t.behind;
    }

    text_same : marked_text s w1 (mark_at w1 g.m.base k) ≡ marked_text s w (mark_at w g.m.base k)
    text_same = ap (marked_text s w1) mark_same ∙ text_agree s w w1 x.lim (mark_at w g.m.base k) p.long t.whole t.behind beyond

  -- theorem: what is known of a symbol
  pub said_next : (q : ℕ) → Said s w x q → Said s w1 x q
  said_next q h =
      let a = slot_same q h.room in
      let f = follow_same q h in
      record {
        room = h.room;
        pushed = λ e. rw a (h.pushed (odd e));
        place = λ e. go e;
        stands = λ e n. subst (TextStands s w1 x) (sym (ap (λ (u : ℕ). u / 2) f)) (text_next _ (h.stands (old e) (was n)));
        is = λ e n. ap (λ (u : ℕ). marked_text s w1 (mark_at w1 g.m.base (u / 2))) f ∙ text_same _ (h.stands (old e) (was n)) ∙ h.is (old e) (was n) ∙ sym (copied_print q);
      }
    where
      odd : slot_at w1 g q % 2 ≡ 1 → slot_at w g q % 2 ≡ 1
      odd e = rw (slot_same q h.room) at e

      old : followed w1 g (slot_at w1 g q) % 2 ≡ 0 → followed w g (slot_at w g q) % 2 ≡ 0
      old e = rw (follow_same q h) at e

      was : Numbered x (followed w1 g (slot_at w1 g q) / 2) → Numbered x (followed w g (slot_at w g q) / 2)
      was n = rw (follow_same q h) at n

      go : slot_at w1 g q % 2 ≡ 1 → key_at w1 g (slot_at w1 g q / 2) + 9 ≤ size_in g
      go e = rw (slot_same q h.room, pushed-same (slot_at w g q / 2) (h.pushed (odd e))) (h.place (odd e))

  -- ---- symbols that stand
  stage_to : (e : ℕ) → e ≤ size_in g → g.from + e ≤ to
  unfolding size_in
  stage_to e h = let o = C.ground.ordered in omega (arith, C.items)

  pub stands_next : (four : Bool) (left a e : ℕ) (y : Sym) → e ≤ size_in g → StandsAt s w g four left a e y → StandsAt s w1 g four left a e y
  stands_next four left a e y h st = symbol_next s w g.m g.width.bytes x.lim to C.printable bs r w1 p four left (g.from + a) (g.from + e) y (stage_to e h) st

  pub stand_next : (four : Bool) (left a e : ℕ) (ys : Syms) → e ≤ size_in g → StandAt s w g four left a e ys → StandAt s w1 g four left a e ys
  stand_next four left a e ys h st = symbols_next s w g.m g.width.bytes x.lim to C.printable bs r w1 p four left (g.from + a) (g.from + e) ys (stage_to e h) st

  pub symbol_said : (left a : ℕ) → SaidSymbol s w x left a → SaidSymbol s w1 x left a
  symbol_said left a h = record {
    four = h.four;
    end = h.end;
    symbol = h.symbol;
    levels = h.levels;
    stands = stands_next h.four left a h.end h.symbol h.inside h.stands;
    inside = h.inside;
    said = each_same (keys_of g.width.bytes (texts s w1 g.m) h.symbol a) said_next (subst (λ (ts : List Text). Each (Said s w x) (keys_of g.width.bytes ts h.symbol a)) (sym copied_texts) h.said);
  }

  pub symbols_said : (n left a : ℕ) → SaidSymbols s w x n left a → SaidSymbols s w1 x n left a
  symbols_said n left a h = record {
    four = h.four;
    end = h.end;
    symbols = h.symbols;
    many = h.many;
    levels = h.levels;
    stand = stand_next h.four left a h.end h.symbols h.inside h.stand;
    inside = h.inside;
    said = each_same (keys_of_all g.width.bytes (texts s w1 g.m) h.symbols a) said_next (subst (λ (ts : List Text). Each (Said s w x) (keys_of_all g.width.bytes ts h.symbols a)) (sym copied_texts) h.said);
  }
