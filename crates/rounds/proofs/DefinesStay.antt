-- The definitions of macros stay: where a round writes beside them, and where more texts are known. Assumes nothing.
use mathlib.Core.Path.{◌≡◌, refl, sym, ap, ◌∙◌, subst}
use mathlib.Core.Bool.{Bool, true, false}
use mathlib.Core.Logic.{◌⊎◌, inl, inr}
use mathlib.Core.List.{List, [], ◌∷◌, ◌++◌, append-nil}
use mathlib.Core.Option.{Option, none, some}
use Prim.Native.Nat.{ℕ, zero, suc, ◌+◌, ◌*◌, ◌%◌, ◌≤◌, ◌<◌}
use native.Mathlib.Omega.{arith}
use lib.ListN.{length, get_or}
use Rattle.octets.specs.Plain.Runs.{Lies}
use Rattle.parse_tree.specs.Plain.Tree.{Text, Leaf, Around, Over, Sym, Syms, Action, Attribute, Condition, Alternative, Item, ambiguous, bare, quoted, regex, nonterminal, lookahead, lookbehind, error, repeat, choose, name, macro, group, leaf, around, over, nil, cons, no_action, user, fallible, lookahead_action, lookbehind_action, item, count, conditions}
use Rattle.parse_tree.specs.Plain.Texts.{is_name, is_literal, is_ascii, has, number}
use Rattle.parse_tree.specs.Working.Encode.{item_bytes}
use Rattle.parse_tree.specs.Working.Within.{Each, Uses, LeafWithin, AroundWithin, OverWithin, SymWithin, SymsWithin, ActionWithin, ArgumentWithin, ConditionWithin, AlternativeWithin, ItemWithin}
use Rattle.parse_tree.proofs.ReadingLaws.{each_map}
use Rattle.texts.specs.declared.Map.{Map}
use Rattle.texts.specs.Fields.{cell_at}
use Rattle.texts.specs.Table.{texts}
use Rattle.texts.proofs.TableStays.{le_at-agree}
use Rattle.passes.specs.Outcome.{Tree}
use Rattle.resolve.specs.declared.Grammar.{Grammar}
use Rattle.resolve.specs.Items.{item_place_in, Row}
use Rattle.resolve.proofs.GrammarLaws.{row_same}
use Rattle.replacing.proofs.NumbersMean.{number_behind}
use Rattle.replacing.proofs.Growing.{Extends, extends_has, extends_number}
use Rattle.replacing.proofs.ThereBytes.{there_bytes}
use Rattle.expander.specs.declared.Ground.{Ground}
use Rattle.expander.specs.Ground.{top_of, list_place}
use Rattle.expander.specs.Stage.{WroteOnly}
use Rattle.expander.proofs.GroundLaws.{list_start}
use Rattle.appending.specs.declared.Appended.{Appended}
use Rattle.macro_expand.specs.Drain.{Declares}
use Rattle.rounds.specs.declared.Room.{Room}
use Rattle.rounds.specs.declared.State.{State}
use Rattle.rounds.specs.Paid.{TreeKnown}
use Rattle.rounds.specs.Standing.{RoundTrees, round_atoms, DefinesMacros, RoundStands}

-- ---- where a round writes
module _ (s w w' : List ℕ) (room : Room) (t : Grammar) (z : State) (T : RoundTrees) (S : RoundStands s w room t z T) (g : Ground) (a e : ℕ) (wrote : WroteOnly g a e w w')
    (map : g.m ≡ z.m) (width : g.width.bytes ≡ 2) (top : top_of g ≡ room.x) (before : room.y ≤ a) (same : texts s w' g.m ≡ round_atoms T) where
  abbrev ts : List Text
  ts = round_atoms T

  base_is : g.m.base ≡ z.m.base
  base_is = ap (λ (q : Map). q.base) map

  count-is : g.m.count ≡ z.m.count
  count-is = ap (λ (q : Map). q.count) map

  base_below : z.m.base ≤ room.y
  base_below = omega (arith, S.map.base_is, S.map.tape, S.map.x_is, S.map.y_is)

  below-same : (i : ℕ) → i < z.m.base + 24 * z.m.count → get_or w' i 0 ≡ get_or w i 0
  below-same i h = wrote.others i (inl (omega (arith, list_start g, base_is, count-is)))

  end_below : t.end ≤ room.y
  end_below = go S.defines.off
    where
      go : (t.end ≤ z.m.base) ⊎ ((room.x + room.cap ≤ t.at) × (t.end ≤ room.y)) → t.end ≤ room.y
      go (inl x) = omega (arith, base_below)
      go (inr x) = x.1

  byte_same : (i : ℕ) → t.at ≤ i → i < t.end → get_or w' i 0 ≡ get_or w i 0
  byte_same i j k = go S.defines.off
    where
      go : (t.end ≤ z.m.base) ⊎ ((room.x + room.cap ≤ t.at) × (t.end ≤ room.y)) → get_or w' i 0 ≡ get_or w i 0
      go (inl x) = below-same i (omega arith)
      go (inr x) = wrote.others i (inr (inl (omega (arith, x.0, top), omega (arith, x.1, before))))

  row_now : Row t ts w' 0 t.at T.definitions
  row_now = row_same t ts w w' wrote.long (omega (arith, end_below, S.map.end_is, S.map.inside)) (λ i j k. below-same i (omega (arith, S.defines.list))) 0 t.at T.definitions byte_same S.defines.row

  off_now : (n : ℕ) → room.y ≤ n → (t.end ≤ list_place g 0) ⊎ ((top_of g ≤ t.at) × (t.end ≤ n))
  off_now n h = go S.defines.off
    where
      go : (t.end ≤ z.m.base) ⊎ ((room.x + room.cap ≤ t.at) × (t.end ≤ room.y)) → (t.end ≤ list_place g 0) ⊎ ((top_of g ≤ t.at) × (t.end ≤ n))
      go (inl x) = inl (omega (arith, list_start g, base_is))
      go (inr x) = inr (omega (arith, x.0, top), omega (arith, x.1))

  cell_same : (k : ℕ) → k < z.m.count → cell_at w' g.m.base k ≡ cell_at w z.m.base k
  unfolding cell_at
  cell_same k h = rw base_is (le_at-agree 4 w w' (z.m.base + 24 * k + 20) (λ i p q. below-same i (omega arith)))

  -- theorem: the definitions stand where appending begins
  pub declares_now : (v : Appended) → room.y ≤ v.to → room.y + 16 ≤ length w → Declares s w' g t v false T.definitions
  declares_now v to behind = record {
    row = subst (λ (l : List Text). Row t l w' 0 t.at T.definitions) (sym same) row_now;
    within = subst (λ (l : List Text). Each (ItemWithin false g.width.bytes l) T.definitions) (sym same) (rw width S.defines.within);
    many = S.defines.many;
    width = S.defines.width ∙ sym width;
    off = off_now v.to to;
    before = omega (arith, end_below);
    behind = omega (arith, end_below, wrote.long);
    list = omega (arith, S.defines.list, base_is);
    found = λ n D q.
        let f = S.defines.found n D q in
        record {
          index = f.index;
          there = f.there;
          below = subst (λ (l : List Text). number l n < g.m.count) (sym same) (rw count-is f.below);
          cell = subst (λ (l : List Text). cell_at w' g.m.base (number l n) % 2147483648 ≡ f.index + 1) (sym same) (ap (λ (c : ℕ). c % 2147483648) (cell_same (number ts n) f.below) ∙ f.cell);
        };
  }

-- ---- where more texts are known
module _ (four : Bool) (wd : ℕ) (ts us : List Text) where
  abbrev vs : List Text
  vs = ts ++ us

  longer : Extends ts vs
  longer = record { more = us; is = refl }

  uses_more : (class : Text → Bool) (x : Text) → Uses four wd ts class x → Uses four wd vs class x
  uses_more class x u = (extends_has ts vs x longer u.0, rw (extends_number ts vs x longer u.0) u.1, u.2)

  leaf_more : (l : Leaf) → LeafWithin four wd ts l → LeafWithin four wd vs l
  leaf_more (ambiguous x) u = uses_more is_name x u
  leaf_more (bare x) u = uses_more is_name x u
  leaf_more (quoted x) u = uses_more is_literal x u
  leaf_more (regex x) u = uses_more is_literal x u
  leaf_more (nonterminal x) u = uses_more is_name x u
  leaf_more lookahead u = tt
  leaf_more lookbehind u = tt
  leaf_more error u = tt

  around_more : (a : Around) → AroundWithin four wd ts a → AroundWithin four wd vs a
  around_more (repeat o) u = tt
  around_more choose u = tt
  around_more (name m x) u = uses_more is_name x u

  over_more : (o : Over) (n : ℕ) → OverWithin four wd ts o n → OverWithin four wd vs o n
  over_more (macro x) n u = (uses_more is_name x u.0, u.1, u.2)
  over_more group n u = u

  mutual
    symbol_more : (x : Sym) (left : ℕ) → SymWithin four wd ts x left → SymWithin four wd vs x left
    symbol_more (leaf s l) zero h = absurd h
    symbol_more (leaf s l) (suc left) h = (h.0, leaf_more l h.1)
    symbol_more (around s a x) zero h = absurd h
    symbol_more (around s a x) (suc left) h = (h.0, around_more a h.1, symbol_more x left h.2)
    symbol_more (over s o xs) zero h = absurd h
    symbol_more (over s o xs) (suc left) h = (h.0, over_more o (count xs) h.1, symbols_more xs left h.2)

    symbols_more : (xs : Syms) (left : ℕ) → SymsWithin four wd ts xs left → SymsWithin four wd vs xs left
    symbols_more nil left h = tt
    symbols_more (cons x xs) left h = (symbol_more x left h.0, symbols_more xs left h.1)

  action_more : (a : Action) → ActionWithin four wd ts a → ActionWithin four wd vs a
  action_more no_action u = tt
  action_more (user t) u = uses_more is_ascii t u
  action_more (fallible t) u = uses_more is_ascii t u
  action_more lookahead_action u = tt
  action_more lookbehind_action u = tt

  argument-more : (o : Option (Text × Text)) → ArgumentWithin four wd ts o → ArgumentWithin four wd vs o
  argument-more none u = tt
  argument-more (some kv) u = (uses_more is_ascii kv.0 u.0, uses_more is_ascii kv.1 u.1)

  condition_more : (c : Condition) → ConditionWithin four wd ts c → ConditionWithin four wd vs c
  condition_more c h = record { span = h.span; lhs = uses_more is_name c.lhs h.lhs; rhs = uses_more is_literal c.rhs h.rhs }

  alternative_more : (a : Alternative) → AlternativeWithin four wd ts a → AlternativeWithin four wd vs a
  alternative_more a h = record {
    span = h.span;
    few = h.few;
    attributes = each_map (λ (x : Attribute) u. (uses_more is_name x.id u.0, argument-more x.argument u.1)) a.attributes h.attributes;
    condition = each_map condition_more (conditions a.condition) h.condition;
    action = action_more a.action h.action;
    fewer = h.fewer;
    symbols = symbols_more a.symbols 64 h.symbols;
  }

  item_more : (x : Item) → ItemWithin four wd ts x → ItemWithin four wd vs x
  item_more (item d) h = record {
    span = h.span;
    name = uses_more is_name d.name h.name;
    few = h.few;
    args = each_map (uses_more is_name) d.args h.args;
    fewer = h.fewer;
    alternatives = each_map alternative_more d.alternatives h.alternatives;
  }
  item_more (Item.terminal s o x) h = (h.0, uses_more is_name x h.1)

-- theorem: items within bounds stay so
pub within_more : (four : Bool) (wd : ℕ) (ts us : List Text) (is : List Item) → Each (ItemWithin four wd ts) is → Each (ItemWithin four wd (ts ++ us)) is
within_more four wd ts us is h = each_map (item_more four wd ts us) is h

-- theorem: items that stand at their places stay
pub row_more : (t : Grammar) (ts us : List Text) (w : List ℕ) (i p : ℕ) (is : List Item) → TreeKnown ts is → Row t ts w i p is → Row t (ts ++ us) w i p is
row_more t ts us w i p [] k h = h
row_more t ts us w i p (x ∷ xs) k h =
    subst (λ (b : List ℕ). (item_place_in t w i ≡ p) × Lies w p b (p + length b) × Row t (ts ++ us) w (i + 1) (p + length b) xs)
    (sym (there_bytes t.width.bytes ts (ts ++ us) (record { more = us; is = refl }) x k.0))
    (h.0, h.1, row_more t ts us w (i + 1) (p + length (item_bytes t.width.bytes ts x)) xs k.1 h.2)

-- ---- the next round
below-has : (ts : List Text) (x : Text) → number ts x < length ts → has x ts ≡ true
below-has ts x h = go (has x ts) refl
  where
    go : (b : Bool) → has x ts ≡ b → has x ts ≡ true
    go true e = e
    go false e =
        let z : number ts x ≡ length ts + number [] x = ap (λ (l : List Text). number l x) (sym (append-nil ts)) ∙ number_behind x ts [] e in
        absurd (omega arith)

module _ (w w' : List ℕ) (room : Room) (t : Grammar) (m m' : Map) (ts us : List Text) (G : Tree) (D : DefinesMacros w room t m ts G)
    (long : length w' ≡ length w) (base : m'.base ≡ m.base) (count : m.count ≤ m'.count) (many : length ts ≡ m.count) (fit : m.base ≤ room.y) (inside : room.y ≤ length w) (known : TreeKnown ts G)
    (below : (i : ℕ) → i < m.base → get_or w' i 0 ≡ get_or w i 0) (between : (i : ℕ) → room.x + room.cap ≤ i → i < room.y → get_or w' i 0 ≡ get_or w i 0)
    (cells : (k : ℕ) → k < m.count → cell_at w' m.base k % 2147483648 ≡ cell_at w m.base k % 2147483648) where
  end_inside : t.end ≤ length w
  end_inside = go D.off
    where
      go : (t.end ≤ m.base) ⊎ ((room.x + room.cap ≤ t.at) × (t.end ≤ room.y)) → t.end ≤ length w
      go (inl x) = omega arith
      go (inr x) = omega (arith, x.1)

  byte_next : (i : ℕ) → t.at ≤ i → i < t.end → get_or w' i 0 ≡ get_or w i 0
  byte_next i j k = go D.off
    where
      go : (t.end ≤ m.base) ⊎ ((room.x + room.cap ≤ t.at) × (t.end ≤ room.y)) → get_or w' i 0 ≡ get_or w i 0
      go (inl x) = below i (omega arith)
      go (inr x) = between i (omega (arith, x.0)) (omega (arith, x.1))

  row_next : Row t (ts ++ us) w' 0 t.at G
  row_next = row_more t ts us w' 0 t.at G known (row_same t ts w w' long end_inside (λ i j k. below i (omega (arith, D.list))) 0 t.at G byte_next D.row)

  number-next : (n : Text) → number ts n < m.count → number (ts ++ us) n ≡ number ts n
  number-next n k = extends_number ts (ts ++ us) n (record { more = us; is = refl }) (below-has ts n (omega arith))

  -- theorem: the definitions stand where the next round begins
  pub defines_next : DefinesMacros w' room t m' (ts ++ us) G
  defines_next = record {
    row = row_next;
    within = within_more false 2 ts us G D.within;
    many = D.many;
    width = D.width;
    off = rw base D.off;
    list = rw base D.list;
    found = λ n d q.
        let f = D.found n d q in
        let e = number-next n f.below in
        record { index = f.index; there = f.there; below = rw e (omega (arith, f.below)); cell = rw (base, e) (cells (number ts n) f.below ∙ f.cell) };
  }
