-- What stands on the pile, and the definitions, stay where a piece is appended. Assumes nothing.
use mathlib.Core.Path.{◌≡◌, refl, sym, ap, ◌∙◌, subst}
use mathlib.Core.Bool.{Bool, true, false}
use mathlib.Core.Logic.{◌⊎◌, inl, inr}
use mathlib.Core.List.{List}
use Prim.Native.Nat.{ℕ, ◌+◌, ◌%◌, ◌<◌, ◌≤◌}
use native.Mathlib.Omega.{arith}
use lib.ListN.{get_or}
use Rattle.octets.specs.Plain.Runs.{Lies}
use Rattle.parse_tree.specs.Plain.Tree.{Text, Sym}
use Rattle.parse_tree.specs.Plain.Texts.{number}
use Rattle.parse_tree.specs.Working.Encode.{sym_bytes}
use Rattle.parse_tree.specs.Working.Within.{Each, ItemWithin, SymWithin}
use Rattle.texts.specs.Fields.{cell_at}
use Rattle.texts.specs.Table.{texts}
use Rattle.texts.proofs.TableStays.{part-agree}
use Rattle.passes.specs.Outcome.{Tree}
use Rattle.resolve.specs.declared.Grammar.{Grammar}
use Rattle.resolve.specs.Items.{Row}
use Rattle.resolve.proofs.GrammarLaws.{row_same}
use Rattle.replacing.specs.Slots.{among}
use Rattle.expander.specs.declared.Ground.{Ground}
use Rattle.expander.specs.Ground.{size_in, stage_in, top_of, key_at, list_place, symbol_in}
use Rattle.expander.specs.Replace.{keys_of, StandsAt}
use Rattle.expander.proofs.GroundLaws.{list_start}
use Rattle.appending.specs.declared.Appended.{Appended}
use Rattle.appending.specs.Pieces.{Piece, Appending, Appends}
use Rattle.appending.proofs.PiecesLaws.{appends_on}
use Rattle.appending.proofs.SymbolsStays.{table_stays, texts-stay, item_stays, lies_stays}
use Rattle.macro_expand.specs.Drain.{Declares, OnPile, Pile}

module _ (s : List ℕ) (g : Ground) (n lim : ℕ) (ps : List ℕ) (w : List ℕ) (v : Appended) (h : Appending s g n lim ps w v) (x : Piece) (v' : Appended) (w' : List ℕ) (a : Appends s g n lim ps w v x v' w') where
  abbrev same : texts s w' g.m ≡ texts s w g.m
  same = texts-stay s g n lim ps w v h x v' w' a

  stage_same : stage_in w' g ≡ stage_in w g
  unfolding stage_in
  stage_same = part-agree w w' g.from g.end a.long h.ground.inside (item_stays s g n lim ps w v h x v' w' a)

  pub symbol_stays : (p : ℕ) → symbol_in s w' g p ≡ symbol_in s w g p
  symbol_stays p = rw (stage_same, same) refl

  pub stands_stay : (four : Bool) (left p e : ℕ) (y : Sym) → e ≤ size_in g → StandsAt s w g four left p e y → StandsAt s w' g four left p e y
  stands_stay four left p e y i r = record {
    within = subst (λ (ts : List Text). SymWithin four g.width.bytes ts y left) (sym same) r.within;
    lies = subst (λ (ts : List Text). Lies w' (g.from + p) (sym_bytes g.width.bytes ts y) (g.from + e)) (sym same) (lies_stays s g n lim ps w v h x v' w' a (sym_bytes g.width.bytes (texts s w g.m) y) p e i r.lies);
  }

  pub on_pile_stays : (G : Tree) (p : ℕ) → OnPile s w g ps G p → OnPile s w' g ps G p
  on_pile_stays G p o =
      let y = symbol_in s w g p in
      let e = sym (symbol_stays p) in
      record {
        end = o.end;
        stands = subst (StandsAt s w' g false 64 p o.end) e (stands_stay false 64 p o.end y o.inside o.stands);
        inside = o.inside;
        referred = subst (λ (z : Sym). Each (λ (q : ℕ). among q ps ≡ true) (keys_of g.width.bytes (texts s w' g.m) z p)) e
            (subst (λ (ts : List Text). Each (λ (q : ℕ). among q ps ≡ true) (keys_of g.width.bytes ts y p)) (sym same) o.referred);
        expands = rw (symbol_stays p) o.expands;
        calls = rw (symbol_stays p) o.calls;
      }

  module _ (t : Grammar) (four : Bool) (G : Tree) (d : Declares s w g t v four G) where
    on : v.to ≤ v'.to
    on = appends_on s g n lim ps w v x v' w' h a

    byte_same : (i : ℕ) → t.at ≤ i → i < t.end → get_or w' i 0 ≡ get_or w i 0
    byte_same i j k = go d.off
      where
        go : (t.end ≤ list_place g 0) ⊎ ((top_of g ≤ t.at) × (t.end ≤ v.to)) → get_or w' i 0 ≡ get_or w i 0
        go (inl z) = a.kept i (inl (omega arith))
        go (inr z) = a.kept i (inr (inl (omega (arith, z.0), omega (arith, z.1))))

    row_stays : Row t (texts s w' g.m) w' 0 t.at G
    row_stays =
        subst (λ (ts : List Text). Row t ts w' 0 t.at G) (sym same)
        (row_same t (texts s w g.m) w w' a.long (omega (arith, d.behind)) (λ i j k. a.kept i (inl (omega (arith, d.list, list_start g)))) 0 t.at G byte_same d.row)

    off_stays : (t.end ≤ list_place g 0) ⊎ ((top_of g ≤ t.at) × (t.end ≤ v.to)) → (t.end ≤ list_place g 0) ⊎ ((top_of g ≤ t.at) × (t.end ≤ v'.to))
    off_stays (inl z) = inl z
    off_stays (inr z) = inr (z.0, omega (arith, z.1, on))

    pub declares_stay : Declares s w' g t v' four G
    declares_stay = record {
      row = row_stays;
      within = subst (λ (ts : List Text). Each (ItemWithin four g.width.bytes ts) G) (sym same) d.within;
      many = d.many;
      width = d.width;
      off = off_stays d.off;
      before = omega (arith, d.before, on);
      behind = rw a.long d.behind;
      list = d.list;
      found = λ m D e.
          let f = d.found m D e in
          record {
            index = f.index;
            there = f.there;
            below = subst (λ (ts : List Text). number ts m < g.m.count) (sym same) f.below;
            cell = ap (λ (c : ℕ). c % 2147483648) (cell_same m f.below) ∙ f.cell;
          };
    }
      where
        cell_same : (m : Text) → number (texts s w g.m) m < g.m.count → cell_at w' g.m.base (number (texts s w' g.m) m) ≡ cell_at w g.m.base (number (texts s w g.m) m)
        cell_same m k = ap (λ (ts : List Text). cell_at w' g.m.base (number ts m)) same ∙ (table_stays s g n lim ps w v h x v' w' a).cells (number (texts s w g.m) m) k

  -- theorem: the pile stays
  pub pile_stays : (t : Grammar) (four : Bool) (G : Tree) → Pile s w g n lim t v ps four G → Pile s w' g n lim t v' ps four G
  pile_stays t four G p = record {
    going = a.going;
    declares = declares_stay t four G p.declares;
    piled = λ j l. subst (OnPile s w' g ps G) (sym (a.pile j l)) (on_pile_stays G (key_at w g j) (p.piled j l));
  }
