-- What stands at the j-th place of the pile. Assumes nothing.
use mathlib.Core.Path.{◌≡◌, ap, ◌∙◌, subst}
use mathlib.Core.Bool.{Bool, false}
use mathlib.Core.Logic.{◌⊎◌, inl, inr}
use mathlib.Core.List.{List, [], ◌∷◌}
use Prim.Native.Nat.{ℕ, ◌+◌, ◌%◌, ◌<◌, ◌≤◌}
use native.Mathlib.Omega.{arith}
use lib.ListN.{length, get_or}
use Rattle.octets.specs.Plain.Numbers.{le_at}
use Rattle.octets.specs.Plain.Runs.{Lies}
use Rattle.octets.proofs.LiesLaws.{lies_split, lies_inside}
use Rattle.parse_tree.specs.Plain.Tree.{Text, Sym, Syms, Nonterminal, item, count, macro, over}
use Rattle.parse_tree.specs.Plain.Texts.{number}
use Rattle.parse_tree.specs.Working.Encode.{sym_bytes, syms_bytes, item_bytes, over_node}
use Rattle.parse_tree.specs.Working.Nodes.{node_bytes, symbol_bytes}
use Rattle.parse_tree.specs.declared.syntax.Span.{Span}
use Rattle.parse_tree.specs.declared.syntax.Node.{Node}
use Rattle.parse_tree.specs.declared.syntax.SymbolKind.{SymbolKind}
use Rattle.texts.specs.Fields.{cell_at}
use Rattle.texts.specs.Table.{texts}
use Rattle.passes.specs.Outcome.{Tree}
use Rattle.resolve.specs.declared.Grammar.{Grammar}
use Rattle.resolve.specs.Items.{item_place_in}
use Rattle.resolve.proofs.GrammarLaws.{Named, named}
use Rattle.expander.specs.declared.Ground.{Ground}
use Rattle.expander.specs.Ground.{top_of, key_at, list_place, symbol_in}
use Rattle.expander.specs.Replace.{StandsAt}
use Rattle.appending.specs.declared.Appended.{Appended}
use Rattle.macro_expand.specs.Expand.{Popped}
use Rattle.macro_expand.specs.Call.{Defines, Calls}
use Rattle.macro_expand.specs.Drain.{DefinedAt, CallsMacro, OnPile, Pile, Definition}
use Rattle.macro_expand.proofs.KeyCodes.{key_code, key_code_lem}
use Rattle.macro_expand.proofs.DrainLaws.{row_at, within_at}

-- ---- what stands at the j-th place of the pile
module _ (s w : List ℕ) (g : Ground) (n lim : ℕ) (t : Grammar) (v : Appended) (j : ℕ) (l : j < n) where
  module _ (ps : List ℕ) (four : Bool) (G : Tree) (p : Pile s w g n lim t v ps four G) where
    abbrev at : ℕ
    at = key_at w g j

    abbrev y : Sym
    y = symbol_in s w g (key_at w g j)

    abbrev o : OnPile s w g ps G (key_at w g j)
    o = p.piled j l

    pub popped : Popped s w g n lim ps false 64 at o.end y v
    popped = record { going = p.going; stands = o.stands; inside = o.inside; levels = omega arith; referred = o.referred; expands = o.expands }

    pub code_there : get_or w (g.from + at) 0 ≡ key_code y
    code_there = key_code_lem g.width.bytes (texts s w g.m) w (g.from + at) (g.from + o.end) y o.expands o.stands.lies

    -- ---- a macro call
    module _ (sp : Span) (m : Text) (xs : Syms) (e : y ≡ over sp (macro m) xs) where
      abbrev pub calls : CallsMacro G (over sp (macro m) xs)
      calls = subst (CallsMacro G) e o.calls

      abbrev pub D : Nonterminal
      D = calls.0

      stands : StandsAt s w g false 64 at o.end (over sp (macro m) xs)
      stands = subst (StandsAt s w g false 64 at o.end) e o.stands

      abbrev nm : ℕ
      nm = number (texts s w g.m) m

      head : Named w g.width.bytes (g.from + at) 37 sp nm (count xs ∷ []) (g.from + at + length (node_bytes g.width.bytes (Node.Symbol sp (SymbolKind.Over (over_node (texts s w g.m) (macro m) (count xs))))))
      unfolding sym_bytes node_bytes symbol_bytes over_node
      head =
          let k = lies_split w (g.from + at) (g.from + o.end) (node_bytes g.width.bytes (Node.Symbol sp (SymbolKind.Over (over_node (texts s w g.m) (macro m) (count xs))))) (syms_bytes g.width.bytes (texts s w g.m) xs) stands.lies in
          let h = stands.within in
          named w g.width.bytes (g.from + at) 37 sp nm (count xs ∷ []) _ h.0 h.1.0.1 k.0

      pub found : DefinedAt (texts s w g.m) g.m w G m D
      found = p.declares.found m D calls.1

      pub defined : Definition w g t at found.index
      defined =
          let d = p.declares in
          let z : le_at g.width.bytes w (g.from + at + 9) ≡ nm = head.name in
          let r = p.going.ground.table.room in
          let q = lies_inside w (g.from + at + 9 + g.width.bytes) _ (count xs ∷ []) (omega arith) head.rest in
          record {
            narrow = p.going.ground.narrow;
            wide = p.going.ground.wide;
            call = omega (arith, head.rest.end);
            name = omega (arith, z, found.below);
            cell = ap (λ (k : ℕ). cell_at w g.m.base k % 2147483648) z ∙ found.cell;
            list = omega (arith, d.list);
            ordered = let a = row_at t (texts s w g.m) w G 0 t.at found.index (item D) d.row found.there in omega (arith, a.from, a.upto, a.lies.end);
          }

      abbrev pub stop : ℕ
      stop = (row_at t (texts s w g.m) w G 0 t.at found.index (item D) p.declares.row found.there).end

      defines : Defines s w g v four (item_place_in t w found.index) stop D
      defines =
          let d = p.declares in
          let a = row_at t (texts s w g.m) w G 0 t.at found.index (item D) d.row found.there in
          let z : 0 + found.index ≡ found.index = omega arith in
          record {
            within = within_at t (texts s w g.m) w four g.width.bytes (texts s w g.m) G found.index (item D) d.within found.there;
            placed = record {
              lies = subst (λ (k : ℕ). Lies w (item_place_in t w k) (item_bytes g.width.bytes (texts s w g.m) (item D)) a.end) z (subst (λ (k : ℕ). Lies w (item_place_in t w (0 + found.index)) (item_bytes k (texts s w g.m) (item D)) a.end) d.width a.lies);
              off = beside d.off (subst (λ (k : ℕ). t.at ≤ item_place_in t w k) z a.from) a.upto;
              before = omega (arith, d.before, a.upto);
              behind = omega (arith, d.behind, a.upto);
            };
          }
        where
          beside : {b e : ℕ} → (t.end ≤ list_place g 0) ⊎ ((top_of g ≤ t.at) × (t.end ≤ v.to)) → t.at ≤ b → e ≤ t.end → (e ≤ list_place g 0) ⊎ ((top_of g ≤ b) × (e ≤ v.to))
          beside (inl k) x z = inl (omega arith)
          beside (inr k) x z = inr (omega (arith, k.0), omega (arith, k.1))

      pub calling : Calls s w g n lim at (item_place_in t w found.index) v ps false 64 o.end sp m xs four stop D
      calling = record {
        popped = subst (λ (z : Sym). Popped s w g n lim ps false 64 at o.end z v) e popped;
        defines = defines;
        many = calls.2;
      }
