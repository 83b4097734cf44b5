-- A symbol as the plain definitions read it is the symbol that parse_tree reads. Assumes nothing.
use mathlib.Core.Path.{◌≡◌, refl, sym, ap, ◌∙◌, fun_ext}
use mathlib.Core.Bool.{Bool, true, false, cond, ◌&&◌}
use mathlib.Core.List.{List}
use Prim.Native.Nat.{ℕ, zero, suc, ◌+◌, ◌<◌, ◌≤◌}
use native.Mathlib.Omega.{arith}
use borrow.Author.Tests.{eqb-false}
use lib.Dec.{eqb, leb}
use lib.ListN.{length, get_or}
use Rattle.std.specs.Prelude.{Option, Some, None}
use Rattle.octets.specs.Working.Choice.{pick}
use Rattle.octets.specs.Plain.Numbers.{le_at}
use Rattle.parse_tree.specs.Plain.Tree.{Text, Sym, syms_of}
use Rattle.parse_tree.specs.Plain.Tree as Tree
use Rattle.parse_tree.specs.Working.Nodes.{size_of, if_whole, span_in, named_leaf, word_leaf, symbol_node_at, node_by, node_at}
use Rattle.parse_tree.specs.Working.Places.{class_of, allowed_at, table, symbols_place}
use Rattle.parse_tree.specs.Working.Questions.{defined, leaf_defined, symbol_defined, suits, leaf_suits, symbol_suits}
use Rattle.parse_tree.specs.Plain.Reading.{Reading, got, refused, then, times}
use Rattle.parse_tree.specs.Working.Expect.{expect_symbol}
use Rattle.parse_tree.specs.Working.Operands.{op_from, leaf_of, around_of, over_of, inside_of}
use Rattle.parse_tree.specs.Working.Decode.{ask_of, ask, read_sym}
use Rattle.parse_tree.specs.declared.syntax.Leaf.{Leaf}
use Rattle.parse_tree.specs.declared.syntax.Around.{Around}
use Rattle.parse_tree.specs.declared.syntax.Over.{Over}
use Rattle.parse_tree.specs.declared.syntax.SymbolKind.{SymbolKind}
use Rattle.parse_tree.specs.declared.syntax.Node.{Node}
use Rattle.parse_tree.proofs.SizeLaws.{ambiguous_size, bare_size, quoted_size, regex_size, nonterminal_leaf_size, lookahead_size, lookbehind_size, error_size, leaf_size, repeat_size, choose_size, name_size, macro_size, group_size}
use Rattle.parse_tree.specs.Plain.ReadTape as Plain
use Rattle.parse_tree.proofs.ReadCommandIs.{node_by_lem, CodeOf, by_code, pick-if, asks_other, asks_is}

op_is : (k : ℕ) → op_from k ≡ Plain.op_of k
unfolding op_from
op_is k = pick-if (eqb k 0) Tree.star (pick (eqb k 1) Tree.plus Tree.question) ∙ ap (λ (o : Tree.Op). cond (eqb k 0) Tree.star o) (pick-if (eqb k 1) Tree.plus Tree.question)

past : (c k : ℕ) → k ≤ c → (c ≡ k → ⊥) → suc k ≤ c
past c k h e = omega arith

under : (c k : ℕ) → k ≤ c → c < k → ⊥
under c k h l = omega arith

module _ (four : Bool) (w : ℕ) (s : List ℕ) (ts : List Text) (inside : ℕ → Reading Sym) (left at : ℕ) where
  abbrev code : ℕ
  code = get_or s at 0

  -- what parse_tree reads of a symbol's command, with `inside` for the symbols inside
  abbrev pub behind : Node → ℕ → Reading Sym
  behind =
      expect_symbol at (λ sp k e. elim k [
        | SymbolKind.Leaf l ↦ got (Sym.leaf sp (leaf_of ts l)) e
        | SymbolKind.Around a ↦ then (inside e) (λ x e'. got (Sym.around sp (around_of ts a) x) e')
        | SymbolKind.Over o ↦ then (times (λ p. inside p) (inside_of o) e) (λ xs e'. got (Sym.over sp (over_of ts o) (syms_of xs)) e')
      ])

  no_symbol : (n : Node) → CodeOf n code → ((32 ≤ code) → (code < 45) → ⊥) → allowed_at symbols_place (class_of n) ≡ false
  unfolding allowed_at table class_of
  no_symbol (Node.Text k) c e = refl
  no_symbol (Node.Nonterminal d) c e = refl
  no_symbol (Node.Terminal t) c e = refl
  no_symbol (Node.Argument a) c e = refl
  no_symbol (Node.Alternative a) c e = refl
  no_symbol (Node.Attribute a) c e = refl
  no_symbol (Node.Condition x) c e = refl
  no_symbol (Node.Symbol sp k) c e = absurd (e c.0 c.1)

  -- the command x of m bytes, of a symbol
  symbol_asks : (x : SymbolKind) (m : ℕ) (good fits : Bool) (r : Reading Sym) → node_at w s at ≡ if_whole s at m (Node.Symbol (span_in s (at + 1)) x)
      → (symbol_defined (length ts) x && leb 1 left) ≡ good → symbol_suits ts x ≡ fits → m ≡ size_of w (Node.Symbol (span_in s (at + 1)) x)
      → behind (Node.Symbol (span_in s (at + 1)) x) (at + m) ≡ r → Plain.asked four w s at m good fits r ≡ then (ask four w s ts symbols_place left at) behind
  unfolding allowed_at table class_of defined suits
  symbol_asks x m good fits r n g f z k = sym (asks_is four w s ts symbols_place left at behind (Node.Symbol (span_in s (at + 1)) x) m good fits r n refl g f (sym z) k)

  pub symbol_by : Plain.symbol_from four w s ts inside left at (Plain.command_at four w s ts at) ≡ then (ask four w s ts symbols_place left at) behind
  unfolding Plain.command_at expect_symbol node_by pick symbol_node_at named_leaf word_leaf symbol_defined leaf_defined symbol_suits leaf_suits leaf_of around_of over_of inside_of span_in
  symbol_by =
      by_code (Plain.symbol_from four w s ts inside left at) code 32 _ _ _ (λ e. symbol_asks (SymbolKind.Leaf (Leaf.AmbiguousId (record { 0 = le_at w s (at + 9) }))) (9 + w) _ _ _ (node_by_lem w s at 31 e) refl refl (leaf_size w _ _ _ refl _ w refl (ambiguous_size w _ _ refl)) refl) (λ n32.
      by_code (Plain.symbol_from four w s ts inside left at) code 33 _ _ _ (λ e. symbol_asks (SymbolKind.Leaf (Leaf.Bare (record { 0 = le_at w s (at + 9) }))) (9 + w) _ _ _ (node_by_lem w s at 32 e) refl refl (leaf_size w _ _ _ refl _ w refl (bare_size w _ _ refl)) refl) (λ n33.
      by_code (Plain.symbol_from four w s ts inside left at) code 34 _ _ _ (λ e. symbol_asks (SymbolKind.Leaf (Leaf.Quoted (record { 0 = le_at w s (at + 9) }))) (9 + w) _ _ _ (node_by_lem w s at 33 e) refl refl (leaf_size w _ _ _ refl _ w refl (quoted_size w _ _ refl)) refl) (λ n34.
      by_code (Plain.symbol_from four w s ts inside left at) code 35 _ _ _ (λ e. symbol_asks (SymbolKind.Leaf (Leaf.Regex (record { 0 = le_at w s (at + 9) }))) (9 + w) _ _ _ (node_by_lem w s at 34 e) refl refl (leaf_size w _ _ _ refl _ w refl (regex_size w _ _ refl)) refl) (λ n35.
      by_code (Plain.symbol_from four w s ts inside left at) code 36 _ _ _ (λ e. symbol_asks (SymbolKind.Leaf (Leaf.Nonterminal (record { 0 = le_at w s (at + 9) }))) (9 + w) _ _ _ (node_by_lem w s at 35 e) refl refl (leaf_size w _ _ _ refl _ w refl (nonterminal_leaf_size w _ _ refl)) refl) (λ n36.
      by_code (Plain.symbol_from four w s ts inside left at) code 37 _ _ _ (λ e. symbol_asks (SymbolKind.Over (Over.Macro (record { 0 = le_at w s (at + 9) }) (get_or s (at + 9 + w) 0))) (10 + w) _ _ _ (node_by_lem w s at 36 e) refl refl (macro_size w _ _ _ refl _ _ _ refl refl) refl) (λ n37.
      by_code (Plain.symbol_from four w s ts inside left at) code 38 _ _ _ (λ e. symbol_asks (SymbolKind.Around (Around.Repeat (get_or s (at + 9) 0))) (10) _ _ _ (node_by_lem w s at 37 e) refl refl (repeat_size w _ _ _ refl _ _ refl refl) (ap (λ o. then (inside (at + 10)) (λ x e'. got (Sym.around (span_in s (at + 1)) (Tree.repeat o) x) e')) (op_is (get_or s (at + 9) 0)))) (λ n38.
      by_code (Plain.symbol_from four w s ts inside left at) code 39 _ _ _ (λ e. symbol_asks (SymbolKind.Around Around.Choose) (9) _ _ _ (node_by_lem w s at 38 e) refl refl (choose_size w _ _ _ refl _ refl refl) refl) (λ n39.
      by_code (Plain.symbol_from four w s ts inside left at) code 40 _ _ _ (λ e. symbol_asks (SymbolKind.Around (Around.Name (get_or s (at + 9) 0) (record { 0 = le_at w s (at + 10) }))) (10 + w) _ _ _ (node_by_lem w s at 39 e) refl refl (name_size w _ _ _ refl _ _ _ refl refl) refl) (λ n40.
      by_code (Plain.symbol_from four w s ts inside left at) code 41 _ _ _ (λ e. symbol_asks (SymbolKind.Over (Over.Group (le_at 2 s (at + 9)))) (11) _ _ _ (node_by_lem w s at 40 e) refl refl (group_size w _ _ _ refl _ _ refl refl) refl) (λ n41.
      by_code (Plain.symbol_from four w s ts inside left at) code 42 _ _ _ (λ e. symbol_asks (SymbolKind.Leaf Leaf.Lookahead) (9) _ _ _ (node_by_lem w s at 41 e) refl refl (leaf_size w _ _ _ refl _ 0 refl (lookahead_size w _ refl)) refl) (λ n42.
      by_code (Plain.symbol_from four w s ts inside left at) code 43 _ _ _ (λ e. symbol_asks (SymbolKind.Leaf Leaf.Lookbehind) (9) _ _ _ (node_by_lem w s at 42 e) refl refl (leaf_size w _ _ _ refl _ 0 refl (lookbehind_size w _ refl)) refl) (λ n43.
      by_code (Plain.symbol_from four w s ts inside left at) code 44 _ _ _ (λ e. symbol_asks (SymbolKind.Leaf Leaf.Error) (9) _ _ _ (node_by_lem w s at 43 e) refl refl (leaf_size w _ _ _ refl _ 0 refl (error_size w _ refl)) refl) (λ n44.
      sym (asks_other four w s ts symbols_place left at behind (λ n h. no_symbol n h (λ lo hi.
      under code 45 (past code 44 (past code 43 (past code 42 (past code 41 (past code 40 (past code 39 (past code 38 (past code 37 (past code 36 (past code 35 (past code 34 (past code 33 (past code 32 lo (eqb-false code 32 n32)) (eqb-false code 33 n33)) (eqb-false code 34 n34)) (eqb-false code 35 n35)) (eqb-false code 36 n36)) (eqb-false code 37 n37)) (eqb-false code 38 n38)) (eqb-false code 39 n39)) (eqb-false code 40 n40)) (eqb-false code 41 n41)) (eqb-false code 42 n42)) (eqb-false code 43 n43)) (eqb-false code 44 n44)) hi))))))))))))))))

-- without nesting left no symbol is read, whatever would come
none_left : (four : Bool) (w : ℕ) (s : List ℕ) (ts : List Text) (at : ℕ) (K K' : Node → ℕ → Reading Sym) → then (ask four w s ts symbols_place zero at) K ≡ then (ask four w s ts symbols_place zero at) K'
unfolding ask ask_of pick then
none_left four w s ts at K K' = go (node_at w s at)
  where
    picked : (n : Node) (a d : Bool)
        → then (pick a (pick (d && leb 1 zero) (pick (pick four (suits ts n) true) (got n (at + size_of w n)) (refused 4 at)) (refused 3 at)) (refused 2 at)) K
        ≡ then (pick a (pick (d && leb 1 zero) (pick (pick four (suits ts n) true) (got n (at + size_of w n)) (refused 4 at)) (refused 3 at)) (refused 2 at)) K'
    picked n true true = refl
    picked n true false = refl
    picked n false d = refl

    go : (o : Option Node) → then (ask_of four w s ts symbols_place zero at o) K ≡ then (ask_of four w s ts symbols_place zero at o) K'
    go None = refl
    go (Some n) = picked n (allowed_at symbols_place (class_of n)) (defined (length ts) n)

pub symbol_is : (four : Bool) (w : ℕ) (s : List ℕ) (ts : List Text) (left at : ℕ) → Plain.symbol_at four w s ts left at ≡ read_sym four w s ts left at
unfolding Plain.symbol_at read_sym
symbol_is four w s ts zero at = symbol_by four w s ts (λ p. refused 3 p) zero at ∙ none_left four w s ts at _ _
symbol_is four w s ts (suc left) at =
    ap (λ (f : ℕ → Reading Sym). Plain.symbol_from four w s ts f (suc left) at (Plain.command_at four w s ts at)) (fun_ext (λ p. symbol_is four w s ts left p)) ∙ symbol_by four w s ts (read_sym four w s ts left) (suc left) at
