-- Reading a command: one law for each way out of `node` and its callees. Assumes nothing.
use mathlib.Core.Path.{◌≡◌, refl, sym, ap, ◌∙◌}
use mathlib.Core.Bool.{Bool, true, false}
use mathlib.Core.List.{List}
use Prim.Native.Nat.{ℕ, ◌+◌, ◌-◌, ◌<◌, ◌≤◌}
use native.Mathlib.Omega.{arith}
use borrow.Author.Rules.{rules}
use borrow.Author.Tests.{lt-ltb, le-ltb, lt-leb, le-leb, eq-eqb, ne_eqb, eqb-true, eqb-false, ltb-true, ltb-false}
use lib.Dec.{eqb}
use lib.ListN.{length, get_or}
use Rattle.std.specs.Prelude.{option_map, Option, Some, None}
use Rattle.octets.specs.Working.Choice.{pick}
use Rattle.octets.specs.Plain.Numbers.{le_at}
use Rattle.octets.proofs.ChoiceLaws.{by_pick}
use Rattle.parse_tree.specs.Working.Nodes.{code_size, if_whole, span_in, named_leaf, word_leaf, symbol_node_at, text_node, nonterminal_here, nonterminal_node_at, terminal_node_at, argument_node_at, alternative_here, alternative_node_at, attribute_here, attribute_node_at, condition_node_at, node_by, node_at}
use Rattle.parse_tree.specs.declared.syntax.Span.{Span}
use Rattle.parse_tree.specs.declared.syntax.Atom.{Atom}
use Rattle.parse_tree.specs.declared.syntax.NonterminalString.{NonterminalString}
use Rattle.parse_tree.specs.declared.syntax.NonterminalData.{NonterminalData}
use Rattle.parse_tree.specs.declared.syntax.TerminalData.{TerminalData}
use Rattle.parse_tree.specs.declared.syntax.Alternative.{Alternative}
use Rattle.parse_tree.specs.declared.syntax.Attribute.{Attribute}
use Rattle.parse_tree.specs.declared.syntax.Condition.{Condition}
use Rattle.parse_tree.specs.declared.syntax.Leaf.{Leaf}
use Rattle.parse_tree.specs.declared.syntax.Around.{Around}
use Rattle.parse_tree.specs.declared.syntax.Over.{Over}
use Rattle.parse_tree.specs.declared.syntax.SymbolKind.{SymbolKind}
use Rattle.parse_tree.specs.declared.syntax.Node.{Node}
use Rattle.parse_tree.proofs.CodeSizes.{size_16, size_17, size_18, size_19, size_20, size_37, size_38, size_39, size_40, size_41, size_named, size_terminal, size_between}

-- ---- a command that is not whole, and one that is
pub short_is : (s : List ℕ) (at n : ℕ) (x : Node) → length s - at < n → None ≡ if_whole s at n x
unfolding if_whole pick
short_is s at n x h = cc (lt-ltb (length s - at) n h)

pub whole_is : (s : List ℕ) (at n : ℕ) {x y : Node} → n ≤ length s - at → y ≡ x → Some y ≡ if_whole s at n x
unfolding if_whole pick
whole_is s at n {x} {y} h p = cc (le-ltb (length s - at) n h)

pub span_done : (s : List ℕ) (at : ℕ) (x : Span) → x.0 ≡ le_at 4 s at → x.1 ≡ le_at 4 s (at + 4) → x ≡ span_in s at
unfolding span_in
span_done s at x p q = λ i. record { 0 = p i; 1 = q i }

pub text_none : (s : List ℕ) (at : ℕ) → length s - at < 3 → None ≡ text_node s at
unfolding text_node pick
text_none s at h = simp (lt-ltb (length s - at) 3 h)

module _ (s : List ℕ) (at n m : ℕ) (p : n ≡ le_at 2 s (at + 1)) (q : m ≡ n) (g : 3 ≤ length s - at) where
  pub text_short : length s - at < 3 + m → None ≡ text_node s at
  unfolding text_node pick
  text_short h = simp (le-ltb (length s - at) 3 g) (short_is s at (3 + le_at 2 s (at + 1)) (Node.Text (le_at 2 s (at + 1))) (omega arith))

  pub text_done : 3 + m ≤ length s - at → Some (Node.Text n) ≡ text_node s at
  unfolding text_node pick
  text_done h = simp (le-ltb (length s - at) 3 g) (whole_is s at (3 + le_at 2 s (at + 1)) (omega arith) (ap Node.Text p))

-- ---- the commands whose operands are read one by one
module _ (w : ℕ) (s : List ℕ) (at : ℕ) where
  pub terminal_done : (c : ℕ) (d : TerminalData) → at + (9 + w) ≤ length s → d.span ≡ span_in s (at + 1) → d.name.0 ≡ le_at w s (at + 9)
      → d.source ≡ c → Some (Node.Terminal d) ≡ terminal_node_at w c s at
  unfolding terminal_node_at
  terminal_done c d h a b e = whole_is s at (9 + w) (omega arith) (λ i. Node.Terminal (record { span = a i; name = record { 0 = b i }; source = e i }))

  pub condition_done : (d : Condition) → at + (10 + w + w) ≤ length s → d.span ≡ span_in s (at + 1) → d.lhs.0 ≡ le_at w s (at + 9)
      → d.op ≡ get_or s (at + 9 + w) 0 → d.rhs.0 ≡ le_at w s (at + 10 + w) → Some (Node.Condition d) ≡ condition_node_at w s at
  unfolding condition_node_at
  condition_done d h a b e f = whole_is s at (10 + w + w) (omega arith) (λ i. Node.Condition (record { span = a i; lhs = record { 0 = b i }; op = e i; rhs = record { 0 = f i } }))

-- ---- the kinds of symbols, where the command is whole
module _ (w c : ℕ) (s : List ℕ) (at : ℕ) (g : at + code_size w c ≤ length s) where
  room : {n : ℕ} → n ≡ code_size w c → n ≤ length s - at
  room {n} e = omega arith

  size_bare : 42 ≤ c → c < 45 → 9 ≡ code_size w c
  size_bare l h = size_between w c (omega arith) (omega arith) (λ e. absurd (omega arith)) (λ e. absurd (omega arith)) (λ e. absurd (omega arith)) (λ e. absurd (omega arith))

  pub kind_named : 32 ≤ c → c ≤ 36 → (a : ℕ) (l : Leaf) → a ≡ le_at w s (at + 9) → l ≡ named_leaf c a → Some (Node.Symbol (span_in s (at + 1)) (SymbolKind.Leaf l)) ≡ symbol_node_at w c s at
  unfolding symbol_node_at pick
  kind_named l h a x q e = simp (lt-ltb c 37 (omega arith)) (whole_is s at (9 + w) (room (size_named w c l h)) cc)

  pub kind_macro : c ≡ 37 → (n : NonterminalString) (k : ℕ) → n.0 ≡ le_at w s (at + 9) → k ≡ get_or s (at + 9 + w) 0
      → Some (Node.Symbol (span_in s (at + 1)) (SymbolKind.Over (Over.Macro n k))) ≡ symbol_node_at w c s at
  unfolding symbol_node_at pick
  kind_macro z n k q e = rw z (whole_is s at (10 + w) (room (size_37 w c z)) (λ i. Node.Symbol (span_in s (at + 1)) (SymbolKind.Over (Over.Macro (record { 0 = q i }) (e i)))))

  pub kind_repeat : c ≡ 38 → (k : ℕ) → k ≡ get_or s (at + 9) 0 → Some (Node.Symbol (span_in s (at + 1)) (SymbolKind.Around (Around.Repeat k))) ≡ symbol_node_at w c s at
  unfolding symbol_node_at pick
  kind_repeat z k e = rw z (whole_is s at 10 (room (size_38 w c z)) (λ i. Node.Symbol (span_in s (at + 1)) (SymbolKind.Around (Around.Repeat (e i)))))

  pub kind_choose : c ≡ 39 → Some (Node.Symbol (span_in s (at + 1)) (SymbolKind.Around Around.Choose)) ≡ symbol_node_at w c s at
  unfolding symbol_node_at pick
  kind_choose z = rw z (whole_is s at 9 (room (size_39 w c z)) refl)

  pub kind_name : c ≡ 40 → (m : ℕ) (n : Atom) → m ≡ get_or s (at + 9) 0 → n.0 ≡ le_at w s (at + 10) → Some (Node.Symbol (span_in s (at + 1)) (SymbolKind.Around (Around.Name m n))) ≡ symbol_node_at w c s at
  unfolding symbol_node_at pick
  kind_name z m n e q = rw z (whole_is s at (10 + w) (room (size_40 w c z)) (λ i. Node.Symbol (span_in s (at + 1)) (SymbolKind.Around (Around.Name (e i) (record { 0 = q i })))))

  pub kind_group : c ≡ 41 → (k : ℕ) → k ≡ le_at 2 s (at + 9) → Some (Node.Symbol (span_in s (at + 1)) (SymbolKind.Over (Over.Group k))) ≡ symbol_node_at w c s at
  unfolding symbol_node_at pick
  kind_group z k e = rw z (whole_is s at 11 (room (size_41 w c z)) (λ i. Node.Symbol (span_in s (at + 1)) (SymbolKind.Over (Over.Group (e i)))))

  pub kind_bare : 42 ≤ c → c < 45 → (l : Leaf) → l ≡ word_leaf c → Some (Node.Symbol (span_in s (at + 1)) (SymbolKind.Leaf l)) ≡ symbol_node_at w c s at
  unfolding symbol_node_at pick
  kind_bare l h x e =
      simp (le-ltb c 37 (omega arith), ne_eqb c 37 (λ q. absurd (omega arith)), ne_eqb c 38 (λ q. absurd (omega arith)), ne_eqb c 39 (λ q. absurd (omega arith)), ne_eqb c 40 (λ q. absurd (omega arith)), ne_eqb c 41 (λ q. absurd (omega arith)))
      (whole_is s at 9 (room (size_bare l h)) (λ i. Node.Symbol (span_in s (at + 1)) (SymbolKind.Leaf (e i))))

pub ruleset kinding = (rules, kind_named, kind_macro, kind_repeat, kind_choose, kind_name, kind_group, kind_bare)

-- ---- the commands by their codes, where they are whole
module _ (w c : ℕ) (s : List ℕ) (at : ℕ) (g : at + code_size w c ≤ length s) where
  pub by_16 : c ≡ 16 → (d : NonterminalData) → d ≡ nonterminal_here w s at → Some (Node.Nonterminal d) ≡ node_by w c s at
  unfolding node_by pick nonterminal_node_at
  by_16 z d e = rw z (whole_is s at (13 + w) (room w c s at g (size_16 w c z)) (ap Node.Nonterminal e))

  pub by_17 : c ≡ 17 → (n : NonterminalString) → n.0 ≡ le_at w s (at + 1) → Some (Node.Argument n) ≡ node_by w c s at
  unfolding node_by pick argument_node_at
  by_17 z n e = rw z (whole_is s at (1 + w) (room w c s at g (size_17 w c z)) (λ i. Node.Argument (record { 0 = e i })))

  pub by_18 : c ≡ 18 → (d : Alternative) → d ≡ alternative_here w s at → Some (Node.Alternative d) ≡ node_by w c s at
  unfolding node_by pick alternative_node_at
  by_18 z d e = rw z (whole_is s at (14 + w) (room w c s at g (size_18 w c z)) (ap Node.Alternative e))

  pub by_19 : c ≡ 19 → (d : Attribute) → d ≡ attribute_here w s at → Some (Node.Attribute d) ≡ node_by w c s at
  unfolding node_by pick attribute_node_at
  by_19 z d e = rw z (whole_is s at (2 + w + w + w) (room w c s at g (size_19 w c z)) (ap Node.Attribute e))

  pub by_20 : c ≡ 20 → (n : Node) → Some n ≡ condition_node_at w s at → Some n ≡ node_by w c s at
  unfolding node_by pick
  by_20 z n e = rw z e

  pub by_symbol : 32 ≤ c → c < 45 → (x : Span) (k : SymbolKind) → x ≡ span_in s (at + 1) → Some (Node.Symbol (span_in s (at + 1)) k) ≡ symbol_node_at w c s at → Some (Node.Symbol x k) ≡ node_by w c s at
  unfolding node_by pick
  by_symbol l h x k p e = simp (le-ltb c 32 l, lt-ltb c 45 h) (rw p e)

  pub by_terminal : 48 ≤ c → c < 50 → (n : Node) → Some n ≡ terminal_node_at w c s at → Some n ≡ node_by w c s at
  unfolding node_by pick
  by_terminal l h n e = go (eqb c 48) refl
    where
      go : (b : Bool) → eqb c 48 ≡ b → Some n ≡ node_by w c s at
      go true q = simp (le-ltb c 32 (omega arith), le-ltb c 45 (omega arith), q) e
      go false q =
          let m = eqb-false c 48 q in
          simp (le-ltb c 32 (omega arith), le-ltb c 45 (omega arith), q, eq-eqb c 49 (omega arith)) e

  pub by_none : (c ≡ 1 → ⊥) → (c ≡ 16 → ⊥) → (c ≡ 17 → ⊥) → (c ≡ 18 → ⊥) → (c ≡ 19 → ⊥) → (c ≡ 20 → ⊥) → c < 32 → None ≡ node_by w c s at
  unfolding node_by pick
  by_none n1 n16 n17 n18 n19 n20 h = simp (lt-ltb c 32 h, ne_eqb c 1 n1, ne_eqb c 16 n16, ne_eqb c 17 n17, ne_eqb c 18 n18, ne_eqb c 19 n19, ne_eqb c 20 n20)

  by_other : 45 ≤ c → (c ≡ 48 → ⊥) → (c ≡ 49 → ⊥) → None ≡ node_by w c s at
  unfolding node_by pick
  by_other l m n = simp (le-ltb c 32 (omega arith), le-ltb c 45 l, ne_eqb c 48 m, ne_eqb c 49 n)

  pub by_between : 45 ≤ c → c < 48 → None ≡ node_by w c s at
  by_between l h = by_other l (λ e. absurd (omega arith)) (λ e. absurd (omega arith))

  pub by_above : 50 ≤ c → None ≡ node_by w c s at
  by_above l = by_other (omega arith) (λ e. absurd (omega arith)) (λ e. absurd (omega arith))

pub ruleset commanding = (rules, by_16, by_17, by_18, by_19, by_20, by_symbol, by_terminal, by_none, by_between, by_above)

-- ---- the command at a place
module _ (w : ℕ) (s : List ℕ) (at c : ℕ) (z : c ≡ get_or s at 0) (h : at < length s) where
  pub node_here : (r : Option Node) → r ≡ node_by w c s at → r ≡ node_at w s at
  unfolding node_at pick
  node_here r e = simp (lt-leb (length s) at h, ← z) e

  -- o is what `text_size` answered
  module _ (q : c ≡ 1) (o : Option ℕ) (e : option_map Node.Text o ≡ text_node s at) where
    node_text : option_map Node.Text o ≡ node_at w s at
    unfolding node_by pick
    node_text = node_here (option_map Node.Text o) (rw q e)

    pub node_text_none : o ≡ None → None ≡ node_at w s at
    node_text_none z = ap (option_map Node.Text) (sym z) ∙ node_text

    pub node_text_some : (n : ℕ) → o ≡ Some n → Some (Node.Text n) ≡ node_at w s at
    node_text_some n z = ap (option_map Node.Text) (sym z) ∙ node_text

  module _ (g : length s - at < code_size w c) where
    abbrev none : Option Node → Type 0
    none n = None ≡ n

    short_by : {n : ℕ} (x : Node) → n ≡ code_size w c → None ≡ if_whole s at n x
    short_by {n} x e = short_is s at n x (omega arith)

    short_symbol : 32 ≤ c → c < 45 → None ≡ symbol_node_at w c s at
    unfolding symbol_node_at
    short_symbol l u =
        by_pick none _ (λ e. let q = ltb-true c 37 e in short_by _ (size_named w c l (omega arith))) (λ n.
        by_pick none _ (λ e. short_by _ (size_37 w c (eqb-true c 37 e))) (λ n37.
        by_pick none _ (λ e. short_by _ (size_38 w c (eqb-true c 38 e))) (λ n38.
        by_pick none _ (λ e. short_by _ (size_39 w c (eqb-true c 39 e))) (λ n39.
        by_pick none _ (λ e. short_by _ (size_40 w c (eqb-true c 40 e))) (λ n40.
        by_pick none _ (λ e. short_by _ (size_41 w c (eqb-true c 41 e))) (λ n41.
        let q = ltb-false c 37 n in
        short_by _ (size_between w c (omega arith) (omega arith) (eqb-false c 37 n37) (eqb-false c 38 n38) (eqb-false c 40 n40) (eqb-false c 41 n41))))))))

    short_command : (c ≡ 1 → ⊥) → None ≡ node_by w c s at
    unfolding node_by nonterminal_node_at argument_node_at alternative_node_at attribute_node_at condition_node_at terminal_node_at
    short_command m =
        by_pick none _
        (λ _.
        by_pick none _ (λ e. absurd (m (eqb-true c 1 e))) (λ _.
        by_pick none _ (λ e. short_by _ (size_16 w c (eqb-true c 16 e))) (λ _.
        by_pick none _ (λ e. short_by _ (size_17 w c (eqb-true c 17 e))) (λ _.
        by_pick none _ (λ e. short_by _ (size_18 w c (eqb-true c 18 e))) (λ _.
        by_pick none _ (λ e. short_by _ (size_19 w c (eqb-true c 19 e))) (λ _.
        by_pick none _ (λ e. short_by _ (size_20 w c (eqb-true c 20 e))) (λ _. refl)))))))
        (λ n.
        by_pick none _ (λ e. short_symbol (ltb-false c 32 n) (ltb-true c 45 e)) (λ _.
        by_pick none _ (λ e. let q = eqb-true c 48 e in short_by _ (size_terminal w c (omega arith) (omega arith))) (λ _.
        by_pick none _ (λ e. let q = eqb-true c 49 e in short_by _ (size_terminal w c (omega arith) (omega arith))) (λ _. refl))))

    pub node_short : (c ≡ 1 → ⊥) → None ≡ node_at w s at
    node_short m = node_here None (short_command m)

pub node_outside : (w : ℕ) (s : List ℕ) (at : ℕ) → length s ≤ at → None ≡ node_at w s at
unfolding node_at pick
node_outside w s at h = simp (le-leb (length s) at h)

pub ruleset noding = (rules, short_is, whole_is, span_done, text_none, text_short, text_done, terminal_done, condition_done, node_here, node_text_none, node_text_some, node_short, node_outside)
