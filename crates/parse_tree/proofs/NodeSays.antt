-- What is read is what stands there: the command that `node_at` gives lies at its place, whole, and each operand fits its width. Assumes nothing.
use mathlib.Core.Path.{◌≡◌, refl, sym}
use mathlib.Core.Logic.{◌⊎◌, inl, inr}
use mathlib.Core.List.{List, []}
use Prim.Native.Nat.{ℕ, ◌+◌, ◌-◌, ◌^◌, ◌<◌, ◌≤◌}
use native.Mathlib.Omega.{arith}
use lib.ListN.{length, get_or}
use Rattle.std.specs.Prelude.{Option}
use lib.Dec.{ltb, eqb}
use borrow.Author.Tests.{ltb-true, ltb-false, leb-false, eqb-true, eqb-false}
use Rattle.octets.specs.Working.Choice.{pick}
use Rattle.octets.specs.Plain.Numbers.{le_at, le, Bytes}
use Rattle.octets.specs.Plain.Runs.{Lies}
use Rattle.octets.proofs.ChoiceLaws.{by_pick}
use Rattle.octets.proofs.LiesLaws.{lies_none, lies_to, le_at-lt}
use Rattle.parse_tree.specs.Working.Nodes.{leaf_code, leaf_operand, symbol_bytes, node_bytes, size_of, if_whole, span_in, named_leaf, word_leaf, symbol_node_at, text_node, nonterminal_node_at, terminal_node_at, argument_node_at, alternative_node_at, attribute_node_at, condition_node_at, node_by, node_at}
use Rattle.parse_tree.specs.declared.syntax.Leaf.{Leaf}
use Rattle.parse_tree.specs.declared.syntax.Around.{Around}
use Rattle.parse_tree.specs.declared.syntax.Over.{Over}
use Rattle.parse_tree.specs.declared.syntax.SymbolKind.{SymbolKind}
use Rattle.parse_tree.specs.declared.syntax.Node.{Node}
use Rattle.parse_tree.proofs.NodeFits.{LeafFits, NodeFits, TextFits, Stands, NodeSays}
use Rattle.parse_tree.proofs.SpanLaws.{span_fits}
use Rattle.parse_tree.proofs.FieldLaws.{byte_then, le_then, span_then, le-last, span_last}

-- ---- a leaf, by its code
abbrev LeafSays : ℕ → ℕ → List ℕ → Leaf → Type 0
LeafSays w c xs l = (leaf_code l ≡ c) × (leaf_operand w l ≡ xs) × LeafFits w l

named-says : (w c v : ℕ) → 32 ≤ c → c < 37 → v < 256 ^ w → LeafSays w c (le w v) (named_leaf c v)
unfolding leaf_code leaf_operand named_leaf
named-says w c v l h f =
    by_pick (LeafSays w c (le w v)) _ (λ p. (sym (eqb-true c 32 p), refl, f)) (λ n2.
    by_pick (LeafSays w c (le w v)) _ (λ p. (sym (eqb-true c 33 p), refl, f)) (λ n3.
    by_pick (LeafSays w c (le w v)) _ (λ p. (sym (eqb-true c 34 p), refl, f)) (λ n4.
    by_pick (LeafSays w c (le w v)) _ (λ p. (sym (eqb-true c 35 p), refl, f)) (λ n5.
    (omega (arith, eqb-false c 32 n2, eqb-false c 33 n3, eqb-false c 34 n4, eqb-false c 35 n5), refl, f)))))

bare_says : (w c : ℕ) → 42 ≤ c → c < 45 → LeafSays w c [] (word_leaf c)
unfolding leaf_code leaf_operand word_leaf
bare_says w c l h =
    by_pick (LeafSays w c []) _ (λ p. (sym (eqb-true c 42 p), refl, tt)) (λ n2.
    by_pick (LeafSays w c []) _ (λ p. (sym (eqb-true c 43 p), refl, tt)) (λ n3.
    (omega (arith, eqb-false c 42 n2, eqb-false c 43 n3), refl, tt)))

module _ (w : ℕ) (s : List ℕ) (a : ℕ) (b : Bytes s) (inside : a < length s) where
  if_whole_lem : (n : ℕ) (x : Node) → (a + n ≤ length s → Stands w s a x) → NodeSays w s a (if_whole s a n x)
  unfolding if_whole
  if_whole_lem n x f = by_pick (NodeSays w s a) _ (λ _. tt) (λ h. let k = ltb-false (length s - a) n h in f (omega arith))

  stands : (n : ℕ) (x : Node) → NodeFits w x → TextFits s a x → Lies s a (node_bytes w x) (a + n) → Stands w s a x
  unfolding size_of
  stands n x f t l = record { lies = lies_to l.end l; fits = f; text = t }

  -- a command that is whole in n bytes
  known : (n : ℕ) (x : Node) → NodeFits w x → TextFits s a x → (a + n ≤ length s → Lies s a (node_bytes w x) (a + n)) → NodeSays w s a (if_whole s a n x)
  known n x f t l = if_whole_lem n x (λ h. stands n x f t (l h))

  text_says : get_or s a 0 ≡ 1 → NodeSays w s a (text_node s a)
  unfolding text_node node_bytes
  text_says c =
      by_pick (NodeSays w s a) _ (λ _. tt) (λ z. let h : a + 3 ≤ length s = let y = ltb-false (length s - a) 3 z in omega arith in if_whole_lem _ _ (λ k.
      stands 3 (Node.Text (le_at 2 s (a + 1))) (le_at-lt 2 s (a + 1) b) (omega arith) (byte_then b h (a + 1) refl c (le-last b h 2 (omega arith)))))

  nonterminal_says_lem : get_or s a 0 ≡ 16 → NodeSays w s a (nonterminal_node_at w s a)
  unfolding nonterminal_node_at node_bytes
  nonterminal_says_lem c =
      known (13 + w) _ (span_fits s (a + 1) b, le_at-lt w s (a + 9) b, b _, b _, le_at-lt 2 s (a + 11 + w) b) tt (λ h.
      byte_then b h (a + 1) refl c (span_then b h (a + 9) (omega arith) (le_then b h w (a + 9 + w) refl
      (byte_then b h (a + 10 + w) (omega arith) refl (byte_then b h (a + 11 + w) (omega arith) refl (le-last b h 2 (omega arith)))))))

  argument-says : get_or s a 0 ≡ 17 → NodeSays w s a (argument_node_at w s a)
  unfolding argument_node_at node_bytes
  argument-says c = known (1 + w) _ (le_at-lt w s (a + 1) b) tt (λ h. byte_then b h (a + 1) refl c (le-last b h w (omega arith)))

  alternative_says : get_or s a 0 ≡ 18 → NodeSays w s a (alternative_node_at w s a)
  unfolding alternative_node_at node_bytes
  alternative_says c =
      known (14 + w) _ (span_fits s (a + 1) b, b _, b _, b _, le_at-lt w s (a + 12) b, le_at-lt 2 s (a + 12 + w) b) tt (λ h.
      byte_then b h (a + 1) refl c (span_then b h (a + 9) (omega arith)
      (byte_then b h (a + 10) (omega arith) refl (byte_then b h (a + 11) (omega arith) refl (byte_then b h (a + 12) (omega arith) refl
      (le_then b h w (a + 12 + w) refl (le-last b h 2 (omega arith))))))))

  attribute_says : get_or s a 0 ≡ 19 → NodeSays w s a (attribute_node_at w s a)
  unfolding attribute_node_at node_bytes
  attribute_says c =
      known (2 + w + w + w) _ (le_at-lt w s (a + 1) b, b _, le_at-lt w s (a + 2 + w) b, le_at-lt w s (a + 2 + w + w) b) tt (λ h.
      byte_then b h (a + 1) refl c (le_then b h w (a + 1 + w) refl (byte_then b h (a + 2 + w) (omega arith) refl
      (le_then b h w (a + 2 + w + w) refl (le-last b h w (omega arith))))))

  condition_says_lem : get_or s a 0 ≡ 20 → NodeSays w s a (condition_node_at w s a)
  unfolding condition_node_at node_bytes
  condition_says_lem c =
      known (10 + w + w) _ (span_fits s (a + 1) b, le_at-lt w s (a + 9) b, b _, le_at-lt w s (a + 10 + w) b) tt (λ h.
      byte_then b h (a + 1) refl c (span_then b h (a + 9) (omega arith) (le_then b h w (a + 9 + w) refl
      (byte_then b h (a + 10 + w) (omega arith) refl (le-last b h w (omega arith))))))

  terminal_says : (get_or s a 0 ≡ 48) ⊎ (get_or s a 0 ≡ 49) → NodeSays w s a (terminal_node_at w (get_or s a 0) s a)
  unfolding terminal_node_at node_bytes
  terminal_says c =
      known (9 + w) _ (span_fits s (a + 1) b, le_at-lt w s (a + 9) b, c) tt (λ h.
      byte_then b h (a + 1) refl refl (span_then b h (a + 9) (omega arith) (le-last b h w (omega arith))))

  -- a leaf, whose code and operand `LeafSays` tells
  leaf_says : (n : ℕ) (l : Leaf) (xs : List ℕ) → LeafSays w (get_or s a 0) xs l → (a + n ≤ length s → Lies s (a + 9) xs (a + n))
      → NodeSays w s a (if_whole s a n (Node.Symbol (span_in s (a + 1)) (SymbolKind.Leaf l)))
  unfolding node_bytes symbol_bytes
  leaf_says n l xs f g =
      known n _ (span_fits s (a + 1) b, f.2) tt (λ h.
      rw (f.0, f.1) (byte_then b h (a + 1) refl refl (span_then b h (a + 9) (omega arith) (g h))))

  macro_says_lem : get_or s a 0 ≡ 37
      → NodeSays w s a (if_whole s a (10 + w) (Node.Symbol (span_in s (a + 1)) (SymbolKind.Over (Over.Macro (record { 0 = le_at w s (a + 9) }) (get_or s (a + 9 + w) 0)))))
  unfolding node_bytes symbol_bytes
  macro_says_lem c =
      known (10 + w) _ (span_fits s (a + 1) b, (le_at-lt w s (a + 9) b, b _)) tt (λ h.
      byte_then b h (a + 1) refl c (span_then b h (a + 9) (omega arith) (le_then b h w (a + 9 + w) refl (byte_then b h (a + (10 + w)) (omega arith) refl (lies_none s _)))))

  repeat_says : get_or s a 0 ≡ 38 → NodeSays w s a (if_whole s a 10 (Node.Symbol (span_in s (a + 1)) (SymbolKind.Around (Around.Repeat (get_or s (a + 9) 0)))))
  unfolding node_bytes symbol_bytes
  repeat_says c =
      known 10 _ (span_fits s (a + 1) b, b _) tt (λ h.
      byte_then b h (a + 1) refl c (span_then b h (a + 9) (omega arith) (byte_then b h (a + 10) (omega arith) refl (lies_none s _))))

  choose_says : get_or s a 0 ≡ 39 → NodeSays w s a (if_whole s a 9 (Node.Symbol (span_in s (a + 1)) (SymbolKind.Around Around.Choose)))
  unfolding node_bytes symbol_bytes
  choose_says c = known 9 _ (span_fits s (a + 1) b, tt) tt (λ h. byte_then b h (a + 1) refl c (span_last b h (omega arith)))

  name_says : get_or s a 0 ≡ 40
      → NodeSays w s a (if_whole s a (10 + w) (Node.Symbol (span_in s (a + 1)) (SymbolKind.Around (Around.Name (get_or s (a + 9) 0) (record { 0 = le_at w s (a + 10) })))))
  unfolding node_bytes symbol_bytes
  name_says c =
      known (10 + w) _ (span_fits s (a + 1) b, (b _, le_at-lt w s (a + 10) b)) tt (λ h.
      byte_then b h (a + 1) refl c (span_then b h (a + 9) (omega arith) (byte_then b h (a + 10) (omega arith) refl (le-last b h w (omega arith)))))

  group_says : get_or s a 0 ≡ 41 → NodeSays w s a (if_whole s a 11 (Node.Symbol (span_in s (a + 1)) (SymbolKind.Over (Over.Group (le_at 2 s (a + 9))))))
  unfolding node_bytes symbol_bytes
  group_says c =
      known 11 _ (span_fits s (a + 1) b, le_at-lt 2 s (a + 9) b) tt (λ h.
      byte_then b h (a + 1) refl c (span_then b h (a + 9) (omega arith) (le-last b h 2 (omega arith))))

  -- ---- by the code
  is_code : (k : ℕ) (x y : Option Node) → (get_or s a 0 ≡ k → NodeSays w s a x) → ((get_or s a 0 ≡ k → ⊥) → NodeSays w s a y) → NodeSays w s a (pick (eqb (get_or s a 0) k) x y)
  is_code k x y f g = by_pick (NodeSays w s a) _ (λ p. f (eqb-true (get_or s a 0) k p)) (λ p. g (eqb-false (get_or s a 0) k p))

  under : (k : ℕ) (x y : Option Node) → (get_or s a 0 < k → NodeSays w s a x) → (k ≤ get_or s a 0 → NodeSays w s a y) → NodeSays w s a (pick (ltb (get_or s a 0) k) x y)
  under k x y f g = by_pick (NodeSays w s a) _ (λ p. f (ltb-true (get_or s a 0) k p)) (λ p. g (ltb-false (get_or s a 0) k p))

  symbol_says : 32 ≤ get_or s a 0 → get_or s a 0 < 45 → NodeSays w s a (symbol_node_at w (get_or s a 0) s a)
  unfolding symbol_node_at
  symbol_says l g =
      under 37 _ _ (λ c. leaf_says (9 + w) _ _ (named-says w (get_or s a 0) (le_at w s (a + 9)) l c (le_at-lt w s (a + 9) b)) (λ h. le-last b h w (omega arith))) (λ n0.
      is_code 37 _ _ macro_says_lem (λ n1.
      is_code 38 _ _ repeat_says (λ n2.
      is_code 39 _ _ choose_says (λ n3.
      is_code 40 _ _ name_says (λ n4.
      is_code 41 _ _ group_says (λ n5.
      leaf_says 9 _ _ (bare_says w (get_or s a 0) (omega arith) g) (λ h. lies_none s (a + 9))))))))

  by_says : NodeSays w s a (node_by w (get_or s a 0) s a)
  unfolding node_by
  by_says =
      under 32 _ _
      (λ _.
      is_code 1 _ _ text_says (λ _.
      is_code 16 _ _ nonterminal_says_lem (λ _.
      is_code 17 _ _ argument-says (λ _.
      is_code 18 _ _ alternative_says (λ _.
      is_code 19 _ _ attribute_says (λ _.
      is_code 20 _ _ condition_says_lem (λ _. tt)))))))
      (λ l.
      under 45 _ _ (symbol_says l) (λ _.
      is_code 48 _ _ (λ c. terminal_says (inl c)) (λ _.
      is_code 49 _ _ (λ c. terminal_says (inr c)) (λ _. tt))))

pub node_says : (w : ℕ) (s : List ℕ) (a : ℕ) → Bytes s → NodeSays w s a (node_at w s a)
unfolding node_at
node_says w s a b = by_pick (NodeSays w s a) _ (λ _. tt) (λ h. by_says w s a b (leb-false (length s) a h))
