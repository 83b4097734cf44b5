-- Whether the operands of a symbol or of a part of an alternative pass, by its bytes: one law for each way out of `passes`, of what it calls, and of `alternative_passes` and `attribute_passes`. Assumes nothing.
use mathlib.Core.Path.{◌≡◌, refl, sym, ap, ◌∙◌}
use mathlib.Core.Bool.{Bool, true, false, not, ◌&&◌, false≢true}
use mathlib.Core.List.{List, []}
use Prim.Native.Nat.{ℕ, ◌+◌, ◌-◌, ◌<◌, ◌≤◌}
use native.Mathlib.Omega.{arith}
use borrow.Author.Rules.{rules}
use borrow.Author.Tests.{lt-ltb, le-ltb, le-leb, ne_eqb, not-true, not-false}
use lib.Dec.{ltb, leb, eqb}
use lib.ListN.{length, get_or}
use Rattle.octets.specs.Working.Choice.{pick}
use Rattle.octets.specs.Plain.Numbers.{le_at, le}
use Rattle.octets.proofs.ChoiceLaws.{by_pick, pick_same}
use Rattle.octets.proofs.NumbersLaws.{length-le}
use Rattle.parse_tree.specs.Plain.Texts.{is_name, is_literal}
use Rattle.parse_tree.specs.Working.Nodes.{symbol_node_at, if_whole, span_in, named_leaf, word_leaf, leaf_operand, size_of}
use Rattle.parse_tree.specs.Working.Questions.{leaf_defined, leaf_suits, symbol_defined, symbol_suits}
use Rattle.parse_tree.specs.declared.syntax.Leaf.{Leaf}
use Rattle.parse_tree.specs.declared.syntax.Around.{Around}
use Rattle.parse_tree.specs.declared.syntax.Over.{Over}
use Rattle.parse_tree.specs.declared.syntax.SymbolKind.{SymbolKind}
use Rattle.parse_tree.specs.declared.syntax.Node.{Node}
use Rattle.parse_tree.proofs.TextLaws.{both}
use Rattle.parse_tree.proofs.SizeLaws.{leaf_size, repeat_size, choose_size, name_size, macro_size, group_size}
use Rattle.texts.specs.Atoms.{atoms_of}
use Rattle.validate.specs.Quick.{Kinded}
use Rattle.validate.specs.declared.Atoms.{Atoms}
use Rattle.std.specs.Prelude.{Option, Some, IfSome}
use Rattle.std.specs.Bool.{then_some}

-- ---- `names`, `quotes`, `named`
pub no_atom : (k j n : ℕ) (b : Bool) → j ≡ k → n ≤ j → false ≡ (ltb k n && b)
no_atom k j n b e h = simp (le-ltb k n (omega arith))

-- four says whether question 4 is asked
module _ (k j n : ℕ) (four b : Bool) (e : j ≡ k) (h : j < n) where
  pub any_atom : not four ≡ true → true ≡ (ltb k n && pick four b true)
  unfolding pick
  any_atom f = simp (lt-ltb k n (omega arith), not-true four f)

  pub one_atom : (c : Bool) → not four ≡ false → c ≡ b → c ≡ (ltb k n && pick four b true)
  unfolding pick
  one_atom c f p = simp (lt-ltb k n (omega arith), not-false four f) p

pub ruleset naming = (rules, no_atom, any_atom, one_atom)

module _ (n : ℕ) (s : List ℕ) (c k : ℕ) (four r : Bool) where
  pub named-quoted : c ≡ 34 → r ≡ (ltb k n && pick four (is_literal (get_or (atoms_of s n) k [])) true) → r ≡ (leaf_defined n (named_leaf c k) && pick four (leaf_suits (atoms_of s n) (named_leaf c k)) true)
  unfolding named_leaf pick leaf_defined leaf_suits
  named-quoted e p = rw e p

  pub named-regex : c ≡ 35 → r ≡ (ltb k n && pick four (is_literal (get_or (atoms_of s n) k [])) true) → r ≡ (leaf_defined n (named_leaf c k) && pick four (leaf_suits (atoms_of s n) (named_leaf c k)) true)
  unfolding named_leaf pick leaf_defined leaf_suits
  named-regex e p = rw e p

  pub named-name : (c ≡ 34 → ⊥) → (c ≡ 35 → ⊥) → r ≡ (ltb k n && pick four (is_name (get_or (atoms_of s n) k [])) true) → r ≡ (leaf_defined n (named_leaf c k) && pick four (leaf_suits (atoms_of s n) (named_leaf c k)) true)
  unfolding named_leaf leaf_defined leaf_suits
  named-name g h p =
      let P : Leaf → Type 0 = λ l. r ≡ (leaf_defined n l && pick four (leaf_suits (atoms_of s n) l) true) in
      by_pick P (eqb c 32) (λ _. p) (λ _. by_pick P (eqb c 33) (λ _. p) (λ _.
      by_pick P (eqb c 34) (λ z. absurd (false≢true (sym (ne_eqb c 34 g) ∙ z))) (λ _. by_pick P (eqb c 35) (λ z. absurd (false≢true (sym (ne_eqb c 35 h) ∙ z))) (λ _. p))))

pub ruleset leafing = (rules, named-quoted, named-regex, named-name)

-- ---- what holds of x where b does
pub some_if : {A : Type 0} (P : A → Type 0) (x : A) (b : Bool) (o : Option A) → (b ≡ true → P x) → o ≡ then_some b x → IfSome o P
some_if P x true o g q = rw q (g refl)
some_if P x false o g q = rw q tt

-- ---- `passes`
-- a kind that passes where b holds
module _ (s : List ℕ) (m : Atoms) (c at : ℕ) (k : SymbolKind) (i : symbol_node_at m.width.bytes c s at ≡ Some (Node.Symbol (span_in s (at + 1)) k)) where
  kinded : (z : ℕ) → true ≡ (symbol_defined m.texts.count k && pick m.four (symbol_suits (atoms_of s m.texts.count) k) true) → z ≡ size_of m.width.bytes (Node.Symbol (span_in s (at + 1)) k)
      → z ≤ 10 + m.width.bytes → Kinded s m c at z
  kinded z p q l =
      let h = both (symbol_defined m.texts.count k) (pick m.four (symbol_suits (atoms_of s m.texts.count) k) true) (sym p) in
      record { kind = k; is = i; defined = h.0; suited = h.1; long = q; small = l }

  kinded_if : (b : Bool) (r : Option ℕ) (z : ℕ) → b ≡ (symbol_defined m.texts.count k && pick m.four (symbol_suits (atoms_of s m.texts.count) k) true) → z ≡ size_of m.width.bytes (Node.Symbol (span_in s (at + 1)) k)
      → z ≤ 10 + m.width.bytes → r ≡ then_some b z → IfSome r (Kinded s m c at)
  kinded_if b r z p q l e = some_if (Kinded s m c at) z b r (λ t. kinded z (sym t ∙ p) q l) e

pub wholly : (s : List ℕ) (at n : ℕ) (x : Node) → at + n ≤ length s → if_whole s at n x ≡ Some x
unfolding if_whole pick
wholly s at n x h = simp (le-ltb (length s - at) n (omega arith))

and-true : (b : Bool) → b ≡ (b && true)
and-true true = refl
and-true false = refl

named-size : (w c a : ℕ) → w ≡ length (leaf_operand w (named_leaf c a))
unfolding named_leaf leaf_operand
named-size w c a =
    let P : Leaf → Type 0 = λ l. w ≡ length (leaf_operand w l) in
    let z : w ≡ length (le w a) = sym (length-le w a) in
    by_pick P (eqb c 32) (λ _. z) (λ _. by_pick P (eqb c 33) (λ _. z) (λ _. by_pick P (eqb c 34) (λ _. z) (λ _. by_pick P (eqb c 35) (λ _. z) (λ _. z))))

bare_size : (w c : ℕ) → 0 ≡ length (leaf_operand w (word_leaf c))
unfolding word_leaf leaf_operand
bare_size w c =
    let P : Leaf → Type 0 = λ l. 0 ≡ length (leaf_operand w l) in
    by_pick P (eqb c 42) (λ _. refl) (λ _. by_pick P (eqb c 43) (λ _. refl) (λ _. refl))

bare_passes : (n : ℕ) (s : List ℕ) (c : ℕ) (four : Bool) → true ≡ (leaf_defined n (word_leaf c) && pick four (leaf_suits (atoms_of s n) (word_leaf c)) true)
unfolding word_leaf leaf_defined leaf_suits
bare_passes n s c four =
    let P : Leaf → Type 0 = λ l. true ≡ (leaf_defined n l && pick four (leaf_suits (atoms_of s n) l) true) in
    let z : true ≡ pick four true true = sym (pick_same four true) in
    by_pick P (eqb c 42) (λ _. z) (λ _. by_pick P (eqb c 43) (λ _. z) (λ _. z))

-- what the code says of the kind
module _ (w : ℕ) (s : List ℕ) (c at : ℕ) (room : at + (10 + w) ≤ length s) (narrow : 2 ≤ w) where
  pub at_named : c < 37 → symbol_node_at w c s at ≡ Some (Node.Symbol (span_in s (at + 1)) (SymbolKind.Leaf (named_leaf c (le_at w s (at + 9)))))
  unfolding symbol_node_at pick
  at_named h = simp (lt-ltb c 37 h) (wholly s at (9 + w) _ (omega arith))

  pub at-macro : c ≡ 37 → symbol_node_at w c s at ≡ Some (Node.Symbol (span_in s (at + 1)) (SymbolKind.Over (Over.Macro (record { 0 = le_at w s (at + 9) }) (get_or s (at + 9 + w) 0))))
  unfolding symbol_node_at pick
  at-macro e = rw e (wholly s at (10 + w) _ (omega arith))

  pub at-repeat : c ≡ 38 → symbol_node_at w c s at ≡ Some (Node.Symbol (span_in s (at + 1)) (SymbolKind.Around (Around.Repeat (get_or s (at + 9) 0))))
  unfolding symbol_node_at pick
  at-repeat e = rw e (wholly s at 10 _ (omega arith))

  pub at-choose : c ≡ 39 → symbol_node_at w c s at ≡ Some (Node.Symbol (span_in s (at + 1)) (SymbolKind.Around Around.Choose))
  unfolding symbol_node_at pick
  at-choose e = rw e (wholly s at 9 _ (omega arith))

  pub at_name : c ≡ 40 → symbol_node_at w c s at ≡ Some (Node.Symbol (span_in s (at + 1)) (SymbolKind.Around (Around.Name (get_or s (at + 9) 0) (record { 0 = le_at w s (at + 10) }))))
  unfolding symbol_node_at pick
  at_name e = rw e (wholly s at (10 + w) _ (omega arith))

  pub at-group : c ≡ 41 → symbol_node_at w c s at ≡ Some (Node.Symbol (span_in s (at + 1)) (SymbolKind.Over (Over.Group (le_at 2 s (at + 9)))))
  unfolding symbol_node_at pick
  at-group e = rw e (wholly s at 11 _ (omega arith))

  pub at_bare : 37 ≤ c → (c ≡ 37 → ⊥) → (c ≡ 38 → ⊥) → (c ≡ 39 → ⊥) → (c ≡ 40 → ⊥) → (c ≡ 41 → ⊥) → symbol_node_at w c s at ≡ Some (Node.Symbol (span_in s (at + 1)) (SymbolKind.Leaf (word_leaf c)))
  unfolding symbol_node_at pick
  at_bare h f37 f38 f39 f40 f41 = simp (le-ltb c 37 h, ne_eqb c 37 f37, ne_eqb c 38 f38, ne_eqb c 39 f39, ne_eqb c 40 f40, ne_eqb c 41 f41) (wholly s at 9 _ (omega arith))

module _ (s : List ℕ) (m : Atoms) (c at : ℕ) (room : at + (10 + m.width.bytes) ≤ length s) where
  pub passes-named : (k : ℕ) (r : Option ℕ) (b : Bool) → c < 37 → k ≡ le_at m.width.bytes s (at + 9) → b ≡ (leaf_defined m.texts.count (named_leaf c k) && pick m.four (leaf_suits (atoms_of s m.texts.count) (named_leaf c k)) true)
      → r ≡ then_some b (9 + m.width.bytes) → IfSome r (Kinded s m c at)
  unfolding symbol_defined symbol_suits
  passes-named k r b h e p q =
      kinded_if s m c at (SymbolKind.Leaf (named_leaf c k)) (at_named m.width.bytes s c at room m.width.narrow h ∙ ap (λ (x : ℕ). Some (Node.Symbol (span_in s (at + 1)) (SymbolKind.Leaf (named_leaf c x)))) (sym e)) b r (9 + m.width.bytes) p
      (leaf_size m.width.bytes _ (span_in s (at + 1)) _ refl (named_leaf c k) m.width.bytes refl (named-size m.width.bytes c k)) (omega arith) q

  pub passes-macro : (k x : ℕ) (r : Option ℕ) (b : Bool) → c ≡ 37 → x ≡ get_or s (at + 9 + m.width.bytes) 0 → 1 ≤ x → k ≡ le_at m.width.bytes s (at + 9) → b ≡ (ltb k m.texts.count && pick m.four (is_name (get_or (atoms_of s m.texts.count) k [])) true)
      → r ≡ then_some b (10 + m.width.bytes) → IfSome r (Kinded s m c at)
  unfolding symbol_defined symbol_suits
  passes-macro k x r b h y f e p q =
      let z : leb 1 (get_or s (at + 9 + m.width.bytes) 0) ≡ true = le-leb 1 (get_or s (at + 9 + m.width.bytes) 0) (omega arith) in
      kinded_if s m c at _ (at-macro m.width.bytes s c at room m.width.narrow h) b r (10 + m.width.bytes) (simp (← e, z, ← and-true (ltb k m.texts.count)) p)
      (macro_size m.width.bytes _ (span_in s (at + 1)) _ refl _ _ _ refl refl) (omega arith) q

  pub passes-repeat : (x : ℕ) (r : Option ℕ) (b : Bool) → c ≡ 38 → x ≡ get_or s (at + 9) 0 → b ≡ leb x 2 → r ≡ then_some b 10 → IfSome r (Kinded s m c at)
  unfolding symbol_defined symbol_suits pick
  passes-repeat x r b h y f q =
      kinded_if s m c at _ (at-repeat m.width.bytes s c at room m.width.narrow h) b r 10 (f ∙ simp (y, pick_same m.four true, ← and-true (leb (get_or s (at + 9) 0) 2)))
      (repeat_size m.width.bytes _ (span_in s (at + 1)) _ refl _ _ refl refl) (omega arith) q

  pub passes-choose : c ≡ 39 → Kinded s m c at 9
  unfolding symbol_defined symbol_suits pick
  passes-choose h =
      kinded s m c at _ (at-choose m.width.bytes s c at room m.width.narrow h) 9 (sym (pick_same m.four true)) (choose_size m.width.bytes _ (span_in s (at + 1)) _ refl _ refl refl) (omega arith)

  pub passes-name : (k x : ℕ) (r : Option ℕ) (b : Bool) → c ≡ 40 → x ≡ get_or s (at + 9) 0 → x ≤ 1 → k ≡ le_at m.width.bytes s (at + 10) → b ≡ (ltb k m.texts.count && pick m.four (is_name (get_or (atoms_of s m.texts.count) k [])) true)
      → r ≡ then_some b (10 + m.width.bytes) → IfSome r (Kinded s m c at)
  unfolding symbol_defined symbol_suits
  passes-name k x r b h y f e p q =
      let z : leb (get_or s (at + 9) 0) 1 ≡ true = le-leb (get_or s (at + 9) 0) 1 (omega arith) in
      kinded_if s m c at _ (at_name m.width.bytes s c at room m.width.narrow h) b r (10 + m.width.bytes) (simp (← e, z) p)
      (name_size m.width.bytes _ (span_in s (at + 1)) _ refl _ _ _ refl refl) (omega arith) q

  pub passes-group : c ≡ 41 → Kinded s m c at 11
  unfolding symbol_defined symbol_suits pick
  passes-group h =
      kinded s m c at _ (at-group m.width.bytes s c at room m.width.narrow h) 11 (sym (pick_same m.four true)) (group_size m.width.bytes _ (span_in s (at + 1)) _ refl _ _ refl refl) (omega (arith, m.width.narrow))

  pub passes-bare : 37 ≤ c → (c ≡ 37 → ⊥) → (c ≡ 38 → ⊥) → (c ≡ 39 → ⊥) → (c ≡ 40 → ⊥) → (c ≡ 41 → ⊥) → Kinded s m c at 9
  unfolding symbol_defined symbol_suits pick
  passes-bare h f37 f38 f39 f40 f41 =
      kinded s m c at (SymbolKind.Leaf (word_leaf c)) (at_bare m.width.bytes s c at room m.width.narrow h f37 f38 f39 f40 f41) 9 (bare_passes m.texts.count s c m.four)
      (leaf_size m.width.bytes _ (span_in s (at + 1)) _ refl (word_leaf c) 0 refl (bare_size m.width.bytes c)) (omega arith)

pub ruleset passing = (rules, passes-named, passes-macro, passes-repeat, passes-choose, passes-name, passes-group, passes-bare)

-- ---- `alternative_passes`, `attribute_passes`: d is whether the operands are defined
module _ (x d : Bool) (e : d ≡ x) where
  pub passing_undefined : (b : Bool) → not d ≡ true → false ≡ (x && b)
  passing_undefined b h = rw (← e, not-true d h)

  module _ (four b : Bool) (h : not d ≡ false) where
    pub passing_unasked : not four ≡ true → true ≡ (x && pick four b true)
    unfolding pick
    passing_unasked f = rw (← e, not-false d h, not-true four f)

    pub passing_asked : (r : Bool) → not four ≡ false → r ≡ b → r ≡ (x && pick four b true)
    unfolding pick
    passing_asked r f p = rw (← e, not-false d h, not-false four f) p

pub ruleset passing_both = (rules, passing_undefined, passing_unasked, passing_asked)
