-- The loop of `symbols`, and the ways out of `symbol`. Assumes nothing.
use mathlib.Core.Path.{◌≡◌, sym, ap, ◌∙◌}
use mathlib.Core.Bool.{Bool}
use mathlib.Core.List.{List, [], ◌∷◌}
use denote.Enum.Declared.{tag_of}
use types.Run.{OneOf}
use Rattle.parse_tree.specs.contracts.syntax.Node.{the_type}
use Prim.Native.Nat.{ℕ, zero, suc, ◌+◌, ◌-◌, ◌<◌, ◌≤◌}
use native.Mathlib.Omega.{arith}
use borrow.Author.Rules.{rules}
use Rattle.parse_tree.specs.Plain.Tree.{Text, Sym, syms_of}
use Rattle.parse_tree.specs.Working.Places.{symbols_place}
use Rattle.parse_tree.specs.Plain.Reading.{Reading, got, then, times}
use Rattle.parse_tree.specs.Working.Expect.{expect_symbol}
use Rattle.parse_tree.specs.Working.Operands.{leaf_of, around_of, over_of, inside_of}
use Rattle.parse_tree.specs.Working.Decode.{ask, read_sym}
use Rattle.parse_tree.specs.declared.syntax.Span.{Span}
use Rattle.parse_tree.specs.declared.syntax.NonterminalString.{NonterminalString}
use Rattle.parse_tree.specs.declared.syntax.Leaf.{Leaf}
use Rattle.parse_tree.specs.declared.syntax.Around.{Around}
use Rattle.parse_tree.specs.declared.syntax.Over.{Over}
use Rattle.parse_tree.specs.declared.syntax.SymbolKind.{SymbolKind}
use Rattle.parse_tree.specs.declared.refusal.Refusal.{Refusal}
use Rattle.parse_tree.specs.declared.syntax.Node.{Node}
use Rattle.texts.specs.Atoms.{atoms_of}
use Rattle.validate.specs.Steps.{asked_of, step_of, Refuses}
use Rattle.std.specs.Prelude.{Result, Ok, Err}
use Rattle.validate.proofs.CommandKinds.{no_symbol}
use Rattle.validate.proofs.CommandCode.{Stands, stands, asked_got, asked_refused, refuses_step, then_is, refuses_then, step_then, times_none, times-next, times-stop}

-- ---- `symbols`
module _ (four : Bool) (s : List ℕ) (w atoms left k p : ℕ) (x : Result ℕ Refusal) (inv : step_of (times (read_sym four w s (atoms_of s atoms) left) k p) ≡ x) (r : Result ℕ Refusal) (i : r ≡ step_of (read_sym four w s (atoms_of s atoms) left p)) where
  pub symbols_next : (e j : ℕ) → r ≡ Ok e → k ≡ j + 1 → step_of (times (read_sym four w s (atoms_of s atoms) left) j e) ≡ x
  symbols_next e j q h = times-next (read_sym four w s (atoms_of s atoms) left) k p x inv e j (sym q ∙ i) h

  pub symbols_stop : (z : Refusal) → r ≡ Err z → 0 < k → Err z ≡ x
  symbols_stop z u h = times-stop (read_sym four w s (atoms_of s atoms) left) k p x inv z (sym u ∙ i) h

pub symbols_none : (four : Bool) (s : List ℕ) (w atoms left k p : ℕ) (x : Result ℕ Refusal) → step_of (times (read_sym four w s (atoms_of s atoms) left) k p) ≡ x → k ≤ 0 → Ok p ≡ x
symbols_none four s w atoms left k p x inv h = times_none (read_sym four w s (atoms_of s atoms) left) k p x inv h

-- ---- `symbol`
-- what stands behind a symbol's command, with l levels left inside
unfoldable in_symbol : Bool → ℕ → List ℕ → List Text → ℕ → Span → SymbolKind → ℕ → Reading Sym
in_symbol four w s ts l sp k e = elim k [
  | SymbolKind.Leaf x ↦ got (Sym.leaf sp (leaf_of ts x)) e
  | SymbolKind.Around a ↦ then (read_sym four w s ts l e) (λ x e'. got (Sym.around sp (around_of ts a) x) e')
  | SymbolKind.Over o ↦ then (times (read_sym four w s ts l) (inside_of o) e) (λ xs e'. got (Sym.over sp (over_of ts o) (syms_of xs)) e')
]

-- r is what `command` answered
module _ (four : Bool) (s : List ℕ) (w atoms left at : ℕ) (r : Result (Node × ℕ) Refusal) (i : r ≡ asked_of (ask four w s (atoms_of s atoms) symbols_place left at)) where
  pub symbol_refused : (z : Refusal) → r ≡ Err z → Err z ≡ step_of (read_sym four w s (atoms_of s atoms) left at)
  unfolding read_sym step_of
  symbol_refused z u = go left (asked_refused (ask four w s (atoms_of s atoms) symbols_place left at) z (sym u ∙ i))
    where
      go : (l : ℕ) → Refuses (ask four w s (atoms_of s atoms) symbols_place l at) z → Err z ≡ step_of (read_sym four w s (atoms_of s atoms) l at)
      go zero n = refuses_step _ z (refuses_then (ask four w s (atoms_of s atoms) symbols_place zero at) _ z n)
      go (suc l) n = refuses_step _ z (refuses_then (ask four w s (atoms_of s atoms) symbols_place (suc l) at) _ z n)

  module _ (n : Node) (e : ℕ) (q : r ≡ Ok (n, e)) where
    asked : ask four w s (atoms_of s atoms) symbols_place left at ≡ got n e
    asked = asked_got (ask four w s (atoms_of s atoms) symbols_place left at) n e (sym q ∙ i)

    stood : Stands symbols_place left n
    stood = stands four s w atoms symbols_place left at n e asked

    pub symbol_deep : 1 ≤ left
    symbol_deep = omega (arith, stood.deep)

    pub symbol_other : OneOf (0 ∷ 1 ∷ 2 ∷ 3 ∷ 4 ∷ 5 ∷ 6 ∷ []) (tag_of the_type n) → ⊥
    symbol_other o = no_symbol n o stood.allowed

    read : (l : ℕ) → left ≡ suc l → read_sym four w s (atoms_of s atoms) left at ≡ expect_symbol at (in_symbol four w s (atoms_of s atoms) l) n e
    unfolding read_sym in_symbol
    read l z = rw z (then_is (ask four w s (atoms_of s atoms) symbols_place (suc l) at) _ n e (rw z at asked))

    level : left ≡ suc (left - 1)
    level = omega (arith, stood.deep)

    -- a symbol of each shape
    module _ (sp : Span) (k : SymbolKind) (u : n ≡ Node.Symbol sp k) where
      kind : read_sym four w s (atoms_of s atoms) left at ≡ in_symbol four w s (atoms_of s atoms) (left - 1) sp k e
      unfolding expect_symbol
      kind = read (left - 1) level ∙ ap (λ (x : Node). expect_symbol at (in_symbol four w s (atoms_of s atoms) (left - 1)) x e) u

      pub symbol_leaf : (l : Leaf) → k ≡ SymbolKind.Leaf l → Ok e ≡ step_of (read_sym four w s (atoms_of s atoms) left at)
      unfolding in_symbol step_of
      symbol_leaf l v = sym (ap step_of (kind ∙ ap (λ (x : SymbolKind). in_symbol four w s (atoms_of s atoms) (left - 1) sp x e) v))

      pub symbol_around : (a : Around) (y : Result ℕ Refusal) → k ≡ SymbolKind.Around a → y ≡ step_of (read_sym four w s (atoms_of s atoms) (left - 1) e) → y ≡ step_of (read_sym four w s (atoms_of s atoms) left at)
      unfolding in_symbol
      symbol_around a y v o =
          o ∙ sym (step_then (read_sym four w s (atoms_of s atoms) (left - 1) e) (Sym.around sp (around_of (atoms_of s atoms) a)))
          ∙ sym (ap step_of (kind ∙ ap (λ (x : SymbolKind). in_symbol four w s (atoms_of s atoms) (left - 1) sp x e) v))

      pub symbol_over : (x : Over) (j : ℕ) (y : Result ℕ Refusal) → k ≡ SymbolKind.Over x → j ≡ inside_of x → y ≡ step_of (times (read_sym four w s (atoms_of s atoms) (left - 1)) j e)
          → y ≡ step_of (read_sym four w s (atoms_of s atoms) left at)
      unfolding in_symbol
      symbol_over x j y v t o =
          o ∙ ap (λ (c : ℕ). step_of (times (read_sym four w s (atoms_of s atoms) (left - 1)) c e)) t
          ∙ sym (step_then (times (read_sym four w s (atoms_of s atoms) (left - 1)) (inside_of x) e) (λ xs. Sym.over sp (over_of (atoms_of s atoms) x) (syms_of xs)))
          ∙ sym (ap step_of (kind ∙ ap (λ (z : SymbolKind). in_symbol four w s (atoms_of s atoms) (left - 1) sp z e) v))

pub inside-macro : (o : Over) (x : NonterminalString) (k r : ℕ) → o ≡ Over.Macro x k → r ≡ k → r ≡ inside_of o
unfolding inside_of
inside-macro o x k r e p = rw e p

pub inside-group : (o : Over) (k r : ℕ) → o ≡ Over.Group k → r ≡ k → r ≡ inside_of o
unfolding inside_of
inside-group o k r e p = rw e p

pub ruleset insides = (rules, inside-macro, inside-group)

pub ruleset walking = (rules, symbols_next, symbols_stop, symbols_none, symbol_refused, symbol_deep, symbol_other, symbol_leaf, symbol_around, symbol_over)
