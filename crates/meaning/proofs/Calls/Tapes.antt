-- A tree that was read from a tape has names where names stand: so what demand 3 asks of it is all that the proofs need. Assumes nothing.
use mathlib.Core.Path.{◌≡◌, ap, ◌∙◌}
use mathlib.Core.Logic.{◌⊎◌, inl, inr}
use mathlib.Core.Bool.{true, false≢true}
use mathlib.Core.List.{List, [], ◌∷◌}
use Prim.Native.Nat.{ℕ, zero, suc}
use Rattle.octets.specs.Working.Choice.{pick}
use Rattle.octets.specs.Plain.Runs.{same_as}
use Rattle.octets.proofs.SameLaws.{same_as-eq}
use Rattle.parse_tree.specs.Plain.Tree.{Text, Leaf, Around, Over, Sym, Syms, ambiguous, bare, quoted, regex, nonterminal, lookahead, lookbehind, error, repeat, choose, name, macro, group, leaf, around, over, nil, cons, Item, item, Stage}
use Rattle.parse_tree.specs.Plain.Texts.{is_name}
use Rattle.parse_tree.specs.Working.Within.{Each, Uses, LeafWithin, AroundWithin, OverWithin, SymWithin, SymsWithin, NonterminalWithin, ItemWithin, StageWithin}
use Rattle.passes.specs.Outcome.{Tree}
use Rattle.meaning.specs.Meaning.{is_terminal}
use Rattle.meaning.specs.Premises.{UnmarkedLeaf, UnmarkedSym, UnmarkedSyms, Unmarked}
use Rattle.meaning.proofs.Predicates.{UnresolvedLeaf, NamedAround, NamedOver, UnresolvedSym, UnresolvedSyms, Unresolved}
use Rattle.meaning.proofs.Basics.{or_cases, each_at}

module _ (ts : List Text) where
  used : (x : Text) → Uses true 2 ts is_name x → is_name x ≡ true
  unfolding pick
  used x u = u.2

  leaf_named : (l : Leaf) → LeafWithin true 2 ts l → UnmarkedLeaf l → UnresolvedLeaf l
  leaf_named (ambiguous n) w u = used n w
  leaf_named (bare n) w u = u
  leaf_named (quoted t) w u = tt
  leaf_named (regex t) w u = tt
  leaf_named (nonterminal n) w u = u
  leaf_named lookahead w u = tt
  leaf_named lookbehind w u = tt
  leaf_named error w u = tt

  around_named : (a : Around) → AroundWithin true 2 ts a → NamedAround a
  around_named (repeat o) w = tt
  around_named choose w = tt
  around_named (name m n) w = used n w

  over_named : (o : Over) (k : ℕ) → OverWithin true 2 ts o k → NamedOver o
  over_named (macro n) k w = used n w.0
  over_named group k w = tt

  mutual
    sym_named : (x : Sym) (left : ℕ) → SymWithin true 2 ts x left → UnmarkedSym x → UnresolvedSym x
    sym_named (leaf s l) zero w u = absurd w
    sym_named (leaf s l) (suc left) w u = leaf_named l w.1 u
    sym_named (around s a x) zero w u = absurd w
    sym_named (around s a x) (suc left) w u = (around_named a w.1, sym_named x left w.2 u)
    sym_named (over s o xs) zero w u = absurd w
    sym_named (over s o xs) (suc left) w u = (over_named o _ w.1, syms_named xs left w.2 u)

    syms_named : (xs : Syms) (left : ℕ) → SymsWithin true 2 ts xs left → UnmarkedSyms xs → UnresolvedSyms xs
    syms_named nil left w u = tt
    syms_named (cons x xs) left w u = (sym_named x left w.0 u.0, syms_named xs left w.1 u.1)

  terminal_named : (U : Tree) → Each (ItemWithin true 2 ts) U → (n : Text) → is_terminal U n ≡ true → is_name n ≡ true
  terminal_named [] h n t = absurd (false≢true t)
  terminal_named (item d ∷ rest) h n t = terminal_named rest h.1 n t
  terminal_named (Item.terminal s o x ∷ rest) h n t = go (or_cases (same_as n x) (is_terminal rest n) t) (λ e. terminal_named rest h.1 n e)
    where
      go : (same_as n x ≡ true) ⊎ (is_terminal rest n ≡ true) → (is_terminal rest n ≡ true → is_name n ≡ true) → is_name n ≡ true
      go (inl e) f = ap is_name (same_as-eq n x e) ∙ used x h.0.1
      go (inr e) f = f e

-- question 4 gave the names
pub unresolved : (u : Stage) → StageWithin true 2 u → Unmarked u.items → Unresolved u.items
unresolved u w p = record {
  symbols = λ d i a j.
      (let n : NonterminalWithin true 2 u.atoms d = each_at (ItemWithin true 2 u.atoms) u.items (item d) w.items i in
      syms_named u.atoms a.symbols 64 (each_at _ d.alternatives a n.alternatives j).symbols (p.symbols d i a j));
  names = λ d i. used u.atoms d.name (each_at (ItemWithin true 2 u.atoms) u.items (item d) w.items i).name;
  terminals = λ n t. terminal_named u.atoms u.items w.items n t;
  no_macro = p.no_macro;
}
