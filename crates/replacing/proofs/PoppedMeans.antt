-- The item of a place that is taken off the pile is the item of the symbol that was pushed. Assumes nothing.
use mathlib.Core.Path.{◌≡◌, refl, sym, ap, ◌∙◌}
use mathlib.Core.Bool.{Bool, true, false≢true}
use mathlib.Core.List.{List, [], ◌∷◌, map}
use Prim.Native.Nat.{ℕ, suc, ◌+◌, ◌≤◌}
use native.Mathlib.Omega.{arith}
use Rattle.octets.specs.Plain.Numbers.{Bytes}
use Rattle.parse_tree.specs.Plain.Tree.{Text, Leaf, Around, ambiguous, bare, quoted, regex, nonterminal, lookahead, lookbehind, error, repeat, choose, name, Sym, Nonterminal, Item, item, leaf, around, over, syms_of}
use Rattle.parse_tree.specs.Plain.Display.{print}
use Rattle.parse_tree.specs.Working.Nodes.{size_read}
use Rattle.parse_tree.specs.Working.Places.{symbols_place}
use Rattle.parse_tree.specs.Plain.Reading.{Reading, got, then, times}
use Rattle.parse_tree.specs.Working.Operands.{leaf_of, around_of, over_of, inside_of}
use Rattle.parse_tree.specs.Working.Decode.{read_sym}
use Rattle.parse_tree.specs.Working.Within.{Each}
use Rattle.parse_tree.specs.declared.syntax.Span.{Span}
use Rattle.parse_tree.specs.declared.syntax.SymbolKind.{SymbolKind}
use Rattle.parse_tree.proofs.ReadingLaws.{then-got, got_as}
use Rattle.parse_tree.proofs.Expecting.{symbol_wanted}
use Rattle.passes.specs.Outcome.{Tree, Outcome, yes, after}
use Rattle.passes.specs.Views.{as_look}
use Rattle.passes.specs.Macros.{expand_over, expand_symbol, drain}
use Rattle.replacing.specs.Trees.{renamed, renamed_all, inner, is_key}
use Rattle.replacing.specs.Prints.{sym_at, print_at}
use Rattle.replacing.specs.Popped.{list_in, expand_look, expand_around, syms_at, expand_kind, expand_node, expand_at, drain_at}
use Rattle.replacing.proofs.TreesMean.{print-inner}
use Rattle.replacing.proofs.Keys.{sym_key}
use Rattle.replacing.proofs.Readings.{Standing, stands_then, times-also, read_more}
use Rattle.replacing.proofs.PlacesMean.{Firm, sym_here}

-- the key of a pushed symbol is the print of the symbol as it stood
leaf_popped : (G : Tree) (sp : Span) (l : Leaf) → is_key (leaf sp l) ≡ true → expand_symbol G (inner (leaf sp l)) ≡ expand_look sp (print (leaf sp l)) (as_look l)
unfolding expand_symbol inner
leaf_popped G sp (ambiguous n) k = absurd (false≢true k)
leaf_popped G sp (bare n) k = absurd (false≢true k)
leaf_popped G sp (quoted t) k = absurd (false≢true k)
leaf_popped G sp (regex t) k = absurd (false≢true k)
leaf_popped G sp (nonterminal n) k = absurd (false≢true k)
leaf_popped G sp lookahead k = refl
leaf_popped G sp lookbehind k = refl
leaf_popped G sp error k = absurd (false≢true k)

around_popped : (G : Tree) (sp : Span) (a : Around) (x : Sym) → is_key (around sp a x) ≡ true → expand_symbol G (inner (around sp a x)) ≡ expand_around sp (print (around sp a x)) a (renamed x)
unfolding expand_symbol inner
around_popped G sp (repeat o) x k = ap (λ (t : Text). expand_around sp t (repeat o) (renamed x)) (print-inner (around sp (repeat o) x) k)
around_popped G sp choose x k = absurd (false≢true k)
around_popped G sp (name m n) x k = absurd (false≢true k)

over_popped : (G : Tree) (sp : Span) (o : _) (xs : _) → expand_symbol G (inner (over sp o xs)) ≡ expand_over G sp (print (over sp o xs)) o (renamed_all xs)
unfolding expand_symbol inner
over_popped G sp o xs = ap (λ (k : Text). expand_over G sp k o (renamed_all xs)) (print-inner (over sp o xs) refl)

module _ (four : Bool) (w : ℕ) (s : List ℕ) (ts : List Text) (b : Bytes s) where
  kind-popped : (left : ℕ) → left ≤ 64 → (G : Tree) (sp : Span) (k : SymbolKind) (p c : ℕ) (x : Sym) (e : ℕ) → sym_at four w s ts p ≡ x
      → elim k [
        | SymbolKind.Leaf l ↦ got (Sym.leaf sp (leaf_of ts l)) c
        | SymbolKind.Around o ↦ then (read_sym four w s ts left c) (λ y e'. got (Sym.around sp (around_of ts o) y) e')
        | SymbolKind.Over o ↦ then (times (λ q. read_sym four w s ts left q) (inside_of o) c) (λ ys e'. got (Sym.over sp (over_of ts o) (syms_of ys)) e')
      ] ≡ got x e
      → is_key x ≡ true → expand_kind four w s ts G p c sp k ≡ expand_symbol G (inner x)
  unfolding expand_kind print_at syms_at list_in
  kind-popped left l₀ G sp (SymbolKind.Leaf l) p c x e z r key =
      got_as (λ y m. sym_at four w s ts p ≡ y → is_key y ≡ true → expand_kind four w s ts G p c sp (SymbolKind.Leaf l) ≡ expand_symbol G (inner y)) r
      (λ q t. ap (λ (y : Sym). expand_look sp (print y) (as_look (leaf_of ts l))) q ∙ sym (leaf_popped G sp (leaf_of ts l) t)) z key
  kind-popped left l₀ G sp (SymbolKind.Around o) p c x e z r key =
      let i = then-got (read_sym four w s ts left c) _ r in
      let h = sym_here four w s ts b left c i.value i.mid l₀ i.first in
      got_as (λ y m. sym_at four w s ts p ≡ y → is_key y ≡ true → expand_kind four w s ts G p c sp (SymbolKind.Around o) ≡ expand_symbol G (inner y)) i.second
      (λ q t. ap (λ (y : Sym). expand_around sp (print y) (around_of ts o) (renamed (sym_at four w s ts c))) q
      ∙ ap (λ (y : Sym). expand_around sp (print (around sp (around_of ts o) i.value)) (around_of ts o) (renamed y)) h ∙ sym (around_popped G sp (around_of ts o) i.value t)) z key
  kind-popped left l₀ G sp (SymbolKind.Over o) p c x e z r key =
      let i = then-got (times (λ q. read_sym four w s ts left q) (inside_of o) c) _ r in
      let h = times-also (λ q. read_sym four w s ts left q) (λ q. read_sym four w s ts 64 q) (λ q y d t. read_more four w s ts left 64 q y d l₀ t) (inside_of o) c i.value i.mid i.first in
      got_as (λ y m. sym_at four w s ts p ≡ y → is_key y ≡ true → expand_kind four w s ts G p c sp (SymbolKind.Over o) ≡ expand_symbol G (inner y)) i.second
      (λ q t. ap (λ (y : Sym). expand_over G sp (print y) (over_of ts o) (renamed_all (syms_at four w s ts (inside_of o) c))) q
      ∙ ap (λ (y : Reading (List Sym)). expand_over G sp (print (over sp (over_of ts o) (syms_of i.value))) (over_of ts o) (renamed_all (syms_of (list_in y)))) h
      ∙ sym (over_popped G sp (over_of ts o) (syms_of i.value))) z key

  popped_with : (left : ℕ) → suc left ≤ 64 → (G : Tree) (p : ℕ) (x : Sym) (e : ℕ) → read_sym four w s ts (suc left) p ≡ got x e → is_key x ≡ true → expand_at four w s ts G p ≡ expand_symbol G (inner x)
  unfolding read_sym expand_at expand_node
  popped_with left l G p x e f key =
      stands_then four w s ts symbols_place (suc left) b _ p f (λ n c h q.
      symbol_wanted (Standing four w s ts p c) p c x e _ n h q (λ sp k i r.
      ap (λ y. expand_node four w s ts G p (p + size_read w y) y) i.here ∙ ap (λ (m : ℕ). expand_kind four w s ts G p m sp k) i.behind
      ∙ kind-popped left (omega arith) G sp k p c x e (sym_here four w s ts b (suc left) p x e l f) r key))

  pub popped_is : (G : Tree) (p : ℕ) → Firm four w s ts b p → expand_at four w s ts G p ≡ expand_symbol G (inner (sym_at four w s ts p))
  popped_is G p f = popped_with 63 (omega arith) G p (sym_at four w s ts p) f.end f.read (sym_key four w s ts b 63 p (sym_at four w s ts p) f.end f.key f.read)

  pub drain-is : (G : Tree) (ps : List ℕ) → Each (Firm four w s ts b) ps → drain_at four w s ts G ps ≡ drain G (map (λ p. inner (sym_at four w s ts p)) ps)
  unfolding drain_at drain
  drain-is G [] h = refl
  drain-is G (p ∷ ps) h =
      ap (λ (r : Outcome Nonterminal). after r (λ d. after (drain_at four w s ts G ps) (λ ds. yes (item d ∷ ds)))) (popped_is G p h.0)
      ∙ ap (λ (r : Outcome (List Item)). after (expand_symbol G (inner (sym_at four w s ts p))) (λ d. after r (λ ds. yes (item d ∷ ds)))) (drain-is G ps h.1)
