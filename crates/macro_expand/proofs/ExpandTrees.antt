-- A symbol of a macro's definition that is no parameter: its command as it stands, then what stands inside with the arguments put in. Assumes nothing.
use mathlib.Core.Path.{◌≡◌, refl, sym, ap, ◌∙◌}
use mathlib.Core.Bool.{Bool, true, false, ◌&&◌, false≢true}
use mathlib.Core.List.{List, ◌++◌, append-nil}
use Prim.Native.Nat.{ℕ, zero, suc, ◌-◌}
use native.Mathlib.Omega.{arith}
use borrow.Author.Tests.{le-leb, lt-ltb}
use lib.Dec.{eqb}
use lib.ListN.{get_or}
use Rattle.octets.specs.Plain.Runs.{Lies}
use Rattle.octets.proofs.LiesLaws.{lies_first}
use Rattle.parse_tree.specs.Plain.Tree.{Text, Over, Sym, Syms, ambiguous, bare, quoted, regex, nonterminal, lookahead, lookbehind, error, repeat, choose, name, macro, group, leaf, around, over, nil, cons, count}
use Rattle.parse_tree.specs.Plain.Texts.{with_new}
use Rattle.parse_tree.specs.Plain.References.{leaf_texts, around_texts, over_texts, sym_texts, syms_texts}
use Rattle.parse_tree.specs.Working.Nodes.{node_bytes, symbol_bytes, leaf_code}
use Rattle.parse_tree.specs.Working.Encode.{leaf_node, around_node, over_node, sym_bytes, syms_bytes}
use Rattle.parse_tree.specs.Working.Within.{SymWithin, OverWithin}
use Rattle.parse_tree.specs.declared.syntax.SymbolKind.{SymbolKind}
use Rattle.parse_tree.specs.declared.syntax.Node.{Node}
use Rattle.passes.specs.Sizes.{over_fits, sym_fits, syms_fit}
use Rattle.passes.specs.Macros.{macro_expand_symbol, macro_expand_symbols}
use Rattle.laws.specs.Flat.{sym_node, children}
use Rattle.replacing.proofs.Growing.{Extends, new_append, new_there, extends_number}
use Rattle.parse_tree.proofs.NothingNew.{There, leaf_there, around_there}
use Rattle.replacing.proofs.SymbolsGo.{leaf_later, around_later}

-- ---- the command of a parameter, or of another nonterminal
abbrev pub is_names : Sym → Bool
is_names (leaf s (ambiguous x)) = false
is_names (leaf s (bare x)) = false
is_names (leaf s (quoted x)) = false
is_names (leaf s (regex x)) = false
is_names (leaf s (nonterminal x)) = true
is_names (leaf s lookahead) = false
is_names (leaf s lookbehind) = false
is_names (leaf s error) = false
is_names (around s a x) = false
is_names (over s o xs) = false

pub code_names : (wd : ℕ) (ts : List Text) (w : List ℕ) (a d : ℕ) (y : Sym) → Lies w a (node_bytes wd (sym_node ts y)) d → eqb (get_or w a 0) 36 ≡ is_names y
unfolding sym_node leaf_node around_node over_node node_bytes symbol_bytes leaf_code
code_names wd ts w a d (leaf s (ambiguous x)) l = ap (λ (c : ℕ). eqb c 36) (lies_first w a 32 _ d l).1
code_names wd ts w a d (leaf s (bare x)) l = ap (λ (c : ℕ). eqb c 36) (lies_first w a 33 _ d l).1
code_names wd ts w a d (leaf s (quoted x)) l = ap (λ (c : ℕ). eqb c 36) (lies_first w a 34 _ d l).1
code_names wd ts w a d (leaf s (regex x)) l = ap (λ (c : ℕ). eqb c 36) (lies_first w a 35 _ d l).1
code_names wd ts w a d (leaf s (nonterminal x)) l = ap (λ (c : ℕ). eqb c 36) (lies_first w a 36 _ d l).1
code_names wd ts w a d (leaf s lookahead) l = ap (λ (c : ℕ). eqb c 36) (lies_first w a 42 _ d l).1
code_names wd ts w a d (leaf s lookbehind) l = ap (λ (c : ℕ). eqb c 36) (lies_first w a 43 _ d l).1
code_names wd ts w a d (leaf s error) l = ap (λ (c : ℕ). eqb c 36) (lies_first w a 44 _ d l).1
code_names wd ts w a d (around s (repeat o) x) l = ap (λ (c : ℕ). eqb c 36) (lies_first w a 38 _ d l).1
code_names wd ts w a d (around s choose x) l = ap (λ (c : ℕ). eqb c 36) (lies_first w a 39 _ d l).1
code_names wd ts w a d (around s (name m n) x) l = ap (λ (c : ℕ). eqb c 36) (lies_first w a 40 _ d l).1
code_names wd ts w a d (over s (macro n) xs) l = ap (λ (c : ℕ). eqb c 36) (lies_first w a 37 _ d l).1
code_names wd ts w a d (over s group xs) l = ap (λ (c : ℕ). eqb c 36) (lies_first w a 41 _ d l).1

and-true : (b : Bool) → b ≡ b && true
and-true true = refl
and-true false = refl

module _ (names : List Text) (args : Syms) where
  abbrev one : Sym → Sym
  one y = macro_expand_symbol names args y

  abbrev all : Syms → Syms
  all ys = macro_expand_symbols names args ys

  -- no argument is put in for it
  abbrev pub Stays : Sym → Type 0
  Stays (leaf s l) = macro_expand_symbol names args (leaf s l) ≡ leaf s l
  Stays (around s a x) = Unit {0}
  Stays (over s o xs) = Unit {0}

  -- none but a nonterminal has one
  pub other_stays : (y : Sym) → is_names y ≡ false → Stays y
  unfolding macro_expand_symbol
  other_stays (leaf s (ambiguous x)) k = refl
  other_stays (leaf s (bare x)) k = refl
  other_stays (leaf s (quoted x)) k = refl
  other_stays (leaf s (regex x)) k = refl
  other_stays (leaf s (nonterminal x)) k = absurd (false≢true (sym k))
  other_stays (leaf s lookahead) k = refl
  other_stays (leaf s lookbehind) k = refl
  other_stays (leaf s error) k = refl
  other_stays (around s a x) k = tt
  other_stays (over s o xs) k = tt

  pub all_count : (ys : Syms) → count (macro_expand_symbols names args ys) ≡ count ys
  unfolding macro_expand_symbols count
  all_count nil = refl
  all_count (cons y ys) = ap suc (all_count ys)

  module _ (four : Bool) (wd : ℕ) (ts : List Text) where
    over_later : (T : List Text) → Extends ts T → (o : Over) (n : ℕ) → OverWithin four wd ts o n → over_node T o n ≡ over_node ts o n
    unfolding over_node
    over_later T p (macro x) n h = rw (extends_number ts T x p h.0.0) refl
    over_later T p group n h = refl

    over_there : (o : Over) (n : ℕ) → OverWithin four wd ts o n → There ts (over_texts o)
    unfolding over_texts
    over_there (macro x) n h = (h.0.0, tt)
    over_there group n h = tt

    over_fits_lem : (o : Over) (n : ℕ) → OverWithin four wd ts o n → over_fits o n ≡ true
    over_fits_lem (macro x) n h = rw (le-leb 1 n h.1, lt-ltb n 256 h.2) refl
    over_fits_lem group n h = lt-ltb n 65536 h

    -- theorem: its bytes, by more texts
    pub copy_bytes : (T : List Text) → Extends ts T → (y : Sym) (left : ℕ) → SymWithin four wd ts y left → Stays y
        → sym_bytes wd T (macro_expand_symbol names args y) ≡ node_bytes wd (sym_node ts y) ++ syms_bytes wd T (macro_expand_symbols names args (children y))
    unfolding macro_expand_symbol macro_expand_symbols sym_bytes syms_bytes sym_node children
    copy_bytes T p (leaf s l) zero h k = absurd h
    copy_bytes T p (leaf s l) (suc left) h k =
        ap (sym_bytes wd T) k ∙ ap (λ z. node_bytes wd (Node.Symbol s (SymbolKind.Leaf z))) (leaf_later four wd ts T p l h.1) ∙ sym (append-nil (node_bytes wd (Node.Symbol s (SymbolKind.Leaf (leaf_node ts l)))))
    copy_bytes T p (around s a x) zero h k = absurd h
    copy_bytes T p (around s a x) (suc left) h k =
        ap (λ z. node_bytes wd (Node.Symbol s (SymbolKind.Around z)) ++ sym_bytes wd T (one x)) (around_later four wd ts T p a h.1)
        ∙ ap (λ (l : List ℕ). node_bytes wd (Node.Symbol s (SymbolKind.Around (around_node ts a))) ++ l) (sym (append-nil (sym_bytes wd T (one x))))
    copy_bytes T p (over s o xs) zero h k = absurd h
    copy_bytes T p (over s o xs) (suc left) h k =
        ap (λ (i : ℕ). node_bytes wd (Node.Symbol s (SymbolKind.Over (over_node T o i))) ++ syms_bytes wd T (all xs)) (all_count xs)
        ∙ ap (λ z. node_bytes wd (Node.Symbol s (SymbolKind.Over z)) ++ syms_bytes wd T (all xs)) (over_later T p o (count xs) h.1)

    -- theorem: its own texts are there
    pub copy_texts : (U : List Text) → Extends ts U → (y : Sym) (left : ℕ) → SymWithin four wd ts y left → Stays y
        → with_new U (sym_texts (macro_expand_symbol names args y)) ≡ with_new U (syms_texts (macro_expand_symbols names args (children y)))
    unfolding macro_expand_symbol macro_expand_symbols sym_texts syms_texts children with_new
    copy_texts U p (leaf s l) zero h k = absurd h
    copy_texts U p (leaf s l) (suc left) h k = ap (λ (y : Sym). with_new U (sym_texts y)) k ∙ new_there ts U (leaf_texts l) p (leaf_there four wd ts l h.1)
    copy_texts U p (around s a x) zero h k = absurd h
    copy_texts U p (around s a x) (suc left) h k =
        new_append U (around_texts a) (sym_texts (one x))
        ∙ ap (λ (us : List Text). with_new us (sym_texts (one x))) (new_there ts U (around_texts a) p (around_there four wd ts a h.1))
        ∙ ap (with_new U) (sym (append-nil (sym_texts (one x))))
    copy_texts U p (over s o xs) zero h k = absurd h
    copy_texts U p (over s o xs) (suc left) h k =
        new_append U (over_texts o) (syms_texts (all xs)) ∙ ap (λ (us : List Text). with_new us (syms_texts (all xs))) (new_there ts U (over_texts o) p (over_there o (count xs) h.1))

    -- theorem: it is as deep as what stands inside says
    pub copy_fits : (y : Sym) (left : ℕ) → SymWithin four wd ts y left → Stays y → sym_fits (macro_expand_symbol names args y) left ≡ syms_fit (macro_expand_symbols names args (children y)) (left - 1)
    unfolding macro_expand_symbol macro_expand_symbols children
    copy_fits (leaf s l) zero h k = absurd h
    copy_fits (leaf s l) (suc left) h k = ap (λ (y : Sym). sym_fits y (suc left)) k
    copy_fits (around s a x) zero h k = absurd h
    copy_fits (around s a x) (suc left) h k = let z : suc left - 1 ≡ left = omega arith in and-true (sym_fits (one x) left) ∙ ap (λ (i : ℕ). sym_fits (one x) i && true) (sym z)
    copy_fits (over s o xs) zero h k = absurd h
    copy_fits (over s o xs) (suc left) h k =
        let z : suc left - 1 ≡ left = omega arith in
        ap (λ (b : Bool). b && syms_fit (all xs) left) (ap (over_fits o) (all_count xs) ∙ over_fits_lem o (count xs) h.1) ∙ ap (syms_fit (all xs)) (sym z)
