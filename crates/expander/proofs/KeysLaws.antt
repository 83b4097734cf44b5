-- Symbols that are expanded: what is read where one stands, and the places of those inside it. Assumes nothing.
use mathlib.Core.Path.{◌≡◌, refl, sym, ap, ◌∙◌}
use mathlib.Core.Bool.{Bool, true, false, not}
use mathlib.Core.List.{List, [], ◌∷◌, ◌++◌, append-nil, append_assoc, append_cancel_right}
use Prim.Native.Nat.{ℕ, zero, suc, ◌+◌, ◌≤◌}
use native.Mathlib.Omega.{arith}
use lib.ListN.{length, get_or, drop, length-append}
use lib.Seq.{drop-drop, drop-append-le}
use Rattle.std.specs.Prelude.{Some}
use Rattle.octets.specs.Working.Choice.{pick}
use Rattle.octets.specs.Plain.Runs.{part, Lies}
use Rattle.octets.proofs.PartLaws.{part_length}
use Rattle.octets.proofs.LiesLaws.{lies_first, lies_split, part_lies}
use Rattle.octets.proofs.NumbersLaws.{length-le}
use Rattle.parse_tree.specs.Plain.Tree.{Text, Leaf, Around, Over, Sym, Syms, ambiguous, bare, quoted, regex, nonterminal, lookahead, lookbehind, error, repeat, choose, name, macro, group, leaf, around, over, nil, cons, count}
use Rattle.parse_tree.specs.Plain.Display.{print}
use Rattle.parse_tree.specs.Plain.Reading.{got}
use Rattle.parse_tree.specs.Working.Decode.{read_sym}
use Rattle.parse_tree.specs.Working.Nodes.{leaf_code, symbol_bytes, node_bytes, node_at, size_of}
use Rattle.parse_tree.specs.Working.Encode.{leaf_node, around_node, over_node, sym_bytes, syms_bytes}
use Rattle.parse_tree.specs.Working.Within.{Each, LeafWithin, AroundWithin, OverWithin, SymWithin, SymsWithin}
use Rattle.parse_tree.specs.declared.syntax.Span.{Span}
use Rattle.parse_tree.proofs.SizeLaws.{length_span}
use Rattle.parse_tree.proofs.ReadingLaws.{each_append, each_map}
use Rattle.parse_tree.proofs.ItemBack.{sym_reads}
use Rattle.laws.specs.Flat.{sym_node, children}
use Rattle.laws.proofs.Flat.{sym_bytes_lem, node_size, sym_fits_lem, sym_here}
use Rattle.texts.specs.Table.{texts}
use Rattle.replacing.specs.Trees.{is_key}
use Rattle.replacing.specs.Prints.{sym_of, sym_at, print_at}
use Rattle.replacing.specs.Runs.{plain_leaf, plain_around, plain_kind, plain}
use Rattle.replacing.proofs.Readings.{read_more}
use Rattle.expander.specs.declared.Ground.{Ground}
use Rattle.expander.specs.Ground.{size_in, stage_in, symbol_in, printed_at, KeyAt, Grounded}
use Rattle.expander.specs.Replace.{expanded_code, leaf_keys, around_keys, around_long, over_long, keys_of, keys_of_all, StandsAt}

-- ---- what is within its limits is so where texts need not suit their use
module _ (four : Bool) (wd : ℕ) (ts : List Text) where
  leaf_any : (l : Leaf) → LeafWithin four wd ts l → LeafWithin false wd ts l
  unfolding pick
  leaf_any (ambiguous x) h = (h.0, h.1, refl)
  leaf_any (bare x) h = (h.0, h.1, refl)
  leaf_any (quoted x) h = (h.0, h.1, refl)
  leaf_any (regex x) h = (h.0, h.1, refl)
  leaf_any (nonterminal x) h = (h.0, h.1, refl)
  leaf_any lookahead h = tt
  leaf_any lookbehind h = tt
  leaf_any error h = tt

  around_any : (a : Around) → AroundWithin four wd ts a → AroundWithin false wd ts a
  unfolding pick
  around_any (repeat o) h = tt
  around_any choose h = tt
  around_any (name m x) h = (h.0, h.1, refl)

  over_any : (o : Over) (n : ℕ) → OverWithin four wd ts o n → OverWithin false wd ts o n
  unfolding pick
  over_any (macro x) n h = ((h.0.0, h.0.1, refl), h.1, h.2)
  over_any group n h = h

  mutual
    pub sym_any : (x : Sym) (left : ℕ) → SymWithin four wd ts x left → SymWithin false wd ts x left
    sym_any (leaf s l) zero h = absurd h
    sym_any (leaf s l) (suc left) h = (h.0, leaf_any l h.1)
    sym_any (around s a x) zero h = absurd h
    sym_any (around s a x) (suc left) h = (h.0, around_any a h.1, sym_any x left h.2)
    sym_any (over s o xs) zero h = absurd h
    sym_any (over s o xs) (suc left) h = (h.0, over_any o (count xs) h.1, syms_any xs left h.2)

    syms_any : (xs : Syms) (left : ℕ) → SymsWithin four wd ts xs left → SymsWithin false wd ts xs left
    syms_any nil left h = tt
    syms_any (cons x xs) left h = (sym_any x left h.0, syms_any xs left h.1)

-- what lies in the whole, inside a part, lies in the part
lies_part_in : (w : List ℕ) (a e : ℕ) → a ≤ e → e ≤ length w → (p : ℕ) (xs : List ℕ) (q : ℕ) → a + q ≤ e → Lies w (a + p) xs (a + q) → Lies (part a e w) p xs q
lies_part_in w a e h k p xs q i l =
    let d = (part_lies w a e h k).is in
    let n = part_length a e w k in
    let from : (j : ℕ) → j ≤ length (part a e w) → drop (a + j) w ≡ drop j (part a e w) ++ drop e w =
    λ j y. sym (drop-drop j a w) ∙ ap (drop j) d ∙ drop-append-le j (part a e w) (drop e w) y in
    let z : q ≡ p + length xs = omega (arith, l.end) in
    record {
      is =
          append_cancel_right (drop p (part a e w)) (xs ++ drop q (part a e w)) (drop e w)
          (sym (from p (omega arith)) ∙ l.is ∙ ap (λ (r : List ℕ). xs ++ r) (from q (omega arith)) ∙ sym (append_assoc xs (drop q (part a e w)) (drop e w)));
      end = z;
    }

-- ---- the places inside a symbol, then its own
unfoldable pub own_keys : Bool → ℕ → List ℕ
own_keys b p = pick b (p ∷ []) []

leaf_own : (s : Span) (l : Leaf) (p : ℕ) → leaf_keys l p ≡ own_keys (is_key (leaf s l)) p
unfolding leaf_keys own_keys pick
leaf_own s (ambiguous x) p = refl
leaf_own s (bare x) p = refl
leaf_own s (quoted x) p = refl
leaf_own s (regex x) p = refl
leaf_own s (nonterminal x) p = refl
leaf_own s lookahead p = refl
leaf_own s lookbehind p = refl
leaf_own s error p = refl

around_own : (s : Span) (a : Around) (x : Sym) (p : ℕ) → around_keys a p ≡ own_keys (is_key (around s a x)) p
unfolding around_keys own_keys pick
around_own s (repeat o) x p = refl
around_own s choose x p = refl
around_own s (name m n) x p = refl

-- ---- how long commands are
module _ (wd : ℕ) (ts : List Text) where
  around_size_lem : (s : Span) (a : Around) (x : Sym) → size_of wd (sym_node ts (around s a x)) ≡ around_long wd a
  unfolding size_of sym_node around_node node_bytes symbol_bytes around_long
  around_size_lem s (repeat o) x = simp (length-append, length_span) (omega arith)
  around_size_lem s choose x = simp length_span (omega arith)
  around_size_lem s (name m n) x = simp (length-append, length_span, length-le) (omega arith)

  over_size : (s : Span) (o : Over) (xs : Syms) → size_of wd (sym_node ts (over s o xs)) ≡ over_long wd o
  unfolding size_of sym_node over_node node_bytes symbol_bytes over_long
  over_size s (macro n) xs = simp (length-append, length_span, length-le) (omega arith)
  over_size s group xs = simp (length-append, length_span, length-le) (omega arith)

  -- a symbol: its command, then those inside
  pub sym_length : (y : Sym) → length (sym_bytes wd ts y) ≡ size_of wd (sym_node ts y) + length (syms_bytes wd ts (children y))
  unfolding size_of
  sym_length y = ap length (sym_bytes_lem wd ts y) ∙ length-append (node_bytes wd (sym_node ts y)) (syms_bytes wd ts (children y))

  sym_long : (y : Sym) → 9 ≤ length (sym_bytes wd ts y)
  sym_long y = omega (arith, sym_length y, node_size wd ts y)

  -- theorem: inner ones first
  pub keys_parts : (y : Sym) (p : ℕ) → keys_of wd ts y p ≡ keys_of_all wd ts (children y) (p + size_of wd (sym_node ts y)) ++ own_keys (is_key y) p
  unfolding keys_of keys_of_all children own_keys pick
  keys_parts (leaf s l) p = leaf_own s l p
  keys_parts (around s a x) p = rw (around_size_lem s a x, append-nil (keys_of wd ts x (p + around_long wd a))) (ap (λ (r : List ℕ). keys_of wd ts x (p + around_long wd a) ++ r) (around_own s a x p))
  keys_parts (over s o xs) p = rw (over_size s o xs) refl

-- ---- places between two
abbrev pub Spread : ℕ → ℕ → List ℕ → Type 0
Spread p e ps = Each (λ (q : ℕ). (p ≤ q) × (q + 9 ≤ e)) ps

spread_wider : (p e d f : ℕ) (ps : List ℕ) → d ≤ p → e ≤ f → Spread p e ps → Spread d f ps
spread_wider p e d f ps i j h = each_map (λ q z. (omega (arith, z.0), omega (arith, z.1))) ps h

module _ (wd : ℕ) (ts : List Text) where
  own-spread : (b : Bool) (p e : ℕ) → p + 9 ≤ e → Spread p e (own_keys b p)
  unfolding own_keys pick
  own-spread true p e h = ((omega arith, h), tt)
  own-spread false p e h = tt

  leaf_spread : (s : Span) (l : Leaf) (p e : ℕ) → p + 9 ≤ e → Spread p e (leaf_keys l p)
  leaf_spread s l p e h = rw (leaf_own s l p) (own-spread (is_key (leaf s l)) p e h)

  around_spread : (s : Span) (a : Around) (x : Sym) (p e : ℕ) → p + 9 ≤ e → Spread p e (around_keys a p)
  around_spread s a x p e h = rw (around_own s a x p) (own-spread (is_key (around s a x)) p e h)

  -- theorem: the places of symbols are inside them
  mutual
    unfolding keys_of keys_of_all syms_bytes children

    pub keys_spread : (y : Sym) (p e : ℕ) → p + length (sym_bytes wd ts y) ≤ e → Spread p e (keys_of wd ts y p)
    keys_spread (leaf s l) p e h = leaf_spread s l p e (omega (arith, sym_long wd ts (leaf s l)))
    keys_spread (around s a x) p e h =
        let l = sym_length wd ts (around s a x) in
        let n = around_size_lem wd ts s a x in
        let m = node_size wd ts (around s a x) in
        let k = length-append (sym_bytes wd ts x) [] in
        each_append (λ (q : ℕ). (p ≤ q) × (q + 9 ≤ e)) (keys_of wd ts x (p + around_long wd a)) (around_keys a p)
        (spread_wider (p + around_long wd a) e p e (keys_of wd ts x (p + around_long wd a)) (omega arith) (omega arith) (keys_spread x (p + around_long wd a) e (omega arith)))
        (around_spread s a x p e (omega arith))
    keys_spread (over s o xs) p e h =
        let l = sym_length wd ts (over s o xs) in
        let n = over_size wd ts s o xs in
        let m = node_size wd ts (over s o xs) in
        each_append (λ (q : ℕ). (p ≤ q) × (q + 9 ≤ e)) (keys_of_all wd ts xs (p + over_long wd o)) (p ∷ [])
        (spread_wider (p + over_long wd o) e p e (keys_of_all wd ts xs (p + over_long wd o)) (omega arith) (omega arith) (keys_spread_all xs (p + over_long wd o) e (omega arith)))
        ((omega arith, omega arith), tt)

    pub keys_spread_all : (ys : Syms) (p e : ℕ) → p + length (syms_bytes wd ts ys) ≤ e → Spread p e (keys_of_all wd ts ys p)
    keys_spread_all nil p e h = tt
    keys_spread_all (cons y ys) p e h =
        let l = length-append (sym_bytes wd ts y) (syms_bytes wd ts ys) in
        each_append (λ (q : ℕ). (p ≤ q) × (q + 9 ≤ e)) (keys_of wd ts y p) (keys_of_all wd ts ys (p + length (sym_bytes wd ts y)))
        (keys_spread y p e (omega arith))
        (spread_wider (p + length (sym_bytes wd ts y)) e p e (keys_of_all wd ts ys (p + length (sym_bytes wd ts y))) (omega arith) (omega arith) (keys_spread_all ys (p + length (sym_bytes wd ts y)) e (omega arith)))

-- ---- the code of a symbol's command says whether it is expanded
module _ (wd : ℕ) (ts : List Text) where
  node_plain : (y : Sym) → plain (Some (sym_node ts y)) ≡ not (is_key y)
  unfolding sym_node leaf_node around_node over_node plain plain_kind plain_leaf plain_around
  node_plain (leaf s (ambiguous x)) = refl
  node_plain (leaf s (bare x)) = refl
  node_plain (leaf s (quoted x)) = refl
  node_plain (leaf s (regex x)) = refl
  node_plain (leaf s (nonterminal x)) = refl
  node_plain (leaf s lookahead) = refl
  node_plain (leaf s lookbehind) = refl
  node_plain (leaf s error) = refl
  node_plain (around s (repeat o) x) = refl
  node_plain (around s choose x) = refl
  node_plain (around s (name m n) x) = refl
  node_plain (over s o xs) = refl

  -- theorem: by the byte that stands there
  code_key : (w : List ℕ) (a d : ℕ) (y : Sym) → Lies w a (node_bytes wd (sym_node ts y)) d → expanded_code (get_or w a 0) ≡ is_key y
  unfolding sym_node leaf_node around_node over_node node_bytes symbol_bytes leaf_code expanded_code pick
  code_key w a d (leaf s (ambiguous x)) l = ap expanded_code (lies_first w a 32 _ d l).1
  code_key w a d (leaf s (bare x)) l = ap expanded_code (lies_first w a 33 _ d l).1
  code_key w a d (leaf s (quoted x)) l = ap expanded_code (lies_first w a 34 _ d l).1
  code_key w a d (leaf s (regex x)) l = ap expanded_code (lies_first w a 35 _ d l).1
  code_key w a d (leaf s (nonterminal x)) l = ap expanded_code (lies_first w a 36 _ d l).1
  code_key w a d (leaf s lookahead) l = ap expanded_code (lies_first w a 42 _ d l).1
  code_key w a d (leaf s lookbehind) l = ap expanded_code (lies_first w a 43 _ d l).1
  code_key w a d (leaf s error) l = ap expanded_code (lies_first w a 44 _ d l).1
  code_key w a d (around s (repeat o) x) l = ap expanded_code (lies_first w a 38 _ d l).1
  code_key w a d (around s choose x) l = ap expanded_code (lies_first w a 39 _ d l).1
  code_key w a d (around s (name m n) x) l = ap expanded_code (lies_first w a 40 _ d l).1
  code_key w a d (over s (macro n) xs) l = ap expanded_code (lies_first w a 37 _ d l).1
  code_key w a d (over s group xs) l = ap expanded_code (lies_first w a 41 _ d l).1

-- ---- a symbol that stands in the stage is read there
module _ (s w : List ℕ) (g : Ground) (G : Grounded s w g) (four : Bool) (left p e : ℕ) (y : Sym) (h : StandsAt s w g four left p e y) (inside : e ≤ size_in g) where
  lies_stage : Lies (stage_in w g) p (sym_bytes g.width.bytes (texts s w g.m) y) e
  unfolding stage_in size_in
  lies_stage =
      let o = G.ordered in
      lies_part_in w g.from g.end G.ordered G.inside p (sym_bytes g.width.bytes (texts s w g.m) y) e (omega arith) h.lies

  -- theorem: by as many levels as are left
  pub stands_read : read_sym false g.width.bytes (stage_in w g) (texts s w g.m) left p ≡ got y e
  stands_read = sym_reads false g.width.bytes (stage_in w g) (texts s w g.m) y left (sym_any four g.width.bytes (texts s w g.m) y left h.within) p e lies_stage

  -- its code
  pub stands_code : expanded_code (get_or w (g.from + p) 0) ≡ is_key y
  stands_code =
      let z = sym_bytes_lem g.width.bytes (texts s w g.m) y in
      let k = lies_split w (g.from + p) (g.from + e) (node_bytes g.width.bytes (sym_node (texts s w g.m) y)) (syms_bytes g.width.bytes (texts s w g.m) (children y)) (rw z at h.lies) in
      code_key g.width.bytes (texts s w g.m) w (g.from + p) _ y k.0

  stands_node : node_at g.width.bytes (stage_in w g) p ≡ Some (sym_node (texts s w g.m) y)
  stands_node =
      let z = sym_bytes_lem g.width.bytes (texts s w g.m) y in
      let l = lies_stage in
      let k = lies_split (stage_in w g) p e (node_bytes g.width.bytes (sym_node (texts s w g.m) y)) (syms_bytes g.width.bytes (texts s w g.m) (children y)) (rw z at l) in
      sym_here g.width.bytes (texts s w g.m) (stage_in w g) p _ y (sym_fits_lem g.width.bytes (texts s w g.m) four y left h.within) k.0

  module _ (levels : left ≤ 64) where
    -- by all levels
    pub stands_whole : read_sym false g.width.bytes (stage_in w g) (texts s w g.m) 64 p ≡ got y e
    stands_whole = read_more false g.width.bytes (stage_in w g) (texts s w g.m) left 64 p y e levels stands_read

    pub stands_symbol : symbol_in s w g p ≡ y
    unfolding sym_at sym_of
    stands_symbol = ap sym_of stands_whole

    pub stands_print : printed_at s w g p ≡ print y
    unfolding print_at
    stands_print = ap print stands_symbol

    -- theorem: a symbol of such a code is one that is expanded
    pub stands_key : is_key y ≡ true → KeyAt s w g p
    stands_key k = record {
      end = e;
      read = stands_whole ∙ ap (λ (x : Sym). got x e) (sym stands_symbol);
      key = ap plain stands_node ∙ node_plain g.width.bytes (texts s w g.m) y ∙ ap not k;
    }
