-- The first of symbols to come: what it is renamed to, the texts and bytes of that, and the places of those inside. Assumes nothing.
use mathlib.Core.Path.{◌≡◌, refl, sym, ap, ◌∙◌, subst}
use mathlib.Core.Bool.{Bool, true, false, false≢true}
use mathlib.Core.List.{List, [], ◌∷◌, ◌++◌, append-nil, append_assoc}
use Prim.Native.Nat.{ℕ, zero, suc, ◌+◌, ◌*◌, ◌≤◌}
use native.Mathlib.Omega.{arith}
use lib.ListN.{length, length-append}
use Rattle.std.specs.Prelude.{Some}
use Rattle.octets.specs.Working.Choice.{pick}
use Rattle.parse_tree.specs.Plain.Tree.{Text, Leaf, Around, Sym, Syms, sym_span, ambiguous, bare, quoted, regex, nonterminal, lookahead, lookbehind, error, repeat, choose, name, leaf, around, over, nil, cons, count}
use Rattle.parse_tree.specs.Plain.Texts.{number, with_new}
use Rattle.parse_tree.specs.Plain.Display.{print}
use Rattle.parse_tree.specs.Plain.References.{leaf_texts, around_texts, sym_texts, syms_texts}
use Rattle.parse_tree.specs.Working.Nodes.{node_bytes, size_of}
use Rattle.parse_tree.specs.Working.Encode.{leaf_node, around_node, sym_bytes, syms_bytes}
use Rattle.parse_tree.specs.Working.Within.{Each, SymWithin, SymsWithin}
use Rattle.parse_tree.specs.declared.syntax.Span.{Span}
use Rattle.parse_tree.specs.declared.syntax.Leaf.{Leaf as LeafNode}
use Rattle.parse_tree.specs.declared.syntax.SymbolKind.{SymbolKind}
use Rattle.parse_tree.specs.declared.syntax.Node.{Node}
use Rattle.laws.specs.Flat.{sym_node, children, joined}
use Rattle.laws.proofs.Flat.{node_size}
use Rattle.replacing.specs.Trees.{keyed, renamed, renamed_all, is_key}
use Rattle.replacing.specs.Runs.{plain_leaf, plain_around, plain_kind, plain, key_bytes}
use Rattle.replacing.proofs.Growing.{Extends, new_append, new_there}
use Rattle.replacing.proofs.SymbolsGo.{leaf_later, around_later}
use Rattle.parse_tree.proofs.NothingNew.{leaf_there, around_there}
use Rattle.expander.specs.Replace.{keys_of, keys_of_all}
use Rattle.expander.proofs.KeysLaws.{own_keys, sym_length, keys_parts}

-- ---- levels of nesting
module _ (four : Bool) (wd : ℕ) (ts : List Text) where
  -- more levels are as good
  mutual
    within_more : (y : Sym) (left more : ℕ) → left ≤ more → SymWithin four wd ts y left → SymWithin four wd ts y more
    within_more (leaf s l) zero more i h = absurd h
    within_more (leaf s l) (suc left) zero i h = absurd (omega arith)
    within_more (leaf s l) (suc left) (suc more) i h = h
    within_more (around s a x) zero more i h = absurd h
    within_more (around s a x) (suc left) zero i h = absurd (omega arith)
    within_more (around s a x) (suc left) (suc more) i h = (h.0, h.1, within_more x left more (omega arith) h.2)
    within_more (over s o xs) zero more i h = absurd h
    within_more (over s o xs) (suc left) zero i h = absurd (omega arith)
    within_more (over s o xs) (suc left) (suc more) i h = (h.0, h.1, all_within_more xs left more (omega arith) h.2)

    all_within_more : (ys : Syms) (left more : ℕ) → left ≤ more → SymsWithin four wd ts ys left → SymsWithin four wd ts ys more
    all_within_more nil left more i h = tt
    all_within_more (cons y ys) left more i h = (within_more y left more i h.0, all_within_more ys left more i h.1)

  children-within : (y : Sym) (left : ℕ) → SymWithin four wd ts y left → SymsWithin four wd ts (children y) left
  unfolding children
  children-within (leaf s l) left h = tt
  children-within (around s a x) zero h = absurd h
  children-within (around s a x) (suc left) h = (within_more x left (suc left) (omega arith) h.2, tt)
  children-within (over s o xs) zero h = absurd h
  children-within (over s o xs) (suc left) h = all_within_more xs left (suc left) (omega arith) h.2

  both_within : (xs ys : Syms) (left : ℕ) → SymsWithin four wd ts xs left → SymsWithin four wd ts ys left → SymsWithin four wd ts (joined xs ys) left
  unfolding joined
  both_within nil ys left h k = k
  both_within (cons x xs) ys left h k = (h.0, both_within xs ys left h.1 k)

  -- theorem: those inside the first, then the others
  pub first_within : (y : Sym) (ys : Syms) (left : ℕ) → SymsWithin four wd ts (cons y ys) left → SymsWithin four wd ts (joined (children y) ys) left
  first_within y ys left h = both_within (children y) ys left (children-within y left h.0) h.1

-- ---- places
pub each-parts : {A : Type 0} (P : A → Type 0) (xs ys : List A) → Each P (xs ++ ys) → Each P xs × Each P ys
each-parts P [] ys h = (tt, h)
each-parts P (x ∷ xs) ys h = let (a, b) = each-parts P xs ys h.1 in ((h.0, a), b)

module _ (wd : ℕ) (ts : List Text) where
  keys_both : (xs ys : Syms) (p : ℕ) → keys_of_all wd ts (joined xs ys) p ≡ keys_of_all wd ts xs p ++ keys_of_all wd ts ys (p + length (syms_bytes wd ts xs))
  unfolding joined keys_of_all syms_bytes
  keys_both nil ys p = let z : p ≡ p + 0 = omega arith in ap (keys_of_all wd ts ys) z
  keys_both (cons x xs) ys p =
      let n = length (sym_bytes wd ts x) in
      let z : p + length (sym_bytes wd ts x) + length (syms_bytes wd ts xs) ≡ p + length (sym_bytes wd ts x ++ syms_bytes wd ts xs) = omega (arith, length-append (sym_bytes wd ts x) (syms_bytes wd ts xs)) in
      ap (λ (r : List ℕ). keys_of wd ts x p ++ r) (keys_both xs ys (p + n) ∙ ap (λ (i : ℕ). keys_of_all wd ts xs (p + n) ++ keys_of_all wd ts ys i) z)
      ∙ sym (append_assoc (keys_of wd ts x p) (keys_of_all wd ts xs (p + n)) (keys_of_all wd ts ys (p + length (sym_bytes wd ts x ++ syms_bytes wd ts xs))))

  -- theorem: a symbol that is not expanded has no place of its own
  pub plain-keys : (y : Sym) (ys : Syms) (p : ℕ) → is_key y ≡ false → keys_of_all wd ts (joined (children y) ys) (p + size_of wd (sym_node ts y)) ≡ keys_of_all wd ts (cons y ys) p
  unfolding keys_of_all own_keys pick
  plain-keys y ys p k =
      let q = p + size_of wd (sym_node ts y) in
      let z : p + size_of wd (sym_node ts y) + length (syms_bytes wd ts (children y)) ≡ p + length (sym_bytes wd ts y) = omega (arith, sym_length wd ts y) in
      let own : keys_of wd ts y p ≡ keys_of_all wd ts (children y) (p + size_of wd (sym_node ts y)) =
      keys_parts wd ts y p ∙ ap (λ (b : Bool). keys_of_all wd ts (children y) (p + size_of wd (sym_node ts y)) ++ own_keys b p) k ∙ append-nil (keys_of_all wd ts (children y) (p + size_of wd (sym_node ts y))) in
      keys_both (children y) ys q ∙ ap (λ (i : ℕ). keys_of_all wd ts (children y) q ++ keys_of_all wd ts ys i) z ∙ ap (λ (r : List ℕ). r ++ keys_of_all wd ts ys (p + length (sym_bytes wd ts y))) (sym own)

  -- theorem: one that is has its own
  pub own_key : (P : ℕ → Type 0) (y : Sym) (ys : Syms) (p : ℕ) → is_key y ≡ true → Each P (keys_of_all wd ts (cons y ys) p) → P p × Each P (keys_of_all wd ts ys (p + length (sym_bytes wd ts y)))
  unfolding keys_of_all own_keys pick
  own_key P y ys p k h =
      let (a, b) = each-parts P (keys_of wd ts y p) (keys_of_all wd ts ys (p + length (sym_bytes wd ts y))) h in
      let is : keys_of wd ts y p ≡ keys_of_all wd ts (children y) (p + size_of wd (sym_node ts y)) ++ (p ∷ []) =
      keys_parts wd ts y p ∙ ap (λ (c : Bool). keys_of_all wd ts (children y) (p + size_of wd (sym_node ts y)) ++ own_keys c p) k in
      ((each-parts P (keys_of_all wd ts (children y) (p + size_of wd (sym_node ts y))) (p ∷ []) (subst (Each P) is a)).1.0, b)

-- ---- a symbol that is expanded, renamed
pub renamed_key : (y : Sym) → is_key y ≡ true → renamed y ≡ keyed (sym_span y) y
unfolding renamed
renamed_key (leaf s (ambiguous x)) k = absurd (false≢true k)
renamed_key (leaf s (bare x)) k = absurd (false≢true k)
renamed_key (leaf s (quoted x)) k = absurd (false≢true k)
renamed_key (leaf s (regex x)) k = absurd (false≢true k)
renamed_key (leaf s (nonterminal x)) k = absurd (false≢true k)
renamed_key (leaf s lookahead) k = refl
renamed_key (leaf s lookbehind) k = refl
renamed_key (leaf s error) k = absurd (false≢true k)
renamed_key (around s (repeat o) x) k = refl
renamed_key (around s choose x) k = absurd (false≢true k)
renamed_key (around s (name m n) x) k = absurd (false≢true k)
renamed_key (over s o xs) k = refl

-- its command is one that is not copied
pub key_plain : (ts : List Text) (y : Sym) → is_key y ≡ true → plain (Some (sym_node ts y)) ≡ false
unfolding sym_node leaf_node around_node plain plain_kind plain_leaf plain_around
key_plain ts (leaf s (ambiguous x)) k = absurd (false≢true k)
key_plain ts (leaf s (bare x)) k = absurd (false≢true k)
key_plain ts (leaf s (quoted x)) k = absurd (false≢true k)
key_plain ts (leaf s (regex x)) k = absurd (false≢true k)
key_plain ts (leaf s (nonterminal x)) k = absurd (false≢true k)
key_plain ts (leaf s lookahead) k = refl
key_plain ts (leaf s lookbehind) k = refl
key_plain ts (leaf s error) k = absurd (false≢true k)
key_plain ts (around s (repeat o) x) k = refl
key_plain ts (around s choose x) k = absurd (false≢true k)
key_plain ts (around s (name m n) x) k = absurd (false≢true k)
key_plain ts (over s o xs) k = refl

-- theorem: the bytes of its name, by the number of its print
pub key_named : (wd : ℕ) (ts T : List Text) (y : Sym) (k : ℕ) → k ≡ number T (print y) → key_bytes wd (Some (sym_node ts y)) k ≡ sym_bytes wd T (keyed (sym_span y) y)
unfolding key_bytes sym_node sym_bytes leaf_node
key_named wd ts T (leaf s l) k e = ap (λ (i : ℕ). node_bytes wd (Node.Symbol s (SymbolKind.Leaf (LeafNode.Nonterminal (record { 0 = i }))))) e
key_named wd ts T (around s a x) k e = ap (λ (i : ℕ). node_bytes wd (Node.Symbol s (SymbolKind.Leaf (LeafNode.Nonterminal (record { 0 = i }))))) e
key_named wd ts T (over s o xs) k e = ap (λ (i : ℕ). node_bytes wd (Node.Symbol s (SymbolKind.Leaf (LeafNode.Nonterminal (record { 0 = i }))))) e

-- ---- one that is not, renamed
plain-leaf : (s : Span) (l : Leaf) → is_key (leaf s l) ≡ false → renamed (leaf s l) ≡ leaf s l
unfolding renamed
plain-leaf s (ambiguous x) k = refl
plain-leaf s (bare x) k = refl
plain-leaf s (quoted x) k = refl
plain-leaf s (regex x) k = refl
plain-leaf s (nonterminal x) k = refl
plain-leaf s lookahead k = absurd (false≢true (sym k))
plain-leaf s lookbehind k = absurd (false≢true (sym k))
plain-leaf s error k = refl

plain-around : (s : Span) (a : Around) (x : Sym) → is_key (around s a x) ≡ false → renamed (around s a x) ≡ around s a (renamed x)
unfolding renamed
plain-around s (repeat o) x k = absurd (false≢true (sym k))
plain-around s choose x k = refl
plain-around s (name m n) x k = refl

-- the texts T are ts and more
module _ (four : Bool) (wd : ℕ) (ts T : List Text) (p : Extends ts T) where
  -- theorem: its command as it stands, then those inside and the others
  pub plain-bytes : (y : Sym) (left : ℕ) → SymWithin four wd ts y left → is_key y ≡ false → (ys : Syms)
      → syms_bytes wd T (renamed_all (cons y ys)) ≡ node_bytes wd (sym_node ts y) ++ syms_bytes wd T (renamed_all (joined (children y) ys))
  unfolding renamed_all syms_bytes sym_bytes sym_node children joined
  plain-bytes (leaf s l) zero h k ys = absurd h
  plain-bytes (leaf s l) (suc left) h k ys =
      ap (λ (x : Sym). sym_bytes wd T x ++ syms_bytes wd T (renamed_all ys)) (plain-leaf s l k)
      ∙ ap (λ z. node_bytes wd (Node.Symbol s (SymbolKind.Leaf z)) ++ syms_bytes wd T (renamed_all ys)) (leaf_later four wd ts T p l h.1)
  plain-bytes (around s a x) zero h k ys = absurd h
  plain-bytes (around s a x) (suc left) h k ys =
      ap (λ (y : Sym). sym_bytes wd T y ++ syms_bytes wd T (renamed_all ys)) (plain-around s a x k)
      ∙ ap (λ z. (node_bytes wd (Node.Symbol s (SymbolKind.Around z)) ++ sym_bytes wd T (renamed x)) ++ syms_bytes wd T (renamed_all ys)) (around_later four wd ts T p a h.1)
      ∙ append_assoc (node_bytes wd (Node.Symbol s (SymbolKind.Around (around_node ts a)))) (sym_bytes wd T (renamed x)) (syms_bytes wd T (renamed_all ys))
  plain-bytes (over s o xs) left h k ys = absurd (false≢true (sym k))

  -- theorem: its own texts are there
  pub plain-texts : (y : Sym) (left : ℕ) → SymWithin four wd ts y left → is_key y ≡ false → (ys : Syms)
      → with_new T (syms_texts (renamed_all (cons y ys))) ≡ with_new T (syms_texts (renamed_all (joined (children y) ys)))
  unfolding renamed_all syms_texts sym_texts children joined
  plain-texts (leaf s l) zero h k ys = absurd h
  plain-texts (leaf s l) (suc left) h k ys =
      ap (λ (x : Sym). with_new T (sym_texts x ++ syms_texts (renamed_all ys))) (plain-leaf s l k)
      ∙ new_append T (leaf_texts l) (syms_texts (renamed_all ys))
      ∙ ap (λ (us : List Text). with_new us (syms_texts (renamed_all ys))) (new_there ts T (leaf_texts l) p (leaf_there four wd ts l h.1))
  plain-texts (around s a x) zero h k ys = absurd h
  plain-texts (around s a x) (suc left) h k ys =
      ap (λ (y : Sym). with_new T (sym_texts y ++ syms_texts (renamed_all ys))) (plain-around s a x k)
      ∙ ap (with_new T) (append_assoc (around_texts a) (sym_texts (renamed x)) (syms_texts (renamed_all ys)))
      ∙ new_append T (around_texts a) (sym_texts (renamed x) ++ syms_texts (renamed_all ys))
      ∙ ap (λ (us : List Text). with_new us (sym_texts (renamed x) ++ syms_texts (renamed_all ys))) (new_there ts T (around_texts a) p (around_there four wd ts a h.1))
  plain-texts (over s o xs) left h k ys = absurd (false≢true (sym k))

-- ---- how many there are
pub count-few : (wd : ℕ) (ts : List Text) (ys : Syms) → 9 * count ys ≤ length (syms_bytes wd ts ys)
unfolding count syms_bytes
count-few wd ts nil = omega arith
count-few wd ts (cons y ys) = omega (arith, sym_length wd ts y, node_size wd ts y, count-few wd ts ys, length-append (sym_bytes wd ts y) (syms_bytes wd ts ys))
