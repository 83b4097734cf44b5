-- Name resolution keeps each item within a tape's limits, and as long as it was. Assumes nothing.
use mathlib.Core.Path.{◌≡◌, refl, ap}
use mathlib.Core.Bool.{Bool}
use mathlib.Core.List.{List, [], ◌∷◌, ◌++◌}
use Prim.Native.Nat.{ℕ, zero, suc, ◌+◌}
use native.Mathlib.Omega.{arith}
use lib.ListN.{length, take, length-append}
use Rattle.parse_tree.specs.Plain.Tree.{Text, Leaf, Around, Over, Sym, Syms, leaf, around, over, nil, cons, ambiguous, bare, nonterminal, count, conditions, Alternative, Nonterminal, Item, item}
use Rattle.parse_tree.specs.Plain.Texts.{number}
use Rattle.parse_tree.specs.Plain.WriteTape.{bytes_of_each, bit}
use Rattle.parse_tree.specs.Working.Nodes.{leaf_code, leaf_operand, symbol_bytes, node_bytes}
use Rattle.parse_tree.specs.Working.Encode.{leaf_node, around_node, over_node, action_code, action_text, alternative_node, nonterminal_node, sym_bytes, syms_bytes, argument_bytes, attribute_bytes, condition_bytes, alternative_bytes, item_bytes}
use Rattle.parse_tree.specs.Working.Within.{Each, LeafWithin, SymWithin, SymsWithin, AlternativeWithin, NonterminalWithin, ItemWithin}
use Rattle.parse_tree.specs.declared.syntax.Span.{Span}
use Rattle.parse_tree.specs.declared.syntax.SymbolKind.{SymbolKind}
use Rattle.parse_tree.specs.declared.syntax.Node.{Node}
use Rattle.passes.specs.Outcome.{Tree, yes, with_symbols, with_alternatives}
use Rattle.passes.specs.Resolve.{globals, check_globals, check_condition, validate_symbols, validate_alternatives, validate_macro_args, validate_items, resolve}
use Rattle.passes.proofs.Outcomes.{after-yes}
use Rattle.passes.proofs.ResolveKeeps.{yes_as, count_kept, alternatives_kept, syms_hold}

-- the atoms ts, whose numbers have w bytes; four says whether texts must suit their use
module _ (four : Bool) (w : ℕ) (ts : List Text) where
  -- ---- symbols
  record KeptSym (x y : Sym) : Type 0 where
    within : (left : ℕ) → SymWithin four w ts x left → SymWithin four w ts y left
    size : length (sym_bytes w ts y) ≡ length (sym_bytes w ts x)

  record KeptSyms (xs ys : Syms) : Type 0 where
    within : (left : ℕ) → SymsWithin four w ts xs left → SymsWithin four w ts ys left
    size : length (syms_bytes w ts ys) ≡ length (syms_bytes w ts xs)

  leaf_kept : (s : Span) (l k : Leaf) → (LeafWithin four w ts l → LeafWithin four w ts k) → length (sym_bytes w ts (leaf s k)) ≡ length (sym_bytes w ts (leaf s l)) → KeptSym (leaf s l) (leaf s k)
  leaf_kept s l k f n = record { within = go; size = n }
    where
      go : (left : ℕ) → SymWithin four w ts (leaf s l) left → SymWithin four w ts (leaf s k) left
      go zero h = absurd h
      go (suc left) h = (h.0, f h.1)

  named_kept : (s : Span) (n : Text) → KeptSym (leaf s (ambiguous n)) (leaf s (bare n)) × KeptSym (leaf s (ambiguous n)) (leaf s (nonterminal n))
  unfolding sym_bytes node_bytes symbol_bytes leaf_code leaf_operand leaf_node
  named_kept s n = (leaf_kept s (ambiguous n) (bare n) (λ h. h) refl, leaf_kept s (ambiguous n) (nonterminal n) (λ h. h) refl)

  around_kept : (s : Span) (a : Around) (x y : Sym) → KeptSym x y → KeptSym (around s a x) (around s a y)
  unfolding sym_bytes
  around_kept s a x y h =
      let n = node_bytes w (Node.Symbol s (SymbolKind.Around (around_node ts a))) in
      record { within = go; size = omega (arith, h.size, length-append n (sym_bytes w ts x), length-append n (sym_bytes w ts y)) }
    where
      go : (left : ℕ) → SymWithin four w ts (around s a x) left → SymWithin four w ts (around s a y) left
      go zero k = absurd k
      go (suc left) k = (k.0, k.1, h.within left k.2)

  over_kept : (s : Span) (o : Over) (xs ys : Syms) → count ys ≡ count xs → KeptSyms xs ys → KeptSym (over s o xs) (over s o ys)
  unfolding sym_bytes
  over_kept s o xs ys n h =
      let b = node_bytes w (Node.Symbol s (SymbolKind.Over (over_node ts o (count xs)))) in
      record { within = go; size = rw n (omega (arith, h.size, length-append b (syms_bytes w ts xs), length-append b (syms_bytes w ts ys))) }
    where
      go : (left : ℕ) → SymWithin four w ts (over s o xs) left → SymWithin four w ts (over s o ys) left
      go zero k = absurd k
      go (suc left) k = (k.0, rw n k.1, h.within left k.2)

  empty_kept : KeptSyms nil nil
  empty_kept = record { within = λ left h. h; size = refl }

  more_kept : (x y : Sym) (xs ys : Syms) → KeptSym x y → KeptSyms xs ys → KeptSyms (cons x xs) (cons y ys)
  unfolding syms_bytes
  more_kept x y xs ys i j = record {
    within = λ left k. (i.within left k.0, j.within left k.1);
    size = omega (arith, i.size, j.size, length-append (sym_bytes w ts x) (syms_bytes w ts xs), length-append (sym_bytes w ts y) (syms_bytes w ts ys));
  }

  syms_keep : (G : Tree) (ps : List Text) (xs ys : Syms) → validate_symbols G ps xs ≡ yes ys → KeptSyms xs ys
  syms_keep G ps = syms_hold G ps KeptSym KeptSyms (λ s l. leaf_kept s l l (λ h. h) refl) named_kept around_kept over_kept empty_kept more_kept

  -- ---- alternatives
  record KeptAlternatives (cs bs : List Alternative) : Type 0 where
    within : Each (AlternativeWithin four w ts) cs → Each (AlternativeWithin four w ts) bs
    size : length (bytes_of_each (alternative_bytes w ts) bs) ≡ length (bytes_of_each (alternative_bytes w ts) cs)

  module _ (a : Alternative) (ys : Syms) (n : count ys ≡ count a.symbols) (k : KeptSyms a.symbols ys) where
    head_same : node_bytes w (alternative_node ts (with_symbols a ys)) ≡ node_bytes w (alternative_node ts a)
    unfolding alternative_node
    head_same = ap (λ (i : ℕ). node_bytes w (Node.Alternative (record {
      span = a.span;
      attributes = length a.attributes;
      conditions = length (conditions a.condition);
      action = action_code a.action;
      text = record { 0 = action_text ts a.action };
      symbols = i;
    }))) n

    alternative_size : length (alternative_bytes w ts (with_symbols a ys)) ≡ length (alternative_bytes w ts a)
    unfolding alternative_bytes
    alternative_size =
        let h = node_bytes w (alternative_node ts a) in
        let g = node_bytes w (alternative_node ts (with_symbols a ys)) in
        let as' = bytes_of_each (attribute_bytes w ts) a.attributes in
        let cs = bytes_of_each (condition_bytes w ts) (conditions a.condition) in
        let xs = syms_bytes w ts a.symbols in
        let zs = syms_bytes w ts ys in
        omega (arith, ap length head_same, k.size, length-append h (as' ++ (cs ++ xs)), length-append as' (cs ++ xs), length-append cs xs, length-append g (as' ++ (cs ++ zs)), length-append as' (cs ++ zs), length-append cs zs)

    alternative_within : AlternativeWithin four w ts a → AlternativeWithin four w ts (with_symbols a ys)
    alternative_within h = record {
      span = h.span;
      few = h.few;
      attributes = h.attributes;
      condition = h.condition;
      action = h.action;
      fewer = rw n h.fewer;
      symbols = k.within 64 h.symbols;
    }

  module _ (G : Tree) (ps : List Text) where
    alternatives_keep : (cs bs : List Alternative) → validate_alternatives G ps cs ≡ yes bs → KeptAlternatives cs bs
    unfolding validate_alternatives bytes_of_each
    alternatives_keep [] bs p = yes_as (λ zs. KeptAlternatives [] zs) p (record { within = λ h. h; size = refl })
    alternatives_keep (a ∷ rest) bs p =
        let g = after-yes (check_condition G ps a.condition) _ _ p in
        let h = after-yes (validate_symbols G ps a.symbols) _ _ g.2 in
        let i = after-yes (validate_alternatives G ps rest) _ _ h.2 in
        let n = count_kept G ps a.symbols h.0 h.1 in
        let j = syms_keep G ps a.symbols h.0 h.1 in
        let k = alternatives_keep rest i.0 i.1 in
        yes_as (λ zs. KeptAlternatives (a ∷ rest) zs) i.2 (record {
          within = λ e. (alternative_within a h.0 n j e.0, k.within e.1);
          size = omega (arith, alternative_size a h.0 n j, k.size, length-append (alternative_bytes w ts a) (bytes_of_each (alternative_bytes w ts) rest), length-append (alternative_bytes w ts (with_symbols a h.0)) (bytes_of_each (alternative_bytes w ts) i.0));
        })

  -- ---- an item
  module _ (d : Nonterminal) (bs : List Alternative) (n : length bs ≡ length d.alternatives) (k : KeptAlternatives d.alternatives bs) where
    item_head_same : node_bytes w (nonterminal_node ts (with_alternatives d bs)) ≡ node_bytes w (nonterminal_node ts d)
    unfolding nonterminal_node
    item_head_same = ap (λ (i : ℕ). node_bytes w (Node.Nonterminal (record {
      span = d.span;
      name = record { 0 = number ts d.name };
      flags = bit d.inline + (bit d.public + bit d.public);
      args = length d.args;
      alternatives = i;
    }))) n

    item_size : length (item_bytes w ts (item (with_alternatives d bs))) ≡ length (item_bytes w ts (item d))
    unfolding item_bytes
    item_size =
        let h = node_bytes w (nonterminal_node ts d) in
        let g = node_bytes w (nonterminal_node ts (with_alternatives d bs)) in
        let ps = bytes_of_each (argument_bytes w ts) d.args in
        let xs = bytes_of_each (alternative_bytes w ts) d.alternatives in
        let ys = bytes_of_each (alternative_bytes w ts) bs in
        omega (arith, ap length item_head_same, k.size, length-append h (ps ++ xs), length-append ps xs, length-append g (ps ++ ys), length-append ps ys)

    item_within : NonterminalWithin four w ts d → NonterminalWithin four w ts (with_alternatives d bs)
    item_within h = record { span = h.span; name = h.name; few = h.few; args = h.args; fewer = rw n h.fewer; alternatives = k.within h.alternatives }

  -- ---- items
  pub record KeptItems (is R : List Item) : Type 0 where
    pub many : length R ≡ length is
    pub within : Each (ItemWithin four w ts) is → Each (ItemWithin four w ts) R
    pub sizes : (i : ℕ) → length (bytes_of_each (item_bytes w ts) (take i R)) ≡ length (bytes_of_each (item_bytes w ts) (take i is))

  cons_kept : (x y : Item) (is R : List Item) → (ItemWithin four w ts x → ItemWithin four w ts y) → length (item_bytes w ts y) ≡ length (item_bytes w ts x) → KeptItems is R → KeptItems (x ∷ is) (y ∷ R)
  unfolding bytes_of_each
  cons_kept x y is R f n k = record { many = ap suc k.many; within = λ h. (f h.0, k.within h.1); sizes = go }
    where
      go : (i : ℕ) → length (bytes_of_each (item_bytes w ts) (take i (y ∷ R))) ≡ length (bytes_of_each (item_bytes w ts) (take i (x ∷ is)))
      go zero = refl
      go (suc i) = omega (arith, n, k.sizes i, length-append (item_bytes w ts y) (bytes_of_each (item_bytes w ts) (take i R)), length-append (item_bytes w ts x) (bytes_of_each (item_bytes w ts) (take i is)))

  none_kept : KeptItems [] []
  none_kept = record { many = refl; within = λ h. h; sizes = go }
    where
      go : (i : ℕ) → length (bytes_of_each (item_bytes w ts) (take i [])) ≡ length (bytes_of_each (item_bytes w ts) (take i []))
      go i = refl

  items_keep : (G : Tree) (is R : List Item) → validate_items G is ≡ yes R → KeptItems is R
  unfolding validate_items
  items_keep G [] R p = yes_as (λ zs. KeptItems [] zs) p none_kept
  items_keep G (item d ∷ rest) R p =
      let g = after-yes (validate_macro_args d) _ _ p in
      let h = after-yes (validate_alternatives G d.args d.alternatives) _ _ g.2 in
      let i = after-yes (validate_items G rest) _ _ h.2 in
      let n = alternatives_kept G d.args d.alternatives h.0 h.1 in
      let k = alternatives_keep G d.args d.alternatives h.0 h.1 in
      yes_as (λ zs. KeptItems (item d ∷ rest) zs) i.2
      (cons_kept (item d) (item (with_alternatives d h.0)) rest i.0 (item_within d h.0 n k) (item_size d h.0 n k) (items_keep G rest i.0 i.1))
  items_keep G (Item.terminal s o t ∷ rest) R p =
      let i = after-yes (validate_items G rest) _ _ p in
      yes_as (λ zs. KeptItems (Item.terminal s o t ∷ rest) zs) i.2
      (cons_kept (Item.terminal s o t) (Item.terminal s o t) rest i.0 (λ h. h) refl (items_keep G rest i.0 i.1))

  -- theorem: what names are resolved to is within the limits, item by item as long as before
  pub resolve-alike : (is R : Tree) → resolve is ≡ yes R → KeptItems is R
  unfolding resolve
  resolve-alike is R p = let g = after-yes (check_globals [] (globals is)) _ _ p in items_keep is is R g.2
