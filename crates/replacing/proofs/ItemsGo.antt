-- The flat run over items: what it writes are the items renamed, but for definitions of macros, and it enters the symbols that are expanded. Assumes nothing.
use mathlib.Core.Path.{◌≡◌, refl, sym, ap, ◌∙◌, subst}
use mathlib.Core.Bool.{Bool, true, false, cond}
use mathlib.Core.List.{List, [], ◌∷◌, ◌++◌, append_assoc}
use mathlib.Core.Option.{Option, none, some}
use Prim.Native.Nat.{ℕ, zero, suc, ◌≤◌}
use native.Mathlib.Omega.{arith}
use borrow.Author.Tests.{leb-false, ltb-true, ltb-false}
use lib.Dec.{leb, ltb}
use lib.ListN.{length, get_or}
use Rattle.std.specs.Prelude.{Some}
use Rattle.octets.specs.Plain.Numbers.{Bytes}
use Rattle.octets.specs.Plain.Runs.{same_as}
use Rattle.parse_tree.specs.Plain.Tree.{Text, Sym, Alternative, Nonterminal, Item, item}
use Rattle.parse_tree.specs.Plain.Texts.{has, number, distinct}
use Rattle.parse_tree.specs.Plain.Display.{print}
use Rattle.parse_tree.specs.Working.Nodes.{node_bytes}
use Rattle.parse_tree.specs.Working.Places.{items_place, arguments_place}
use Rattle.parse_tree.specs.Working.Questions.{defined, suits}
use Rattle.parse_tree.specs.Plain.Reading.{got, then, times}
use Rattle.parse_tree.specs.Working.Operands.{nonterminal_of, terminal_of}
use Rattle.parse_tree.specs.Working.Decode.{read_argument, read_alternative, nonterminal_parts, read_item, read_items}
use Rattle.parse_tree.specs.Working.Encode.{nonterminal_node, argument_bytes, alternative_bytes, item_bytes}
use Rattle.parse_tree.specs.Plain.WriteTape.{bytes_of_each}
use Rattle.parse_tree.specs.Plain.References.{texts_of_each, alternative_texts, item_texts}
use Rattle.parse_tree.specs.declared.syntax.NonterminalData.{NonterminalData}
use Rattle.parse_tree.specs.declared.syntax.TerminalData.{TerminalData}
use Rattle.parse_tree.specs.declared.syntax.Node.{Node}
use Rattle.parse_tree.proofs.TextLaws.{both, has-text, number-text}
use Rattle.parse_tree.proofs.ReadingLaws.{then-got, got_as}
use Rattle.parse_tree.proofs.Asking.{Passes}
use Rattle.parse_tree.proofs.Expecting.{item_wanted, argument-wanted}
use Rattle.parse_tree.proofs.FromCommands.{flags_code, argument-within, terminal_within}
use Rattle.passes.specs.Outcome.{with_alternatives}
use Rattle.passes.specs.Macros.{without_macros}
use Rattle.replacing.specs.Trees.{renamed_alternatives, expanded_alternatives, renamed_item, expanded_item, renamed_items, expanded_items, kept}
use Rattle.replacing.specs.Prints.{sym_at}
use Rattle.replacing.specs.Runs.{plain, is_macro}
use Rattle.replacing.proofs.Readings.{Standing, stands_then, times-length}
use Rattle.replacing.proofs.Skipping.{data_skips, Settled, settled_end, settled_item, skips_settled}
use Rattle.replacing.proofs.Going.{Goes, goes_none, goes_then, goes_as, copy_goes, skip-goes}
use Rattle.replacing.proofs.Growing.{Extends, extends_refl, extends_number}
use Rattle.replacing.proofs.AlternativesGo.{one_goes, each_goes, alternatives_go}

-- ---- renaming keeps how many alternatives there are, and a text alone is its list
length_renamed : (as' : List Alternative) → length (renamed_alternatives as') ≡ length as'
unfolding renamed_alternatives
length_renamed [] = refl
length_renamed (a ∷ rest) = ap suc (length_renamed rest)

each-itself : (xs : List Text) → texts_of_each (λ (x : Text). x ∷ []) xs ≡ xs
unfolding texts_of_each
each-itself [] = refl
each-itself (x ∷ xs) = ap (λ (l : List Text). x ∷ l) (each-itself xs)

-- ---- items one behind another
expanded_append : (is js : List Item) → expanded_items (is ++ js) ≡ expanded_items is ++ expanded_items js
unfolding expanded_items
expanded_append [] js = refl
expanded_append (i ∷ is) js = ap (λ (l : List Sym). expanded_item i ++ l) (expanded_append is js) ∙ sym (append_assoc (expanded_item i) (expanded_items is) (expanded_items js))

texts-append : (is js : List Item) → texts_of_each item_texts (renamed_items (is ++ js)) ≡ texts_of_each item_texts (renamed_items is) ++ texts_of_each item_texts (renamed_items js)
unfolding renamed_items texts_of_each
texts-append [] js = refl
texts-append (i ∷ is) js =
    ap (λ (l : List Text). item_texts (renamed_item i) ++ l) (texts-append is js)
    ∙ sym (append_assoc (item_texts (renamed_item i)) (texts_of_each item_texts (renamed_items is)) (texts_of_each item_texts (renamed_items js)))

bytes_append : (w : ℕ) (T : List Text) (is js : List Item) → bytes_of_each (item_bytes w T) (renamed_items (is ++ js)) ≡ bytes_of_each (item_bytes w T) (renamed_items is) ++ bytes_of_each (item_bytes w T) (renamed_items js)
unfolding renamed_items bytes_of_each
bytes_append w T [] js = refl
bytes_append w T (i ∷ is) js =
    ap (λ (l : List ℕ). item_bytes w T (renamed_item i) ++ l) (bytes_append w T is js)
    ∙ sym (append_assoc (item_bytes w T (renamed_item i)) (bytes_of_each (item_bytes w T) (renamed_items is)) (bytes_of_each (item_bytes w T) (renamed_items js)))

module _ (four : Bool) (w : ℕ) (s : List ℕ) (ts : List Text) (b : Bytes s) (d : distinct ts ≡ true)
    (same : ℕ → ℕ → Bool) (text_at : ℕ → Option ℕ) (same_is : (p q : ℕ) → same p q ≡ same_as (print (sym_at four w s ts p)) (print (sym_at four w s ts q)))
    (text_is_lem : (p : ℕ) → text_at p ≡ cond (has (print (sym_at four w s ts p)) ts) (some (number ts (print (sym_at four w s ts p)))) none) where
  abbrev G : ℕ → ℕ → List Sym → List Text → (List Text → List ℕ) → Type 0
  G a e xs us f = Goes four w s ts b d same text_at same_is text_is_lem a e xs us f

  abbrev stand : ℕ → ℕ → Node → Type 0
  stand a c n = Standing four w s ts a c n

  -- ---- items
  argument-goes : (a : ℕ) (x : Text) (e : ℕ) → read_argument four w s ts a ≡ got x e → G a e [] (x ∷ []) (λ T. argument_bytes w T x)
  unfolding read_argument argument_bytes plain is_macro
  argument-goes a x e p =
      stands_then four w s ts arguments_place 1 b _ a p (λ n c h q.
      argument-wanted (stand a c) a c x e _ n h q (λ k i r.
      let (u, v) = argument-within four w ts d k i.passes in
      got_as (λ z m. G a m [] (z ∷ []) (λ T. node_bytes w (Node.Argument (record { 0 = number T z })))) r
      (one_goes four w s ts b d same text_at same_is text_is_lem a c (Node.Argument k) _ (λ T. Node.Argument (record { 0 = number T _ })) i refl refl (u.0, tt)
      (λ T m. ap (λ (y : ℕ). Node.Argument (record { 0 = y })) (extends_number ts T _ m u.0) ∙ v))))

  abbrev replaced_nonterminal : Nonterminal → Nonterminal
  replaced_nonterminal x = with_alternatives x (renamed_alternatives x.alternatives)

  nonterminal_node_lem : (T : List Text) → Extends ts T → (n : NonterminalData) (args : List Text) (alts : List Alternative) → Passes four w ts (Node.Nonterminal n)
      → length args ≡ n.args → length alts ≡ n.alternatives → (has (nonterminal_of ts n args alts).name ts ≡ true) × (nonterminal_node T (replaced_nonterminal (nonterminal_of ts n args alts)) ≡ Node.Nonterminal n)
  unfolding nonterminal_of nonterminal_node defined suits
  nonterminal_node_lem T m n args alts p i j =
      let (k, f) = both (ltb n.name.0 (length ts)) (leb n.flags 3) p.known in
      let l = ltb-true n.name.0 (length ts) k in
      let u = has-text ts n.name.0 l in
      (u, rw (i, length_renamed alts, j, extends_number ts T (get_or ts n.name.0 []) m u, number-text ts n.name.0 d l, flags_code n.flags f))

  data_with : (k : NonterminalData) (a c : ℕ) (args : List Text) (m : ℕ) (alts : List Alternative) (e : ℕ) → stand a c (Node.Nonterminal k) → is_macro (Some (Node.Nonterminal k)) ≡ false
      → times (read_argument four w s ts) k.args c ≡ got args m → times (read_alternative four w s ts) k.alternatives m ≡ got alts e
      → (y : Nonterminal) → nonterminal_of ts k args alts ≡ y
      → G a e (expanded_item (item y)) (item_texts (renamed_item (item y))) (λ T. item_bytes w T (renamed_item (item y)))
  unfolding item_texts item_bytes plain nonterminal_of expanded_item renamed_item is_macro
  data_with k a c args m alts e h nm p₁ p₂ y is =
      let n₁ = times-length (read_argument four w s ts) k.args c args m p₁ in
      let n₂ = times-length (read_alternative four w s ts) k.alternatives m alts e p₂ in
      let z = nonterminal_of ts k args alts in
      let node : (T : List Text) → Extends ts T → _ = λ T q. nonterminal_node_lem T q k args alts h.passes n₁ n₂ in
      let bs = renamed_alternatives alts in
      subst (λ (v : Nonterminal). G a e (expanded_item (item v)) (item_texts (renamed_item (item v))) (λ T. item_bytes w T (renamed_item (item v)))) is
      (goes_then four w s ts b d same text_at same_is text_is_lem a c e [] (expanded_alternatives alts) (z.name ∷ []) (args ++ texts_of_each alternative_texts bs)
      (λ T. node_bytes w (nonterminal_node T (replaced_nonterminal z))) (λ T. bytes_of_each (argument_bytes w T) args ++ bytes_of_each (alternative_bytes w T) bs)
      (one_goes four w s ts b d same text_at same_is text_is_lem a c (Node.Nonterminal k) (z.name ∷ []) (λ T. nonterminal_node T (replaced_nonterminal z)) h refl nm ((node ts (extends_refl ts)).0, tt) (λ T q. (node T q).1))
      (goes_then four w s ts b d same text_at same_is text_is_lem c m e [] (expanded_alternatives alts) args (texts_of_each alternative_texts bs) (λ T. bytes_of_each (argument_bytes w T) args) (λ T. bytes_of_each (alternative_bytes w T) bs)
      (subst (λ (us : List Text). G c m [] us (λ T. bytes_of_each (argument_bytes w T) args)) (each-itself args)
      (each_goes four w s ts b d same text_at same_is text_is_lem (read_argument four w s ts) (λ (x : Text). x ∷ []) (λ T x. argument_bytes w T x) argument-goes k.args c args m p₁))
      (alternatives_go four w s ts b d same text_at same_is text_is_lem k.alternatives m alts e p₂)))

  terminal_goes : (k : TerminalData) (a c : ℕ) → stand a c (Node.Terminal k) → G a c (expanded_item (terminal_of ts k)) (item_texts (renamed_item (terminal_of ts k))) (λ T. item_bytes w T (renamed_item (terminal_of ts k)))
  unfolding terminal_of expanded_item renamed_item item_texts item_bytes plain is_macro
  terminal_goes k a c h =
      let (u, v) = terminal_within four w ts d k h.passes in
      goes_as four w s ts b d same text_at same_is text_is_lem a c [] (item_texts (terminal_of ts k)) (λ T. node_bytes w (Node.Terminal k)) (λ T. item_bytes w T (terminal_of ts k))
      (λ T m. sym (rw (extends_number ts T (get_or ts k.name.0 []) m u.1.0) v))
      (copy_goes four w s ts b d same text_at same_is text_is_lem a c (Node.Terminal k) (item_texts (terminal_of ts k)) h refl refl (u.1.0, tt))

  -- all items
  abbrev pub ItemsGo : ℕ → List Item → ℕ → Type 0
  ItemsGo a is e = G a e (expanded_items is) (texts_of_each item_texts (renamed_items is)) (λ T. bytes_of_each (item_bytes w T) (renamed_items is))

  single : (a e : ℕ) (x : Item) → G a e (expanded_item x) (item_texts (renamed_item x)) (λ T. item_bytes w T (renamed_item x)) → ItemsGo a (x ∷ []) e
  unfolding expanded_items renamed_items texts_of_each bytes_of_each
  single a e x g = goes_then four w s ts b d same text_at same_is text_is_lem a e e (expanded_item x) [] (item_texts (renamed_item x)) [] (λ T. item_bytes w T (renamed_item x)) (λ T. []) g (goes_none four w s ts b d same text_at same_is text_is_lem e)

  terminal_kept : (k : TerminalData) (a c : ℕ) → stand a c (Node.Terminal k) → ItemsGo a (kept (terminal_of ts k)) c
  unfolding kept terminal_of
  terminal_kept k a c h = single a c (terminal_of ts k) (terminal_goes k a c h)

  -- a nonterminal, by its arguments
  data_goes : (k : NonterminalData) (a c : ℕ) (args : List Text) (m : ℕ) (alts : List Alternative) (e : ℕ) → stand a c (Node.Nonterminal k)
      → times (read_argument four w s ts) k.args c ≡ got args m → times (read_alternative four w s ts) k.alternatives m ≡ got alts e
      → Settled four w s ts b e → e ≤ length s → (z : Bool) → is_macro (Some (Node.Nonterminal k)) ≡ z → ItemsGo a (kept (item (nonterminal_of ts k args alts))) e
  unfolding kept nonterminal_of is_macro expanded_items renamed_items texts_of_each bytes_of_each
  data_goes k a c [] m alts e h p₁ p₂ g l false z = single a e (item (nonterminal_of ts k [] alts)) (data_with k a c [] m alts e h z p₁ p₂ (nonterminal_of ts k [] alts) refl)
  data_goes k a c [] m alts e h p₁ p₂ g l true z =
      let n = times-length (read_argument four w s ts) k.args c [] m p₁ in
      absurd (omega (arith, ltb-true 0 k.args z))
  data_goes k a c (x ∷ args) m alts e h p₁ p₂ g l true z =
      let q = data_skips four w s ts b k c m e (x ∷ args) alts p₁ p₂ in
      skip-goes four w s ts b d same text_at same_is text_is_lem a c e (Node.Nonterminal k) h z (skips_settled four w s ts b c e q g l) (omega (arith, q.few))
  data_goes k a c (x ∷ args) m alts e h p₁ p₂ g l false z =
      let n = times-length (read_argument four w s ts) k.args c (x ∷ args) m p₁ in
      absurd (omega (arith, ltb-false 0 k.args z))

  pub item_goes : (a : ℕ) (x : Item) (e : ℕ) → read_item four w s ts a ≡ got x e → Settled four w s ts b e → e ≤ length s → ItemsGo a (kept x) e
  unfolding read_item nonterminal_parts
  item_goes a x e p g l =
      stands_then four w s ts items_place 1 b _ a p (λ n c h q.
      item_wanted (stand a c) a c x e _ _ n h q
      (λ k i r.
      let u = then-got (times (read_argument four w s ts) k.args c) _ r in
      let v = then-got (times (read_alternative four w s ts) k.alternatives u.mid) _ u.second in
      got_as (λ z m. Settled four w s ts b m → m ≤ length s → ItemsGo a (kept z) m) v.second
      (λ g' l'. data_goes k a c u.value u.mid v.value v.mid i u.first v.first g' l' (is_macro (Some (Node.Nonterminal k))) refl) g l)
      (λ k i r. got_as (λ z m. ItemsGo a (kept z) m) r (terminal_kept k a c i)))

  -- what is read behind an item begins with one
  rest_settled : (n c : ℕ) (is : List Item) (e : ℕ) → read_items four w s ts n c ≡ got is e → e ≡ length s → Settled four w s ts b c × (c ≤ length s)
  unfolding read_items
  rest_settled zero c is e p q = got_as (λ zs m. m ≡ length s → Settled four w s ts b c × (c ≤ length s)) p (λ r. (settled_end four w s ts b c (omega arith), omega arith)) q
  rest_settled (suc n) c is e p q = go (leb (length s) c) refl p
    where
      go : (v : Bool) → leb (length s) c ≡ v → elim v [
        | true ↦ got [] c
        | false ↦ then (read_item four w s ts c) (λ x m. then (read_items four w s ts n m) (λ xs k. got (x ∷ xs) k))
      ] ≡ got is e → Settled four w s ts b c × (c ≤ length s)
      go true z r = got_as (λ zs m. m ≡ length s → Settled four w s ts b c × (c ≤ length s)) r (λ y. (settled_end four w s ts b c (omega arith), omega arith)) q
      go false z r =
          let h = then-got (read_item four w s ts c) _ r in
          let l = leb-false (length s) c z in
          (settled_item four w s ts b c h.value h.mid h.first, omega arith)

  more_items : (x : Item) (is : List Item) → kept x ++ without_macros is ≡ without_macros (x ∷ is)
  unfolding kept
  more_items (item v) is = go v.args
    where
      go : (ps : List Text) → ◌≡◌ {A = List Item} (elim ps [ [] ↦ item v ∷ [] | p ∷ qs ↦ [] ] ++ without_macros is) (elim ps [ [] ↦ item v ∷ without_macros is | p ∷ qs ↦ without_macros is ])
      go [] = refl
      go (p ∷ ps) = refl
  more_items (Item.terminal sp o t) is = refl

  items_append : (a c e : ℕ) (is js : List Item) → ItemsGo a is c → ItemsGo c js e → ItemsGo a (is ++ js) e
  items_append a c e is js p q =
      subst (λ (xs : List Sym). G a e xs (texts_of_each item_texts (renamed_items (is ++ js))) (λ T. bytes_of_each (item_bytes w T) (renamed_items (is ++ js)))) (sym (expanded_append is js))
      (subst (λ (us : List Text). G a e (expanded_items is ++ expanded_items js) us (λ T. bytes_of_each (item_bytes w T) (renamed_items (is ++ js)))) (sym (texts-append is js))
      (goes_as four w s ts b d same text_at same_is text_is_lem a e (expanded_items is ++ expanded_items js) _ _ _ (λ T m. sym (bytes_append w T is js))
      (goes_then four w s ts b d same text_at same_is text_is_lem a c e (expanded_items is) (expanded_items js) (texts_of_each item_texts (renamed_items is)) (texts_of_each item_texts (renamed_items js))
      (λ T. bytes_of_each (item_bytes w T) (renamed_items is)) (λ T. bytes_of_each (item_bytes w T) (renamed_items js)) p q)))

  -- of the items read to the end, those that are no definitions of macros
  pub items_go : (n a : ℕ) (is : List Item) (e : ℕ) → read_items four w s ts n a ≡ got is e → e ≡ length s → ItemsGo a (without_macros is) e
  unfolding read_items expanded_items renamed_items texts_of_each bytes_of_each
  items_go zero a is e p y = got_as (λ zs m. ItemsGo a (without_macros zs) m) p (goes_none four w s ts b d same text_at same_is text_is_lem a)
  items_go (suc n) a is e p y = go (leb (length s) a) p (items_go n)
    where
      go : (q : Bool) → elim q [
        | true ↦ got [] a
        | false ↦ then (read_item four w s ts a) (λ x c. then (read_items four w s ts n c) (λ xs k. got (x ∷ xs) k))
      ] ≡ got is e → ((a' : ℕ) (is' : List Item) (e' : ℕ) → read_items four w s ts n a' ≡ got is' e' → e' ≡ length s → ItemsGo a' (without_macros is') e') → ItemsGo a (without_macros is) e
      go true r f = got_as (λ zs m. ItemsGo a (without_macros zs) m) r (goes_none four w s ts b d same text_at same_is text_is_lem a)
      go false r f =
          let h = then-got (read_item four w s ts a) _ r in
          let i = then-got (read_items four w s ts n h.mid) _ h.second in
          got_as (λ zs m. m ≡ length s → ItemsGo a (without_macros zs) m) i.second
          (λ v.
          let (u, l) = rest_settled n h.mid i.value i.mid i.first v in
          subst (λ (zs : List Item). ItemsGo a zs i.mid) (more_items h.value i.value)
          (items_append a h.mid i.mid (kept h.value) (without_macros i.value) (item_goes a h.value h.mid h.first u l) (f h.mid i.value i.mid i.first v))) y
